-- Worked steps that show why places which a plan doesn't have must be empty, or are left out.
use Rattle.std.proofs.Common.{◌≡◌, [], ◌∷◌, refl, true, false}
use Rattle.std.specs.Prelude.{None, ◌==◌, if◌then◌else◌, take, pos, is_some}
use Rattle.noc_model.specs.declared.Stage.TheVariants.{Idle, Routed, Active}
use Rattle.noc_model.specs.Tile.{Tile, TileIn, start_tile}
use Rattle.noc_model.specs.Step.{tile_step}
use Rattle.noc_model.specs.Run.{run}
use Rattle.noc_model.proofs.Everything.{everything}
use Rattle.noc_model.specs.Examples.{one_tile, two_tiles, quiet_for}
use Rattle.noc_model.proofs.FlitRows.{crossing}

abbrev nothing_comes : TileIn
nothing_comes = record { arrives = λ port. None; returns = λ o w. false; offer = None; hears = true }

-- a packet at the local port waits for the local output
abbrev waiting : Tile
waiting = record (start_tile one_tile) {
  queue = λ port c. if port == 0 then record { head = true; tail = true; dest = 0; payload = 1 } ∷ [] else [];
  stage = λ port c. if port == 0 then Routed 0 else Idle;
  allocation = λ o. 1;
}

-- so does one at port 2, which has no link
abbrev crowded : Tile
crowded = record waiting { stage = λ port c. if port == 0 then Routed 0 else (if port == 2 then Routed 0 else Idle) }

-- the two are the same at each real place, and their steps are not
packet_at_a_missing_port_wins : (tile_step one_tile 0 0 (pos 0) waiting nothing_comes).stage 0 0 ∷ (tile_step one_tile 0 0 (pos 0) crowded nothing_comes).stage 0 0 ∷ []
    ≡ Active 0 0 ∷ Routed 0 ∷ []
unfolding everything
packet_at_a_missing_port_wins = refl

-- the definition's row keeps a flit beyond its one stage
row_keeps_flits_beyond_its_stages : is_some ((run two_tiles 0 (take 6 crossing) 0).row 1 0) ∷ is_some ((run two_tiles 0 (take 6 crossing) 0).row 1 1) ∷ is_some ((run two_tiles 0 (take 9 crossing) 0).row 1 4) ∷ [] ≡ false ∷ true ∷ true ∷ []
unfolding everything quiet_for
row_keeps_flits_beyond_its_stages = refl
