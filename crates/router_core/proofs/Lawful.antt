-- A router in a lawful state is ready for its next cycle, and in a lawful state after it.
use Rattle.std.proofs.Common.{◌≡◌, ℕ, ◌+◌, ◌<◌, List, [], ◌∷◌, length, refl, sym, ap, ◌∙◌, subst, arith, None}
use Rattle.std.proofs.lemmas.Int.{ints}
use Rattle.std.specs.Prelude.{pos, ◌+ℤ◌, All}
use Rattle.std.proofs.lemmas.List.Elements.{All-get_or}
use Rattle.noc_model.specs.declared.Flit.{Flit}
use Rattle.noc_model.specs.Plan.{Plan, ports}
use Rattle.noc_model.specs.Sound.{IsSound}
use Rattle.noc_model.specs.Tile.{Tile, start_tile}
use Rattle.noc_model.specs.Step.{front, tile_step}
use Rattle.noc_model.specs.SoundState.{GoesHome, IsSoundTile}
use Rattle.noc_model.specs.Holder.{IsHeldTile}
use Rattle.noc_model.proofs.Coords.{positive}
use Rattle.noc_model.proofs.HostTiles.{hosts-inside}
use Rattle.noc_model.proofs.Holders.{held-step}
use Rattle.noc_model.proofs.Reached.{start-held}
use Rattle.noc_model.proofs.StateKept.{start-sound, some-channels}
use Rattle.noc_model.proofs.TileKept.{tile_step-sound}
use Rattle.route_stage.specs.Routed.{GoesToTile}
use Rattle.wave_sched.specs.declared.wheels.Wheel.{Wheel}
use Rattle.wave_sched.specs.Wheels.{Stands}
use Rattle.vc_alloc.specs.Allocator.{best_at}
use Rattle.router_core.specs.declared.attachments.Told.{Told}
use Rattle.router_core.specs.Advance.{cycled}
use Rattle.router_core.specs.Attachments.{told_at, outside}
use Rattle.router_core.specs.Parts.{Parts, start_parts}
use Rattle.router_core.specs.Ready.{IsReady, IsLawful, AreLawful}
use Rattle.router_core.specs.Sizes.{IsMade}
use Rattle.router_core.specs.Shown.{Shows}
use Rattle.router_core.proofs.Start.{replicate-or}

front-goes : (p : Plan) (d : ℕ) (fs : List Flit) → IsSound p → All (GoesHome p d) fs → GoesToTile p (front fs)
front-goes p d [] sound all = tt
front-goes p d (f ∷ fs) sound all = hosts-inside p f.dest d sound (All-get_or (GoesHome p d) (f ∷ fs) 0 f (omega arith) all)

pub lawful-ready : (p : Plan) (d : ℕ) (r : Parts) → IsSound p → IsLawful p d r → IsReady p d r
lawful-ready p d r sound lawful = record {
  cycle = lawful.cycle;
  stands = lawful.stands;
  tile = lawful.tile;
  shows = lawful.shows;
  fronts = λ port c port_in c_in. front-goes p d (lawful.tile.queue port c) sound (lawful.sound.queued port c);
  outs = λ port c port_in c_in. lawful.sound.stages port c;
  held = lawful.holders.held;
}

pub lawful-start : (p : Plan) (d n : ℕ) (w : Wheel) → IsSound p → d < length p.domains → Stands w p n 0 → Shows (start_parts p n w) p d (start_tile p) → IsLawful p d (start_parts p n w)
lawful-start p d n w sound there stands shown = record {
  cycle = 0;
  stands = stands;
  tile = start_tile p;
  shows = shown;
  sound = start-sound p d n (pos 0) (some-channels p d sound there);
  holders = start-held p d n;
}

-- after a cycle, when the wheel has gone on
pub lawful-next : (p : Plan) (d : ℕ) (r q z : Parts) → IsSound p → (lawful : IsLawful p d r) → q ≡ cycled r q → z ≡ record q { wheel = z.wheel }
    → Stands z.wheel p q.tile (lawful.cycle + 1) → Shows z p d (tile_step p d r.tile (pos lawful.cycle) lawful.tile (outside (told_at r.told d))) → IsLawful p d z
lawful-next p d r q z sound lawful rest ticked stands shown =
    let i = outside (told_at r.told d) in
    let new = tile_step p d r.tile (pos lawful.cycle) lawful.tile i in
    let next : pos lawful.cycle +ℤ pos 1 ≡ pos (lawful.cycle + 1) = omega (arith, ints) in
    let same : r.tile ≡ z.tile = sym (ap (λ (y : Parts). y.tile) ticked ∙ ap (λ (y : Parts). y.tile) rest) in
    let after = tile_step-sound p d r.tile (pos lawful.cycle) lawful.tile i (positive p.dims sound.sides) lawful.sound
    (record { arrives = λ port x none. absurd (cc none); unlinked = λ port none. refl }) in
    let S : ℕ → Type 0 = λ n. IsSoundTile p d n (pos (lawful.cycle + 1)) new in
    let H : ℕ → Type 0 = λ n. IsHeldTile p d n new in
    let W : ℕ → Type 0 = λ n. Stands z.wheel p n (lawful.cycle + 1) in
    record {
      cycle = lawful.cycle + 1;
      stands = subst W (ap (λ (y : Parts). y.tile) rest ∙ same) stands;
      tile = new;
      shows = shown;
      sound = subst S same (rw next after);
      holders = subst H same (held-step p d r.tile (pos lawful.cycle) lawful.tile i lawful.holders lawful.sound.unlinked);
    }

-- ---- all domains

pub all-start : (p : Plan) (n : ℕ) (r : Parts) → IsSound p → r ≡ start_parts p n r.wheel → IsMade r p → Stands r.wheel p n 0 → ((d : ℕ) → d < length p.domains → Shows r p d (start_tile p)) → AreLawful p r
all-start p n r sound value made stands shown =
    let B : Parts → Type 0 = λ z. (o : ℕ) → best_at z.allocator o ≡ None in
    record {
      made = made;
      quiet = subst B (sym value) (λ o. replicate-or (ports p) o None);
      domains = λ d there.
          let S : Parts → Type 0 = λ z. Shows z p d (start_tile p) in
          let P : Parts → Type 0 = λ z. IsLawful p d z in
          subst P (sym value) (lawful-start p d n r.wheel sound there stands (subst S value (shown d there)));
    }

pub all-told : (p : Plan) (r q : Parts) (ts : List Told) → q ≡ record r { told = ts } → ((d : ℕ) (s : Tile) → Shows r p d s → Shows q p d s) → IsMade q p → AreLawful p r → AreLawful p q
all-told p r q ts value shows made lawful =
    let B : Parts → Type 0 = λ z. (o : ℕ) → best_at z.allocator o ≡ None in
    record {
      made = made;
      quiet = subst B (sym value) lawful.quiet;
      domains = λ d there.
          let h = lawful.domains d there in
          let W : Parts → Type 0 = λ z. Stands z.wheel p z.tile h.cycle in
          let S : Parts → Type 0 = λ z. IsSoundTile p d z.tile (pos h.cycle) h.tile in
          let H : Parts → Type 0 = λ z. IsHeldTile p d z.tile h.tile in
          record {
            cycle = h.cycle;
            stands = subst W (sym value) h.stands;
            tile = h.tile;
            shows = shows d h.tile h.shows;
            sound = subst S (sym value) h.sound;
            holders = subst H (sym value) h.holders;
          };
    }

pub all-next : (p : Plan) (r q z : Parts) → IsSound p → 0 < length p.domains → AreLawful p r → q ≡ cycled r q → z ≡ record q { wheel = z.wheel } → ((o : ℕ) → best_at q.allocator o ≡ None) → IsMade q p
    → ((d : ℕ) (s : Tile) (t : ℕ) → d < length p.domains → Shows r p d s → Stands r.wheel p r.tile t → Shows q p d (tile_step p d r.tile (pos t) s (outside (told_at r.told d))))
    → ((p : Plan) (n t : ℕ) → Stands q.wheel p n t → Stands z.wheel p n (t + 1)) → ((p : Plan) (d : ℕ) (s : Tile) → Shows q p d s → Shows z p d s)
    → ((p : Plan) (n t : ℕ) → Stands q.wheel p n t → IsMade q p → IsMade z p) → AreLawful p z
all-next p r q z sound some lawful rest ticked quiet made steps goes shows still =
    let B : Parts → Type 0 = λ y. (o : ℕ) → best_at y.allocator o ≡ None in
    let first = lawful.domains 0 some in
    let F : Parts → Type 0 = λ y. Stands y.wheel p y.tile first.cycle in
    record {
      made = still p q.tile first.cycle (subst F (sym rest) first.stands) made;
      quiet = subst B (sym ticked) quiet;
      domains = λ d there.
          let h = lawful.domains d there in
          let W : Parts → Type 0 = λ y. Stands y.wheel p y.tile h.cycle in
          lawful-next p d r q z sound h rest ticked (goes p q.tile h.cycle (subst W (sym rest) h.stands)) (shows p d _ (steps d h.tile h.cycle there h.shows h.stands));
    }
