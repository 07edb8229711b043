-- What holds in every cycle of every run of one domain, and what each step keeps.
use Rattle.std.specs.Prelude.{◌≡◌, ℕ, ◌<◌, false, ℤ}
use Rattle.noc_model.specs.Plan.{Plan, tiles, hosts}
use Rattle.noc_model.specs.Run.{State}
use Rattle.noc_model.specs.SoundState.{IsSoundTile}
use Rattle.noc_model.specs.Holder.{IsHeldState}
use Rattle.noc_model.specs.Same.{GoesOn, IsUnattached}

-- the state is one that a run of the domain comes to, in cycle t
pub record IsReached (p : Plan) (d : ℕ) (t : ℤ) (s : State) : Type 0 where
  pub sound : (n : ℕ) → IsSoundTile p d n t (s n)
  pub held : IsHeldState p d s
  -- at a tile that doesn't host the domain all packets go on, and nothing is at the attachment
  pub away : (n : ℕ) → n < tiles p → hosts p n d ≡ false → (port c : ℕ) → GoesOn ((s n).stage port c)
  pub unattached : (n : ℕ) → n < tiles p → hosts p n d ≡ false → IsUnattached (s n)
