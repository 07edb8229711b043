-- The order of events.
use Rattle.std.specs.Prelude.{◌≡◌, ℕ, ◌-◌, ◌<◌, ◌≤◌, ◌⊎◌, List, length, slice_get, AllPairs}
use Rattle.std.specs.Option.{ForSome}
use Rattle.noc_model.specs.declared.Event.{Event}
use Rattle.noc_model.specs.declared.Kind.{Kind}
use Rattle.noc_model.specs.declared.Kind.TheVariants.{Take, Wait, Drop, Got}

-- take or wait, then drop, then got
abbrev pub kind_place : Kind → ℕ
kind_place (Take payload) = 0
kind_place (Wait payload) = 0
kind_place Drop = 1
kind_place (Got flit) = 2

-- by the first numbers, or where they are equal by what comes after them
abbrev pub By : ℕ → ℕ → Type 0 → Type 0
By m n P = (m < n) ⊎ ((m ≡ n) × P)

-- by cycle, then by attachment, which is tile and domain, then by kind
abbrev pub IsNotAfter : Event → Event → Type 0
IsNotAfter e f = By e.cycle f.cycle (By e.tile f.tile (By e.domain f.domain (kind_place e.kind ≤ kind_place f.kind)))

-- the events are in order
abbrev pub AreInOrder : List Event → Type 0
AreInOrder es = AllPairs IsNotAfter es

-- the event doesn't come before the last of these
abbrev pub MayFollow : List Event → Event → Type 0
MayFollow es f = ForSome (slice_get es (length es - 1)) (λ e. IsNotAfter e f)
