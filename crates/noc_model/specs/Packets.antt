-- Lists of flits that are packets in a row.
use Rattle.std.specs.Prelude.{◌≡◌, ℕ, zero, suc, Bool, true, not, List, [], ◌∷◌, ◌++◌, ◌&&◌, ◌==◌, if◌then◌else◌, Option, Some, None, pos}
use Rattle.noc_model.specs.declared.Flit.{Flit}
use Rattle.noc_model.specs.declared.LinkFlit.{LinkFlit}
use Rattle.noc_model.specs.Plan.{Plan}
use Rattle.noc_model.specs.Step.{flit_on, sent, comes_in}
use Rattle.noc_model.specs.Run.{State, Input, fed, step}

-- between packets a head comes next, and within a packet that goes to this tile a flit to it that is no head
abbrev pub may_come : Option ℕ → Flit → Bool
may_come None f = f.head
may_come (Some dest) f = not f.head && (f.dest == dest)

-- where a list stands behind a flit: between packets behind a tail, and else within a packet
abbrev pub after_flit : Flit → Option ℕ
after_flit f = if f.tail then None else Some f.dest

-- the flits lead from the one to the other
abbrev pub ArePackets : Option ℕ → List Flit → Option ℕ → Type 0
ArePackets a [] b = a ≡ b
ArePackets a (f ∷ fs) b = (may_come a f ≡ true) × ArePackets (after_flit f) fs b

-- packets in a row, of which the last may be unfinished
pub record AreWholePackets (fs : List Flit) : Type 0 where
  pub last : Option ℕ
  pub packets : ArePackets None fs last

-- the flits of a channel in the first k registers of a link, the oldest first
abbrev pub on_way : ℕ → (ℕ → Option LinkFlit) → ℕ → List Flit
on_way zero row w = []
on_way (suc k) row w = flit_on (row k) w ++ on_way k row w

-- what tile n sends by output o on channel w in the cycles of these inputs, from cycle t and the state s on
abbrev pub sent_on : Plan → ℕ → ℕ → State → List Input → ℕ → ℕ → ℕ → List Flit
sent_on p d t s [] n o w = []
sent_on p d t s (x ∷ xs) n o w = flit_on (sent p d n (pos t) (s n) (fed p d s x n) o) w
    ++ sent_on p d (suc t) (step p d (pos t) s x) xs n o w

-- what enters there by the local channel c
abbrev pub entered_by : Plan → ℕ → ℕ → State → List Input → ℕ → ℕ → List Flit
entered_by p d t s [] n c = []
entered_by p d t s (x ∷ xs) n c = comes_in p d (s n) (fed p d s x n) 0 c
    ++ entered_by p d (suc t) (step p d (pos t) s x) xs n c
