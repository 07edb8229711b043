-- What each step keeps holds after every run.
use Rattle.std.proofs.Common.{◌≡◌, ℕ, zero, suc, ◌<◌, List, [], ◌∷◌, ◌∙◌, refl, arith, ℤ}
use Rattle.std.specs.Prelude.{Some, None, pos, Option, false, ◌+ℤ◌}
use Rattle.noc_model.specs.declared.LinkFlit.{LinkFlit}
use Rattle.noc_model.specs.Plan.{Plan, tiles, hop}
use Rattle.noc_model.specs.Sound.{IsSound}
use Rattle.noc_model.specs.Place.{neighbour, owner, is_wrap}
use Rattle.noc_model.specs.Run.{State, Input, start, step, state_from, run}
use Rattle.noc_model.specs.Laws.{on_row, channel_sum}
use Rattle.noc_model.proofs.Coords.{AllPositive, positive}
use Rattle.noc_model.proofs.Sum.{channel_sum-step}
use Rattle.noc_model.proofs.Links.{link-from}
use Rattle.noc_model.proofs.Wave.{wave-law}

-- what a step keeps in every cycle holds after every run
pub kept : (p : Plan) (d : ℕ) (P : State → Type 0) → ((t : ℕ) (s : State) (x : Input) → P s → P (step p d (pos t) s x))
    → (t : ℕ) (s : State) (xs : List Input) → P s → P (state_from p d t s xs)
kept p d P keeps t s [] h = h
kept p d P keeps t s (x ∷ xs) h = kept p d P keeps (suc t) (step p d (pos t) s x) xs (keeps t s x h)

pub positive-sound : (p : Plan) → IsSound p → AllPositive p.dims
positive-sound p sound = positive p.dims sound.sides

abbrev nothing : ℕ → Option LinkFlit
nothing i = None

on_row-empty : (k w : ℕ) → on_row k nothing w ≡ 0
on_row-empty zero w = refl
on_row-empty (suc k) w = omega (arith, on_row-empty k w)

pub channel_sum-law : (p : Plan) (d n port m w : ℕ) (inputs : List Input) → IsSound p → n < tiles p
    → neighbour p n port ≡ Some m
    → channel_sum p (run p d inputs) n port m w ≡ p.buffer
channel_sum-law p d n port m w inputs sound inside e =
    let link = link-from p n port m (positive-sound p sound) inside e in
    kept p d (λ s. channel_sum p s n port m w ≡ p.buffer)
    (λ t s x h. channel_sum-step p d (pos t) s x n port m w sound.stages.0 link ∙ h)
    0 (start p) inputs (omega (arith, on_row-empty p.stages w))

pub wave-sound : (p : Plan) (n port m : ℕ) (t : ℤ) → IsSound p → neighbour p n port ≡ Some m → is_wrap p n port ≡ false
    → owner p m port (t +ℤ pos (hop p)) ≡ owner p n port t
wave-sound p n port m t sound e wrap = wave-law p n port m t (positive-sound p sound) e wrap
