-- What holds in every state of every run, also of one that a driver makes.
use Rattle.std.proofs.Common.{◌≡◌, ℕ, suc, ◌+◌, ◌<◌, List, [], ◌∷◌, length, refl, sym, subst, arith, ℤ}
use Rattle.std.specs.Prelude.{pos, ◌+ℤ◌}
use Rattle.std.proofs.lemmas.Int.{ints}
use Rattle.noc_model.specs.Plan.{Plan, channels, out_channels}
use Rattle.noc_model.specs.Sound.{IsSound}
use Rattle.noc_model.specs.Tile.{Tile}
use Rattle.noc_model.specs.Run.{State, Input, start, step, fed, state_from, run}
use Rattle.noc_model.specs.Driver.{Driver, driven_state, driven_inputs}
use Rattle.noc_model.specs.SoundState.{IsOutput, HasOutput, IsSoundTile, IsSoundState}
use Rattle.noc_model.specs.Holder.{IsHolder, IsHeldState}
use Rattle.noc_model.specs.Same.{IsPlacedState, IsBareState}
use Rattle.noc_model.specs.Reached.{IsReached}
use Rattle.noc_model.proofs.Coords.{positive}
use Rattle.noc_model.proofs.StateKept.{tiles-step, start-sound, some-channels, run-sound}
use Rattle.noc_model.proofs.Driven.{inputs-length, driven-state_from}
use Rattle.noc_model.proofs.Holders.{held-step}
use Rattle.noc_model.proofs.Away.{away-step, unattached-step}
use Rattle.noc_model.proofs.SameStates.{fed-nothing}

pub start-held : (p : Plan) (d : ℕ) → IsHeldState p d (start p)
start-held p d n = record {
  held = λ o w port c is. absurd (let e = is.active in cc e);
  one = λ o w port c port' c' is is'. absurd (let e = is.active in cc e);
  holder = λ o w e. absurd (cc e);
  unlinked = λ port c link none. refl;
}

pub reached-start : (p : Plan) (d : ℕ) (t : ℤ) → 0 < channels p d → IsReached p d t (start p)
reached-start p d t some = record {
  sound = λ n. start-sound p d n t some;
  held = start-held p d;
  away = λ n inside away port c. tt;
  unattached = λ n inside away. record { packet = refl; current = refl; dropped = refl; ejected = refl; local = λ c. refl };
}

held-next : (p : Plan) (d : ℕ) (t : ℤ) (s : State) (x : Input) → ((m : ℕ) → IsSoundTile p d m t (s m))
    → IsHeldState p d s → IsHeldState p d (step p d t s x)
unfolding step
held-next p d t s x sound held n = held-step p d n t (s n) (fed p d s x n) (held n) (sound n).unlinked

-- each step keeps it
pub reached-step : (p : Plan) (d : ℕ) (t : ℤ) (s : State) (x : Input) → IsSound p → IsReached p d t s
    → IsReached p d (t +ℤ pos 1) (step p d t s x)
unfolding step
reached-step p d t s x sound reached = record {
  sound = tiles-step p d t s x (positive p.dims sound.sides) reached.sound;
  held = held-next p d t s x reached.sound reached.held;
  away = λ n inside away port c. away-step p d n t (s n) (fed p d s x n) port c sound inside away ((reached.sound n).queued port c) (reached.away n inside away port c);
  unattached = λ n inside away. unattached-step p d n t (s n) (fed p d s x n) (fed-nothing p d n s x away) (reached.away n inside away) (reached.unattached n inside away);
}

pub reached-next : (p : Plan) (d t : ℕ) (s : State) (x : Input) → IsSound p → IsReached p d (pos t) s
    → IsReached p d (pos (suc t)) (step p d (pos t) s x)
reached-next p d t s x sound reached =
    let next : pos t +ℤ pos 1 ≡ pos (suc t) = omega (arith, ints) in
    subst (λ z. IsReached p d z (step p d (pos t) s x)) next (reached-step p d (pos t) s x sound reached)

pub reached-from : (p : Plan) (d t : ℕ) (s : State) (xs : List Input) → IsSound p → IsReached p d (pos t) s
    → IsReached p d (pos (t + length xs)) (state_from p d t s xs)
reached-from p d t s [] sound reached = let e : t + 0 ≡ t = omega arith in rw e reached
reached-from p d t s (x ∷ xs) sound reached =
    let e : t + suc (length xs) ≡ suc t + length xs = omega arith in
    rw e (reached-from p d (suc t) (step p d (pos t) s x) xs sound (reached-next p d t s x sound reached))

-- it holds in every state of every run
pub run-reached : (p : Plan) (d : ℕ) (xs : List Input) → IsSound p → d < length p.domains
    → IsReached p d (pos (length xs)) (run p d xs)
run-reached p d xs sound there =
    let from = reached-from p d 0 (start p) xs sound (reached-start p d (pos 0) (some-channels p d sound there)) in
    let e : 0 + length xs ≡ length xs = omega arith in
    rw e at from

-- what a channel goes out by is there, and so is its channel there
pub holder-output : (p : Plan) (d n : ℕ) (t : ℤ) (s : Tile) (o w port c : ℕ) → IsSoundTile p d n t s
    → IsHolder p d s o w port c → IsOutput p n o × (w < out_channels p d o)
holder-output p d n t s o w port c sound is = subst (HasOutput p d n) is.active (sound.stages port c)

-- ---- what a step needs of the places

pub placed : (p : Plan) (d : ℕ) (t : ℤ) (s : State) → IsReached p d t s → IsPlacedState p d s
placed p d t s reached n inside = record {
  bare = record {
    empty = λ port c link none below. (reached.sound n).unlinked port c link none;
    idle = λ port c link none below. (reached.held n).unlinked port c link none;
  };
  stages = λ port c. (reached.sound n).stages port c;
  current = (reached.sound n).current;
  away = λ away port c. reached.away n inside away port c;
}

pub bare : (p : Plan) (d : ℕ) (t : ℤ) (s : State) → IsReached p d t s → IsBareState p d s
bare p d t s reached n inside = (placed p d t s reached n inside).bare

-- ---- runs that a driver makes

pub driven-reached : (p : Plan) (d : ℕ) (v : Driver) (k : ℕ) (states : ℕ → List ℕ) → IsSound p → d < length p.domains
    → IsReached p d (pos k) (driven_state p d v k 0 (start p) states)
driven-reached p d v k states sound there =
    subst (IsReached p d (pos k)) (sym (driven-state_from p d v k 0 (start p) states))
    (subst (λ m. IsReached p d (pos m) (run p d (driven_inputs p d v k 0 (start p) states))) (inputs-length p d v k 0 (start p) states)
    (run-reached p d (driven_inputs p d v k 0 (start p) states) sound there))

-- no list is longer than the buffer there, and no credit count above it
pub driven-sound : (p : Plan) (d : ℕ) (v : Driver) (k : ℕ) (states : ℕ → List ℕ) → IsSound p → d < length p.domains
    → IsSoundState p d (pos k) (driven_state p d v k 0 (start p) states)
driven-sound p d v k states sound there =
    subst (IsSoundState p d (pos k)) (sym (driven-state_from p d v k 0 (start p) states))
    (subst (λ m. IsSoundState p d (pos m) (run p d (driven_inputs p d v k 0 (start p) states))) (inputs-length p d v k 0 (start p) states)
    (run-sound p d (driven_inputs p d v k 0 (start p) states) sound there))
