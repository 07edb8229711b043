-- What is held after a run: the flits in the network, and the words whose drop pulse is still to be counted.
use Rattle.std.proofs.Common.{◌≡◌, ℕ, suc, ◌+◌, ◌-◌, ◌<◌, Bool, true, List, [], ◌∷◌, ◌++◌, length, refl, sym, ap, ◌∙◌, arith}
use Rattle.std.specs.Prelude.{if◌then◌else◌, count_by, pos}
use Rattle.std.proofs.lemmas.List.{length-append}
use Rattle.std.proofs.lemmas.List.Sums.{sum_by-append, sum_by-cons}
use Rattle.noc_model.specs.declared.Flit.{Flit}
use Rattle.noc_model.specs.declared.Event.{Event}
use Rattle.noc_model.specs.Plan.{Plan, tiles}
use Rattle.noc_model.specs.Sound.{IsSound}
use Rattle.noc_model.specs.Run.{State, Input, start, step, state_from, run}
use Rattle.noc_model.specs.Events.{cycle_events, events_from}
use Rattle.noc_model.specs.Driver.{Driver, driven_events, driven_state, driven_inputs}
use Rattle.noc_model.specs.Flits.{gathered, inside, enters_at, delivered_at, entered, delivered_to, delivered}
use Rattle.noc_model.proofs.Totals.{total, total-same, total-none, total-add}
use Rattle.noc_model.proofs.Conserved.{conservation-law}
use Rattle.noc_model.proofs.Driven.{driven-state_from, driven-events_from}
use Rattle.domain_report.specs.Counts.{counts_of}
use Rattle.stress_gen.specs.Summary.{held}
use Rattle.stress_gen.specs.Held.{pulses}
use Rattle.stress_gen.proofs.CycleCounts.{takes, drops, gots, length-gathered, no-pulses, cycle-takes, cycle-drops, cycle-gots}

count-both : (q : Event → Bool) (a b : List Event) → count_by q (a ++ b) ≡ count_by q a + count_by q b
count-both q a b = sum_by-append (λ (e : Event). if q e then 1 else 0) a b

-- the words that are taken entered, or their pulses are counted, or are still to be
takes-from : (p : Plan) (d t : ℕ) (s : State) (xs : List Input)
    → count_by takes (events_from p d t s xs) + pulses p d s ≡ length (entered p d t s xs) + count_by drops (events_from p d t s xs) + pulses p d (state_from p d t s xs)
takes-from p d t s [] = omega arith
takes-from p d t s (x ∷ xs) =
    let next : State = step p d (pos t) s x in
    let now : List Event = cycle_events p d t s x in
    let later : List Event = events_from p d (suc t) next xs in
    joined (count_by takes (now ++ later)) (count_by takes now) (count_by takes later) (count_by drops (now ++ later)) (count_by drops now) (count_by drops later)
    (length (entered p d t s (x ∷ xs))) (length (gathered (tiles p) (enters_at p d s x))) (length (entered p d (suc t) next xs))
    (pulses p d s) (pulses p d next) (pulses p d (state_from p d (suc t) next xs))
    (count-both takes now later) (count-both drops now later) (length-append (gathered (tiles p) (enters_at p d s x)) (entered p d (suc t) next xs))
    (cycle-takes p d t s x) (cycle-drops p d t s x) (takes-from p d (suc t) next xs)
  where
    joined : (t t1 t2 d d1 d2 e e1 e2 p0 p1 p2 : ℕ) → t ≡ t1 + t2 → d ≡ d1 + d2 → e ≡ e1 + e2 → t1 ≡ e1 + p1 → d1 ≡ p0 → t2 + p1 ≡ e2 + d2 + p2 → t + p0 ≡ e + d + p2
    joined t t1 t2 d d1 d2 e e1 e2 p0 p1 p2 a b c f g h = omega arith

delivered-more : (p : Plan) (d t : ℕ) (s : State) (x : Input) (xs : List Input)
    → length (delivered p d t s (x ∷ xs)) ≡ length (gathered (tiles p) (delivered_at p d s x)) + length (delivered p d (suc t) (step p d (pos t) s x) xs)
delivered-more p d t s x xs =
    let m : ℕ = tiles p in
    let first : ℕ → List Flit = delivered_at p d s x in
    let rest : ℕ → List Flit = delivered_to p d (suc t) (step p d (pos t) s x) xs in
    length-gathered m (λ n. first n ++ rest n)
    ∙ total-same m (λ n. length (first n ++ rest n)) (λ n. length (first n) + length (rest n)) (λ n less. length-append (first n) (rest n))
    ∙ total-add m (λ n. length (first n)) (λ n. length (rest n))
    ∙ sym (ap (λ k. k + total m (λ n. length (rest n))) (length-gathered m first))
    ∙ sym (ap (λ k. length (gathered m first) + k) (length-gathered m rest))

-- the flits that are got are delivered
gots-from : (p : Plan) (d t : ℕ) (s : State) (xs : List Input) → count_by gots (events_from p d t s xs) ≡ length (delivered p d t s xs)
gots-from p d t s [] = sym (length-gathered (tiles p) (delivered_to p d t s []) ∙ total-none (tiles p) (λ n. 0) (λ n less. refl))
gots-from p d t s (x ∷ xs) =
    let next : State = step p d (pos t) s x in
    let now : List Event = cycle_events p d t s x in
    let later : List Event = events_from p d (suc t) next xs in
    joined (count_by gots (now ++ later)) (count_by gots now) (count_by gots later) (length (delivered p d t s (x ∷ xs))) (length (gathered (tiles p) (delivered_at p d s x)))
    (length (delivered p d (suc t) next xs)) (count-both gots now later) (delivered-more p d t s x xs) (cycle-gots p d t s x) (gots-from p d (suc t) next xs)
  where
    joined : (g g1 g2 l l1 l2 : ℕ) → g ≡ g1 + g2 → l ≡ l1 + l2 → g1 ≡ l1 → g2 ≡ l2 → g ≡ l
    joined g g1 g2 l l1 l2 a b c e = omega arith

count-all : (fs : List Flit) → count_by (λ f. true) fs ≡ length fs
count-all [] = refl
count-all (f ∷ fs) = sum_by-cons (λ (x : Flit). 1) f fs ∙ omega (arith, count-all fs)

-- the words that were taken after a run
pub words-law : (p : Plan) (d : ℕ) (xs : List Input) → IsSound p → d < length p.domains
    → (counts_of (events_from p d 0 (start p) xs)).takes
    ≡ (counts_of (events_from p d 0 (start p) xs)).drops + (counts_of (events_from p d 0 (start p) xs)).gots + length (inside p d (run p d xs)) + pulses p d (run p d xs)
words-law p d xs sound there =
    let es : List Event = events_from p d 0 (start p) xs in
    let last : State = state_from p d 0 (start p) xs in
    joined (count_by takes es) (count_by drops es) (count_by gots es) (length (entered p d 0 (start p) xs)) (length (delivered p d 0 (start p) xs)) (length (inside p d last)) (pulses p d (start p)) (pulses p d last)
    (takes-from p d 0 (start p) xs) (no-pulses p d) (gots-from p d 0 (start p) xs)
    (sym (count-all (entered p d 0 (start p) xs)) ∙ conservation-law p d (λ f. true) xs sound there
    ∙ ap (λ k. k + count_by (λ f. true) (inside p d last)) (count-all (delivered p d 0 (start p) xs)) ∙ ap (λ k. length (delivered p d 0 (start p) xs) + k) (count-all (inside p d last)))
  where
    joined : (t d g e l i p0 p1 : ℕ) → t + p0 ≡ e + d + p1 → p0 ≡ 0 → g ≡ l → e ≡ l + i → t ≡ d + g + i + p1
    joined t d g e l i p0 p1 a b c f = omega arith

-- so these are held
pub held-law : (p : Plan) (d : ℕ) (xs : List Input) → IsSound p → d < length p.domains
    → held (counts_of (events_from p d 0 (start p) xs)) ≡ length (inside p d (run p d xs)) + pulses p d (run p d xs)
held-law p d xs sound there =
    let n = counts_of (events_from p d 0 (start p) xs) in
    left n.takes n.drops n.gots (length (inside p d (run p d xs))) (pulses p d (run p d xs)) (words-law p d xs sound there)
  where
    left : (t d g i q : ℕ) → t ≡ d + g + i + q → t - d - g ≡ i + q
    left t d g i q e = omega arith

pub driven-law : (p : Plan) (d k : ℕ) (v : Driver) (states : ℕ → List ℕ) → IsSound p → d < length p.domains
    → held (counts_of (driven_events p d v k 0 (start p) states))
    ≡ length (inside p d (driven_state p d v k 0 (start p) states)) + pulses p d (driven_state p d v k 0 (start p) states)
driven-law p d k v states sound there =
    let xs : List Input = driven_inputs p d v k 0 (start p) states in
    ap (λ es. held (counts_of es)) (driven-events_from p d v k 0 (start p) states)
    ∙ held-law p d xs sound there
    ∙ ap (λ s. length (inside p d s) + pulses p d s) (sym (driven-state_from p d v k 0 (start p) states))
