-- Values of variables, one by one.
use Rattle.std.proofs.Common.{◌≡◌, ℕ, zero, suc, ◌+◌, ◌-◌, ◌*◌, ◌/◌, ◌%◌, ◌<◌, ◌≤◌, Bool, false, ◌&&◌, List, [], ◌∷◌, length, map, get_or, set, take, replicate, refl, sym, ◌∙◌, ap, subst, arith, inl, inr, get_or-set_same, get_or-set_other}
use Rattle.std.specs.Prelude.{◌==◌, nat_le, if◌then◌else◌}
use Rattle.std.proofs.lemmas.Bool.{cases_eq, eq-eqb, ne_eqb}
use Rattle.std.proofs.lemmas.List.{take_more, length-take-le}
use Rattle.aig_model.specs.declared.form.Gate.{Gate}
use Rattle.std.specs.List.{AllByRecursion}
use Rattle.std.proofs.Math.Path.{fun_ext}
use Rattle.aig_model.specs.Form.{Form, AreOrdered, flipped, literal, with_value, with_gates, given, values, first_gate, last_variable, states, next_state, form_outputs}
use Rattle.aig_model.proofs.Netlists.{gates-append, variable-stays}
use Rattle.aig_out.specs.Ran.{at}

-- a literal's value depends on its variable alone
pub same-literal : (v w : ℕ → Bool) (x : ℕ) → v (x / 2) ≡ w (x / 2) → literal v x ≡ literal w x
same-literal v w x e = ap (flipped (x % 2 == 1)) e

half-below : (x k : ℕ) → x < 2 * k → x / 2 < k
half-below x k lt = omega (arith, lt)

gate-at : (k : ℕ) (gs : List Gate) (i : ℕ) (d : Gate) → AreOrdered k gs → i < length gs → ((get_or gs i d).first < 2 * (k + i)) × ((get_or gs i d).second < 2 * (k + i))
gate-at k [] i d o lt = absurd (omega (arith, lt))
gate-at k (g ∷ gs) zero d o lt = let a = o.0.0 in let b = o.0.1 in (omega (arith, a), omega (arith, b))
gate-at k (g ∷ gs) (suc i) d o lt = let r = gate-at (k + 1) gs i d o.1 (omega (arith, lt)) in let a = r.0 in let b = r.1 in (omega (arith, a), omega (arith, b))

-- with i gates, the variables below the next one have their values
abbrev pub AreValues : (ℕ → Bool) → ℕ → List Gate → List Bool → ℕ → Type 0
AreValues v k gs vals i = (x : ℕ) → x < k + i → at vals x ≡ with_gates v k (take i gs) x

pub settle-more : (v : ℕ → Bool) (k : ℕ) (gs : List Gate) (vals next : List Bool) (i : ℕ) (d : Gate) → AreOrdered k gs → i < length gs → k + i < length vals
    → next ≡ set vals (k + i) (literal (at vals) (get_or gs i d).first && literal (at vals) (get_or gs i d).second) → AreValues v k gs vals i → AreValues v k gs next (i + 1)
settle-more v k gs vals next i d o lt room put so x below =
    let g : Gate = get_or gs i d in
    let w : ℕ → Bool = with_gates v k (take i gs) in
    let bounds = gate-at k gs i d o lt in
    let a : literal (at vals) g.first ≡ literal w g.first = same-literal (at vals) w g.first (so (g.first / 2) (half-below g.first (k + i) bounds.0)) in
    let b : literal (at vals) g.second ≡ literal w g.second = same-literal (at vals) w g.second (so (g.second / 2) (half-below g.second (k + i) bounds.1)) in
    let whole : with_gates v k (take (i + 1) gs) ≡ with_value w (k + i) (literal w g.first && literal w g.second) =
    ap (with_gates v k) (take_more gs i d lt) ∙ gates-append v k (take i gs) (g ∷ []) ∙ ap (λ j. with_value w (k + j) (literal w g.first && literal w g.second)) (length-take-le i gs (omega (arith, lt))) in
    elim (cases_eq x (k + i)) [
      | inl same ↦
          ap (λ xs. at xs x) put ∙ ap (at (set vals (k + i) (literal (at vals) g.first && literal (at vals) g.second))) same
          ∙ get_or-set_same vals (k + i) (literal (at vals) g.first && literal (at vals) g.second) false room ∙ ap (λ z. z && literal (at vals) g.second) a ∙ ap (λ z. literal w g.first && z) b
          ∙ sym (ap (λ h. h x) whole ∙ ap (λ t. if t then literal w g.first && literal w g.second else w x) (eq-eqb x (k + i) same))
      | inr other ↦
          ap (λ xs. at xs x) put ∙ get_or-set_other vals (k + i) x (literal (at vals) g.first && literal (at vals) g.second) false other ∙ so x (omega (arith, below, other))
          ∙ sym (ap (λ h. h x) whole ∙ ap (λ t. if t then literal w g.first && literal w g.second else w x) (ne_eqb x (k + i) other))
    ]

pub same-map : (v w : ℕ → Bool) (last : ℕ) (xs : List ℕ) → ((x : ℕ) → x ≤ last → v x ≡ w x) → AllByRecursion (λ x. x ≤ 2 * last + 1) xs → map (literal v) xs ≡ map (literal w) xs
same-map v w last [] same a = refl
same-map v w last (x ∷ xs) same a =
    ap (λ b. b ∷ map (literal v) xs) (same-literal v w x (same (x / 2) (half x last a.0))) ∙ ap (λ bs. literal w x ∷ bs) (same-map v w last xs same a.1)
  where
    half : (x n : ℕ) → x ≤ 2 * n + 1 → x / 2 ≤ n
    half x n le = omega (arith, le)

-- the values of a cycle, from those that are given
pub cycle-values : (f : Form) (inputs state vals done : List Bool) (first : ℕ) → length inputs ≡ f.inputs → length state ≡ length f.latches → first ≡ length inputs + length state + 1
    → ((x : ℕ) → x < length inputs + length state + 1 → at vals x ≡ (if x == 0 then false else if nat_le x (length inputs) then at inputs (x - 1) else at state (x - length inputs - 1)))
    → ((v : ℕ → Bool) → ((x : ℕ) → x < first → at vals x ≡ v x) → (x : ℕ) → x < first + length f.gates → at done x ≡ with_gates v first f.gates x)
    → (x : ℕ) → x ≤ last_variable f → at done x ≡ values f (at inputs) (at state) x
cycle-values f inputs state vals done first li ls is put settled x le =
    let same : first ≡ first_gate f = omega (arith, is, li, ls) in
    let bound : x < first + length f.gates = omega (arith, le, same) in
    let there : (y : ℕ) → y < first → at vals y ≡ given f (at inputs) (at state) y = λ y lt.
    (put y (subst (λ z. y < z) is lt) ∙ ap (λ n. if y == 0 then false else if nat_le y n then at inputs (y - 1) else at state (y - n - 1)) li) in
    settled (given f (at inputs) (at state)) there x bound ∙ ap (λ k. with_gates (given f (at inputs) (at state)) k f.gates x) same

map-at : (v : ℕ → Bool) (xs : List ℕ) (j : ℕ) → v 0 ≡ false → at (map (literal v) xs) j ≡ literal v (get_or xs j 0)
map-at v [] j e = sym e
map-at v (x ∷ xs) zero e = refl
map-at v (x ∷ xs) (suc j) e = map-at v xs j e

-- the latches after a cycle
pub runs-on : (f : Form) (all : ℕ → ℕ → Bool) (t : ℕ) (inputs state next : List Bool) → all t ≡ at inputs → at state ≡ states f all t → next ≡ map (literal (values f (at inputs) (at state))) f.latches → at next ≡ states f all (t + 1)
unfolding states
runs-on f all t inputs state next fed here moved =
    let v : ℕ → Bool = values f (at inputs) (at state) in
    let none : v 0 ≡ false = variable-stays (given f (at inputs) (at state)) (first_gate f) f.gates 0 (omega arith) in
    ap at moved ∙ fun_ext (λ j. map-at v f.latches j none) ∙ ap (next_state f) (ap (λ i. values f i (at state)) (sym fed) ∙ ap (values f (all t)) here) ∙ ap (states f all) (let e : suc t ≡ t + 1 = omega arith in e)

pub outputs-now : (f : Form) (all : ℕ → ℕ → Bool) (t : ℕ) (inputs state outputs : List Bool) → all t ≡ at inputs → at state ≡ states f all t → outputs ≡ map (literal (values f (at inputs) (at state))) f.outputs → outputs ≡ form_outputs f all t
outputs-now f all t inputs state outputs fed here shown = shown ∙ ap (λ i. map (literal (values f i (at state))) f.outputs) (sym fed) ∙ ap (λ s. map (literal (values f (all t) s)) f.outputs) here

pub starts-at : (f : Form) (all : ℕ → ℕ → Bool) (n : ℕ) (state : List Bool) → state ≡ replicate n false → at state ≡ states f all 0
unfolding states
starts-at f all n state is = ap at is ∙ fun_ext (λ j. nothing n j)
  where
    nothing : (n j : ℕ) → at (replicate n false) j ≡ false
    nothing zero j = refl
    nothing (suc n) zero = refl
    nothing (suc n) (suc j) = nothing n j
