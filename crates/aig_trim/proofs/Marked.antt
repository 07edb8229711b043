-- Marks one by one, and gates that are kept one by one.
use Rattle.std.proofs.Common.{◌≡◌, ℕ, zero, suc, ◌+◌, ◌-◌, ◌*◌, ◌/◌, ◌<◌, ◌≤◌, Bool, true, false, List, [], ◌∷◌, ◌++◌, length, get_or, set, take, drop, refl, sym, ◌∙◌, ap, subst, arith, inl, inr, get_or-set_same, get_or-set_other, length-set, drop-cons, append-nil}
use Rattle.std.specs.Prelude.{◌==◌, ◌||◌, nat_lt, if◌then◌else◌}
use Rattle.std.specs.List.{list_any}
use Rattle.std.proofs.Math.Path.{fun_ext}
use Rattle.std.proofs.lemmas.Bool.{cases_eq, cases_lt, eq-eqb, ne_eqb}
use Rattle.std.proofs.lemmas.List.{take_more, length-take-le, get_or_append_left, get_or_past, length_push}
use Rattle.std.proofs.Math.Seq.{get_or-append_seam}
use Rattle.aig_model.specs.declared.form.Gate.{Gate}
use Rattle.aig_model.specs.Form.{Form, AreOrdered, with_value, first_gate}
use Rattle.aig_out.specs.Ran.{at}
use Rattle.aig_trim.specs.Marks.{is_of, with_gate, with_reads, begins, needs, place, moved, moved_gate, kept_one, kept}

-- ---- marks

half-below : (x k n : ℕ) → x < 2 * k → k ≤ n → x / 2 < n
half-below x k n lt le = omega (arith, lt, le)

pub gate-low : (k : ℕ) (gs : List Gate) (i n : ℕ) (d : Gate) → AreOrdered k gs → i < length gs → k + i ≤ n → ((get_or gs i d).first / 2 < n) × ((get_or gs i d).second / 2 < n)
gate-low k [] i n d o lt le = absurd (omega (arith, lt))
gate-low k (g ∷ gs) zero n d o lt le = (half-below g.first k n o.0.0 (omega (arith, le)), half-below g.second k n o.0.1 (omega (arith, le)))
gate-low k (g ∷ gs) (suc i) n d o lt le = gate-low (k + 1) gs i n d o.1 (omega (arith, lt)) (omega (arith, le))

at-set : (xs : List Bool) (i : ℕ) → i < length xs → (x : ℕ) → at (set xs i true) x ≡ with_value (at xs) i true x
at-set xs i lt x =
    elim (cases_eq x i) [
      | inl e ↦ ap (at (set xs i true)) e ∙ get_or-set_same xs i true false lt ∙ sym (ap (λ t. if t then true else at xs x) (eq-eqb x i e))
      | inr ne ↦ get_or-set_other xs i x true false ne ∙ sym (ap (λ t. if t then true else at xs x) (ne_eqb x i ne))
    ]

pub at-gate : (xs : List Bool) (g : Gate) → g.first / 2 < length xs → g.second / 2 < length (set xs (g.first / 2) true) → (x : ℕ) → at (set (set xs (g.first / 2) true) (g.second / 2) true) x ≡ with_gate true g (at xs) x
at-gate xs g a b x = at-set (set xs (g.first / 2) true) (g.second / 2) b x ∙ ap (λ z. if x == g.second / 2 then true else z) (at-set xs (g.first / 2) a x)

pub gates-low : (first : ℕ) (gs : List Gate) (i : ℕ) (marks : List Bool) (n : ℕ) (d : Gate) → AreOrdered first gs → 0 < i → i ≤ length gs → first + length gs ≤ n → length marks ≡ n
    → ((get_or gs (i - 1) d).first / 2 < length marks) × ((get_or gs (i - 1) d).second / 2 < length (set marks ((get_or gs (i - 1) d).first / 2) true))
gates-low first gs i marks n d o some within room long =
    let low = gate-low first gs (i - 1) (length marks) d o (omega (arith, some, within)) (omega (arith, some, within, room, long)) in
    (low.0, subst (λ k. (get_or gs (i - 1) d).second / 2 < k) (sym (length-set marks ((get_or gs (i - 1) d).first / 2) true)) low.1)

-- one gate more, downwards
pub mark-step : (m : ℕ → Bool) (k : ℕ) (gs : List Gate) (i j : ℕ) (d : Gate) → j < length gs → j + 1 ≡ i → (marks : List Bool) → ((x : ℕ) → at marks x ≡ with_reads m (k + i) (drop i gs) x)
    → (t : Bool) → at marks (k + j) ≡ t → (next : ℕ → Bool) → ((x : ℕ) → next x ≡ with_gate t (get_or gs j d) (at marks) x) → (x : ℕ) → next x ≡ with_reads m (k + j) (drop j gs) x
mark-step m k gs i j d lt e marks so t is next put x =
    let g : Gate = get_or gs j d in
    let above : k + i ≡ k + j + 1 = omega (arith, e) in
    let up : i ≡ suc j = omega (arith, e) in
    let rest : at marks ≡ with_reads m (k + j + 1) (drop (suc j) gs) = fun_ext (λ y. so y ∙ ap (λ q. with_reads m q (drop i gs) y) above ∙ ap (λ q. with_reads m (k + j + 1) (drop q gs) y) up) in
    put x ∙ ap (λ b. with_gate b g (at marks) x) (sym is) ∙ ap (λ n. with_gate (n (k + j)) g n x) rest ∙ sym (ap (λ hs. with_reads m (k + j) hs x) (drop-cons gs j d lt))

-- the whole form
pub form-marked : (f : Form) (first : ℕ) (a b c d : List Bool) → first ≡ first_gate f → ((x : ℕ) → at a x ≡ nat_lt x first) → ((x : ℕ) → at b x ≡ (at a x || list_any (is_of x) f.outputs))
    → ((x : ℕ) → at c x ≡ (at b x || list_any (is_of x) f.latches)) → ((x : ℕ) → at d x ≡ with_reads (at c) first f.gates x) → (x : ℕ) → at d x ≡ needs f x
form-marked f first a b c d e begun out latch gates x = gates x ∙ ap (λ m. with_reads m first f.gates x) (fun_ext here) ∙ ap (λ k. with_reads (begins f) k f.gates x) e
  where
    here : (y : ℕ) → at c y ≡ begins f y
    here y = latch y ∙ ap (λ t. t || list_any (is_of y) f.latches) (out y ∙ ap (λ t. t || list_any (is_of y) f.outputs) (begun y ∙ ap (nat_lt y) e))

-- ---- gates that are kept

kept-append : (m : ℕ → Bool) (p : ℕ → ℕ) (k : ℕ) (gs hs : List Gate) → kept m p k (gs ++ hs) ≡ kept m p k gs ++ kept m p (k + length gs) hs
kept-append m p k [] hs = let same : k ≡ k + 0 = omega arith in ap (λ q. kept m p q hs) same
kept-append m p k (g ∷ gs) hs =
    let far : k + 1 + length gs ≡ k + suc (length gs) = omega arith in
    ap (kept_one (m k) (moved_gate p g)) (kept-append m p (k + 1) gs hs ∙ ap (λ q. kept m p (k + 1) gs ++ kept m p q hs) far) ∙ one (m k) (moved_gate p g) (kept m p (k + 1) gs) (kept m p (k + suc (length gs)) hs)
  where
    one : (t : Bool) (h : Gate) (xs ys : List Gate) → kept_one t h (xs ++ ys) ≡ kept_one t h xs ++ ys
    one true h xs ys = refl
    one false h xs ys = refl

-- one gate more, upwards
pub kept-more : (m : ℕ → Bool) (p : ℕ → ℕ) (k : ℕ) (gs : List Gate) (i : ℕ) (d : Gate) → i < length gs
    → kept m p k (take (i + 1) gs) ≡ kept m p k (take i gs) ++ kept_one (m (k + i)) (moved_gate p (get_or gs i d)) []
kept-more m p k gs i d lt =
    ap (kept m p k) (take_more gs i d lt) ∙ kept-append m p k (take i gs) (get_or gs i d ∷ [])
    ∙ ap (λ n. kept m p k (take i gs) ++ kept_one (m (k + n)) (moved_gate p (get_or gs i d)) []) (length-take-le i gs (omega (arith, lt)))

pub kept-push : (m : ℕ → Bool) (p : ℕ → ℕ) (k : ℕ) (gs : List Gate) (i : ℕ) (d : Gate) → i < length gs → m (k + i) ≡ true → (all : List Gate) → all ≡ kept m p k (take i gs)
    → (a b : ℕ) → a ≡ moved p (get_or gs i d).first → b ≡ moved p (get_or gs i d).second → all ++ record { first = a; second = b } ∷ [] ≡ kept m p k (take (i + 1) gs)
kept-push m p k gs i d lt marked all so a b first second =
    ap (λ x. all ++ record { first = x; second = b } ∷ []) first ∙ ap (λ x. all ++ record { first = moved p (get_or gs i d).first; second = x } ∷ []) second ∙ ap (λ hs. hs ++ moved_gate p (get_or gs i d) ∷ []) so
    ∙ ap (λ t. kept m p k (take i gs) ++ kept_one t (moved_gate p (get_or gs i d)) []) (sym marked) ∙ sym (kept-more m p k gs i d lt)

pub kept-pass : (m : ℕ → Bool) (p : ℕ → ℕ) (k : ℕ) (gs : List Gate) (i : ℕ) (d : Gate) → i < length gs → m (k + i) ≡ false → (all : List Gate) → all ≡ kept m p k (take i gs) → all ≡ kept m p k (take (i + 1) gs)
kept-pass m p k gs i d lt left all so =
    so ∙ sym (append-nil (kept m p k (take i gs))) ∙ ap (λ t. kept m p k (take i gs) ++ kept_one t (moved_gate p (get_or gs i d)) []) (sym left) ∙ sym (kept-more m p k gs i d lt)

-- one number more
pub numbers-more : (m : ℕ → Bool) (xs : List ℕ) (y i : ℕ) → length xs ≡ i → y ≡ place m i → ((x : ℕ) → x < i → get_or xs x 0 ≡ place m x) → (x : ℕ) → x < i + 1 → get_or (xs ++ y ∷ []) x 0 ≡ place m x
numbers-more m xs y i long is so x lt =
    elim (cases_eq x i) [
      | inl e ↦ ap (λ n. get_or (xs ++ y ∷ []) n 0) (e ∙ sym long) ∙ get_or-append_seam xs y [] 0 ∙ is ∙ ap (place m) (sym e)
      | inr ne ↦ let below : x < i = omega (arith, lt, ne) in get_or_append_left xs (y ∷ []) 0 x (omega (arith, below, long)) ∙ so x below
    ]

pub numbers-low : (xs : List ℕ) (y i : ℕ) → length xs ≡ i → y ≤ i → ((x : ℕ) → get_or xs x 0 ≤ x) → (x : ℕ) → get_or (xs ++ y ∷ []) x 0 ≤ x
numbers-low xs y i long le so x =
    elim (cases_eq x i) [
      | inl e ↦ let here = ap (λ n. get_or (xs ++ y ∷ []) n 0) (e ∙ sym long) ∙ get_or-append_seam xs y [] 0 in omega (arith, here, le, e)
      | inr ne ↦
          elim (cases_lt x i) [
            | inl below ↦ let same = get_or_append_left xs (y ∷ []) 0 x (omega (arith, below, long)) in let low = so x in omega (arith, same, low)
            | inr above ↦
                let many = length_push xs y in
                let none = get_or_past (xs ++ y ∷ []) x 0 (omega (arith, many, long, above, ne)) in
                omega (arith, none)
          ]
    ]
