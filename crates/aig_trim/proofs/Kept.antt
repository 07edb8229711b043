-- Marked gates with new numbers: they have the values that they had, and each is read.
use Rattle.std.proofs.Common.{◌≡◌, ℕ, zero, suc, ◌+◌, ◌-◌, ◌*◌, ◌/◌, ◌%◌, ◌<◌, ◌≤◌, ◌^◌, ◌≢◌, Bool, true, false, ◌&&◌, List, [], ◌∷◌, length, map, refl, sym, ◌∙◌, ap, subst, arith, inl, inr}
use Rattle.std.specs.Prelude.{◌==◌, ◌||◌, ◌⊎◌, nat_lt, slice_index, if◌then◌else◌}
use Rattle.std.specs.List.{AllByRecursion, list_any}
use Rattle.std.proofs.Math.Path.{fun_ext}
use Rattle.std.proofs.lemmas.Bool.{cases_eq, eq-eqb, ne_eqb, eqb-true, or_cases, or_left, or_right, lt-ltb, ltb-true, true≢false}
use Rattle.std.proofs.lemmas.List.{length-map}
use Rattle.aig_model.specs.declared.form.Gate.{Gate}
use Rattle.aig_model.specs.Form.{Form, IsForm, AreOrdered, flipped, literal, with_value, with_gates, one_if_true, first_gate, last_variable, given, values}
use Rattle.aig_out.specs.Ran.{at}
use Rattle.aig_trim.specs.Marks.{is_of, with_gate, with_reads, begins, needs, place, moved, moved_gate, kept_one, kept}
use Rattle.aig_trim.specs.Trimmed.{gate_literals, is_read, AreRead, IsTrimmed}

-- ---- values of variables

other : (v : ℕ → Bool) (k : ℕ) (b : Bool) (x : ℕ) → x ≢ k → with_value v k b x ≡ v x
other v k b x ne = ap (λ t. if t then b else v x) (ne_eqb x k ne)

this : (v : ℕ → Bool) (k : ℕ) (b : Bool) (x : ℕ) → x ≡ k → with_value v k b x ≡ b
this v k b x e = ap (λ t. if t then b else v x) (eq-eqb x k e)

-- ---- how many marked variables stand before

place-more : (m : ℕ → Bool) (x : ℕ) → place m (x + 1) ≡ place m x + one_if_true (m x)
place-more m x = let e : x + 1 ≡ suc x = omega arith in ap (place m) e

pub place-left : (m : ℕ → Bool) (x : ℕ) → m x ≡ false → place m (x + 1) ≡ place m x
place-left m x e = let none : place m x + 0 ≡ place m x = omega arith in place-more m x ∙ ap (λ b. place m x + one_if_true b) e ∙ none

pub place-kept : (m : ℕ → Bool) (x : ℕ) → m x ≡ true → place m (x + 1) ≡ place m x + 1
place-kept m x e = place-more m x ∙ ap (λ b. place m x + one_if_true b) e

place-up : (m : ℕ → Bool) (x d : ℕ) → place m x ≤ place m (x + d)
place-up m x zero = let same : x + 0 ≡ x = omega arith in let e = ap (place m) same in omega (arith, e)
place-up m x (suc d) =
    let next : x + suc d ≡ suc (x + d) = omega arith in
    let e = ap (place m) next in
    let rest = place-up m x d in
    omega (arith, e, rest)

place-below : (m : ℕ → Bool) (x y : ℕ) → x < y → m x ≡ true → place m x < place m y
place-below m x y lt e =
    let whole : x + 1 + (y - (x + 1)) ≡ y = omega (arith, lt) in
    let up = place-up m (x + 1) (y - (x + 1)) in
    let at-y = ap (place m) whole in
    let here = place-kept m x e in
    omega (arith, up, at-y, here)

one-low : (b : Bool) → one_if_true b ≤ 1
one-low true = omega arith
one-low false = omega arith

pub place-low : (m : ℕ → Bool) (x : ℕ) → place m x ≤ x
place-low m zero = omega arith
place-low m (suc x) = let rest = place-low m x in let one = one-low (m x) in omega (arith, rest, one)

place-all : (m : ℕ → Bool) (x : ℕ) → ((y : ℕ) → y < x → m y ≡ true) → place m x ≡ x
place-all m zero all = refl
place-all m (suc x) all =
    let rest = place-all m x (λ y lt. all y (omega (arith, lt))) in
    let one = ap one_if_true (all x (omega arith)) in
    omega (arith, rest, one)

-- ---- literals of new numbers

half-of : (q r : ℕ) → r < 2 → (2 * q + r) / 2 ≡ q
half-of q r lt = omega (arith, lt)

odd-of : (q r : ℕ) → r < 2 → (2 * q + r) % 2 ≡ r
odd-of q r lt = omega (arith, lt)

odd-low : (l : ℕ) → l % 2 < 2
odd-low l = omega arith

moved-half : (p : ℕ → ℕ) (l : ℕ) → moved p l / 2 ≡ p (l / 2)
moved-half p l = half-of (p (l / 2)) (l % 2) (odd-low l)

moved-literal : (v w : ℕ → Bool) (p : ℕ → ℕ) (l : ℕ) → w (p (l / 2)) ≡ v (l / 2) → literal w (moved p l) ≡ literal v l
moved-literal v w p l e =
    ap (λ r. flipped (r == 1) (w (moved p l / 2))) (odd-of (p (l / 2)) (l % 2) (odd-low l)) ∙ ap (λ x. flipped (l % 2 == 1) (w x)) (moved-half p l) ∙ ap (flipped (l % 2 == 1)) e

half-below : (l k : ℕ) → l < 2 * k → l / 2 < k
half-below l k lt = omega (arith, lt)

moved-below : (p : ℕ → ℕ) (l k : ℕ) → p (l / 2) < k → moved p l < 2 * k
moved-below p l k lt = let odd = odd-low l in omega (arith, lt, odd)

-- ---- marked gates read marked variables

abbrev pub AreClosed : (ℕ → Bool) → ℕ → List Gate → Type 0
AreClosed m k [] = Unit {0}
AreClosed m k (g ∷ gs) = (m k ≡ true → (m (g.first / 2) ≡ true) × (m (g.second / 2) ≡ true)) × AreClosed m (k + 1) gs

keeps : (v : ℕ → Bool) (k x : ℕ) → v x ≡ true → with_value v k true x ≡ true
keeps v k x e = go (x == k)
  where
    go : (t : Bool) → (if t then true else v x) ≡ true
    go true = refl
    go false = e

gate-keeps : (t : Bool) (g : Gate) (m : ℕ → Bool) (x : ℕ) → m x ≡ true → with_gate t g m x ≡ true
gate-keeps true g m x e = keeps (with_value m (g.first / 2) true) (g.second / 2) x (keeps m (g.first / 2) x e)
gate-keeps false g m x e = e

gate-above : (t : Bool) (g : Gate) (m : ℕ → Bool) (k x : ℕ) → g.first < 2 * k → g.second < 2 * k → k ≤ x → with_gate t g m x ≡ m x
gate-above true g m k x a b le =
    let first = half-below g.first k a in
    let second = half-below g.second k b in
    other (with_value m (g.first / 2) true) (g.second / 2) true x (λ e. omega (arith, e, le, second)) ∙ other m (g.first / 2) true x (λ e. omega (arith, e, le, first))
gate-above false g m k x a b le = refl

pub reads-keep : (m : ℕ → Bool) (k : ℕ) (gs : List Gate) (x : ℕ) → m x ≡ true → with_reads m k gs x ≡ true
reads-keep m k [] x e = e
reads-keep m k (g ∷ gs) x e = gate-keeps (with_reads m (k + 1) gs k) g (with_reads m (k + 1) gs) x (reads-keep m (k + 1) gs x e)

closed-more : (m n : ℕ → Bool) (k : ℕ) (gs : List Gate) → ((x : ℕ) → m x ≡ true → n x ≡ true) → ((x : ℕ) → k ≤ x → n x ≡ m x) → AreClosed m k gs → AreClosed n k gs
closed-more m n k [] more same c = tt
closed-more m n k (g ∷ gs) more same c = (
  (λ e. let both = c.0 (sym (same k (omega arith)) ∙ e) in (more (g.first / 2) both.0, more (g.second / 2) both.1)),
  closed-more m n (k + 1) gs more (λ x le. same x (omega (arith, le))) c.1,
)

closed : (m : ℕ → Bool) (k : ℕ) (gs : List Gate) → AreOrdered k gs → AreClosed (with_reads m k gs) k gs
closed m k [] o = tt
closed m k (g ∷ gs) o = (
  (λ e. here (n k) refl (sym (gate-above (n k) g n k k o.0.0 o.0.1 (omega arith)) ∙ e)),
  closed-more n (with_gate (n k) g n) (k + 1) gs (gate-keeps (n k) g n) (λ x le. gate-above (n k) g n k x o.0.0 o.0.1 (omega (arith, le))) (closed m (k + 1) gs o.1),
)
  where
    n : ℕ → Bool
    n = with_reads m (k + 1) gs

    here : (t : Bool) → n k ≡ t → n k ≡ true → (with_gate t g n (g.first / 2) ≡ true) × (with_gate t g n (g.second / 2) ≡ true)
    here true is e = (
      keeps (with_value n (g.first / 2) true) (g.second / 2) (g.first / 2) (this n (g.first / 2) true (g.first / 2) refl),
      this (with_value n (g.first / 2) true) (g.second / 2) true (g.second / 2) refl,
    )
    here false is e = absurd (true≢false (sym e ∙ is))

-- ---- kept gates

-- a marked variable has in the kept gates, by its new number, the value that it had
kept-values : (m : ℕ → Bool) (k : ℕ) (gs : List Gate) (v w : ℕ → Bool) → AreOrdered k gs → AreClosed m k gs → ((x : ℕ) → x < k → m x ≡ true → w (place m x) ≡ v x)
    → (x : ℕ) → x < k + length gs → m x ≡ true → with_gates w (place m k) (kept m (place m) k gs) (place m x) ≡ with_gates v k gs x
kept-values m k [] v w o c same x lt here = same x (omega (arith, lt)) here
kept-values m k (g ∷ gs) v w o c same x lt here = go (λ a b h. kept-values m (k + 1) gs a b o.1 c.1 h x (omega (arith, lt)) here) (m k) refl
  where
    p : ℕ → ℕ
    p = place m

    b : Bool
    b = literal v g.first && literal v g.second

    rest : List Gate
    rest = kept m p (k + 1) gs

    go : ((y z : ℕ → Bool) → ((i : ℕ) → i < k + 1 → m i ≡ true → z (p i) ≡ y i) → with_gates z (p (k + 1)) rest (p x) ≡ with_gates y (k + 1) gs x)
        → (t : Bool) → m k ≡ t → with_gates w (p k) (kept_one t (moved_gate p g) rest) (p x) ≡ with_gates (with_value v k b) (k + 1) gs x
    go more false e = ap (λ q. with_gates w q rest (p x)) (sym (place-left m k e)) ∙ more (with_value v k b) w less
      where
        less : (y : ℕ) → y < k + 1 → m y ≡ true → w (p y) ≡ with_value v k b y
        less y below is =
            elim (cases_eq y k) [
              | inl at-k ↦ absurd (true≢false (sym is ∙ ap m at-k ∙ e))
              | inr ne ↦ same y (omega (arith, below, ne)) is ∙ sym (other v k b y ne)
            ]
    go more true e = ap (λ q. with_gates (with_value w (p k) d) q rest (p x)) (sym (place-kept m k e)) ∙ more (with_value v k b) (with_value w (p k) d) also
      where
        d : Bool
        d = literal w (moved p g.first) && literal w (moved p g.second)

        reads : (l : ℕ) → l < 2 * k → m (l / 2) ≡ true → literal w (moved p l) ≡ literal v l
        reads l low is = moved-literal v w p l (same (l / 2) (half-below l k low) is)

        d-is : d ≡ b
        d-is = ap (λ z. z && literal w (moved p g.second)) (reads g.first o.0.0 (c.0 e).0) ∙ ap (λ z. literal v g.first && z) (reads g.second o.0.1 (c.0 e).1)

        also : (y : ℕ) → y < k + 1 → m y ≡ true → with_value w (p k) d (p y) ≡ with_value v k b y
        also y below is =
            elim (cases_eq y k) [
              | inl at-k ↦ this w (p k) d (p y) (ap p at-k) ∙ d-is ∙ sym (this v k b y at-k)
              | inr ne ↦
                  let lower : y < k = omega (arith, below, ne) in
                  let apart = place-below m y k lower is in
                  other w (p k) d (p y) (λ q. omega (arith, q, apart)) ∙ same y lower is ∙ sym (other v k b y ne)
            ]

kept-ordered : (m : ℕ → Bool) (k : ℕ) (gs : List Gate) → AreOrdered k gs → AreClosed m k gs → AreOrdered (place m k) (kept m (place m) k gs)
kept-ordered m k [] o c = tt
kept-ordered m k (g ∷ gs) o c = go (kept-ordered m (k + 1) gs o.1 c.1) (m k) refl
  where
    p : ℕ → ℕ
    p = place m

    rest : List Gate
    rest = kept m p (k + 1) gs

    reads : (l : ℕ) → l < 2 * k → m (l / 2) ≡ true → moved p l < 2 * p k
    reads l low is = moved-below p l (p k) (place-below m (l / 2) k (half-below l k low) is)

    go : AreOrdered (p (k + 1)) rest → (t : Bool) → m k ≡ t → AreOrdered (p k) (kept_one t (moved_gate p g) rest)
    go more false e = subst (λ q. AreOrdered q rest) (place-left m k e) more
    go more true e = ((reads g.first o.0.0 (c.0 e).0, reads g.second o.0.1 (c.0 e).1), subst (λ q. AreOrdered q rest) (place-kept m k e) more)

kept-count : (m : ℕ → Bool) (p : ℕ → ℕ) (k : ℕ) (gs : List Gate) → place m (k + length gs) ≡ place m k + length (kept m p k gs)
kept-count m p k [] = let a : k + 0 ≡ k = omega arith in let b : place m k + 0 ≡ place m k = omega arith in ap (place m) a ∙ sym b
kept-count m p k (g ∷ gs) = let next : k + suc (length gs) ≡ k + 1 + length gs = omega arith in go (ap (place m) next ∙ kept-count m p (k + 1) gs) (m k) refl
  where
    rest : List Gate
    rest = kept m p (k + 1) gs

    go : place m (k + suc (length gs)) ≡ place m (k + 1) + length rest → (t : Bool) → m k ≡ t → place m (k + suc (length gs)) ≡ place m k + length (kept_one t (moved_gate p g) rest)
    go all false e = all ∙ ap (λ q. q + length rest) (place-left m k e)
    go all true e = let a : place m k + 1 + length rest ≡ place m k + suc (length rest) = omega arith in all ∙ ap (λ q. q + length rest) (place-kept m k e) ∙ a

kept-few : (m : ℕ → Bool) (p : ℕ → ℕ) (k : ℕ) (gs : List Gate) → length (kept m p k gs) ≤ length gs
kept-few m p k [] = omega arith
kept-few m p k (g ∷ gs) = go (kept-few m p (k + 1) gs) (m k)
  where
    go : length (kept m p (k + 1) gs) ≤ length gs → (t : Bool) → length (kept_one t (moved_gate p g) (kept m p (k + 1) gs)) ≤ suc (length gs)
    go rest true = omega (arith, rest)
    go rest false = omega (arith, rest)

-- other marks that are the same from the first gate on keep the same gates
kept-same : (m n : ℕ → Bool) (p : ℕ → ℕ) (k : ℕ) (gs : List Gate) → ((x : ℕ) → k ≤ x → m x ≡ n x) → kept m p k gs ≡ kept n p k gs
kept-same m n p k [] same = refl
kept-same m n p k (g ∷ gs) same =
    ap (λ t. kept_one t (moved_gate p g) (kept m p (k + 1) gs)) (same k (omega arith)) ∙ ap (kept_one (n k) (moved_gate p g)) (kept-same m n p (k + 1) gs (λ x le. same x (omega (arith, le))))

-- and so do other numbers that are the same before the last gate
kept-alike : (m : ℕ → Bool) (p q : ℕ → ℕ) (k : ℕ) (gs : List Gate) → AreOrdered k gs → ((x : ℕ) → x < k + length gs → p x ≡ q x) → kept m p k gs ≡ kept m q k gs
kept-alike m p q k [] o same = refl
kept-alike m p q k (g ∷ gs) o same =
    ap (λ h. kept_one (m k) h (kept m p (k + 1) gs)) gate ∙ ap (kept_one (m k) (moved_gate q g)) (kept-alike m p q (k + 1) gs o.1 (λ x lt. same x (omega (arith, lt))))
  where
    reads : (l : ℕ) → l < 2 * k → moved p l ≡ moved q l
    reads l low = let lower = half-below l k low in ap (λ y. 2 * y + l % 2) (same (l / 2) (omega (arith, lower)))

    gate : moved_gate p g ≡ moved_gate q g
    gate = ap (λ x. record { first = x; second = moved p g.second }) (reads g.first o.0.0) ∙ ap (λ x. record { first = moved q g.first; second = x }) (reads g.second o.0.1)

-- ---- what reads a gate

-- a literal of the variable is one of its new number
is-of-moved : (p : ℕ → ℕ) (x l : ℕ) → is_of x l ≡ true → is_of (p x) (moved p l) ≡ true
is-of-moved p x l e = eq-eqb (moved p l / 2) (p x) (moved-half p l ∙ ap p (eqb-true (l / 2) x e))

any-moved : (p : ℕ → ℕ) (x : ℕ) (ls : List ℕ) → list_any (is_of x) ls ≡ true → list_any (is_of (p x)) (map (moved p) ls) ≡ true
any-moved p x [] e = e
any-moved p x (l ∷ ls) e =
    elim (or_cases (is_of x l) (list_any (is_of x) ls) e) [
      | inl here ↦ or_left (is_of (p x) (moved p l)) (list_any (is_of (p x)) (map (moved p) ls)) (is-of-moved p x l here)
      | inr there ↦ or_right (is_of (p x) (moved p l)) (list_any (is_of (p x)) (map (moved p) ls)) (any-moved p x ls there)
    ]

-- a variable that is marked at last was marked before, or a kept gate reads it
read-why : (m : ℕ → Bool) (p : ℕ → ℕ) (k : ℕ) (gs : List Gate) → AreOrdered k gs → (x : ℕ) → with_reads m k gs x ≡ true
    → (m x ≡ true) ⊎ (list_any (is_of (p x)) (gate_literals (kept (with_reads m k gs) p k gs)) ≡ true)
read-why m p k [] o x e = inl e
read-why m p k (g ∷ gs) o x e =
    subst (λ t. (m x ≡ true) ⊎ (list_any (is_of (p x)) (gate_literals (kept_one t (moved_gate p g) (kept (with_gate (n k) g n) p (k + 1) gs))) ≡ true))
    (sym (gate-above (n k) g n k k o.0.0 o.0.1 (omega arith)))
    (subst (λ hs. (m x ≡ true) ⊎ (list_any (is_of (p x)) (gate_literals (kept_one (n k) (moved_gate p g) hs)) ≡ true))
    (kept-same n (with_gate (n k) g n) p (k + 1) gs (λ y le. sym (gate-above (n k) g n k y o.0.0 o.0.1 (omega (arith, le)))))
    (go (read-why m p (k + 1) gs o.1 x) (n k) e))
  where
    n : ℕ → Bool
    n = with_reads m (k + 1) gs

    rest : List Gate
    rest = kept n p (k + 1) gs

    q : ℕ → Bool
    q = is_of (p x)

    go : (n x ≡ true → (m x ≡ true) ⊎ (list_any q (gate_literals rest) ≡ true)) → (t : Bool) → with_gate t g n x ≡ true → (m x ≡ true) ⊎ (list_any q (gate_literals (kept_one t (moved_gate p g) rest)) ≡ true)
    go why false is = why is
    go why true is =
        elim (cases_eq x (g.second / 2)) [
          | inl second ↦
              inr (or_right (q (moved p g.first)) (q (moved p g.second) || list_any q (gate_literals rest))
              (or_left (q (moved p g.second)) (list_any q (gate_literals rest)) (is-of-moved p x g.second (eq-eqb (g.second / 2) x (sym second)))))
          | inr not-second ↦
              elim (cases_eq x (g.first / 2)) [
                | inl first ↦ inr (or_left (q (moved p g.first)) (q (moved p g.second) || list_any q (gate_literals rest)) (is-of-moved p x g.first (eq-eqb (g.first / 2) x (sym first))))
                | inr not-first ↦
                    elim (why (sym (other n (g.first / 2) true x not-first) ∙ sym (other (with_value n (g.first / 2) true) (g.second / 2) true x not-second) ∙ is)) [
                      | inl before ↦ inl before
                      | inr there ↦
                          inr (or_right (q (moved p g.first)) (q (moved p g.second) || list_any q (gate_literals rest)) (or_right (q (moved p g.second)) (list_any q (gate_literals rest)) there))
                    ]
              ]
        ]

-- each kept gate is read where its variable's new number is
all-read : (f : Form) (m : ℕ → Bool) (p : ℕ → ℕ) (k : ℕ) (gs : List Gate) → ((x : ℕ) → k ≤ x → m x ≡ true → is_read f (place m x) ≡ true) → AreRead f (place m k) (kept m p k gs)
all-read f m p k [] why = tt
all-read f m p k (g ∷ gs) why = go (all-read f m p (k + 1) gs (λ x le. why x (omega (arith, le)))) (m k) refl
  where
    go : AreRead f (place m (k + 1)) (kept m p (k + 1) gs) → (t : Bool) → m k ≡ t → AreRead f (place m k) (kept_one t (moved_gate p g) (kept m p (k + 1) gs))
    go rest false e = subst (λ q. AreRead f q (kept m p (k + 1) gs)) (place-left m k e) rest
    go rest true e = (why k (omega arith) e, subst (λ q. AreRead f q (kept m p (k + 1) gs)) (place-kept m k e) rest)

-- ---- lists of literals

all-marked : (m : ℕ → Bool) (ls : List ℕ) → ((x : ℕ) → list_any (is_of x) ls ≡ true → m x ≡ true) → AllByRecursion (λ l. m (l / 2) ≡ true) ls
all-marked m [] why = tt
all-marked m (l ∷ ls) why =
    (why (l / 2) (or_left (is_of (l / 2) l) (list_any (is_of (l / 2)) ls) (eq-eqb (l / 2) (l / 2) refl)), all-marked m ls (λ x e. why x (or_right (is_of x l) (list_any (is_of x) ls) e)))

half-within : (l n : ℕ) → l ≤ 2 * n + 1 → l / 2 < n + 1
half-within l n le = omega (arith, le)

literals-same : (m v w : ℕ → Bool) (p : ℕ → ℕ) (n : ℕ) → ((x : ℕ) → x < n + 1 → m x ≡ true → w (p x) ≡ v x) → (ls : List ℕ) → AllByRecursion (λ l. m (l / 2) ≡ true) ls → AllByRecursion (λ l. l ≤ 2 * n + 1) ls
    → map (literal w) (map (moved p) ls) ≡ map (literal v) ls
literals-same m v w p n same [] a b = refl
literals-same m v w p n same (l ∷ ls) a b =
    ap (λ z. z ∷ map (literal w) (map (moved p) ls)) (moved-literal v w p l (same (l / 2) (half-within l n b.0) a.0)) ∙ ap (λ zs. literal v l ∷ zs) (literals-same m v w p n same ls a.1 b.1)

literals-within : (m : ℕ → Bool) (n k : ℕ) → place m (n + 1) ≡ k + 1 → (ls : List ℕ) → AllByRecursion (λ l. m (l / 2) ≡ true) ls → AllByRecursion (λ l. l ≤ 2 * n + 1) ls → AllByRecursion (λ l. l ≤ 2 * k + 1) (map (moved (place m)) ls)
literals-within m n k e [] a b = tt
literals-within m n k e (l ∷ ls) a b =
    let below = place-below m (l / 2) (n + 1) (half-within l n b.0) a.0 in
    let here = moved-below (place m) l (k + 1) (omega (arith, below, e)) in
    (omega (arith, here), literals-within m n k e ls a.1 b.1)

literals-alike : (p q : ℕ → ℕ) (n : ℕ) → ((x : ℕ) → x < n + 1 → p x ≡ q x) → (ls : List ℕ) → AllByRecursion (λ l. l ≤ 2 * n + 1) ls → map (moved p) ls ≡ map (moved q) ls
literals-alike p q n same [] b = refl
literals-alike p q n same (l ∷ ls) b =
    ap (λ y. (2 * y + l % 2) ∷ map (moved p) ls) (same (l / 2) (half-within l n b.0)) ∙ ap (λ zs. moved q l ∷ zs) (literals-alike p q n same ls b.1)

-- ---- the form

-- the marked part of a form, of these numbers
abbrev pub part_of : Form → (ℕ → Bool) → (ℕ → ℕ) → Form
part_of f m p = record { inputs = f.inputs; latches = map (moved p) f.latches; outputs = map (moved p) f.outputs; gates = kept m p (first_gate f) f.gates }

module _ (f : Form) (is : IsForm f) where
  abbrev g : Form
  g = part_of f (needs f) (place (needs f))

  behind : last_variable f + 1 ≡ first_gate f + length f.gates
  behind = omega arith

  base : (x : ℕ) → x < first_gate f → needs f x ≡ true
  base x lt =
      reads-keep (begins f) (first_gate f) f.gates x
      (or_left (nat_lt x (first_gate f) || list_any (is_of x) f.outputs) (list_any (is_of x) f.latches) (or_left (nat_lt x (first_gate f)) (list_any (is_of x) f.outputs) (lt-ltb x (first_gate f) lt)))

  outputs-marked : AllByRecursion (λ l. needs f (l / 2) ≡ true) f.outputs
  outputs-marked =
      all-marked (needs f) f.outputs (λ x e. reads-keep (begins f) (first_gate f) f.gates x
      (or_left (nat_lt x (first_gate f) || list_any (is_of x) f.outputs) (list_any (is_of x) f.latches) (or_right (nat_lt x (first_gate f)) (list_any (is_of x) f.outputs) e)))

  latches-marked : AllByRecursion (λ l. needs f (l / 2) ≡ true) f.latches
  latches-marked = all-marked (needs f) f.latches (λ x e. reads-keep (begins f) (first_gate f) f.gates x (or_right (nat_lt x (first_gate f) || list_any (is_of x) f.outputs) (list_any (is_of x) f.latches) e))

  first-place : place (needs f) (first_gate f) ≡ first_gate f
  first-place = place-all (needs f) (first_gate f) base

  first-same : first_gate g ≡ place (needs f) (first_gate f)
  first-same = ap (λ n. f.inputs + n + 1) (length-map f.latches (moved (place (needs f)))) ∙ sym first-place

  are-closed : AreClosed (needs f) (first_gate f) f.gates
  are-closed = closed (begins f) (first_gate f) f.gates is.ordered

  variables : (input state : ℕ → Bool) (x : ℕ) → x < last_variable f + 1 → needs f x ≡ true → values g input state (place (needs f) x) ≡ values f input state x
  variables input state x lt e =
      ap (λ q. with_gates (given f input state) q (kept (needs f) (place (needs f)) (first_gate f) f.gates) (place (needs f) x)) first-same
      ∙ kept-values (needs f) (first_gate f) f.gates (given f input state) (given f input state) is.ordered are-closed
      (λ y low marked. ap (given f input state) (place-all (needs f) y (λ z less. base z (omega (arith, less, low))))) x (omega (arith, lt, behind)) e

  last-place : place (needs f) (last_variable f + 1) ≡ last_variable g + 1
  last-place =
      let count = kept-count (needs f) (place (needs f)) (first_gate f) f.gates in
      let whole = ap (place (needs f)) behind in
      let first = first-same in
      omega (arith, count, whole, first)

  read-again : (x : ℕ) → first_gate f ≤ x → needs f x ≡ true → is_read g (place (needs f) x) ≡ true
  read-again x le e =
      elim (read-why (begins f) (place (needs f)) (first_gate f) f.gates is.ordered x e) [
        | inr gate ↦ or_right (list_any q g.outputs || list_any q g.latches) (list_any q (gate_literals g.gates)) gate
        | inl before ↦
            elim (or_cases (nat_lt x (first_gate f) || list_any (is_of x) f.outputs) (list_any (is_of x) f.latches) before) [
              | inr latch ↦
                  or_left (list_any q g.outputs || list_any q g.latches) (list_any q (gate_literals g.gates)) (or_right (list_any q g.outputs) (list_any q g.latches) (any-moved (place (needs f)) x f.latches latch))
              | inl low ↦
                  elim (or_cases (nat_lt x (first_gate f)) (list_any (is_of x) f.outputs) low) [
                    | inl less ↦ absurd (let lt = ltb-true x (first_gate f) less in omega (arith, lt, le))
                    | inr output ↦
                        or_left (list_any q g.outputs || list_any q g.latches) (list_any q (gate_literals g.gates)) (or_left (list_any q g.outputs) (list_any q g.latches) (any-moved (place (needs f)) x f.outputs output))
                  ]
            ]
      ]
    where
      q : ℕ → Bool
      q = is_of (place (needs f) x)

  pub part-trimmed : IsTrimmed f g
  part-trimmed =
      let few = kept-few (needs f) (place (needs f)) (first_gate f) f.gates in
      let latches = length-map f.latches (moved (place (needs f))) in
      let fits = is.fits in
      record {
        form = record {
          ordered = subst (λ q. AreOrdered q g.gates) (sym first-same) (kept-ordered (needs f) (first_gate f) f.gates is.ordered are-closed);
          latches = literals-within (needs f) (last_variable f) (last_variable g) last-place f.latches latches-marked is.latches;
          outputs = literals-within (needs f) (last_variable f) (last_variable g) last-place f.outputs outputs-marked is.outputs;
          fits = omega (arith, fits, few, latches);
          count = subst (λ n. n < 2 ^ 64) (sym (length-map f.outputs (moved (place (needs f))))) is.count;
        };
        inputs = refl;
        latches = latches;
        next = λ input state. literals-same (needs f) (values f input state) (values g input state) (place (needs f)) (last_variable f) (variables input state) f.latches latches-marked is.latches;
        outputs = λ input state. literals-same (needs f) (values f input state) (values g input state) (place (needs f)) (last_variable f) (variables input state) f.outputs outputs-marked is.outputs;
        few = few;
        needed = subst (λ q. AreRead g q g.gates) (sym first-same) (all-read g (needs f) (place (needs f)) (first_gate f) f.gates read-again);
      }

  -- other numbers serve, where they are the same at the form's variables
  pub part-alike : (p : ℕ → ℕ) → ((x : ℕ) → x < last_variable f + 1 → p x ≡ place (needs f) x) → part_of f (needs f) p ≡ part_of f (needs f) (place (needs f))
  part-alike p same =
      ap (λ ls. record { inputs = f.inputs; latches = ls; outputs = map (moved p) f.outputs; gates = kept (needs f) p (first_gate f) f.gates }) (literals-alike p (place (needs f)) (last_variable f) same f.latches is.latches)
      ∙ ap (λ ls. record { inputs = f.inputs; latches = map (moved (place (needs f))) f.latches; outputs = ls; gates = kept (needs f) p (first_gate f) f.gates }) (literals-alike p (place (needs f)) (last_variable f) same f.outputs is.outputs)
      ∙ ap (λ gs. record { inputs = f.inputs; latches = map (moved (place (needs f))) f.latches; outputs = map (moved (place (needs f))) f.outputs; gates = gs })
      (kept-alike (needs f) p (place (needs f)) (first_gate f) f.gates is.ordered (λ x lt. same x (omega (arith, lt, behind))))

-- what the code makes, of marks and numbers in lists
pub made-trimmed : (f : Form) → IsForm f → (marks : List Bool) (numbers : List ℕ) → length marks ≡ last_variable f + 1 → ((x : ℕ) → at marks x ≡ needs f x)
    → ((x : ℕ) → x < length marks → slice_index numbers x ≡ place (at marks) x) → (first : ℕ) → first ≡ first_gate f → (latches outputs : List ℕ) (gates : List Gate)
    → latches ≡ map (moved (slice_index numbers)) f.latches → outputs ≡ map (moved (slice_index numbers)) f.outputs → gates ≡ kept (at marks) (slice_index numbers) first f.gates
    → IsTrimmed f (record { inputs = f.inputs; latches = latches; outputs = outputs; gates = gates })
made-trimmed f is marks numbers long marked numbered first at-first latches outputs gates a b c = subst (IsTrimmed f) (sym (whole ∙ part-alike f is p places)) (part-trimmed f is)
  where
    p : ℕ → ℕ
    p = slice_index numbers

    same : at marks ≡ needs f
    same = fun_ext marked

    kept-is : gates ≡ kept (needs f) p (first_gate f) f.gates
    kept-is = c ∙ ap (λ m. kept m p first f.gates) same ∙ ap (λ k. kept (needs f) p k f.gates) at-first

    whole : record { inputs = f.inputs; latches = latches; outputs = outputs; gates = gates } ≡ part_of f (needs f) p
    whole = λ i. record { inputs = f.inputs; latches = a i; outputs = b i; gates = kept-is i }

    places : (x : ℕ) → x < last_variable f + 1 → p x ≡ place (needs f) x
    places x lt = numbered x (omega (arith, lt, long)) ∙ ap (λ m. place m x) same
