-- Words that are no longer than their bounds.
use Rattle.std.proofs.Common.{◌≡◌, ◌≢◌, ℕ, zero, suc, ◌+◌, ◌*◌, ◌<◌, ◌≤◌, ◌^◌, Bool, true, false, List, [], ◌∷◌, ◌++◌, length, get_or, set, drop, refl, sym, ◌∙◌, ap, subst, arith, inl, inr, eqb-true, eq-eqb, get_or-set_same, get_or-set_other}
use Rattle.std.specs.Prelude.{◌==◌, if◌then◌else◌}
use Rattle.std.proofs.lemmas.Bool.{cases_lt}
use Rattle.std.proofs.lemmas.Nat.{pow_pos}
use Rattle.std.proofs.lemmas.List.{at_drop_more, set_past, drop_all}
use Rattle.std.proofs.Math.Pow.{pow_mono}
use Rattle.aig_model.specs.Netlist.{Net}
use Rattle.vl_run.specs.declared.step.Action.{Action}
use Rattle.vl_run.specs.declared.step.Action.TheVariants.{Number, Copy, Bits, Not, Two, Choose, Load, Join}
use Rattle.vl_run.specs.declared.step.Step.{Step}
use Rattle.aig_cycle.specs.Steps.{Wired}
use Rattle.aig_cycle.specs.Short.{lengths, bounded, IsShort, Bounds, IsWithin, AreShort, RunShort, IsShortSettle, AreShortSettles, AreWithin, IsShortEdge, AreShortEdges}

-- ---- powers

pub pow-fits : (a k : ℕ) → 2 ^ a ≤ 2 ^ k → a ≤ k
pow-fits a k h = elim (cases_lt k a) [ inl less ↦ absurd (no less) | inr le ↦ le ]
  where
    no : k < a → ⊥
    no less =
        let up : k + 1 ≤ a = omega (arith, less) in
        let larger = pow_mono up in
        let next : k + 1 ≡ suc k = omega arith in
        let double : 2 ^ (k + 1) ≡ 2 * 2 ^ k = ap (λ z. 2 ^ z) next ∙ omega arith in
        let some = pow_pos k in
        omega (arith, larger, double, h, some)

-- ---- lower bounds

bounded-lower : (i k : ℕ) (a b : ℕ → ℕ) → ((j : ℕ) → a j ≤ b j) → (j : ℕ) → bounded i k a j ≤ bounded i k b j
bounded-lower i k a b low j = go (j == i)
  where
    go : (t : Bool) → (if t then k else a j) ≤ (if t then k else b j)
    go true = omega arith
    go false = low j

short-lower : (a b : ℕ → ℕ) → ((j : ℕ) → a j ≤ b j) → (x : Action) (k : ℕ) → IsShort b x k → IsShort a x k
short-lower a b low (Number n) k h = h
short-lower a b low (Copy i) k h = let l = low i in omega (arith, l, h)
short-lower a b low (Bits i l m) k h = h
short-lower a b low (Not i m) k h = let l = pow_mono (low i) in let h1 = h.1 in (h.0, omega (arith, l, h1))
short-lower a b low (Two op m p q) k h = h
short-lower a b low (Choose c p q) k h = h
short-lower a b low (Load m i) k h = h
short-lower a b low (Join i s e) k h =
    let l = low i in
    let r = low e in
    let f = h.fits in
    let m = h.most in
    record { width = h.width; narrow = h.narrow; is = h.is; fits = omega (arith, r, f); most = omega (arith, l, m) }

pub shorts-lower : (x : Bounds) (ss : List Step) (a b : ℕ → ℕ) → ((j : ℕ) → a j ≤ b j) → AreShort x ss b → AreShort x ss a
shorts-lower x [] a b low h = λ n k. (let l = low (x.place n) in let m = h n k in omega (arith, l, m))
shorts-lower x (s ∷ ss) a b low h =
    (h.0, (short-lower a b low s.action h.0 h.1.0, shorts-lower x ss (bounded s.to h.0 a) (bounded s.to h.0 b) (bounded-lower s.to h.0 a b low) h.1.1))

-- a write of a short word
pub lengths-set : (ws : List (List ℕ)) (i : ℕ) (w : List ℕ) (k : ℕ) → length w ≤ k → (j : ℕ) → lengths (set ws i w) j ≤ bounded i k (lengths ws) j
lengths-set ws i w k le j = go (j == i) refl
  where
    here : length (get_or (set ws i w) i []) ≤ k
    here = elim (cases_lt i (length ws)) [
      | inl lt ↦ subst (λ z. length z ≤ k) (sym (get_or-set_same ws i w [] lt)) le
      | inr past ↦ subst (λ z. length z ≤ k) (sym (ap (λ z. get_or z i []) (set_past ws i w past) ∙ beyond ws i past)) (omega arith)
    ]
      where
        beyond : (xs : List (List ℕ)) (i : ℕ) → length xs ≤ i → get_or xs i [] ≡ []
        beyond [] i past = refl
        beyond (y ∷ xs) zero past = absurd (omega (arith, past))
        beyond (y ∷ xs) (suc i) past = beyond xs i (omega (arith, past))

    go : (t : Bool) → (j == i) ≡ t → length (get_or (set ws i w) j []) ≤ (if t then k else length (get_or ws j []))
    go true e = subst (λ z. length (get_or (set ws i w) z []) ≤ k) (sym (eqb-true j i e)) here
    go false e =
        let other : j ≢ i = λ same. (let t : (j == i) ≡ true = eq-eqb j i same in cc) in
        subst (λ z. length z ≤ length (get_or ws j [])) (sym (get_or-set_other ws i j w [] other)) (omega arith)

-- ---- steps in a row

abbrev pub RunsShort : Net → Net → List Step → List (List ℕ) → List (List ℕ) → ℕ → Type 0
RunsShort n0 n ss first now' i = (x : Bounds) (rest : List Step) → AreShort x (ss ++ rest) (lengths first) → (n ≡ n0) × AreShort x (drop i ss ++ rest) (lengths now')

pub short-none : (n : Net) (ss : List Step) (first : List (List ℕ)) → RunsShort n n ss first first 0
short-none n ss first x rest h = (refl, subst (λ z. AreShort x (z ++ rest) (lengths first)) (whole ss) h)
  where
    whole : (xs : List Step) → xs ≡ drop 0 xs
    whole [] = refl
    whole (y ∷ xs) = refl

pub short-more : (n0 n m : Net) (ss : List Step) (first now' next : List (List ℕ)) (i : ℕ) (s : Step) (w : List ℕ) → i < length ss → s ≡ get_or ss i s
    → ((k : ℕ) → IsShort (lengths now') s.action k → (m ≡ n) × (length w ≤ k)) → next ≡ set now' s.to w → RunsShort n0 n ss first now' i → RunsShort n0 m ss first next (i + 1)
short-more n0 n m ss first now' next i s w lt at says put r x rest h =
    let before = r x rest h in
    let e : drop i ss ≡ s ∷ drop (i + 1) ss = at_drop_more (λ z. z) ss i s lt ∙ ap (λ (z : Step). z ∷ drop (i + 1) ss) (sym at) in
    let all : AreShort x (s ∷ (drop (i + 1) ss ++ rest)) (lengths now') = subst (λ z. AreShort x (z ++ rest) (lengths now')) e before.1 in
    let one = says all.0 all.1.0 in (
      one.0 ∙ before.0,
      subst (λ z. AreShort x (drop (i + 1) ss ++ rest) (lengths z)) (sym put)
          (shorts-lower x (drop (i + 1) ss ++ rest) (lengths (set now' s.to w)) (bounded s.to all.0 (lengths now')) (lengths-set now' s.to w all.0 one.1) all.1.1),
    )

pub short-all : (n0 n : Net) (ss : List Step) (first now' : List (List ℕ)) (i : ℕ) → length ss ≤ i → RunsShort n0 n ss first now' i → RunShort n0 n ss (lengths first) (lengths now')
short-all n0 n ss first now' i all r x rest h =
    let a = r x rest h in
    (a.0, subst (λ z. AreShort x (z ++ rest) (lengths now')) (drop_all i ss all) a.1)

pub shorts-end : (x : Bounds) (ss : List Step) (b : ℕ → ℕ) → AreShort x ss b → AreShort x (ss ++ []) b
shorts-end x [] b h = h
shorts-end x (s ∷ ss) b h = (h.0, (h.1.0, shorts-end x ss (bounded s.to h.0 b) h.1.1))

-- ---- all instances

-- the first i have settled
abbrev pub Half : ℕ → List Bounds → List Wired → Type 0
Half i [] [] = Unit {0}
Half zero (x ∷ xs) (p ∷ ps) = IsShortSettle x p × Half zero xs ps
Half (suc i) (x ∷ xs) (p ∷ ps) = IsWithin x (lengths p.wires.nets) × Half i xs ps
Half i (x ∷ xs) [] = ⊥
Half i [] (p ∷ ps) = ⊥

pub half-none : (xs : List Bounds) (ps : List Wired) → AreShortSettles xs ps → Half 0 xs ps
half-none [] [] h = tt
half-none [] (p ∷ ps) h = h
half-none (x ∷ xs) [] h = h
half-none (x ∷ xs) (p ∷ ps) h = (h.0, half-none xs ps h.1)

pub half-all : (xs : List Bounds) (ps : List Wired) (i : ℕ) → length ps ≤ i → Half i xs ps → AreWithin xs ps
half-all [] [] i all h = tt
half-all [] (p ∷ ps) i all h = h
half-all (x ∷ xs) [] i all h = h
half-all (x ∷ xs) (p ∷ ps) zero all h = absurd (omega (arith, all))
half-all (x ∷ xs) (p ∷ ps) (suc i) all h = (h.0, half-all xs ps i (omega (arith, all)) h.1)

half-more : (n m : Net) (xs : List Bounds) (ps : List Wired) (i : ℕ) (p q : Wired) → i < length ps → p ≡ get_or ps i p → ((x : Bounds) → IsShortSettle x p → (m ≡ n) × IsWithin x (lengths q.wires.nets))
    → Half i xs ps → (m ≡ n) × Half (suc i) xs (set ps i q)
half-more n m xs [] i p q lt at says h = absurd (omega (arith, lt))
half-more n m [] (y ∷ ps) i p q lt at says h = absurd h
half-more n m (x ∷ xs) (y ∷ ps) zero p q lt at says h = let a = says x (subst (IsShortSettle x) (sym at) h.0) in (a.0, (a.1, h.1))
half-more n m (x ∷ xs) (y ∷ ps) (suc i) p q lt at says h = let a = half-more n m xs ps i p q (omega (arith, lt)) at says h.1 in (a.0, (h.0, a.1))

abbrev pub Settling : Net → Net → List Wired → List Wired → ℕ → Type 0
Settling n0 n first now' i = (xs : List Bounds) → AreShortSettles xs first → (n ≡ n0) × Half i xs now'

pub settling-more : (n0 n m : Net) (first now' : List Wired) (i : ℕ) (p q : Wired) → i < length now' → p ≡ get_or now' i p → ((x : Bounds) → IsShortSettle x p → (m ≡ n) × IsWithin x (lengths q.wires.nets))
    → Settling n0 n first now' i → Settling n0 m first (set now' i q) (i + 1)
settling-more n0 n m first now' i p q lt at says r xs h =
    let a = r xs h in
    let b = half-more n m xs now' i p q lt at says a.1 in
    let e : suc i ≡ i + 1 = omega arith in
    (b.0 ∙ a.0, subst (λ j. Half j xs (set now' i q)) e b.1)

-- behind the first i, an edge needs no gate
abbrev pub Left : List (List ℕ) → ℕ → List Wired → Type 0
Left tops zero ps = AreShortEdges tops ps
Left tops (suc i) [] = Unit {0}
Left tops (suc i) (p ∷ ps) = Left tops i ps

left-at : (tops : List (List ℕ)) (ps : List Wired) (i : ℕ) (p : Wired) → i < length ps → p ≡ get_or ps i p → Left tops i ps → IsShortEdge tops p
left-at tops [] i p lt at h = absurd (omega (arith, lt))
left-at tops (y ∷ ps) zero p lt at h = subst (IsShortEdge tops) (sym at) h.0
left-at tops (y ∷ ps) (suc i) p lt at h = left-at tops ps i p (omega (arith, lt)) at h

left-set : (tops : List (List ℕ)) (ps : List Wired) (i : ℕ) (q : Wired) → i < length ps → Left tops i ps → Left tops (suc i) (set ps i q)
left-set tops [] i q lt h = absurd (omega (arith, lt))
left-set tops (y ∷ ps) zero q lt h = h.1
left-set tops (y ∷ ps) (suc i) q lt h = left-set tops ps i q (omega (arith, lt)) h

abbrev pub Moving : List (List ℕ) → Net → Net → List Wired → List Wired → ℕ → Type 0
Moving tops n0 n first now' i = AreShortEdges tops first → (n ≡ n0) × Left tops i now'

pub moving-more : (tops : List (List ℕ)) (n0 n m : Net) (first now' : List Wired) (i : ℕ) (p q : Wired) → i < length now' → p ≡ get_or now' i p → (IsShortEdge tops p → m ≡ n)
    → Moving tops n0 n first now' i → Moving tops n0 m first (set now' i q) (i + 1)
moving-more tops n0 n m first now' i p q lt at says r h =
    let a = r h in
    let e : suc i ≡ i + 1 = omega arith in
    (says (left-at tops now' i p lt at a.1) ∙ a.0, subst (λ j. Left tops j (set now' i q)) e (left-set tops now' i q lt a.1))
