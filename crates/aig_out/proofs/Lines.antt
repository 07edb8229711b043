-- The lines so far, and the others.
use Rattle.std.proofs.Common.{◌≡◌, ℕ, zero, suc, ◌+◌, ◌-◌, ◌*◌, ◌<◌, ◌≤◌, List, [], ◌∷◌, ◌++◌, length, get_or, take, drop, refl, sym, ◌∙◌, ap, arith, append_assoc}
use Rattle.std.specs.Prelude.{decimal, codes}
use Rattle.std.proofs.lemmas.List.{take_rest, append-nil, take_more, take-append-drop, length-take-le}
use Rattle.aig_model.specs.declared.form.Gate.{Gate}
use Rattle.aig_model.specs.Form.{Form, first_gate}
use Rattle.aig_model.specs.Text.{line, input_lines, latch_lines, output_lines, gate_lines, text_of}
use Rattle.aig_out.specs.Forms.{head_line}

-- numbered lines
numbered : {A : Type 0} → (ℕ → A → List ℕ) → ℕ → List A → List ℕ
numbered f k [] = []
numbered f k (x ∷ xs) = f k x ++ numbered f (k + 1) xs

numbered-both : {A : Type 0} (f : ℕ → A → List ℕ) (k : ℕ) (xs ys : List A) → numbered f k (xs ++ ys) ≡ numbered f k xs ++ numbered f (k + length xs) ys
unfolding numbered
numbered-both f k [] ys = ap (λ j. numbered f j ys) (omega arith)
numbered-both f k (x ∷ xs) ys =
    ap (λ z. f k x ++ z) (numbered-both f (k + 1) xs ys ∙ ap (λ j. numbered f (k + 1) xs ++ numbered f j ys) (omega arith)) ∙ sym (append_assoc (f k x) (numbered f (k + 1) xs) (numbered f (k + suc (length xs)) ys))

-- one more line
numbered-more : {A : Type 0} (f : ℕ → A → List ℕ) (k : ℕ) (xs : List A) (i : ℕ) (d : A) → i < length xs → numbered f k (take i xs) ++ f (k + i) (get_or xs i d) ≡ numbered f k (take (i + 1) xs)
unfolding numbered
numbered-more f k xs i d lt =
    sym (ap (numbered f k) (take_more xs i d lt) ∙ numbered-both f k (take i xs) (get_or xs i d ∷ []) ∙ ap (λ z. numbered f k (take i xs) ++ z) (append-nil (f (k + length (take i xs)) (get_or xs i d)))
    ∙ ap (λ j. numbered f k (take i xs) ++ f (k + j) (get_or xs i d)) (length-take-le i xs (omega (arith, lt))))

numbered-split : {A : Type 0} (f : ℕ → A → List ℕ) (k : ℕ) (xs : List A) (i : ℕ) → numbered f k (take i xs) ++ numbered f (k + length (take i xs)) (drop i xs) ≡ numbered f k xs
numbered-split f k xs i = sym (ap (numbered f k) (sym (take-append-drop i xs)) ∙ numbered-both f k (take i xs) (drop i xs))

latches-numbered : (k : ℕ) (xs : List ℕ) → numbered (λ k x. line (2 * k) (x ∷ [])) k xs ≡ latch_lines k xs
unfolding numbered
latches-numbered k [] = refl
latches-numbered k (x ∷ xs) = ap (λ z. line (2 * k) (x ∷ []) ++ z) (latches-numbered (k + 1) xs)

outputs-numbered : (k : ℕ) (xs : List ℕ) → numbered (λ k x. line x []) k xs ≡ output_lines xs
unfolding numbered
outputs-numbered k [] = refl
outputs-numbered k (x ∷ xs) = ap (λ z. line x [] ++ z) (outputs-numbered (k + 1) xs)

gates-numbered : (k : ℕ) (xs : List Gate) → numbered (λ k (g : Gate). line (2 * k) (g.first ∷ g.second ∷ [])) k xs ≡ gate_lines k xs
unfolding numbered
gates-numbered k [] = refl
gates-numbered k (x ∷ xs) = ap (λ z. line (2 * k) (x.first ∷ x.second ∷ []) ++ z) (gates-numbered (k + 1) xs)

-- what is put so far, one more line, and the rest: of latches, outputs and gates
pub latches-more : (k : ℕ) (xs : List ℕ) (i d : ℕ) → i < length xs → latch_lines k (take i xs) ++ line (2 * (k + i)) (get_or xs i d ∷ []) ≡ latch_lines k (take (i + 1) xs)
latches-more k xs i d lt =
    ap (λ z. z ++ line (2 * (k + i)) (get_or xs i d ∷ [])) (sym (latches-numbered k (take i xs))) ∙ numbered-more (λ k x. line (2 * k) (x ∷ [])) k xs i d lt ∙ latches-numbered k (take (i + 1) xs)

pub latches-rest : (k : ℕ) (xs : List ℕ) (i : ℕ) → latch_lines k (take i xs) ++ latch_lines (k + length (take i xs)) (drop i xs) ≡ latch_lines k xs
latches-rest k xs i =
    ap (λ z. z ++ latch_lines (k + length (take i xs)) (drop i xs)) (sym (latches-numbered k (take i xs))) ∙ ap (λ z. numbered (λ k x. line (2 * k) (x ∷ [])) k (take i xs) ++ z) (sym (latches-numbered (k + length (take i xs)) (drop i xs)))
    ∙ numbered-split (λ k x. line (2 * k) (x ∷ [])) k xs i ∙ latches-numbered k xs

pub outputs-more : (xs : List ℕ) (i d : ℕ) → i < length xs → output_lines (take i xs) ++ line (get_or xs i d) [] ≡ output_lines (take (i + 1) xs)
outputs-more xs i d lt =
    ap (λ z. z ++ line (get_or xs i d) []) (sym (outputs-numbered 0 (take i xs))) ∙ numbered-more (λ k x. line x []) 0 xs i d lt ∙ outputs-numbered 0 (take (i + 1) xs)

pub outputs-rest : (xs : List ℕ) (i : ℕ) → output_lines (take i xs) ++ output_lines (drop i xs) ≡ output_lines xs
outputs-rest xs i =
    ap (λ z. z ++ output_lines (drop i xs)) (sym (outputs-numbered 0 (take i xs))) ∙ ap (λ z. numbered (λ k x. line x []) 0 (take i xs) ++ z) (sym (outputs-numbered (0 + length (take i xs)) (drop i xs)))
    ∙ numbered-split (λ k x. line x []) 0 xs i ∙ outputs-numbered 0 xs

pub gates-more : (k : ℕ) (xs : List Gate) (i : ℕ) (d : Gate) → i < length xs → gate_lines k (take i xs) ++ line (2 * (k + i)) ((get_or xs i d).first ∷ (get_or xs i d).second ∷ []) ≡ gate_lines k (take (i + 1) xs)
gates-more k xs i d lt =
    ap (λ z. z ++ line (2 * (k + i)) ((get_or xs i d).first ∷ (get_or xs i d).second ∷ [])) (sym (gates-numbered k (take i xs))) ∙ numbered-more (λ k (g : Gate). line (2 * k) (g.first ∷ g.second ∷ [])) k xs i d lt ∙ gates-numbered k (take (i + 1) xs)

pub gates-rest : (k : ℕ) (xs : List Gate) (i : ℕ) → gate_lines k (take i xs) ++ gate_lines (k + length (take i xs)) (drop i xs) ≡ gate_lines k xs
gates-rest k xs i =
    ap (λ z. z ++ gate_lines (k + length (take i xs)) (drop i xs)) (sym (gates-numbered k (take i xs)))
    ∙ ap (λ z. numbered (λ k (g : Gate). line (2 * k) (g.first ∷ g.second ∷ [])) k (take i xs) ++ z) (sym (gates-numbered (k + length (take i xs)) (drop i xs)))
    ∙ numbered-split (λ k (g : Gate). line (2 * k) (g.first ∷ g.second ∷ [])) k xs i ∙ gates-numbered k xs

-- and of inputs
pub inputs-both : (k i j : ℕ) → input_lines k i ++ input_lines (k + i) j ≡ input_lines k (i + j)
inputs-both k zero j =
    let a : k + 0 ≡ k = omega arith in
    let b : j ≡ 0 + j = omega arith in
    ap (λ z. input_lines z j) a ∙ ap (input_lines k) b
inputs-both k (suc i) j =
    let a : k + suc i ≡ k + 1 + i = omega arith in
    let b : suc (i + j) ≡ suc i + j = omega arith in
    append_assoc (line (2 * k) []) (input_lines (k + 1) i) (input_lines (k + suc i) j) ∙ ap (λ z. line (2 * k) [] ++ (input_lines (k + 1) i ++ input_lines z j)) a
    ∙ ap (λ z. line (2 * k) [] ++ z) (inputs-both (k + 1) i j) ∙ ap (input_lines k) b

pub inputs-more : (i : ℕ) → input_lines 1 i ++ line (2 * (1 + i)) [] ≡ input_lines 1 (i + 1)
inputs-more i = ap (λ z. input_lines 1 i ++ z) (sym (append-nil (line (2 * (1 + i)) []))) ∙ inputs-both 1 i 1

pub inputs-rest : (i n : ℕ) → i ≤ n → input_lines 1 i ++ input_lines (1 + i) (n - i) ≡ input_lines 1 n
inputs-rest i n le = let e : i + (n - i) ≡ n = omega (arith, le) in inputs-both 1 i (n - i) ∙ ap (input_lines 1) e

-- a number, and the numbers behind it
pub line-more : (n : ℕ) (ms : List ℕ) → 0 < length ms → (decimal n ++ 32 ∷ []) ++ line (get_or ms 0 0) (take (length ms - 1) (drop 1 ms)) ≡ line n ms
line-more n [] lt = absurd (omega (arith, lt))
line-more n (m ∷ ms) lt = ap (λ z. (decimal n ++ 32 ∷ []) ++ line m z) (take_rest (m ∷ ms) 1) ∙ append_assoc (decimal n) (32 ∷ []) (line m ms)

pub head-is : (i a b g x y z : ℕ) → a ≡ x → b ≡ y → g ≡ z → line (i + a + g) (i ∷ a ∷ b ∷ g ∷ []) ≡ line (i + x + z) (i ∷ x ∷ y ∷ z ∷ [])
head-is i a b g x y z p q r = ap (λ k. line (i + k + g) (i ∷ k ∷ b ∷ g ∷ [])) p ∙ ap (λ k. line (i + x + g) (i ∷ x ∷ k ∷ g ∷ [])) q ∙ ap (λ k. line (i + x + k) (i ∷ x ∷ y ∷ k ∷ [])) r

pub text-is : (f : Form) → (codes "aag " ++ head_line f) ++ (input_lines 1 f.inputs ++ (latch_lines (f.inputs + 1) f.latches ++ (output_lines f.outputs ++ gate_lines (first_gate f) f.gates))) ≡ text_of f
unfolding text_of
text-is f = refl
