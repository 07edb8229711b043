-- The rows of an expression have the labels of its bits.
use Rattle.std.proofs.Common.{◌≡◌, ℕ, zero, suc, ◌+◌, ◌-◌, ◌*◌, ◌<◌, ◌≤◌, ◌^◌, Bool, true, false, ◌&&◌, List, [], ◌∷◌, ◌++◌, length, Option, refl, sym, ◌∙◌, ap, subst, arith}
use Rattle.std.specs.Prelude.{Some, None, ◌==◌, nat_lt, nat_le, get_or, if◌then◌else◌}
use Rattle.std.specs.Int.{bit_at}
use Rattle.std.specs.List.{AllByRecursion}
use Rattle.std.proofs.lemmas.Bool.{and_parts, and_from, eqb-true, eqb-false, ltb-true, ltb-false, leb-true, le-leb, lt-ltb, le-ltb}
use Rattle.std.proofs.lemmas.Option.{none-some, same_Some}
use Rattle.std.proofs.lemmas.List.{length-append}
use Rattle.vl_tree.specs.declared.tree.Op.{Op}
use Rattle.vl_tree.specs.declared.tree.Op.TheVariants.{Add, Sub, And, Or, Xor, Equal, Less}
use Rattle.vl_tree.specs.Values.{Name, Expr, Exprs, net, number, bit, part, word, not, two, choose, cat, no_parts, parts}
use Rattle.vl_tree.specs.Tokens.{is_name}
use Rattle.vl_tree.specs.Plain.{plain_expr, plain_exprs}
use Rattle.vl_model.specs.Meaning.{Widths, Use, width_of, widths_of, agrees, all_agree, op_width, op_value, one_if, nets_of, parts_nets, uses_of, parts_uses}
use Rattle.vl_model.proofs.Valued.{same-front, same-back}
use Rattle.vl_run.specs.Step.{combined}
use Rattle.vl_run.specs.Emit.{mask_of}
use Rattle.vl_run.proofs.Exact.{op-exact}
use Rattle.vl_run.proofs.Narrow.{AreNarrow, narrow}
use Rattle.label_model.specs.Labels.{Domains, either, Label, known, from, sources, known_as, not_label, choice_label, all_sources, with_bit, number_of, result_label, op_label, Labels, label_of, labels_of}
use Rattle.label_audit.proofs.Numbers.{double}
use Rattle.label_audit.specs.Rows.{bit_in, first_bits, row_sources, row_number, constant_row, part_row, cut_row, not_row, bitwise_label, bitwise_row, result_bits, result_row, operator_row, choice_row, word_row, row_of, rows_of}

-- ---- the first bits

pub length-first : (f : ℕ → Label) (n : ℕ) → length (first_bits f n) ≡ n
length-first f zero = refl
length-first f (suc n) = length-append (first_bits f n) (f n ∷ []) ∙ (let rest = length-first f n in omega (arith, rest))

at-front : (xs ys : List Label) (i : ℕ) → i < length xs → bit_in (xs ++ ys) i ≡ bit_in xs i
at-front [] ys i lt = absurd (omega (arith, lt))
at-front (x ∷ xs) ys zero lt = refl
at-front (x ∷ xs) ys (suc i) lt = at-front xs ys i (omega (arith, lt))

at-back : (xs ys : List Label) (i k : ℕ) → k ≡ length xs + i → bit_in (xs ++ ys) k ≡ bit_in ys i
at-back [] ys i k e = ap (bit_in ys) (let same : k ≡ i = omega (arith, e) in same)
at-back (x ∷ xs) ys i zero e = absurd (omega (arith, e))
at-back (x ∷ xs) ys i (suc k) e = at-back xs ys i k (omega (arith, e))

pub bit-first : (f : ℕ → Label) (n i : ℕ) → i < n → bit_in (first_bits f n) i ≡ f i
bit-first f zero i lt = absurd (omega (arith, lt))
bit-first f (suc n) i lt = go (i == n) refl (bit-first f n i)
  where
    go : (b : Bool) → (i == n) ≡ b → (i < n → bit_in (first_bits f n) i ≡ f i) → bit_in (first_bits f n ++ f n ∷ []) i ≡ f i
    go true is rest =
        let long = length-first f n in let e = eqb-true i n is in at-back (first_bits f n) (f n ∷ []) 0 i (omega (arith, long, e)) ∙ ap f (sym e)
    go false is rest =
        let less : i < n = grind (arith, lt, eqb-false i n is) in
        let long = length-first f n in
        at-front (first_bits f n) (f n ∷ []) i (omega (arith, less, long)) ∙ rest less

pub first-same : (f g : ℕ → Label) (n : ℕ) → ((i : ℕ) → i < n → f i ≡ g i) → first_bits f n ≡ first_bits g n
first-same f g zero h = refl
first-same f g (suc n) h = ap (λ xs. xs ++ f n ∷ []) (first-same f g n (λ i lt. h i (omega (arith, lt)))) ∙ ap (λ x. first_bits g n ++ x ∷ []) (h n (omega arith))

first-append : (f g h : ℕ → Label) (m n : ℕ) → ((i : ℕ) → i < m → h i ≡ f i) → ((i : ℕ) → i < n → h (m + i) ≡ g i) → first_bits h (m + n) ≡ first_bits f m ++ first_bits g n
first-append f g h m zero low high = ap (first_bits h) (let e : m + 0 ≡ m = omega arith in e) ∙ first-same h f m low ∙ sym (append-none (first_bits f m))
  where
    append-none : (xs : List Label) → xs ++ [] ≡ xs
    append-none [] = refl
    append-none (x ∷ xs) = ap (λ ys. x ∷ ys) (append-none xs)
first-append f g h m (suc n) low high =
    ap (first_bits h) (let e : m + suc n ≡ suc (m + n) = omega arith in e)
    ∙ ap (λ xs. xs ++ h (m + n) ∷ []) (first-append f g h m n low (λ i lt. high i (omega (arith, lt)))) ∙ ap (λ x. (first_bits f m ++ first_bits g n) ++ x ∷ []) (high n (omega arith))
    ∙ moved (first_bits f m)
  where
    moved : (xs : List Label) → (xs ++ first_bits g n) ++ g n ∷ [] ≡ xs ++ (first_bits g n ++ g n ∷ [])
    moved [] = refl
    moved (x ∷ xs) = ap (λ ys. x ∷ ys) (moved xs)

sources-same : (f g : ℕ → Label) (n : ℕ) → ((i : ℕ) → i < n → f i ≡ g i) → all_sources f n ≡ all_sources g n
sources-same f g zero h = refl
sources-same f g (suc n) h = ap (λ S. either S (sources (f n))) (sources-same f g n (λ i lt. h i (omega (arith, lt)))) ∙ ap (λ x. either (all_sources g n) (sources x)) (h n (omega arith))

pub sources-first : (f : ℕ → Label) (n : ℕ) → row_sources (first_bits f n) ≡ all_sources f n
sources-first f n = ap (all_sources (bit_in (first_bits f n))) (length-first f n) ∙ sources-same (bit_in (first_bits f n)) f n (bit-first f n)

number-same : (f g : ℕ → Label) (n : ℕ) → ((i : ℕ) → i < n → f i ≡ g i) → number_of f n ≡ number_of g n
number-same f g zero h = refl
number-same f g (suc n) h = ap (λ o. with_bit n (f n) o) (number-same f g n (λ i lt. h i (omega (arith, lt)))) ∙ ap (λ x. with_bit n x (number_of g n)) (h n (omega arith))

pub number-first : (f : ℕ → Label) (n : ℕ) → n ≤ 64 → row_number (first_bits f n) ≡ number_of f n
number-first f n few =
    ap (λ k. if nat_le k 64 then number_of (bit_in (first_bits f n)) k else None) (length-first f n) ∙ ap (λ b. if b then number_of (bit_in (first_bits f n)) n else None) (le-leb n 64 few)
    ∙ number-same (bit_in (first_bits f n)) f n (bit-first f n)

power-up : (n : ℕ) → 2 ^ suc n ≡ 2 ^ n + 2 ^ n
power-up n = ap (λ k. 2 ^ k) (let more : suc n ≡ n + 1 = omega arith in more) ∙ double n

number-below : (f : ℕ → Label) (n m : ℕ) → number_of f n ≡ Some m → m < 2 ^ n
number-below f zero m h = let one : 0 ≡ m = same_Some 0 m h in omega (arith, one)
number-below f (suc n) m h = go (f n) (number_of f n) (λ k is. number-below f n k is) h
  where
    bit-below : (b : Bool) (k : ℕ) → k < 2 ^ n → one_if b * 2 ^ n + k < 2 ^ suc n
    bit-below true k lt = let twice = power-up n in omega (arith, lt, twice)
    bit-below false k lt = let twice = power-up n in omega (arith, lt, twice)

    go : (x : Label) (o : Option ℕ) → ((k : ℕ) → o ≡ Some k → k < 2 ^ n) → with_bit n x o ≡ Some m → m < 2 ^ suc n
    go (known b) (Some k) low e = subst (λ z. z < 2 ^ suc n) (same_Some (one_if b * 2 ^ n + k) m e) (bit-below b k (low k refl))
    go (known b) None low e = absurd (none-some m e)
    go (from S) (Some k) low e = absurd (none-some m e)
    go (from S) None low e = absurd (none-some m e)

-- ---- operators

bitwise-first : (op : Op) (w : ℕ) (f g : ℕ → Label) → ((i : ℕ) → op_label op w f g i ≡ bitwise_label op (f i) (g i)) → bitwise_row op (first_bits f w) (first_bits g w) ≡ first_bits (op_label op w f g) w
bitwise-first op w f g same =
    ap (first_bits (λ i. bitwise_label op (bit_in (first_bits f w) i) (bit_in (first_bits g w) i))) (length-first f w)
    ∙ first-same (λ i. bitwise_label op (bit_in (first_bits f w) i) (bit_in (first_bits g w) i)) (op_label op w f g) w (λ i lt.
    ap (λ x. bitwise_label op x (bit_in (first_bits g w) i)) (bit-first f w i lt) ∙ ap (bitwise_label op (f i)) (bit-first g w i lt) ∙ sym (same i))

result-first : (op : Op) (w count : ℕ) (S : Domains) (f g : ℕ → Label) → w ≤ 64 → (o r : Option ℕ) → number_of f w ≡ o → number_of g w ≡ r
    → result_bits op w S count o r ≡ first_bits (λ i. result_label op w S i o r) count
result-first op w count S f g few (Some m) (Some n) a b = ap (λ x. constant_row x count) (op-exact op w m n few (number-below f w m a) (number-below g w n b))
result-first op w count S f g few (Some m) None a b = refl
result-first op w count S f g few None r a b = refl

numbers-first : (op : Op) (w : ℕ) (f g : ℕ → Label) → w ≤ 64
    → result_row op (first_bits f w) (first_bits g w) (op_width op (length (first_bits f w)))
    ≡ first_bits (λ i. result_label op w (either (all_sources f w) (all_sources g w)) i (number_of f w) (number_of g w)) (op_width op w)
numbers-first op w f g few =
    ap (λ k. result_bits op k (either (row_sources (first_bits f w)) (row_sources (first_bits g w))) (op_width op k) (row_number (first_bits f w)) (row_number (first_bits g w))) (length-first f w)
    ∙ ap (λ S. result_bits op w (either S (row_sources (first_bits g w))) (op_width op w) (row_number (first_bits f w)) (row_number (first_bits g w))) (sources-first f w)
    ∙ ap (λ S. result_bits op w (either (all_sources f w) S) (op_width op w) (row_number (first_bits f w)) (row_number (first_bits g w))) (sources-first g w)
    ∙ ap (λ o. result_bits op w (either (all_sources f w) (all_sources g w)) (op_width op w) o (row_number (first_bits g w))) (number-first f w few)
    ∙ ap (λ o. result_bits op w (either (all_sources f w) (all_sources g w)) (op_width op w) (number_of f w) o) (number-first g w few)
    ∙ result-first op w (op_width op w) (either (all_sources f w) (all_sources g w)) f g few (number_of f w) (number_of g w) refl refl

operator-first : (op : Op) (w : ℕ) (f g : ℕ → Label) → w ≤ 64 → operator_row op (first_bits f w) (first_bits g w) ≡ first_bits (op_label op w f g) (op_width op w)
operator-first And w f g few = bitwise-first And w f g (λ i. refl)
operator-first Or w f g few = bitwise-first Or w f g (λ i. refl)
operator-first Xor w f g few = bitwise-first Xor w f g (λ i. refl)
operator-first Add w f g few = numbers-first Add w f g few
operator-first Sub w f g few = numbers-first Sub w f g few
operator-first Equal w f g few = numbers-first Equal w f g few
operator-first Less w f g few = numbers-first Less w f g few

not-first : (f : ℕ → Label) (w : ℕ) → not_row (first_bits f w) ≡ first_bits (λ i. not_label (f i)) w
not-first f w =
    ap (first_bits (λ i. not_label (bit_in (first_bits f w) i))) (length-first f w) ∙ first-same (λ i. not_label (bit_in (first_bits f w) i)) (λ i. not_label (f i)) w (λ i lt. ap not_label (bit-first f w i lt))

choice-first : (c : Label) (f g : ℕ → Label) (w : ℕ) → choice_row c (first_bits f w) (first_bits g w) ≡ first_bits (λ i. choice_label c (f i) (g i)) w
choice-first c f g w =
    ap (first_bits (λ i. choice_label c (bit_in (first_bits f w) i) (bit_in (first_bits g w) i))) (length-first f w)
    ∙ first-same (λ i. choice_label c (bit_in (first_bits f w) i) (bit_in (first_bits g w) i)) (λ i. choice_label c (f i) (g i)) w (λ i lt.
    ap (λ x. choice_label c x (bit_in (first_bits g w) i)) (bit-first f w i lt) ∙ ap (choice_label c (f i)) (bit-first g w i lt))

word-first : (f g : ℕ → Label) (w k : ℕ) → word_row (first_bits f w) (first_bits g k) ≡ first_bits (λ i. from (either (sources (f i)) (all_sources g k))) w
word-first f g w k =
    ap (first_bits (λ i. from (either (sources (bit_in (first_bits f w) i)) (row_sources (first_bits g k))))) (length-first f w)
    ∙ first-same (λ i. from (either (sources (bit_in (first_bits f w) i)) (row_sources (first_bits g k)))) (λ i. from (either (sources (f i)) (all_sources g k))) w (λ i lt.
    ap (λ x. from (either (sources x) (row_sources (first_bits g k)))) (bit-first f w i lt) ∙ ap (λ S. from (either (sources (f i)) S)) (sources-first g k))

part-first : (f : ℕ → Label) (w low count : ℕ) → low + count ≤ w → part_row (first_bits f w) low count ≡ first_bits (λ i. f (low + i)) count
part-first f w low count within = first-same (λ i. bit_in (first_bits f w) (low + i)) (λ i. f (low + i)) count (λ i lt. bit-first f w (low + i) (omega (arith, lt, within)))

cut-first : (f : ℕ → Label) (w h low : ℕ) → low ≤ h → h < w → cut_row (first_bits f w) h low ≡ first_bits (λ i. f (low + i)) (h - low + 1)
unfolding cut_row
cut-first f w h low order less = part-first f w low (h - low + 1) (omega (arith, order, less))

-- ---- expressions

-- rows by name have the labels of nets and memories
module _ (w : Widths) (most : AreNarrow w) (l : Labels) (v : Name → List Label) where
  abbrev pub NetRow : Name → Type 0
  NetRow n = v n ≡ first_bits (l.net n) (w.net n)

  abbrev pub WordRow : Use → Type 0
  WordRow u = v u.memory ≡ first_bits (l.word u.memory) (w.word u.memory)

  words-front : (us ts : List Use) → AllByRecursion WordRow (us ++ ts) → AllByRecursion WordRow us
  words-front [] ts s = tt
  words-front (x ∷ us) ts s = (s.0, words-front us ts s.1)

  words-back : (us ts : List Use) → AllByRecursion WordRow (us ++ ts) → AllByRecursion WordRow ts
  words-back [] ts s = s
  words-back (x ∷ us) ts s = words-back us ts s.1

  mutual
    pub row-is : (k : ℕ) (e : Expr) → plain_expr k e ≡ true → agrees w e ≡ true → AllByRecursion NetRow (nets_of e) → AllByRecursion WordRow (uses_of e) → row_of v e ≡ first_bits (label_of w l e) (width_of w e)
    row-is k (net n) p a ns us = ns.0 ∙ first-same (l.net n) (label_of w l (net n)) (w.net n) (λ i lt. refl)
    row-is k (number c) p a ns us = first-same (λ i. known_as (bit_at c.value i)) (label_of w l (number c)) c.width (λ i lt. refl)
    row-is k (bit n j) p a ns us =
        let less = ltb-true j (w.net n) a in
        ap (λ xs. part_row xs j 1) ns.0 ∙ part-first (l.net n) (w.net n) j 1 (omega (arith, less))
        ∙ first-same (λ i. l.net n (j + i)) (label_of w l (bit n j)) 1 (λ i lt. ap (l.net n) (omega (arith, lt)))
    row-is k (part n h j) p a ns us =
        let both = and_parts (nat_le j h) (nat_lt h (w.net n)) a in
        let order = leb-true j h both.0 in
        let less = ltb-true h (w.net n) both.1 in
        ap (λ xs. cut_row xs h j) ns.0 ∙ cut-first (l.net n) (w.net n) h j order less
        ∙ first-same (λ i. l.net n (j + i)) (label_of w l (part n h j)) (h - j + 1) (λ i lt. refl)
    row-is k (word n e) p a ns us =
        let ps = and_parts (nat_lt 0 k && is_name n) (plain_expr (k - 1) e) p in
        ap (λ xs. word_row xs (row_of v e)) us.0 ∙ ap (word_row (first_bits (l.word n) (w.word n))) (row-is (k - 1) e ps.1 a ns us.1) ∙ word-first (l.word n) (label_of w l e) (w.word n) (width_of w e)
        ∙ first-same (λ i. from (either (sources (l.word n i)) (all_sources (label_of w l e) (width_of w e)))) (label_of w l (word n e)) (w.word n) (λ i lt. refl)
    row-is k (not e) p a ns us =
        let ps = and_parts (nat_lt 0 k) (plain_expr (k - 1) e) p in
        ap not_row (row-is (k - 1) e ps.1 a ns us) ∙ not-first (label_of w l e) (width_of w e) ∙ first-same (λ i. not_label (label_of w l e i)) (label_of w l (not e)) (width_of w e) (λ i lt. refl)
    row-is k (two op x y) p a ns us =
        let ps = and_parts (nat_lt 0 k && plain_expr (k - 1) x) (plain_expr (k - 1) y) p in
        let qs = and_parts (nat_lt 0 k) (plain_expr (k - 1) x) ps.0 in
        let h1 = and_parts (agrees w x) (agrees w y && (width_of w x == width_of w y)) a in
        let h2 = and_parts (agrees w y) (width_of w x == width_of w y) h1.1 in
        let same : width_of w y ≡ width_of w x = sym (eqb-true (width_of w x) (width_of w y) h2.1) in
        let left = row-is (k - 1) x qs.1 h1.0 (same-front NetRow (nets_of x) (nets_of y) ns) (words-front (uses_of x) (uses_of y) us) in
        let right = row-is (k - 1) y ps.1 h2.0 (same-back NetRow (nets_of x) (nets_of y) ns) (words-back (uses_of x) (uses_of y) us) in
        ap (λ xs. operator_row op xs (row_of v y)) left ∙ ap (operator_row op (first_bits (label_of w l x) (width_of w x))) (right ∙ ap (first_bits (label_of w l y)) same)
        ∙ operator-first op (width_of w x) (label_of w l x) (label_of w l y) (narrow w most (k - 1) x qs.1 h1.0)
        ∙ first-same (op_label op (width_of w x) (label_of w l x) (label_of w l y)) (label_of w l (two op x y)) (op_width op (width_of w x)) (λ i lt. refl)
    row-is k (choose c x y) p a ns us =
        let ps = and_parts ((nat_lt 0 k && plain_expr (k - 1) c) && plain_expr (k - 1) x) (plain_expr (k - 1) y) p in
        let qs = and_parts (nat_lt 0 k && plain_expr (k - 1) c) (plain_expr (k - 1) x) ps.0 in
        let rs = and_parts (nat_lt 0 k) (plain_expr (k - 1) c) qs.0 in
        let h1 = and_parts (agrees w c) (agrees w x && (agrees w y && ((width_of w c == 1) && (width_of w x == width_of w y)))) a in
        let h2 = and_parts (agrees w x) (agrees w y && ((width_of w c == 1) && (width_of w x == width_of w y))) h1.1 in
        let h3 = and_parts (agrees w y) ((width_of w c == 1) && (width_of w x == width_of w y)) h2.1 in
        let h4 = and_parts (width_of w c == 1) (width_of w x == width_of w y) h3.1 in
        let one : width_of w c ≡ 1 = eqb-true (width_of w c) 1 h4.0 in
        let same : width_of w y ≡ width_of w x = sym (eqb-true (width_of w x) (width_of w y) h4.1) in
        let rest = same-back NetRow (nets_of c) (nets_of x ++ nets_of y) ns in
        let more = words-back (uses_of c) (uses_of x ++ uses_of y) us in
        let test = row-is (k - 1) c rs.1 h1.0 (same-front NetRow (nets_of c) (nets_of x ++ nets_of y) ns) (words-front (uses_of c) (uses_of x ++ uses_of y) us) in
        let yes = row-is (k - 1) x qs.1 h2.0 (same-front NetRow (nets_of x) (nets_of y) rest) (words-front (uses_of x) (uses_of y) more) in
        let no = row-is (k - 1) y ps.1 h3.0 (same-back NetRow (nets_of x) (nets_of y) rest) (words-back (uses_of x) (uses_of y) more) in
        let bit0 : bit_in (row_of v c) 0 ≡ label_of w l c 0 = ap (λ xs. bit_in xs 0) test ∙ bit-first (label_of w l c) (width_of w c) 0 (omega (arith, one)) in
        ap (λ z. choice_row z (row_of v x) (row_of v y)) bit0 ∙ ap (λ xs. choice_row (label_of w l c 0) xs (row_of v y)) yes
        ∙ ap (choice_row (label_of w l c 0) (first_bits (label_of w l x) (width_of w x))) (no ∙ ap (first_bits (label_of w l y)) same) ∙ choice-first (label_of w l c 0) (label_of w l x) (label_of w l y) (width_of w x)
        ∙ first-same (λ i. choice_label (label_of w l c 0) (label_of w l x i) (label_of w l y i)) (label_of w l (choose c x y)) (width_of w x) (λ i lt. refl)
    row-is k (cat no_parts) p a ns us = refl
    row-is k (cat (parts e es)) p a ns us =
        let ps = and_parts (nat_lt 0 k && plain_expr (k - 1) e) (plain_exprs (k - 1) es) p in
        let qs = and_parts (nat_lt 0 k) (plain_expr (k - 1) e) ps.0 in
        let hs = and_parts (agrees w e && all_agree w es) (nat_le (width_of w e + widths_of w es) 64) a in
        rows-are (k - 1) (parts e es) (and_from (plain_expr (k - 1) e) (plain_exprs (k - 1) es) qs.1 ps.1) hs.0 ns us
        ∙ first-same (labels_of w l (parts e es)) (label_of w l (cat (parts e es))) (widths_of w (parts e es)) (λ i lt. refl)

    pub rows-are : (k : ℕ) (es : Exprs) → plain_exprs k es ≡ true → all_agree w es ≡ true → AllByRecursion NetRow (parts_nets es) → AllByRecursion WordRow (parts_uses es) → rows_of v es ≡ first_bits (labels_of w l es) (widths_of w es)
    rows-are k no_parts p a ns us = refl
    rows-are k (parts e es) p a ns us =
        let ps = and_parts (plain_expr k e) (plain_exprs k es) p in
        let hs = and_parts (agrees w e) (all_agree w es) a in
        let back = rows-are k es ps.1 hs.1 (same-back NetRow (nets_of e) (parts_nets es) ns) (words-back (uses_of e) (parts_uses es) us) in
        let front = row-is k e ps.0 hs.0 (same-front NetRow (nets_of e) (parts_nets es) ns) (words-front (uses_of e) (parts_uses es) us) in
        let sum : widths_of w es + width_of w e ≡ width_of w e + widths_of w es = omega arith in
        ap (λ xs. xs ++ row_of v e) back ∙ ap (λ xs. first_bits (labels_of w l es) (widths_of w es) ++ xs) front
        ∙ sym (first-append (labels_of w l es) (label_of w l e) (labels_of w l (parts e es)) (widths_of w es) (width_of w e)
        (λ i lt. ap (λ b. if b then labels_of w l es i else label_of w l e (i - widths_of w es)) (lt-ltb i (widths_of w es) lt))
        (λ i lt.
        let high : widths_of w es ≤ widths_of w es + i = omega arith in
        let low : widths_of w es + i - widths_of w es ≡ i = omega arith in
        ap (λ b. if b then labels_of w l es (widths_of w es + i) else label_of w l e (widths_of w es + i - widths_of w es)) (le-ltb (widths_of w es + i) (widths_of w es) high) ∙ ap (label_of w l e) low))
        ∙ ap (first_bits (labels_of w l (parts e es))) sum
