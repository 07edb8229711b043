-- What latches take, one by one.
use Rattle.std.proofs.Common.{◌≡◌, ℕ, zero, suc, ◌+◌, ◌<◌, ◌≤◌, Bool, false, List, [], ◌∷◌, ◌++◌, length, map, get_or, take, sym, ◌∙◌, ap, subst, arith, append_assoc}
use Rattle.std.specs.Prelude.{flat_map}
use Rattle.std.proofs.lemmas.List.{map-append, append-nil, take_more, take_all, flat_map_more}
use Rattle.vl_run.specs.declared.program.Register.{Register}
use Rattle.vl_run.specs.declared.program.Memory.{Memory}
use Rattle.aig_model.specs.Form.{literal, word}
use Rattle.aig_model.specs.FormOf.{bits_from, flipped_bits, words_from}
use Rattle.aig_model.specs.Netlist.{Net, AreOf}
use Rattle.aig_cycle.specs.Wires.{numbers, rows}
use Rattle.aig_cycle.specs.Latches.{register_row, memory_row}
use Rattle.aig_cycle.proofs.Actions.{number-at, row-at}

-- the literals so far have the bits of what was there, and of the first i
abbrev pub AreAdded : {A : Type 0} → ((ℕ → Bool) → A → List Bool) → List ℕ → List ℕ → List A → Type 0
AreAdded f old now' xs = (v : ℕ → Bool) → v 0 ≡ false → map (literal v) now' ≡ map (literal v) old ++ flat_map (f v) xs

pub added-none : {A : Type 0} (f : (ℕ → Bool) → A → List Bool) (old : List ℕ) (xs : List A) → AreAdded f old old (take 0 xs)
added-none f old [] = λ v e. sym (append-nil (map (literal v) old))
added-none f old (x ∷ xs) = λ v e. sym (append-nil (map (literal v) old))

pub added-more : {A : Type 0} (f : (ℕ → Bool) → A → List Bool) (old now' more next : List ℕ) (xs : List A) (i : ℕ) (d : A) → i < length xs → next ≡ now' ++ more → ((v : ℕ → Bool) → v 0 ≡ false → map (literal v) more ≡ f v (get_or xs i d))
    → AreAdded f old now' (take i xs) → AreAdded f old next (take (i + 1) xs)
added-more f old now' more next xs i d lt put says so = λ v e. (
    ap (map (literal v)) put ∙ map-append (literal v) now' more ∙ ap (λ z. z ++ map (literal v) more) (so v e) ∙ ap (λ z. (map (literal v) old ++ flat_map (f v) (take i xs)) ++ z) (says v e)
    ∙ flat_map_more (f v) (map (literal v) old) (take i xs) (get_or xs i d) ∙ ap (λ ys. map (literal v) old ++ flat_map (f v) ys) (sym (take_more xs i d lt)))

pub added-all : {A : Type 0} (f : (ℕ → Bool) → A → List Bool) (old now' : List ℕ) (xs : List A) (i : ℕ) → length xs ≤ i → AreAdded f old now' (take i xs) → AreAdded f old now' xs
added-all f old now' xs i all so = λ v e. so v e ∙ ap (λ ys. map (literal v) old ++ flat_map (f v) ys) (take_all i xs all)

-- a register's
pub register-bits : (v : ℕ → Bool) (nets : List (List ℕ)) (resets : List ℕ) (r : Register) (w : List ℕ) (reset : ℕ) → w ≡ get_or nets r.place [] → reset ≡ get_or resets r.place 0
    → flipped_bits (word v w) reset 0 (r.high + 1) ≡ register_row resets (numbers v nets) r
register-bits v nets resets r w reset is at = ap (λ x. flipped_bits x reset 0 (r.high + 1)) (ap (word v) is ∙ sym (number-at v nets r.place)) ∙ ap (λ x. flipped_bits (get_or (numbers v nets) r.place 0) x 0 (r.high + 1)) at

-- a memory's
pub memory-bits : (v : ℕ → Bool) (words : List (List (List ℕ))) (m : Memory) (row : List (List ℕ)) → row ≡ get_or words m.place [] → words_from (λ j. get_or (numbers v row) j 0) m.high 0 (m.last + 1) ≡ memory_row (rows v words) m
memory-bits v words m row is = ap (λ z. words_from (λ j. get_or z j 0) m.high 0 (m.last + 1)) (ap (numbers v) is ∙ sym (row-at v words m.place))

-- one more word
pub words-more : (f : ℕ → ℕ) (h j count : ℕ) → words_from f h j (suc count) ≡ words_from f h j count ++ bits_from (f (j + count)) 0 (h + 1)
words-more f h j zero = let e : j ≡ j + 0 = omega arith in append-nil (bits_from (f j) 0 (h + 1)) ∙ ap (λ k. bits_from (f k) 0 (h + 1)) e
words-more f h j (suc count) =
    let e : j + 1 + count ≡ j + suc count = omega arith in
    ap (λ z. bits_from (f j) 0 (h + 1) ++ z) (words-more f h (j + 1) count ∙ ap (λ k. words_from f h (j + 1) count ++ bits_from (f k) 0 (h + 1)) e)
    ∙ sym (append_assoc (bits_from (f j) 0 (h + 1)) (words_from f h (j + 1) count) (bits_from (f (j + suc count)) 0 (h + 1)))

abbrev pub AreWordsAdded : List (List ℕ) → ℕ → List ℕ → List ℕ → ℕ → Type 0
AreWordsAdded row h old now' i = (v : ℕ → Bool) → v 0 ≡ false → map (literal v) now' ≡ map (literal v) old ++ words_from (λ j. get_or (numbers v row) j 0) h 0 i

pub word-added : (row : List (List ℕ)) (h : ℕ) (old now' more next w : List ℕ) (i : ℕ) → next ≡ now' ++ more → w ≡ get_or row i [] → ((v : ℕ → Bool) → v 0 ≡ false → map (literal v) more ≡ bits_from (word v w) 0 (h + 1))
    → AreWordsAdded row h old now' i → AreWordsAdded row h old next (i + 1)
word-added row h old now' more next w i put is says so = λ v e. (
    let f : ℕ → ℕ = λ j. get_or (numbers v row) j 0 in
    let none : i ≡ 0 + i = omega arith in
    let up : suc i ≡ i + 1 = omega arith in
    let here : map (literal v) more ≡ bits_from (f (0 + i)) 0 (h + 1) = says v e ∙ ap (λ x. bits_from x 0 (h + 1)) (ap (word v) is ∙ sym (number-at v row i)) ∙ ap (λ k. bits_from (f k) 0 (h + 1)) none in
    ap (map (literal v)) put ∙ map-append (literal v) now' more ∙ ap (λ z. z ++ map (literal v) more) (so v e) ∙ ap (λ z. (map (literal v) old ++ words_from f h 0 i) ++ z) here
    ∙ append_assoc (map (literal v) old) (words_from f h 0 i) (bits_from (f (0 + i)) 0 (h + 1)) ∙ ap (λ z. map (literal v) old ++ z) (sym (words-more f h 0 i) ∙ ap (words_from f h 0) up))

-- where what is added is known by its bits
pub added-over : {A : Type 0} (f : (ℕ → Bool) → A → List Bool) (old now' next : List ℕ) (xs : List A) (i : ℕ) (d : A) → i < length xs → {g : (ℕ → Bool) → List Bool} → ((v : ℕ → Bool) → v 0 ≡ false → map (literal v) next ≡ map (literal v) now' ++ g v)
    → ((v : ℕ → Bool) → g v ≡ f v (get_or xs i d)) → AreAdded f old now' (take i xs) → AreAdded f old next (take (i + 1) xs)
added-over f old now' next xs i d lt {g} put says so = λ v e. (
    put v e ∙ ap (λ z. z ++ g v) (so v e) ∙ ap (λ z. (map (literal v) old ++ flat_map (f v) (take i xs)) ++ z) (says v)
    ∙ flat_map_more (f v) (map (literal v) old) (take i xs) (get_or xs i d) ∙ ap (λ ys. map (literal v) old ++ flat_map (f v) ys) (sym (take_more xs i d lt)))

-- ---- the literals are of a net

-- the literals so far are of each net of which what was there and what they are made of is
abbrev pub AreKnown : (Net → Type 0) → List ℕ → List ℕ → Type 0
AreKnown P old now' = (n : Net) → 0 < n.start → P n → AreOf n old → AreOf n now'

pub of-both : (n : Net) (xs ys : List ℕ) → AreOf n xs → AreOf n ys → AreOf n (xs ++ ys)
of-both n [] ys a b = b
of-both n (x ∷ xs) ys a b = (a.0, of-both n xs ys a.1 b)

pub known-more : (P : Net → Type 0) (old now' more next : List ℕ) → next ≡ now' ++ more → ((n : Net) → 0 < n.start → P n → AreOf n more) → AreKnown P old now' → AreKnown P old next
known-more P old now' more next put says so = λ n some p a. subst (AreOf n) (sym put) (of-both n now' more (so n some p a) (says n some p))
