-- A memory's words of variables, one by one.
use Rattle.std.proofs.Common.{◌≡◌, ℕ, zero, suc, ◌+◌, ◌<◌, ◌≤◌, ◌^◌, Bool, List, [], ◌∷◌, ◌++◌, length, get_or, take, refl, sym, ◌∙◌, ap, subst, arith}
use Rattle.std.specs.List.{AllByRecursion}
use Rattle.std.proofs.lemmas.List.{length-append, map-append, take_more, take_all}
use Rattle.aig_model.specs.Form.{word}
use Rattle.aig_model.specs.FormOf.{AreBits, bits_from, flipped_bits, words_from}
use Rattle.aig_model.specs.Netlist.{Net}
use Rattle.aig_gates.specs.Zips.{AreBelow}
use Rattle.aig_cycle.specs.Wires.{numbers, IsWord, AreWords}
use Rattle.aig_cycle.proofs.Added.{words-more}
use Rattle.aig_cycle.proofs.Latched.{plain-bits}
use Rattle.vl_run.specs.declared.program.Register.{Register}
use Rattle.aig_design.specs.Start.{IsMade, IsMemoryMade, is_narrow_register, fits_register, register_bits}
use Rattle.aig_design.proofs.Bits.{bits-both, bits-behind}

pub length-flipped : (x k i w : ℕ) → length (flipped_bits x k i w) ≡ w
length-flipped x k i zero = refl
length-flipped x k i (suc w) = let e = length-flipped x k (i + 1) w in omega (arith, e)

pub length-bits : (x i w : ℕ) → length (bits_from x i w) ≡ w
length-bits x i zero = refl
length-bits x i (suc w) = let e = length-bits x (i + 1) w in omega (arith, e)

below-more : (k j : ℕ) (xs : List ℕ) → k ≤ j → AreBelow k xs → AreBelow j xs
below-more k j [] le a = tt
below-more k j (x ∷ xs) le a = (let h = a.0 in omega (arith, h, le), below-more k j xs le a.1)

-- a word of latches is of each net behind its variables
pub made-known : (n : Net) (first high next : ℕ) (made : List ℕ) → AreBelow (first + high + 1) made → length made ≡ high + 1 → next ≡ first + (high + 1) → next ≤ n.start → high < 64 → IsWord n made
made-known n first high next made below count is le small = record {
  known = below-more (first + high + 1) (n.start + length n.gates) made (omega (arith, is, le)) below;
  narrow = omega (arith, count, small);
}

-- the first i words of a memory
pub record IsRow (first next high : ℕ) (made : List (List ℕ)) (i : ℕ) : Type 0 where
  pub up : first ≤ next
  pub count : (f : ℕ → ℕ) → next ≡ first + length (words_from f high 0 i)
  pub size : length made ≡ i
  pub are_known : (n : Net) → next ≤ n.start → high < 64 → AreWords n made
  pub value : (v : ℕ → Bool) (x : List ℕ) → i ≤ length x → AllByRecursion (λ k. k < 2 ^ (high + 1)) x → AreBits (words_from (λ j. get_or x j 0) high 0 i) (λ j. v (first + j)) 0 → numbers v made ≡ take i x

pub row-none : (first high : ℕ) → IsRow first first high [] 0
row-none first high = record {
  up = omega arith;
  count = λ f. omega arith;
  size = refl;
  are_known = λ n le small. tt;
  value = λ v x le fits bits. nothing x;
}
  where
    nothing : (x : List ℕ) → [] ≡ take 0 x
    nothing [] = refl
    nothing (k ∷ x) = refl

all-push : {A : Type 0} (P : A → Type 0) (xs : List A) (x : A) → AllByRecursion P xs → P x → AllByRecursion P (xs ++ x ∷ [])
all-push P [] x h p = (p, tt)
all-push P (y ∷ xs) x h p = (h.0, all-push P xs x h.1 p)

all-at : {A : Type 0} (P : A → Type 0) (xs : List A) (i : ℕ) (d : A) → i < length xs → AllByRecursion P xs → P (get_or xs i d)
all-at P [] i d lt h = absurd (omega (arith, lt))
all-at P (x ∷ xs) zero d lt h = h.0
all-at P (x ∷ xs) (suc i) d lt h = all-at P xs i d (omega (arith, lt)) h.1

pub row-more : (first mid next high : ℕ) (row new : List (List ℕ)) (made : List ℕ) (i : ℕ) → new ≡ row ++ made ∷ [] → next ≡ mid + (high + 1) → AreBelow (mid + high + 1) made → length made ≡ high + 1
    → ((v : ℕ → Bool) (x : ℕ) → x < 2 ^ (high + 1) → AreBits (flipped_bits x 0 0 (high + 1)) (λ j. v (mid + j)) 0 → word v made ≡ x)
    → IsRow first mid high row i → IsRow first next high new (i + 1)
row-more first mid next high row new made i put is below count says z = record {
  up = (let u = z.up in omega (arith, u, is));
  count = λ f.
      let before = z.count f in
      let all = ap length (more f) ∙ length-append (words_from f high 0 i) (bits_from (f (0 + i)) 0 (high + 1)) in
      let one = length-bits (f (0 + i)) 0 (high + 1) in
      omega (arith, before, all, one, is);
  size = ap length put ∙ length-append row (made ∷ []) ∙ (let s = z.size in omega (arith, s));
  are_known = λ n le small.
      subst (AreWords n) (sym put) (all-push (IsWord n) row made (z.are_known n (omega (arith, le, is)) small) (made-known n mid high next made below count is le small));
  value = λ v x le fits bits.
      let f : ℕ → ℕ = λ j. get_or x j 0 in
      let lt : i < length x = omega (arith, le) in
      let parts = subst (λ bs. AreBits bs (λ j. v (first + j)) 0) (more f) bits in
      let here = bits-behind (words_from f high 0 i) (bits_from (f (0 + i)) 0 (high + 1)) v first mid (z.count f) parts in
      let e : 0 + i ≡ i = omega arith in
      let number : word v made ≡ f i = says v (f i) (all-at (λ k. k < 2 ^ (high + 1)) x i 0 lt fits)
      (subst (λ bs. AreBits bs (λ j. v (mid + j)) 0) (ap (λ k. bits_from (f k) 0 (high + 1)) e ∙ sym (plain-bits (f i) 0 (high + 1))) here) in
      ap (numbers v) put ∙ map-append (word v) row (made ∷ []) ∙ ap (λ ys. ys ++ word v made ∷ []) (z.value v x (omega (arith, le)) fits (bits-both (words_from f high 0 i) (bits_from (f (0 + i)) 0 (high + 1)) (λ j. v (first + j)) 0 parts).0)
      ∙ ap (λ y. take i x ++ y ∷ []) number ∙ sym (take_more x i 0 lt);
}
  where
    more : (f : ℕ → ℕ) → words_from f high 0 (i + 1) ≡ words_from f high 0 i ++ bits_from (f (0 + i)) 0 (high + 1)
    more f = let up : i + 1 ≡ suc i = omega arith in ap (words_from f high 0) up ∙ words-more f high 0 i

pub row-all : (first next high last place : ℕ) (made : List (List ℕ)) (i : ℕ) → last + 1 ≡ i → IsRow first next high made i → IsMemoryMade first next (record { place = place; high = high; last = last }) made
row-all first next high last place made i is z = record {
  up = z.up;
  count = λ x. z.count (λ j. get_or x j 0) ∙ ap (λ k. first + length (words_from (λ j. get_or x j 0) high 0 k)) (sym is);
  are_known = λ n le small. z.are_known n le small;
  value = λ v x fits bits.
      let count = fits.count in
      z.value v x (omega (arith, count, is)) fits.words (subst (λ k. AreBits (words_from (λ j. get_or x j 0) high 0 k) (λ j. v (first + j)) 0) is bits) ∙ take_all i x (omega (arith, count, is));
}

-- a register's word
pub register-made : (resets : List ℕ) (first next : ℕ) (r : Register) (made : List ℕ) (x : ℕ) → next ≡ first + (r.high + 1) → x ≡ get_or resets r.place 0 → AreBelow (first + r.high + 1) made → length made ≡ r.high + 1
    → ((v : ℕ → Bool) (y : ℕ) → y < 2 ^ (r.high + 1) → AreBits (flipped_bits y x 0 (r.high + 1)) (λ j. v (first + j)) 0 → word v made ≡ y)
    → IsMade is_narrow_register fits_register (register_bits resets) IsWord word first next r made
register-made resets first next r made x is reset below count says = record {
  up = omega (arith, is);
  count = λ y. (let l = length-flipped y (get_or resets r.place 0) 0 (r.high + 1) in omega (arith, is, l));
  are_known = λ n le small. made-known n first r.high next made below count is le small;
  value = λ v y small bits. says v y small (subst (λ k. AreBits (flipped_bits y k 0 (r.high + 1)) (λ j. v (first + j)) 0) (sym reset) bits);
}
