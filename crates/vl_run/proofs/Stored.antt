-- What memories take at an edge.
use Rattle.std.proofs.Common.{◌≡◌, ◌≢◌, ℕ, ◌+◌, ◌<◌, Bool, true, false, ◌&&◌, List, [], ◌∷◌, length, refl, sym, ◌∙◌, ap, subst, bytes_eq, arith, eq-eqb, eqb-true, get_or-set_same, get_or-set_other, length-set}
use Rattle.std.specs.Prelude.{◌==◌, if◌then◌else◌, slice_index, slice_set, slice_index_or}
use Rattle.std.specs.List.{AllByRecursion}
use Rattle.vl_tree.specs.Values.{Name, Expr, Item, wire, reg, mem, assign, clocked, store}
use Rattle.vl_tree.specs.Grammar.{limit}
use Rattle.vl_model.specs.Meaning.{Widths, Values, value_of}
use Rattle.vl_model.specs.Lines.{Line, lookup, is_memory, widths, word_count}
use Rattle.vl_model.specs.Rules.{is_kind}
use Rattle.vl_model.specs.Leaf.{AreSmall, stored}
use Rattle.vl_model.specs.Settle.{put, stepped}
use Rattle.vl_model.specs.Once.{is_stored, AreOnce}
use Rattle.vl_model.proofs.Valued.{value-small}
use Rattle.vl_model.proofs.Settling.{itself, one-name}
use Rattle.vl_model.proofs.Ordered.{kind-of}
use Rattle.vl_run.specs.Step.{word_at}
use Rattle.vl_run.specs.Program.{stores_of, stored_in}
use Rattle.vl_run.specs.Places.{ArePlaces}
use Rattle.vl_run.specs.Rows.{Rows}
use Rattle.vl_run.proofs.Narrow.{AreNarrow}
use Rattle.vl_run.proofs.Ruled.{ItemRuled}
use Rattle.vl_run.proofs.Settled.{Words}
use Rattle.vl_run.proofs.Readied.{Readied}

-- the rows with another number at a place of one of them
abbrev pub written : List (List ℕ) → ℕ → ℕ → ℕ → List (List ℕ)
written ms k i x = slice_set ms k (slice_set (slice_index_or ms k []) i x)

same-row : (ms : List (List ℕ)) (k i x : ℕ) → k < length ms → slice_index_or (written ms k i x) k [] ≡ slice_set (slice_index_or ms k []) i x
same-row ms k i x h = get_or-set_same ms k (slice_set (slice_index_or ms k []) i x) [] h

other-row : (ms : List (List ℕ)) (k i x j : ℕ) → j ≢ k → slice_index_or (written ms k i x) j [] ≡ slice_index_or ms j []
other-row ms k i x j h = get_or-set_other ms k j (slice_set (slice_index_or ms k []) i x) [] h

module _ (all : List Line) (s : Name → ℕ) (places : ArePlaces all s) where
  abbrev W : Widths
  W = widths all

  memories-apart : (n k : Name) → is_kind is_memory all n ≡ true → is_kind is_memory all k ≡ true → bytes_eq k n ≡ false → s k ≢ s n
  memories-apart n k a b other same =
      let x = kind-of is_memory all n a in
      let y = kind-of is_memory all k b in
      let one : k ≡ n = places.apart k n y.0 x.0 y.1 x.1 same in
      let self : bytes_eq k n ≡ true = ap (λ z. bytes_eq z n) one ∙ itself n in
      cc

  -- the values with another word of one memory
  abbrev pub with_word : Values → Name → ℕ → ℕ → Values
  with_word u n i x = record { net = u.net; word = λ a j. if bytes_eq a n && (i == j) then x else u.word a j }

  pub write-row : (ms : List (List ℕ)) (u : Values) (n : Name) (i x : ℕ) → is_kind is_memory all n ≡ true → i < word_count (lookup all n) → Rows all s ms u → Rows all s (written ms (s n) i x) (with_word u n i x)
  write-row ms u n i x known h r = record {
    there = λ a k. (let t = r.there a k in let e = length-set ms (s n) (slice_set (slice_index_or ms (s n) []) i x) in omega arith);
    long = λ a k. long-at a k (bytes_eq a n) refl;
    word = λ a j k w. word-of a j k w (bytes_eq a n) refl;
  }
    where
      long-at : (a : Name) → is_kind is_memory all a ≡ true → (b : Bool) → bytes_eq a n ≡ b → length (slice_index_or (written ms (s n) i x) (s a) []) ≡ word_count (lookup all a)
      long-at a k true same =
          let one : a ≡ n = one-name a n same in
          ap (λ z. length (slice_index_or (written ms (s n) i x) (s z) [])) one ∙ ap length (same-row ms (s n) i x (r.there n known)) ∙ length-set (slice_index_or ms (s n) []) i x
          ∙ r.long n known ∙ ap (λ z. word_count (lookup all z)) (sym one)
      long-at a k false other = ap length (other-row ms (s n) i x (s a) (memories-apart n a known k other)) ∙ r.long a k

      inside : (j : ℕ) → j < word_count (lookup all n) → (b : Bool) → (i == j) ≡ b → word_at (written ms (s n) i x) (s n) j ≡ (if b then x else u.word n j)
      inside j w true same =
          let one : i ≡ j = eqb-true i j same in
          let long = r.long n known in
          ap (λ z. slice_index z j) (same-row ms (s n) i x (r.there n known)) ∙ ap (slice_index (slice_set (slice_index_or ms (s n) []) i x)) (sym one)
          ∙ get_or-set_same (slice_index_or ms (s n) []) i x 0 (omega arith)
      inside j w false other =
          ap (λ z. slice_index z j) (same-row ms (s n) i x (r.there n known))
          ∙ get_or-set_other (slice_index_or ms (s n) []) i j x 0 (λ same. (let self : (i == j) ≡ true = eq-eqb i j (sym same) in cc)) ∙ r.word n j known w

      word-of : (a : Name) (j : ℕ) → is_kind is_memory all a ≡ true → j < word_count (lookup all a) → (b : Bool) → bytes_eq a n ≡ b
          → word_at (written ms (s n) i x) (s a) j ≡ (if bytes_eq a n && (i == j) then x else u.word a j)
      word-of a j k w true same =
          let one : a ≡ n = one-name a n same in
          rw same (ap (λ z. word_at (written ms (s n) i x) (s z) j) one ∙ inside j (subst (λ z. j < word_count (lookup all z)) one w) (i == j) refl
          ∙ ap (λ z. if i == j then x else u.word z j) (sym one))
      word-of a j k w false other = rw other (ap (λ z. slice_index z j) (other-row ms (s n) i x (s a) (memories-apart n a known k other)) ∙ r.word a j k w)

  -- rows that hold one word hold another of the same numbers
  same-words : (ms : List (List ℕ)) (u t : Values) → ((n : Name) (i : ℕ) → u.word n i ≡ t.word n i) → Rows all s ms u → Rows all s ms t
  same-words ms u t e r = record { there = r.there; long = r.long; word = λ n i k h. r.word n i k h ∙ e n i }

  module _ (most : AreNarrow (widths all)) (m : ℕ → ℕ → ℕ) (v : Values) (small : AreSmall (widths all) v) (words : Words all s places most m v) where
    abbrev Next : Values → Name → Expr → Expr → Expr → Values
    Next u n c i e = record { net = u.net; word = λ a. if bytes_eq a n then stored (value_of W v c) (value_of W v i) (value_of W v e) (v.word n) else u.word a }

    -- a memory that is still to be stored to has its old words
    abbrev StillOld : List Item → Values → Type 0
    StillOld is u = (n : Name) (j : ℕ) → is_stored is n ≡ true → u.word n j ≡ v.word n j

    pub stores : (is : List Item) (free : ℕ) (nets : List ℕ) (u : Values) (ms : List (List ℕ)) → AllByRecursion (ItemRuled all) is → AreOnce is → StillOld is u
        → Readied all s places most m v small words free is (slice_index nets) → Rows all s ms u → Rows all s (stored_in nets (stores_of s free is) ms) (stepped W v is u)
    stores [] free nets u ms r o old ready rows = rows
    stores (wire a n ∷ is) free nets u ms r o old ready rows = stores is free nets u ms r.1 o old ready rows
    stores (reg a n ∷ is) free nets u ms r o old ready rows = stores is free nets u ms r.1 o old ready rows
    stores (mem a n last ∷ is) free nets u ms r o old ready rows = stores is free nets u ms r.1 o old ready rows
    stores (assign n e ∷ is) free nets u ms r o old ready rows = stores is free nets u ms r.1 o old ready rows
    stores (clocked n k e ∷ is) free nets u ms r o old ready rows =
        stores is (free + 1) nets (put u n (value_of W v e)) ms r.1 o.1 old ready.1 (same-words ms u (put u n (value_of W v e)) (λ a i. refl) rows)
    stores (store c n i e ∷ is) free nets u ms r o old ready rows =
        let t : Values = Next u n c i e in
        stores is (free + 1 + 1 + 1) nets t (after ms) r.1 o.1 still ready.3 (go (slice_index nets free == 1) refl)
      where
        after : List (List ℕ) → List (List ℕ)
        after ms = if slice_index nets free == 1 then written ms (s n) (slice_index nets (free + 1)) (slice_index nets (free + 1 + 1)) else ms

        still : StillOld is (Next u n c i e)
        still a j later = pick (bytes_eq a n) refl
          where
            pick : (b : Bool) → bytes_eq a n ≡ b → (if bytes_eq a n then stored (value_of W v c) (value_of W v i) (value_of W v e) (v.word n) else u.word a) j ≡ v.word a j
            pick true same =
                let one : a ≡ n = one-name a n same in
                let never : is_stored is a ≡ false = ap (is_stored is) one ∙ o.0 in
                cc
            pick false other = rw other (old a j (rw (other, later) refl))

        here : (j : ℕ) → u.word n j ≡ v.word n j
        here j = old n j (rw (itself n) refl)

        enabled : (b : Bool) → (slice_index nets free == 1) ≡ b → (value_of W v c == 1) ≡ b
        enabled b e' = ap (λ z. z == 1) (sym ready.0) ∙ e'

        inside : value_of W v i < word_count (lookup all n)
        inside = subst (λ z. value_of W v i < z) r.0.4 (value-small W v small limit i r.0.2.plain r.0.2.agree)

        taken : (a : Name) (j : ℕ) → (value_of W v c == 1) ≡ true → (with_word u n (value_of W v i) (value_of W v e)).word a j ≡ (Next u n c i e).word a j
        taken a j on = pick (bytes_eq a n) refl
          where
            index : (b : Bool) → (if b then value_of W v e else u.word a j) ≡ (if b then value_of W v e else u.word a j)
            index b = refl

            pick : (b : Bool) → bytes_eq a n ≡ b → (if bytes_eq a n && (value_of W v i == j) then value_of W v e else u.word a j)
                ≡ (if bytes_eq a n then stored (value_of W v c) (value_of W v i) (value_of W v e) (v.word n) else u.word a) j
            pick true same =
                let one : a ≡ n = one-name a n same in
                rw (same, on) (ap (λ z. if value_of W v i == j then value_of W v e else z) (ap (λ z. u.word z j) one ∙ here j))
            pick false other = rw other refl

        left : (a : Name) (j : ℕ) → (value_of W v c == 1) ≡ false → u.word a j ≡ (Next u n c i e).word a j
        left a j off = pick (bytes_eq a n) refl
          where
            pick : (b : Bool) → bytes_eq a n ≡ b → u.word a j ≡ (if bytes_eq a n then stored (value_of W v c) (value_of W v i) (value_of W v e) (v.word n) else u.word a) j
            pick true same =
                let one : a ≡ n = one-name a n same in
                rw (same, off) (ap (λ z. u.word z j) one ∙ here j)
            pick false other = rw other refl

        go : (b : Bool) → (slice_index nets free == 1) ≡ b → Rows all s (if slice_index nets free == 1 then written ms (s n) (slice_index nets (free + 1)) (slice_index nets (free + 1 + 1)) else ms) (Next u n c i e)
        go true on =
            let wrote = write-row ms u n (value_of W v i) (value_of W v e) r.0.0 inside rows in
            let same = same-words (written ms (s n) (value_of W v i) (value_of W v e)) (with_word u n (value_of W v i) (value_of W v e)) (Next u n c i e) (λ a j. taken a j (enabled true on)) wrote in
            let at : written ms (s n) (slice_index nets (free + 1)) (slice_index nets (free + 1 + 1)) ≡ written ms (s n) (value_of W v i) (value_of W v e)
            = ap (λ z. written ms (s n) z (slice_index nets (free + 1 + 1))) ready.1 ∙ ap (λ z. written ms (s n) (value_of W v i) z) ready.2 in
            rw on (subst (λ z. Rows all s z (Next u n c i e)) (sym at) same)
        go false off = rw off (same-words ms u (Next u n c i e) (λ a j. left a j (enabled false off)) rows)
