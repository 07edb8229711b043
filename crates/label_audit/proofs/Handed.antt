-- Rows by line of what a leaf hands over to the next phase.
use Rattle.std.proofs.Common.{◌≡◌, ◌≢◌, ℕ, ◌<◌, Bool, true, false, ◌||◌, List, [], ◌∷◌, length, refl, sym, ◌∙◌, ap, subst, bytes_eq, arith}
use Rattle.std.specs.Prelude.{get_or, slice_set}
use Rattle.std.specs.List.{AllByRecursion}
use Rattle.std.proofs.lemmas.Bool.{or_parts, false≢true}
use Rattle.std.proofs.lemmas.List.{get_or-set_same, get_or-set_other, length-set}
use Rattle.vl_tree.specs.Values.{Name, Expr, Item, wire, reg, mem, assign, clocked, store}
use Rattle.vl_model.specs.Meaning.{Widths, Values, width_of}
use Rattle.vl_model.specs.declared.kind.Kind.{Kind}
use Rattle.vl_model.specs.declared.kind.Kind.TheVariants.{Input, Output, Inner, Register, Memory, Child}
use Rattle.vl_model.specs.Lines.{Line, lookup, kind_passes, is_memory, is_register, widths}
use Rattle.vl_model.specs.Rules.{is_kind}
use Rattle.vl_model.specs.Once.{is_clocked, is_stored, AreOnce}
use Rattle.vl_model.proofs.Settling.{itself}
use Rattle.vl_model.proofs.Ordered.{kind-of}
use Rattle.vl_run.specs.Places.{ArePlaces}
use Rattle.vl_run.proofs.Ruled.{ItemRuled}
use Rattle.label_model.specs.Labels.{Label, either, from, sources, all_sources}
use Rattle.label_model.specs.Phase.{write_label}
use Rattle.label_audit.specs.Rows.{bit_in, first_bits, row_sources, store_row, rows_by}
use Rattle.label_audit.specs.Instances.{moved_row, each_item}
use Rattle.label_audit.proofs.Computed.{length-first, bit-first, first-same, sources-first}

-- the row of a memory after a store
pub store-first : (c : Label) (x e f : ℕ → Label) (k m w : ℕ) → w ≡ m
    → store_row c (first_bits x k) (first_bits e m) (first_bits f w) ≡ first_bits (λ i. write_label c (f i) (from (either (all_sources x k) (sources (e i))))) w
store-first c x e f k m w same =
    ap (first_bits (λ i. write_label c (bit_in (first_bits f w) i) (from (either (row_sources (first_bits x k)) (sources (bit_in (first_bits e m) i)))))) (length-first f w)
    ∙ first-same (λ i. write_label c (bit_in (first_bits f w) i) (from (either (row_sources (first_bits x k)) (sources (bit_in (first_bits e m) i))))) (λ i. write_label c (f i) (from (either (all_sources x k) (sources (e i))))) w (λ i lt.
    ap (λ z. write_label c z (from (either (row_sources (first_bits x k)) (sources (bit_in (first_bits e m) i))))) (bit-first f w i lt)
    ∙ ap (λ S. write_label c (f i) (from (either S (sources (bit_in (first_bits e m) i))))) (sources-first x k)
    ∙ ap (λ z. write_label c (f i) (from (either (all_sources x k) (sources z)))) (bit-first e m i (subst (λ z. i < z) same lt)))

no-two : (c : Kind) → is_register c ≡ true → is_memory c ≡ true → ⊥
no-two Input a b = false≢true a
no-two Output a b = false≢true a
no-two Inner a b = false≢true a
no-two Register a b = false≢true b
no-two Memory a b = false≢true a
no-two Child a b = false≢true a

module _ (all : List Line) (s : Name → ℕ) (places : ArePlaces all s) (g : Item → List Label) where
  apart : (one two : Kind → Bool) (k a : Name) → is_kind one all k ≡ true → is_kind two all a ≡ true → (k ≡ a → ⊥) → s k ≢ s a
  apart one two k a b c other same = let x = kind-of one all k b in let y = kind-of two all a c in other (places.apart k a x.0 y.0 x.1 y.1 same)

  not-both : (k a : Name) → is_kind is_register all k ≡ true → is_kind is_memory all a ≡ true → k ≡ a → ⊥
  not-both k a b c same =
      let x = kind-of is_register all k b in
      no-two x.0.kind x.2 (sym (ap (kind_passes is_memory) x.1) ∙ subst (λ z. is_kind is_memory all z ≡ true) (sym same) c)

  other-name : (k a : Name) → bytes_eq k a ≡ false → k ≡ a → ⊥
  other-name k a other one = false≢true (sym other ∙ ap (λ z. bytes_eq z a) one ∙ itself a)

  abbrev handed : List Item → List (List Label) → List (List Label)
  handed is next = each_item (moved_row s g) is next

  stays-net : (is : List Item) → AllByRecursion (ItemRuled all) is → (next : List (List Label)) (n : Name) → is_kind is_register all n ≡ true → is_clocked is n ≡ false → rows_by s (handed is next) n ≡ rows_by s next n
  stays-net [] r next n k f = refl
  stays-net (wire h a ∷ is) r next n k f = stays-net is r.1 next n k f
  stays-net (reg h a ∷ is) r next n k f = stays-net is r.1 next n k f
  stays-net (mem h a last ∷ is) r next n k f = stays-net is r.1 next n k f
  stays-net (assign a e ∷ is) r next n k f = stays-net is r.1 next n k f
  stays-net (clocked a c e ∷ is) r next n k f =
      let fs = or_parts (bytes_eq n a) (is_clocked is n) f in
      stays-net is r.1 (slice_set next (s a) (g (clocked a c e))) n k fs.1
      ∙ get_or-set_other next (s a) (s n) (g (clocked a c e)) [] (apart is_register is_register n a k r.0.0 (other-name n a fs.0))
  stays-net (store c a i e ∷ is) r next n k f =
      let x = g (store c a i e) in
      stays-net is r.1 (slice_set next (s a) x) n k f ∙ get_or-set_other next (s a) (s n) x [] (apart is_register is_memory n a k r.0.0 (not-both n a k r.0.0))

  stays-word : (is : List Item) → AllByRecursion (ItemRuled all) is → (next : List (List Label)) (n : Name) → is_kind is_memory all n ≡ true → is_stored is n ≡ false → rows_by s (handed is next) n ≡ rows_by s next n
  stays-word [] r next n k f = refl
  stays-word (wire h a ∷ is) r next n k f = stays-word is r.1 next n k f
  stays-word (reg h a ∷ is) r next n k f = stays-word is r.1 next n k f
  stays-word (mem h a last ∷ is) r next n k f = stays-word is r.1 next n k f
  stays-word (assign a e ∷ is) r next n k f = stays-word is r.1 next n k f
  stays-word (clocked a c e ∷ is) r next n k f =
      stays-word is r.1 (slice_set next (s a) (g (clocked a c e))) n k f
      ∙ get_or-set_other next (s a) (s n) (g (clocked a c e)) [] (apart is_memory is_register n a k r.0.0 (λ same. not-both a n r.0.0 k (sym same)))
  stays-word (store c a i e ∷ is) r next n k f =
      let x = g (store c a i e) in
      let fs = or_parts (bytes_eq n a) (is_stored is n) f in
      stays-word is r.1 (slice_set next (s a) x) n k fs.1 ∙ get_or-set_other next (s a) (s n) x [] (apart is_memory is_memory n a k r.0.0 (other-name n a fs.0))

  -- what an item hands over stands in its row
  abbrev pub HandsRow : List (List Label) → Item → Type 0
  HandsRow out (clocked n k e) = rows_by s out n ≡ g (clocked n k e)
  HandsRow out (store c n i e) = rows_by s out n ≡ g (store c n i e)
  HandsRow out _ = Unit {0}

  placed-below : (test : Kind → Bool) (n : Name) (next : List (List Label)) → length next ≡ length all → is_kind test all n ≡ true → s n < length next
  placed-below test n next long k = let what = kind-of test all n k in let low = places.below n what.0 what.1 in omega (arith, low, long)

  pub all-handed : (is : List Item) → AllByRecursion (ItemRuled all) is → AreOnce is → (next : List (List Label)) → length next ≡ length all → AllByRecursion (HandsRow (handed is next)) is
  all-handed [] r o next long = tt
  all-handed (wire h a ∷ is) r o next long = (tt, all-handed is r.1 o next long)
  all-handed (reg h a ∷ is) r o next long = (tt, all-handed is r.1 o next long)
  all-handed (mem h a last ∷ is) r o next long = (tt, all-handed is r.1 o next long)
  all-handed (assign a e ∷ is) r o next long = (tt, all-handed is r.1 o next long)
  all-handed (clocked a c e ∷ is) r o next long =
      let x = g (clocked a c e) in (
        stays-net is r.1 (slice_set next (s a) x) a r.0.0 o.0 ∙ get_or-set_same next (s a) x [] (placed-below is_register a next long r.0.0),
        all-handed is r.1 o.1 (slice_set next (s a) x) (length-set next (s a) x ∙ long),
      )
  all-handed (store c a i e ∷ is) r o next long =
      let x = g (store c a i e) in (
        stays-word is r.1 (slice_set next (s a) x) a r.0.0 o.0 ∙ get_or-set_same next (s a) x [] (placed-below is_memory a next long r.0.0),
        all-handed is r.1 o.1 (slice_set next (s a) x) (length-set next (s a) x ∙ long),
      )

  pub length-handed : (is : List Item) (next : List (List Label)) → length (handed is next) ≡ length next
  length-handed [] next = refl
  length-handed (wire h a ∷ is) next = length-handed is next
  length-handed (reg h a ∷ is) next = length-handed is next
  length-handed (mem h a last ∷ is) next = length-handed is next
  length-handed (assign a e ∷ is) next = length-handed is next
  length-handed (clocked a c e ∷ is) next = length-handed is (slice_set next (s a) (g (clocked a c e))) ∙ length-set next (s a) (g (clocked a c e))
  length-handed (store c a i e ∷ is) next = length-handed is (slice_set next (s a) (g (store c a i e))) ∙ length-set next (s a) (g (store c a i e))
