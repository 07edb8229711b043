-- Rows by line through a leaf's items: they have the labels of nets and memories by name.
use Rattle.std.proofs.Common.{◌≡◌, ◌≢◌, ℕ, ◌<◌, Bool, true, false, ◌++◌, List, [], ◌∷◌, length, refl, sym, ◌∙◌, ap, subst, bytes_eq, arith}
use Rattle.std.specs.Prelude.{Some, get_or, slice_set}
use Rattle.std.specs.List.{AllByRecursion, list_all}
use Rattle.std.proofs.lemmas.Bool.{and_parts, or_from, false≢true}
use Rattle.std.proofs.lemmas.List.{get_or-set_same, get_or-set_other, length-set}
use Rattle.vl_tree.specs.Grammar.{limit}
use Rattle.vl_tree.specs.Values.{Name, Expr, Item, wire, reg, mem, assign, clocked, store}
use Rattle.vl_model.specs.Meaning.{Widths, Use, width_of, nets_of, uses_of}
use Rattle.vl_model.specs.declared.kind.Kind.{Kind}
use Rattle.vl_model.specs.declared.kind.Kind.TheVariants.{Input, Output, Inner, Register, Memory, Child}
use Rattle.vl_model.specs.Lines.{Line, Declared, lookup, kind_passes, is_net, is_memory, widths}
use Rattle.vl_model.specs.Rules.{is_kind}
use Rattle.vl_model.specs.Order.{is_assigned, InOrder}
use Rattle.vl_model.proofs.Settling.{one-name, itself, Tight}
use Rattle.vl_model.proofs.Ordered.{kind-of, lookup-front, driven-is-net}
use Rattle.vl_run.specs.Places.{ArePlaces}
use Rattle.vl_run.proofs.Narrow.{AreNarrow}
use Rattle.vl_run.proofs.Ruled.{Ruled, ItemRuled}
use Rattle.vl_run.proofs.Settled.{ruled-nets}
use Rattle.label_model.specs.Labels.{Label, Labels, label_of}
use Rattle.label_model.specs.Phase.{put_net, labelled}
use Rattle.label_model.proofs.Labelling.{put-here, put-other}
use Rattle.label_audit.specs.Rows.{first_bits, row_of, rows_by}
use Rattle.label_audit.specs.Instances.{assigned_row, each_item}
use Rattle.label_audit.proofs.Computed.{row-is}

-- the memories of an expression that keeps the rules
known-memories : (all before rest : List Line) (us : List Use) → all ≡ before ++ rest → list_all (λ (u : Use). is_kind is_memory before u.memory) us ≡ true → AllByRecursion (λ (u : Use). is_kind is_memory all u.memory ≡ true) us
known-memories all before rest [] e k = tt
known-memories all before rest (u ∷ us) e k =
    let ks = and_parts (is_kind is_memory before u.memory) (list_all (λ (u : Use). is_kind is_memory before u.memory) us) k in
    let what = kind-of is_memory before u.memory ks.0 in
    (ap (kind_passes is_memory) (ap (λ x. lookup x u.memory) e ∙ lookup-front before rest u.memory what.0 what.1) ∙ what.2, known-memories all before rest us e ks.1)

no-both : (c : Kind) → is_net c ≡ true → is_memory c ≡ true → ⊥
no-both Input a b = false≢true b
no-both Output a b = false≢true b
no-both Inner a b = false≢true b
no-both Register a b = false≢true b
no-both Memory a b = false≢true a
no-both Child a b = false≢true b

module _ (all : List Line) (s : Name → ℕ) (places : ArePlaces all s) (most : AreNarrow (widths all)) where
  abbrev W : Widths
  W = widths all

  abbrev pub HasNet : List (List Label) → Labels → Name → Type 0
  HasNet rows v n = rows_by s rows n ≡ first_bits (v.net n) (W.net n)

  abbrev pub HasWord : List (List Label) → Labels → Name → Type 0
  HasWord rows v n = rows_by s rows n ≡ first_bits (v.word n) (W.word n)

  -- the nets that none of the items assigns
  abbrev pub Agrees : List Item → List (List Label) → Labels → Type 0
  Agrees is rows v = (n : Name) → is_kind is_net all n ≡ true → is_assigned is n ≡ false → HasNet rows v n

  abbrev pub Words : List (List Label) → Labels → Type 0
  Words rows v = (n : Name) → is_kind is_memory all n ≡ true → HasWord rows v n

  names-apart : (test : Kind → Bool) (k a : Name) → is_kind test all k ≡ true → is_kind is_net all a ≡ true → (k ≡ a → ⊥) → s k ≢ s a
  names-apart test k a b c other same = let x = kind-of test all k b in let y = kind-of is_net all a c in other (places.apart k a x.0 y.0 x.1 y.1 same)

  memory-apart : (k a : Name) → is_kind is_memory all k ≡ true → is_kind is_net all a ≡ true → k ≡ a → ⊥
  memory-apart k a b c same =
      let y = kind-of is_net all a c in
      no-both y.0.kind y.2 (sym (ap (kind_passes is_memory) y.1) ∙ (subst (λ z. is_kind is_memory all z ≡ true) same b))

  nets-ready : (is : List Item) (rows : List (List Label)) (v : Labels) (ns : List Name) → Agrees is rows v → list_all (is_kind is_net all) ns ≡ true → AllByRecursion (λ n. is_assigned is n ≡ false) ns → AllByRecursion (HasNet rows v) ns
  nets-ready is rows v [] a k f = tt
  nets-ready is rows v (n ∷ ns) a k f = let ks = and_parts (is_kind is_net all n) (list_all (is_kind is_net all) ns) k in (a n ks.0 f.0, nets-ready is rows v ns a ks.1 f.1)

  words-ready : (rows : List (List Label)) (v : Labels) (us : List Use) → Words rows v → AllByRecursion (λ (u : Use). is_kind is_memory all u.memory ≡ true) us → AllByRecursion (λ (u : Use). HasWord rows v u.memory) us
  words-ready rows v [] a k = tt
  words-ready rows v (u ∷ us) a k = (a u.memory k.0, words-ready rows v us a k.1)

  -- the row of an expression that keeps the rules
  pub row-has : (is : List Item) (rows : List (List Label)) (v : Labels) → Agrees is rows v → Words rows v → (e : Expr) → Ruled all e → AllByRecursion (λ n. is_assigned is n ≡ false) (nets_of e)
      → row_of (rows_by s rows) e ≡ first_bits (label_of W v e) (width_of W e)
  row-has is rows v nets words e r free =
      row-is W most v (rows_by s rows) limit e r.plain r.agree (nets-ready is rows v (nets_of e) nets (ruled-nets all s places most (λ i j. 0) e r) free)
      (words-ready rows v (uses_of e) words (known-memories all r.before r.rest (uses_of e) r.whole r.memories))

  -- the assigns in order
  pub settles : (is : List Item) → AllByRecursion (ItemRuled all) is → AllByRecursion (Tight W) is → InOrder is → (v : Labels) (rows : List (List Label)) → length rows ≡ length all → Words rows v → Agrees is rows v
      → ((n : Name) → is_kind is_net all n ≡ true → HasNet (each_item (assigned_row s) is rows) (labelled W v is) n) × Words (each_item (assigned_row s) is rows) (labelled W v is)
  settles [] r t o v rows long words nets = ((λ n k. nets n k refl), words)
  settles (wire h a ∷ is) r t o v rows long words nets = settles is r.1 t.1 o v rows long words nets
  settles (reg h a ∷ is) r t o v rows long words nets = settles is r.1 t.1 o v rows long words nets
  settles (mem h a last ∷ is) r t o v rows long words nets = settles is r.1 t.1 o v rows long words nets
  settles (clocked a c e ∷ is) r t o v rows long words nets = settles is r.1 t.1 o v rows long words nets
  settles (store c a i e ∷ is) r t o v rows long words nets = settles is r.1 t.1 o v rows long words nets
  settles (assign a e ∷ is) r t o v rows long words nets =
      settles is r.1 t.1 o.2 (put_net v a (label_of W v e)) next (length-set rows (s a) x ∙ long) (λ k m. get_or-set_other rows (s a) (s k) x [] (names-apart is_memory k a m target (memory-apart k a m target)) ∙ words k m)
      (λ k m f. go k m f (bytes_eq k a) refl)
    where
      x : List Label
      x = row_of (rows_by s rows) e

      next : List (List Label)
      next = slice_set rows (s a) x

      target : is_kind is_net all a ≡ true
      target = driven-is-net all a r.0.0

      below : s a < length rows
      below = let what = kind-of is_net all a target in let low = places.below a what.0 what.1 in omega (arith, low, long)

      here : HasNet next (put_net v a (label_of W v e)) a
      here = get_or-set_same rows (s a) x [] below ∙ row-has (assign a e ∷ is) rows v nets words e r.0.1 o.0 ∙ ap (first_bits (label_of W v e)) t.0.2 ∙ ap (λ f. first_bits f (W.net a)) (sym (put-here v a (label_of W v e)))

      go : (k : Name) → is_kind is_net all k ≡ true → is_assigned is k ≡ false → (b : Bool) → bytes_eq k a ≡ b → HasNet next (put_net v a (label_of W v e)) k
      go k m f true same = subst (HasNet next (put_net v a (label_of W v e))) (sym (one-name k a same)) here
      go k m f false other =
          get_or-set_other rows (s a) (s k) x [] (names-apart is_net k a m target (λ one. false≢true (sym other ∙ ap (λ z. bytes_eq z a) one ∙ itself a))) ∙ nets k m (or_from (bytes_eq k a) (is_assigned is k) other f)
          ∙ ap (λ g. first_bits g (W.net k)) (sym (put-other v a k (label_of W v e) other))
