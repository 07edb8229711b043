-- Rows by line of registers and memories have the labels that a phase hands over, and those of reset.
use Rattle.std.proofs.Common.{◌≡◌, ℕ, ◌+◌, ◌<◌, Bool, true, false, List, [], ◌∷◌, length, refl, sym, ◌∙◌, ap, subst, bytes_eq, arith}
use Rattle.std.specs.List.{AllByRecursion}
use Rattle.vl_tree.specs.Values.{Name, Expr, Item, wire, reg, mem, assign, clocked, store, Leaf}
use Rattle.vl_model.specs.Meaning.{Widths, Values, width_of, nets_of}
use Rattle.vl_model.specs.Lines.{Line, leaf_lines, is_net, is_memory, is_register, widths}
use Rattle.vl_model.specs.Rules.{is_kind}
use Rattle.vl_model.specs.Leaf.{leaf_widths}
use Rattle.vl_model.specs.Order.{is_assigned}
use Rattle.vl_model.proofs.Stepping.{Moves}
use Rattle.vl_model.proofs.One.{all-both}
use Rattle.vl_run.specs.Places.{ArePlaces}
use Rattle.vl_run.proofs.Narrow.{AreNarrow}
use Rattle.vl_run.proofs.Ruled.{Ruled, ItemRuled}
use Rattle.label_model.specs.Labels.{Label, Labels, either, from, sources, all_sources, label_of}
use Rattle.label_model.specs.Phase.{write_label, carried}
use Rattle.label_model.proofs.Edges.{Sides, ReadyLeaf, ClockedHas, StoredHas, clocked-has, stored-has}
use Rattle.label_model.proofs.Handing.{Carries, all-carry}
use Rattle.label_audit.specs.Rows.{bit_in, first_bits, store_row, row_of, rows_by}
use Rattle.label_audit.specs.Instances.{handed_row, carried_row, each_item}
use Rattle.label_audit.proofs.Computed.{bit-first}
use Rattle.label_audit.proofs.Settled.{HasNet, HasWord, Agrees, Words, row-has}
use Rattle.label_audit.proofs.Handed.{store-first, HandsRow, all-handed}

none-assigned : (ns : List Name) → AllByRecursion (λ n. is_assigned [] n ≡ false) ns
none-assigned [] = tt
none-assigned (n ∷ ns) = (refl, none-assigned ns)

no_values : Values
no_values = record { net = λ n. 0; word = λ n j. 0 }

module _ (leaf : Leaf) (s : Name → ℕ) (places : ArePlaces (leaf_lines leaf) s) (most : AreNarrow (leaf_widths leaf)) (rows : List (List Label)) (v : Labels)
    (nets : (n : Name) → is_kind is_net (leaf_lines leaf) n ≡ true → HasNet (leaf_lines leaf) s places most rows v n) (words : Words (leaf_lines leaf) s places most rows v) where
  abbrev all : List Line
  all = leaf_lines leaf

  abbrev w : Widths
  w = leaf_widths leaf

  has : (e : Expr) → Ruled all e → row_of (rows_by s rows) e ≡ first_bits (label_of w v e) (width_of w e)
  has e r = row-has all s places most [] rows v (λ n k f. nets n k) words e r (none-assigned (nets_of e))

  module _ (out : List (List Label)) (r : Labels) where
    abbrev Facts : Item → Type 0
    Facts x = ItemRuled all x × Moves w no_values x × Sides w x × Carries w v r x

    hands-net : (x : Item) → HandsRow all s places (handed_row s rows) out x → Facts x → ClockedHas (HasNet all s places most out r) x
    hands-net (clocked n k e) h f = h ∙ has e f.0.1 ∙ ap (first_bits (label_of w v e)) f.1.2 ∙ ap (λ g. first_bits g (w.net n)) (sym f.3)
    hands-net (wire h n) a f = tt
    hands-net (reg h n) a f = tt
    hands-net (mem h n last) a f = tt
    hands-net (assign n e) a f = tt
    hands-net (store c n i e) a f = tt

    hands-word : (x : Item) → HandsRow all s places (handed_row s rows) out x → Facts x → StoredHas (HasWord all s places most out r) x
    hands-word (store c n i e) h f =
        let C : row_of (rows_by s rows) c ≡ first_bits (label_of w v c) (width_of w c) = has c f.0.1 in
        let one = f.2.2 in
        let bit0 : bit_in (row_of (rows_by s rows) c) 0 ≡ label_of w v c 0 = ap (λ xs. bit_in xs 0) C ∙ bit-first (label_of w v c) (width_of w c) 0 (omega (arith, one)) in
        h ∙ ap (λ z. store_row z (row_of (rows_by s rows) i) (row_of (rows_by s rows) e) (rows_by s rows n)) bit0
        ∙ ap (λ z. store_row (label_of w v c 0) z (row_of (rows_by s rows) e) (rows_by s rows n)) (has i f.0.2)
        ∙ ap (λ z. store_row (label_of w v c 0) (first_bits (label_of w v i) (width_of w i)) z (rows_by s rows n)) (has e f.0.3)
        ∙ ap (λ z. store_row (label_of w v c 0) (first_bits (label_of w v i) (width_of w i)) (first_bits (label_of w v e) (width_of w e)) z) (words n f.0.0)
        ∙ store-first (label_of w v c 0) (label_of w v i) (label_of w v e) (v.word n) (width_of w i) (width_of w e) (w.word n) (sym f.1.2)
        ∙ ap (λ g. first_bits g (w.word n)) (sym f.3)
    hands-word (wire h n) a f = tt
    hands-word (reg h n) a f = tt
    hands-word (mem h n last) a f = tt
    hands-word (assign n e) a f = tt
    hands-word (clocked n k e) a f = tt

  -- the rows that a leaf hands over
  pub kept-rows : ReadyLeaf leaf → AllByRecursion (ItemRuled all) leaf.items → (m : Labels) (next : List (List Label)) → length next ≡ length all
      → ((n : Name) → is_kind is_register all n ≡ true → HasNet all s places most (each_item (carried_row s rows) leaf.items next) (carried w v leaf.items m) n)
      × ((n : Name) → is_kind is_memory all n ≡ true → HasWord all s places most (each_item (carried_row s rows) leaf.items next) (carried w v leaf.items m) n)
  kept-rows ready ruled m next long = (
    (λ n k. clocked-has (HasNet all s places most out r) leaf.items (all-both (HandsRow all s places (handed_row s rows) out) (Facts out r) (ClockedHas (HasNet all s places most out r)) (hands-net out r) leaf.items handed facts) n (ready.moving.register n k)),
    (λ n k. stored-has (HasWord all s places most out r) leaf.items (all-both (HandsRow all s places (handed_row s rows) out) (Facts out r) (StoredHas (HasWord all s places most out r)) (hands-word out r) leaf.items handed facts) n (ready.moving.memory n k)),
  )
    where
      out : List (List Label)
      out = each_item (carried_row s rows) leaf.items next

      r : Labels
      r = carried w v leaf.items m

      handed : AllByRecursion (HandsRow all s places (handed_row s rows) out) leaf.items
      handed = all-handed all s places (handed_row s rows) leaf.items ruled ready.moving.once next long

      facts : AllByRecursion (Facts out r) leaf.items
      facts =
          all-both (ItemRuled all) (λ x. Moves w no_values x × Sides w x × Carries w v r x) (Facts out r) (λ x a b. (a, b.0, b.1, b.2)) leaf.items ruled
          (all-both (Moves w no_values) (λ x. Sides w x × Carries w v r x) (λ x. Moves w no_values x × Sides w x × Carries w v r x) (λ x a b. (a, b.0, b.1)) leaf.items (ready.moving.moves no_values)
          (all-both (Sides w) (Carries w v r) (λ x. Sides w x × Carries w v r x) (λ x a b. (a, b)) leaf.items ready.sides (all-carry w v leaf.items m ready.moving.once)))
