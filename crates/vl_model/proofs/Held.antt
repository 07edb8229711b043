-- In a right valuation every item of a sound leaf holds, with the declared widths.
use Rattle.std.proofs.Common.{◌≡◌, ℕ, ◌+◌, ◌<◌, ◌^◌, Bool, true, false, List, [], ◌∷◌, ◌++◌, map, Option, refl, ◌∙◌, ap, subst, bytes_eq}
use Rattle.std.specs.Prelude.{Some, None, is_some}
use Rattle.std.specs.List.{AllByRecursion}
use Rattle.std.proofs.lemmas.Bool.{true≢false}
use Rattle.vl_tree.specs.Values.{Item, wire, reg, mem, assign, clocked, store, Leaf}
use Rattle.vl_model.specs.Meaning.{Widths, Values}
use Rattle.vl_model.specs.declared.kind.Kind.TheVariants.{Inner, Register, Memory}
use Rattle.vl_model.specs.Lines.{Line, item, sites_behind, leaf_lines, Declared, declared, found, lookup, net_bits, word_bits, widths}
use Rattle.vl_model.specs.Rules.{is_again, name_twice}
use Rattle.vl_model.specs.Leaf.{leaf_widths, Assigned, AreSmall}
use Rattle.vl_model.specs.Parts.{Holds, AllHold}
use Rattle.vl_model.specs.Laws.{PartsHold, PartsAlone}
use Rattle.vl_model.proofs.Passed.{Passes, passes-behind, leaf-sound, all-front, all-back}
use Rattle.vl_model.proofs.Settling.{itself}
use Rattle.vl_model.proofs.Ordered.{more}
use Rattle.vl_model.proofs.Leaves.{front}

none-of : {A : Type 0} (o : Option A) → is_some o ≡ false → o ≡ None
none-of None e = refl
none-of (Some x) e = absurd (true≢false e)

-- a name that no line before declares is what this line declares it as
lookup-new : (before rest : List Line) (x : Line) (d : Declared) → declared x ≡ Some d → lookup before d.name ≡ None
    → lookup (before ++ x ∷ rest) d.name ≡ Some d
lookup-new [] rest x d is none = ap (λ o. found o d.name (lookup rest d.name)) is ∙ rw (itself d.name) refl
lookup-new (y ∷ before) rest x d is none = go (declared y) (lookup-new before rest x d is) none
  where
    go : (o : Option Declared) → (lookup before d.name ≡ None → lookup (before ++ x ∷ rest) d.name ≡ Some d)
        → found o d.name (lookup before d.name) ≡ None → found o d.name (lookup (before ++ x ∷ rest) d.name) ≡ Some d
    go None later e = later e
    go (Some z) later e = here (bytes_eq d.name z.name) refl e
      where
        here : (b : Bool) → bytes_eq d.name z.name ≡ b → found (Some z) d.name (lookup before d.name) ≡ None
            → found (Some z) d.name (lookup (before ++ x ∷ rest) d.name) ≡ Some d
        here true same f = absurd (true≢false (ap is_some (rw same at f)))
        here false other f = rw other (later (rw other at f))

declared-here : (all before : List Line) (x : Item) (is : List Item) (d : Declared) → all ≡ before ++ map item (x ∷ is)
    → declared (item x) ≡ Some d → is_again before (declared (item x)) ≡ false → lookup all d.name ≡ Some d
declared-here all before x is d e what again =
    ap (λ l. lookup l d.name) e
    ∙ lookup-new before (map item is) (item x) d what (none-of (lookup before d.name) (subst (λ o. is_again before o ≡ false) what again))

-- a declared name is as wide as it says, and its numbers fit
abbrev Sized : Widths → Values → Item → Type 0
Sized w v (wire h n) = (w.net n ≡ h + 1) × (v.net n < 2 ^ (h + 1))
Sized w v (reg h n) = (w.net n ≡ h + 1) × (v.net n < 2 ^ (h + 1))
Sized w v (mem h n last) = (w.word n ≡ h + 1) × ((i : ℕ) → v.word n i < 2 ^ (h + 1))
Sized w v _ = Unit {0}

sized : (v : Values) (all before : List Line) (is : List Item) (ls : List Leaf) → all ≡ before ++ map item is
    → Passes name_twice (sites_behind ls all before (map item is)) → AreSmall (widths all) v
    → AllByRecursion (Sized (widths all) v) is
unfolding name_twice
sized v all before [] ls e once small = tt
sized v all before (wire h n ∷ is) ls e once small =
    let w : (widths all).net n ≡ h + 1 =
    ap net_bits (declared-here all before (wire h n) is (record { name = n; kind = Inner; high = h; last = 0 }) e refl once.0) in
    ((w, subst (λ k. v.net n < 2 ^ k) w (small.net n)), sized v all (before ++ item (wire h n) ∷ []) is ls (more all before (wire h n) is e) once.1 small)
sized v all before (reg h n ∷ is) ls e once small =
    let w : (widths all).net n ≡ h + 1 =
    ap net_bits (declared-here all before (reg h n) is (record { name = n; kind = Register; high = h; last = 0 }) e refl once.0) in
    ((w, subst (λ k. v.net n < 2 ^ k) w (small.net n)), sized v all (before ++ item (reg h n) ∷ []) is ls (more all before (reg h n) is e) once.1 small)
sized v all before (mem h n last ∷ is) ls e once small =
    let w : (widths all).word n ≡ h + 1 =
    ap word_bits (declared-here all before (mem h n last) is (record { name = n; kind = Memory; high = h; last = last }) e refl once.0) in
    ((w, λ i. subst (λ k. v.word n i < 2 ^ k) w (small.word n i)), sized v all (before ++ item (mem h n last) ∷ []) is ls (more all before (mem h n last) is e) once.1 small)
sized v all before (assign n x ∷ is) ls e once small =
    (tt, sized v all (before ++ item (assign n x) ∷ []) is ls (more all before (assign n x) is e) once.1 small)
sized v all before (clocked n k x ∷ is) ls e once small =
    (tt, sized v all (before ++ item (clocked n k x) ∷ []) is ls (more all before (clocked n k x) is e) once.1 small)
sized v all before (store c n i x ∷ is) ls e once small =
    (tt, sized v all (before ++ item (store c n i x) ∷ []) is ls (more all before (store c n i x) is e) once.1 small)

zip-held : (w : Widths) (v : Values) (is : List Item) → AllByRecursion (Sized w v) is → AllByRecursion (Assigned w v) is
    → AllHold w v is
zip-held w v [] a b = tt
zip-held w v (wire h n ∷ is) a b = (a.0, zip-held w v is a.1 b.1)
zip-held w v (reg h n ∷ is) a b = (a.0, zip-held w v is a.1 b.1)
zip-held w v (mem h n last ∷ is) a b = (a.0, zip-held w v is a.1 b.1)
zip-held w v (assign n e ∷ is) a b = (b.0, zip-held w v is a.1 b.1)
zip-held w v (clocked n k e ∷ is) a b = (tt, zip-held w v is a.1 b.1)
zip-held w v (store c n i e ∷ is) a b = (tt, zip-held w v is a.1 b.1)

pub parts-hold : PartsHold
parts-hold d sound n l named v right =
    let s = leaf-sound d sound.rules n l named in
    zip-held (leaf_widths l) v l.items (sized v (leaf_lines l) (front l) l.items s.0 refl (passes-behind name_twice s.0 (leaf_lines l) [] (front l) (map item l.items) s.1.once) right.small) right.assigned

pub parts-alone : PartsAlone
parts-alone w v before items after h =
    all-front (Holds w v) items after (all-back (Holds w v) before (items ++ after) h)
