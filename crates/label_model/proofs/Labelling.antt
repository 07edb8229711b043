-- Labels along a leaf's assigns in order.
use Rattle.std.proofs.Common.{◌≡◌, ℕ, ◌+◌, ◌-◌, Bool, true, false, List, [], ◌∷◌, ◌++◌, map, Option, refl, sym, ◌∙◌, ap, subst, bytes_eq}
use Rattle.std.specs.Prelude.{Some, None, nat_lt, if◌then◌else◌}
use Rattle.std.specs.List.{AllByRecursion, list_any}
use Rattle.std.proofs.lemmas.Bool.{or_parts, both_ways}
use Rattle.vl_tree.specs.declared.tree.Port.{Port}
use Rattle.vl_tree.specs.Values.{Name, Expr, Exprs, net, number, bit, part, word, not, two, choose, cat, no_parts, parts, Item, wire, reg, mem, assign, clocked, store, Leaf}
use Rattle.vl_model.specs.Meaning.{Widths, width_of, widths_of, nets_of, parts_nets}
use Rattle.vl_model.specs.Lines.{item, leaf_lines, port_named, is_driven}
use Rattle.vl_model.specs.Rules.{is_kind, depending, all_depending}
use Rattle.vl_model.specs.Leaf.{leaf_widths}
use Rattle.vl_model.specs.Settle.{is_input_port}
use Rattle.vl_model.specs.Order.{is_assigned, InOrder}
use Rattle.vl_model.proofs.Valued.{same-front, same-back}
use Rattle.vl_model.proofs.Settling.{itself}
use Rattle.vl_model.proofs.Leaves.{GoodLeaf, front, input-depends, depending-append}
use Rattle.label_model.specs.Labels.{Label, from, sources, either, not_label, choice_label, all_sources, op_label, Labels, label_of, labels_of}
use Rattle.label_model.specs.Phase.{put_net, labelled}

pub put-here : (l : Labels) (n : Name) (x : ℕ → Label) → (put_net l n x).net n ≡ x
put-here l n x = rw (itself n) refl

pub put-other : (l : Labels) (n m : Name) (x : ℕ → Label) → bytes_eq m n ≡ false → (put_net l n x).net m ≡ l.net m
put-other l n m x e = rw e refl

-- the two agree on these nets
abbrev pub SameNets : Labels → Labels → List Name → Type 0
SameNets l m ns = AllByRecursion (λ n. l.net n ≡ m.net n) ns

same-function : (f g : ℕ → Label) → ((i : ℕ) → f i ≡ g i) → f ≡ g
same-function f g h = λ k i. h i k

-- ---- what the labels of an expression depend on

module _ (w : Widths) (l m : Labels) (words : l.word ≡ m.word) where
  mutual
    pub label-same : (e : Expr) → SameNets l m (nets_of e) → (i : ℕ) → label_of w l e i ≡ label_of w m e i
    label-same (net n) s i = ap (λ f. f i) s.0
    label-same (number k) s i = refl
    label-same (bit n j) s i = ap (λ f. f j) s.0
    label-same (part n h j) s i = ap (λ f. f (j + i)) s.0
    label-same (word n e) s i =
        ap (λ z. from (either (sources (z n i)) (all_sources (label_of w l e) (width_of w e)))) words
        ∙ ap (λ z. from (either (sources (m.word n i)) (all_sources z (width_of w e)))) (same-function (label_of w l e) (label_of w m e) (label-same e s))
    label-same (not e) s i = ap not_label (label-same e s i)
    label-same (two op a b) s i =
        ap (λ x. op_label op (width_of w a) x (label_of w l b) i) (same-function (label_of w l a) (label_of w m a) (label-same a (same-front (λ n. l.net n ≡ m.net n) (nets_of a) (nets_of b) s)))
        ∙ ap (λ y. op_label op (width_of w a) (label_of w m a) y i) (same-function (label_of w l b) (label_of w m b) (label-same b (same-back (λ n. l.net n ≡ m.net n) (nets_of a) (nets_of b) s)))
    label-same (choose c a b) s i =
        let rest = same-back (λ n. l.net n ≡ m.net n) (nets_of c) (nets_of a ++ nets_of b) s in
        ap (λ z. choice_label z (label_of w l a i) (label_of w l b i)) (label-same c (same-front (λ n. l.net n ≡ m.net n) (nets_of c) (nets_of a ++ nets_of b) s) 0)
        ∙ ap (λ x. choice_label (label_of w m c 0) x (label_of w l b i)) (label-same a (same-front (λ n. l.net n ≡ m.net n) (nets_of a) (nets_of b) rest) i)
        ∙ ap (λ y. choice_label (label_of w m c 0) (label_of w m a i) y) (label-same b (same-back (λ n. l.net n ≡ m.net n) (nets_of a) (nets_of b) rest) i)
    label-same (cat es) s i = labels-same es s i

    labels-same : (es : Exprs) → SameNets l m (parts_nets es) → (i : ℕ) → labels_of w l es i ≡ labels_of w m es i
    labels-same no_parts s i = refl
    labels-same (parts e es) s i =
        ap (λ x. if nat_lt i (widths_of w es) then x else label_of w l e (i - widths_of w es)) (labels-same es (same-back (λ n. l.net n ≡ m.net n) (nets_of e) (parts_nets es) s) i)
        ∙ ap (λ y. if nat_lt i (widths_of w es) then labels_of w m es i else y) (label-same e (same-front (λ n. l.net n ≡ m.net n) (nets_of e) (parts_nets es) s) (i - widths_of w es))

  pub all-same : (e : Expr) → SameNets l m (nets_of e) → label_of w l e ≡ label_of w m e
  all-same e s = same-function (label_of w l e) (label_of w m e) (label-same e s)

-- ---- the assigns in order

module _ (w : Widths) where
  -- memories stay
  pub labelled-word : (l : Labels) (is : List Item) → (labelled w l is).word ≡ l.word
  labelled-word l [] = refl
  labelled-word l (wire h n ∷ is) = labelled-word l is
  labelled-word l (reg h n ∷ is) = labelled-word l is
  labelled-word l (mem h n last ∷ is) = labelled-word l is
  labelled-word l (assign n e ∷ is) = labelled-word (put_net l n (label_of w l e)) is
  labelled-word l (clocked n k e ∷ is) = labelled-word l is
  labelled-word l (store c n i e ∷ is) = labelled-word l is

  -- so does what no item assigns
  pub labelled-outside : (l : Labels) (is : List Item) (m : Name) → is_assigned is m ≡ false → (labelled w l is).net m ≡ l.net m
  labelled-outside l [] m f = refl
  labelled-outside l (wire h n ∷ is) m f = labelled-outside l is m f
  labelled-outside l (reg h n ∷ is) m f = labelled-outside l is m f
  labelled-outside l (mem h n last ∷ is) m f = labelled-outside l is m f
  labelled-outside l (assign n e ∷ is) m f =
      let fs = or_parts (bytes_eq m n) (is_assigned is m) f in
      labelled-outside (put_net l n (label_of w l e)) is m fs.1 ∙ put-other l n m (label_of w l e) fs.0
  labelled-outside l (clocked n k e ∷ is) m f = labelled-outside l is m f
  labelled-outside l (store c n i e ∷ is) m f = labelled-outside l is m f

  same-labelled : (l : Labels) (is : List Item) (ms : List Name) → AllByRecursion (λ m. is_assigned is m ≡ false) ms → SameNets (labelled w l is) l ms
  same-labelled l is [] f = tt
  same-labelled l is (m ∷ ms) f = (labelled-outside l is m f.0, same-labelled l is ms f.1)

  abbrev pub Holds : Labels → Item → Type 0
  Holds l (assign n e) = l.net n ≡ label_of w l e
  Holds l _ = Unit {0}

  -- every assign holds at the end
  pub labelled-holds : (l : Labels) (is : List Item) → InOrder is → AllByRecursion (Holds (labelled w l is)) is
  labelled-holds l [] o = tt
  labelled-holds l (wire h n ∷ is) o = (tt, labelled-holds l is o)
  labelled-holds l (reg h n ∷ is) o = (tt, labelled-holds l is o)
  labelled-holds l (mem h n last ∷ is) o = (tt, labelled-holds l is o)
  labelled-holds l (assign n e ∷ is) o =
      let x : ℕ → Label = label_of w l e in
      let s : Labels = labelled w (put_net l n x) is in
      let here : s.net n ≡ x = labelled-outside (put_net l n x) is n o.1 ∙ put-here l n x in
      let same : label_of w s e ≡ x = all-same w s l (labelled-word (put_net l n x) is) e (same-labelled l (assign n e ∷ is) (nets_of e) o.0) in
      (here ∙ sym same, labelled-holds (put_net l n x) is o.2)
  labelled-holds l (clocked n k e ∷ is) o = (tt, labelled-holds l is o)
  labelled-holds l (store c n i e ∷ is) o = (tt, labelled-holds l is o)

  -- ---- what does not depend on the inputs

  -- the two agree but at these names
  abbrev ApartAt : List Name → Labels → Labels → Type 0
  ApartAt ns l u = (m : Name) → list_any (bytes_eq m) ns ≡ false → l.net m ≡ u.net m

  reads-none : (l u : Labels) (ns ms : List Name) → ApartAt ns l u → list_any (λ m. list_any (bytes_eq m) ns) ms ≡ false → SameNets l u ms
  reads-none l u ns [] agree f = tt
  reads-none l u ns (m ∷ ms) agree f =
      let fs = or_parts (list_any (bytes_eq m) ns) (list_any (λ k. list_any (bytes_eq k) ns) ms) f in (agree m fs.0, reads-none l u ns ms agree fs.1)

  labelled-apart : (l u : Labels) (ns : List Name) (is : List Item) → l.word ≡ u.word → ApartAt ns l u → ApartAt (all_depending ns (map item is)) (labelled w l is) (labelled w u is)
  labelled-apart l u ns [] words agree = agree
  labelled-apart l u ns (wire h n ∷ is) words agree = labelled-apart l u ns is words agree
  labelled-apart l u ns (reg h n ∷ is) words agree = labelled-apart l u ns is words agree
  labelled-apart l u ns (mem h n last ∷ is) words agree = labelled-apart l u ns is words agree
  labelled-apart l u ns (assign n e ∷ is) words agree =
      labelled-apart (put_net l n (label_of w l e)) (put_net u n (label_of w u e)) (depending ns (item (assign n e))) is words
      (go (list_any (λ m. list_any (bytes_eq m) ns) (nets_of e)) refl)
    where
      x : ℕ → Label
      x = label_of w l e

      y : ℕ → Label
      y = label_of w u e

      here : x ≡ y → (m : Name) → list_any (bytes_eq m) ns ≡ false → (b : Bool) → bytes_eq m n ≡ b → (put_net l n x).net m ≡ (put_net u n y).net m
      here same m f true is' = rw is' same
      here same m f false other = put-other l n m x other ∙ agree m f ∙ sym (put-other u n m y other)

      go : (b : Bool) → list_any (λ m. list_any (bytes_eq m) ns) (nets_of e) ≡ b → ApartAt (if b then n ∷ ns else ns) (put_net l n x) (put_net u n y)
      go true some m f =
          let fs = or_parts (bytes_eq m n) (list_any (bytes_eq m) ns) f in
          put-other l n m x fs.0 ∙ agree m fs.1 ∙ sym (put-other u n m y fs.0)
      go false none m f = here (all-same w l u words e (reads-none l u ns (nets_of e) agree none)) m f (bytes_eq m n) refl
  labelled-apart l u ns (clocked n k e ∷ is) words agree = labelled-apart l u ns is words agree
  labelled-apart l u ns (store c n i e ∷ is) words agree = labelled-apart l u ns is words agree

-- ---- a sound leaf

-- what agrees but at the inputs gives the same outputs
pub outputs-same : (l : Leaf) → GoodLeaf l → (v u : Labels) → v.word ≡ u.word → ((m : Name) → is_input_port (port_named l.ports m) ≡ false → v.net m ≡ u.net m)
    → (n : Name) (p : Port) → port_named l.ports n ≡ Some p → p.output ≡ true → (labelled (leaf_widths l) v l.items).net n ≡ (labelled (leaf_widths l) u l.items).net n
outputs-same l g v u words agree n p e out =
    labelled-apart (leaf_widths l) v u inputs l.items words (λ m f. agree m (not-input m f (port_named l.ports m) refl)) n
    (subst (λ ns. list_any (bytes_eq n) ns ≡ false) (depending-append [] (front l) (map item l.items)) (g.through n p e out))
  where
    inputs : List Name
    inputs = all_depending [] (front l)

    way : (m : Name) (q : Port) → port_named l.ports m ≡ Some q → list_any (bytes_eq m) inputs ≡ false → (b : Bool) → q.output ≡ b → is_input_port (Some q) ≡ false
    way m q is f true o = rw o refl
    way m q is f false o = absurd (both_ways (list_any (bytes_eq m) inputs) f (input-depends [] l.ports m q is o))

    not-input : (m : Name) → list_any (bytes_eq m) inputs ≡ false → (o : Option Port) → port_named l.ports m ≡ o → is_input_port (port_named l.ports m) ≡ false
    not-input m f None is = ap is_input_port is
    not-input m f (Some q) is = ap is_input_port is ∙ way m q is f q.output refl

-- what no wire or output port is stays
pub labelled-keeps : (l : Leaf) → GoodLeaf l → (v : Labels) (m : Name) → is_kind is_driven (leaf_lines l) m ≡ false → (labelled (leaf_widths l) v l.items).net m ≡ v.net m
labelled-keeps l g v m k = labelled-outside (leaf_widths l) v l.items m (g.free m k)
