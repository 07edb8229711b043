-- What loops build, one more at a time: items behind those of a leaf, and expressions joined by OR.
use Rattle.std.proofs.Common.{◌≡◌, ℕ, zero, suc, ◌+◌, List, [], ◌∷◌, ◌++◌, refl, sym, ap, ◌∙◌, add-one, append_assoc, append-nil}
use Rattle.vl_tree.specs.declared.tree.Op.TheVariants.{Or}
use Rattle.vl_tree.specs.Values.{Name, Expr, two, Item, Leaf}
use Rattle.vl_model.specs.Laws.{with_items}
use Rattle.gen_kit.specs.Families.{defined, for_each, or_upto}

pub items_none : (l : Leaf) → l ≡ with_items l []
items_none l = ap (λ is. record { name = l.name; ports = l.ports; items = is }) (sym (append-nil l.items))

pub items_more : (l a b : Leaf) (is js : List Item) → a ≡ with_items l is → b ≡ with_items a js → b ≡ with_items l (is ++ js)
items_more l a b is js e f =
    f ∙ (ap (λ x. with_items x js) e ∙ ap (λ xs. record { name = l.name; ports = l.ports; items = xs }) (append_assoc l.items is js))

pub each_more : (f : ℕ → List Item) (n : ℕ) (l a b : Leaf) → a ≡ with_items l (for_each n f) → b ≡ with_items a (f n) → b ≡ with_items l (for_each (n + 1) f)
each_more f n l a b e g = rw (add-one n) (items_more l a b (for_each n f) (f n) e g)

pub or_more : (f : ℕ → Expr) (k : ℕ) (a b : Expr) → a ≡ or_upto k f → b ≡ two Or a (f (k + 1)) → b ≡ or_upto (k + 1) f
or_more f k a b e g = g ∙ (ap (λ x. two Or x (f (k + 1))) e ∙ rw (add-one k) refl)

pub define_is : (l a : Leaf) (h k : ℕ) (n m : Name) (e x : Expr) → a ≡ with_items l (defined h n e) → h ≡ k → n ≡ m → e ≡ x → a ≡ with_items l (defined k m x)
define_is l a h k n m e x is same named valued =
    is ∙ ap (with_items l) (ap (λ i. defined i n e) same ∙ (ap (λ i. defined k i e) named ∙ ap (defined k m) valued))
