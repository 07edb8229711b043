-- A leaf stays tidy with more items.
use Rattle.std.proofs.Common.{◌≡◌, ◌≤◌, Bool, true, false, ◌&&◌, List, [], ◌∷◌, ◌++◌, map, refl, sym, ◌∙◌, ap, subst, append_assoc}
use Rattle.std.specs.Prelude.{None}
use Rattle.std.specs.List.{AllByRecursion, list_all}
use Rattle.std.proofs.lemmas.Bool.{and_parts, and_from}
use Rattle.std.proofs.lemmas.List.{append-nil}
use Rattle.vl_tree.specs.declared.tree.Port.{Port}
use Rattle.vl_tree.specs.Values.{Item, Leaf}
use Rattle.vl_tree.specs.Tokens.{is_name}
use Rattle.vl_tree.specs.Plain.{plain_port, plain_item}
use Rattle.vl_model.specs.Lines.{Line, heading, port, item, Site, sites_behind, module_sites, leaf_lines}
use Rattle.vl_model.specs.Rules.{Rule, early_rules, first_fault_of, is_through, name_twice, name_unknown, wrong_width, wrong_order, goes_through, wrong_size, drivers}
use Rattle.vl_model.specs.Laws.{with_items, TidyMore}
use Rattle.vl_model.proofs.Passed.{Passes, no-fault}
use Rattle.vl_model.proofs.Together.{all-none}

map-append : {A B : Type 0} (f : A → B) (xs ys : List A) → map f (xs ++ ys) ≡ map f xs ++ map f ys
map-append f [] ys = refl
map-append f (x ∷ xs) ys = ap (λ zs. f x ∷ zs) (map-append f xs ys)

plain-more : (xs ys : List Item) → list_all plain_item xs ≡ true → list_all plain_item ys ≡ true
    → list_all plain_item (xs ++ ys) ≡ true
plain-more [] ys a b = b
plain-more (x ∷ xs) ys a b =
    let ps = and_parts (plain_item x) (list_all plain_item xs) a in
    and_from (plain_item x) (list_all plain_item (xs ++ ys)) ps.0 (plain-more xs ys ps.1 b)

-- the lines of the leaf with more items
lines-more : (l : Leaf) (is : List Item) → leaf_lines (with_items l is) ≡ leaf_lines l ++ map item is
lines-more l is =
    ap (λ z. heading l.name ∷ z) (ap (λ z. map port l.ports ++ z) (map-append item l.items is) ∙ sym (append_assoc (map port l.ports) (map item l.items) (map item is)))

-- the sites of two rows of lines
passes-join : (t : Site → Bool) (ls : List Leaf) (all before a b : List Line) → Passes t (sites_behind ls all before a)
    → Passes t (sites_behind ls all (before ++ a) b) → Passes t (sites_behind ls all before (a ++ b))
passes-join t ls all before [] b p q = subst (λ x. Passes t (sites_behind ls all x b)) (append-nil before) q
passes-join t ls all before (x ∷ a) b p q =
    (p.0, passes-join t ls all (before ++ x ∷ []) a b p.1 (subst (λ y. Passes t (sites_behind ls all y b)) (sym (append_assoc before (x ∷ []) a)) q))

-- a rule that does not look at the lines that follow
passes-any : (t : Site → Bool) (ls : List Leaf) (all more : List Line)
    → ((before : List Line) (x : Line) → t (record { leaves = ls; lines = more; before = before; line = x }) ≡ t (record { leaves = ls; lines = all; before = before; line = x }))
    → (before xs : List Line) → Passes t (sites_behind ls all before xs) → Passes t (sites_behind ls more before xs)
passes-any t ls all more same before [] p = tt
passes-any t ls all more same before (x ∷ xs) p =
    (same before x ∙ p.0, passes-any t ls all more same (before ++ x ∷ []) xs p.1)

module _ (l : Leaf) (is : List Item) where
  more : List Line
  more = leaf_lines l ++ map item is

  both : (t : Site → Bool)
      → ((before : List Line) (x : Line) → t (record { leaves = []; lines = leaf_lines l ++ map item is; before = before; line = x }) ≡ t (record { leaves = []; lines = leaf_lines l; before = before; line = x }))
      → Passes t (module_sites [] (leaf_lines l))
      → Passes t (sites_behind [] (leaf_lines l) (leaf_lines l) (map item is))
      → Passes t (module_sites [] (leaf_lines l ++ map item is))
  both t same old new =
      passes-join t [] (leaf_lines l ++ map item is) [] (leaf_lines l) (map item is)
      (passes-any t [] (leaf_lines l) (leaf_lines l ++ map item is) same [] (leaf_lines l) old)
      (passes-any t [] (leaf_lines l) (leaf_lines l ++ map item is) same (leaf_lines l) (map item is) new)

  ports-through : (before : List Line) (ps : List Port)
      → AllByRecursion (λ (p : Port). is_through (leaf_lines l ++ map item is) (port p) ≡ false) ps
      → Passes goes_through (sites_behind [] (leaf_lines l ++ map item is) before (map port ps))
  unfolding goes_through
  ports-through before [] a = tt
  ports-through before (p ∷ ps) a = (a.0, ports-through (before ++ port p ∷ []) ps a.1)

  items-through : (before : List Line) (xs : List Item)
      → Passes goes_through (sites_behind [] (leaf_lines l ++ map item is) before (map item xs))
  unfolding goes_through
  items-through before [] = tt
  items-through before (x ∷ xs) = (refl, items-through (before ++ item x ∷ []) xs)

  all-through : AllByRecursion (λ (p : Port). is_through (leaf_lines l ++ map item is) (port p) ≡ false) l.ports
      → Passes goes_through (module_sites [] (leaf_lines l ++ map item is))
  unfolding goes_through
  all-through a =
      passes-join goes_through [] (leaf_lines l ++ map item is) [] (leaf_lines l) (map item is)
      (refl, passes-join goes_through [] (leaf_lines l ++ map item is) (heading l.name ∷ []) (map port l.ports) (map item l.items) (ports-through (heading l.name ∷ []) l.ports a) (items-through ((heading l.name ∷ []) ++ map port l.ports) l.items))
      (items-through (leaf_lines l) is)

  tidy-all : AllByRecursion (λ (r : Rule). Passes r.1 (module_sites [] (leaf_lines l))) early_rules
      → AllByRecursion (λ (r : Rule). Passes r.1 (sites_behind [] (leaf_lines l) (leaf_lines l) (map item is))) early_rules
      → AllByRecursion (λ (p : Port). is_through (leaf_lines l ++ map item is) (port p) ≡ false) l.ports
      → AllByRecursion (λ (r : Rule). Passes r.1 (module_sites [] (leaf_lines l ++ map item is))) early_rules
  unfolding name_twice name_unknown wrong_width wrong_order wrong_size
  tidy-all a b t = (
    both name_twice (λ before x. refl) a.0 b.0,
    (
      both name_unknown (λ before x. refl) a.1.0 b.1.0,
      (
        both wrong_width (λ before x. refl) a.1.1.0 b.1.1.0,
        (
          both wrong_order (λ before x. refl) a.1.1.1.0 b.1.1.1.0,
          (
            all-through t,
            (
              both wrong_size (λ before x. refl) a.1.1.1.1.1.0 b.1.1.1.1.1.0,
              tt,
            ),
          ),
        ),
      ),
    ),
  )

pub tidy-more : TidyMore
tidy-more l is tidy plain rules once through = record {
  plain = and_from (is_name l.name && list_all plain_port l.ports) (list_all plain_item (l.items ++ is)) old.0 (plain-more l.items is old.1 plain);
  rules = subst (λ lines. first_fault_of early_rules (module_sites [] lines) ≡ None) (sym (lines-more l is))
      (all-none early_rules (module_sites [] (leaf_lines l ++ map item is)) (tidy-all l is (no-fault early_rules (module_sites [] (leaf_lines l)) tidy.rules) (no-fault early_rules (sites_behind [] (leaf_lines l) (leaf_lines l) (map item is)) rules) through));
  once = λ n. subst (λ lines. drivers [] lines n ≤ 1) (sym (lines-more l is)) (once n);
}
  where
    old : (is_name l.name && list_all plain_port l.ports ≡ true) × (list_all plain_item l.items ≡ true)
    old = and_parts (is_name l.name && list_all plain_port l.ports) (list_all plain_item l.items) tidy.plain
