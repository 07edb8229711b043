-- What the rules say of the items of a sound leaf, each by itself.
use Rattle.std.proofs.Common.{◌≡◌, ◌^◌, Bool, true, ◌&&◌, List, [], ◌∷◌, ◌++◌, map, sym, ◌∙◌, ap}
use Rattle.std.specs.Prelude.{◌==◌}
use Rattle.std.specs.List.{AllByRecursion, list_all}
use Rattle.std.proofs.lemmas.Bool.{and_parts, eqb-true, not-false}
use Rattle.std.proofs.lemmas.List.Folds.{list_all-append}
use Rattle.vl_tree.specs.Values.{Name, Expr, Item, wire, reg, mem, assign, clocked, store, Leaf}
use Rattle.vl_tree.specs.Plain.{plain_const, plain_expr, plain_item}
use Rattle.vl_tree.specs.Tokens.{is_name}
use Rattle.vl_tree.specs.Grammar.{limit}
use Rattle.vl_model.specs.Meaning.{Use, nets_of, uses_of, width_of, agrees}
use Rattle.vl_model.specs.declared.kind.Kind.{Kind}
use Rattle.vl_model.specs.Lines.{Line, item, sites_behind, lookup, kind_passes, is_net, is_memory, is_driven, is_register, widths, word_count}
use Rattle.vl_model.specs.Rules.{is_kind, knows, use_fits, line_known, name_unknown, line_fits, wrong_width, has_size, wrong_size}
use Rattle.vl_model.proofs.Passed.{Passes}
use Rattle.vl_model.proofs.Ordered.{kind-of, lookup-front, known-width, known-here, more}

-- an expression that keeps the rules at some line
pub record Ruled (all : List Line) (e : Expr) : Type 0 where
  pub before : List Line
  pub rest : List Line
  pub whole : all ≡ before ++ rest
  pub plain : plain_expr limit e ≡ true
  pub agree : agrees (widths all) e ≡ true
  pub nets : list_all (is_kind is_net before) (nets_of e) ≡ true
  pub memories : list_all (λ (u : Use). is_kind is_memory before u.memory) (uses_of e) ≡ true
  pub fits : list_all (use_fits before) (uses_of e) ≡ true

-- targets are declared, expressions keep the rules, and a store's index has the bits for its memory
abbrev pub ItemRuled : List Line → Item → Type 0
ItemRuled all (wire h n) = Unit {0}
ItemRuled all (reg h n) = Unit {0}
ItemRuled all (mem h n last) = Unit {0}
ItemRuled all (assign n e) = (is_kind is_driven all n ≡ true) × Ruled all e
ItemRuled all (clocked n k e) = (is_kind is_register all n ≡ true) × Ruled all e
ItemRuled all (store c n i e) = (is_kind is_memory all n ≡ true) × Ruled all c × Ruled all i × Ruled all e × (2 ^ width_of (widths all) i ≡ word_count (lookup all n))

module _ (all before rest : List Line) (whole : all ≡ before ++ rest) where
  kept : (test : Kind → Bool) (n : Name) → is_kind test before n ≡ true → is_kind test all n ≡ true
  kept test n k =
      let what = kind-of test before n k in
      let there = ap (λ x. lookup x n) whole ∙ lookup-front before rest n what.0 what.1 in
      ap (kind_passes test) there ∙ what.2

  counted : (n : Name) → is_kind is_memory before n ≡ true → word_count (lookup before n) ≡ word_count (lookup all n)
  counted n k =
      let what = kind-of is_memory before n k in
      let there = ap (λ x. lookup x n) whole ∙ lookup-front before rest n what.0 what.1 in
      ap word_count (what.1 ∙ sym there)

  ruled : (e : Expr) → plain_expr limit e ≡ true → knows before e ≡ true → agrees (widths before) e ≡ true → list_all (use_fits before) (uses_of e) ≡ true → Ruled all e
  ruled e plain known agree fits =
      let ks = and_parts (list_all (is_kind is_net before) (nets_of e)) (list_all (λ (u : Use). is_kind is_memory before u.memory) (uses_of e)) known in
      let same = known-width all before rest e whole known in
      record { before = before; rest = rest; whole = whole; plain = plain; agree = sym same.1 ∙ agree; nets = ks.0; memories = ks.1; fits = fits }

  split-fits : (us ts : List Use) → list_all (use_fits before) (us ++ ts) ≡ true → (list_all (use_fits before) us ≡ true) × (list_all (use_fits before) ts ≡ true)
  split-fits us ts h = and_parts (list_all (use_fits before) us) (list_all (use_fits before) ts) (sym (list_all-append (use_fits before) us ts) ∙ h)

  one-item : (ls : List Leaf) (x : Item) → plain_item x ≡ true → line_known ls before (item x) ≡ true → line_fits ls (widths before) (item x) ≡ true → has_size before (item x) ≡ true → ItemRuled all x
  one-item ls (wire h n) p k f z = tt
  one-item ls (reg h n) p k f z = tt
  one-item ls (mem h n last) p k f z = tt
  one-item ls (assign n e) p k f z =
      let ps = and_parts (is_name n) (plain_expr limit e) p in
      let ks = and_parts (is_kind is_driven before n) (knows before e) k in
      let fs = and_parts (agrees (widths before) e) (width_of (widths before) e == (widths before).net n) f in
      (kept is_driven n ks.0, ruled e ps.1 ks.1 fs.0 z)
  one-item ls (clocked n c e) p k f z =
      let ps = and_parts (is_name n && plain_const c) (plain_expr limit e) p in
      let ks = and_parts (is_kind is_register before n) (knows before e) k in
      let fs = and_parts (agrees (widths before) e) ((width_of (widths before) e == (widths before).net n) && (c.width == (widths before).net n)) f in
      (kept is_register n ks.0, ruled e ps.1 ks.1 fs.0 z)
  one-item ls (store c n i e) p k f z =
      let p1 = and_parts ((plain_expr limit c && is_name n) && plain_expr limit i) (plain_expr limit e) p in
      let p2 = and_parts (plain_expr limit c && is_name n) (plain_expr limit i) p1.0 in
      let p3 = and_parts (plain_expr limit c) (is_name n) p2.0 in
      let k1 = and_parts (is_kind is_memory before n) (knows before c && (knows before i && knows before e)) k in
      let k2 = and_parts (knows before c) (knows before i && knows before e) k1.1 in
      let k3 = and_parts (knows before i) (knows before e) k2.1 in
      let f1 = and_parts (agrees (widths before) c) ((width_of (widths before) c == 1) && (agrees (widths before) i && (agrees (widths before) e && (width_of (widths before) e == (widths before).word n)))) f in
      let f2 = and_parts (width_of (widths before) c == 1) (agrees (widths before) i && (agrees (widths before) e && (width_of (widths before) e == (widths before).word n))) f1.1 in
      let f3 = and_parts (agrees (widths before) i) (agrees (widths before) e && (width_of (widths before) e == (widths before).word n)) f2.1 in
      let f4 = and_parts (agrees (widths before) e) (width_of (widths before) e == (widths before).word n) f3.1 in
      let z1 = and_parts (use_fits before (record { memory = n; index = i })) (list_all (use_fits before) (uses_of c ++ (uses_of i ++ uses_of e))) z in
      let z2 = split-fits (uses_of c) (uses_of i ++ uses_of e) z1.1 in
      let z3 = split-fits (uses_of i) (uses_of e) z2.1 in
      let same = known-width all before rest i whole k3.0 in
      let size : 2 ^ width_of (widths before) i ≡ word_count (lookup before n) = eqb-true (2 ^ width_of (widths before) i) (word_count (lookup before n)) z1.0 in (
        kept is_memory n k1.0,
        ruled c p3.0 k2.0 f1.0 z2.0,
        ruled i p2.1 k3.0 f3.0 z3.0,
        ruled e p1.1 k3.1 f4.0 z3.1,
        ap (λ k. 2 ^ k) (sym same.0) ∙ size ∙ counted n k1.0,
      )

pub items-ruled : (ls : List Leaf) (all before : List Line) (is : List Item) → all ≡ before ++ map item is → list_all plain_item is ≡ true → Passes name_unknown (sites_behind ls all before (map item is))
    → Passes wrong_width (sites_behind ls all before (map item is)) → Passes wrong_size (sites_behind ls all before (map item is)) → AllByRecursion (ItemRuled all) is
unfolding wrong_width wrong_size
items-ruled ls all before [] e plain known wide size = tt
items-ruled ls all before (x ∷ is) e plain known wide size =
    let ps = and_parts (plain_item x) (list_all plain_item is) plain in (
      one-item all before (map item (x ∷ is)) e ls x ps.0 (known-here ls all before (item x) (map item is) known)
          (not-false (line_fits ls (widths before) (item x)) wide.0) (not-false (has_size before (item x)) size.0),
      items-ruled ls all (before ++ item x ∷ []) is (more all before x is e) ps.1 known.1 wide.1 size.1,
    )
