-- The width of an expression from those of its parts.
use Rattle.std.proofs.Common.{◌≡◌, ℕ, zero, suc, ◌+◌, ◌<◌, ◌≤◌, Bool, true, false, ◌&&◌, List, [], ◌∷◌, length, get_or, drop, refl, sym, ◌∙◌, ap, arith, rules, add-one, cond}
use Rattle.std.specs.Prelude.{Some, None, ◌==◌, nat_le, if◌then◌else◌}
use Rattle.std.proofs.lemmas.Option.{none-some}
use Rattle.std.proofs.lemmas.Bool.Decides.{nat_tests}
use Rattle.vl_tree.specs.declared.tree.Expr as code
use Rattle.vl_tree.specs.declared.tree.Expr.TheVariants as nodes
use Rattle.vl_tree.specs.declared.tree.Op.{Op}
use Rattle.vl_tree.specs.Read.{read, reads}
use Rattle.vl_tree.specs.Values.{Expr, Exprs, two, choose, cat, no_parts, parts}
use Rattle.vl_model.specs.Meaning.{Widths, width_of, widths_of, agrees, all_agree, op_width}
use Rattle.vl_rules.specs.Widths.{width_in, parts_width}

pub has_width : (w : Widths) (e : Expr) (k : ℕ) → Some k ≡ width_in w e → (agrees w e ≡ true) × (width_of w e ≡ k)
has_width w e k is = go (agrees w e) refl
  where
    go : (b : Bool) → agrees w e ≡ b → (agrees w e ≡ true) × (width_of w e ≡ k)
    go true a = (a, cc (sym (is ∙ ap (λ b. if b then Some (width_of w e) else None) a)))
    go false a = absurd (none-some k (sym (is ∙ ap (λ b. if b then Some (width_of w e) else None) a)))

pub two_width : (w : Widths) (op : Op) (a b : Expr) (k l : ℕ) → Some k ≡ width_in w a → Some l ≡ width_in w b
    → width_in w (two op a b) ≡ cond (k == l) (Some (op_width op k)) None
two_width w op a b k l p q =
    let pa = has_width w a k p in
    let pb = has_width w b l q in
    rw (pa.0, pb.0, pa.1, pb.1) refl

pub choose_width : (w : Widths) (c a b : Expr) (j k l : ℕ) → Some j ≡ width_in w c → Some k ≡ width_in w a
    → Some l ≡ width_in w b → width_in w (choose c a b) ≡ cond ((j == 1) && (k == l)) (Some k) None
choose_width w c a b j k l p q r =
    let pc = has_width w c j p in
    let pa = has_width w a k q in
    let pb = has_width w b l r in
    rw (pc.0, pa.0, pb.0, pc.1, pa.1, pb.1) refl

pub ruleset widths_of_parts = (two_width, choose_width)

-- ---- a concatenation

some-fits : (t k : ℕ) → nat_le (t + k) 64 ≡ true → t + k ≤ 64
some-fits t k e = grind (arith, nat_tests)

no-fit : (t k m : ℕ) → nat_le (t + k) 64 ≡ false → nat_le (t + (k + m)) 64 ≡ false
no-fit t k m e = grind (arith, nat_tests)

row : (w : Widths) (es : Exprs) (t : ℕ) → t ≤ 64
    → parts_width w t es ≡ cond (all_agree w es && nat_le (t + widths_of w es) 64) (Some (t + widths_of w es)) None
row w no_parts t h =
    let fits : nat_le (t + 0) 64 ≡ true = grind (arith, nat_tests) in
    let same : t ≡ t + 0 = omega arith in
    rw fits (ap (λ x. Some x) same)
row w (parts e es) t h = go (agrees w e) (nat_le (t + width_of w e) 64) refl refl (row w es (t + width_of w e))
  where
    assoc : (t + width_of w e) + widths_of w es ≡ t + (width_of w e + widths_of w es)
    assoc = omega arith

    go : (a f : Bool) → agrees w e ≡ a → nat_le (t + width_of w e) 64 ≡ f
        → (t + width_of w e ≤ 64 → parts_width w (t + width_of w e) es ≡ cond (all_agree w es && nat_le ((t + width_of w e) + widths_of w es) 64) (Some ((t + width_of w e) + widths_of w es)) None)
        → parts_width w t (parts e es) ≡ cond (all_agree w (parts e es) && nat_le (t + widths_of w (parts e es)) 64) (Some (t + widths_of w (parts e es))) None
    go false f a g rest = rw a refl
    go true true a g rest =
        rw (a, g) (rest (some-fits t (width_of w e) g) ∙ ap (λ x. cond (all_agree w es && nat_le x 64) (Some x) None) assoc)
    go true false a g rest = rw (a, g, no-fit t (width_of w e) (widths_of w es) g) (sym (never (all_agree w es)))
      where
        never : (b : Bool) → cond (b && false) (Some (t + (width_of w e + widths_of w es))) None ≡ None
        never true = refl
        never false = refl

pub cat_width : (w : Widths) (es : Exprs) → width_in w (cat es) ≡ parts_width w 0 es
cat_width w es = let start : 0 + widths_of w es ≡ widths_of w es = omega arith in sym (row w es 0 (omega arith) ∙ ap (λ x. cond (all_agree w es && nat_le x 64) (Some x) None) start)

drop-more : (y : code.Expr) (xs : List code.Expr) (i : ℕ) → drop (i + 1) xs ≡ drop (suc i + 1) (y ∷ xs)
drop-more y xs i = rw (add-one (suc i), add-one i) refl

pub row_at : (w : Widths) (t : ℕ) (xs : List code.Expr) (i : ℕ) (x : code.Expr) → i < length xs → x ≡ get_or xs i x
    → parts_width w t (reads (drop i xs)) ≡ cond (agrees w (read x) && nat_le (t + width_of w (read x)) 64) (parts_width w (t + width_of w (read x)) (reads (drop (i + 1) xs))) None
row_at w t [] i x h e = absurd (omega arith)
row_at w t (y ∷ xs) zero x h e = rw e refl
row_at w t (y ∷ xs) (suc i) x h e =
    row_at w t xs i x (omega arith) e
    ∙ ap (λ z. cond (agrees w (read x) && nat_le (t + width_of w (read x)) 64) (parts_width w (t + width_of w (read x)) (reads z)) None) (drop-more y xs i)

pub ruleset rows = (row_at, has_width)

-- ---- what nodes of the code read as

pub read_two : (op : Op) (a b : code.Expr) → read (nodes.Two op a b) ≡ two op (read a) (read b)
read_two op a b = search (rules, code.the_lemmas)

pub read_choose : (c a b : code.Expr) → read (nodes.If c a b) ≡ choose (read c) (read a) (read b)
read_choose c a b = search (rules, code.the_lemmas)
