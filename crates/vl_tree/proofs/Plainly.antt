-- The tests hold exactly of the plain designs.
use Rattle.std.proofs.Common.{◌≡◌, ℕ, zero, suc, ◌-◌, ◌<◌, ◌≤◌, ◌^◌, Bool, true, false, ltb, leb, List, [], ◌∷◌, ◌++◌, refl, sym, subst, arith}
use Rattle.std.specs.Prelude.{◌&&◌, codes}
use Rattle.std.specs.List.{list_all, AllByRecursion}
use Rattle.std.proofs.lemmas.Bool.{ltb-true, leb-true, lt-ltb, le-leb}
use Rattle.vl_tree.specs.declared.tree.Const.{Const}
use Rattle.vl_tree.specs.declared.tree.Op.{Op}
use Rattle.vl_tree.specs.declared.tree.Op.TheVariants.{Add, Sub, And, Or, Xor, Equal, Less}
use Rattle.vl_tree.specs.declared.tree.Port.{Port}
use Rattle.vl_tree.specs.declared.tree.Join.{Join}
use Rattle.vl_tree.specs.declared.tree.TopItem.{TopItem}
use Rattle.vl_tree.specs.declared.tree.TopItem.TheVariants.{Wire, Instance}
use Rattle.vl_tree.specs.Values as values
use Rattle.vl_tree.specs.Values.{Name, Expr, Exprs, net, number, bit, part, word, not, two, choose, cat, no_parts, parts, Item, wire, reg, mem, assign, clocked, store, Design}
use Rattle.vl_tree.specs.Tokens.{Token, name, is_name, split, IsToken, AreTokens}
use Rattle.vl_tree.specs.Grammar.{marks, each, op_mark, const_token, expr_tokens, more_tokens, Fits, AllFit, limit, item_tokens, ItemFits, way_mark, port_tokens, head_tokens, leaf_tokens, join_tokens, top_item_tokens, top_tokens, LeafFits}
use Rattle.vl_tree.specs.Spells.{IsPlain}
use Rattle.vl_tree.specs.Plain.{plain_number, plain_const, plain_expr, plain_exprs, plain_item, plain_port, plain_join, plain_leaf, plain_top_item, plain_design}
use Rattle.vl_tree.proofs.Forms.{right_append, right_front, right_rest, right_marks}
use Rattle.vl_tree.proofs.Lexed.{and_true}

two_true : (a b : Bool) → a ≡ true → b ≡ true → (a && b) ≡ true
two_true a b e f = rw (e, f) refl

-- what a test and a fact have to do with one another
record Means (b : Bool) (P : Type 0) : Type 0 where
  pub to : b ≡ true → P
  pub from : P → b ≡ true

means_both : (a b : Bool) (P Q : Type 0) → Means a P → Means b Q → Means (a && b) (P × Q)
means_both a b P Q p q = record { to = λ e. let k = and_true a b e in (p.to k.0, q.to k.1); from = λ h. two_true a b (p.from h.0) (q.from h.1) }

means_same : (b : Bool) (P Q : Type 0) → Means b P → (P → Q) → (Q → P) → Means b Q
means_same b P Q p f g = record { to = λ e. f (p.to e); from = λ h. p.from (g h) }

means_name : (n : Name) → Means (is_name n) (IsToken (name n))
means_name n = record { to = λ e. e; from = λ h. h }

means_number : (v : ℕ) → Means (plain_number v) (v < 10 ^ 9)
means_number v = record { to = λ e. ltb-true v 1_000_000_000 e; from = λ h. lt-ltb v 1_000_000_000 h }

means_lt : (m n : ℕ) → Means (ltb m n) (m < n)
means_lt m n = record { to = ltb-true m n; from = lt-ltb m n }

means_le : (m n : ℕ) → Means (leb m n) (m ≤ n)
means_le m n = record { to = leb-true m n; from = le-leb m n }

means_const : (k : Const) → Means (plain_const k) (IsToken (const_token k))
means_const k =
    means_same (plain_const k) (((0 < k.width) × (k.width ≤ 64)) × (k.value < 2 ^ k.width)) (IsToken (const_token k))
    (means_both (ltb 0 k.width && leb k.width 64) (ltb k.value (2 ^ k.width)) ((0 < k.width) × (k.width ≤ 64)) (k.value < 2 ^ k.width) (means_both (ltb 0 k.width) (leb k.width 64) (0 < k.width) (k.width ≤ 64) (means_lt 0 k.width) (means_le k.width 64)) (means_lt k.value (2 ^ k.width)))
    (λ h. (h.0.0, h.0.1, h.1)) (λ h. ((h.0, h.1), h.2))

op_token : (op : Op) → IsToken (op_mark op)
op_token Add = tt
op_token Sub = tt
op_token And = tt
op_token Or = tt
op_token Xor = tt
op_token Equal = tt
op_token Less = tt

-- ---- expressions

abbrev PlainExpr : ℕ → Expr → Type 0
PlainExpr d e = AreTokens (expr_tokens e) × Fits d e

abbrev PlainMore : ℕ → Exprs → Type 0
PlainMore d es = AreTokens (more_tokens es) × AllFit d es

zero_false : (e : Expr) → plain_expr zero e ≡ true → ⊥
zero_false (net n) h = absurd cc
zero_false (number k) h = absurd cc
zero_false (bit n i) h = absurd cc
zero_false (part n x l) h = absurd cc
zero_false (word n e) h = absurd cc
zero_false (not e) h = absurd cc
zero_false (two op a b) h = absurd cc
zero_false (choose c a b) h = absurd cc
zero_false (cat no_parts) h = absurd cc
zero_false (cat (parts e es)) h = absurd cc

means_never : (P : Type 0) → (P → ⊥) → Means false P
means_never P never = record { to = λ e. absurd cc; from = λ h. absurd (never h) }

no_zero : (e : Expr) → PlainExpr zero e → ⊥
no_zero e h = h.1

above : (d : ℕ) → ltb 0 (suc d) ≡ true
above d = lt-ltb 0 (suc d) (omega arith)

less : (d : ℕ) → suc d - 1 ≡ d
less d = omega arith

-- a test that stands behind one that passes
means_behind : (a b : Bool) (P : Type 0) → a ≡ true → Means b P → Means (a && b) P
means_behind a b P e m = record { to = λ h. m.to (and_true a b h).1; from = λ h. two_true a b e (m.from h) }

pair_same : (d : ℕ) (e : Expr) (k : ℕ) → k ≡ d → Means (plain_expr d e) (PlainExpr d e)
    → Means (plain_expr k e) (PlainExpr d e)
pair_same d e k is m = subst (λ x. Means (plain_expr x e) (PlainExpr d e)) (sym is) m

mutual
  means_expr : (e : Expr) (d : ℕ) → Means (plain_expr d e) (PlainExpr d e)
  means_expr (net n) zero = means_never (PlainExpr zero (net n)) (λ h. h.1)
  means_expr (number k) zero = means_never (PlainExpr zero (number k)) (λ h. h.1)
  means_expr (bit n i) zero = means_never (PlainExpr zero (bit n i)) (λ h. h.1)
  means_expr (part n x l) zero = means_never (PlainExpr zero (part n x l)) (λ h. h.1)
  means_expr (word n e) zero = means_never (PlainExpr zero (word n e)) (λ h. h.1)
  means_expr (not e) zero = means_never (PlainExpr zero (not e)) (λ h. h.1)
  means_expr (two op a b) zero = means_never (PlainExpr zero (two op a b)) (λ h. h.1)
  means_expr (choose c a b) zero = means_never (PlainExpr zero (choose c a b)) (λ h. h.1)
  means_expr (cat no_parts) zero = means_never (PlainExpr zero (cat no_parts)) (λ h. h.1)
  means_expr (cat (parts e es)) zero = means_never (PlainExpr zero (cat (parts e es))) (λ h. h.1)
  means_expr (net n) (suc d) =
      means_same (ltb 0 (suc d) && is_name n) (IsToken (name n)) (PlainExpr (suc d) (net n)) (means_behind (ltb 0 (suc d)) (is_name n) (IsToken (name n)) (above d) (means_name n)) (λ h. ((h, tt), tt)) (λ h. h.0.0)
  means_expr (number k) (suc d) =
      means_same (ltb 0 (suc d) && plain_const k) (IsToken (const_token k)) (PlainExpr (suc d) (number k)) (means_behind (ltb 0 (suc d)) (plain_const k) (IsToken (const_token k)) (above d) (means_const k)) (λ h. ((h, tt), tt)) (λ h. h.0.0)
  means_expr (bit n i) (suc d) =
      means_same (ltb 0 (suc d) && is_name n && plain_number i) (IsToken (name n) × (i < 10 ^ 9)) (PlainExpr (suc d) (bit n i))
      (means_both (ltb 0 (suc d) && is_name n) (plain_number i) (IsToken (name n)) (i < 10 ^ 9) (means_behind (ltb 0 (suc d)) (is_name n) (IsToken (name n)) (above d) (means_name n)) (means_number i))
      (λ h. ((h.0, (tt, (h.1, (tt, tt)))), tt)) (λ h. (h.0.0, h.0.1.1.0))
  means_expr (part n x l) (suc d) =
      means_same (ltb 0 (suc d) && is_name n && plain_number x && plain_number l) ((IsToken (name n) × (x < 10 ^ 9)) × (l < 10 ^ 9)) (PlainExpr (suc d) (part n x l))
      (means_both (ltb 0 (suc d) && is_name n && plain_number x) (plain_number l) (IsToken (name n) × (x < 10 ^ 9)) (l < 10 ^ 9)
      (means_both (ltb 0 (suc d) && is_name n) (plain_number x) (IsToken (name n)) (x < 10 ^ 9) (means_behind (ltb 0 (suc d)) (is_name n) (IsToken (name n)) (above d) (means_name n)) (means_number x)) (means_number l))
      (λ h. ((h.0.0, (tt, (h.0.1, (tt, (h.1, (tt, tt)))))), tt)) (λ h. ((h.0.0, h.0.1.1.0), h.0.1.1.1.1.0))
  means_expr (word n e) (suc d) =
      means_same (ltb 0 (suc d) && is_name n && plain_expr (suc d - 1) e) (IsToken (name n) × PlainExpr d e) (PlainExpr (suc d) (word n e))
      (means_both (ltb 0 (suc d) && is_name n) (plain_expr (suc d - 1) e) (IsToken (name n)) (PlainExpr d e) (means_behind (ltb 0 (suc d)) (is_name n) (IsToken (name n)) (above d) (means_name n)) (pair_same d e (suc d - 1) (less d) (means_expr e d)))
      (λ h. ((h.0, (tt, right_append (expr_tokens e) (marks (codes "]")) h.1.0 (tt, tt))), h.1.1)) (λ h. (h.0.0, (right_front (expr_tokens e) (marks (codes "]")) h.0.1.1, h.1)))
  means_expr (not e) (suc d) =
      means_same (ltb 0 (suc d) && plain_expr (suc d - 1) e) (PlainExpr d e) (PlainExpr (suc d) (not e))
      (means_behind (ltb 0 (suc d)) (plain_expr (suc d - 1) e) (PlainExpr d e) (above d) (pair_same d e (suc d - 1) (less d) (means_expr e d)))
      (λ h. ((tt, (tt, right_append (expr_tokens e) (marks (codes ")")) h.0 (tt, tt))), h.1)) (λ h. (right_front (expr_tokens e) (marks (codes ")")) h.0.1.1, h.1))
  means_expr (two op a b) (suc d) =
      let last : List Token = op_mark op ∷ (expr_tokens b ++ marks (codes ")")) in
      means_same (ltb 0 (suc d) && plain_expr (suc d - 1) a && plain_expr (suc d - 1) b) (PlainExpr d a × PlainExpr d b) (PlainExpr (suc d) (two op a b))
      (means_both (ltb 0 (suc d) && plain_expr (suc d - 1) a) (plain_expr (suc d - 1) b) (PlainExpr d a) (PlainExpr d b)
      (means_behind (ltb 0 (suc d)) (plain_expr (suc d - 1) a) (PlainExpr d a) (above d) (pair_same d a (suc d - 1) (less d) (means_expr a d))) (pair_same d b (suc d - 1) (less d) (means_expr b d)))
      (λ h. ((tt, right_append (expr_tokens a) last h.0.0 (op_token op, right_append (expr_tokens b) (marks (codes ")")) h.1.0 (tt, tt))), (h.0.1, h.1.1)))
      (λ h. ((right_front (expr_tokens a) last h.0.1, h.1.0), (right_front (expr_tokens b) (marks (codes ")")) (right_rest (expr_tokens a) last h.0.1).1, h.1.1)))
  means_expr (choose c a b) (suc d) =
      let third : List Token = expr_tokens b ++ marks (codes ")") in
      let second : List Token = expr_tokens a ++ (marks (codes ":") ++ third) in
      means_same (ltb 0 (suc d) && plain_expr (suc d - 1) c && plain_expr (suc d - 1) a && plain_expr (suc d - 1) b) ((PlainExpr d c × PlainExpr d a) × PlainExpr d b) (PlainExpr (suc d) (choose c a b))
      (means_both (ltb 0 (suc d) && plain_expr (suc d - 1) c && plain_expr (suc d - 1) a) (plain_expr (suc d - 1) b) (PlainExpr d c × PlainExpr d a) (PlainExpr d b)
      (means_both (ltb 0 (suc d) && plain_expr (suc d - 1) c) (plain_expr (suc d - 1) a) (PlainExpr d c) (PlainExpr d a)
      (means_behind (ltb 0 (suc d)) (plain_expr (suc d - 1) c) (PlainExpr d c) (above d) (pair_same d c (suc d - 1) (less d) (means_expr c d))) (pair_same d a (suc d - 1) (less d) (means_expr a d))) (pair_same d b (suc d - 1) (less d) (means_expr b d)))
      (λ h. ((tt, right_append (expr_tokens c) (marks (codes "?") ++ second) h.0.0.0 (tt, right_append (expr_tokens a) (marks (codes ":") ++ third) h.0.1.0 (tt, right_append (expr_tokens b) (marks (codes ")")) h.1.0 (tt, tt)))), (h.0.0.1, h.0.1.1, h.1.1)))
      (λ h.
      let r1 : AreTokens (marks (codes "?") ++ second) =
      right_rest (expr_tokens c) (marks (codes "?") ++ second) h.0.1 in
      let r2 : AreTokens (marks (codes ":") ++ third) = right_rest (expr_tokens a) (marks (codes ":") ++ third) r1.1 in
      (((right_front (expr_tokens c) (marks (codes "?") ++ second) h.0.1, h.1.0), (right_front (expr_tokens a) (marks (codes ":") ++ third) r1.1, h.1.1)), (right_front (expr_tokens b) (marks (codes ")")) r2.1, h.1.2)))
  means_expr (cat no_parts) (suc d) = means_never (PlainExpr (suc d) (cat no_parts)) (λ h. h.1)
  means_expr (cat (parts e es)) (suc d) =
      means_same (ltb 0 (suc d) && plain_expr (suc d - 1) e && plain_exprs (suc d - 1) es) (PlainExpr d e × PlainMore d es) (PlainExpr (suc d) (cat (parts e es)))
      (means_both (ltb 0 (suc d) && plain_expr (suc d - 1) e) (plain_exprs (suc d - 1) es) (PlainExpr d e) (PlainMore d es)
      (means_behind (ltb 0 (suc d)) (plain_expr (suc d - 1) e) (PlainExpr d e) (above d) (pair_same d e (suc d - 1) (less d) (means_expr e d)))
      (subst (λ x. Means (plain_exprs x es) (PlainMore d es)) (sym (less d)) (means_more es d)))
      (λ h. ((tt, right_append (expr_tokens e) (more_tokens es) h.0.0 h.1.0), (h.0.1, h.1.1))) (λ h. ((right_front (expr_tokens e) (more_tokens es) h.0.1, h.1.0), (right_rest (expr_tokens e) (more_tokens es) h.0.1, h.1.1)))

  means_more : (es : Exprs) (d : ℕ) → Means (plain_exprs d es) (PlainMore d es)
  means_more no_parts d = record { to = λ e. ((tt, tt), tt); from = λ h. refl }
  means_more (parts e es) d =
      means_same (plain_expr d e && plain_exprs d es) (PlainExpr d e × PlainMore d es) (PlainMore d (parts e es)) (means_both (plain_expr d e) (plain_exprs d es) (PlainExpr d e) (PlainMore d es) (means_expr e d) (means_more es d))
      (λ h. ((tt, right_append (expr_tokens e) (more_tokens es) h.0.0 h.1.0), (h.0.1, h.1.1))) (λ h. ((right_front (expr_tokens e) (more_tokens es) h.0.1, h.1.0), (right_rest (expr_tokens e) (more_tokens es) h.0.1, h.1.1)))

-- ---- items and modules

abbrev PlainItem : Item → Type 0
PlainItem x = AreTokens (item_tokens x) × ItemFits x

-- an expression that a semicolon closes
closed_right : (e : Expr) → AreTokens (expr_tokens e) → AreTokens (expr_tokens e ++ marks (codes ";"))
closed_right e h = right_append (expr_tokens e) (marks (codes ";")) h (tt, tt)

closed_front : (e : Expr) → AreTokens (expr_tokens e ++ marks (codes ";")) → AreTokens (expr_tokens e)
closed_front e h = right_front (expr_tokens e) (marks (codes ";")) h

means_item : (x : Item) → Means (plain_item x) (PlainItem x)
means_item (wire h n) =
    means_same (plain_number h && is_name n) ((h < 10 ^ 9) × IsToken (name n)) (PlainItem (wire h n)) (means_both (plain_number h) (is_name n) (h < 10 ^ 9) (IsToken (name n)) (means_number h) (means_name n))
    (λ k. ((tt, (tt, (k.0, (tt, (omega arith, (tt, (k.1, (tt, tt)))))))), tt)) (λ k. (k.0.1.1.0, k.0.1.1.1.1.1.1.0))
means_item (reg h n) =
    means_same (plain_number h && is_name n) ((h < 10 ^ 9) × IsToken (name n)) (PlainItem (reg h n)) (means_both (plain_number h) (is_name n) (h < 10 ^ 9) (IsToken (name n)) (means_number h) (means_name n))
    (λ k. ((tt, (tt, (k.0, (tt, (omega arith, (tt, (k.1, (tt, tt)))))))), tt)) (λ k. (k.0.1.1.0, k.0.1.1.1.1.1.1.0))
means_item (mem h n last) =
    means_same (plain_number h && is_name n && plain_number last) (((h < 10 ^ 9) × IsToken (name n)) × (last < 10 ^ 9)) (PlainItem (mem h n last))
    (means_both (plain_number h && is_name n) (plain_number last) ((h < 10 ^ 9) × IsToken (name n)) (last < 10 ^ 9) (means_both (plain_number h) (is_name n) (h < 10 ^ 9) (IsToken (name n)) (means_number h) (means_name n)) (means_number last))
    (λ k. ((tt, (tt, (k.0.0, (tt, (omega arith, (tt, (k.0.1, (tt, (omega arith, (tt, (k.1, (tt, (tt, tt))))))))))))), tt)) (λ k. ((k.0.1.1.0, k.0.1.1.1.1.1.1.0), k.0.1.1.1.1.1.1.1.1.1.1.0))
means_item (assign n e) =
    means_same (is_name n && plain_expr limit e) (IsToken (name n) × PlainExpr limit e) (PlainItem (assign n e)) (means_both (is_name n) (plain_expr limit e) (IsToken (name n)) (PlainExpr limit e) (means_name n) (means_expr e limit))
    (λ k. ((tt, (k.0, (tt, closed_right e k.1.0))), k.1.1)) (λ k. (k.0.1.0, (closed_front e k.0.1.1.1, k.1)))
means_item (clocked n r e) =
    means_same (is_name n && plain_const r && plain_expr limit e) ((IsToken (name n) × IsToken (const_token r)) × PlainExpr limit e) (PlainItem (clocked n r e))
    (means_both (is_name n && plain_const r) (plain_expr limit e) (IsToken (name n) × IsToken (const_token r)) (PlainExpr limit e) (means_both (is_name n) (plain_const r) (IsToken (name n)) (IsToken (const_token r)) (means_name n) (means_const r)) (means_expr e limit))
    (λ k. (
      right_append (marks (codes "always @ ( posedge clk ) if ( rst )")) (name n ∷ (marks (codes "<=") ++ (const_token r ∷ (marks (codes "; else") ++ (name n ∷ (marks (codes "<=") ++ (expr_tokens e ++ marks (codes ";")))))))) (right_marks (split (codes "always @ ( posedge clk ) if ( rst )")) refl)
          (k.0.0, (tt, (k.0.1, (tt, (tt, (k.0.0, (tt, closed_right e k.1.0))))))),
      k.1.1,
    ))
    (λ k.
    let q : AreTokens (name n ∷ (marks (codes "<=") ++ (const_token r ∷ (marks (codes "; else") ++ (name n ∷ (marks (codes "<=") ++ (expr_tokens e ++ marks (codes ";")))))))) =
    k.0.1.1.1.1.1.1.1.1.1.1 in
    ((q.0, q.1.1.0), (closed_front e q.1.1.1.1.1.1.1, k.1)))
means_item (store c n i e) =
    let last : List Token = expr_tokens e ++ marks (codes ";") in
    let at : List Token = expr_tokens i ++ (marks (codes "] <=") ++ last) in
    let rest : List Token = marks (codes ")") ++ (name n ∷ (marks (codes "[") ++ at)) in
    means_same (plain_expr limit c && is_name n && plain_expr limit i && plain_expr limit e) (((PlainExpr limit c × IsToken (name n)) × PlainExpr limit i) × PlainExpr limit e) (PlainItem (store c n i e))
    (means_both (plain_expr limit c && is_name n && plain_expr limit i) (plain_expr limit e) ((PlainExpr limit c × IsToken (name n)) × PlainExpr limit i) (PlainExpr limit e)
    (means_both (plain_expr limit c && is_name n) (plain_expr limit i) (PlainExpr limit c × IsToken (name n)) (PlainExpr limit i) (means_both (plain_expr limit c) (is_name n) (PlainExpr limit c) (IsToken (name n)) (means_expr c limit) (means_name n)) (means_expr i limit)) (means_expr e limit))
    (λ k. (
      right_append (marks (codes "always @ ( posedge clk ) if (")) (expr_tokens c ++ rest) (right_marks (split (codes "always @ ( posedge clk ) if (")) refl)
          (right_append (expr_tokens c) rest k.0.0.0.0 (tt, (k.0.0.1, (tt, right_append (expr_tokens i) (marks (codes "] <=") ++ last) k.0.1.0 (tt, (tt, closed_right e k.1.0)))))),
      (k.0.0.0.1, k.0.1.1, k.1.1),
    ))
    (λ k.
    let q : AreTokens (expr_tokens c ++ rest) = k.0.1.1.1.1.1.1.1.1 in
    let q1 : AreTokens rest = right_rest (expr_tokens c) rest q in
    let q2 : AreTokens at = q1.1.1.1 in
    let q3 : AreTokens (marks (codes "] <=") ++ last) = right_rest (expr_tokens i) (marks (codes "] <=") ++ last) q2 in
    ((((right_front (expr_tokens c) rest q, k.1.0), q1.1.0), (right_front (expr_tokens i) (marks (codes "] <=") ++ last) q2, k.1.1)), (closed_front e q3.1.1, k.1.2)))

-- the same of each in a list, with what is spelled of each
means_each : {A : Type 0} (test : A → Bool) (s : A → List Token) (V : A → Type 0)
    → ((x : A) → Means (test x) (AreTokens (s x) × V x)) → (xs : List A)
    → Means (list_all test xs) (AreTokens (each s xs) × AllByRecursion V xs)
means_each test s V one [] = record { to = λ e. (tt, tt); from = λ h. refl }
means_each test s V one (x ∷ xs) =
    means_same (test x && list_all test xs) ((AreTokens (s x) × V x) × (AreTokens (each s xs) × AllByRecursion V xs)) (AreTokens (each s (x ∷ xs)) × AllByRecursion V (x ∷ xs))
    (means_both (test x) (list_all test xs) (AreTokens (s x) × V x) (AreTokens (each s xs) × AllByRecursion V xs) (one x) (means_each test s V one xs))
    (λ h. (right_append (s x) (each s xs) h.0.0 h.1.0, (h.0.1, h.1.1))) (λ h. ((right_front (s x) (each s xs) h.0, h.1.0), (right_rest (s x) (each s xs) h.0, h.1.1)))

abbrev Always : {A : Type 0} → A → Type 0
Always x = Unit {0}

way_token : (o : Bool) → IsToken (way_mark o)
way_token true = tt
way_token false = tt

means_port : (p : Port) → Means (plain_port p) (AreTokens (port_tokens p) × Unit {0})
means_port p =
    means_same (plain_number p.high && is_name p.name) ((p.high < 10 ^ 9) × IsToken (name p.name)) (AreTokens (port_tokens p) × Unit {0}) (means_both (plain_number p.high) (is_name p.name) (p.high < 10 ^ 9) (IsToken (name p.name)) (means_number p.high) (means_name p.name))
    (λ k. ((tt, (way_token p.output, (tt, (tt, (k.0, (tt, (omega arith, (tt, (k.1, tt))))))))), tt)) (λ k. (k.0.1.1.1.1.0, k.0.1.1.1.1.1.1.1.1.0))

means_join : (j : Join) → Means (plain_join j) (AreTokens (join_tokens j) × Unit {0})
means_join j =
    means_same (is_name j.port && is_name j.net) (IsToken (name j.port) × IsToken (name j.net)) (AreTokens (join_tokens j) × Unit {0}) (means_both (is_name j.port) (is_name j.net) (IsToken (name j.port)) (IsToken (name j.net)) (means_name j.port) (means_name j.net))
    (λ k. ((tt, (tt, (k.0, (tt, (k.1, (tt, tt)))))), tt)) (λ k. (k.0.1.1.0, k.0.1.1.1.1.0))

head_right : (ps : List Port) → AreTokens (each port_tokens ps) → AreTokens (head_tokens ps)
head_right ps h =
    right_append (marks (codes "( input wire clk , input wire rst")) (each port_tokens ps ++ marks (codes ") ;")) (right_marks (split (codes "( input wire clk , input wire rst")) refl) (right_append (each port_tokens ps) (marks (codes ") ;")) h (tt, (tt, tt)))

head_front : (ps : List Port) → AreTokens (head_tokens ps) → AreTokens (each port_tokens ps)
head_front ps h =
    right_front (each port_tokens ps) (marks (codes ") ;")) (right_rest (marks (codes "( input wire clk , input wire rst")) (each port_tokens ps ++ marks (codes ") ;")) h)

all_always : {A : Type 0} (xs : List A) → AllByRecursion (λ (x : A). Unit {0}) xs
all_always [] = tt
all_always (x ∷ xs) = (tt, all_always xs)

means_leaf : (l : values.Leaf) → Means (plain_leaf l) (AreTokens (leaf_tokens l) × LeafFits l)
means_leaf l =
    let ports : Type 0 = AreTokens (each port_tokens l.ports) × AllByRecursion (λ (p : Port). Unit {0}) l.ports in
    let items : Type 0 = AreTokens (each item_tokens l.items) × AllByRecursion ItemFits l.items in
    let rest : List Token = each item_tokens l.items ++ marks (codes "endmodule") in
    means_same (is_name l.name && list_all plain_port l.ports && list_all plain_item l.items) ((IsToken (name l.name) × (AreTokens (each port_tokens l.ports) × AllByRecursion (λ (p : Port). Unit {0}) l.ports)) × (AreTokens (each item_tokens l.items) × AllByRecursion ItemFits l.items)) (AreTokens (leaf_tokens l) × LeafFits l)
    (means_both (is_name l.name && list_all plain_port l.ports) (list_all plain_item l.items) (IsToken (name l.name) × (AreTokens (each port_tokens l.ports) × AllByRecursion (λ (p : Port). Unit {0}) l.ports)) (AreTokens (each item_tokens l.items) × AllByRecursion ItemFits l.items)
    (means_both (is_name l.name) (list_all plain_port l.ports) (IsToken (name l.name)) (AreTokens (each port_tokens l.ports) × AllByRecursion (λ (p : Port). Unit {0}) l.ports) (means_name l.name) (means_each plain_port port_tokens (λ p. Unit {0}) means_port l.ports))
    (means_each plain_item item_tokens ItemFits means_item l.items))
    (λ h. ((tt, (h.0.0, right_append (head_tokens l.ports) rest (head_right l.ports h.0.1.0) (right_append (each item_tokens l.items) (marks (codes "endmodule")) h.1.0 (tt, tt)))), h.1.1))
    (λ h.
    let q : AreTokens (head_tokens l.ports ++ rest) = h.0.1.1 in
    ((h.0.1.0, (head_front l.ports (right_front (head_tokens l.ports) rest q), all_always l.ports)), (right_front (each item_tokens l.items) (marks (codes "endmodule")) (right_rest (head_tokens l.ports) rest q), h.1)))

means_top_item : (x : TopItem) → Means (plain_top_item x) (AreTokens (top_item_tokens x) × Unit {0})
means_top_item (Wire h n) =
    means_same (plain_number h && is_name n) ((h < 10 ^ 9) × IsToken (name n)) (AreTokens (top_item_tokens (Wire h n)) × Unit {0}) (means_both (plain_number h) (is_name n) (h < 10 ^ 9) (IsToken (name n)) (means_number h) (means_name n))
    (λ k. ((tt, (tt, (k.0, (tt, (omega arith, (tt, (k.1, (tt, tt)))))))), tt)) (λ k. (k.0.1.1.0, k.0.1.1.1.1.1.1.0))
means_top_item (Instance l n joins) =
    let rest : List Token = each join_tokens joins ++ marks (codes ") ;") in
    means_same (is_name l && is_name n && list_all plain_join joins) ((IsToken (name l) × IsToken (name n)) × (AreTokens (each join_tokens joins) × AllByRecursion (λ (j : Join). Unit {0}) joins)) (AreTokens (top_item_tokens (Instance l n joins)) × Unit {0})
    (means_both (is_name l && is_name n) (list_all plain_join joins) (IsToken (name l) × IsToken (name n)) (AreTokens (each join_tokens joins) × AllByRecursion (λ (j : Join). Unit {0}) joins)
    (means_both (is_name l) (is_name n) (IsToken (name l)) (IsToken (name n)) (means_name l) (means_name n)) (means_each plain_join join_tokens (λ j. Unit {0}) means_join joins))
    (λ k. ((k.0.0, (k.0.1, right_append (marks (codes "( . clk ( clk ) , . rst ( rst )")) rest (right_marks (split (codes "( . clk ( clk ) , . rst ( rst )")) refl) (right_append (each join_tokens joins) (marks (codes ") ;")) k.1.0 (tt, (tt, tt))))), tt))
    (λ k. ((k.0.0, k.0.1.0), (right_front (each join_tokens joins) (marks (codes ") ;")) (right_rest (marks (codes "( . clk ( clk ) , . rst ( rst )")) rest k.0.1.1), all_always joins)))

means_design : (d : Design) → Means (plain_design d) (IsPlain d)
means_design d =
    let rest : List Token = each top_item_tokens d.top.items ++ marks (codes "endmodule") in
    means_same (list_all plain_leaf d.leaves && list_all plain_port d.top.ports && list_all plain_top_item d.top.items)
    (((AreTokens (each leaf_tokens d.leaves) × AllByRecursion LeafFits d.leaves) × (AreTokens (each port_tokens d.top.ports) × AllByRecursion (λ (p : Port). Unit {0}) d.top.ports)) × (AreTokens (each top_item_tokens d.top.items) × AllByRecursion (λ (x : TopItem). Unit {0}) d.top.items)) (IsPlain d)
    (means_both (list_all plain_leaf d.leaves && list_all plain_port d.top.ports) (list_all plain_top_item d.top.items)
    ((AreTokens (each leaf_tokens d.leaves) × AllByRecursion LeafFits d.leaves) × (AreTokens (each port_tokens d.top.ports) × AllByRecursion (λ (p : Port). Unit {0}) d.top.ports)) (AreTokens (each top_item_tokens d.top.items) × AllByRecursion (λ (x : TopItem). Unit {0}) d.top.items)
    (means_both (list_all plain_leaf d.leaves) (list_all plain_port d.top.ports) (AreTokens (each leaf_tokens d.leaves) × AllByRecursion LeafFits d.leaves) (AreTokens (each port_tokens d.top.ports) × AllByRecursion (λ (p : Port). Unit {0}) d.top.ports)
    (means_each plain_leaf leaf_tokens LeafFits means_leaf d.leaves) (means_each plain_port port_tokens (λ p. Unit {0}) means_port d.top.ports))
    (means_each plain_top_item top_item_tokens (λ x. Unit {0}) means_top_item d.top.items))
    (λ h. record {
      tokens = right_append (each leaf_tokens d.leaves) (top_tokens d.top) h.0.0.0 (tt, (tt, right_append (head_tokens d.top.ports) rest (head_right d.top.ports h.0.1.0) (right_append (each top_item_tokens d.top.items) (marks (codes "endmodule")) h.1.0 (tt, tt))));
      fits = h.0.0.1;
    })
    (λ p.
    let q : AreTokens (head_tokens d.top.ports ++ rest) =
    (right_rest (each leaf_tokens d.leaves) (top_tokens d.top) p.tokens).1.1 in
    (((right_front (each leaf_tokens d.leaves) (top_tokens d.top) p.tokens, p.fits), (head_front d.top.ports (right_front (head_tokens d.top.ports) rest q), all_always d.top.ports)), (right_front (each top_item_tokens d.top.items) (marks (codes "endmodule")) (right_rest (head_tokens d.top.ports) rest q), all_always d.top.items)))

pub plain_is : (d : Design) → plain_design d ≡ true → IsPlain d
plain_is d = (means_design d).to

pub is_plain_design : (d : Design) → IsPlain d → plain_design d ≡ true
is_plain_design d = (means_design d).from
