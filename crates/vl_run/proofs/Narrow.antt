-- No width is above 64 bits.
use Rattle.std.proofs.Common.{◌≡◌, ℕ, ◌+◌, ◌-◌, ◌^◌, ◌<◌, ◌≤◌, Bool, true, false, ◌&&◌, List, [], ◌∷◌, ◌++◌, Option, refl, ap, bytes_eq, arith}
use Rattle.std.specs.Prelude.{Some, None, ◌==◌, nat_lt, nat_le, if◌then◌else◌}
use Rattle.std.proofs.lemmas.Bool.{and_parts, ltb-true, not-false}
use Rattle.std.proofs.lemmas.Bool.Decides.{nat_tests}
use Rattle.vl_tree.specs.declared.tree.Op.{Op}
use Rattle.vl_tree.specs.declared.tree.Op.TheVariants.{Add, Sub, And, Or, Xor, Equal, Less}
use Rattle.vl_tree.specs.declared.tree.TopItem.TheVariants.{Wire, Instance}
use Rattle.vl_tree.specs.Values.{Name, Expr, net, number, bit, part, word, not, two, choose, cat, wire, reg, mem, assign, clocked, store, Leaf}
use Rattle.vl_tree.specs.Plain.{plain_const, plain_expr}
use Rattle.vl_model.specs.Meaning.{Widths, width_of, widths_of, agrees, all_agree, op_width}
use Rattle.vl_model.specs.Lines.{Line, heading, port, item, joint, sites_behind, Declared, declared, found, lookup, is_net, is_memory, net_bits, word_bits, widths}
use Rattle.vl_model.specs.Rules.{line_fits, wrong_width}
use Rattle.vl_model.proofs.Passed.{Passes}

abbrev pub AreNarrow : Widths → Type 0
AreNarrow w = ((n : Name) → w.net n ≤ 64) × ((n : Name) → w.word n ≤ 64)

-- ---- what is declared

abbrev high-or : Option Declared → ℕ
high-or None = 0
high-or (Some y) = y.high

high-of : (ls : List Leaf) (w : Widths) (x : Line) (y : Declared) → line_fits ls w x ≡ true → declared x ≡ Some y → y.high < 64
high-of ls w (heading n) y f e = cc
high-of ls w (port p) y f e = let h = ltb-true p.high 64 f in let same : p.high ≡ y.high = ap (λ (o : Option Declared). high-or o) e in omega arith
high-of ls w (item (wire h n)) y f e = let k = ltb-true h 64 f in let same : h ≡ y.high = ap (λ (o : Option Declared). high-or o) e in omega arith
high-of ls w (item (reg h n)) y f e = let k = ltb-true h 64 f in let same : h ≡ y.high = ap (λ (o : Option Declared). high-or o) e in omega arith
high-of ls w (item (mem h n last)) y f e = let k = ltb-true h 64 f in let same : h ≡ y.high = ap (λ (o : Option Declared). high-or o) e in omega arith
high-of ls w (item (assign n x)) y f e = cc
high-of ls w (item (clocked n k x)) y f e = cc
high-of ls w (item (store c n i x)) y f e = cc
high-of ls w (joint (Wire h n)) y f e = let k = ltb-true h 64 f in let same : h ≡ y.high = ap (λ (o : Option Declared). high-or o) e in omega arith
high-of ls w (joint (Instance l n js)) y f e = let same : 0 ≡ y.high = ap (λ (o : Option Declared). high-or o) e in omega arith

abbrev Most : Option Declared → Type 0
Most o = (net_bits o ≤ 64) × (word_bits o ≤ 64)

most-one : (y : Declared) → y.high < 64 → Most (Some y)
most-one y h = (pick (is_net y.kind), pick (is_memory y.kind))
  where
    pick : (b : Bool) → (if b then y.high + 1 else 0) ≤ 64
    pick true = omega arith
    pick false = omega arith

most-found : (o : Option Declared) (n : Name) (later : Option Declared) → ((y : Declared) → o ≡ Some y → y.high < 64) → Most later → Most (found o n later)
most-found None n later f m = m
most-found (Some y) n later f m = go (bytes_eq n y.name)
  where
    go : (b : Bool) → Most (if b then Some y else later)
    go true = most-one y (f y refl)
    go false = m

most-from : (ls : List Leaf) (all before rest : List Line) → Passes wrong_width (sites_behind ls all before rest) → (n : Name) → Most (lookup rest n)
unfolding wrong_width
most-from ls all before [] p n = (omega arith, omega arith)
most-from ls all before (x ∷ xs) p n =
    most-found (declared x) n (lookup xs n) (λ y e. high-of ls (widths before) x y (not-false (line_fits ls (widths before) x) p.0) e)
    (most-from ls all (before ++ x ∷ []) xs p.1 n)

pub are-narrow : (ls : List Leaf) (all : List Line) → Passes wrong_width (sites_behind ls all [] all) → AreNarrow (widths all)
are-narrow ls all p = (λ n. (most-from ls all [] all p n).0, λ n. (most-from ls all [] all p n).1)

-- ---- expressions

op-narrow : (op : Op) (k : ℕ) → k ≤ 64 → op_width op k ≤ 64
op-narrow Add k h = h
op-narrow Sub k h = h
op-narrow And k h = h
op-narrow Or k h = h
op-narrow Xor k h = h
op-narrow Equal k h = omega arith
op-narrow Less k h = omega arith

pub part-narrow : (w : Widths) → AreNarrow w → (n : Name) (h l : ℕ) → agrees w (part n h l) ≡ true → h - l + 1 ≤ 64
part-narrow w most n h l a =
    let hs = and_parts (nat_le l h) (nat_lt h (w.net n)) a in
    let inside = ltb-true h (w.net n) hs.1 in
    let k = most.0 n in
    omega arith

pub narrow : (w : Widths) → AreNarrow w → (d : ℕ) (e : Expr) → plain_expr d e ≡ true → agrees w e ≡ true → width_of w e ≤ 64
narrow w most d (net n) p a = most.0 n
narrow w most d (number k) p a =
    let ks = and_parts (nat_lt 0 k.width && nat_le k.width 64) (nat_lt k.value (2 ^ k.width)) (and_parts (nat_lt 0 d) (plain_const k) p).1 in
    let wide = and_parts (nat_lt 0 k.width) (nat_le k.width 64) ks.0 in
    let fits : nat_le k.width 64 ≡ true = wide.1 in
    grind (arith, nat_tests)
narrow w most d (bit n i) p a = omega arith
narrow w most d (part n h l) p a = part-narrow w most n h l a
narrow w most d (word n e) p a = most.1 n
narrow w most d (not e) p a = narrow w most (d - 1) e (and_parts (nat_lt 0 d) (plain_expr (d - 1) e) p).1 a
narrow w most d (two op a b) p h =
    let ps = and_parts (nat_lt 0 d && plain_expr (d - 1) a) (plain_expr (d - 1) b) p in
    let hs = and_parts (agrees w a) (agrees w b && (width_of w a == width_of w b)) h in
    op-narrow op (width_of w a) (narrow w most (d - 1) a (and_parts (nat_lt 0 d) (plain_expr (d - 1) a) ps.0).1 hs.0)
narrow w most d (choose c a b) p h =
    let ps = and_parts ((nat_lt 0 d && plain_expr (d - 1) c) && plain_expr (d - 1) a) (plain_expr (d - 1) b) p in
    let qs = and_parts (nat_lt 0 d && plain_expr (d - 1) c) (plain_expr (d - 1) a) ps.0 in
    let h1 = and_parts (agrees w c) (agrees w a && (agrees w b && ((width_of w c == 1) && (width_of w a == width_of w b)))) h in
    narrow w most (d - 1) a qs.1 (and_parts (agrees w a) (agrees w b && ((width_of w c == 1) && (width_of w a == width_of w b))) h1.1).0
narrow w most d (cat es) p h =
    let fits : nat_le (widths_of w es) 64 ≡ true = (and_parts (all_agree w es) (nat_le (widths_of w es) 64) h).1 in
    grind (arith, nat_tests)
