-- An expression that steps can compute: what it names stands where it should, and numbers fit.
use Rattle.std.proofs.Common.{◌≡◌, ℕ, ◌+◌, ◌-◌, ◌<◌, ◌≤◌, ◌^◌, Bool, true}
use Rattle.vl_tree.specs.Values.{Name, Expr, Exprs, net, number, bit, part, word, not, two, choose, cat, no_parts, parts}
use Rattle.vl_model.specs.Meaning.{Widths, Values, width_of, value_of, values_of}

-- which nets may be read, which memories, and how many words each has
pub record Readable : Type 0 where
  pub net : Name → Bool
  pub memory : Name → Bool
  pub count : Name → ℕ

module _ (w : Widths) (v : Values) (r : Readable) where
  abbrev mutual
    pub Able : Expr → Type 0
    Able (net n) = r.net n ≡ true
    Able (number k) = Unit {0}
    Able (bit n i) = r.net n ≡ true
    Able (part n h l) = (r.net n ≡ true) × (h - l + 1 ≤ 64)
    Able (word n e) = Able e × (r.memory n ≡ true) × (value_of w v e < r.count n)
    Able (not e) = Able e × (width_of w e ≤ 64)
    Able (two op a b) = Able a × Able b × (width_of w a ≤ 64) × (value_of w v a < 2 ^ width_of w a) × (value_of w v b < 2 ^ width_of w a)
    Able (choose c a b) = Able c × Able a × Able b
    Able (cat es) = AllAble es × (values_of w v es < 2 ^ 64)

    pub AllAble : Exprs → Type 0
    AllAble no_parts = Unit {0}
    AllAble (parts e es) = Able e × (width_of w e ≤ 64) × AllAble es
