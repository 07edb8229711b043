-- The round-robin choice over a set that is a number: one bit for each request, and a pointer that is the set of the
-- requests which are not below it. The least member of a set x is x & (0 - x).
use Rattle.std.specs.Prelude.{◌≡◌, ℕ, ◌+◌, ◌-◌, ◌^◌, Bool, List, [], ◌∷◌, ◌++◌, nat_le, Option}
use Rattle.vl_tree.specs.declared.tree.Op.TheVariants.{And, Or, Sub, Equal}
use Rattle.vl_tree.specs.Values.{Name, Expr, net, not, two, choose, Item, reg, clocked}
use Rattle.vl_model.specs.Meaning.{Values}
use Rattle.noc_model.specs.Step.{is_place}
use Rattle.gen_kit.specs.Families.{in_bits, defined}
use Rattle.gen_kit.specs.Masks.{mask}
use Rattle.gen_kit.specs.Groups.{Group}

-- the nets: what is asked for, the pointer, the set that is chosen from, and the winner
pub record RotateNames : Type 0 where
  pub request : Name
  pub pointer : Name
  pub some : Name
  pub winner : Name

-- whether an expression of h + 1 bits is 0
abbrev pub is_empty : ℕ → Expr → Expr
is_empty h e = two Equal e (in_bits (h + 1) 0)

-- the requests that are not below the pointer
abbrev pub upper_requests : RotateNames → Expr
upper_requests n = two And (net n.pointer) (net n.request)

-- these, or all requests if there are none
abbrev pub some_requests : RotateNames → ℕ → Expr
some_requests n h = choose (is_empty h (upper_requests n)) (net n.request) (upper_requests n)

-- the least member of a set
abbrev pub least_member : ℕ → Name → Expr
least_member h n = two And (net n) (two Sub (in_bits (h + 1) 0) (net n))

-- what stands behind a lone member
abbrev pub behind_member : ℕ → Name → Expr
behind_member h n = not (two Or (net n) (two Sub (net n) (in_bits (h + 1) 1)))

-- the pointer goes behind the winner that the net shows, and stays where it shows none
abbrev pub pointer_moves : Name → Name → ℕ → List Item
pointer_moves pointer by h =
    clocked pointer (record { width = h + 1; value = 2 ^ (h + 1) - 1 })
    (choose (is_empty h (net by)) (net pointer) (behind_member h by))
    ∷ []

-- the group; h is one less than the number of requests
abbrev pub rotate_group : RotateNames → ℕ → Group
rotate_group n h = record {
  heads = reg h n.pointer ∷ [];
  nets = defined h n.some (some_requests n h) ++ defined h n.winner (least_member h n.some);
  moves = pointer_moves n.pointer n.winner h;
}

-- the register holds the pointer
abbrev pub PointsTo : RotateNames → ℕ → Values → ℕ → Type 0
PointsTo n h v pointer = v.net n.pointer ≡ mask (h + 1) (nat_le pointer)

-- the requests and the pointer are these
pub record IsAsked (n : RotateNames) (h : ℕ) (v : Values) (set : ℕ → Bool) (first : ℕ) : Type 0 where
  pub request : v.net n.request ≡ mask (h + 1) set
  pub pointer : PointsTo n h v first

-- the net shows the winner
abbrev pub Wins : RotateNames → ℕ → Values → Option ℕ → Type 0
Wins n h v winner = v.net n.winner ≡ mask (h + 1) (is_place winner)
