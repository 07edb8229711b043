-- The ranks of the names of a leaf, as sums.
use Rattle.std.proofs.Common.{◌≡◌, ℕ, ◌+◌, ◌*◌, ◌<◌, true, ◌∙◌, arith, nat_lt}
use Rattle.std.proofs.lemmas.Bool.Decides.{nat_tests}
use Rattle.std.specs.Prelude.{is_some}
use Rattle.noc_model.specs.Plan.{Plan}
use Rattle.noc_model.specs.Place.{neighbour}
use Rattle.leaf_tie.specs.Names.{own, net_tag, register_tag}
use Rattle.leaf_sound.proofs.Keyed.{rank, rank-own, rank-net}

-- where the ranks of a stage's nets begin, and of a stage's registers, and of a buffer's names
abbrev pub at : ℕ → ℕ → ℕ → ℕ
at d s o = 2048 * (2048 + 128 * d + 8 * s + o)

abbrev pub from : ℕ → ℕ → ℕ → ℕ
from d s o = 2048 * (5120 + 64 * d + 8 * s + o)

abbrev pub buffer_at : ℕ → ℕ → ℕ → ℕ
buffer_at d q c = 2048 * (64 * d + 8 * q + c) + 1

pub net-rank : (d s o i : ℕ) → d < 16 → s < 16 → o < 8 → i < 2048 → rank (own (net_tag d s o) i) ≡ at d s o + i + 1
net-rank d s o i a b c e = rank-net (net_tag d s o) i (omega arith) (omega arith) e

pub register-rank : (d s o i : ℕ) → d < 16 → s < 8 → o < 8 → i < 2048 → rank (own (register_tag d s o) i) ≡ from d s o + i + 1
register-rank d s o i a b c e = rank-net (register_tag d s o) i (omega arith) (omega arith) e

early : (t : ℕ) → t < 1024 → nat_lt t 1024 ≡ true
early t h = grind (arith, nat_tests)

pub memory-rank : (t : ℕ) → t < 1024 → rank (own t 0) ≡ 2048 * t + 6
memory-rank t h = rank-own t 0 (omega arith) (omega arith) ∙ rw (early t h) (omega arith)

pub read-rank : (t : ℕ) → t < 1024 → rank (own t 1) ≡ 2048 * t + 3
read-rank t h = rank-own t 1 (omega arith) (omega arith) ∙ rw (early t h) (omega arith)

pub write-rank : (t : ℕ) → t < 1024 → rank (own t 2) ≡ 2048 * t + 4
write-rank t h = rank-own t 2 (omega arith) (omega arith) ∙ rw (early t h) (omega arith)

pub count-rank : (t : ℕ) → t < 1024 → rank (own t 3) ≡ 2048 * t + 5
count-rank t h = rank-own t 3 (omega arith) (omega arith) ∙ rw (early t h) (omega arith)

pub front-rank : (t : ℕ) → t < 1024 → rank (own t 4) ≡ 2048 * t + 1
front-rank t h = rank-own t 4 (omega arith) (omega arith) ∙ rw (early t h) (omega arith)

pub empty-rank : (t : ℕ) → t < 1024 → rank (own t 5) ≡ 2048 * t + 2
empty-rank t h = rank-own t 5 (omega arith) (omega arith) ∙ rw (early t h) (omega arith)

-- the local port has no link
pub no-local : (p : Plan) (n : ℕ) → is_some (neighbour p n 0) ≡ true → ⊥
unfolding neighbour
no-local p n e = cc e
