use Rattle.std.proofs.Common.{◌≡◌, ℕ, ◌<◌, w64, arith}
use Rattle.std.proofs.lemmas.Nat.Bits.{bit_at-trailing_zeros}
use Rattle.aig_cycle.proofs.Actions.{scale-shift, scale-place}
use Rattle.aig_cycle.proofs.action.shift.Goals as goal

pub returns-then-scale-eq0 : goal.returns-then-scale-eq0
returns-then-scale-eq0 c w le is = scale-shift c.args.scale w le is c.if-scale-eq0.true

some : (n : ℕ) → (n ≡ 0 → ⊥) → 0 < n
some n ne = omega (arith, ne)

pub returns-else-scale-eq0 : goal.returns-else-scale-eq0
returns-else-scale-eq0 c w le is = scale-place c.args.scale w _ le is (bit_at-trailing_zeros w64 c.args.scale (some c.args.scale c.if-scale-eq0.false) c.ranges.scale.fits).1
