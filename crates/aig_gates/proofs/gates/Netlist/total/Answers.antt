use Rattle.std.proofs.Common.{◌≡◌, ℕ, ◌+◌, ◌-◌, ◌%◌, ◌^◌, ◌≤◌, length, sym, subst, arith}
use Rattle.aig_model.specs.Form.{literal, one_if_true, word}
use Rattle.aig_model.specs.Netlist.{MeansWord, settle_gates}
use Rattle.aig_gates.proofs.Zipped.{total-is}
use Rattle.aig_gates.proofs.gates.Netlist.total.Goals as goal

last-place : (k n : ℕ) → 1 ≤ n → k ≡ n - 1 → k + 1 ≡ n
last-place k n a b = omega (arith, a, b)

pub returns-clause-value : goal.returns-clause-value
returns-clause-value c =
    let n0 = c.args.self.now in
    let first = c.args.first.now in
    let second = c.args.second.now in
    let ends = last-place c.in-Some.last (length first) c.in-Some.ensures.0 c.in-Some.ensures.1 in
    subst (λ xs. MeansWord c.odd.new.self xs (λ v. (word (settle_gates n0 v) first + word (settle_gates n0 v) second + one_if_true (literal (settle_gates n0 v) c.args.carry)) % 2 ^ length first)) (sym c.in_ok-push.ensures.ok)
    (total-is n0 c.sum.new.self c.odd.new.self first second c.in_ok-low.low.bits c.args.carry c.in_ok-low.low.carry c.in_ok-bit.bit c.in-Some.last c.requires.first c.requires.second c.requires.carry (sym c.requires.same) ends
    c.sum.ensures.grows c.odd.ensures.grows c.in_ok-low.ensures.value c.in_ok-bit.ensures.value)
