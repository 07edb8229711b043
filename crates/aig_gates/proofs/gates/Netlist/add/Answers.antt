use Rattle.std.proofs.Common.{◌≡◌, ℕ, ◌+◌, ◌%◌, ◌^◌, ◌<◌, Bool, false, length, ◌∙◌, ap, sym, subst, arith}
use Rattle.aig_model.specs.Form.{literal, one_if_true, word}
use Rattle.aig_model.specs.Netlist.{Net, AreOf, settle_gates}
use Rattle.aig_gates.proofs.Inserted.{no-variable}
use Rattle.aig_gates.proofs.Zipped.{add-is}
use Rattle.aig_gates.proofs.gates.Netlist.add.Goals as goal

abbrev bound : Net → ℕ
bound n = n.start + length n.gates

some : (n : Net) → 0 < n.start → 0 < bound n
some n front = omega (arith, front)

pub total-requires : goal.total-requires
total-requires c =
    let n = c.args.self.now in
    let w = c.as_slice.ensures in
    let o = c.as_slice-2.ensures in
    let pos = some n c.known.ensures.front in
    record {
      same = ap length w ∙ c.in_ok-wide.ensures.count ∙ sym (ap length o ∙ c.in_ok-other.ensures.count);
      first = subst (AreOf n) (sym w) (c.in_ok-wide.ensures.known (bound n) pos c.requires.first);
      second = subst (AreOf n) (sym o) (c.in_ok-other.ensures.known (bound n) pos c.requires.second);
      carry = omega (arith, pos);
    }

pub returns-clause-value : goal.returns-clause-value
returns-clause-value c =
    let n = c.args.self.now in
    let w = c.as_slice.ensures in
    let o = c.as_slice-2.ensures in
    let m = c.in_ok-bits.ensures.value in
    let long = ap length w ∙ c.in_ok-wide.ensures.count in
    record {
      known = m.known;
      value = λ v e.
          let s : ℕ → Bool = settle_gates n v in
          let none : s 0 ≡ false = no-variable n.start n.gates v c.known.ensures.front e in
          let first = ap (word s) w ∙ c.in_ok-wide.ensures.value s none in
          let second = ap (word s) o ∙ c.in_ok-other.ensures.value s none in
          let p : ℕ = 2 ^ c.args.count in
          m.value v e ∙ ap (λ k. (word s c.as_slice.result.now + word s c.as_slice-2.result.now + one_if_true (literal s 0)) % 2 ^ k) long
          ∙ ap (λ x. (x + word s c.as_slice-2.result.now + one_if_true (literal s 0)) % p) first ∙ ap (λ x. (word s c.args.first.now % p + x + one_if_true (literal s 0)) % p) second
          ∙ ap (λ b. (word s c.args.first.now % p + word s c.args.second.now % p + one_if_true b) % p) none ∙ add-is (word s c.args.first.now) (word s c.args.second.now) p;
    }
