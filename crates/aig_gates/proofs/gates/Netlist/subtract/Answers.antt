use Rattle.std.proofs.Common.{◌≡◌, ℕ, ◌+◌, ◌-◌, ◌%◌, ◌^◌, ◌<◌, Bool, false, length, ◌∙◌, ap, sym, subst, arith}
use Rattle.std.specs.Prelude.{not}
use Rattle.std.proofs.lemmas.Nat.{pow_pos}
use Rattle.aig_model.specs.Form.{literal, one_if_true, word}
use Rattle.aig_model.specs.Netlist.{Net, AreOf, settle_gates}
use Rattle.aig_gates.specs.Zips.{AreBelow}
use Rattle.aig_gates.proofs.Inserted.{no-variable}
use Rattle.aig_gates.proofs.Zipped.{subtract-is}
use Rattle.aig_gates.proofs.gates.Netlist.subtract.Goals as goal

abbrev bound : Net → ℕ
bound n = n.start + length n.gates

some : (n : Net) → 0 < n.start → 0 < bound n
some n front = omega (arith, front)

pub total-requires : goal.total-requires
total-requires c =
    let n = c.args.self.now in
    let w = c.as_slice-2.ensures in
    let o = c.as_slice-3.ensures in
    let pos = some n c.known.ensures.front in
    let cut = subst (AreBelow (bound n)) (sym c.as_slice.ensures) (c.in_ok-cut.ensures.known (bound n) pos c.requires.second) in
    record {
      same = ap length w ∙ c.in_ok-wide.ensures.count ∙ sym (ap length o ∙ c.in_ok-other.ensures.count ∙ ap length c.as_slice.ensures ∙ c.in_ok-cut.ensures.count);
      first = subst (AreOf n) (sym w) (c.in_ok-wide.ensures.known (bound n) pos c.requires.first);
      second = subst (AreOf n) (sym o) (c.in_ok-other.ensures.known (bound n) cut);
      carry = omega (arith, pos);
    }

pub returns-clause-value : goal.returns-clause-value
returns-clause-value c =
    let n = c.args.self.now in
    let w = c.as_slice-2.ensures in
    let o = c.as_slice-3.ensures in
    let m = c.in_ok-bits.ensures.value in
    let long = ap length w ∙ c.in_ok-wide.ensures.count in
    let cut-long = ap length c.as_slice.ensures ∙ c.in_ok-cut.ensures.count in
    record {
      known = m.known;
      value = λ v e.
          let s : ℕ → Bool = settle_gates n v in
          let none : s 0 ≡ false = no-variable n.start n.gates v c.known.ensures.front e in
          let p : ℕ = 2 ^ c.args.count in
          let x : ℕ = word s c.args.first.now in
          let y : ℕ = word s c.args.second.now in
          let first = ap (word s) w ∙ c.in_ok-wide.ensures.value s none in
          let cut = ap (word s) c.as_slice.ensures ∙ c.in_ok-cut.ensures.value s none in
          let second : word s c.as_slice-3.result.now ≡ p - 1 - y % p =
          ap (word s) o ∙ c.in_ok-other.ensures.value s ∙ ap (λ k. 2 ^ k - 1 - word s c.as_slice.result.now) cut-long ∙ ap (λ z. p - 1 - z) cut in
          m.value v e ∙ ap (λ k. (word s c.as_slice-2.result.now + word s c.as_slice-3.result.now + one_if_true (literal s 1)) % 2 ^ k) long
          ∙ ap (λ z. (z + word s c.as_slice-3.result.now + one_if_true (literal s 1)) % p) first ∙ ap (λ z. (x % p + z + one_if_true (literal s 1)) % p) second
          ∙ ap (λ b. (x % p + (p - 1 - y % p) + one_if_true (not b)) % p) none ∙ subtract-is x y p (pow_pos c.args.count);
    }
