use Rattle.std.proofs.Common.{ℕ, Bool, ◌∙◌, ap, sym, subst}
use Rattle.std.specs.Prelude.{not, ◌==◌, bit_xor}
use Rattle.aig_model.specs.Form.{word}
use Rattle.aig_model.specs.Netlist.{AreOf, Means, settle_gates}
use Rattle.aig_gates.proofs.Inserted.{not-means, means-other}
use Rattle.aig_gates.proofs.Zipped.{equal-is}
use Rattle.aig_gates.proofs.gates.Netlist.equal.Goals as goal

pub any-requires : goal.any-requires
any-requires c = subst (AreOf c.combine.new.self) (sym c.as_slice.ensures) c.in_ok-apart.ensures.value.known

pub returns-clause-value : goal.returns-clause-value
returns-clause-value c =
    let n0 = c.args.self.now in
    let n1 = c.combine.new.self in
    let n2 = c.any.new.self in
    let bits = c.in_ok-apart.apart in
    let apart : (ℕ → Bool) → Bool = λ v. not (bit_xor (word (settle_gates n0 v) c.args.first.now) (word (settle_gates n0 v) c.args.second.now) == 0) in
    let some : Means n2 c.in_ok-differ.differ apart =
    record {
      known = c.in_ok-differ.ensures.value.known;
      value = λ v e. c.in_ok-differ.ensures.value.value v e ∙ ap (λ xs. not (word (settle_gates n1 v) xs == 0)) c.as_slice.ensures ∙ ap (λ z. not (z == 0)) (c.in_ok-apart.ensures.value.value v e);
    } in
    means-other n2 c.complement.result (λ v. not (apart v)) (λ v. word (settle_gates n0 v) c.args.first.now == word (settle_gates n0 v) c.args.second.now)
    (λ v. equal-is (word (settle_gates n0 v) c.args.first.now) (word (settle_gates n0 v) c.args.second.now))
    (not-means n2 c.in_ok-differ.differ c.complement.result apart c.complement.ensures.known c.complement.ensures.value some)
