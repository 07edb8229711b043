use Rattle.std.proofs.Common.{ℕ, Bool, sym, subst}
use Rattle.std.specs.Prelude.{IfOk}
use Rattle.aig_model.specs.Form.{literal}
use Rattle.aig_model.specs.Netlist.{Net, Means, IsOf, settle_gates}
use Rattle.aig_gates.specs.declared.words.Way.{Way}
use Rattle.aig_gates.specs.declared.words.Way.TheVariants.{Choose}
use Rattle.aig_gates.specs.Zips.{IsWayOf, paired}
use Rattle.aig_gates.proofs.Rippled.{means-itself}
use Rattle.aig_gates.proofs.Zipped.{if-ok}
use Rattle.aig_gates.proofs.gates.Netlist.pair.Goals as goal

abbrev Says : Net → Net → ℕ → ℕ → Way → ℕ → Type 0
Says old new first second w x = (f g : (ℕ → Bool) → Bool) → Means old first f → Means old second g → Means new x (λ v. paired w (settle_gates old v) (f v) (g v))

pub returns-in-And-clause-value : goal.returns-in-And-clause-value
returns-in-And-clause-value c = subst (λ w. IfOk c.and.result (Says c.args.self.now c.and.new.self c.args.first c.args.second w)) (sym c.in-And.is) c.and.ensures.value

pub returns-in-Or-clause-value : goal.returns-in-Or-clause-value
returns-in-Or-clause-value c = subst (λ w. IfOk c.or.result (Says c.args.self.now c.or.new.self c.args.first c.args.second w)) (sym c.in-Or.is) c.or.ensures.value

pub returns-in-Xor-clause-value : goal.returns-in-Xor-clause-value
returns-in-Xor-clause-value c = subst (λ w. IfOk c.differ.result (Says c.args.self.now c.differ.new.self c.args.first c.args.second w)) (sym c.in-Xor.is) c.differ.ensures.value

pub returns-in-Choose-clause-value : goal.returns-in-Choose-clause-value
returns-in-Choose-clause-value c =
    let n0 = c.args.self.now in
    let test = c.in-Choose.test in
    let known : IsOf n0 test = subst (IsWayOf n0) c.in-Choose.is c.requires.way in
    subst (λ w. IfOk c.choose.result (Says n0 c.choose.new.self c.args.first c.args.second w)) (sym c.in-Choose.is)
    (if-ok c.choose.result _ (Says n0 c.choose.new.self c.args.first c.args.second (Choose test)) (λ x says f g a b. says (λ v. literal (settle_gates n0 v) test) f g (means-itself n0 test known) a b) c.choose.ensures.value)
