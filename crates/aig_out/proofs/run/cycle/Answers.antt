use Rattle.std.proofs.Common.{◌≡◌, ℕ, ◌+◌, List, length, map, ◌∙◌, ap, sym, subst, arith}
use Rattle.aig_model.specs.declared.form.Gate.{Gate}
use Rattle.aig_model.specs.Form.{Form, AreOrdered, literal, first_gate, last_variable, values, with_gates}
use Rattle.aig_out.specs.declared.form.Aig.{Aig}
use Rattle.aig_out.specs.Forms.{form_of}
use Rattle.aig_out.specs.Ran.{at}
use Rattle.aig_out.proofs.Ran.{same-map, cycle-values}
use Rattle.aig_out.proofs.run.cycle.Goals as goal

ordered-at : (k j : ℕ) (gs hs : List Gate) → j ≡ k → hs ≡ gs → AreOrdered k gs → AreOrdered j hs
ordered-at k j gs hs e q o = subst (λ z. AreOrdered z hs) (sym e) (subst (AreOrdered k) (sym q) o)

pub settle-requires : goal.settle-requires
settle-requires c =
    let a : Aig = c.args.aig.now in
    let i = c.requires.inputs in
    let l = c.requires.state in
    let room = c.requires.room in
    let long = c.put_given.ensures.len in
    let gates = ap length c.as_slice.ensures in
    record {
      room = omega (arith, i, l, room, long, gates);
      ordered = ordered-at (first_gate (form_of a)) _ a.gates c.as_slice.result.now (omega (arith, i, l)) c.as_slice.ensures c.requires.form.ordered;
    }

pub returns-clause-outputs : goal.returns-clause-outputs
returns-clause-outputs c =
    let a : Aig = c.args.aig.now in
    let f : Form = form_of a in
    let inputs = c.args.inputs.now in
    let state = c.args.state.now in
    let first : ℕ = length inputs + length state + 1 in
    let all = cycle-values f inputs state c.put_given.new.values c.settle.new.values first c.requires.inputs c.requires.state (λ i. first) c.put_given.ensures.values
    (λ v h x lt. c.settle.ensures.values v h x (let gates = ap length c.as_slice.ensures in omega (arith, lt, gates)) ∙ ap (λ gs. with_gates v first gs x) c.as_slice.ensures) in
    c.read.ensures ∙ ap (map (literal (at c.settle.new.values))) c.as_slice-2.ensures ∙ same-map (at c.settle.new.values) (values f (at inputs) (at state)) (last_variable f) a.outputs all c.requires.form.outputs

pub returns-clause-state : goal.returns-clause-state
returns-clause-state c =
    let a : Aig = c.args.aig.now in
    let f : Form = form_of a in
    let inputs = c.args.inputs.now in
    let state = c.args.state.now in
    let first : ℕ = length inputs + length state + 1 in
    let all = cycle-values f inputs state c.put_given.new.values c.settle.new.values first c.requires.inputs c.requires.state (λ i. first) c.put_given.ensures.values
    (λ v h x lt. c.settle.ensures.values v h x (let gates = ap length c.as_slice.ensures in omega (arith, lt, gates)) ∙ ap (λ gs. with_gates v first gs x) c.as_slice.ensures) in
    c.read-2.ensures ∙ ap (map (literal (at c.settle.new.values))) c.as_slice-3.ensures ∙ same-map (at c.settle.new.values) (values f (at inputs) (at state)) (last_variable f) a.latches all c.requires.form.latches
