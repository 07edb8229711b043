use Rattle.std.proofs.Common.{◌≤◌, ◌++◌, sym, ◌∙◌, ap, subst, arith}
use Rattle.aig_cycle.specs.Wires.{AreWords, AreRows}
use Rattle.aig_cycle.specs.Steps.{part_as, IsWired}
use Rattle.aig_cycle.specs.Latches.{part_bits}
use Rattle.aig_design.proofs.Shown.{instances-more, instances-all}
use Rattle.aig_design.proofs.outputs.latch_literals.Goals as goal

pub loop-i-preserved : goal.loop-i-preserved
loop-i-preserved c =
    let lt = c.loop-i-test.true in
    let end = c.min-i-end.ensures in
    let resets = c.args.resets.now in
    let parts = c.args.parts.now in
    let r = c.index-resets-i.result in
    let p = c.part.inside.program in
    instances-more resets parts c.loop-i.all c.append.new.all c.in_ok-bits.bits c.loop-i.i c.index-resets-i.result c.index-parts-i.result (omega (arith, lt, end)) (omega (arith, lt, end)) c.index-resets-i.is c.index-parts-i.is
    (c.in_ok-append.ensures ∙ ap (λ z. c.loop-i.all ++ z) c.as_slice-in-loop-i-2.ensures)
    (λ n some a.
    let x : IsWired n (record { code = p; wires = record { nets = c.part.inside.nets.items; memories = c.part.inside.memories.items } }) = subst (IsWired n) (sym c.part.view_is) a in
    c.in_ok-bits.ensures.known n some (subst (AreWords n) (sym c.as_slice.ensures.value) x.wires.nets) (subst (AreRows n) (sym c.as_slice-in-loop-i.ensures.value) x.wires.memories))
    (λ v e. c.in_ok-bits.ensures.value v e ∙ ap (λ ns. part_bits r (part_as v (record { code = p; wires = record { nets = ns; memories = c.as_slice-in-loop-i.result.now } }))) c.as_slice.ensures.value
    ∙ ap (λ ms. part_bits r (part_as v (record { code = p; wires = record { nets = c.part.inside.nets.items; memories = ms } }))) c.as_slice-in-loop-i.ensures.value ∙ ap (λ x. part_bits r (part_as v x)) c.part.view_is) c.loop-i.invariant

pub returns-clause-known : goal.returns-clause-known
returns-clause-known c = c.loop-i.invariant.known

pub returns-clause-value : goal.returns-clause-value
returns-clause-value c = instances-all c.args.resets.now c.args.parts.now c.loop-i.all c.loop-i.i (subst (λ k. k ≤ c.loop-i.i) c.min-i-end.ensures c.loop-i-test.false) c.loop-i.invariant
