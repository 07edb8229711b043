use Rattle.std.proofs.Common.{false, ◌+◌, ◌-◌, length, replicate, [], ◌∙◌, ap, arith}
use Rattle.vl_tree.specs.Read.{read_design}
use Rattle.aig_model.specs.FormOf.{all_bits}
use Rattle.aig_design.proofs.Opening.{opened-of}
use Rattle.aig_design.proofs.form.open.Goals as goal

pub begin_parts-requires : goal.begin_parts-requires
begin_parts-requires c = let e = c.in_ok-pass_inputs.ensures.next (λ n. 0) in omega (arith, e)

pub overflow_sub-result : goal.overflow_sub-result
overflow_sub-result c = let e = c.in_ok-pass_inputs.ensures.next (λ n. 0) in omega (arith, e)

pub returns : goal.returns
returns c =
    let behind = c.pass_inputs.new.variables.next in
    let e = c.in_ok-pass_inputs.ensures.next (λ n. 0) in
    let low = c.if-next.false in
    opened-of (read_design c.args.design.now) (behind - 1) behind c.begin_parts.new.variables.next c.in_ok-begun.begun.parts.items c.in_ok-begun.begun.tops c.in_ok-begun.begun.ports.items
    c.in_ok-start.start.wired.items c.in_ok-start.start.resets.items c.in_ok-tops.tops.items c.in_ok-begun.ensures (omega (arith, e))
    (λ f. c.in_ok-pass_inputs.ensures.next f ∙ ap (λ ps. 1 + length (all_bits false f ps)) c.as_slice.ensures)
    c.in_ok-start.ensures (c.in_ok-tops.ensures ∙ ap (λ k. replicate k []) c.len.ensures) (omega (arith, low))
