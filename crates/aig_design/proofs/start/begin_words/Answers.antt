use Rattle.std.proofs.Common.{[], length, replicate, ◌∙◌, ap}
use Rattle.vl_run.specs.State.{Code, Kept}
use Rattle.aig_design.proofs.Laid.{laid-of}
use Rattle.aig_design.proofs.start.begin_words.Goals as goal

pub returns-clause-laid : goal.returns-clause-laid
returns-clause-laid c =
    laid-of c.args.variables.now.next c.put_registers.new.variables.next c.put_memories.new.variables.next c.args.program.now c.args.state.now c.as_slice.result.now c.as_slice-3.result.now _ c.in_ok-nets.nets.items c.put_registers.new.nets.items
    c.in_ok-memories.memories.items c.put_memories.new.rows.items
    (c.as_slice.ensures.value ∙ ap (λ (q : Code). q.registers) c.program.view_is)
    (c.as_slice-3.ensures.value ∙ ap (λ (q : Code). q.memories) c.program.view_is)
    (ap (λ (q : Kept). q.nets) c.state.view_is)
    (c.in_ok-nets.ensures ∙ ap (λ k. replicate k []) (c.len.ensures ∙ ap (λ (q : Kept). length q.nets) c.state.view_is))
    (c.in_ok-memories.ensures ∙ ap (λ k. replicate k []) (ap length c.as_slice-2.ensures.value ∙ ap (λ (q : Kept). length q.memories) c.state.view_is))
    c.in_ok-put_registers.ensures.put c.in_ok-put_memories.ensures.put c.in_ok-put_registers.ensures.short
