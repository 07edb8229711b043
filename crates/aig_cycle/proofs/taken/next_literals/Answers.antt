use Rattle.std.proofs.Common.{◌≡◌, ◌++◌, map, sym, ◌∙◌, ap, subst}
use Rattle.std.specs.Prelude.{flat_map}
use Rattle.vl_run.specs.State.{Code}
use Rattle.aig_model.specs.Form.{literal}
use Rattle.aig_model.specs.Netlist.{AreOf}
use Rattle.aig_cycle.specs.Wires.{numbers, rows}
use Rattle.aig_cycle.specs.Latches.{register_row, memory_row}
use Rattle.aig_cycle.proofs.taken.next_literals.Goals as goal

pub returns-clause-known : goal.returns-clause-known
returns-clause-known c n some nets rows = c.in_ok-add_memories.ensures.known n some rows (c.in_ok-add_registers.ensures.known n some nets (subst (AreOf n) (sym c.new-all.ensures) tt))

pub returns-clause-value : goal.returns-clause-value
returns-clause-value c v e =
    let registers = c.as_slice.ensures.value ∙ ap (λ (q : Code). q.registers) c.program.view_is in
    let memories = c.as_slice-2.ensures.value ∙ ap (λ (q : Code). q.memories) c.program.view_is in
    let resets = c.args.resets.now in
    let nets = c.args.nets.now in
    let words = c.args.memories.now in
    let first : map (literal v) c.add_registers.new.all ≡ flat_map (register_row resets (numbers v nets)) c.args.program.now.registers =
    c.in_ok-add_registers.ensures.value v e ∙ ap (λ xs. map (literal v) xs ++ flat_map (register_row resets (numbers v nets)) c.as_slice.result.now) c.new-all.ensures ∙ ap (flat_map (register_row resets (numbers v nets))) registers in
    c.in_ok-add_memories.ensures.value v e ∙ ap (λ z. z ++ flat_map (memory_row (rows v words)) c.as_slice-2.result.now) first
    ∙ ap (λ ms. flat_map (register_row resets (numbers v nets)) c.args.program.now.registers ++ flat_map (memory_row (rows v words)) ms) memories
