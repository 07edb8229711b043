use Rattle.std.proofs.Common.{[], ◌++◌, sym, ◌∙◌, ap, subst}
use Rattle.aig_model.specs.Netlist.{settle_gates}
use Rattle.vl_run.specs.State.{Code}
use Rattle.vl_run.specs.Step.{ran, word_at}
use Rattle.aig_cycle.specs.Wires.{numbers, rows}
use Rattle.aig_cycle.specs.Short.{lengths, AreShort}
use Rattle.aig_cycle.proofs.Shorter.{shorts-end}
use Rattle.aig_cycle.proofs.Running.{rows-wider, settle-is}
use Rattle.aig_cycle.proofs.wires.steady.Goals as goal

pub returns-clause-words : goal.returns-clause-words
returns-clause-words c = record { nets = c.in_ok-run.ensures.words; memories = rows-wider c.args.netlist.now c.run.new.netlist c.run.ensures.grows c.args.memories.now c.requires.wires.memories }

pub returns-clause-value : goal.returns-clause-value
returns-clause-value c v e =
    let n = c.args.netlist.now in
    let settle = c.as_slice.ensures.value ∙ ap (λ (q : Code). q.settle) c.program.view_is in
    settle-is n c.run.new.netlist v c.args.program.now c.args.nets.now.items c.run.new.nets.items c.args.memories.now c.run.ensures.grows c.requires.wires.memories
    (c.in_ok-run.ensures.value v e ∙ ap (λ ss. ran (word_at (rows (settle_gates n v) c.args.memories.now)) ss (numbers (settle_gates n v) c.args.nets.now.items)) settle)

pub returns-clause-short : goal.returns-clause-short
returns-clause-short c x h =
    let settle = c.as_slice.ensures.value ∙ ap (λ (q : Code). q.settle) c.program.view_is in
    let nets = c.args.nets.now.items in
    c.in_ok-run.ensures.short x [] (subst (λ z. AreShort x (z ++ []) (lengths nets)) (sym settle) (shorts-end x c.args.program.now.settle (lengths nets) h))
