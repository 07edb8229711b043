use Rattle.std.proofs.Common.{get_or, sym, subst}
use Rattle.vl_run.specs.declared.program.Memory.{Memory}
use Rattle.aig_cycle.specs.Wires.{rows, AreWords}
use Rattle.aig_cycle.specs.Latches.{memory_row}
use Rattle.aig_cycle.proofs.Actions.{row-of}
use Rattle.aig_cycle.proofs.Added.{added-none, added-over, added-all, memory-bits}
use Rattle.aig_cycle.proofs.taken.add_memories.Goals as goal

abbrev none : Memory
none = record { place = 0; high = 0; last = 0 }

pub loop-one-init : goal.loop-one-init
loop-one-init c = (λ n some p a. a, added-none (λ v. memory_row (rows v c.args.words.now)) c.args.all.now c.args.memories.now)

pub loop-one-preserved : goal.loop-one-preserved
loop-one-preserved c =
    let xs = c.args.memories.now in
    let i = c.loop-one.one-index in (
      λ n some p a. c.in_ok-add_words.ensures.known n some (subst (AreWords n) (sym c.memory.ensures) (row-of n c.args.words.now (get_or xs i none).place p)) (c.loop-one.invariant.0 n some p a),
      added-over (λ v. memory_row (rows v c.args.words.now)) c.args.all.now c.loop-one.all c.add_words.new.all xs i none c.loop-one-test.true c.in_ok-add_words.ensures.value
          (λ v. memory-bits v c.args.words.now (get_or xs i none) c.memory.result.now c.memory.ensures) c.loop-one.invariant.1,
    )

pub returns-clause-known : goal.returns-clause-known
returns-clause-known c = c.loop-one.invariant.0

pub returns-clause-value : goal.returns-clause-value
returns-clause-value c = added-all (λ v. memory_row (rows v c.args.words.now)) c.args.all.now c.loop-one.all c.args.memories.now c.loop-one.one-index c.loop-one-test.false c.loop-one.invariant.1
