use Rattle.std.proofs.Common.{[], get_or, refl, arith}
use Rattle.vl_run.specs.declared.program.Memory.{Memory}
use Rattle.aig_cycle.specs.Wires.{numbers, AreWords}
use Rattle.aig_design.specs.Start.{memory_place, is_narrow_memory, FitsMemory, memory_bits, IsMemoryMade}
use Rattle.aig_design.proofs.Placed.{put-more}
use Rattle.aig_design.proofs.start.put_memories.Goals as goal

abbrev none : Memory
none = record { place = 0; high = 0; last = 0 }

pub loop-one-preserved : goal.loop-one-preserved
loop-one-preserved c =
    let front = c.loop-one.invariant.0 in
    let i = c.loop-one.one-index in
    let m = get_or c.args.memories.now i none in
    let made : IsMemoryMade c.loop-one.variables.next c.latch_row.new.variables.next m c.in_ok-row.row = c.in_ok-row.ensures m.place in
    let up = made.up in (
      omega (arith, front, up),
      put-more memory_place is_narrow_memory FitsMemory memory_bits AreWords numbers [] c.args.variables.now.next c.loop-one.variables.next c.latch_row.new.variables.next c.args.memories.now i none m
          c.args.rows.now.items c.loop-one.rows.items c.put_row.new.memories.items c.in_ok-row.row c.loop-one-test.true refl made c.put_row.ensures c.loop-one.invariant.1,
    )
