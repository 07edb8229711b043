use Rattle.std.proofs.Common.{◌<◌}
use Rattle.aig_design.proofs.Rows.{IsRow}
use Rattle.aig_design.proofs.start.latch_row.Given as goal

abbrev pub invariant-loop : goal.invariant-loop
invariant-loop l = (0 < l.variables.next) × IsRow l.initial.variables.next l.variables.next l.high l.row l.counter
