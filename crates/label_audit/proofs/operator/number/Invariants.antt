use Rattle.std.proofs.Common.{◌≡◌, ◌<◌, ◌^◌}
use Rattle.std.specs.Prelude.{Some}
use Rattle.label_model.specs.Labels.{number_of}
use Rattle.label_audit.specs.Rows.{row_in, bit_in}
use Rattle.label_audit.proofs.operator.number.Given as goal

abbrev pub invariant-loop-i : goal.invariant-loop-i
invariant-loop-i l = (number_of (bit_in (row_in l.row)) l.i ≡ Some l.number) × (l.number < 2 ^ l.i)
