use Rattle.std.proofs.Common.{◌≡◌, ◌≤◌, length, map, drop}
use Rattle.vl_model.specs.Lines.{top_lines}
use Rattle.vl_run.specs.Emit.{place_in}
use Rattle.label_audit.specs.Rows.{row_in}
use Rattle.label_audit.specs.Instances.{no_rows}
use Rattle.label_audit.specs.Whole.{input_rows}
use Rattle.label_audit.proofs.phase.Shape.inputs.Given as goal

abbrev pub invariant-loop-i : goal.invariant-loop-i
invariant-loop-i l = record {
  within : l.i ≤ length l.ports;
  behind : map row_in l.tops.items ≡ input_rows (place_in l.self.declared.now) l.self.plan.now.hosts (drop l.i l.ports) l.i (no_rows (length (top_lines l.self.design.now.top)));
}

abbrev pub decreases-loop-i : goal.decreases-loop-i
decreases-loop-i l = l.i
