use Rattle.std.proofs.Common.{◌≡◌, ◌≤◌, length, map, drop}
use Rattle.vl_model.specs.Lines.{top_lines}
use Rattle.vl_run.specs.Emit.{place_in}
use Rattle.label_audit.specs.Rows.{row_in}
use Rattle.label_audit.specs.Instances.{no_rows}
use Rattle.label_audit.specs.Whole.{phase_in, shown_in, input_rows}
use Rattle.label_audit.proofs.phase.Shape.tops.Given as goal

abbrev pub invariant-loop-i : goal.invariant-loop-i
invariant-loop-i l = record {
  within : l.i ≤ length l.self.parts.now;
  behind : map row_in l.tops.items ≡ shown_in (place_in l.self.declared.now) (phase_in l.kept) (drop l.i l.self.parts.now) l.i
      (input_rows (place_in l.self.declared.now) l.self.plan.now.hosts l.self.design.now.top.ports 0 (no_rows (length (top_lines l.self.design.now.top))));
}

abbrev pub decreases-loop-i : goal.decreases-loop-i
decreases-loop-i l = l.i
