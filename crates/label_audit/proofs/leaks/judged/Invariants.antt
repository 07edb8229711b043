use Rattle.std.proofs.Common.{◌≡◌, length, drop}
use Rattle.vl_run.specs.Emit.{place_in}
use Rattle.label_audit.specs.Whole.{phase_in}
use Rattle.label_audit.specs.Leaks.{leaks_in}
use Rattle.label_audit.proofs.leaks.judged.Given as goal

abbrev pub invariant-loop-i : goal.invariant-loop-i
invariant-loop-i l = leaks_in (place_in l.shape.declared.now) l.shape.plan.now.hosts (phase_in l.tops) (length l.tops) l.shape.design.now.top.ports 0
    ≡ leaks_in (place_in l.shape.declared.now) l.shape.plan.now.hosts (phase_in l.tops) (length l.tops) (drop l.i l.shape.design.now.top.ports) l.i
