use Rattle.std.proofs.Common.{◌≡◌, ◌-◌, length}
use Rattle.vl_run.specs.Emit.{place_in}
use Rattle.label_audit.specs.Whole.{domain_at, phase_in}
use Rattle.label_audit.specs.Leaks.{leak_in, port_rows}
use Rattle.label_audit.proofs.leaks.port_leak.Given as goal

abbrev pub invariant-loop-f : goal.invariant-loop-f
invariant-loop-f l = leak_in (domain_at l.shape.plan.now.hosts l.position) l.position (port_rows (place_in l.shape.declared.now) (phase_in l.tops) l.port.name) 0 (length l.tops)
    ≡ leak_in (domain_at l.shape.plan.now.hosts l.position) l.position (port_rows (place_in l.shape.declared.now) (phase_in l.tops) l.port.name) l.f (length l.tops - l.f)
