use Rattle.std.proofs.Common.{◌≡◌, ◌&&◌, ◌-◌}
use Rattle.std.specs.Prelude.{◌==◌, not}
use Rattle.label_model.specs.Verdict.{first_of}
use Rattle.label_audit.specs.Bits.{domains_in}
use Rattle.label_audit.proofs.leaks.foreign.Given as goal

abbrev pub invariant-loop-e : goal.invariant-loop-e
invariant-loop-e l = first_of (λ e. not (e == l.own) && domains_in l.mask e) 0 l.count ≡ first_of (λ e. not (e == l.own) && domains_in l.mask e) l.e (l.count - l.e)
