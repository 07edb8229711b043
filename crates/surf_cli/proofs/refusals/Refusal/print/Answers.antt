use Rattle.std.proofs.Common.{sym, subst}
use Rattle.surf_cli.specs.Lines.{line_of_refusal, Says}
use Rattle.surf_cli.proofs.refusals.Refusal.print.Goals as goal

pub returns-in-Leak : goal.returns-in-Leak
returns-in-Leak g c =
    subst (λ r. Says (line_of_refusal r) (g.E.Sink.written c.args.err.now) (g.E.Sink.written c.print_leak.new.err)
    (g.E.Sink.faults c.args.err.now) (g.E.Sink.faults c.print_leak.new.err)) (sym c.in-Leak.is) c.print_leak.ensures
