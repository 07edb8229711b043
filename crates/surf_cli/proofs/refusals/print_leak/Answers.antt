use Rattle.std.proofs.Common.{subst}
use Rattle.surf_cli.specs.Lines.{Says}
use Rattle.surf_cli.proofs.refusals.print_leak.Goals as goal

pub returns : goal.returns
returns g c =
    subst (λ z. Says z (g.E.Sink.written c.args.err.now) (g.E.Sink.written c.say.new.err)
    (g.E.Sink.faults c.args.err.now) (g.E.Sink.faults c.say.new.err)) c.leak_line-len.ensures.written c.say.ensures
