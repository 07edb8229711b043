use Rattle.surf_cli.specs.Spoken.{gathered}
use Rattle.surf_cli.proofs.Compiled.{text-made}
use Rattle.surf_cli.proofs.commands.compile.make.Goals as goal

pub returns-clause-ok : goal.returns-clause-ok
returns-clause-ok c =
    text-made (gathered c.args.contents) c.as_slice.result.now c.in_ok-bytes.bytes.items c.in_ok-plan.plan
    c.as_slice.ensures.value c.in_ok-plan.ensures.ok c.in_ok-bytes.ensures
