use Rattle.std.proofs.Common.{arith}
use Rattle.surf_cli.specs.Answers.{text_of}
use Rattle.surf_cli.specs.Spoken.{gathered}
use Rattle.surf_cli.proofs.Formed.{form-made, form-refused}
use Rattle.surf_cli.proofs.commands.aiger.make.Goals as goal

pub returns-then-places-gt-MOST_PLACES-clause-err : goal.returns-then-places-gt-MOST_PLACES-clause-err
returns-then-places-gt-MOST_PLACES-clause-err c =
    let many = c.if-places-gt-MOST_PLACES.true in
    let count = c.places.ensures in
    form-refused (gathered c.args.contents) c.as_slice.result.now c.in_ok-plan.plan c.as_slice.ensures.value c.in_ok-plan.ensures.ok (omega (arith, many, count))

pub returns-clause-ok : goal.returns-clause-ok
returns-clause-ok c =
    let few = c.if-places-gt-MOST_PLACES.false in
    let count = c.places.ensures in
    form-made (gathered c.args.contents) c.as_slice.result.now (text_of c.in_ok-text.text) c.in_ok-plan.plan c.as_slice.ensures.value c.in_ok-plan.ensures.ok (omega (arith, few, count)) c.in_ok-text.ensures
