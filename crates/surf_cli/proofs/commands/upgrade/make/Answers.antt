use Rattle.std.proofs.Common.{ap}
use Rattle.noc_desc.specs.declared.Draft.{Draft}
use Rattle.surf_cli.specs.Spoken.{gathered}
use Rattle.surf_cli.proofs.Makings.{upgrade-made}
use Rattle.surf_cli.proofs.commands.upgrade.make.Goals as goal

pub returns-clause-ok : goal.returns-clause-ok
returns-clause-ok c =
    let written = c.in_ok-bytes.ensures in
    let of_plan = c.in_ok-draft.ensures in
    upgrade-made (gathered c.args.contents) c.as_slice.result.now c.in_ok-bytes.bytes.items c.in_ok-plan.plan
    c.as_slice.ensures.value c.in_ok-plan.ensures.ok
    (record {
      draft = c.in_ok-draft.draft;
      is = of_plan.value;
      has_table = written.table;
      no_fault = written.no_fault (ap (λ (d : Draft). d.version) of_plan.value);
      reads_back = written.reads_back;
      accepted = of_plan.accepted;
      same_plan = of_plan.same_plan;
    })
