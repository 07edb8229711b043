use Rattle.std.proofs.lemmas.Result.{IfOk-weaker}
use Rattle.vl_tree.specs.Read.{read_design}
use Rattle.vl_rules.specs.Answer.{design_of}
use Rattle.surf_cli.specs.Replay.{AreReplayed}
use Rattle.surf_cli.proofs.Replays.{run-replayed}
use Rattle.surf_cli.proofs.reports.replay_by.Goals as goal

pub returns : goal.returns
returns c =
    IfOk-weaker c.replay.result _ (λ events. AreReplayed c.args.plan.now (read_design (design_of c.args.sound)) events c.args.trace.now c.args.cycles)
    (λ events each. run-replayed c.args.plan.now (read_design (design_of c.args.sound)) _ _ events c.args.trace.now c.args.cycles c.in_ok-drive.ensures.driver c.in_ok-drive.ensures.state each)
    c.replay.ensures.events
