use Rattle.std.proofs.Common.{ℕ, List, length, arith}
use Rattle.std.proofs.lemmas.Result.{err_from_is_err_and}
use Rattle.noc_model.specs.declared.Event.{Event}
use Rattle.noc_model.specs.Plan.{Plan}
use Rattle.stress_gen.specs.Summary.{summary_line}
use Rattle.surf_cli.specs.Simulate.{events_of}
use Rattle.surf_cli.specs.Stress.{summary_of}
use Rattle.surf_cli.proofs.Texts.{Puts-next, Puts-loop, BreaksOff-loop, Writes-broken}
use Rattle.surf_cli.proofs.summary.Summary.put.Goals as goal

-- the line of domain d
abbrev text : Plan → List Event → ℕ → List ℕ
text p events d = summary_line p d (events_of events d)

pub returns-in_err-put_summary : goal.returns-in_err-put_summary
unfolding summary_of
returns-in_err-put_summary g c =
    let self = c.args.self.now in
    let e = err_from_is_err_and c.from_residual.result c.from_residual.ensures.1 in
    Writes-broken c.from_residual.result e.0 _ _ _ e.1
    (BreaksOff-loop _ _ _ c.loop-d.d (length self.plan.domains) (text self.plan self.events) (omega arith) c.loop-d.invariant c.in_err-put_summary.ensures)

pub loop-d-preserved : goal.loop-d-preserved
loop-d-preserved g c = let self = c.args.self.now in Puts-next _ _ _ c.loop-d.d (text self.plan self.events) c.loop-d.invariant c.in_ok-put_summary.ensures

pub returns : goal.returns
unfolding summary_of
returns g c = let self = c.args.self.now in Puts-loop _ _ c.loop-d.d (length self.plan.domains) (text self.plan self.events) (omega arith) c.loop-d.invariant
