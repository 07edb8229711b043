use Rattle.std.proofs.Common.{◌∙◌}
use Rattle.tile_drive.proofs.ScriptLemmas.{scripts_are}
use Rattle.tile_drive.proofs.trace_drive.TraceDrive.new.Goals as goal

pub returns-clause-driver : goal.returns-clause-driver
returns-clause-driver c =
    scripts_are c.args.plan.now c.args.trace.now c.in_ok-scripts.scripts.items (c.in_ok-scripts.ensures.count ∙ c.attach_count-count.ensures)
    (λ j inside. rw (← c.as_slice.ensures) (c.in_ok-scripts.ensures.due j (rw c.attach_count-count.ensures inside)))
    (λ j t inside. rw (← c.as_slice.ensures) (c.in_ok-scripts.ensures.deaf j t (rw c.attach_count-count.ensures inside)))
