use Rattle.std.proofs.Common.{◌≡◌, ◌∙◌, ◌∷◌, [], ◌++◌}
use Rattle.vl_rules.specs.Lines.{lines_of, line_of}
use Rattle.vl_run.specs.Start.{empty_memory}
use Rattle.vl_run.proofs.Room.{one-more-row}
use Rattle.vl_run.proofs.state.memories.Goals as goal

pub loop-number-preserved : goal.loop-number-preserved
loop-number-preserved c =
    let row : c.push.new.self.items ≡ c.loop-number.rows.items ++ empty_memory (line_of c.line.result) ∷ [] = cc (c.in_ok-push.ensures.items, c.in_ok-zeros.ensures) in
    row ∙ one-more-row (lines_of c.args.subject.now) c.loop-number.number (line_of c.line.result) c.loop-number.rows.items c.line.ensures c.loop-number.invariant
