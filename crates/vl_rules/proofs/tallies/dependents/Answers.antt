use Rattle.std.proofs.Common.{[], ◌∙◌, ap, take, bytes_eq}
use Rattle.std.specs.List.{list_any}
use Rattle.vl_model.specs.Rules.{all_depending}
use Rattle.vl_rules.specs.Lines.{lines_of, line_of}
use Rattle.vl_rules.proofs.Tallied.{depending-more}
use Rattle.vl_rules.proofs.tallies.dependents.Goals as goal

pub loop-number-preserved : goal.loop-number-preserved
loop-number-preserved c n =
    c.in_ok-mark_line.ensures (all_depending [] (take c.loop-number.number (lines_of c.args.subject.now))) c.loop-number.invariant n
    ∙ ap (list_any (bytes_eq n)) (depending-more (lines_of c.args.subject.now) c.loop-number.number (line_of c.line-line.result) c.line-line.ensures)
