use Rattle.std.proofs.Common.{◌+◌, ◌∙◌, ap, min, take}
use Rattle.vl_tree.specs.Read.{read_leaves}
use Rattle.vl_model.specs.Rules.{drives}
use Rattle.vl_rules.specs.Lines.{lines_of, line_of}
use Rattle.vl_rules.proofs.Tallied.{drivers-more}
use Rattle.vl_rules.proofs.tallies.driver_counts.Goals as goal

pub loop-number-preserved : goal.loop-number-preserved
loop-number-preserved c n =
    c.in_ok-count_line.ensures n
    ∙ ap (λ m. min 2 (m + drives (take c.args.leaves (read_leaves c.args.library.now.leaves.now)) n (line_of c.line-line.result))) (c.loop-number.invariant n)
    ∙ drivers-more (take c.args.leaves (read_leaves c.args.library.now.leaves.now)) (lines_of c.args.subject.now) c.loop-number.number (line_of c.line-line.result) n c.line-line.ensures
