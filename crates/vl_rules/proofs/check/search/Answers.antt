use Rattle.std.proofs.Common.{◌∙◌, sym}
use Rattle.vl_rules.specs.Lines.{lines_of, line_of}
use Rattle.vl_rules.specs.Site.{leaves_before}
use Rattle.vl_rules.specs.Check.{test_of}
use Rattle.vl_rules.proofs.Sited.{first-at, none-more}
use Rattle.vl_rules.proofs.check.search.Goals as goal

pub returns-then-branch : goal.returns-then-branch
returns-then-branch c =
    sym (first-at (test_of c.args.check.now) (leaves_before c.args.site.now) (lines_of c.args.site.now.subject) c.loop-number.number (line_of c.line-line.result) c.line-line.ensures c.loop-number.invariant
    (sym c.in_ok-breaks.ensures ∙ c.if-branch.true))

pub loop-number-preserved : goal.loop-number-preserved
loop-number-preserved c =
    none-more (test_of c.args.check.now) (leaves_before c.args.site.now) (lines_of c.args.site.now.subject) c.loop-number.number (line_of c.line-line.result) c.line-line.ensures c.loop-number.invariant
    (sym c.in_ok-breaks.ensures ∙ c.if-branch.false)
