use Rattle.std.proofs.Common.{sym, ◌∙◌}
use Rattle.vl_tree.specs.Tokens.{to_close}
use Rattle.vl_read.proofs.Scans.{close_here, close_on}
use Rattle.vl_read.proofs.scan.to_close.Goals as goal

pub returns-then-closes_at-clause-value : goal.returns-then-closes_at-clause-value
returns-then-closes_at-clause-value c =
    close_here c.args.bytes.now c.loop-i.i (to_close c.args.bytes.now) c.loop-i-test.true (sym c.closes_at.ensures ∙ c.if-closes_at.true) c.loop-i.invariant

pub loop-i-preserved : goal.loop-i-preserved
loop-i-preserved c =
    close_on c.args.bytes.now c.loop-i.i (to_close c.args.bytes.now) c.loop-i-test.true (sym c.closes_at.ensures ∙ c.if-closes_at.false) c.loop-i.invariant
