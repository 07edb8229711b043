use Rattle.std.proofs.Common.{length, sym, ap, ◌∙◌, arith}
use Rattle.std.proofs.lemmas.List.{length-drop}
use Rattle.vl_tree.specs.Tokens.{unread}
use Rattle.vl_read.proofs.Steps.{unread_none, unread_some}
use Rattle.vl_read.proofs.clean.unread.Goals as goal

pub loop-p-preserved : goal.loop-p-preserved
loop-p-preserved c =
    let s =
    unread_some c.in-Some.p c.loop-p.rest.now c.in-Some.ensures.within.0 c.in-Some.ensures.within.1 c.in-Some.ensures.value in
    (ap unread c.behind-rest.ensures ∙ s ∙ c.loop-p.invariant.0, omega (arith, ap length c.behind-rest.ensures, length-drop c.in-Some.p.len c.loop-p.rest.now, c.loop-p.invariant.1))

pub returns-clause-value : goal.returns-clause-value
returns-clause-value c = sym (unread_none c.loop-p.rest.now c.in_default.ensures.value) ∙ c.loop-p.invariant.0
