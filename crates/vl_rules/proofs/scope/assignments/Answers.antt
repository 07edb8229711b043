use Rattle.std.proofs.Common.{◌≡◌, length, take, sym, ◌∙◌, ap, arith, cond, Some, None}
use Rattle.std.proofs.Math.Seq.{take-length}
use Rattle.std.specs.List.{position_from}
use Rattle.std.specs.Option.{option_or}
use Rattle.vl_model.specs.Rules.{assigns}
use Rattle.vl_rules.specs.Lines.{lines_of, line_of}
use Rattle.vl_rules.specs.Scope.{is_below}
use Rattle.vl_rules.proofs.Noted.{position-more, position-any}
use Rattle.vl_rules.proofs.scope.assignments.Goals as goal

pub loop-number-preserved : goal.loop-number-preserved
loop-number-preserved c n =
    c.in_ok-note_assign.ensures n
    ∙ ap (λ e. option_or e (cond (assigns n (line_of c.line-line.result)) (Some c.loop-number.number) None)) (c.loop-number.invariant n)
    ∙ sym (position-more (assigns n) (lines_of c.args.subject.now) c.loop-number.number (line_of c.line-line.result) c.line-line.ensures)

pub returns : goal.returns
returns c k n =
    let all : c.loop-number.number ≡ length (lines_of c.args.subject.now) = omega arith in
    ap (is_below k) (c.loop-number.invariant n ∙ ap (position_from (assigns n) 0) (ap (λ i. take i (lines_of c.args.subject.now)) all ∙ take-length (lines_of c.args.subject.now)))
    ∙ position-any (assigns n) (lines_of c.args.subject.now) k
