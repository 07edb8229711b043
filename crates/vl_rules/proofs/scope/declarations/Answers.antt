use Rattle.std.proofs.Common.{◌≡◌, length, take, sym, ◌∙◌, ap, arith}
use Rattle.std.proofs.Math.Seq.{take-length}
use Rattle.std.specs.Option.{option_or}
use Rattle.vl_model.specs.Lines.{declared}
use Rattle.vl_rules.specs.Lines.{lines_of, line_of}
use Rattle.vl_rules.specs.Scope.{before, entry_at}
use Rattle.vl_rules.proofs.Noted.{noted, noted-more, noted-looked}
use Rattle.vl_rules.proofs.scope.declarations.Goals as goal

pub loop-number-init : goal.loop-number-init
loop-number-init c n = c.new-table.ensures n

pub loop-number-preserved : goal.loop-number-preserved
loop-number-preserved c n =
    c.in_ok-note.ensures n
    ∙ ap (λ e. option_or e (entry_at c.loop-number.number (declared (line_of c.line-line.result)) n)) (c.loop-number.invariant n)
    ∙ sym (noted-more (lines_of c.args.subject.now) c.loop-number.number (line_of c.line-line.result) n c.line-line.ensures)

pub returns : goal.returns
returns c k n =
    let all : c.loop-number.number ≡ length (lines_of c.args.subject.now) = omega arith in
    ap (before k n) (c.loop-number.invariant n ∙ ap (λ xs. noted 0 xs n) (ap (λ i. take i (lines_of c.args.subject.now)) all ∙ take-length (lines_of c.args.subject.now)))
    ∙ noted-looked (lines_of c.args.subject.now) n k
