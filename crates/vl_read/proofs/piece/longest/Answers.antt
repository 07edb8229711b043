use Rattle.std.proofs.Common.{◌≡◌, eqb, false, sym, ap, ◌∙◌, get_or, drop, take, arith}
use Rattle.std.proofs.lemmas.Bool.Decides.{nat_tests}
use Rattle.vl_tree.specs.Tokens.{comment_at, run_at, run_of, after_run}
use Rattle.vl_read.proofs.Pieces.{blank_piece, comment_piece, run_piece, symbol_piece, after_is}
use Rattle.vl_read.proofs.piece.longest.Goals as goal

pub returns-then-is_blank : goal.returns-then-is_blank
returns-then-is_blank c =
    c.gap.ensures ∙ blank_piece c.args.bytes.now c.requires (sym c.is_blank.ensures ∙ c.if-is_blank.true)

pub returns-then-b-eq47 : goal.returns-then-b-eq47
returns-then-b-eq47 c =
    c.comment.ensures ∙ ap comment_at c.behind.ensures
    ∙ comment_piece c.args.bytes.now c.requires (sym c.is_blank.ensures ∙ c.if-is_blank.false) c.if-b-eq47.true

pub returns-then-is_run : goal.returns-then-is_run
returns-then-is_run c =
    let bs = c.args.bytes.now in
    let other : eqb (get_or bs 0 0) 47 ≡ false = grind (arith, nat_tests) in
    let front : c.before-then-is_run.result.now ≡ run_of bs =
    c.before-then-is_run.ensures ∙ ap (λ n. take n bs) c.run_len-n.ensures.value in
    let rest : c.behind-then-is_run.result.now ≡ after_run bs =
    c.behind-then-is_run.ensures ∙ ap (λ n. drop n bs) c.run_len-n.ensures.value ∙ sym (after_is bs) in
    c.run.ensures ∙ ap (λ r. run_at r c.behind-then-is_run.result.now) front ∙ ap (run_at (run_of bs)) rest
    ∙ run_piece bs c.requires (sym c.is_blank.ensures ∙ c.if-is_blank.false) other (sym c.is_run.ensures ∙ c.if-is_run.true)

pub returns : goal.returns
returns c =
    let bs = c.args.bytes.now in
    let other : eqb (get_or bs 0 0) 47 ≡ false = grind (arith, nat_tests) in
    c.symbol.ensures
    ∙ symbol_piece bs c.requires (sym c.is_blank.ensures ∙ c.if-is_blank.false) other (sym c.is_run.ensures ∙ c.if-is_run.false)
