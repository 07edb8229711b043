use Rattle.std.proofs.Common.{◌<◌, length, sym, ap, subst, ◌∙◌, arith}
use Rattle.std.proofs.lemmas.Result.{err_from_is_err_and}
use Rattle.vl_tree.specs.Reading.{one, phrase, the_mark}
use Rattle.vl_read.specs.Gives.{Gives, Fails}
use Rattle.vl_read.specs.View.{placed}
use Rattle.vl_read.proofs.Singles.{phrase_last, phrase_more, phrase_fails}
use Rattle.vl_read.proofs.ahead.+phrase.Goals as goal

pub returns-in_err-ts : goal.returns-in_err-ts
returns-in_err-ts t c =
    let p = err_from_is_err_and c.from_residual.result c.from_residual.ensures.1 in
    rw (p.1, p.2) (phrase_fails c.in_err-ts.field-0.0 c.args.text.now c.len_before-n.result (placed c.args.ts) c.len_before-n.ensures.value c.len_before-n.ensures.within
    (subst (λ m. Fails c.in_err-ts.field-0.0 (one (the_mark m) (placed c.args.ts))) c.before-2.ensures c.in_err-ts.ensures))

pub returns-then-n-text : goal.returns-then-n-text
returns-then-n-text t c =
    phrase_last c.args.text.now c.len_before-n.result (placed c.args.ts) (placed c.in_ok-ts.ts) c.len_before-n.ensures.value c.if-n-text.true
    (ap (λ m. one (the_mark m) (placed c.args.ts)) (sym c.before-2.ensures) ∙ c.in_ok-ts.ensures)

pub returns : goal.returns
returns t c =
    let lt : c.len_before-n.result < length c.args.text.now =
    omega (arith, c.len_before-n.ensures.within, c.if-n-text.false) in
    let on =
    phrase_more c.args.text.now c.len_before-n.result (placed c.args.ts) (placed c.in_ok-ts.ts) c.len_before-n.ensures.value lt (ap (λ m. one (the_mark m) (placed c.args.ts)) (sym c.before-2.ensures) ∙ c.in_ok-ts.ensures) in
    subst (λ o. Gives (λ x. (tt, placed x)) c.phrase.result o) (ap (λ bs. phrase bs (placed c.in_ok-ts.ts)) c.behind.ensures ∙ sym on) c.phrase.ensures
