use Rattle.std.proofs.Common.{◌∷◌, length, drop, sym, ap, ◌∙◌}
use Rattle.vl_tree.specs.Tokens.{tokens_of, with_token}
use Rattle.vl_read.specs.View.{token_in, token_of}
use Rattle.vl_read.proofs.Steps.{tokens_none, tokens_some}
use Rattle.vl_read.proofs.ahead.first_of.Goals as goal

pub returns-in-Some-token : goal.returns-in-Some-token
returns-in-Some-token c =
    let s =
    tokens_some c.in-Some.p c.loop-p.rest.now c.in-Some.ensures.within.0 c.in-Some.ensures.within.1 c.in-Some.ensures.value in
    let t = c.in-Some-token.is in
    ap (λ bs. record { token = token_of c.in-Some-token.token; left = length c.loop-p.rest.now } ∷ tokens_of bs) c.behind-rest.ensures
    ∙ ap (λ o. with_token (token_in o) (length c.loop-p.rest.now) (tokens_of (drop c.in-Some.p.len c.loop-p.rest.now))) (sym t)
    ∙ s ∙ c.loop-p.invariant

pub loop-p-preserved : goal.loop-p-preserved
loop-p-preserved c =
    let s =
    tokens_some c.in-Some.p c.loop-p.rest.now c.in-Some.ensures.within.0 c.in-Some.ensures.within.1 c.in-Some.ensures.value in
    let t = c.in_default-token.is in
    ap tokens_of c.behind-rest.ensures
    ∙ ap (λ o. with_token (token_in o) (length c.loop-p.rest.now) (tokens_of (drop c.in-Some.p.len c.loop-p.rest.now))) (sym t)
    ∙ s ∙ c.loop-p.invariant

pub returns : goal.returns
returns c = tokens_none c.loop-p.rest.now c.in_default.ensures.value ∙ c.loop-p.invariant
