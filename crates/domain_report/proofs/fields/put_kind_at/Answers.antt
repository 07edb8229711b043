use Rattle.std.proofs.Common.{◌++◌, ◌∷◌, take, append_assoc, sym, ap, ◌∙◌}
use Rattle.std.specs.Prelude.{codes}
use Rattle.surf_base.specs.Numbers.{hex_word}
use Rattle.noc_model.specs.declared.Kind.{Kind}
use Rattle.noc_model.specs.Report.{kind_bytes}
use Rattle.domain_report.proofs.fields.put_kind_at.Goals as goal

pub returns-in-Take-clause-written : goal.returns-in-Take-clause-written
returns-in-Take-clause-written c =
    let front = take c.args.at c.args.buf.now in
    c.put_word_at.ensures.written ∙ append_assoc front (codes " take ") (hex_word c.in-Take.payload)
    ∙ ap (λ (k : Kind). front ++ 32 ∷ kind_bytes k) (sym c.in-Take.is)

pub returns-in-Wait-clause-written : goal.returns-in-Wait-clause-written
returns-in-Wait-clause-written c =
    let front = take c.args.at c.args.buf.now in
    c.put_word_at-in-Wait.ensures.written ∙ append_assoc front (codes " wait ") (hex_word c.in-Wait.payload)
    ∙ ap (λ (k : Kind). front ++ 32 ∷ kind_bytes k) (sym c.in-Wait.is)

pub returns-in-Got-clause-written : goal.returns-in-Got-clause-written
returns-in-Got-clause-written c =
    c.put_got_at.ensures.written
    ∙ ap (λ (k : Kind). take c.args.at c.args.buf.now ++ 32 ∷ kind_bytes k) (sym c.in-Got.is)
