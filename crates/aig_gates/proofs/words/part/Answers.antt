use Rattle.std.proofs.Common.{◌%◌, ◌^◌, ◌∙◌, ap, sym, subst}
use Rattle.std.proofs.lemmas.List.{take_rest}
use Rattle.aig_model.specs.Form.{word}
use Rattle.aig_gates.specs.Zips.{AreBelow}
use Rattle.aig_gates.proofs.Zipped.{below-drop, part-is}
use Rattle.aig_gates.proofs.words.part.Goals as goal

pub returns-clause-known : goal.returns-clause-known
returns-clause-known c k some a =
    let from = c.min-from.result in
    c.in_ok-part.ensures.known k some (subst (AreBelow k) (sym (take_rest c.args.bits.now from)) (below-drop k c.args.bits.now from a))

pub returns-clause-value : goal.returns-clause-value
returns-clause-value c v e =
    let from = c.min-from.result in
    c.in_ok-part.ensures.value v e ∙ ap (λ z. z % 2 ^ c.args.count) (ap (word v) (take_rest c.args.bits.now from) ∙ part-is v c.args.bits.now c.args.low from c.min-from.ensures)
