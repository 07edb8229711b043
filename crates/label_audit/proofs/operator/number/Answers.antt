use Rattle.std.proofs.Common.{◌≡◌, ℕ, suc, ◌+◌, ◌≤◌, length, sym, ◌∙◌, ap, arith}
use Rattle.std.specs.Prelude.{Some, None}
use Rattle.std.proofs.lemmas.List.{length-map}
use Rattle.label_model.specs.Labels.{Label, with_bit, number_of}
use Rattle.label_audit.specs.Bits.{label_in}
use Rattle.label_audit.specs.Rows.{row_in, bit_in}
use Rattle.label_audit.proofs.Numbers.{no-number}
use Rattle.label_audit.proofs.operator.number.Goals as goal

pub returns-in-None : goal.returns-in-None
returns-in-None c =
    let x : ℕ → Label = bit_in (row_in c.args.row.now) in
    let i : ℕ = c.loop-i.i in
    let here : number_of x (suc i) ≡ None = ap (with_bit i (x i)) c.loop-i.invariant.0 ∙ ap (λ z. with_bit i z (Some c.loop-i.number)) (sym c.bit.ensures) ∙ sym c.in-None.ensures.value in
    let less = c.loop-i-test.true in
    let same : length (row_in c.args.row.now) ≡ length c.args.row.now = length-map c.args.row.now label_in in
    sym (no-number (row_in c.args.row.now) (suc i) here (omega (arith, less, same)))
