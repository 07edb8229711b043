use Rattle.std.proofs.Common.{◌≡◌, ℕ, List, ◌+◌, ◌*◌, ◌<◌, ◌≤◌, ◌^◌, ◌++◌, length, ◌∙◌, ap, subst, arith}
use Rattle.std.specs.Prelude.{codes}
use Rattle.std.proofs.lemmas.Result.{err_from_is_err_and}
use Rattle.aig_model.specs.Form.{Form, first_gate}
use Rattle.aig_model.specs.Text.{input_lines, latch_lines, output_lines, gate_lines}
use Rattle.surf_base.specs.Block.{Puts, BreaksOff, Writes}
use Rattle.surf_base.proofs.Blocks.{Writes-then, Writes-err}
use Rattle.aig_out.specs.Forms.{form_of, head_line}
use Rattle.aig_out.proofs.Lines.{text-is}
use Rattle.aig_out.proofs.text.put_aig.Goals as goal

abbrev A : Form → List ℕ
A f = codes "aag " ++ head_line f

abbrev B : Form → List ℕ
B f = input_lines 1 f.inputs

abbrev C : Form → List ℕ
C f = latch_lines (f.inputs + 1) f.latches

abbrev D : Form → List ℕ
D f = output_lines f.outputs

abbrev E : Form → List ℕ
E f = gate_lines (first_gate f) f.gates

pub returns-in_err-put_head : goal.returns-in_err-put_head
returns-in_err-put_head g c =
    let f = form_of c.args.aig.now in
    let p = err_from_is_err_and c.from_residual.result c.from_residual.ensures.1 in
    subst (Writes c.from_residual.result _ _) (text-is f) (Writes-err c.from_residual.result p.0 _ _ (A f) (B f ++ (C f ++ (D f ++ E f))) p.1 c.in_err-put_head.ensures)

pub returns-in_err-put_inputs : goal.returns-in_err-put_inputs
returns-in_err-put_inputs g c =
    let f = form_of c.args.aig.now in
    let r = c.from_residual-in_err-put_inputs.result in
    let p = err_from_is_err_and r c.from_residual-in_err-put_inputs.ensures.1 in
    subst (Writes r _ _) (text-is f) (Writes-then r _ _ _ (A f) (B f ++ (C f ++ (D f ++ E f))) c.in_ok-put_head.ensures (Writes-err r p.0 _ _ (B f) (C f ++ (D f ++ E f)) p.1 c.in_err-put_inputs.ensures))

fits : (i l g n : ℕ) → n ≡ l → 2 * (i + l + g) + 1 < 2 ^ 64 → 2 * (i + 1 + n) ≤ 2 ^ 64
fits i l g n e h = omega (arith, e, h)

fits-all : (i l g n m k : ℕ) → n ≡ l → m ≡ g → k ≡ i + 1 + n → 2 * (i + l + g) + 1 < 2 ^ 64 → 2 * (k + m) ≤ 2 ^ 64
fits-all i l g n m k e q r h = omega (arith, e, q, r, h)

pub put_latches-requires : goal.put_latches-requires
put_latches-requires g c = let a = c.args.aig.now in fits a.inputs (length a.latches) (length a.gates) _ (ap length c.as_slice.ensures) c.requires.fits

pub returns-in_err-put_latches : goal.returns-in_err-put_latches
returns-in_err-put_latches g c =
    let f = form_of c.args.aig.now in
    let r = c.from_residual-in_err-put_latches.result in
    let p = err_from_is_err_and r c.from_residual-in_err-put_latches.ensures.1 in
    let latches = ap (latch_lines (f.inputs + 1)) c.as_slice.ensures in
    subst (Writes r _ _) (text-is f)
    (Writes-then r _ _ _ (A f) (B f ++ (C f ++ (D f ++ E f))) c.in_ok-put_head.ensures (Writes-then r _ _ _ (B f) (C f ++ (D f ++ E f)) c.in_ok-put_inputs.ensures
    (Writes-err r p.0 _ _ (C f) (D f ++ E f) p.1 (subst (BreaksOff _ _) latches c.in_err-put_latches.ensures))))

pub returns-in_err-put_outputs : goal.returns-in_err-put_outputs
returns-in_err-put_outputs g c =
    let f = form_of c.args.aig.now in
    let r = c.from_residual-in_err-put_outputs.result in
    let p = err_from_is_err_and r c.from_residual-in_err-put_outputs.ensures.1 in
    let latches = ap (latch_lines (f.inputs + 1)) c.as_slice.ensures in
    let outputs = ap output_lines c.as_slice-2.ensures in
    subst (Writes r _ _) (text-is f)
    (Writes-then r _ _ _ (A f) (B f ++ (C f ++ (D f ++ E f))) c.in_ok-put_head.ensures (Writes-then r _ _ _ (B f) (C f ++ (D f ++ E f)) c.in_ok-put_inputs.ensures
    (Writes-then r _ _ _ (C f) (D f ++ E f) (subst (Puts _ _) latches c.in_ok-put_latches.ensures) (Writes-err r p.0 _ _ (D f) (E f) p.1 (subst (BreaksOff _ _) outputs c.in_err-put_outputs.ensures)))))

pub put_gates-requires : goal.put_gates-requires
put_gates-requires g c = let a = c.args.aig.now in fits-all a.inputs (length a.latches) (length a.gates) c.len.result _ _ c.len.ensures (ap length c.as_slice-3.ensures) (λ i. a.inputs + 1 + c.len.result) c.requires.fits

pub returns : goal.returns
returns g c =
    let f = form_of c.args.aig.now in
    let r = c.put_gates.result in
    let latches = ap (latch_lines (f.inputs + 1)) c.as_slice.ensures in
    let outputs = ap output_lines c.as_slice-2.ensures in
    let first : f.inputs + 1 + c.len.result ≡ first_gate f = (let e = c.len.ensures in omega (arith, e)) in
    let gates = ap (λ k. gate_lines k c.as_slice-3.result.now) first ∙ ap (gate_lines (first_gate f)) c.as_slice-3.ensures in
    subst (Writes r _ _) (text-is f)
    (Writes-then r _ _ _ (A f) (B f ++ (C f ++ (D f ++ E f))) c.in_ok-put_head.ensures (Writes-then r _ _ _ (B f) (C f ++ (D f ++ E f)) c.in_ok-put_inputs.ensures
    (Writes-then r _ _ _ (C f) (D f ++ E f) (subst (Puts _ _) latches c.in_ok-put_latches.ensures) (Writes-then r _ _ _ (D f) (E f) (subst (Puts _ _) outputs c.in_ok-put_outputs.ensures) (subst (Writes r _ _) gates c.put_gates.ensures)))))
