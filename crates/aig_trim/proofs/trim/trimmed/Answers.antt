use Rattle.std.proofs.Common.{◌+◌, ◌<◌, ◌≡◌, map, length, ◌∙◌, ap, subst, sym, arith}
use Rattle.std.specs.Prelude.{slice_index}
use Rattle.aig_model.specs.Form.{Form, first_gate}
use Rattle.aig_out.specs.Forms.{form_of}
use Rattle.aig_out.specs.Ran.{at}
use Rattle.aig_trim.specs.Marks.{place, moved, kept}
use Rattle.aig_trim.proofs.Kept.{made-trimmed}
use Rattle.aig_trim.proofs.trim.trimmed.Goals as goal

pub returns : goal.returns
returns c =
    let f : Form = form_of c.args.aig.now in
    let ms = c.in_ok-marks.marks.items in
    let ns = c.in_ok-numbers.numbers.items in
    let m = c.as_slice.ensures.value in
    let len = c.len.ensures in
    let first : c.args.aig.now.inputs + c.len.result + 1 ≡ first_gate f = omega (arith, len) in
    made-trimmed f c.requires ms ns c.in_ok-marks.ensures.len c.in_ok-marks.ensures.value
    (λ x lt. c.in_ok-numbers.ensures.value x (subst (λ zs. x < length zs) (sym m) lt) ∙ ap (λ zs. place (at zs) x) m)
    (c.args.aig.now.inputs + c.len.result + 1) first c.in_ok-latches.latches c.in_ok-outputs.outputs c.in_ok-gates.gates
    (c.in_ok-latches.ensures ∙ ap (λ zs. map (moved (slice_index zs)) c.as_slice-3.result.now) c.as_slice-2.ensures.value ∙ ap (map (moved (slice_index ns))) c.as_slice-3.ensures)
    (c.in_ok-outputs.ensures ∙ ap (λ zs. map (moved (slice_index zs)) c.as_slice-5.result.now) c.as_slice-4.ensures.value ∙ ap (map (moved (slice_index ns))) c.as_slice-5.ensures)
    (c.in_ok-gates.ensures ∙ ap (λ zs. kept (at zs) (slice_index c.as_slice-7.result.now) (c.args.aig.now.inputs + c.len.result + 1) c.as_slice-8.result.now) c.as_slice-6.ensures.value
    ∙ ap (λ zs. kept (at ms) (slice_index zs) (c.args.aig.now.inputs + c.len.result + 1) c.as_slice-8.result.now) c.as_slice-7.ensures.value
    ∙ ap (kept (at ms) (slice_index ns) (c.args.aig.now.inputs + c.len.result + 1)) c.as_slice-8.ensures)
