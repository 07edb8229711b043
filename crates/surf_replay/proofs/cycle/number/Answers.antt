use Rattle.std.proofs.Common.{◌≡◌, ℕ, ◌+◌, ◌*◌, sym, ◌∙◌, ap}
use Rattle.std.specs.Prelude.{Some, slice_get}
use Rattle.gen_kit.specs.Ports.{host_name}
use Rattle.gen_kit.specs.PortSpec.{kind_head}
use Rattle.surf_replay.proofs.Numbered.{port_at, listed, is-output, of-32}
use Rattle.surf_replay.proofs.cycle.number.Goals as goal

pub returns-clause-value : goal.returns-clause-value
returns-clause-value c = λ nets h in-cycle at. (
    let k = c.args.kind in
    let i : ℕ = 11 * c.args.j + k in
    let port = ap (λ ps. slice_get ps i) in-cycle.ports ∙ listed c.args.plan.now c.args.j k h at c.requires.kind in
    c.outputs.ensures.value in-cycle.inside in-cycle.inputs (port_at h k) in-cycle.stands port (is-output k c.requires.output)
    ∙ ap (λ n. n.top (host_name (kind_head k) h)) (sym in-cycle.settles))

pub returns-clause-small : goal.returns-clause-small
returns-clause-small c = λ nets h in-cycle at. (
    let k = c.args.kind in
    let i : ℕ = 11 * c.args.j + k in
    let port = ap (λ ps. slice_get ps i) in-cycle.ports ∙ listed c.args.plan.now c.args.j k h at c.requires.kind in
    of-32 k c.outputs.result (c.outputs.ensures.small in-cycle.inside (port_at h k) in-cycle.stands port (is-output k c.requires.output)))
