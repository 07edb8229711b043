use Rattle.std.proofs.Common.{◌+◌, ◌<◌, ◌^◌, sym, ◌∙◌, ap, subst}
use Rattle.std.specs.Prelude.{slice_index}
use Rattle.vl_tree.specs.Values.{Design}
use Rattle.vl_tree.specs.Read.{read_design}
use Rattle.vl_tree.proofs.Plainly.{plain_is}
use Rattle.vl_model.specs.Rules.{IsSound}
use Rattle.vl_run.proofs.Whole.{output-shows, output-small}
use Rattle.vl_run.proofs.machine.Machine.outputs.Goals as goal

pub returns-clause-value : goal.returns-clause-value
returns-clause-value c = λ inside inputs p stands at out. (
    let m = c.args.self.now in
    let d : Design = read_design m.sound.design in
    let sound : IsSound d = record { plain = plain_is d m.sound.plain; rules = m.sound.rules } in
    c.read.ensures ∙ ap (slice_index m.tops) (c.place_at.ensures ∙ ap (λ z. slice_index z c.args.port) c.as_slice.ensures.value)
    ∙ output-shows d sound m.parts.items m.tops m.ports.items inside stands inputs c.args.port p at out)

pub returns-clause-small : goal.returns-clause-small
returns-clause-small c = λ inside p stands at out. (
    let m = c.args.self.now in
    let d : Design = read_design m.sound.design in
    let sound : IsSound d = record { plain = plain_is d m.sound.plain; rules = m.sound.rules } in
    subst (λ x. x < 2 ^ (p.high + 1)) (sym (c.read.ensures ∙ ap (slice_index m.tops) (c.place_at.ensures ∙ ap (λ z. slice_index z c.args.port) c.as_slice.ensures.value)))
    (output-small d sound m.parts.items m.tops m.ports.items inside stands c.args.port p at out))
