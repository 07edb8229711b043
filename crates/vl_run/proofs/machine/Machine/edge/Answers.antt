use Rattle.std.proofs.Common.{◌≡◌, ◌≤◌, ℕ, List, length, map, sym, ◌∙◌, ap, subst}
use Rattle.std.proofs.lemmas.List.{with_items_is, length-map}
use Rattle.vl_tree.specs.Values.{Design}
use Rattle.vl_tree.specs.Read.{read_design}
use Rattle.vl_tree.proofs.Plainly.{plain_is}
use Rattle.vl_model.specs.Lines.{top_lines}
use Rattle.vl_model.specs.Rules.{IsSound}
use Rattle.vl_model.specs.Settle.{settled, with_inputs, inside_stepped}
use Rattle.vl_run.specs.State.{Part, part_edged, shown_by}
use Rattle.vl_run.specs.Shown.{AllRefreshed}
use Rattle.vl_run.specs.Running.{running}
use Rattle.vl_run.specs.Top.{inputs_of, with_ports}
use Rattle.vl_run.specs.Stands.{Running}
use Rattle.vl_run.proofs.Inputs.{length-with}
use Rattle.vl_run.proofs.Whole.{edge-parts}
use Rattle.vl_run.proofs.Refreshed.{stands-again}
use Rattle.vl_run.proofs.machine.Machine.edge.Goals as goal

pub returns-clause-steps : goal.returns-clause-steps
returns-clause-steps c = λ inside fit stands. (
    let m = c.args.self.now in
    let d : Design = read_design m.sound.design in
    let sound : IsSound d = record { plain = plain_is d m.sound.plain; rules = m.sound.rules } in
    let xs : List ℕ = c.args.inputs.now in
    let T : List ℕ = with_ports d.top.ports m.ports.items xs m.tops in
    let put : c.put_inputs.new.tops ≡ T =
    c.put_inputs.ensures ∙ ap (λ ps. with_ports ps c.as_slice.result.now xs m.tops) (c.as_slice-ports.ensures ∙ ap (λ z. z.top.ports) c.design.ensures.same)
    ∙ ap (λ q. with_ports d.top.ports q xs m.tops) c.as_slice.ensures.value in
    let edged : c.edge_all.new.parts ≡ map (part_edged T) m.parts.items =
    c.edge_all.ensures ∙ ap (λ z. map (part_edged z) c.as_mut_slice.result.now) put ∙ ap (map (part_edged T)) c.as_mut_slice.ensures.value in
    let long : length c.edge_all.new.parts ≡ m.parts.len = ap length edged ∙ length-map m.parts.items (part_edged T) ∙ sym m.parts.ok.0 in
    let back = with_items_is m.parts c.edge_all.new.parts long ∙ edged in
    let r : Running = running c.refresh.new.self in
    let parts : AllRefreshed (map (part_edged T) m.parts.items) r.parts = subst (λ (ys : List Part). AllRefreshed ys r.parts) back c.refresh.ensures.parts in
    let roomy : length (top_lines d.top) ≤ length T = subst (λ z. length (top_lines d.top) ≤ z) (sym (length-with (top_lines d.top) stands.top stands.places d.top.ports m.ports.items xs m.tops)) stands.room in
    stands-again d sound stands.top stands.places (inside_stepped d.leaves d.top.items (settled d (with_inputs d (inputs_of d.top.ports xs) inside)).inside)
    (map (part_edged T) m.parts.items) (edge-parts d sound inside xs fit m.parts.items m.tops m.ports.items stands) T m.ports.items roomy stands.ports
    r c.refresh.ensures.design c.refresh.ensures.ports parts (c.refresh.ensures.tops ∙ ap (shown_by r.parts) put))
