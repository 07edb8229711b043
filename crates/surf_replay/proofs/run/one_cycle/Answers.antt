use Rattle.std.proofs.Common.{◌≡◌, ℕ, List, length, refl, sym, ◌∙◌, ap, subst}
use Rattle.std.specs.Prelude.{Option, Some, None, slice_get}
use Rattle.std.proofs.Math.Path.{fun_ext}
use Rattle.vl_tree.specs.Values.{Design}
use Rattle.vl_model.specs.Whole.{Nets}
use Rattle.vl_model.specs.Settle.{settled, with_inputs, inside_stepped}
use Rattle.noc_model.specs.declared.Host.{Host}
use Rattle.noc_model.specs.Plan.{Plan}
use Rattle.noc_model.specs.Driver.{Driver}
use Rattle.gen_kit.specs.Ports.{top_ports}
use Rattle.gen_kit.specs.Replayed.{Going, nets_in, going_next, driven_inputs, moved}
use Rattle.vl_run.specs.Top.{inputs_of}
use Rattle.vl_run.specs.Running.{running}
use Rattle.vl_run.specs.Stands.{Running, Stands, AreInputs}
use Rattle.surf_replay.specs.Feed.{all_numbers}
use Rattle.surf_replay.specs.Cycle.{IsIn, seen_text, notified}
use Rattle.surf_replay.specs.Going.{IsGoing}
use Rattle.surf_replay.proofs.Cycles.{fit-here, same-nets, moves-so, events-of, none-past}
use Rattle.surf_replay.proofs.run.one_cycle.Goals as goal

pub returns-clause-goes : goal.returns-clause-goes
returns-clause-goes g c = λ from going. (
    let p : Plan = c.args.plan.now in
    let m : Running = running c.args.machine.now in
    let d : Design = m.design in
    let v : Driver = g.D.Driving.driver c.args.drive.now in
    let t : ℕ = c.args.cycle in
    let xs : List ℕ = all_numbers v t from.states 0 p.hosts in
    let numbers : c.fill.new.inputs.items ≡ xs =
    c.in_ok-fill.ensures.numbers ∙ ap (λ s. all_numbers v t s 0 p.hosts) going.attached in
    let fit : AreInputs (top_ports p) xs = subst (AreInputs (top_ports p)) numbers c.in_ok-fill.ensures.fit in
    let nets : Nets = nets_in p d v t from in
    let in-cycle : IsIn m p nets =
    record { inside = from.inside; inputs = driven_inputs v t from.states 0 p.hosts; stands = going.stands; ports = going.ports; settles = refl } in
    let given : c.as_slice.result.now ≡ xs = c.as_slice.ensures.value ∙ numbers in
    let fits : AreInputs d.top.ports c.as_slice.result.now =
    subst (AreInputs d.top.ports) (sym given) (fit-here p m c.known-2.ensures v t from going.stands going.ports fit) in
    let stepped : Stands (running c.edge.new.self) (inside_stepped d.leaves d.top.items (settled d (with_inputs d (inputs_of d.top.ports c.as_slice.result.now) from.inside)).inside) =
    c.edge.ensures.steps from.inside fits going.stands in
    let after : settled d (with_inputs d (inputs_of d.top.ports c.as_slice.result.now) from.inside) ≡ nets =
    ap (λ z. settled d (with_inputs d (inputs_of d.top.ports z) from.inside)) given
    ∙ same-nets p m c.known-2.ensures v t from going.stands going.ports fit in
    let moves : (j : ℕ) (o : Option Host) → slice_get p.hosts j ≡ o → g.D.Driving.state c.step_all.new.drive j ≡ moved v t nets j (from.states j) o =
    λ j o. elim o as (λ q. slice_get p.hosts j ≡ q → g.D.Driving.state c.step_all.new.drive j ≡ moved v t nets j (from.states j) q) [
      | Some h ↦ λ e. c.step_all.ensures.state nets j h in-cycle e ∙ ap (λ (z : List ℕ). notified v t j z nets h) (ap (λ f. f j) going.attached)
          ∙ moves-so p m c.known-2.ensures v t from going.stands going.ports fit j h e
      | None ↦ λ e. c.step_all.ensures.others j (none-past p.hosts j e) ∙ ap (λ f. f j) going.attached
    ] in
    record {
      stands = subst (λ (n : Nets). Stands (running c.edge.new.self) (inside_stepped d.leaves d.top.items n.inside)) after stepped;
      ports = ap (λ (z : Design). z.top.ports) c.edge.ensures.design ∙ going.ports;
      attached = fun_ext (λ j. moves j (slice_get p.hosts j) refl);
    })

pub returns-clause-events : goal.returns-clause-events
returns-clause-events g c = λ from going k. (
    let p : Plan = c.args.plan.now in
    let m : Running = running c.args.machine.now in
    let v : Driver = g.D.Driving.driver c.args.drive.now in
    let t : ℕ = c.args.cycle in
    let xs : List ℕ = all_numbers v t from.states 0 p.hosts in
    let numbers : c.fill.new.inputs.items ≡ xs =
    c.in_ok-fill.ensures.numbers ∙ ap (λ s. all_numbers v t s 0 p.hosts) going.attached in
    let fit : AreInputs (top_ports p) xs = subst (AreInputs (top_ports p)) numbers c.in_ok-fill.ensures.fit in
    let nets : Nets = nets_in p m.design v t from in
    let in-cycle : IsIn m p nets =
    record { inside = from.inside; inputs = driven_inputs v t from.states 0 p.hosts; stands = going.stands; ports = going.ports; settles = refl } in
    events-of p m c.known-2.ensures v t from going.stands going.ports fit k c.step_all.new.seen c.known.ensures
    (λ j h at. c.step_all.ensures.seen nets j h in-cycle at ∙ ap (λ (z : List ℕ). seen_text v t j z nets h) (ap (λ f. f j) going.attached)))
