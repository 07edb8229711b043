use Rattle.std.proofs.Common.{◌≡◌, List, sym, ap, subst}
use Rattle.vl_tree.specs.Values.{Design}
use Rattle.vl_tree.specs.Read.{read_design}
use Rattle.vl_model.specs.Rules.{IsSound}
use Rattle.vl_model.specs.Settle.{inside_reset}
use Rattle.vl_run.specs.State.{Part}
use Rattle.vl_run.specs.Fresh.{IsBegun}
use Rattle.vl_run.specs.Running.{running}
use Rattle.vl_run.specs.Shown.{AllRefreshed}
use Rattle.vl_run.specs.Stands.{Running, Stands}
use Rattle.vl_run.proofs.Packing.{fresh-places}
use Rattle.vl_run.proofs.Whole.{reset-parts}
use Rattle.vl_run.proofs.Refreshed.{stands-again}
use Rattle.vl_run.proofs.machine.Machine.new.Goals as goal

pub returns-clause-reset : goal.returns-clause-reset
returns-clause-reset c =
    let d : Design = read_design c.args.sound.design in
    let b = c.in_ok-begun.begun in
    let same : read_design c.design.result.now ≡ d = ap read_design c.design.ensures.same in
    let sound : IsSound d = subst IsSound same c.design.ensures.sound in
    let begun : IsBegun d b.parts.items b.tops b.ports.items = subst (λ z. IsBegun z b.parts.items b.tops b.ports.items) same c.in_ok-begun.ensures in
    let r : Running = running c.refresh.new.self in
    let parts : AllRefreshed b.parts.items r.parts = subst (λ (xs : List Part). AllRefreshed xs r.parts) c.in_ok-instances_of.ensures c.refresh.ensures.parts in
    subst (λ (e : Design). Stands r (inside_reset e.leaves e.top.items (λ i n k. 0))) (sym c.refresh.ensures.design)
    (stands-again d sound begun.top begun.places (inside_reset d.leaves d.top.items (λ i n k. 0)) b.parts.items (reset-parts d sound b.parts.items b.tops b.ports.items begun) b.tops b.ports.items begun.room begun.named
    r c.refresh.ensures.design c.refresh.ensures.ports parts c.refresh.ensures.tops)

pub instances_of-requires : goal.instances_of-requires
instances_of-requires c =
    let d : Design = read_design c.design.result.now in
    fresh-places c.in_ok-begun.ensures.top d.leaves d.top.items c.in_ok-begun.begun.parts.items c.in_ok-begun.ensures.fresh
