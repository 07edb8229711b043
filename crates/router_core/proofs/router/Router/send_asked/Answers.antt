use Rattle.std.proofs.Common.{◌≡◌, ◌∙◌, ◌+◌, List, Option, None, sym, ap, subst, arith}
use Rattle.std.specs.Prelude.{slice_index_or}
use Rattle.noc_model.specs.declared.LinkFlit.{LinkFlit}
use Rattle.noc_model.specs.Plan.{ports}
use Rattle.vc_partition.specs.Lanes.{lane}
use Rattle.slot_switch.specs.Switch.{granted_in}
use Rattle.router_core.specs.Parts.{Parts}
use Rattle.router_core.specs.Crossing.{SendsBelow, sent_parts, laid_on}
use Rattle.router_core.specs.Asks.{AsksWithin}
use Rattle.router_core.proofs.Within.{outside-none}
use Rattle.router_core.proofs.Sending.{sends-none, sends-more, may-send}
use Rattle.router_core.proofs.router.Router.send_asked.Goals as goal

pub loop-out-init : goal.loop-out-init
loop-out-init c = sends-none c.args.plan.now c.args.d c.args.self.now c.args.links.now c.requires.made

pub send-flit-requires-clause-pass : goal.send-flit-requires-clause-pass
send-flit-requires-clause-pass c =
    let n = c.ports-out-end.ensures.value in
    may-send c.loop-out.out c.args.plan.now c.args.d c.args.self.now c.loop-out.self c.args.links.now c.loop-out.links c.loop-out.invariant c.requires.domain
    (omega (arith, n, c.loop-out-test.true)) c.requires.links c.requires.made c.requires.can

pub send-flit-requires-clause-asked : goal.send-flit-requires-clause-asked
send-flit-requires-clause-asked c = λ unmarked.
    let d = c.args.d in
    let o = c.loop-out.out in
    let x = c.loop-out.self.switch in
    let p = c.args.plan.now in
    let outputs = c.args.outputs.now in
    let n = c.ports-out-end.ensures.value in
    let few = c.ports-out-end.ensures.few in
    let asks : AsksWithin (ports p) x d outputs = λ port g inside e.
    c.requires.asks port g inside (ap (λ asks. slice_index_or (lane asks d) port None) (sym c.loop-out.invariant.asks) ∙ e) in
    outside-none (ports p) x d o outputs c.loop-out.invariant.made.switch.port_count asks (omega (arith, c.loop-out-test.true, few, c.requires.outputs)) unmarked

pub loop-out-preserved : goal.loop-out-preserved
loop-out-preserved c =
    let p = c.args.plan.now in
    let d = c.args.d in
    let o = c.loop-out.out in
    let r = c.args.self.now in
    let q = c.loop-out.self in
    let xs = c.args.links.now in
    let ys = c.loop-out.links in
    let n = c.ports-out-end.ensures.value in
    let P : Parts → Type 0 = λ z. SendsBelow (o + 1) p d r z xs c.lay.new.links in
    let Q : List (Option LinkFlit) → Type 0 = λ zs. SendsBelow (o + 1) p d r (sent_parts q p d o (granted_in q.switch d o)) xs zs in
    subst P (sym c.send-flit.ensures.value)
    (subst Q (sym (c.lay.ensures ∙ ap (laid_on ys o) c.send-flit.ensures.flit))
    (sends-more o p d r q xs ys c.loop-out.invariant c.requires.domain (omega (arith, n, c.loop-out-test.true)) c.requires.links c.requires.made c.requires.can))

pub returns : goal.returns
returns c =
    let p = c.args.plan.now in
    let end : c.loop-out.out ≡ ports p = omega (arith, c.ports-out-end.ensures.value, c.loop-out-test.false, c.loop-out.auto.out-end) in
    subst (λ k. SendsBelow k p c.args.d c.args.self.now c.loop-out.self c.args.links.now c.loop-out.links) end c.loop-out.invariant
