use Rattle.std.proofs.Common.{◌≡◌, true, length, sym, ◌∙◌, ap, subst, arith}
use Rattle.std.specs.List.{list_all}
use Rattle.vl_tree.specs.Read.{read_design}
use Rattle.vl_tree.specs.Values.{Leaf}
use Rattle.aig_model.specs.FormOf.{IsFormOf, needs_no_gate}
use Rattle.aig_model.specs.Netlist.{Net}
use Rattle.aig_cycle.specs.Steps.{AreWired}
use Rattle.vl_model.proofs.One.{good}
use Rattle.aig_design.specs.Opened.{HasInputs, AreShown, AreNext}
use Rattle.aig_design.proofs.Opening.{has-inputs, begins-known, some-next}
use Rattle.aig_design.proofs.Formed.{form-is}
use Rattle.aig_design.proofs.Free.{no-gates}
use Rattle.aig_design.proofs.form.finish.Goals as goal

pub new-netlist-requires-clause-front : goal.new-netlist-requires-clause-front
new-netlist-requires-clause-front c =
    let o = c.args.opened in
    some-next (read_design c.args.design.now) c.requires.sound o.inputs o.next o.wired.items o.resets.items o.ports.items o.tops.items c.requires.opened

pub show-requires-clause-wired : goal.show-requires-clause-wired
show-requires-clause-wired c =
    let o = c.args.opened in
    let n0 = c.new-netlist.result in
    subst (AreWired n0) (sym c.as_mut_slice-parts.ensures.value)
    (begins-known (read_design c.args.design.now) c.requires.sound o.inputs o.next o.wired.items o.resets.items o.ports.items o.tops.items c.requires.opened n0 (ap (λ (n : Net). n.start) c.new-netlist.ensures)).0

pub show-requires-clause-tops : goal.show-requires-clause-tops
show-requires-clause-tops c =
    let o = c.args.opened in
    let n0 = c.new-netlist.result in
    (begins-known (read_design c.args.design.now) c.requires.sound o.inputs o.next o.wired.items o.resets.items o.ports.items o.tops.items c.requires.opened n0 (ap (λ (n : Net). n.start) c.new-netlist.ensures)).1

pub take-requires-clause-wired : goal.take-requires-clause-wired
take-requires-clause-wired c = c.in_ok-outputs.ensures.shown.wired

pub take-requires-clause-inputs : goal.take-requires-clause-inputs
take-requires-clause-inputs c =
    let o = c.args.opened in
    let n1 = c.show.new.netlist in
    let d = read_design c.args.design.now in
    subst (λ ps. HasInputs n1 ps c.as_slice-2.result.now) (sym c.as_slice-ports.ensures)
    (subst (HasInputs n1 d.top.ports) (sym c.as_slice-2.ensures.value)
    (has-inputs d c.requires.sound o.inputs o.next o.wired.items o.resets.items o.ports.items o.tops.items c.requires.opened n1 (c.show.ensures.grows.start ∙ ap (λ (n : Net). n.start) c.new-netlist.ensures)))

pub returns : goal.returns
returns c =
    let o = c.args.opened in
    let d = read_design c.args.design.now in
    let n0 = c.new-netlist.result in
    let n1 = c.show.new.netlist in
    let n2 = c.take.new.netlist in
    let few = c.if-len-ge-MOST.false in
    let long = c.len-2.ensures in
    let same = c.in_ok-gates.ensures ∙ c.gates.ensures in
    let start = ap (λ (n : Net). n.start) c.new-netlist.ensures in
    let empty = ap (λ (n : Net). n.gates) c.new-netlist.ensures in
    let shows : AreShown d.top.ports o.ports.items n0 n1 o.wired.items c.show.new.wired o.tops.items c.show.new.tops.items c.in_ok-outputs.outputs =
    subst (λ ps. AreShown ps o.ports.items n0 n1 o.wired.items c.show.new.wired o.tops.items c.show.new.tops.items c.in_ok-outputs.outputs) c.as_slice-ports.ensures
    (subst (λ qs. AreShown c.as_slice-ports.result.now qs n0 n1 o.wired.items c.show.new.wired o.tops.items c.show.new.tops.items c.in_ok-outputs.outputs) c.as_slice.ensures.value
    (subst (λ ws. AreShown c.as_slice-ports.result.now c.as_slice.result.now n0 n1 ws c.show.new.wired o.tops.items c.show.new.tops.items c.in_ok-outputs.outputs) c.as_mut_slice-parts.ensures.value c.in_ok-outputs.ensures.shown)) in
    let takes : AreNext d.top.ports o.ports.items o.resets.items n1 n2 c.show.new.wired c.take.new.wired c.show.new.tops.items c.take.new.tops.items c.in_ok-latches.latches =
    subst (λ ps. AreNext ps o.ports.items o.resets.items n1 n2 c.show.new.wired c.take.new.wired c.show.new.tops.items c.take.new.tops.items c.in_ok-latches.latches) c.as_slice-ports.ensures
    (subst (λ qs. AreNext c.as_slice-ports.result.now qs o.resets.items n1 n2 c.show.new.wired c.take.new.wired c.show.new.tops.items c.take.new.tops.items c.in_ok-latches.latches) c.as_slice-2.ensures.value
    (subst (λ rs. AreNext c.as_slice-ports.result.now c.as_slice-2.result.now rs n1 n2 c.show.new.wired c.take.new.wired c.show.new.tops.items c.take.new.tops.items c.in_ok-latches.latches) c.as_slice-3.ensures.value c.in_ok-latches.ensures.taken)) in
    let free : list_all (λ (l : Leaf). list_all needs_no_gate l.items) d.leaves ≡ true → length n2.gates ≡ 0 =
    no-gates d c.requires.sound o.inputs o.next o.wired.items o.resets.items o.ports.items o.tops.items c.requires.opened n0 n1 n2 empty c.show.new.wired c.take.new.wired c.show.new.tops.items c.take.new.tops.items
    c.in_ok-outputs.outputs c.in_ok-latches.latches shows takes (good d c.requires.sound) in
    let whole =
    form-is d c.requires.sound o.inputs o.next o.wired.items o.resets.items o.ports.items o.tops.items c.requires.opened n0 n1 n2 start empty c.show.ensures.grows c.take.ensures.grows c.show.new.wired c.take.new.wired c.show.new.tops.items c.take.new.tops.items
    c.in_ok-outputs.outputs c.in_ok-latches.latches shows takes c.known.ensures (let l = c.len-2.ensures in let e = ap length same in omega (arith, few, l, e)) (let l = c.len.ensures in let r = c.len.type_inv in omega (arith, l, r)) free in
    subst (λ gs. IsFormOf d (record { inputs = o.inputs; latches = c.in_ok-latches.latches; outputs = c.in_ok-outputs.outputs; gates = gs })) (sym same) whole
