use Rattle.std.proofs.Common.{◌≡◌, ℕ, ◌+◌, ◌<◌, List, get_or, take, Vec, Global, sym, ◌∙◌, ap, subst, arith}
use Rattle.aig_gates.specs.Zips.{AreBelow}
use Rattle.aig_model.specs.FormOf.{AreBits, flipped_bits}
use Rattle.vl_tree.specs.declared.tree.Port.{Port}
use Rattle.aig_cycle.specs.Short.{IsWithin, lengths}
use Rattle.aig_design.proofs.Shown.{place-of}
use Rattle.aig_design.proofs.Written.{all-at, within-write}
use Rattle.aig_design.specs.Start.{IsBoundedPort, input_ports, AreInputsPut}
use Rattle.aig_design.specs.declared.start.Variables.{Variables}
use Rattle.aig_design.proofs.Inputs.{inputs-more, inputs-skip}
use Rattle.aig_design.proofs.start.put_inputs.Goals.{then-not-port+in_ok-first+in_ok-bits, else-not-port}
use Rattle.aig_design.proofs.start.put_inputs.Goals as goal

pub loop-i-preserved : goal.loop-i-preserved
loop-i-preserved c =
    let ports = c.args.ports.now in
    let places = c.args.places.now in
    let i = c.loop-i.i in
    let d = c.index-ports-i.result in
    let first = c.args.variables.now.next in
    let mid = c.loop-i.variables.next in
    let front = c.loop-i.invariant.0 in
    elim c.if-not-port.branch [
      | then-not-port+in_ok-first+in_ok-bits w ↦
          let next : c.if-not-port.variables.next ≡ mid + (d.high + 1) = ap (λ (q : Variables). q.next) w.variables-is ∙ w.in_ok-first.ensures.next in
          let at = w.in_ok-first.ensures.first in (
            omega (arith, front, next),
            inputs-more ports places i w.place_at.result d first mid c.if-not-port.variables.next c.args.tops.now.items c.loop-i.tops.items c.if-not-port.tops.items w.in_ok-bits.bits c.loop-i-test.true c.index-ports-i.is w.if-not-port.true
                w.place_at.ensures next (subst (λ k. AreBelow (k + d.high + 1) w.in_ok-bits.bits) at w.in_ok-bits.ensures.known) w.in_ok-bits.ensures.count
                (λ v x small bits. w.in_ok-bits.ensures.value v x small (subst (λ k. AreBits (flipped_bits x 0 0 (d.high + 1)) (λ j. v (k + j)) 0) (sym at) bits)) (ap (λ (q : Vec (List ℕ) Global). q.items) w.tops-is ∙ w.put.ensures) c.loop-i.invariant.1,
            λ t e b all in'. (
                let here : w.place_at.result ≡ t (get_or ports i d).name = w.place_at.ensures ∙ place-of t places ports i d c.loop-i-test.true e in
                let port = ap (λ (p : Port). p.high) c.index-ports-i.is in
                subst (λ ws. IsWithin b (lengths ws)) (sym (ap (λ (q : Vec (List ℕ) Global). q.items) w.tops-is ∙ w.put.ensures))
                (within-write b c.loop-i.tops.items w.place_at.result w.in_ok-bits.bits (λ n k at'. (let l = w.in_ok-bits.ensures.count in let h = all-at (IsBoundedPort t b) ports i d c.loop-i-test.true all n k (at' ∙ here) in omega (arith, l, h, port)))
                (c.loop-i.invariant.2 t e b all in'))),
          )
      | else-not-port w ↦
          let same : c.if-not-port.variables.next ≡ mid = ap (λ (q : Variables). q.next) w.variables-is in
          let kept = ap (λ (q : Vec (List ℕ) Global). q.items) w.tops-is in (
            subst (λ k. 0 < k) (sym same) front,
            λ t e. subst (λ z. AreInputsPut t first c.if-not-port.variables.next (input_ports (take (i + 1) ports)) c.args.tops.now.items z) (sym kept)
                (subst (λ z. AreInputsPut t first z (input_ports (take (i + 1) ports)) c.args.tops.now.items c.loop-i.tops.items) (sym same)
                (inputs-skip ports places i d first mid c.args.tops.now.items c.loop-i.tops.items c.loop-i-test.true c.index-ports-i.is w.if-not-port.false c.loop-i.invariant.1 t e)),
            λ t e b all in'. subst (λ ws. IsWithin b (lengths ws)) (sym kept) (c.loop-i.invariant.2 t e b all in'),
          )
    ]
