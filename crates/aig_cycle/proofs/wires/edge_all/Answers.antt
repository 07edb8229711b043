use Rattle.std.proofs.Common.{◌<◌, length, get_or, refl, ◌∙◌, ap, arith}
use Rattle.aig_model.specs.Netlist.{settle_gates}
use Rattle.std.proofs.lemmas.List.{get_or_default}
use Rattle.vl_run.specs.State.{part_edged}
use Rattle.aig_cycle.specs.Wires.{numbers}
use Rattle.aig_cycle.specs.Steps.{part_as}
use Rattle.aig_cycle.proofs.Running.{words-wider, numbers-grown, wired-at, turned-none, turned-more, turned-all}
use Rattle.aig_cycle.proofs.Shorter.{moving-more}
use Rattle.aig_cycle.proofs.wires.edge_all.Goals as goal

pub loop-part-init : goal.loop-part-init
loop-part-init c = (turned-none (λ v. part_edged (numbers (settle_gates c.args.netlist.now v) c.args.tops.now)) c.args.netlist.now c.args.parts.now c.requires.parts, λ h. (refl, h))

pub edge-requires : goal.edge-requires
edge-requires c =
    let test = c.loop-part-test.true in
    let count = c.loop-part.invariant.0.count in
    let lt : c.loop-part.part-index < length c.loop-part.parts = omega (arith, test, count) in
    record {
      wired = wired-at c.loop-part.netlist c.loop-part.parts c.loop-part.part-index (get_or c.loop-part.parts c.loop-part.part-index c.part-item.result) lt (get_or_default c.loop-part.parts c.loop-part.part-index c.part-item.result (get_or c.loop-part.parts c.loop-part.part-index c.part-item.result) lt) c.loop-part.invariant.0.wired;
      tops = words-wider c.args.netlist.now c.loop-part.netlist c.loop-part.invariant.0.grows c.args.tops.now c.requires.tops;
    }

pub loop-part-preserved : goal.loop-part-preserved
loop-part-preserved c =
    let test = c.loop-part-test.true in
    let count = c.loop-part.invariant.0.count in
    let lt : c.loop-part.part-index < length c.loop-part.parts = omega (arith, test, count) in
    let n0 = c.args.netlist.now in
    let n = c.loop-part.netlist in (
      turned-more (λ v. part_edged (numbers (settle_gates n0 v) c.args.tops.now)) n0 n c.edge.new.netlist c.args.parts.now c.loop-part.parts _ c.loop-part.part-index (get_or c.loop-part.parts c.loop-part.part-index c.part-item.result) c.edge.new.self lt
          (get_or_default c.loop-part.parts c.loop-part.part-index c.part-item.result (get_or c.loop-part.parts c.loop-part.part-index c.part-item.result) lt) c.edge.ensures.grows c.in_ok-edge.ensures.wired
          (λ v e. c.in_ok-edge.ensures.value v e ∙ ap (λ N. part_edged N (part_as (settle_gates n v) (get_or c.loop-part.parts c.loop-part.part-index c.part-item.result))) (numbers-grown n0 n c.loop-part.invariant.0.grows v c.args.tops.now c.requires.tops)) refl c.loop-part.invariant.0,
      moving-more c.args.tops.now n0 n c.edge.new.netlist c.args.parts.now c.loop-part.parts c.loop-part.part-index (get_or c.loop-part.parts c.loop-part.part-index c.part-item.result) c.edge.new.self lt (get_or_default c.loop-part.parts c.loop-part.part-index c.part-item.result (get_or c.loop-part.parts c.loop-part.part-index c.part-item.result) lt) c.in_ok-edge.ensures.short c.loop-part.invariant.1,
    )

pub returns-clause-value : goal.returns-clause-value
returns-clause-value c v e =
    let test = c.loop-part-test.false in
    let count = c.loop-part.invariant.0.count in
    turned-all (λ v. part_edged (numbers (settle_gates c.args.netlist.now v) c.args.tops.now)) c.args.netlist.now c.loop-part.netlist c.args.parts.now c.loop-part.parts c.loop-part.part-index (omega (arith, test, count)) c.loop-part.invariant.0 v e

pub returns-clause-short : goal.returns-clause-short
returns-clause-short c h = (c.loop-part.invariant.1 h).0
