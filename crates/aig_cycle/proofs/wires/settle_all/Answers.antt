use Rattle.std.proofs.Common.{◌<◌, length, get_or, refl, arith}
use Rattle.std.proofs.lemmas.List.{get_or_default}
use Rattle.vl_run.specs.State.{part_settled}
use Rattle.aig_cycle.proofs.Running.{wired-at, turned-none, turned-more, turned-all}
use Rattle.aig_cycle.proofs.Shorter.{half-none, half-all, settling-more}
use Rattle.aig_cycle.proofs.wires.settle_all.Goals as goal

pub loop-part-init : goal.loop-part-init
loop-part-init c = (turned-none (λ v. part_settled) c.args.netlist.now c.args.parts.now c.requires, λ xs h. (refl, half-none xs c.args.parts.now h))

pub settle-requires : goal.settle-requires
settle-requires c =
    let test = c.loop-part-test.true in
    let count = c.loop-part.invariant.0.count in
    let lt : c.loop-part.part-index < length c.loop-part.parts = omega (arith, test, count) in
    wired-at c.loop-part.netlist c.loop-part.parts c.loop-part.part-index (get_or c.loop-part.parts c.loop-part.part-index c.part-item.result) lt (get_or_default c.loop-part.parts c.loop-part.part-index c.part-item.result (get_or c.loop-part.parts c.loop-part.part-index c.part-item.result) lt) c.loop-part.invariant.0.wired

pub loop-part-preserved : goal.loop-part-preserved
loop-part-preserved c =
    let test = c.loop-part-test.true in
    let count = c.loop-part.invariant.0.count in
    let lt : c.loop-part.part-index < length c.loop-part.parts = omega (arith, test, count) in (
      turned-more (λ v. part_settled) c.args.netlist.now c.loop-part.netlist c.settle.new.netlist c.args.parts.now c.loop-part.parts _ c.loop-part.part-index (get_or c.loop-part.parts c.loop-part.part-index c.part-item.result) c.settle.new.self lt (get_or_default c.loop-part.parts c.loop-part.part-index c.part-item.result (get_or c.loop-part.parts c.loop-part.part-index c.part-item.result) lt)
          c.settle.ensures.grows c.in_ok-settle.ensures.wired c.in_ok-settle.ensures.value refl c.loop-part.invariant.0,
      settling-more c.args.netlist.now c.loop-part.netlist c.settle.new.netlist c.args.parts.now c.loop-part.parts c.loop-part.part-index (get_or c.loop-part.parts c.loop-part.part-index c.part-item.result) c.settle.new.self lt (get_or_default c.loop-part.parts c.loop-part.part-index c.part-item.result (get_or c.loop-part.parts c.loop-part.part-index c.part-item.result) lt) c.in_ok-settle.ensures.short c.loop-part.invariant.1,
    )

pub returns-clause-value : goal.returns-clause-value
returns-clause-value c v e =
    let test = c.loop-part-test.false in
    let count = c.loop-part.invariant.0.count in
    turned-all (λ v. part_settled) c.args.netlist.now c.loop-part.netlist c.args.parts.now c.loop-part.parts c.loop-part.part-index (omega (arith, test, count)) c.loop-part.invariant.0 v e

pub returns-clause-short : goal.returns-clause-short
returns-clause-short c xs h =
    let test = c.loop-part-test.false in
    let count = c.loop-part.invariant.0.count in
    let done = c.loop-part.invariant.1 xs h in
    (done.0, half-all xs c.loop-part.parts c.loop-part.part-index (omega (arith, test, count)) done.1)
