use Rattle.std.proofs.Common.{◌≡◌, length, get_or, refl, ap, arith}
use Rattle.std.proofs.lemmas.List.{get_or_default}
use Rattle.vl_run.specs.declared.program.Store.{Store}
use Rattle.aig_cycle.proofs.Running.{words-wider, storing-none, storing-more, storing-all}
use Rattle.aig_cycle.proofs.steps.store.Goals as goal

abbrev none : Store
none = record { memory = 0; enable = 0; index = 0; value = 0 }

pub store_one-requires-clause-nets : goal.store_one-requires-clause-nets
store_one-requires-clause-nets c = words-wider c.args.netlist.now c.loop-store.netlist c.loop-store.invariant.0.grows c.args.nets.now c.requires.nets

pub loop-store-init : goal.loop-store-init
loop-store-init c = (storing-none c.args.netlist.now c.args.stores.now c.args.nets.now c.args.memories.now.items c.requires.memories, λ empty. refl)

pub loop-store-preserved : goal.loop-store-preserved
loop-store-preserved c =
    let xs = c.args.stores.now in
    let i = c.loop-store.store-index in
    let x : Store = get_or xs i none in
    let lt = c.loop-store-test.true in (
      storing-more c.args.netlist.now c.loop-store.netlist c.store_one.new.netlist xs c.args.nets.now c.args.memories.now.items c.loop-store.memories.items c.store_one.new.memories.items i x c.loop-store-test.true
          (get_or_default xs i none x c.loop-store-test.true) c.requires.nets c.store_one.ensures.grows c.in_ok-store_one.ensures.words c.in_ok-store_one.ensures.value c.loop-store.invariant.0,
      λ empty. absurd (let e : length xs ≡ 0 = ap length empty in omega (arith, lt, e)),
    )

pub returns-clause-value : goal.returns-clause-value
returns-clause-value c v e = storing-all c.args.netlist.now c.loop-store.netlist c.args.stores.now c.args.nets.now c.args.memories.now.items c.loop-store.memories.items c.loop-store.store-index c.loop-store-test.false c.loop-store.invariant.0 v e

pub returns-clause-none : goal.returns-clause-none
returns-clause-none c empty = c.loop-store.invariant.1 empty
