use Rattle.std.proofs.Common.{◌≡◌, ℕ, ◌<◌, List, length, get_or, sym, ◌∙◌, ap, subst}
use Rattle.std.proofs.lemmas.List.{get_or_default}
use Rattle.vl_run.specs.declared.step.Step.{Step}
use Rattle.vl_run.specs.declared.step.Action.TheVariants.{Number}
use Rattle.std.specs.Prelude.{slice_index}
use Rattle.aig_model.specs.Netlist.{settle_gates}
use Rattle.vl_run.specs.Step.{action_value, word_at}
use Rattle.aig_cycle.specs.Wires.{numbers, rows}
use Rattle.aig_cycle.specs.Short.{lengths, IsShort}
use Rattle.aig_cycle.proofs.Shorter.{short-none, short-more, short-all}
use Rattle.aig_cycle.proofs.Running.{rows-wider, plain-at, running-none, running-more, running-all}
use Rattle.aig_cycle.proofs.steps.run.Goals as goal

-- the step that is taken
abbrev none : Step
none = record { to = 0; action = Number 0 }

at : (ss : List Step) (i : ℕ) → i < length ss → get_or ss i none ≡ get_or ss i (get_or ss i none)
at ss i lt = get_or_default ss i none (get_or ss i none) lt

pub value-requires-clause-plain : goal.value-requires-clause-plain
value-requires-clause-plain c =
    let ss = c.args.steps.now in
    let i = c.loop-step.step-index in
    plain-at ss i (get_or ss i none) c.requires.plain c.loop-step-test.true (at ss i c.loop-step-test.true)

pub value-requires-clause-memories : goal.value-requires-clause-memories
value-requires-clause-memories c = rows-wider c.args.netlist.now c.loop-step.netlist c.loop-step.invariant.0.grows c.args.memories.now c.requires.memories

pub loop-step-init : goal.loop-step-init
loop-step-init c = (running-none c.args.netlist.now c.args.steps.now c.args.nets.now.items c.args.memories.now c.requires.nets, short-none c.args.netlist.now c.args.steps.now c.args.nets.now.items)

pub loop-step-preserved : goal.loop-step-preserved
loop-step-preserved c =
    let ss = c.args.steps.now in
    let i = c.loop-step.step-index in
    let s : Step = get_or ss i none in
    let n = c.loop-step.netlist in
    let m = c.value.new.netlist in (
      running-more c.args.netlist.now n m ss c.args.nets.now.items c.loop-step.nets.items c.put.new.nets.items c.args.memories.now i s c.in_ok-bits.bits c.loop-step-test.true (at ss i c.loop-step-test.true) c.requires.memories
          c.value.ensures.grows c.in_ok-bits.ensures.word
          (λ v e. c.in_ok-bits.ensures.value v e ∙ ap (λ ws. action_value (word_at (rows (settle_gates n v) c.args.memories.now)) (slice_index (numbers (settle_gates n v) ws)) s.action) c.as_slice.ensures.value)
          c.put.ensures c.loop-step.invariant.0,
      short-more c.args.netlist.now n m ss c.args.nets.now.items c.loop-step.nets.items c.put.new.nets.items i s c.in_ok-bits.bits c.loop-step-test.true (at ss i c.loop-step-test.true)
          (λ k h. c.in_ok-bits.ensures.short k (subst (λ ws. IsShort (lengths ws) s.action k) (sym c.as_slice.ensures.value) h)) c.put.ensures c.loop-step.invariant.1,
    )

pub returns-clause-value : goal.returns-clause-value
returns-clause-value c v e = running-all c.args.netlist.now c.loop-step.netlist c.args.steps.now c.args.nets.now.items c.loop-step.nets.items c.args.memories.now c.loop-step.step-index c.loop-step-test.false c.loop-step.invariant.0 v e

pub returns-clause-short : goal.returns-clause-short
returns-clause-short c x rest h = short-all c.args.netlist.now c.loop-step.netlist c.args.steps.now c.args.nets.now.items c.loop-step.nets.items c.loop-step.step-index c.loop-step-test.false c.loop-step.invariant.1 x rest h
