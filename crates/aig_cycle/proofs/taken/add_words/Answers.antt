use Rattle.std.proofs.Common.{◌+◌, length, map, ◌++◌, sym, ◌∙◌, ap, subst, arith}
use Rattle.std.proofs.lemmas.List.{append-nil}
use Rattle.aig_model.specs.Form.{literal}
use Rattle.aig_model.specs.Netlist.{AreOf}
use Rattle.aig_cycle.specs.Wires.{AreWords}
use Rattle.aig_cycle.proofs.Actions.{word-of}
use Rattle.aig_cycle.proofs.Added.{AreWordsAdded, word-added, known-more}
use Rattle.aig_cycle.proofs.taken.add_words.Goals as goal

pub loop-place-init : goal.loop-place-init
loop-place-init c = (λ n some p a. a, λ v e. sym (append-nil (map (literal v) c.args.all.now)))

pub loop-place-preserved : goal.loop-place-preserved
loop-place-preserved c =
    let put = c.in_ok-append.ensures ∙ ap (λ z. c.loop-place.all ++ z) c.as_slice.ensures in (
      known-more (λ n. AreWords n c.args.row.now) c.args.all.now c.loop-place.all c.in_ok-bits.bits c.append.new.all put
          (λ n some p. c.in_ok-bits.ensures.known (n.start + length n.gates) (omega (arith, some)) (subst (AreOf n) (sym c.literals.ensures) (word-of n c.args.row.now c.loop-place.place p).known))
          c.loop-place.invariant.0,
      word-added c.args.row.now c.args.high c.args.all.now c.loop-place.all c.in_ok-bits.bits c.append.new.all c.literals.result.now c.loop-place.place put
          c.literals.ensures c.in_ok-bits.ensures.value c.loop-place.invariant.1,
    )

pub returns-clause-known : goal.returns-clause-known
returns-clause-known c = c.loop-place.invariant.0

pub returns-clause-value : goal.returns-clause-value
returns-clause-value c =
    let past = c.loop-place-test.false in
    let within = c.loop-place.auto.place-end in
    subst (AreWordsAdded c.args.row.now c.args.high c.args.all.now c.loop-place.all) (omega (arith, past, within)) c.loop-place.invariant.1
