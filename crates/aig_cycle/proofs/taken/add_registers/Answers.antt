use Rattle.std.proofs.Common.{◌+◌, length, ◌++◌, get_or, sym, ◌∙◌, ap, subst, arith}
use Rattle.vl_run.specs.declared.program.Register.{Register}
use Rattle.aig_model.specs.Netlist.{AreOf}
use Rattle.aig_cycle.specs.Wires.{numbers, AreWords}
use Rattle.aig_cycle.specs.Latches.{register_row}
use Rattle.aig_cycle.proofs.Actions.{word-of}
use Rattle.aig_cycle.proofs.Added.{added-none, added-more, added-all, register-bits, known-more}
use Rattle.aig_cycle.proofs.taken.add_registers.Goals as goal

abbrev none : Register
none = record { place = 0; high = 0 }

pub loop-register-init : goal.loop-register-init
loop-register-init c = (λ n some p a. a, added-none (λ v. register_row c.args.resets.now (numbers v c.args.nets.now)) c.args.all.now c.args.registers.now)

pub loop-register-preserved : goal.loop-register-preserved
loop-register-preserved c =
    let xs = c.args.registers.now in
    let i = c.loop-register.register-index in
    let put = c.in_ok-append.ensures ∙ ap (λ z. c.loop-register.all ++ z) c.as_slice.ensures in (
      known-more (λ n. AreWords n c.args.nets.now) c.args.all.now c.loop-register.all c.in_ok-bits.bits c.append.new.all put
          (λ n some p. c.in_ok-bits.ensures.known (n.start + length n.gates) (omega (arith, some))
          (subst (AreOf n) (sym c.literals.ensures) (word-of n c.args.nets.now (get_or xs i none).place p).known))
          c.loop-register.invariant.0,
      added-more (λ v. register_row c.args.resets.now (numbers v c.args.nets.now)) c.args.all.now c.loop-register.all c.in_ok-bits.bits c.append.new.all xs i none c.loop-register-test.true put
          (λ v e. c.in_ok-bits.ensures.value v e ∙ register-bits v c.args.nets.now c.args.resets.now (get_or xs i none) c.literals.result.now c.read-reset.result c.literals.ensures c.read-reset.ensures) c.loop-register.invariant.1,
    )

pub returns-clause-known : goal.returns-clause-known
returns-clause-known c = c.loop-register.invariant.0

pub returns-clause-value : goal.returns-clause-value
returns-clause-value c =
    added-all (λ v. register_row c.args.resets.now (numbers v c.args.nets.now)) c.args.all.now c.loop-register.all c.args.registers.now c.loop-register.register-index c.loop-register-test.false c.loop-register.invariant.1
