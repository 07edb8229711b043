use Rattle.std.proofs.Common.{◌+◌, [], get_or, refl, sym, subst, arith}
use Rattle.vl_run.specs.declared.program.Register.{Register}
use Rattle.aig_model.specs.Form.{word}
use Rattle.aig_model.specs.FormOf.{AreBits, flipped_bits}
use Rattle.aig_gates.specs.Zips.{AreBelow}
use Rattle.aig_cycle.specs.Wires.{IsWord}
use Rattle.aig_cycle.specs.Short.{IsWithin, lengths}
use Rattle.aig_design.proofs.Written.{all-at, within-write}
use Rattle.aig_design.specs.Start.{IsBounded, register_place, is_narrow_register, fits_register, register_bits}
use Rattle.aig_design.proofs.Placed.{put-more}
use Rattle.aig_design.proofs.Rows.{register-made}
use Rattle.aig_design.proofs.start.put_registers.Goals as goal

abbrev none : Register
none = record { place = 0; high = 0 }

pub loop-register-preserved : goal.loop-register-preserved
loop-register-preserved c =
    let front = c.loop-register.invariant.0 in
    let next = c.in_ok-first.ensures.next in
    let at = c.in_ok-first.ensures.first in
    let i = c.loop-register.register-index in
    let r = get_or c.args.registers.now i none in
    let mid = c.loop-register.variables.next in
    let resets = c.args.resets.now in (
      omega (arith, front, next),
      put-more register_place is_narrow_register fits_register (register_bits resets) IsWord word [] c.args.variables.now.next mid c.take.new.self.next c.args.registers.now i none r c.args.nets.now.items c.loop-register.nets.items c.put.new.nets.items c.in_ok-bits.bits
          c.loop-register-test.true refl
          (register-made resets mid c.take.new.self.next r c.in_ok-bits.bits c.read-reset.result next c.read-reset.ensures
          (subst (λ k. AreBelow (k + r.high + 1) c.in_ok-bits.bits) at c.in_ok-bits.ensures.known) c.in_ok-bits.ensures.count
          (λ v x small bits. c.in_ok-bits.ensures.value v x small (subst (λ k. AreBits (flipped_bits x c.read-reset.result 0 (r.high + 1)) (λ j. v (k + j)) 0) (sym at) bits)))
          c.put.ensures c.loop-register.invariant.1,
      λ b all w. subst (λ ws. IsWithin b (lengths ws)) (sym c.put.ensures)
          (within-write b c.loop-register.nets.items r.place c.in_ok-bits.bits (λ n k at'. (let e = c.in_ok-bits.ensures.count in let h = all-at (IsBounded b) c.args.registers.now i none c.loop-register-test.true all n k at' in omega (arith, e, h)))
          (c.loop-register.invariant.2 b all w)),
    )
