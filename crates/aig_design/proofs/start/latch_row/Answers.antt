use Rattle.std.proofs.Common.{◌≡◌, ◌+◌, sym, subst, arith}
use Rattle.aig_gates.specs.Zips.{AreBelow}
use Rattle.aig_model.specs.FormOf.{AreBits, flipped_bits}
use Rattle.aig_design.proofs.Rows.{row-more, row-all}
use Rattle.aig_design.proofs.start.latch_row.Goals as goal

pub loop-preserved : goal.loop-preserved
loop-preserved c =
    let front = c.loop.invariant.0 in
    let next = c.in_ok-first.ensures.next in
    let at : c.in_ok-first.first ≡ c.loop.variables.next = c.in_ok-first.ensures.first in (
      omega (arith, front, next),
      row-more c.args.variables.now.next c.loop.variables.next c.take.new.self.next c.args.high c.loop.row c.push.new.self c.in_ok-bits.bits c.loop.counter c.in_ok-push.ensures.ok next
          (subst (λ k. AreBelow (k + c.args.high + 1) c.in_ok-bits.bits) at c.in_ok-bits.ensures.known) c.in_ok-bits.ensures.count
          (λ v x small bits. c.in_ok-bits.ensures.value v x small (subst (λ k. AreBits (flipped_bits x 0 0 (c.args.high + 1)) (λ j. v (k + j)) 0) (sym at) bits)) c.loop.invariant.1,
    )

pub returns : goal.returns
returns c place =
    let past = c.loop-test.false in
    let within = c.loop.auto.counter-end in
    row-all c.args.variables.now.next c.loop.variables.next c.args.high c.args.last place c.loop.row c.loop.counter (omega (arith, past, within)) c.loop.invariant.1
