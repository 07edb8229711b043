use Rattle.std.proofs.Common.{◌≡◌, ◌+◌, [], arith}
use Rattle.std.proofs.lemmas.Grind.{common_steps}
use Rattle.std.proofs.lemmas.Result.{err_from_is_err_and}
use Rattle.trace_read.proofs.TraceLemmas.{fault_found, trace_done}
use Rattle.trace_read.proofs.reading.read_trace.Goals as goal

pub returns-in_err-add_line-clause-err : goal.returns-in_err-add_line-clause-err
returns-in_err-add_line-clause-err c =
    let p = err_from_is_err_and c.from_residual.result c.from_residual.ensures.1 in
    rw (p.1, p.2) (fault_found c.args.plan.now c.args.bytes.now c.loop-rest.rest.now c.next_line.result.0.now c.next_line.result.1.now (c.loop-rest.line + 1) _ c.loop-rest.invariant.fault c.next_line.ensures.split c.in_err-add_line.ensures.err)

pub returns-clause-ok : goal.returns-clause-ok
returns-clause-ok c =
    let none : c.loop-rest.rest.now ≡ [] = grind (arith, common_steps) in
    trace_done c.args.plan.now c.args.bytes.now c.loop-rest.rest.now c.loop-rest.trace (c.loop-rest.line + 1) none
    c.loop-rest.invariant.entries c.loop-rest.invariant.fault
