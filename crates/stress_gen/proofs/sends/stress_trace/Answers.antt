use Rattle.std.proofs.Common.{◌≡◌, ◌++◌, List, length, sym, ap, ◌∙◌, arith}
use Rattle.trace_read.specs.declared.entries.Entry.{Entry}
use Rattle.stress_gen.specs.Sends.{after_sends, sends_in, sends_before, stress_trace}
use Rattle.stress_gen.proofs.More.{trace-sent, sent-before, trace-kept, kept-before, sends-then}
use Rattle.stress_gen.proofs.sends.stress_trace.Goals as goal
use Rattle.stress_gen.proofs.sends.stress_trace.Goals.{then-cycle-eq0+in_ok-add_sends, else-cycle-eq0}

pub loop-cycle-init : goal.loop-cycle-init
unfolding stress_trace
loop-cycle-init c =
    let none : 0 ≡ sends_before c.args.plan.now 0 = omega arith in
    record { trace = c.new-trace.ensures; number = ap (after_sends c.args.number) none }

pub loop-cycle-preserved : goal.loop-cycle-preserved
loop-cycle-preserved c =
    let p = c.args.plan.now in
    let x = c.args.number in
    let t = c.loop-cycle.cycle in
    elim c.if-cycle-eq0.branch [
      | then-cycle-eq0+in_ok-add_sends w ↦
          (let at = c.loop-cycle.invariant.number in
          rw (w.trace-is, w.draws-is) record {
            trace = w.in_ok-add_sends.ensures.trace
                ∙ ap (λ (es : List Entry). es ++ sends_in p c.loop-cycle.draws.number t) c.loop-cycle.invariant.trace
                ∙ ap (λ n. stress_trace p x t ++ sends_in p n t) at
                ∙ sym (trace-sent p x t w.if-cycle-eq0.true);
            number = w.in_ok-add_sends.ensures.number ∙ ap (λ n. after_sends n (length p.hosts)) at ∙ sends-then x (sends_before p t) (length p.hosts)
                ∙ ap (after_sends x) (sym (sent-before p t w.if-cycle-eq0.true));
          })
      | else-cycle-eq0 w ↦
          (rw (w.trace-is, w.draws-is) record {
            trace = c.loop-cycle.invariant.trace ∙ sym (trace-kept p x t w.if-cycle-eq0.false);
            number = c.loop-cycle.invariant.number ∙ ap (after_sends x) (sym (kept-before p t w.if-cycle-eq0.false));
          })
    ]
