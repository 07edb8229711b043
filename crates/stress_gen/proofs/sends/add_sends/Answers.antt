use Rattle.std.proofs.Common.{◌≡◌, ℕ, ◌++◌, ◌∷◌, [], List, length, map, sym, ap, ◌∙◌, append_assoc, arith}
use Rattle.std.specs.List.{range_with_len}
use Rattle.std.proofs.lemmas.List.FromFn.{map-range_with_len_more}
use Rattle.trace_read.specs.declared.entries.Entry.{Entry}
use Rattle.stress_gen.specs.Sends.{send, after_send, after_sends, sends_in}
use Rattle.stress_gen.proofs.More.{more-sends}
use Rattle.stress_gen.proofs.sends.add_sends.Goals as goal

pub loop-attach-preserved : goal.loop-attach-preserved
loop-attach-preserved c =
    let p = c.args.plan.now in
    let x = c.args.draws.now.number in
    let j = c.loop-attach.attach in
    let old = c.args.trace.now in
    let one : ℕ → Entry = λ k. send p c.args.cycle k (after_sends x k) in
    record {
      trace = c.in_ok-push.ensures.ok
          ∙ ap (λ (es : List Entry). es ++ c.in_ok-entry.entry ∷ []) c.loop-attach.invariant.trace
          ∙ append_assoc old (map one (range_with_len 0 j)) (c.in_ok-entry.entry ∷ [])
          ∙ ap (λ (e : Entry). old ++ (map one (range_with_len 0 j) ++ e ∷ [])) (c.in_ok-entry.ensures.entry ∙ ap (send p c.args.cycle j) c.loop-attach.invariant.number)
          ∙ ap (λ (es : List Entry). old ++ es) (sym (map-range_with_len_more one 0 j j (omega arith)));
      number = c.in_ok-entry.ensures.number ∙ ap after_send c.loop-attach.invariant.number ∙ sym (more-sends x j);
    }

pub returns-clause-trace : goal.returns-clause-trace
unfolding sends_in
returns-clause-trace c =
    let all : c.loop-attach.attach ≡ length c.args.plan.now.hosts = omega (arith, c.attach_count-attach-end.ensures) in
    c.loop-attach.invariant.trace
    ∙ ap (λ n. c.args.trace.now ++ map (λ j. send c.args.plan.now c.args.cycle j (after_sends c.args.draws.now.number j)) (range_with_len 0 n)) all
