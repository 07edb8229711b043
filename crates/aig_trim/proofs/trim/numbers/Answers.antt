use Rattle.std.proofs.Common.{◌+◌, ◌≤◌, length, get_or, ◌∙◌, ap, sym, subst, arith}
use Rattle.std.proofs.lemmas.List.{length_push}
use Rattle.aig_out.specs.Ran.{at}
use Rattle.aig_trim.proofs.Kept.{place-low, place-left, place-kept}
use Rattle.aig_trim.proofs.Marked.{numbers-more, numbers-low}
use Rattle.aig_trim.proofs.trim.numbers.Goals as goal
use Rattle.aig_trim.proofs.trim.numbers.Goals.{then-marked, else-marked}

pub overflow_add-next : goal.overflow_add-next
overflow_add-next c =
    let low = place-low (at c.args.marks.now) c.loop-marked.marked-index in
    let next = c.loop-marked.invariant.next in
    let len = c.loop-marked.invariant.len in
    let small = c.loop-marked.numbers.small in
    let ok = c.loop-marked.numbers.ok in
    omega (arith, low, next, len, small, ok)

pub loop-marked-preserved : goal.loop-marked-preserved
loop-marked-preserved c =
    let m = at c.args.marks.now in
    let i = c.loop-marked.marked-index in
    let xs = c.loop-marked.numbers.items in
    let y = c.loop-marked.next in
    let so = c.loop-marked.invariant in
    let items = c.in_ok-push.ensures.items in
    let low = place-low m i in
    let is = so.next in
    record {
      len = ap length items ∙ length_push xs y ∙ ap (λ n. n + 1) so.len;
      next = elim c.if-marked.branch [
        | then-marked w ↦ w.next-is ∙ ap (λ n. n + 1) so.next ∙ sym (place-kept m i w.if-marked.true)
        | else-marked w ↦ w.next-is ∙ so.next ∙ sym (place-left m i w.if-marked.false)
      ];
      value = λ x lt. ap (λ zs. get_or zs x 0) items ∙ numbers-more m xs y i so.len so.next so.value x lt;
      low = λ x. subst (λ zs. get_or zs x 0 ≤ x) (sym items) (numbers-low xs y i so.len (omega (arith, low, is)) so.low x);
    }
