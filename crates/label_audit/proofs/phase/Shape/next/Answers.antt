use Rattle.std.proofs.Common.{◌≡◌, ℕ, [], length, ◌∙◌, ap, sym, map, get_or}
use Rattle.std.specs.Prelude.{slice_get}
use Rattle.std.proofs.lemmas.Option.{slice_get-get_or}
use Rattle.vl_run.specs.Emit.{place_in}
use Rattle.label_audit.specs.declared.part.Part.{Part}
use Rattle.label_audit.specs.Rows.{row_in}
use Rattle.label_audit.specs.Instances.{next_rows}
use Rattle.label_audit.specs.Whole.{leaf_of, place_of, phase_in, tops_in, next_at}
use Rattle.label_audit.proofs.Instances.{rows-at}
use Rattle.label_audit.proofs.Shapes.{grow-phase, part-knows}
use Rattle.label_audit.proofs.phase.Shape.next.Goals as goal

pub next-requires : goal.next-requires
next-requires c =
    part-knows c.args.self.now c.requires c.loop-i.i (get_or c.args.self.now.parts.now c.loop-i.i c.index-self-i.result) (slice_get-get_or c.args.self.now.parts.now c.loop-i.i c.index-self-i.result c.loop-i-test.true)

pub loop-i-preserved : goal.loop-i-preserved
loop-i-preserved c =
    let s = c.args.self.now in
    let xs = phase_in c.args.kept.now in
    let t = place_in s.declared.now in
    let i : ℕ = c.loop-i.i in
    let p : Part = get_or s.parts.now i c.index-self-i.result in
    let at = slice_get-get_or s.parts.now i c.index-self-i.result c.loop-i-test.true in
    let kept = ap (map row_in) c.of_instance.ensures ∙ rows-at c.args.kept.now i in
    let tops = ap (map row_in) c.as_slice.ensures.value ∙ c.in_ok-tops.ensures in
    grow-phase c.loop-i.phase.items c.push.new.self.items c.new.result (λ i. next_at t (tops_in s xs) (slice_get s.parts.now i) (get_or xs i [])) i c.in_ok-push.ensures.items c.loop-i.invariant
    (ap (map row_in) c.new.ensures ∙ c.in_ok-rows.ensures ∙ ap (λ z. next_rows (place_of p) t (leaf_of p) p.joins.now z (map row_in c.of_instance.result.now)) tops ∙ ap (next_rows (place_of p) t (leaf_of p) p.joins.now (tops_in s xs)) kept
    ∙ ap (λ o. next_at t (tops_in s xs) o (get_or xs i [])) (sym at))
