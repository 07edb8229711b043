use Rattle.std.proofs.Common.{◌+◌, ◌<◌, length, take, drop, arith, subst}
use Rattle.std.specs.Prelude.{flat_map}
use Rattle.std.proofs.lemmas.Result.{err_from_is_err_and}
use Rattle.noc_model.specs.Report.{event_line}
use Rattle.surf_base.specs.Block.{Puts, BreaksOff, Writes}
use Rattle.surf_base.proofs.Blocks.{Puts-then, BreaksOff-then, Writes-err}
use Rattle.domain_report.proofs.Lines.{own, own-same, lines-more, lines-split, counts-more}
use Rattle.domain_report.proofs.events.put_events.Goals as goal
use Rattle.domain_report.proofs.events.put_events.Goals.{then-event-d+in_ok-put_event, else-event-d}

pub returns-in_err-put_event-clause-lines : goal.returns-in_err-put_event-clause-lines
returns-in_err-put_event-clause-lines g c =
    let d = c.args.d in
    let es = c.args.events.now in
    let i = c.loop-event.event-index in
    let less : i < length es = omega arith in
    let p = err_from_is_err_and c.from_residual.result c.from_residual.ensures.1 in
    let line = lines-more d es i _ less c.if-event-d.true in
    subst (Writes c.from_residual.result _ _) (lines-split d es (i + 1))
    (Writes-err c.from_residual.result p.0 _ _ (flat_map event_line (own d (take (i + 1) es))) (flat_map event_line (own d (drop (i + 1) es))) p.1
    (subst (BreaksOff _ _) line (BreaksOff-then _ _ _ (flat_map event_line (own d (take i es))) _ c.loop-event.invariant.lines c.in_err-put_event.ensures)))

pub loop-event-preserved : goal.loop-event-preserved
loop-event-preserved g c =
    let d = c.args.d in
    let es = c.args.events.now in
    let i = c.loop-event.event-index in
    let less : i < length es = omega arith in
    elim c.if-event-d.branch [
      | then-event-d+in_ok-put_event w ↦
          (let line = lines-more d es i _ less w.if-event-d.true in
          rw (w.block-is, w.out-is, w.counts-is) record {
            lines = subst (Puts _ _) line (Puts-then _ _ _ (flat_map event_line (own d (take i es))) _ c.loop-event.invariant.lines w.in_ok-put_event.ensures);
            counts = counts-more c.loop-event.counts w.add.new.self d es i _ less w.if-event-d.true c.loop-event.invariant.counts w.add.ensures.takes w.add.ensures.waits w.add.ensures.drops w.add.ensures.gots;
            total = omega (arith, w.add.ensures.total, c.loop-event.invariant.total);
          })
      | else-event-d w ↦
          (let same = own-same d es i _ less w.if-event-d.false in
          rw (w.block-is, w.out-is, w.counts-is, same) record {
            lines = c.loop-event.invariant.lines;
            counts = c.loop-event.invariant.counts;
            total = omega (arith, c.loop-event.invariant.total);
          })
    ]
