use Rattle.trace_read.proofs.TextLemmas.{one_line_at, last_line_at}
use Rattle.trace_read.proofs.text.next_line.Goals as goal

pub returns-then-end-bytes-clause-split : goal.returns-then-end-bytes-clause-split
returns-then-end-bytes-clause-split c = last_line_at _ _ c.feed_at-end.ensures.value c.if-end-bytes.true c.requires

pub returns-clause-split : goal.returns-clause-split
returns-clause-split c =
    one_line_at _ _ _ c.feed_at-end.ensures.value c.feed_at-end.ensures.within c.if-end-bytes.false c.strip_return.ensures
