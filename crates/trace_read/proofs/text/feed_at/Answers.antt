use Rattle.std.proofs.Common.{refl}
use Rattle.trace_read.specs.Text.{is_feed}
use Rattle.trace_read.proofs.TextLemmas.{place-from_position}
use Rattle.trace_read.proofs.text.feed_at.Goals as goal

pub returns : goal.returns
returns c =
    let place = place-from_position is_feed c.args.bytes.now _ _ _ c.first_feed.ensures refl c.unwrap_or.ensures in
    record { value = place.0; within = place.1 }
