use Rattle.std.proofs.Common.{refl}
use Rattle.trace_read.specs.Text.{is_ink}
use Rattle.trace_read.proofs.TextLemmas.{place-from_position}
use Rattle.trace_read.proofs.text.ink_at.Goals as goal

pub returns : goal.returns
returns c =
    let place = place-from_position is_ink c.args.line.now _ _ _ c.first_ink.ensures refl c.unwrap_or.ensures in
    record { value = place.0; within = place.1 }
