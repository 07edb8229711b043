use Rattle.std.proofs.Common.{arith}
use Rattle.std.proofs.lemmas.Grind.{common_steps}
use Rattle.surf_base.proofs.TakenLemmas.{content_of-next}
use Rattle.surf_base.proofs.reading.take_some.Goals as goal

pub returns-clause-content : goal.returns-clause-content
returns-clause-content g c =
    content_of-next c.args.bytes.now.items _ c.read_some.new.piece _ _ c.in_ok-count.count (grind (arith, common_steps, c.in_ok-extend_from_slice.ensures.items)) c.in_ok-count.ensures.observed c.in_ok-count.ensures.unobserved
