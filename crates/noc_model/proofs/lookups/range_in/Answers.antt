-- The search by a test gives the first range that passes it.
use Rattle.std.proofs.Common.{rules, tests, ◌∙◌}
use Rattle.std.proofs.lemmas.Iterator.{YieldsList-from_slice}
use Rattle.std.proofs.lemmas.Iterator.Search.{find_from_yields_List}
use Rattle.noc_model.specs.Plan.{holds_address}
use Rattle.noc_model.proofs.lookups.range_in.Goals as goal

pub returns : goal.returns
returns c =
    c.copied.ensures
    ∙ find_from_yields_List (holds_address c.args.addr) _ _ _ c.find.ensures.ran (YieldsList-from_slice c.args.ranges.now (cc)) (λ x b q k. search (rules, tests))
