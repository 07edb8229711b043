use Rattle.std.proofs.Common.{rules}
use Rattle.std.proofs.lemmas.List.Sorted.{IsNonDecreasingBy-from_sort_by_key}
use Rattle.tile_drive.specs.declared.scripts.Span.{Span}
use Rattle.tile_drive.proofs.spans.sort_spans.Goals as goal

pub returns-clause-sorted : goal.returns-clause-sorted
returns-clause-sorted c =
    IsNonDecreasingBy-from_sort_by_key (λ (span : Span). span.cycle) _ c.sort_unstable_by_key.ensures.sorted (λ a r f' called. search rules)
