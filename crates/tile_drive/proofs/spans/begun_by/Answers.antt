use Rattle.std.proofs.Common.{rules}
use Rattle.std.specs.Prelude.{nat_le}
use Rattle.std.proofs.lemmas.List.Sorted.{IsPartitionPoint-from_clause, IsPartitionedBy-leb}
use Rattle.tile_drive.specs.declared.scripts.Span.{Span}
use Rattle.tile_drive.proofs.spans.begun_by.Goals as goal

pub returns-clause-begun : goal.returns-clause-begun
returns-clause-begun c = IsPartitionPoint-from_clause (λ (span : Span). nat_le span.cycle c.args.cycle) c.args.spans.now _
    c.partition_point.ensures.partitioned (IsPartitionedBy-leb (λ (span : Span). span.cycle) c.args.spans.now c.args.cycle c.requires)
    (λ a r f' called. search rules)
