use Rattle.std.proofs.Common.{◌≡◌, replicate, None}
use Rattle.credit_links.proofs.pipe.Pipe.new.Given as goal

abbrev pub invariant-loop : goal.invariant-loop
invariant-loop l = (l.places.items ≡ replicate l.counter None) × (l.places.capacity ≡ l.stages)
