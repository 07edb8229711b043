use Rattle.std.proofs.Common.{◌≡◌, ◌≤◌, length, drop}
use Rattle.aig_cycle.specs.Steps.{linked_words}
use Rattle.aig_cycle.proofs.steps.copy.Given as goal

abbrev pub invariant-loop-i : goal.invariant-loop-i
invariant-loop-i l = record {
  within : l.i ≤ length l.links;
  behind : l.to.items ≡ linked_words l.from (drop l.i l.links) l.initial.to.items;
}

abbrev pub decreases-loop-i : goal.decreases-loop-i
decreases-loop-i l = l.i
