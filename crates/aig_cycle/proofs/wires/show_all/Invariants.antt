use Rattle.std.proofs.Common.{◌≡◌, ◌≤◌, length, drop}
use Rattle.aig_cycle.specs.Steps.{shown_words}
use Rattle.aig_cycle.proofs.wires.show_all.Given as goal

abbrev pub invariant-loop-i : goal.invariant-loop-i
invariant-loop-i l = record {
  within : l.i ≤ length l.parts;
  behind : l.tops.items ≡ shown_words (drop l.i l.parts) l.initial.tops.items;
}

abbrev pub decreases-loop-i : goal.decreases-loop-i
decreases-loop-i l = l.i
