use Rattle.std.proofs.Common.{◌≡◌, ℕ, ◌<◌, take}
use Rattle.surf_replay.specs.Feed.{all_numbers, IsSmallOffer}
use Rattle.surf_replay.proofs.feed.fill.Given as goal

abbrev pub invariant-loop-j : goal.invariant-loop-j
invariant-loop-j g l = record {
  numbers : l.inputs.items ≡ all_numbers (g.D.Driving.driver l.drive) l.cycle (g.D.Driving.state l.drive) 0 (take l.j l.plan.hosts);
  small : (k : ℕ) → k < l.j → IsSmallOffer ((g.D.Driving.driver l.drive).offer k (g.D.Driving.state l.drive k) l.cycle);
}
