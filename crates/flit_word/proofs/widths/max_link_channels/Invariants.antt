use Rattle.std.proofs.Common.{◌≡◌, ◌≤◌, take}
use Rattle.noc_model.specs.Plan.{classes}
use Rattle.flit_word.specs.Words.{max_channels}
use Rattle.flit_word.proofs.widths.max_link_channels.Given as goal

abbrev pub invariant-loop-d : goal.invariant-loop-d
invariant-loop-d l = (l.most ≡ max_channels (classes l.plan) (take l.d l.plan.domains)) × (l.most ≤ 8)
