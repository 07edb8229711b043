use Rattle.std.proofs.Common.{◌≡◌, ◌≤◌, ◌*◌, take}
use Rattle.noc_model.specs.Plan.{all_link_channels}
use Rattle.noc_model.proofs.domains.all_link_channels.Given as goal

abbrev pub invariant-loop-domain : goal.invariant-loop-domain
invariant-loop-domain l =
    (l.count ≡ all_link_channels l.classes (take l.domain-index l.domains)) × (l.count ≤ 8 * l.domain-index)
