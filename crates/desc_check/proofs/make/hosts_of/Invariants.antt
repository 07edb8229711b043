use Rattle.std.proofs.Common.{◌≡◌, map, length}
use Rattle.std.specs.List.{filter, range_with_len}
use Rattle.noc_model.specs.declared.Host.{Host}
use Rattle.desc_check.specs.Network.{is_hosted, name_at, pair_at}
use Rattle.desc_check.proofs.make.hosts_of.Given as goal

-- the hosts among the pairs that were looked at
abbrev pub invariant-loop-k : goal.invariant-loop-k
invariant-loop-k l =
    l.hosts.items ≡ filter (λ (h : Host). is_hosted l.elements h.tile (name_at l.domains h.domain)) (map (pair_at (length l.domains)) (range_with_len 0 l.k))
