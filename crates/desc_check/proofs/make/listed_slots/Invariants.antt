use Rattle.std.proofs.Common.{◌≡◌, map, take}
use Rattle.desc_check.specs.Network.{domain_number}
use Rattle.desc_check.proofs.make.listed_slots.Given as goal

abbrev pub invariant-loop-name : goal.invariant-loop-name
invariant-loop-name l = l.numbers.items ≡ map (domain_number l.domains) (take l.name-index l.slots)
