use Rattle.std.proofs.Common.{◌≡◌, drop}
use Rattle.std.specs.List.{position_from}
use Rattle.std.specs.Str.{bytes_eq}
use Rattle.desc_check.proofs.make.domain_number.Given as goal

-- the domains that are left decide
abbrev pub invariant-loop-d : goal.invariant-loop-d
invariant-loop-d l =
    position_from (λ x. bytes_eq x.name l.name) l.d (drop l.d l.domains) ≡ position_from (λ x. bytes_eq x.name l.name) 0 l.domains
