use Rattle.std.proofs.Common.{◌≡◌, drop}
use Rattle.std.specs.List.{list_any}
use Rattle.std.specs.Str.{bytes_eq}
use Rattle.noc_desc.specs.Keys.{name}
use Rattle.noc_desc.proofs.keys.is_listed.Given as goal

-- the keys that are left decide
abbrev pub invariant-loop-key : goal.invariant-loop-key
invariant-loop-key l =
    list_any (λ key. bytes_eq l.written (name key)) (drop l.key-index l.key-items) ≡ list_any (λ key. bytes_eq l.written (name key)) l.key-items
