use Rattle.std.proofs.Common.{◌≡◌, ◌++◌, drop}
use Rattle.toml.specs.View.{items_view}
use Rattle.noc_desc.specs.Values.{domains}
use Rattle.noc_desc.proofs.values.domains.Given as goal

-- those found and those among the elements that are left are all
abbrev pub invariant-loop-item : goal.invariant-loop-item
invariant-loop-item l = l.found ++ domains (items_view (drop l.item-index l.items)) ≡ domains (items_view l.items)
