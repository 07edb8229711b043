use Rattle.std.proofs.Common.{◌≡◌, drop}
use Rattle.toml.specs.View.{items_view}
use Rattle.noc_desc.specs.Keys.{all_fit}
use Rattle.noc_desc.proofs.keys.all_fit.Given as goal

-- the elements that are left decide
abbrev pub invariant-loop-item : goal.invariant-loop-item
invariant-loop-item l =
    all_fit l.element (items_view (drop l.item-index l.items)) ≡ all_fit l.element (items_view l.items)
