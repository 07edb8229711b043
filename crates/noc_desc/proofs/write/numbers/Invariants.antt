use Rattle.std.proofs.Common.{◌≡◌, take}
use Rattle.toml.specs.View.{items_view}
use Rattle.toml.specs.Data.{integer}
use Rattle.noc_desc.specs.Document.{items_by}
use Rattle.noc_desc.proofs.write.numbers.Given as goal

abbrev pub invariant-loop-element : goal.invariant-loop-element
invariant-loop-element l = items_view l.items.items ≡ items_by integer (take l.element-index l.list)
