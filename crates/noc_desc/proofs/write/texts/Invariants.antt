use Rattle.std.proofs.Common.{◌≡◌, take}
use Rattle.toml.specs.View.{items_view}
use Rattle.toml.specs.Data.{string}
use Rattle.noc_desc.specs.Document.{items_by}
use Rattle.noc_desc.proofs.write.texts.Given as goal

abbrev pub invariant-loop-element : goal.invariant-loop-element
invariant-loop-element l = items_view l.items.items ≡ items_by string (take l.element-index l.list)
