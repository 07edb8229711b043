use Rattle.std.proofs.Common.{◌≡◌, take}
use Rattle.toml.specs.View.{items_view}
use Rattle.noc_desc.specs.Document.{items_by, tile_data}
use Rattle.noc_desc.proofs.write.tiles.Given as goal

abbrev pub invariant-loop-element : goal.invariant-loop-element
invariant-loop-element l = items_view l.items.items ≡ items_by tile_data (take l.element-index l.list)
