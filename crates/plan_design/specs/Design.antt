-- The design of a plan.
use Rattle.std.specs.Prelude.{List, ◌++◌, map, flat_map}
use Rattle.vl_tree.specs.declared.tree.TopItem.{TopItem}
use Rattle.vl_tree.specs.declared.tree.Top.{Top}
use Rattle.vl_tree.specs.Values.{Design}
use Rattle.noc_model.specs.Plan.{Plan}
use Rattle.flit_word.specs.Words.{dest_bits, channel_bits, flit_bits}
use Rattle.gen_kit.specs.Ports.{top_ports}
use Rattle.gen_kit.specs.Shape.{tile_wires, tile_instance, all_tiles}
use Rattle.leaf_tie.specs.Names.{leaf_sizes, slot_high, credit_base, credit_domain, credit_channel, leaf_module}
use Rattle.top_tie.specs.Holds.{TextSizes}

-- the sizes of the leaves, and the numbers of credits
abbrev pub text_sizes : Plan → TextSizes
text_sizes p = record {
  buffer = leaf_sizes p;
  slot_high = slot_high p;
  dest_bits = dest_bits p;
  link_flit = flit_bits p;
  link_channel = channel_bits p;
  base = credit_base p;
  domain = credit_domain p;
  channel = credit_channel p;
}

-- the wires of all links, then an instance for each tile
abbrev pub top_items : Plan → List TopItem
top_items p = flat_map (tile_wires p) (all_tiles p) ++ map (tile_instance p) (all_tiles p)

-- the top: the ports of all attachments, and the items
abbrev pub top_module : Plan → Top
top_module p = record { ports = top_ports p; items = top_items p }

-- a leaf for each tile, and the top that joins them
abbrev pub design_module : Plan → Design
design_module p = record { leaves = map (leaf_module p) (all_tiles p); top = top_module p }
