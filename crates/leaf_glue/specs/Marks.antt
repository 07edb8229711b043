-- What is asked of the buffers at all places.
use Rattle.std.specs.Prelude.{ℕ, ◌-◌}
use Rattle.vl_tree.specs.declared.tree.Op.TheVariants.{And}
use Rattle.vl_tree.specs.Values.{Expr, net, bit, not, two, cat}
use Rattle.noc_model.specs.Plan.{Plan, link_channels}
use Rattle.gen_kit.specs.Families.{row_parts}
use Rattle.leaf_tie.specs.Glue.{placed, front_bits}
use Rattle.leaf_tie.specs.Names.{buffer_names, leaf_names, net_names}
use Rattle.leaf_glue.specs.declared.marks.Mark.{Mark}
use Rattle.leaf_glue.specs.declared.marks.Mark.TheVariants.{Filled, Front}

-- of a place that is there
abbrev pub mark_at : ℕ → Mark → ℕ → ℕ → Expr
mark_at d Filled port c = not (net (buffer_names d port c).empty)
mark_at d (Front k) port c = bit (buffer_names d port c).front k

-- of the channels of a port
abbrev pub port_marks : Plan → ℕ → ℕ → Mark → ℕ → Expr
port_marks p n d mark port = cat (row_parts (placed p n d (mark_at d mark) port) (link_channels p d - 1))

-- the places with a flit whose word has bit k
abbrev pub with_bit : Plan → ℕ → ℕ → ℕ → Expr
with_bit p n d k = two And (net (net_names.filled d)) (front_bits p n leaf_names d k)
