-- What a leaf gives out, under its names.
use Rattle.std.specs.Prelude.{ℕ, ◌-◌, nat_lt, List, [], ◌∷◌, if◌then◌else◌}
use Rattle.vl_tree.specs.declared.tree.Op.TheVariants.{Or}
use Rattle.vl_tree.specs.Values.{Expr, net, bit, part, two, Item, assign}
use Rattle.gen_kit.specs.Groups.{Group}
use Rattle.gen_kit.specs.Shape.{credit_bits}
use Rattle.noc_model.specs.Plan.{Plan}
use Rattle.leaf_tie.specs.Attach.{room_expr}
use Rattle.leaf_tie.specs.Names.{credit_bundle, credit_channel, credit_domain, leaf_names, out_names}
use Rattle.leaf_parts.specs.Entries.{its_names, its_size}

-- the pulse of a credit that goes out by a port
abbrev pub credit_net : Plan → ℕ → ℕ → Expr
credit_net p port r = bit (leaf_names.pulse (credit_domain p r) port) (credit_channel p r)

-- the flit in the ejection place
abbrev pub ejected_outs : ℕ → ℕ → List Item
ejected_outs n d =
    assign ((out_names n).valid d) (bit (leaf_names.ejected d) 34)
    ∷ assign ((out_names n).head d) (bit (leaf_names.ejected d) 33)
    ∷ assign ((out_names n).tail d) (bit (leaf_names.ejected d) 32)
    ∷ assign ((out_names n).payload d) (part (leaf_names.ejected d) 31 0)
    ∷ []

-- the drop pulse, and whether a word is taken
abbrev pub entry_outs : Plan → ℕ → ℕ → List Item
entry_outs p n d =
    assign ((out_names n).drop d) (net (leaf_names.dropped d))
    ∷ assign ((out_names n).ready d) (two Or (net (leaf_names.dropping d)) (room_expr p d (its_names d) (its_size p d)))
    ∷ []

-- the second bundle of credits of a link, where there is one
abbrev pub other_outs : Plan → ℕ → ℕ → List Group
other_outs p n o = if nat_lt 64 (credit_bits p) then credit_bundle p n o 64 (credit_bits p - 64) ∷ [] else []
