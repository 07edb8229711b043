-- Tables keyed by name.
use Rattle.std.specs.Prelude.{Option, bytes_eq}
use Rattle.indexmap.specs.IndexMap.{get_by}
use Rattle.vl_tree.specs.Values.{Name}
use Rattle.vl_rules.specs.declared.names.Names.{Names}

-- the value of a name
abbrev pub found : {V : Type 0} → Names V → Name → Option V
found t n = get_by (λ k. bytes_eq n k.items) t.table
