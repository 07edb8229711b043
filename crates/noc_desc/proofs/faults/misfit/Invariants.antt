use Rattle.std.proofs.Common.{◌≡◌, drop}
use Rattle.std.specs.List.{position_from}
use Rattle.toml.specs.View.{table_view}
use Rattle.noc_desc.specs.Keys.{is_misfit}
use Rattle.noc_desc.proofs.faults.misfit.Given as goal

-- the keys that are left decide
abbrev pub invariant-loop-number : goal.invariant-loop-number
invariant-loop-number l =
    position_from (is_misfit (table_view l.table)) l.number (drop l.number l.key-items) ≡ position_from (is_misfit (table_view l.table)) 0 l.key-items
