use Rattle.std.proofs.Common.{◌≡◌, drop}
use Rattle.std.specs.List.{list_any}
use Rattle.vl_tree.specs.Read.{reads}
use Rattle.vl_model.specs.Meaning.{parts_nets}
use Rattle.vl_rules.specs.Walks.{net_passes}
use Rattle.vl_rules.proofs.walks.+nets.Given as goal

abbrev pub invariant-any_in-loop-e : goal.invariant-any_in-loop-e
invariant-any_in-loop-e l =
    list_any (net_passes l.test) (parts_nets (reads l.es)) ≡ list_any (net_passes l.test) (parts_nets (reads (drop l.e-index l.es)))
