use Rattle.std.proofs.Common.{◌≡◌, drop}
use Rattle.std.specs.List.{list_any}
use Rattle.vl_tree.specs.Read.{reads}
use Rattle.vl_model.specs.Meaning.{parts_uses}
use Rattle.vl_rules.specs.Walks.{use_passes}
use Rattle.vl_rules.proofs.uses.+uses.Given as goal

abbrev pub invariant-any_in-loop-e : goal.invariant-any_in-loop-e
invariant-any_in-loop-e l =
    list_any (use_passes l.test) (parts_uses (reads l.es)) ≡ list_any (use_passes l.test) (parts_uses (reads (drop l.e-index l.es)))
