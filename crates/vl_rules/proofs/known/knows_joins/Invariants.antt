use Rattle.std.proofs.Common.{◌≡◌, drop}
use Rattle.std.specs.List.{list_all}
use Rattle.vl_tree.specs.declared.tree.Join.{Join}
use Rattle.vl_model.specs.Lines.{port_named}
use Rattle.vl_model.specs.Rules.{joins_known}
use Rattle.vl_rules.specs.Site.{lines_before}
use Rattle.vl_rules.proofs.known.knows_joins.Given as goal

abbrev pub invariant-loop-join : goal.invariant-loop-join
invariant-loop-join l =
    let known =
    λ (j : Join). joins_known (lines_before l.site l.number) j.net (port_named l.leaf.leaf.now.ports j.port) in
    list_all known l.joins ≡ list_all known (drop l.join-index l.joins)
