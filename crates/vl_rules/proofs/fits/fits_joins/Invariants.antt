use Rattle.std.proofs.Common.{◌≡◌, drop}
use Rattle.std.specs.List.{list_all}
use Rattle.vl_tree.specs.declared.tree.Join.{Join}
use Rattle.vl_model.specs.Lines.{port_named}
use Rattle.vl_model.specs.Rules.{join_fits}
use Rattle.vl_rules.specs.Scope.{widths_at}
use Rattle.vl_rules.proofs.fits.fits_joins.Given as goal

abbrev pub invariant-loop-join : goal.invariant-loop-join
invariant-loop-join l =
    let fits =
    λ (j : Join). join_fits (widths_at l.site.declared.now l.number) j.net (port_named l.leaf.leaf.now.ports j.port) in
    list_all fits l.joins ≡ list_all fits (drop l.join-index l.joins)
