use Rattle.std.proofs.Common.{◌≡◌, [], take, None}
use Rattle.std.specs.List.{position_from}
use Rattle.vl_model.specs.Lines.{sites_behind}
use Rattle.vl_rules.specs.Lines.{lines_of}
use Rattle.vl_rules.specs.Site.{leaves_before}
use Rattle.vl_rules.specs.Check.{test_of}
use Rattle.vl_rules.proofs.check.search.Given as goal

abbrev pub invariant-loop-number : goal.invariant-loop-number
invariant-loop-number l =
    position_from (test_of l.check) 0 (sites_behind (leaves_before l.site) (lines_of l.site.subject) [] (take l.number (lines_of l.site.subject))) ≡ None
