-- The fault of one rule.
use Rattle.std.specs.Prelude.{List, Option, option_map}
use Rattle.std.specs.List.{position_from}
use Rattle.vl_tree.specs.declared.fault.TextFault.{TextFault}
use Rattle.vl_model.specs.Lines.{Site}
use Rattle.vl_model.specs.Rules.{Rule}

-- the rule's fault at the first line that breaks it
abbrev pub fault_by : Rule → List Site → Option TextFault
fault_by r ps = option_map r.0 (position_from r.1 0 ps)
