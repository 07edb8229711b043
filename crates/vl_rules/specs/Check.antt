-- The rules of the code are those of a sound design.
use Rattle.std.specs.Prelude.{ℕ, Bool}
use Rattle.vl_tree.specs.declared.fault.TextFault.{TextFault}
use Rattle.vl_tree.specs.declared.fault.TextFault.TheVariants as faults
use Rattle.vl_model.specs.Lines as sites
use Rattle.vl_model.specs.Rules as model
use Rattle.vl_rules.specs.declared.check.Rule.{Rule}
use Rattle.vl_rules.specs.declared.check.Rule.TheVariants.{NameTwice, NameUnknown, Width, Order, Driver, Mealy, MemSize, Instance}
use Rattle.vl_rules.specs.declared.check.Check.{Check}
use Rattle.vl_rules.specs.declared.check.Check.TheVariants as checks
use Rattle.vl_rules.specs.declared.site.Site.{Site}
use Rattle.vl_rules.specs.Lines.{lines_of}
use Rattle.vl_rules.specs.Scope.{Assigns}
use Rattle.vl_rules.specs.Tallies.{Counts, Depends}
use Rattle.vl_rules.specs.Site.{leaves_before}

-- the fault of a rule at an item
abbrev pub fault_of : Rule → ℕ → TextFault
fault_of NameTwice = faults.NameTwice
fault_of NameUnknown = faults.NameUnknown
fault_of Width = faults.Width
fault_of Order = faults.Order
fault_of Driver = faults.Driver
fault_of Mealy = faults.Mealy
fault_of MemSize = faults.MemSize
fault_of Instance = faults.Instance

-- the rule: its fault, and the lines at which it is one
abbrev pub rule_of : Rule → model.Rule
rule_of NameTwice = (faults.NameTwice, model.name_twice)
rule_of NameUnknown = (faults.NameUnknown, model.name_unknown)
rule_of Width = (faults.Width, model.wrong_width)
rule_of Order = (faults.Order, model.wrong_order)
rule_of Driver = (faults.Driver, model.wrong_driver)
rule_of Mealy = (faults.Mealy, model.goes_through)
rule_of MemSize = (faults.MemSize, model.wrong_size)
rule_of Instance = (faults.Instance, model.wrong_joins)

-- the lines at which the check finds a fault
abbrev pub test_of : Check → sites.Site → Bool
test_of checks.NameTwice = model.name_twice
test_of checks.NameUnknown = model.name_unknown
test_of checks.Width = model.wrong_width
test_of (checks.Order t) = model.wrong_order
test_of (checks.Driver t) = model.wrong_driver
test_of (checks.Mealy t) = model.goes_through
test_of checks.MemSize = model.wrong_size
test_of checks.Instance = model.wrong_joins

-- what the check knows of the module is right
abbrev pub IsReady : Site → Check → Type 0
IsReady s (checks.Order t) = Assigns t (lines_of s.subject)
IsReady s (checks.Driver t) = Counts t (leaves_before s) (lines_of s.subject)
IsReady s (checks.Mealy t) = Depends t (lines_of s.subject)
IsReady s _ = Unit {0}
