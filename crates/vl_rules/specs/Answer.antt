-- What judging a design answers.
use Rattle.std.specs.Prelude.{◌≡◌, Some}
use Rattle.vl_tree.specs.declared.tree.Design as code
use Rattle.vl_tree.specs.declared.fault.TextFault.{TextFault}
use Rattle.vl_tree.specs.declared.fault.TextFault.TheVariants.{Memory}
use Rattle.vl_tree.specs.Values.{Design}
use Rattle.vl_model.specs.Rules.{first_fault}
use Rattle.vl_rules.specs.declared.sound.Sound.{Sound}

-- the design
abbrev pub design_of : Sound → code.Design
design_of s = s.design

-- the fault is the first one of the design, or memory ran out
abbrev pub IsFirstFault : Design → TextFault → Type 0
IsFirstFault d (Memory m) = Unit {0}
IsFirstFault d fault = first_fault d ≡ Some fault
