-- Which names a module drives how often, and which depend on its input ports.
use Rattle.std.specs.Prelude.{◌≡◌, ℕ, min, List, [], is_some, bytes_eq}
use Rattle.std.specs.List.{list_any}
use Rattle.vl_tree.specs.Values.{Name, Leaf}
use Rattle.vl_model.specs.Lines.{Line}
use Rattle.vl_model.specs.Rules.{drivers, all_depending}
use Rattle.vl_rules.specs.declared.names.Names.{Names}
use Rattle.vl_rules.specs.Names.{found}
use Rattle.vl_rules.specs.Scope.{count}

-- the table counts how often each name is driven, where more than two is two
abbrev pub Counts : Names ℕ → List Leaf → List Line → Type 0
Counts t leaves lines = (n : Name) → count t n ≡ min 2 (drivers leaves lines n)

-- the table has these names and no others
abbrev pub IsSet : Names (Unit {0}) → List Name → Type 0
IsSet t ns = (n : Name) → is_some (found t n) ≡ list_any (bytes_eq n) ns

-- the table has the names that depend on an input port
abbrev pub Depends : Names (Unit {0}) → List Line → Type 0
Depends t lines = IsSet t (all_depending [] lines)
