-- A module among the others, and a line of it with what stands around it.
use Rattle.std.specs.Prelude.{ℕ, List, take}
use Rattle.vl_tree.specs.Values.{Leaf}
use Rattle.vl_tree.specs.Read.{read_leaves}
use Rattle.vl_model.specs.Lines as model
use Rattle.vl_model.specs.Lines.{Line}
use Rattle.vl_rules.specs.declared.site.Site.{Site}
use Rattle.vl_rules.specs.Lines.{lines_of}
use Rattle.vl_rules.specs.Scope.{Declares}
use Rattle.vl_rules.specs.Library.{IsLibrary}

-- the leaves before the module
abbrev pub leaves_before : Site → List Leaf
leaves_before s = take s.leaves (read_leaves s.library.now.leaves.now)

-- the lines of the module before line k
abbrev pub lines_before : Site → ℕ → List Line
lines_before s k = take k (lines_of s.subject)

-- line k of the module, with what stands around it
abbrev pub site_at : Site → ℕ → Line → model.Site
site_at s k x = record { leaves = leaves_before s; lines = lines_of s.subject; before = lines_before s k; line = x }

-- what is said of the leaves and of the module is right
pub record IsKnown (s : Site) : Type 0 where
  pub library : IsLibrary s.library.now
  pub declared : Declares s.declared.now (lines_of s.subject)
