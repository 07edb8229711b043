-- What the files of a command hold.
use Rattle.std.specs.Prelude.{ℕ, List, []}
use Rattle.surf_cli.specs.declared.files.FileKind.{FileKind}
use Rattle.surf_cli.specs.declared.files.FileKind.TheVariants as kind

-- what the files hold, by their kinds
pub record Contents : Type 0 where
  pub description : List ℕ
  pub text : List ℕ
  pub trace : List ℕ

-- no files
abbrev pub nothing : Contents
nothing = record { description = []; text = []; trace = [] }

-- one file more
abbrev pub with_content : FileKind → List ℕ → Contents → Contents
with_content kind.Description bytes contents = record contents { description = bytes }
with_content kind.Text bytes contents = record contents { text = bytes }
with_content kind.Trace bytes contents = record contents { trace = bytes }
