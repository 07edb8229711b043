-- The files that a command names.
use Rattle.std.specs.Prelude.{ℕ, List}
use Rattle.surf_cli.specs.declared.files.FileKind.{FileKind}
use Rattle.surf_cli.specs.declared.files.FileKind.TheVariants.{Description, Text, Trace}
use Rattle.surf_cli.specs.Limits.{description_limit, text_limit, trace_limit}

-- the most bytes that a file may have, by what it is to hold
abbrev pub limit_of : FileKind → ℕ
limit_of Description = description_limit
limit_of Text = text_limit
limit_of Trace = trace_limit

-- a file that a command names, and what it is to hold
pub record NamedFile : Type 0 where
  pub kind : FileKind
  pub name : List ℕ

-- the file of this kind and name
abbrev pub file_of : FileKind → List ℕ → NamedFile
file_of kind name = record { kind = kind; name = name }
