-- What a list of files in memory holds.
use Rattle.std.specs.Prelude.{ℕ, if◌then◌else◌, List, [], fold, slice_get}
use Rattle.std.specs.Option.{option_map_or}
use Rattle.std.specs.Str.{bytes_eq}
use Rattle.surf_base.specs.Outside.{Held, Absent, Holds}
use Rattle.surf_base.specs.declared.mem_files.MemFile.{MemFile}

-- what these files hold under a name: the content of the last one that has it
abbrev pub held_in : List MemFile → List ℕ → Held
held_in files name = fold (λ held file. if bytes_eq file.name name then Holds file.content else held) Absent files

-- the content of file number `i`, and nothing where there is none
abbrev pub content_at : List MemFile → ℕ → List ℕ
content_at files i = option_map_or (λ file. file.content) (slice_get files i) []
