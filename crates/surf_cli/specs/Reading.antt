-- Files that are read one after another.
use Rattle.std.specs.Prelude.{◌≡◌, ◌≢◌, ℕ, ◌≤◌, ◌⊎◌, List, [], ◌∷◌, length, Option, Some}
use Rattle.surf_base.specs.Outside.{Held, Rose}
use Rattle.surf_base.specs.declared.reading.TakeFault.{TakeFault}
use Rattle.surf_base.specs.declared.reading.TakeFault.TheVariants as fault
use Rattle.surf_cli.specs.declared.statuses.End.{End}
use Rattle.surf_cli.specs.declared.statuses.End.TheVariants.{Read, Memory, TooLong}
use Rattle.surf_cli.specs.Files.{NamedFile, limit_of}
use Rattle.surf_cli.specs.Contents.{Contents}
use Rattle.surf_cli.specs.Meaning.{Outcome, Stops, with_file, with_files}
use Rattle.surf_cli.specs.Runs.{MayHold, MayHoldAll, NamesAbsent, PassesLimit, WithinLast}

-- how a run ends that meets this fault
abbrev pub end_of : TakeFault → End
end_of fault.Failed = Read
end_of fault.TooLong = TooLong
end_of (fault.Memory refused) = Memory

-- what a command comes to that meets this fault
abbrev pub StopsAt : Outcome → TakeFault → ℕ → ℕ → Type 0
StopsAt m fault.Failed faults faults' = Rose faults faults' ⊎ (m ≡ Stops Read)
StopsAt m fault.TooLong faults faults' = m ≡ Stops TooLong
StopsAt m (fault.Memory refused) faults faults' = Unit {0}

-- the cause of a fault
abbrev pub IsCause : List NamedFile → TakeFault → (List ℕ → Held) → ℕ → ℕ → ℕ → Type 0
IsCause files fault.Failed held faults faults' taken = Rose faults faults' ⊎ NamesAbsent held files
IsCause files fault.TooLong held faults faults' taken = PassesLimit taken files
IsCause files (fault.Memory refused) held faults faults' taken = Unit {0}

-- the files were read, in order, and with what they hold the contents are these
pub record GotFiles (files : List NamedFile) (held held' : List ℕ → Held) (faults faults' taken : ℕ)
    (got got' : Contents) : Type 0 where
  pub stays : held' ≡ held
  pub counts : faults ≤ faults'
  pub within : WithinLast taken files
  pub contents : List (Option (List ℕ))
  pub observed : MayHoldAll held files contents
  pub meant : (next : Contents → Outcome) → with_files files contents got next ≡ next got'

-- one of the files was not read: a command comes to an end so, whatever it would have gone on to
pub record GotNone (files : List NamedFile) (held held' : List ℕ → Held) (faults faults' taken : ℕ)
    (fault : TakeFault) : Type 0 where
  pub stays : held' ≡ held
  pub counts : faults ≤ faults'
  pub some : files ≢ []
  pub cause : IsCause files fault held faults faults' taken
  pub contents : List (Option (List ℕ))
  pub observed : MayHoldAll held files contents
  pub meant : (got : Contents) (next : Contents → Outcome)
      → StopsAt (with_files files contents got next) fault faults faults'

-- a file was read
pub record GotFile (file : NamedFile) (held held' : List ℕ → Held) (faults faults' taken : ℕ) (bytes : List ℕ)
    : Type 0 where
  pub stays : held' ≡ held
  pub counts : faults ≤ faults'
  pub within : taken ≤ limit_of file.kind
  pub observed : MayHold (held file.name) (Some bytes)
  pub short : length bytes ≤ limit_of file.kind

-- a file was not read
pub record NotGot (file : NamedFile) (held held' : List ℕ → Held) (faults faults' taken : ℕ)
    (fault : TakeFault) : Type 0 where
  pub stays : held' ≡ held
  pub counts : faults ≤ faults'
  pub cause : IsCause (file ∷ []) fault held faults faults' taken
  pub content : Option (List ℕ)
  pub observed : MayHold (held file.name) content
  pub meant : (next : List ℕ → Outcome) → StopsAt (with_file file.kind content next) fault faults faults'
