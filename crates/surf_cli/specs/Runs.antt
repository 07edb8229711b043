-- What a run of a command says of the outside: files that are read, and a sink that is written to.
use Rattle.std.specs.Prelude.{◌≡◌, ◌≢◌, ℕ, ◌+◌, ◌≤◌, ◌⊎◌, ◌↔◌, List, [], ◌∷◌, Option, Some, None}
use Rattle.surf_base.specs.Outside.{Held, Unobserved, Absent, Holds, Rose, appended, GotPrefix}
use Rattle.surf_cli.specs.declared.statuses.Status.{Status}
use Rattle.surf_cli.specs.declared.statuses.End.{End}
use Rattle.surf_cli.specs.declared.statuses.End.TheVariants.{Good, Usage, Refused, Read, Write, Memory, TooLong}
use Rattle.surf_cli.specs.Files.{NamedFile, limit_of}
use Rattle.surf_cli.specs.Jobs.{Command}
use Rattle.surf_cli.specs.Commands.{files_named}
use Rattle.surf_cli.specs.Lines.{Says, IsOfContents, line_of, status_of}
use Rattle.surf_cli.specs.Meaning.{Outcome, Makes, Halts, meaning}

-- The outside at a moment: what is observed of each name, the bytes taken since the last opening and the count of
-- faults of the files; what the sink has, where that is observed, and its count of faults.
pub record Outside : Type 0 where
  pub held : List ℕ → Held
  pub taken : ℕ
  pub file_faults : ℕ
  pub written : Option (List ℕ)
  pub faults : ℕ

-- what is seen of files and of a sink
abbrev pub outside : (List ℕ → Held) → ℕ → ℕ → Option (List ℕ) → ℕ → Outside
outside held taken file_faults written faults =
    record { held = held; taken = taken; file_faults = file_faults; written = written; faults = faults }

-- a file, of which this is observed, may hold this; nothing where it is absent
abbrev pub MayHold : Held → Option (List ℕ) → Type 0
MayHold Unobserved content = Unit {0}
MayHold Absent content = content ≡ None
MayHold (Holds bytes) content = content ≡ Some bytes

-- the files may hold these contents, one for each
abbrev pub MayHoldAll : (List ℕ → Held) → List NamedFile → List (Option (List ℕ)) → Type 0
MayHoldAll held [] [] = Unit {0}
MayHoldAll held (file ∷ files) (content ∷ contents) = MayHold (held file.name) content × MayHoldAll held files contents
MayHoldAll held _ _ = ⊥

-- one of the files is observed to be absent
abbrev pub NamesAbsent : (List ℕ → Held) → List NamedFile → Type 0
NamesAbsent held [] = ⊥
NamesAbsent held (file ∷ files) = (held file.name ≡ Absent) ⊎ NamesAbsent held files

-- one more byte was taken than some file of these may have
abbrev pub PassesLimit : ℕ → List NamedFile → Type 0
PassesLimit taken [] = ⊥
PassesLimit taken (file ∷ files) = (taken ≡ limit_of file.kind + 1) ⊎ PassesLimit taken files

-- no more was taken than the last of the files may have
abbrev pub WithinLast : ℕ → List NamedFile → Type 0
WithinLast taken [] = Unit {0}
WithinLast taken (file ∷ []) = taken ≤ limit_of file.kind
WithinLast taken (file ∷ files) = WithinLast taken files

-- all is done that is meant: bytes that are right were appended, or the run ends so and nothing was written
abbrev pub IsDone : Outcome → End → Option (List ℕ) → Option (List ℕ) → Type 0
IsDone m Good old new = (bytes : List ℕ) × Makes m bytes × (new ≡ appended old bytes)
IsDone m end old new = (new ≡ old) × Halts m end

-- A run ends so that comes to m: it ends as m says and has written what m says, but for failures of the outside and
-- of memory.
abbrev pub IsMeant : Outcome → End → Outside → Outside → Type 0
IsMeant m Good old new = IsDone m Good old.written new.written
IsMeant m Write old new = (bytes : List ℕ) × Makes m bytes × GotPrefix old.written new.written bytes
IsMeant m Memory old new = new.written ≡ old.written
IsMeant m Read old new = (new.written ≡ old.written) × (Rose old.file_faults new.file_faults ⊎ Halts m Read)
IsMeant m end old new = (new.written ≡ old.written) × Halts m end

-- the cause of an end, and how much was taken of the last file
abbrev pub HasCause : List NamedFile → End → Outside → Outside → Type 0
HasCause files Good old new = WithinLast new.taken files
HasCause files (Refused refusal) old new = IsOfContents refusal × WithinLast new.taken files
HasCause files Read old new = (files ≢ []) × (Rose old.file_faults new.file_faults ⊎ NamesAbsent old.held files)
HasCause files Write old new = Rose old.faults new.faults × WithinLast new.taken files
HasCause files TooLong old new = PassesLimit new.taken files
HasCause files _ old new = Unit {0}

-- What a run says: words that are no command are refused, and no others; what is held stays, and counts do not fall;
-- the end has its cause; and end and bytes are the command's meaning over contents that agree with all that is
-- observed of its files, but for failures of the outside and of memory.
pub record Runs (command : Option Command) (old : Outside) (end : End) (new : Outside) : Type 0 where
  pub usage : (end ≡ Usage) ↔ (command ≡ None)
  pub held : new.held ≡ old.held
  pub file_faults : old.file_faults ≤ new.file_faults
  pub faults : old.faults ≤ new.faults
  pub cause : HasCause (files_named command) end old new
  pub contents : List (Option (List ℕ))
  pub observed : MayHoldAll old.held (files_named command) contents
  pub meant : IsMeant (meaning command contents) end old new

-- a run of the program: it ends with a status, whose line is on the error stream
pub record Ends (command : Option Command) (old : Outside) (status : Status) (new : Outside)
    (said said' : Option (List ℕ)) (faults faults' : ℕ) : Type 0 where
  pub end : End
  pub is : status ≡ status_of end
  pub runs : Runs command old end new
  pub line : Says (line_of end) said said' faults faults'

-- The status, the bytes and the line are the command's meaning over contents that agree with all that is observed of
-- its files.
pub record Completes (command : Option Command) (held : List ℕ → Held) (status : Status)
    (old new said said' : Option (List ℕ)) (faults faults' : ℕ) : Type 0 where
  pub contents : List (Option (List ℕ))
  pub observed : MayHoldAll held (files_named command) contents
  pub end : End
  pub is : status ≡ status_of end
  pub done : IsDone (meaning command contents) end old new
  pub line : Says (line_of end) said said' faults faults'
