-- A run whose files were not read, and what a run has done where nothing failed.
use Rattle.std.proofs.Common.{◌⊎◌, inl, inr, ◌≡◌, ◌≢◌, ℕ, List, [], refl, sym, subst, arith}
use Rattle.std.specs.Prelude.{Option, Some}
use Rattle.surf_base.specs.Outside.{Rose}
use Rattle.surf_base.specs.declared.reading.TakeFault.{TakeFault}
use Rattle.surf_base.specs.declared.reading.TakeFault.TheVariants as fault
use Rattle.surf_cli.specs.declared.statuses.End.{End}
use Rattle.surf_cli.specs.declared.statuses.End.TheVariants.{Good, Usage, Refused, Read, Write, Memory, TooLong}
use Rattle.surf_cli.specs.declared.statuses.Status.{Status}
use Rattle.surf_cli.specs.declared.statuses.Status.TheVariants as ended
use Rattle.surf_cli.specs.Files.{NamedFile}
use Rattle.surf_cli.specs.Contents.{nothing}
use Rattle.surf_cli.specs.Jobs.{Command}
use Rattle.surf_cli.specs.Lines.{Says, line_of, status_of}
use Rattle.surf_cli.specs.Meaning.{Outcome, over, meaning}
use Rattle.surf_cli.specs.Runs.{Outside, Runs, Completes, HasCause, IsMeant}
use Rattle.surf_cli.proofs.Judged.{halts}
use Rattle.surf_cli.specs.Reading.{end_of, StopsAt, IsCause, GotNone}

-- ---- the files were not read

none-usage : (f : TakeFault) → end_of f ≢ Usage
none-usage fault.Failed e = absurd cc
none-usage fault.TooLong e = absurd cc
none-usage (fault.Memory refused) e = absurd cc

none-cause : (files : List NamedFile) (f : TakeFault) (old new : Outside) → files ≢ [] → IsCause files f old.held old.file_faults new.file_faults new.taken → HasCause files (end_of f) old new
none-cause files fault.Failed old new some cause = (some, cause)
none-cause files fault.TooLong old new some cause = cause
none-cause files (fault.Memory refused) old new some cause = tt

none-meant : (m : Outcome) (f : TakeFault) (old new : Outside) → new.written ≡ old.written
    → StopsAt m f old.file_faults new.file_faults → IsMeant m (end_of f) old new
none-meant m fault.Failed old new written stops = (written, elim stops [ inl rose ↦ inl rose | inr e ↦ inr (halts m Read e) ])
none-meant m fault.TooLong old new written stops = (written, halts m TooLong stops)
none-meant m (fault.Memory refused) old new written stops = written

-- a command whose files were not read
pub Runs-none : (command : Command) (f : TakeFault) (end : End) (old new : Outside) → end ≡ end_of f
    → GotNone command.files old.held new.held old.file_faults new.file_faults new.taken f → new.written ≡ old.written → new.faults ≡ old.faults → Runs (Some command) old end new
Runs-none command f end old new is got written faults =
    subst (λ x. Runs (Some command) old x new) (sym is)
    (record {
      usage = (λ e. absurd (none-usage f e), λ e. absurd cc);
      held = got.stays;
      file_faults = got.counts;
      faults = omega (arith, faults);
      cause = none-cause command.files f old new got.some got.cause;
      contents = got.contents;
      observed = got.observed;
      meant = none-meant (meaning (Some command) got.contents) f old new written (got.meant nothing (over command.job));
    })

-- ---- where nothing failed

complete : (command : Option Command) (old new : Outside) (end : End) (said said' : Option (List ℕ)) (faults faults' : ℕ)
    → Runs command old end new → Says (line_of end) said said' faults faults'
    → (Rose old.file_faults new.file_faults → ⊥) → (Rose old.faults new.faults → ⊥)
    → (status_of end ≡ ended.Memory) ⊎ Completes command old.held (status_of end) old.written new.written said said' faults faults'
complete command old new Good said said' faults faults' runs line files sink =
    inr record { contents = runs.contents; observed = runs.observed; end = Good; is = refl; done = runs.meant; line = line }
complete command old new Usage said said' faults faults' runs line files sink =
    inr record { contents = runs.contents; observed = runs.observed; end = Usage; is = refl; done = runs.meant; line = line }
complete command old new (Refused r) said said' faults faults' runs line files sink =
    inr record { contents = runs.contents; observed = runs.observed; end = Refused r; is = refl; done = runs.meant; line = line }
complete command old new TooLong said said' faults faults' runs line files sink =
    inr record { contents = runs.contents; observed = runs.observed; end = TooLong; is = refl; done = runs.meant; line = line }
complete command old new Memory said said' faults faults' runs line files sink = inl refl
complete command old new Write said said' faults faults' runs line files sink = absurd (sink runs.cause.0)
complete command old new Read said said' faults faults' runs line files sink = elim runs.meant.1 [
  | inl rose ↦ absurd (files rose)
  | inr ends ↦ inr record { contents = runs.contents; observed = runs.observed; end = Read; is = refl; done = (runs.meant.0, ends); line = line }
]

-- where nothing failed, memory ran out, or all is done that the command means
pub Runs-complete : (command asked : Option Command) (old new : Outside) (end : End) (status : Status) (said said' : Option (List ℕ)) (faults faults' : ℕ) → asked ≡ command → status ≡ status_of end
    → Runs asked old end new → Says (line_of end) said said' faults faults' → (Rose old.file_faults new.file_faults → ⊥) → (Rose old.faults new.faults → ⊥)
    → (status ≡ ended.Memory) ⊎ Completes command old.held status old.written new.written said said' faults faults'
Runs-complete command asked old new end status said said' faults faults' same is runs line files sink =
    subst (λ s. (s ≡ ended.Memory) ⊎ Completes command old.held s old.written new.written said said' faults faults') (sym is)
    (complete command old new end said said' faults faults' (subst (λ c. Runs c old end new) same runs) line files sink)
