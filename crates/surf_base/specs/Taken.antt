-- What the answers of reading a whole file say.
use Rattle.std.specs.Prelude.{ℕ, List, ◌++◌, Option, Result, Err}
use Rattle.std.specs.Option.{option_map}
use Rattle.surf_base.specs.declared.reading.TakeFault.{TakeFault}
use Rattle.surf_base.specs.declared.reading.TakeFault.TheVariants.{Failed, TooLong}

-- a fact where the files failed
abbrev pub OnFailed : {T : Type 0} → Result T TakeFault → Type 0 → Type 0
OnFailed (Err Failed) P = P
OnFailed _ P = Unit {0}

-- a fact where the file was too long
abbrev pub OnTooLong : {T : Type 0} → Result T TakeFault → Type 0 → Type 0
OnTooLong (Err TooLong) P = P
OnTooLong _ P = Unit {0}

-- a fact of every answer but that the file was too long
abbrev pub UnlessTooLong : {T : Type 0} → Result T TakeFault → Type 0 → Type 0
UnlessTooLong (Err TooLong) P = Unit {0}
UnlessTooLong _ P = P

-- the whole content of a file that was read so far, where what is left of it is observed
abbrev pub content_of : List ℕ → Option (List ℕ) → Option (List ℕ)
content_of got left = option_map (λ rest. got ++ rest) left
