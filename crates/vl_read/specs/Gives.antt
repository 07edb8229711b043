-- That a function of the code gives what a reader of tokens gives.
use Rattle.std.specs.Prelude.{◌≡◌, ℕ, Result, Ok, Err}
use Rattle.vl_read.specs.declared.error.ReadError.{ReadError}
use Rattle.vl_read.specs.declared.error.ReadError.TheVariants.{Memory, At}

-- the error of the code where reading gives this; that memory runs out is always allowed
abbrev pub Fails : {Y : Type 0} → ReadError → Result Y ℕ → Type 0
Fails (Memory e) read = Unit {0}
Fails (At n) read = read ≡ Err n

-- what the code returned, seen by view, is what reading gives
abbrev pub Gives : {X Y : Type 0} → (X → Y) → Result X ReadError → Result Y ℕ → Type 0
Gives view (Ok x) read = read ≡ Ok (view x)
Gives view (Err e) read = Fails e read
