-- Which calls of a fake fail.
use Rattle.std.specs.Prelude.{◌≡◌, ℕ, ◌+◌, min, Contains}
use Rattle.surf_base.specs.declared.script.Script.{Script}

-- a count, one higher; it stands still at its type's end
abbrev pub raised : ℕ → ℕ
raised count = min (count + 1) 18446744073709551615

-- the next call is one of those that the script lets fail
abbrev pub FailsNext : Script → Type 0
FailsNext script = Contains script.fails.items (raised script.calls)

-- a call was counted, and a fault exactly where the call is faulty
pub record CountsCall (old new : Script) (IsFaulty : Type 0) : Type 0 where
  pub fails : new.fails ≡ old.fails
  pub calls : new.calls ≡ raised old.calls
  pub faulty : IsFaulty → new.faults ≡ raised old.faults
  pub faultless : ¬ IsFaulty → new.faults ≡ old.faults
