-- A set of the numbers below n, as a number of n bits.
use Rattle.std.specs.Prelude.{ℕ, zero, suc, ◌+◌, ◌*◌, ◌^◌, Bool}
use Rattle.vl_model.specs.Meaning.{one_if}

-- the sum of the members' powers of two
abbrev pub mask : ℕ → (ℕ → Bool) → ℕ
mask zero set = 0
mask (suc n) set = one_if (set n) * 2 ^ n + mask n set
