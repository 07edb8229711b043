-- The draws from a number: those of a linear congruential generator, by their upper bits.
use Rattle.std.specs.Prelude.{ℕ, zero, suc, ◌+◌, ◌*◌, ◌/◌, ◌%◌, ◌^◌}

-- the number that comes next
abbrev pub next : ℕ → ℕ
next x = (x * 6364136223846793005 + 1442695040888963407) % 2 ^ 64

-- the upper 31 bits of a number
abbrev pub upper : ℕ → ℕ
upper x = x / 2 ^ 33

-- the number after so many draws from x
abbrev pub after_draws : ℕ → ℕ → ℕ
after_draws x zero = x
after_draws x (suc k) = next (after_draws x k)

-- draw k from x, from 0
abbrev pub draw : ℕ → ℕ → ℕ
draw x k = upper (after_draws x (suc k))
