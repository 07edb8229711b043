-- Words that were dropped and not yet counted.
use Rattle.std.specs.Prelude.{ℕ, count_by}
use Rattle.noc_model.specs.Plan.{Plan}
use Rattle.noc_model.specs.Run.{State}
use Rattle.noc_model.specs.Events.{hosts_of}

-- how many drop pulses are to be counted in the cycle of the state
abbrev pub pulses : Plan → ℕ → State → ℕ
pulses p d s = count_by (λ n. (s n).dropped) (hosts_of p d)
