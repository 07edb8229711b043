use Rattle.std.proofs.Common.{◌≡◌, ◌<◌, ℕ, None}
use Rattle.credit_links.specs.Rows.{place_at}
use Rattle.cycle_sim.specs.Links.{row_of}
use Rattle.cycle_sim.proofs.wake.has_no_flits.Given as goal

abbrev pub invariant-loop-port : goal.invariant-loop-port
invariant-loop-port l = (o i : ℕ) → o < l.port → place_at (row_of l.plan l.rows l.tile o) i ≡ None
