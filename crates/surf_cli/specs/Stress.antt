-- The summary of a stress run.
use Rattle.std.specs.Prelude.{ℕ, List, length}
use Rattle.noc_model.specs.declared.Event.{Event}
use Rattle.noc_model.specs.Plan.{Plan}
use Rattle.stress_gen.specs.Corners.{shared_corners}
use Rattle.stress_gen.specs.Sends.{stress_trace}
use Rattle.stress_gen.specs.Summary.{summary_line}
use Rattle.surf_cli.specs.Texts.{texts_below}
use Rattle.surf_cli.specs.Simulate.{events_alone}

-- the lines of all domains, in order, each of its own events
unfoldable pub summary_of : Plan → (ℕ → List Event) → List ℕ
summary_of p events = texts_below (length p.domains) (λ d. summary_line p d (events d))

-- the events of domain d in a network that holds this domain alone, driven by its own entries of the trace that is drawn
abbrev pub stress_events : ℕ → ℕ → ℕ → List Event
stress_events number cycles d = events_alone shared_corners (stress_trace shared_corners number cycles) cycles d

-- the summary of a stress run
abbrev pub stress_text : ℕ → ℕ → List ℕ
stress_text number cycles = summary_of shared_corners (stress_events number cycles)
