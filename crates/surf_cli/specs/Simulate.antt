-- The reports of a simulated run: of each domain as if it were alone.
use Rattle.std.specs.Prelude.{◌≡◌, ◌<◌, ℕ, ◌==◌, List, length, filter}
use Rattle.noc_model.specs.declared.Event.{Event}
use Rattle.noc_model.specs.Plan.{Plan}
use Rattle.noc_model.specs.Run.{start}
use Rattle.noc_model.specs.Driver.{driven_events}
use Rattle.noc_model.specs.Report.{report}
use Rattle.trace_read.specs.declared.entries.Entry.{Entry}
use Rattle.trace_read.specs.Restrict.{of_domain}
use Rattle.tile_drive.specs.TraceDriver.{trace_driver, untaken}
use Rattle.surf_cli.specs.Texts.{texts_below}

-- the events of domain d among these
abbrev pub events_of : List Event → ℕ → List Event
events_of events d = filter (λ (e : Event). e.domain == d) events

-- the events of domain d in a network that holds this domain alone, driven by its own entries
abbrev pub events_alone : Plan → List Entry → ℕ → ℕ → List Event
events_alone p es cycles d = driven_events p d (trace_driver p (of_domain p d es)) cycles 0 (start p) (λ j. untaken)

-- each domain's events among these are those of a network that holds this domain alone
abbrev pub AreAlone : Plan → List Event → List Entry → ℕ → Type 0
AreAlone p events es cycles = (d : ℕ) → d < length p.domains → events_of events d ≡ events_alone p es cycles d

-- the reports of all domains, in order, each of its own events
unfoldable pub reports_of : Plan → (ℕ → List Event) → List ℕ
reports_of p events = texts_below (length p.domains) (λ d. report p d (events d))

-- the report of domain d of a run
unfoldable pub report_text : Plan → List Entry → ℕ → ℕ → List ℕ
report_text p es cycles d = report p d (events_alone p es cycles d)

-- the reports of a run
abbrev pub reports_text : Plan → List Entry → ℕ → List ℕ
reports_text p es cycles = texts_below (length p.domains) (report_text p es cycles)
