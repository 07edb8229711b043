-- The reports of a text that a trace drives.
use Rattle.std.specs.Prelude.{◌≡◌, ◌<◌, ℕ, List, length}
use Rattle.noc_model.specs.declared.Event.{Event}
use Rattle.noc_model.specs.Plan.{Plan}
use Rattle.noc_model.specs.Report.{report}
use Rattle.trace_read.specs.declared.entries.Entry.{Entry}
use Rattle.tile_drive.specs.TraceDriver.{trace_driver, untaken}
use Rattle.vl_tree.specs.Values.{Design}
use Rattle.gen_kit.specs.Replayed.{replayed, at_start}
use Rattle.surf_cli.specs.Simulate.{events_of}
use Rattle.surf_cli.specs.Texts.{texts_below}

-- the events of domain k at the ports of the design, from memories of 0, driven by the trace
abbrev pub events_replayed : Plan → Design → List Entry → ℕ → ℕ → List Event
events_replayed p d es cycles k = replayed p d (trace_driver p es) k cycles 0 (at_start d (λ j. untaken))

-- each domain's events among these are those at the ports of the design
abbrev pub AreReplayed : Plan → Design → List Event → List Entry → ℕ → Type 0
AreReplayed p d events es cycles = (k : ℕ) → k < length p.domains → events_of events k ≡ events_replayed p d es cycles k

-- the report of domain k
unfoldable pub replayed_report : Plan → Design → List Entry → ℕ → ℕ → List ℕ
replayed_report p d es cycles k = report p k (events_replayed p d es cycles k)

-- the reports of all domains, in order
abbrev pub replayed_text : Plan → Design → List Entry → ℕ → List ℕ
replayed_text p d es cycles = texts_below (length p.domains) (replayed_report p d es cycles)
