-- The summary of a run that the drawn trace drives is that of each domain alone.
use Rattle.std.proofs.Common.{◌≡◌, ℕ, List, length, ap, ◌∙◌}
use Rattle.noc_model.specs.declared.Event.{Event}
use Rattle.noc_model.specs.Plan.{Plan}
use Rattle.trace_read.specs.declared.entries.Entry.{Entry}
use Rattle.stress_gen.specs.Corners.{shared_corners}
use Rattle.stress_gen.specs.Sends.{stress_trace}
use Rattle.stress_gen.specs.Summary.{summary_line}
use Rattle.surf_cli.specs.Simulate.{AreAlone, events_of, events_alone}
use Rattle.surf_cli.specs.Stress.{summary_of, stress_text}
use Rattle.surf_cli.proofs.Texts.{texts-same}

summary-alone : (p : Plan) (events : List Event) (es : List Entry) (cycles : ℕ) → AreAlone p events es cycles
    → summary_of p (events_of events) ≡ summary_of p (events_alone p es cycles)
unfolding summary_of
summary-alone p events es cycles alone =
    texts-same (length p.domains) (λ d. summary_line p d (events_of events d)) (λ d. summary_line p d (events_alone p es cycles d)) (λ d less. ap (summary_line p d) (alone d less))

pub stressed : (p : Plan) (events : List Event) (es : List Entry) (number cycles : ℕ) → p ≡ shared_corners → es ≡ stress_trace p number cycles → AreAlone p events es cycles
    → summary_of p (events_of events) ≡ stress_text number cycles
stressed p events es number cycles plan trace alone =
    summary-alone p events es cycles alone
    ∙ ap (λ (fs : List Entry). summary_of p (events_alone p fs cycles)) trace
    ∙ ap (λ (q : Plan). summary_of q (events_alone q (stress_trace q number cycles) cycles)) plan
