-- What the laws say of right texts, and of texts that are audited.
use Rattle.std.specs.Prelude.{◌≡◌, ℕ, List, [], ◌∷◌, codes, Some, None}
use Rattle.noc_model.specs.Plan.{Plan}
use Rattle.noc_model.specs.Sound.{IsSound}
use Rattle.vl_tree.specs.Values.{Design}
use Rattle.vl_tree.specs.Spells.{Spells}
use Rattle.vl_model.specs.Rules.{IsSound as IsSoundDesign}
use Rattle.gen_kit.specs.Ports.{ports_fault}
use Rattle.gen_kit.specs.Right.{IsRightText}
use Rattle.label_model.specs.Lawful.{Isolates}
use Rattle.label_audit.specs.Audited.{port_domain}
use Rattle.surf_cli.specs.Simulate.{reports_text}
use Rattle.surf_cli.specs.Replay.{replayed_text}
use Rattle.surf_cli.specs.Contents.{Contents}
use Rattle.surf_cli.specs.Jobs.{Simulate, Replay}
use Rattle.surf_cli.specs.Commands.{command_of}
use Rattle.surf_cli.specs.Meaning.{Described, Exactly, Does, Makes, judged, with_trace, with_text, over, meaning}

-- The replay of a right text of the plan is the simulation: for every trace and cycle count it comes to the same end,
-- with the same bytes.
abbrev pub ReplayIsSimulate : Type 0
ReplayIsSimulate = (p : Plan) (text trace : List ℕ) (cycles : ℕ) → IsSound p → IsRightText p text
    → with_text p text (λ d. with_trace p trace (λ es. Does (Exactly (replayed_text p d es cycles))))
    ≡ with_trace p trace (λ es. Does (Exactly (reports_text p es cycles)))

-- So the two commands come to the same end over what their files hold, where the description is accepted and the text
-- is a right one of its plan.
abbrev pub CommandsAgree : Type 0
CommandsAgree = (p : Plan) (held : Contents) (cycles : ℕ) → judged held.description ≡ Described p
    → IsRightText p held.text → over (Replay cycles) held ≡ over (Simulate cycles) held

-- By the words: where `audit D V` may end well, with whatever bytes, D's plan is accepted, and V spells a sound design
-- with the plan's ports that isolates every domain of the plan.
abbrev pub AuditedIsolates : Type 0
AuditedIsolates = (d v description text bytes : List ℕ)
    → Makes (meaning (command_of (codes "audit" ∷ d ∷ v ∷ [])) (Some description ∷ Some text ∷ [])) bytes
    → (p : Plan) × (design : Design) × (judged description ≡ Described p) × Spells text design × IsSoundDesign design
    × (ports_fault p design ≡ None) × ((e : ℕ) → Isolates design (port_domain p) e)
