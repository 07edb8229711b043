-- What the laws say of the texts that compiling gives.
use Rattle.std.specs.Prelude.{◌≡◌, ◌≤◌, ℕ, true, false, List, [], ◌∷◌, length, codes, Some}
use Rattle.noc_model.specs.Plan.{Plan}
use Rattle.vl_tree.specs.Values.{Name, Design}
use Rattle.vl_tree.specs.Spells.{Spells}
use Rattle.vl_model.specs.Whole.{Nets, IsRun}
use Rattle.right_design.specs.Alike.{AreAlike}
use Rattle.surf_cli.specs.Limits.{text_limit}
use Rattle.surf_cli.specs.Contents.{Contents}
use Rattle.surf_cli.specs.Jobs.{Simulate, Replay, Compile}
use Rattle.surf_cli.specs.Commands.{command_of}
use Rattle.surf_cli.specs.Meaning.{Described, Makes, judged, over, meaning}

-- Whatever text compiling a description may write, its replay is the simulation of the description: the two commands
-- come to the same end, with the same bytes, for every trace and cycle count.
abbrev pub CompiledIsSimulated : Type 0
CompiledIsSimulated = (held : Contents) (cycles : ℕ) → Makes (over Compile held) held.text
    → over (Replay cycles) held ≡ over (Simulate cycles) held

-- By the words: whatever text V `compile D` may write, where it is within its file's limit, `replay D V T CYCLES` means
-- what `simulate D T CYCLES` means, over every content of D and T.
abbrev pub CompileThenReplay : Type 0
CompileThenReplay = (d v t cycles description text trace : List ℕ)
    → Makes (meaning (command_of (codes "compile" ∷ d ∷ [])) (Some description ∷ [])) text → length text ≤ text_limit
    → meaning (command_of (codes "replay" ∷ d ∷ v ∷ t ∷ cycles ∷ [])) (Some description ∷ Some text ∷ Some trace ∷ [])
    ≡ meaning (command_of (codes "simulate" ∷ d ∷ t ∷ cycles ∷ [])) (Some description ∷ Some trace ∷ [])

-- In whatever text compiling a description may write domains don't interfere: two runs whose inputs agree at the ports
-- of a domain in every cycle have equal outputs at them in every cycle, whatever else the inputs are, and for any two
-- first contents of memories.
abbrev pub CompiledDomainsApart : Type 0
CompiledDomainsApart = (held : Contents) (text : List ℕ) (p : Plan) (d : Design) → Makes (over Compile held) text
    → judged held.description ≡ Described p → Spells text d
    → (k : ℕ) (first first_other : Name → Name → ℕ → ℕ) (one other : ℕ → Name → ℕ) (values others : ℕ → Nets)
    → IsRun d first one values → IsRun d first_other other others
    → ((t : ℕ) → AreAlike p k false (one t) (other t))
    → (t : ℕ) → AreAlike p k true (values t).top (others t).top
