-- Texts that are compiled: they are made, replayed, and run.
use Rattle.std.proofs.Common.{◌≡◌, ℕ, Bool, true, false, List, [], ◌∷◌, length, refl, ◌∙◌, ap, sym, subst, arith}
use Rattle.std.specs.Prelude.{Option, Some, None, nat_le, if◌then◌else◌, option_map}
use Rattle.std.proofs.lemmas.Bool.Decides.{nat_tests}
use Rattle.surf_base.specs.Numbers.{decimal_in}
use Rattle.noc_model.specs.Limits.{most_cycles}
use Rattle.noc_model.specs.Plan.{Plan}
use Rattle.vl_tree.proofs.Designs.{one_spelled}
use Rattle.gen_kit.specs.Right.{IsRightDesign, IsRightText}
use Rattle.right_design.proofs.Apart.{domains-apart}
use Rattle.surf_cli.specs.declared.files.FileKind.{FileKind}
use Rattle.surf_cli.specs.declared.files.FileKind.TheVariants.{Description, Text, Trace}
use Rattle.surf_cli.specs.Limits.{text_limit}
use Rattle.surf_cli.specs.Files.{limit_of, file_of}
use Rattle.surf_cli.specs.Contents.{Contents}
use Rattle.surf_cli.specs.Jobs.{Simulate, Replay, Compile, command}
use Rattle.surf_cli.specs.declared.statuses.End.TheVariants.{TooLong}
use Rattle.surf_cli.specs.Meaning.{Outcome, Does, Stops, TextOf, Makes, Judged, Faulty, Described, judged, with_judged, with_plan, over, meaning}
use Rattle.surf_cli.specs.Compiled.{CompiledIsSimulated, CompileThenReplay, CompiledDomainsApart}
use Rattle.surf_cli.proofs.Replaying.{commands-agree}

-- a right text of the description's plan is right for what compiling it comes to
pub text-made : (held : Contents) (description bytes : List ℕ) (p : Plan) → description ≡ held.description
    → ((next : Plan → Outcome) → with_plan description next ≡ next p) → IsRightText p bytes → Makes (over Compile held) bytes
text-made held description bytes p e plan right =
    let meant = ap (λ d. with_plan d (λ q. Does (TextOf q))) (sym e) ∙ plan (λ q. Does (TextOf q)) in
    subst (λ m. Makes m bytes) (sym meant) right

-- ---- the laws

pub compiled-is-simulated : CompiledIsSimulated
compiled-is-simulated held cycles made = go (judged held.description) refl made
  where
    go : (j : Judged) → judged held.description ≡ j → Makes (with_judged j (λ p. Does (TextOf p))) held.text
        → over (Replay cycles) held ≡ over (Simulate cycles) held
    go (Faulty fault) is made = absurd made
    go (Described p) is made = commands-agree p held cycles is made

-- what the files of a replay hold
abbrev held_of : List ℕ → List ℕ → List ℕ → Contents
held_of description text trace = record { description = description; text = text; trace = trace }

-- what comes of a file of this kind with these bytes, and of a trace after it
abbrev sized : FileKind → List ℕ → Outcome → Outcome
sized kind bytes next = if nat_le (length bytes) (limit_of kind) then next else Stops TooLong

-- both commands, once their number of cycles is read
by-size : (description text trace : List ℕ) (cycles : ℕ) → nat_le (length text) text_limit ≡ true → (b : Bool)
    → Makes (if b then over Compile (held_of description text trace) else Stops TooLong) text
    → (if b then sized Text text (sized Trace trace (over (Replay cycles) (held_of description text trace))) else Stops TooLong)
    ≡ (if b then sized Trace trace (over (Simulate cycles) (held_of description text trace)) else Stops TooLong)
by-size description text trace cycles within true made =
    ap (λ b. if b then sized Trace trace (over (Replay cycles) (held_of description text trace)) else Stops TooLong) within
    ∙ ap (sized Trace trace) (compiled-is-simulated (held_of description text trace) cycles made)
by-size description text trace cycles within false made = absurd made

-- both commands, with what their last word reads as
by-cycles : (d v t description text trace : List ℕ) → nat_le (length text) text_limit ≡ true
    → Makes (sized Description description (over Compile (held_of description text trace))) text → (read : Option ℕ)
    → meaning (option_map (λ n. command (file_of Description d ∷ file_of Text v ∷ file_of Trace t ∷ []) (Replay n)) read)
    (Some description ∷ Some text ∷ Some trace ∷ [])
    ≡ meaning (option_map (λ n. command (file_of Description d ∷ file_of Trace t ∷ []) (Simulate n)) read)
    (Some description ∷ Some trace ∷ [])
by-cycles d v t description text trace within made None = refl
by-cycles d v t description text trace within made (Some n) =
    by-size description text trace n within (nat_le (length description) (limit_of Description)) made

pub compile-then-replay : CompileThenReplay
compile-then-replay d v t cycles description text trace made fits =
    let within : nat_le (length text) text_limit ≡ true = grind (arith, nat_tests) in
    by-cycles d v t description text trace within made (decimal_in most_cycles cycles)

pub compiled-domains-apart : CompiledDomainsApart
compiled-domains-apart held text p d made is spelled =
    let right : IsRightText p text = subst (λ j. Makes (with_judged j (λ q. Does (TextOf q))) text) is made in
    domains-apart p d (subst (IsRightDesign p) (one_spelled text right.design d right.spelled spelled) right.right)
