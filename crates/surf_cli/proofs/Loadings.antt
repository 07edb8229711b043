-- How many channels the domains have, and what a trace says.
use Rattle.std.proofs.Common.{◌≡◌, ℕ, zero, suc, ◌+◌, ◌<◌, Bool, true, false, ◌&&◌, ◌==◌, List, [], ◌∷◌, length, take, refl, ap, ◌∙◌, arith}
use Rattle.std.specs.Prelude.{slice_get, Option, Some, None, unwrap_or}
use Rattle.std.specs.List.{list_all}
use Rattle.std.specs.Str.Lines.{lines}
use Rattle.noc_model.specs.declared.plan.DomainPart.{DomainPart}
use Rattle.noc_model.specs.Plan.{Plan, channels_in}
use Rattle.trace_read.specs.declared.entries.Entry.{Entry}
use Rattle.trace_read.specs.declared.fault.TraceFault.{TraceFault}
use Rattle.trace_read.specs.Entries.{entries}
use Rattle.trace_read.specs.Accepted.{first_fault, trace_of, unless}
use Rattle.surf_cli.specs.Meaning.{Outcome, with_trace, unless_faulty}

and-true : (b : Bool) → (b && true) ≡ b
and-true true = refl
and-true false = refl

and-assoc : (a b c : Bool) → (a && (b && c)) ≡ ((a && b) && c)
and-assoc true b c = refl
and-assoc false b c = refl

-- one domain more
pub all-more : (xs : List DomainPart) (i : ℕ) → i < length xs
    → list_all (λ (x : DomainPart). x.channels == 1) (take (i + 1) xs) ≡ (list_all (λ (x : DomainPart). x.channels == 1) (take i xs) && (channels_in (slice_get xs i) == 1))
all-more [] i less = absurd (omega (arith, less))
all-more (x ∷ xs) zero less = and-true (x.channels == 1)
all-more (x ∷ xs) (suc i) less =
    let e : suc i + 1 ≡ suc (i + 1) = omega arith in
    rw e (ap (λ b. (x.channels == 1) && b) (all-more xs i (omega (arith, less))) ∙ and-assoc (x.channels == 1) _ _)

unless-some : (o : Option TraceFault) (xs es : List Entry) → unless o xs ≡ Some es → (o ≡ None) × (xs ≡ es)
unless-some None xs es e = (refl, ap (λ x. unwrap_or x xs) e)
unless-some (Some f) xs es e = absurd cc

trace-parts : (p : Plan) (bytes : List ℕ) (es : List Entry) → trace_of p bytes ≡ Some es → (first_fault p bytes ≡ None) × (entries p (lines bytes) ≡ es)
unfolding trace_of
trace-parts p bytes es e = unless-some (first_fault p bytes) (entries p (lines bytes)) es e

-- a trace without a fault
pub trace-read : (p : Plan) (bytes : List ℕ) (es : List Entry) → trace_of p bytes ≡ Some es → (next : List Entry → Outcome) → with_trace p bytes next ≡ next es
trace-read p bytes es e next =
    let parts = trace-parts p bytes es e in
    ap (λ o. unless_faulty o (next (entries p (lines bytes)))) parts.0 ∙ ap next parts.1
