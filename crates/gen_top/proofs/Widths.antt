-- The number of a link's credits.
use Rattle.std.proofs.Common.{◌≡◌, ℕ, ◌+◌, ◌*◌, ◌≤◌, ◌<◌, length, take, sym, ap, ◌∙◌, arith, ⊎_elim}
use Rattle.std.specs.Prelude.{sum_by}
use Rattle.std.proofs.lemmas.List.{take_all}
use Rattle.std.proofs.lemmas.List.Sums.{sum_by_more}
use Rattle.std.proofs.lemmas.Option.{slice_get_cases}
use Rattle.noc_model.specs.declared.plan.DomainPart.{DomainPart}
use Rattle.noc_model.specs.Plan.{Plan, classes, channels_in, link_channels, all_link_channels}

-- the credits of the domains below k
abbrev pub credits_below : Plan → ℕ → ℕ
credits_below p k = all_link_channels (classes p) (take k p.domains)

pub credits_more : (p : Plan) (k : ℕ) → k < length p.domains → credits_below p (k + 1) ≡ credits_below p k + link_channels p k
credits_more p k less =
    let f : DomainPart → ℕ = λ (x : DomainPart). classes p * x.channels in
    ⊎_elim
    (λ found.
    let same : link_channels p k ≡ classes p * found.0.channels = ap (λ o. classes p * channels_in o) found.2 in
    sum_by_more f p.domains k found.0 found.1 ∙ ap (λ n. sum_by f (take k p.domains) + n) (ap f found.3 ∙ sym same))
    (λ past. absurd (omega (arith, past.0, less)))
    (slice_get_cases p.domains k).1

pub credits_all : (p : Plan) (k : ℕ) → length p.domains ≤ k → credits_below p k ≡ all_link_channels (classes p) p.domains
credits_all p k le = ap (all_link_channels (classes p)) (take_all k p.domains le)
