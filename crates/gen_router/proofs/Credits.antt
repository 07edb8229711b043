-- The numbers of credits.
use Rattle.std.proofs.Common.{◌≡◌, ℕ, zero, suc, ◌+◌, ◌*◌, ◌≤◌, ◌<◌, Bool, true, false, List, length, take, refl, sym, ap, ◌∙◌, arith, add-one, Some, ⊎_elim}
use Rattle.std.specs.Prelude.{nat_le, if◌then◌else◌, sum_by, slice_get}
use Rattle.std.proofs.lemmas.Bool.Decides.{nat_tests}
use Rattle.std.proofs.lemmas.List.{take_all}
use Rattle.std.proofs.lemmas.List.Sums.{sum_by_more}
use Rattle.std.proofs.lemmas.Option.{slice_get_cases}
use Rattle.noc_model.specs.declared.plan.DomainPart.{DomainPart}
use Rattle.noc_model.specs.Plan.{Plan, classes, channels_in, link_channels, all_link_channels}
use Rattle.gen_kit.specs.Shape.{credit_bits}
use Rattle.leaf_tie.specs.Names.{credit_base, credit_domain_below}

pub base_more : (p : Plan) (d : ℕ) → credit_base p (d + 1) ≡ credit_base p d + link_channels p d
base_more p d = rw (add-one d) refl

chosen_when : (b : Bool) (x y : ℕ) → b ≡ true → (if b then x else y) ≡ x
chosen_when true x y e = refl
chosen_when false x y e = absurd (cc e)

chosen_unless : (b : Bool) (x y : ℕ) → b ≡ false → (if b then x else y) ≡ y
chosen_unless true x y e = absurd (cc e)
chosen_unless false x y e = refl

pub below_found : (p : Plan) (k r : ℕ) → credit_base p k ≤ r → credit_domain_below p (k + 1) r ≡ k
below_found p k r le =
    let t : nat_le (credit_base p k) r ≡ true = grind (arith, nat_tests) in
    rw (add-one k) (chosen_when (nat_le (credit_base p k) r) k (credit_domain_below p k r) t)

pub below_skipped : (p : Plan) (k r : ℕ) → r < credit_base p k → credit_domain_below p (k + 1) r ≡ credit_domain_below p k r
below_skipped p k r lt =
    let t : nat_le (credit_base p k) r ≡ false = grind (arith, nat_tests) in
    rw (add-one k) (chosen_unless (nat_le (credit_base p k) r) k (credit_domain_below p k r) t)

base_is : (p : Plan) (k : ℕ) → k ≤ length p.domains → credit_base p k ≡ sum_by (λ (x : DomainPart). classes p * x.channels) (take k p.domains)
base_is p zero le = refl
base_is p (suc k) le =
    let f : DomainPart → ℕ = λ (x : DomainPart). classes p * x.channels in
    ⊎_elim
    (λ found.
    let more = sum_by_more f p.domains k found.0 found.1 in
    let same : link_channels p k ≡ classes p * found.0.channels = ap (λ o. classes p * channels_in o) found.2 in
    let last = ap f found.3 in
    let ih = base_is p k (omega (arith, le)) in
    ap (λ n. n + link_channels p k) ih ∙ (ap (λ n. sum_by f (take k p.domains) + n) (same ∙ sym last)
    ∙ (sym more ∙ ap (λ n. sum_by f (take n p.domains)) (add-one k))))
    (λ past. absurd (omega (arith, past.0, le)))
    (slice_get_cases p.domains k).1

pub base_whole : (p : Plan) → credit_base p (length p.domains) ≡ credit_bits p
base_whole p =
    let le : length p.domains ≤ length p.domains = omega arith in
    base_is p (length p.domains) le
    ∙ ap (sum_by (λ (x : DomainPart). classes p * x.channels)) (take_all (length p.domains) p.domains le)
