-- To upgrade is harmless: the draft of a sound plan has no fault, and says the same plan.
use Rattle.std.proofs.Common.{◌≡◌, length, None, ◌≤◌, ℕ, false, refl, subst, sym, arith}
use Rattle.std.specs.Prelude.{nat_lt}
use Rattle.std.proofs.lemmas.Bool.Decides.{nat_tests}
use Rattle.noc_model.specs.Plan.{Plan, places}
use Rattle.noc_model.specs.Sound.{IsSound}
use Rattle.noc_desc.specs.declared.DescFault.TheVariants.{PlacesMany, AttachMany}
use Rattle.desc_check.specs.Faults.{places_fault, attach_fault}
use Rattle.desc_check.specs.Accepted.{plan_fault, first_fault}
use Rattle.desc_check.specs.Upgrade.{upgrade_of}
use Rattle.desc_check.proofs.Judged.{none_of_all}
use Rattle.desc_check.proofs.Faultless.{no-fault, none-of-both, lists-none, slots-none}
use Rattle.desc_check.proofs.SamePlan.{same-plan}

not-more : (most n : ℕ) → n ≤ most → nat_lt most n ≡ false
not-more most n h = grind (arith, nat_tests)

plan-none : (p : Plan) → IsSound p → plan_fault p ≡ None
plan-none p sound =
    none-of-both (places_fault (places p)) _ (no-fault (nat_lt 24576 (places p)) (PlacesMany (places p))
    (not-more 24576 (places p) sound.place_count))
    (none-of-both (attach_fault (length p.hosts)) None
    (no-fault (nat_lt 256 (length p.hosts)) (AttachMany (length p.hosts))
    (not-more 256 (length p.hosts) sound.host_count)) refl)

pub faultless : (p : Plan) → IsSound p → first_fault (upgrade_of p) ≡ None
faultless p sound =
    none_of_all (upgrade_of p) (lists-none p sound)
    (subst (λ (q : Plan). plan_fault q ≡ None) (sym (same-plan p sound)) (plan-none p sound)) (slots-none p sound)
