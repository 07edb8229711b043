-- The credits of a link are numbered domain by domain.
use Rattle.std.proofs.Common.{◌≡◌, ℕ, zero, suc, ◌+◌, ◌-◌, ◌*◌, ◌<◌, ◌≤◌, ◌⊎◌, inl, inr, true, false, List, [], ◌∷◌, length, take, refl, sym, ◌∙◌, ap, subst, arith, add-one, get_or}
use Rattle.std.specs.Prelude.{Some, nat_le, if◌then◌else◌, slice_get, sum_by}
use Rattle.std.proofs.lemmas.Bool.Decides.{nat_tests}
use Rattle.std.proofs.lemmas.List.Sums.{sum_by_more, sum_by-take-le}
use Rattle.noc_model.specs.declared.plan.DomainPart.{DomainPart}
use Rattle.noc_model.specs.Plan.{Plan, classes, channels_in, link_channels}
use Rattle.gen_kit.specs.Shape.{credit_bits}
use Rattle.leaf_tie.specs.Names.{credit_base, credit_domain_below, credit_domain, credit_channel}
use Rattle.leaf_sound.proofs.Bits.{sizes-meet}
use Rattle.plan_design.specs.Laws.{SizesFit}

there : (xs : List DomainPart) (d : ℕ) (y : DomainPart) → d < length xs → slice_get xs d ≡ Some (get_or xs d y)
there [] d y below = absurd (omega (arith, below))
there (x ∷ xs) zero y below = refl
there (x ∷ xs) (suc d) y below = there xs d y (omega (arith, below))

module _ (p : Plan) where
  abbrev channels_of : DomainPart → ℕ
  channels_of x = classes p * x.channels

  base-next : (d : ℕ) → d < length p.domains → credit_base p d ≡ sum_by channels_of (take d p.domains) → credit_base p (suc d) ≡ sum_by channels_of (take (suc d) p.domains)
  base-next d below e = go p.domains refl
    where
      go : (xs : List DomainPart) → p.domains ≡ xs → credit_base p d + link_channels p d ≡ sum_by channels_of (take (suc d) p.domains)
      go [] none = absurd (let n : length p.domains ≡ 0 = ap length none in omega (arith, below, n))
      go (y ∷ ys) is =
          ap (λ k. k + link_channels p d) e ∙ ap (λ o. sum_by channels_of (take d p.domains) + classes p * channels_in o) (there p.domains d y below)
          ∙ sym (sum_by_more channels_of p.domains d y below) ∙ ap (λ k. sum_by channels_of (take k p.domains)) (add-one d)

  base-is : (d : ℕ) → d ≤ length p.domains → credit_base p d ≡ sum_by channels_of (take d p.domains)
  base-is zero le = refl
  base-is (suc d) le = base-next d (omega (arith, le)) (base-is d (omega (arith, le)))

  base-most : (d : ℕ) → d ≤ length p.domains → credit_base p d ≤ credit_bits p
  base-most d le = subst (λ k. k ≤ credit_bits p) (sym (base-is d le)) (sum_by-take-le channels_of p.domains d)

  base-grows : (a b : ℕ) → a ≤ b → credit_base p a ≤ credit_base p b
  base-grows a zero le = let same : a ≡ 0 = omega (arith, le) in subst (λ k. credit_base p k ≤ credit_base p 0) (sym same) (omega arith)
  base-grows a (suc b) le = go order (λ less. base-grows a b less)
    where
      order : (a ≤ b) ⊎ (a ≡ suc b)
      order = grind (arith, le)

      go : (a ≤ b) ⊎ (a ≡ suc b) → (a ≤ b → credit_base p a ≤ credit_base p b) → credit_base p a ≤ credit_base p (suc b)
      go (inl less) f = let more = f less in omega (arith, more)
      go (inr same) f = subst (λ k. credit_base p k ≤ credit_base p (suc b)) (sym same) (omega arith)

  found-below : (k d x : ℕ) → d < k → x < link_channels p d → credit_domain_below p k (credit_base p d + x) ≡ d
  found-below zero d x less few = absurd (omega (arith, less))
  found-below (suc k) d x less few = go order (λ below. found-below k d x below few)
    where
      order : (d < k) ⊎ (d ≡ k)
      order = grind (arith, less)

      go : (d < k) ⊎ (d ≡ k) → (d < k → credit_domain_below p k (credit_base p d + x) ≡ d) → (if nat_le (credit_base p k) (credit_base p d + x) then k else credit_domain_below p k (credit_base p d + x)) ≡ d
      go (inl below) f =
          let grows = base-grows (suc d) k below in
          let more : credit_base p d + x < credit_base p k = omega (arith, grows, few) in
          let not : nat_le (credit_base p k) (credit_base p d + x) ≡ false = grind (arith, nat_tests, more) in
          rw not (f below)
      go (inr same) f =
          let le : credit_base p k ≤ credit_base p d + x = subst (λ j. credit_base p j ≤ credit_base p d + x) same (omega arith) in
          let is : nat_le (credit_base p k) (credit_base p d + x) ≡ true = grind (arith, nat_tests, le) in
          rw is (sym same)

  domain-is : (d x : ℕ) → d < length p.domains → x < link_channels p d → credit_domain p (credit_base p d + x) ≡ d
  domain-is d x there few = found-below (length p.domains) d x there few

  channel-is : (d x : ℕ) → d < length p.domains → x < link_channels p d → credit_channel p (credit_base p d + x) ≡ x
  channel-is d x there few = ap (λ k. credit_base p d + x - credit_base p k) (domain-is d x there few) ∙ (let e : credit_base p d + x - credit_base p d ≡ x = omega arith in e)

pub sizes-fit : SizesFit
sizes-fit p sound = record {
  glue = sizes-meet p sound;
  below = λ d x there few. (let most = base-most p (suc d) (omega (arith, there)) in omega (arith, most, few));
  domain = λ d x there few. domain-is p d x there few;
  channel = λ d x there few. channel-is p d x there few;
}
