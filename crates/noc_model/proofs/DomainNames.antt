-- The domain of a name is the first of this name, since no two have one.
use Rattle.std.proofs.Common.{◌≡◌, ◌≢◌, ℕ, ◌<◌, Bool, true, false, ltb, Option, Some, None, List, [], length, get_or, refl, sym, ◌∙◌, ap, arith}
use Rattle.std.specs.Prelude.{IfSome, IfNone}
use Rattle.std.specs.List.{position_or_len}
use Rattle.std.specs.Str.{bytes_eq}
use Rattle.std.proofs.lemmas.Bool.Decides.{nat_tests, Decides-eqb}
use Rattle.std.proofs.lemmas.Slice.Eq.{slice_eq-Decides}
use Rattle.std.proofs.lemmas.List.Sums.{position_or_len_is}
use Rattle.std.proofs.lemmas.Option.{slice_get-get_or}
use Rattle.noc_model.specs.declared.plan.DomainPart.{DomainPart}
use Rattle.noc_model.specs.Plan.{Plan, name_of, name_in, domain_named}
use Rattle.noc_model.specs.Sound.{IsSound}

-- a domain that no plan reads
abbrev no_domain : DomainPart
no_domain = record { name = []; channels = 0 }

-- the name of a domain that there is
named : (p : Plan) (d : ℕ) → d < length p.domains → name_of p d ≡ (get_or p.domains d no_domain).name
named p d within = ap name_in (slice_get-get_or p.domains d no_domain within)

-- the test of names
same : (a b : List ℕ) → a ≡ b → bytes_eq a b ≡ true
same a b e = (slice_eq-Decides Decides-eqb a b (bytes_eq a b) refl).1 e

differ : (a b : List ℕ) → a ≢ b → bytes_eq a b ≡ false
differ a b n = go (bytes_eq a b) refl
  where
    go : (t : Bool) → bytes_eq a b ≡ t → bytes_eq a b ≡ false
    go true e = absurd (n ((slice_eq-Decides Decides-eqb a b (bytes_eq a b) refl).0 e))
    go false e = e

-- the answer of a search for the name
pub domain_named-is : (p : Plan) (name : List ℕ) (r : Option ℕ) → IsSound p
    → IfSome r (λ d. (d < length p.domains) × (name_of p d ≡ name))
    → IfNone r ((d : ℕ) → d < length p.domains → name_of p d ≢ name) → r ≡ domain_named p name
domain_named-is p name (Some d) sound found absent =
    let test : DomainPart → Bool = λ x. bytes_eq x.name name in
    let here : bytes_eq (get_or p.domains d no_domain).name name ≡ true =
    same _ _ (sym (named p d found.0) ∙ found.1) in
    let first : position_or_len test p.domains ≡ d = position_or_len_is test p.domains d no_domain (omega arith)
    (λ k below. differ _ _ (λ e. sound.names_apart k d no_domain below found.0 (e ∙ sym found.1 ∙ named p d found.0)))
    (λ within. here) in
    let inside : ltb d (length p.domains) ≡ true = grind (arith, nat_tests) in
    rw (first, inside) refl
domain_named-is p name None sound found absent =
    let test : DomainPart → Bool = λ x. bytes_eq x.name name in
    let first : position_or_len test p.domains ≡ length p.domains = position_or_len_is test p.domains (length p.domains) no_domain (omega arith)
    (λ k below. differ _ _ (λ e. absent k below (named p k below ∙ e)))
    (λ within. absurd (omega arith)) in
    let past : ltb (length p.domains) (length p.domains) ≡ false = grind (arith, nat_tests) in
    rw (first, past) refl
