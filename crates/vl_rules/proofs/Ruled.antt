-- The first fault, rule by rule.
use Rattle.std.proofs.Common.{◌≡◌, ℕ, zero, suc, ◌+◌, ◌<◌, List, [], ◌∷◌, length, get_or, drop, map, refl, ◌∙◌, ap, arith, add-one}
use Rattle.vl_model.specs.Lines.{Site}
use Rattle.vl_model.specs.Rules.{first_fault_of, or_later}
use Rattle.vl_rules.specs.declared.check.Rule.{Rule}
use Rattle.vl_rules.specs.Check.{rule_of}
use Rattle.vl_rules.specs.Judge.{fault_by}

drop-more : (y : Rule) (xs : List Rule) (i : ℕ) → drop (i + 1) xs ≡ drop (suc i + 1) (y ∷ xs)
drop-more y xs i = rw (add-one (suc i), add-one i) refl

-- the first fault of the rules from the i-th on
pub fault_at : (xs : List Rule) (ps : List Site) (i : ℕ) (x : Rule) → i < length xs → x ≡ get_or xs i x
    → first_fault_of (map rule_of (drop i xs)) ps ≡ or_later (fault_by (rule_of x) ps) (first_fault_of (map rule_of (drop (i + 1) xs)) ps)
fault_at [] ps i x h e = absurd (omega arith)
fault_at (y ∷ xs) ps zero x h e = rw e refl
fault_at (y ∷ xs) ps (suc i) x h e =
    fault_at xs ps i x (omega arith) e
    ∙ ap (λ z. or_later (fault_by (rule_of x) ps) (first_fault_of (map rule_of z) ps)) (drop-more y xs i)
