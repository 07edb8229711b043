use Rattle.std.proofs.Common.{map, ◌++◌, ◌∷◌, [], List, ℕ, ap, sym, ◌∙◌, arith}
use Rattle.std.specs.List.{range_with_len}
use Rattle.std.proofs.lemmas.List.FromFn.{map-range_with_len_more}
use Rattle.noc_model.specs.declared.plan.DomainPart.{DomainPart}
use Rattle.stress_gen.specs.Corners.{domain}
use Rattle.stress_gen.proofs.corners.domains.Goals as goal

pub loop-d-preserved : goal.loop-d-preserved
loop-d-preserved c =
    let made : List ℕ → DomainPart = λ name. record { name = name; channels = 1 } in
    c.in_ok-push.ensures.items
    ∙ ap (λ (ds : List DomainPart). ds ++ made c.in_ok-name.name ∷ []) c.loop-d.invariant
    ∙ ap (λ (name : List ℕ). map domain (range_with_len 0 c.loop-d.d) ++ made name ∷ []) c.in_ok-name.ensures
    ∙ sym (map-range_with_len_more domain 0 c.loop-d.d c.loop-d.d (omega arith))
