use Rattle.std.proofs.Common.{map, ◌++◌, ◌∷◌, [], List, ap, sym, ◌∙◌, append_assoc, arith}
use Rattle.std.specs.List.{range_with_len}
use Rattle.std.proofs.lemmas.List.FromFn.{map-range_with_len_more}
use Rattle.noc_model.specs.declared.Host.{Host}
use Rattle.stress_gen.specs.Corners.{host}
use Rattle.stress_gen.proofs.corners.add_hosts.Goals as goal

pub loop-domain-preserved : goal.loop-domain-preserved
loop-domain-preserved c =
    let n = c.args.tile in
    let d = c.loop-domain.domain in
    let old = c.args.hosts.now.items in
    c.in_ok-push.ensures.items
    ∙ ap (λ (hs : List Host). hs ++ host n d ∷ []) c.loop-domain.invariant
    ∙ append_assoc old (map (host n) (range_with_len 0 d)) (host n d ∷ [])
    ∙ ap (λ (hs : List Host). old ++ hs) (sym (map-range_with_len_more (host n) 0 d d (omega arith)))
