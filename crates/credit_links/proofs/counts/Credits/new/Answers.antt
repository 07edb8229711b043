use Rattle.std.proofs.Common.{List, ℕ, map, replicate, ap, ◌∙◌, length}
use Rattle.std.specs.List.{range_with_len}
use Rattle.noc_model.specs.Inputs.{input_count}
use Rattle.credit_links.specs.Counts.{Counts}
use Rattle.credit_links.proofs.Full.{map-replicate, full-within}
use Rattle.credit_links.proofs.counts.Credits.new.Goals as goal

pub invariant_of-result : goal.invariant_of-result
invariant_of-result c =
    λ d k. rw (c.in_ok-lanes.ensures, c.buffer.ensures, c.buffer-2.ensures) (full-within c.deref.result.now c.args.plan.now.buffer d k)

pub returns : goal.returns
returns c =
    let p = c.args.plan.now in
    let counts = c.deref.ensures.value ∙ c.in_ok-counts.ensures.value in
    let lanes = c.in_ok-lanes.ensures ∙ ap (λ cs. map (λ k. replicate k c.buffer.result) cs) counts
    ∙ ap (λ b. map (λ k. replicate k b) (map (input_count p) (range_with_len 0 (length p.domains)))) c.buffer.ensures
    ∙ map-replicate (input_count p) p.buffer (range_with_len 0 (length p.domains)) in
    ap (λ (v : List (List ℕ)). let w : Counts = record { lanes = v; buffer = c.buffer-2.result } in w) lanes
    ∙ ap (λ b. let w : Counts = record { lanes = map (λ d. replicate (input_count p d) p.buffer) (range_with_len 0 (length p.domains)); buffer = b } in w) c.buffer-2.ensures
