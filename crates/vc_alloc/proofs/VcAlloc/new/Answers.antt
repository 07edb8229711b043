use Rattle.std.proofs.Common.{◌∙◌, ◌<◌, ℕ, length, ap, sym, replicate, None, subst}
use Rattle.vc_alloc.specs.Allocator.{Allocator, IsAllocator}
use Rattle.vc_alloc.specs.Shown.{IsFor}
use Rattle.vc_alloc.proofs.Starts.{is-start, start-is, start-for}
use Rattle.vc_alloc.proofs.VcAlloc.new.Goals as goal

pub invariant_of-result : goal.invariant_of-result
invariant_of-result c =
    let p = c.args.plan.now in
    let P : Allocator → Type 0 = IsAllocator in
    subst P
    (sym (start-is p c.known.ensures c.args.tile _ _ _ _ _ c.deref.result.now c.deref-2.result.now c.in_ok-channels.ensures c.in_ok-link_channels.ensures
    (c.deref.ensures.value ∙ c.in_ok-inputs.ensures.value) c.in_ok-holders.ensures (c.deref-2.ensures.value ∙ c.in_ok-outputs.ensures.value) c.in_ok-pointers.ensures
    (c.in_ok-best.ensures ∙ ap (λ k. replicate k None) c.ports.ensures.value)))
    (is-start p c.known.ensures c.args.tile)

pub returns-clause-start : goal.returns-clause-start
returns-clause-start c =
    let p = c.args.plan.now in
    start-is p c.known.ensures c.args.tile _ _ _ _ _ c.deref.result.now c.deref-2.result.now c.in_ok-channels.ensures c.in_ok-link_channels.ensures
    (c.deref.ensures.value ∙ c.in_ok-inputs.ensures.value) c.in_ok-holders.ensures (c.deref-2.ensures.value ∙ c.in_ok-outputs.ensures.value) c.in_ok-pointers.ensures
    (c.in_ok-best.ensures ∙ ap (λ k. replicate k None) c.ports.ensures.value)

pub returns-clause-made : goal.returns-clause-made
returns-clause-made c =
    let p = c.args.plan.now in
    let P : Allocator → Type 0 = λ x. (d : ℕ) → d < length p.domains → IsFor x p d in
    subst P
    (sym (start-is p c.known.ensures c.args.tile _ _ _ _ _ c.deref.result.now c.deref-2.result.now c.in_ok-channels.ensures c.in_ok-link_channels.ensures
    (c.deref.ensures.value ∙ c.in_ok-inputs.ensures.value) c.in_ok-holders.ensures (c.deref-2.ensures.value ∙ c.in_ok-outputs.ensures.value) c.in_ok-pointers.ensures
    (c.in_ok-best.ensures ∙ ap (λ k. replicate k None) c.ports.ensures.value)))
    (start-for p c.known.ensures c.args.tile)
