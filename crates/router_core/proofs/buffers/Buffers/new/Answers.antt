use Rattle.std.proofs.Common.{List, ◌*◌, ◌∙◌, ap, [], replicate, ◌≡◌}
use Rattle.noc_model.specs.declared.Flit.{Flit}
use Rattle.noc_model.specs.Plan.{ports}
use Rattle.noc_model.specs.Inputs.{input_count}
use Rattle.flit_pool.specs.Lists.{Lists}
use Rattle.router_core.specs.Buffers.{empty_lists}
use Rattle.router_core.proofs.Start.{one-more}
use Rattle.router_core.proofs.buffers.Buffers.new.Goals as goal

pub loop-d-preserved : goal.loop-d-preserved
loop-d-preserved c =
    let p = c.args.plan.now in
    let count : c.ports.result * c.link_channels.result ≡ input_count p c.loop-d.d =
    ap (λ k. k * c.link_channels.result) c.ports.ensures.value ∙ ap (λ k. ports p * k) c.link_channels.ensures.value in
    let lists = c.in_ok-pool.ensures.lists ∙ ap (λ k. let l : List (List Flit) = replicate k [] in l) count in
    let depth = c.in_ok-pool.ensures.depth ∙ c.buffer.ensures in
    one-more (empty_lists p) _ _ c.loop-d.d _ c.in_ok-push.ensures.items c.loop-d.invariant
    (λ i. let x : Lists = record { lists = lists i; depth = depth i } in x)
