use Rattle.std.proofs.Common.{◌++◌, length, ap, ◌∙◌}
use Rattle.vl_tree.specs.Read.{read_leaf}
use Rattle.leaf_parts.specs.Entries.{range_nets, found_net, taken_net, goes_net, to_net, enters_nets}
use Rattle.vl_model.specs.Laws.{with_items}
use Rattle.leaf_tie.specs.Attach.{reach}
use Rattle.leaf_parts.proofs.Loops.{items_more}
use Rattle.leaf_parts.proofs.attach.nets.Goals as goal

pub returns : goal.returns
returns c =
    let h0 = c.in_ok-count.ensures.items in
    let h1 = (c.in_ok-found_net.ensures ∙ ap (λ k. with_items (read_leaf c.look_nets.new.work.leaf) (found_net c.args.plan.now c.args.domain k)) c.in_ok-count.ensures.count) in
    let h2 = c.in_ok-taken_net.ensures in
    let h3 = c.in_ok-goes_net.ensures in
    let h4 = c.in_ok-to_net.ensures in
    let h5 = c.in_ok-enters_nets.ensures in
    let e5 = h5 in
    let e4 = items_more (read_leaf c.goes_net.new.work.leaf) (read_leaf c.to_net.new.work.leaf) (read_leaf c.enters_nets.new.work.leaf) (to_net c.args.plan.now c.args.domain) (enters_nets c.args.plan.now c.args.tile c.args.domain) h4 e5 in
    let e3 = items_more (read_leaf c.taken_net.new.work.leaf) (read_leaf c.goes_net.new.work.leaf) (read_leaf c.enters_nets.new.work.leaf) (goes_net c.args.plan.now c.args.domain) ((to_net c.args.plan.now c.args.domain) ++ (enters_nets c.args.plan.now c.args.tile c.args.domain)) h3 e4 in
    let e2 = items_more (read_leaf c.found_net.new.work.leaf) (read_leaf c.taken_net.new.work.leaf) (read_leaf c.enters_nets.new.work.leaf) (taken_net c.args.plan.now c.args.tile c.args.domain) ((goes_net c.args.plan.now c.args.domain) ++ ((to_net c.args.plan.now c.args.domain) ++ (enters_nets c.args.plan.now c.args.tile c.args.domain))) h2 e3 in
    let e1 = items_more (read_leaf c.look_nets.new.work.leaf) (read_leaf c.found_net.new.work.leaf) (read_leaf c.enters_nets.new.work.leaf) (found_net c.args.plan.now c.args.domain (length (reach c.args.plan.now c.args.domain))) ((taken_net c.args.plan.now c.args.tile c.args.domain) ++ ((goes_net c.args.plan.now c.args.domain) ++ ((to_net c.args.plan.now c.args.domain) ++ (enters_nets c.args.plan.now c.args.tile c.args.domain)))) h1 e2 in
    let e0 = items_more (read_leaf c.args.work.now.leaf) (read_leaf c.look_nets.new.work.leaf) (read_leaf c.enters_nets.new.work.leaf) (range_nets c.args.plan.now c.args.tile c.args.domain c.args.plan.now.ranges) ((found_net c.args.plan.now c.args.domain (length (reach c.args.plan.now c.args.domain))) ++ ((taken_net c.args.plan.now c.args.tile c.args.domain) ++ ((goes_net c.args.plan.now c.args.domain) ++ ((to_net c.args.plan.now c.args.domain) ++ (enters_nets c.args.plan.now c.args.tile c.args.domain))))) h0 e1 in
    e0
