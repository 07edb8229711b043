use Rattle.std.proofs.Common.{◌++◌}
use Rattle.vl_tree.specs.Read.{read_leaf}
use Rattle.leaf_parts.specs.Entries.{passing_move, dropping_move, dest_move, current_move, drop_move}
use Rattle.leaf_parts.proofs.Loops.{items_more}
use Rattle.leaf_parts.proofs.attach.moves.Goals as goal

pub returns : goal.returns
returns c =
    let h0 = c.in_ok-passing_move.ensures in
    let h1 = c.in_ok-dropping_move.ensures in
    let h2 = c.in_ok-dest_move.ensures in
    let h3 = c.in_ok-current_move.ensures in
    let h4 = c.in_ok-drop_move.ensures in
    let e4 = h4 in
    let e3 = items_more (read_leaf c.dest_move.new.work.leaf) (read_leaf c.current_move.new.work.leaf) (read_leaf c.drop_move.new.work.leaf) (current_move c.args.plan.now c.args.tile c.args.domain) (drop_move c.args.domain) h3 e4 in
    let e2 = items_more (read_leaf c.dropping_move.new.work.leaf) (read_leaf c.dest_move.new.work.leaf) (read_leaf c.drop_move.new.work.leaf) (dest_move c.args.plan.now c.args.domain) ((current_move c.args.plan.now c.args.tile c.args.domain) ++ (drop_move c.args.domain)) h2 e3 in
    let e1 = items_more (read_leaf c.passing_move.new.work.leaf) (read_leaf c.dropping_move.new.work.leaf) (read_leaf c.drop_move.new.work.leaf) (dropping_move c.args.tile c.args.domain) ((dest_move c.args.plan.now c.args.domain) ++ ((current_move c.args.plan.now c.args.tile c.args.domain) ++ (drop_move c.args.domain))) h1 e2 in
    let e0 = items_more (read_leaf c.args.work.now.leaf) (read_leaf c.passing_move.new.work.leaf) (read_leaf c.drop_move.new.work.leaf) (passing_move c.args.tile c.args.domain) ((dropping_move c.args.tile c.args.domain) ++ ((dest_move c.args.plan.now c.args.domain) ++ ((current_move c.args.plan.now c.args.tile c.args.domain) ++ (drop_move c.args.domain)))) h0 e1 in
    e0
