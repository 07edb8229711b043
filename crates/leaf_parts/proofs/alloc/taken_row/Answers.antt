use Rattle.std.proofs.Common.{◌+◌, ◌-◌, arith, sym, ap, ◌∙◌}
use Rattle.vl_tree.specs.Read.{read}
use Rattle.vl_tree.specs.Values.{cat}
use Rattle.leaf_tie.specs.Names.{alloc_names}
use Rattle.leaf_parts.specs.Parts.{taken_net}
use Rattle.leaf_tie.specs.Tie.{alloc_size}
use Rattle.leaf_parts.proofs.Rows.{row_more, row_ends, taken_is}
use Rattle.leaf_parts.proofs.alloc.taken_row.Goals as goal

pub loop-class-preserved : goal.loop-class-preserved
loop-class-preserved c =
    row_more (taken_net c.args.domain c.args.out) (c.last_class-count.result + 1) c.loop-class.class c.loop-class.row c.in_ok-one.one c.push.new.self c.loop-class-test.true c.loop-class.invariant c.in_ok-one.ensures c.in_ok-push.ensures.ok

pub returns : goal.returns
returns c =
    row_ends (taken_net c.args.domain c.args.out) ((alloc_size c.args.plan.now c.args.domain c.args.out).last) (c.last_class-count.result + 1) c.loop-class.class c.loop-class.row (read c.cat.result) (omega arith) (omega arith) c.loop-class.invariant c.cat.ensures.form
    ∙ ap cat (sym (taken_is (alloc_names c.args.domain c.args.out) (alloc_size c.args.plan.now c.args.domain c.args.out).last))
