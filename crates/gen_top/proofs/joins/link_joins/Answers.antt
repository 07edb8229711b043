use Rattle.std.proofs.Common.{arith}
use Rattle.std.proofs.lemmas.Result.{on_ok_weaker}
use Rattle.gen_top.proofs.Rows.{one_bundle, two_bundles}
use Rattle.gen_top.proofs.joins.link_joins.Goals as goal

pub opposite-back-requires : goal.opposite-back-requires
opposite-back-requires c = let sides = c.known.ensures.dims.1 in let its = c.requires.port in omega (arith, sides, its)

pub returns-then-credit_bits-le64 : goal.returns-then-credit_bits-le64
returns-then-credit_bits-le64 c =
    one_bundle c.args.plan.now c.args.tile c.args.port c.in-Some.from c.in-Some.ensures.value
    c.opposite-back.result c.args.joins.now c.first_joins.new.joins
    (omega arith) c.opposite-back.ensures (c.in_ok-first_joins.ensures c.args.plan.now)

pub returns : goal.returns
returns c =
    on_ok_weaker c.second_joins.result
    (two_bundles c.args.plan.now c.args.tile c.args.port c.in-Some.from c.in-Some.ensures.value
    c.opposite-back.result c.args.joins.now c.first_joins.new.joins c.second_joins.new.joins
    (omega arith) c.opposite-back.ensures (c.in_ok-first_joins.ensures c.args.plan.now))
    (c.second_joins.ensures c.args.plan.now)
