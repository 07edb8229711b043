use Rattle.std.proofs.Common.{◌≡◌, ◌≤◌, ◌*◌}
use Rattle.leaf_tie.specs.Names.{credit_base}
use Rattle.gen_router.proofs.order.credit_base.Given as goal

abbrev pub invariant-loop-earlier : goal.invariant-loop-earlier
invariant-loop-earlier l = record {
  so_far : l.base ≡ credit_base l.plan l.earlier;
  some : l.earlier ≤ l.base;
  few : l.base ≤ 8 * l.earlier;
}
