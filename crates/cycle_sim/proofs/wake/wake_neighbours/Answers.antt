use Rattle.std.proofs.Common.{◌≡◌, ◌<◌, true, length, sym, ap, ◌∙◌, subst, arith}
use Rattle.cycle_sim.specs.Asleep.{is_awake}
use Rattle.cycle_sim.proofs.Numbers.{link-ends}
use Rattle.cycle_sim.proofs.Waking.{unlike}
use Rattle.cycle_sim.proofs.wake.wake_neighbours.Goals as goal

pub returns-else-not-are_all_awake-clause-nothing : goal.returns-else-not-are_all_awake-clause-nothing
returns-else-not-are_all_awake-clause-nothing c = λ m n port there inside up linked down.
    let ends = link-ends c.args.plan.now m port n c.known.ensures there linked in
    let same = ap length c.as_slice.ensures.value in
    let below : n < length c.as_slice.result.now = omega (arith, ends.0, c.requires.awake, same) in
    let here : is_awake c.args.awake.now.items n ≡ true = subst (λ xs. is_awake xs n ≡ true) c.as_slice.ensures.value
    (c.are_all_awake.ensures c.if-not-are_all_awake.false n below) in
    absurd (unlike (sym here ∙ down))
