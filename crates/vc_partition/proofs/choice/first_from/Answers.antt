use Rattle.std.proofs.Common.{◌≡◌, ◌<◌, ◌≤◌, length, true, arith, sym, ap, ◌∙◌}
use Rattle.std.specs.Prelude.{nat_le, ◌&&◌}
use Rattle.std.proofs.lemmas.Bool.Decides.{nat_tests}
use Rattle.vc_partition.specs.Picks.{member, from_on}
use Rattle.vc_partition.proofs.Picks.{least-found}
use Rattle.vc_partition.proofs.choice.first_from.Goals as goal

pub returns-then-member-clause-value : goal.returns-then-member-clause-value
returns-then-member-clause-value c =
    let set = c.args.set.now in
    let k = c.loop-k.k in
    let late : nat_le c.args.from k ≡ true = let h : c.args.from ≤ k = c.if-k-from.true in grind (arith, nat_tests) in
    let here : member set k ≡ true = c.if-member.true in
    let below : k < length set = c.loop-k-test.true in
    sym (least-found (from_on c.args.from (member set)) (length set) k below c.loop-k.invariant (ap (λ b. b && member set k) late ∙ here))
