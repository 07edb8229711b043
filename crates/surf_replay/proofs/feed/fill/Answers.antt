use Rattle.std.proofs.Common.{◌≡◌, ℕ, ◌<◌, ◌≤◌, ◌++◌, ◌∙◌, sym, ap, subst, length, take, arith, take_all}
use Rattle.std.specs.Prelude.{flat_map}
use Rattle.gen_kit.specs.Ports.{host_ports}
use Rattle.vl_run.specs.Stands.{AreInputs}
use Rattle.surf_replay.specs.Feed.{all_numbers, host_numbers}
use Rattle.surf_replay.proofs.Feeding.{there, one-more-host, all-fit, small-below}
use Rattle.surf_replay.proofs.feed.fill.Goals as goal

pub loop-j-preserved : goal.loop-j-preserved
loop-j-preserved g c =
    let v = g.D.Driving.driver c.args.drive.now in
    let states = g.D.Driving.state c.args.drive.now in
    let t = c.args.cycle in
    let j = c.loop-j.j in
    let hs = c.args.plan.now.hosts in
    let less : j < length hs = omega (arith, c.loop-j-test.true, c.attach_count-j-end.ensures) in
    let h = there hs j less in
    record {
      numbers = c.in_ok-push_attached.ensures.numbers ∙ ap (λ z. z ++ host_numbers (v.offer j (states j) t) (v.hears j (states j) t)) c.loop-j.invariant.numbers ∙ sym (one-more-host v t states hs j h.0 h.1 (omega arith));
      small = small-below v t states j c.loop-j.invariant.small c.in_ok-push_attached.ensures.small;
    }

pub returns-clause-numbers : goal.returns-clause-numbers
returns-clause-numbers g c =
    c.loop-j.invariant.numbers
    ∙ ap (all_numbers (g.D.Driving.driver c.args.drive.now) c.args.cycle (g.D.Driving.state c.args.drive.now) 0) (take_all c.loop-j.j c.args.plan.now.hosts (omega (arith, c.loop-j-test.false, c.attach_count-j-end.ensures)))

pub returns-clause-fit : goal.returns-clause-fit
returns-clause-fit g c =
    let v = g.D.Driving.driver c.args.drive.now in
    let states = g.D.Driving.state c.args.drive.now in
    let hs = c.args.plan.now.hosts in
    let most : length hs ≤ c.loop-j.j = omega (arith, c.loop-j-test.false, c.attach_count-j-end.ensures) in
    subst (AreInputs (flat_map host_ports hs)) (sym (returns-clause-numbers g c))
    (all-fit v c.args.cycle states hs 0 (λ k a b. c.loop-j.invariant.small k (omega arith)))
