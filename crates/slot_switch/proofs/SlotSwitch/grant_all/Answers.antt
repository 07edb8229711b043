use Rattle.std.proofs.Common.{◌+◌, ◌<◌, List, arith, subst, sym, ◌∙◌}
use Rattle.std.specs.Prelude.{Option}
use Rattle.noc_model.specs.declared.Grant.{Grant}
use Rattle.slot_switch.specs.Grants.{HaveGranted}
use Rattle.slot_switch.proofs.Granting.{have-none, have-some}
use Rattle.slot_switch.proofs.SlotSwitch.grant_all.Goals as goal
use Rattle.slot_switch.proofs.SlotSwitch.grant_all.Goals.{in-Some, in_default}

pub loop-out-preserved : goal.loop-out-preserved
loop-out-preserved c =
    let x = c.args.self.now in
    let y = c.loop-out.self in
    let z = c.commit.new.self in
    let u = c.args.grants.now in
    let w = c.loop-out.grants in
    let d = c.args.d in
    let o = c.loop-out.out in
    let there : o < x.ports = omega (arith, c.loop-out-test.true, c.ports-out-end.ensures.value) in
    let P : List (List (Option Grant)) → Type 0 = λ v. HaveGranted x z u v d (o + 1) in
    elim c.match-commit.branch [
      | in-Some b ↦
          subst P (sym b.grants-is)
          (have-some x y u w d o there c.loop-out.invariant c.known.ensures c.requires.domain c.requires.grants c.requires.places b.in-Some.granted
          (sym (b.in-Some.ensures.value)) z b.set.new.self c.commit.ensures.moved b.set.ensures)
      | in_default b ↦
          subst P (sym b.grants-is) (have-none x y u w d o there c.loop-out.invariant z (sym c.commit.ensures.value ∙ b.in_default.is) c.commit.ensures.moved)
    ]
