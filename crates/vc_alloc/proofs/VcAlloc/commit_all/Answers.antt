use Rattle.std.proofs.Common.{◌+◌, ◌<◌, List, length, arith, subst, sym, ◌∙◌}
use Rattle.noc_model.specs.declared.Stage.{Stage}
use Rattle.vc_alloc.specs.Commits.{HaveCommitted}
use Rattle.vc_alloc.proofs.Commits.{have-none, have-some}
use Rattle.vc_alloc.proofs.VcAlloc.commit_all.Goals as goal
use Rattle.vc_alloc.proofs.VcAlloc.commit_all.Goals.{in-Some, in_default}

pub loop-out-preserved : goal.loop-out-preserved
loop-out-preserved c =
    let x = c.args.self.now in
    let y = c.loop-out.self in
    let z = c.commit.new.self in
    let u = c.args.next.now in
    let w = c.loop-out.next in
    let d = c.args.d in
    let o = c.loop-out.out in
    let there : o < length x.best = omega (arith, c.loop-out-test.true, c.outputs-out-end.ensures.value) in
    let P : List (List Stage) → Type 0 = λ v. HaveCommitted x z u v d (o + 1) in
    elim c.match-commit.branch [
      | in-Some b ↦
          subst P (sym b.next-is)
          (have-some x y u w d o there c.loop-out.invariant c.known.ensures c.requires.domain c.requires.next c.requires.inputs b.in-Some.winner
          (sym b.in-Some.ensures.value) z b.set.new.self c.commit.ensures.committed c.commit.ensures.same b.set.ensures)
      | in_default b ↦
          subst P (sym b.next-is) (have-none x y u w d o there c.loop-out.invariant z (sym c.commit.ensures.value ∙ b.in_default.is) c.commit.ensures.committed)
    ]
