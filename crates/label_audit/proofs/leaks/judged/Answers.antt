use Rattle.std.proofs.Common.{◌≡◌, ℕ, ◌+◌, length, drop, ◌∙◌, ap, sym, arith}
use Rattle.vl_run.specs.Emit.{place_in}
use Rattle.label_audit.specs.Whole.{phase_in}
use Rattle.label_audit.specs.Leaks.{or_leak, leaks_in}
use Rattle.label_audit.proofs.Shapes.{get-some}
use Rattle.label_audit.proofs.Judged.{ports-step}
use Rattle.label_audit.proofs.leaks.judged.Goals as goal

pub returns-in-Leak : goal.returns-in-Leak
returns-in-Leak c =
    let ports = c.args.shape.now.design.now.top.ports in
    let hosts = c.args.shape.now.plan.now.hosts in
    let t = place_in c.args.shape.now.declared.now in
    let tops = phase_in c.args.tops.now in
    let n : ℕ = length c.args.tops.now in
    let i : ℕ = c.loop-i.i in
    let test = c.loop-i-test.true in
    let counted = c.len-i-end.ensures in
    let q = get-some ports i (omega (arith, test, counted)) in
    sym (c.loop-i.invariant ∙ ports-step t hosts tops n ports i q.0 q.1 ∙ ap (λ o. or_leak o (leaks_in t hosts tops n (drop (i + 1) ports) (i + 1))) (sym (c.in-Leak.ensures q.0 q.1)))

pub loop-i-preserved : goal.loop-i-preserved
loop-i-preserved c =
    let ports = c.args.shape.now.design.now.top.ports in
    let hosts = c.args.shape.now.plan.now.hosts in
    let t = place_in c.args.shape.now.declared.now in
    let tops = phase_in c.args.tops.now in
    let n : ℕ = length c.args.tops.now in
    let i : ℕ = c.loop-i.i in
    let test = c.loop-i-test.true in
    let counted = c.len-i-end.ensures in
    let q = get-some ports i (omega (arith, test, counted)) in
    c.loop-i.invariant ∙ ports-step t hosts tops n ports i q.0 q.1 ∙ ap (λ o. or_leak o (leaks_in t hosts tops n (drop (i + 1) ports) (i + 1))) (sym (c.in-Clean.ensures q.0 q.1))
