use Rattle.std.proofs.Common.{◌≡◌, length, ◌∙◌, ap, sym, subst, arith}
use Rattle.vl_run.specs.Emit.{place_in}
use Rattle.label_audit.specs.Audited.{leak_of}
use Rattle.label_audit.specs.Whole.{phase_in}
use Rattle.label_audit.specs.Walks.{all_tops}
use Rattle.label_audit.specs.Leaks.{leaks_in}
use Rattle.label_audit.proofs.Judged.{count, verdict-is}
use Rattle.label_audit.proofs.auditing.verdict.Goals as goal

pub judged-requires-clause-few : goal.judged-requires-clause-few
judged-requires-clause-few c =
    let s = c.args.shape.now in
    let same = c.in_ok-tops.ensures ∙ ap (all_tops s) c.as_slice.ensures.value in
    let all = count s c.requires c.in_ok-phases.phases.items c.in_ok-phases.ensures c.in_ok-tops.tops.items same in
    let few = c.requires.plan.slot_count.1 in
    let here = ap length c.as_slice-2.ensures.value in
    omega (arith, all, few, here)

pub returns : goal.returns
returns c =
    let s = c.args.shape.now in
    let same = c.in_ok-tops.ensures ∙ ap (all_tops s) c.as_slice.ensures.value in
    let tops = c.in_ok-tops.tops.items in
    let found = c.judged.ensures ∙ ap (λ z. leaks_in (place_in s.declared.now) s.plan.now.hosts (phase_in z) (length z) s.design.now.top.ports 0) c.as_slice-2.ensures.value in
    verdict-is s c.requires c.in_ok-phases.phases.items c.in_ok-phases.ensures tops same (leak_of c.judged.result) found
