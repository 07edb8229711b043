use Rattle.std.proofs.Common.{◌≡◌, ◌+◌, ◌<◌, ◌≤◌, [], length, take, refl, sym, ◌∙◌, ap, arith, Some, None}
use Rattle.std.proofs.lemmas.List.{length-map}
use Rattle.vl_tree.specs.Read.{read_leaves}
use Rattle.vl_model.specs.Lines.{leaf_sites, leaf_lines, module_sites, top_lines}
use Rattle.vl_rules.specs.Lines.{lines_of}
use Rattle.vl_rules.specs.Site.{leaves_before}
use Rattle.vl_rules.specs.Check.{rule_of}
use Rattle.vl_rules.proofs.Sited.{there, module-is, not-some, leaf-at, leaf-none, one-leaf-longer, top-is}
use Rattle.vl_rules.proofs.judge.first_line.Goals as goal

pub returns-in-Some : goal.returns-in-Some
returns-in-Some c =
    let same : length (read_leaves c.args.library.now.leaves.now) ≡ length c.args.library.now.leaves.now =
    rw length-map refl in
    let within : c.loop-number.number < length (read_leaves c.args.library.now.leaves.now) = omega arith in
    let l = there (read_leaves c.args.library.now.leaves.now) c.loop-number.number within in
    sym (leaf-at (rule_of c.args.rule).1 (read_leaves c.args.library.now.leaves.now) c.loop-number.number l.0 l.1 c.in-Some.line (module_sites (read_leaves c.args.library.now.leaves.now) (top_lines c.args.top.now)) c.loop-number.invariant.none
    (module-is (rule_of c.args.rule).1 (leaves_before c.leaf_site-site.result) (take c.loop-number.number (read_leaves c.args.library.now.leaves.now)) (lines_of c.leaf_site-site.result.subject) (leaf_lines l.0)
    c.in_ok-line.field-0 (Some c.in-Some.line) c.leaf_site-site.ensures.leaves (c.leaf_site-site.ensures.lines l.0 l.1) c.in_ok-line.ensures c.in-Some.is)
    ∙ ap (λ n. Some (n + c.in-Some.line)) (sym c.loop-number.invariant.start) ∙ ap (λ n. Some n) (sym c.in_ok-place.ensures))

pub loop-number-preserved : goal.loop-number-preserved
loop-number-preserved c =
    let same : length (read_leaves c.args.library.now.leaves.now) ≡ length c.args.library.now.leaves.now =
    rw length-map refl in
    let within : c.loop-number.number < length (read_leaves c.args.library.now.leaves.now) = omega arith in
    let l = there (read_leaves c.args.library.now.leaves.now) c.loop-number.number within in
    record {
      start =
          c.in_ok-start.ensures ∙ ap (λ n. n + c.len.result) c.loop-number.invariant.start
          ∙ ap (λ n. length (leaf_sites [] (take c.loop-number.number (read_leaves c.args.library.now.leaves.now))) + n) (c.len.ensures ∙ ap length (c.leaf_site-site.ensures.lines l.0 l.1))
          ∙ sym (one-leaf-longer (rule_of c.args.rule).1 (read_leaves c.args.library.now.leaves.now) c.loop-number.number l.0 l.1);
      none =
          leaf-none (rule_of c.args.rule).1 (read_leaves c.args.library.now.leaves.now) c.loop-number.number l.0 l.1 c.loop-number.invariant.none
          (module-is (rule_of c.args.rule).1 (leaves_before c.leaf_site-site.result) (take c.loop-number.number (read_leaves c.args.library.now.leaves.now)) (lines_of c.leaf_site-site.result.subject) (leaf_lines l.0)
          c.in_ok-line.field-0 None c.leaf_site-site.ensures.leaves (c.leaf_site-site.ensures.lines l.0 l.1) c.in_ok-line.ensures (not-some c.in_ok-line.field-0 c.in_default.not-Some));
    }

pub returns-in_ok-place-in-Some-2 : goal.returns-in_ok-place-in-Some-2
returns-in_ok-place-in-Some-2 c =
    let same : length (read_leaves c.args.library.now.leaves.now) ≡ length c.args.library.now.leaves.now =
    rw length-map refl in
    let all : length (read_leaves c.args.library.now.leaves.now) ≤ c.loop-number.number = omega arith in
    sym (top-is (rule_of c.args.rule).1 (read_leaves c.args.library.now.leaves.now) (top_lines c.args.top.now) c.loop-number.number (Some c.in-Some-2.line) all c.loop-number.invariant.none
    (module-is (rule_of c.args.rule).1 (leaves_before c.top_site-site.result) (read_leaves c.args.library.now.leaves.now) (lines_of c.top_site-site.result.subject) (top_lines c.args.top.now)
    c.in_ok-line-2.field-0 (Some c.in-Some-2.line) c.top_site-site.ensures.leaves c.top_site-site.ensures.lines c.in_ok-line-2.ensures c.in-Some-2.is)
    ∙ ap (λ n. Some (n + c.in-Some-2.line)) (sym c.loop-number.invariant.start) ∙ ap (λ n. Some n) (sym c.in_ok-place-in-Some-2.ensures))

pub returns-in-None : goal.returns-in-None
returns-in-None c =
    let same : length (read_leaves c.args.library.now.leaves.now) ≡ length c.args.library.now.leaves.now =
    rw length-map refl in
    let all : length (read_leaves c.args.library.now.leaves.now) ≤ c.loop-number.number = omega arith in
    sym (top-is (rule_of c.args.rule).1 (read_leaves c.args.library.now.leaves.now) (top_lines c.args.top.now) c.loop-number.number None all c.loop-number.invariant.none
    (module-is (rule_of c.args.rule).1 (leaves_before c.top_site-site.result) (read_leaves c.args.library.now.leaves.now) (lines_of c.top_site-site.result.subject) (top_lines c.args.top.now)
    c.in_ok-line-2.field-0 None c.top_site-site.ensures.leaves c.top_site-site.ensures.lines c.in_ok-line-2.ensures c.in-None.is))
