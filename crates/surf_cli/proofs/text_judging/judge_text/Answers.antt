use Rattle.std.proofs.Common.{◌≡◌, ap, sym, ◌∙◌}
use Rattle.vl_tree.specs.Values.{Design}
use Rattle.vl_tree.specs.Read.{read_design}
use Rattle.vl_tree.proofs.Designs.{plain_spelled}
use Rattle.vl_rules.specs.Answer.{design_of}
use Rattle.gen_kit.specs.Ports.{ports_fault}
use Rattle.surf_cli.proofs.TextReads.{read-fault, judged-unread, judged-unsound, judged-other, text-sound, text-refused}
use Rattle.surf_cli.proofs.text_judging.judge_text.Goals as goal

pub returns-in-Err-clause-err : goal.returns-in-Err-clause-err
returns-in-Err-clause-err c =
    let bytes = c.args.bytes.now in
    let p = c.args.plan.now in
    text-refused p bytes c.in-Err.fault c.end_of.result c.end_of.ensures
    (λ told. judged-unread p bytes c.in-Err.fault (read-fault bytes c.in-Err.fault told c.in-Err.ensures.err))

pub rules-requires : goal.rules-requires
rules-requires c = plain_spelled c.args.bytes.now (read_design c.in-Ok.design) c.in-Ok.ensures.ok

pub returns-in-Err-rules-clause-err : goal.returns-in-Err-rules-clause-err
returns-in-Err-rules-clause-err c =
    let bytes = c.args.bytes.now in
    let p = c.args.plan.now in
    let d : Design = read_design c.in-Ok.design in
    text-refused p bytes c.in-Err-rules.fault c.end_of-in-Err-rules.result c.end_of-in-Err-rules.ensures
    (λ told. judged-unsound p bytes d c.in-Err-rules.fault c.in-Ok.ensures.ok told c.in-Err-rules.ensures.fault)

pub returns-in-Ok-ports_fit-clause-ok : goal.returns-in-Ok-ports_fit-clause-ok
returns-in-Ok-ports_fit-clause-ok c =
    let bytes = c.args.bytes.now in
    let p = c.args.plan.now in
    let d : Design = read_design c.in-Ok.design in
    let same : read_design (design_of c.in-Ok-rules.sound) ≡ d = ap read_design c.in-Ok-rules.ensures.same in
    λ next. text-sound p bytes d c.in-Ok.ensures.ok c.in-Ok-rules.ensures.sound.rules (ap (ports_fault p) (sym same) ∙ c.in-Ok-ports_fit.ensures.fit) next ∙ ap next (sym same)

pub returns-in-Err-ports_fit-clause-err : goal.returns-in-Err-ports_fit-clause-err
returns-in-Err-ports_fit-clause-err c =
    let bytes = c.args.bytes.now in
    let p = c.args.plan.now in
    let d : Design = read_design c.in-Ok.design in
    let same : read_design (design_of c.in-Ok-rules.sound) ≡ d = ap read_design c.in-Ok-rules.ensures.same in
    text-refused p bytes c.in-Err-ports_fit.fault c.end_of-in-Err-ports_fit.result c.end_of-in-Err-ports_fit.ensures
    (λ told. judged-other p bytes d c.in-Err-ports_fit.fault c.in-Ok.ensures.ok c.in-Ok-rules.ensures.sound.rules (ap (ports_fault p) (sym same) ∙ c.in-Err-ports_fit.ensures.fault))
