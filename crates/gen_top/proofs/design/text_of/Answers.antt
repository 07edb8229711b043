use Rattle.std.proofs.lemmas.Result.{IfOk-weaker}
use Rattle.vl_tree.specs.Read.{read_design}
use Rattle.gen_top.proofs.Whole.{right-text}
use Rattle.gen_top.proofs.design.text_of.Goals as goal

pub write_design-requires : goal.write_design-requires
write_design-requires c = record { plain = c.in_ok-design.ensures.right.sound.plain }

pub returns : goal.returns
returns c =
    IfOk-weaker c.write_design.result _ _ (λ text spelled. right-text c.args.plan.now (read_design c.in_ok-design.design) c.in_ok-design.ensures.right text.items spelled)
    c.write_design.ensures.spells
