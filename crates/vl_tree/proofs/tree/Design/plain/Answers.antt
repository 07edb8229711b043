use Rattle.std.proofs.Common.{◌∙◌, sym}
use Rattle.vl_tree.specs.Read.{read_design}
use Rattle.vl_tree.specs.Layout.{design_text}
use Rattle.vl_tree.proofs.Designs.{plain_spelled}
use Rattle.vl_tree.proofs.Written.{text_spells}
use Rattle.vl_tree.proofs.Plainly.{plain_is, is_plain_design}
use Rattle.vl_tree.proofs.tree.Design.plain.Goals as goal

pub returns-clause-plain : goal.returns-clause-plain
returns-clause-plain c =
    let d = read_design c.args.self.now in
    (λ e. plain_is d (sym c.design.ensures ∙ e), λ p. c.design.ensures ∙ is_plain_design d p)

pub returns-clause-spelled : goal.returns-clause-spelled
returns-clause-spelled c =
    let d = read_design c.args.self.now in
    (λ e. (design_text d, text_spells d (plain_is d (sym c.design.ensures ∙ e))), λ s. c.design.ensures ∙ is_plain_design d (plain_spelled s.0 d s.1))
