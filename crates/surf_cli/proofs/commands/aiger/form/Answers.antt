use Rattle.std.proofs.Common.{ap}
use Rattle.vl_tree.specs.Read.{read_design}
use Rattle.aig_model.specs.Text as form_text
use Rattle.aig_out.specs.Forms.{form_of}
use Rattle.aig_out.specs.declared.form.Aig.{Aig}
use Rattle.surf_cli.proofs.commands.aiger.form.Goals as goal

pub form_of_design-requires : goal.form_of_design-requires
form_of_design-requires c = c.in_ok-design.ensures.right.sound

pub new-requires : goal.new-requires
new-requires c = c.in_ok-aig.ensures.form.form

pub returns : goal.returns
returns c = record {
  design = read_design c.in_ok-design.design;
  form = form_of c.in_ok-aig.aig;
  right = c.in_ok-design.ensures.right;
  of_design = c.in_ok-aig.ensures.form;
  text = ap (λ (a : Aig). form_text.text_of (form_of a)) c.new.ensures;
}
