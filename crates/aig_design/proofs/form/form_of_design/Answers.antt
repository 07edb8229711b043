use Rattle.vl_tree.specs.Read.{read_design}
use Rattle.aig_out.specs.Forms.{form_of}
use Rattle.aig_trim.proofs.OfDesign.{trimmed-of}
use Rattle.aig_design.proofs.form.form_of_design.Goals as goal

pub trimmed-requires : goal.trimmed-requires
trimmed-requires c = c.in_ok-whole.ensures.form

pub returns-clause-form : goal.returns-clause-form
returns-clause-form c = trimmed-of (read_design c.args.design.now) (form_of c.in_ok-whole.whole) (form_of c.in_ok-aig.aig) c.in_ok-whole.ensures c.in_ok-aig.ensures
