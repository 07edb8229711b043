use Rattle.std.proofs.Common.{◌+◌, length, ◌∙◌, ap, sym}
use Rattle.aig_model.specs.Form.{states}
use Rattle.aig_out.proofs.Ran.{runs-on, outputs-now, starts-at}
use Rattle.aig_out.proofs.laws.run_is.Goals as goal

pub returns-clause-starts : goal.returns-clause-starts
returns-clause-starts c r inputs is = starts-at r.form inputs (length r.form.latches) r.state is

pub returns-clause-goes_on : goal.returns-clause-goes_on
returns-clause-goes_on c r next given outputs inputs t fed here form moved shown = (
  outputs-now r.form inputs t given r.state outputs fed here shown,
  runs-on r.form inputs t given r.state next.state fed here moved ∙ ap (λ f. states f inputs (t + 1)) (sym form),
)
