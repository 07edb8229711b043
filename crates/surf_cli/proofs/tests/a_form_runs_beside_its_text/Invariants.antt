use Rattle.std.proofs.Common.{◌≡◌}
use Rattle.surf_cli.proofs.tests.a_form_runs_beside_its_text.Given as goal

abbrev pub invariant-loop-inputs : goal.invariant-loop-inputs
invariant-loop-inputs g l = l.form.form ≡ l.initial.form.form
