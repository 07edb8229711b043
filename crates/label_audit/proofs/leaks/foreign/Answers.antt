use Rattle.std.proofs.Common.{◌≡◌, ◌&&◌, ℕ, Bool, ◌∙◌, sym}
use Rattle.std.specs.Prelude.{◌==◌, not}
use Rattle.label_audit.specs.Bits.{domains_in}
use Rattle.label_audit.proofs.Firsts.{first-later}
use Rattle.label_audit.proofs.leaks.foreign.Goals as goal

pub loop-e-preserved : goal.loop-e-preserved
loop-e-preserved c =
    let test : ℕ → Bool = λ e. not (e == c.args.own) && domains_in c.args.mask e in c.loop-e.invariant ∙ first-later test c.loop-e.e c.args.count c.loop-e-test.true (sym c.is_foreign.ensures ∙ c.if-is_foreign.false)
