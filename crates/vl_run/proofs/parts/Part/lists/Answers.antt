use Rattle.std.proofs.Common.{length, sym, ◌∙◌, ap, subst}
use Rattle.vl_run.specs.declared.parts.Part.TheInside.{Inside}
use Rattle.vl_run.specs.State.{Part}
use Rattle.vl_run.specs.Start.{AreInside}
use Rattle.vl_run.proofs.parts.Part.lists.Goals as goal

pub returns-clause-fits : goal.returns-clause-fits
returns-clause-fits c =
    let n = length c.args.self.now.kept.nets in
    c.in_ok-lists.ensures.fits n (subst (AreInside n) (sym (ap (λ (x : Inside). x.program) c.self-inside.view_is ∙ ap (λ (x : Part). x.code) c.self.view_is)) c.requires)
