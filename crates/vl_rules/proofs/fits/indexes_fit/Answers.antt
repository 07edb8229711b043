use Rattle.std.proofs.Common.{◌∙◌, ap}
use Rattle.std.specs.Prelude.{not}
use Rattle.vl_tree.specs.Read.{read}
use Rattle.vl_model.specs.Meaning.{uses_of}
use Rattle.vl_model.specs.Rules.{use_fits}
use Rattle.vl_rules.specs.declared.uses.UseTest as tests
use Rattle.vl_rules.specs.Lines.{lines_of}
use Rattle.vl_rules.specs.Site.{lines_before}
use Rattle.vl_rules.specs.Walks.{use_passes}
use Rattle.vl_rules.proofs.Judged.{all-any, use-same}
use Rattle.vl_rules.proofs.fits.indexes_fit.Goals as goal

pub returns : goal.returns
returns c =
    ap not c.any_use.ensures
    ∙ all-any (use_fits (lines_before c.args.site.now c.args.number)) (use_passes (tests.TheVariants.Unfit c.args.site.now.declared c.args.number)) (uses_of (read c.args.e.now))
    (λ u. ap not (use-same c.args.site.now.declared.now (lines_of c.args.site.now.subject) c.requires.declared c.args.number u))
