use Rattle.std.proofs.Common.{◌∙◌, ap}
use Rattle.vl_model.specs.Rules.{line_fits}
use Rattle.vl_rules.specs.Lines.{line_of, lines_of}
use Rattle.vl_rules.specs.Site.{leaves_before}
use Rattle.vl_rules.proofs.Judged.{widths-same}
use Rattle.vl_rules.proofs.fits.fits_line.Goals as goal

pub returns : goal.returns
returns c =
    c.fits.ensures
    ∙ ap (λ w. line_fits (leaves_before c.args.site.now) w (line_of c.args.line.now)) (widths-same c.args.site.now.declared.now (lines_of c.args.site.now.subject) c.requires.declared c.args.number)
