use Rattle.std.proofs.Common.{◌∙◌}
use Rattle.vl_tree.specs.Read.{read}
use Rattle.vl_rules.specs.Lines.{lines_of}
use Rattle.vl_rules.proofs.Judged.{use-same}
use Rattle.vl_rules.proofs.fits.one_fits.Goals as goal

pub returns : goal.returns
returns c =
    c.index_fits.ensures
    ∙ use-same c.args.site.now.declared.now (lines_of c.args.site.now.subject) c.requires.declared c.args.number (record { memory = c.args.memory.now; index = read c.args.index.now })
