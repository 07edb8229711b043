use Rattle.std.proofs.Common.{[]}
use Rattle.vl_model.specs.Lines.{leaf_lines, module_sites}
use Rattle.vl_model.proofs.Together.{all-none}
use Rattle.leaf_tie.specs.Names.{leaf_module}
use Rattle.leaf_sound.specs.Laws.{name_rules}
use Rattle.leaf_sound.proofs.Named.{twice-passes, drivers-pass, joins-pass}
use Rattle.leaf_sound.proofs.laws.names_kept.Goals as goal

pub returns : goal.returns
returns c = λ p n sound inside. all-none name_rules (module_sites [] (leaf_lines (leaf_module p n))) (twice-passes p n sound inside, (drivers-pass p n sound inside, (joins-pass p n sound inside, tt)))
