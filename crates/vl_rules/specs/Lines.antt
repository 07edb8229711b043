-- The lines of a module of the code.
use Rattle.std.specs.Prelude.{List}
use Rattle.vl_tree.specs.Read.{read_item, read_leaf}
use Rattle.vl_model.specs.Lines as model
use Rattle.vl_model.specs.Lines.{heading, port, item, joint, leaf_lines, top_lines}
use Rattle.vl_rules.specs.declared.lines.Line as lines
use Rattle.vl_rules.specs.declared.lines.Module as modules
use Rattle.vl_rules.specs.declared.lines.Declared.{Declared}

-- the lines of a leaf or of the top
abbrev pub lines_of : modules.Module → List model.Line
lines_of (modules.TheVariants.Leaf l) = leaf_lines (read_leaf l.now)
lines_of (modules.TheVariants.Top t) = top_lines t.now

-- the line that one of the code stands for
abbrev pub line_of : lines.Line → model.Line
line_of (lines.TheVariants.Heading n) = heading n.now
line_of (lines.TheVariants.Port p) = port p.now
line_of (lines.TheVariants.Item x) = item (read_item x.now)
line_of (lines.TheVariants.Joint x) = joint x.now

-- the declaration that one of the code stands for
abbrev pub shown : Declared → model.Declared
shown x = record { name = x.name.now; kind = x.kind; high = x.high; last = x.last }
