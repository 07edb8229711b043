use Rattle.vl_tree.specs.Read.{read}
use Rattle.vl_model.specs.Lines.{word_count}
use Rattle.vl_model.specs.Meaning.{width_of}
use Rattle.vl_rules.specs.Scope.{seen, widths_at}
use Rattle.vl_rules.proofs.Capped.{too-wide}
use Rattle.vl_rules.proofs.uses.index_fits.Goals as goal

pub returns-else-width-lt-MOST : goal.returns-else-width-lt-MOST
returns-else-width-lt-MOST c =
    too-wide c.bits-width.result (width_of (widths_at c.args.table.now c.args.number) (read c.args.index.now)) c.words-words.result (word_count (seen c.args.table.now c.args.number c.args.memory.now))
    c.bits-width.ensures c.words-words.ensures c.if-width-lt-MOST.false c.words-words.type_inv
