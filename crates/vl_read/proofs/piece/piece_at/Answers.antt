use Rattle.std.proofs.Common.{arith}
use Rattle.std.proofs.lemmas.Bool.Decides.{nat_tests}
use Rattle.vl_read.proofs.Pieces.{piece_none, piece_within}
use Rattle.vl_read.proofs.piece.piece_at.Goals as goal

pub returns-then-is_empty-clause-value : goal.returns-then-is_empty-clause-value
returns-then-is_empty-clause-value c = piece_none c.args.bytes.now (grind (arith, nat_tests))

pub returns-clause-within : goal.returns-clause-within
returns-clause-within c = piece_within c.longest.result c.args.bytes.now c.longest.ensures
