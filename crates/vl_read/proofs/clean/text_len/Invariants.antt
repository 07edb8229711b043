use Rattle.std.proofs.Common.{◌≡◌, ◌+◌, drop}
use Rattle.std.specs.List.{prefix_len}
use Rattle.vl_tree.specs.Spells.{is_text_byte}
use Rattle.vl_read.proofs.clean.text_len.Given as goal

abbrev pub invariant-loop-i : goal.invariant-loop-i
invariant-loop-i l = l.i + prefix_len is_text_byte (drop l.i l.bytes) ≡ prefix_len is_text_byte l.bytes
