use Rattle.surf_base.proofs.NumbersLemmas.{Reads}
use Rattle.surf_base.proofs.numbers.read_digits.Given as goal

abbrev pub invariant-loop-byte : goal.invariant-loop-byte
invariant-loop-byte l = Reads l.radix l.bytes l.byte-index l.value
