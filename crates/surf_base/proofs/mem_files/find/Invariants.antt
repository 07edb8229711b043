use Rattle.surf_base.proofs.MemFilesLemmas.{IsLast}
use Rattle.surf_base.proofs.mem_files.find.Given as goal

abbrev pub invariant-loop-i : goal.invariant-loop-i
invariant-loop-i l = IsLast l.files l.name l.i l.found
