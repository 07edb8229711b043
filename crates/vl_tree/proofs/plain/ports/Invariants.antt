use Rattle.std.proofs.Common.{◌≡◌, drop}
use Rattle.std.specs.List.{list_all}
use Rattle.vl_tree.specs.Plain.{plain_port}
use Rattle.vl_tree.proofs.plain.ports.Given as goal

abbrev pub invariant-loop-p : goal.invariant-loop-p
invariant-loop-p l = list_all plain_port l.ps ≡ list_all plain_port ((drop l.p-index l.ps))
