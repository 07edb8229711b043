use Rattle.std.proofs.Common.{◌≡◌, ◌++◌, drop}
use Rattle.vl_tree.specs.Layout.{each_text, port_text}
use Rattle.vl_text.proofs.modules.ports.Given as goal

abbrev pub invariant-loop-p : goal.invariant-loop-p
invariant-loop-p l =
    l.out.items ++ each_text port_text (drop l.p-index l.ps) ≡ l.fn.out.items ++ each_text port_text (l.ps)
