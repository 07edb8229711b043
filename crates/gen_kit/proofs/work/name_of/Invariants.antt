use Rattle.std.proofs.Common.{◌≡◌, take}
use Rattle.gen_kit.specs.Ports.{name_with}
use Rattle.gen_kit.proofs.work.name_of.Given as goal

abbrev pub invariant-loop-number : goal.invariant-loop-number
invariant-loop-number l = l.name ≡ name_with l.fn.head (take l.number-index l.numbers)
