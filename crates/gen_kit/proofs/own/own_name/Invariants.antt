use Rattle.std.proofs.Common.{◌≡◌, take}
use Rattle.gen_kit.specs.OwnNames.{own_name_of}
use Rattle.gen_kit.proofs.own.own_name.Given as goal

abbrev pub invariant-loop-number : goal.invariant-loop-number
invariant-loop-number l = l.name ≡ own_name_of l.fn.tag (take l.number-index l.numbers)
