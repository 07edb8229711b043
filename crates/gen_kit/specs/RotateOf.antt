-- The names that a round-robin choice of the code has.
use Rattle.gen_kit.specs.declared.rotate.Rotate.{Rotate}
use Rattle.gen_kit.specs.Rotate.{RotateNames}

-- the names of its nets
abbrev pub names_of : Rotate → RotateNames
names_of r = record { request = r.request; pointer = r.pointer; some = r.some; winner = r.winner }
