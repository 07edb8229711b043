-- A worked run in three dimensions, computed.
use Rattle.std.proofs.Common.{◌≡◌, ◌∷◌, refl}
use Rattle.std.specs.Prelude.{codes}
use Rattle.noc_model.proofs.Everything.{everything}
use Rattle.noc_model.specs.Examples.{cube, quiet_for, offered, alone}
use Rattle.noc_model.proofs.RunRows.{report_of}

word_across_a_cube : report_of cube 0 (offered 0 (alone 0x700 5) ∷ quiet_for 19)
    ≡ codes "domain a\n0 0 take 00000005\n16 7 got 11 00000005\nend 1 0 0 1\n"
unfolding everything quiet_for
word_across_a_cube = refl
