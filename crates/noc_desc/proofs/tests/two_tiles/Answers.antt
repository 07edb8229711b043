use Rattle.std.proofs.Common.{◌≡◌, true, rules}
use Rattle.std.specs.Prelude.{codes}
use Rattle.std.specs.Str.{is_utf8}
use Rattle.std.proofs.lemmas.Str.{is_utf8-from_IsUtf8, IsUtf8-from_ascii}
use Rattle.noc_desc.proofs.tests.two_tiles.Goals as goal

mesh : is_utf8 (codes "mesh") ≡ true
mesh = is_utf8-from_IsUtf8 (codes "mesh") (IsUtf8-from_ascii (codes "mesh") (search rules))

pub returns : goal.returns
returns c =
    rw (c.in_ok-from_slice.ensures, c.new.ensures, c.new-2.ensures, c.new-3.ensures)
    record { shape = mesh; names = search rules; hosts = search rules; slots = search rules }
