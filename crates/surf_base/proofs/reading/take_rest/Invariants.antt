use Rattle.std.proofs.Common.{◌-◌, ◌≡◌, ◌≤◌, true, vec_len}
use Rattle.surf_base.specs.Taken.{content_of}
use Rattle.surf_base.proofs.reading.take_rest.Given as goal

abbrev pub invariant-turns : goal.invariant-turns
invariant-turns g l = record {
  held : g.F.Files.held l.files ≡ g.F.Files.held l.initial.files;
  faults : g.F.Files.faults l.initial.files ≤ g.F.Files.faults l.files;
  opened : g.F.Files.opened l.files ≡ true;
  taken : g.F.Files.taken l.files ≡ vec_len l.bytes;
  so_far : vec_len l.bytes ≤ l.limit;
  content : content_of l.bytes.items (g.F.Files.left l.files) ≡ content_of l.initial.bytes.items (g.F.Files.left l.initial.files);
}

abbrev pub decreases-turns : goal.decreases-turns
decreases-turns g l = l.limit - vec_len l.bytes
