use Rattle.std.proofs.Common.{◌+◌, ◌<◌, ◌≤◌, ◌≡◌, length, subst}
use Rattle.surf_base.specs.Taken.{OnTooLong, UnlessTooLong}
use Rattle.surf_cli.specs.Spoken.{named}
use Rattle.surf_cli.proofs.Readings.{file-got, file-not-got}
use Rattle.surf_cli.proofs.reading.read_file.Goals as goal

pub returns-clause-ok : goal.returns-clause-ok
returns-clause-ok g c =
    let r = c.read_whole.result in
    file-got (named c.args.file) _ _ _ _ (g.F.Files.taken c.read_whole.new.files) r c.read_whole.ensures.held c.read_whole.ensures.faults c.read_whole.ensures.count
    (subst (λ k. UnlessTooLong r (g.F.Files.taken c.read_whole.new.files ≤ k)) c.limit.ensures.value c.read_whole.ensures.within) c.read_whole.ensures.content c.read_whole.ensures.absent

pub returns-clause-err : goal.returns-clause-err
returns-clause-err g c =
    let r = c.read_whole.result in
    file-not-got (named c.args.file) _ _ _ _ (g.F.Files.taken c.read_whole.new.files) r c.read_whole.ensures.held c.read_whole.ensures.faults c.read_whole.ensures.failed
    (subst (λ k. OnTooLong r (g.F.Files.taken c.read_whole.new.files ≡ k + 1)) c.limit.ensures.value c.read_whole.ensures.too_long)
    (λ bytes is. subst (λ k. OnTooLong r (k < length bytes)) c.limit.ensures.value (c.read_whole.ensures.longer bytes is)) c.read_whole.ensures.absent
