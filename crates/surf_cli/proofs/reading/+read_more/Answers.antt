use Rattle.std.proofs.Common.{◌≡◌, List, [], ◌∷◌, map, ap}
use Rattle.surf_cli.specs.declared.files.NamedFile.{NamedFile}
use Rattle.surf_cli.specs.Spoken.{named, gathered}
use Rattle.std.proofs.lemmas.Result.{IfOk-weaker, IfErr-weaker}
use Rattle.surf_cli.proofs.Readings.{files-read, none-first, none-later}
use Rattle.surf_cli.proofs.reading.+read_more.Goals as goal

no-more : (xs : List NamedFile) → map named xs ≡ [] → xs ≡ []
no-more [] e = cc
no-more (x ∷ xs) e = absurd cc

pub returns-in-Ok-clause-ok : goal.returns-in-Ok-clause-ok
returns-in-Ok-clause-ok g t c =
    IfOk-weaker c.read_more.result _ _
    (λ more got. files-read _ _ _ _ _ _ _ _ _ _ _ c.in-Ok.bytes.items (gathered c.args.contents) _ (gathered more) (ap (map named) c.in-Some.ensures.cases.0) c.in-Ok.ensures.ok c.with.ensures got
    (λ e. ap g.F.Files.taken ((c.read_more.ensures.none (no-more _ e)).0))) c.read_more.ensures.ok

pub returns-in-Ok-clause-err : goal.returns-in-Ok-clause-err
returns-in-Ok-clause-err g t c =
    IfErr-weaker c.read_more.result _ _
    (λ fault none. none-later _ _ _ _ _ _ _ _ _ _ _ c.in-Ok.bytes.items fault (ap (map named) c.in-Some.ensures.cases.0) c.in-Ok.ensures.ok none) c.read_more.ensures.err

pub returns-in-Err-clause-err : goal.returns-in-Err-clause-err
returns-in-Err-clause-err g t c = none-first _ _ _ _ _ _ _ _ c.in-Err.fault (ap (map named) c.in-Some.ensures.cases.0) c.in-Err.ensures.err
