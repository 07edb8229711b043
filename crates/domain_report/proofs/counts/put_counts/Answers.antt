use Rattle.std.proofs.Common.{ℕ, List, ◌∷◌, [], ◌++◌}
use Rattle.std.specs.Prelude.{decimal, codes}
use Rattle.std.proofs.lemmas.Result.{err_from_is_err_and}
use Rattle.surf_base.proofs.Blocks.{Writes-then, Writes-err, Puts-then, BreaksOff-then, BreaksOff-more}
use Rattle.domain_report.specs.declared.counts.Counts.{Counts}
use Rattle.domain_report.proofs.counts.put_counts.Goals as goal

-- the line up to the second number, the third and the last
abbrev two : Counts → List ℕ
two n = codes "end " ++ decimal n.takes ++ 32 ∷ decimal n.waits

abbrev three : Counts → List ℕ
three n = two n ++ 32 ∷ decimal n.drops

abbrev four : Counts → List ℕ
four n = three n ++ 32 ∷ decimal n.gots

pub returns-in_err-put_labelled : goal.returns-in_err-put_labelled
returns-in_err-put_labelled g c =
    let n = c.args.counts.now in
    let p = err_from_is_err_and c.from_residual.result c.from_residual.ensures.1 in
    Writes-err c.from_residual.result p.0 _ _ (four n) (10 ∷ []) p.1
    (BreaksOff-more _ _ (three n) (32 ∷ decimal n.gots)
    (BreaksOff-more _ _ (two n) (32 ∷ decimal n.drops)
    (BreaksOff-more _ _ (codes "end " ++ decimal n.takes) (32 ∷ decimal n.waits) c.in_err-put_labelled.ensures)))

pub returns-in_err-put_labelled-2 : goal.returns-in_err-put_labelled-2
returns-in_err-put_labelled-2 g c =
    let n = c.args.counts.now in
    let p =
    err_from_is_err_and c.from_residual-in_err-put_labelled-2.result c.from_residual-in_err-put_labelled-2.ensures.1 in
    Writes-err c.from_residual-in_err-put_labelled-2.result p.0 _ _ (four n) (10 ∷ []) p.1
    (BreaksOff-more _ _ (three n) (32 ∷ decimal n.gots)
    (BreaksOff-more _ _ (two n) (32 ∷ decimal n.drops)
    (BreaksOff-then _ _ _ (codes "end " ++ decimal n.takes) (32 ∷ decimal n.waits) c.in_ok-put_labelled.ensures c.in_err-put_labelled-2.ensures)))

pub returns-in_err-put_labelled-3 : goal.returns-in_err-put_labelled-3
returns-in_err-put_labelled-3 g c =
    let n = c.args.counts.now in
    let p =
    err_from_is_err_and c.from_residual-in_err-put_labelled-3.result c.from_residual-in_err-put_labelled-3.ensures.1 in
    let waits =
    Puts-then _ _ _ (codes "end " ++ decimal n.takes) (32 ∷ decimal n.waits) c.in_ok-put_labelled.ensures c.in_ok-put_labelled-2.ensures in
    Writes-err c.from_residual-in_err-put_labelled-3.result p.0 _ _ (four n) (10 ∷ []) p.1
    (BreaksOff-more _ _ (three n) (32 ∷ decimal n.gots)
    (BreaksOff-then _ _ _ (two n) (32 ∷ decimal n.drops) waits c.in_err-put_labelled-3.ensures))

pub returns-in_err-put_labelled-4 : goal.returns-in_err-put_labelled-4
returns-in_err-put_labelled-4 g c =
    let n = c.args.counts.now in
    let p =
    err_from_is_err_and c.from_residual-in_err-put_labelled-4.result c.from_residual-in_err-put_labelled-4.ensures.1 in
    let waits =
    Puts-then _ _ _ (codes "end " ++ decimal n.takes) (32 ∷ decimal n.waits) c.in_ok-put_labelled.ensures c.in_ok-put_labelled-2.ensures in
    let drops = Puts-then _ _ _ (two n) (32 ∷ decimal n.drops) waits c.in_ok-put_labelled-3.ensures in
    Writes-err c.from_residual-in_err-put_labelled-4.result p.0 _ _ (four n) (10 ∷ []) p.1
    (BreaksOff-then _ _ _ (three n) (32 ∷ decimal n.gots) drops c.in_err-put_labelled-4.ensures)

pub returns : goal.returns
returns g c =
    let n = c.args.counts.now in
    let waits =
    Puts-then _ _ _ (codes "end " ++ decimal n.takes) (32 ∷ decimal n.waits) c.in_ok-put_labelled.ensures c.in_ok-put_labelled-2.ensures in
    let drops = Puts-then _ _ _ (two n) (32 ∷ decimal n.drops) waits c.in_ok-put_labelled-3.ensures in
    let gots = Puts-then _ _ _ (three n) (32 ∷ decimal n.gots) drops c.in_ok-put_labelled-4.ensures in
    Writes-then c.put.result _ _ _ (four n) (10 ∷ []) gots c.put.ensures
