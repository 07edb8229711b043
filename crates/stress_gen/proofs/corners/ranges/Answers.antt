use Rattle.std.proofs.Common.{◌++◌, ◌∷◌, [], List, ap, sym, ◌∙◌, arith}
use Rattle.std.proofs.lemmas.List.FromFn.{map-range_with_len_more}
use Rattle.noc_model.specs.declared.Range.{Range}
use Rattle.stress_gen.specs.Corners.{range_of}
use Rattle.stress_gen.proofs.corners.ranges.Goals as goal

pub loop-tile-preserved : goal.loop-tile-preserved
loop-tile-preserved c =
    let n = c.loop-tile.tile in
    c.in_ok-push.ensures.items ∙ ap (λ (rs : List Range). rs ++ range_of n ∷ []) c.loop-tile.invariant ∙ sym (map-range_with_len_more range_of 0 n n (omega arith))
