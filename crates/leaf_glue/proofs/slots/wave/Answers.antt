use Rattle.std.proofs.Common.{◌≤◌, ◌+◌, take, List, length, arith, ℕ, sym, ◌∙◌, ap}
use Rattle.std.specs.Prelude.{sum_by}
use Rattle.std.proofs.lemmas.List.{take_all}
use Rattle.std.proofs.lemmas.List.Sums.{sum_by_more}
use Rattle.noc_model.specs.Place.{coord, coords_in, wave}
use Rattle.noc_model.proofs.Coords.{length-coords}
use Rattle.noc_model.proofs.Plans.{side-few}
use Rattle.leaf_glue.proofs.slots.wave.Goals as goal

pub overflow_add-sum : goal.overflow_add-sum
overflow_add-sum c =
    let few = side-few c.args.plan.now c.loop-i.i c.known.ensures.sides (omega arith) in
    omega arith

pub loop-i-preserved : goal.loop-i-preserved
unfolding coord
loop-i-preserved c =
    let few = side-few c.args.plan.now c.loop-i.i c.known.ensures.sides (omega arith) in
    let all = length-coords c.args.plan.now.dims c.args.tile in
    let cs : List ℕ = coords_in c.args.plan.now.dims c.args.tile in
    let more = sum_by_more (λ (x : ℕ). x) cs c.loop-i.i 0 (omega arith) in
    record { so_far = ap (λ s. s + c.coord-sum.result) c.loop-i.invariant.so_far ∙ ap (λ x. sum_by (λ c. c) (take c.loop-i.i cs) + x) c.coord-sum.ensures.value ∙ sym more; small = omega arith }

pub returns-clause-wave : goal.returns-clause-wave
unfolding wave
returns-clause-wave c =
    let all = length-coords c.args.plan.now.dims c.args.tile in
    let less : length (coords_in c.args.plan.now.dims c.args.tile) ≤ c.loop-i.i = omega arith in
    c.loop-i.invariant.so_far ∙ ap (sum_by (λ c. c)) (take_all c.loop-i.i (coords_in c.args.plan.now.dims c.args.tile) less)
