use Rattle.std.proofs.Common.{◌≡◌, ◌<◌, ◌+◌, ◌*◌, get_or, [], length, refl, ap, ◌∙◌, arith}
use Rattle.std.proofs.lemmas.List.{get_or_read}
use Rattle.cycle_sim.proofs.Numbers.{number-below, number-is}
use Rattle.cycle_sim.proofs.wake.row_at.Goals as goal

pub bounds-rows-tile : goal.bounds-rows-tile
bounds-rows-tile c =
    let p = c.args.plan.now in
    let at = number-is p c.args.tile c.args.port c.ports.result c.args.port c.ports.ensures.value refl in
    let low = number-below p c.args.tile c.args.port c.requires.tile c.requires.port in
    omega (arith, at, low, c.requires.rows)

pub returns : goal.returns
returns c =
    let p = c.args.plan.now in
    let at = number-is p c.args.tile c.args.port c.ports.result c.args.port c.ports.ensures.value refl in
    let low = number-below p c.args.tile c.args.port c.requires.tile c.requires.port in
    let inside : c.args.tile * c.ports.result + c.args.port < length c.args.rows.now = omega (arith, at, low, c.requires.rows) in
    get_or_read c.args.rows.now _ _ inside c.index-rows-tile.is [] ∙ ap (λ k. get_or c.args.rows.now k []) at
