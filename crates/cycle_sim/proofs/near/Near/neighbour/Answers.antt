use Rattle.std.proofs.Common.{◌≡◌, ◌<◌, ◌+◌, ◌*◌, None, get_or, length, refl, ap, ◌∙◌, arith}
use Rattle.std.proofs.lemmas.List.{get_or_read}
use Rattle.cycle_sim.proofs.Numbers.{number-below, number-is, near-length, near-at, near-inside}
use Rattle.cycle_sim.proofs.near.Near.neighbour.Goals as goal

pub index-requires : goal.index-requires
index-requires c =
    let p = c.args.plan.now in
    let at = number-is p c.args.tile c.args.port c.ports.result c.args.port c.ports.ensures.value refl in
    let low = number-below p c.args.tile c.args.port c.requires.tile c.requires.port in
    let long = near-length p c.args.self.now c.requires.near in
    let len = c.args.self.now.ends.ok.0 in
    omega (arith, at, low, long, len)

pub returns-clause-value : goal.returns-clause-value
returns-clause-value c =
    let p = c.args.plan.now in
    let ends = c.args.self.now.ends.items in
    let at = number-is p c.args.tile c.args.port c.ports.result c.args.port c.ports.ensures.value refl in
    let low = number-below p c.args.tile c.args.port c.requires.tile c.requires.port in
    let long = near-length p c.args.self.now c.requires.near in
    let inside : c.args.tile * c.ports.result + c.args.port < length ends = omega (arith, at, low, long) in
    get_or_read ends _ _ inside c.index.ensures None ∙ ap (λ k. get_or ends k None) at ∙ near-at p c.args.self.now c.args.tile c.args.port c.requires.near c.requires.tile c.requires.port

pub returns-clause-tile : goal.returns-clause-tile
returns-clause-tile c = near-inside c.args.plan.now c.args.tile c.args.port c.index.result.now c.known.ensures c.requires.tile (returns-clause-value c)
