use Rattle.std.proofs.Common.{◌≤◌, ◌+◌, ◌%◌, ℕ, List, length, sym, ap, ◌∙◌, subst, arith}
use Rattle.stress_gen.proofs.Sent.{sent, sent-after}
use Rattle.stress_gen.proofs.Sound.{one-tile, drawn-small}
use Rattle.stress_gen.proofs.sends.draw_send.Goals as goal

pub draw_tile-tile-requires : goal.draw_tile-tile-requires
draw_tile-tile-requires c =
    let tiles = c.as_slice.ensures.value ∙ c.in_ok-tiles.ensures in
    subst (λ (ts : List ℕ). 1 ≤ length ts) (sym tiles) (one-tile c.args.plan.now c.args.attach c.attach.result c.known.ensures c.attach.ensures)

pub overflow_mul-address : goal.overflow_mul-address
overflow_mul-address c =
    let small = drawn-small c.args.plan.now c.attach.result.domain _ c.draw_tile-tile.result c.as_slice.result.now c.known.ensures (c.as_slice.ensures.value ∙ c.in_ok-tiles.ensures) c.draw_tile-tile.ensures.tile in
    omega arith

pub overflow_add-address : goal.overflow_add-address
overflow_add-address c =
    let small = drawn-small c.args.plan.now c.attach.result.domain _ c.draw_tile-tile.result c.as_slice.result.now c.known.ensures (c.as_slice.ensures.value ∙ c.in_ok-tiles.ensures) c.draw_tile-tile.ensures.tile in
    omega arith

pub returns-clause-entry : goal.returns-clause-entry
returns-clause-entry c =
    sent c.args.plan.now c.args.cycle c.args.attach c.args.draws.now.number c.draw.new.self.number c.draw_tile-tile.new.draws.number c.draw-2.new.self.number
    c.draw_tile-tile.result c.draw-2.result (1 + c.draw.result % 4) c.attach.result c.as_slice.result.now c.in_ok-words.words c.attach.ensures (c.as_slice.ensures.value ∙ c.in_ok-tiles.ensures)
    c.draw.ensures.number c.draw_tile-tile.ensures.number c.draw-2.ensures.number c.draw_tile-tile.ensures.tile c.draw-2.ensures.value (ap (λ r. 1 + r % 4) c.draw.ensures.value) c.in_ok-words.ensures.words

pub returns-clause-number : goal.returns-clause-number
returns-clause-number c =
    sent-after c.args.draws.now.number c.draw.new.self.number c.draw_tile-tile.new.draws.number c.draw-2.new.self.number (1 + c.draw.result % 4) c.words.new.self.number
    c.draw.ensures.number c.draw_tile-tile.ensures.number c.draw-2.ensures.number (ap (λ r. 1 + r % 4) c.draw.ensures.value) c.in_ok-words.ensures.number
