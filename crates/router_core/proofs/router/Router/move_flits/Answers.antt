use Rattle.std.proofs.Common.{◌≡◌, ◌∙◌, ◌<◌, ℕ, false, get_or, sym, ap, subst, None}
use Rattle.noc_model.specs.Plan.{ports}
use Rattle.noc_model.specs.Inputs.{input_count}
use Rattle.route_stage.specs.Routed.{stage_at}
use Rattle.vc_alloc.specs.Allocator.{best_at}
use Rattle.vc_alloc.specs.Shown.{GoesBelow}
use Rattle.router_core.specs.Asks.{HaveOutputs}
use Rattle.router_core.specs.Buffers.{flits_at}
use Rattle.router_core.specs.Idle.{has_head}
use Rattle.router_core.specs.Crossing.{CanSend, SendsBelow, laid, laid_at}
use Rattle.router_core.specs.Heads.{FrontsGo}
use Rattle.router_core.specs.Parts.{Parts}
use Rattle.router_core.specs.Pulses.{ArePulses}
use Rattle.router_core.proofs.Moving.{ready-outs, ready-fronts, ready-below, path2, path3, has-placed, is-sending, all-sent, all-flits, can-send, best-none}
use Rattle.router_core.proofs.router.Router.move_flits.Goals as goal

pub ask_all-waits-requires-clause-outs : goal.ask_all-waits-requires-clause-outs
ask_all-waits-requires-clause-outs c =
    let p = c.args.plan.now in
    let d = c.args.d in
    let P : Parts → Type 0 = λ r. HaveOutputs p d r in
    subst P (sym c.clear.ensures.rest) (ready-outs c.args.self.now p d c.requires.made c.requires.domain c.requires.ready)

pub place_heads-requires-clause-waits : goal.place_heads-requires-clause-waits
place_heads-requires-clause-waits c = λ none.
    let p = c.args.plan.now in
    let d = c.args.d in
    let P : Parts → Type 0 = λ r. (k : ℕ) → k < input_count p d → has_head (stage_at r.stages d k) (flits_at r.buffers d k) ≡ false in
    subst P (sym c.ask_all-waits.ensures.rest) (c.ask_all-waits.ensures.heads none)

pub place_heads-requires-clause-dest : goal.place_heads-requires-clause-dest
place_heads-requires-clause-dest c =
    let p = c.args.plan.now in
    let d = c.args.d in
    let P : Parts → Type 0 = λ r. FrontsGo p r.buffers d in
    subst P (sym (path2 c.args.self.now c.clear.new.self c.ask_all-waits.new.self c.clear.ensures.rest c.ask_all-waits.ensures.rest))
    (ready-fronts c.args.self.now p d c.requires.made c.requires.domain c.requires.ready)

pub place_heads-requires-clause-outs : goal.place_heads-requires-clause-outs
place_heads-requires-clause-outs c =
    let p = c.args.plan.now in
    let d = c.args.d in
    let P : Parts → Type 0 = λ r. (k : ℕ) → GoesBelow (ports p) (stage_at r.stages d k) in
    subst P (sym (path2 c.args.self.now c.clear.new.self c.ask_all-waits.new.self c.clear.ensures.rest c.ask_all-waits.ensures.rest))
    (ready-below c.args.self.now p d c.requires.made c.requires.domain c.requires.ready)

pub place_heads-requires-clause-quiet : goal.place_heads-requires-clause-quiet
place_heads-requires-clause-quiet c =
    let P : Parts → Type 0 = λ r. (o : ℕ) → best_at r.allocator o ≡ None in
    subst P (sym (path2 c.args.self.now c.clear.new.self c.ask_all-waits.new.self c.clear.ensures.rest c.ask_all-waits.ensures.rest)) c.requires.quiet

pub send_all-requires-clause-can : goal.send_all-requires-clause-can
send_all-requires-clause-can c =
    let p = c.args.plan.now in
    let d = c.args.d in
    let r = c.args.self.now in
    let q1 = c.clear.new.self in
    let q2 = c.ask_all-waits.new.self in
    let q3 = c.place_heads.new.self in
    let P : Parts → Type 0 = λ z. CanSend p d z in
    let h = has-placed p d r q1 q2 q3 c.clear.ensures.rest c.ask_all-waits.ensures.rest c.place_heads.ensures.rest c.place_heads.ensures.made c.clear.ensures.own c.ask_all-waits.ensures.asks c.ask_all-waits.ensures.shows
    c.place_heads.ensures.own in
    subst P (sym (path3 r q1 q2 q3 c.clear.ensures.rest c.ask_all-waits.ensures.rest c.place_heads.ensures.rest))
    (can-send p d r q1.switch q2.switch q1.pulses q3.allocator q3.stages c.requires.ready h)

pub returns-clause-rest : goal.returns-clause-rest
returns-clause-rest c =
    let r = c.args.self.now in
    let q4 = c.send_all.new.self in
    let f : Parts → Parts = λ z. record z {
      buffers = q4.buffers;
      stages = q4.stages;
      pulses = q4.pulses;
      allocator = q4.allocator;
      switch = q4.switch;
      credits = q4.credits;
    } in
    c.send_all.ensures.rest ∙ ap f (path3 r c.clear.new.self c.ask_all-waits.new.self c.place_heads.new.self c.clear.ensures.rest c.ask_all-waits.ensures.rest c.place_heads.ensures.rest)

pub returns-clause-own : goal.returns-clause-own
returns-clause-own c = λ s t shown stands.
    let p = c.args.plan.now in
    let d = c.args.d in
    let r = c.args.self.now in
    let q1 = c.clear.new.self in
    let q2 = c.ask_all-waits.new.self in
    let q3 = c.place_heads.new.self in
    let q4 = c.send_all.new.self in
    let h = has-placed p d r q1 q2 q3 c.clear.ensures.rest c.ask_all-waits.ensures.rest c.place_heads.ensures.rest c.place_heads.ensures.made c.clear.ensures.own c.ask_all-waits.ensures.asks c.ask_all-waits.ensures.shows
    c.place_heads.ensures.own in
    let P : Parts → Type 0 = λ z. SendsBelow (ports p) p d z q4 c.args.links.now c.send_all.new.links in
    let sends = subst P (path3 r q1 q2 q3 c.clear.ensures.rest c.ask_all-waits.ensures.rest c.place_heads.ensures.rest) c.send_all.ensures in
    all-sent p d r q1.switch q2.switch q1.pulses q3.allocator q3.stages c.requires.ready h s t shown stands q4
    (sends.own _ _ t _ (is-sending p d r q1.switch q2.switch q1.pulses q3.allocator q3.stages c.requires.ready h s t shown stands))

pub returns-clause-sent : goal.returns-clause-sent
returns-clause-sent c = λ s t o shown stands o_in.
    let p = c.args.plan.now in
    let d = c.args.d in
    let r = c.args.self.now in
    let q1 = c.clear.new.self in
    let q2 = c.ask_all-waits.new.self in
    let q3 = c.place_heads.new.self in
    let q4 = c.send_all.new.self in
    let h = has-placed p d r q1 q2 q3 c.clear.ensures.rest c.ask_all-waits.ensures.rest c.place_heads.ensures.rest c.place_heads.ensures.made c.clear.ensures.own c.ask_all-waits.ensures.asks c.ask_all-waits.ensures.shows
    c.place_heads.ensures.own in
    let P : Parts → Type 0 = λ z. SendsBelow (ports p) p d z q4 c.args.links.now c.send_all.new.links in
    let sends = subst P (path3 r q1 q2 q3 c.clear.ensures.rest c.ask_all-waits.ensures.rest c.place_heads.ensures.rest) c.send_all.ensures in
    sends.sent _ _ t _ o (is-sending p d r q1.switch q2.switch q1.pulses q3.allocator q3.stages c.requires.ready h s t shown stands) o_in
    ∙ ap (λ y. laid y (laid_at c.args.links.now o)) (all-flits p d r q1.switch q2.switch q1.pulses q3.allocator q3.stages c.requires.ready h s t shown stands o o_in)

pub returns-clause-others : goal.returns-clause-others
returns-clause-others c = λ e s apart shown.
    c.send_all.ensures.others e s apart (c.place_heads.ensures.others e s apart (c.ask_all-waits.ensures.shows e s (c.clear.ensures.others e s apart shown)))

pub returns-clause-quiet : goal.returns-clause-quiet
returns-clause-quiet c = λ o.
    let made = c.place_heads.ensures.made in
    ap (λ l. get_or l o None) c.send_all.ensures.best
    ∙ best-none c.args.plan.now c.place_heads.new.self.allocator (made.allocator.domains c.args.d c.requires.domain).port_count c.place_heads.ensures.quiet o

pub returns-clause-pulses : goal.returns-clause-pulses
returns-clause-pulses c = λ are.
    let P : Parts → Type 0 = λ r. ArePulses c.args.plan.now r.pulses in
    let e = c.place_heads.ensures.rest ∙ ap (λ (z : Parts). let y : Parts = record z { allocator = c.place_heads.new.self.allocator; stages = c.place_heads.new.self.stages } in y) c.ask_all-waits.ensures.rest in
    c.send_all.ensures.kept (subst P (sym e) (c.clear.ensures.pulses are))
