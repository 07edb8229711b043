use Rattle.std.proofs.Common.{◌+◌, ◌<◌, length, ◌∙◌, sym, arith, subst}
use Rattle.noc_model.specs.Plan.{in_channels}
use Rattle.vc_partition.specs.Lanes.{lane}
use Rattle.slot_switch.specs.Switch.{Switch}
use Rattle.slot_switch.proofs.Asking.{IsAsking, asking-start, asking-skip, asking-more, asking-end, cleared-none, cleared-only, only-then, only-turn}
use Rattle.slot_switch.proofs.SlotSwitch.ask_port.Goals as goal
use Rattle.slot_switch.proofs.SlotSwitch.ask_port.Goals.{in-Some, in_default}

pub loop-ch-init : goal.loop-ch-init
loop-ch-init c =
    let x = c.args.self.now in
    let d = c.args.d in
    let there : d < length x.asks = let e = c.requires.made.domains in omega (arith, e, c.requires.domain) in
    let inside : c.args.port < length (lane x.asks d) = let a = c.known.ensures.ask_places d there in let e = c.requires.made.port_count in omega (arith, a, e, c.requires.port) in
    asking-start c.clear.new.self c.args.plan.now d c.args.port c.args.wheel.now c.args.stages.now c.args.fronts.now c.args.credits.now c.args.room.now
    (cleared-none x c.clear.new.self d c.args.port c.clear.ensures there inside)

pub loop-ch-preserved : goal.loop-ch-preserved
loop-ch-preserved c =
    let p = c.args.plan.now in
    let d = c.args.d in
    let port = c.args.port in
    let v = c.args.self.now in
    let x = c.clear.new.self in
    let channel : c.loop-ch.ch < in_channels p d port =
    omega (arith, c.loop-ch-test.true, c.channel_count-ch-end.ensures.value) in
    let there : d < length v.asks = let e = c.requires.made.domains in omega (arith, e, c.requires.domain) in
    let cleared = cleared-only v x d port c.clear.ensures there in
    let only = only-then v x c.loop-ch.self d cleared c.loop-ch.invariant.only in
    let there_now : d < length c.loop-ch.self.asks = let e = only.asks.domains in omega (arith, e, there) in
    let inside : port < length (lane c.loop-ch.self.asks d) =
    let a = c.known.ensures.ask_places d there in let e = c.requires.made.port_count in let same = only.asks.places in omega (arith, a, e, same, c.requires.port) in
    let P : Switch → Type 0 =
    λ w. IsAsking x w p d port (c.loop-ch.ch + 1) c.args.wheel.now c.args.stages.now c.args.fronts.now c.args.credits.now c.args.room.now in
    elim c.match-ask_of.branch [
      | in-Some w ↦
          subst P (sym w.self-is)
          (asking-more x c.loop-ch.self w.ask.new.self p d port c.loop-ch.ch w.in-Some.grant c.args.wheel.now c.args.stages.now c.args.fronts.now
          c.args.credits.now c.args.room.now channel there_now inside w.in-Some.ensures.channel w.ask.ensures
          w.in-Some.ensures.value c.loop-ch.invariant)
      | in_default w ↦
          subst P (sym w.self-is)
          (asking-skip x c.loop-ch.self p d port c.loop-ch.ch c.args.wheel.now c.args.stages.now c.args.fronts.now c.args.credits.now c.args.room.now channel
          (λ n t s i shown. sym w.in_default.is ∙ c.ask_of.ensures.value n t s i shown) c.loop-ch.invariant)
    ]

pub returns-clause-asked : goal.returns-clause-asked
returns-clause-asked c = λ n t s i shown turn.
    let d = c.args.d in
    let v = c.args.self.now in
    let x = c.clear.new.self in
    let there : d < length v.asks = let e = c.requires.made.domains in omega (arith, e, c.requires.domain) in
    let cleared = cleared-only v x d c.args.port c.clear.ensures there in
    asking-end x c.loop-ch.self c.args.plan.now d c.args.port c.loop-ch.ch c.args.wheel.now c.args.stages.now c.args.fronts.now c.args.credits.now
    c.args.room.now (omega (arith, c.loop-ch-test.false, c.channel_count-ch-end.ensures.value)) c.loop-ch.invariant n t s i shown (only-turn v x d d c.args.port cleared ∙ turn)
