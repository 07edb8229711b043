use Rattle.std.proofs.Common.{◌≡◌, ◌+◌, ◌++◌, inl, List, take, append_assoc, sym, ap, ◌∙◌, arith}
use Rattle.std.proofs.lemmas.List.{append-nil, take_all}
use Rattle.noc_model.specs.declared.Event.{Event}
use Rattle.noc_model.specs.declared.Host.{Host}
use Rattle.noc_model.specs.declared.Kind.TheVariants.{Take}
use Rattle.noc_model.proofs.HostTiles.{host-before}
use Rattle.tile_drive.specs.Seen.{seen_at}
use Rattle.tile_drive.specs.SeenEvents.{event_at, seen_events, events_seen}
use Rattle.tile_drive.proofs.Following.{later-host}
use Rattle.tile_drive.proofs.SeenEvents.{seen-next}
use Rattle.tile_drive.proofs.seen_events.push_seen.Goals as goal

pub push_attached-requires-clause-follows : goal.push_attached-requires-clause-follows
push_attached-requires-clause-follows c = c.loop-j.invariant.here c.attach.result c.attach.ensures

pub loop-j-init : goal.loop-j-init
loop-j-init c = record {
  so_far = sym (append-nil c.args.events.now);
  here = λ h at. c.requires.follows (event_at c.args.t h (Take 0)) (omega arith);
  later = λ f after. c.requires.follows f (omega arith);
}

pub loop-j-preserved : goal.loop-j-preserved
loop-j-preserved c =
    let t = c.args.t in
    let hosts : List Host = c.args.plan.now.hosts in
    let seen = c.args.seen.now in
    let j = c.loop-j.j in
    let g : Host = c.attach.result in
    let old : List Event = c.args.events.now in
    let here : List Event = seen_events t g (seen_at seen j) in
    record {
      so_far = c.in_ok-push_attached.ensures.ok ∙ ap (λ (es : List Event). es ++ here) c.loop-j.invariant.so_far
          ∙ append_assoc old (events_seen t seen 0 (take j hosts)) here ∙ ap (λ (es : List Event). old ++ es) (sym (seen-next t j seen hosts g c.attach.ensures));
      here = λ h at. c.in_ok-push_attached.ensures.follows (event_at t h (Take 0))
          (later-host t g h (Take 0) (host-before c.args.plan.now j (j + 1) g h c.known.ensures c.attach.ensures at (omega arith)));
      later = λ f after. c.in_ok-push_attached.ensures.follows f (inl after);
    }

pub returns-clause-ok : goal.returns-clause-ok
returns-clause-ok c =
    let all : take c.loop-j.j c.args.plan.now.hosts ≡ c.args.plan.now.hosts =
    take_all c.loop-j.j c.args.plan.now.hosts (omega arith) in
    c.loop-j.invariant.so_far
    ∙ ap (λ (hs : List Host). c.args.events.now ++ events_seen c.args.t c.args.seen.now 0 hs) all
