use Rattle.std.proofs.Common.{◌≡◌, ℕ, ◌++◌, List, [], drop, sym, ap, ◌∙◌, arith}
use Rattle.std.proofs.lemmas.List.{append-nil, drop_all}
use Rattle.noc_model.proofs.HostTiles.{host_tiles, hosts_of-tiles}
use Rattle.stress_gen.proofs.More.{tiles-own, tiles-other}
use Rattle.stress_gen.proofs.sends.tiles_of.Goals as goal
use Rattle.stress_gen.proofs.sends.tiles_of.Goals.{then-host-d+in_ok-push, else-host-d}

pub loop-j-preserved : goal.loop-j-preserved
loop-j-preserved c =
    let d = c.args.d in
    let hs = c.args.plan.now.hosts in
    let j = c.loop-j.j in
    elim c.if-host-d.branch [
      | then-host-d+in_ok-push w ↦
          (rw (w.tiles-is, w.in_ok-push.ensures.items)
          (tiles-own d hs j c.attach-host.result c.loop-j.tiles.items c.attach-host.ensures w.if-host-d.true c.loop-j.invariant))
      | else-host-d w ↦
          (rw w.tiles-is (tiles-other d hs j c.attach-host.result c.loop-j.tiles.items c.attach-host.ensures w.if-host-d.false c.loop-j.invariant))
    ]

pub returns : goal.returns
returns c =
    let d = c.args.d in
    let hs = c.args.plan.now.hosts in
    let j = c.loop-j.j in
    let past : drop j hs ≡ [] = drop_all j hs (omega arith) in
    sym (append-nil c.loop-j.tiles.items) ∙ ap (λ (rest : List ℕ). c.loop-j.tiles.items ++ rest) (sym (ap (host_tiles d) past)) ∙ c.loop-j.invariant ∙ sym (hosts_of-tiles c.args.plan.now d c.known.ensures)
