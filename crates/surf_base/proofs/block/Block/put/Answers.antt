use Rattle.std.proofs.Common.{rules, ◌≡◌, [], refl, sym}
use Rattle.surf_base.proofs.Blocks.{Writes-written}
use Rattle.surf_base.proofs.block.Block.put.Goals as goal
use Rattle.surf_base.proofs.block.Block.put.Goals.{in-Some, in-None}

pub returns : goal.returns
returns g c =
    elim c.match-self.branch [
      | in-Some w ↦ search rules
      | in-None w ↦
          (let empty : c.args.self.now ≡ [] = rw w.in-None.is at (sym c.self.view_is) in
          rw (w.result-is, w.sink-is, w.self-inside-is, w.in-None.is, empty)
          (Writes-written w.write_all.result _ _ [] c.args.piece.now _ _ refl w.write_all.ensures.ok w.write_all.ensures.prefix w.write_all.ensures.rose w.write_all.ensures.faults))
    ]
