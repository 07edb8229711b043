use Rattle.std.proofs.Common.{◌++◌, List, ap, sym, ◌∙◌}
use Rattle.noc_model.specs.declared.Host.{Host}
use Rattle.stress_gen.specs.Corners.{hosts_at}
use Rattle.stress_gen.proofs.More.{flat_map-more}
use Rattle.stress_gen.proofs.corners.hosts.Goals as goal

pub loop-tile-preserved : goal.loop-tile-preserved
loop-tile-preserved c =
    c.in_ok-add_hosts.ensures ∙ ap (λ (hs : List Host). hs ++ hosts_at c.loop-tile.tile) c.loop-tile.invariant ∙ sym (flat_map-more hosts_at c.loop-tile.tile)
