use Rattle.std.proofs.Common.{◌≡◌}
use Rattle.vl_tree.specs.Read.{read_leaf}
use Rattle.gen_router.specs.Ports.{with_ports, tile_links}
use Rattle.gen_router.proofs.ports.all_link_ports.Given as goal

abbrev pub invariant-loop-out : goal.invariant-loop-out
invariant-loop-out l = read_leaf l.work.leaf ≡ with_ports (read_leaf l.fn.work.leaf) (tile_links l.plan l.tile l.out)
