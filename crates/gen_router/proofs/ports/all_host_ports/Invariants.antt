use Rattle.std.proofs.Common.{◌≡◌, take}
use Rattle.vl_tree.specs.Read.{read_leaf}
use Rattle.gen_router.specs.Ports.{with_ports, tile_hosts}
use Rattle.gen_router.proofs.ports.all_host_ports.Given as goal

abbrev pub invariant-loop-j : goal.invariant-loop-j
invariant-loop-j l = read_leaf l.work.leaf ≡ with_ports (read_leaf l.fn.work.leaf) (tile_hosts l.tile (take l.j l.plan.hosts))
