use Rattle.std.proofs.Common.{◌≡◌, ◌++◌, drop}
use Rattle.vl_tree.specs.Read.{read_leaf}
use Rattle.vl_run.specs.Emit.{place_in}
use Rattle.vl_run.specs.Program.{feeds_of}
use Rattle.vl_run.proofs.program.feeds.Given as goal

abbrev pub invariant-loop-join : goal.invariant-loop-join
invariant-loop-join l = feeds_of (read_leaf l.leaf.leaf.now) (place_in l.scope.declared.now) (place_in l.top.declared.now) l.joins ≡ l.links.items ++ feeds_of (read_leaf l.leaf.leaf.now) (place_in l.scope.declared.now) (place_in l.top.declared.now) (drop l.join-index l.joins)
