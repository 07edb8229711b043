use Rattle.std.proofs.Common.{◌≡◌, map}
use Rattle.std.specs.List.{range_with_len}
use Rattle.noc_model.specs.Place.{route}
use Rattle.route_stage.proofs.RouteStage.new.Given as goal

abbrev pub invariant-loop-dest : goal.invariant-loop-dest
invariant-loop-dest l = l.outs.items ≡ map (route l.plan l.tile) (range_with_len 0 l.dest)
