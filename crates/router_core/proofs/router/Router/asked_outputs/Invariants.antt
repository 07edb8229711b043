use Rattle.std.proofs.Common.{◌≡◌, length}
use Rattle.router_core.specs.Asks.{AsksWithin}
use Rattle.router_core.proofs.router.Router.asked_outputs.Given as goal

abbrev pub invariant-loop-port : goal.invariant-loop-port
invariant-loop-port l = record {
  asks : AsksWithin l.port l.self.switch l.d l.outputs;
  count : length l.outputs ≡ length l.initial.outputs;
}
