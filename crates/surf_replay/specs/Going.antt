-- A machine that a driver drives, between two cycles.
use Rattle.std.specs.Prelude.{◌≡◌, ℕ, List}
use Rattle.noc_model.specs.Plan.{Plan}
use Rattle.gen_kit.specs.Ports.{top_ports}
use Rattle.gen_kit.specs.Replayed.{Going}
use Rattle.vl_run.specs.Stands.{Running, Stands}

-- the machine has the plan's ports and stands at the state, and so do the attachments
pub record IsGoing (m : Running) (p : Plan) (states : ℕ → List ℕ) (g : Going) : Type 0 where
  pub stands : Stands m g.inside
  pub ports : m.design.top.ports ≡ top_ports p
  pub attached : states ≡ g.states
