use Rattle.aig_model.specs.Netlist.{differ}
use Rattle.aig_model.proofs.Netlists.{means-grows}
use Rattle.aig_gates.proofs.gates.Netlist.odd.Goals as goal

pub returns-clause-value : goal.returns-clause-value
returns-clause-value c f g h a b k =
    c.in_ok-bit.ensures.value (λ v. differ (f v) (g v)) h (c.in_ok-odd.ensures.value f g a b) (means-grows c.args.self.now c.differ.new.self c.differ.ensures.grows c.args.carry h k)
