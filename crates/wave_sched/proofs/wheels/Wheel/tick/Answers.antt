use Rattle.std.proofs.Common.{◌≡◌, length, arith, ap, ◌∙◌}
use Rattle.noc_model.specs.Place.{next_in}
use Rattle.wave_sched.proofs.Standing.{cycle-next, some-slots}
use Rattle.wave_sched.proofs.wheels.Wheel.tick.Goals as goal

pub returns : goal.returns
returns c = λ p n t stands.
    let same = ap length stands.owners in
    let count : c.len.result ≡ length p.slots = omega (arith, c.len.ensures, same, c.args.self.now.slots.ok) in
    record {
      owners = stands.owners;
      domains = stands.domains;
      links = stands.links;
      cycle = cycle-next (length p.slots) t c.next_slot-self.result (some-slots c.args.self.now p n t stands c.args.self.now.here)
          (c.next_slot-self.ensures.value ∙ ap (λ k. next_in k c.args.self.now.phase) count ∙ ap (next_in (length p.slots)) stands.cycle);
    }
