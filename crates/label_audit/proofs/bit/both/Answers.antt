use Rattle.label_audit.specs.Bits.{label_in}
use Rattle.label_audit.proofs.Bits.{mixed-in}
use Rattle.label_audit.proofs.Rises.{more-domains}
use Rattle.label_audit.proofs.bit.both.Goals as goal

pub returns : goal.returns
returns c = record {
  mixes = mixed-in c.domains.result c.domains-2.result (label_in c.args.x) (label_in c.args.y) c.domains.ensures.set c.domains-2.ensures.set;
  less = more-domains c.args.x c.domains.result c.domains-2.result c.domains.ensures.mask c.domains.type_inv;
}
