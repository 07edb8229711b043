use Rattle.desc_check.proofs.Judged.{good_channels}
use Rattle.desc_check.proofs.make.domains_of.Goals as goal

pub domain_of-requires : goal.domain_of-requires
domain_of-requires c =
    rw c.domain-item.is (good_channels c.args.domains.now c.requires c.loop-domain.domain-index c.domain-item.result c.loop-domain-test.true)
