use Rattle.vl_tree.specs.Read.{read_design}
use Rattle.vl_tree.proofs.Designs.{plain_spelled}
use Rattle.surf_replay.proofs.tests.one_leaf.Goals as goal

pub rules-requires : goal.rules-requires
rules-requires c =
    plain_spelled c.as_bytes.result.now (read_design c.in_ok-read_design.field-0) c.in_ok-read_design.ensures.ok
