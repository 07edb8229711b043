use Rattle.std.proofs.Common.{◌∙◌, ap}
use Rattle.toml.specs.View.{view, members_view, table_view}
use Rattle.noc_desc.specs.Document.{put_member}
use Rattle.noc_desc.proofs.Written.{put-is}
use Rattle.noc_desc.proofs.write.put.Goals as goal

pub returns-in-Ok : goal.returns-in-Ok
returns-in-Ok c =
    ap members_view c.in-Ok.ensures.entries ∙ put-is c.args.table.now.entries c.in_ok-key.key c.args.value
    ∙ ap (λ k. put_member k (view c.args.value) (table_view c.args.table.now)) (c.in_ok-key.ensures.ok ∙ c.name.ensures)
