use Rattle.std.proofs.Common.{◌∙◌, ap, cond, bytes_eq}
use Rattle.std.specs.Prelude.{Some}
use Rattle.std.specs.Map.{lookup}
use Rattle.vl_rules.specs.Names.{found}
use Rattle.vl_rules.proofs.Found.{put}
use Rattle.vl_rules.proofs.names.Names.put.Goals as goal

pub returns : goal.returns
returns g c n =
    ap (lookup (λ k. bytes_eq n k.items)) c.in_ok-insert.ensures.entries
    ∙ put (λ k. k.items) c.args.self.now.table.entries c.in_ok-key.key c.args.value n
    ∙ ap (λ a. cond (bytes_eq n a) (Some c.args.value) (found c.args.self.now n)) c.in_ok-key.ensures.items
