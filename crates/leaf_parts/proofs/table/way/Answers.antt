use Rattle.std.proofs.Common.{◌≡◌, ◌%◌, ◌^◌, ap, ◌∙◌, arith}
use Rattle.std.proofs.Math.Pow.{pow-lt}
use Rattle.noc_model.specs.Plan.{tiles}
use Rattle.noc_model.specs.Place.{route}
use Rattle.leaf_parts.proofs.Tabled.{way_modulo}
use Rattle.leaf_parts.proofs.table.way.Goals as goal

pub returns-clause-value : goal.returns-clause-value
returns-clause-value c =
    c.pow.ensures ∙ (ap (λ r. 2 ^ r) (c.route.ensures.value ∙ ap (λ m. route c.args.plan.now c.args.tile (c.args.at % m)) c.tiles.ensures)
    ∙ way_modulo c.args.plan.now c.args.tile c.args.at c.known.ensures)

pub returns-clause-few : goal.returns-clause-few
returns-clause-few c = rw c.pow.ensures (pow-lt c.route.ensures.port)
