use Rattle.std.proofs.Common.{◌≡◌, ℕ, ap, ◌∙◌, subst}
use Rattle.noc_model.specs.Plan.{Plan}
use Rattle.noc_model.specs.Place.{route, class_after}
use Rattle.surf_base.specs.Block.{Writes}
use Rattle.surf_cli.specs.Routes.{route_line, route_text}
use Rattle.surf_cli.proofs.routes.put_route.Goals as goal

-- the line of the port and the class is the text of the way
line-is : (p : Plan) (n dest port class : ℕ) → port ≡ route p n dest → class ≡ class_after p n 0 0 port → route_line n dest port class ≡ route_text p n dest
unfolding route_text
line-is p n dest port class at_port at_class =
    ap (route_line n dest port) at_class ∙ ap (λ x. route_line n dest x (class_after p n 0 0 x)) at_port

pub returns : goal.returns
returns g c =
    subst (Writes c.put_line.result _ _)
    (line-is c.args.plan.now c.args.tile c.args.dest c.route-port.result c.class_after-class.result c.route-port.ensures.value c.class_after-class.ensures.value) c.put_line.ensures
