use Rattle.std.proofs.Common.{◌≡◌, ◌<◌, ◌+◌, length, sym, ◌∙◌, arith, refl, below_more}
use Rattle.noc_model.specs.Place.{route, coord, coords_in}
use Rattle.noc_model.proofs.Plans.{side-at}
use Rattle.noc_model.proofs.Coords.{length-coords}
use Rattle.dor_routes.proofs.Ways.{way-differs, way-same}
use Rattle.dor_routes.proofs.route.Goals as goal

pub returns-then-x-y-clause-value : goal.returns-then-x-y-clause-value
unfolding route coord
returns-then-x-y-clause-value c =
    let p = c.args.plan.now in
    let there : c.loop-i.i < length p.dims = omega arith in
    let k_is = c.side.ensures.value ∙ side-at p c.loop-i.i 0 there in
    let way = way-differs p.torus 0 c.loop-i.i p.dims (coords_in p.dims c.args.at) (coords_in p.dims c.args.dest) there (length-coords p.dims c.args.at) (length-coords p.dims c.args.dest) c.loop-i.invariant
    (λ e. c.if-x-y.true (c.coord-x.ensures.value ∙ e ∙ sym c.coord-y.ensures.value)) in
    let zero_more : 0 + c.loop-i.i ≡ c.loop-i.i = omega arith in
    rw (c.port.ensures, c.way_in.ensures, way, zero_more, c.goes_plus.ensures, c.torus.ensures, k_is, c.coord-x.ensures.value, c.coord-y.ensures.value) refl

pub loop-i-preserved : goal.loop-i-preserved
unfolding coord
loop-i-preserved c =
    below_more _ _ c.loop-i.invariant (sym c.coord-x.ensures.value ∙ c.if-x-y.false ∙ c.coord-y.ensures.value)

pub returns-clause-value : goal.returns-clause-value
unfolding route
returns-clause-value c =
    let p = c.args.plan.now in
    let way = way-same p.torus 0 p.dims (coords_in p.dims c.args.at) (coords_in p.dims c.args.dest) (length-coords p.dims c.args.at) (length-coords p.dims c.args.dest)
    (λ j h. c.loop-i.invariant j (omega arith)) in
    rw (c.port-2.ensures, way) refl
