use Rattle.std.proofs.Common.{◌≡◌, ◌+◌, ◌<◌, List, length, Option, Some, None, sym, ap, ◌∙◌, subst, arith}
use Rattle.std.specs.Prelude.{slice_get}
use Rattle.std.proofs.lemmas.Option.{get_or_from_slice_get}
use Rattle.noc_model.specs.declared.Flit.{Flit}
use Rattle.noc_model.specs.declared.LinkFlit.{LinkFlit}
use Rattle.noc_model.specs.Plan.{ports}
use Rattle.noc_model.specs.Inputs.{place}
use Rattle.vc_partition.specs.Lanes.{lane}
use Rattle.domain_xbar.specs.Crossed.{IsInput, IsGranted, HaveCrossed, IsBefore, flit_of}
use Rattle.domain_xbar.proofs.Crossing.{crossed-none, crossed-some, linked-long, ejected-long}
use Rattle.domain_xbar.proofs.DomainXbar.step_domain.Goals as goal
use Rattle.domain_xbar.proofs.DomainXbar.step_domain.Goals.{in-Some, in_default}

pub loop-port-preserved : goal.loop-port-preserved
loop-port-preserved c =
    let p = c.args.plan.now in
    let grants = c.args.grants.now in
    let fronts = c.args.fronts.now in
    let links = c.loop-port.links in
    let eject = c.loop-port.eject in
    let d = c.args.d in
    let q = c.loop-port.port in
    let below : q < ports p = omega (arith, c.loop-port-test.true, c.self.view_is, c.requires.made) in
    let here : IsInput p d q = (c.requires.domain, below) in
    let P : List (Option LinkFlit) → List (Option Flit) → Type 0 =
    λ v w. (length v ≡ ports p) × (length w ≡ length p.domains) × HaveCrossed (IsBefore p d (q + 1)) p grants fronts v w in
    elim c.match-at.branch [
      | in-Some b ↦
          let g = b.in-Some.grant in
          let is : IsGranted grants d q g = c.at.ensures ∙ ap Some b.in-Some.is in
          let within = c.requires.within d q g here is in
          let flit : b.at-flit.result.now ≡ flit_of p fronts d q g =
          sym (get_or_from_slice_get (lane fronts d) (place p d q g.channel) b.at-flit.result.now None
          (ap (slice_get (lane fronts d)) (sym b.place.ensures.value) ∙ b.at-flit.ensures)) in
          subst (λ v. P v c.match-at.eject) (sym b.links-is)
          (subst (λ w. P b.pass.new.links w) (sym b.eject-is) (
            ap length b.pass.ensures.links ∙ linked-long g b.at-flit.result.now links ∙ c.loop-port.invariant.0,
            ap length b.pass.ensures.eject ∙ ejected-long d g b.at-flit.result.now eject ∙ c.loop-port.invariant.1,
            crossed-some p grants fronts links eject d q here c.requires.single c.loop-port.invariant.0 c.loop-port.invariant.1 c.loop-port.invariant.2 g is within.0
                b.at-flit.result.now flit b.pass.new.links b.pass.new.eject b.pass.ensures.links b.pass.ensures.eject,
          ))
      | in_default b ↦
          let none : slice_get (lane grants d) q ≡ Some None = c.at.ensures ∙ ap Some b.in_default.is in
          subst (λ v. P v c.match-at.eject) (sym b.links-is)
          (subst (λ w. P links w) (sym b.eject-is) (
            c.loop-port.invariant.0,
            c.loop-port.invariant.1,
            crossed-none p grants fronts links eject d q here c.requires.single c.loop-port.invariant.0 c.loop-port.invariant.1 c.loop-port.invariant.2 none,
          ))
    ]
