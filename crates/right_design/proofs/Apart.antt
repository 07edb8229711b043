-- A domain's outputs depend on its own inputs alone.
use Rattle.std.proofs.Common.{◌≡◌, ℕ, zero, suc, Bool, true, false, Option, refl, sym, ap, ◌∙◌, subst, ◌==◌}
use Rattle.std.specs.Prelude.{Some, None, if◌then◌else◌, pos, codes}
use Rattle.std.proofs.lemmas.Bool.{false≢true}
use Rattle.vl_tree.specs.Values.{Name, Design}
use Rattle.vl_model.specs.Whole.{Nets, IsRun}
use Rattle.noc_model.specs.declared.Flit.{Flit}
use Rattle.noc_model.specs.declared.Host.{Host}
use Rattle.noc_model.specs.declared.Offer.{Offer}
use Rattle.noc_model.specs.Plan.{Plan, hosts}
use Rattle.noc_model.specs.Run.{State, Input, step, state_after}
use Rattle.noc_model.proofs.HostTiles.{HasAttachment, attached}
use Rattle.noc_model.proofs.OwnAttachments.{AreSame, step-same}
use Rattle.gen_kit.specs.Ports.{host_name}
use Rattle.gen_kit.specs.Replayed.{at, is_on, offer_at, host_of, input_of}
use Rattle.gen_kit.specs.Right.{ShowsFlit, Shows, IsRightDesign}
use Rattle.surf_replay.proofs.Fed.{Owns}
use Rattle.right_design.specs.Alike.{AreAlike}
use Rattle.right_design.specs.Laws.{DomainsApart}
use Rattle.right_design.proofs.Shown.{shown-at, owns-ov, owns-oa, owns-op, owns-ol, owns-hr, owned-kind}

-- an offer by the numbers of its ports
abbrev offer_of : ℕ → ℕ → ℕ → ℕ → Option Offer
offer_of ov oa op ol = if ov == 1 then Some (record { address = oa; payload = op; last = ol == 1 }) else None

module _ (p : Plan) (d : Design) (right : IsRightDesign p d) (k : ℕ) (first first_other : Name → Name → ℕ → ℕ) (one other : ℕ → Name → ℕ) (values others : ℕ → Nets)
    (run : IsRun d first one values) (run_other : IsRun d first_other other others) (alike : (t : ℕ) → AreAlike p k false (one t) (other t)) where
  module _ (t n : ℕ) (there : hosts p n k ≡ true) where
    abbrev v : Nets
    v = values t

    abbrev u : Nets
    u = others t

    abbrev h : Host
    h = host_of k n

    has : HasAttachment p n k
    has = attached p n k there

    -- an input port of the domain
    same : (name : Name) → Owns h name → one t name ≡ other t name → v.top name ≡ u.top name
    same name own e =
        let kind = owned-kind p d right.sound right.shape.ports has.number h has.at name own in
        run.fed t name kind ∙ e ∙ sym (run_other.fed t name kind)

    same-offer : offer_at v h ≡ offer_at u h
    same-offer =
        let inputs = alike t n there in
        ap (λ x. offer_of x (at v (codes "oa") h) (at v (codes "op") h) (at v (codes "ol") h)) (same (host_name (codes "ov") h) (owns-ov h) (inputs.0 refl))
        ∙ ap (λ x. offer_of (at u (codes "ov") h) x (at v (codes "op") h) (at v (codes "ol") h)) (same (host_name (codes "oa") h) (owns-oa h) (inputs.1.0 refl))
        ∙ ap (λ x. offer_of (at u (codes "ov") h) (at u (codes "oa") h) x (at v (codes "ol") h)) (same (host_name (codes "op") h) (owns-op h) (inputs.1.1.0 refl))
        ∙ ap (λ x. offer_of (at u (codes "ov") h) (at u (codes "oa") h) (at u (codes "op") h) x) (same (host_name (codes "ol") h) (owns-ol h) (inputs.1.1.1.0 refl))

    same-hearing : is_on v (codes "hr") h ≡ is_on u (codes "hr") h
    same-hearing = ap (λ x. x == 1) (same (host_name (codes "hr") h) (owns-hr h) ((alike t n there).1.1.1.1.0 refl))

  abbrev fed_one : ℕ → Input
  fed_one j = input_of k (values j)

  abbrev fed_other : ℕ → Input
  fed_other j = input_of k (others j)

  same-input : (t : ℕ) → AreSame p k (fed_one t) (fed_other t)
  same-input t = record { offer = λ n there. same-offer t n there; hears = λ n there. same-hearing t n there }

  same-state : (t : ℕ) → state_after p k fed_one t ≡ state_after p k fed_other t
  same-state zero = refl
  same-state (suc t) = ap (λ s. step p k (pos t) s (fed_one t)) (same-state t) ∙ step-same p k (pos t) (state_after p k fed_other t) (fed_one t) (fed_other t) (same-input t)

  flits : (t : ℕ) (h : Host) (x : Option Flit) → ShowsFlit (values t) h x → ShowsFlit (others t) h x
      → (at (values t) (codes "ev") h ≡ at (others t) (codes "ev") h) × (at (values t) (codes "eh") h ≡ at (others t) (codes "eh") h) × (at (values t) (codes "et") h ≡ at (others t) (codes "et") h)
      × (at (values t) (codes "ep") h ≡ at (others t) (codes "ep") h)
  flits t h None a b = (a.0 ∙ sym b.0, a.1 ∙ sym b.1, a.2 ∙ sym b.2, a.3 ∙ sym b.3)
  flits t h (Some f) a b = (a.0 ∙ sym b.0, a.1 ∙ sym b.1, a.2 ∙ sym b.2, a.3 ∙ sym b.3)

  same-outputs : (t : ℕ) → AreAlike p k true (values t).top (others t).top
  same-outputs t n there =
      let has = attached p n k there in
      let h : Host = host_of k n in
      let a = shown-at p d first one values t has.number h right run has.at in
      let b = subst (λ (s : State). Shows p (others t) h (s n)) (sym (same-state t)) (shown-at p d first_other other others t has.number h right run_other has.at) in
      let e = flits t h (state_after p k fed_one t n).ejected a.ejected b.ejected in (
        (λ no. absurd (false≢true no)),
        (
          (λ no. absurd (false≢true no)),
          (
            (λ no. absurd (false≢true no)),
            (
              (λ no. absurd (false≢true no)),
              (
                (λ no. absurd (false≢true no)),
                ((λ yes. a.ready ∙ sym b.ready), ((λ yes. a.dropped ∙ sym b.dropped), ((λ yes. e.0), ((λ yes. e.1), ((λ yes. e.2), ((λ yes. e.3), tt)))))),
              ),
            ),
          ),
        ),
      )

pub domains-apart : DomainsApart
domains-apart p d right k first first_other one other values others run run_other alike = same-outputs p d right k first first_other one other values others run run_other alike
