-- What one write changes, and what stays.
use Rattle.std.proofs.Common.{◌≡◌, ◌≢◌, ℕ, ◌<◌, true, false, List, [], length, map, set, get_or-set_same, get_or-set_other, length-set, sym, ap, ◌∙◌, arith, ⊎_elim, ◌⊎◌, inl, inr, Option, Some, None, get_or}
use Rattle.std.specs.Prelude.{◌==◌, ◌&&◌}
use Rattle.std.proofs.lemmas.Bool.Decides.{eqb_tells}
use Rattle.std.proofs.lemmas.List.{ext_get_or, get_or-map, length-map}
use Rattle.noc_model.specs.declared.Flit.{Flit}
use Rattle.noc_model.specs.Plan.{Plan, ports, link_channels}
use Rattle.noc_model.specs.Inputs.{place}
use Rattle.noc_model.proofs.Inputs.{place-one}
use Rattle.flit_pool.specs.Lists.{Lists, list_at}
use Rattle.vc_partition.specs.Lanes.{lane}
use Rattle.credit_links.specs.Counts.{Counts, with_count}
use Rattle.route_stage.specs.Routed.{HasInputs}
use Rattle.router_core.specs.Buffers.{no_lists, lists_at, flits_at, with_flits}
use Rattle.router_core.specs.Sizes.{HasBuffers, HasPorts, HasCredits}
use Rattle.router_core.specs.Sends.{is_at}
use Rattle.router_core.specs.Pulses.{ArePulses}
use Rattle.vc_partition.proofs.Cuts.{lane-written, lane-other}

-- ---- places

-- two channels are one exactly where their places are
pub same-place : (p : Plan) (d q c port ch : ℕ) → c < link_channels p d → ch < link_channels p d
    → ((is_at q c port ch ≡ true) × (place p d q c ≡ place p d port ch)) ⊎ ((is_at q c port ch ≡ false) × (place p d q c ≢ place p d port ch))
same-place p d q c port ch below below' = ⊎_elim
    (λ a. ⊎_elim
    (λ b. inl (ap (λ w. w && (c == ch)) a.0 ∙ b.0, ap (λ k. place p d k c) a.1 ∙ ap (place p d port) b.1))
    (λ b. inr (ap (λ w. w && (c == ch)) a.0 ∙ b.0, λ e. b.1 (place-one p d q c port ch below below' e).1))
    (eqb_tells c ch))
    (λ a. inr (ap (λ w. w && (c == ch)) a.0, λ e. a.1 (place-one p d q c port ch below below' e).0))
    (eqb_tells q port)

-- ---- buffers

pub flits-written : (xs : List Lists) (d k : ℕ) (fs : List Flit) → d < length xs → k < length (lists_at xs d).lists → flits_at (with_flits xs d k fs) d k ≡ fs
flits-written xs d k fs there inside =
    ap (λ (x : Lists). list_at x k) (get_or-set_same xs d _ no_lists there) ∙ get_or-set_same (lists_at xs d).lists k fs [] inside

pub flits-other : (xs : List Lists) (d k j : ℕ) (fs : List Flit) → d < length xs → j ≢ k → flits_at (with_flits xs d k fs) d j ≡ flits_at xs d j
flits-other xs d k j fs there apart =
    ap (λ (x : Lists). list_at x j) (get_or-set_same xs d _ no_lists there) ∙ get_or-set_other (lists_at xs d).lists k j fs [] apart

pub lists-other : (xs : List Lists) (d e k : ℕ) (fs : List Flit) → e ≢ d → lists_at (with_flits xs d k fs) e ≡ lists_at xs e
lists-other xs d e k fs apart = get_or-set_other xs d e _ no_lists apart

lists-count : (xs : List Lists) (d e k : ℕ) (fs : List Flit) → d < length xs → length (lists_at (with_flits xs d k fs) e).lists ≡ length (lists_at xs e).lists
lists-count xs d e k fs there = ⊎_elim
    (λ w. ap (λ i. length (lists_at (with_flits xs d k fs) i).lists) w.1
    ∙ ap (λ (x : Lists). length x.lists) (get_or-set_same xs d _ no_lists there) ∙ length-set (lists_at xs d).lists k fs
    ∙ ap (λ i. length (lists_at xs i).lists) (sym w.1))
    (λ w. ap (λ (x : Lists). length x.lists) (lists-other xs d e k fs w.1))
    (eqb_tells e d)

lists-depth : (xs : List Lists) (d e k : ℕ) (fs : List Flit) → d < length xs → (lists_at (with_flits xs d k fs) e).depth ≡ (lists_at xs e).depth
lists-depth xs d e k fs there = ⊎_elim
    (λ w. ap (λ i. (lists_at (with_flits xs d k fs) i).depth) w.1
    ∙ ap (λ (x : Lists). x.depth) (get_or-set_same xs d _ no_lists there)
    ∙ ap (λ i. (lists_at xs i).depth) (sym w.1))
    (λ w. ap (λ (x : Lists). x.depth) (lists-other xs d e k fs w.1))
    (eqb_tells e d)

pub has-buffers : (p : Plan) (xs : List Lists) (d k : ℕ) (fs : List Flit) → d < length p.domains → HasBuffers p xs → HasBuffers p (with_flits xs d k fs)
has-buffers p xs d k fs there h =
    let inside : d < length xs = let a = h.domains in omega (arith, a, there) in
    record {
      domains = length-set xs d _ ∙ h.domains;
      inputs = λ e below. lists-count xs d e k fs inside ∙ h.inputs e below;
      depth = λ e below. lists-depth xs d e k fs inside ∙ h.depth e below;
    }

-- ---- lanes

pub lane-count : {T : Type 0} (v : List (List T)) (d e k : ℕ) (x : T) → d < length v → length (lane (set v d (set (lane v d) k x)) e) ≡ length (lane v e)
lane-count v d e k x there = ⊎_elim
    (λ w. ap (λ i. length (lane (set v d (set (lane v d) k x)) i)) w.1
    ∙ ap length (get_or-set_same v d (set (lane v d) k x) [] there) ∙ length-set (lane v d) k x ∙ ap (λ i. length (lane v i)) (sym w.1))
    (λ w. ap length (get_or-set_other v d e (set (lane v d) k x) [] w.1))
    (eqb_tells e d)

pub has-inputs : {T : Type 0} (p : Plan) (v : List (List T)) (d k : ℕ) (x : T) → d < length p.domains → HasInputs p v → HasInputs p (set v d (set (lane v d) k x))
has-inputs p v d k x there h =
    let inside : d < length v = let a = h.domains in omega (arith, a, there) in
    record {
      domains = length-set v d _ ∙ h.domains;
      inputs = λ e below. lane-count v d e k x inside ∙ h.inputs e below;
    }

-- another lane of as many places
pub has-ports-lane : {T : Type 0} (p : Plan) (v : List (List T)) (d : ℕ) (ys : List T) → d < length p.domains → length ys ≡ ports p → HasPorts p v → HasPorts p (set v d ys)
has-ports-lane p v d ys there long h =
    let inside : d < length v = let a = h.domains in omega (arith, a, there) in
    record {
      domains = length-set v d ys ∙ h.domains;
      ports = λ e below. ⊎_elim
          (λ w. ap (λ i. length (lane (set v d ys) i)) w.1 ∙ ap length (get_or-set_same v d ys [] inside) ∙ long)
          (λ w. ap length (get_or-set_other v d e ys [] w.1) ∙ h.ports e below)
          (eqb_tells e d);
    }

pub has-ports : {T : Type 0} (p : Plan) (v : List (List T)) (d k : ℕ) (x : T) → d < length p.domains → HasPorts p v → HasPorts p (set v d (set (lane v d) k x))
has-ports p v d k x there h = has-ports-lane p v d (set (lane v d) k x) there (length-set (lane v d) k x ∙ h.ports d there) h

-- lanes with a place for each port have the same lengths
pub same-lengths : {T : Type 0} (p : Plan) (u v : List (List T)) → HasPorts p u → HasPorts p v → map length u ≡ map length v
same-lengths p u v us vs =
    let domains = us.domains in
    let domains' = vs.domains in
    let long = length-map u length in
    ext_get_or 0 (map length u) (map length v) (long ∙ us.domains ∙ sym vs.domains ∙ sym (length-map v length))
    (λ i less.
    let there : i < length p.domains = omega (arith, less, long, domains) in
    get_or-map length u i [] 0 (omega (arith, there, domains)) ∙ us.ports i there ∙ sym (vs.ports i there)
    ∙ sym (get_or-map length v i [] 0 (omega (arith, there, domains'))))

-- a channel that there is, or none
pub pulses-set : (p : Plan) (v : List (List (Option ℕ))) (d k : ℕ) (x : Option ℕ) → d < length p.domains → k < ports p → HasPorts p v → ((c : ℕ) → x ≡ Some c → c < link_channels p d)
    → ArePulses p v → ArePulses p (set v d (set (lane v d) k x))
pulses-set p v d k x there k_in has within are e port c e_in is = ⊎_elim
    (λ z. go z.1)
    (λ z. are e port c e_in (sym (ap (λ l. get_or l port None) (get_or-set_other v d e (set (lane v d) k x) [] z.1)) ∙ is))
    (eqb_tells e d)
  where
    inside : d < length v
    inside = let a = has.domains in omega (arith, a, there)

    own : (c : ℕ) → get_or (lane (set v d (set (lane v d) k x)) d) port None ≡ Some c → c < link_channels p d
    own c is = ⊎_elim
        (λ y. within c (sym (ap (λ j. get_or (lane (set v d (set (lane v d) k x)) d) j None) y.1
        ∙ lane-written v d k x None inside (let a = has.ports d there in omega (arith, a, k_in))) ∙ is))
        (λ y. are d port c there (sym (lane-other v d k port x None inside y.1) ∙ is))
        (eqb_tells port k)

    go : e ≡ d → c < link_channels p e
    go same =
        let below = own c (ap (λ j. get_or (lane (set v d (set (lane v d) k x)) j) port None) (sym same) ∙ is) in
        let l = ap (link_channels p) same in omega (arith, below, l)

pub has-credits : (p : Plan) (x : Counts) (d k n : ℕ) → d < length p.domains → HasCredits p x → HasCredits p (with_count x d k n)
has-credits p x d k n there h = record { counts = has-inputs p x.lanes d k n there h.counts; buffer = h.buffer }
