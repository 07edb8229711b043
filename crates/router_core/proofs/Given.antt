-- The outputs of a tile give their channels, one after the other.
use Rattle.std.proofs.Common.{◌≡◌, ◌≢◌, ℕ, ◌+◌, ◌*◌, ◌/◌, ◌%◌, ◌<◌, Bool, true, false, List, length, get_or, refl, sym, ap, ◌∙◌, arith, mul_comm, length-set, get_or-set_same, get_or-set_other, ⊎_elim, Option, Some, None}
use Rattle.std.specs.Prelude.{◌||◌, is_some}
use Rattle.std.proofs.lemmas.Bool.Decides.{eqb_tells}
use Rattle.std.proofs.lemmas.Nat.{div-mul-add, mod-mul-add, mul-add-lt}
use Rattle.noc_model.specs.declared.Stage.{Stage}
use Rattle.noc_model.specs.declared.Stage.TheVariants.{Idle, Active}
use Rattle.noc_model.specs.Plan.{Plan, ports, link_channels}
use Rattle.noc_model.specs.Inputs.{input_count}
use Rattle.noc_model.specs.Step.{is_place, after}
use Rattle.vc_partition.specs.Lanes.{lane}
use Rattle.vc_partition.proofs.Cuts.{lane-written, lane-other, lanes-other}
use Rattle.route_stage.specs.Routed.{stage_at, HasInputs}
use Rattle.vc_alloc.specs.declared.Winner.{Winner}
use Rattle.vc_alloc.specs.Allocator.{Allocator, link_channels_at, spot, held_at, pointer_at, best_at, committed, AreOf}
use Rattle.router_core.specs.Heads.{given, to_of, place_of, WinsNone, GivesBelow}
use Rattle.router_core.specs.Sizes.{HasAllocator}
use Rattle.router_core.proofs.Frames.{has-inputs, has-ports}

-- ---- one output

or-true : (a : Bool) → (a || true) ≡ true
or-true true = refl
or-true false = refl

or-false : (a : Bool) → (a || false) ≡ a
or-false true = refl
or-false false = refl

spot-one : (l q w o t : ℕ) → w < l → t < l → q * l + w ≡ o * l + t → (q ≡ o) × (w ≡ t)
spot-one l q w o t below below' e = (
  sym (div-mul-add q l w below) ∙ ap (λ k. k / l) e ∙ div-mul-add o l t below',
  sym (mod-mul-add q l w below) ∙ ap (λ k. k % l) e ∙ mod-mul-add o l t below',
)

-- the best input takes a channel that there is
abbrev pub IsBelow : ℕ → ℕ → Option Winner → Type 0
IsBelow places channels None = Unit {0}
IsBelow places channels (Some b) = (b.place < places) × (b.to < channels)

module _ (p : Plan) (n d : ℕ) (there : d < length p.domains) where
  pub committed-has : (y : Allocator) (o : ℕ) (b : Option Winner) → HasAllocator p n y → HasAllocator p n (committed y d o b)
  committed-has y o None h = h
  committed-has y o (Some b) h = record {
    tile = h.tile;
    domains = λ e inside. let f = h.domains e inside in record {
      domain = f.domain;
      port_count = length-set y.best o None ∙ f.port_count;
      class = f.class;
      link = f.link;
    };
    holders = has-inputs p y.holders d _ _ there h.holders;
    pointers = has-ports p y.pointers d _ _ there h.pointers;
  }

  best-other : (y : Allocator) (o q : ℕ) (b : Option Winner) → q ≢ o → best_at (committed y d o b) q ≡ best_at y q
  best-other y o q None apart = refl
  best-other y o q (Some b) apart = get_or-set_other y.best o q None None apart

  module _ (y : Allocator) (o : ℕ) (h : HasAllocator p n y) (o_in : o < ports p) where
    has-lane : d < length y.holders
    has-lane = let a = h.holders.domains in omega (arith, a, there)

    has-pointers : d < length y.pointers
    has-pointers = let a = h.pointers.domains in omega (arith, a, there)

    links : link_channels_at y d ≡ link_channels p d
    links = (h.domains d there).link

    pointer_in : o < length (lane y.pointers d)
    pointer_in = let a = h.pointers.ports d there in omega (arith, a, o_in)

    spot_in : (t : ℕ) → t < link_channels p d → spot y d o t < length (lane y.holders d)
    spot_in t below =
        let a = mul-add-lt o (link_channels p d) t (ports p) o_in below in
        let b = h.holders.inputs d there in
        let e = ap (λ l. o * l + t) links in
        omega (arith, a, b, e, mul_comm (link_channels p d) (ports p))

    spots-apart : (q w t : ℕ) → w < link_channels p d → t < link_channels p d → (q ≡ o → w ≡ t → ⊥) → spot y d q w ≢ spot y d o t
    spots-apart q w t w_in t_in apart = λ e.
        let l = links in
        let both = spot-one (link_channels_at y d) q w o t (omega (arith, l, w_in)) (omega (arith, l, t_in)) e in apart both.0 both.1

    pub held-other : (q w : ℕ) (b : Option Winner) → q ≢ o → w < link_channels p d → IsBelow (input_count p d) (link_channels p d) b → held_at (committed y d o b) d q w ≡ held_at y d q w
    held-other q w None apart w_in below = refl
    held-other q w (Some b) apart w_in below =
        ap is_some (lane-other y.holders d (spot y d o b.to) (spot y d q w) (Some b.place) None has-lane (spots-apart q w b.to w_in below.1 (λ e f. apart e)))

    pub held-own : (w : ℕ) (b : Option Winner) → w < link_channels p d → IsBelow (input_count p d) (link_channels p d) b → held_at (committed y d o b) d o w ≡ (held_at y d o w || is_place (to_of b) w)
    held-own w None w_in below = sym (or-false (held_at y d o w))
    held-own w (Some b) w_in below = ⊎_elim
        (λ z. ap (λ v. is_some (get_or (lane (committed y d o (Some b)).holders d) (spot y d o v) None)) (sym z.1)
        ∙ ap is_some (lane-written y.holders d (spot y d o b.to) (Some b.place) None has-lane (spot_in b.to below.1))
        ∙ sym (ap (λ v. held_at y d o w || v) z.0 ∙ or-true (held_at y d o w)))
        (λ z. ap is_some (lane-other y.holders d (spot y d o b.to) (spot y d o w) (Some b.place) None has-lane (spots-apart o w b.to w_in below.1 (λ e f. z.1 (sym f))))
        ∙ sym (ap (λ v. held_at y d o w || v) z.0 ∙ or-false (held_at y d o w)))
        (eqb_tells b.to w)

    pub pointer-own : (b : Option Winner) → pointer_at (committed y d o b) d o ≡ after (place_of b) (pointer_at y d o)
    pointer-own None = refl
    pointer-own (Some b) = lane-written y.pointers d o (b.place + 1) 0 has-pointers pointer_in

    pub pointer-other : (q : ℕ) (b : Option Winner) → q ≢ o → pointer_at (committed y d o b) d q ≡ pointer_at y d q
    pointer-other q None apart = refl
    pointer-other q (Some b) apart = lane-other y.pointers d o q (b.place + 1) 0 has-pointers apart

  -- another domain keeps all
  pub held-elsewhere : (y : Allocator) (o e q w : ℕ) (b : Option Winner) → e ≢ d → held_at (committed y d o b) e q w ≡ held_at y e q w
  held-elsewhere y o e q w None apart = refl
  held-elsewhere y o e q w (Some b) apart = ap (λ l. is_some (get_or l (spot y e q w) None)) (lanes-other y.holders d e (spot y d o b.to) (Some b.place) apart)

  pub pointer-elsewhere : (y : Allocator) (o e q : ℕ) (b : Option Winner) → e ≢ d → pointer_at (committed y d o b) e q ≡ pointer_at y e q
  pointer-elsewhere y o e q None apart = refl
  pointer-elsewhere y o e q (Some b) apart = ap (λ l. get_or l q 0) (lanes-other y.pointers d e o (b.place + 1) apart)

  -- ---- stages

  pub given-has : (v : List (List Stage)) (o : ℕ) (b : Option Winner) → HasInputs p v → HasInputs p (given v d o b)
  given-has v o None h = h
  given-has v o (Some b) h = has-inputs p v d _ _ there h

  pub given-other : (v : List (List Stage)) (o k : ℕ) (b : Option Winner) → HasInputs p v → ((w : Winner) → b ≡ Some w → w.place ≢ k) → stage_at (given v d o b) d k ≡ stage_at v d k
  given-other v o k None h apart = refl
  given-other v o k (Some b) h apart = lane-other v d b.place k (Active o b.to) Idle (let a = h.domains in omega (arith, a, there)) (λ e. apart b refl (sym e))

  pub given-own : (v : List (List Stage)) (o k : ℕ) (b : Winner) → HasInputs p v → k < input_count p d → b.place ≡ k → stage_at (given v d o (Some b)) d k ≡ Active o b.to
  given-own v o k b h k_in is =
      ap (stage_at (given v d o (Some b)) d) (sym is)
      ∙ lane-written v d b.place (Active o b.to) Idle (let a = h.domains in omega (arith, a, there)) (let a = h.inputs d there in omega (arith, a, k_in, is))

  pub given-elsewhere : (v : List (List Stage)) (o e : ℕ) (b : Option Winner) → e ≢ d → lane (given v d o b) e ≡ lane v e
  given-elsewhere v o e None apart = refl
  given-elsewhere v o e (Some b) apart = lanes-other v d e b.place (Active o b.to) apart

  -- ---- one output more

  below-best : (y : Allocator) (o : ℕ) (b : Option Winner) → HasAllocator p n y → AreOf y d → best_at y o ≡ b → IsBelow (input_count p d) (link_channels p d) b
  below-best y o None h of is = tt
  below-best y o (Some b) h of is =
      let f = h.domains d there in
      let a = of o b is in
      let e : length y.best * link_channels_at y d ≡ input_count p d = ap (λ k. k * link_channels_at y d) f.port_count ∙ ap (λ l. ports p * l) f.link in
      let l = f.link in
      (omega (arith, a, e), omega (arith, a, l))

pub gives-none : (p : Plan) (d : ℕ) (x : Allocator) (v : List (List Stage)) → HasAllocator p x.tile x → HasInputs p v → AreOf x d → GivesBelow 0 p d x x v v
gives-none p d x v made inputs same = record {
  made = made;
  inputs = inputs;
  same = same;
  ahead = λ q past. refl;
  quiet = λ q before. absurd (omega arith);
  held = λ q w before q_in w_in. absurd (omega arith);
  held_ahead = λ q w past q_in w_in. refl;
  pointers = λ q before. absurd (omega arith);
  pointers_ahead = λ q past. refl;
  won = λ q k b before k_in is at none. absurd (omega arith);
  lost = λ k none. refl;
  other_held = λ e q w apart. refl;
  other_pointers = λ e q apart. refl;
  other_stages = λ e apart. refl;
}

module _ (p : Plan) (d o : ℕ) (x y : Allocator) (v u : List (List Stage)) (b : Option Winner) (there : d < length p.domains) (o_in : o < ports p) (g : GivesBelow o p d x y v u)
    (is : best_at y o ≡ b) (same : AreOf (committed y d o b) d) where
  abbrev y' : Allocator
  y' = committed y d o b

  abbrev u' : List (List Stage)
  u' = given u d o b

  was : best_at x o ≡ b
  was = sym (g.ahead o (omega arith)) ∙ is

  below : IsBelow (input_count p d) (link_channels p d) b
  below = below-best p x.tile d there y o b g.made g.same is

  best-own : (b : Option Winner) → best_at y o ≡ b → best_at (committed y d o b) o ≡ None
  best-own None e = e
  best-own (Some w) e = get_or-set_same y.best o None None (let a = (g.made.domains d there).port_count in omega (arith, a, o_in))

  quiet-more : (q : ℕ) → q < o + 1 → best_at y' q ≡ None
  quiet-more q before = ⊎_elim
      (λ w. ap (best_at y') w.1 ∙ best-own b is)
      (λ w. best-other p x.tile d there y o q b w.1 ∙ g.quiet q (let a = w.1 in omega (arith, a, before)))
      (eqb_tells q o)

  held-more : (q w : ℕ) → q < o + 1 → q < ports p → w < link_channels p d → held_at y' d q w ≡ (held_at x d q w || is_place (to_of (best_at x q)) w)
  held-more q w before q_in w_in = ⊎_elim
      (λ z. ap (λ k. held_at y' d k w) z.1 ∙ held-own p x.tile d there y o g.made o_in w b w_in below
      ∙ ap (λ a. a || is_place (to_of b) w) (g.held_ahead o w (omega arith) o_in w_in)
      ∙ ap (λ c. held_at x d o w || is_place (to_of c) w) (sym was)
      ∙ ap (λ k. held_at x d k w || is_place (to_of (best_at x k)) w) (sym z.1))
      (λ z. held-other p x.tile d there y o g.made o_in q w b z.1 w_in below ∙ g.held q w (let a = z.1 in omega (arith, a, before)) q_in w_in)
      (eqb_tells q o)

  pointers-more : (q : ℕ) → q < o + 1 → pointer_at y' d q ≡ after (place_of (best_at x q)) (pointer_at x d q)
  pointers-more q before = ⊎_elim
      (λ z. ap (pointer_at y' d) z.1 ∙ pointer-own p x.tile d there y o g.made o_in b
      ∙ ap (after (place_of b)) (g.pointers_ahead o (omega arith))
      ∙ ap (λ c. after (place_of c) (pointer_at x d o)) (sym was)
      ∙ ap (λ k. after (place_of (best_at x k)) (pointer_at x d k)) (sym z.1))
      (λ z. pointer-other p x.tile d there y o g.made o_in q b z.1 ∙ g.pointers q (let a = z.1 in omega (arith, a, before)))
      (eqb_tells q o)

  won-more : (q k : ℕ) (w : Winner) → q < o + 1 → k < input_count p d → best_at x q ≡ Some w → w.place ≡ k → WinsNone x (o + 1) q k → stage_at u' d k ≡ Active q w.to
  won-more q k w before k_in wins at none = ⊎_elim
      (λ z. let e : b ≡ Some w = sym was ∙ ap (best_at x) (sym z.1) ∙ wins in
      ap (λ c. stage_at (given u d o c) d k) e ∙ given-own p x.tile d there u o k w g.inputs k_in at ∙ ap (λ j. Active j w.to) (sym z.1))
      (λ z. given-other p x.tile d there u o k b g.inputs (λ c e. none o c (omega arith) (λ f. z.1 (sym f)) (was ∙ e))
      ∙ g.won q k w (let a = z.1 in omega (arith, a, before)) k_in wins at (λ j c less apart e. none j c (omega (arith, less)) apart e))
      (eqb_tells q o)

  lost-more : (k : ℕ) → WinsNone x (o + 1) (o + 1) k → stage_at u' d k ≡ stage_at v d k
  lost-more k none =
      given-other p x.tile d there u o k b g.inputs (λ c e. none o c (omega arith) (λ f. let a = f in absurd (omega (arith, a))) (was ∙ e))
      ∙ g.lost k (λ j c less apart e. none j c (omega (arith, less)) (λ f. let a = f in absurd (omega (arith, a, less))) e)

  pub gives-more : GivesBelow (o + 1) p d x y' v u'
  gives-more = record {
    made = committed-has p x.tile d there y o b g.made;
    inputs = given-has p x.tile d there u o b g.inputs;
    same = same;
    ahead = λ q past. best-other p x.tile d there y o q b (λ e. let a = e in absurd (omega (arith, a, past))) ∙ g.ahead q (omega (arith, past));
    quiet = quiet-more;
    held = held-more;
    held_ahead = λ q w past q_in w_in. held-other p x.tile d there y o g.made o_in q w b (λ e. let a = e in absurd (omega (arith, a, past))) w_in below
        ∙ g.held_ahead q w (omega (arith, past)) q_in w_in;
    pointers = pointers-more;
    pointers_ahead = λ q past. pointer-other p x.tile d there y o g.made o_in q b (λ e. let a = e in absurd (omega (arith, a, past))) ∙ g.pointers_ahead q (omega (arith, past));
    won = won-more;
    lost = lost-more;
    other_held = λ e q w apart. held-elsewhere p x.tile d there y o e q w b apart ∙ g.other_held e q w apart;
    other_pointers = λ e q apart. pointer-elsewhere p x.tile d there y o e q b apart ∙ g.other_pointers e q apart;
    other_stages = λ e apart. given-elsewhere p x.tile d there u o e b apart ∙ g.other_stages e apart;
  }
