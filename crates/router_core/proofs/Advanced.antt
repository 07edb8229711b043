-- One cycle of a domain in a router is the definition's step of its tile.
use Rattle.std.proofs.Common.{◌≡◌, ◌≢◌, ℕ, ◌+◌, ◌<◌, Bool, true, List, length, set, get_or-set_same, get_or-set_other, refl, sym, ap, ◌∙◌, subst, arith, ⊎_elim, Option, Some, None, ℤ}
use Rattle.std.specs.Prelude.{pos}
use Rattle.std.proofs.lemmas.Bool.Decides.{eqb_tells}
use Rattle.noc_model.specs.declared.Flit.{Flit}
use Rattle.noc_model.specs.declared.LinkFlit.{LinkFlit}
use Rattle.noc_model.specs.declared.Offer.{Offer}
use Rattle.noc_model.specs.Plan.{Plan, ports, link_channels}
use Rattle.noc_model.specs.Place.{owner}
use Rattle.noc_model.specs.Inputs.{place}
use Rattle.noc_model.specs.Tile.{Tile, TileIn}
use Rattle.noc_model.specs.Step.{tile_step, sent, word_in, is_open, is_ready_packet}
use Rattle.noc_model.specs.SoundState.{HasOutput}
use Rattle.noc_model.proofs.Inputs.{input-within}
use Rattle.noc_model.proofs.SharedRows.{sent-owner}
use Rattle.vc_alloc.specs.Allocator.{best_at}
use Rattle.wave_sched.specs.Wheels.{Stands}
use Rattle.tile_iface.specs.Iface.{taken}
use Rattle.router_core.specs.declared.attachments.Told.{Told}
use Rattle.router_core.specs.Advance.{cycled, AdvancesBelow}
use Rattle.router_core.specs.Attach.{attached, attached_parts}
use Rattle.router_core.specs.Attachments.{attachment_at, told_at, outside}
use Rattle.router_core.specs.Buffers.{flits_at}
use Rattle.router_core.specs.Crossing.{laid, laid_at, flit_of, switched}
use Rattle.router_core.specs.Parts.{Parts}
use Rattle.router_core.specs.Pulses.{ArePulses}
use Rattle.router_core.specs.Ready.{IsReady}
use Rattle.router_core.specs.Sizes.{IsMade}
use Rattle.router_core.specs.Shown.{Shows}
use Rattle.router_core.proofs.Moving.{holds}
use Rattle.router_core.proofs.Stepped.{step-shows, still-room, word-taken}

pub ports-some : (p : Plan) → 0 < ports p
ports-some p = omega arith

-- ---- the links

pub lifted-other : (links after : List (Option LinkFlit)) (o : ℕ) → after ≡ set links 0 None → o ≢ 0 → laid_at after o ≡ laid_at links o
lifted-other links after o is apart = ap (λ l. laid_at l o) is ∙ get_or-set_other links 0 o None None apart

laid-none : (x : Option LinkFlit) → laid x None ≡ x
laid-none None = refl
laid-none (Some x) = refl

pub eject-is : (links after new : List (Option LinkFlit)) (x : Option LinkFlit) → 0 < length links → after ≡ set links 0 None → laid_at new 0 ≡ laid x (laid_at after 0) → flit_of (laid_at new 0) ≡ flit_of x
eject-is links after new x inside is sent =
    ap flit_of (sent ∙ ap (laid x) (ap (λ l. laid_at l 0) is ∙ get_or-set_same links 0 None None inside) ∙ laid-none x)

-- ---- the attachment

pub open-room : (p : Plan) (d : ℕ) (r q : Parts) (is_taking : Bool) (ready : IsReady p d r) → IsMade q p → d < length p.domains → is_taking ≡ is_open p ready.tile
    → Shows q p d (switched p d r.tile (pos ready.cycle) ready.tile (outside (told_at r.told d))) → is_taking ≡ true
    → is_ready_packet (attachment_at q.attachments d).packet (length (flits_at q.buffers d (place p d 0 (attachment_at q.attachments d).current))) p.buffer ≡ true
open-room p d r q is_taking ready made there is shown e =
    let s = ready.tile in
    let i = outside (told_at r.told d) in
    let w = switched p d r.tile (pos ready.cycle) s i in
    let current = (attachment_at q.attachments d).current in
    let flits = shown.queue 0 current (ports-some p) (input-within p d 0 current (made.attachments.current d there)) ∙ ap (w.queue 0) shown.current in
    still-room p d r.tile (pos ready.cycle) s i (attachment_at q.attachments d).packet (flits_at q.buffers d (place p d 0 current)) (sym is ∙ e) shown.packet flits

-- ---- the cycle

pub cycled-is : (r q z : Parts) (p : Plan) (d : ℕ) (word : Option Offer) (eject : Option Flit) (hears : Bool)
    → q ≡ record r { buffers = q.buffers; stages = q.stages; pulses = q.pulses; allocator = q.allocator; switch = q.switch; credits = q.credits }
    → z ≡ attached_parts q p d word eject hears → z ≡ cycled r z
cycled-is r q z p d word eject hears rest value = value ∙ sym (ap (cycled q) value) ∙ ap (λ y. cycled y z) rest

pub whole-step : (p : Plan) (d : ℕ) (r q z : Parts) (is_taking : Bool) (eject : Option Flit) (s : Tile) (t : ℕ) → IsReady p d r → told_at q.told d ≡ told_at r.told d → Shows r p d s
    → is_taking ≡ is_open p s → eject ≡ flit_of (sent p d r.tile (pos t) s (outside (told_at r.told d)) 0)
    → Shows z p d (attached p d (switched p d r.tile (pos t) s (outside (told_at r.told d))) (taken is_taking (told_at q.told d).offer) eject (told_at q.told d).hears)
    → Shows z p d (tile_step p d r.tile (pos t) s (outside (told_at r.told d)))
whole-step p d r q z is_taking eject s t ready told shown is sends after =
    let x = told_at r.told d in
    let w = switched p d r.tile (pos t) s (outside x) in
    let A : Told → Type 0 = λ y. Shows z p d (attached p d w (taken is_taking y.offer) eject y.hears) in
    let B : Option Offer → Type 0 = λ y. Shows z p d (attached p d w y eject x.hears) in
    let C : Option Flit → Type 0 = λ y. Shows z p d (attached p d w (word_in p s (outside x)) y x.hears) in
    step-shows z p d r.tile (pos t) s x (holds p d r ready s shown) (subst C sends (subst B (word-taken p s x is_taking is) (subst A told after)))

-- ---- all domains

-- a domain that waits is still ready
pub ready-still : (p : Plan) (d : ℕ) (r q : Parts) → q ≡ cycled r q → ((s : Tile) → Shows r p d s → Shows q p d s) → IsReady p d r → IsReady p d q
ready-still p d r q rest waits ready =
    let S : Parts → Type 0 = λ z. Stands z.wheel p z.tile ready.cycle in
    let O : Parts → Type 0 = λ z. (port c : ℕ) → port < ports p → c < link_channels p d → HasOutput p d z.tile (ready.tile.stage port c) in
    record {
      cycle = ready.cycle;
      stands = subst S (sym rest) ready.stands;
      tile = ready.tile;
      shows = waits ready.tile ready.shows;
      fronts = ready.fronts;
      outs = subst O (sym rest) ready.outs;
      held = ready.held;
    }

-- a domain sends nothing by a link that another owns
none-elsewhere : (p : Plan) (d n : ℕ) (t : ℤ) (s : Tile) (i : TileIn) (o : ℕ) → o ≢ 0 → owner p n o t ≢ d → sent p d n t s i o ≡ None
none-elsewhere p d n t s i o linked apart = go (sent p d n t s i o) refl
  where
    go : (x : Option LinkFlit) → sent p d n t s i o ≡ x → sent p d n t s i o ≡ None
    go None is = is
    go (Some x) is = absurd (apart (sent-owner p d n t s i o x linked is))

pub advances-none : (p : Plan) (r : Parts) (links : List (Option LinkFlit)) → IsMade r p → ((o : ℕ) → best_at r.allocator o ≡ None) → length links ≡ ports p
    → ((o : ℕ) → o < ports p → laid_at links o ≡ None) → AdvancesBelow 0 p r r links
advances-none p r links made quiet count none = record {
  made = made;
  rest = refl;
  quiet = quiet;
  kept = λ are. are;
  count = count;
  steps = λ d s t below shown stands. absurd (omega (arith, below));
  waits = λ d s past shown. shown;
  sends = λ d o s t below linked o_in own shown stands. absurd (omega (arith, below));
  empty = λ o t linked o_in past stands. none o o_in;
}

-- one domain more
module _ (m : ℕ) (p : Plan) (r q z : Parts) (links after : List (Option LinkFlit)) (before : AdvancesBelow m p r q links) (ready : IsReady p m r)
    (rest : z ≡ cycled q z) (made : IsMade z p) (quiet : (o : ℕ) → best_at z.allocator o ≡ None) (kept : ArePulses p q.pulses → ArePulses p z.pulses) (count : length after ≡ length links)
    (own : (s : Tile) (t : ℕ) → Shows q p m s → Stands q.wheel p q.tile t → Shows z p m (tile_step p m q.tile (pos t) s (outside (told_at q.told m))))
    (lays : (s : Tile) (t o : ℕ) → Shows q p m s → Stands q.wheel p q.tile t → o ≢ 0 → o < ports p
    → laid_at after o ≡ laid (sent p m q.tile (pos t) s (outside (told_at q.told m)) o) (laid_at links o))
    (others : (e : ℕ) (s : Tile) → e ≢ m → Shows q p e s → Shows z p e s) where
  own-now : (s : Tile) (t : ℕ) → Shows q p m s → Stands r.wheel p r.tile t → Shows z p m (tile_step p m r.tile (pos t) s (outside (told_at r.told m)))
  own-now =
      let A : Parts → Type 0 = λ y. (s : Tile) (t : ℕ) → Shows q p m s → Stands y.wheel p y.tile t → Shows z p m (tile_step p m y.tile (pos t) s (outside (told_at y.told m))) in
      subst A before.rest own

  lays-now : (s : Tile) (t o : ℕ) → Shows q p m s → Stands r.wheel p r.tile t → o ≢ 0 → o < ports p
      → laid_at after o ≡ laid (sent p m r.tile (pos t) s (outside (told_at r.told m)) o) (laid_at links o)
  lays-now =
      let A : Parts → Type 0 = λ y. (s : Tile) (t o : ℕ) → Shows q p m s → Stands y.wheel p y.tile t → o ≢ 0 → o < ports p
      → laid_at after o ≡ laid (sent p m y.tile (pos t) s (outside (told_at y.told m)) o) (laid_at links o) in
      subst A before.rest lays

  -- a link of another domain stays as it is
  stays : (o t : ℕ) → o ≢ 0 → o < ports p → owner p r.tile o (pos t) ≢ m → Stands r.wheel p r.tile t → laid_at after o ≡ laid_at links o
  stays o t linked o_in apart stands =
      lays-now ready.tile t o (before.waits m ready.tile (omega arith) ready.shows) stands linked o_in
      ∙ ap (λ y. laid y (laid_at links o)) (none-elsewhere p m r.tile (pos t) ready.tile (outside (told_at r.told m)) o linked apart)

  pub advances-more : AdvancesBelow (m + 1) p r z after
  advances-more = record {
    made = made;
    rest = rest ∙ ap (λ y. cycled y z) before.rest;
    quiet = quiet;
    kept = λ are. kept (before.kept are);
    count = count ∙ before.count;
    steps = λ d s t below shown stands.
        let P : ℕ → Type 0 = λ k. Shows r p k s → Shows z p k (tile_step p k r.tile (pos t) s (outside (told_at r.told k))) in
        ⊎_elim
        (λ e. subst P (sym e.1) (λ there. own-now s t (before.waits m s (omega arith) there) stands) shown)
        (λ e. others d _ e.1 (before.steps d s t (let a = e.1 in omega (arith, a, below)) shown stands))
        (eqb_tells d m);
    waits = λ d s past shown. others d s (omega (arith, past)) (before.waits d s (omega (arith, past)) shown);
    sends = λ d o s t below linked o_in owns shown stands.
        let P : ℕ → Type 0 = λ k. Shows r p k s → owner p r.tile o (pos t) ≡ k → laid_at after o ≡ sent p k r.tile (pos t) s (outside (told_at r.told k)) o in
        ⊎_elim
        (λ e. subst P (sym e.1)
        (λ there owned. lays-now s t o (before.waits m s (omega arith) there) stands linked o_in
        ∙ ap (laid (sent p m r.tile (pos t) s (outside (told_at r.told m)) o)) (before.empty o t linked o_in (omega (arith, owned)) stands)
        ∙ laid-none (sent p m r.tile (pos t) s (outside (told_at r.told m)) o)) shown owns)
        (λ e. stays o t linked o_in (λ owned. e.1 (sym owns ∙ owned)) stands ∙ before.sends d o s t (let a = e.1 in omega (arith, a, below)) linked o_in owns shown stands)
        (eqb_tells d m);
    empty = λ o t linked o_in past stands. stays o t linked o_in (omega (arith, past)) stands ∙ before.empty o t linked o_in (omega (arith, past)) stands;
  }
