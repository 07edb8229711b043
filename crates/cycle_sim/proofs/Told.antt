-- The routers, where one attachment more was seen.
use Rattle.std.proofs.Common.{◌≡◌, ◌≢◌, ℕ, ◌+◌, ◌<◌, Bool, true, false, List, length, length-set, set, sym, ap, ◌∙◌, arith, ⊎_elim, Some}
use Rattle.std.specs.Prelude.{slice_get}
use Rattle.std.proofs.lemmas.Bool.Decides.{eqb_tells}
use Rattle.noc_model.specs.declared.Host.{Host}
use Rattle.noc_model.specs.Plan.{Plan, tiles, hosts}
use Rattle.noc_model.specs.Sound.{IsSound}
use Rattle.noc_model.specs.Driver.{Driver}
use Rattle.noc_model.specs.Tile.{Tile}
use Rattle.noc_model.proofs.HostTiles.{host-unique, host-hosted}
use Rattle.router_core.specs.declared.attachments.Told.{Told}
use Rattle.router_core.specs.Attachments.{told_at}
use Rattle.router_core.specs.Idle.{IsIdle}
use Rattle.router_core.specs.Parts.{Parts}
use Rattle.router_core.specs.Shown.{Shows}
use Rattle.router_core.specs.Sizes.{IsMade}
use Rattle.cycle_sim.specs.Asleep.{is_awake}
use Rattle.cycle_sim.specs.Attached.{with_told, told_by}
use Rattle.cycle_sim.proofs.Written.{get-set_same, get-set_other, same-read}

-- what the outside does is no part of a domain's tile
pub shows-told : (r : Parts) (told : List Told) (p : Plan) (d : ℕ) (s : Tile) → Shows r p d s → Shows (with_told r told) p d s
shows-told r told p d s shown = record {
  queue = shown.queue;
  stage = shown.stage;
  pulse = shown.pulse;
  held = shown.held;
  credits = shown.credits;
  allocation = shown.allocation;
  switch = shown.switch;
  turn = shown.turn;
  packet = shown.packet;
  current = shown.current;
  dropped = shown.dropped;
  ejected = shown.ejected;
}

pub made-told : (r : Parts) (told : List Told) (p : Plan) → length told ≡ length r.told → IsMade r p → IsMade (with_told r told) p
made-told r told p long made = record {
  tile = made.tile;
  buffers = made.buffers;
  stages = made.stages;
  pulses = made.pulses;
  allocator = made.allocator;
  switch = made.switch;
  credits = made.credits;
  attachments = made.attachments;
  told = long ∙ made.told;
  wheel = made.wheel;
}

pub idle-told : (p : Plan) (r : Parts) (told : List Told) → IsIdle p r → IsIdle p (with_told r told)
idle-told p r told idle d there =
    let own = idle d there in record { inputs = own.inputs; pulses = own.pulses; dropped = own.dropped; ejected = own.ejected }

-- the routers from the first ones on, where the attachments below j were told
pub record AreTold (p : Plan) (v : Driver) (st : ℕ → List ℕ) (awake : List Bool) (t j : ℕ) (first now : List Parts) : Type 0 where
  pub count : length now ≡ tiles p
  pub same : (n : ℕ) (r new : Parts) → slice_get first n ≡ Some r → slice_get now n ≡ Some new → new ≡ with_told r new.told
  pub told_len : (n : ℕ) (r new : Parts) → slice_get first n ≡ Some r → slice_get now n ≡ Some new → length new.told ≡ length r.told
  pub told : (i : ℕ) (h : Host) (new : Parts) → i < j → slice_get p.hosts i ≡ Some h → slice_get now h.tile ≡ Some new → is_awake awake h.tile ≡ true
      → told_at new.told h.domain ≡ told_by v t i (st i)
  pub away : (n d : ℕ) (r new : Parts) → slice_get first n ≡ Some r → slice_get now n ≡ Some new → hosts p n d ≡ false → told_at new.told d ≡ told_at r.told d

-- one more: its router is told, if its tile is awake, and else stays
pub record IsTold (v : Driver) (st : ℕ → List ℕ) (awake : Bool) (t j d : ℕ) (r x : Parts) : Type 0 where
  pub rest : x ≡ with_told r x.told
  pub long : length x.told ≡ length r.told
  pub told : awake ≡ true → told_at x.told d ≡ told_by v t j (st j)
  pub others : (e : ℕ) → e ≢ d → told_at x.told e ≡ told_at r.told e

pub told-next : (p : Plan) (v : Driver) (st : ℕ → List ℕ) (awake : List Bool) (t j : ℕ) (first now : List Parts) (h : Host) (r x : Parts) → IsSound p
    → AreTold p v st awake t j first now → slice_get p.hosts j ≡ Some h → slice_get now h.tile ≡ Some r → h.tile < length now
    → IsTold v st (is_awake awake h.tile) t j h.domain r x
    → AreTold p v st awake t (j + 1) first (set now h.tile x)
told-next p v st awake t j first now h r x sound are at here below is = record {
  count = length-set now n x ∙ are.count;
  same = λ m a b f g. ⊎_elim
      (λ one.
      let b_is = written m b one.1 g in
      let a_is = are.same n a r (ap (slice_get first) (sym one.1) ∙ f) here in
      b_is ∙ is.rest ∙ ap (λ (q : Parts). with_told q x.told) a_is ∙ ap (with_told a) (sym (ap (λ (q : Parts). q.told) b_is)))
      (λ two. are.same m a b f (sym (get-set_other now n m x two.1) ∙ g))
      (eqb_tells m n);
  told_len = λ m a b f g. ⊎_elim
      (λ one. ap (λ (q : Parts). length q.told) (written m b one.1 g) ∙ is.long ∙ are.told_len n a r (ap (slice_get first) (sym one.1) ∙ f) here)
      (λ two. are.told_len m a b f (sym (get-set_other now n m x two.1) ∙ g))
      (eqb_tells m n);
  told = λ i k b less f g up. ⊎_elim
      (λ one.
      let k_is : k ≡ h = same-read k h (sym f ∙ ap (slice_get p.hosts) one.1 ∙ at) in
      let b_is = written k.tile b (ap (λ (q : Host). q.tile) k_is) g in
      ap (λ (q : Parts). told_at q.told k.domain) b_is ∙ ap (told_at x.told) (ap (λ (q : Host). q.domain) k_is)
      ∙ is.told (ap (λ (q : Host). is_awake awake q.tile) (sym k_is) ∙ up) ∙ ap (λ l. told_by v t l (st l)) (sym one.1))
      (λ two.
      let apart = two.1 in
      let earlier : i < j = grind (arith, less, apart) in
      ⊎_elim
      (λ at_tile.
      let b_is = written k.tile b at_tile.1 g in
      let other : k.domain ≢ h.domain = λ e. apart (host-unique p i j k h sound f at at_tile.1 e) in
      ap (λ (q : Parts). told_at q.told k.domain) b_is ∙ is.others k.domain other
      ∙ are.told i k r earlier f (ap (slice_get now) at_tile.1 ∙ here) up)
      (λ off. are.told i k b earlier f (sym (get-set_other now n k.tile x off.1) ∙ g) up)
      (eqb_tells k.tile n))
      (eqb_tells i j);
  away = λ m d a b f g none. ⊎_elim
      (λ one.
      let b_is = written m b one.1 g in
      let other : d ≢ h.domain = λ e. clash (sym none ∙ ap (λ l. hosts p l d) one.1 ∙ ap (hosts p n) e ∙ host-hosted p j h at) in
      ap (λ (q : Parts). told_at q.told d) b_is ∙ is.others d other
      ∙ are.away n d a r (ap (slice_get first) (sym one.1) ∙ f) here (ap (λ l. hosts p l d) (sym one.1) ∙ none))
      (λ two. are.away m d a b f (sym (get-set_other now n m x two.1) ∙ g) none)
      (eqb_tells m n);
}
  where
    n : ℕ
    n = h.tile

    clash : false ≡ true → ⊥
    clash e = cc e

    written : (m : ℕ) (b : Parts) → m ≡ n → slice_get (set now n x) m ≡ Some b → b ≡ x
    written m b one g = same-read b x (sym g ∙ ap (slice_get (set now n x)) one ∙ get-set_same now n x below)
