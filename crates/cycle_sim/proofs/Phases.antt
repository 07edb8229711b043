-- The first phases of a cycle: what the later ones need of them.
use Rattle.std.proofs.Common.{◌≡◌, ℕ, ◌-◌, ◌<◌, Bool, true, false, Option, List, length, refl, sym, ap, ◌∙◌, subst, arith}
use Rattle.std.specs.Prelude.{Some, None, slice_get, is_some}
use Rattle.noc_model.specs.declared.Host.{Host}
use Rattle.noc_model.specs.declared.LinkFlit.{LinkFlit}
use Rattle.noc_model.specs.Plan.{Plan, tiles, ports, hosts}
use Rattle.noc_model.specs.Sound.{IsSound}
use Rattle.noc_model.specs.Place.{neighbour, opposite}
use Rattle.noc_model.specs.Driver.{Driver}
use Rattle.noc_model.proofs.Coords.{positive}
use Rattle.noc_model.proofs.Links.{link-from}
use Rattle.noc_model.proofs.StateKept.{neighbour-inside}
use Rattle.noc_model.proofs.Switched.{link-below}
use Rattle.router_core.specs.Attachments.{told_at}
use Rattle.router_core.specs.Parts.{Parts}
use Rattle.router_core.specs.Pulses.{pulse_at}
use Rattle.router_core.specs.Sizes.{HasPorts}
use Rattle.cycle_sim.specs.Asleep.{is_awake, SendsNothing, IsAsleep, AreAsleep}
use Rattle.cycle_sim.specs.Attached.{with_told, told_by}
use Rattle.cycle_sim.specs.Links.{row_of, pulses_of}
use Rattle.cycle_sim.specs.Net.{kept, IsWhole}
use Rattle.cycle_sim.proofs.Cycle.{HasCycled, either_way}
use Rattle.cycle_sim.proofs.Written.{record-at}

-- what is known before the routers are told: the pulses of the tiles that were awake are kept, and the tiles to which
-- something comes were woken
pub record HasWoken (p : Plan) (t : ℕ) (v : Driver) (st : ℕ → List ℕ) (first : List Parts) (rows : List (List (Option LinkFlit)))
    (before pulses : List (List (List (Option ℕ)))) (slept near awake : List Bool) : Type 0 where
  pub whole : IsWhole (kept p t first rows)
  pub asleep : AreAsleep p first rows before slept
  pub pulse_count : length pulses ≡ tiles p
  pub pulse_ports : (n : ℕ) → n < tiles p → HasPorts p (pulses_of pulses n)
  pub kept_same : (n d port : ℕ) (r : Parts) → slice_get first n ≡ Some r → is_awake slept n ≡ true → d < length p.domains → port < ports p
      → pulse_at (pulses_of pulses n) d port ≡ pulse_at r.pulses d port
  pub kept_asleep : (n : ℕ) → is_awake slept n ≡ false → pulses_of pulses n ≡ pulses_of before n
  pub near_asleep : (n : ℕ) → is_awake near n ≡ false → is_awake slept n ≡ false
  pub nothing : (m n port : ℕ) → m < tiles p → port < ports p → is_awake slept m ≡ true → neighbour p m port ≡ Some n → is_awake near n ≡ false
      → SendsNothing p rows pulses m port
  pub still_asleep : (n : ℕ) → is_awake awake n ≡ false → is_awake near n ≡ false
  pub offers : (j : ℕ) (h : Host) → slice_get p.hosts j ≡ Some h → is_awake awake h.tile ≡ false → v.offer j (st j) t ≡ None

-- what is known of the routers when they are told
pub record AreAllTold (p : Plan) (t : ℕ) (v : Driver) (st : ℕ → List ℕ) (awake : List Bool) (first told : List Parts) : Type 0 where
  pub count : length told ≡ tiles p
  pub same : (n : ℕ) (r new : Parts) → slice_get first n ≡ Some r → slice_get told n ≡ Some new → new ≡ with_told r new.told
  pub long : (n : ℕ) (r new : Parts) → slice_get first n ≡ Some r → slice_get told n ≡ Some new → length new.told ≡ length r.told
  pub by_driver : (j : ℕ) (h : Host) (new : Parts) → slice_get p.hosts j ≡ Some h → slice_get told h.tile ≡ Some new
      → is_awake awake h.tile ≡ true → told_at new.told h.domain ≡ told_by v t j (st j)
  pub away : (n d : ℕ) (r new : Parts) → slice_get first n ≡ Some r → slice_get told n ≡ Some new → hosts p n d ≡ false
      → told_at new.told d ≡ told_at r.told d

module _ (p : Plan) (t : ℕ) (v : Driver) (st : ℕ → List ℕ) (first : List Parts) (rows : List (List (Option LinkFlit)))
    (before pulses : List (List (List (Option ℕ)))) (slept near awake : List Bool) (sound : IsSound p)
    (w : HasWoken p t v st first rows before pulses slept near awake) where
  -- a tile that slept has kept no pulses
  silent-kept : (n : ℕ) (r : Parts) → slice_get first n ≡ Some r → is_awake slept n ≡ false → (d port : ℕ) → d < length p.domains → port < ports p
      → pulse_at (pulses_of pulses n) d port ≡ None
  silent-kept n r is down d port there inside = ap (λ x. pulse_at x d port) (w.kept_asleep n down) ∙ (w.asleep.each n r is down).silent d port there inside

  pub woken-asleep : (n : ℕ) (r : Parts) → slice_get first n ≡ Some r → is_awake awake n ≡ false → IsAsleep p n r rows pulses
  woken-asleep n r is down =
      let was = w.near_asleep n (w.still_asleep n down) in
      let own = w.asleep.each n r is was in
      record { idle = own.idle; empty = own.empty; silent = silent-kept n r is was }

  woken-pulses : (n d port : ℕ) (r : Parts) → slice_get first n ≡ Some r → d < length p.domains → port < ports p
      → pulse_at (pulses_of pulses n) d port ≡ pulse_at r.pulses d port
  woken-pulses n d port r is there inside =
      either_way (is_awake slept n) (λ up. w.kept_same n d port r is up there inside)
      (λ down. silent-kept n r is down d port there inside ∙ sym (((w.asleep.each n r is down).idle d there).pulses port inside))

  woken-nothing : (n port m : ℕ) → n < tiles p → neighbour p n port ≡ Some m → is_awake awake n ≡ false → SendsNothing p rows pulses m (opposite port)
  woken-nothing n port m inside linked down =
      let all = positive p.dims sound.sides in
      let back = (link-from p n port m all inside linked).back in
      let m_in = neighbour-inside p n port m all linked in
      let low = link-below p m (opposite port) (ap is_some back) in
      let r = record-at first m (omega (arith, m_in, w.whole.routers)) in
      either_way (is_awake slept m) (λ up. w.nothing m n (opposite port) m_in low up back (w.still_asleep n down))
      (λ off. record {
        flit = (w.asleep.each m r.0 r.1 off).empty (opposite port) (length (row_of p rows m (opposite port)) - 1) low;
        credit = λ d there. silent-kept m r.0 r.1 off d (opposite port) there low;
      })

  pub has-cycled : (told : List Parts) → AreAllTold p t v st awake first told → HasCycled p t v st awake first told pulses rows
  has-cycled told are = record {
    whole = w.whole;
    told_count = are.count;
    told_same = are.same;
    told_len = are.long;
    told_by_driver = are.by_driver;
    told_away = are.away;
    pulse_count = w.pulse_count;
    pulse_ports = w.pulse_ports;
    pulse_same = woken-pulses;
    asleep = woken-asleep;
    offers = w.offers;
    nothing = woken-nothing;
  }
