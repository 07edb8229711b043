-- One cycle of all tiles is one cycle of each domain's network.
use Rattle.std.proofs.Common.{◌≡◌, ◌≢◌, ℕ, zero, suc, ◌+◌, ◌-◌, ◌*◌, ◌/◌, ◌%◌, ◌<◌, Bool, true, false, Option, List, [], ◌∷◌, length, take, get_or, refl, sym, ap, ◌∙◌, subst, arith, ⊎_elim, ◌==◌, ◌&&◌}
use Rattle.std.specs.Prelude.{Some, None, slice_get, slice_index_or, is_some, if◌then◌else◌, ℤ, pos, ◌+ℤ◌, ◌-ℤ◌}
use Rattle.std.proofs.lemmas.Int.{ints}
use Rattle.std.proofs.lemmas.Nat.{div-add-mod'}
use Rattle.std.proofs.lemmas.List.{get_or_past}
use Rattle.std.proofs.lemmas.Bool.{cases_lt}
use Rattle.std.proofs.lemmas.Option.{slice_get-get_or, get_or_from_slice_get}
use Rattle.std.proofs.lemmas.Bool.Decides.{nat_tests, eqb_tells}
use Rattle.noc_model.specs.declared.Host.{Host}
use Rattle.noc_model.specs.declared.LinkFlit.{LinkFlit}
use Rattle.noc_model.specs.Plan.{Plan, tiles, ports, hosts, attach_of, link_channels}
use Rattle.noc_model.specs.Sound.{IsSound}
use Rattle.noc_model.specs.Place.{neighbour, opposite, owner}
use Rattle.noc_model.specs.Tile.{Tile, TileIn}
use Rattle.noc_model.specs.Step.{sent, shifted, tile_step}
use Rattle.noc_model.specs.Run.{State, Input, arrival, return_of, fed, step}
use Rattle.noc_model.specs.Shared.{filled_in, own_places}
use Rattle.noc_model.specs.Driver.{Driver, offer_at, hears_at, driven, next_state}
use Rattle.noc_model.specs.Limits.{most_cycles}
use Rattle.noc_model.specs.Reached.{IsReached}
use Rattle.noc_model.proofs.Reached.{reached-next}
use Rattle.noc_model.proofs.Sum.{channel_sum-step}
use Rattle.noc_model.proofs.TileRuns.{fed-may}
use Rattle.vc_partition.specs.Lanes.{lane}
use Rattle.noc_model.proofs.Coords.{positive}
use Rattle.noc_model.proofs.HostTiles.{attached, host-within}
use Rattle.noc_model.proofs.Links.{link-from}
use Rattle.noc_model.proofs.Ports.{linked-port}
use Rattle.noc_model.proofs.Switched.{link-below}
use Rattle.noc_model.proofs.SharedRows.{sent-owner, filled-next, filled-now}
use Rattle.noc_model.proofs.StateKept.{neighbour-inside, arrival-none}
use Rattle.credit_links.specs.Rows.{place_at}
use Rattle.credit_links.specs.Rows as links
use Rattle.router_core.specs.declared.attachments.Told.{Told}
use Rattle.router_core.specs.declared.router.RouterOut.{RouterOut}
use Rattle.router_core.specs.Attachments.{told_at}
use Rattle.router_core.specs.Parts.{Parts}
use Rattle.router_core.specs.Pulses.{pulse_at, is_pulse}
use Rattle.router_core.specs.Sizes.{HasPorts, IsMade}
use Rattle.wave_sched.specs.Wheels.{Stands}
use Rattle.router_core.specs.Shown as routers
use Rattle.router_core.specs.Idle.{IsIdle}
use Rattle.router_core.proofs.Idle.{ComesNothing, rest-sends, rest-steps}
use Rattle.cycle_sim.specs.Asleep.{is_awake, SendsNothing, IsAsleep, AreAsleep, HasSlept}
use Rattle.cycle_sim.specs.Attached.{with_told, told_by, state_after}
use Rattle.cycle_sim.specs.Links.{row_of, pulses_of, arrival_at, credit_at, ComesIn}
use Rattle.cycle_sim.specs.TileCycle.{AreAllPulses, MayStep, HasStepped}
use Rattle.cycle_sim.specs.Net.{kept, Shows, IsRun, IsQuiet, IsRouterOf, IsWhole}
use Rattle.cycle_sim.proofs.Numbers.{arrival-unlinked, arrival-empty, none-either, credit-unlinked, credit-linked, arrival-linked, number-below, quotient-below, remainder-below}
use Rattle.cycle_sim.proofs.Kept.{shows-wheel}
use Rattle.cycle_sim.proofs.Sleeping.{idle-wheel}
use Rattle.cycle_sim.proofs.Told.{shows-told, made-told, idle-told}
use Rattle.cycle_sim.proofs.Written.{get-below, record-at}

pub either_way : {A : Type 0} (b : Bool) → (b ≡ true → A) → (b ≡ false → A) → A
either_way true up down = up refl
either_way false up down = down refl

-- ---- a row, shifted

place-tail : (row : List (Option LinkFlit)) (k j : ℕ) → j < k → place_at (take k row) j ≡ place_at row j
place-tail [] zero j less = absurd (omega (arith, less))
place-tail [] (suc k) j less = refl
place-tail (x ∷ row) zero j less = absurd (omega (arith, less))
place-tail (x ∷ row) (suc k) zero less = refl
place-tail (x ∷ row) (suc k) (suc j) less = place-tail row k j (omega (arith, less))

not-owner : (p : Plan) (d n : ℕ) (t : ℤ) (s : Tile) (i : TileIn) (o : ℕ) → o ≢ 0 → owner p n o t ≢ d → sent p d n t s i o ≡ None
not-owner p d n t s i o link other = go (sent p d n t s i o) refl
  where
    go : (x : Option LinkFlit) → sent p d n t s i o ≡ x → x ≡ None
    go None e = refl
    go (Some x) e = absurd (other (sent-owner p d n t s i o x link e))

-- the owner's flit, and nothing for another
first-place : (k d : ℕ) (x y : Option LinkFlit) → (k ≡ d → x ≡ y) → (k ≢ d → y ≡ None) → y ≡ (if k == d then x else None)
first-place k d x y same none = ⊎_elim
    (λ own. sym (same own.1) ∙ ap (λ b. if b then x else None) (sym own.0))
    (λ other. none other.1 ∙ ap (λ b. if b then x else None) (sym other.0))
    (eqb_tells k d)

clash : (w : ℕ) → None ≡ Some w → ⊥
clash w e = cc e

take-last : (row : List (Option LinkFlit)) (k : ℕ) → suc k ≡ length row → length (take k row) ≡ k
take-last [] k e = absurd (omega (arith, e))
take-last (x ∷ row) zero e = refl
take-last (x ∷ row) (suc k) e = ap suc (take-last row k (omega (arith, e)))

-- ---- what comes in

arrival-some : (p : Plan) (s : State) (n port m : ℕ) → neighbour p n port ≡ Some m → arrival p s n port ≡ (s m).row (opposite port) (p.stages - 1)
unfolding arrival
arrival-some p s n port m e = rw e refl

return-some : (p : Plan) (s : State) (n o m w : ℕ) → neighbour p n o ≡ Some m → return_of p s n o w ≡ (s m).pulse (opposite o) w
unfolding return_of
return-some p s n o m w e = rw e refl

return-none : (p : Plan) (s : State) (n o w : ℕ) → neighbour p n o ≡ None → return_of p s n o w ≡ false
unfolding return_of
return-none p s n o w e = rw e refl

-- the first phases of a cycle: the credit pulses are kept, the tiles to which something comes are woken, and the routers of
-- those that are awake are told
pub record HasCycled (p : Plan) (t : ℕ) (v : Driver) (st : ℕ → List ℕ) (awake : List Bool) (first told : List Parts) (pulses : List (List (List (Option ℕ))))
    (rows : List (List (Option LinkFlit))) : Type 0 where
  pub whole : IsWhole (kept p t first rows)
  pub told_count : length told ≡ tiles p
  pub told_same : (n : ℕ) (r new : Parts) → slice_get first n ≡ Some r → slice_get told n ≡ Some new → new ≡ with_told r new.told
  pub told_len : (n : ℕ) (r new : Parts) → slice_get first n ≡ Some r → slice_get told n ≡ Some new → length new.told ≡ length r.told
  pub told_by_driver : (j : ℕ) (h : Host) (new : Parts) → slice_get p.hosts j ≡ Some h → slice_get told h.tile ≡ Some new
      → is_awake awake h.tile ≡ true → told_at new.told h.domain ≡ told_by v t j (st j)
  pub told_away : (n d : ℕ) (r new : Parts) → slice_get first n ≡ Some r → slice_get told n ≡ Some new → hosts p n d ≡ false
      → told_at new.told d ≡ told_at r.told d
  pub pulse_count : length pulses ≡ tiles p
  pub pulse_ports : (n : ℕ) → n < tiles p → HasPorts p (pulses_of pulses n)
  pub pulse_same : (n d port : ℕ) (r : Parts) → slice_get first n ≡ Some r → d < length p.domains → port < ports p
      → pulse_at (pulses_of pulses n) d port ≡ pulse_at r.pulses d port
  -- where a tile sleeps
  pub asleep : (n : ℕ) (r : Parts) → slice_get first n ≡ Some r → is_awake awake n ≡ false → IsAsleep p n r rows pulses
  pub offers : (j : ℕ) (h : Host) → slice_get p.hosts j ≡ Some h → is_awake awake h.tile ≡ false → v.offer j (st j) t ≡ None
  pub nothing : (n port m : ℕ) → n < tiles p → neighbour p n port ≡ Some m → is_awake awake n ≡ false → SendsNothing p rows pulses m (opposite port)

-- then the tiles that are awake step, and their rows are shifted
pub record HasMoved (p : Plan) (t : ℕ) (awake : List Bool) (told after : List Parts) (pulses : List (List (List (Option ℕ)))) (outs : List RouterOut)
    (rows next : List (List (Option LinkFlit))) : Type 0 where
  pub after_count : length after ≡ tiles p
  pub out_count : length outs ≡ tiles p
  pub stepped : (n : ℕ) (r new : Parts) (out : RouterOut) → slice_get told n ≡ Some r → slice_get after n ≡ Some new → slice_get outs n ≡ Some out
      → is_awake awake n ≡ true → HasStepped p n t rows pulses r new out.links.items
  pub slept : (n : ℕ) (r new : Parts) → slice_get told n ≡ Some r → slice_get after n ≡ Some new → is_awake awake n ≡ false → HasSlept p n t r new
  pub next_count : length next ≡ tiles p * ports p
  pub next_is : (n o : ℕ) (out : RouterOut) → slice_get outs n ≡ Some out → is_awake awake n ≡ true → o < ports p
      → row_of p next n o ≡ slice_index_or out.links.items o None ∷ take (length (row_of p rows n o) - 1) (row_of p rows n o)
  pub next_asleep : (n o : ℕ) → is_awake awake n ≡ false → o < ports p → row_of p next n o ≡ row_of p rows n o

module _ (p : Plan) (t : ℕ) (v : Driver) (st : ℕ → List ℕ) (awake : List Bool) (first told after : List Parts) (pulses : List (List (List (Option ℕ))))
    (outs : List RouterOut) (rows next : List (List (Option LinkFlit))) (sound : IsSound p) (c : HasCycled p t v st awake first told pulses rows) where
  abbrev input : ℕ → Input
  input d = driven p d v st t

  -- what tile n was, for what it is told
  pub first-at : (n : ℕ) (r : Parts) → slice_get told n ≡ Some r → (a : Parts) × (slice_get first n ≡ Some a) × (r ≡ with_told a r.told)
  first-at n r is =
      let there = get-below told n r is in
      let inside : n < length first = omega (arith, there, c.told_count, c.whole.routers) in
      let at = slice_get-get_or first n r inside in
      (get_or first n r, at, c.told_same n (get_or first n r) r at is)

  tile-in : (n : ℕ) (r : Parts) → slice_get told n ≡ Some r → n < tiles p
  tile-in n r is = let there = get-below told n r is in omega (arith, there, c.told_count)

  row-long : (n o m : ℕ) → n < tiles p → neighbour p n o ≡ Some m → length (row_of p rows n o) ≡ p.stages
  row-long n o m inside linked =
      let low = number-below p n o inside (link-below p n o (ap is_some linked)) in
      c.whole.row (n * ports p + o) (row_of p rows n o) (slice_get-get_or rows (n * ports p + o) [] (omega (arith, low, c.whole.rows)))

  -- the router of a tile, told
  pub router-told : (n : ℕ) (r : Parts) → slice_get told n ≡ Some r → IsRouterOf p n t r
  router-told n r is =
      let a = first-at n r is in
      let old : IsRouterOf p n t a.0 = c.whole.router n a.0 a.1 in
      let made = made-told a.0 r.told p (c.told_len n a.0 r a.1 is) old.made in
      record {
        tile = ap (λ (q : Parts). q.tile) a.2 ∙ old.tile;
        made = subst (λ (q : Parts). IsMade q p) (sym a.2) made;
        quiet = subst (IsQuiet p) (sym a.2) (record { best = old.quiet.best; pulses = old.quiet.pulses });
        wheel = subst (λ (q : Parts). Stands q.wheel p n t) (sym a.2) old.wheel;
        away = λ d none. c.told_away n d a.0 r a.1 is none ∙ old.away d none;
      }

  pub are-pulses : AreAllPulses p pulses
  are-pulses = record { count = c.pulse_count; each = c.pulse_ports; few = few }
    where
      few : (m d port w : ℕ) → m < tiles p → d < length p.domains → pulse_at (pulses_of pulses m) d port ≡ Some w → w < link_channels p d
      few m d port w inside there is = ⊎_elim
          (λ low.
          let r = record-at first m (omega (arith, inside, c.whole.routers)) in
          (c.whole.router m r.0 r.1).quiet.pulses d port w there (sym (c.pulse_same m d port r.0 r.1 there low) ∙ is))
          (λ high.
          let long = (c.pulse_ports m inside).ports d there in
          let past : pulse_at (pulses_of pulses m) d port ≡ None = get_or_past (lane (pulses_of pulses m) d) port None (omega (arith, long, high)) in
          absurd (clash w (sym past ∙ is)))
          (cases_lt port (ports p))

  module _ (d : ℕ) (s : State) (there : d < length p.domains) (shown : Shows (kept p t first rows) d s) where
    pub shows-old : (n : ℕ) (r : Parts) → slice_get told n ≡ Some r → routers.Shows r p d (s n)
    shows-old n r is =
        let a = first-at n r is in
        subst (λ (q : Parts). routers.Shows q p d (s n)) (sym a.2) (shows-told a.0 r.told p d (s n) (shown.each n a.0 a.1))

    last-is : (m o n : ℕ) → m < tiles p → neighbour p m o ≡ Some n
        → (s m).row o (p.stages - 1) ≡ (if owner p m o (pos t -ℤ pos p.stages) == d then links.last_place (row_of p rows m o) else None)
    last-is m o n inside linked =
        let some = sound.stages.0 in
        let long = row-long m o n inside linked in
        let one : p.stages - 1 + 1 ≡ p.stages = omega (arith, some) in
        shown.rows m o n (p.stages - 1) inside linked (omega (arith, some))
        ∙ ap (λ k. if owner p m o (pos t -ℤ pos k) == d then place_at (row_of p rows m o) (p.stages - 1) else None) one
        ∙ ap (λ k. if owner p m o (pos t -ℤ pos p.stages) == d then place_at (row_of p rows m o) (k - 1) else None) (sym long)

    arrives-is : (n port : ℕ) → n < tiles p → arrival p s n port ≡ arrival_at p d n t rows port
    arrives-is n port inside = go (neighbour p n port) refl
      where
        go : (o : Option ℕ) → neighbour p n port ≡ o → arrival p s n port ≡ arrival_at p d n t rows port
        go None e = arrival-none p s n port e ∙ sym (arrival-unlinked p d n t rows port e)
        go (Some m) e =
            let all = positive p.dims sound.sides in
            let link = link-from p n port m all inside e in
            arrival-some p s n port m e ∙ last-is m (opposite port) n (neighbour-inside p n port m all e) link.back ∙ sym (arrival-linked p d n t rows port m e)

    returns-is : (n o w : ℕ) → n < tiles p → w < link_channels p d → return_of p s n o w ≡ is_pulse (credit_at p d n pulses o) w
    returns-is n o w inside few = go (neighbour p n o) refl
      where
        go : (x : Option ℕ) → neighbour p n o ≡ x → return_of p s n o w ≡ is_pulse (credit_at p d n pulses o) w
        go None e = return-none p s n o w e ∙ sym (ap (λ k. is_pulse k w) (credit-unlinked p d n pulses o e))
        go (Some m) e =
            let all = positive p.dims sound.sides in
            let link = link-from p n o m all inside e in
            let m_in = neighbour-inside p n o m all e in
            let low = link-below p m (opposite o) (ap is_some link.back) in
            let a = record-at first m (omega (arith, m_in, c.whole.routers)) in
            return-some p s n o m w e ∙ sym ((shown.each m a.0 a.1).pulse (opposite o) w low few)
            ∙ ap (λ k. is_pulse k w) (sym (c.pulse_same m d (opposite o) a.0 a.1 there low) ∙ sym (credit-linked p d n pulses o m e))

    told-is : (n : ℕ) (r : Parts) → slice_get told n ≡ Some r → is_awake awake n ≡ true
        → ((fed p d s (input d) n).offer ≡ (told_at r.told d).offer) × ((fed p d s (input d) n).hears ≡ (told_at r.told d).hears)
    told-is n r is up = go (hosts p n d) refl
      where
        go : (b : Bool) → hosts p n d ≡ b
            → ((fed p d s (input d) n).offer ≡ (told_at r.told d).offer) × ((fed p d s (input d) n).hears ≡ (told_at r.told d).hears)
        go true e =
            let has = attached p n d e in
            let x = c.told_by_driver has.number (record { tile = n; domain = d }) r has.at is up in (
              ap (λ b. if b then offer_at v st t (attach_of p n d) else None) e ∙ ap (offer_at v st t) has.is ∙ sym (ap (λ (y : Told). y.offer) x),
              ap (λ b. b && hears_at v st t (attach_of p n d)) e ∙ ap (hears_at v st t) has.is ∙ sym (ap (λ (y : Told). y.hears) x),
            )
        go false e =
            let x = (router-told n r is).away d e in (
              ap (λ b. if b then offer_at v st t (attach_of p n d) else None) e ∙ sym (ap (λ (y : Told). y.offer) x),
              ap (λ b. b && hears_at v st t (attach_of p n d)) e ∙ sym (ap (λ (y : Told). y.hears) x),
            )

    pub comes : (n : ℕ) (r : Parts) → slice_get told n ≡ Some r → is_awake awake n ≡ true → ComesIn p d n t rows pulses (told_at r.told d) (fed p d s (input d) n)
    comes n r is up =
        let inside = tile-in n r is in
        let x = told-is n r is up in
        record {
          arrives = λ port. arrives-is n port inside;
          returns = λ o w few. returns-is n o w inside few;
          offer = x.0;
          hears = x.1;
        }

    -- to a tile that sleeps nothing comes
    offers-nothing : (n : ℕ) → is_awake awake n ≡ false → (fed p d s (input d) n).offer ≡ None
    offers-nothing n down = go (hosts p n d) refl
      where
        go : (b : Bool) → hosts p n d ≡ b → (fed p d s (input d) n).offer ≡ None
        go true e =
            let has = attached p n d e in
            ap (λ b. if b then offer_at v st t (attach_of p n d) else None) e ∙ ap (offer_at v st t) has.is ∙ c.offers has.number (record { tile = n; domain = d }) has.at down
        go false e = ap (λ b. if b then offer_at v st t (attach_of p n d) else None) e

    comes-nothing : (n : ℕ) → n < tiles p → is_awake awake n ≡ false → ComesNothing p d (fed p d s (input d) n)
    comes-nothing n inside down = record {
      arrives = λ port low. arrives-is n port inside ∙ arrival-nothing port (neighbour p n port) refl;
      returns = λ o w low few. returns-is n o w inside few ∙ ap (λ k. is_pulse k w) (credit-nothing o (neighbour p n o) refl);
      offer = offers-nothing n down;
    }
      where
        arrival-nothing : (port : ℕ) (x : Option ℕ) → neighbour p n port ≡ x → arrival_at p d n t rows port ≡ None
        arrival-nothing port None e = arrival-unlinked p d n t rows port e
        arrival-nothing port (Some m) e = arrival-empty p d n t rows port m e (row_of p rows m (opposite port)) refl (c.nothing n port m inside e down).flit

        credit-nothing : (o : ℕ) (x : Option ℕ) → neighbour p n o ≡ x → credit_at p d n pulses o ≡ None
        credit-nothing o None e = credit-unlinked p d n pulses o e
        credit-nothing o (Some m) e = credit-linked p d n pulses o m e ∙ (c.nothing n o m inside e down).credit d there

    module _ (moved : HasMoved p t awake told after pulses outs rows next) where
      tile-steps : (n : ℕ) (new : Parts) → slice_get after n ≡ Some new → routers.Shows new p d (tile_step p d n (pos t) (s n) (fed p d s (input d) n))
      tile-steps n new is =
          let low = get-below after n new is in
          let far : n < length told = omega (arith, low, moved.after_count, c.told_count) in
          let inside : n < tiles p = omega (arith, low, moved.after_count) in
          let out_in : n < length outs = omega (arith, low, moved.after_count, moved.out_count) in
          let r : Parts = get_or told n new in
          let r_at = slice_get-get_or told n new far in
          let out = record-at outs n out_in in
          either_way (is_awake awake n)
          (λ up. (moved.stepped n r new out.0 r_at is out.1 up).steps d (s n) (fed p d s (input d) n) there (shows-old n r r_at) (comes n r r_at up))
          (λ down.
          let a = first-at n r r_at in
          let slept = moved.slept n r new r_at is down in
          let stays = rest-steps a.0 p d n (pos t) (s n) (fed p d s (input d) n) ((c.asleep n a.0 a.1 down).idle d there) (shown.each n a.0 a.1) (comes-nothing n inside down) in
          subst (λ (q : Parts). routers.Shows q p d (tile_step p d n (pos t) (s n) (fed p d s (input d) n))) (sym slept.rest)
          (shows-wheel r new.wheel p d (tile_step p d n (pos t) (s n) (fed p d s (input d) n))
          (subst (λ (q : Parts). routers.Shows q p d (tile_step p d n (pos t) (s n) (fed p d s (input d) n))) (sym a.2)
          (shows-told a.0 r.told p d (tile_step p d n (pos t) (s n) (fed p d s (input d) n)) stays))))

      row-asleep : (n o m i : ℕ) → n < tiles p → neighbour p n o ≡ Some m → i < p.stages → is_awake awake n ≡ false
          → shifted (sent p d n (pos t) (s n) (fed p d s (input d) n) o) ((s n).row o) i ≡ own_places p d n o (pos (t + 1)) (place_at (row_of p next n o)) i
      row-asleep n o m i inside linked below down = go i below ∙ sym (none-own (pos (t + 1)) i (row_of p next n o) (ap (λ row. place_at row i) (moved.next_asleep n o down low) ∙ empty i))
        where
          low : o < ports p
          low = link-below p n o (ap is_some linked)

          a : (z : Parts) × (slice_get first n ≡ Some z)
          a = record-at first n (omega (arith, inside, c.whole.routers))

          empty : (j : ℕ) → place_at (row_of p rows n o) j ≡ None
          empty j = (c.asleep n a.0 a.1 down).empty o j low

          none-own : (T : ℤ) (j : ℕ) (row : List (Option LinkFlit)) → place_at row j ≡ None → own_places p d n o T (place_at row) j ≡ None
          none-own T j row e = ap (λ x. if owner p n o (filled_in T j) == d then x else None) e ∙ none-either (owner p n o (filled_in T j) == d)

          go : (j : ℕ) → j < p.stages → shifted (sent p d n (pos t) (s n) (fed p d s (input d) n) o) ((s n).row o) j ≡ None
          go zero less = rest-sends a.0 p d n (pos t) (s n) (fed p d s (input d) n) ((c.asleep n a.0 a.1 down).idle d there) (shown.each n a.0 a.1) o
          go (suc j) less = shown.rows n o m j inside linked (omega (arith, less)) ∙ none-own (pos t) j (row_of p rows n o) (empty j)

      row-awake : (n o m i : ℕ) → n < tiles p → neighbour p n o ≡ Some m → i < p.stages → is_awake awake n ≡ true
          → shifted (sent p d n (pos t) (s n) (fed p d s (input d) n) o) ((s n).row o) i ≡ own_places p d n o (pos (t + 1)) (place_at (row_of p next n o)) i
      row-awake n o m i inside linked below up = go i below
        where
          T : ℤ
          T = pos t

          x : Option LinkFlit
          x = sent p d n T (s n) (fed p d s (input d) n) o

          old : List (Option LinkFlit)
          old = row_of p rows n o

          low : o < ports p
          low = link-below p n o (ap is_some linked)

          out : (y : RouterOut) × (slice_get outs n ≡ Some y)
          out = record-at outs n (omega (arith, inside, moved.out_count))

          y : Option LinkFlit
          y = slice_index_or out.0.links.items o None

          r : (z : Parts) × (slice_get told n ≡ Some z)
          r = record-at told n (omega (arith, inside, c.told_count))

          new : (z : Parts) × (slice_get after n ≡ Some z)
          new = record-at after n (omega (arith, inside, moved.after_count))

          is_new : row_of p next n o ≡ y ∷ take (length old - 1) old
          is_new = moved.next_is n o out.0 out.1 up low

          later : T +ℤ pos 1 ≡ pos (t + 1)
          later = omega (arith, ints)

          sends : owner p n o T ≡ d → y ≡ x
          sends own = (moved.stepped n r.0 new.0 out.0 r.1 new.1 out.1 up).out_is d o m (s n) (fed p d s (input d) n) there (shows-old n r.0 r.1) (comes n r.0 r.1 up) linked own

          go : (i : ℕ) → i < p.stages → shifted x ((s n).row o) i ≡ own_places p d n o (pos (t + 1)) (place_at (row_of p next n o)) i
          go zero less =
              first-place (owner p n o T) d y x sends (not-owner p d n T (s n) (fed p d s (input d) n) o (linked-port p n o m linked))
              ∙ ap (λ k. if owner p n o k == d then y else None) (sym (filled-now T) ∙ ap (λ k. filled_in k 0) later)
              ∙ ap (λ row. if owner p n o (filled_in (pos (t + 1)) 0) == d then place_at row 0 else None) (sym is_new)
          go (suc j) less =
              let long = row-long n o m inside linked in
              shown.rows n o m j inside linked (omega (arith, less))
              ∙ ap (λ z. if owner p n o (filled_in T j) == d then z else None) (sym (place-tail old (length old - 1) j (omega (arith, less, long))))
              ∙ ap (λ k. if owner p n o k == d then place_at (take (length old - 1) old) j else None) (sym (filled-next T j) ∙ ap (λ k. filled_in k (suc j)) later)
              ∙ ap (λ row. if owner p n o (filled_in (pos (t + 1)) (suc j)) == d then place_at row (suc j) else None) (sym is_new)

      row-steps : (n o m i : ℕ) → n < tiles p → neighbour p n o ≡ Some m → i < p.stages
          → shifted (sent p d n (pos t) (s n) (fed p d s (input d) n) o) ((s n).row o) i ≡ own_places p d n o (pos (t + 1)) (place_at (row_of p next n o)) i
      row-steps n o m i inside linked below = either_way (is_awake awake n) (λ up. row-awake n o m i inside linked below up) (λ down. row-asleep n o m i inside linked below down)

      -- each domain's state goes on as if the domain were alone
      pub shows-next : Shows (kept p (t + 1) after next) d (step p d (pos t) s (input d))
      unfolding step tile_step
      shows-next = record { each = tile-steps; rows = row-steps }

  -- the router of a tile may step
  pub may-step : (n d : ℕ) (r : Parts) → slice_get told n ≡ Some r → is_awake awake n ≡ true → d < length p.domains → MayStep p d n t rows pulses r
  may-step n d r is up there =
      let run : IsRun (kept p t first rows) d = c.whole.runs d there in
      record {
        tile = run.state n;
        input = fed p d run.state (input d) n;
        shows = shows-old d run.state there run.shows n r is;
        comes = comes d run.state there run.shows n r is up;
        sound = run.reached.sound n;
        held = run.reached.held n;
        may = fed-may p d n (pos t) run.state (input d) sound (tile-in n r is) run.reached.sound run.sum;
      }

  module _ (moved : HasMoved p t awake told after pulses outs rows next) where
    row-fits : (k : ℕ) (row : List (Option LinkFlit)) → slice_get next k ≡ Some row → length row ≡ p.stages
    row-fits k row is =
        let low = get-below next k row is in
        let in_all : k < tiles p * ports p = omega (arith, low, moved.next_count) in
        let n = k / ports p in
        let o = k % ports p in
        let n_in = quotient-below k (tiles p) (ports p) in_all in
        let o_in = remainder-below k (tiles p) (ports p) in_all in
        let whole : n * ports p + o ≡ k = div-add-mod' k (ports p) in
        let out = record-at outs n (omega (arith, n_in, moved.out_count)) in
        let old : List (Option LinkFlit) = row_of p rows n o in
        let long : length old ≡ p.stages = c.whole.row (n * ports p + o) old (slice_get-get_or rows (n * ports p + o) [] (omega (arith, in_all, whole, c.whole.rows))) in
        let some = sound.stages.0 in
        let tail = take-last old (length old - 1) (omega (arith, some, long)) in
        let is_row : row_of p next n o ≡ row = ap (λ j. get_or next j []) whole ∙ get_or_from_slice_get next k row [] is in
        either_way (is_awake awake n)
        (λ up. let parts = ap length (sym is_row ∙ moved.next_is n o out.0 out.1 up o_in) in omega (arith, parts, tail, some, long))
        (λ down. ap length (sym is_row ∙ moved.next_asleep n o down o_in) ∙ long)

    -- the network after the cycle
    pub whole-next : t < most_cycles → IsWhole (kept p (t + 1) after next)
    whole-next below = record {
      few = omega (arith, below);
      routers = moved.after_count;
      rows = moved.next_count;
      row = row-fits;
      router = λ n new is.
          (let low = get-below after n new is in
          let r = record-at told n (omega (arith, low, moved.after_count, c.told_count)) in
          let out = record-at outs n (omega (arith, low, moved.after_count, moved.out_count)) in
          either_way (is_awake awake n) (λ up. (moved.stepped n r.0 new out.0 r.1 is out.1 up).router) (λ down. (moved.slept n r.0 new r.1 is down).router));
      runs = λ d there.
          (let run : IsRun (kept p t first rows) d = c.whole.runs d there in
          let later : suc t ≡ t + 1 = omega arith in
          record {
            state = step p d (pos t) run.state (input d);
            shows = shows-next d run.state there run.shows moved;
            reached = subst (λ k. IsReached p d (pos k) (step p d (pos t) run.state (input d))) later (reached-next p d t run.state (input d) sound run.reached);
            sum = λ n o m w inside linked.
                channel_sum-step p d (pos t) run.state (input d) n o m w sound.stages.0 (link-from p n o m (positive p.dims sound.sides) inside linked)
                ∙ run.sum n o m w inside linked;
          });
      starts = λ zero d there. absurd (omega (arith, zero));
    }

    -- the tiles that slept have nothing to do
    pub asleep-next : length awake ≡ tiles p → AreAsleep p after next pulses awake
    asleep-next count = record {
      count = count;
      each = λ n new is down.
          (let low = get-below after n new is in
          let r = record-at told n (omega (arith, low, moved.after_count, c.told_count)) in
          let a = first-at n r.0 r.1 in
          let was = c.asleep n a.0 a.1 down in
          let told_idle = subst (IsIdle p) (sym a.2) (idle-told p a.0 (r.0).told was.idle) in
          record {
            idle = subst (IsIdle p) (sym (moved.slept n r.0 new r.1 is down).rest) (idle-wheel p r.0 new.wheel told_idle);
            empty = λ o i inside. ap (λ row. place_at row i) (moved.next_asleep n o down inside) ∙ was.empty o i inside;
            silent = was.silent;
          });
    }

-- an attachment's state after a cycle
pub state-is : (p : Plan) (v : Driver) (t j : ℕ) (h : Host) (s : State) (state : List ℕ) → state_after p v t j (s h.tile) state ≡ next_state p h.domain v t s j state (Some h)
state-is p v t j h s state = ap (λ b. if b then state_after p v t j (s h.tile) state else state) (sym same)
  where
    same : (h.domain == h.domain) ≡ true
    same = let e : h.domain ≡ h.domain = refl in grind (arith, nat_tests)

-- the router of an attachment's tile
pub host-router : (p : Plan) (j : ℕ) (h : Host) (first : List Parts) → IsSound p → slice_get p.hosts j ≡ Some h → length first ≡ tiles p → (r : Parts) × (slice_get first h.tile ≡ Some r)
host-router p j h first sound at long = let within = host-within p j h sound at in record-at first h.tile (omega (arith, within.0, long))
