-- A network in cycle 0.
use Rattle.std.proofs.Common.{◌≡◌, ℕ, zero, suc, ◌+◌, ◌*◌, ◌<◌, Bool, true, false, Option, List, [], ◌∷◌, ◌++◌, length, map, replicate, get_or, refl, sym, ap, ◌∙◌, subst, arith, Some, None}
use Rattle.std.specs.Prelude.{slice_get, pos, if◌then◌else◌, ◌==◌}
use Rattle.std.specs.List.{range_with_len}
use Rattle.std.proofs.lemmas.List.{length-replicate}
use Rattle.std.proofs.lemmas.List.FromFn.{get_or-map-range_with_len, length-map-range_with_len}
use Rattle.noc_model.specs.declared.LinkFlit.{LinkFlit}
use Rattle.noc_model.specs.Plan.{Plan, tiles, ports}
use Rattle.noc_model.specs.Sound.{IsSound}
use Rattle.noc_model.specs.Place.{owner}
use Rattle.noc_model.specs.Tile.{start_tile}
use Rattle.noc_model.specs.Run.{start}
use Rattle.noc_model.specs.Shared.{filled_in, own_places}
use Rattle.noc_model.proofs.Kept.{channel_sum-law}
use Rattle.noc_model.proofs.Reached.{reached-start}
use Rattle.noc_model.proofs.StateKept.{some-channels}
use Rattle.credit_links.specs.Rows.{place_at}
use Rattle.wave_sched.specs.declared.wheels.Wheel.{Wheel}
use Rattle.wave_sched.specs.Wheels.{Stands}
use Rattle.router_core.specs.declared.router.RouterOut.{RouterOut}
use Rattle.router_core.specs.Attachments.{nothing_told, told_at}
use Rattle.router_core.specs.Parts.{Parts, start_parts}
use Rattle.router_core.specs.Pulses.{no_pulses}
use Rattle.router_core.specs.Sizes.{HasPorts, IsMade}
use Rattle.router_core.specs.Shown as routers
use Rattle.router_core.proofs.Start.{replicate-or}
use Rattle.vc_partition.specs.Lanes.{lane}
use Rattle.cycle_sim.specs.Links.{row_of, pulses_of}
use Rattle.cycle_sim.specs.Net.{kept, Shows, IsQuiet, IsFresh, IsWhole, HasScratch}
use Rattle.cycle_sim.specs.Asleep.{is_awake, AreAsleep}
use Rattle.cycle_sim.proofs.Written.{same-read, get-below}

-- one thing more at the end of a list of which each has P
pub each-push : {X : Type 0} (P : ℕ → X → Type 0) (xs : List X) (y : X) → ((m : ℕ) (x : X) → slice_get xs m ≡ Some x → P m x) → P (length xs) y
    → (m : ℕ) (x : X) → slice_get (xs ++ y ∷ []) m ≡ Some x → P m x
each-push P [] y each last zero x e = subst (P 0) (same-read y x e) last
each-push P [] y each last (suc m) x e = absurd (cc e)
each-push P (z ∷ xs) y each last zero x e = each 0 x e
each-push P (z ∷ xs) y each last (suc m) x e = each-push (λ k. P (suc k)) xs y (λ k w is. each (suc k) w is) last m x e

get-replicate : {X : Type 0} (n k : ℕ) (x y : X) → slice_get (replicate n x) k ≡ Some y → y ≡ x
get-replicate zero k x y e = absurd (cc e)
get-replicate (suc n) zero x y e = sym (same-read x y e)
get-replicate (suc n) (suc k) x y e = get-replicate n k x y e

-- lanes of one value
lane-of : {T : Type 0} (f : ℕ → ℕ) (x : T) (n d : ℕ) → d < n → lane (map (λ e. replicate (f e) x) (range_with_len 0 n)) d ≡ replicate (f d) x
lane-of f x n d there = get_or-map-range_with_len (λ e. replicate (f e) x) 0 n d d [] there (omega arith)

lane-or : {T : Type 0} (f : ℕ → ℕ) (x : T) (n d k : ℕ) → d < n → get_or (lane (map (λ e. replicate (f e) x) (range_with_len 0 n)) d) k x ≡ x
lane-or f x n d k there = ap (λ l. get_or l k x) (lane-of f x n d there) ∙ replicate-or (f d) k x

abbrev no_port : ℕ → List (Option ℕ)
no_port n = replicate n None

pub no-pulses-ports : (p : Plan) → HasPorts p (no_pulses p)
no-pulses-ports p = record {
  domains = length-map-range_with_len (λ d. no_port (ports p)) 0 (length p.domains);
  ports = λ d there. ap length (lane-of (λ e. ports p) None (length p.domains) d there) ∙ length-replicate (ports p) None;
}

pub scratch : (p : Plan) (pulses : List (List (List (Option ℕ)))) (outs : List RouterOut) → pulses ≡ replicate (tiles p) (no_pulses p) → length outs ≡ tiles p
    → ((n : ℕ) (out : RouterOut) → slice_get outs n ≡ Some out → length out.links.items ≡ ports p) → HasScratch p pulses outs
scratch p pulses outs is count links = record {
  pulses = ap length is ∙ length-replicate (tiles p) (no_pulses p);
  pulse_ports = λ n inside. subst (λ v. HasPorts p v) (sym (ap (λ xs. pulses_of xs n) is ∙ get_or-replicate (tiles p) n (no_pulses p) [] inside)) (no-pulses-ports p);
  outs = count;
  links = links;
}
  where
    get_or-replicate : {X : Type 0} (n k : ℕ) (x y : X) → k < n → get_or (replicate n x) k y ≡ x
    get_or-replicate zero k x y less = absurd (omega (arith, less))
    get_or-replicate (suc n) zero x y less = refl
    get_or-replicate (suc n) (suc k) x y less = get_or-replicate n k x y (omega (arith, less))

-- each tile is awake
pub all-awake : (p : Plan) (routers : List Parts) (rows : List (List (Option LinkFlit))) (pulses : List (List (List (Option ℕ)))) (awake : List Bool)
    → length routers ≡ tiles p → awake ≡ replicate (tiles p) true → AreAsleep p routers rows pulses awake
all-awake p routers rows pulses awake count is = record {
  count = ap length is ∙ length-replicate (tiles p) true;
  each = λ n r at down.
      (let there = get-below routers n r at in
      absurd (unlike (sym (ap (λ xs. is_awake xs n) is ∙ up (tiles p) n (omega (arith, there, count))) ∙ down)));
}
  where
    unlike : true ≡ false → ⊥
    unlike e = cc e

    up : (k n : ℕ) → n < k → is_awake (replicate k true) n ≡ true
    up zero n less = absurd (omega (arith, less))
    up (suc k) zero less = refl
    up (suc k) (suc n) less = up k n (omega (arith, less))

-- ---- routers

clash : (w : ℕ) → None ≡ Some w → ⊥
clash w e = cc e

pub start-quiet : (p : Plan) (n : ℕ) (w : Wheel) → IsQuiet p (start_parts p n w)
start-quiet p n w = record {
  best = λ o. replicate-or (ports p) o None;
  pulses = λ d port c there e. absurd (clash c (sym (lane-or (λ k. ports p) None (length p.domains) d port there) ∙ e));
}

pub fresh-router : (p : Plan) (n : ℕ) (r : Parts) → r ≡ start_parts p n r.wheel → IsMade r p → Stands r.wheel p n 0
    → ((d : ℕ) → d < length p.domains → routers.Shows r p d (start_tile p)) → IsFresh p n r
fresh-router p n r is made wheel shows = record {
  router = record {
    tile = ap (λ (q : Parts). q.tile) is;
    made = made;
    quiet = subst (IsQuiet p) (sym is) (start-quiet p n r.wheel);
    wheel = wheel;
    away = λ d none. ap (λ (q : Parts). told_at q.told d) is ∙ replicate-or (length p.domains) d nothing_told;
  };
  shows = shows;
}

-- ---- rows

abbrev nothing : Option LinkFlit
nothing = None

empty-place : (count stages k i : ℕ) → place_at (get_or (replicate count (replicate stages nothing)) k []) i ≡ None
empty-place zero stages k i = refl
empty-place (suc count) stages zero i = replicate-or stages i None
empty-place (suc count) stages (suc k) i = empty-place count stages k i

either : (b : Bool) → (if b then nothing else nothing) ≡ nothing
either true = refl
either false = refl

module _ (p : Plan) (first : List Parts) (rows : List (List (Option LinkFlit))) (sound : IsSound p) (count : length first ≡ tiles p)
    (fresh : (n : ℕ) (r : Parts) → slice_get first n ≡ Some r → IsFresh p n r)
    (empty : rows ≡ replicate (tiles p * ports p) (replicate p.stages None)) where
  pub start-shown : (d : ℕ) → d < length p.domains → Shows (kept p 0 first rows) d (start p)
  start-shown d there = record {
    each = λ n r is. (fresh n r is).shows d there;
    rows = λ n o m i inside linked below. sym (row n o i);
  }
    where
      row : (n o i : ℕ) → own_places p d n o (pos 0) (place_at (row_of p rows n o)) i ≡ nothing
      row n o i =
          (ap (λ xs. own_places p d n o (pos 0) (place_at (row_of p xs n o)) i) empty
          ∙ ap (λ (x : Option LinkFlit). if owner p n o (filled_in (pos 0) i) == d then x else nothing) (empty-place (tiles p * ports p) p.stages (n * ports p + o) i)
          ∙ either (owner p n o (filled_in (pos 0) i) == d))

  pub start-whole : IsWhole (kept p 0 first rows)
  start-whole = record {
    few = omega arith;
    routers = count;
    rows = ap length empty ∙ length-replicate (tiles p * ports p) (replicate p.stages None);
    row = λ k row is.
        ap length (get-replicate (tiles p * ports p) k (replicate p.stages None) row (ap (λ xs. slice_get xs k) (sym empty) ∙ is))
        ∙ length-replicate p.stages None;
    router = λ n r is. (fresh n r is).router;
    runs = λ d there. record {
      state = start p;
      shows = start-shown d there;
      reached = reached-start p d (pos 0) (some-channels p d sound there);
      sum = λ n o m w inside linked. channel_sum-law p d n o m w [] sound inside linked;
    };
    starts = λ zero d there. start-shown d there;
  }
