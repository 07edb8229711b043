-- One edge keeps the idle places and the credits.
use Rattle.std.proofs.Common.{◌≡◌, ◌≢◌, ℕ, zero, suc, ◌+◌, ◌-◌, ◌*◌, ◌/◌, ◌%◌, ◌<◌, ◌≤◌, ◌^◌, Bool, true, false, List, [], ◌∷◌, Option, refl, sym, ◌∙◌, ap, arith, ◌==◌, ◌&&◌, ◌||◌, ℤ}
use Rattle.std.specs.Prelude.{Some, None, not, nat_lt, if◌then◌else◌}
use Rattle.std.proofs.Math.Nat.{mod-eq_of_lt, add-mod_right}
use Rattle.std.proofs.lemmas.Bool.Decides.{nat_tests}
use Rattle.vl_tree.specs.Values.{Name, Expr}
use Rattle.vl_model.specs.Meaning.{one_if, chosen}
use Rattle.noc_model.specs.declared.Flit.{Flit}
use Rattle.noc_model.specs.declared.Stage.{Stage}
use Rattle.noc_model.specs.declared.Stage.TheVariants.{Idle, Routed, Active}
use Rattle.noc_model.specs.Plan.{Plan, link_channels}
use Rattle.noc_model.specs.Place.{owner}
use Rattle.noc_model.specs.Tile.{Tile, TileIn}
use Rattle.noc_model.specs.Step.{routed, winner, is_place, taken_channel, activated, leaves, is_tail, front, next_stage, takes, sent, is_on, one_if as number_of, tile_step}
use Rattle.noc_model.proofs.Switch.{sent-taken}
use Rattle.gen_kit.specs.Masks.{mask}
use Rattle.gen_kit.specs.Groups.{GroupKeeps}
use Rattle.leaf_tie.specs.Places.{stage_at, queue_at, is_idle, ends_at}
use Rattle.leaf_tie.specs.Buffers.{is_filled}
use Rattle.leaf_tie.specs.Counts.{idle_group, IdleIn, credit_group, CreditIn}
use Rattle.gen_kit.proofs.Sets.{mask-same, mask-and, mask-or, mask-not}
use Rattle.leaf_tie.proofs.Sent.{left}

-- ---- idle

false-by : (b : Bool) → (b ≡ true → ⊥) → b ≡ false
false-by true never = absurd (never refl)
false-by false never = refl

and-left : (a b : Bool) → a ≡ false → (a && b) ≡ false
and-left a b e = rw e refl

idle-not-active : (o w : ℕ) → Idle ≡ Active o w → ⊥
idle-not-active o w e = let bad : true ≡ false = ap is_idle e in absurd (cc bad)

routed-not-active : (to o w : ℕ) → Routed to ≡ Active o w → ⊥
routed-not-active to o w e = absurd (cc e)

idle-next : (p : Plan) (d n : ℕ) (t : ℤ) (s : Tile) (i : TileIn) (port c : ℕ) (st : Stage) → s.stage port c ≡ st
    → ((is_idle st && not (is_filled (s.queue port c))) || (leaves p d n t s i port c && is_tail (front (s.queue port c)))) ≡ is_idle (next_stage p d n t s i port c st)
idle-next p d n t s i port c Idle is =
    let stays : leaves p d n t s i port c ≡ false = false-by (leaves p d n t s i port c) (λ yes. (let by = left p d n t s i port c yes in idle-not-active by.by.out by.by.to (sym is ∙ by.active))) in
    rw stays (go (s.queue port c))
  where
    go : (q : List Flit) → ((true && not (is_filled q)) || false) ≡ is_idle (routed p n q Idle)
    go [] = refl
    go (f ∷ fs) = refl
idle-next p d n t s i port c (Routed to) is =
    let stays : leaves p d n t s i port c ≡ false = false-by (leaves p d n t s i port c) (λ yes. (let by = left p d n t s i port c yes in routed-not-active to by.by.out by.by.to (sym is ∙ by.active))) in
    rw stays (go (is_place (winner p d n s to) (port * link_channels p d + c)) (taken_channel p d n s to))
  where
    go : (b : Bool) (x : Option ℕ) → false ≡ is_idle (activated b to x)
    go false x = refl
    go true None = refl
    go true (Some k) = refl
idle-next p d n t s i port c (Active to w) is = go (leaves p d n t s i port c && is_tail (front (s.queue port c)))
  where
    go : (b : Bool) → ((false && not (is_filled (s.queue port c))) || b) ≡ is_idle (if b then Idle else Active to w)
    go true = refl
    go false = refl

next-idle : (p : Plan) (d n : ℕ) (t : ℤ) (s : Tile) (i : TileIn) (place : ℕ)
    → ((is_idle (stage_at p d s place) && not (is_filled (queue_at p d s place))) || ends_at p d n t s i place) ≡ is_idle (stage_at p d (tile_step p d n t s i) place)
unfolding tile_step
next-idle p d n t s i place = idle-next p d n t s i (place / link_channels p d) (place % link_channels p d) (stage_at p d s place) refl

pub idle-kept : (p : Plan) (d n : ℕ) (idle filled ends : Name) (h : ℕ) → GroupKeeps (idle_group idle filled ends h) (λ w v u. (t : ℤ) (s : Tile) (i : TileIn) → IdleIn p d n idle filled ends h w v t s i
    → u.net idle ≡ mask (h + 1) (λ place. is_idle (stage_at p d (tile_step p d n t s i) place)))
idle-kept p d n idle filled ends h w v u held later e t s i from =
    e.moves.0 ∙ rw (from.flits_width, from.idles, from.flits, from.last_flits, mask-not (h + 1) (λ place. is_filled (queue_at p d s place)), mask-and (h + 1) (λ place. is_idle (stage_at p d s place)) (λ place. not (is_filled (queue_at p d s place))))
    (mask-or (h + 1) _ _ ∙ mask-same (h + 1) _ _ (λ place below. next-idle p d n t s i place))

-- ---- credits

-- a flit goes out by a link only where there is a credit
has-credit : (p : Plan) (d n : ℕ) (t : ℤ) (s : Tile) (i : TileIn) (o x : ℕ) → o ≢ 0 → takes p d n t s i o x ≡ true → 0 < s.credits o x
unfolding takes
has-credit p d n t s i zero x link e = absurd (link refl)
has-credit p d n t s i (suc o) x link e = go (owner p n (suc o) t == d) e
  where
    go : (b : Bool) → (b && nat_lt 0 (s.credits (suc o) x)) ≡ true → 0 < s.credits (suc o) x
    go true f = grind (arith, nat_tests, f)
    go false f = absurd (cc f)

counted : (m c buffer : ℕ) (r g : Bool) → c ≤ buffer → buffer < m → (r ≡ true → c < buffer) → (g ≡ true → 0 < c)
    → chosen (one_if r) (chosen (one_if g) c ((c + 1) % m)) (chosen (one_if g) ((c + (m - 1)) % m) c) ≡ c + number_of r - number_of g
counted m c buffer true true le fits room some = omega arith
counted m c buffer true false le fits room some = mod-eq_of_lt (omega (arith, room refl)) ∙ omega arith
counted m c buffer false true le fits room some =
    let more : 0 < c = some refl in
    let e : c + (m - 1) ≡ (c - 1) + m = omega arith in
    ap (λ z. z % m) e ∙ add-mod_right (c - 1) m ∙ mod-eq_of_lt (omega arith) ∙ omega arith
counted m c buffer false false le fits room some = omega arith

next-credits : (p : Plan) (d n : ℕ) (t : ℤ) (s : Tile) (i : TileIn) (o x : ℕ) → s.credits o x + number_of (i.returns o x) - number_of (is_on (sent p d n t s i o) x) ≡ (tile_step p d n t s i).credits o x
unfolding tile_step
next-credits p d n t s i o x = refl

pub credit-kept : (p : Plan) (d n o x : ℕ) (count : Name) (pulse on : Expr) (h : ℕ) → o ≢ 0 → p.buffer < 2 ^ (h + 1) → GroupKeeps (credit_group count pulse on h p.buffer) (λ w v u. (t : ℤ) (s : Tile) (i : TileIn)
    → CreditIn p d n o x count pulse on w v t s i → u.net count ≡ (tile_step p d n t s i).credits o x)
credit-kept p d n o x count pulse on h link fits w v u held later e t s i from =
    e.moves.0 ∙ rw (held.heads.0.0, from.pulses, from.goes, from.stands)
    (counted (2 ^ (h + 1)) (s.credits o x) p.buffer (i.returns o x) (is_on (sent p d n t s i o) x) from.within fits from.room (λ yes. has-credit p d n t s i o x link (sent-taken p d n t s i o x yes)))
    ∙ next-credits p d n t s i o x
