-- The nets of the switch show the grants.
use Rattle.std.proofs.Common.{◌≡◌, ◌≢◌, ℕ, ◌+◌, ◌≤◌, Bool, true, false, List, [], ◌∷◌, Option, refl, sym, ◌∙◌, ap, arith, subst, ◌==◌, ◌&&◌, ℤ}
use Rattle.std.specs.Prelude.{Some, None, nat_le, if◌then◌else◌, option_and_then}
use Rattle.std.specs.Option.{option_or}
use Rattle.std.proofs.lemmas.Bool.Decides.{nat_tests}
use Rattle.vl_tree.specs.Values.{Name, Expr, net, choose}
use Rattle.gen_kit.specs.Families.{in_bits}
use Rattle.vl_model.specs.Meaning.{Widths, Values, value_of, one_if, chosen}
use Rattle.noc_model.specs.declared.Flit.{Flit}
use Rattle.noc_model.specs.declared.Grant.{Grant}
use Rattle.noc_model.specs.declared.Stage.{Stage}
use Rattle.noc_model.specs.declared.Stage.TheVariants.{Idle, Routed, Active}
use Rattle.noc_model.specs.Plan.{Plan, in_channels, ports}
use Rattle.noc_model.specs.Pick.{pick, least, number_if}
use Rattle.noc_model.specs.Tile.{Tile, TileIn}
use Rattle.noc_model.specs.Step.{takes, is_ready_at, is_ready, grant_at, asked, asks_for, chosen as switched, granted_to, grant, is_channel, leaves, is_place}
use Rattle.noc_model.proofs.Least.{pick-member}
use Rattle.gen_kit.specs.Masks.{mask}
use Rattle.leaf_tie.specs.Places.{stage_at, queue_at, is_active}
use Rattle.gen_kit.specs.Families.{any_upto}
use Rattle.leaf_tie.specs.Buffers.{is_filled}
use Rattle.leaf_tie.specs.Switch.{goes_by, ready_for, ready_expr, ReadyIn}
use Rattle.gen_kit.proofs.Sets.{mask-same, mask-and, mask-none}
use Rattle.gen_kit.proofs.Families.{or-shown, any-none, any-lone}

-- all of a set, where the bit is 1
pub gated : (n : ℕ) (b : Bool) (set : ℕ → Bool) → chosen (one_if b) (mask n set) 0 ≡ mask n (λ i. b && set i)
gated n true set = refl
gated n false set = sym (mask-none n (λ i. false && set i) (λ i below. refl))

pub and-none : (x : Bool) → (x && false) ≡ false
and-none true = refl
and-none false = refl

turned : (x y : Bool) → (x && (y && true)) ≡ (x && y)
turned true true = refl
turned true false = refl
turned false y = refl

-- what makes one place ready
ready-place : (p : Plan) (d n : ℕ) (t : ℤ) (s : Tile) (i : TileIn) (o last : ℕ) (q : List Flit) (st : Stage) → ((k : ℕ) → is_active st o k ≡ true → k ≤ last)
    → (is_filled q && any_upto last (λ k. takes p d n t s i o k && is_active st o k)) ≡ (goes_by st o && is_ready_at p d n t s i q st)
ready-place p d n t s i o last q Idle few = rw (any-none last (λ k. takes p d n t s i o k && false) (λ k le. and-none (takes p d n t s i o k))) (and-none (is_filled q))
ready-place p d n t s i o last q (Routed to) few = rw (any-none last (λ k. takes p d n t s i o k && false) (λ k le. and-none (takes p d n t s i o k))) (and-none (is_filled q))
ready-place p d n t s i o last q (Active to w) few = go (to == o) refl
  where
    one : (b : Bool) → (to == o) ≡ b → (is_filled q && takes p d n t s i o w) ≡ (is_filled q && takes p d n t s i to w) → (is_filled q && takes p d n t s i o w) ≡ (is_filled q && takes p d n t s i to w)
    one b e f = f

    shown : (q : List Flit) → (is_filled q && takes p d n t s i to w) ≡ is_ready_at p d n t s i q (Active to w)
    shown [] = refl
    shown (f ∷ fs) = refl

    go : (b : Bool) → (to == o) ≡ b → (is_filled q && any_upto last (λ k. takes p d n t s i o k && (b && (w == k)))) ≡ (b && is_ready_at p d n t s i q (Active to w))
    go false e = rw (any-none last (λ k. takes p d n t s i o k && false) (λ k le. and-none (takes p d n t s i o k))) (and-none (is_filled q))
    go true e =
        let same : to ≡ o = grind (arith, nat_tests) in
        let self : (w == w) ≡ true = grind (arith, nat_tests) in
        let le : w ≤ last = few w (rw (e, self) refl) in
        ap (λ b. is_filled q && b) (any-lone last w (λ k. takes p d n t s i o k && (w == k)) le (λ k other. (let no : (w == k) ≡ false = grind (arith, nat_tests) in rw no (and-none (takes p d n t s i o k)))))
        ∙ ap (λ b. is_filled q && (takes p d n t s i o w && b)) self ∙ turned (is_filled q) (takes p d n t s i o w)
        ∙ ap (λ k. is_filled q && takes p d n t s i k w) (sym same) ∙ shown q

pub ready-shown : (p : Plan) (d n o : ℕ) (filled : Name) (active : ℕ → Name) (able : ℕ → Expr) (high last : ℕ) (w : Widths) (v : Values) (t : ℤ) (s : Tile) (i : TileIn)
    → ReadyIn p d n o filled active able high last w v t s i → value_of w v (ready_expr filled active able high last) ≡ mask (high + 1) (ready_for p d n t s i o)
ready-shown p d n o filled active able high last w v t s i from =
    rw (
      from.flits,
      or-shown w v (high + 1) (λ k. choose (able k) (net (active k)) (in_bits (high + 1) 0)) (λ k place. takes p d n t s i o k && is_active (stage_at p d s place) o k) last
          (λ k le. rw (from.ables k le, from.channels k le) (gated (high + 1) (takes p d n t s i o k) (λ place. is_active (stage_at p d s place) o k))),
    )
    (mask-and (high + 1) (λ place. is_filled (queue_at p d s place)) (λ place. any_upto last (λ k. takes p d n t s i o k && is_active (stage_at p d s place) o k))
    ∙ mask-same (high + 1) _ (ready_for p d n t s i o) (λ place below. ready-place p d n t s i o last (queue_at p d s place) (stage_at p d s place) (λ k e. from.few place k e)))

-- ---- what is granted, in terms of the two choices

-- the channel that a port picks
unfoldable pub picked : Plan → ℕ → ℕ → ℤ → Tile → TileIn → ℕ → Option ℕ
picked p d n t s i port = pick (in_channels p d port) (is_ready p d n t s i port) (s.turn port)

pub ready-goes : (p : Plan) (d n : ℕ) (t : ℤ) (s : Tile) (i : TileIn) (c : ℕ) (q : List Flit) (st : Stage) → is_ready_at p d n t s i q st ≡ true → (o : ℕ) × (w : ℕ) × (st ≡ Active o w)
ready-goes p d n t s i c q Idle e = absurd (cc e)
ready-goes p d n t s i c q (Routed o) e = absurd (cc e)
ready-goes p d n t s i c q (Active o w) e = (o, w, refl)

-- an output picks a port only where the port asks for it
pub picks-asking : (p : Plan) (d n : ℕ) (t : ℤ) (s : Tile) (i : TileIn) (o port : ℕ) → is_place (switched p d n t s i o) port ≡ true → asks_for (asked p d n t s i port) o ≡ true
unfolding switched
picks-asking p d n t s i o port e = go (pick (ports p) (λ m. asks_for (asked p d n t s i m) o) (s.switch o)) refl e
  where
    go : (x : Option ℕ) → pick (ports p) (λ m. asks_for (asked p d n t s i m) o) (s.switch o) ≡ x → is_place x port ≡ true → asks_for (asked p d n t s i port) o ≡ true
    go None is e = absurd (cc e)
    go (Some m) is e =
        let same : m ≡ port = grind (arith, nat_tests, e) in
        (pick-member (ports p) (λ m. asks_for (asked p d n t s i m) o) (s.switch o) port (is ∙ ap Some same)).1

pub asked-picked : (p : Plan) (d n : ℕ) (t : ℤ) (s : Tile) (i : TileIn) (port : ℕ) → asked p d n t s i port ≡ option_and_then (λ k. grant_at k (s.stage port k)) (picked p d n t s i port)
unfolding asked picked
asked-picked p d n t s i port = refl

grant-asked : (p : Plan) (d n : ℕ) (t : ℤ) (s : Tile) (i : TileIn) (port : ℕ) → grant p d n t s i port ≡ option_and_then (λ g. granted_to (switched p d n t s i g.out) port g) (asked p d n t s i port)
unfolding grant
grant-asked p d n t s i port = refl

pub picked-ready : (p : Plan) (d n : ℕ) (t : ℤ) (s : Tile) (i : TileIn) (port k : ℕ) → picked p d n t s i port ≡ Some k → is_ready p d n t s i port k ≡ true
unfolding picked
picked-ready p d n t s i port k e = (pick-member (in_channels p d port) (is_ready p d n t s i port) (s.turn port) k e).1

-- a port with one channel that picks nothing has nothing ready
pub picks-none : (p : Plan) (d n : ℕ) (t : ℤ) (s : Tile) (i : TileIn) (port : ℕ) → in_channels p d port ≡ 1 → picked p d n t s i port ≡ None → is_ready p d n t s i port 0 ≡ false
unfolding picked pick
picks-none p d n t s i port one e = go (is_ready p d n t s i port 0) refl (subst (λ k. pick k (is_ready p d n t s i port) (s.turn port) ≡ None) one e)
  where
    some : (x : Option ℕ) → option_or x (Some 0) ≡ None → ⊥
    some None h = cc h
    some (Some k) h = cc h

    go : (b : Bool) → is_ready p d n t s i port 0 ≡ b → pick 1 (is_ready p d n t s i port) (s.turn port) ≡ None → b ≡ false
    go false f h = refl
    go true f h = absurd (some (least 1 (λ k. nat_le (s.turn port) k && is_ready p d n t s i port k)) (sym (ap (λ b. option_or (least 1 (λ k. nat_le (s.turn port) k && is_ready p d n t s i port k)) (option_or None (number_if b 0))) f) ∙ h))

false-by : (b : Bool) → (b ≡ true → ⊥) → b ≡ false
false-by true never = absurd (never refl)
false-by false never = refl

-- a flit leaves a place where its port picked it and its output picked the port
pub leaves-is : (p : Plan) (d n : ℕ) (t : ℤ) (s : Tile) (i : TileIn) (port c last : ℕ) → ((k o w : ℕ) → s.stage port k ≡ Active o w → o ≤ last)
    → (any_upto last (λ o. is_place (switched p d n t s i o) port) && is_place (picked p d n t s i port) c) ≡ leaves p d n t s i port c
unfolding leaves
leaves-is p d n t s i port c last few = go (picked p d n t s i port) refl ∙ sym (ap (λ g. is_channel g c) (grant-asked p d n t s i port))
  where
    settle : (x : Option ℕ) (k o w : ℕ) → (is_place x port && (k == c)) ≡ is_channel (granted_to x port (record { channel = k; out = o; to = w })) c
    settle None k o w = refl
    settle (Some m) k o w = split (m == port)
      where
        split : (b : Bool) → (b && (k == c)) ≡ is_channel (if b then Some (record { channel = k; out = o; to = w }) else None) c
        split true = refl
        split false = refl

    go : (x : Option ℕ) → picked p d n t s i port ≡ x
        → (any_upto last (λ o. is_place (switched p d n t s i o) port) && is_place x c)
        ≡ is_channel (option_and_then (λ g. granted_to (switched p d n t s i g.out) port g) (asked p d n t s i port)) c
    go None is =
        let none : asked p d n t s i port ≡ None = asked-picked p d n t s i port ∙ ap (λ x. option_and_then (λ k. grant_at k (s.stage port k)) x) is in
        rw none (and-none (any_upto last (λ o. is_place (switched p d n t s i o) port)))
    go (Some k) is =
        let at = ready-goes p d n t s i k (s.queue port k) (s.stage port k) (picked-ready p d n t s i port k is) in
        let o : ℕ = at.0 in
        let w : ℕ = at.1 in
        let asks : asked p d n t s i port ≡ Some (record { channel = k; out = o; to = w }) =
        asked-picked p d n t s i port ∙ ap (λ x. option_and_then (λ m. grant_at m (s.stage port m)) x) is ∙ ap (λ st. grant_at k st) at.2 in
        let alone : (m : ℕ) → m ≢ o → is_place (switched p d n t s i m) port ≡ false = λ m other. false-by (is_place (switched p d n t s i m) port) (λ yes.
        (let to_m : asks_for (asked p d n t s i port) m ≡ true = picks-asking p d n t s i m port yes in
        let eq : (o == m) ≡ true = ap (λ g. asks_for g m) (sym asks) ∙ to_m in
        other (grind (arith, nat_tests, eq)))) in
        ap (λ b. b && (k == c)) (any-lone last o (λ m. is_place (switched p d n t s i m) port) (few k o w at.2) alone)
        ∙ settle (switched p d n t s i o) k o w
        ∙ ap (λ g. is_channel (option_and_then (λ (h : Grant). granted_to (switched p d n t s i h.out) port h) g) c) (sym asks)
