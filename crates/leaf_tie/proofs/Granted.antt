-- The nets of a domain's switch show what is granted.
use Rattle.std.proofs.Common.{◌≡◌, ℕ, zero, suc, ◌+◌, ◌-◌, ◌*◌, ◌/◌, ◌%◌, ◌<◌, ◌≤◌, ◌^◌, ◌⊎◌, inl, inr, Bool, true, false, List, Option, refl, sym, ◌∙◌, ap, arith, ◌==◌, ◌&&◌, ℤ}
use Rattle.std.specs.Prelude.{Some, None, nat_le, option_and_then, option_map}
use Rattle.std.specs.Option.{option_or}
use Rattle.std.proofs.lemmas.Nat.{mul-le}
use Rattle.std.proofs.lemmas.Bool.Decides.{nat_tests}
use Rattle.vl_tree.specs.Values.{Name, net, bit, not, cat, Item}
use Rattle.vl_model.specs.Meaning.{Widths, Values, value_of, one_if}
use Rattle.vl_model.specs.Leaf.{Stepped}
use Rattle.vl_model.specs.Parts.{Holds, AllHold}
use Rattle.gen_kit.proofs.Parts.{held-front, held-back}
use Rattle.noc_model.specs.declared.Stage.TheVariants.{Active}
use Rattle.noc_model.specs.Plan.{Plan, link_channels, in_channels, ports}
use Rattle.noc_model.specs.Pick.{least, pick, number_if}
use Rattle.noc_model.specs.Tile.{Tile, TileIn}
use Rattle.noc_model.specs.Step.{is_ready, grant_at, asked, asks_for, chosen as switched, leaves, is_place, is_channel, grant, after, after_grant, tile_step}
use Rattle.noc_model.specs.declared.Grant.{Grant}
use Rattle.noc_model.proofs.Switch.{grant-ready}
use Rattle.noc_model.proofs.Least.{pick-member}
use Rattle.gen_kit.specs.Masks.{mask}
use Rattle.gen_kit.specs.Groups.{HoldsIn, GroupGives, GroupKeeps}
use Rattle.gen_kit.specs.Rotate.{rotate_group, pointer_moves, is_empty, PointsTo}
use Rattle.leaf_tie.specs.Places.{stage_at, queue_at, leaves_at}
use Rattle.gen_kit.specs.Families.{for_each, any_upto, or_upto}
use Rattle.leaf_tie.specs.Switch.{goes_by, ready_for, SwitchNames, SwitchSize, place_count, port_part, port_nets, output_nets, grant_nets, switch_group, SwitchIn}
use Rattle.gen_kit.specs.Families.{row_parts}
use Rattle.gen_kit.proofs.Sets.{mask-same, mask-and, mask-none, mask-some, mask-bit, mask-part}
use Rattle.gen_kit.proofs.Rotated.{rotate-shown, pointer-moved}
use Rattle.gen_kit.proofs.Families.{each-held, or-shown, or-bits, any-none, any-lone, rows-shown}
use Rattle.leaf_tie.proofs.Placed.{row-of, channel-of}
use Rattle.leaf_tie.proofs.Switched.{picked, ready-goes, picked-ready, asked-picked, leaves-is, gated, and-none}

-- ---- a wider choice among no more

least-wider : (n m : ℕ) (set : ℕ → Bool) → n ≤ m → ((k : ℕ) → n ≤ k → set k ≡ false) → least m set ≡ least n set
least-wider n zero set le none = let e : zero ≡ n = omega arith in ap (λ k. least k set) e
least-wider n (suc m) set le none = go (λ h. least-wider n m set h none) order
  where
    order : (n ≤ m) ⊎ (suc m ≡ n)
    order = grind arith

    alone : (o : Option ℕ) → option_or o None ≡ o
    alone None = refl
    alone (Some k) = refl

    go : (n ≤ m → least m set ≡ least n set) → (n ≤ m) ⊎ (suc m ≡ n) → option_or (least m set) (number_if (set m) m) ≡ least n set
    go before (inl h) = rw (none m h) (alone (least m set) ∙ before h)
    go before (inr e) = ap (λ k. least k set) e

pick-wider : (n m : ℕ) (set : ℕ → Bool) (pointer : ℕ) → n ≤ m → ((k : ℕ) → n ≤ k → set k ≡ false) → pick m set pointer ≡ pick n set pointer
unfolding pick
pick-wider n m set pointer le none =
    rw (least-wider n m set le none, least-wider n m (λ k. nat_le pointer k && set k) le (λ k h. rw (none k h) (and-none (nat_le pointer k)))) refl

-- ---- places

-- a set of pairs, at a place
at-place : (v : ℕ) (f : ℕ → ℕ → Bool) (port c : ℕ) → c < v → f ((port * v + c) / v) ((port * v + c) % v) ≡ f port c
at-place v f port c below = rw (row-of v port c below, channel-of v port c below) refl

part-within : (z : SwitchSize) (port : ℕ) → port ≤ z.last → port * (z.channel + 1) + (z.channel + 1) ≤ place_count z
part-within z port le =
    let more : (port + 1) * (z.channel + 1) ≤ (z.last + 1) * (z.channel + 1) = mul-le (port + 1) (z.channel + 1) (z.last + 1) (z.channel + 1) (omega arith) (omega arith) in
    let parts : (port + 1) * (z.channel + 1) ≡ port * (z.channel + 1) + (z.channel + 1) = grind arith in
    omega arith

-- a port's part of a vector of pairs
pub port-shown : (z : SwitchSize) (w : Widths) (v : Values) (n : Name) (f : ℕ → ℕ → Bool) (port : ℕ) → port ≤ z.last → v.net n ≡ mask (place_count z) (λ place. f (place / (z.channel + 1)) (place % (z.channel + 1)))
    → value_of w v (port_part z n port) ≡ mask (z.channel + 1) (f port)
port-shown z w v n f port le e =
    let width : port * (z.channel + 1) + z.channel - port * (z.channel + 1) + 1 ≡ z.channel + 1 = omega arith in
    rw (width, e) (mask-part (z.channel + 1) (port * (z.channel + 1)) (place_count z) (λ place. f (place / (z.channel + 1)) (place % (z.channel + 1))) (part-within z port le)
    ∙ mask-same (z.channel + 1) _ (f port) (λ c below. at-place (z.channel + 1) f port c below))

-- ---- the nets

-- the lists of nets, one after another
record SwitchNets (a : SwitchNames) (z : SwitchSize) (w : Widths) (v : Values) : Type 0 where
  all : v.net a.all ≡ value_of w v (or_upto z.last (λ o. net (a.ready o)))
  by_port : (port : ℕ) → port ≤ z.last → AllHold w v (port_nets a z port)
  picks : v.net a.picked ≡ value_of w v (cat (row_parts (λ port. net (a.turn port).winner) z.last))
  by_output : (o : ℕ) → o ≤ z.last → AllHold w v (output_nets a z o)
  grants : (port : ℕ) → port ≤ z.last → AllHold w v (grant_nets a z port)
  leave : v.net a.leaves ≡ value_of w v (cat (row_parts (λ port. net (a.granted port)) z.last))

switch-nets : (a : SwitchNames) (z : SwitchSize) → GroupGives (switch_group a z) (SwitchNets a z)
switch-nets a z w v h =
    let ports_items : List Item = for_each (z.last + 1) (port_nets a z) in
    let outputs_items : List Item = for_each (z.last + 1) (output_nets a z) in
    let grants_items : List Item = for_each (z.last + 1) (grant_nets a z) in
    let first = held-front (Holds w v) ports_items _ h.nets.1.1 in
    let second = held-back (Holds w v) ports_items _ h.nets.1.1 in
    let third = held-front (Holds w v) outputs_items _ second.1.1 in
    let fourth = held-back (Holds w v) outputs_items _ second.1.1 in
    let fifth = held-front (Holds w v) grants_items _ fourth in
    let sixth = held-back (Holds w v) grants_items _ fourth in
    record {
      all = h.nets.1.0;
      by_port = λ port le. each-held (Holds w v) (z.last + 1) (port_nets a z) first port (omega arith);
      picks = second.1.0;
      by_output = λ o le. each-held (Holds w v) (z.last + 1) (output_nets a z) third o (omega arith);
      grants = λ port le. each-held (Holds w v) (z.last + 1) (grant_nets a z) fifth port (omega arith);
      leave = sixth.1.0;
    }

-- the pointers' registers
turn-head : (a : SwitchNames) (z : SwitchSize) (w : Widths) (v : Values) → HoldsIn (switch_group a z) w v → (port : ℕ) → port ≤ z.last → AllHold w v (rotate_group (a.turn port) z.channel).heads
turn-head a z w v h port le = each-held (Holds w v) (z.last + 1) (λ k. (rotate_group (a.turn k) z.channel).heads) (held-back (Holds w v) (for_each (z.last + 1) (λ k. (rotate_group (a.choice k) z.last).heads)) _ h.heads) port (omega arith)

choice-head : (a : SwitchNames) (z : SwitchSize) (w : Widths) (v : Values) → HoldsIn (switch_group a z) w v → (o : ℕ) → o ≤ z.last → AllHold w v (rotate_group (a.choice o) z.last).heads
choice-head a z w v h o le = each-held (Holds w v) (z.last + 1) (λ k. (rotate_group (a.choice k) z.last).heads) (held-front (Holds w v) (for_each (z.last + 1) (λ k. (rotate_group (a.choice k) z.last).heads)) _ h.heads) o (omega arith)

-- all that is ready goes by some output
any-ready : (p : Plan) (d n : ℕ) (t : ℤ) (s : Tile) (i : TileIn) (last place : ℕ) → ((o w : ℕ) → stage_at p d s place ≡ Active o w → o ≤ last)
    → any_upto last (λ o. ready_for p d n t s i o place) ≡ is_ready p d n t s i (place / link_channels p d) (place % link_channels p d)
any-ready p d n t s i last place few = go (is_ready p d n t s i (place / link_channels p d) (place % link_channels p d)) refl
  where
    go : (b : Bool) → is_ready p d n t s i (place / link_channels p d) (place % link_channels p d) ≡ b → any_upto last (λ o. goes_by (stage_at p d s place) o && b) ≡ b
    go false e = any-none last (λ o. goes_by (stage_at p d s place) o && false) (λ k le. and-none (goes_by (stage_at p d s place) k))
    go true e =
        let at = ready-goes p d n t s i 0 (queue_at p d s place) (stage_at p d s place) e in
        let o : ℕ = at.0 in
        let self : (o == o) ≡ true = grind (arith, nat_tests) in
        ap (λ st. any_upto last (λ m. goes_by st m && true)) at.2
        ∙ any-lone last o (λ m. (o == m) && true) (few o at.1 at.2) (λ k other. (let differ : (o == k) ≡ false = grind (arith, nat_tests) in rw differ refl))
        ∙ rw self refl

pub picked-below : (p : Plan) (d n : ℕ) (t : ℤ) (s : Tile) (i : TileIn) (port k : ℕ) → picked p d n t s i port ≡ Some k → k < in_channels p d port
unfolding picked
picked-below p d n t s i port k e = (pick-member (in_channels p d port) (is_ready p d n t s i port) (s.turn port) k e).0

module _ (p : Plan) (d n : ℕ) (a : SwitchNames) (z : SwitchSize) (w : Widths) (v : Values) (t : ℤ) (s : Tile) (i : TileIn) (h : HoldsIn (switch_group a z) w v) (from : SwitchIn p d n a z v t s i) where
  pub all-shown : v.net a.all ≡ mask (place_count z) (λ place. is_ready p d n t s i (place / (z.channel + 1)) (place % (z.channel + 1)))
  all-shown =
      (switch-nets a z w v h).all ∙ or-shown w v (place_count z) (λ o. net (a.ready o)) (ready_for p d n t s i) z.last from.readies
      ∙ mask-same (place_count z) _ _ (λ place below. any-ready p d n t s i z.last place (λ o x e. from.outputs (place / link_channels p d) (place % link_channels p d) o x e)
      ∙ ap (λ k. is_ready p d n t s i (place / k) (place % k)) (sym from.channel_count))

  -- a port's winner is what it picks
  pub turn-shown : (port : ℕ) → port ≤ z.last → v.net (a.turn port).winner ≡ mask (z.channel + 1) (is_place (picked p d n t s i port))
  unfolding picked
  turn-shown port le =
      let nets = (switch-nets a z w v h).by_port port le in
      let le' : in_channels p d port ≤ z.channel + 1 = rw from.channel_count (from.few port) in
      rotate-shown (a.turn port) z.channel w v (record { heads = turn-head a z w v h port le; nets = nets.1.1 }) (is_ready p d n t s i port) (s.turn port)
      (record { request = nets.1.0 ∙ port-shown z w v a.all (is_ready p d n t s i) port le all-shown; pointer = from.turns port le })
      ∙ ap (λ x. mask (z.channel + 1) (is_place x)) (pick-wider (in_channels p d port) (z.channel + 1) (is_ready p d n t s i port) (s.turn port) le' (from.beyond port))

  pub picked-shown : v.net a.picked ≡ mask (place_count z) (λ place. is_place (picked p d n t s i (place / (z.channel + 1))) (place % (z.channel + 1)))
  picked-shown =
      (switch-nets a z w v h).picks
      ∙ rows-shown (z.channel + 1) w v (λ port. net (a.turn port).winner) (λ place. is_place (picked p d n t s i (place / (z.channel + 1))) (place % (z.channel + 1))) z.last
      (λ port le. ((switch-nets a z w v h).by_port port le).1.1.1.1.0.0)
      (λ port le. turn-shown port le ∙ mask-same (z.channel + 1) _ _ (λ c below. sym (at-place (z.channel + 1) (λ q x. is_place (picked p d n t s i q) x) port c below)))

  -- the places that are picked and go by the output
  goes : ℕ → ℕ → ℕ → Bool
  goes o port c = is_place (picked p d n t s i port) c && (goes_by (s.stage port c) o && is_ready p d n t s i port c)

  asks-shown : (o : ℕ) → o ≤ z.last → v.net (a.asks o) ≡ mask (place_count z) (λ place. goes o (place / (z.channel + 1)) (place % (z.channel + 1)))
  unfolding goes
  asks-shown o le =
      ((switch-nets a z w v h).by_output o le).1.0
      ∙ rw (picked-shown, from.readies o le) (mask-and (place_count z) (λ place. is_place (picked p d n t s i (place / (z.channel + 1))) (place % (z.channel + 1))) (ready_for p d n t s i o))
      ∙ mask-same (place_count z) _ _ (λ place below. ap (λ k. is_place (picked p d n t s i (place / (z.channel + 1))) (place % (z.channel + 1)) && (goes_by (s.stage (place / k) (place % k)) o && is_ready p d n t s i (place / k) (place % k))) (sym from.channel_count))

  -- whether a port's part has a place is whether the port asks for the output
  asks-part : (o port : ℕ) → 2 ^ 1 - 1 - one_if (mask (z.channel + 1) (goes o port) == 0) ≡ one_if (asks_for (asked p d n t s i port) o)
  unfolding goes
  asks-part o port = go (picked p d n t s i port) refl
    where
      set : Option ℕ → ℕ → Bool
      set x c = is_place x c && (goes_by (s.stage port c) o && is_ready p d n t s i port c)

      empty-part : (m : ℕ) → m ≡ 0 → 2 ^ 1 - 1 - one_if (m == 0) ≡ 0
      empty-part m e = rw e refl

      some-part : (m : ℕ) → 0 < m → 2 ^ 1 - 1 - one_if (m == 0) ≡ 1
      some-part m e = let differ : (m == 0) ≡ false = grind (arith, nat_tests) in rw differ refl

      go : (x : Option ℕ) → picked p d n t s i port ≡ x → 2 ^ 1 - 1 - one_if (mask (z.channel + 1) (λ c. is_place x c && (goes_by (s.stage port c) o && is_ready p d n t s i port c)) == 0) ≡ one_if (asks_for (asked p d n t s i port) o)
      go None is =
          let none : asked p d n t s i port ≡ None = asked-picked p d n t s i port ∙ ap (λ x. option_and_then (λ k. grant_at k (s.stage port k)) x) is in
          rw none (empty-part _ (mask-none (z.channel + 1) (λ c. false && (goes_by (s.stage port c) o && is_ready p d n t s i port c)) (λ c b. refl)))
      go (Some k) is =
          let ready = picked-ready p d n t s i port k is in
          let at = ready-goes p d n t s i k (s.queue port k) (s.stage port k) ready in
          let asks : asked p d n t s i port ≡ Some (record { channel = k; out = at.0; to = at.1 }) =
          asked-picked p d n t s i port ∙ ap (λ x. option_and_then (λ m. grant_at m (s.stage port m)) x) is ∙ ap (λ st. grant_at k st) at.2 in
          rw asks (split (at.0 == o) refl at.2 ready)
        where
          other : (c : ℕ) (b : Bool) → (k == c) ≡ b → goes_by (s.stage port k) o ≡ false → (b && (goes_by (s.stage port c) o && is_ready p d n t s i port c)) ≡ false
          other c false f g = refl
          other c true f g =
              let same : k ≡ c = grind (arith, nat_tests) in
              ap (λ m. goes_by (s.stage port m) o && is_ready p d n t s i port c) (sym same) ∙ rw g refl

          split : (b : Bool) {to x : ℕ} → (to == o) ≡ b → s.stage port k ≡ Active to x → is_ready p d n t s i port k ≡ true
              → 2 ^ 1 - 1 - one_if (mask (z.channel + 1) (λ c. (k == c) && (goes_by (s.stage port c) o && is_ready p d n t s i port c)) == 0) ≡ one_if (to == o)
          split true e st ready =
              let self : (k == k) ≡ true = grind (arith, nat_tests) in
              let by : goes_by (s.stage port k) o ≡ true = ap (λ y. goes_by y o) st ∙ e in
              let member : ((k == k) && (goes_by (s.stage port k) o && is_ready p d n t s i port k)) ≡ true = rw (self, by, ready) refl in
              rw e (some-part _ (mask-some (z.channel + 1) k (λ c. (k == c) && (goes_by (s.stage port c) o && is_ready p d n t s i port c)) (omega (arith, picked-below p d n t s i port k is, from.few port, from.channel_count)) member))
          split false e st ready =
              rw e (empty-part _ (mask-none (z.channel + 1) (λ c. (k == c) && (goes_by (s.stage port c) o && is_ready p d n t s i port c)) (λ c b. other c (k == c) refl (ap (λ y. goes_by y o) st ∙ e))))

  pub choice-shown : (o : ℕ) → o ≤ z.last → (v.net (a.choice o).winner ≡ mask (z.last + 1) (is_place (switched p d n t s i o)))
  unfolding switched
  choice-shown o le =
      let nets = (switch-nets a z w v h).by_output o le in
      let request : v.net (a.choice o).request ≡ mask (z.last + 1) (λ port. asks_for (asked p d n t s i port) o) =
      nets.1.1.1.0
      ∙ rows-shown 1 w v (λ port. not (is_empty z.channel (port_part z (a.asks o) port))) (λ port. asks_for (asked p d n t s i port) o) z.last (λ port b. refl)
      (λ port b. ap (λ m. 2 ^ 1 - 1 - one_if (m == 0)) (port-shown z w v (a.asks o) (goes o) port b (asks-shown o le)) ∙ asks-part o port ∙ one-bit (λ m. asks_for (asked p d n t s i m) o) port)
      ∙ (let width : (z.last + 1) * 1 ≡ z.last + 1 = omega arith in ap (λ k. mask k (λ port. asks_for (asked p d n t s i port) o)) width) in
      rotate-shown (a.choice o) z.last w v (record { heads = choice-head a z w v h o le; nets = nets.1.1.1.1 }) (λ port. asks_for (asked p d n t s i port) o) (s.switch o) (record { request = request; pointer = from.choices o le })
      ∙ ap (λ k. mask (z.last + 1) (is_place (pick k (λ port. asks_for (asked p d n t s i port) o) (s.switch o)))) from.port_count
    where
      one-bit : (f : ℕ → Bool) (port : ℕ) → one_if (f port) ≡ mask 1 (λ j. f (port * 1 + j))
      one-bit f port = let e : port * 1 + 0 ≡ port = omega arith in rw e (omega arith)

  -- what leaves by a port
  pub granted-shown : (port : ℕ) → port ≤ z.last → v.net (a.granted port) ≡ mask (z.channel + 1) (leaves p d n t s i port)
  granted-shown port le =
      let bits : value_of w v (or_upto z.last (λ o. bit (a.choice o).winner port)) ≡ one_if (any_upto z.last (λ o. is_place (switched p d n t s i o) port)) =
      or-bits w v (λ o. bit (a.choice o).winner port) (λ o. is_place (switched p d n t s i o) port) z.last
      (λ o b. ap (λ m. m / 2 ^ port % 2) (choice-shown o b) ∙ mask-bit (z.last + 1) port (is_place (switched p d n t s i o)) (omega arith)) in
      ((switch-nets a z w v h).grants port le).1.0
      ∙ rw (bits, turn-shown port le) (gated (z.channel + 1) (any_upto z.last (λ o. is_place (switched p d n t s i o) port)) (is_place (picked p d n t s i port)))
      ∙ mask-same (z.channel + 1) _ _ (λ c below. leaves-is p d n t s i port c z.last (λ k o x e. from.outputs port k o x e))

  -- what leaves
  pub leaves-shown : v.net a.leaves ≡ mask (place_count z) (leaves_at p d n t s i)
  leaves-shown =
      (switch-nets a z w v h).leave
      ∙ rows-shown (z.channel + 1) w v (λ port. net (a.granted port)) (λ place. leaves p d n t s i (place / (z.channel + 1)) (place % (z.channel + 1))) z.last
      (λ port le. ((switch-nets a z w v h).grants port le).0.0)
      (λ port le. granted-shown port le ∙ mask-same (z.channel + 1) _ _ (λ c below. sym (at-place (z.channel + 1) (leaves p d n t s i) port c below)))
      ∙ mask-same (place_count z) _ _ (λ place below. ap (λ k. leaves p d n t s i (place / k) (place % k)) from.channel_count)

-- ---- one edge

channel-place : (g : Option Grant) (c : ℕ) → is_channel g c ≡ is_place (option_map (λ (h : Grant). h.channel) g) c
channel-place None c = refl
channel-place (Some g) c = refl

after-channel : (g : Option Grant) (k : ℕ) → after (option_map (λ (h : Grant). h.channel) g) k ≡ after_grant g k
after-channel None k = refl
after-channel (Some g) k = refl

pub leaves-grant : (p : Plan) (d n : ℕ) (t : ℤ) (s : Tile) (i : TileIn) (port c : ℕ) → leaves p d n t s i port c ≡ is_place (option_map (λ (h : Grant). h.channel) (grant p d n t s i port)) c
unfolding leaves
leaves-grant p d n t s i port c = channel-place (grant p d n t s i port) c

granted-below : (p : Plan) (d n : ℕ) (t : ℤ) (s : Tile) (i : TileIn) (port k : ℕ) → option_map (λ (h : Grant). h.channel) (grant p d n t s i port) ≡ Some k → k < in_channels p d port
granted-below p d n t s i port k e = go (grant p d n t s i port) refl e
  where
    go : (g : Option Grant) → grant p d n t s i port ≡ g → option_map (λ (h : Grant). h.channel) g ≡ Some k → k < in_channels p d port
    go None is f = absurd (cc f)
    go (Some g) is f =
        let ready = grant-ready p d n t s i port g is in
        let same : g.channel ≡ k = cc in
        omega (arith, ready.in_range, same)

pub switched-below : (p : Plan) (d n : ℕ) (t : ℤ) (s : Tile) (i : TileIn) (o k : ℕ) → switched p d n t s i o ≡ Some k → k < ports p
unfolding switched
switched-below p d n t s i o k e = (pick-member (ports p) (λ m. asks_for (asked p d n t s i m) o) (s.switch o) k e).0

next-turn : (p : Plan) (d n : ℕ) (t : ℤ) (s : Tile) (i : TileIn) (port : ℕ) → after_grant (grant p d n t s i port) (s.turn port) ≡ (tile_step p d n t s i).turn port
unfolding tile_step
next-turn p d n t s i port = refl

pub next-switch : (p : Plan) (d n : ℕ) (t : ℤ) (s : Tile) (i : TileIn) (o : ℕ) → after (switched p d n t s i o) (s.switch o) ≡ (tile_step p d n t s i).switch o
unfolding tile_step
next-switch p d n t s i o = refl

-- one edge keeps both kinds of pointers
pub turns-kept : (p : Plan) (d n : ℕ) (a : SwitchNames) (z : SwitchSize) → GroupKeeps (switch_group a z) (λ w v u. (t : ℤ) (s : Tile) (i : TileIn) → SwitchIn p d n a z v t s i
    → (port : ℕ) → port ≤ z.last → PointsTo (a.turn port) z.channel u ((tile_step p d n t s i).turn port))
turns-kept p d n a z w v u h k e t s i from port le =
    pointer-moved (a.turn port).pointer (a.granted port) z.channel w v u (option_map (λ (g : Grant). g.channel) (grant p d n t s i port)) (s.turn port)
    (each-held (Stepped w v u) (z.last + 1) (λ m. pointer_moves (a.turn m).pointer (a.granted m) z.channel) (held-back (Stepped w v u) (for_each (z.last + 1) (λ o. pointer_moves (a.choice o).pointer (a.choice o).winner z.last)) _ e.moves) port (omega arith))
    ((switch-nets a z w v h).grants port le).0.0
    (granted-shown p d n a z w v t s i h from port le ∙ mask-same (z.channel + 1) _ _ (λ c below. leaves-grant p d n t s i port c))
    (λ x is. omega (arith, granted-below p d n t s i port x is, from.few port, from.channel_count))
    (from.turns port le)
    ∙ ap (λ x. mask (z.channel + 1) (nat_le x)) (after-channel (grant p d n t s i port) (s.turn port) ∙ next-turn p d n t s i port)

pub choices-kept : (p : Plan) (d n : ℕ) (a : SwitchNames) (z : SwitchSize) → GroupKeeps (switch_group a z) (λ w v u. (t : ℤ) (s : Tile) (i : TileIn) → SwitchIn p d n a z v t s i
    → (o : ℕ) → o ≤ z.last → PointsTo (a.choice o) z.last u ((tile_step p d n t s i).switch o))
choices-kept p d n a z w v u h k e t s i from o le =
    pointer-moved (a.choice o).pointer (a.choice o).winner z.last w v u (switched p d n t s i o) (s.switch o)
    (each-held (Stepped w v u) (z.last + 1) (λ m. pointer_moves (a.choice m).pointer (a.choice m).winner z.last) (held-front (Stepped w v u) (for_each (z.last + 1) (λ m. pointer_moves (a.choice m).pointer (a.choice m).winner z.last)) _ e.moves) o (omega arith))
    ((switch-nets a z w v h).by_output o le).1.1.1.1.1.1.0.0
    (choice-shown p d n a z w v t s i h from o le)
    (λ x is. omega (arith, switched-below p d n t s i o x is, from.port_count))
    (from.choices o le)
    ∙ ap (λ x. mask (z.last + 1) (nat_le x)) (next-switch p d n t s i o)
