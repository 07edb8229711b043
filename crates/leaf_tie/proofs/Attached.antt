-- An attachment's nets show what enters, and an edge keeps its registers.
use Rattle.std.proofs.Common.{◌≡◌, ◌≢◌, ℕ, ◌+◌, ◌-◌, ◌*◌, ◌/◌, ◌%◌, ◌<◌, ◌≤◌, ◌^◌, ◌⊎◌, inl, inr, Bool, true, false, [], length, Option, refl, sym, ◌∙◌, ap, arith, subst, ◌==◌, ◌&&◌}
use Rattle.std.specs.Prelude.{Some, None, is_some, is_none, not as negated, nat_lt, if◌then◌else◌, option_to_list, bit_and, bit_or}
use Rattle.std.specs.List.{AllPairs}
use Rattle.std.specs.Int.Bits.{and_zero_l}
use Rattle.std.proofs.Math.Nat.{mod-eq_of_lt, mul-add-mod_self_right, div-one, mod_self, zero-div}
use Rattle.std.proofs.lemmas.Nat.{pow-add, div-mul-add}
use Rattle.std.proofs.lemmas.Bool.Decides.{nat_tests}
use Rattle.vl_tree.specs.declared.tree.Op.TheVariants.{And, Equal, Less}
use Rattle.vl_tree.specs.Values.{net, two}
use Rattle.vl_model.specs.Meaning.{Widths, Values, value_of, one_if, chosen}
use Rattle.vl_model.specs.Parts.{Holds, AllHold}
use Rattle.gen_kit.proofs.Parts.{held-front, held-back}
use Rattle.gen_kit.proofs.Families.{or-bits, any-lone, bit-or}
use Rattle.gen_kit.specs.Families.{in_bits}
use Rattle.gen_kit.specs.Groups.{HoldsIn, StepsIn}
use Rattle.noc_model.specs.declared.Flit.{Flit}
use Rattle.noc_model.specs.declared.Offer.{Offer}
use Rattle.noc_model.specs.declared.Packet.{Packet}
use Rattle.noc_model.specs.declared.Packet.TheVariants.{Between, Passing, Dropping}
use Rattle.noc_model.specs.declared.Range.{Range}
use Rattle.noc_model.specs.Plan.{Plan, channels, hosts, lookup, range_of, hosted_tile}
use Rattle.noc_model.specs.Sound.{AreApart}
use Rattle.noc_model.specs.SoundState.{IsSoundPacket}
use Rattle.noc_model.specs.Tile.{Tile, TileIn}
use Rattle.noc_model.specs.Step.{is_ready_packet, is_open, word_in, goes_to, is_first, packet_for, next_packet, entry_of, entry, is_dropped, next_current, comes_in}
use Rattle.leaf_tie.specs.Buffers.{is_filled}
use Rattle.leaf_tie.specs.Tie.{PacketTie, PortNames, OfferShown, word_code}
use Rattle.leaf_tie.specs.Attach.{AttachNames, AttachSize, AttachIn, attach_group, enter_at, entry_word, room_expr, look_nets, reach, found_code}
use Rattle.leaf_tie.proofs.Buffered.{bit-and}
use Rattle.leaf_tie.proofs.Placed.{routed-to}
use Rattle.leaf_tie.specs.Glue.{route_bits}
use Rattle.leaf_tie.proofs.Looked.{found-shown}

not-bit : (b : Bool) → 2 ^ 1 - 1 - one_if b ≡ one_if (negated b)
not-bit true = refl
not-bit false = refl

-- the bit above a tile that is found, and the tile
found-bit : (b : ℕ) (x : Option ℕ) → ((t : ℕ) → x ≡ Some t → t < 2 ^ b) → found_code b x / 2 ^ b % 2 ≡ one_if (is_some x)
found-bit b None small = nothing (2 ^ b)
  where
    nothing : (k : ℕ) → 0 / k % 2 ≡ 0
    nothing k = rw (zero-div k) refl
found-bit b (Some t) small =
    let one : 2 ^ b + t ≡ 1 * 2 ^ b + t = omega arith in
    ap (λ k. k / 2 ^ b % 2) one ∙ ap (λ k. k % 2) (div-mul-add 1 (2 ^ b) t (small t refl))

found-tile : (b t : ℕ) → 1 ≤ b → t < 2 ^ b → (2 ^ b + t) / 2 ^ 0 % 2 ^ (b - 1 - 0 + 1) ≡ t
found-tile b t some small =
    let width : b - 1 - 0 + 1 ≡ b = omega (arith, some) in
    let one : 2 ^ b + t ≡ 1 * 2 ^ b + t = omega arith in
    ap (λ k. (2 ^ b + t) / 2 ^ 0 % 2 ^ k) width ∙ ap (λ k. k % 2 ^ b) (div-one (2 ^ b + t) ∙ one)
    ∙ mul-add-mod_self_right 1 (2 ^ b) t ∙ mod-eq_of_lt small

lookup-hosts : (p : Plan) (d a t : ℕ) → lookup p d a ≡ Some t → hosts p t d ≡ true
lookup-hosts p d a t e = go (range_of p a) e
  where
    inner : (r : Range) (b : Bool) → hosts p r.tile d ≡ b → (if b then Some r.tile else None) ≡ Some t → hosts p t d ≡ true
    inner r true is f = let same : r.tile ≡ t = cc f in subst (λ k. hosts p k d ≡ true) same is
    inner r false is f = absurd (cc f)

    go : (x : Option Range) → hosted_tile p d x ≡ Some t → hosts p t d ≡ true
    go None f = absurd (cc f)
    go (Some r) f = inner r (hosts p r.tile d) refl f

enters-list : (e : Option Flit) (b : Bool) → bit_and (one_if (is_some e)) (one_if b) ≡ one_if (is_filled (if b then option_to_list e else []))
enters-list None true = refl
enters-list None false = refl
enters-list (Some f) true = refl
enters-list (Some f) false = refl

entry-some : (k : Packet) (x : Offer) (o : Option ℕ) → is_some (entry_of k x o) ≡ is_some o
entry-some k x None = refl
entry-some k x (Some t) = refl

none-some : (o : Option ℕ) → is_none o ≡ negated (is_some o)
none-some None = refl
none-some (Some t) = refl

-- a number of five parts
five : (r h l t y a b c e bits : ℕ) → a ≡ 1 → b ≡ 1 → c ≡ bits → e ≡ 32
    → r * 2 ^ (a + (b + (c + (e + 0)))) + (h * 2 ^ (b + (c + (e + 0))) + (l * 2 ^ (c + (e + 0)) + (t * 2 ^ (e + 0) + (y * 2 ^ 0 + 0)))) ≡ r * 2 ^ (34 + bits) + (((h * 2 + l) * 2 ^ bits + t) * 2 ^ 32 + y)
five r h l t y a b c e bits ea eb ec ee = rw (ea, eb, ec, ee) (step bits)
  where
    regroup : (h l t y k m : ℕ) → h * (2 * (k * m)) + (l * (k * m) + (t * k + y)) ≡ ((h * 2 + l) * m + t) * k + y
    regroup h l t y k m = grind arith

    step : (m : ℕ) → r * 2 ^ (1 + (1 + (m + (32 + 0)))) + (h * 2 ^ (1 + (m + (32 + 0))) + (l * 2 ^ (m + (32 + 0)) + (t * 2 ^ (32 + 0) + (y * 2 ^ 0 + 0)))) ≡ r * 2 ^ (34 + m) + (((h * 2 + l) * 2 ^ m + t) * 2 ^ 32 + y)
    step m =
        let e1 : 1 + (1 + (m + (32 + 0))) ≡ 34 + m = omega arith in
        let e2 : 1 + (m + (32 + 0)) ≡ 1 + (32 + m) = omega arith in
        let e3 : m + (32 + 0) ≡ 32 + m = omega arith in
        let alone : y * 2 ^ 0 + 0 ≡ y = omega arith in
        let low : 2 ^ (32 + m) ≡ 2 ^ 32 * 2 ^ m = pow-add 2 32 m in
        let high : 2 ^ (1 + (32 + m)) ≡ 2 * (2 ^ 32 * 2 ^ m) = pow-add 2 1 (32 + m) ∙ ap (λ k. 2 * k) low in
        ap (λ k. r * 2 ^ k + (h * 2 ^ (1 + (m + (32 + 0))) + (l * 2 ^ (m + (32 + 0)) + (t * 2 ^ (32 + 0) + (y * 2 ^ 0 + 0))))) e1
        ∙ ap (λ k. r * 2 ^ (34 + m) + (h * 2 ^ k + (l * 2 ^ (m + (32 + 0)) + (t * 2 ^ (32 + 0) + (y * 2 ^ 0 + 0))))) e2
        ∙ ap (λ k. r * 2 ^ (34 + m) + (h * 2 ^ (1 + (32 + m)) + (l * 2 ^ k + (t * 2 ^ (32 + 0) + (y * 2 ^ 0 + 0))))) e3
        ∙ ap (λ k. r * 2 ^ (34 + m) + (h * 2 ^ (1 + (32 + m)) + (l * 2 ^ (32 + m) + (t * 2 ^ 32 + k)))) alone
        ∙ ap (λ k. r * 2 ^ (34 + m) + (h * k + (l * 2 ^ (32 + m) + (t * 2 ^ 32 + y)))) high
        ∙ ap (λ k. r * 2 ^ (34 + m) + (h * (2 * (2 ^ 32 * 2 ^ m)) + (l * k + (t * 2 ^ 32 + y)))) low
        ∙ ap (λ k. r * 2 ^ (34 + m) + k) (regroup h l t y (2 ^ 32) (2 ^ m))

-- the next of some channels, in a register that has room for them
next-modulo : (c count m : ℕ) → c < count → count ≤ m → chosen (one_if (c == count - 1)) 0 ((c + 1) % m) ≡ (c + 1) % count
next-modulo c count m below le = go (c == count - 1) refl
  where
    go : (b : Bool) → (c == count - 1) ≡ b → chosen (one_if b) 0 ((c + 1) % m) ≡ (c + 1) % count
    go true e =
        let last : c ≡ count - 1 = grind (arith, nat_tests, e) in
        let same : c + 1 ≡ count = omega (arith, last, below) in
        sym (ap (λ k. k % count) same ∙ mod_self count)
    go false e =
        let other : c ≢ count - 1 = (λ f. (let yes : (c == count - 1) ≡ true = grind (arith, nat_tests, f) in cc (sym e ∙ yes))) in
        let less : c + 1 < count = grind (arith, below, other) in
        mod-eq_of_lt (omega (arith, less, le)) ∙ sym (mod-eq_of_lt less)

room-shown : (p : Plan) (d : ℕ) (a : AttachNames) (z : AttachSize) (w : Widths) (v : Values) (s : Tile) → v.net a.current ≡ s.current → s.current < channels p d
    → ((c : ℕ) → c < channels p d → v.net (a.count c) ≡ length (s.queue 0 c)) → value_of w v (room_expr p d a z) ≡ one_if (nat_lt (length (s.queue 0 s.current)) p.buffer)
room-shown p d a z w v s current few counts =
    or-bits w v (λ c. two And (two Equal (net a.current) (in_bits (z.ch + 1) c)) (two Less (net (a.count c)) (in_bits (z.lh + 1) p.buffer))) has (channels p d - 1)
    (λ c le. rw (current, counts c (omega (arith, few, le))) (bit-and (s.current == c) (nat_lt (length (s.queue 0 c)) p.buffer)))
    ∙ ap one_if (any-lone (channels p d - 1) s.current has (omega (arith, few)) (λ k other. (let differ : (s.current == k) ≡ false = grind (arith, nat_tests) in rw differ refl)) ∙ rw self refl)
  where
    self : (s.current == s.current) ≡ true
    self = grind (arith, nat_tests)

    has : ℕ → Bool
    has c = (s.current == c) && nat_lt (length (s.queue 0 c)) p.buffer

-- whether a word would be taken
pub open-shown : (p : Plan) (d : ℕ) (a : AttachNames) (z : AttachSize) (w : Widths) (v : Values) (s : Tile) → PacketTie a.passing a.dropping a.dest v s.packet → v.net a.current ≡ s.current → s.current < channels p d
    → ((c : ℕ) → c < channels p d → v.net (a.count c) ≡ length (s.queue 0 c)) → bit_or (v.net a.dropping) (value_of w v (room_expr p d a z)) ≡ one_if (is_open p s)
unfolding is_open
open-shown p d a z w v s packet current few counts = ap (bit_or (v.net a.dropping)) (room-shown p d a z w v s current few counts) ∙ go s.packet packet (nat_lt (length (s.queue 0 s.current)) p.buffer) refl
  where
    go : (k : Packet) → PacketTie a.passing a.dropping a.dest v k → (r : Bool) → nat_lt (length (s.queue 0 s.current)) p.buffer ≡ r → bit_or (v.net a.dropping) (one_if r) ≡ one_if (is_ready_packet k (length (s.queue 0 s.current)) p.buffer)
    go Between h r e = rw (h.1, e) (bit-or false r)
    go (Passing to) h r e = rw (h.1, e) (bit-or false r)
    go Dropping h r e = rw h.1 (bit-or true r)

module _ (p : Plan) (n d : ℕ) (a : AttachNames) (q : PortNames) (z : AttachSize) (w : Widths) (v u : Values) (s : Tile) (i : TileIn)
    (hold : HoldsIn (attach_group p n d a q z) w v) (step : StepsIn (attach_group p n d a q z) w v u) (from : AttachIn p n d a q z w v s i)
    (apart : AllPairs AreApart p.ranges) (inside : (t : ℕ) → hosts p t d ≡ true → t < 2 ^ z.dest_bits) (sound : IsSoundPacket p d s.packet) where
  -- ---- the nets, one by one

  look-held : AllHold w v (look_nets (q.address d) a.look z.dest_bits (reach p d))
  look-held = held-front (Holds w v) (look_nets (q.address d) a.look z.dest_bits (reach p d)) _ hold.nets

  found-is : v.net a.found ≡ found_code z.dest_bits (lookup p d (v.net (q.address d)))
  found-is = (held-back (Holds w v) (look_nets (q.address d) a.look z.dest_bits (reach p d)) _ hold.nets).1.0 ∙ found-shown p d w v (q.address d) a.look z.dest_bits apart look-held

  small : (t : ℕ) → lookup p d (v.net (q.address d)) ≡ Some t → t < 2 ^ z.dest_bits
  small t e = inside t (lookup-hosts p d (v.net (q.address d)) t e)

  found-some : v.net a.found / 2 ^ z.dest_bits % 2 ≡ one_if (is_some (lookup p d (v.net (q.address d))))
  found-some = ap (λ k. k / 2 ^ z.dest_bits % 2) found-is ∙ found-bit z.dest_bits (lookup p d (v.net (q.address d))) small

  taken-net : v.net a.taken ≡ bit_and (v.net (q.offered d)) (bit_or (v.net a.dropping) (value_of w v (room_expr p d a z)))
  taken-net = (held-back (Holds w v) (look_nets (q.address d) a.look z.dest_bits (reach p d)) _ hold.nets).1.1.1.0

  goes-net : v.net a.goes ≡ bit_or (v.net a.passing) (bit_and (2 ^ 1 - 1 - v.net a.dropping) (v.net a.found / 2 ^ z.dest_bits % 2))
  goes-net =
      (held-back (Holds w v) (look_nets (q.address d) a.look z.dest_bits (reach p d)) _ hold.nets).1.1.1.1.1.0
      ∙ ap (λ k. bit_or (v.net a.passing) (bit_and (2 ^ k - 1 - v.net a.dropping) (v.net a.found / 2 ^ z.dest_bits % 2))) hold.heads.1.0.0

  to-net : v.net a.to ≡ chosen (v.net a.passing) (v.net a.dest) (v.net a.found / 2 ^ 0 % 2 ^ (z.dest_bits - 1 - 0 + 1))
  to-net = (held-back (Holds w v) (look_nets (q.address d) a.look z.dest_bits (reach p d)) _ hold.nets).1.1.1.1.1.1.1.0

  to-wide : w.net a.to ≡ z.dest_bits
  to-wide =
      (held-back (Holds w v) (look_nets (q.address d) a.look z.dest_bits (reach p d)) _ hold.nets).1.1.1.1.1.1.0.0
      ∙ (let some = from.some_dest in omega (arith, some))

  goes-wide : w.net a.goes ≡ 1
  goes-wide = (held-back (Holds w v) (look_nets (q.address d) a.look z.dest_bits (reach p d)) _ hold.nets).1.1.1.1.0.0

  enters-net : v.net a.enters ≡ bit_and (v.net a.taken) (v.net a.goes)
  enters-net = (held-back (Holds w v) (look_nets (q.address d) a.look z.dest_bits (reach p d)) _ hold.nets).1.1.1.1.1.1.1.1.1.0

  word-net : v.net a.word ≡ value_of w v (entry_word p n a (q.last d) (q.payload d) z.dest_bits)
  word-net = (held-back (Holds w v) (look_nets (q.address d) a.look z.dest_bits (reach p d)) _ hold.nets).1.1.1.1.1.1.1.1.1.1.0

  -- ---- where a word goes

  goes-is : (x : Offer) → v.net (q.address d) ≡ x.address → v.net a.goes ≡ one_if (is_some (goes_to p d s.packet x))
  goes-is x address = goes-net ∙ ap (λ k. bit_or (v.net a.passing) (bit_and (2 ^ 1 - 1 - v.net a.dropping) k)) (found-some ∙ ap (λ k. one_if (is_some (lookup p d k))) address) ∙ go s.packet from.packet (is_some (lookup p d x.address)) refl
    where
      go : (k : Packet) → PacketTie a.passing a.dropping a.dest v k → (f : Bool) → is_some (lookup p d x.address) ≡ f → bit_or (v.net a.passing) (bit_and (2 ^ 1 - 1 - v.net a.dropping) (one_if f)) ≡ one_if (is_some (goes_to p d k x))
      go Between h f e = rw (h.0, h.1, e) (both f)
        where
          both : (f : Bool) → bit_or 0 (bit_and (2 ^ 1 - 1 - 0) (one_if f)) ≡ one_if f
          both true = refl
          both false = refl
      go (Passing to) h f e = rw (h.0, h.1) (both f)
        where
          both : (f : Bool) → bit_or 1 (bit_and (2 ^ 1 - 1 - 0) (one_if f)) ≡ 1
          both true = refl
          both false = refl
      go Dropping h f e = rw (h.0, h.1) (both f)
        where
          both : (f : Bool) → bit_or 0 (bit_and (2 ^ 1 - 1 - 1) (one_if f)) ≡ 0
          both true = refl
          both false = refl

  to-is : (x : Offer) (t : ℕ) → v.net (q.address d) ≡ x.address → goes_to p d s.packet x ≡ Some t → v.net a.to ≡ t
  to-is x t address e = to-net ∙ go s.packet from.packet e
    where
      go : (k : Packet) → PacketTie a.passing a.dropping a.dest v k → goes_to p d k x ≡ Some t → chosen (v.net a.passing) (v.net a.dest) (v.net a.found / 2 ^ 0 % 2 ^ (z.dest_bits - 1 - 0 + 1)) ≡ t
      go Between h f =
          let is : lookup p d (v.net (q.address d)) ≡ Some t = ap (lookup p d) address ∙ f in
          ap (λ k. chosen k (v.net a.dest) (v.net a.found / 2 ^ 0 % 2 ^ (z.dest_bits - 1 - 0 + 1))) h.0
          ∙ ap (λ k. k / 2 ^ 0 % 2 ^ (z.dest_bits - 1 - 0 + 1)) (found-is ∙ ap (found_code z.dest_bits) is) ∙ found-tile z.dest_bits t from.some_dest (small t is)
      go (Passing to) h f =
          let same : to ≡ t = cc f in
          ap (λ k. chosen k (v.net a.dest) (v.net a.found / 2 ^ 0 % 2 ^ (z.dest_bits - 1 - 0 + 1))) h.0 ∙ h.2 ∙ same
      go Dropping h f = absurd (cc f)

  goes-inside : (x : Offer) (t : ℕ) → goes_to p d s.packet x ≡ Some t → t < 2 ^ z.dest_bits
  goes-inside x t e = go s.packet sound e
    where
      go : (k : Packet) → IsSoundPacket p d k → goes_to p d k x ≡ Some t → t < 2 ^ z.dest_bits
      go Between h f = inside t (lookup-hosts p d x.address t f)
      go (Passing to) h f = let same : to ≡ t = cc f in subst (λ k. k < 2 ^ z.dest_bits) same (inside to h)
      go Dropping h f = absurd (cc f)

  -- ---- what is taken

  opened : bit_or (v.net a.dropping) (value_of w v (room_expr p d a z)) ≡ one_if (is_open p s)
  opened = open-shown p d a z w v s from.packet from.current from.few from.counts

  -- either no word is taken, or one that the ports show
  taken-is : ((v.net a.taken ≡ 0) × (word_in p s i ≡ None))
      ⊎ ((x : Offer) × (v.net a.taken ≡ 1) × (word_in p s i ≡ Some x) × (v.net (q.address d) ≡ x.address) × (v.net (q.payload d) ≡ x.payload) × (v.net (q.last d) ≡ one_if x.last))
  unfolding word_in
  taken-is = go i.offer refl from.offer (is_open p s) refl
    where
      go : (o : Option Offer) → i.offer ≡ o → OfferShown q d v o → (b : Bool) → is_open p s ≡ b
          → ((v.net a.taken ≡ 0) × ((if is_open p s then i.offer else None) ≡ None))
          ⊎ ((x : Offer) × (v.net a.taken ≡ 1) × ((if is_open p s then i.offer else None) ≡ Some x) × (v.net (q.address d) ≡ x.address) × (v.net (q.payload d) ≡ x.payload) × (v.net (q.last d) ≡ one_if x.last))
      go None e h true f = inl (taken-net ∙ rw h (and_zero_l (bit_or (v.net a.dropping) (value_of w v (room_expr p d a z)))), rw (f, e) refl)
      go None e h false f = inl (taken-net ∙ rw h (and_zero_l (bit_or (v.net a.dropping) (value_of w v (room_expr p d a z)))), rw f refl)
      go (Some x) e h true f = inr (x, taken-net ∙ rw (opened, h.0, f) refl, rw (f, e) refl, h.1, h.2, h.3)
      go (Some x) e h false f = inl (taken-net ∙ rw (opened, h.0, f) refl, rw f refl)

  -- ---- what enters

  enters-is : v.net a.enters ≡ one_if (is_some (entry p d s.packet (word_in p s i)))
  enters-is = go taken-is
    where
      go : ((v.net a.taken ≡ 0) × (word_in p s i ≡ None))
          ⊎ ((x : Offer) × (v.net a.taken ≡ 1) × (word_in p s i ≡ Some x) × (v.net (q.address d) ≡ x.address) × (v.net (q.payload d) ≡ x.payload) × (v.net (q.last d) ≡ one_if x.last))
          → v.net a.enters ≡ one_if (is_some (entry p d s.packet (word_in p s i)))
      go (inl h) = enters-net ∙ ap (λ k. bit_and k (v.net a.goes)) h.0 ∙ and_zero_l (v.net a.goes) ∙ sym (ap (λ y. one_if (is_some (entry p d s.packet y))) h.1)
      go (inr h) =
          enters-net ∙ ap (λ k. bit_and k (v.net a.goes)) h.1 ∙ ap (bit_and 1) (goes-is h.0 h.3) ∙ bit-and true (is_some (goes_to p d s.packet h.0))
          ∙ ap one_if (sym (entry-some s.packet h.0 (goes_to p d s.packet h.0))) ∙ sym (ap (λ y. one_if (is_some (entry p d s.packet y))) h.2)

  pub pushes : (c : ℕ) → value_of w v (enter_at a z c) ≡ one_if (is_filled (comes_in p d s i 0 c))
  pushes c = rw (enters-is, from.current) (enters-list (entry p d s.packet (word_in p s i)) (s.current == c))

  first-is : (x : Offer) (t : ℕ) → goes_to p d s.packet x ≡ Some t → 2 ^ 1 - 1 - v.net a.passing ≡ one_if (is_first s.packet)
  first-is x t e = go s.packet from.packet e
    where
      go : (k : Packet) → PacketTie a.passing a.dropping a.dest v k → goes_to p d k x ≡ Some t → 2 ^ 1 - 1 - v.net a.passing ≡ one_if (is_first k)
      go Between h f = rw h.0 refl
      go (Passing to) h f = rw h.0 refl
      go Dropping h f = absurd (cc f)

  -- the word that is stored
  pub word-is : (f : Flit) → entry p d s.packet (word_in p s i) ≡ Some f → v.net a.word ≡ word_code p n z.dest_bits f
  word-is f e = go taken-is
    where
      code_of : Option Flit → ℕ
      code_of None = 0
      code_of (Some g) = word_code p n z.dest_bits g

      inner : (x : Offer) → v.net (q.address d) ≡ x.address → v.net (q.payload d) ≡ x.payload → v.net (q.last d) ≡ one_if x.last → (o : Option ℕ) → goes_to p d s.packet x ≡ o → entry_of s.packet x o ≡ Some f → v.net a.word ≡ word_code p n z.dest_bits f
      inner x address payload last None is h = absurd (cc h)
      inner x address payload last (Some t) is h =
          let to = to-is x t address is in
          word-net
          ∙ five (value_of w v (route_bits p n a.to z.dest_bits)) (2 ^ w.net a.passing - 1 - v.net a.passing) (v.net (q.last d)) (v.net a.to) (v.net (q.payload d)) (w.net a.passing) (w.net (q.last d)) (w.net a.to) (w.net (q.payload d)) z.dest_bits
          hold.heads.0.0 from.last_width to-wide from.payload_width
          ∙ parts-are (routed-to p n z.dest_bits w v a.to t to (goes-inside x t is)) (ap (λ k. 2 ^ k - 1 - v.net a.passing) hold.heads.0.0 ∙ first-is x t is) last to payload
          ∙ ap code_of h
        where
          parts-are : {r1 r2 n1 n2 l1 l2 t1 t2 y1 y2 : ℕ} → r1 ≡ r2 → n1 ≡ n2 → l1 ≡ l2 → t1 ≡ t2 → y1 ≡ y2
              → r1 * 2 ^ (34 + z.dest_bits) + (((n1 * 2 + l1) * 2 ^ z.dest_bits + t1) * 2 ^ 32 + y1) ≡ r2 * 2 ^ (34 + z.dest_bits) + (((n2 * 2 + l2) * 2 ^ z.dest_bits + t2) * 2 ^ 32 + y2)
          parts-are e1 e2 e3 e4 e5 = rw (e1, e2, e3, e4, e5) refl

      go : ((v.net a.taken ≡ 0) × (word_in p s i ≡ None))
          ⊎ ((x : Offer) × (v.net a.taken ≡ 1) × (word_in p s i ≡ Some x) × (v.net (q.address d) ≡ x.address) × (v.net (q.payload d) ≡ x.payload) × (v.net (q.last d) ≡ one_if x.last))
          → v.net a.word ≡ word_code p n z.dest_bits f
      go (inl h) = absurd (let none : entry p d s.packet None ≡ Some f = ap (entry p d s.packet) (sym h.1) ∙ e in cc none)
      go (inr h) = inner h.0 h.3 h.4 h.5 (goes_to p d s.packet h.0) refl (ap (entry p d s.packet) (sym h.2) ∙ e)

  -- ---- one edge

  last-not : (x : Offer) → v.net (q.last d) ≡ one_if x.last → 2 ^ w.net (q.last d) - 1 - v.net (q.last d) ≡ one_if (negated x.last)
  last-not x e = ap (λ k. 2 ^ k - 1 - v.net (q.last d)) from.last_width ∙ ap (λ k. 2 ^ 1 - 1 - k) e ∙ not-bit x.last

  goes-not : (x : Offer) → v.net (q.address d) ≡ x.address → 2 ^ w.net a.goes - 1 - v.net a.goes ≡ one_if (negated (is_some (goes_to p d s.packet x)))
  goes-not x e = ap (λ k. 2 ^ k - 1 - v.net a.goes) goes-wide ∙ ap (λ k. 2 ^ 1 - 1 - k) (goes-is x e) ∙ not-bit (is_some (goes_to p d s.packet x))

  pub packet-kept : PacketTie a.passing a.dropping a.dest u (next_packet p d s.packet (word_in p s i))
  packet-kept = go taken-is
    where
      same : u.net a.passing ≡ v.net a.passing → u.net a.dropping ≡ v.net a.dropping → u.net a.dest ≡ v.net a.dest → (k : Packet) → PacketTie a.passing a.dropping a.dest v k → PacketTie a.passing a.dropping a.dest u k
      same p1 p2 p3 Between h = (p1 ∙ h.0, p2 ∙ h.1)
      same p1 p2 p3 (Passing to) h = (p1 ∙ h.0, p2 ∙ h.1, p3 ∙ h.2)
      same p1 p2 p3 Dropping h = (p1 ∙ h.0, p2 ∙ h.1)

      after : (l : Bool) (o : Option ℕ) → u.net a.passing ≡ bit_and (one_if (negated l)) (one_if (is_some o)) → u.net a.dropping ≡ bit_and (one_if (negated l)) (one_if (negated (is_some o)))
          → ((t : ℕ) → o ≡ Some t → u.net a.dest ≡ t) → PacketTie a.passing a.dropping a.dest u (if l then Between else packet_for o)
      after true None p1 p2 p3 = (p1, p2)
      after true (Some t) p1 p2 p3 = (p1, p2)
      after false None p1 p2 p3 = (p1, p2)
      after false (Some t) p1 p2 p3 = (p1, p2, p3 t refl)

      go : ((v.net a.taken ≡ 0) × (word_in p s i ≡ None))
          ⊎ ((x : Offer) × (v.net a.taken ≡ 1) × (word_in p s i ≡ Some x) × (v.net (q.address d) ≡ x.address) × (v.net (q.payload d) ≡ x.payload) × (v.net (q.last d) ≡ one_if x.last))
          → PacketTie a.passing a.dropping a.dest u (next_packet p d s.packet (word_in p s i))
      go (inl h) =
          subst (λ y. PacketTie a.passing a.dropping a.dest u (next_packet p d s.packet y)) (sym h.1)
          (same (step.moves.0 ∙ ap (λ k. chosen k (bit_and (2 ^ w.net (q.last d) - 1 - v.net (q.last d)) (v.net a.goes)) (v.net a.passing)) h.0)
          (step.moves.1.0 ∙ ap (λ k. chosen k (bit_and (2 ^ w.net (q.last d) - 1 - v.net (q.last d)) (2 ^ w.net a.goes - 1 - v.net a.goes)) (v.net a.dropping)) h.0)
          (step.moves.1.1.0 ∙ ap (λ k. chosen k (v.net a.to) (v.net a.dest)) h.0) s.packet from.packet)
      go (inr h) =
          subst (λ y. PacketTie a.passing a.dropping a.dest u (next_packet p d s.packet y)) (sym h.2)
          (after h.0.last (goes_to p d s.packet h.0)
          (step.moves.0 ∙ ap (λ k. chosen k (bit_and (2 ^ w.net (q.last d) - 1 - v.net (q.last d)) (v.net a.goes)) (v.net a.passing)) h.1
          ∙ ap (λ k. bit_and k (v.net a.goes)) (last-not h.0 h.5) ∙ ap (bit_and (one_if (negated h.0.last))) (goes-is h.0 h.3))
          (step.moves.1.0 ∙ ap (λ k. chosen k (bit_and (2 ^ w.net (q.last d) - 1 - v.net (q.last d)) (2 ^ w.net a.goes - 1 - v.net a.goes)) (v.net a.dropping)) h.1
          ∙ ap (λ k. bit_and k (2 ^ w.net a.goes - 1 - v.net a.goes)) (last-not h.0 h.5) ∙ ap (bit_and (one_if (negated h.0.last))) (goes-not h.0 h.3))
          (λ t e. step.moves.1.1.0 ∙ ap (λ k. chosen k (v.net a.to) (v.net a.dest)) h.1 ∙ to-is h.0 t h.3 e))

  pub dropped-kept : u.net a.dropped ≡ one_if (is_dropped p d s.packet (word_in p s i))
  dropped-kept = step.moves.1.1.1.1.0 ∙ go taken-is
    where
      go : ((v.net a.taken ≡ 0) × (word_in p s i ≡ None))
          ⊎ ((x : Offer) × (v.net a.taken ≡ 1) × (word_in p s i ≡ Some x) × (v.net (q.address d) ≡ x.address) × (v.net (q.payload d) ≡ x.payload) × (v.net (q.last d) ≡ one_if x.last))
          → bit_and (v.net a.taken) (2 ^ w.net a.goes - 1 - v.net a.goes) ≡ one_if (is_dropped p d s.packet (word_in p s i))
      go (inl h) = ap (λ k. bit_and k (2 ^ w.net a.goes - 1 - v.net a.goes)) h.0 ∙ and_zero_l (2 ^ w.net a.goes - 1 - v.net a.goes) ∙ sym (ap (λ y. one_if (is_dropped p d s.packet y)) h.1)
      go (inr h) =
          ap (λ k. bit_and k (2 ^ w.net a.goes - 1 - v.net a.goes)) h.1 ∙ ap (bit_and 1) (goes-not h.0 h.3) ∙ bit-and true (negated (is_some (goes_to p d s.packet h.0)))
          ∙ ap one_if (sym (none-some (goes_to p d s.packet h.0))) ∙ sym (ap (λ y. one_if (is_dropped p d s.packet y)) h.2)

  pub current-kept : u.net a.current ≡ next_current p d s.current (entry p d s.packet (word_in p s i))
  current-kept = step.moves.1.1.1.0 ∙ ap (λ k. chosen (bit_and k (v.net (q.last d))) after_it (v.net a.current)) enters-is ∙ go taken-is
    where
      after_it : ℕ
      after_it = chosen (one_if (v.net a.current == channels p d - 1)) 0 ((v.net a.current + 1) % 2 ^ w.net a.current)

      next-is : after_it ≡ (s.current + 1) % channels p d
      next-is =
          ap (λ k. chosen (one_if (v.net a.current == channels p d - 1)) 0 ((v.net a.current + 1) % 2 ^ k)) hold.heads.1.1.1.0.0
          ∙ ap (λ k. chosen (one_if (k == channels p d - 1)) 0 ((k + 1) % 2 ^ (z.ch + 1))) from.current
          ∙ next-modulo s.current (channels p d) (2 ^ (z.ch + 1)) from.few from.channels_fit

      moved : (e : Option Flit) → ((f : Flit) → e ≡ Some f → v.net (q.last d) ≡ one_if f.tail) → chosen (bit_and (one_if (is_some e)) (v.net (q.last d))) after_it (v.net a.current) ≡ next_current p d s.current e
      moved None last = ap (λ k. chosen k after_it (v.net a.current)) (and_zero_l (v.net (q.last d))) ∙ from.current
      moved (Some f) last = ap (λ k. chosen (bit_and 1 k) after_it (v.net a.current)) (last f refl) ∙ by-tail f.tail
        where
          by-tail : (l : Bool) → chosen (bit_and 1 (one_if l)) after_it (v.net a.current) ≡ (if l then (s.current + 1) % channels p d else s.current)
          by-tail true = next-is
          by-tail false = from.current

      tail-last : (x : Offer) (o : Option ℕ) (f : Flit) → entry_of s.packet x o ≡ Some f → x.last ≡ f.tail
      tail-last x None f e = absurd (cc e)
      tail-last x (Some t) f e = ap tail_of e
        where
          tail_of : Option Flit → Bool
          tail_of None = false
          tail_of (Some g) = g.tail

      go : ((v.net a.taken ≡ 0) × (word_in p s i ≡ None))
          ⊎ ((x : Offer) × (v.net a.taken ≡ 1) × (word_in p s i ≡ Some x) × (v.net (q.address d) ≡ x.address) × (v.net (q.payload d) ≡ x.payload) × (v.net (q.last d) ≡ one_if x.last))
          → chosen (bit_and (one_if (is_some (entry p d s.packet (word_in p s i)))) (v.net (q.last d))) after_it (v.net a.current) ≡ next_current p d s.current (entry p d s.packet (word_in p s i))
      go (inl h) = moved (entry p d s.packet (word_in p s i)) (λ f e. absurd (let none : entry p d s.packet None ≡ Some f = ap (entry p d s.packet) (sym h.1) ∙ e in cc none))
      go (inr h) = moved (entry p d s.packet (word_in p s i)) (λ f e. h.5 ∙ ap one_if (tail-last h.0 (goes_to p d s.packet h.0) f (ap (entry p d s.packet) (sym h.2) ∙ e)))
