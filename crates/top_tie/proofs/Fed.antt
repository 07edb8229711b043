-- What comes in at the ports of each leaf, in a cycle in which all leaves hold their tiles.
use Rattle.std.proofs.Common.{◌≡◌, ◌≢◌, ℕ, zero, suc, ◌+◌, ◌-◌, ◌/◌, ◌%◌, ◌<◌, ◌≤◌, ◌^◌, ◌⊎◌, inl, inr, Bool, true, false, List, [], ◌∷◌, ◌++◌, Option, length, refl, sym, ap, ◌∙◌, subst, arith, ◌==◌, ◌&&◌}
use Rattle.std.specs.Prelude.{Some, None, is_some, min, nat_lt, if◌then◌else◌, pos, ◌-ℤ◌, codes, option_and_then}
use Rattle.std.proofs.Math.Nat.{mod-lt}
use Rattle.std.proofs.lemmas.Bool.{false≢true, eqb-true}
use Rattle.std.proofs.lemmas.Option.{none-some}
use Rattle.std.proofs.lemmas.Bool.Decides.{nat_tests}
use Rattle.vl_tree.specs.Values.{Name, Leaf, Design}
use Rattle.vl_model.specs.Meaning.{Values, one_if}
use Rattle.vl_model.specs.Leaf.{leaf_widths}
use Rattle.vl_model.specs.Parts.{AllHold}
use Rattle.vl_model.specs.Rules.{IsSound as IsSoundDesign}
use Rattle.vl_model.specs.Whole.{Nets, IsRun}
use Rattle.vl_model.proofs.Held.{parts-hold}
use Rattle.noc_model.specs.declared.LinkFlit.{LinkFlit}
use Rattle.noc_model.specs.declared.Offer.{Offer}
use Rattle.noc_model.specs.Plan.{Plan, tiles, ports, hosts, link_channels}
use Rattle.noc_model.specs.Place.{neighbour, opposite, owner}
use Rattle.noc_model.specs.Sound.{IsSound}
use Rattle.noc_model.specs.Tile.{Tile, TileIn}
use Rattle.noc_model.specs.Run.{State, Input, last_place, arrival, return_of, pulse_from, fed, state_after}
use Rattle.noc_model.specs.Shared.{own_places, filled_in}
use Rattle.noc_model.specs.SoundState.{GoesHome}
use Rattle.noc_model.specs.TileRun.{IsTileIn, MayArrive}
use Rattle.noc_model.proofs.Coords.{positive}
use Rattle.noc_model.proofs.Links.{link-from}
use Rattle.noc_model.proofs.Ports.{linked-port, opposite-linked}
use Rattle.noc_model.proofs.Room.{credit-room}
use Rattle.noc_model.proofs.StateKept.{arrival-none, neighbour-inside}
use Rattle.noc_model.proofs.Sum.{IsLink}
use Rattle.noc_model.proofs.TileRuns.{fed-may, after-reached, after-sum}
use Rattle.gen_kit.specs.Groups.{Group, HoldsIn, all_items}
use Rattle.gen_kit.specs.Ports.{name_with, host_name}
use Rattle.gen_kit.specs.Shape.{HasShape, credit_bits}
use Rattle.gen_kit.specs.Replayed.{at, is_on, offer_at, host_of, input_of, payload_of}
use Rattle.gen_kit.specs.Work.{leaf_name}
use Rattle.leaf_tie.specs.Buffers.{link_code}
use Rattle.leaf_tie.specs.Slots.{arriving_slot}
use Rattle.leaf_tie.specs.Tie.{HasLink, LeafTie, LeafIn, PortIn, OfferShown, flit_code, IsWord}
use Rattle.leaf_tie.specs.Outs.{LeafOut, link_out_group, local_out_group, credit_out_group}
use Rattle.leaf_tie.specs.Whole.{leaf_groups}
use Rattle.leaf_tie.specs.Names.{bundle_name}
use Rattle.leaf_tie.proofs.Glued.{link-there}
use Rattle.leaf_tie.proofs.Members.{Member, in-back, holds-in}
use Rattle.leaf_tie.proofs.Outs.{outs-shown, credits-shown}
use Rattle.leaf_tie.proofs.Slotted.{arriving-owner}
use Rattle.top_tie.specs.Joins.{instance_name, inside_tile, HasNet, LinkJoined, HostJoined}
use Rattle.top_tie.specs.Holds.{TextSizes, FitsPlan, TileNames, bundle_bit, AreShapePorts, bundle_group, IsAmong, HoldsTile, HoldsTiles}
use Rattle.top_tie.proofs.Joins.{TileRun, tile-run, link-joined, host-joined}

member : (g : Group) (xs : List Group) → IsAmong xs g → Member g xs
member g [] m = m
member g (x ∷ xs) (inl e) = inl e
member g (x ∷ xs) (inr m) = inr (member g xs m)

arrival-at : (p : Plan) (s : State) (n q m : ℕ) → neighbour p n q ≡ Some m → arrival p s n q ≡ last_place p (s m) (opposite q)
unfolding arrival
arrival-at p s n q m e = ap (option_and_then (λ k. last_place p (s k) (opposite q))) e

return-at : (p : Plan) (s : State) (n q x m : ℕ) → neighbour p n q ≡ Some m → return_of p s n q x ≡ (s m).pulse (opposite q) x
unfolding return_of
return-at p s n q x m e = ap (λ k. pulse_from s k (opposite q) x) e

-- a number of one bit
bit-is : (x : ℕ) → x < 2 ^ 1 → x ≡ one_if (x == 1)
bit-is zero below = refl
bit-is (suc zero) below = refl
bit-is (suc (suc x)) below = absurd (omega arith)

module _ (p : Plan) (z : TextSizes) (d : Design) (first : Name → Name → ℕ → ℕ) (inputs : ℕ → Name → ℕ) (values : ℕ → Nets)
    (sound : IsSound p) (fits : FitsPlan p z) (right : IsSoundDesign d) (shape : HasShape p d) (hold : HoldsTiles p z d) (run : IsRun d first inputs values) where
  -- a tile's leaf, its run, and that it holds the tile
  abbrev pub tile : (n : ℕ) → n < tiles p → TileRun p d n values
  tile n below = tile-run p d n first inputs values right shape run below

  abbrev pub held : (n : ℕ) (below : n < tiles p) → HoldsTile p n z (tile n below).leaf
  held n below = hold n (tile n below).leaf below (tile n below).named

  -- the states of a domain, and what comes in
  abbrev pub state : ℕ → ℕ → State
  state k t = state_after p k (λ j. input_of k (values j)) t

  abbrev pub given : ℕ → ℕ → ℕ → TileIn
  given t n k = fed p k (state k t) (input_of k (values t)) n

  -- the leaf of tile n holds the tile parts of all domains in cycle t
  abbrev pub Stands : (t n : ℕ) → n < tiles p → (ℕ → ℕ → Option LinkFlit) → Type 0
  Stands t n below shared = LeafTie p n (held n below).names.kept z.buffer z.dest_bits z.link_flit z.link_channel (inside_tile (values t) n) t (λ k. state k t n) shared

  module _ (t n : ℕ) (below : n < tiles p) where
    abbrev v : Values
    v = inside_tile (values t) n

    abbrev h : HoldsTile p n z (tile n below).leaf
    h = held n below

    all-held : AllHold (leaf_widths (tile n below).leaf) v (all_items (leaf_groups p n h.names.kept h.names.nets h.names.ports z.base z.buffer z.slot_high z.dest_bits z.link_flit z.link_channel ++ h.others))
    all-held = subst (AllHold (leaf_widths (tile n below).leaf) v) h.items (parts-hold d right (leaf_name n) (tile n below).leaf (tile n below).named v ((tile n below).runs.right t))

    out-held : (g : Group) → IsAmong h.others g → HoldsIn g (leaf_widths (tile n below).leaf) v
    out-held g m = holds-in g (leaf_groups p n h.names.kept h.names.nets h.names.ports z.base z.buffer z.slot_high z.dest_bits z.link_flit z.link_channel ++ h.others) (leaf_widths (tile n below).leaf) v
        (in-back g (leaf_groups p n h.names.kept h.names.nets h.names.ports z.base z.buffer z.slot_high z.dest_bits z.link_flit z.link_channel) h.others (member g h.others m)) all-held

    -- what the leaf gives out
    pub outs : (shared : ℕ → ℕ → Option LinkFlit) → Stands t n below shared → LeafOut p n h.names.outs z.dest_bits z.link_flit z.link_channel v (λ k. state k t n) shared
    outs shared stands =
        outs-shown p n h.names.kept h.names.nets h.names.outs z.buffer z.dest_bits z.link_flit z.link_channel (leaf_widths (tile n below).leaf) v t (λ k. state k t n) shared sound
        (λ o link. out-held (link_out_group p h.names.kept h.names.outs o) (h.links o link))
        (λ k there hosted. out-held (local_out_group p h.names.kept h.names.nets h.names.outs z.buffer z.dest_bits k) (h.locals k there hosted)) stands

    pub linked : (q m : ℕ) → neighbour p n q ≡ Some m → LinkJoined p n q m v (values t)
    linked q m e = link-joined p n q m v (values t) (link-there p n q m e).0 e ((tile n below).ties t)

    pub hosted : (k : ℕ) → hosts p n k ≡ true → HostJoined n k v (values t)
    hosted k there = host-joined p n k v (values t) there ((tile n below).ties t)

    -- bit b of its bundle is the pulse of the credit's domain and channel
    credit-out : (shared : ℕ → ℕ → Option LinkFlit) → Stands t n below shared → (o m k x : ℕ) → neighbour p n o ≡ Some m → k < length p.domains → x < link_channels p k
        → v.net (bundle_name (codes "co") n o (z.base k + x)) / 2 ^ bundle_bit (z.base k + x) % 2 ≡ one_if ((state k t n).pulse o x)
    credit-out shared stands o m k x e there few = go (nat_lt r 64) refl (h.credits o r link inside)
      where
        r : ℕ
        r = z.base k + x

        link : HasLink p n o
        link = link-there p n o m e

        inside : r < credit_bits p
        inside = fits.below k x there few

        its : one_if ((state (z.domain r) t n).pulse o (z.channel r)) ≡ one_if ((state k t n).pulse o x)
        its = ap (λ j. one_if ((state j t n).pulse o (z.channel r))) (fits.domain k x there few) ∙ ap (λ y. one_if ((state k t n).pulse o y)) (fits.channel k x there few)

        domain : z.domain r < length p.domains
        domain = subst (λ j. j < length p.domains) (sym (fits.domain k x there few)) there

        channel : z.channel r < link_channels p (z.domain r)
        channel =
            subst (λ j. z.channel r < link_channels p j) (sym (fits.domain k x there few))
            (subst (λ y. y < link_channels p k) (sym (fits.channel k x there few)) few)

        shown : (bundle : Name) (from count : ℕ) → HoldsIn (credit_out_group h.names.kept bundle o from count z.domain z.channel) (leaf_widths (tile n below).leaf) v → from ≤ r → r < from + count
            → v.net bundle / 2 ^ (r - from) % 2 ≡ one_if ((state k t n).pulse o x)
        shown bundle from count holds le less =
            credits-shown p n h.names.kept z.buffer z.dest_bits z.link_flit z.link_channel bundle o from count z.domain z.channel (leaf_widths (tile n below).leaf) v t (λ k. state k t n) shared holds stands link r le less domain channel
            ∙ its

        go : (b : Bool) → nat_lt r 64 ≡ b
            → IsAmong h.others (if b then credit_out_group h.names.kept (name_with (codes "co") (n ∷ o ∷ [])) o 0 (min (credit_bits p) 64) z.domain z.channel else credit_out_group h.names.kept (name_with (codes "co") (n ∷ o ∷ 1 ∷ [])) o 64 (credit_bits p - 64) z.domain z.channel)
            → v.net (if b then name_with (codes "co") (n ∷ o ∷ []) else name_with (codes "co") (n ∷ o ∷ 1 ∷ [])) / 2 ^ (if b then r else r - 64) % 2 ≡ one_if ((state k t n).pulse o x)
        go true e m =
            let less : r < 64 = grind (arith, nat_tests) in
            let whole : r - 0 ≡ r = omega arith in
            ap (λ i. v.net (name_with (codes "co") (n ∷ o ∷ [])) / 2 ^ i % 2) (sym whole)
            ∙ shown (name_with (codes "co") (n ∷ o ∷ [])) 0 (min (credit_bits p) 64) (out-held (credit_out_group h.names.kept (name_with (codes "co") (n ∷ o ∷ [])) o 0 (min (credit_bits p) 64) z.domain z.channel) m) (omega arith) (omega (arith, less, inside))
        go false e m =
            let more : 64 ≤ r = grind (arith, nat_tests) in
            shown (name_with (codes "co") (n ∷ o ∷ 1 ∷ [])) 64 (credit_bits p - 64) (out-held (credit_out_group h.names.kept (name_with (codes "co") (n ∷ o ∷ 1 ∷ [])) o 64 (credit_bits p - 64) z.domain z.channel) m) more (omega (arith, more, inside))

    -- ---- the attachment's ports

    module _ (k : ℕ) (there : hosts p n k ≡ true) where
      abbrev nets : Nets
      nets = values t

      small : (name : Name) (bits : ℕ) → (leaf_widths (tile n below).leaf).net name ≡ bits → v.net name < 2 ^ bits
      small name bits wide = subst (λ b. v.net name < 2 ^ b) wide (((tile n below).runs.right t).small.net name)

      on-ov : v.net (h.names.ports.offered k) ≡ at nets (codes "ov") (host_of k n)
      on-ov = ap v.net (h.named.offered k there) ∙ (hosted k there).0

      on-op : v.net (h.names.ports.payload k) ≡ at nets (codes "op") (host_of k n)
      on-op = ap v.net (h.named.payload k there) ∙ (hosted k there).1.1.0

      -- a port of one bit
      one-bit : (name : Name) (head : List ℕ) → (leaf_widths (tile n below).leaf).net name ≡ 1 → v.net name ≡ at nets head (host_of k n) → v.net name ≡ one_if (is_on nets head (host_of k n))
      one-bit name head wide on = bit-is (v.net name) (small name 1 wide) ∙ ap (λ y. one_if (y == 1)) on

      offer-shown : OfferShown h.names.ports k v (offer_at nets (host_of k n))
      offer-shown = go (is_on nets (codes "ov") (host_of k n)) refl
        where
          go : (b : Bool) → is_on nets (codes "ov") (host_of k n) ≡ b
              → OfferShown h.names.ports k v (if b then Some (record { address = at nets (codes "oa") (host_of k n); payload = at nets (codes "op") (host_of k n); last = is_on nets (codes "ol") (host_of k n) }) else None)
          go true e = (
            one-bit (h.names.ports.offered k) (codes "ov") (h.offered k there) on-ov ∙ ap one_if e,
            ap v.net (h.named.address k there) ∙ (hosted k there).1.0,
            on-op,
            one-bit (h.names.ports.last k) (codes "ol") (h.joined.last k there) (ap v.net (h.named.last k there) ∙ (hosted k there).1.1.1.0),
          )
          go false e = one-bit (h.names.ports.offered k) (codes "ov") (h.offered k there) on-ov ∙ ap one_if e

      pub offered : OfferShown h.names.ports k v (given t n k).offer
      offered = subst (OfferShown h.names.ports k v) (sym (ap (λ b. if b then offer_at nets (host_of k n) else None) there)) offer-shown

      pub hearing : v.net (h.names.ports.hears k) ≡ one_if (given t n k).hears
      hearing =
          one-bit (h.names.ports.hears k) (codes "hr") (h.hears k there) (ap v.net (h.named.hears k there) ∙ (hosted k there).1.1.1.1.0)
          ∙ ap one_if (sym (ap (λ b. b && is_on nets (codes "hr") (host_of k n)) there))

      pub short-payload : at nets (codes "op") (host_of k n) < 2 ^ 32
      short-payload = subst (λ y. y < 2 ^ 32) on-op (small (h.names.ports.payload k) 32 (h.joined.payload k there))

    pub payloads : (k : ℕ) (x : Offer) → (given t n k).offer ≡ Some x → x.payload < 2 ^ 32
    payloads k x e = go (hosts p n k) refl e
      where
        on : (c : Bool) → at (values t) (codes "op") (host_of k n) < 2 ^ 32
            → (if c then Some (record { address = at (values t) (codes "oa") (host_of k n); payload = at (values t) (codes "op") (host_of k n); last = is_on (values t) (codes "ol") (host_of k n) }) else None) ≡ Some x → x.payload < 2 ^ 32
        on true few is = subst (λ y. y < 2 ^ 32) (ap payload_of is) few
        on false few is = absurd (none-some x is)

        go : (b : Bool) → hosts p n k ≡ b → (if b then offer_at (values t) (host_of k n) else None) ≡ Some x → x.payload < 2 ^ 32
        go true there is = on (is_on (values t) (codes "ov") (host_of k n)) (short-payload k there) is
        go false away is = absurd (none-some x is)

  -- ---- all inputs of a leaf, where all leaves hold their tiles

  module _ (t : ℕ) (all : (m : ℕ) (inside : m < tiles p) → (shared : ℕ → ℕ → Option LinkFlit) × Stands t m inside shared) (n : ℕ) (below : n < tiles p) where
    abbrev val : Values
    val = inside_tile (values t) n

    abbrev own : HoldsTile p n z (tile n below).leaf
    own = held n below

    abbrev fed_by : ℕ → ℕ → Input
    fed_by k j = input_of k (values j)

    may : (k : ℕ) → k < length p.domains → IsTileIn p k n (pos t) (state k t n) (given t n k)
    may k there =
        fed-may p k n (pos t) (state k t) (input_of k (values t)) sound below (after-reached p k (fed_by k) t sound there).sound
        (λ m o j w inside e. after-sum p k (fed_by k) t m o j w sound inside e)

    some : 1 ≤ length p.slots
    some = sound.slot_count.0

    module _ (q m : ℕ) (e : neighbour p n q ≡ Some m) where
      inside : m < tiles p
      inside = neighbour-inside p n q m (positive p.dims sound.sides) e

      link : IsLink p n q m
      link = link-from p n q m (positive p.dims sound.sides) below e

      abbrev r : ℕ
      r = opposite q

      shared : ℕ → ℕ → Option LinkFlit
      shared = (all m inside).0

      abbrev from : Values
      from = inside_tile (values t) m

      abbrev word : Option LinkFlit
      word = shared r (p.stages - 1)

      stands : Stands t m inside shared
      unfolding shared
      stands = (all m inside).1

      its-own : (k : ℕ) → (given t n k).arrives q ≡ (if owner p m r (pos t -ℤ pos p.stages) == k then word else None)
      its-own k =
          arrival-at p (state k t) n q m e ∙ stands.own k r (p.stages - 1) link.arrives_port
          ∙ ap (λ i. if owner p m r (pos t -ℤ pos i) == k then word else None) last
        where
          last : p.stages - 1 + 1 ≡ p.stages
          last = let more : 1 ≤ p.stages = sound.stages.0 in omega (arith, more)

      owner-there : owner p m r (pos t -ℤ pos p.stages) < length p.domains
      owner-there =
          subst (λ k. k < length p.domains) (sym (arriving-owner p m r t (opposite-linked q (linked-port p n q m e)) some))
          (sound.slots ((t + arriving_slot p m r) % length p.slots) 0 (mod-lt (t + arriving_slot p m r) some))

      owned : (k : ℕ) (x : LinkFlit) → (given t n k).arrives q ≡ Some x → k < length p.domains
      owned k x is = go (owner p m r (pos t -ℤ pos p.stages) == k) refl (sym (its-own k) ∙ is)
        where
          go : (b : Bool) → (owner p m r (pos t -ℤ pos p.stages) == k) ≡ b → (if b then word else None) ≡ Some x → k < length p.domains
          go true same c = subst (λ j. j < length p.domains) (eqb-true (owner p m r (pos t -ℤ pos p.stages)) k same) owner-there
          go false other c = absurd (none-some x c)

      arrived : (k : ℕ) (x : LinkFlit) → (given t n k).arrives q ≡ Some x → (x.channel < link_channels p k) × (length ((state k t n).queue q x.channel) < p.buffer) × GoesHome p k x.flit
      arrived k x is = let come = (may k (owned k x is)).arrives q x is in (come.channel, come.room, come.home)

      port-in : PortIn p n q m own.names.ports z.dest_bits z.link_flit z.link_channel val t (λ k. state k t n) (given t n) word
      port-in = record {
        shown =
            ap val.net (own.named.link_in q (link-there p n q m e)) ∙ (linked t n below q m e).words_in ∙ sym (linked t m inside r n link.back).words_out
            ∙ ap from.net (sym ((held m inside).named.link_out r (link-there p m r n link.back)))
            ∙ (outs t m inside shared stands).links r (link-there p m r n link.back);
        its_own = its-own;
        channel = arrived;
        payload = λ x is. (outs t m inside shared stands).payloads r x (link-there p m r n link.back) is;
      }

      -- the bundle that comes in is the one that the neighbour gives out
      bundle-in : (b : ℕ) → b < credit_bits p → val.net (bundle_name (codes "ci") n q b) ≡ from.net (bundle_name (codes "co") m r b)
      bundle-in b few = go (nat_lt b 64) refl
        where
          go : (c : Bool) → nat_lt b 64 ≡ c
              → val.net (if c then name_with (codes "ci") (n ∷ q ∷ []) else name_with (codes "ci") (n ∷ q ∷ 1 ∷ [])) ≡ from.net (if c then name_with (codes "co") (m ∷ r ∷ []) else name_with (codes "co") (m ∷ r ∷ 1 ∷ []))
          go true is = (linked t n below q m e).credits_in ∙ sym (linked t m inside r n link.back).credits_out
          go false is =
              let many : 64 < credit_bits p = grind (arith, nat_tests) in
              (linked t n below q m e).more_in many ∙ sym ((linked t m inside r n link.back).more_out many)

      returned : (k x : ℕ) → k < length p.domains → x < link_channels p k
          → val.net (own.names.ports.credit_in q (z.base k + x)) / 2 ^ own.names.ports.credit_bit (z.base k + x) % 2 ≡ one_if ((given t n k).returns q x)
      returned k x there few =
          let inside_link = fits.below k x there few in
          ap (λ y. val.net y / 2 ^ own.names.ports.credit_bit (z.base k + x) % 2) (own.named.credit_in q (z.base k + x) (link-there p n q m e) inside_link)
          ∙ ap (λ y. val.net (bundle_name (codes "ci") n q (z.base k + x)) / 2 ^ y % 2) (own.named.credit_bit (z.base k + x) inside_link)
          ∙ ap (λ y. y / 2 ^ bundle_bit (z.base k + x) % 2) (bundle-in (z.base k + x) inside_link)
          ∙ credit-out t m inside shared stands r n k x link.back there few
          ∙ ap one_if (sym (return-at p (state k t) n q x m e))

      missing : (k x : ℕ) → (given t n k).returns q x ≡ true → (state k t n).credits q x < p.buffer
      missing k x is = credit-room p (state k t) n q m x (after-sum p k (fed_by k) t n q m x sound below e) (sym (return-at p (state k t) n q x m e) ∙ is)

    -- the tile that a link leads to
    leads : (o : ℕ) → HasLink p n o → (m : ℕ) × (neighbour p n o ≡ Some m)
    leads o link = go (neighbour p n o) refl link.1
      where
        go : (y : Option ℕ) → neighbour p n o ≡ y → is_some y ≡ true → (m : ℕ) × (neighbour p n o ≡ Some m)
        go None is there = absurd (false≢true there)
        go (Some m) is there = (m, is)

    pub leaf-in : LeafIn p n own.names.ports z.base z.dest_bits z.link_flit z.link_channel val t (λ k. state k t n) (given t n)
    leaf-in = record {
      links = λ q m e. (word q m e, port-in q m e);
      unlinked = λ k q none. arrival-none p (state k t) n q none;
      returns = λ k o x there link few. (let to = leads o link in returned o to.0 to.1 k x there few);
      room = λ k o x link is. (let to = leads o link in missing o to.0 to.1 k x is);
      offers = λ k there. (offered t n below k there, hearing t n below k there);
      payloads = payloads t n below;
      unhosted = λ k away. (ap (λ b. if b then offer_at (values t) (host_of k n) else None) away, ap (λ b. b && is_on (values t) (codes "hr") (host_of k n)) away);
    }
