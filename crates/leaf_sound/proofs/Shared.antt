-- What all domains of a leaf share, and its ports: what the lines declare of them.
use Rattle.std.proofs.Common.{◌≡◌, ℕ, zero, suc, ◌+◌, ◌-◌, ◌*◌, ◌^◌, ◌<◌, ◌≤◌, ◌⊎◌, inl, inr, Bool, true, false, ◌||◌, ◌&&◌, List, [], ◌∷◌, ◌++◌, map, length, refl, ◌∙◌, subst, arith, Option, Some, None, is_some, ◌==◌, nat_lt, min, codes, filter, flat_map, if◌then◌else◌, slice_index_or}
use Rattle.std.specs.List.{AllByRecursion, list_any}
use Rattle.std.proofs.lemmas.Bool.Decides.{nat_tests}
use Rattle.vl_tree.specs.declared.tree.Port.{Port}
use Rattle.vl_tree.specs.Values.{Name, reg}
use Rattle.vl_tree.specs.Tokens.{is_name}
use Rattle.vl_model.specs.declared.kind.Kind.TheVariants.{Input, Register}
use Rattle.vl_model.specs.Lines.{Line, port, declared, lookup}
use Rattle.vl_model.proofs.Passed.{all-front, all-back}
use Rattle.std.proofs.lemmas.Nat.{mul-le}
use Rattle.std.proofs.lemmas.List.Sums.{sum_by-cons}
use Rattle.noc_model.specs.declared.plan.DomainPart.{DomainPart}
use Rattle.noc_model.specs.declared.Host.{Host}
use Rattle.noc_model.specs.Plan.{Plan, tiles, ports, hosts, is_host, classes, all_link_channels}
use Rattle.noc_model.specs.Place.{neighbour, opposite}
use Rattle.noc_model.specs.Sound.{IsSound}
use Rattle.noc_model.specs.Events.{tabulate}
use Rattle.flit_word.specs.Words.{bits, dest_bits, channel_bits, flit_bits, link_bits}
use Rattle.gen_kit.specs.Ports.{host_ports, name_with}
use Rattle.gen_kit.specs.Shape.{Tied, host_ties, link_ties, second_ties, tile_head, credit_bits}
use Rattle.leaf_tie.specs.Slots.{slot_group, owned_nets}
use Rattle.leaf_tie.specs.Links.{link_group}
use Rattle.leaf_tie.specs.Tie.{HasLink}
use Rattle.leaf_tie.specs.Glue.{link_names, arrival_group}
use Rattle.leaf_tie.specs.Whole.{uses_slot}
use Rattle.leaf_tie.specs.Names.{owns_tag, arrival_tag, slot_tag, row_tag, leaf_names, net_names, port_names, credit_base, leaf_sizes, slot_high, inner_groups}
use Rattle.leaf_tie.proofs.Members.{Member}
use Rattle.leaf_tie.proofs.Grouped.{slot-member, in-shared}
use Rattle.leaf_sound.proofs.Keyed.{rank, rank-net, two-rank, three-rank}
use Rattle.leaf_sound.proofs.Outs.{map-append}
use Rattle.leaf_sound.proofs.Bits.{bits-few}
use Rattle.leaf_sound.proofs.Inner.{few-ports, few-classes}
use Rattle.leaf_sound.proofs.Typed.{Net}
use Rattle.leaf_sound.proofs.Plainly.{own-plain, pair-plain, triple-plain}
use Rattle.leaf_sound.proofs.Facts.{LineFound, ItemFound, heads-of, nets-of, each-has, ports-found}
use Rattle.leaf_sound.proofs.Domain.{Wire, wire-net, reg-net, ls, few-dests, few-word, few-words}

-- ---- one port among all

module _ (p : Plan) (n : ℕ) (P : Port → Type 0) where
  among-hosts : (hs : List Host) (d : ℕ) → list_any (is_host n d) hs ≡ true → AllByRecursion P (map (λ (t : Tied). t.port) (flat_map host_ties (filter (λ (h : Host). h.tile == n) hs))) → AllByRecursion P (host_ports (record { tile = n; domain = d }))
  among-hosts [] d some a = absurd (cc some)
  among-hosts (h ∷ hs) d some a = go (h.tile == n) refl (among-hosts hs d) a some
    where
      go : (b : Bool) → (h.tile == n) ≡ b → (list_any (is_host n d) hs ≡ true → AllByRecursion P (map (λ (t : Tied). t.port) (flat_map host_ties (filter (λ (h : Host). h.tile == n) hs))) → AllByRecursion P (host_ports (record { tile = n; domain = d })))
          → AllByRecursion P (map (λ (t : Tied). t.port) (flat_map host_ties (if b then h ∷ filter (λ (h : Host). h.tile == n) hs else filter (λ (h : Host). h.tile == n) hs))) → ((b && (h.domain == d)) || list_any (is_host n d) hs) ≡ true → AllByRecursion P (host_ports (record { tile = n; domain = d }))
      go false e rest a some = rest some a
      go true e rest a some = by (h.domain == d) refl some
        where
          parts : AllByRecursion P (host_ports h ++ map (λ (t : Tied). t.port) (flat_map host_ties (filter (λ (h : Host). h.tile == n) hs)))
          parts = a

          by : (c : Bool) → (h.domain == d) ≡ c → (c || list_any (is_host n d) hs) ≡ true → AllByRecursion P (host_ports (record { tile = n; domain = d }))
          by true same some =
              let is : h.tile ≡ n = grind (arith, nat_tests, e) in
              let its : h.domain ≡ d = grind (arith, nat_tests, same) in
              subst (λ t. AllByRecursion P (host_ports (record { tile = t; domain = d }))) is (subst (λ t. AllByRecursion P (host_ports (record { tile = h.tile; domain = t }))) its (all-front P (host_ports h) _ parts))
          by false other some = rest some (all-back P (host_ports h) _ parts)

  among-links : (k first : ℕ) (f : ℕ → ℕ) → ((i : ℕ) → f i ≡ first + i) → (q : ℕ) → first ≤ q → q < k + first → AllByRecursion P (map (λ (t : Tied). t.port) (flat_map (λ q. link_ties p n q (neighbour p n q)) (tabulate k f))) → AllByRecursion P (map (λ (t : Tied). t.port) (link_ties p n q (neighbour p n q)))
  among-links zero first f is q low less a = absurd (omega arith)
  among-links (suc k) first f is q low less a = go (λ h. among-links k (suc first) (λ i. f (suc i)) (λ i. is (suc i) ∙ omega arith) q h (omega arith) (all-back P (map (λ (t : Tied). t.port) (link_ties p n (f 0) (neighbour p n (f 0)))) _ parts)) order
    where
      parts : AllByRecursion P (map (λ (t : Tied). t.port) (link_ties p n (f 0) (neighbour p n (f 0))) ++ map (λ (t : Tied). t.port) (flat_map (λ q. link_ties p n q (neighbour p n q)) (tabulate k (λ i. f (suc i)))))
      parts = subst (AllByRecursion P) (map-append (link_ties p n (f 0) (neighbour p n (f 0))) (flat_map (λ q. link_ties p n q (neighbour p n q)) (tabulate k (λ i. f (suc i))))) a

      order : (suc first ≤ q) ⊎ (f 0 ≡ q)
      order = let at = is 0 in grind (arith, at)

      go : (suc first ≤ q → AllByRecursion P (map (λ (t : Tied). t.port) (link_ties p n q (neighbour p n q)))) → (suc first ≤ q) ⊎ (f 0 ≡ q) → AllByRecursion P (map (λ (t : Tied). t.port) (link_ties p n q (neighbour p n q)))
      go more (inl h) = more h
      go more (inr e) = subst (λ j. AllByRecursion P (map (λ (t : Tied). t.port) (link_ties p n j (neighbour p n j)))) e (all-front P (map (λ (t : Tied). t.port) (link_ties p n (f 0) (neighbour p n (f 0)))) _ parts)

  split : AllByRecursion P (tile_head p n).ports → AllByRecursion P (map (λ (t : Tied). t.port) (flat_map host_ties (filter (λ (h : Host). h.tile == n) p.hosts)) ++ map (λ (t : Tied). t.port) (flat_map (λ q. link_ties p n q (neighbour p n q)) (tabulate (ports p) (λ q. q))))
  split a = subst (AllByRecursion P) (map-append (flat_map host_ties (filter (λ (h : Host). h.tile == n) p.hosts)) (flat_map (λ q. link_ties p n q (neighbour p n q)) (tabulate (ports p) (λ q. q)))) a

  pub of-host : (d : ℕ) → hosts p n d ≡ true → AllByRecursion P (tile_head p n).ports → AllByRecursion P (host_ports (record { tile = n; domain = d }))
  of-host d there a = among-hosts p.hosts d there (all-front P (map (λ (t : Tied). t.port) (flat_map host_ties (filter (λ (h : Host). h.tile == n) p.hosts))) _ (split a))

  pub of-link : (q m : ℕ) → q < ports p → neighbour p n q ≡ Some m → AllByRecursion P (tile_head p n).ports → AllByRecursion P (map (λ (t : Tied). t.port) (link_ties p n q (Some m)))
  of-link q m less e a = subst (λ x. AllByRecursion P (map (λ (t : Tied). t.port) (link_ties p n q x))) e (among-links (ports p) 0 (λ q. q) (λ i. omega arith) q (omega arith) (omega arith) (all-back P (map (λ (t : Tied). t.port) (flat_map host_ties (filter (λ (h : Host). h.tile == n) p.hosts))) _ (split a)))

-- ---- an input, with its rank

pub record Given (lines : List Line) (x : Name) (h : ℕ) : Type 0 where
  pub its : Net lines Input x h
  pub at_rank : rank x ≡ 0

module _ (p : Plan) (n : ℕ) (sound : IsSound p) (inside : n < tiles p) where
  abbrev its : List Line
  its = ls p n sound inside

  small : n < 2 ^ 20
  small = let most = sound.tile_count in omega (arith, most)

  input-of : (a b d h : ℕ) → lookup its (name_with (a ∷ b ∷ []) (n ∷ d ∷ [])) ≡ Some (record { name = name_with (a ∷ b ∷ []) (n ∷ d ∷ []); kind = Input; high = h; last = 0 }) → h < 64 → is_name (name_with (a ∷ b ∷ []) (n ∷ d ∷ [])) ≡ true → rank (name_with (a ∷ b ∷ []) (n ∷ d ∷ [])) ≡ 0 → Given its (name_with (a ∷ b ∷ []) (n ∷ d ∷ [])) h
  input-of a b d h found few plain zero_rank = record { its = record { found = found; few = few; plain = plain; is_its = refl }; at_rank = zero_rank }

  module _ (d : ℕ) (there : d < length p.domains) (host : hosts p n d ≡ true) where
    low : d < 2 ^ 64
    low = let most = sound.domains.1 in omega (arith, most, there)

    n-low : n < 2 ^ 64
    n-low = let s = small in omega (arith, s)

    its-ports : AllByRecursion (λ q. LineFound its (declared (port q))) (host_ports (record { tile = n; domain = d }))
    its-ports = of-host p n (λ q. LineFound its (declared (port q))) d host (ports-found p n sound inside)

    pub offered : Given its ((port_names n).offered d) 0
    offered = input-of 111 118 d 0 its-ports.0 (omega arith) (pair-plain 111 118 n d refl refl small low) (two-rank 111 118 n d refl n-low low)

    pub address : Given its ((port_names n).address d) 31
    address = input-of 111 97 d 31 its-ports.1.0 (omega arith) (pair-plain 111 97 n d refl refl small low) (two-rank 111 97 n d refl n-low low)

    pub payload : Given its ((port_names n).payload d) 31
    payload = input-of 111 112 d 31 its-ports.1.1.0 (omega arith) (pair-plain 111 112 n d refl refl small low) (two-rank 111 112 n d refl n-low low)

    pub last : Given its ((port_names n).last d) 0
    last = input-of 111 108 d 0 its-ports.1.1.1.0 (omega arith) (pair-plain 111 108 n d refl refl small low) (two-rank 111 108 n d refl n-low low)

    pub hears : Given its ((port_names n).hears d) 0
    hears = input-of 104 114 d 0 its-ports.1.1.1.1.0 (omega arith) (pair-plain 104 114 n d refl refl small low) (two-rank 104 114 n d refl n-low low)

  some-domain : 0 < length p.domains
  some-domain = let one = sound.domains.0 in omega (arith, one)

  pub few-word-bits : channel_bits p + flit_bits p < 64
  few-word-bits = few-word p n sound inside 0 some-domain

  pub few-credits : credit_bits p ≤ 128
  few-credits = let all = go p.domains (λ k x less. (sound.channels k x less).1) in let most = sound.domains.1 in omega (arith, all, most)
    where
      go : (xs : List DomainPart) → ((k : ℕ) (x : DomainPart) → k < length xs → (slice_index_or xs k x).channels ≤ 4) → all_link_channels (classes p) xs ≤ 8 * length xs
      go [] h = omega arith
      go (x ∷ xs) h =
          let first : x.channels ≤ 4 = h 0 x (omega arith) in
          let two = (few-classes p).1 in
          let most : classes p * x.channels ≤ 2 * 4 = mul-le (classes p) x.channels 2 4 two first in
          let rest = go xs (λ k y less. h (suc k) y (omega arith)) in
          let split = sum_by-cons (λ (x : DomainPart). classes p * x.channels) x xs in
          omega (arith, most, rest, split)

  module _ (q : ℕ) (link : HasLink p n q) where
    pub some-m : (m : ℕ) × (neighbour p n q ≡ Some m)
    some-m = go (neighbour p n q) refl link.1
      where
        go : (x : Option ℕ) → neighbour p n q ≡ x → is_some x ≡ true → (m : ℕ) × (neighbour p n q ≡ Some m)
        go None e some = absurd (cc some)
        go (Some m) e some = (m, e)

    low-q : q < 2 ^ 64
    low-q = let few = few-ports p sound in let less = link.0 in omega (arith, few, less)

    n-small : n < 2 ^ 64
    n-small = let s = small in omega (arith, s)

    link-ports : AllByRecursion (λ x. LineFound its (declared (port x))) (map (λ (t : Tied). t.port) (link_ties p n q (Some some-m.0)))
    link-ports = of-link p n (λ x. LineFound its (declared (port x))) q some-m.0 link.0 some-m.1 (ports-found p n sound inside)

    pub link-in : Given its ((port_names n).link_in q) (link_bits p - 1)
    link-in = input-of 108 105 q (link_bits p - 1) link-ports.0 (let few = few-word-bits in omega (arith, few)) (pair-plain 108 105 n q refl refl small low-q) (two-rank 108 105 n q refl n-small low-q)

    pub first-credits : Given its (name_with (codes "ci") (n ∷ q ∷ [])) (min (credit_bits p) 64 - 1)
    first-credits = input-of 99 105 q (min (credit_bits p) 64 - 1) link-ports.1.1.0 (omega arith) (pair-plain 99 105 n q refl refl small low-q) (two-rank 99 105 n q refl n-small low-q)

    pub second-credits : nat_lt 64 (credit_bits p) ≡ true → Given its (name_with (codes "ci") (n ∷ q ∷ 1 ∷ [])) (credit_bits p - 64 - 1)
    second-credits two = record {
      its = record {
        found = (let more : AllByRecursion (λ x. LineFound its (declared (port x))) (map (λ (t : Tied). t.port) (second_ties p n q some-m.0 (opposite q))) = subst (λ b. AllByRecursion (λ x. LineFound its (declared (port x))) (map (λ (t : Tied). t.port) (if b then second_ties p n q some-m.0 (opposite q) else []))) two link-ports.1.1.1.1 in more.0);
        few = (let few = few-credits in omega (arith, few));
        plain = triple-plain 99 105 n q refl refl small low-q;
        is_its = refl;
      };
      at_rank = three-rank 99 105 n q refl n-small low-q;
    }

    -- ---- the link's registers and nets

    few-q : q < 8
    few-q = let few = few-ports p sound in let less = link.0 in omega (arith, few, less)

    arrival-nets : AllByRecursion (ItemFound its) (arrival_group p n net_names (port_names n) (leaf_sizes p) (dest_bits p) q).nets
    arrival-nets = nets-of p n sound inside (arrival_group p n net_names (port_names n) (leaf_sizes p) (dest_bits p) q) (in-shared p n leaf_names net_names (port_names n) (credit_base p) (leaf_sizes p) (slot_high p) (dest_bits p) (flit_bits p) (channel_bits p) [] (arrival_group p n net_names (port_names n) (leaf_sizes p) (dest_bits p) q) q link (inl refl))

    arrival-heads : AllByRecursion (ItemFound its) (arrival_group p n net_names (port_names n) (leaf_sizes p) (dest_bits p) q).heads
    arrival-heads = heads-of p n sound inside (arrival_group p n net_names (port_names n) (leaf_sizes p) (dest_bits p) q) (in-shared p n leaf_names net_names (port_names n) (credit_base p) (leaf_sizes p) (slot_high p) (dest_bits p) (flit_bits p) (channel_bits p) [] (arrival_group p n net_names (port_names n) (leaf_sizes p) (dest_bits p) q) q link (inl refl))

    pub goal : Wire its (net_names.goal q) (dest_bits p - 1) (2048 * (1536 + q) + 0 + 1)
    goal = record { its = wire-net its arrival-nets.0 (let few = few-dests p n sound inside in omega (arith, few)) (own-plain (arrival_tag q) 0 (let l = few-q in omega (arith, l)) (omega arith)); at_rank = rank-net (arrival_tag q) 0 (omega arith) (let l = few-q in omega (arith, l)) (omega arith) }

    pub stored : Wire its (net_names.stored q) (leaf_sizes p).wh (2048 * (1536 + q) + 1 + 1)
    stored = record { its = wire-net its arrival-heads.0 (few-words p n sound inside 0 some-domain) (own-plain (arrival_tag q) 1 (let l = few-q in omega (arith, l)) (omega arith)); at_rank = rank-net (arrival_tag q) 1 (omega arith) (let l = few-q in omega (arith, l)) (omega arith) }

    pub row : (i : ℕ) → i < p.stages - 1 + 1 → Net its Register (leaf_names.row q i) (channel_bits p + flit_bits p)
    row i less =
        reg-net its (each-has (ItemFound its) (p.stages - 1 + 1) (λ i. reg (channel_bits p + flit_bits p) (leaf_names.row q i) ∷ []) i less (heads-of p n sound inside (link_group (link_names p n leaf_names net_names q) (channel_bits p + flit_bits p) (length p.domains) (p.stages - 1))
        (in-shared p n leaf_names net_names (port_names n) (credit_base p) (leaf_sizes p) (slot_high p) (dest_bits p) (flit_bits p) (channel_bits p) [] (link_group (link_names p n leaf_names net_names q) (channel_bits p + flit_bits p) (length p.domains) (p.stages - 1)) q link (inr (inl refl))))).0
        few-word-bits (own-plain (row_tag q) i (let l = few-q in omega (arith, l)) (let few = sound.stages.1 in omega (arith, few, less)))

  -- ---- slots

  module _ (k : ℕ) (below : k < length p.slots) (used : uses_slot p n k ≡ true) where
    slot-its : Member (slot_group (leaf_names.slot k) (slot_high p) p.slots (length p.domains) k) (inner_groups p n)
    slot-its = slot-member p n leaf_names net_names (port_names n) (credit_base p) (leaf_sizes p) (slot_high p) (dest_bits p) (flit_bits p) (channel_bits p) [] k below used

    pub few-slot : slot_high p < 64
    few-slot = let most : bits (length p.slots) ≤ 6 = bits-few 6 (length p.slots) (omega arith) (let most = sound.slot_count.1 in omega (arith, most)) in omega (arith, most)

    pub counter : Net its Register (leaf_names.slot k).count (slot_high p)
    counter = reg-net its (heads-of p n sound inside (slot_group (leaf_names.slot k) (slot_high p) p.slots (length p.domains) k) slot-its).0 few-slot (own-plain (slot_tag k) 0 (let most = sound.slot_count.1 in omega (arith, most, below)) (omega arith))

    pub owns : (e : ℕ) → e < length p.domains → Wire its ((leaf_names.slot k).owns e) 0 (2048 * (1024 + k) + e + 1)
    owns e less = record {
      its = wire-net its (each-has (ItemFound its) (length p.domains) (owned_nets (leaf_names.slot k) (slot_high p) p.slots) e less (nets-of p n sound inside (slot_group (leaf_names.slot k) (slot_high p) p.slots (length p.domains) k) slot-its)).0 (omega arith) (own-plain (owns_tag k) e (let most = sound.slot_count.1 in omega (arith, most, below)) (let most = sound.domains.1 in omega (arith, most, less)));
      at_rank = rank-net (owns_tag k) e (omega arith) (let most = sound.slot_count.1 in omega (arith, most, below)) (let most = sound.domains.1 in omega (arith, most, less));
    }
