-- What a domain's groups declare, with ranks: the nets and registers of a leaf by their names.
use Rattle.std.proofs.Common.{◌≡◌, ℕ, zero, suc, ◌+◌, ◌-◌, ◌*◌, ◌^◌, ◌<◌, ◌≤◌, ◌⊎◌, inl, inr, Bool, true, false, List, [], ◌∷◌, ◌++◌, length, refl, sym, ◌∙◌, ap, subst, arith, Option, Some, None, is_some, slice_index_or, nat_le, if◌then◌else◌}
use Rattle.std.specs.List.{AllByRecursion}
use Rattle.vl_tree.specs.declared.tree.Op.TheVariants.{And, Or}
use Rattle.vl_tree.specs.Values.{Name, Expr, wire, reg, assign, net, bit, part, not, two, choose, cat}
use Rattle.vl_tree.specs.Tokens.{is_name}
use Rattle.vl_model.specs.declared.kind.Kind.TheVariants.{Inner, Register, Memory}
use Rattle.vl_model.specs.Lines.{Line, lookup, kind_passes, is_register, is_output}
use Rattle.vl_model.proofs.Passed.{all-front, all-back}
use Rattle.noc_model.specs.declared.Range.{Range}
use Rattle.noc_model.specs.declared.plan.DomainPart.{DomainPart}
use Rattle.noc_model.specs.Plan.{classes, Plan, tiles, ports, hosts, channels, link_channels, in_channels, at_local}
use Rattle.noc_model.specs.Place.{neighbour}
use Rattle.noc_model.specs.Sound.{IsSound}
use Rattle.flit_word.specs.Words.{dest_bits, channel_bits, flit_bits, max_channels, max_link_channels}
use Rattle.gen_kit.specs.Families.{for_each, or_upto, row_parts, defined, in_bits}
use Rattle.gen_kit.specs.Groups.{Group}
use Rattle.gen_kit.specs.Rotate.{rotate_group}
use Rattle.leaf_tie.specs.Alloc.{alloc_group, has_one, lone_requests, class_requests, class_nets, taken_nets, asks_class, out_count}
use Rattle.leaf_tie.specs.Switch.{switch_group, lone_switch_group, lone_choice, lone_heads, lone_nets, port_nets, output_nets, grant_nets, place_count}
use Rattle.leaf_tie.specs.Buffers.{buffer_group}
use Rattle.leaf_tie.specs.Counts.{idle_group, credit_group}
use Rattle.leaf_tie.specs.Attach.{attach_group, enter_at, look_nets, looked, room_expr, entry_word, reach}
use Rattle.leaf_tie.specs.Tie.{HasLink, alloc_size, is_lone}
use Rattle.leaf_tie.specs.Glue.{switch_names, switch_size, switch_part, attach_names, attach_size, current_high, high, out_high, has_port, filled_group, tails_group, led_group, ends_group, ready_group, unready_group, on_group, freed_group, flit_group, word_group, eject_group, pulse_group, link_push, pop_of}
use Rattle.leaf_tie.specs.Whole.{each_group, channel_groups, local_groups, domain_groups}
use Rattle.leaf_tie.specs.Names.{own, buffer_tag, net_tag, register_tag, leaf_names, net_names, port_names, credit_base, leaf_sizes, slot_high, inner_groups}
use Rattle.leaf_tie.proofs.Members.{Member, in-back}
use Rattle.leaf_tie.proofs.Grouped.{in-domain, before, unready-member, middle, behind, sent, channel, linked-member, local, entered-member}
use Rattle.leaf_tie.proofs.Sized.{place_count-is, out-link, port-has}
use Rattle.leaf_sound.proofs.Keyed.{rank}
use Rattle.leaf_sound.proofs.Ranked.{at, net-rank, front-rank, empty-rank}
use Rattle.leaf_sound.proofs.Bits.{bits-few, index-few, count-few}
use Rattle.leaf_sound.proofs.Inner.{few-classes, few-channels, few-links, few-ports, few-ranges}
use Rattle.leaf_sound.proofs.Typed.{Net, Is, net-is}
use Rattle.leaf_sound.proofs.Walk.{May}
use Rattle.leaf_sound.proofs.Plainly.{own-plain}
use Rattle.leaf_sound.proofs.Facts.{ItemFound, lines, heads-of, nets-of, each-has, port-is}
use Rattle.std.proofs.lemmas.Bool.Decides.{nat_tests}
use Rattle.std.proofs.lemmas.Nat.{mul-le}

-- ---- a wire with its rank, a register

module _ (ls : List Line) where
  pub record Wire (x : Name) (h r : ℕ) : Type 0 where
    pub its : Net ls Inner x h
    pub at_rank : rank x ≡ r

  pub wire-net : {x : Name} {h : ℕ} → ItemFound ls (wire h x) → h < 64 → is_name x ≡ true → Net ls Inner x h
  wire-net found few plain = record { found = found; few = few; plain = plain; is_its = refl }

  pub reg-net : {x : Name} {h : ℕ} → ItemFound ls (reg h x) → h < 64 → is_name x ≡ true → Net ls Register x h
  reg-net found few plain = record { found = found; few = few; plain = plain; is_its = refl }

  -- what an assign may read
  pub by-register : (t : Name) {m : Name} {h : ℕ} → Net ls Register m h → May ls t m
  by-register t x = inl (ap (kind_passes is_register) x.found)

  pub by-rank : (t m : Name) {k : ℕ} (s r : ℕ) → Wire t k s → rank m ≡ r → r < s → May ls t m
  by-rank t m s r x is less = inr ((let top = x.at_rank in omega (arith, top, is)), ap (kind_passes is_output) x.its.found)

  pub reg-in : (t : Name) {m : Name} {h : ℕ} → Net ls Register m h → Is ls (May ls t) (net m) (h + 1) 1
  reg-in t x = net-is ls (May ls t) x (by-register t x)

  pub wire-in : {t m : Name} {h k r s : ℕ} → Wire t k s → Wire m h r → r < s → Is ls (May ls t) (net m) (h + 1) 1
  wire-in {t} {m} {h} {k} {r} {s} x y less = net-is ls (May ls t) y.its (by-rank t m s r x y.at_rank less)

module _ (p : Plan) (n : ℕ) (sound : IsSound p) (inside : n < tiles p) where
  pub few-dests : dest_bits p ≤ 8
  few-dests = bits-few 8 (tiles p) (omega arith) (let most = sound.tile_count in omega (arith, most))

  abbrev pub ls : List Line
  ls = lines p n sound inside

  module _ (d : ℕ) (there : d < length p.domains) where
    pub few-d : d < 16
    few-d = let most = sound.domains.1 in omega (arith, most, there)

    pub links : (1 ≤ link_channels p d) × (link_channels p d ≤ 8)
    links = few-links p d sound there

    pub few-high : high p d < 64
    few-high = let a = few-ports p sound in let b = links.1 in let all = mul-le (ports p) (link_channels p d) 7 8 a b in omega (arith, all)

    net-plain : (s o i : ℕ) → s < 16 → o < 8 → i < 2048 → is_name (own (net_tag d s o) i) ≡ true
    net-plain s o i a b c = let e = few-d in own-plain (net_tag d s o) i (omega (arith, e)) (omega arith)

    reg-plain : (s o i : ℕ) → s < 8 → o < 8 → i < 2048 → is_name (own (register_tag d s o) i) ≡ true
    reg-plain s o i a b c = let e = few-d in own-plain (register_tag d s o) i (omega (arith, e)) (omega arith)

    wire-of : (s o i h : ℕ) → ItemFound ls (wire h (own (net_tag d s o) i)) → h < 64 → s < 16 → o < 8 → i < 2048 → Wire ls (own (net_tag d s o) i) h (at d s o + i + 1)
    wire-of s o i h found few a b c = record { its = wire-net ls found few (net-plain s o i a b c); at_rank = net-rank d s o i few-d a b c }

    reg-of : (s o i h : ℕ) → ItemFound ls (reg h (own (register_tag d s o) i)) → h < 64 → s < 8 → o < 8 → i < 2048 → Net ls Register (own (register_tag d s o) i) h
    reg-of s o i h found few a b c = reg-net ls found few (reg-plain s o i a b c)

    pub few-o : (o : ℕ) → o < ports p → o < 8
    few-o o less = let few = few-ports p sound in omega (arith, few, less)

    -- ---- what is there

    in-its : (g : Group) → Member g (domain_groups p n leaf_names net_names (port_names n) (credit_base p) (leaf_sizes p) (dest_bits p) (flit_bits p) (channel_bits p) d) → Member g (inner_groups p n)
    in-its g m = in-domain p n leaf_names net_names (port_names n) (credit_base p) (leaf_sizes p) (slot_high p) (dest_bits p) (flit_bits p) (channel_bits p) [] d there g m

    pub filled : Wire ls (net_names.filled d) (high p d) (at d 0 0 + 0 + 1)
    filled = wire-of 0 0 0 (high p d) (nets-of p n sound inside (filled_group p n leaf_names net_names d) (in-its (filled_group p n leaf_names net_names d) (inl refl))).0 few-high (omega arith) (omega arith) (omega arith)

    pub tails : Wire ls (net_names.tails d) (high p d) (at d 0 0 + 1 + 1)
    tails = wire-of 0 0 1 (high p d) (nets-of p n sound inside (tails_group p n leaf_names net_names (dest_bits p) d) (in-its (tails_group p n leaf_names net_names (dest_bits p) d) (inr (inl refl)))).0 few-high (omega arith) (omega arith) (omega arith)

    -- ---- buffers

    pub record Buffer (port c : ℕ) : Type 0 where
      pub memory : lookup ls (leaf_names.buffer d port c).memory ≡ Some (record { name = (leaf_names.buffer d port c).memory; kind = Memory; high = (leaf_sizes p).wh; last = 2 ^ ((leaf_sizes p).bh + 1) - 1 })
      pub memory_plain : is_name (leaf_names.buffer d port c).memory ≡ true
      pub read : Net ls Register (leaf_names.buffer d port c).read (leaf_sizes p).bh
      pub write : Net ls Register (leaf_names.buffer d port c).write (leaf_sizes p).bh
      pub count : Net ls Register (leaf_names.buffer d port c).count (leaf_sizes p).lh
      pub front : Wire ls (leaf_names.buffer d port c).front (leaf_sizes p).wh (2048 * buffer_tag d port c + 1)
      pub empty : Wire ls (leaf_names.buffer d port c).empty 0 (2048 * buffer_tag d port c + 2)
      pub push : Wire ls (leaf_names.buffer d port c).push 0 (at d (at_local port 13 10) port + 2 * c + 1)
      pub pop : Wire ls (leaf_names.buffer d port c).pop 0 (at d (at_local port 13 10) port + (2 * c + 1) + 1)

    pub few-words : (leaf_sizes p).wh < 64
    few-words = let a = few-ports p sound in let b = few-dests in omega (arith, a, b)

    pub few-index : (leaf_sizes p).bh < 64
    few-index = let a = index-few p.buffer in omega (arith, a)

    pub few-count : (leaf_sizes p).lh < 64
    few-count = let a = count-few p.buffer in omega (arith, a)

    pub low-tag : (port c : ℕ) → port < 7 → c < 8 → buffer_tag d port c < 1024
    low-tag zero c a b = let e = few-d in omega (arith, e)
    low-tag (suc port) c a b = let e = few-d in omega (arith, e)

    pub low-stage : (port : ℕ) → at_local port 13 10 < 16
    low-stage zero = omega arith
    low-stage (suc port) = omega arith

    buffer-by : (push pop : Expr) (port c : ℕ) → port < 7 → c < 8 → Member (buffer_group (leaf_names.buffer d port c) (leaf_sizes p) push pop) (inner_groups p n) → Buffer port c
    buffer-by push pop port c low few m =
        let h = heads-of p n sound inside (buffer_group (leaf_names.buffer d port c) (leaf_sizes p) push pop) m in
        let t = low-tag port c low few in
        let s = low-stage port in
        record {
          memory = h.1.1.0;
          memory_plain = own-plain (buffer_tag d port c) 0 (omega (arith, t)) (omega arith);
          read = reg-net ls h.1.1.1.0 few-index (own-plain (buffer_tag d port c) 1 (omega (arith, t)) (omega arith));
          write = reg-net ls h.1.1.1.1.0 few-index (own-plain (buffer_tag d port c) 2 (omega (arith, t)) (omega arith));
          count = reg-net ls h.1.1.1.1.1.0 few-count (own-plain (buffer_tag d port c) 3 (omega (arith, t)) (omega arith));
          front = record { its = wire-net ls h.1.1.1.1.1.1.0 few-words (own-plain (buffer_tag d port c) 4 (omega (arith, t)) (omega arith)); at_rank = front-rank (buffer_tag d port c) t };
          empty = record { its = wire-net ls h.1.1.1.1.1.1.1.1.0 (omega arith) (own-plain (buffer_tag d port c) 5 (omega (arith, t)) (omega arith)); at_rank = empty-rank (buffer_tag d port c) t };
          push = wire-of (at_local port 13 10) port (2 * c) 0 h.0 (omega arith) s (omega arith) (omega arith);
          pop = wire-of (at_local port 13 10) port (2 * c + 1) 0 h.1.0 (omega arith) s (omega arith) (omega arith);
        }

    pub buffer : (port c : ℕ) → port < ports p → has_port p n d port ≡ true → c < in_channels p d port → Buffer port c
    buffer zero c low has less =
        let few = (few-channels p d sound there).1 in
        buffer-by (enter_at (attach_names leaf_names net_names d) (attach_size p (leaf_sizes p) (dest_bits p) d) c) (pop_of p net_names d 0 c) 0 c (omega arith) (omega (arith, few, less))
        (entered-member p n leaf_names net_names (port_names n) (credit_base p) (leaf_sizes p) (slot_high p) (dest_bits p) (flit_bits p) (channel_bits p) [] d there c has less)
    buffer (suc port) c low has less = go (neighbour p n (suc port)) refl has
      where
        go : (m : Option ℕ) → neighbour p n (suc port) ≡ m → is_some m ≡ true → Buffer (suc port) c
        go None e some = absurd (cc some)
        go (Some m) e some =
            let few = links.1 in let most = few-ports p sound in
            buffer-by (link_push p leaf_names (port_names n) (flit_bits p) (channel_bits p) d (suc port) m c) (pop_of p net_names d (suc port) c) (suc port) c (omega (arith, most, low)) (omega (arith, few, less))
            (linked-member p n leaf_names net_names (port_names n) (credit_base p) (leaf_sizes p) (slot_high p) (dest_bits p) (flit_bits p) (channel_bits p) [] d there (suc port) m c e less)

    -- ---- allocation

    pub places : place_count (switch_size p d) - 1 ≡ high p d
    places = let is = place_count-is p d (few-channels p d sound there).0 in omega (arith, is)

    pub few-outs : (o : ℕ) → (1 ≤ out_count (alloc_size p d o)) × (out_count (alloc_size p d o) ≤ 8)
    few-outs zero = (omega arith, omega arith)
    few-outs (suc o) = let is = out-link p d (suc o) (few-channels p d sound there).0 (λ e. omega arith) in let some = links in (let a = some.0 in omega (arith, is, a), let b = some.1 in omega (arith, is, b))

    module _ (o : ℕ) (low : o < ports p) (has : has_port p n d o ≡ true) where
      alloc-heads : AllByRecursion (ItemFound ls) (alloc_group p d n o (leaf_names.alloc d o) (alloc_size p d o)).heads
      alloc-heads = heads-of p n sound inside (alloc_group p d n o (leaf_names.alloc d o) (alloc_size p d o)) (before p n leaf_names net_names (port_names n) (credit_base p) (leaf_sizes p) (slot_high p) (dest_bits p) (flit_bits p) (channel_bits p) [] d there (alloc_group p d n o (leaf_names.alloc d o) (alloc_size p d o)) o (port-is p n d o low has) (inr (inl refl)))

      alloc-nets : AllByRecursion (ItemFound ls) (alloc_group p d n o (leaf_names.alloc d o) (alloc_size p d o)).nets
      alloc-nets = nets-of p n sound inside (alloc_group p d n o (leaf_names.alloc d o) (alloc_size p d o)) (before p n leaf_names net_names (port_names n) (credit_base p) (leaf_sizes p) (slot_high p) (dest_bits p) (flit_bits p) (channel_bits p) [] d there (alloc_group p d n o (leaf_names.alloc d o) (alloc_size p d o)) o (port-is p n d o low has) (inr (inl refl)))

      pub waiting : Net ls Register (leaf_names.alloc d o).waiting (high p d)
      waiting = reg-of 0 o 0 (high p d) alloc-heads.0 few-high (omega arith) (few-o o low) (omega arith)

      pub held : Net ls Register (leaf_names.alloc d o).held (out_count (alloc_size p d o) - 1)
      held = reg-of 0 o 1 (out_count (alloc_size p d o) - 1) alloc-heads.1.0 (let few = (few-outs o).1 in omega (arith, few)) (omega arith) (few-o o low) (omega arith)

      pub pointer : Net ls Register (leaf_names.alloc d o).choice.pointer (high p d)
      pointer = reg-of 0 o 2 (high p d) alloc-heads.1.1.0 few-high (omega arith) (few-o o low) (omega arith)

      pub active : (w : ℕ) → w < out_count (alloc_size p d o) → Net ls Register ((leaf_names.alloc d o).active w) (high p d)
      active w less = reg-of 0 o (3 + w) (high p d) (each-has (ItemFound ls) (out_count (alloc_size p d o)) (λ w. reg (high p d) ((leaf_names.alloc d o).active w) ∷ []) w less alloc-heads.1.1.1).0 few-high (omega arith) (few-o o low) (let few = (few-outs o).1 in omega (arith, few, less))

      pub few-last : (alloc_size p d o).last ≤ 1
      few-last = go o
        where
          go : (o : ℕ) → (alloc_size p d o).last ≤ 1
          go zero = omega arith
          go (suc o) = let few = (few-classes p).1 in omega (arith, few)

      pub few-size : (alloc_size p d o).size ≤ 3
      few-size = go o
        where
          go : (o : ℕ) → (alloc_size p d o).size ≤ 3
          go zero = omega arith
          go (suc o) = let few = (few-channels p d sound there).1 in omega (arith, few)

      after-classes : AllByRecursion (ItemFound ls) (class_requests p d n o (leaf_names.alloc d o)
          (alloc_size p d o)) → AllByRecursion (ItemFound ls) (wire (high p d)
          (leaf_names.alloc d o).choice.request ∷ assign (leaf_names.alloc d o).choice.request (or_upto
          (alloc_size p d o).last (asks_class p d n o (leaf_names.alloc d o) (alloc_size p d o)))
          ∷ ((rotate_group (leaf_names.alloc d o).choice (high p d)).nets ++ for_each ((alloc_size p d o).last + 1) (taken_nets p d n o (leaf_names.alloc d o) (alloc_size p d o))))
      after-classes a = all-back (ItemFound ls) (for_each ((alloc_size p d o).last + 1) (class_nets
          (leaf_names.alloc d o) (alloc_size p d o))) _ a

      -- with one channel and with more there are the request, what is chosen from, and the winner
      choice-found : (b : Bool) → AllByRecursion (ItemFound ls) (if b then lone_requests (leaf_names.alloc d o)
          (alloc_size p d o) else class_requests p d n o (leaf_names.alloc d o) (alloc_size p d o))
          → ItemFound ls (wire (high p d) (leaf_names.alloc d o).choice.request) × ItemFound ls (wire (high p d)
          (leaf_names.alloc d o).choice.some) × ItemFound ls (wire (high p d) (leaf_names.alloc d o).choice.winner)
      choice-found true a = (a.0, a.1.1.0, a.1.1.1.1.0)
      choice-found false a = let r = after-classes a in (r.0, r.1.1.0, r.1.1.1.1.0)

      pub request : Wire ls (leaf_names.alloc d o).choice.request (high p d) (at d 1 o + 5 + 1)
      request = wire-of 1 o 5 (high p d) (choice-found (has_one (alloc_size p d o)) alloc-nets).0 few-high
          (omega arith) (few-o o low) (omega arith)

      pub some : Wire ls (leaf_names.alloc d o).choice.some (high p d) (at d 1 o + 6 + 1)
      some = wire-of 1 o 6 (high p d) (choice-found (has_one (alloc_size p d o)) alloc-nets).1 few-high (omega arith)
          (few-o o low) (omega arith)

      pub winner : Wire ls (leaf_names.alloc d o).choice.winner (high p d) (at d 1 o + 7 + 1)
      winner = wire-of 1 o 7 (high p d) (choice-found (has_one (alloc_size p d o)) alloc-nets).2 few-high
          (omega arith) (few-o o low) (omega arith)

      -- with more channels than one
      module _ (more : has_one (alloc_size p d o) ≡ false) where
        class-found : AllByRecursion (ItemFound ls) (class_requests p d n o (leaf_names.alloc d o) (alloc_size p d o))
        class-found = subst (λ b. AllByRecursion (ItemFound ls) (if b then lone_requests (leaf_names.alloc d o)
            (alloc_size p d o) else class_requests p d n o (leaf_names.alloc d o) (alloc_size p d o))) more alloc-nets

        class-has : (k : ℕ) → k < (alloc_size p d o).last + 1 → AllByRecursion (ItemFound ls) (class_nets (leaf_names.alloc d o) (alloc_size p d o) k)
        class-has k less = each-has (ItemFound ls) ((alloc_size p d o).last + 1) (class_nets (leaf_names.alloc d o)
            (alloc_size p d o)) k less (all-front (ItemFound ls) (for_each ((alloc_size p d o).last + 1) (class_nets
            (leaf_names.alloc d o) (alloc_size p d o))) _ class-found)

        pub free : (k : ℕ) → k < (alloc_size p d o).last + 1 → Wire ls ((leaf_names.alloc d o).free k) (alloc_size p d o).size (at d 1 o + (1 + 2 * k) + 1)
        free k less = let few = few-last in let small = few-size in wire-of 1 o (1 + 2 * k) (alloc_size p d o).size (class-has k less).0 (omega (arith, small)) (omega arith) (few-o o low) (omega (arith, few, less))

        pub least : (k : ℕ) → k < (alloc_size p d o).last + 1 → Wire ls ((leaf_names.alloc d o).least k) (alloc_size p d o).size (at d 1 o + (2 + 2 * k) + 1)
        least k less = let few = few-last in let small = few-size in wire-of 1 o (2 + 2 * k) (alloc_size p d o).size (class-has k less).1.1.0 (omega (arith, small)) (omega arith) (few-o o low) (omega (arith, few, less))

        pub taken : (k : ℕ) → k < (alloc_size p d o).last + 1 → Wire ls ((leaf_names.alloc d o).taken k) (alloc_size p d o).size (at d 1 o + (8 + k) + 1)
        taken k less =
            let few = few-last in let small = few-size in
            wire-of 1 o (8 + k) (alloc_size p d o).size (each-has (ItemFound ls) ((alloc_size p d o).last + 1)
            (taken_nets p d n o (leaf_names.alloc d o) (alloc_size p d o)) k less
            (after-classes class-found).1.1.1.1.1.1).0 (omega (arith, small)) (omega arith) (few-o o low) (omega
            (arith, few, less))

      pub led : Wire ls (leaf_names.alloc d o).led (high p d) (at d 1 o + 0 + 1)
      led = wire-of 1 o 0 (high p d) (nets-of p n sound inside (led_group p n leaf_names net_names (dest_bits p) d o) (before p n leaf_names net_names (port_names n) (credit_base p) (leaf_sizes p) (slot_high p) (dest_bits p) (flit_bits p) (channel_bits p) [] d there (led_group p n leaf_names net_names (dest_bits p) d o) o (port-is p n d o low has) (inl refl))).0 few-high (omega arith) (few-o o low) (omega arith)

      pub freed : Wire ls (leaf_names.alloc d o).freed (out_high p d o) (at d 8 o + 0 + 1)
      freed = wire-of 8 o 0 (out_high p d o) (nets-of p n sound inside (freed_group p leaf_names net_names d o) (behind p n leaf_names net_names (port_names n) (credit_base p) (leaf_sizes p) (slot_high p) (dest_bits p) (flit_bits p) (channel_bits p) [] d there (freed_group p leaf_names net_names d o) o (port-is p n d o low has) (inl refl))).0 (let few = (few-outs o).1 in omega (arith, few)) (omega arith) (few-o o low) (omega arith)

      pub flit : Wire ls (net_names.flit d o) (33 + dest_bits p) (at d 8 o + 1 + 1)
      flit = wire-of 8 o 1 (33 + dest_bits p) (nets-of p n sound inside (flit_group p leaf_names net_names (dest_bits p) d o) (behind p n leaf_names net_names (port_names n) (credit_base p) (leaf_sizes p) (slot_high p) (dest_bits p) (flit_bits p) (channel_bits p) [] d there (flit_group p leaf_names net_names (dest_bits p) d o) o (port-is p n d o low has) (inr (inl refl)))).0 (let few = few-dests in omega (arith, few)) (omega arith) (few-o o low) (omega arith)

    -- there, or among more channels than one
    pub ready : (o : ℕ) → o < ports p → (is_lone p d ≡ true → has_port p n d o ≡ true) → Wire ls
        (net_names.ready d o) (high p d) (at d 1 o + 10 + 1)
    ready o low has = go (has_port p n d o) (is_lone p d) refl refl
      where
        go : (b c : Bool) → has_port p n d o ≡ b → is_lone p d ≡ c → Wire ls (net_names.ready d o) (high p d)
            (at d 1 o + 10 + 1)
        go true c e is = wire-of 1 o 10 (high p d) (nets-of p n sound inside (ready_group p n leaf_names net_names
            (port_names n) (leaf_sizes p) d o) (before p n leaf_names net_names (port_names n) (credit_base p)
            (leaf_sizes p) (slot_high p) (dest_bits p) (flit_bits p) (channel_bits p) [] d there
            (ready_group p n leaf_names net_names (port_names n) (leaf_sizes p) d o) o (port-is p n d o low e) (inr
            (inr (inl refl))))).0 few-high (omega arith) (few-o o low) (omega arith)
        go false true e is = absurd (cc (sym e ∙ has is))
        go false false e is =
            let found = nets-of p n sound inside (unready_group p net_names d o)
            (unready-member p n leaf_names net_names (port_names n) (credit_base p) (leaf_sizes p) (slot_high p)
            (dest_bits p) (flit_bits p) (channel_bits p) [] d there o low (λ has. cc
            (sym e ∙ port-has p n d o has))) in
            let its = subst (λ b. AllByRecursion (ItemFound ls) (if b then [] else defined (high p d)
            (net_names.ready d o) (in_bits (high p d + 1) 0))) is found in
            wire-of 1 o 10 (high p d) its.0 few-high (omega arith) (few-o o low) (omega arith)

    -- ---- the switch

    pub few-places : place_count (switch_size p d) - 1 < 64
    few-places = let is = places in let few = few-high in omega (arith, is, few)

    pub few-links-high : link_channels p d - 1 < 64
    few-links-high = let few = links.1 in omega (arith, few)

    pub few-ports-high : ports p - 1 < 64
    few-ports-high = let few = few-ports p sound in omega (arith, few)

    pub low-port : (o : ℕ) → o < ports p - 1 + 1 → o < 8
    low-port o less = let few = few-ports p sound in omega (arith, few, less)

    switch-member : Member (switch_part p n leaf_names net_names d) (inner_groups p n)
    switch-member = middle p n leaf_names net_names (port_names n) (credit_base p) (leaf_sizes p) (slot_high p)
        (dest_bits p) (flit_bits p) (channel_bits p) [] d there (switch_part p n leaf_names net_names d) (inl refl)

    part-nets : AllByRecursion (ItemFound ls) (switch_part p n leaf_names net_names d).nets
    part-nets = nets-of p n sound inside (switch_part p n leaf_names net_names d) switch-member

    part-heads : AllByRecursion (ItemFound ls) (switch_part p n leaf_names net_names d).heads
    part-heads = heads-of p n sound inside (switch_part p n leaf_names net_names d) switch-member

    -- one channel at each port
    module _ (one : is_lone p d ≡ true) where
      pub one-channel : link_channels p d ≡ 1
      one-channel = grind (arith, nat_tests, one)

      pub lone-high : high p d ≡ ports p - 1
      lone-high = ap (λ k. ports p * k - 1) one-channel ∙ omega arith

      lone-found : AllByRecursion (ItemFound ls) (lone_switch_group (switch_names leaf_names net_names d)
          (ports p - 1) (has_port p n d)).nets
      lone-found = subst (λ b. AllByRecursion (ItemFound ls) (if b then lone_switch_group
          (switch_names leaf_names net_names d) (ports p - 1) (has_port p n d) else switch_group
          (switch_names leaf_names net_names d) (switch_size p d)).nets) one part-nets

      lone-declared : AllByRecursion (ItemFound ls) (lone_switch_group (switch_names leaf_names net_names d)
          (ports p - 1) (has_port p n d)).heads
      lone-declared = subst (λ b. AllByRecursion (ItemFound ls) (if b then lone_switch_group
          (switch_names leaf_names net_names d) (ports p - 1) (has_port p n d) else switch_group
          (switch_names leaf_names net_names d) (switch_size p d)).heads) one part-heads

      lone-leaves : ItemFound ls (wire (ports p - 1) (net_names.leaves d))
      lone-leaves = (all-back (ItemFound ls) (for_each (ports p - 1 + 1) (lone_nets
          (switch_names leaf_names net_names d) (ports p - 1) (has_port p n d))) _ lone-found).0

      module _ (o : ℕ) (less : o < ports p - 1 + 1) (has : has_port p n d o ≡ true) where
        lone-choice : AllByRecursion (ItemFound ls) (rotate_group (lone_choice
            (switch_names leaf_names net_names d) o) (ports p - 1)).nets
        lone-choice = subst (λ b. AllByRecursion (ItemFound ls) (if b then (rotate_group (lone_choice
            (switch_names leaf_names net_names d) o) (ports p - 1)).nets else [])) has
            (each-has (ItemFound ls) (ports p - 1 + 1) (lone_nets (switch_names leaf_names net_names d) (ports p - 1)
            (has_port p n d)) o less (all-front (ItemFound ls) (for_each (ports p - 1 + 1) (lone_nets
            (switch_names leaf_names net_names d) (ports p - 1) (has_port p n d))) _ lone-found))

        lone-pointer : AllByRecursion (ItemFound ls) (rotate_group (lone_choice
            (switch_names leaf_names net_names d) o) (ports p - 1)).heads
        lone-pointer = subst (λ b. AllByRecursion (ItemFound ls) (if b then (rotate_group (lone_choice
            (switch_names leaf_names net_names d) o) (ports p - 1)).heads else [])) has
            (each-has (ItemFound ls) (ports p - 1 + 1) (lone_heads (switch_names leaf_names net_names d)
            (ports p - 1) (has_port p n d)) o less lone-declared)

    -- more channels
    module _ (more : is_lone p d ≡ false) where
      pub not-one : (o : ℕ) → is_lone p d ≡ true → has_port p n d o ≡ true
      not-one o one = absurd (cc (sym one ∙ more))

      switch-nets : AllByRecursion (ItemFound ls) (switch_group (switch_names leaf_names net_names d) (switch_size p d)).nets
      switch-nets = subst (λ b. AllByRecursion (ItemFound ls) (if b then lone_switch_group
          (switch_names leaf_names net_names d) (ports p - 1) (has_port p n d) else switch_group
          (switch_names leaf_names net_names d) (switch_size p d)).nets) more part-nets

      switch-heads : AllByRecursion (ItemFound ls) (switch_group (switch_names leaf_names net_names d) (switch_size p d)).heads
      switch-heads = subst (λ b. AllByRecursion (ItemFound ls) (if b then lone_switch_group
          (switch_names leaf_names net_names d) (ports p - 1) (has_port p n d) else switch_group
          (switch_names leaf_names net_names d) (switch_size p d)).heads) more part-heads

      port-part : AllByRecursion (ItemFound ls) (for_each (ports p - 1 + 1) (port_nets (switch_names leaf_names net_names d) (switch_size p d)))
      port-part = all-front (ItemFound ls) (for_each (ports p - 1 + 1) (port_nets (switch_names leaf_names net_names d) (switch_size p d))) _ switch-nets.1.1

      after-ports : AllByRecursion (ItemFound ls) (wire (place_count (switch_size p d) - 1) (net_names.picked d) ∷ assign (net_names.picked d) (cat (row_parts (λ port. net ((switch_names leaf_names net_names d).turn port).winner) (ports p - 1)))
          ∷ (for_each (ports p - 1 + 1) (output_nets (switch_names leaf_names net_names d) (switch_size p d)) ++ (for_each (ports p - 1 + 1) (grant_nets (switch_names leaf_names net_names d) (switch_size p d))
          ++ (wire (place_count (switch_size p d) - 1) (net_names.leaves d) ∷ assign (net_names.leaves d) (cat (row_parts (λ port. net (net_names.granted d port)) (ports p - 1))) ∷ []))))
      after-ports = all-back (ItemFound ls) (for_each (ports p - 1 + 1) (port_nets (switch_names leaf_names net_names d) (switch_size p d))) _ switch-nets.1.1

      output-part : AllByRecursion (ItemFound ls) (for_each (ports p - 1 + 1) (output_nets (switch_names leaf_names net_names d) (switch_size p d)))
      output-part = all-front (ItemFound ls) (for_each (ports p - 1 + 1) (output_nets (switch_names leaf_names net_names d) (switch_size p d))) _ after-ports.1.1

      after-outputs : AllByRecursion (ItemFound ls) (for_each (ports p - 1 + 1) (grant_nets (switch_names leaf_names net_names d) (switch_size p d))
          ++ (wire (place_count (switch_size p d) - 1) (net_names.leaves d) ∷ assign (net_names.leaves d) (cat (row_parts (λ port. net (net_names.granted d port)) (ports p - 1))) ∷ []))
      after-outputs = all-back (ItemFound ls) (for_each (ports p - 1 + 1) (output_nets (switch_names leaf_names net_names d) (switch_size p d))) _ after-ports.1.1

      pub all : Wire ls (net_names.all d) (place_count (switch_size p d) - 1) (at d 2 0 + 0 + 1)
      all = wire-of 2 0 0 (place_count (switch_size p d) - 1) switch-nets.0 few-places (omega arith) (omega arith) (omega arith)

      pub turn-request : (o : ℕ) → o < ports p - 1 + 1 → Wire ls (leaf_names.turn d o).request (link_channels p d - 1) (at d 3 o + 0 + 1)
      turn-request o less = wire-of 3 o 0 (link_channels p d - 1) (each-has (ItemFound ls) (ports p - 1 + 1) (port_nets (switch_names leaf_names net_names d) (switch_size p d)) o less port-part).0 few-links-high (omega arith) (low-port o less) (omega arith)

      pub turn-some : (o : ℕ) → o < ports p - 1 + 1 → Wire ls (leaf_names.turn d o).some (link_channels p d - 1) (at d 3 o + 1 + 1)
      turn-some o less = wire-of 3 o 1 (link_channels p d - 1) (each-has (ItemFound ls) (ports p - 1 + 1) (port_nets (switch_names leaf_names net_names d) (switch_size p d)) o less port-part).1.1.0 few-links-high (omega arith) (low-port o less) (omega arith)

      pub turn-winner : (o : ℕ) → o < ports p - 1 + 1 → Wire ls (leaf_names.turn d o).winner (link_channels p d - 1) (at d 3 o + 2 + 1)
      turn-winner o less = wire-of 3 o 2 (link_channels p d - 1) (each-has (ItemFound ls) (ports p - 1 + 1) (port_nets (switch_names leaf_names net_names d) (switch_size p d)) o less port-part).1.1.1.1.0 few-links-high (omega arith) (low-port o less) (omega arith)

      pub picked : Wire ls (net_names.picked d) (place_count (switch_size p d) - 1) (at d 4 0 + 0 + 1)
      picked = wire-of 4 0 0 (place_count (switch_size p d) - 1) after-ports.0 few-places (omega arith) (omega arith) (omega arith)

      pub asks : (o : ℕ) → o < ports p - 1 + 1 → Wire ls (net_names.asks d o) (place_count (switch_size p d) - 1) (at d 5 o + 0 + 1)
      asks o less = wire-of 5 o 0 (place_count (switch_size p d) - 1) (each-has (ItemFound ls) (ports p - 1 + 1) (output_nets (switch_names leaf_names net_names d) (switch_size p d)) o less output-part).0 few-places (omega arith) (low-port o less) (omega arith)

      pub choice-request : (o : ℕ) → o < ports p - 1 + 1 → Wire ls (leaf_names.switch d o).request (ports p - 1) (at d 5 o + 1 + 1)
      choice-request o less = wire-of 5 o 1 (ports p - 1) (each-has (ItemFound ls) (ports p - 1 + 1) (output_nets (switch_names leaf_names net_names d) (switch_size p d)) o less output-part).1.1.0 few-ports-high (omega arith) (low-port o less) (omega arith)

      output-has : (o : ℕ) → o < ports p - 1 + 1 → AllByRecursion (ItemFound ls) (output_nets
          (switch_names leaf_names net_names d) (switch_size p d) o)
      output-has o less = each-has (ItemFound ls) (ports p - 1 + 1) (output_nets
          (switch_names leaf_names net_names d) (switch_size p d)) o less output-part

      pointer-has : (o : ℕ) → o < ports p - 1 + 1 → ItemFound ls (reg (ports p - 1) (leaf_names.switch d o).pointer)
      pointer-has o less = (each-has (ItemFound ls) (ports p - 1 + 1) (λ o. reg (ports p - 1)
          (leaf_names.switch d o).pointer ∷ []) o less (all-front (ItemFound ls) (for_each (ports p - 1 + 1)
          (λ o. reg (ports p - 1) (leaf_names.switch d o).pointer ∷ [])) _ switch-heads)).0

      leaves-has : ItemFound ls (wire (place_count (switch_size p d) - 1) (net_names.leaves d))
      leaves-has = (all-back (ItemFound ls) (for_each (ports p - 1 + 1) (grant_nets
          (switch_names leaf_names net_names d) (switch_size p d))) _ after-outputs).0

      pub granted : (o : ℕ) → o < ports p - 1 + 1 → Wire ls (net_names.granted d o) (link_channels p d - 1) (at d 6 o + 0 + 1)
      granted o less = wire-of 6 o 0 (link_channels p d - 1) (each-has (ItemFound ls) (ports p - 1 + 1) (grant_nets (switch_names leaf_names net_names d) (switch_size p d)) o less (all-front (ItemFound ls) (for_each (ports p - 1 + 1) (grant_nets (switch_names leaf_names net_names d) (switch_size p d))) _ after-outputs)).0 few-links-high (omega arith) (low-port o less) (omega arith)

      pub turn-pointer : (o : ℕ) → o < ports p - 1 + 1 → Net ls Register (leaf_names.turn d o).pointer (link_channels p d - 1)
      turn-pointer o less = reg-of 2 o 0 (link_channels p d - 1) (each-has (ItemFound ls) (ports p - 1 + 1) (λ o. reg (link_channels p d - 1) (leaf_names.turn d o).pointer ∷ []) o less (all-back (ItemFound ls) (for_each (ports p - 1 + 1) (λ o. reg (ports p - 1) (leaf_names.switch d o).pointer ∷ [])) (for_each (ports p - 1 + 1) (λ o. reg (link_channels p d - 1) (leaf_names.turn d o).pointer ∷ [])) switch-heads)).0 few-links-high (omega arith) (low-port o less) (omega arith)

    -- one or more
    module _ (o : ℕ) (less : o < ports p - 1 + 1) (has : is_lone p d ≡ true → has_port p n d o ≡ true) where
      pub choice-some : Wire ls (leaf_names.switch d o).some (ports p - 1) (at d 5 o + 2 + 1)
      choice-some = wire-of 5 o 2 (ports p - 1) (go (is_lone p d) refl) few-ports-high (omega arith)
          (low-port o less) (omega arith)
        where
          go : (b : Bool) → is_lone p d ≡ b → ItemFound ls (wire (ports p - 1) (leaf_names.switch d o).some)
          go true e = (lone-choice e o less (has e)).0
          go false e = (output-has e o less).1.1.1.1.0

      pub choice-winner : Wire ls (leaf_names.switch d o).winner (ports p - 1) (at d 5 o + 3 + 1)
      choice-winner = wire-of 5 o 3 (ports p - 1) (go (is_lone p d) refl) few-ports-high (omega arith)
          (low-port o less) (omega arith)
        where
          go : (b : Bool) → is_lone p d ≡ b → ItemFound ls (wire (ports p - 1) (leaf_names.switch d o).winner)
          go true e = (lone-choice e o less (has e)).1.1.0
          go false e = (output-has e o less).1.1.1.1.1.1.0

      pub choice-pointer : Net ls Register (leaf_names.switch d o).pointer (ports p - 1)
      choice-pointer = reg-of 1 o 0 (ports p - 1) (go (is_lone p d) refl) few-ports-high (omega arith)
          (low-port o less) (omega arith)
        where
          go : (b : Bool) → is_lone p d ≡ b → ItemFound ls (reg (ports p - 1) (leaf_names.switch d o).pointer)
          go true e = (lone-pointer e o less (has e)).0
          go false e = pointer-has e o less

    pub leaves : Wire ls (net_names.leaves d) (place_count (switch_size p d) - 1) (at d 7 0 + 0 + 1)
    leaves = wire-of 7 0 0 (place_count (switch_size p d) - 1) (go (is_lone p d) refl) few-places (omega arith)
        (omega arith) (omega arith)
      where
        go : (b : Bool) → is_lone p d ≡ b → ItemFound ls (wire (place_count (switch_size p d) - 1) (net_names.leaves d))
        go true e = subst (λ h. ItemFound ls (wire h (net_names.leaves d)))
            (let is = places in let wide = lone-high e in omega (arith, is, wide)) (lone-leaves e)
        go false e = leaves-has e

    pub ends : Wire ls (net_names.ends d) (high p d) (at d 7 0 + 1 + 1)
    ends = wire-of 7 0 1 (high p d) (nets-of p n sound inside (ends_group p net_names d) (middle p n leaf_names net_names (port_names n) (credit_base p) (leaf_sizes p) (slot_high p) (dest_bits p) (flit_bits p) (channel_bits p) [] d there (ends_group p net_names d) (inr (inl refl)))).0 few-high (omega arith) (omega arith) (omega arith)

    pub idle : Net ls Register (leaf_names.idle d) (high p d)
    idle = reg-of 3 0 0 (high p d) (heads-of p n sound inside (idle_group (leaf_names.idle d) (net_names.filled d) (net_names.ends d) (high p d)) (middle p n leaf_names net_names (port_names n) (credit_base p) (leaf_sizes p) (slot_high p) (dest_bits p) (flit_bits p) (channel_bits p) [] d there (idle_group (leaf_names.idle d) (net_names.filled d) (net_names.ends d) (high p d)) (inr (inr (inl refl))))).0 few-high (omega arith) (omega arith) (omega arith)

    -- ---- links

    pub few-word : channel_bits p + flit_bits p < 64
    few-word =
        let a = few-dests in
        let b : channel_bits p ≤ 3 = bits-few 3 (max_link_channels p) (omega arith) (most-links p.domains (λ k x less. (sound.channels k x less).1)) in
        omega (arith, a, b)
      where
        most-links : (xs : List DomainPart) → ((k : ℕ) (x : DomainPart) → k < length xs → (slice_index_or xs k x).channels ≤ 4) → max_channels (classes p) xs ≤ 2 ^ 3
        most-links [] h = omega arith
        most-links (x ∷ xs) h =
            let first : x.channels ≤ 4 = h 0 x (omega arith) in
            let two = (few-classes p).1 in
            let most : classes p * x.channels ≤ 2 * 4 = mul-le (classes p) x.channels 2 4 two first in
            let rest = most-links xs (λ k y less. h (suc k) y (omega arith)) in
            grind (arith)

    module _ (o : ℕ) (link : HasLink p n o) where
      low-link : o < 8
      low-link = few-o o link.0

      pub on : (x : ℕ) → x < link_channels p d → Wire ls (net_names.on d o x) 0 (at d (at_local o 11 9) o + x + 1)
      on x less =
          let few = links.1 in
          wire-of (at_local o 11 9) o x 0 (nets-of p n sound inside (on_group p leaf_names net_names d o x) (channel p n leaf_names net_names (port_names n) (credit_base p) (leaf_sizes p) (slot_high p) (dest_bits p) (flit_bits p) (channel_bits p) [] d there (on_group p leaf_names net_names d o x) o x link less (inl refl))).0 (omega arith) (low o) low-link (omega (arith, few, less))
        where
          low : (o : ℕ) → at_local o 11 9 < 16
          low zero = omega arith
          low (suc o) = omega arith

      pub credits : (x : ℕ) → x < link_channels p d → Net ls Register (leaf_names.credits d o x) (leaf_sizes p).lh
      credits x less =
          let few = links.1 in
          reg-of 4 o x (leaf_sizes p).lh (heads-of p n sound inside (credit_group (leaf_names.credits d o x) (bit ((port_names n).credit_in o (credit_base p d + x)) ((port_names n).credit_bit (credit_base p d + x))) (net (net_names.on d o x)) (leaf_sizes p).lh p.buffer)
          (channel p n leaf_names net_names (port_names n) (credit_base p) (leaf_sizes p) (slot_high p) (dest_bits p) (flit_bits p) (channel_bits p) [] d there (credit_group (leaf_names.credits d o x) (bit ((port_names n).credit_in o (credit_base p d + x)) ((port_names n).credit_bit (credit_base p d + x))) (net (net_names.on d o x)) (leaf_sizes p).lh p.buffer) o x link less (inr (inl refl)))).0 few-count (omega arith) low-link (omega (arith, few, less))

      pub word : Wire ls (net_names.word d o) (channel_bits p + flit_bits p) (at d 9 o + 8 + 1)
      word = wire-of 9 o 8 (channel_bits p + flit_bits p) (nets-of p n sound inside (word_group p n leaf_names net_names (dest_bits p) (flit_bits p) (channel_bits p) d o)
          (sent p n leaf_names net_names (port_names n) (credit_base p) (leaf_sizes p) (slot_high p) (dest_bits p) (flit_bits p) (channel_bits p) [] d there (word_group p n leaf_names net_names (dest_bits p) (flit_bits p) (channel_bits p) d o) o link
          (in-back (word_group p n leaf_names net_names (dest_bits p) (flit_bits p) (channel_bits p) d o) (each_group (link_channels p d) (channel_groups p d leaf_names net_names (port_names n) (credit_base p) (leaf_sizes p) o)) _ (inl refl)))).0 few-word (omega arith) low-link (omega arith)

      pub pulse : Net ls Register (leaf_names.pulse d o) (link_channels p d - 1)
      pulse = reg-of 4 o 8 (link_channels p d - 1) (heads-of p n sound inside (pulse_group p leaf_names net_names d o)
          (sent p n leaf_names net_names (port_names n) (credit_base p) (leaf_sizes p) (slot_high p) (dest_bits p) (flit_bits p) (channel_bits p) [] d there (pulse_group p leaf_names net_names d o) o link
          (in-back (pulse_group p leaf_names net_names d o) (each_group (link_channels p d) (channel_groups p d leaf_names net_names (port_names n) (credit_base p) (leaf_sizes p) o)) _ (inr (inl refl))))).0 few-links-high (omega arith) low-link (omega arith)

    -- ---- the attachment

    module _ (host : hosts p n d ≡ true) where
      here : (g : Group) → Member g (local_groups p n d leaf_names net_names (port_names n) (leaf_sizes p) (dest_bits p)) → Member g (inner_groups p n)
      here g m = local p n leaf_names net_names (port_names n) (credit_base p) (leaf_sizes p) (slot_high p) (dest_bits p) (flit_bits p) (channel_bits p) [] d there g host m

      pub on-local : Wire ls (net_names.on d 0 0) 0 (at d 11 0 + 0 + 1)
      on-local = wire-of 11 0 0 0 (nets-of p n sound inside (on_group p leaf_names net_names d 0 0) (here (on_group p leaf_names net_names d 0 0) (inl refl))).0 (omega arith) (omega arith) (omega arith) (omega arith)

      eject-member : Member (eject_group p n leaf_names net_names (port_names n) (dest_bits p) d) (inner_groups p n)
      eject-member = here (eject_group p n leaf_names net_names (port_names n) (dest_bits p) d) (inr (inl refl))

      pub ejected : Net ls Register (leaf_names.ejected d) 34
      ejected = reg-of 5 0 0 34 (heads-of p n sound inside (eject_group p n leaf_names net_names (port_names n) (dest_bits p) d) eject-member).0 (omega arith) (omega arith) (omega arith) (omega arith)

      pub eject : Wire ls (net_names.eject d) (33 + dest_bits p) (at d 11 0 + 1 + 1)
      eject = wire-of 11 0 1 (33 + dest_bits p) (nets-of p n sound inside (eject_group p n leaf_names net_names (port_names n) (dest_bits p) d) eject-member).0 (let few = few-dests in omega (arith, few)) (omega arith) (omega arith) (omega arith)

      attach-member : Member (attach_group p n d (attach_names leaf_names net_names d) (port_names n) (attach_size p (leaf_sizes p) (dest_bits p) d)) (inner_groups p n)
      attach-member = here (attach_group p n d (attach_names leaf_names net_names d) (port_names n) (attach_size p (leaf_sizes p) (dest_bits p) d)) (inr (inr (inl refl)))

      attach-heads : AllByRecursion (ItemFound ls) (attach_group p n d (attach_names leaf_names net_names d) (port_names n) (attach_size p (leaf_sizes p) (dest_bits p) d)).heads
      attach-heads = heads-of p n sound inside (attach_group p n d (attach_names leaf_names net_names d) (port_names n) (attach_size p (leaf_sizes p) (dest_bits p) d)) attach-member

      pub few-current : current_high (channels p d) < 64
      few-current = go (nat_le (channels p d) 2)
        where
          go : (b : Bool) → (if b then 0 else 1) < 64
          go true = omega arith
          go false = omega arith

      pub few-dest : dest_bits p - 1 < 64
      few-dest = let few = few-dests in omega (arith, few)

      pub passing : Net ls Register (leaf_names.passing d) 0
      passing = reg-of 5 0 1 0 attach-heads.0 (omega arith) (omega arith) (omega arith) (omega arith)

      pub dropping : Net ls Register (leaf_names.dropping d) 0
      dropping = reg-of 5 0 2 0 attach-heads.1.0 (omega arith) (omega arith) (omega arith) (omega arith)

      pub dest : Net ls Register (leaf_names.dest d) (dest_bits p - 1)
      dest = reg-of 5 0 3 (dest_bits p - 1) attach-heads.1.1.0 few-dest (omega arith) (omega arith) (omega arith)

      pub current : Net ls Register (leaf_names.current d) (current_high (channels p d))
      current = reg-of 5 0 4 (current_high (channels p d)) attach-heads.1.1.1.0 few-current (omega arith) (omega arith) (omega arith)

      pub dropped : Net ls Register (leaf_names.dropped d) 0
      dropped = reg-of 5 0 5 0 attach-heads.1.1.1.1.0 (omega arith) (omega arith) (omega arith) (omega arith)

      pub local-word : Wire ls (net_names.local d) (leaf_sizes p).wh (at d 12 0 + 5 + 1)
      local-word = wire-of 12 0 5 (leaf_sizes p).wh attach-heads.1.1.1.1.1.0 few-words (omega arith) (omega arith) (omega arith)

      attach-nets : AllByRecursion (ItemFound ls) (attach_group p n d (attach_names leaf_names net_names d) (port_names n) (attach_size p (leaf_sizes p) (dest_bits p) d)).nets
      attach-nets = nets-of p n sound inside (attach_group p n d (attach_names leaf_names net_names d) (port_names n) (attach_size p (leaf_sizes p) (dest_bits p) d)) attach-member

      looks-found : (rs : List Range) → AllByRecursion (ItemFound ls) (look_nets ((port_names n).address d) (net_names.look d) (dest_bits p) rs) → (k : ℕ) → 1 ≤ k → k ≤ length rs → ItemFound ls (wire (dest_bits p) (net_names.look d k))
      looks-found [] a k some le = absurd (omega arith)
      looks-found (r ∷ rs) a k some le = go (λ h. looks-found rs (all-front (ItemFound ls) (look_nets ((port_names n).address d) (net_names.look d) (dest_bits p) rs) _ a) k some h) order
        where
          order : (k ≤ length rs) ⊎ (k ≡ suc (length rs))
          order = grind arith

          go : (k ≤ length rs → ItemFound ls (wire (dest_bits p) (net_names.look d k))) → (k ≤ length rs) ⊎ (k ≡ suc (length rs)) → ItemFound ls (wire (dest_bits p) (net_names.look d k))
          go more (inl h) = more h
          go more (inr e) = subst (λ j. ItemFound ls (wire (dest_bits p) (net_names.look d j))) (sym e) (all-back (ItemFound ls) (look_nets ((port_names n).address d) (net_names.look d) (dest_bits p) rs) _ a).0

      pub look : (k : ℕ) → 1 ≤ k → k ≤ length (reach p d) → Wire ls (net_names.look d k) (dest_bits p) (at d 11 0 + (1 + k) + 1)
      look k some le =
          let few = few-ranges p d sound in let short = few-dests in
          wire-of 11 0 (1 + k) (dest_bits p) (looks-found (reach p d) (all-front (ItemFound ls) (look_nets ((port_names n).address d) (net_names.look d) (dest_bits p) (reach p d)) _ attach-nets) k some le) (omega (arith, short)) (omega arith) (omega arith) (omega (arith, few, le))

      after-looks : AllByRecursion (ItemFound ls) (wire (dest_bits p) (net_names.found d) ∷ assign (net_names.found d) (looked (net_names.look d) (dest_bits p) (length (reach p d)))
          ∷ (defined 0 (net_names.taken d) (two And (net ((port_names n).offered d)) (two Or (net (leaf_names.dropping d)) (room_expr p d (attach_names leaf_names net_names d) (attach_size p (leaf_sizes p) (dest_bits p) d))))
          ++ (defined 0 (net_names.goes d) (two Or (net (leaf_names.passing d)) (two And (not (net (leaf_names.dropping d))) (bit (net_names.found d) (dest_bits p))))
          ++ (defined (dest_bits p - 1) (net_names.to d) (choose (net (leaf_names.passing d)) (net (leaf_names.dest d)) (part (net_names.found d) (dest_bits p - 1) 0))
          ++ (defined 0 (net_names.enters d) (two And (net (net_names.taken d)) (net (net_names.goes d)))
          ++ (assign (net_names.local d) (entry_word p n (attach_names leaf_names net_names d) ((port_names n).last d) ((port_names n).payload d) (dest_bits p)) ∷ []))))))
      after-looks = all-back (ItemFound ls) (look_nets ((port_names n).address d) (net_names.look d) (dest_bits p) (reach p d)) _ attach-nets

      pub found-net : Wire ls (net_names.found d) (dest_bits p) (at d 12 0 + 0 + 1)
      found-net = wire-of 12 0 0 (dest_bits p) after-looks.0 (let few = few-dests in omega (arith, few)) (omega arith) (omega arith) (omega arith)

      pub taken-net : Wire ls (net_names.taken d) 0 (at d 12 0 + 1 + 1)
      taken-net = wire-of 12 0 1 0 after-looks.1.1.0 (omega arith) (omega arith) (omega arith) (omega arith)

      pub goes : Wire ls (net_names.goes d) 0 (at d 12 0 + 2 + 1)
      goes = wire-of 12 0 2 0 after-looks.1.1.1.1.0 (omega arith) (omega arith) (omega arith) (omega arith)

      pub to : Wire ls (net_names.to d) (dest_bits p - 1) (at d 12 0 + 3 + 1)
      to = wire-of 12 0 3 (dest_bits p - 1) after-looks.1.1.1.1.1.1.0 few-dest (omega arith) (omega arith) (omega arith)

      pub enters : Wire ls (net_names.enters d) 0 (at d 12 0 + 4 + 1)
      enters = wire-of 12 0 4 0 after-looks.1.1.1.1.1.1.1.1.0 (omega arith) (omega arith) (omega arith) (omega arith)
