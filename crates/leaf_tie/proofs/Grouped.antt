-- A leaf whose items are those of all groups has each group, so the tie stands in every cycle.
use Rattle.std.proofs.Common.{subst, ◌≡◌, ℕ, zero, suc, ◌+◌, ◌-◌, ◌<◌, ◌≤◌, inl, inr, Bool, true, false, List, [], ◌∷◌, ◌++◌, length, Option, refl, ◌∙◌, ap, arith, ◌==◌, ◌||◌}
use Rattle.std.specs.Prelude.{Some, None, is_some, if◌then◌else◌, pos, ◌-ℤ◌}
use Rattle.std.proofs.lemmas.Bool.Decides.{nat_tests}
use Rattle.vl_model.specs.Meaning.{Widths, Values}
use Rattle.vl_model.specs.Leaf.{Reset, leaf_widths, IsLeafRun}
use Rattle.vl_model.specs.Parts.{AllHold, AllStep, AllReset, Runs}
use Rattle.gen_buffer.specs.Fifo.{fifo_items}
use Rattle.gen_kit.specs.Groups.{Group, all_items, HoldsIn}
use Rattle.noc_model.specs.Plan.{Plan, channels, link_channels, ports, tiles, hosts}
use Rattle.noc_model.specs.Place.{neighbour, opposite, way_of}
use Rattle.noc_model.specs.Sound.{IsSound}
use Rattle.noc_model.specs.declared.LinkFlit.{LinkFlit}
use Rattle.noc_model.specs.Tile.{Tile, TileIn, start_tile}
use Rattle.noc_model.specs.Step.{tile_step}
use Rattle.vl_tree.specs.Values.{Name, Leaf, Design, net, bit}
use Rattle.vl_model.specs.Rules.{IsSound as IsSoundDesign}
use Rattle.vl_model.specs.Lines.{leaf_named}
use Rattle.vl_model.proofs.Held.{parts-hold}
use Rattle.leaf_tie.specs.Alloc.{alloc_group}
use Rattle.leaf_tie.specs.Buffers.{BufferSize, buffer_group}
use Rattle.leaf_tie.specs.Counts.{idle_group, credit_group}
use Rattle.leaf_tie.specs.Slots.{leaving_slot, arriving_slot, slot_group}
use Rattle.leaf_tie.specs.Links.{link_group}
use Rattle.leaf_tie.specs.Attach.{attach_group, enter_at}
use Rattle.leaf_tie.specs.Tie.{LeafNames, PortNames, HasLink, HasPort, HasPlace, alloc_size, LeafIn, LeafTie}
use Rattle.leaf_tie.specs.Glue.{NetNames, switch_part, link_names, attach_names, attach_size, high, has_port, filled_group, tails_group, led_group, ends_group, ready_group, unready_group, on_group, freed_group, flit_group, word_group, eject_group, arrival_group, pulse_group, link_push, pop_of, Moves, DomainRuns, LeafRuns, DomainStarts, LeafStarts, GlueFits, state_at, rows_at, next_shared}
use Rattle.leaf_tie.specs.Whole.{each_group, to_neighbour, link_uses, uses_slot, slot_groups, shared_groups, before_switch, behind_switch, channel_groups, sent_groups, link_buffers, local_groups, domain_groups, leaf_groups, Joined}
use Rattle.leaf_tie.proofs.Members.{Member, in-front, in-back, in-each, in-then, in-else, in-neighbour, any-member, its-heads, its-moves, holds-in, moves-in}
use Rattle.leaf_tie.proofs.Glued.{link-there}
use Rattle.leaf_tie.proofs.Sized.{port-has}
use Rattle.leaf_tie.proofs.Started.{slot-below, leaf-starts}
use Rattle.leaf_tie.proofs.Whole.{leaf-kept, leaf-run-reset}

port-below : (p : Plan) (n d o : ℕ) → HasPort p n d o → o < ports p
port-below p n d zero h = omega arith
port-below p n d (suc o) h = h.0

port-not : (p : Plan) (n d o : ℕ) → o < ports p → (HasPort p n d o → ⊥) → has_port p n d o ≡ false
port-not p n d zero below absent = go (hosts p n d) refl
  where
    go : (b : Bool) → hosts p n d ≡ b → b ≡ false
    go false e = refl
    go true e = absurd (absent e)
port-not p n d (suc o) below absent = go (is_some (neighbour p n (suc o))) refl
  where
    go : (b : Bool) → is_some (neighbour p n (suc o)) ≡ b → b ≡ false
    go false e = refl
    go true e = absurd (absent (below, e))

pub uses-leaving : (p : Plan) (n o : ℕ) → HasLink p n o → uses_slot p n (leaving_slot p n o) ≡ true
uses-leaving p n o link = any-member (ports p - 1) (λ k. link_uses p n (leaving_slot p n o) k (neighbour p n k)) o (let below = link.0 in omega (arith, below)) (go (neighbour p n o) link.1)
  where
    self : (leaving_slot p n o == leaving_slot p n o) ≡ true
    self = grind (arith, nat_tests)

    go : (x : Option ℕ) → is_some x ≡ true → link_uses p n (leaving_slot p n o) o x ≡ true
    go None e = absurd (cc e)
    go (Some m) e = ap (λ b. b || (arriving_slot p m (opposite o) == leaving_slot p n o)) self

pub uses-arriving : (p : Plan) (n port m : ℕ) → neighbour p n port ≡ Some m → uses_slot p n (arriving_slot p m (opposite port)) ≡ true
uses-arriving p n port m e =
    any-member (ports p - 1) (λ k. link_uses p n (arriving_slot p m (opposite port)) k (neighbour p n k)) port (let below = (link-there p n port m e).0 in omega (arith, below))
    (ap (link_uses p n (arriving_slot p m (opposite port)) port) e ∙ ap (λ b. (leaving_slot p n port == arriving_slot p m (opposite port)) || b) self ∙ last (leaving_slot p n port == arriving_slot p m (opposite port)))
  where
    self : (arriving_slot p m (opposite port) == arriving_slot p m (opposite port)) ≡ true
    self = grind (arith, nat_tests)

    last : (b : Bool) → (b || true) ≡ true
    last true = refl
    last false = refl

module _ (p : Plan) (n : ℕ) (names : LeafNames) (nets : NetNames) (q : PortNames) (base : ℕ → ℕ) (size : BufferSize) (slot_high dest_bits link_flit link_channel : ℕ) (others : List Group) where
  abbrev pub gs : List Group
  gs = leaf_groups p n names nets q base size slot_high dest_bits link_flit link_channel

  -- ---- where each group stands

  in-slots : (g : Group) → Member g (slot_groups p n names slot_high) → Member g gs
  in-slots g m = in-front g (slot_groups p n names slot_high) _ m

  pub slot-member : (k : ℕ) → k < length p.slots → uses_slot p n k ≡ true → Member (slot_group (names.slot k) slot_high p.slots (length p.domains) k) gs
  slot-member k below used =
      in-slots (slot_group (names.slot k) slot_high p.slots (length p.domains) k)
      (in-each (slot_group (names.slot k) slot_high p.slots (length p.domains) k) (length p.slots) (λ j. if uses_slot p n j then slot_group (names.slot j) slot_high p.slots (length p.domains) j ∷ [] else []) k below
      (in-then (slot_group (names.slot k) slot_high p.slots (length p.domains) k) (uses_slot p n k) (slot_group (names.slot k) slot_high p.slots (length p.domains) k ∷ []) [] used (inl refl)))

  pub in-shared : (g : Group) (o : ℕ) → HasLink p n o → Member g (arrival_group p n nets q size dest_bits o ∷ link_group (link_names p n names nets o) (link_channel + link_flit) (length p.domains) (p.stages - 1) ∷ []) → Member g gs
  in-shared g o link m =
      in-back g (slot_groups p n names slot_high) _ (in-front g (shared_groups p n names nets q size dest_bits link_flit link_channel) _
      (in-each g (ports p) (λ o. if is_some (neighbour p n o) then arrival_group p n nets q size dest_bits o ∷ link_group (link_names p n names nets o) (link_channel + link_flit) (length p.domains) (p.stages - 1) ∷ [] else []) o link.0
      (in-then g (is_some (neighbour p n o)) (arrival_group p n nets q size dest_bits o ∷ link_group (link_names p n names nets o) (link_channel + link_flit) (length p.domains) (p.stages - 1) ∷ []) [] link.1 m)))

  module _ (d : ℕ) (there : d < length p.domains) where
    pub in-domain : (g : Group) → Member g (domain_groups p n names nets q base size dest_bits link_flit link_channel d) → Member g gs
    in-domain g m =
        in-back g (slot_groups p n names slot_high) _ (in-back g (shared_groups p n names nets q size dest_bits link_flit link_channel) _
        (in-each g (length p.domains) (domain_groups p n names nets q base size dest_bits link_flit link_channel) d there m))

    pub before : (g : Group) (o : ℕ) → HasPort p n d o → Member g (led_group p n names nets dest_bits d o ∷ alloc_group p d n o (names.alloc d o) (alloc_size p d o) ∷ ready_group p n names nets q size d o ∷ []) → Member g gs
    before g o port m =
        in-domain g (inr (inr (in-front g (before_switch p n d names nets q size dest_bits) _
        (in-each g (ports p) (λ o. if has_port p n d o then led_group p n names nets dest_bits d o ∷ alloc_group p d n o (names.alloc d o) (alloc_size p d o) ∷ ready_group p n names nets q size d o ∷ [] else unready_group p nets d o ∷ []) o (port-below p n d o port)
        (in-then g (has_port p n d o) (led_group p n names nets dest_bits d o ∷ alloc_group p d n o (names.alloc d o) (alloc_size p d o) ∷ ready_group p n names nets q size d o ∷ []) (unready_group p nets d o ∷ []) (port-has p n d o port) m)))))

    pub unready-member : (o : ℕ) → o < ports p → (HasPort p n d o → ⊥) → Member (unready_group p nets d o) gs
    unready-member o below absent =
        in-domain (unready_group p nets d o) (inr (inr (in-front (unready_group p nets d o) (before_switch p n d names nets q size dest_bits) _
        (in-each (unready_group p nets d o) (ports p) (λ o. if has_port p n d o then led_group p n names nets dest_bits d o ∷ alloc_group p d n o (names.alloc d o) (alloc_size p d o) ∷ ready_group p n names nets q size d o ∷ [] else unready_group p nets d o ∷ []) o below
        (in-else (unready_group p nets d o) (has_port p n d o) (led_group p n names nets dest_bits d o ∷ alloc_group p d n o (names.alloc d o) (alloc_size p d o) ∷ ready_group p n names nets q size d o ∷ []) (unready_group p nets d o ∷ []) (port-not p n d o below absent) (inl refl))))))

    pub middle : (g : Group) → Member g (switch_part p n names nets d ∷ ends_group p nets d ∷ idle_group (names.idle d) (nets.filled d) (nets.ends d) (high p d)
        ∷ (behind_switch p n d names nets dest_bits ++ (sent_groups p n d names nets q base size dest_bits link_flit link_channel ++ (link_buffers p n d names nets q size link_flit link_channel ++ (if hosts p n d then local_groups p n d names nets q size dest_bits else []))))) → Member g gs
    middle g m = in-domain g (inr (inr (in-back g (before_switch p n d names nets q size dest_bits) _ m)))

    pub behind : (g : Group) (o : ℕ) → HasPort p n d o → Member g (freed_group p names nets d o ∷ flit_group p names nets dest_bits d o ∷ []) → Member g gs
    behind g o port m =
        middle g (inr (inr (inr (in-front g (behind_switch p n d names nets dest_bits) _
        (in-each g (ports p) (λ o. if has_port p n d o then freed_group p names nets d o ∷ flit_group p names nets dest_bits d o ∷ [] else []) o (port-below p n d o port)
        (in-then g (has_port p n d o) (freed_group p names nets d o ∷ flit_group p names nets dest_bits d o ∷ []) [] (port-has p n d o port) m))))))

    pub sent : (g : Group) (o : ℕ) → HasLink p n o → Member g (each_group (link_channels p d) (channel_groups p d names nets q base size o) ++ (word_group p n names nets dest_bits link_flit link_channel d o ∷ pulse_group p names nets d o ∷ [])) → Member g gs
    sent g o link m =
        middle g (inr (inr (inr (in-back g (behind_switch p n d names nets dest_bits) _ (in-front g (sent_groups p n d names nets q base size dest_bits link_flit link_channel) _
        (in-each g (ports p) (λ o. if is_some (neighbour p n o) then each_group (link_channels p d) (channel_groups p d names nets q base size o) ++ (word_group p n names nets dest_bits link_flit link_channel d o ∷ pulse_group p names nets d o ∷ []) else []) o link.0
        (in-then g (is_some (neighbour p n o)) (each_group (link_channels p d) (channel_groups p d names nets q base size o) ++ (word_group p n names nets dest_bits link_flit link_channel d o ∷ pulse_group p names nets d o ∷ [])) [] link.1 m)))))))

    pub channel : (g : Group) (o x : ℕ) → HasLink p n o → x < link_channels p d → Member g (channel_groups p d names nets q base size o x) → Member g gs
    channel g o x link below m =
        sent g o link (in-front g (each_group (link_channels p d) (channel_groups p d names nets q base size o)) _ (in-each g (link_channels p d) (channel_groups p d names nets q base size o) x below m))

    pub linked-member : (port m c : ℕ) → neighbour p n port ≡ Some m → c < link_channels p d → Member (buffer_group (names.buffer d port c) size (link_push p names q link_flit link_channel d port m c) (pop_of p nets d port c)) gs
    linked-member port m c e below =
        middle g (inr (inr (inr (in-back g (behind_switch p n d names nets dest_bits) _ (in-back g (sent_groups p n d names nets q base size dest_bits link_flit link_channel) _ (in-front g (link_buffers p n d names nets q size link_flit link_channel) _
        (in-each g (ports p) (λ port. to_neighbour (λ m. each_group (link_channels p d) (λ c. buffer_group (names.buffer d port c) size (link_push p names q link_flit link_channel d port m c) (pop_of p nets d port c) ∷ [])) (neighbour p n port)) port (link-there p n port m e).0
        (in-neighbour g (λ m. each_group (link_channels p d) (λ c. buffer_group (names.buffer d port c) size (link_push p names q link_flit link_channel d port m c) (pop_of p nets d port c) ∷ [])) (neighbour p n port) m e
        (in-each g (link_channels p d) (λ c. buffer_group (names.buffer d port c) size (link_push p names q link_flit link_channel d port m c) (pop_of p nets d port c) ∷ []) c below (inl refl))))))))))
      where
        g : Group
        g = buffer_group (names.buffer d port c) size (link_push p names q link_flit link_channel d port m c) (pop_of p nets d port c)

    pub local : (g : Group) → hosts p n d ≡ true → Member g (local_groups p n d names nets q size dest_bits) → Member g gs
    local g h m =
        middle g (inr (inr (inr (in-back g (behind_switch p n d names nets dest_bits) _ (in-back g (sent_groups p n d names nets q base size dest_bits link_flit link_channel) _ (in-back g (link_buffers p n d names nets q size link_flit link_channel) _
        (in-then g (hosts p n d) (local_groups p n d names nets q size dest_bits) [] h m)))))))

    pub entered-member : (c : ℕ) → hosts p n d ≡ true → c < channels p d → Member (buffer_group (names.buffer d 0 c) size (enter_at (attach_names names nets d) (attach_size p size dest_bits d) c) (pop_of p nets d 0 c)) gs
    entered-member c h below =
        local (buffer_group (names.buffer d 0 c) size (enter_at (attach_names names nets d) (attach_size p size dest_bits d) c) (pop_of p nets d 0 c)) h
        (inr (inr (inr (in-each (buffer_group (names.buffer d 0 c) size (enter_at (attach_names names nets d) (attach_size p size dest_bits d) c) (pop_of p nets d 0 c)) (channels p d)
        (λ c. buffer_group (names.buffer d 0 c) size (enter_at (attach_names names nets d) (attach_size p size dest_bits d) c) (pop_of p nets d 0 c) ∷ []) c below (inl refl)))))

  -- ---- an edge

  module _ (w : Widths) (v u : Values) (some : 1 ≤ length p.slots) (joined : Joined p n names nets q w) (now : AllHold w v (all_items (gs ++ others))) (later : AllHold w u (all_items (gs ++ others))) (steps : AllStep w v u (all_items (gs ++ others))) where
    holds : (g : Group) → Member g gs → HoldsIn g w v
    holds g m = holds-in g (gs ++ others) w v (in-front g gs others m) now

    moves : (g : Group) → Member g gs → Moves g w v u
    moves g m = moves-in g (gs ++ others) w v u (in-front g gs others m) now later steps

    domain-runs : (d : ℕ) → d < length p.domains → DomainRuns p n d names nets q base size dest_bits link_flit link_channel w v u
    domain-runs d there = record {
      alloc = λ o port. moves (alloc_group p d n o (names.alloc d o) (alloc_size p d o)) (before d there (alloc_group p d n o (names.alloc d o) (alloc_size p d o)) o port (inr (inl refl)));
      one_ends = λ o. joined.ends d o;
      switch = moves (switch_part p n names nets d) (middle d there (switch_part p n names nets d) (inl refl));
      idle = moves (idle_group (names.idle d) (nets.filled d) (nets.ends d) (high p d)) (middle d there (idle_group (names.idle d) (nets.filled d) (nets.ends d) (high p d)) (inr (inr (inl refl))));
      filled = holds (filled_group p n names nets d) (in-domain d there (filled_group p n names nets d) (inl refl));
      tails = holds (tails_group p n names nets dest_bits d) (in-domain d there (tails_group p n names nets dest_bits d) (inr (inl refl)));
      led = λ o port. holds (led_group p n names nets dest_bits d o) (before d there (led_group p n names nets dest_bits d o) o port (inl refl));
      ends = holds (ends_group p nets d) (middle d there (ends_group p nets d) (inr (inl refl)));
      ready = λ o port. holds (ready_group p n names nets q size d o) (before d there (ready_group p n names nets q size d o) o port (inr (inr (inl refl))));
      unready = λ o below absent. holds (unready_group p nets d o) (unready-member d there o below absent);
      on = λ o x link below. holds (on_group p names nets d o x) (channel d there (on_group p names nets d o x) o x link below (inl refl));
      on_local = λ h. holds (on_group p names nets d 0 0) (local d there (on_group p names nets d 0 0) h (inl refl));
      eject = λ h. moves (eject_group p n names nets q dest_bits d) (local d there (eject_group p n names nets q dest_bits d) h (inr (inl refl)));
      freed = λ o port. holds (freed_group p names nets d o) (behind d there (freed_group p names nets d o) o port (inl refl));
      flits = λ port h. holds (flit_group p names nets dest_bits d port) (behind d there (flit_group p names nets dest_bits d port) port h (inr (inl refl)));
      sends = λ o link. holds (word_group p n names nets dest_bits link_flit link_channel d o) (sent d there (word_group p n names nets dest_bits link_flit link_channel d o) o link
          (in-back (word_group p n names nets dest_bits link_flit link_channel d o) (each_group (link_channels p d) (channel_groups p d names nets q base size o)) _ (inl refl)));
      credits = λ o x link below. moves (credit_group (names.credits d o x) (bit (q.credit_in o (base d + x)) (q.credit_bit (base d + x))) (net (nets.on d o x)) size.lh p.buffer)
          (channel d there (credit_group (names.credits d o x) (bit (q.credit_in o (base d + x)) (q.credit_bit (base d + x))) (net (nets.on d o x)) size.lh p.buffer) o x link below (inr (inl refl)));
      pulses = λ port link. moves (pulse_group p names nets d port) (sent d there (pulse_group p names nets d port) port link
          (in-back (pulse_group p names nets d port) (each_group (link_channels p d) (channel_groups p d names nets q base size port)) _ (inr (inl refl))));
      one_word = λ port c link. joined.stored d port c link;
      linked = λ port m c e below. moves (buffer_group (names.buffer d port c) size (link_push p names q link_flit link_channel d port m c) (pop_of p nets d port c)) (linked-member d there port m c e below);
      entered = λ c h below. moves (buffer_group (names.buffer d 0 c) size (enter_at (attach_names names nets d) (attach_size p size dest_bits d) c) (pop_of p nets d 0 c)) (entered-member d there c h below);
      attach = λ h. moves (attach_group p n d (attach_names names nets d) q (attach_size p size dest_bits d)) (local d there (attach_group p n d (attach_names names nets d) q (attach_size p size dest_bits d)) h (inr (inr (inl refl))));
      local_word = λ c h. joined.local d c h;
      last_width = λ h. joined.last d h;
      payload_width = λ h. joined.payload d h;
    }

    leaf-runs : LeafRuns p n names nets q base size slot_high dest_bits link_flit link_channel w v u
    leaf-runs = record {
      leaving = λ o link. moves (slot_group (names.slot (leaving_slot p n o)) slot_high p.slots (length p.domains) (leaving_slot p n o)) (slot-member (leaving_slot p n o) (slot-below p n (pos 0) (way_of o) some) (uses-leaving p n o link));
      arriving = λ port m e. moves (slot_group (names.slot (arriving_slot p m (opposite port))) slot_high p.slots (length p.domains) (arriving_slot p m (opposite port)))
          (slot-member (arriving_slot p m (opposite port)) (slot-below p m (pos 0 -ℤ pos p.stages) (way_of (opposite port)) some) (uses-arriving p n port m e));
      rows = λ o link. moves (link_group (link_names p n names nets o) (link_channel + link_flit) (length p.domains) (p.stages - 1)) (in-shared (link_group (link_names p n names nets o) (link_channel + link_flit) (length p.domains) (p.stages - 1)) o link (inr (inl refl)));
      arrivals = λ port link. holds (arrival_group p n nets q size dest_bits port) (in-shared (arrival_group p n nets q size dest_bits port) port link (inl refl));
      domains = domain-runs;
    }

  -- ---- reset

  module _ (v : Values) (some : 1 ≤ length p.slots) (start : AllReset v (all_items (gs ++ others))) where
    resets : (g : Group) → Member g gs → AllReset v g.moves
    resets g m = its-moves g (gs ++ others) (in-front g gs others m) (Reset v) start

    domain-resets : (d : ℕ) → d < length p.domains → DomainStarts p n d names nets q base size dest_bits v
    domain-resets d there = record {
      alloc = λ o port. resets (alloc_group p d n o (names.alloc d o) (alloc_size p d o)) (before d there (alloc_group p d n o (names.alloc d o) (alloc_size p d o)) o port (inr (inl refl)));
      switch = resets (switch_part p n names nets d) (middle d there (switch_part p n names nets d) (inl refl));
      idle = resets (idle_group (names.idle d) (nets.filled d) (nets.ends d) (high p d)) (middle d there (idle_group (names.idle d) (nets.filled d) (nets.ends d) (high p d)) (inr (inr (inl refl))));
      credits = λ o x link below. resets (credit_group (names.credits d o x) (bit (q.credit_in o (base d + x)) (q.credit_bit (base d + x))) (net (nets.on d o x)) size.lh p.buffer)
          (channel d there (credit_group (names.credits d o x) (bit (q.credit_in o (base d + x)) (q.credit_bit (base d + x))) (net (nets.on d o x)) size.lh p.buffer) o x link below (inr (inl refl)));
      pulses = λ port link. resets (pulse_group p names nets d port) (sent d there (pulse_group p names nets d port) port link
          (in-back (pulse_group p names nets d port) (each_group (link_channels p d) (channel_groups p d names nets q base size port)) _ (inr (inl refl))));
      buffers = buffer-starts;
      attach = λ h. resets (attach_group p n d (attach_names names nets d) q (attach_size p size dest_bits d)) (local d there (attach_group p n d (attach_names names nets d) q (attach_size p size dest_bits d)) h (inr (inr (inl refl))));
      ejected = λ h. resets (eject_group p n names nets q dest_bits d) (local d there (eject_group p n names nets q dest_bits d) h (inr (inl refl)));
    }
      where
        buffer-starts : (port c : ℕ) → HasPlace p n d port c → AllReset v (fifo_items (names.buffer d port c) size.bh size.lh size.wh)
        buffer-starts zero c place = (its-heads (buffer_group (names.buffer d 0 c) size (enter_at (attach_names names nets d) (attach_size p size dest_bits d) c) (pop_of p nets d 0 c)) (gs ++ others) (in-front (buffer_group (names.buffer d 0 c) size (enter_at (attach_names names nets d) (attach_size p size dest_bits d) c) (pop_of p nets d 0 c)) gs others (entered-member d there c place.0 place.1)) (Reset v) start).1.1
        buffer-starts (suc port) c place = go (neighbour p n (suc port)) refl place.0.1
          where
            go : (x : Option ℕ) → neighbour p n (suc port) ≡ x → is_some x ≡ true → AllReset v (fifo_items (names.buffer d (suc port) c) size.bh size.lh size.wh)
            go None e h = absurd (cc h)
            go (Some m) e h = (its-heads (buffer_group (names.buffer d (suc port) c) size (link_push p names q link_flit link_channel d (suc port) m c) (pop_of p nets d (suc port) c)) (gs ++ others) (in-front (buffer_group (names.buffer d (suc port) c) size (link_push p names q link_flit link_channel d (suc port) m c) (pop_of p nets d (suc port) c)) gs others (linked-member d there (suc port) m c e place.1)) (Reset v) start).1.1

    leaf-resets : LeafStarts p n names nets q base size slot_high dest_bits link_flit link_channel v
    leaf-resets = record {
      leaving = λ o link. resets (slot_group (names.slot (leaving_slot p n o)) slot_high p.slots (length p.domains) (leaving_slot p n o)) (slot-member (leaving_slot p n o) (slot-below p n (pos 0) (way_of o) some) (uses-leaving p n o link));
      arriving = λ port m e. resets (slot_group (names.slot (arriving_slot p m (opposite port))) slot_high p.slots (length p.domains) (arriving_slot p m (opposite port)))
          (slot-member (arriving_slot p m (opposite port)) (slot-below p m (pos 0 -ℤ pos p.stages) (way_of (opposite port)) some) (uses-arriving p n port m e));
      rows = λ o link. resets (link_group (link_names p n names nets o) (link_channel + link_flit) (length p.domains) (p.stages - 1)) (in-shared (link_group (link_names p n names nets o) (link_channel + link_flit) (length p.domains) (p.stages - 1)) o link (inr (inl refl)));
      domains = domain-resets;
    }

pub groups-run : (p : Plan) (n : ℕ) (names : LeafNames) (nets : NetNames) (q : PortNames) (base : ℕ → ℕ) (size : BufferSize) (slot_high dest_bits link_flit link_channel : ℕ) (others : List Group)
    (w : Widths) (v : ℕ → Values) (i : ℕ → ℕ → TileIn) → IsSound p → n < tiles p → GlueFits p size slot_high dest_bits link_flit link_channel → Joined p n names nets q w
    → Runs (all_items (leaf_groups p n names nets q base size slot_high dest_bits link_flit link_channel ++ others)) w v
    → ((t : ℕ) → LeafIn p n q base dest_bits link_flit link_channel (v t) t (state_at p n i t) (i t))
    → (t : ℕ) → LeafTie p n names size dest_bits link_flit link_channel (v t) t (state_at p n i t) (rows_at p n i t)
unfolding gs
groups-run p n names nets q base size slot_high dest_bits link_flit link_channel others w v i sound inside fits joined run input =
    leaf-run-reset p n names nets q base size slot_high dest_bits link_flit link_channel w v i sound inside fits
    (λ t. leaf-runs p n names nets q base size slot_high dest_bits link_flit link_channel others w (v t) (v (suc t)) sound.slot_count.0 joined (run.holds t) (run.holds (suc t)) (run.steps t))
    input
    (leaf-resets p n names nets q base size slot_high dest_bits link_flit link_channel others (v 0) sound.slot_count.0 run.starts)

-- the leaf of a sound design, in any run
pub text-run : (p : Plan) (n : ℕ) (names : LeafNames) (nets : NetNames) (q : PortNames) (base : ℕ → ℕ) (size : BufferSize) (slot_high dest_bits link_flit link_channel : ℕ) (others : List Group)
    (design : Design) (name : Name) (l : Leaf) (v : ℕ → Values) (i : ℕ → ℕ → TileIn) → IsSound p → n < tiles p → GlueFits p size slot_high dest_bits link_flit link_channel
    → IsSoundDesign design → leaf_named design.leaves name ≡ Some l → l.items ≡ all_items (leaf_groups p n names nets q base size slot_high dest_bits link_flit link_channel ++ others)
    → Joined p n names nets q (leaf_widths l) → IsLeafRun l v
    → ((t : ℕ) → LeafIn p n q base dest_bits link_flit link_channel (v t) t (state_at p n i t) (i t))
    → (t : ℕ) → LeafTie p n names size dest_bits link_flit link_channel (v t) t (state_at p n i t) (rows_at p n i t)
text-run p n names nets q base size slot_high dest_bits link_flit link_channel others design name l v i sound inside fits right named is joined run input =
    groups-run p n names nets q base size slot_high dest_bits link_flit link_channel others (leaf_widths l) v i sound inside fits joined
    (record {
      holds = λ t. subst (AllHold (leaf_widths l) (v t)) is (parts-hold design right name l named (v t) (run.right t));
      starts = subst (AllReset (v 0)) is run.starts;
      steps = λ t. subst (AllStep (leaf_widths l) (v t) (v (suc t))) is (run.edges t);
    })
    input

-- such a leaf begins tied to its tile
pub text-starts : (p : Plan) (n : ℕ) (names : LeafNames) (nets : NetNames) (q : PortNames) (base : ℕ → ℕ) (size : BufferSize) (slot_high dest_bits link_flit link_channel : ℕ) (others : List Group)
    (l : Leaf) (v : ℕ → Values) → IsSound p → l.items ≡ all_items (leaf_groups p n names nets q base size slot_high dest_bits link_flit link_channel ++ others) → IsLeafRun l v
    → LeafTie p n names size dest_bits link_flit link_channel (v 0) 0 (λ d. start_tile p) (λ o j. None)
unfolding gs
text-starts p n names nets q base size slot_high dest_bits link_flit link_channel others l v sound is run =
    leaf-starts p n names nets q base size slot_high dest_bits link_flit link_channel (v 0) (λ t d. record { arrives = λ port. None; returns = λ o x. false; offer = None; hears = false }) sound
    (leaf-resets p n names nets q base size slot_high dest_bits link_flit link_channel others (v 0) sound.slot_count.0 (subst (AllReset (v 0)) is run.starts))

-- and each edge of a run keeps the tie, so all leaves of a design can be followed at once
pub text-kept : (p : Plan) (n : ℕ) (names : LeafNames) (nets : NetNames) (q : PortNames) (base : ℕ → ℕ) (size : BufferSize) (slot_high dest_bits link_flit link_channel : ℕ) (others : List Group)
    (design : Design) (name : Name) (l : Leaf) (v : ℕ → Values) (t : ℕ) (s : ℕ → Tile) (i : ℕ → TileIn) (shared : ℕ → ℕ → Option LinkFlit) → IsSound p → n < tiles p → GlueFits p size slot_high dest_bits link_flit link_channel
    → IsSoundDesign design → leaf_named design.leaves name ≡ Some l → l.items ≡ all_items (leaf_groups p n names nets q base size slot_high dest_bits link_flit link_channel ++ others)
    → Joined p n names nets q (leaf_widths l) → IsLeafRun l v → LeafIn p n q base dest_bits link_flit link_channel (v t) t s i
    → LeafTie p n names size dest_bits link_flit link_channel (v t) t s shared
    → LeafTie p n names size dest_bits link_flit link_channel (v (suc t)) (suc t) (λ d. tile_step p d n (pos t) (s d) (i d)) (next_shared p n t s i shared)
unfolding gs
text-kept p n names nets q base size slot_high dest_bits link_flit link_channel others design name l v t s i shared sound inside fits right named is joined run input tie =
    leaf-kept p n names nets q base size slot_high dest_bits link_flit link_channel (leaf_widths l) (v t) (v (suc t)) t s i shared sound inside fits
    (leaf-runs p n names nets q base size slot_high dest_bits link_flit link_channel others (leaf_widths l) (v t) (v (suc t)) sound.slot_count.0 joined (holds t) (holds (suc t)) (subst (AllStep (leaf_widths l) (v t) (v (suc t))) is (run.edges t)))
    input tie
  where
    holds : (k : ℕ) → AllHold (leaf_widths l) (v k) (all_items (leaf_groups p n names nets q base size slot_high dest_bits link_flit link_channel ++ others))
    holds k = subst (AllHold (leaf_widths l) (v k)) is (parts-hold design right name l named (v k) (run.right k))
