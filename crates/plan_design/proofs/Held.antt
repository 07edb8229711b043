-- The leaf of a tile has what holds the tile.
use Rattle.std.proofs.Common.{◌≡◌, ℕ, ◌+◌, ◌-◌, ◌<◌, ◌≤◌, inl, inr, Bool, true, false, List, [], ◌∷◌, map, length, refl, sym, ◌∙◌, ap, subst, arith, ◌==◌}
use Rattle.std.specs.Prelude.{is_some, filter, flat_map, nat_lt, min, if◌then◌else◌, codes}
use Rattle.std.specs.List.{AllByRecursion}
use Rattle.std.proofs.lemmas.Bool.Decides.{nat_tests}
use Rattle.std.proofs.lemmas.List.{append-nil}
use Rattle.vl_tree.specs.declared.tree.Port.{Port}
use Rattle.vl_tree.specs.Values.{Leaf}
use Rattle.vl_model.specs.Leaf.{leaf_widths}
use Rattle.vl_model.specs.Lines.{Line, heading, port, item, way_of, is_net, net_bits}
use Rattle.vl_model.proofs.Ordered.{lookup-front}
use Rattle.vl_model.proofs.Passed.{all-map}
use Rattle.noc_model.specs.declared.Host.{Host}
use Rattle.noc_model.specs.Events.{tabulate}
use Rattle.noc_model.specs.Plan.{Plan, tiles, ports, hosts}
use Rattle.noc_model.specs.Place.{neighbour}
use Rattle.noc_model.specs.Sound.{IsSound}
use Rattle.gen_kit.specs.Groups.{Group}
use Rattle.gen_kit.specs.Ports.{name_with, host_ports}
use Rattle.gen_kit.specs.Shape.{Tied, credit_bits, host_ties, link_ties, tile_ties}
use Rattle.gen_kit.specs.Replayed.{host_of}
use Rattle.gen_kit.proofs.Parts.{held-front}
use Rattle.flit_word.specs.Words.{dest_bits}
use Rattle.leaf_tie.specs.Tie.{HasLink}
use Rattle.leaf_tie.specs.Whole.{each_group}
use Rattle.leaf_tie.specs.Outs.{link_out_group, local_out_group, credit_out_group}
use Rattle.leaf_tie.specs.Names.{leaf_names, net_names, port_names, out_names, leaf_sizes, credit_bundle, credit_domain, credit_channel, link_outs, out_groups, leaf_module}
use Rattle.leaf_sound.proofs.Joint.{names-joined}
use Rattle.leaf_tie.proofs.Members.{Member, in-front, in-back, in-each, in-then}
use Rattle.shape_sound.proofs.Rising.{Rises}
use Rattle.shape_sound.proofs.Lines.{LinesRise, lines-ports, Finds, finds-all}
use Rattle.shape_sound.proofs.Listed.{of-mapped}
use Rattle.shape_sound.proofs.Ties.{names-rise}
use Rattle.shape_sound.proofs.Top.{few-tiles, few-ports, sorted, map-twice}
use Rattle.top_tie.specs.Holds.{AreShapePorts, bundle_group, IsAmong, HoldsTile}
use Rattle.top_tie.proofs.Joins.{host-among}
use Rattle.plan_design.specs.Design.{text_sizes}
use Rattle.plan_design.specs.Laws.{LeafHolds}

among : (g : Group) (xs : List Group) → Member g xs → IsAmong xs g
among g [] m = m
among g (x ∷ xs) (inl e) = inl e
among g (x ∷ xs) (inr m) = inr (among g xs m)

-- ---- the ports

way-net : (b : Bool) → is_net (way_of b) ≡ true
way-net true = refl
way-net false = refl

module _ (p : Plan) (n : ℕ) (sound : IsSound p) (below : n < tiles p) where
  abbrev l : Leaf
  l = leaf_module p n

  abbrev front : List Line
  front = heading l.name ∷ map port l.ports

  rises : LinesRise 0 4194304 (map port l.ports)
  rises =
      subst (LinesRise 0 4194304) (append-nil (map port l.ports))
      (lines-ports 0 4194304 4194304 l.ports []
      (subst (Rises 0 4194304) (sym (map-twice p sound (tile_ties p n))) (names-rise p n (few-tiles p sound n below) (few-ports p sound) (sorted p sound))) (omega arith))

  abbrev IsWide : Port → Type 0
  IsWide q = (leaf_widths l).net q.name ≡ q.high + 1

  wide : AllByRecursion (λ (t : Tied). IsWide t.port) (tile_ties p n)
  wide =
      of-mapped IsWide (λ (t : Tied). t.port) (tile_ties p n)
      (all-map (λ (q : Port). Finds front (port q)) IsWide
      (λ q e. ap net_bits (lookup-front front (map item l.items) q.name (record { name = q.name; kind = way_of q.output; high = q.high; last = 0 }) e) ∙ ap (λ b. if b then q.high + 1 else 0) (way-net q.output)) l.ports
      (of-mapped (Finds front) port l.ports (finds-all front 0 4194304 (tt, rises)).1))

  host-wide : (d : ℕ) → hosts p n d ≡ true → AllByRecursion IsWide (host_ports (host_of d n))
  host-wide d there =
      of-mapped (λ (t : Tied). IsWide t.port) (λ (q : Port). record { port = q; net = q.name }) (host_ports (host_of d n))
      (host-among (λ (t : Tied). IsWide t.port) n d p.hosts there
      (held-front (λ (t : Tied). IsWide t.port) (flat_map host_ties (filter (λ (h : Host). h.tile == n) p.hosts)) (flat_map (λ q. link_ties p n q (neighbour p n q)) (tabulate (ports p) (λ q. q))) wide))

  -- ---- groups of the output ports

  abbrev of_links : List Group
  of_links = each_group (ports p) (λ o. if is_some (neighbour p n o) then link_outs p n o else [])

  abbrev of_hosts : List Group
  of_hosts = each_group (length p.domains) (λ d. if hosts p n d then local_out_group p leaf_names net_names (out_names n) (leaf_sizes p) (dest_bits p) d ∷ [] else [])

  in-links : (g : Group) (o : ℕ) → HasLink p n o → Member g (link_outs p n o) → IsAmong (out_groups p n) g
  in-links g o link m =
      among g (out_groups p n) (in-front g of_links of_hosts
      (in-each g (ports p) (λ q. if is_some (neighbour p n q) then link_outs p n q else []) o link.0 (in-then g (is_some (neighbour p n o)) (link_outs p n o) [] link.1 m)))

  credit-among : (o r : ℕ) → HasLink p n o → r < credit_bits p → IsAmong (out_groups p n) (bundle_group p n (text_sizes p) leaf_names o r)
  credit-among o r link few = go (nat_lt r 64) refl
    where
      go : (b : Bool) → nat_lt r 64 ≡ b
          → IsAmong (out_groups p n) (if b then credit_out_group leaf_names (name_with (codes "co") (n ∷ o ∷ [])) o 0 (min (credit_bits p) 64) (credit_domain p) (credit_channel p)
          else credit_out_group leaf_names (name_with (codes "co") (n ∷ o ∷ 1 ∷ [])) o 64 (credit_bits p - 64) (credit_domain p) (credit_channel p))
      go true e = in-links (credit_bundle p n o 0 (min (credit_bits p) 64)) o link (inr (inl refl))
      go false e =
          let large : 64 ≤ r = grind (arith, nat_tests, e) in
          let more : 64 < credit_bits p = omega (arith, large, few) in
          let many : nat_lt 64 (credit_bits p) ≡ true = grind (arith, nat_tests, more) in
          in-links (credit_bundle p n o 64 (credit_bits p - 64)) o link
          (inr (inr (in-then (credit_bundle p n o 64 (credit_bits p - 64)) (nat_lt 64 (credit_bits p)) (credit_bundle p n o 64 (credit_bits p - 64) ∷ []) [] many (inl refl))))

  local-among : (d : ℕ) → d < length p.domains → hosts p n d ≡ true → IsAmong (out_groups p n) (local_out_group p leaf_names net_names (out_names n) (leaf_sizes p) (dest_bits p) d)
  local-among d few there =
      let g : Group = local_out_group p leaf_names net_names (out_names n) (leaf_sizes p) (dest_bits p) d in
      among g (out_groups p n) (in-back g of_links of_hosts
      (in-each g (length p.domains) (λ k. if hosts p n k then local_out_group p leaf_names net_names (out_names n) (leaf_sizes p) (dest_bits p) k ∷ [] else []) d few
      (in-then g (hosts p n d) (g ∷ []) [] there (inl refl))))

  -- ---- names

  named : AreShapePorts p n (port_names n) (out_names n)
  named = record {
    link_in = λ o link. refl;
    link_out = λ o link. refl;
    credit_in = λ o r link few. refl;
    credit_bit = λ r few. refl;
    offered = λ d there. refl;
    address = λ d there. refl;
    payload = λ d there. refl;
    last = λ d there. refl;
    hears = λ d there. refl;
    ready = λ d there. refl;
    drop = λ d there. refl;
    valid = λ d there. refl;
    head = λ d there. refl;
    tail = λ d there. refl;
    word = λ d there. refl;
  }

  pub held : HoldsTile p n (text_sizes p) (leaf_module p n)
  held = record {
    names = record { kept = leaf_names; nets = net_names; ports = port_names n; outs = out_names n };
    others = out_groups p n;
    items = refl;
    joined = names-joined p n sound below;
    named = named;
    offered = λ d there. (host-wide d there).0;
    hears = λ d there. (host-wide d there).1.1.1.1.0;
    links = λ o link. in-links (link_out_group p leaf_names (out_names n) o) o link (inl refl);
    credits = credit-among;
    locals = local-among;
  }

pub leaf-holds : LeafHolds
leaf-holds p n sound below = held p n sound below
