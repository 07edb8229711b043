-- What a leaf's groups declare, they drive: each group declares each name as often as it drives it.
use Rattle.std.proofs.Common.{◌≡◌, ℕ, zero, suc, ◌+◌, ◌-◌, ◌*◌, ◌^◌, Bool, true, false, List, [], ◌∷◌, ◌++◌, map, length, refl, sym, ◌∙◌, ap, arith, flat_map, Option, Some, None, if◌then◌else◌, bytes_eq, is_some}
use Rattle.vl_tree.specs.declared.tree.Const.{Const}
use Rattle.vl_tree.specs.declared.tree.Op.TheVariants.{And, Or}
use Rattle.vl_tree.specs.Values.{Name, Expr, Item, net, not, bit, part, two, cat, choose, wire, reg, mem, assign, clocked, store}
use Rattle.vl_model.specs.Meaning.{one_if}
use Rattle.vl_model.specs.Lines.{item}
use Rattle.vl_model.specs.Rules.{drivers}
use Rattle.vl_model.proofs.Ordered.{drivers-append}
use Rattle.noc_model.specs.declared.Range.{Range}
use Rattle.noc_model.specs.Plan.{Plan, channels, link_channels, ports, hosts}
use Rattle.noc_model.specs.Place.{neighbour}
use Rattle.gen_kit.specs.Families.{for_each, or_upto, row_parts, defined, in_bits}
use Rattle.gen_kit.specs.Rotate.{rotate_group, pointer_moves, is_empty, behind_member}
use Rattle.gen_kit.specs.Groups.{Group, all_items}
use Rattle.gen_buffer.specs.Fifo.{FifoNames}
use Rattle.leaf_tie.specs.Alloc.{AllocNames, AllocSize, class_start, becomes_active, has_one, lone_requests, class_requests, asks_class, out_count, class_nets, taken_nets, alloc_group}
use Rattle.leaf_tie.specs.Attach.{AttachNames, AttachSize, enter_at, look_nets, looked, in_range, room_expr, entry_word, reach, attach_group}
use Rattle.leaf_tie.specs.Buffers.{BufferSize, buffer_group}
use Rattle.leaf_tie.specs.Links.{LinkNames, link_group}
use Rattle.leaf_tie.specs.Slots.{SlotNames, owned_nets, slot_group}
use Rattle.leaf_tie.specs.Switch.{place_count, SwitchNames, SwitchSize, port_nets, output_nets, grant_nets, switch_group, lone_choice, lone_heads, lone_nets, lone_moves, chosen_place, lone_switch_group}
use Rattle.leaf_tie.specs.Tie.{LeafNames, PortNames, alloc_size, is_lone}
use Rattle.leaf_tie.specs.Glue.{NetNames, switch_names, switch_size, switch_part, link_names, attach_names, attach_size, high, has_port, unready_group, link_push, pop_of}
use Rattle.leaf_tie.specs.Whole.{each_group, to_neighbour, uses_slot, domain_groups, leaf_groups}

module _ (x : Name) where
  -- ---- counted

  abbrev pub declares : List Item → ℕ
  declares [] = 0
  declares (wire h n ∷ is) = one_if (bytes_eq x n) + declares is
  declares (reg h n ∷ is) = one_if (bytes_eq x n) + declares is
  declares (mem h n last ∷ is) = one_if (bytes_eq x n) + declares is
  declares (assign n e ∷ is) = declares is
  declares (clocked n k e ∷ is) = declares is
  declares (store c n i e ∷ is) = declares is

  abbrev pub driven : List Item → ℕ
  driven is = drivers [] (map item is) x

  pub declares-append : (a b : List Item) → declares (a ++ b) ≡ declares a + declares b
  declares-append [] b = omega arith
  declares-append (wire h n ∷ a) b = rw (declares-append a b) (omega arith)
  declares-append (reg h n ∷ a) b = rw (declares-append a b) (omega arith)
  declares-append (mem h n last ∷ a) b = rw (declares-append a b) (omega arith)
  declares-append (assign n e ∷ a) b = declares-append a b
  declares-append (clocked n k e ∷ a) b = declares-append a b
  declares-append (store c n i e ∷ a) b = declares-append a b

  map-item : (a b : List Item) → map item (a ++ b) ≡ map item a ++ map item b
  map-item [] b = refl
  map-item (y ∷ a) b = ap (λ xs. item y ∷ xs) (map-item a b)

  pub driven-append : (a b : List Item) → driven (a ++ b) ≡ driven a + driven b
  driven-append a b = ap (λ z. drivers [] z x) (map-item a b) ∙ drivers-append [] (map item a) (map item b) x

  -- ---- lists in which it is so

  abbrev pub Even : List Item → Type 0
  Even is = declares is ≡ driven is

  both : (a b : List Item) → Even a → Even b → Even (a ++ b)
  both a b e f = declares-append a b ∙ rw (e, f) (sym (driven-append a b))

  evens : (n : ℕ) (f : ℕ → List Item) → ((k : ℕ) → Even (f k)) → Even (for_each n f)
  evens zero f h = refl
  evens (suc n) f h = both (for_each n f) (f n) (evens n f h) (h n)

  -- ---- families of names

  abbrev among : (ℕ → Name) → ℕ → ℕ
  among f zero = 0
  among f (suc n) = among f n + one_if (bytes_eq x (f n))

  of-registers : (h : ℕ) (f : ℕ → Name) (n : ℕ) → declares (for_each n (λ k. reg h (f k) ∷ [])) ≡ among f n
  of-registers h f zero = refl
  of-registers h f (suc n) = declares-append (for_each n (λ k. reg h (f k) ∷ [])) (reg h (f n) ∷ []) ∙ rw (of-registers h f n) (omega arith)

  none-driven : (h : ℕ) (f : ℕ → Name) (n : ℕ) → driven (for_each n (λ k. reg h (f k) ∷ [])) ≡ 0
  none-driven h f zero = refl
  none-driven h f (suc n) = driven-append (for_each n (λ k. reg h (f k) ∷ [])) (reg h (f n) ∷ []) ∙ rw (none-driven h f n) refl

  of-moves : (f : ℕ → Name) (c : Const) (e : ℕ → Expr) (n : ℕ) → driven (for_each n (λ k. clocked (f k) c (e k) ∷ [])) ≡ among f n
  of-moves f c e zero = refl
  of-moves f c e (suc n) = driven-append (for_each n (λ k. clocked (f k) c (e k) ∷ [])) (clocked (f n) c (e n) ∷ []) ∙ rw (of-moves f c e n) (omega arith)

  none-declared : (f : ℕ → Name) (c : Const) (e : ℕ → Expr) (n : ℕ) → declares (for_each n (λ k. clocked (f k) c (e k) ∷ [])) ≡ 0
  none-declared f c e zero = refl
  none-declared f c e (suc n) = declares-append (for_each n (λ k. clocked (f k) c (e k) ∷ [])) (clocked (f n) c (e n) ∷ []) ∙ rw (none-declared f c e n) refl

  among-split : (f : ℕ → Name) (a b : ℕ) → among f (a + b) ≡ among f a + among (λ j. f (a + j)) b
  among-split f a zero = ap (among f) (let e : a + 0 ≡ a = omega arith in e) ∙ omega arith
  among-split f a (suc b) = ap (among f) (let e : a + suc b ≡ suc (a + b) = omega arith in e) ∙ rw (among-split f a b) (omega arith)

  among-first : (f : ℕ → Name) (n : ℕ) → among f (n + 1) ≡ one_if (bytes_eq x (f 0)) + among (λ i. f (i + 1)) n
  among-first f zero = omega arith
  among-first f (suc n) = ap (among f) (let e : suc n + 1 ≡ suc (n + 1) = omega arith in e) ∙ rw (among-first f n) (omega arith)

  of-rows : (f : ℕ → Name) (c : Const) (e : ℕ → ℕ → Expr) (n m : ℕ) → driven (for_each n (λ k. for_each m (λ j. clocked (f (k * m + j)) c (e k j) ∷ []))) ≡ among f (n * m)
  of-rows f c e zero m = sym (ap (among f) (let e : 0 * m ≡ 0 = omega arith in e))
  of-rows f c e (suc n) m =
      driven-append (for_each n (λ k. for_each m (λ j. clocked (f (k * m + j)) c (e k j) ∷ []))) (for_each m (λ j. clocked (f (n * m + j)) c (e n j) ∷ []))
      ∙ rw (of-rows f c e n m, of-moves (λ j. f (n * m + j)) c (e n) m) (sym (among-split f (n * m) m) ∙ ap (among f) (let e : n * m + m ≡ suc n * m = omega arith in e))

  none-in-rows : (f : ℕ → Name) (c : Const) (e : ℕ → ℕ → Expr) (n m : ℕ) → declares (for_each n (λ k. for_each m (λ j. clocked (f (k * m + j)) c (e k j) ∷ []))) ≡ 0
  none-in-rows f c e zero m = refl
  none-in-rows f c e (suc n) m =
      declares-append (for_each n (λ k. for_each m (λ j. clocked (f (k * m + j)) c (e k j) ∷ []))) (for_each m (λ j. clocked (f (n * m + j)) c (e n j) ∷ []))
      ∙ rw (none-in-rows f c e n m, none-declared (λ j. f (n * m + j)) c (e n) m) refl

  -- ---- the families of groups

  pairs-class : (a : AllocNames) (z : AllocSize) (n : ℕ) → Even (for_each n (class_nets a z))
  pairs-class a z n = evens n (class_nets a z) (λ k. omega arith)

  pairs-taken : (p : Plan) (d n o : ℕ) (a : AllocNames) (z : AllocSize) (m : ℕ) → Even (for_each m (taken_nets p d n o a z))
  pairs-taken p d n o a z m = evens m (taken_nets p d n o a z) (λ k. omega arith)

  looks : (address : Name) (look : ℕ → Name) (b : ℕ) (rs : List Range) → Even (look_nets address look b rs)
  looks address look b [] = refl
  looks address look b (r ∷ rs) = both (look_nets address look b rs) (defined b (look (suc (length rs))) (choose (in_range address r) (in_bits (b + 1) (2 ^ b + r.tile)) (looked look b (length rs)))) (looks address look b rs) (omega arith)

  -- ---- groups

  -- what a group declares, it drives
  pub record EvenGroup (g : Group) : Type 0 where
    pub same : declares g.heads + (declares g.nets + declares g.moves) ≡ driven g.heads + (driven g.nets + driven g.moves)

  requests-even : (p : Plan) (d n o : ℕ) (a : AllocNames) (z : AllocSize) → Even (class_requests p d n o a z)
  requests-even p d n o a z =
      let taken = pairs-taken p d n o a z (z.last + 1) in
      let rest : Even (wire z.high a.choice.request ∷ assign a.choice.request (or_upto z.last (asks_class p d n o a z)) ∷ ((rotate_group a.choice z.high).nets ++ for_each (z.last + 1) (taken_nets p d n o a z))) = omega (arith, taken) in
      both (for_each (z.last + 1) (class_nets a z)) _ (pairs-class a z (z.last + 1)) rest

  alloc-even : (p : Plan) (d n o : ℕ) (a : AllocNames) (z : AllocSize) → EvenGroup (alloc_group p d n o a z)
  alloc-even p d n o a z =
      let nets : Even (alloc_group p d n o a z).nets = go (has_one z) in
      let heads = of-registers z.high a.active (out_count z) in
      let idle = none-driven z.high a.active (out_count z) in
      let moved = of-rows a.active (record { width = z.high + 1; value = 0 }) (λ k j. two Or (two And (net (a.active
      (class_start z k + j))) (not (net a.ends))) (becomes_active a z k j)) (z.last + 1) (z.size + 1) in
      let undeclared = none-in-rows a.active (record { width = z.high + 1; value = 0 }) (λ k j. two Or (two And (net
      (a.active (class_start z k + j))) (not (net a.ends))) (becomes_active a z k j)) (z.last + 1) (z.size + 1) in
      record { same = omega (arith, nets, heads, idle, moved, undeclared) }
    where
      go : (b : Bool) → Even (if b then lone_requests a z else class_requests p d n o a z)
      go true = omega arith
      go false = requests-even p d n o a z

  unready-even : (p : Plan) (nets : NetNames) (d o : ℕ) → EvenGroup (unready_group p nets d o)
  unready-even p nets d o = record { same = go (is_lone p d) }
    where
      go : (b : Bool) → 0 + (declares (if b then [] else defined (high p d) (nets.ready d o) (in_bits
          (high p d + 1) 0)) + 0)
          ≡ 0 + (driven (if b then [] else defined (high p d) (nets.ready d o) (in_bits (high p d + 1) 0)) + 0)
      go true = refl
      go false = omega arith

  -- what the first lists declare, the second ones drive
  paired : (n : ℕ) (f g : ℕ → List Item) → ((k : ℕ) → declares (f k) + declares (g k) ≡ driven (f k) + driven (g k))
      → declares (for_each n f) + declares (for_each n g) ≡ driven (for_each n f) + driven (for_each n g)
  paired zero f g h = refl
  paired (suc n) f g h =
      let rest = paired n f g h in
      let here = h n in
      let f1 = declares-append (for_each n f) (f n) in
      let f2 = driven-append (for_each n f) (f n) in
      let g1 = declares-append (for_each n g) (g n) in
      let g2 = driven-append (for_each n g) (g n) in
      omega (arith, rest, here, f1, f2, g1, g2)

  lone-even : (a : SwitchNames) (last : ℕ) (there : ℕ → Bool) → EvenGroup (lone_switch_group a last there)
  lone-even a last there =
      let nets = evens (last + 1) (lone_nets a last there) (λ o. its-nets o (there o)) in
      let leaves : Even (defined last a.leaves (or_upto last (chosen_place a last there))) = omega arith in
      let all = both (for_each (last + 1) (lone_nets a last there)) (defined last a.leaves (or_upto last
      (chosen_place a last there))) nets leaves in
      let rest = paired (last + 1) (lone_heads a last there) (lone_moves a last there) (λ o. its-pointer o (there o)) in
      record { same = omega (arith, all, rest) }
    where
      its-nets : (o : ℕ) (b : Bool) → Even (if b then (rotate_group (lone_choice a o) last).nets else [])
      its-nets o true = omega arith
      its-nets o false = refl

      its-pointer : (o : ℕ) (b : Bool)
          → declares (if b then (rotate_group (lone_choice a o) last).heads else []) + declares (if b then
          (rotate_group (lone_choice a o) last).moves else [])
          ≡ driven (if b then (rotate_group (lone_choice a o) last).heads else []) + driven (if b then (rotate_group
          (lone_choice a o) last).moves else [])
      its-pointer o true = omega arith
      its-pointer o false = refl

  switch-even : (a : SwitchNames) (z : SwitchSize) → EvenGroup (switch_group a z)
  switch-even a z =
      let ports = evens (z.last + 1) (port_nets a z) (λ k. omega arith) in
      let outputs = evens (z.last + 1) (output_nets a z) (λ k. omega arith) in
      let grants = evens (z.last + 1) (grant_nets a z) (λ k. omega arith) in
      let after = declares-append (for_each (z.last + 1) (grant_nets a z)) (defined (place_count z - 1) a.leaves (cat (row_parts (λ port. net (a.granted port)) z.last))) in
      let after' = driven-append (for_each (z.last + 1) (grant_nets a z)) (defined (place_count z - 1) a.leaves (cat (row_parts (λ port. net (a.granted port)) z.last))) in
      let between = declares-append (for_each (z.last + 1) (output_nets a z)) (for_each (z.last + 1) (grant_nets a z) ++ defined (place_count z - 1) a.leaves (cat (row_parts (λ port. net (a.granted port)) z.last))) in
      let between' = driven-append (for_each (z.last + 1) (output_nets a z)) (for_each (z.last + 1) (grant_nets a z) ++ defined (place_count z - 1) a.leaves (cat (row_parts (λ port. net (a.granted port)) z.last))) in
      let first = declares-append (for_each (z.last + 1) (port_nets a z)) (wire (place_count z - 1) a.picked ∷ assign a.picked (cat (row_parts (λ port. net (a.turn port).winner) z.last)) ∷ (for_each (z.last + 1) (output_nets a z) ++ (for_each (z.last + 1) (grant_nets a z) ++ defined (place_count z - 1) a.leaves (cat (row_parts (λ port. net (a.granted port)) z.last))))) in
      let first' = driven-append (for_each (z.last + 1) (port_nets a z)) (wire (place_count z - 1) a.picked ∷ assign a.picked (cat (row_parts (λ port. net (a.turn port).winner) z.last)) ∷ (for_each (z.last + 1) (output_nets a z) ++ (for_each (z.last + 1) (grant_nets a z) ++ defined (place_count z - 1) a.leaves (cat (row_parts (λ port. net (a.granted port)) z.last))))) in
      let heads = declares-append (for_each (z.last + 1) (λ o. reg z.last (a.choice o).pointer ∷ [])) (for_each (z.last + 1) (λ port. reg z.channel (a.turn port).pointer ∷ [])) in
      let heads' = driven-append (for_each (z.last + 1) (λ o. reg z.last (a.choice o).pointer ∷ [])) (for_each (z.last + 1) (λ port. reg z.channel (a.turn port).pointer ∷ [])) in
      let choices = of-registers z.last (λ o. (a.choice o).pointer) (z.last + 1) in
      let turns = of-registers z.channel (λ o. (a.turn o).pointer) (z.last + 1) in
      let idle = none-driven z.last (λ o. (a.choice o).pointer) (z.last + 1) in
      let idle' = none-driven z.channel (λ o. (a.turn o).pointer) (z.last + 1) in
      let moves = declares-append (for_each (z.last + 1) (λ o. pointer_moves (a.choice o).pointer (a.choice o).winner z.last)) (for_each (z.last + 1) (λ port. pointer_moves (a.turn port).pointer (a.granted port) z.channel)) in
      let moves' = driven-append (for_each (z.last + 1) (λ o. pointer_moves (a.choice o).pointer (a.choice o).winner z.last)) (for_each (z.last + 1) (λ port. pointer_moves (a.turn port).pointer (a.granted port) z.channel)) in
      let m1 = of-moves (λ o. (a.choice o).pointer) (record { width = z.last + 1; value = 2 ^ (z.last + 1) - 1 }) (λ o. choose (is_empty z.last (net (a.choice o).winner)) (net (a.choice o).pointer) (behind_member z.last (a.choice o).winner)) (z.last + 1) in
      let m2 = of-moves (λ o. (a.turn o).pointer) (record { width = z.channel + 1; value = 2 ^ (z.channel + 1) - 1 }) (λ o. choose (is_empty z.channel (net (a.granted o))) (net (a.turn o).pointer) (behind_member z.channel (a.granted o))) (z.last + 1) in
      let u1 = none-declared (λ o. (a.choice o).pointer) (record { width = z.last + 1; value = 2 ^ (z.last + 1) - 1 }) (λ o. choose (is_empty z.last (net (a.choice o).winner)) (net (a.choice o).pointer) (behind_member z.last (a.choice o).winner)) (z.last + 1) in
      let u2 = none-declared (λ o. (a.turn o).pointer) (record { width = z.channel + 1; value = 2 ^ (z.channel + 1) - 1 }) (λ o. choose (is_empty z.channel (net (a.granted o))) (net (a.turn o).pointer) (behind_member z.channel (a.granted o))) (z.last + 1) in
      record { same = omega (arith, ports, outputs, grants, after, after', between, between', first, first', heads, heads', choices, turns, idle, idle', moves, moves', m1, m2, u1, u2) }

  part-even : (p : Plan) (n : ℕ) (names : LeafNames) (nets : NetNames) (d : ℕ) → EvenGroup
      (switch_part p n names nets d)
  part-even p n names nets d = go (is_lone p d)
    where
      go : (b : Bool) → EvenGroup (if b then lone_switch_group (switch_names names nets d) (ports p - 1)
          (has_port p n d) else switch_group (switch_names names nets d) (switch_size p d))
      go true = lone-even (switch_names names nets d) (ports p - 1) (has_port p n d)
      go false = switch-even (switch_names names nets d) (switch_size p d)

  link-even : (a : LinkNames) (h domains last : ℕ) → EvenGroup (link_group a h domains last)
  link-even a h domains last =
      let heads = of-registers h a.row (last + 1) in
      let idle = none-driven h a.row (last + 1) in
      let split = among-first a.row last in
      let moved = of-moves (λ i. a.row (i + 1)) (record { width = h + 1; value = 0 }) (λ i. net (a.row i)) last in
      let undeclared = none-declared (λ i. a.row (i + 1)) (record { width = h + 1; value = 0 }) (λ i. net (a.row i)) last in
      record { same = omega (arith, heads, idle, split, moved, undeclared) }

  slot-even : (a : SlotNames) (h : ℕ) (slots : List ℕ) (domains first : ℕ) → EvenGroup (slot_group a h slots domains first)
  slot-even a h slots domains first = let nets = evens domains (owned_nets a h slots) (λ k. omega arith) in record { same = omega (arith, nets) }

  abbrev drop_looks : Plan → ℕ → ℕ → AttachNames → PortNames → AttachSize → List Item
  drop_looks p n d a q z =
      defined z.dest_bits a.found (looked a.look z.dest_bits (length (reach p d)))
      ++ (defined 0 a.taken (two And (net (q.offered d)) (two Or (net a.dropping) (room_expr p d a z)))
      ++ (defined 0 a.goes (two Or (net a.passing) (two And (not (net a.dropping)) (bit a.found z.dest_bits)))
      ++ (defined (z.dest_bits - 1) a.to (choose (net a.passing) (net a.dest) (part a.found (z.dest_bits - 1) 0))
      ++ (defined 0 a.enters (two And (net a.taken) (net a.goes))
      ++ (assign a.word (entry_word p n a (q.last d) (q.payload d) z.dest_bits) ∷ [])))))

  attach-even : (p : Plan) (n d : ℕ) (a : AttachNames) (q : PortNames) (z : AttachSize) → EvenGroup (attach_group p n d a q z)
  attach-even p n d a q z =
      let found = looks (q.address d) a.look z.dest_bits (reach p d) in
      let rest = declares-append (look_nets (q.address d) a.look z.dest_bits (reach p d)) (drop_looks p n d a q z) in
      let rest' = driven-append (look_nets (q.address d) a.look z.dest_bits (reach p d)) (drop_looks p n d a q z) in
      record { same = omega (arith, found, rest, rest') }

  buffer-even : (a : FifoNames) (z : BufferSize) (push pop : Expr) → EvenGroup (buffer_group a z push pop)
  buffer-even a z push pop = record { same = omega arith }

  -- ---- lists of groups

  pub part-declares : (f : Group → List Item) (xs ys : List Group) → declares (flat_map f (xs ++ ys)) ≡ declares (flat_map f xs) + declares (flat_map f ys)
  part-declares f [] ys = omega arith
  part-declares f (g ∷ xs) ys = declares-append (f g) (flat_map f (xs ++ ys)) ∙ rw (part-declares f xs ys) (omega (arith, declares-append (f g) (flat_map f xs)))

  part-driven : (f : Group → List Item) (xs ys : List Group) → driven (flat_map f (xs ++ ys)) ≡ driven (flat_map f xs) + driven (flat_map f ys)
  part-driven f [] ys = omega arith
  part-driven f (g ∷ xs) ys = driven-append (f g) (flat_map f (xs ++ ys)) ∙ rw (part-driven f xs ys) (omega (arith, driven-append (f g) (flat_map f xs)))

  -- what the groups declare, they drive
  pub record EvenGroups (gs : List Group) : Type 0 where
    pub same : declares (flat_map (λ (g : Group). g.heads) gs) + (declares (flat_map (λ (g : Group). g.nets) gs) + declares (flat_map (λ (g : Group). g.moves) gs))
        ≡ driven (flat_map (λ (g : Group). g.heads) gs) + (driven (flat_map (λ (g : Group). g.nets) gs) + driven (flat_map (λ (g : Group). g.moves) gs))

  no-evens : EvenGroups []
  no-evens = record { same = refl }

  even-next : {g : Group} {gs : List Group} → EvenGroup g → EvenGroups gs → EvenGroups (g ∷ gs)
  even-next {g} {gs} a b =
      let first = a.same in let more = b.same in
      record {
        same = omega (
          arith,
          first,
          more,
          declares-append g.heads (flat_map (λ (g : Group). g.heads) gs),
          declares-append g.nets (flat_map (λ (g : Group). g.nets) gs),
          declares-append g.moves (flat_map (λ (g : Group). g.moves) gs),
          driven-append g.heads (flat_map (λ (g : Group). g.heads) gs),
          driven-append g.nets (flat_map (λ (g : Group). g.nets) gs),
          driven-append g.moves (flat_map (λ (g : Group). g.moves) gs),
        );
      }

  even-join : {xs ys : List Group} → EvenGroups xs → EvenGroups ys → EvenGroups (xs ++ ys)
  even-join {xs} {ys} a b =
      let first = a.same in let more = b.same in
      record {
        same = omega (
          arith,
          first,
          more,
          part-declares (λ (g : Group). g.heads) xs ys,
          part-declares (λ (g : Group). g.nets) xs ys,
          part-declares (λ (g : Group). g.moves) xs ys,
          part-driven (λ (g : Group). g.heads) xs ys,
          part-driven (λ (g : Group). g.nets) xs ys,
          part-driven (λ (g : Group). g.moves) xs ys,
        );
      }

  even-each : {f : ℕ → List Group} (n : ℕ) → ((k : ℕ) → EvenGroups (f k)) → EvenGroups (each_group n f)
  even-each zero h = no-evens
  even-each (suc n) h = even-join (even-each n h) (h n)

  even-if : {xs ys : List Group} (b : Bool) → EvenGroups xs → EvenGroups ys → EvenGroups (if b then xs else ys)
  even-if true a b = a
  even-if false a b = b

  even-neighbour : {f : ℕ → List Group} (m : Option ℕ) → ((k : ℕ) → EvenGroups (f k)) → EvenGroups (to_neighbour f m)
  even-neighbour None h = no-evens
  even-neighbour (Some k) h = h k

  -- a group of one net, and one of one register
  one-net : {h : ℕ} {n : Name} {e : Expr} → EvenGroup (record { heads = []; nets = wire h n ∷ assign n e ∷ []; moves = [] })
  one-net = record { same = omega arith }

  one-register : {h : ℕ} {n : Name} {c : Const} {e : Expr} → EvenGroup (record { heads = reg h n ∷ []; nets = []; moves = clocked n c e ∷ [] })
  one-register = record { same = omega arith }

  module _ (p : Plan) (n : ℕ) (names : LeafNames) (nets : NetNames) (q : PortNames) (base : ℕ → ℕ) (size : BufferSize) (slot_high dest_bits link_flit link_channel : ℕ) where
    domain-even : (d : ℕ) → EvenGroups (domain_groups p n names nets q base size dest_bits link_flit link_channel d)
    domain-even d =
        even-next one-net (even-next one-net
        (even-join (even-each (ports p) (λ o. even-if (has_port p n d o) (even-next one-net (even-next
        (alloc-even p d n o (names.alloc d o) (alloc_size p d o)) (even-next one-net no-evens))) (even-next
        (unready-even p nets d o) no-evens)))
        (even-next (part-even p n names nets d) (even-next one-net (even-next one-register
        (even-join (even-each (ports p) (λ o. even-if (has_port p n d o) (even-next one-net (even-next one-net no-evens)) no-evens))
        (even-join (even-each (ports p) (λ o. even-if (is_some (neighbour p n o))
        (even-join (even-each (link_channels p d) (λ c. even-next one-net (even-next one-register no-evens))) (even-next one-net (even-next one-register no-evens))) no-evens))
        (even-join (even-each (ports p) (λ port. even-neighbour (neighbour p n port) (λ m. even-each (link_channels p d) (λ c. even-next (buffer-even (names.buffer d port c) size (link_push p names q link_flit link_channel d port m c) (pop_of p nets d port c)) no-evens))))
        (even-if (hosts p n d)
        (even-next one-net (even-next (record { same = omega arith }) (even-next (attach-even p n d (attach_names names nets d) q (attach_size p size dest_bits d))
        (even-each (channels p d) (λ c. even-next (buffer-even (names.buffer d 0 c) size (enter_at (attach_names names nets d) (attach_size p size dest_bits d) c) (pop_of p nets d 0 c)) no-evens))))) no-evens)))))))))

    pub leaf-even : EvenGroups (leaf_groups p n names nets q base size slot_high dest_bits link_flit link_channel)
    leaf-even =
        even-join (even-each (length p.slots) (λ k. even-if (uses_slot p n k) (even-next (slot-even (names.slot k) slot_high p.slots (length p.domains) k) no-evens) no-evens))
        (even-join (even-each (ports p) (λ o. even-if (is_some (neighbour p n o)) (even-next (record { same = omega arith }) (even-next (link-even (link_names p n names nets o) (link_channel + link_flit) (length p.domains) (p.stages - 1)) no-evens)) no-evens))
        (even-each (length p.domains) domain-even))

    -- each name is declared as often as it is driven
    pub declared-as-driven : declares (all_items (leaf_groups p n names nets q base size slot_high dest_bits link_flit link_channel)) ≡ driven (all_items (leaf_groups p n names nets q base size slot_high dest_bits link_flit link_channel))
    declared-as-driven =
        let gs = leaf_groups p n names nets q base size slot_high dest_bits link_flit link_channel in
        let all = leaf-even.same in
        declares-append (flat_map (λ (g : Group). g.heads) gs) (flat_map (λ (g : Group). g.nets) gs ++ flat_map (λ (g : Group). g.moves) gs)
        ∙ omega (arith, all, declares-append (flat_map (λ (g : Group). g.nets) gs) (flat_map (λ (g : Group). g.moves) gs), driven-append (flat_map (λ (g : Group). g.nets) gs) (flat_map (λ (g : Group). g.moves) gs))
        ∙ sym (driven-append (flat_map (λ (g : Group). g.heads) gs) (flat_map (λ (g : Group). g.nets) gs ++ flat_map (λ (g : Group). g.moves) gs))
