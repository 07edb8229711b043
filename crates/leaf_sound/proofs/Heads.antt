-- What the heads of a leaf use stands before it, group by group; and the moves declare nothing.
use Rattle.std.proofs.Common.{◌≡◌, ℕ, zero, suc, ◌+◌, ◌-◌, ◌<◌, ◌≤◌, ◌⊎◌, inl, inr, Bool, true, false, List, [], ◌∷◌, ◌++◌, length, sym, ap, subst, arith, Option, Some, None, is_some, flat_map, if◌then◌else◌}
use Rattle.std.specs.List.{AllByRecursion}
use Rattle.vl_tree.specs.Values.{Name, Item, wire, reg, mem, assign, clocked, store, net}
use Rattle.vl_model.proofs.Together.{all-join}
use Rattle.leaf_sound.proofs.Rising.{flat-append}
use Rattle.vl_model.specs.Meaning.{one_if}
use Rattle.vl_model.proofs.Settling.{itself}
use Rattle.noc_model.specs.Plan.{Plan, ports, hosts, channels, link_channels}
use Rattle.noc_model.specs.Place.{neighbour}
use Rattle.flit_word.specs.Words.{dest_bits, channel_bits, flit_bits}
use Rattle.gen_kit.specs.Families.{for_each}
use Rattle.gen_kit.specs.Groups.{Group}
use Rattle.leaf_tie.specs.Alloc.{alloc_group, out_count, active_move}
use Rattle.leaf_tie.specs.Attach.{attach_group, enter_at}
use Rattle.leaf_tie.specs.Links.{link_group}
use Rattle.leaf_tie.specs.Tie.{HasLink, alloc_size, is_lone}
use Rattle.leaf_tie.specs.Glue.{switch_names, switch_size, link_names, attach_names, attach_size, has_port, arrival_group, link_push, pop_of}
use Rattle.leaf_tie.specs.Whole.{each_group, to_neighbour, uses_slot, domain_groups, shared_groups}
use Rattle.leaf_tie.specs.Names.{leaf_names, net_names, port_names, credit_base, leaf_sizes, inner_groups}
use Rattle.leaf_sound.proofs.Evened.{declares, part-declares}
use Rattle.leaf_sound.proofs.Ranked.{no-local}
use Rattle.leaf_sound.proofs.Priors.{Priors, priors-nil, priors-wire, priors-reg, priors-join, priors-each, buffer-priors, GroupsPrior, no-groups, group-next, group-then, groups-join, groups-then, groups-each, groups-if, groups-neighbour}
use Rattle.leaf_tie.specs.Buffers.{buffer_group}
use Rattle.leaf_tie.specs.Switch.{switch_group, lone_switch_group, lone_choice, lone_moves}
use Rattle.gen_kit.specs.Rotate.{pointer_moves, rotate_group}

-- what one group list declares among many
each-declares : (x : Name) (k : ℕ) (f : ℕ → List Group) (i : ℕ) → i < k → declares x (flat_map (λ (g : Group). g.heads) (f i)) ≤ declares x (flat_map (λ (g : Group). g.heads) (each_group k f))
each-declares x zero f i less = absurd (omega arith)
each-declares x (suc k) f i less = go (λ h. each-declares x k f i h) order
  where
    order : (i < k) ⊎ (i ≡ k)
    order = grind arith

    go : (i < k → declares x (flat_map (λ (g : Group). g.heads) (f i)) ≤ declares x (flat_map (λ (g : Group). g.heads) (each_group k f))) → (i < k) ⊎ (i ≡ k) → declares x (flat_map (λ (g : Group). g.heads) (f i)) ≤ declares x (flat_map (λ (g : Group). g.heads) (each_group k f ++ f k))
    go more (inl h) = let rest = more h in let split = part-declares x (λ (g : Group). g.heads) (each_group k f) (f k) in omega (arith, rest, split)
    go more (inr e) = let split = part-declares x (λ (g : Group). g.heads) (each_group k f) (f k) in let same : declares x (flat_map (λ (g : Group). g.heads) (f i)) ≡ declares x (flat_map (λ (g : Group). g.heads) (f k)) = ap (λ j. declares x (flat_map (λ (g : Group). g.heads) (f j))) e in omega (arith, split, same)

module _ (p : Plan) (n : ℕ) where
  -- ---- heads

  module _ (W : Name → Type 0) (stored : (q : ℕ) → HasLink p n q → W (net_names.stored q)) (d : ℕ) where
    link-buffers : (q m : ℕ) → q < ports p → neighbour p n q ≡ Some m → GroupsPrior W (each_group (link_channels p d) (λ c. buffer_group (leaf_names.buffer d q c) (leaf_sizes p) (link_push p leaf_names (port_names n) (flit_bits p) (channel_bits p) d q m c) (pop_of p net_names d q c) ∷ []))
    link-buffers zero m low e = absurd (no-local p n (ap is_some e))
    link-buffers (suc q) m low e = groups-each (link_channels p d) (λ c less. group-next (buffer-priors (leaf_names.buffer d (suc q) c) (leaf_sizes p) (link_push p leaf_names (port_names n) (flit_bits p) (channel_bits p) d (suc q) m c) (pop_of p net_names d (suc q) c) (stored (suc q) (low, ap is_some e))) no-groups)

    local-declared : 1 ≤ declares (net_names.local d) (attach_group p n d (attach_names leaf_names net_names d) (port_names n) (attach_size p (leaf_sizes p) (dest_bits p) d)).heads
    local-declared = let one = ap one_if (itself (net_names.local d)) in omega (arith, one)

    switch-prior : (b : Bool) → Priors W (if b then lone_switch_group (switch_names leaf_names net_names d)
        (ports p - 1) (has_port p n d) else switch_group (switch_names leaf_names net_names d) (switch_size p d)).heads
    switch-prior true = priors-each (ports p - 1 + 1) (λ o less. pointer-prior o (has_port p n d o))
      where
        pointer-prior : (o : ℕ) (c : Bool) → Priors W (if c then (rotate_group (lone_choice
            (switch_names leaf_names net_names d) o) (ports p - 1)).heads else [])
        pointer-prior o true = priors-reg priors-nil
        pointer-prior o false = priors-nil
    switch-prior false = priors-join (priors-each (ports p - 1 + 1) (λ o less. priors-reg priors-nil)) (priors-each
        (ports p - 1 + 1) (λ o less. priors-reg priors-nil))

    pub domain-prior : GroupsPrior W (domain_groups p n leaf_names net_names (port_names n) (credit_base p) (leaf_sizes p) (dest_bits p) (flit_bits p) (channel_bits p) d)
    domain-prior =
        group-next priors-nil (group-next priors-nil
        (groups-join (groups-each (ports p) (λ o low. groups-if (has_port p n d o)
        (λ has. group-next priors-nil (group-next (priors-reg (priors-reg (priors-reg (priors-each (out_count (alloc_size p d o)) (λ w less. priors-reg priors-nil))))) (group-next priors-nil no-groups)))
        (λ absent. group-next priors-nil no-groups)))
        (group-next (switch-prior (is_lone p d))
        (group-next priors-nil (group-next (priors-reg priors-nil)
        (groups-join (groups-each (ports p) (λ o low. groups-if (has_port p n d o) (λ has. group-next priors-nil (group-next priors-nil no-groups)) (λ absent. no-groups)))
        (groups-join (groups-each (ports p) (λ o low. groups-if (is_some (neighbour p n o))
        (λ some. groups-join (groups-each (link_channels p d) (λ x less. group-next priors-nil (group-next (priors-reg priors-nil) no-groups))) (group-next priors-nil (group-next (priors-reg priors-nil) no-groups)))
        (λ none. no-groups)))
        (groups-join (groups-each (ports p) (λ q low. groups-neighbour (neighbour p n q) (λ m e. link-buffers q m low e)))
        (groups-if (hosts p n d)
        (λ host. group-next priors-nil (group-next (priors-reg priors-nil)
        (group-then (priors-reg (priors-reg (priors-reg (priors-reg (priors-reg (priors-wire priors-nil))))))
        (groups-each (channels p d) (λ c less. group-next (buffer-priors (leaf_names.buffer d 0 c) (leaf_sizes p) (enter_at (attach_names leaf_names net_names d) (attach_size p (leaf_sizes p) (dest_bits p) d) c) (pop_of p net_names d 0 c) (inr local-declared)) no-groups)))))
        (λ away. no-groups))))))))))

  stored-declared : (q : ℕ) → HasLink p n q → 1 ≤ declares (net_names.stored q) (flat_map (λ (g : Group). g.heads) (shared_groups p n leaf_names net_names (port_names n) (leaf_sizes p) (dest_bits p) (flit_bits p) (channel_bits p)))
  stored-declared q link =
      let all = each-declares (net_names.stored q) (ports p) (λ o. if is_some (neighbour p n o) then arrival_group p n net_names (port_names n) (leaf_sizes p) (dest_bits p) o ∷ link_group (link_names p n leaf_names net_names o) (channel_bits p + flit_bits p) (length p.domains) (p.stages - 1) ∷ [] else []) q link.0 in
      let one = ap one_if (itself (net_names.stored q)) in
      let here : 1 ≤ declares (net_names.stored q) (flat_map (λ (g : Group). g.heads) (if is_some (neighbour p n q) then arrival_group p n net_names (port_names n) (leaf_sizes p) (dest_bits p) q ∷ link_group (link_names p n leaf_names net_names q) (channel_bits p + flit_bits p) (length p.domains) (p.stages - 1) ∷ [] else [])) = rw link.1 (omega (arith, one)) in
      omega (arith, all, here)

  pub heads-prior : GroupsPrior (λ m. ⊥) (inner_groups p n)
  heads-prior =
      groups-join (groups-each (length p.slots) (λ k less. groups-if (uses_slot p n k) (λ used. group-next (priors-reg priors-nil) no-groups) (λ idle. no-groups)))
      (groups-then (groups-each (ports p) (λ q low. groups-if (is_some (neighbour p n q)) (λ some. group-next (priors-wire priors-nil) (group-next (priors-each (p.stages - 1 + 1) (λ i less. priors-reg priors-nil)) no-groups)) (λ none. no-groups)))
      (groups-each (length p.domains) (λ d there. domain-prior (λ m. ⊥ ⊎ (1 ≤ declares m (flat_map (λ (g : Group). g.heads) (shared_groups p n leaf_names net_names (port_names n) (leaf_sizes p) (dest_bits p) (flit_bits p) (channel_bits p))))) (λ q link. inr (stored-declared q link)) d)))

-- ---- moves

abbrev pub IsMove : Item → Type 0
IsMove (clocked n k e) = Unit {0}
IsMove (store c n i e) = Unit {0}
IsMove (wire h n) = ⊥
IsMove (reg h n) = ⊥
IsMove (mem h n last) = ⊥
IsMove (assign n e) = ⊥

abbrev pub AllMove : List Item → Type 0
AllMove is = AllByRecursion IsMove is

record Moved (gs : List Group) : Type 0 where
  all : AllMove (flat_map (λ (g : Group). g.moves) gs)

moved-nil : Moved []
moved-nil = record { all = tt }

moved-next : {g : Group} {gs : List Group} → AllMove g.moves → Moved gs → Moved (g ∷ gs)
moved-next {g} {gs} e more = record { all = all-join IsMove g.moves (flat_map (λ (g : Group). g.moves) gs) e more.all }

moved-join : {xs ys : List Group} → Moved xs → Moved ys → Moved (xs ++ ys)
moved-join {xs} {ys} a b = record { all = subst AllMove (sym (flat-append (λ (g : Group). g.moves) xs ys)) (all-join IsMove (flat_map (λ (g : Group). g.moves) xs) (flat_map (λ (g : Group). g.moves) ys) a.all b.all) }

moved-each : {f : ℕ → List Group} (k : ℕ) → ((i : ℕ) → Moved (f i)) → Moved (each_group k f)
moved-each zero h = moved-nil
moved-each (suc k) h = moved-join (moved-each k h) (h k)

moved-if : {xs ys : List Group} (b : Bool) → Moved xs → Moved ys → Moved (if b then xs else ys)
moved-if true a b = a
moved-if false a b = b

moved-neighbour : {f : ℕ → List Group} (m : Option ℕ) → ((i : ℕ) → Moved (f i)) → Moved (to_neighbour f m)
moved-neighbour None h = moved-nil
moved-neighbour (Some m) h = h m

family : (k : ℕ) (f : ℕ → List Item) → ((i : ℕ) → AllMove (f i)) → AllMove (for_each k f)
family zero f h = tt
family (suc k) f h = all-join IsMove (for_each k f) (f k) (family k f h) (h k)

module _ (p : Plan) (n : ℕ) where
  alloc-moved : (d o : ℕ) → AllMove (alloc_group p d n o (leaf_names.alloc d o) (alloc_size p d o)).moves
  alloc-moved d o = (tt, (tt, (tt, family ((alloc_size p d o).last + 1) (λ k. for_each ((alloc_size p d o).size + 1) (active_move (leaf_names.alloc d o) (alloc_size p d o) k)) (λ k. family ((alloc_size p d o).size + 1) (active_move (leaf_names.alloc d o) (alloc_size p d o) k) (λ j. (tt, tt))))))

  switch-moved : (d : ℕ) → AllMove (switch_group (switch_names leaf_names net_names d) (switch_size p d)).moves
  switch-moved d =
      all-join IsMove (for_each (ports p - 1 + 1) (λ o. pointer_moves (leaf_names.switch d o).pointer (leaf_names.switch d o).winner (ports p - 1))) (for_each (ports p - 1 + 1) (λ o. pointer_moves (leaf_names.turn d o).pointer (net_names.granted d o) (link_channels p d - 1)))
      (family (ports p - 1 + 1) (λ o. pointer_moves (leaf_names.switch d o).pointer (leaf_names.switch d o).winner (ports p - 1)) (λ o. (tt, tt)))
      (family (ports p - 1 + 1) (λ o. pointer_moves (leaf_names.turn d o).pointer (net_names.granted d o) (link_channels p d - 1)) (λ o. (tt, tt)))

  part-moved : (d : ℕ) (b : Bool) → AllMove (if b then lone_switch_group (switch_names leaf_names net_names d)
      (ports p - 1) (has_port p n d) else switch_group (switch_names leaf_names net_names d) (switch_size p d)).moves
  part-moved d true = family (ports p - 1 + 1) (lone_moves (switch_names leaf_names net_names d) (ports p - 1)
      (has_port p n d)) (λ o. pointer-moved o (has_port p n d o))
    where
      pointer-moved : (o : ℕ) (c : Bool) → AllMove (if c then (rotate_group (lone_choice
          (switch_names leaf_names net_names d) o) (ports p - 1)).moves else [])
      pointer-moved o true = (tt, tt)
      pointer-moved o false = tt
  part-moved d false = switch-moved d

  link-moved : (q : ℕ) → AllMove (link_group (link_names p n leaf_names net_names q) (channel_bits p + flit_bits p) (length p.domains) (p.stages - 1)).moves
  link-moved q = (tt, family (p.stages - 1) (λ i. clocked (leaf_names.row q (i + 1)) (record { width = channel_bits p + flit_bits p + 1; value = 0 }) (net (leaf_names.row q i)) ∷ []) (λ i. (tt, tt)))

  moves-moved : Moved (inner_groups p n)
  moves-moved =
      moved-join (moved-each (length p.slots) (λ k. moved-if (uses_slot p n k) (moved-next (tt, tt) moved-nil) moved-nil))
      (moved-join (moved-each (ports p) (λ q. moved-if (is_some (neighbour p n q)) (moved-next tt (moved-next (link-moved q) moved-nil)) moved-nil))
      (moved-each (length p.domains) (λ d.
      moved-next tt (moved-next tt
      (moved-join (moved-each (ports p) (λ o. moved-if (has_port p n d o) (moved-next tt (moved-next (alloc-moved d o) (moved-next tt moved-nil))) (moved-next tt moved-nil)))
      (moved-next (part-moved d (is_lone p d)) (moved-next tt (moved-next (tt, tt)
      (moved-join (moved-each (ports p) (λ o. moved-if (has_port p n d o) (moved-next tt (moved-next tt moved-nil)) moved-nil))
      (moved-join (moved-each (ports p) (λ o. moved-if (is_some (neighbour p n o)) (moved-join (moved-each (link_channels p d) (λ c. moved-next tt (moved-next (tt, tt) moved-nil))) (moved-next tt (moved-next (tt, tt) moved-nil))) moved-nil))
      (moved-join (moved-each (ports p) (λ q. moved-neighbour (neighbour p n q) (λ m. moved-each (link_channels p d) (λ c. moved-next tt moved-nil))))
      (moved-if (hosts p n d) (moved-next tt (moved-next (tt, tt) (moved-next (tt, (tt, (tt, (tt, (tt, tt))))) (moved-each (channels p d) (λ c. moved-next tt moved-nil))))) moved-nil))))))))))))

  pub all-move : AllMove (flat_map (λ (g : Group). g.moves) (inner_groups p n))
  all-move = moves-moved.all
