-- All groups of a leaf but those of its output ports drive names in rising order, so each name once.
use Rattle.std.proofs.Common.{ℕ, suc, ◌+◌, ◌-◌, ◌*◌, ◌<◌, ◌≤◌, true, false, Bool, List, [], ◌∷◌, length, map, refl, arith, is_some, filter}
use Rattle.std.specs.Prelude.{if◌then◌else◌}
use Rattle.std.proofs.lemmas.Nat.{mul-le}
use Rattle.std.proofs.lemmas.Option.{slice_get-get_or}
use Rattle.vl_tree.specs.Values.{Name}
use Rattle.noc_model.specs.declared.Range.{Range}
use Rattle.noc_model.specs.declared.plan.DomainPart.{DomainPart}
use Rattle.noc_model.specs.Plan.{Plan, channels, link_channels, classes, ports, hosts}
use Rattle.noc_model.specs.Place.{neighbour}
use Rattle.noc_model.specs.Sound.{IsSound}
use Rattle.flit_word.specs.Words.{dest_bits, channel_bits, flit_bits}
use Rattle.vl_model.specs.Lines.{item}
use Rattle.vl_model.specs.Rules.{drivers}
use Rattle.gen_kit.specs.Groups.{all_items}
use Rattle.leaf_tie.specs.Attach.{reach}
use Rattle.leaf_tie.specs.Links.{link_group}
use Rattle.leaf_tie.specs.Glue.{link_names}
use Rattle.leaf_tie.specs.Whole.{uses_slot, slot_groups, shared_groups}
use Rattle.leaf_tie.specs.Names.{owns_tag, arrival_tag, slot_tag, row_tag, leaf_names, net_names, port_names, credit_base, leaf_sizes, slot_high, inner_groups}
use Rattle.leaf_sound.proofs.Keyed.{rank-net}
use Rattle.leaf_sound.proofs.Rising.{Rises, nothing, net-next, assign-next, clocked-next, wire-next, wider, join, each, once, GroupsRise, no-groups, groups-join, group-next, groups-wider, groups-each, groups-if}
use Rattle.leaf_sound.proofs.Ranked.{at, from, buffer_at}
use Rattle.leaf_sound.proofs.Nets.{its_nets, nets-rise}
use Rattle.leaf_sound.proofs.Moved.{its_moves, moves-rise}
use Rattle.leaf_sound.proofs.Headed.{its_heads, registers, one-reg, heads-rise}

-- ---- the sizes of a plan

pub few-classes : (p : Plan) → (1 ≤ classes p) × (classes p ≤ 2)
few-classes p = go p.torus
  where
    go : (b : Bool) → (1 ≤ (if b then 2 else 1)) × ((if b then 2 else 1) ≤ 2)
    go true = (omega arith, omega arith)
    go false = (omega arith, omega arith)

pub few-channels : (p : Plan) (d : ℕ) → IsSound p → d < length p.domains → (1 ≤ channels p d) × (channels p d ≤ 4)
few-channels p d sound there = let x : DomainPart = record { name = []; channels = 0 } in rw (slice_get-get_or p.domains d x there) (sound.channels d x there)

pub few-links : (p : Plan) (d : ℕ) → IsSound p → d < length p.domains → (1 ≤ link_channels p d) × (link_channels p d ≤ 8)
few-links p d sound there =
    let one = few-classes p in
    let some = few-channels p d sound there in
    let low : 1 * 1 ≤ classes p * channels p d = mul-le 1 1 (classes p) (channels p d) one.0 some.0 in
    let high : classes p * channels p d ≤ 2 * 4 = mul-le (classes p) (channels p d) 2 4 one.1 some.1 in
    (omega (arith, low), omega (arith, high))

pub few-ports : (p : Plan) → IsSound p → ports p ≤ 7
few-ports p sound = let most = sound.dims.1 in omega (arith, most)

length-filter : (f : Range → Bool) (rs : List Range) → length (filter f rs) ≤ length rs
length-filter f [] = omega arith
length-filter f (r ∷ rs) = go (f r) (length-filter f rs)
  where
    go : (b : Bool) → length (filter f rs) ≤ length rs → length (if b then r ∷ filter f rs else filter f rs) ≤ suc (length rs)
    go true h = omega (arith, h)
    go false h = omega (arith, h)

pub few-ranges : (p : Plan) (d : ℕ) → IsSound p → length (reach p d) ≤ 1024
few-ranges p d sound = let most = sound.range_count in let less = length-filter (λ (r : Range). hosts p r.tile d) p.ranges in omega (arith, most, less)

module _ (p : Plan) (n : ℕ) (sound : IsSound p) where
  few-domains : length p.domains ≤ 16
  few-domains = sound.domains.1

  -- ---- heads

  slots-head : GroupsRise its_heads 1 1 (slot_groups p n leaf_names (slot_high p))
  slots-head = groups-each its_heads (λ k. 1) (length p.slots) (λ k less. groups-if its_heads 1 1 (uses_slot p n k) (λ used. one-reg 1 1 refl (no-groups its_heads 1 1 (omega arith))) (λ idle. no-groups its_heads 1 1 (omega arith)))

  shared-head : GroupsRise its_heads 1 1 (shared_groups p n leaf_names net_names (port_names n) (leaf_sizes p) (dest_bits p) (flit_bits p) (channel_bits p))
  shared-head =
      groups-each its_heads (λ o. 1) (ports p) (λ o less. groups-if its_heads 1 1 (is_some (neighbour p n o))
      (λ there. group-next its_heads 1 1 1 (wire-next 1 1 (nothing 1 1 (omega arith)))
      (group-next its_heads 1 1 1 (registers (channel_bits p + flit_bits p) (leaf_names.row o) 1 (p.stages - 1 + 1)) (no-groups its_heads 1 1 (omega arith))))
      (λ absent. no-groups its_heads 1 1 (omega arith)))

  pub heads : GroupsRise its_heads 1 (2048 * 1024 + 1) (inner_groups p n)
  heads =
      groups-join its_heads 1 1 (2048 * 1024 + 1) slots-head
      (groups-join its_heads 1 1 (2048 * 1024 + 1) shared-head
      (groups-wider its_heads 1 (buffer_at 0 0 0) (buffer_at (length p.domains) 0 0) (2048 * 1024 + 1) (omega arith) (let few = few-domains in omega (arith, few))
      (groups-each its_heads (λ d. buffer_at d 0 0) (length p.domains)
      (λ d there. let few = few-domains in heads-rise p n d (port_names n) (credit_base p) (leaf_sizes p) (dest_bits p) (flit_bits p) (channel_bits p) (omega (arith, few)) (few-ports p sound) (few-links p d sound there).1 (few-channels p d sound there).1))))

  -- ---- nets

  slots-nets : GroupsRise its_nets (2048 * 1024 + 1) (2048 * 1536) (slot_groups p n leaf_names (slot_high p))
  slots-nets =
      let most = sound.slot_count.1 in
      groups-wider its_nets (2048 * 1024 + 1) (2048 * (1024 + 0) + 1) (2048 * (1024 + length p.slots) + 1) (2048 * 1536) (omega arith) (omega (arith, most))
      (groups-each its_nets (λ k. 2048 * (1024 + k) + 1) (length p.slots) (λ k less. groups-if its_nets (2048 * (1024 + k) + 1) (2048 * (1024 + suc k) + 1) (uses_slot p n k)
      (λ used. group-next its_nets (2048 * (1024 + k) + 1) (2048 * (1024 + suc k) + 1) (2048 * (1024 + suc k) + 1)
      (let few = few-domains in
      wider (2048 * (1024 + k) + 1) (2048 * (1024 + k) + 1 + 0) (2048 * (1024 + k) + 1 + length p.domains) (2048 * (1024 + suc k) + 1) (omega arith) (omega (arith, few))
      (each (λ e. 2048 * (1024 + k) + 1 + e) (length p.domains)
      (λ e below. net-next (2048 * (1024 + k) + 1 + e) (2048 * (1024 + k) + e + 1) (2048 * (1024 + k) + 1 + suc e) (2048 * (1024 + k) + 1 + suc e) (rank-net (owns_tag k) e (omega arith) (omega (arith, most, less)) (omega (arith, few, below))) (omega arith) (omega arith)
      (nothing (2048 * (1024 + k) + 1 + suc e) (2048 * (1024 + k) + 1 + suc e) (omega arith)))))
      (no-groups its_nets (2048 * (1024 + suc k) + 1) (2048 * (1024 + suc k) + 1) (omega arith)))
      (λ idle. no-groups its_nets (2048 * (1024 + k) + 1) (2048 * (1024 + suc k) + 1) (omega arith))))

  shared-nets : GroupsRise its_nets (2048 * 1536) (2048 * 2048) (shared_groups p n leaf_names net_names (port_names n) (leaf_sizes p) (dest_bits p) (flit_bits p) (channel_bits p))
  shared-nets =
      let few = few-ports p sound in
      groups-wider its_nets (2048 * 1536) (2048 * (1536 + 0)) (2048 * (1536 + ports p)) (2048 * 2048) (omega arith) (omega (arith, few))
      (groups-each its_nets (λ o. 2048 * (1536 + o)) (ports p) (λ o less. groups-if its_nets (2048 * (1536 + o)) (2048 * (1536 + suc o)) (is_some (neighbour p n o))
      (λ there. group-next its_nets (2048 * (1536 + o)) (2048 * (1536 + suc o)) (2048 * (1536 + suc o))
      (net-next (2048 * (1536 + o)) (2048 * (1536 + o) + 0 + 1) (2048 * (1536 + o) + 2) (2048 * (1536 + suc o)) (rank-net (arrival_tag o) 0 (omega arith) (omega (arith, few, less)) (omega arith)) (omega arith) (omega arith)
      (assign-next (2048 * (1536 + o) + 2) (2048 * (1536 + o) + 1 + 1) (2048 * (1536 + suc o)) (2048 * (1536 + suc o)) (rank-net (arrival_tag o) 1 (omega arith) (omega (arith, few, less)) (omega arith)) (omega arith) (omega arith)
      (nothing (2048 * (1536 + suc o)) (2048 * (1536 + suc o)) (omega arith))))
      (group-next its_nets (2048 * (1536 + suc o)) (2048 * (1536 + suc o)) (2048 * (1536 + suc o)) (nothing (2048 * (1536 + suc o)) (2048 * (1536 + suc o)) (omega arith))
      (no-groups its_nets (2048 * (1536 + suc o)) (2048 * (1536 + suc o)) (omega arith))))
      (λ absent. no-groups its_nets (2048 * (1536 + o)) (2048 * (1536 + suc o)) (omega arith))))

  pub nets : GroupsRise its_nets (2048 * 1024 + 1) (2048 * 4096) (inner_groups p n)
  nets =
      groups-join its_nets (2048 * 1024 + 1) (2048 * 1536) (2048 * 4096) slots-nets
      (groups-join its_nets (2048 * 1536) (2048 * 2048) (2048 * 4096) shared-nets
      (groups-wider its_nets (2048 * 2048) (at 0 0 0) (at (length p.domains) 0 0) (2048 * 4096) (omega arith) (let few = few-domains in omega (arith, few))
      (groups-each its_nets (λ d. at d 0 0) (length p.domains)
      (λ d there. let few = few-domains in nets-rise p n d (port_names n) (credit_base p) (leaf_sizes p) (dest_bits p) (flit_bits p) (channel_bits p) (omega (arith, few)) (few-ports p sound) (few-links p d sound there).1 (few-channels p d sound there).1 (few-classes p).1 (few-ranges p d sound)))))

  -- ---- moves

  slots-move : GroupsRise its_moves (2048 * 4096) (2048 * 4608) (slot_groups p n leaf_names (slot_high p))
  slots-move =
      let most = sound.slot_count.1 in
      groups-wider its_moves (2048 * 4096) (2048 * (4096 + 0)) (2048 * (4096 + length p.slots)) (2048 * 4608) (omega arith) (omega (arith, most))
      (groups-each its_moves (λ k. 2048 * (4096 + k)) (length p.slots) (λ k less. groups-if its_moves (2048 * (4096 + k)) (2048 * (4096 + suc k)) (uses_slot p n k)
      (λ used. group-next its_moves (2048 * (4096 + k)) (2048 * (4096 + suc k)) (2048 * (4096 + suc k))
      (clocked-next (2048 * (4096 + k)) (2048 * (4096 + k) + 0 + 1) (2048 * (4096 + suc k)) (2048 * (4096 + suc k)) (rank-net (slot_tag k) 0 (omega arith) (omega (arith, most, less)) (omega arith)) (omega arith) (omega arith)
      (nothing (2048 * (4096 + suc k)) (2048 * (4096 + suc k)) (omega arith)))
      (no-groups its_moves (2048 * (4096 + suc k)) (2048 * (4096 + suc k)) (omega arith)))
      (λ idle. no-groups its_moves (2048 * (4096 + k)) (2048 * (4096 + suc k)) (omega arith))))

  row-moves : (o : ℕ) → o < 8 → Rises (2048 * (4608 + o)) (2048 * (4608 + suc o)) (link_group (link_names p n leaf_names net_names o) (channel_bits p + flit_bits p) (length p.domains) (p.stages - 1)).moves
  row-moves o below =
      let few = sound.stages.1 in
      clocked-next (2048 * (4608 + o)) (2048 * (4608 + o) + 0 + 1) (2048 * (4608 + o) + 2) (2048 * (4608 + suc o)) (rank-net (row_tag o) 0 (omega arith) (omega arith) (omega arith)) (omega arith) (omega arith)
      (wider (2048 * (4608 + o) + 2) (2048 * (4608 + o) + 2 + 0) (2048 * (4608 + o) + 2 + (p.stages - 1)) (2048 * (4608 + suc o)) (omega arith) (omega (arith, few))
      (each (λ i. 2048 * (4608 + o) + 2 + i) (p.stages - 1)
      (λ i less. clocked-next (2048 * (4608 + o) + 2 + i) (2048 * (4608 + o) + (i + 1) + 1) (2048 * (4608 + o) + 2 + suc i) (2048 * (4608 + o) + 2 + suc i) (rank-net (row_tag o) (i + 1) (omega arith) (omega arith) (omega (arith, few, less))) (omega arith) (omega arith)
      (nothing (2048 * (4608 + o) + 2 + suc i) (2048 * (4608 + o) + 2 + suc i) (omega arith)))))

  shared-move : GroupsRise its_moves (2048 * 4608) (2048 * 5120) (shared_groups p n leaf_names net_names (port_names n) (leaf_sizes p) (dest_bits p) (flit_bits p) (channel_bits p))
  shared-move =
      let few = few-ports p sound in
      groups-wider its_moves (2048 * 4608) (2048 * (4608 + 0)) (2048 * (4608 + ports p)) (2048 * 5120) (omega arith) (omega (arith, few))
      (groups-each its_moves (λ o. 2048 * (4608 + o)) (ports p) (λ o less. groups-if its_moves (2048 * (4608 + o)) (2048 * (4608 + suc o)) (is_some (neighbour p n o))
      (λ there. group-next its_moves (2048 * (4608 + o)) (2048 * (4608 + o)) (2048 * (4608 + suc o)) (nothing (2048 * (4608 + o)) (2048 * (4608 + o)) (omega arith))
      (group-next its_moves (2048 * (4608 + o)) (2048 * (4608 + suc o)) (2048 * (4608 + suc o)) (row-moves o (omega (arith, few, less)))
      (no-groups its_moves (2048 * (4608 + suc o)) (2048 * (4608 + suc o)) (omega arith))))
      (λ absent. no-groups its_moves (2048 * (4608 + o)) (2048 * (4608 + suc o)) (omega arith))))

  pub moves : GroupsRise its_moves (2048 * 4096) (2048 * 6144) (inner_groups p n)
  moves =
      groups-join its_moves (2048 * 4096) (2048 * 4608) (2048 * 6144) slots-move
      (groups-join its_moves (2048 * 4608) (2048 * 5120) (2048 * 6144) shared-move
      (groups-wider its_moves (2048 * 5120) (from 0 0 0) (from (length p.domains) 0 0) (2048 * 6144) (omega arith) (let few = few-domains in omega (arith, few))
      (groups-each its_moves (λ d. from d 0 0) (length p.domains)
      (λ d there. let few = few-domains in moves-rise p n d (port_names n) (credit_base p) (leaf_sizes p) (dest_bits p) (flit_bits p) (channel_bits p) (omega (arith, few)) (few-ports p sound) (few-links p d sound there).1 (few-channels p d sound there).0))))

  -- ---- all of them

  pub all-rise : Rises 1 (2048 * 6144) (all_items (inner_groups p n))
  all-rise = join 1 (2048 * 1024 + 1) (2048 * 6144) heads.all (join (2048 * 1024 + 1) (2048 * 4096) (2048 * 6144) nets.all moves.all)

  pub inner-once : (x : Name) → drivers [] (map item (all_items (inner_groups p n))) x ≤ 1
  inner-once x = once 1 (2048 * 6144) (all_items (inner_groups p n)) x all-rise.by
