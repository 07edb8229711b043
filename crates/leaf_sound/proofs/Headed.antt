-- Among what the groups of a domain declare, the buffers' registers and memories are driven in rising order.
use Rattle.std.proofs.Common.{◌≡◌, ℕ, zero, suc, ◌+◌, ◌-◌, ◌*◌, ◌<◌, ◌≤◌, List, [], ◌∷◌, refl, sym, subst, ap, arith, is_some, Some}
use Rattle.vl_tree.specs.Values.{Name, Expr, Item, reg}
use Rattle.noc_model.specs.Plan.{Plan, channels, link_channels, ports, hosts}
use Rattle.noc_model.specs.Place.{neighbour}
use Rattle.gen_kit.specs.Families.{for_each}
use Rattle.gen_kit.specs.Groups.{Group}
use Rattle.gen_buffer.specs.Fifo.{FifoNames}
use Rattle.leaf_tie.specs.Alloc.{out_count}
use Rattle.leaf_tie.specs.Attach.{attach_group, enter_at}
use Rattle.leaf_tie.specs.Buffers.{BufferSize, buffer_group}
use Rattle.leaf_tie.specs.Switch.{switch_group, lone_switch_group}
use Rattle.leaf_tie.specs.Tie.{PortNames, alloc_size, is_lone}
use Rattle.leaf_tie.specs.Glue.{switch_names, switch_size, switch_part, attach_names, attach_size, has_port, link_push, pop_of}
use Rattle.leaf_tie.specs.Whole.{each_group, before_switch, behind_switch, sent_groups, link_buffers, local_groups, domain_groups}
use Rattle.leaf_tie.specs.Names.{own, buffer_tag, leaf_names, net_names, alloc_names}
use Rattle.leaf_sound.proofs.Rising.{Rises, nothing, net-next, clocked-next, store-next, wire-next, reg-next, mem-next, wider, join, each, items-if, GroupsRise, no-groups, groups-join, group-next, group-if, groups-wider, groups-each, groups-if, groups-neighbour}
use Rattle.leaf_sound.proofs.Ranked.{buffer_at, no-local, front-rank, empty-rank, read-rank, write-rank, count-rank, memory-rank}

abbrev pub its_heads : Group → List Item
its_heads g = g.heads

-- registers that are only declared
pub registers : (h : ℕ) (f : ℕ → Name) (low n : ℕ) → Rises low low (for_each n (λ k. reg h (f k) ∷ []))
registers h f low n = each (λ k. low) n (λ k less. reg-next low low (nothing low low (omega arith)))

-- a group that declares nothing
pub bare : {x : Group} {xs : List Group} (low high : ℕ) → x.heads ≡ [] → GroupsRise its_heads low high xs → GroupsRise its_heads low high (x ∷ xs)
bare low high none more = group-next its_heads low low high (subst (Rises low low) (sym none) (nothing low low (omega arith))) more

-- a group that declares one register
pub one-reg : {h : ℕ} {n : Name} {x : Group} {xs : List Group} (low high : ℕ) → x.heads ≡ reg h n ∷ [] → GroupsRise its_heads low high xs → GroupsRise its_heads low high (x ∷ xs)
one-reg low high one more = group-next its_heads low low high (subst (Rises low low) (sym one) (reg-next low low (nothing low low (omega arith)))) more

module _ (p : Plan) (n d : ℕ) (q : PortNames) (base : ℕ → ℕ) (size : BufferSize) (b f k : ℕ) (low_d : d < 16) (few_ports : ports p ≤ 7) (few : link_channels p d ≤ 8) (few_local : channels p d ≤ 4) where
  -- ---- a buffer

  buffer-rises : (push pop : Expr) (t : ℕ) (a : FifoNames) → t < 1024 → a.memory ≡ own t 0 → a.read ≡ own t 1 → a.write ≡ own t 2 → a.count ≡ own t 3 → a.front ≡ own t 4 → a.empty ≡ own t 5
      → Rises (2048 * t + 1) (2048 * suc t + 1) (buffer_group a size push pop).heads
  buffer-rises push pop t a below memory read write count front empty =
      wire-next (2048 * t + 1) (2048 * suc t + 1) (wire-next (2048 * t + 1) (2048 * suc t + 1)
      (mem-next (2048 * t + 1) (2048 * suc t + 1) (reg-next (2048 * t + 1) (2048 * suc t + 1) (reg-next (2048 * t + 1) (2048 * suc t + 1) (reg-next (2048 * t + 1) (2048 * suc t + 1)
      (net-next (2048 * t + 1) (2048 * t + 1) (2048 * t + 2) (2048 * suc t + 1) (rw front (front-rank t below)) (omega arith) (omega arith)
      (net-next (2048 * t + 2) (2048 * t + 2) (2048 * t + 3) (2048 * suc t + 1) (rw empty (empty-rank t below)) (omega arith) (omega arith)
      (clocked-next (2048 * t + 3) (2048 * t + 3) (2048 * t + 4) (2048 * suc t + 1) (rw read (read-rank t below)) (omega arith) (omega arith)
      (clocked-next (2048 * t + 4) (2048 * t + 4) (2048 * t + 5) (2048 * suc t + 1) (rw write (write-rank t below)) (omega arith) (omega arith)
      (clocked-next (2048 * t + 5) (2048 * t + 5) (2048 * t + 6) (2048 * suc t + 1) (rw count (count-rank t below)) (omega arith) (omega arith)
      (store-next (2048 * t + 6) (2048 * t + 6) (2048 * t + 7) (2048 * suc t + 1) (rw memory (memory-rank t below)) (omega arith) (omega arith)
      (nothing (2048 * t + 7) (2048 * suc t + 1) (omega arith)))))))))))))

  link-buffer : (push pop : Expr) (port c : ℕ) → suc port < 7 → c < 8 → Rises (buffer_at d (suc port) c) (buffer_at d (suc port) (suc c)) (buffer_group (leaf_names.buffer d (suc port) c) size push pop).heads
  link-buffer push pop port c below less =
      wider (buffer_at d (suc port) c) (2048 * buffer_tag d (suc port) c + 1) (2048 * suc (buffer_tag d (suc port) c) + 1) (buffer_at d (suc port) (suc c)) (omega arith) (omega arith)
      (buffer-rises push pop (buffer_tag d (suc port) c) (leaf_names.buffer d (suc port) c) (omega arith) refl refl refl refl refl refl)

  local-buffer : (push pop : Expr) (c : ℕ) → c < 8 → Rises (buffer_at d 7 c) (buffer_at d 7 (suc c)) (buffer_group (leaf_names.buffer d 0 c) size push pop).heads
  local-buffer push pop c less =
      wider (buffer_at d 7 c) (2048 * buffer_tag d 0 c + 1) (2048 * suc (buffer_tag d 0 c) + 1) (buffer_at d 7 (suc c)) (omega arith) (omega arith)
      (buffer-rises push pop (buffer_tag d 0 c) (leaf_names.buffer d 0 c) (omega arith) refl refl refl refl refl refl)

  -- ---- the groups

  before-heads : (low : ℕ) → GroupsRise its_heads low low (before_switch p n d leaf_names net_names q size b)
  before-heads low =
      groups-each its_heads (λ o. low) (ports p)
      (λ o less. groups-if its_heads low low (has_port p n d o)
      (λ there. bare low low refl
      (group-next its_heads low low low (reg-next low low (reg-next low low (reg-next low low (registers (alloc_size p d o).high (alloc_names d o).active low (out_count (alloc_size p d o))))))
      (bare low low refl (no-groups its_heads low low (omega arith)))))
      (λ absent. bare low low refl (no-groups its_heads low low (omega arith))))

  many-heads : (low : ℕ) → Rises low low (switch_group (switch_names leaf_names net_names d) (switch_size p d)).heads
  many-heads low = join low low low (registers (ports p - 1) (λ o. (leaf_names.switch d o).pointer) low
      (ports p - 1 + 1)) (registers (link_channels p d - 1) (λ port. (leaf_names.turn d port).pointer) low
      (ports p - 1 + 1))

  lone-heads : (low : ℕ) → Rises low low
      (lone_switch_group (switch_names leaf_names net_names d) (ports p - 1) (has_port p n d)).heads
  lone-heads low =
      each (λ o. low) (ports p - 1 + 1) (λ o less. items-if low low (has_port p n d o)
      (λ has. reg-next low low (nothing low low (omega arith))) (λ absent. nothing low low (omega arith)))

  switch-heads : (low : ℕ) → Rises low low (switch_part p n leaf_names net_names d).heads
  switch-heads low = group-if its_heads low low (is_lone p d) (λ one. lone-heads low) (λ more. many-heads low)

  behind-heads : (low : ℕ) → GroupsRise its_heads low low (behind_switch p n d leaf_names net_names b)
  behind-heads low =
      groups-each its_heads (λ o. low) (ports p)
      (λ o less. groups-if its_heads low low (has_port p n d o)
      (λ there. bare low low refl (bare low low refl (no-groups its_heads low low (omega arith))))
      (λ absent. no-groups its_heads low low (omega arith)))

  sent-heads : (low : ℕ) → GroupsRise its_heads low low (sent_groups p n d leaf_names net_names q base size b f k)
  sent-heads low =
      groups-each its_heads (λ o. low) (ports p)
      (λ o less. groups-if its_heads low low (is_some (neighbour p n o))
      (λ there. groups-join its_heads low low low
      (groups-each its_heads (λ x. low) (link_channels p d) (λ x below. bare low low refl (one-reg low low refl (no-groups its_heads low low (omega arith)))))
      (bare low low refl (one-reg low low refl (no-groups its_heads low low (omega arith)))))
      (λ absent. no-groups its_heads low low (omega arith)))

  link-filled : (port : ℕ) → port < ports p → (m : ℕ) → neighbour p n port ≡ Some m
      → GroupsRise its_heads (buffer_at d port 0) (buffer_at d (suc port) 0) (each_group (link_channels p d) (λ c. buffer_group (leaf_names.buffer d port c) size (link_push p leaf_names q f k d port m c) (pop_of p net_names d port c) ∷ []))
  link-filled zero less m e = absurd (no-local p n (ap is_some e))
  link-filled (suc port) less m e =
      groups-wider its_heads (buffer_at d (suc port) 0) (buffer_at d (suc port) 0) (buffer_at d (suc port) (link_channels p d)) (buffer_at d (suc (suc port)) 0) (omega arith) (omega (arith, few))
      (groups-each its_heads (buffer_at d (suc port)) (link_channels p d)
      (λ c below. group-next its_heads (buffer_at d (suc port) c) (buffer_at d (suc port) (suc c)) (buffer_at d (suc port) (suc c)) (link-buffer (link_push p leaf_names q f k d (suc port) m c) (pop_of p net_names d (suc port) c) port c (omega (arith, few_ports)) (omega (arith, few)))
      (no-groups its_heads (buffer_at d (suc port) (suc c)) (buffer_at d (suc port) (suc c)) (omega arith))))

  link-buffers-head : GroupsRise its_heads (buffer_at d 0 0) (buffer_at d 7 0) (link_buffers p n d leaf_names net_names q size f k)
  link-buffers-head =
      groups-wider its_heads (buffer_at d 0 0) (buffer_at d 0 0) (buffer_at d (ports p) 0) (buffer_at d 7 0) (omega arith) (omega (arith, few_ports))
      (groups-each its_heads (λ port. buffer_at d port 0) (ports p)
      (λ port less. groups-neighbour its_heads (buffer_at d port 0) (buffer_at d (suc port) 0) (neighbour p n port) (omega arith) (λ m e. link-filled port less m e)))

  attach-heads : (low : ℕ) → Rises low low (attach_group p n d (attach_names leaf_names net_names d) q (attach_size p size b d)).heads
  attach-heads low = reg-next low low (reg-next low low (reg-next low low (reg-next low low (reg-next low low (wire-next low low (nothing low low (omega arith)))))))

  local-heads : GroupsRise its_heads (buffer_at d 7 0) (buffer_at (suc d) 0 0) (local_groups p n d leaf_names net_names q size b)
  local-heads =
      bare (buffer_at d 7 0) (buffer_at (suc d) 0 0) refl
      (one-reg (buffer_at d 7 0) (buffer_at (suc d) 0 0) refl
      (group-next its_heads (buffer_at d 7 0) (buffer_at d 7 0) (buffer_at (suc d) 0 0) (attach-heads (buffer_at d 7 0))
      (groups-wider its_heads (buffer_at d 7 0) (buffer_at d 7 0) (buffer_at d 7 (channels p d)) (buffer_at (suc d) 0 0) (omega arith) (omega (arith, few_local))
      (groups-each its_heads (buffer_at d 7) (channels p d)
      (λ c below. group-next its_heads (buffer_at d 7 c) (buffer_at d 7 (suc c)) (buffer_at d 7 (suc c)) (local-buffer (enter_at (attach_names leaf_names net_names d) (attach_size p size b d) c) (pop_of p net_names d 0 c) c (omega (arith, few_local)))
      (no-groups its_heads (buffer_at d 7 (suc c)) (buffer_at d 7 (suc c)) (omega arith)))))))

  -- ---- all of them

  pub heads-rise : GroupsRise its_heads (buffer_at d 0 0) (buffer_at (suc d) 0 0) (domain_groups p n leaf_names net_names q base size b f k d)
  heads-rise =
      bare (buffer_at d 0 0) (buffer_at (suc d) 0 0) refl
      (bare (buffer_at d 0 0) (buffer_at (suc d) 0 0) refl
      (groups-join its_heads (buffer_at d 0 0) (buffer_at d 0 0) (buffer_at (suc d) 0 0) (before-heads (buffer_at d 0 0))
      (group-next its_heads (buffer_at d 0 0) (buffer_at d 0 0) (buffer_at (suc d) 0 0) (switch-heads (buffer_at d 0 0))
      (bare (buffer_at d 0 0) (buffer_at (suc d) 0 0) refl
      (one-reg (buffer_at d 0 0) (buffer_at (suc d) 0 0) refl
      (groups-join its_heads (buffer_at d 0 0) (buffer_at d 0 0) (buffer_at (suc d) 0 0) (behind-heads (buffer_at d 0 0))
      (groups-join its_heads (buffer_at d 0 0) (buffer_at d 0 0) (buffer_at (suc d) 0 0) (sent-heads (buffer_at d 0 0))
      (groups-join its_heads (buffer_at d 0 0) (buffer_at d 7 0) (buffer_at (suc d) 0 0) link-buffers-head
      (groups-if its_heads (buffer_at d 7 0) (buffer_at (suc d) 0 0) (hosts p n d) (λ there. local-heads) (λ away. no-groups its_heads (buffer_at d 7 0) (buffer_at (suc d) 0 0) (omega arith)))))))))))
