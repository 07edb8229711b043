-- The nets of a domain are driven in rising order.
use Rattle.std.proofs.Common.{◌≡◌, ℕ, zero, suc, ◌+◌, ◌-◌, ◌*◌, ◌<◌, ◌≤◌, true, List, [], ◌∷◌, ◌++◌, length, ap, arith, Some, is_some}
use Rattle.vl_tree.specs.Values.{Expr, Item, wire, assign}
use Rattle.noc_model.specs.declared.Range.{Range}
use Rattle.noc_model.specs.Plan.{Plan, channels, link_channels, classes, ports, hosts}
use Rattle.noc_model.specs.Place.{neighbour}
use Rattle.gen_kit.specs.Groups.{Group}
use Rattle.leaf_tie.specs.Alloc.{alloc_group, has_one, lone_requests, class_requests, class_nets, taken_nets}
use Rattle.leaf_tie.specs.Attach.{attach_group, look_nets, reach}
use Rattle.leaf_tie.specs.Buffers.{BufferSize, buffer_group}
use Rattle.leaf_tie.specs.Switch.{switch_group, lone_switch_group}
use Rattle.leaf_tie.specs.Tie.{PortNames, alloc_size, is_lone}
use Rattle.leaf_tie.specs.Glue.{switch_names, switch_size, switch_part, attach_names, attach_size, has_port, word_group, pulse_group, link_push, pop_of}
use Rattle.leaf_tie.specs.Whole.{each_group, before_switch, behind_switch, channel_groups, sent_groups, link_buffers, local_groups, domain_groups}
use Rattle.leaf_tie.specs.Names.{own, net_tag, leaf_names, net_names, alloc_names}
use Rattle.leaf_sound.proofs.Rising.{Rises, nothing, net-next, assign-next, wider, join, each, items-if, GroupsRise, no-groups, groups-join, group-next, group-if, groups-wider, groups-each, groups-if, groups-neighbour}
use Rattle.leaf_sound.proofs.Ranked.{at, net-rank, no-local}

abbrev pub its_nets : Group → List Item
its_nets g = g.nets

module _ (p : Plan) (n d : ℕ) (q : PortNames) (base : ℕ → ℕ) (size : BufferSize) (b f k : ℕ) (low_d : d < 16) (few_ports : ports p ≤ 7) (few : link_channels p d ≤ 8) (few_local : channels p d ≤ 4) (few_classes : classes p ≤ 2) (few_ranges : length (reach p d) ≤ 1024) where
  -- a net, and what follows: its number, and where the next begins
  next : {h : ℕ} {e : Expr} {is : List Item} (low high s o i after : ℕ) → s < 16 → o < 8 → i < 2048 → low ≤ at d s o + i + 1 → at d s o + i + 1 < after → Rises after high is → Rises low high (wire h (own (net_tag d s o) i) ∷ (assign (own (net_tag d s o) i) e ∷ is))
  next low high s o i after stage below number le less more = net-next low (at d s o + i + 1) after high (net-rank d s o i low_d stage below number) le less more

  last : {h : ℕ} {e : Expr} (low high s o i : ℕ) → s < 16 → o < 8 → i < 2048 → low ≤ at d s o + i + 1 → at d s o + i + 1 < high → Rises low high (wire h (own (net_tag d s o) i) ∷ (assign (own (net_tag d s o) i) e ∷ []))
  last low high s o i stage below number le less = next low high s o i high stage below number le less (nothing high high (omega arith))

  -- ---- allocation

  few-last : (o : ℕ) → (alloc_size p d o).last ≤ 1
  few-last zero = omega arith
  few-last (suc o) = omega arith

  class-rises : (o c : ℕ) → o < 8 → c < 2 → Rises (at d 1 o + 2 + 2 * c) (at d 1 o + 2 + 2 * suc c) (class_nets (alloc_names d o) (alloc_size p d o) c)
  class-rises o c below less =
      next (at d 1 o + 2 + 2 * c) (at d 1 o + 2 + 2 * suc c) 1 o (1 + 2 * c) (at d 1 o + 3 + 2 * c) (omega arith) below (omega arith) (omega arith) (omega arith)
      (last (at d 1 o + 3 + 2 * c) (at d 1 o + 2 + 2 * suc c) 1 o (2 + 2 * c) (omega arith) below (omega arith) (omega arith) (omega arith))

  taken-rises : (o c : ℕ) → o < 8 → c < 2 → Rises (at d 1 o + 9 + c) (at d 1 o + 9 + suc c) (taken_nets p d n o (alloc_names d o) (alloc_size p d o) c)
  taken-rises o c below less = last (at d 1 o + 9 + c) (at d 1 o + 9 + suc c) 1 o (8 + c) (omega arith) below (omega arith) (omega arith) (omega arith)

  -- with more channels than one
  requests-rise : (o : ℕ) → o < 8
      → Rises (at d 1 o + 2) (at d 1 o + 11) (class_requests p d n o (alloc_names d o) (alloc_size p d o))
  requests-rise o below =
      let least = few-last o in
      join (at d 1 o + 2) (at d 1 o + 6) (at d 1 o + 11)
      (wider (at d 1 o + 2) (at d 1 o + 2 + 2 * 0) (at d 1 o + 2 + 2 * ((alloc_size p d o).last + 1)) (at d 1 o + 6) (omega arith) (omega (arith, least))
      (each (λ c. at d 1 o + 2 + 2 * c) ((alloc_size p d o).last + 1) (λ c less. class-rises o c below (omega (arith, least)))))
      (next (at d 1 o + 6) (at d 1 o + 11) 1 o 5 (at d 1 o + 7) (omega arith) below (omega arith) (omega arith) (omega arith)
      (next (at d 1 o + 7) (at d 1 o + 11) 1 o 6 (at d 1 o + 8) (omega arith) below (omega arith) (omega arith) (omega arith)
      (next (at d 1 o + 8) (at d 1 o + 11) 1 o 7 (at d 1 o + 9) (omega arith) below (omega arith) (omega arith) (omega arith)
      (wider (at d 1 o + 9) (at d 1 o + 9 + 0) (at d 1 o + 9 + ((alloc_size p d o).last + 1)) (at d 1 o + 11) (omega arith) (omega (arith, least))
      (each (λ c. at d 1 o + 9 + c) ((alloc_size p d o).last + 1) (λ c less. taken-rises o c below (omega (arith, least))))))))

  -- with one
  lone-requests : (o : ℕ) → o < 8
      → Rises (at d 1 o + 2) (at d 1 o + 11) (lone_requests (alloc_names d o) (alloc_size p d o))
  lone-requests o below =
      next (at d 1 o + 2) (at d 1 o + 11) 1 o 5 (at d 1 o + 7) (omega arith) below (omega arith) (omega arith)
      (omega arith)
      (next (at d 1 o + 7) (at d 1 o + 11) 1 o 6 (at d 1 o + 8) (omega arith) below (omega arith) (omega arith) (omega arith)
      (last (at d 1 o + 8) (at d 1 o + 11) 1 o 7 (omega arith) below (omega arith) (omega arith) (omega arith)))

  alloc-rises : (o : ℕ) → o < 8
      → Rises (at d 1 o + 2) (at d 1 o + 11) (alloc_group p d n o (alloc_names d o) (alloc_size p d o)).nets
  alloc-rises o below =
      items-if (at d 1 o + 2) (at d 1 o + 11) (has_one (alloc_size p d o)) (λ one. lone-requests o below)
      (λ more. requests-rise o below)

  before-rises : GroupsRise its_nets (at d 1 0) (at d 2 0) (before_switch p n d leaf_names net_names q size b)
  before-rises =
      groups-wider its_nets (at d 1 0) (at d 1 0) (at d 1 (ports p)) (at d 2 0) (omega arith) (omega (arith, few_ports))
      (groups-each its_nets (at d 1) (ports p)
      (λ o less. groups-if its_nets (at d 1 o) (at d 1 (suc o)) (has_port p n d o)
      (λ there. group-next its_nets (at d 1 o) (at d 1 o + 2) (at d 1 (suc o)) (last (at d 1 o) (at d 1 o + 2) 1 o 0 (omega arith) (omega (arith, few_ports)) (omega arith) (omega arith) (omega arith))
      (group-next its_nets (at d 1 o + 2) (at d 1 o + 11) (at d 1 (suc o)) (alloc-rises o (omega (arith, few_ports)))
      (group-next its_nets (at d 1 o + 11) (at d 1 (suc o)) (at d 1 (suc o)) (last (at d 1 o + 11) (at d 1 (suc o)) 1 o 10 (omega arith) (omega (arith, few_ports)) (omega arith) (omega arith) (omega arith))
      (no-groups its_nets (at d 1 (suc o)) (at d 1 (suc o)) (omega arith)))))
      (λ absent. group-next its_nets (at d 1 o) (at d 1 (suc o)) (at d 1 (suc o)) (items-if (at d 1 o) (at d 1
      (suc o)) (is_lone p d)
      (λ one. nothing (at d 1 o) (at d 1 (suc o)) (omega arith))
      (λ more. last (at d 1 o) (at d 1 (suc o)) 1 o 10 (omega arith) (omega (arith, few_ports)) (omega arith)
      (omega arith) (omega arith)))
      (no-groups its_nets (at d 1 (suc o)) (at d 1 (suc o)) (omega arith)))))

  -- ---- the switch

  few-each : ports p - 1 + 1 ≤ 7
  few-each = omega (arith, few_ports)

  many-rise : Rises (at d 2 0) (at d 7 0 + 2) (switch_group (switch_names leaf_names net_names d)
      (switch_size p d)).nets
  many-rise =
      next (at d 2 0) (at d 7 0 + 2) 2 0 0 (at d 3 0) (omega arith) (omega arith) (omega arith) (omega arith) (omega arith)
      (join (at d 3 0) (at d 4 0) (at d 7 0 + 2)
      (wider (at d 3 0) (at d 3 0) (at d 3 (ports p - 1 + 1)) (at d 4 0) (omega arith) (omega (arith, few-each))
      (each (at d 3) (ports p - 1 + 1) (λ o less.
      next (at d 3 o) (at d 3 (suc o)) 3 o 0 (at d 3 o + 2) (omega arith) (omega (arith, few-each)) (omega arith) (omega arith) (omega arith)
      (next (at d 3 o + 2) (at d 3 (suc o)) 3 o 1 (at d 3 o + 3) (omega arith) (omega (arith, few-each)) (omega arith) (omega arith) (omega arith)
      (last (at d 3 o + 3) (at d 3 (suc o)) 3 o 2 (omega arith) (omega (arith, few-each)) (omega arith) (omega arith) (omega arith))))))
      (next (at d 4 0) (at d 7 0 + 2) 4 0 0 (at d 5 0) (omega arith) (omega arith) (omega arith) (omega arith) (omega arith)
      (join (at d 5 0) (at d 6 0) (at d 7 0 + 2)
      (wider (at d 5 0) (at d 5 0) (at d 5 (ports p - 1 + 1)) (at d 6 0) (omega arith) (omega (arith, few-each))
      (each (at d 5) (ports p - 1 + 1) (λ o less.
      next (at d 5 o) (at d 5 (suc o)) 5 o 0 (at d 5 o + 2) (omega arith) (omega (arith, few-each)) (omega arith) (omega arith) (omega arith)
      (next (at d 5 o + 2) (at d 5 (suc o)) 5 o 1 (at d 5 o + 3) (omega arith) (omega (arith, few-each)) (omega arith) (omega arith) (omega arith)
      (next (at d 5 o + 3) (at d 5 (suc o)) 5 o 2 (at d 5 o + 4) (omega arith) (omega (arith, few-each)) (omega arith) (omega arith) (omega arith)
      (last (at d 5 o + 4) (at d 5 (suc o)) 5 o 3 (omega arith) (omega (arith, few-each)) (omega arith) (omega arith) (omega arith)))))))
      (join (at d 6 0) (at d 7 0) (at d 7 0 + 2)
      (wider (at d 6 0) (at d 6 0) (at d 6 (ports p - 1 + 1)) (at d 7 0) (omega arith) (omega (arith, few-each))
      (each (at d 6) (ports p - 1 + 1) (λ o less.
      last (at d 6 o) (at d 6 (suc o)) 6 o 0 (omega arith) (omega (arith, few-each)) (omega arith) (omega arith) (omega arith))))
      (last (at d 7 0) (at d 7 0 + 2) 7 0 0 (omega arith) (omega arith) (omega arith) (omega arith) (omega arith))))))

  lone-rises : Rises (at d 2 0) (at d 7 0 + 2)
      (lone_switch_group (switch_names leaf_names net_names d) (ports p - 1) (has_port p n d)).nets
  lone-rises =
      join (at d 2 0) (at d 6 0) (at d 7 0 + 2)
      (wider (at d 2 0) (at d 5 0) (at d 5 (ports p - 1 + 1)) (at d 6 0) (omega arith) (omega (arith, few-each))
      (each (at d 5) (ports p - 1 + 1) (λ o less.
      items-if (at d 5 o) (at d 5 (suc o)) (has_port p n d o)
      (λ has. next (at d 5 o) (at d 5 (suc o)) 5 o 2 (at d 5 o + 4) (omega arith) (omega (arith, few-each))
      (omega arith) (omega arith) (omega arith)
      (last (at d 5 o + 4) (at d 5 (suc o)) 5 o 3 (omega arith) (omega (arith, few-each)) (omega arith) (omega arith)
      (omega arith)))
      (λ absent. nothing (at d 5 o) (at d 5 (suc o)) (omega arith)))))
      (last (at d 6 0) (at d 7 0 + 2) 7 0 0 (omega arith) (omega arith) (omega arith) (omega arith) (omega arith))

  switch-rises : Rises (at d 2 0) (at d 7 0 + 2) (switch_part p n leaf_names net_names d).nets
  switch-rises = group-if its_nets (at d 2 0) (at d 7 0 + 2) (is_lone p d) (λ one. lone-rises) (λ more. many-rise)

  -- ---- flits and links

  behind-rises : GroupsRise its_nets (at d 8 0) (at d 9 0) (behind_switch p n d leaf_names net_names b)
  behind-rises =
      groups-wider its_nets (at d 8 0) (at d 8 0) (at d 8 (ports p)) (at d 9 0) (omega arith) (omega (arith, few_ports))
      (groups-each its_nets (at d 8) (ports p)
      (λ o less. groups-if its_nets (at d 8 o) (at d 8 (suc o)) (has_port p n d o)
      (λ there. group-next its_nets (at d 8 o) (at d 8 o + 2) (at d 8 (suc o)) (last (at d 8 o) (at d 8 o + 2) 8 o 0 (omega arith) (omega (arith, few_ports)) (omega arith) (omega arith) (omega arith))
      (group-next its_nets (at d 8 o + 2) (at d 8 (suc o)) (at d 8 (suc o)) (last (at d 8 o + 2) (at d 8 (suc o)) 8 o 1 (omega arith) (omega (arith, few_ports)) (omega arith) (omega arith) (omega arith))
      (no-groups its_nets (at d 8 (suc o)) (at d 8 (suc o)) (omega arith))))
      (λ absent. no-groups its_nets (at d 8 o) (at d 8 (suc o)) (omega arith))))

  channels-rise : (o : ℕ) → suc o < 8 → GroupsRise its_nets (at d 9 (suc o) + 1 + 0) (at d 9 (suc o) + 1 + link_channels p d) (each_group (link_channels p d) (channel_groups p d leaf_names net_names q base size (suc o)))
  channels-rise o below =
      groups-each its_nets (λ x. at d 9 (suc o) + 1 + x) (link_channels p d)
      (λ x less. group-next its_nets (at d 9 (suc o) + 1 + x) (at d 9 (suc o) + 1 + suc x) (at d 9 (suc o) + 1 + suc x) (last (at d 9 (suc o) + 1 + x) (at d 9 (suc o) + 1 + suc x) 9 (suc o) x (omega arith) below (omega (arith, few)) (omega arith) (omega arith))
      (group-next its_nets (at d 9 (suc o) + 1 + suc x) (at d 9 (suc o) + 1 + suc x) (at d 9 (suc o) + 1 + suc x) (nothing (at d 9 (suc o) + 1 + suc x) (at d 9 (suc o) + 1 + suc x) (omega arith))
      (no-groups its_nets (at d 9 (suc o) + 1 + suc x) (at d 9 (suc o) + 1 + suc x) (omega arith))))

  link-sent : (o : ℕ) → o < ports p → is_some (neighbour p n o) ≡ true
      → GroupsRise its_nets (at d 9 o) (at d 9 (suc o)) (each_group (link_channels p d) (channel_groups p d leaf_names net_names q base size o) ++ (word_group p n leaf_names net_names b f k d o ∷ pulse_group p leaf_names net_names d o ∷ []))
  link-sent zero less there = absurd (no-local p n there)
  link-sent (suc o) less there =
      groups-join its_nets (at d 9 (suc o)) (at d 9 (suc o) + 1 + link_channels p d) (at d 9 (suc (suc o)))
      (groups-wider its_nets (at d 9 (suc o)) (at d 9 (suc o) + 1 + 0) (at d 9 (suc o) + 1 + link_channels p d) (at d 9 (suc o) + 1 + link_channels p d) (omega arith) (omega arith) (channels-rise o (omega (arith, few_ports))))
      (group-next its_nets (at d 9 (suc o) + 1 + link_channels p d) (at d 9 (suc (suc o))) (at d 9 (suc (suc o))) (last (at d 9 (suc o) + 1 + link_channels p d) (at d 9 (suc (suc o))) 9 (suc o) 8 (omega arith) (omega (arith, few_ports)) (omega arith) (omega (arith, few)) (omega arith))
      (group-next its_nets (at d 9 (suc (suc o))) (at d 9 (suc (suc o))) (at d 9 (suc (suc o))) (nothing (at d 9 (suc (suc o))) (at d 9 (suc (suc o))) (omega arith))
      (no-groups its_nets (at d 9 (suc (suc o))) (at d 9 (suc (suc o))) (omega arith))))

  sent-rises : GroupsRise its_nets (at d 9 0) (at d 10 0) (sent_groups p n d leaf_names net_names q base size b f k)
  sent-rises =
      groups-wider its_nets (at d 9 0) (at d 9 0) (at d 9 (ports p)) (at d 10 0) (omega arith) (omega (arith, few_ports))
      (groups-each its_nets (at d 9) (ports p)
      (λ o less. groups-if its_nets (at d 9 o) (at d 9 (suc o)) (is_some (neighbour p n o)) (λ there. link-sent o less there) (λ absent. no-groups its_nets (at d 9 o) (at d 9 (suc o)) (omega arith))))

  -- ---- buffers

  moves-rise : {x y : Expr} (s o c : ℕ) → s < 16 → o < 8 → c < 8
      → Rises (at d s o + 1 + 2 * c) (at d s o + 1 + 2 * suc c) (assign (own (net_tag d s o) (2 * c)) x ∷ (assign (own (net_tag d s o) (2 * c + 1)) y ∷ []))
  moves-rise s o c stage below number =
      assign-next (at d s o + 1 + 2 * c) (at d s o + 2 * c + 1) (at d s o + 2 + 2 * c) (at d s o + 1 + 2 * suc c) (net-rank d s o (2 * c) low_d stage below (omega arith)) (omega arith) (omega arith)
      (assign-next (at d s o + 2 + 2 * c) (at d s o + (2 * c + 1) + 1) (at d s o + 1 + 2 * suc c) (at d s o + 1 + 2 * suc c) (net-rank d s o (2 * c + 1) low_d stage below (omega arith)) (omega arith) (omega arith)
      (nothing (at d s o + 1 + 2 * suc c) (at d s o + 1 + 2 * suc c) (omega arith)))

  link-filled : (port : ℕ) → port < ports p → (m : ℕ) → neighbour p n port ≡ Some m
      → GroupsRise its_nets (at d 10 port) (at d 10 (suc port)) (each_group (link_channels p d) (λ c. buffer_group (leaf_names.buffer d port c) size (link_push p leaf_names q f k d port m c) (pop_of p net_names d port c) ∷ []))
  link-filled zero less m e = absurd (no-local p n (ap is_some e))
  link-filled (suc port) less m e =
      groups-wider its_nets (at d 10 (suc port)) (at d 10 (suc port) + 1 + 2 * 0) (at d 10 (suc port) + 1 + 2 * link_channels p d) (at d 10 (suc (suc port))) (omega arith) (omega (arith, few))
      (groups-each its_nets (λ c. at d 10 (suc port) + 1 + 2 * c) (link_channels p d)
      (λ c below. group-next its_nets (at d 10 (suc port) + 1 + 2 * c) (at d 10 (suc port) + 1 + 2 * suc c) (at d 10 (suc port) + 1 + 2 * suc c) (moves-rise 10 (suc port) c (omega arith) (omega (arith, few_ports)) (omega (arith, few)))
      (no-groups its_nets (at d 10 (suc port) + 1 + 2 * suc c) (at d 10 (suc port) + 1 + 2 * suc c) (omega arith))))

  link-buffers-rise : GroupsRise its_nets (at d 10 0) (at d 11 0) (link_buffers p n d leaf_names net_names q size f k)
  link-buffers-rise =
      groups-wider its_nets (at d 10 0) (at d 10 0) (at d 10 (ports p)) (at d 11 0) (omega arith) (omega (arith, few_ports))
      (groups-each its_nets (at d 10) (ports p)
      (λ port less. groups-neighbour its_nets (at d 10 port) (at d 10 (suc port)) (neighbour p n port) (omega arith) (λ m e. link-filled port less m e)))

  -- ---- the attachment

  looks-rise : (rs : List Range) → length rs ≤ 1024 → Rises (at d 11 0 + 3) (at d 11 0 + 3 + length rs) (look_nets (q.address d) (net_names.look d) b rs)
  looks-rise [] le = nothing (at d 11 0 + 3) (at d 11 0 + 3 + 0) (omega arith)
  looks-rise (r ∷ rs) le =
      join (at d 11 0 + 3) (at d 11 0 + 3 + length rs) (at d 11 0 + 3 + suc (length rs)) (looks-rise rs (omega arith))
      (last (at d 11 0 + 3 + length rs) (at d 11 0 + 3 + suc (length rs)) 11 0 (1 + suc (length rs)) (omega arith) (omega arith) (omega arith) (omega arith) (omega arith))

  word-last : {e : Expr} → Rises (at d 12 0 + 6) (at d 13 0) (assign (own (net_tag d 12 0) 5) e ∷ [])
  word-last = assign-next (at d 12 0 + 6) (at d 12 0 + 5 + 1) (at d 13 0) (at d 13 0) (net-rank d 12 0 5 low_d (omega arith) (omega arith) (omega arith)) (omega arith) (omega arith) (nothing (at d 13 0) (at d 13 0) (omega arith))

  attach-rises : Rises (at d 11 0 + 3) (at d 13 0) (attach_group p n d (attach_names leaf_names net_names d) q (attach_size p size b d)).nets
  attach-rises =
      join (at d 11 0 + 3) (at d 12 0) (at d 13 0)
      (wider (at d 11 0 + 3) (at d 11 0 + 3) (at d 11 0 + 3 + length (reach p d)) (at d 12 0) (omega arith) (omega (arith, few_ranges)) (looks-rise (reach p d) few_ranges))
      (next (at d 12 0) (at d 13 0) 12 0 0 (at d 12 0 + 2) (omega arith) (omega arith) (omega arith) (omega arith) (omega arith)
      (next (at d 12 0 + 2) (at d 13 0) 12 0 1 (at d 12 0 + 3) (omega arith) (omega arith) (omega arith) (omega arith) (omega arith)
      (next (at d 12 0 + 3) (at d 13 0) 12 0 2 (at d 12 0 + 4) (omega arith) (omega arith) (omega arith) (omega arith) (omega arith)
      (next (at d 12 0 + 4) (at d 13 0) 12 0 3 (at d 12 0 + 5) (omega arith) (omega arith) (omega arith) (omega arith) (omega arith)
      (next (at d 12 0 + 5) (at d 13 0) 12 0 4 (at d 12 0 + 6) (omega arith) (omega arith) (omega arith) (omega arith) (omega arith) word-last)))))

  local-rises : GroupsRise its_nets (at d 11 0) (at d 14 0) (local_groups p n d leaf_names net_names q size b)
  local-rises =
      group-next its_nets (at d 11 0) (at d 11 0 + 2) (at d 14 0) (last (at d 11 0) (at d 11 0 + 2) 11 0 0 (omega arith) (omega arith) (omega arith) (omega arith) (omega arith))
      (group-next its_nets (at d 11 0 + 2) (at d 11 0 + 3) (at d 14 0) (last (at d 11 0 + 2) (at d 11 0 + 3) 11 0 1 (omega arith) (omega arith) (omega arith) (omega arith) (omega arith))
      (group-next its_nets (at d 11 0 + 3) (at d 13 0) (at d 14 0) attach-rises
      (groups-wider its_nets (at d 13 0) (at d 13 0 + 1 + 2 * 0) (at d 13 0 + 1 + 2 * channels p d) (at d 14 0) (omega arith) (omega (arith, few_local))
      (groups-each its_nets (λ c. at d 13 0 + 1 + 2 * c) (channels p d)
      (λ c below. group-next its_nets (at d 13 0 + 1 + 2 * c) (at d 13 0 + 1 + 2 * suc c) (at d 13 0 + 1 + 2 * suc c) (moves-rise 13 0 c (omega arith) (omega arith) (omega (arith, few_local)))
      (no-groups its_nets (at d 13 0 + 1 + 2 * suc c) (at d 13 0 + 1 + 2 * suc c) (omega arith)))))))

  -- ---- all of them

  pub nets-rise : GroupsRise its_nets (at d 0 0) (at (suc d) 0 0) (domain_groups p n leaf_names net_names q base size b f k d)
  nets-rise =
      group-next its_nets (at d 0 0) (at d 0 0 + 2) (at (suc d) 0 0) (last (at d 0 0) (at d 0 0 + 2) 0 0 0 (omega arith) (omega arith) (omega arith) (omega arith) (omega arith))
      (group-next its_nets (at d 0 0 + 2) (at d 1 0) (at (suc d) 0 0) (last (at d 0 0 + 2) (at d 1 0) 0 0 1 (omega arith) (omega arith) (omega arith) (omega arith) (omega arith))
      (groups-join its_nets (at d 1 0) (at d 2 0) (at (suc d) 0 0) before-rises
      (group-next its_nets (at d 2 0) (at d 7 0 + 2) (at (suc d) 0 0) switch-rises
      (group-next its_nets (at d 7 0 + 2) (at d 8 0) (at (suc d) 0 0) (last (at d 7 0 + 2) (at d 8 0) 7 0 1 (omega arith) (omega arith) (omega arith) (omega arith) (omega arith))
      (group-next its_nets (at d 8 0) (at d 8 0) (at (suc d) 0 0) (nothing (at d 8 0) (at d 8 0) (omega arith))
      (groups-join its_nets (at d 8 0) (at d 9 0) (at (suc d) 0 0) behind-rises
      (groups-join its_nets (at d 9 0) (at d 10 0) (at (suc d) 0 0) sent-rises
      (groups-join its_nets (at d 10 0) (at d 11 0) (at (suc d) 0 0) link-buffers-rise
      (groups-if its_nets (at d 11 0) (at (suc d) 0 0) (hosts p n d) (λ there. groups-wider its_nets (at d 11 0) (at d 11 0) (at d 14 0) (at (suc d) 0 0) (omega arith) (omega arith) local-rises) (λ away. no-groups its_nets (at d 11 0) (at (suc d) 0 0) (omega arith)))))))))))
