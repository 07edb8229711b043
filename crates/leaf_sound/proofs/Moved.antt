-- The registers of a domain are driven in rising order.
use Rattle.std.proofs.Common.{◌≡◌, ℕ, zero, suc, ◌+◌, ◌-◌, ◌*◌, ◌<◌, ◌≤◌, List, [], ◌∷◌, refl, sym, subst, arith, is_some}
use Rattle.std.proofs.lemmas.Nat.{mul-le}
use Rattle.vl_tree.specs.declared.tree.Const.{Const}
use Rattle.vl_tree.specs.Values.{Expr, Item, clocked}
use Rattle.noc_model.specs.Plan.{Plan, channels, link_channels, ports, hosts}
use Rattle.noc_model.specs.Place.{neighbour}
use Rattle.gen_kit.specs.Families.{for_each}
use Rattle.gen_kit.specs.Groups.{Group}
use Rattle.leaf_tie.specs.Alloc.{out_count, alloc_group, active_move}
use Rattle.leaf_tie.specs.Attach.{attach_group}
use Rattle.leaf_tie.specs.Buffers.{BufferSize}
use Rattle.leaf_tie.specs.Switch.{switch_group, lone_switch_group}
use Rattle.leaf_tie.specs.Tie.{PortNames, alloc_size, is_lone}
use Rattle.leaf_tie.specs.Glue.{switch_names, switch_size, switch_part, attach_names, attach_size, has_port}
use Rattle.leaf_tie.specs.Whole.{before_switch, behind_switch, sent_groups, link_buffers, local_groups, domain_groups}
use Rattle.leaf_tie.specs.Names.{own, register_tag, leaf_names, net_names, alloc_names}
use Rattle.leaf_tie.proofs.Sized.{out-link}
use Rattle.leaf_sound.proofs.Rising.{Rises, nothing, clocked-next, wider, join, each, items-if, GroupsRise, no-groups, groups-join, group-next, group-if, groups-wider, groups-each, groups-if, groups-neighbour}
use Rattle.leaf_sound.proofs.Ranked.{from, register-rank}

abbrev pub its_moves : Group → List Item
its_moves g = g.moves

module _ (p : Plan) (n d : ℕ) (q : PortNames) (base : ℕ → ℕ) (size : BufferSize) (b f k : ℕ) (low_d : d < 16) (few_ports : ports p ≤ 7) (few : link_channels p d ≤ 8) (some : 0 < channels p d) where
  next : {c : Const} {e : Expr} {is : List Item} (low high s o i after : ℕ) → s < 8 → o < 8 → i < 2048 → low ≤ from d s o + i + 1 → from d s o + i + 1 < after → Rises after high is → Rises low high (clocked (own (register_tag d s o) i) c e ∷ is)
  next low high s o i after stage below number le less more = clocked-next low (from d s o + i + 1) after high (register-rank d s o i low_d stage below number) le less more

  last : {c : Const} {e : Expr} (low high s o i : ℕ) → s < 8 → o < 8 → i < 2048 → low ≤ from d s o + i + 1 → from d s o + i + 1 < high → Rises low high (clocked (own (register_tag d s o) i) c e ∷ [])
  last low high s o i stage below number le less = next low high s o i high stage below number le less (nothing high high (omega arith))

  -- a group that moves nothing
  still : {x : Group} {xs : List Group} (low high : ℕ) → x.moves ≡ [] → GroupsRise its_moves low high xs → GroupsRise its_moves low high (x ∷ xs)
  still low high none more = group-next its_moves low low high (subst (Rises low low) (sym none) (nothing low low (omega arith))) more

  -- ---- allocation

  few-outs : (o : ℕ) → out_count (alloc_size p d o) ≤ 8
  few-outs zero = omega arith
  few-outs (suc o) = let all = out-link p d (suc o) some (λ e. omega arith) in omega (arith, all, few)

  row : (c m : ℕ) → suc c * m ≡ c * m + m
  row c m = omega arith

  few-active : (o c j : ℕ) → c < (alloc_size p d o).last + 1 → j < (alloc_size p d o).size + 1 → c * ((alloc_size p d o).size + 1) + j < 8
  few-active o c j less below =
      let all = few-outs o in
      let one = mul-le (suc c) ((alloc_size p d o).size + 1) ((alloc_size p d o).last + 1) ((alloc_size p d o).size + 1) (omega arith) (omega arith) in
      let same = row c ((alloc_size p d o).size + 1) in
      omega (arith, all, one, same, below)

  class-moves : (o c : ℕ) → o < 8 → c < (alloc_size p d o).last + 1
      → Rises (from d 0 o + 4 + c * ((alloc_size p d o).size + 1)) (from d 0 o + 4 + suc c * ((alloc_size p d o).size + 1)) (for_each ((alloc_size p d o).size + 1) (active_move (alloc_names d o) (alloc_size p d o) c))
  class-moves o c below less =
      let same = row c ((alloc_size p d o).size + 1) in
      let m = (alloc_size p d o).size + 1 in
      wider (from d 0 o + 4 + c * m) (from d 0 o + 4 + c * m + 0) (from d 0 o + 4 + c * m + m) (from d 0 o + 4 + suc c * m) (omega arith) (omega (arith, same))
      (each (λ j. from d 0 o + 4 + c * ((alloc_size p d o).size + 1) + j) ((alloc_size p d o).size + 1)
      (λ j within. let inside = few-active o c j less within in
      last (from d 0 o + 4 + c * ((alloc_size p d o).size + 1) + j) (from d 0 o + 4 + c * ((alloc_size p d o).size + 1) + suc j) 0 o (3 + (c * ((alloc_size p d o).size + 1) + j)) (omega arith) below (omega (arith, inside)) (omega arith) (omega arith)))

  alloc-moves : (o : ℕ) → o < 8 → Rises (from d 0 o) (from d 0 (suc o)) (alloc_group p d n o (alloc_names d o) (alloc_size p d o)).moves
  alloc-moves o below =
      next (from d 0 o) (from d 0 (suc o)) 0 o 0 (from d 0 o + 2) (omega arith) below (omega arith) (omega arith) (omega arith)
      (next (from d 0 o + 2) (from d 0 (suc o)) 0 o 1 (from d 0 o + 3) (omega arith) below (omega arith) (omega arith) (omega arith)
      (next (from d 0 o + 3) (from d 0 (suc o)) 0 o 2 (from d 0 o + 4) (omega arith) below (omega arith) (omega arith) (omega arith)
      (let all = few-outs o in
      wider (from d 0 o + 4) (from d 0 o + 4 + 0 * ((alloc_size p d o).size + 1)) (from d 0 o + 4 + ((alloc_size p d o).last + 1) * ((alloc_size p d o).size + 1)) (from d 0 (suc o)) (omega arith) (omega (arith, all))
      (each (λ c. from d 0 o + 4 + c * ((alloc_size p d o).size + 1)) ((alloc_size p d o).last + 1) (λ c less. class-moves o c below less)))))

  before-moves : GroupsRise its_moves (from d 0 0) (from d 1 0) (before_switch p n d leaf_names net_names q size b)
  before-moves =
      groups-wider its_moves (from d 0 0) (from d 0 0) (from d 0 (ports p)) (from d 1 0) (omega arith) (omega (arith, few_ports))
      (groups-each its_moves (from d 0) (ports p)
      (λ o less. groups-if its_moves (from d 0 o) (from d 0 (suc o)) (has_port p n d o)
      (λ there. still (from d 0 o) (from d 0 (suc o)) refl
      (group-next its_moves (from d 0 o) (from d 0 (suc o)) (from d 0 (suc o)) (alloc-moves o (omega (arith, few_ports)))
      (still (from d 0 (suc o)) (from d 0 (suc o)) refl (no-groups its_moves (from d 0 (suc o)) (from d 0 (suc o)) (omega arith)))))
      (λ absent. still (from d 0 o) (from d 0 (suc o)) refl (no-groups its_moves (from d 0 o) (from d 0 (suc o)) (omega arith)))))

  -- ---- the switch

  few-each : ports p - 1 + 1 ≤ 7
  few-each = omega (arith, few_ports)

  many-move : Rises (from d 1 0) (from d 3 0) (switch_group (switch_names leaf_names net_names d)
      (switch_size p d)).moves
  many-move =
      join (from d 1 0) (from d 2 0) (from d 3 0)
      (wider (from d 1 0) (from d 1 0) (from d 1 (ports p - 1 + 1)) (from d 2 0) (omega arith) (omega (arith, few-each))
      (each (from d 1) (ports p - 1 + 1) (λ o less. last (from d 1 o) (from d 1 (suc o)) 1 o 0 (omega arith) (omega (arith, few-each)) (omega arith) (omega arith) (omega arith))))
      (wider (from d 2 0) (from d 2 0) (from d 2 (ports p - 1 + 1)) (from d 3 0) (omega arith) (omega (arith, few-each))
      (each (from d 2) (ports p - 1 + 1) (λ o less. last (from d 2 o) (from d 2 (suc o)) 2 o 0 (omega arith) (omega (arith, few-each)) (omega arith) (omega arith) (omega arith))))

  lone-moves : Rises (from d 1 0) (from d 3 0)
      (lone_switch_group (switch_names leaf_names net_names d) (ports p - 1) (has_port p n d)).moves
  lone-moves =
      wider (from d 1 0) (from d 1 0) (from d 1 (ports p - 1 + 1)) (from d 3 0) (omega arith) (omega (arith, few-each))
      (each (from d 1) (ports p - 1 + 1) (λ o less.
      items-if (from d 1 o) (from d 1 (suc o)) (has_port p n d o)
      (λ has. last (from d 1 o) (from d 1 (suc o)) 1 o 0 (omega arith) (omega (arith, few-each)) (omega arith)
      (omega arith) (omega arith))
      (λ absent. nothing (from d 1 o) (from d 1 (suc o)) (omega arith))))

  switch-moves : Rises (from d 1 0) (from d 3 0) (switch_part p n leaf_names net_names d).moves
  switch-moves = group-if its_moves (from d 1 0) (from d 3 0) (is_lone p d) (λ one. lone-moves) (λ more. many-move)

  -- ---- links, buffers and the attachment

  behind-moves : GroupsRise its_moves (from d 4 0) (from d 4 0) (behind_switch p n d leaf_names net_names b)
  behind-moves =
      groups-each its_moves (λ o. from d 4 0) (ports p)
      (λ o less. groups-if its_moves (from d 4 0) (from d 4 0) (has_port p n d o)
      (λ there. still (from d 4 0) (from d 4 0) refl (still (from d 4 0) (from d 4 0) refl (no-groups its_moves (from d 4 0) (from d 4 0) (omega arith))))
      (λ absent. no-groups its_moves (from d 4 0) (from d 4 0) (omega arith)))

  sent-moves : GroupsRise its_moves (from d 4 0) (from d 5 0) (sent_groups p n d leaf_names net_names q base size b f k)
  sent-moves =
      groups-wider its_moves (from d 4 0) (from d 4 0) (from d 4 (ports p)) (from d 5 0) (omega arith) (omega (arith, few_ports))
      (groups-each its_moves (from d 4) (ports p)
      (λ o less. groups-if its_moves (from d 4 o) (from d 4 (suc o)) (is_some (neighbour p n o))
      (λ there. groups-join its_moves (from d 4 o) (from d 4 o + 1 + link_channels p d) (from d 4 (suc o))
      (groups-wider its_moves (from d 4 o) (from d 4 o + 1 + 0) (from d 4 o + 1 + link_channels p d) (from d 4 o + 1 + link_channels p d) (omega arith) (omega arith)
      (groups-each its_moves (λ x. from d 4 o + 1 + x) (link_channels p d)
      (λ x below. still (from d 4 o + 1 + x) (from d 4 o + 1 + suc x) refl
      (group-next its_moves (from d 4 o + 1 + x) (from d 4 o + 1 + suc x) (from d 4 o + 1 + suc x) (last (from d 4 o + 1 + x) (from d 4 o + 1 + suc x) 4 o x (omega arith) (omega (arith, few_ports)) (omega (arith, few)) (omega arith) (omega arith))
      (no-groups its_moves (from d 4 o + 1 + suc x) (from d 4 o + 1 + suc x) (omega arith))))))
      (still (from d 4 o + 1 + link_channels p d) (from d 4 (suc o)) refl
      (group-next its_moves (from d 4 o + 1 + link_channels p d) (from d 4 (suc o)) (from d 4 (suc o)) (last (from d 4 o + 1 + link_channels p d) (from d 4 (suc o)) 4 o 8 (omega arith) (omega (arith, few_ports)) (omega arith) (omega (arith, few)) (omega arith))
      (no-groups its_moves (from d 4 (suc o)) (from d 4 (suc o)) (omega arith)))))
      (λ absent. no-groups its_moves (from d 4 o) (from d 4 (suc o)) (omega arith))))

  link-buffers-move : GroupsRise its_moves (from d 5 0) (from d 5 0) (link_buffers p n d leaf_names net_names q size f k)
  link-buffers-move =
      groups-each its_moves (λ o. from d 5 0) (ports p)
      (λ o less. groups-neighbour its_moves (from d 5 0) (from d 5 0) (neighbour p n o) (omega arith)
      (λ m e. groups-each its_moves (λ c. from d 5 0) (link_channels p d) (λ c below. still (from d 5 0) (from d 5 0) refl (no-groups its_moves (from d 5 0) (from d 5 0) (omega arith)))))

  attach-moves : Rises (from d 5 0 + 2) (from d 6 0) (attach_group p n d (attach_names leaf_names net_names d) q (attach_size p size b d)).moves
  attach-moves =
      next (from d 5 0 + 2) (from d 6 0) 5 0 1 (from d 5 0 + 3) (omega arith) (omega arith) (omega arith) (omega arith) (omega arith)
      (next (from d 5 0 + 3) (from d 6 0) 5 0 2 (from d 5 0 + 4) (omega arith) (omega arith) (omega arith) (omega arith) (omega arith)
      (next (from d 5 0 + 4) (from d 6 0) 5 0 3 (from d 5 0 + 5) (omega arith) (omega arith) (omega arith) (omega arith) (omega arith)
      (next (from d 5 0 + 5) (from d 6 0) 5 0 4 (from d 5 0 + 6) (omega arith) (omega arith) (omega arith) (omega arith) (omega arith)
      (last (from d 5 0 + 6) (from d 6 0) 5 0 5 (omega arith) (omega arith) (omega arith) (omega arith) (omega arith)))))

  local-moves : GroupsRise its_moves (from d 5 0) (from d 6 0) (local_groups p n d leaf_names net_names q size b)
  local-moves =
      still (from d 5 0) (from d 6 0) refl
      (group-next its_moves (from d 5 0) (from d 5 0 + 2) (from d 6 0) (last (from d 5 0) (from d 5 0 + 2) 5 0 0 (omega arith) (omega arith) (omega arith) (omega arith) (omega arith))
      (group-next its_moves (from d 5 0 + 2) (from d 6 0) (from d 6 0) attach-moves
      (groups-each its_moves (λ c. from d 6 0) (channels p d) (λ c below. still (from d 6 0) (from d 6 0) refl (no-groups its_moves (from d 6 0) (from d 6 0) (omega arith))))))

  -- ---- all of them

  pub moves-rise : GroupsRise its_moves (from d 0 0) (from (suc d) 0 0) (domain_groups p n leaf_names net_names q base size b f k d)
  moves-rise =
      still (from d 0 0) (from (suc d) 0 0) refl
      (still (from d 0 0) (from (suc d) 0 0) refl
      (groups-join its_moves (from d 0 0) (from d 1 0) (from (suc d) 0 0) before-moves
      (group-next its_moves (from d 1 0) (from d 3 0) (from (suc d) 0 0) switch-moves
      (still (from d 3 0) (from (suc d) 0 0) refl
      (group-next its_moves (from d 3 0) (from d 4 0) (from (suc d) 0 0) (last (from d 3 0) (from d 4 0) 3 0 0 (omega arith) (omega arith) (omega arith) (omega arith) (omega arith))
      (groups-join its_moves (from d 4 0) (from d 4 0) (from (suc d) 0 0) behind-moves
      (groups-join its_moves (from d 4 0) (from d 5 0) (from (suc d) 0 0) sent-moves
      (groups-join its_moves (from d 5 0) (from d 5 0) (from (suc d) 0 0) link-buffers-move
      (groups-if its_moves (from d 5 0) (from (suc d) 0 0) (hosts p n d) (λ there. groups-wider its_moves (from d 5 0) (from d 5 0) (from d 6 0) (from (suc d) 0 0) (omega arith) (omega arith) local-moves) (λ away. no-groups its_moves (from d 5 0) (from (suc d) 0 0) (omega arith)))))))))))
