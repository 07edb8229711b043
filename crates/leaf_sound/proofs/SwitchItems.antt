-- The items of a domain are right: the switch, and what goes by links.
use Rattle.std.proofs.Common.{◌≡◌, ℕ, zero, suc, ◌+◌, ◌-◌, ◌*◌, ◌<◌, ◌≤◌, Bool, true, false, List, length, refl, subst, arith, pos, if◌then◌else◌}
use Rattle.std.proofs.lemmas.Nat.{mul-le}
use Rattle.vl_tree.specs.declared.tree.Op.TheVariants.{And, Or}
use Rattle.vl_tree.specs.Values.{Name, net, cat}
use Rattle.vl_model.specs.Lines.{Line}
use Rattle.noc_model.specs.Plan.{Plan, tiles, ports, link_channels, in_channels, at_local}
use Rattle.noc_model.specs.Sound.{IsSound}
use Rattle.flit_word.specs.Words.{dest_bits}
use Rattle.gen_kit.specs.Families.{or_upto, row_parts}
use Rattle.gen_kit.specs.Rotate.{rotate_group}
use Rattle.leaf_tie.specs.Alloc.{out_count}
use Rattle.leaf_tie.specs.Switch.{switch_group, lone_switch_group, lone_choice, chosen_place, port_nets, output_nets, grant_nets, place_count}
use Rattle.leaf_tie.specs.Tie.{HasLink, alloc_size, is_lone}
use Rattle.leaf_tie.specs.Glue.{switch_names, switch_size, switch_part, leaves_place, high, out_high, has_port, able, some_active, ready_group}
use Rattle.leaf_tie.specs.Names.{leaf_names, net_names, port_names, leaf_sizes, buffer_tag}
use Rattle.leaf_tie.proofs.Sized.{high-is, place_count-is, out-link, in_few}
use Rattle.leaf_sound.proofs.Ranked.{at}
use Rattle.leaf_sound.proofs.Inner.{few-channels, few-links, few-ports}
use Rattle.leaf_sound.proofs.Typed.{Is, net-is, number-is, bit-is, part-is, not-is, two-is, choose-is, deeper, wide-as, if-is, or-is, row-is, empty-is}
use Rattle.leaf_sound.proofs.Walk.{May, Any}
use Rattle.leaf_sound.proofs.Domain as facts
use Rattle.leaf_sound.proofs.Domain.{Wire, ls, by-register, by-rank, reg-in, wire-in}
use Rattle.leaf_sound.proofs.Items.{Good, GoodNets, good-nil, nets-nil, net-next, reg-next, clocked-next, good-join, good-each, good-if, nets-join, nets-each, nets-if}
use Rattle.leaf_sound.proofs.SharedItems.{pow-pos}
use Rattle.leaf_tie.specs.Slots.{leaving_slot}
use Rattle.leaf_tie.specs.Counts.{idle_group}
use Rattle.leaf_tie.specs.Glue.{ends_group, unready_group, on_group, freed_group, flit_group}
use Rattle.noc_model.specs.Place.{way_of}
use Rattle.leaf_tie.proofs.Grouped.{uses-leaving}
use Rattle.leaf_tie.proofs.Started.{slot-below}
use Rattle.leaf_sound.proofs.DomainItems.{least-is, some-is, pointer-good}
use Rattle.leaf_sound.proofs.Shared as shared
use Rattle.leaf_sound.proofs.SharedItems.{input-may}

module _ (p : Plan) (n : ℕ) (sound : IsSound p) (inside : n < tiles p) (d : ℕ) (there : d < length p.domains) where
  abbrev lines : List Line
  lines = ls p n sound inside

  some-links : (1 ≤ link_channels p d) × (link_channels p d ≤ 8)
  some-links = few-links p d sound there

  few-high : high p d < 64
  few-high = facts.few-high p n sound inside d there

  places : place_count (switch_size p d) - 1 ≡ high p d
  places = facts.places p n sound inside d there

  counted : place_count (switch_size p d) ≡ high p d + 1
  counted = place_count-is p d (few-channels p d sound there).0

  few-p : ports p ≤ 7
  few-p = few-ports p sound

  -- ---- ready places

  owner-may : (t : Name) (o k : ℕ) → (link : HasLink p n o) → Wire lines t k (at d 1 o + 10 + 1) → Is lines (May lines t) (net ((leaf_names.slot (leaving_slot p n o)).owns d)) 1 1
  owner-may t o k link x =
      let some = sound.slot_count.0 in
      let most = sound.slot_count.1 in
      let below = slot-below p n (pos 0) (way_of o) some in
      let owns = shared.owns p n sound inside (leaving_slot p n o) (slot-below p n (pos 0) (way_of o) some) (uses-leaving p n o link) d there in
      let domains = sound.domains.1 in
      net-is lines (May lines t) owns.its (by-rank lines t ((leaf_names.slot (leaving_slot p n o)).owns d) (at d 1 o + 10 + 1) (2048 * (1024 + leaving_slot p n o) + d + 1) x owns.at_rank (omega (arith, below, most, domains, there)))

  able-is : (o : ℕ) (low : o < ports p) (has : has_port p n d o ≡ true) (w : ℕ) → w < out_count (alloc_size p d o) → Is lines (May lines (net_names.ready d o)) (able p n leaf_names (port_names n) (leaf_sizes p) d o w) 1 4
  able-is zero low has w less =
      let P = May lines (net_names.ready d 0) in
      let t = facts.ready p n sound inside d there 0 low (λ one. has) in
      let e = facts.ejected p n sound inside d there has in
      let hears = shared.hears p n sound inside d there has in
      deeper lines P 4 (omega arith) (two-is lines P Or (empty-is lines P 34 (reg-in lines (net_names.ready d 0) e) (omega arith)) (deeper lines P 2 (omega arith) (net-is lines P hears.its (input-may lines (net_names.ready d 0) ((port_names n).hears d) t hears (omega arith)))))
  able-is (suc o) low has w less =
      let P = May lines (net_names.ready d (suc o)) in
      let t = facts.ready p n sound inside d there (suc o) low (λ one. has) in
      let outs = out-link p d (suc o) (few-channels p d sound there).0 (λ e. omega arith) in
      let c = facts.credits p n sound inside d there (suc o) (low, has) w (omega (arith, outs, less)) in
      two-is lines P And (deeper lines P 3 (omega arith) (owner-may (net_names.ready d (suc o)) (suc o) (high p d) (low, has) t))
      (not-is lines P (empty-is lines P (leaf_sizes p).lh (reg-in lines (net_names.ready d (suc o)) c) (omega arith)))

  pub ready-good : (o : ℕ) (low : o < ports p) → has_port p n d o ≡ true → GoodNets lines (ready_group p n leaf_names net_names (port_names n) (leaf_sizes p) d o).nets
  ready-good o low has =
      let P = May lines (net_names.ready d o) in
      let t = facts.ready p n sound inside d there o low (λ one. has) in
      let few = few-high in
      let outs = facts.few-outs p n sound inside d there o in let some = outs.0 in let most = outs.1 in
      net-next lines t (two-is lines P And (deeper lines P (5 + out_high p d o) (omega arith) (wire-in lines t (facts.filled p n sound inside d there) (omega arith)))
      (or-is lines P (out_high p d o) (high p d + 1) 5 (λ w le. choose-is lines P (able-is o low has w (omega (arith, some, le)))
      (deeper lines P 4 (omega arith) (reg-in lines (net_names.ready d o) (facts.active p n sound inside d there o low has w (omega (arith, some, le)))))
      (deeper lines P 4 (omega arith) (number-is lines P (high p d + 1) 0 (omega arith) (omega (arith, few)) (pow-pos (high p d + 1))))))) (omega (arith, most)) (nets-nil lines)

  pub unready-good : (o : ℕ) (low : o < ports p) → GoodNets lines (unready_group p net_names d o).nets
  unready-good o low =
      let few = few-high in
      nets-if lines (is_lone p d) (λ one. nets-nil lines)
      (λ more. net-next lines (facts.ready p n sound inside d there o low
      (facts.not-one p n sound inside d there more o)) (number-is lines (May lines (net_names.ready d o))
      (high p d + 1) 0 (omega arith) (omega (arith, few)) (pow-pos (high p d + 1))) (omega arith) (nets-nil lines))

  -- ---- the switch

  -- the places of a port stand inside
  pub part-inside : (o : ℕ) → o ≤ ports p - 1
      → o * (link_channels p d - 1 + 1) + (link_channels p d - 1) ≤ place_count (switch_size p d) - 1
  part-inside o le =
      let more : (o + 1) * (link_channels p d - 1 + 1) ≤ (ports p - 1 + 1) * (link_channels p d - 1 + 1) = mul-le (o + 1) (link_channels p d - 1 + 1) (ports p - 1 + 1) (link_channels p d - 1 + 1) (omega arith) (omega arith) in
      let split : (o + 1) * (link_channels p d - 1 + 1) ≡ o * (link_channels p d - 1 + 1) + (link_channels p d - 1 + 1) = grind arith in
      omega (arith, more, split)

  -- rows over all ports
  few-all : (ports p - 1 + 1) * (link_channels p d - 1 + 1) ≤ 64
  few-all = let is = counted in let few = few-high in omega (arith, is, few)

  all-wide : (ports p - 1 + 1) * (link_channels p d - 1 + 1) ≡ place_count (switch_size p d) - 1 + 1
  all-wide = let is = counted in omega (arith, is)

  -- with one channel at each port
  module _ (one : is_lone p d ≡ true) where
    one-high : high p d ≡ ports p - 1
    one-high = facts.lone-high p n sound inside d there one

    lone-ready : (o : ℕ) → o < ports p - 1 + 1 → has_port p n d o ≡ true → Wire lines (net_names.ready d o)
        (ports p - 1) (at d 1 o + 10 + 1)
    lone-ready o less has = subst (λ h. Wire lines (net_names.ready d o) h (at d 1 o + 10 + 1)) one-high
        (facts.ready p n sound inside d there o (omega (arith, less)) (λ e. has))

    lone-leaves : Wire lines (net_names.leaves d) (ports p - 1) (at d 7 0 + 0 + 1)
    lone-leaves = subst (λ h. Wire lines (net_names.leaves d) h (at d 7 0 + 0 + 1))
        (let is = places in let wide = one-high in omega (arith, is, wide)) (facts.leaves p n sound inside d there)

    lone-output : (o : ℕ) → o < ports p - 1 + 1 → has_port p n d o ≡ true → GoodNets lines (rotate_group (lone_choice
        (switch_names leaf_names net_names d) o) (ports p - 1)).nets
    lone-output o less has =
        let q = lone-ready o less has in
        let s = facts.choice-some p n sound inside d there o less (λ e. has) in
        let v = facts.choice-winner p n sound inside d there o less (λ e. has) in
        let pt = facts.choice-pointer p n sound inside d there o less (λ e. has) in
        net-next lines s (some-is lines (May lines (leaf_names.switch d o).some) q.its (by-rank lines
        (leaf_names.switch d o).some (net_names.ready d o) (at d 5 o + 2 + 1) (at d 1 o + 10 + 1) s q.at_rank
        (let few = few-p in omega (arith, few, less))) pt (by-register lines (leaf_names.switch d o).some pt))
        (omega arith)
        (net-next lines v (least-is lines (May lines (leaf_names.switch d o).winner) s.its (by-rank lines
        (leaf_names.switch d o).winner (leaf_names.switch d o).some (at d 5 o + 3 + 1)
        (at d 5 o + 2 + 1) v s.at_rank (omega arith))) (omega arith) (nets-nil lines))

    chosen-is : (o : ℕ) → o ≤ ports p - 1 → Is lines (May lines (net_names.leaves d)) (chosen_place
        (switch_names leaf_names net_names d) (ports p - 1) (has_port p n d) o) (ports p - 1 + 1) 1
    chosen-is o le =
        let few = few-p in
        if-is lines (May lines (net_names.leaves d)) (has_port p n d o)
        (λ has. wire-in lines lone-leaves (facts.choice-winner p n sound inside d there o (omega arith) (λ e. has))
        (omega (arith, few, le)))
        (λ absent. number-is lines (May lines (net_names.leaves d)) (ports p - 1 + 1) 0 (omega arith) (omega
        (arith, few)) (pow-pos (ports p - 1 + 1)))

    lone-good : GoodNets lines (lone_switch_group (switch_names leaf_names net_names d) (ports p - 1)
        (has_port p n d)).nets
    lone-good =
        let few = few-p in
        nets-join lines (nets-each lines (ports p - 1 + 1) (λ o less. nets-if lines (has_port p n d o)
        (λ has. lone-output o less has) (λ absent. nets-nil lines)))
        (net-next lines lone-leaves (or-is lines (May lines (net_names.leaves d)) (ports p - 1)
        (ports p - 1 + 1) 1 chosen-is) (omega (arith, few)) (nets-nil lines))

    lone-heads-good : Good lines (lone_switch_group (switch_names leaf_names net_names d) (ports p - 1)
        (has_port p n d)).heads
    lone-heads-good = good-each lines (ports p - 1 + 1) (λ o less. good-if lines (has_port p n d o)
        (λ has. reg-next lines (facts.choice-pointer p n sound inside d there o less (λ e. has)) (good-nil lines))
        (λ absent. good-nil lines))

    lone-moves-good : Good lines (lone_switch_group (switch_names leaf_names net_names d) (ports p - 1)
        (has_port p n d)).moves
    lone-moves-good = good-each lines (ports p - 1 + 1) (λ o less. good-if lines (has_port p n d o)
        (λ has. pointer-good lines (facts.choice-pointer p n sound inside d there o less (λ e. has))
        (facts.choice-winner p n sound inside d there o less (λ e. has)).its) (λ absent. good-nil lines))

  -- with more channels
  module _ (more : is_lone p d ≡ false) where
    not-one : (o : ℕ) → is_lone p d ≡ true → has_port p n d o ≡ true
    not-one o = facts.not-one p n sound inside d there more o

    all-is : Is lines (May lines (net_names.all d)) (or_upto (ports p - 1) (λ o. net (net_names.ready d o))) (place_count (switch_size p d) - 1 + 1) (1 + (ports p - 1))
    all-is =
        let P = May lines (net_names.all d) in
        let t = facts.all p n sound inside d there more in
        let few = few-p in
        let same = places in
        wide-as lines P (let e : high p d + 1 ≡ place_count (switch_size p d) - 1 + 1 = omega (arith, same) in e)
        (or-is lines P (ports p - 1) (high p d + 1) 1 (λ o le. wire-in lines t (facts.ready p n sound inside d there o (omega arith) (not-one o)) (omega (arith, few, le))))

    port-good : (o : ℕ) → o < ports p - 1 + 1 → GoodNets lines (port_nets (switch_names leaf_names net_names d) (switch_size p d) o)
    port-good o less =
        let q = facts.turn-request p n sound inside d there more o less in
        let s = facts.turn-some p n sound inside d there more o less in
        let v = facts.turn-winner p n sound inside d there more o less in
        let pt = facts.turn-pointer p n sound inside d there more o less in
        let a = facts.all p n sound inside d there more in
        net-next lines q (part-is lines (May lines (leaf_names.turn d o).request) (o * (link_channels p d - 1 + 1) + (link_channels p d - 1)) (o * (link_channels p d - 1 + 1)) (link_channels p d - 1 + 1) a.its
        (by-rank lines (leaf_names.turn d o).request (net_names.all d) (at d 3 o + 0 + 1) (at d 2 0 + 0 + 1) q a.at_rank (omega arith)) (omega arith) (part-inside o (omega arith)) (omega arith)) (omega arith)
        (net-next lines s (some-is lines (May lines (leaf_names.turn d o).some) q.its (by-rank lines (leaf_names.turn d o).some (leaf_names.turn d o).request (at d 3 o + 1 + 1) (at d 3 o + 0 + 1) s q.at_rank (omega arith)) pt (by-register lines (leaf_names.turn d o).some pt)) (omega arith)
        (net-next lines v (least-is lines (May lines (leaf_names.turn d o).winner) s.its (by-rank lines (leaf_names.turn d o).winner (leaf_names.turn d o).some (at d 3 o + 2 + 1) (at d 3 o + 1 + 1) v s.at_rank (omega arith))) (omega arith) (nets-nil lines)))

    picked-is : Is lines (May lines (net_names.picked d)) (cat (row_parts (λ port. net (leaf_names.turn d port).winner) (ports p - 1))) (place_count (switch_size p d) - 1 + 1) 2
    picked-is =
        let P = May lines (net_names.picked d) in
        let t = facts.picked p n sound inside d there more in
        let few = few-p in
        wide-as lines P all-wide (row-is lines P (ports p - 1) (link_channels p d - 1 + 1) 1 (λ port le. wire-in lines t (facts.turn-winner p n sound inside d there more port (omega arith)) (omega (arith, few, le))) (omega arith) few-all)

    output-good : (o : ℕ) → o < ports p - 1 + 1 → GoodNets lines (output_nets (switch_names leaf_names net_names d) (switch_size p d) o)
    output-good o less =
        let a = facts.asks p n sound inside d there more o less in
        let q = facts.choice-request p n sound inside d there more o less in
        let s = facts.choice-some p n sound inside d there o less (not-one o) in
        let v = facts.choice-winner p n sound inside d there o less (not-one o) in
        let pt = facts.choice-pointer p n sound inside d there o less (not-one o) in
        let few = few-p in
        let same = places in
        let A = May lines (net_names.asks d o) in
        let Q = May lines (leaf_names.switch d o).request in
        net-next lines a (two-is lines A And (wire-in lines a (facts.picked p n sound inside d there more)
        (omega arith))
        (wide-as lines A (let e : high p d + 1 ≡ place_count (switch_size p d) - 1 + 1 = omega (arith, same) in e) (wire-in lines a (facts.ready p n sound inside d there o (omega (arith, less)) (not-one o)) (omega (arith, few, less))))) (omega arith)
        (net-next lines q (wide-as lines Q (let e : (ports p - 1 + 1) * 1 ≡ ports p - 1 + 1 = omega arith in e) (row-is lines Q (ports p - 1) 1 3 (λ port le. not-is lines Q (empty-is lines Q (link_channels p d - 1)
        (part-is lines Q (port * (link_channels p d - 1 + 1) + (link_channels p d - 1)) (port * (link_channels p d - 1 + 1)) (link_channels p d - 1 + 1) a.its (by-rank lines (leaf_names.switch d o).request (net_names.asks d o) (at d 5 o + 1 + 1) (at d 5 o + 0 + 1) q a.at_rank (omega arith)) (omega arith) (part-inside port le) (omega arith))
        (omega arith))) (omega arith) (omega (arith, few)))) (omega arith)
        (net-next lines s (some-is lines (May lines (leaf_names.switch d o).some) q.its (by-rank lines (leaf_names.switch d o).some (leaf_names.switch d o).request (at d 5 o + 2 + 1) (at d 5 o + 1 + 1) s q.at_rank (omega arith)) pt (by-register lines (leaf_names.switch d o).some pt)) (omega arith)
        (net-next lines v (least-is lines (May lines (leaf_names.switch d o).winner) s.its (by-rank lines (leaf_names.switch d o).winner (leaf_names.switch d o).some (at d 5 o + 3 + 1) (at d 5 o + 2 + 1) v s.at_rank (omega arith))) (omega arith) (nets-nil lines))))

    grant-good : (port : ℕ) → port < ports p - 1 + 1 → GoodNets lines (grant_nets (switch_names leaf_names net_names d) (switch_size p d) port)
    grant-good port less =
        let t = facts.granted p n sound inside d there more port less in
        let P = May lines (net_names.granted d port) in
        let few = few-p in
        let most = some-links in let top = most.1 in
        net-next lines t (choose-is lines P (or-is lines P (ports p - 1) 1 1 (λ o le. let v = facts.choice-winner p n sound inside d there o (omega arith) (not-one o) in
        bit-is lines P port v.its (by-rank lines (net_names.granted d port) (leaf_names.switch d o).winner (at d 6 port + 0 + 1) (at d 5 o + 3 + 1) t v.at_rank (omega (arith, few, le))) (omega arith)))
        (deeper lines P (1 + (ports p - 1)) (omega arith) (wire-in lines t (facts.turn-winner p n sound inside d there more port less) (omega (arith, few, less))))
        (deeper lines P (1 + (ports p - 1)) (omega arith) (number-is lines P (link_channels p d - 1 + 1) 0 (omega arith) (omega (arith, top)) (pow-pos (link_channels p d - 1 + 1))))) (omega (arith, few)) (nets-nil lines)

    many-good : GoodNets lines (switch_group (switch_names leaf_names net_names d) (switch_size p d)).nets
    many-good =
        let few = few-p in
        let l = facts.leaves p n sound inside d there in
        net-next lines (facts.all p n sound inside d there more) all-is (omega (arith, few))
        (nets-join lines (nets-each lines (ports p - 1 + 1) port-good)
        (net-next lines (facts.picked p n sound inside d there more) picked-is (omega arith)
        (nets-join lines (nets-each lines (ports p - 1 + 1) output-good)
        (nets-join lines (nets-each lines (ports p - 1 + 1) grant-good)
        (net-next lines l (wide-as lines (May lines (net_names.leaves d)) all-wide (row-is lines (May lines (net_names.leaves d)) (ports p - 1) (link_channels p d - 1 + 1) 1 (λ port le. wire-in lines l (facts.granted p n sound inside d there more port (omega arith)) (omega (arith, few, le))) (omega arith) few-all)) (omega arith) (nets-nil lines))))))

    many-heads-good : Good lines (switch_group (switch_names leaf_names net_names d) (switch_size p d)).heads
    many-heads-good =
        good-join lines (good-each lines (ports p - 1 + 1) (λ o less. reg-next lines (facts.choice-pointer p n sound inside d there o less (not-one o)) (good-nil lines)))
        (good-each lines (ports p - 1 + 1) (λ o less. reg-next lines (facts.turn-pointer p n sound inside d there more o less) (good-nil lines)))

    many-moves-good : Good lines (switch_group (switch_names leaf_names net_names d) (switch_size p d)).moves
    many-moves-good =
        good-join lines (good-each lines (ports p - 1 + 1) (λ o less. pointer-good lines (facts.choice-pointer p n sound inside d there o less (not-one o)) (facts.choice-winner p n sound inside d there o less (not-one o)).its))
        (good-each lines (ports p - 1 + 1) (λ o less. pointer-good lines (facts.turn-pointer p n sound inside d there more o less) (facts.granted p n sound inside d there more o less).its))

  pub switch-good : GoodNets lines (switch_part p n leaf_names net_names d).nets
  switch-good = go (is_lone p d) refl
    where
      go : (b : Bool) → is_lone p d ≡ b → GoodNets lines (if b then lone_switch_group
          (switch_names leaf_names net_names d) (ports p - 1) (has_port p n d) else switch_group
          (switch_names leaf_names net_names d) (switch_size p d)).nets
      go true e = lone-good e
      go false e = many-good e

  pub switch-heads-good : Good lines (switch_part p n leaf_names net_names d).heads
  switch-heads-good = go (is_lone p d) refl
    where
      go : (b : Bool) → is_lone p d ≡ b → Good lines (if b then lone_switch_group
          (switch_names leaf_names net_names d) (ports p - 1) (has_port p n d) else switch_group
          (switch_names leaf_names net_names d) (switch_size p d)).heads
      go true e = lone-heads-good e
      go false e = many-heads-good e

  pub switch-moves-good : Good lines (switch_part p n leaf_names net_names d).moves
  switch-moves-good = go (is_lone p d) refl
    where
      go : (b : Bool) → is_lone p d ≡ b → Good lines (if b then lone_switch_group
          (switch_names leaf_names net_names d) (ports p - 1) (has_port p n d) else switch_group
          (switch_names leaf_names net_names d) (switch_size p d)).moves
      go true e = lone-moves-good e
      go false e = many-moves-good e

  -- ---- behind the switch

  leaves-in : {t : Name} {k s : ℕ} → Wire lines t k s → at d 7 0 + 0 + 1 < s → Is lines (May lines t) (net (net_names.leaves d)) (high p d + 1) 1
  leaves-in {t} {k} {s} x less = let same = places in wide-as lines (May lines t) (let e : place_count (switch_size p d) - 1 + 1 ≡ high p d + 1 = omega (arith, same) in e) (wire-in lines x (facts.leaves p n sound inside d there) less)

  -- whether a flit leaves the place
  pub leaves-place-is : {t : Name} {k r : ℕ} (port c : ℕ) → Wire lines t k r → at d 7 0 + 1 < r → port < ports p
      → c < link_channels p d → Is lines (May lines t) (leaves_place p net_names d port c) 1 1
  leaves-place-is {t} {k} {r} port c x far low less =
      let l = facts.leaves p n sound inside d there in
      let more : (port + 1) * link_channels p d ≤ ports p * link_channels p d = mul-le (port + 1) (link_channels p d)
      (ports p) (link_channels p d) (omega arith) (omega arith) in
      let split : (port + 1) * link_channels p d ≡ port * link_channels p d + link_channels p d = grind arith in
      let wide = high-is p d (few-channels p d sound there).0 in
      let same = places in
      bit-is lines (May lines t) (port * link_channels p d + c) l.its (by-rank lines t (net_names.leaves d) r
      (at d 7 0 + 0 + 1) x l.at_rank (omega (arith, far))) (omega (arith, more, split, wide, same, less))

  pub ends-good : GoodNets lines (ends_group p net_names d).nets
  ends-good = let t = facts.ends p n sound inside d there in net-next lines t (two-is lines (May lines (net_names.ends d)) And (leaves-in t (omega arith)) (wire-in lines t (facts.tails p n sound inside d there) (omega arith))) (omega arith) (nets-nil lines)

  pub idle-good : Good lines (idle_group (leaf_names.idle d) (net_names.filled d) (net_names.ends d) (high p d)).moves
  idle-good =
      let i = facts.idle p n sound inside d there in
      clocked-next lines i (two-is lines (Any lines) Or (two-is lines (Any lines) And (deeper lines (Any lines) 2 (omega arith) (net-is lines (Any lines) i tt)) (not-is lines (Any lines) (net-is lines (Any lines) (facts.filled p n sound inside d there).its tt)))
      (deeper lines (Any lines) 3 (omega arith) (net-is lines (Any lines) (facts.ends p n sound inside d there).its tt))) (omega arith) refl (let some = pow-pos (high p d + 1) in omega (arith, some)) (good-nil lines)

  -- whether a place that is active on a channel is among these
  some-active-is : (t : Name) (o w : ℕ) (these : Name) (low : o < ports p) (has : has_port p n d o ≡ true) → w < out_count (alloc_size p d o) → Is lines (May lines t) (net these) (high p d + 1) 1 → Is lines (May lines t) (some_active p leaf_names d o these w) 1 4
  some-active-is t o w these low has less x = not-is lines (May lines t) (empty-is lines (May lines t) (high p d) (two-is lines (May lines t) And (reg-in lines t (facts.active p n sound inside d there o low has w less)) x) (omega arith))

  pub freed-good : (o : ℕ) (low : o < ports p) → has_port p n d o ≡ true → GoodNets lines (freed_group p leaf_names net_names d o).nets
  freed-good o low has =
      let t = facts.freed p n sound inside d there o low has in
      let P = May lines (leaf_names.alloc d o).freed in
      let outs = facts.few-outs p n sound inside d there o in let some = outs.0 in let most = outs.1 in
      net-next lines t (wide-as lines P (let e : (out_high p d o + 1) * 1 ≡ out_high p d o + 1 = omega arith in e)
      (row-is lines P (out_high p d o) 1 4 (λ w le. some-active-is (leaf_names.alloc d o).freed o w (net_names.ends d) low has (omega (arith, some, le)) (wire-in lines t (facts.ends p n sound inside d there) (omega arith))) (omega arith) (omega (arith, most)))) (omega arith) (nets-nil lines)

  pub flit-good : (o : ℕ) (low : o < ports p) → has_port p n d o ≡ true → GoodNets lines (flit_group p leaf_names net_names (dest_bits p) d o).nets
  flit-good o low has =
      let t = facts.flit p n sound inside d there o low has in
      let P = May lines (net_names.flit d o) in
      let dests = facts.few-dests p n sound inside in
      let top = in_few p d o in
      let most = some-links in let high_links = most.1 in
      let few = few-p in
      let some = in-some o in
      net-next lines t (wide-as lines P (let e : 34 + dest_bits p ≡ 33 + dest_bits p + 1 = omega arith in e)
      (or-is lines P (in_channels p d o - 1) (34 + dest_bits p) 2 (λ c le.
      let b = facts.buffer p n sound inside d there o c low has (omega (arith, some, le)) in
      let tag = facts.low-tag p n sound inside d there o c (omega (arith, few, low)) (omega (arith, top, high_links, some, le)) in
      choose-is lines P (leaves-place-is o c t (omega arith) low (omega (arith, top, some, le)))
      (part-is lines P (33 + dest_bits p) 0 (34 + dest_bits p) b.front.its (by-rank lines (net_names.flit d o) (leaf_names.buffer d o c).front (at d 8 o + 1 + 1) (2048 * buffer_tag d o c + 1) t b.front.at_rank (omega (arith, tag))) (omega arith) (omega arith) (omega arith))
      (number-is lines P (34 + dest_bits p) 0 (omega arith) (omega (arith, dests)) (pow-pos (34 + dest_bits p)))))) (omega (arith, top, high_links)) (nets-nil lines)
    where
      in-some : (o : ℕ) → 1 ≤ in_channels p d o
      in-some zero = (few-channels p d sound there).0
      in-some (suc o) = (few-links p d sound there).0

  -- ---- links

  pub on-good : (o w : ℕ) (t : Wire lines (net_names.on d o w) 0 (at d (at_local o 11 9) o + w + 1)) (low : o < ports p) → has_port p n d o ≡ true → w < out_count (alloc_size p d o) → GoodNets lines (on_group p leaf_names net_names d o w).nets
  on-good o w t low has less = net-next lines t (some-active-is (net_names.on d o w) o w (net_names.leaves d) low has less (leaves-in t (behind o))) (omega arith) (nets-nil lines)
    where
      behind : (o : ℕ) → at d 7 0 + 0 + 1 < at d (at_local o 11 9) o + w + 1
      behind zero = omega arith
      behind (suc o) = omega arith
