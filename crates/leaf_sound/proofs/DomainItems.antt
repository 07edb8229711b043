-- The items of a domain are right: before the switch, the switch, and what follows from it.
use Rattle.std.proofs.Common.{◌≡◌, ℕ, zero, suc, ◌+◌, ◌-◌, ◌*◌, ◌<◌, ◌≤◌, Bool, true, false, ◌&&◌, List, length, refl, sym, ◌∙◌, ap, subst, arith, nat_lt, if◌then◌else◌}
use Rattle.std.proofs.lemmas.Bool.Decides.{nat_tests}
use Rattle.vl_tree.specs.declared.tree.Op.TheVariants.{And, Or, Sub}
use Rattle.vl_tree.specs.Values.{Name, Expr, net, bit, part, not, two, choose, cat}
use Rattle.vl_model.specs.declared.kind.Kind.TheVariants.{Inner, Register}
use Rattle.vl_model.specs.Lines.{Line}
use Rattle.noc_model.specs.Plan.{Plan, tiles, ports, link_channels, in_channels}
use Rattle.noc_model.specs.Sound.{IsSound}
use Rattle.flit_word.specs.Words.{dest_bits}
use Rattle.gen_kit.specs.Families.{in_bits, or_upto}
use Rattle.gen_kit.specs.Masks.{mask}
use Rattle.gen_kit.specs.Rotate.{is_empty, least_member, pointer_moves, rotate_group}
use Rattle.gen_kit.proofs.Sets.{mask-lt}
use Rattle.leaf_tie.specs.Alloc.{class_start, out_count, has_one, lone_requests, class_requests, class_nets, class_number, asks_class, taken_nets, taken_parts, taken_channels, becomes_active, alloc_group, in_class, active_move}
use Rattle.leaf_tie.specs.Tie.{alloc_size}
use Rattle.leaf_tie.specs.Glue.{high, has_port, placed, place_bits, front_bits, filled_group, tails_group, led_group}
use Rattle.leaf_tie.specs.Names.{leaf_names, net_names, leaf_sizes, buffer_tag}
use Rattle.leaf_tie.proofs.Sized.{high-is, in_few}
use Rattle.leaf_sound.proofs.Ranked.{at}
use Rattle.leaf_sound.proofs.Inner.{few-channels, few-links, few-ports}
use Rattle.leaf_sound.proofs.Typed.{Net, Is, net-is, number-is, bit-is, part-is, not-is, two-is, choose-is, none-are, next-are, cat-is, deeper, wide-as, if-is, or-is, row-is, empty-is, Are}
use Rattle.leaf_sound.proofs.Walk.{May, Any}
use Rattle.leaf_sound.proofs.Domain as facts
use Rattle.leaf_sound.proofs.Domain.{Wire, ls, by-register, by-rank, reg-in, wire-in}
use Rattle.leaf_sound.proofs.Items.{Good, GoodNets, good-nil, nets-nil, net-next, reg-next, clocked-next, good-join, good-each, nets-join, nets-each, nets-if}
use Rattle.leaf_sound.proofs.SharedItems.{pow-pos, two-more}
use Rattle.leaf_tie.proofs.Allocated.{inside as class-inside}

module _ (lines : List Line) (P : Name → Type 0) where
  -- the least member, what stands behind a member, and the choice among the upper requests
  pub least-is : {m : Name} {h : ℕ} → Net lines Inner m h → P m → Is lines P (least_member h m) (h + 1) 3
  least-is {m} {h} x may =
      two-is lines P And (deeper lines P 2 (omega arith) (net-is lines P x may)) (two-is lines P Sub (number-is lines P (h + 1) 0 (omega arith) (let few = x.few in omega (arith, few)) (pow-pos (h + 1))) (net-is lines P x may))

  pub some-is : {q m : Name} {h : ℕ} → Net lines Inner q h → P q → Net lines Register m h → P m → Is lines P (choose (is_empty h (two And (net m) (net q))) (net q) (two And (net m) (net q))) (h + 1) 4
  some-is {q} {m} {h} x may y can =
      let upper = two-is lines P And (net-is lines P y can) (net-is lines P x may) in
      choose-is lines P (empty-is lines P h upper (omega arith)) (deeper lines P 3 (omega arith) (net-is lines P x may)) (deeper lines P 3 (omega arith) upper)

-- a pointer's move
pub pointer-good : (lines : List Line) {m by : Name} {h : ℕ} → Net lines Register m h → Net lines Inner by h → Good lines (pointer_moves m by h)
pointer-good lines {m} {by} {h} x y =
    let few = x.few in
    clocked-next lines x
    (choose-is lines (Any lines) (deeper lines (Any lines) 4 (omega arith) (empty-is lines (Any lines) h (net-is lines (Any lines) y tt) (omega arith))) (deeper lines (Any lines) 4 (omega arith) (net-is lines (Any lines) x tt))
    (not-is lines (Any lines) (two-is lines (Any lines) Or (deeper lines (Any lines) 2 (omega arith) (net-is lines (Any lines) y tt)) (two-is lines (Any lines) Sub (net-is lines (Any lines) y tt) (number-is lines (Any lines) (h + 1) 1 (omega arith) (omega (arith, few)) (two-more h))))))
    (omega arith) refl (let some = pow-pos (h + 1) in omega (arith, some)) (good-nil lines)

module _ (p : Plan) (n : ℕ) (sound : IsSound p) (inside : n < tiles p) (d : ℕ) (there : d < length p.domains) where
  abbrev lines : List Line
  lines = ls p n sound inside

  some-links : (1 ≤ link_channels p d) × (link_channels p d ≤ 8)
  some-links = few-links p d sound there

  wide : high p d + 1 ≡ ports p * link_channels p d
  wide = high-is p d (few-channels p d sound there).0

  few-high : high p d < 64
  few-high = facts.few-high p n sound inside d there

  module _ (P : Name → Type 0) where
    placed-is : (e : ℕ → ℕ → Expr) (k : ℕ) → 1 ≤ k → ((port c : ℕ) → port < ports p → has_port p n d port ≡ true → c < in_channels p d port → Is lines P (e port c) 1 k) → (port c : ℕ) → port < ports p → Is lines P (placed p n d e port c) 1 k
    placed-is e k some f port c low = go (has_port p n d port) (nat_lt c (in_channels p d port)) refl refl
      where
        go : (a b : Bool) → has_port p n d port ≡ a → nat_lt c (in_channels p d port) ≡ b → Is lines P (if has_port p n d port && nat_lt c (in_channels p d port) then e port c else in_bits 1 0) 1 k
        go true true x y = rw (x, y) (f port c low x (let less : c < in_channels p d port = grind (arith, nat_tests, y) in less))
        go true false x y = rw (x, y) (deeper lines P k some (number-is lines P 1 0 (omega arith) (omega arith) (omega arith)))
        go false b x y = rw x (deeper lines P k some (number-is lines P 1 0 (omega arith) (omega arith) (omega arith)))

    place-bits-is : (e : ℕ → ℕ → Expr) (k : ℕ) → 1 ≤ k → ((port c : ℕ) → port < ports p → has_port p n d port ≡ true → c < in_channels p d port → Is lines P (e port c) 1 k) → Is lines P (place_bits p n d e) (high p d + 1) (k + 2)
    place-bits-is e k some f =
        let a = some-links in
        let low = a.0 in
        let is_links : (link_channels p d - 1 + 1) * 1 ≡ link_channels p d = omega (arith, low) in
        let is_ports : ports p - 1 + 1 ≡ ports p = omega arith in
        let all : (ports p - 1 + 1) * ((link_channels p d - 1 + 1) * 1) ≡ high p d + 1 = rw (is_links, is_ports) (sym wide) in
        let few = few-high in
        let high_links = a.1 in
        wide-as lines P all (deeper lines P (k + 2) (omega arith)
        (row-is lines P (ports p - 1) ((link_channels p d - 1 + 1) * 1) (k + 1) (λ port le. row-is lines P (link_channels p d - 1) 1 k (λ c less. placed-is e k some f port c (omega arith)) (omega arith) (omega (arith, is_links, high_links))) (omega (arith, is_links, low)) (omega (arith, all, few))))

  -- ---- before the switch

  few-front : (o : ℕ) → o < ports p → 34 + dest_bits p + o ≤ (leaf_sizes p).wh
  few-front o low = omega arith

  filled-is : Is lines (May lines (net_names.filled d)) (place_bits p n d (λ port c. not (net (leaf_names.buffer d port c).empty))) (high p d + 1) 4
  filled-is =
      place-bits-is (May lines (net_names.filled d)) (λ port c. not (net (leaf_names.buffer d port c).empty)) 2 (omega arith)
      (λ port c low has less. let b = facts.buffer p n sound inside d there port c low has less in
      not-is lines (May lines (net_names.filled d)) (wire-in lines (facts.filled p n sound inside d there) b.empty (low-rank port c low less)))
    where
      low-rank : (port c : ℕ) → port < ports p → c < in_channels p d port → 2048 * buffer_tag d port c + 2 < at d 0 0 + 0 + 1
      low-rank port c low less =
          let few = few-ports p sound in
          let some = some-links in
          let top = in_few p d port in
          let most = some.1 in
          let tag = facts.low-tag p n sound inside d there port c (omega (arith, few, low)) (omega (arith, top, most, less)) in
          omega (arith, tag)

  pub filled-good : GoodNets lines (filled_group p n leaf_names net_names d).nets
  filled-good = net-next lines (facts.filled p n sound inside d there) filled-is (omega arith) (nets-nil lines)

  -- which buffer's name is lower than any net's
  buffer-low : (port c : ℕ) → port < ports p → c < in_channels p d port → buffer_tag d port c < 1024
  buffer-low port c low less =
      let few = few-ports p sound in
      let some = some-links in
      let top = in_few p d port in
      let most = some.1 in
      facts.low-tag p n sound inside d there port c (omega (arith, few, low)) (omega (arith, top, most, less))

  -- bit k of the fronts, for a net of this rank
  fronts-is : (t : Name) (h r k : ℕ) → Wire lines t h r → 2048 * 1024 < r → k ≤ (leaf_sizes p).wh → Is lines (May lines t) (front_bits p n leaf_names d k) (high p d + 1) 3
  fronts-is t h r k x far le =
      place-bits-is (May lines t) (λ port c. bit (leaf_names.buffer d port c).front k) 1 (omega arith)
      (λ port c low has less. let b = facts.buffer p n sound inside d there port c low has less in let tag = buffer-low port c low less in
      bit-is lines (May lines t) k b.front.its (by-rank lines t (leaf_names.buffer d port c).front r (2048 * buffer_tag d port c + 1) x b.front.at_rank (omega (arith, tag, far))) le)

  pub tails-good : GoodNets lines (tails_group p n leaf_names net_names (dest_bits p) d).nets
  tails-good =
      let t = facts.tails p n sound inside d there in
      net-next lines t (two-is lines (May lines (net_names.tails d)) And (deeper lines (May lines (net_names.tails d)) 3 (omega arith) (wire-in lines t (facts.filled p n sound inside d there) (omega arith)))
      (fronts-is (net_names.tails d) (high p d) (at d 0 0 + 1 + 1) (32 + dest_bits p) t (omega arith) (omega arith))) (omega arith) (nets-nil lines)

  -- ---- allocation

  module _ (o : ℕ) (low : o < ports p) (has : has_port p n d o ≡ true) where
    few-o : o < 8
    few-o = facts.few-o p n sound inside d there o low

    pub led-good : GoodNets lines (led_group p n leaf_names net_names (dest_bits p) d o).nets
    led-good =
        let t = facts.led p n sound inside d there o low has in
        let P = May lines (leaf_names.alloc d o).led in
        net-next lines t (two-is lines P And (deeper lines P 4 (omega arith) (reg-in lines (leaf_names.alloc d o).led (facts.idle p n sound inside d there)))
        (two-is lines P And (deeper lines P 3 (omega arith) (wire-in lines t (facts.filled p n sound inside d there) (omega arith)))
        (fronts-is (leaf_names.alloc d o).led (high p d) (at d 1 o + 0 + 1) (34 + dest_bits p + o) t (omega arith) (few-front o low)))) (omega arith) (nets-nil lines)

    few-last : (alloc_size p d o).last ≤ 1
    few-last = facts.few-last p n sound inside d there o low has

    few-size : (alloc_size p d o).size ≤ 3
    few-size = facts.few-size p n sound inside d there o low has

    class-part : (c : ℕ) → c < (alloc_size p d o).last + 1 → class_start (alloc_size p d o) c + (alloc_size p d o).size ≤ out_count (alloc_size p d o) - 1
    class-part c less = let all = class-inside (alloc_size p d o) c (omega arith) in omega (arith, all)

    free-is : (c : ℕ) → c < (alloc_size p d o).last + 1 → Is lines (May lines ((leaf_names.alloc d o).free c)) (not (part (leaf_names.alloc d o).held (class_start (alloc_size p d o) c + (alloc_size p d o).size) (class_start (alloc_size p d o) c))) ((alloc_size p d o).size + 1) 2
    free-is c less =
        let held = facts.held p n sound inside d there o low has in
        not-is lines (May lines ((leaf_names.alloc d o).free c)) (part-is lines (May lines ((leaf_names.alloc d o).free c)) (class_start (alloc_size p d o) c + (alloc_size p d o).size) (class_start (alloc_size p d o) c) ((alloc_size p d o).size + 1) held
        (by-register lines ((leaf_names.alloc d o).free c) held) (omega arith) (class-part c less) (omega arith))

    few-outs : (1 ≤ out_count (alloc_size p d o)) × (out_count (alloc_size p d o) ≤ 8)
    few-outs = facts.few-outs p n sound inside d there o

    number-of : (P : Name → Type 0) (c : ℕ) → Is lines P (class_number p d n o (alloc_size p d o) c) (high p d + 1) 1
    number-of P c = let few = few-high in number-is lines P (high p d + 1) (mask (high p d + 1) (in_class p d n o c)) (omega arith) (omega (arith, few)) (mask-lt (high p d + 1) (in_class p d n o c))

    -- what is chosen from, and the winner
    choice-good : GoodNets lines (rotate_group (leaf_names.alloc d o).choice (high p d)).nets
    choice-good =
        let q = facts.request p n sound inside d there o low has in
        let s = facts.some p n sound inside d there o low has in
        let v = facts.winner p n sound inside d there o low has in
        let pt = facts.pointer p n sound inside d there o low has in
        net-next lines s (some-is lines (May lines (leaf_names.alloc d o).choice.some) q.its (by-rank lines
        (leaf_names.alloc d o).choice.some (leaf_names.alloc d o).choice.request (at d 1 o + 6 + 1)
        (at d 1 o + 5 + 1) s q.at_rank (omega arith)) pt (by-register lines
        (leaf_names.alloc d o).choice.some pt)) (omega arith)
        (net-next lines v (least-is lines (May lines (leaf_names.alloc d o).choice.winner) s.its (by-rank lines
        (leaf_names.alloc d o).choice.winner (leaf_names.alloc d o).choice.some (at d 1 o + 7 + 1)
        (at d 1 o + 6 + 1) v s.at_rank (omega arith))) (omega arith) (nets-nil lines))

    -- one channel
    module _ (one : has_one (alloc_size p d o) ≡ true) where
      one-bit : out_count (alloc_size p d o) - 1 + 1 ≡ 1
      one-bit = let e : out_count (alloc_size p d o) ≡ 1 = grind (arith, nat_tests, one) in omega (arith, e)

      lone-good : GoodNets lines (lone_requests (leaf_names.alloc d o) (alloc_size p d o))
      lone-good =
          let P = May lines (leaf_names.alloc d o).choice.request in
          let few = few-high in
          net-next lines (facts.request p n sound inside d there o low has)
          (choose-is lines P (wide-as lines P one-bit (reg-in lines (leaf_names.alloc d o).choice.request
          (facts.held p n sound inside d there o low has)))
          (number-is lines P (high p d + 1) 0 (omega arith) (omega (arith, few)) (pow-pos (high p d + 1)))
          (reg-in lines (leaf_names.alloc d o).choice.request (facts.waiting p n sound inside d there o low has)))
          (omega arith) choice-good

    -- more channels than one
    module _ (more : has_one (alloc_size p d o) ≡ false) where
      class-good : (c : ℕ) → c < (alloc_size p d o).last + 1 → GoodNets lines (class_nets (leaf_names.alloc d o) (alloc_size p d o) c)
      class-good c less =
          let f = facts.free p n sound inside d there o low has more c less in
          let l = facts.least p n sound inside d there o low has more c less in
          net-next lines f (free-is c less) (omega arith)
          (net-next lines l (least-is lines (May lines ((leaf_names.alloc d o).least c)) f.its (by-rank lines ((leaf_names.alloc d o).least c) ((leaf_names.alloc d o).free c) (at d 1 o + (2 + 2 * c) + 1) (at d 1 o + (1 + 2 * c) + 1) l f.at_rank (omega arith))) (omega arith) (nets-nil lines))

      request-is : Is lines (May lines (leaf_names.alloc d o).choice.request) (or_upto (alloc_size p d o).last (asks_class p d n o (leaf_names.alloc d o) (alloc_size p d o))) (high p d + 1) (3 + (alloc_size p d o).last)
      request-is =
          let P = May lines (leaf_names.alloc d o).choice.request in
          let t = facts.request p n sound inside d there o low has in
          let last = few-last in
          or-is lines P (alloc_size p d o).last (high p d + 1) 3 (λ c le.
          let f = facts.free p n sound inside d there o low has more c (omega arith) in
          choose-is lines P (empty-is lines P (alloc_size p d o).size (wire-in lines t f (omega (arith, last, le))) (omega arith))
          (deeper lines P 2 (omega arith) (let few = few-high in number-is lines P (high p d + 1) 0 (omega arith) (omega (arith, few)) (pow-pos (high p d + 1))))
          (two-is lines P And (reg-in lines (leaf_names.alloc d o).choice.request (facts.waiting p n sound inside d there o low has)) (number-of P c)))

      taken-good : (c : ℕ) → c < (alloc_size p d o).last + 1 → GoodNets lines (taken_nets p d n o (leaf_names.alloc d o) (alloc_size p d o) c)
      taken-good c less =
          let P = May lines ((leaf_names.alloc d o).taken c) in
          let t = facts.taken p n sound inside d there o low has more c less in
          let last = few-last in
          let small = few-size in
          net-next lines t
          (choose-is lines P (empty-is lines P (high p d) (two-is lines P And (wire-in lines t (facts.winner p n sound inside d there o low has) (omega arith)) (number-of P c)) (omega arith))
          (deeper lines P 3 (omega arith) (number-is lines P ((alloc_size p d o).size + 1) 0 (omega arith) (omega (arith, small)) (pow-pos ((alloc_size p d o).size + 1))))
          (deeper lines P 3 (omega arith) (wire-in lines t (facts.least p n sound inside d there o low has more c less) (omega (arith, last, less))))) (omega arith) (nets-nil lines)

      requests-good : GoodNets lines (class_requests p d n o (leaf_names.alloc d o) (alloc_size p d o))
      requests-good =
          let last = few-last in
          nets-join lines (nets-each lines ((alloc_size p d o).last + 1) class-good)
          (net-next lines (facts.request p n sound inside d there o low has) request-is (omega (arith, last))
          (nets-join lines choice-good (nets-each lines ((alloc_size p d o).last + 1) taken-good)))

      taken-are : (c : ℕ) → c ≤ (alloc_size p d o).last → Are lines (Any lines) (taken_parts (leaf_names.alloc d o) c) ((c + 1) * ((alloc_size p d o).size + 1)) 1
      taken-are zero le = subst (λ w. Are lines (Any lines) (taken_parts (leaf_names.alloc d o) 0) w 1) (omega arith) (next-are lines (Any lines) (net-is lines (Any lines) (facts.taken p n sound inside d there o low has more 0 (omega arith)).its tt) (none-are lines (Any lines) 1))
      taken-are (suc c) le =
          subst (λ w. Are lines (Any lines) (taken_parts (leaf_names.alloc d o) (suc c)) w 1) (let e : (alloc_size p d o).size + 1 + (c + 1) * ((alloc_size p d o).size + 1) ≡ (suc c + 1) * ((alloc_size p d o).size + 1) = omega arith in e)
          (next-are lines (Any lines) (net-is lines (Any lines) (facts.taken p n sound inside d there o low has more (suc c) (omega arith)).its tt) (taken-are c (omega arith)))

      taken-row : (c : ℕ) → c ≡ (alloc_size p d o).last → Is lines (Any lines) (cat (taken_parts (leaf_names.alloc d o) c)) (out_count (alloc_size p d o) - 1 + 1) 2
      taken-row zero e = let outs = few-outs in let low_outs = outs.0 in let top = outs.1 in wide-as lines (Any lines) (let same : (0 + 1) * ((alloc_size p d o).size + 1) ≡ out_count (alloc_size p d o) - 1 + 1 = ap (λ c. (c + 1) * ((alloc_size p d o).size + 1)) e ∙ omega (arith, low_outs) in same) (cat-is lines (Any lines) (taken-are 0 (omega (arith, e))) (omega arith) (let small = few-size in omega (arith, small)))
      taken-row (suc c) e =
          let outs = few-outs in let low_outs = outs.0 in let top = outs.1 in
          let same : (suc c + 1) * ((alloc_size p d o).size + 1) ≡ out_count (alloc_size p d o) - 1 + 1 = ap (λ c. (c + 1) * ((alloc_size p d o).size + 1)) e ∙ omega (arith, low_outs) in
          wide-as lines (Any lines) same (cat-is lines (Any lines) (taken-are (suc c) (omega (arith, e))) (omega (arith, same)) (omega (arith, same, top)))

    pub alloc-good : GoodNets lines (alloc_group p d n o (leaf_names.alloc d o) (alloc_size p d o)).nets
    alloc-good = nets-if lines (has_one (alloc_size p d o)) lone-good requests-good

    pub alloc-heads-good : Good lines (alloc_group p d n o (leaf_names.alloc d o) (alloc_size p d o)).heads
    alloc-heads-good =
        reg-next lines (facts.waiting p n sound inside d there o low has) (reg-next lines (facts.held p n sound inside d there o low has) (reg-next lines (facts.pointer p n sound inside d there o low has)
        (good-each lines (out_count (alloc_size p d o)) (λ w less. reg-next lines (facts.active p n sound inside d there o low has w less) (good-nil lines)))))

    -- the moves

    taken-channels-is : Is lines (Any lines) (taken_channels (leaf_names.alloc d o) (alloc_size p d o)) (out_count
        (alloc_size p d o) - 1 + 1) 3
    taken-channels-is = if-is lines (Any lines) (has_one (alloc_size p d o))
        (λ one. wide-as lines (Any lines) (sym (one-bit one)) (not-is lines (Any lines) (empty-is lines (Any lines)
        (high p d) (net-is lines (Any lines) (facts.winner p n sound inside d there o low has).its tt)
        (omega arith))))
        (λ more. deeper lines (Any lines) 3 (omega arith) (taken-row more (alloc_size p d o).last refl))

    becomes-is : (c j : ℕ) → c < (alloc_size p d o).last + 1 → j < (alloc_size p d o).size + 1 → Is lines (Any lines)
        (becomes_active (leaf_names.alloc d o) (alloc_size p d o) c j) (high p d + 1) 2
    becomes-is c j less below =
        let winner = net-is lines (Any lines) (facts.winner p n sound inside d there o low has).its tt in
        let few = few-high in
        if-is lines (Any lines) (has_one (alloc_size p d o)) (λ one. deeper lines (Any lines) 2 (omega arith) winner)
        (λ more. choose-is lines (Any lines) (bit-is lines (Any lines) j
        (facts.taken p n sound inside d there o low has more c less).its tt (omega arith)) winner
        (number-is lines (Any lines) (high p d + 1) 0 (omega arith) (omega (arith, few)) (pow-pos (high p d + 1))))

    active-good : (c j : ℕ) → c < (alloc_size p d o).last + 1 → j < (alloc_size p d o).size + 1 → Good lines (active_move (leaf_names.alloc d o) (alloc_size p d o) c j)
    active-good c j less below =
        let all = class-inside (alloc_size p d o) c (omega arith) in
        let m = facts.active p n sound inside d there o low has (class_start (alloc_size p d o) c + j) (omega (arith, all, below)) in
        clocked-next lines m
        (two-is lines (Any lines) Or (deeper lines (Any lines) 3 (omega arith) (two-is lines (Any lines) And (deeper lines (Any lines) 2 (omega arith) (net-is lines (Any lines) m tt)) (not-is lines (Any lines) (net-is lines (Any lines) (facts.ends p n sound inside d there).its tt))))
        (deeper lines (Any lines) 3 (omega arith) (becomes-is c j less below)))
        (omega arith) refl (pow-pos (high p d + 1)) (good-nil lines)

    pub alloc-moves-good : Good lines (alloc_group p d n o (leaf_names.alloc d o) (alloc_size p d o)).moves
    alloc-moves-good =
        let w = facts.waiting p n sound inside d there o low has in
        let held = facts.held p n sound inside d there o low has in
        let v = facts.winner p n sound inside d there o low has in
        let freed = facts.freed p n sound inside d there o low has in
        let outs = few-outs in let low_outs = outs.0 in
        clocked-next lines w (two-is lines (Any lines) Or (two-is lines (Any lines) And (deeper lines (Any lines) 2 (omega arith) (net-is lines (Any lines) w tt)) (not-is lines (Any lines) (net-is lines (Any lines) v.its tt))) (deeper lines (Any lines) 3 (omega arith) (net-is lines (Any lines) (facts.led p n sound inside d there o low has).its tt)))
        (omega arith) refl (pow-pos (high p d + 1))
        (clocked-next lines held (two-is lines (Any lines) Or (two-is lines (Any lines) And (deeper lines
        (Any lines) 2 (omega arith) (net-is lines (Any lines) held tt)) (not-is lines (Any lines) (net-is lines
        (Any lines) freed.its tt))) taken-channels-is)
        (omega arith) (omega (arith, low_outs)) (pow-pos (out_count (alloc_size p d o)))
        (good-join lines (pointer-good lines (facts.pointer p n sound inside d there o low has) v.its)
        (good-each lines ((alloc_size p d o).last + 1) (λ c less. good-each lines ((alloc_size p d o).size + 1) (λ j below. active-good c j less below)))))
