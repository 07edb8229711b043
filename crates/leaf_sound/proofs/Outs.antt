-- The output ports of a leaf are driven once each, by groups that declare nothing.
use Rattle.std.proofs.Common.{◌≡◌, ℕ, zero, suc, ◌+◌, ◌-◌, ◌*◌, ◌^◌, ◌<◌, ◌≤◌, inl, inr, Bool, true, false, ◌||◌, List, [], ◌∷◌, ◌++◌, map, length, refl, sym, ◌∙◌, ap, subst, arith, flat_map, filter, Option, Some, None, if◌then◌else◌, ◌==◌, nat_lt, min, codes, slice_index_or, is_some}
use Rattle.std.specs.List.{AllByRecursion, list_any}
use Rattle.std.proofs.lemmas.Bool.Decides.{nat_tests}
use Rattle.vl_tree.specs.declared.tree.Port.{Port}
use Rattle.vl_tree.specs.Values.{Name, Item}
use Rattle.vl_model.specs.Meaning.{one_if}
use Rattle.vl_model.proofs.Together.{all-join}
use Rattle.vl_model.proofs.Settling.{itself}
use Rattle.noc_model.specs.declared.Host.{Host}
use Rattle.noc_model.specs.Plan.{Plan, ports, tiles, hosts, is_host}
use Rattle.noc_model.specs.Place.{neighbour, opposite}
use Rattle.noc_model.specs.Sound.{IsSound}
use Rattle.noc_model.specs.Events.{tabulate}
use Rattle.flit_word.specs.Words.{dest_bits}
use Rattle.gen_kit.specs.Groups.{Group}
use Rattle.gen_kit.specs.Ports.{host_ports, name_with}
use Rattle.gen_kit.specs.Shape.{Tied, host_ties, link_ties, second_ties, tile_head, credit_bits}
use Rattle.leaf_tie.specs.Outs.{link_out_group, local_out_group}
use Rattle.leaf_tie.specs.Whole.{each_group}
use Rattle.leaf_tie.specs.Names.{leaf_names, net_names, out_names, leaf_sizes, credit_bundle, link_outs, out_groups}
use Rattle.leaf_tie.proofs.Members.{Member, in-front, in-back, in-each, in-then}
use Rattle.leaf_sound.proofs.Keyed.{rank, two-rank, three-rank}
use Rattle.leaf_sound.proofs.Rising.{flat-append, Rises, nothing, assign-next, GroupsRise, no-groups, groups-join, group-next, groups-wider, groups-each, groups-if}
use Rattle.leaf_sound.proofs.Nets.{its_nets}
use Rattle.leaf_sound.proofs.Evened.{driven, driven-append}

-- where the ranks of output ports begin
abbrev pub out_start : ℕ
out_start = 16777216

abbrev link_at : ℕ → ℕ
link_at q = out_start + 32 * q

abbrev local_at : ℕ → ℕ
local_at d = out_start + 4096 + 32 * d

-- a group drives no more than the list in which it stands
pub member-drives : (x : Name) (g : Group) (gs : List Group) → Member g gs → driven x g.nets ≤ driven x (flat_map its_nets gs)
member-drives x g [] m = absurd m
member-drives x g (y ∷ ys) (inl e) = let split = driven-append x y.nets (flat_map its_nets ys) in let same : driven x y.nets ≡ driven x g.nets = ap (λ (z : Group). driven x z.nets) e in omega (arith, split, same)
member-drives x g (y ∷ ys) (inr m) = let split = driven-append x y.nets (flat_map its_nets ys) in let rest = member-drives x g ys m in omega (arith, split, rest)

pub map-append : (a b : List Tied) → map (λ (t : Tied). t.port) (a ++ b) ≡ map (λ (t : Tied). t.port) a ++ map (λ (t : Tied). t.port) b
map-append [] b = refl
map-append (t ∷ a) b = ap (λ z. t.port ∷ z) (map-append a b)

module _ (p : Plan) (n : ℕ) (sound : IsSound p) (inside : n < tiles p) where
  small : n < 2 ^ 64
  small = let most = sound.tile_count in omega (arith, most)

  few-domains : length p.domains ≤ 16
  few-domains = sound.domains.1

  few-ports : ports p ≤ 7
  few-ports = let most = sound.dims.1 in omega (arith, most)

  -- ---- each once

  link-rises : (q : ℕ) → q < 8 → GroupsRise its_nets (link_at q) (link_at (suc q)) (link_outs p n q)
  link-rises q less =
      let low : q < 2 ^ 64 = omega arith in
      group-next its_nets (link_at q) (link_at q + 14) (link_at (suc q)) (assign-next (link_at q) (out_start + (32 * q + 13)) (link_at q + 14) (link_at q + 14) (two-rank 108 111 n q refl small low) (omega arith) (omega arith) (nothing (link_at q + 14) (link_at q + 14) (omega arith)))
      (group-next its_nets (link_at q + 14) (link_at q + 16) (link_at (suc q)) (assign-next (link_at q + 14) (out_start + (32 * q + 15)) (link_at q + 16) (link_at q + 16) (two-rank 99 111 n q refl small low) (omega arith) (omega arith) (nothing (link_at q + 16) (link_at q + 16) (omega arith)))
      (groups-if its_nets (link_at q + 16) (link_at (suc q)) (nat_lt 64 (credit_bits p))
      (λ two. group-next its_nets (link_at q + 16) (link_at (suc q)) (link_at (suc q)) (assign-next (link_at q + 16) (out_start + (32 * q + 17)) (link_at (suc q)) (link_at (suc q)) (three-rank 99 111 n q refl small low) (omega arith) (omega arith) (nothing (link_at (suc q)) (link_at (suc q)) (omega arith)))
      (no-groups its_nets (link_at (suc q)) (link_at (suc q)) (omega arith)))
      (λ one. no-groups its_nets (link_at q + 16) (link_at (suc q)) (omega arith))))

  local-rises : (d : ℕ) → d < 16 → Rises (local_at d) (local_at (suc d)) (local_out_group p leaf_names net_names (out_names n) (leaf_sizes p) (dest_bits p) d).nets
  local-rises d less =
      let low : d < 2 ^ 64 = omega arith in
      assign-next (local_at d) (out_start + (4096 + (32 * d + 8))) (local_at d + 9) (local_at (suc d)) (two-rank 101 118 n d refl small low) (omega arith) (omega arith)
      (assign-next (local_at d + 9) (out_start + (4096 + (32 * d + 9))) (local_at d + 10) (local_at (suc d)) (two-rank 101 104 n d refl small low) (omega arith) (omega arith)
      (assign-next (local_at d + 10) (out_start + (4096 + (32 * d + 10))) (local_at d + 11) (local_at (suc d)) (two-rank 101 116 n d refl small low) (omega arith) (omega arith)
      (assign-next (local_at d + 11) (out_start + (4096 + (32 * d + 11))) (local_at d + 12) (local_at (suc d)) (two-rank 101 112 n d refl small low) (omega arith) (omega arith)
      (assign-next (local_at d + 12) (out_start + (4096 + (32 * d + 12))) (local_at d + 13) (local_at (suc d)) (two-rank 100 114 n d refl small low) (omega arith) (omega arith)
      (assign-next (local_at d + 13) (out_start + (4096 + (32 * d + 13))) (local_at (suc d)) (local_at (suc d)) (two-rank 114 100 n d refl small low) (omega arith) (omega arith)
      (nothing (local_at (suc d)) (local_at (suc d)) (omega arith)))))))

  pub outs-rise : GroupsRise its_nets out_start (out_start + 8192) (out_groups p n)
  outs-rise =
      groups-join its_nets out_start (out_start + 4096) (out_start + 8192)
      (let few = few-ports in
      groups-wider its_nets out_start (link_at 0) (link_at (ports p)) (out_start + 4096) (omega arith) (omega (arith, few))
      (groups-each its_nets link_at (ports p) (λ q less. groups-if its_nets (link_at q) (link_at (suc q)) (is_some (neighbour p n q)) (λ there. link-rises q (omega (arith, few, less))) (λ absent. no-groups its_nets (link_at q) (link_at (suc q)) (omega arith)))))
      (let few = few-domains in
      groups-wider its_nets (out_start + 4096) (local_at 0) (local_at (length p.domains)) (out_start + 8192) (omega arith) (omega (arith, few))
      (groups-each its_nets local_at (length p.domains) (λ d less. groups-if its_nets (local_at d) (local_at (suc d)) (hosts p n d)
      (λ there. group-next its_nets (local_at d) (local_at (suc d)) (local_at (suc d)) (local-rises d (omega (arith, few, less))) (no-groups its_nets (local_at (suc d)) (local_at (suc d)) (omega arith)))
      (λ away. no-groups its_nets (local_at d) (local_at (suc d)) (omega arith)))))

  -- ---- what holds of all ports

  pub ports-all : (P : Port → Type 0) → ((h : Host) → h.tile ≡ n → h.domain < length p.domains → hosts p n h.domain ≡ true → AllByRecursion P (host_ports h))
      → ((q m : ℕ) → q < ports p → neighbour p n q ≡ Some m → AllByRecursion P (map (λ (t : Tied). t.port) (link_ties p n q (Some m)))) → AllByRecursion P (tile_head p n).ports
  ports-all P local linked =
      subst (AllByRecursion P) (sym (map-append (flat_map host_ties (filter (λ (h : Host). h.tile == n) p.hosts)) (flat_map (λ q. link_ties p n q (neighbour p n q)) (tabulate (ports p) (λ q. q)))))
      (all-join P (map (λ (t : Tied). t.port) (flat_map host_ties (filter (λ (h : Host). h.tile == n) p.hosts))) (map (λ (t : Tied). t.port) (flat_map (λ q. link_ties p n q (neighbour p n q)) (tabulate (ports p) (λ q. q))))
      (locals p.hosts (λ k d less. (sound.hosts k d less).1) (λ k d less same. found p.hosts k d less same))
      (links (ports p) 0 (λ q. q) (λ i. omega arith) (omega arith)))
    where
      found : (hs : List Host) (k : ℕ) (d : Host) → k < length hs → (slice_index_or hs k d).tile ≡ n → list_any (is_host n (slice_index_or hs k d).domain) hs ≡ true
      found [] k d less same = absurd (omega arith)
      found (h ∷ hs) zero d less same = (let a : (h.tile == n) ≡ true = grind (arith, nat_tests, same) in let b : (h.domain == h.domain) ≡ true = grind (arith, nat_tests) in rw (a, b) refl)
      found (h ∷ hs) (suc k) d less same = or-last (is_host n (slice_index_or hs k d).domain h) (list_any (is_host n (slice_index_or hs k d).domain) hs) (found hs k d (omega arith) same)
        where
          or-last : (a b : Bool) → b ≡ true → (a || b) ≡ true
          or-last true b e = refl
          or-last false b e = e

      locals : (hs : List Host) → ((k : ℕ) (d : Host) → k < length hs → (slice_index_or hs k d).domain < length p.domains) → ((k : ℕ) (d : Host) → k < length hs → (slice_index_or hs k d).tile ≡ n → hosts p n (slice_index_or hs k d).domain ≡ true)
          → AllByRecursion P (map (λ (t : Tied). t.port) (flat_map host_ties (filter (λ (h : Host). h.tile == n) hs)))
      locals [] few there = tt
      locals (h ∷ hs) few there = go (locals hs (λ k d less. few (suc k) d (omega arith)) (λ k d less same. there (suc k) d (omega arith) same)) (h.tile == n) refl
        where
          go : AllByRecursion P (map (λ (t : Tied). t.port) (flat_map host_ties (filter (λ (h : Host). h.tile == n) hs))) → (b : Bool) → (h.tile == n) ≡ b
              → AllByRecursion P (map (λ (t : Tied). t.port) (flat_map host_ties (if b then h ∷ filter (λ (h : Host). h.tile == n) hs else filter (λ (h : Host). h.tile == n) hs)))
          go rest true e =
              let is : h.tile ≡ n = grind (arith, nat_tests, e) in
              all-join P (host_ports h) (map (λ (t : Tied). t.port) (flat_map host_ties (filter (λ (h : Host). h.tile == n) hs))) (local h is (few 0 h (omega arith)) (there 0 h (omega arith) is)) rest
          go rest false e = rest

      links : (k first : ℕ) (f : ℕ → ℕ) → ((i : ℕ) → f i ≡ first + i) → k + first ≤ ports p → AllByRecursion P (map (λ (t : Tied). t.port) (flat_map (λ q. link_ties p n q (neighbour p n q)) (tabulate k f)))
      links zero first f is le = tt
      links (suc k) first f is le =
          let at : f 0 ≡ first = is 0 ∙ omega arith in
          subst (AllByRecursion P) (sym (map-append (link_ties p n (f 0) (neighbour p n (f 0))) (flat_map (λ q. link_ties p n q (neighbour p n q)) (tabulate k (λ i. f (suc i))))))
          (all-join P (map (λ (t : Tied). t.port) (link_ties p n (f 0) (neighbour p n (f 0)))) (map (λ (t : Tied). t.port) (flat_map (λ q. link_ties p n q (neighbour p n q)) (tabulate k (λ i. f (suc i)))))
          (one (neighbour p n (f 0)) refl) (links k (suc first) (λ i. f (suc i)) (λ i. is (suc i) ∙ omega arith) (omega arith)))
        where
          one : (m : Option ℕ) → neighbour p n (f 0) ≡ m → AllByRecursion P (map (λ (t : Tied). t.port) (link_ties p n (f 0) m))
          one None e = tt
          one (Some m) e = linked (f 0) m (let at : f 0 ≡ first = is 0 ∙ omega arith in omega (arith, at)) e

  -- ---- an input port has rank 0, an output port is driven

  pub record PortDriven (q : Port) : Type 0 where
    pub input : q.output ≡ false → rank q.name ≡ 0
    pub high : q.output ≡ true → out_start ≤ rank q.name
    pub output : q.output ≡ true → 1 ≤ driven q.name (flat_map its_nets (out_groups p n))

  pub local-member : (d : ℕ) → d < length p.domains → hosts p n d ≡ true → Member (local_out_group p leaf_names net_names (out_names n) (leaf_sizes p) (dest_bits p) d) (out_groups p n)
  local-member d less there =
      in-back (local_out_group p leaf_names net_names (out_names n) (leaf_sizes p) (dest_bits p) d) (each_group (ports p) (λ o. if is_some (neighbour p n o) then link_outs p n o else [])) _
      (in-each (local_out_group p leaf_names net_names (out_names n) (leaf_sizes p) (dest_bits p) d) (length p.domains) (λ d. if hosts p n d then local_out_group p leaf_names net_names (out_names n) (leaf_sizes p) (dest_bits p) d ∷ [] else []) d less
      (in-then (local_out_group p leaf_names net_names (out_names n) (leaf_sizes p) (dest_bits p) d) (hosts p n d) (local_out_group p leaf_names net_names (out_names n) (leaf_sizes p) (dest_bits p) d ∷ []) [] there (inl refl)))

  pub link-member : (g : Group) (q : ℕ) → q < ports p → is_some (neighbour p n q) ≡ true → Member g (link_outs p n q) → Member g (out_groups p n)
  link-member g q less there m =
      in-front g (each_group (ports p) (λ o. if is_some (neighbour p n o) then link_outs p n o else [])) _
      (in-each g (ports p) (λ o. if is_some (neighbour p n o) then link_outs p n o else []) q less (in-then g (is_some (neighbour p n q)) (link_outs p n q) [] there m))

  -- ---- each port

  input-driven : {q : Port} → q.output ≡ false → rank q.name ≡ 0 → PortDriven q
  input-driven {q} is none = record { input = λ e. none; high = λ e. absurd (cc (sym is ∙ e)); output = λ e. absurd (cc (sym is ∙ e)) }

  output-driven : {q : Port} → q.output ≡ true → out_start ≤ rank q.name → 1 ≤ driven q.name (flat_map its_nets (out_groups p n)) → PortDriven q
  output-driven {q} is more some = record { input = λ e. absurd (cc (sym is ∙ e)); high = λ e. more; output = λ e. some }

  by-local : (d : ℕ) (x : Name) → d < length p.domains → hosts p n d ≡ true → 1 ≤ driven x (local_out_group p leaf_names net_names (out_names n) (leaf_sizes p) (dest_bits p) d).nets → 1 ≤ driven x (flat_map its_nets (out_groups p n))
  by-local d x less there some = let all = member-drives x (local_out_group p leaf_names net_names (out_names n) (leaf_sizes p) (dest_bits p) d) (out_groups p n) (local-member d less there) in omega (arith, all, some)

  host-driven : (d : ℕ) → d < length p.domains → hosts p n d ≡ true → AllByRecursion PortDriven (host_ports (record { tile = n; domain = d }))
  host-driven d less there =
      let few = few-domains in
      let low : d < 2 ^ 64 = omega (arith, few, less) in
      let ready = two-rank 114 100 n d refl small low in
      let drop = two-rank 100 114 n d refl small low in
      let valid = two-rank 101 118 n d refl small low in
      let head = two-rank 101 104 n d refl small low in
      let tail = two-rank 101 116 n d refl small low in
      let payload = two-rank 101 112 n d refl small low in (
        input-driven refl (two-rank 111 118 n d refl small low),
        (
          input-driven refl (two-rank 111 97 n d refl small low),
          (
            input-driven refl (two-rank 111 112 n d refl small low),
            (
              input-driven refl (two-rank 111 108 n d refl small low),
              (
                input-driven refl (two-rank 104 114 n d refl small low),
                (
                  output-driven refl (omega (arith, ready)) (by-local d ((out_names n).ready d) less there (let one = ap one_if (itself ((out_names n).ready d)) in omega (arith, one))),
                  (
                    output-driven refl (omega (arith, drop)) (by-local d ((out_names n).drop d) less there (let one = ap one_if (itself ((out_names n).drop d)) in omega (arith, one))),
                    (
                      output-driven refl (omega (arith, valid)) (by-local d ((out_names n).valid d) less there (let one = ap one_if (itself ((out_names n).valid d)) in omega (arith, one))),
                      (
                        output-driven refl (omega (arith, head)) (by-local d ((out_names n).head d) less there (let one = ap one_if (itself ((out_names n).head d)) in omega (arith, one))),
                        (
                          output-driven refl (omega (arith, tail)) (by-local d ((out_names n).tail d) less there (let one = ap one_if (itself ((out_names n).tail d)) in omega (arith, one))),
                          (
                            output-driven refl (omega (arith, payload)) (by-local d ((out_names n).payload d) less there (let one = ap one_if (itself ((out_names n).payload d)) in omega (arith, one))),
                            tt,
                          ),
                        ),
                      ),
                    ),
                  ),
                ),
              ),
            ),
          ),
        ),
      )

  by-link : (g : Group) (q : ℕ) (x : Name) → q < ports p → is_some (neighbour p n q) ≡ true → Member g (link_outs p n q) → 1 ≤ driven x g.nets → 1 ≤ driven x (flat_map its_nets (out_groups p n))
  by-link g q x less there m some = let all = member-drives x g (out_groups p n) (link-member g q less there m) in omega (arith, all, some)

  link-driven : (q m : ℕ) → q < ports p → neighbour p n q ≡ Some m → AllByRecursion PortDriven (map (λ (t : Tied). t.port) (link_ties p n q (Some m)))
  link-driven q m less e =
      let few = few-ports in
      let low : q < 2 ^ 64 = omega (arith, few, less) in
      let word = two-rank 108 111 n q refl small low in
      let credits = two-rank 99 111 n q refl small low in
      let there : is_some (neighbour p n q) ≡ true = ap is_some e in (
        input-driven refl (two-rank 108 105 n q refl small low),
        (
          output-driven refl (omega (arith, word)) (by-link (link_out_group p leaf_names (out_names n) q) q ((out_names n).link_out q) less there (inl refl) (let one = ap one_if (itself ((out_names n).link_out q)) in omega (arith, one))),
          (
            input-driven refl (two-rank 99 105 n q refl small low),
            (
              output-driven refl (omega (arith, credits)) (by-link (credit_bundle p n q 0 (min (credit_bits p) 64)) q (name_with (codes "co") (n ∷ q ∷ [])) less there (inr (inl refl)) (let one = ap one_if (itself (name_with (codes "co") (n ∷ q ∷ []))) in omega (arith, one))),
              rest (nat_lt 64 (credit_bits p)) refl,
            ),
          ),
        ),
      )
    where
      rest : (b : Bool) → nat_lt 64 (credit_bits p) ≡ b → AllByRecursion PortDriven (map (λ (t : Tied). t.port) (if b then second_ties p n q m (opposite q) else []))
      rest false one = tt
      rest true two =
          let few = few-ports in
          let low : q < 2 ^ 64 = omega (arith, few, less) in
          let credits = three-rank 99 111 n q refl small low in (
            input-driven refl (three-rank 99 105 n q refl small low),
            (
              output-driven refl (omega (arith, credits)) (by-link (credit_bundle p n q 64 (credit_bits p - 64)) q (name_with (codes "co") (n ∷ q ∷ 1 ∷ [])) less (ap is_some e)
                  (inr (inr (in-then (credit_bundle p n q 64 (credit_bits p - 64)) (nat_lt 64 (credit_bits p)) (credit_bundle p n q 64 (credit_bits p - 64) ∷ []) [] two (inl refl)))) (let one = ap one_if (itself (name_with (codes "co") (n ∷ q ∷ 1 ∷ []))) in omega (arith, one))),
              tt,
            ),
          )

  pub all-driven : AllByRecursion PortDriven (tile_head p n).ports
  all-driven = ports-all PortDriven (λ h is less there. at h is less there) link-driven
    where
      at : (h : Host) → h.tile ≡ n → h.domain < length p.domains → hosts p n h.domain ≡ true → AllByRecursion PortDriven (host_ports h)
      at h is less there = subst (λ t. AllByRecursion PortDriven (host_ports (record { tile = t; domain = h.domain }))) (sym is) (host-driven h.domain less there)

  -- ---- nothing else is in these groups

  bare-each : (part : Group → List Item) (k : ℕ) (f : ℕ → List Group) → ((i : ℕ) → flat_map part (f i) ≡ []) → flat_map part (each_group k f) ≡ []
  bare-each part zero f h = refl
  bare-each part (suc k) f h = flat-append part (each_group k f) (f k) ∙ ap (λ z. z ++ flat_map part (f k)) (bare-each part k f h) ∙ h k

  bare-if : (part : Group → List Item) (b : Bool) (xs : List Group) → flat_map part xs ≡ [] → flat_map part (if b then xs else []) ≡ []
  bare-if part true xs e = e
  bare-if part false xs e = refl

  bare-outs : (part : Group → List Item) → ((q : ℕ) → part (link_out_group p leaf_names (out_names n) q) ≡ []) → ((q first count : ℕ) → part (credit_bundle p n q first count) ≡ [])
      → ((d : ℕ) → part (local_out_group p leaf_names net_names (out_names n) (leaf_sizes p) (dest_bits p) d) ≡ []) → flat_map part (out_groups p n) ≡ []
  bare-outs part words credits locals =
      flat-append part (each_group (ports p) (λ o. if is_some (neighbour p n o) then link_outs p n o else [])) (each_group (length p.domains) (λ d. if hosts p n d then local_out_group p leaf_names net_names (out_names n) (leaf_sizes p) (dest_bits p) d ∷ [] else []))
      ∙ ap (λ z. z ++ flat_map part (each_group (length p.domains) (λ d. if hosts p n d then local_out_group p leaf_names net_names (out_names n) (leaf_sizes p) (dest_bits p) d ∷ [] else [])))
      (bare-each part (ports p) (λ o. if is_some (neighbour p n o) then link_outs p n o else []) (λ q. bare-if part (is_some (neighbour p n q)) (link_outs p n q)
      (rw (words q, credits q 0 (min (credit_bits p) 64)) (bare-if part (nat_lt 64 (credit_bits p)) (credit_bundle p n q 64 (credit_bits p - 64) ∷ []) (rw (credits q 64 (credit_bits p - 64)) refl)))))
      ∙ bare-each part (length p.domains) (λ d. if hosts p n d then local_out_group p leaf_names net_names (out_names n) (leaf_sizes p) (dest_bits p) d ∷ [] else []) (λ d. bare-if part (hosts p n d) (local_out_group p leaf_names net_names (out_names n) (leaf_sizes p) (dest_bits p) d ∷ []) (rw (locals d) refl))

  pub no-heads : flat_map (λ (g : Group). g.heads) (out_groups p n) ≡ []
  no-heads = bare-outs (λ (g : Group). g.heads) (λ q. refl) (λ q first count. refl) (λ d. refl)

  pub no-moves : flat_map (λ (g : Group). g.moves) (out_groups p n) ≡ []
  no-moves = bare-outs (λ (g : Group). g.moves) (λ q. refl) (λ q first count. refl) (λ d. refl)
