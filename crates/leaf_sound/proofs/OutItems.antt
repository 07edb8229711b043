-- The items that drive the output ports of a leaf are right: they read registers alone.
use Rattle.std.proofs.Common.{◌≡◌, ◌≢◌, ℕ, zero, suc, ◌+◌, ◌-◌, ◌*◌, ◌^◌, ◌<◌, ◌≤◌, ◌⊎◌, inl, inr, Bool, true, false, List, [], ◌∷◌, ◌++◌, length, refl, sym, ◌∙◌, ap, subst, arith, Option, Some, None, is_some, nat_lt, nat_le, min, codes, if◌then◌else◌, flat_map, slice_get, map}
use Rattle.std.specs.List.{AllByRecursion}
use Rattle.std.proofs.lemmas.Bool.Decides.{nat_tests}
use Rattle.vl_tree.specs.declared.tree.Op.TheVariants.{Or}
use Rattle.vl_tree.specs.Values.{Name, Expr, Item, net, bit, part, two, cat, assign}
use Rattle.vl_tree.specs.Tokens.{is_name}
use Rattle.vl_model.specs.declared.kind.Kind.TheVariants.{Output}
use Rattle.vl_model.specs.Lines.{Line, declared, lookup}
use Rattle.vl_model.specs.Lines as given_lines
use Rattle.vl_tree.specs.Values as given_items
use Rattle.vl_model.specs.Rules.{is_kind}
use Rattle.vl_model.proofs.Together.{all-join}
use Rattle.noc_model.specs.Plan.{Plan, tiles, ports, hosts, link_channels, classes}
use Rattle.noc_model.specs.Place.{neighbour, opposite}
use Rattle.noc_model.specs.Sound.{IsSound}
use Rattle.flit_word.specs.Words.{dest_bits, channel_bits, flit_bits, link_bits}
use Rattle.gen_kit.specs.Groups.{Group}
use Rattle.gen_kit.specs.Ports.{name_with, host_ports}
use Rattle.gen_kit.specs.Shape.{credit_bits, second_ties, link_ties, Tied}
use Rattle.leaf_tie.specs.Outs.{link_out_group, local_out_group}
use Rattle.leaf_tie.specs.Tie.{HasLink}
use Rattle.leaf_tie.specs.Whole.{each_group}
use Rattle.leaf_tie.specs.Names.{leaf_names, net_names, out_names, credit_base, credit_domain, credit_channel, credit_domain_below, leaf_sizes, credit_bundle, link_outs, out_groups}
use Rattle.leaf_sound.proofs.Inner.{few-links, few-ports}
use Rattle.leaf_sound.proofs.Typed.{Net, Is, net-is, bit-is, part-is, two-is, deeper, wide-as, row-is}
use Rattle.leaf_sound.proofs.Walk.{May, AssignIs}
use Rattle.leaf_sound.proofs.Domain as facts
use Rattle.leaf_sound.proofs.Domain.{ls, by-register}
use Rattle.leaf_sound.proofs.Facts.{LineFound, ports-found}
use Rattle.leaf_sound.proofs.Plainly.{pair-plain, triple-plain}
use Rattle.leaf_sound.proofs.Shared as shared
use Rattle.leaf_sound.proofs.Shared.{of-host, of-link}
use Rattle.leaf_sound.proofs.LinkItems as linked
use Rattle.leaf_sound.proofs.Items.{Backed, backed-join}
use Rattle.leaf_sound.proofs.Rising.{flat-append}

-- an assign to an output port, right among the lines
abbrev pub OutIs : List Line → Item → Type 0
OutIs ls (assign n e) = AssignIs ls n e × (is_kind given_lines.is_output ls n ≡ true)
OutIs ls (given_items.wire h n) = ⊥
OutIs ls (given_items.reg h n) = ⊥
OutIs ls (given_items.mem h n last) = ⊥
OutIs ls (given_items.clocked n k e) = ⊥
OutIs ls (given_items.store c n i e) = ⊥

-- ---- whose credit it is

credit-total : (p : Plan) → credit_base p (length p.domains) ≡ credit_bits p
credit-total p = linked.unfolding-sum p (length p.domains) ∙ linked.sum-all (classes p) p.domains

module _ (p : Plan) (r : ℕ) (low : r < credit_bits p) where
  credit-place : (k : ℕ) → 1 ≤ k → k ≤ length p.domains → r < credit_base p k → (credit_domain_below p k r < k) × (credit_base p (credit_domain_below p k r) ≤ r) × (r < credit_base p (suc (credit_domain_below p k r)))
  credit-place zero some le below = absurd (omega arith)
  credit-place (suc k) some le below = go (nat_le (credit_base p k) r) refl (λ h g. credit-place k h (omega arith) g)
    where
      go : (b : Bool) → nat_le (credit_base p k) r ≡ b
          → (1 ≤ k → r < credit_base p k → (credit_domain_below p k r < k) × (credit_base p (credit_domain_below p k r) ≤ r) × (r < credit_base p (suc (credit_domain_below p k r))))
          → ((if b then k else credit_domain_below p k r) < suc k) × (credit_base p (if b then k else credit_domain_below p k r) ≤ r) × (r < credit_base p (suc (if b then k else credit_domain_below p k r)))
      go true e more = (omega arith, (let le : credit_base p k ≤ r = grind (arith, nat_tests, e) in le), below)
      go false e more =
          let far : r < credit_base p k = grind (arith, nat_tests, e) in
          let rest = more (some-k k far) far in
          (let less = rest.0 in omega (arith, less), rest.1, rest.2)
        where
          some-k : (k : ℕ) → r < credit_base p k → 1 ≤ k
          some-k zero h = absurd (omega arith)
          some-k (suc k) h = omega arith

  pub credit-its : 1 ≤ length p.domains → (credit_domain p r < length p.domains) × (credit_channel p r < link_channels p (credit_domain p r))
  credit-its some =
      let total = credit-total p in
      let all = credit-place (length p.domains) some (omega arith) (omega (arith, total, low)) in
      let first = all.1 in let last = all.2 in
      (all.0, omega (arith, first, last))

min-facts : (c : ℕ) → 1 ≤ c → (1 ≤ min c 64) × (min c 64 ≤ 64) × (min c 64 ≤ c)
min-facts c some = (grind arith, grind arith, grind arith)

module _ (p : Plan) (n : ℕ) (sound : IsSound p) (inside : n < tiles p) where
  abbrev lines : List Line
  lines = ls p n sound inside

  small : n < 2 ^ 20
  small = let most = sound.tile_count in omega (arith, most)

  some-domain : 0 < length p.domains
  some-domain = let one = sound.domains.0 in omega (arith, one)

  some-credit : 1 ≤ credit_bits p
  some-credit =
      let some = (few-links p 0 sound some-domain).0 in
      let below = linked.credit-below p 0 0 (omega (arith, some)) in
      omega (arith, below)

  -- an assign to an output port
  out-is : {x : Name} {e : Expr} {h d : ℕ} → Net lines Output x h → Is lines (May lines x) e (h + 1) d → d ≤ 200 → OutIs lines (assign x e)
  out-is {x} {e} {h} {d} target value le = (record { h = h; kind = Output; target = target; is_its = refl; value = deeper lines (May lines x) 200 le value }, ap (given_lines.kind_passes given_lines.is_output) target.found)

  out-net : {x : Name} {h : ℕ} → lookup lines x ≡ Some (record { name = x; kind = Output; high = h; last = 0 }) → h < 64 → is_name x ≡ true → Net lines Output x h
  out-net found few plain = record { found = found; few = few; plain = plain; is_its = refl }

  -- ---- links

  module _ (q : ℕ) (link : HasLink p n q) where
    low-q : q < 2 ^ 64
    low-q = let few = few-ports p sound in let less = link.0 in omega (arith, few, less)

    link-ports : AllByRecursion (λ x. LineFound lines (declared (given_lines.port x))) (map (λ (t : Tied). t.port) (link_ties p n q (Some (shared.some-m p n sound inside q link).0)))
    link-ports = of-link p n (λ x. LineFound lines (declared (given_lines.port x))) q (shared.some-m p n sound inside q link).0 link.0 (shared.some-m p n sound inside q link).1 (ports-found p n sound inside)

    pulse-bit : (t : Name) (r : ℕ) → r < credit_bits p → Is lines (May lines t) (bit (leaf_names.pulse (credit_domain p r) q) (credit_channel p r)) 1 1
    pulse-bit t r less =
        let its = credit-its p r less sound.domains.0 in
        let x = facts.pulse p n sound inside (credit_domain p r) its.0 q link in
        let low = its.1 in
        bit-is lines (May lines t) (credit_channel p r) x (by-register lines t x) (omega (arith, low))

    word-out : OutIs lines (assign ((out_names n).link_out q) (net (leaf_names.row q (p.stages - 1))))
    word-out =
        let few = shared.few-word-bits p n sound inside in
        let x = shared.row p n sound inside q link (p.stages - 1) (omega arith) in
        out-is (out-net link-ports.1.0 (omega (arith, few)) (pair-plain 108 111 n q refl refl small low-q))
        (wide-as lines (May lines ((out_names n).link_out q)) (let e : channel_bits p + flit_bits p + 1 ≡ link_bits p - 1 + 1 = omega arith in e) (net-is lines (May lines ((out_names n).link_out q)) x (by-register lines ((out_names n).link_out q) x))) (omega arith)

    first-out : AllByRecursion (OutIs lines) (credit_bundle p n q 0 (min (credit_bits p) 64)).nets
    first-out =
        let m = min-facts (credit_bits p) some-credit in
        let a = m.0 in let b = m.1 in let c = m.2 in (
          out-is (out-net link-ports.1.1.1.0 (omega arith) (pair-plain 99 111 n q refl refl small low-q))
              (wide-as lines (May lines (name_with (codes "co") (n ∷ q ∷ []))) (let e : (min (credit_bits p) 64 - 1 + 1) * 1 ≡ min (credit_bits p) 64 - 1 + 1 = omega arith in e)
              (row-is lines (May lines (name_with (codes "co") (n ∷ q ∷ []))) (min (credit_bits p) 64 - 1) 1 1 (λ k le. pulse-bit (name_with (codes "co") (n ∷ q ∷ [])) (0 + k) (omega (arith, a, c, le))) (omega arith) (omega (arith, a, b)))) (omega arith),
          tt,
        )

    second-out : nat_lt 64 (credit_bits p) ≡ true → AllByRecursion (OutIs lines) (credit_bundle p n q 64 (credit_bits p - 64)).nets
    second-out above =
        let far : 64 < credit_bits p = grind (arith, nat_tests, above) in
        let few = shared.few-credits p n sound inside in
        let more : AllByRecursion (λ x. LineFound lines (declared (given_lines.port x))) (map (λ (t : Tied). t.port) (second_ties p n q (shared.some-m p n sound inside q link).0 (opposite q))) =
        subst (λ b. AllByRecursion (λ x. LineFound lines (declared (given_lines.port x))) (map (λ (t : Tied). t.port) (if b then second_ties p n q (shared.some-m p n sound inside q link).0 (opposite q) else []))) above link-ports.1.1.1.1 in (
          out-is (out-net more.1.0 (omega (arith, few)) (triple-plain 99 111 n q refl refl small low-q))
              (wide-as lines (May lines (name_with (codes "co") (n ∷ q ∷ 1 ∷ []))) (let e : (credit_bits p - 64 - 1 + 1) * 1 ≡ credit_bits p - 64 - 1 + 1 = omega arith in e)
              (row-is lines (May lines (name_with (codes "co") (n ∷ q ∷ 1 ∷ []))) (credit_bits p - 64 - 1) 1 1 (λ k le. pulse-bit (name_with (codes "co") (n ∷ q ∷ 1 ∷ [])) (64 + k) (omega (arith, far, le))) (omega arith) (omega (arith, far, few)))) (omega arith),
          tt,
        )

    link-outs : AllByRecursion (OutIs lines) (flat_map (λ (g : Group). g.nets) (link_outs p n q))
    link-outs = (word-out, all-join (OutIs lines) (credit_bundle p n q 0 (min (credit_bits p) 64)).nets _ first-out (rest (nat_lt 64 (credit_bits p)) refl))
      where
        rest : (b : Bool) → nat_lt 64 (credit_bits p) ≡ b → AllByRecursion (OutIs lines) (flat_map (λ (g : Group). g.nets) (if b then credit_bundle p n q 64 (credit_bits p - 64) ∷ [] else []))
        rest true above = all-join (OutIs lines) (credit_bundle p n q 64 (credit_bits p - 64)).nets [] (second-out above) tt
        rest false one = tt

  -- ---- attachments

  module _ (d : ℕ) (there : d < length p.domains) (host : hosts p n d ≡ true) where
    low-d : d < 2 ^ 64
    low-d = let most = sound.domains.1 in omega (arith, most, there)

    its-ports : AllByRecursion (λ q. LineFound lines (declared (given_lines.port q))) (host_ports (record { tile = n; domain = d }))
    its-ports = of-host p n (λ q. LineFound lines (declared (given_lines.port q))) d host (ports-found p n sound inside)

    local-outs : AllByRecursion (OutIs lines) (local_out_group p leaf_names net_names (out_names n) (leaf_sizes p) (dest_bits p) d).nets
    local-outs =
        let e = facts.ejected p n sound inside d there host in
        let may : (t : Name) → May lines t (leaf_names.ejected d) = λ t. by-register lines t e in
        let dropped = facts.dropped p n sound inside d there host in
        let dropping = facts.dropping p n sound inside d there host in (
          out-is (out-net its-ports.1.1.1.1.1.1.1.0 (omega arith) (pair-plain 101 118 n d refl refl small low-d)) (bit-is lines (May lines ((out_names n).valid d)) 34 e (may ((out_names n).valid d)) (omega arith)) (omega arith),
          (
            out-is (out-net its-ports.1.1.1.1.1.1.1.1.0 (omega arith) (pair-plain 101 104 n d refl refl small low-d)) (bit-is lines (May lines ((out_names n).head d)) 33 e (may ((out_names n).head d)) (omega arith)) (omega arith),
            (
              out-is (out-net its-ports.1.1.1.1.1.1.1.1.1.0 (omega arith) (pair-plain 101 116 n d refl refl small low-d)) (bit-is lines (May lines ((out_names n).tail d)) 32 e (may ((out_names n).tail d)) (omega arith)) (omega arith),
              (
                out-is (out-net its-ports.1.1.1.1.1.1.1.1.1.1.0 (omega arith) (pair-plain 101 112 n d refl refl small low-d)) (part-is lines (May lines ((out_names n).payload d)) 31 0 32 e (may ((out_names n).payload d)) (omega arith) (omega arith) refl) (omega arith),
                (
                  out-is (out-net its-ports.1.1.1.1.1.1.0 (omega arith) (pair-plain 100 114 n d refl refl small low-d)) (net-is lines (May lines ((out_names n).drop d)) dropped (by-register lines ((out_names n).drop d) dropped)) (omega arith),
                  (
                    out-is (out-net its-ports.1.1.1.1.1.0 (omega arith) (pair-plain 114 100 n d refl refl small low-d))
                        (two-is lines (May lines ((out_names n).ready d)) Or (deeper lines (May lines ((out_names n).ready d)) 7 (omega arith) (net-is lines (May lines ((out_names n).ready d)) dropping (by-register lines ((out_names n).ready d) dropping)))
                        (linked.room-is p n sound inside d there host (May lines ((out_names n).ready d)) (by-register lines ((out_names n).ready d) (facts.current p n sound inside d there host)) (λ c less. by-register lines ((out_names n).ready d) (linked.count-register p n sound inside d there host c less)))) (omega arith),
                    tt,
                  ),
                ),
              ),
            ),
          ),
        )

  -- ---- all of them

  outs-each : (k : ℕ) (f : ℕ → List Group) → ((i : ℕ) → i < k → AllByRecursion (OutIs lines) (flat_map (λ (g : Group). g.nets) (f i))) → AllByRecursion (OutIs lines) (flat_map (λ (g : Group). g.nets) (each_group k f))
  outs-each zero f h = tt
  outs-each (suc k) f h =
      subst (AllByRecursion (OutIs lines)) (sym (flat-append (λ (g : Group). g.nets) (each_group k f) (f k)))
      (all-join (OutIs lines) (flat_map (λ (g : Group). g.nets) (each_group k f)) (flat_map (λ (g : Group). g.nets) (f k)) (outs-each k f (λ i less. h i (omega arith))) (h k (omega arith)))

  outs-if : (b : Bool) (xs : List Group) → (b ≡ true → AllByRecursion (OutIs lines) (flat_map (λ (g : Group). g.nets) xs)) → AllByRecursion (OutIs lines) (flat_map (λ (g : Group). g.nets) (if b then xs else []))
  outs-if true xs h = h refl
  outs-if false xs h = tt

  pub outs-good : AllByRecursion (OutIs lines) (flat_map (λ (g : Group). g.nets) (out_groups p n))
  outs-good =
      subst (AllByRecursion (OutIs lines)) (sym (flat-append (λ (g : Group). g.nets) (each_group (ports p) (λ o. if is_some (neighbour p n o) then link_outs p n o else [])) (each_group (length p.domains) (λ d. if hosts p n d then local_out_group p leaf_names net_names (out_names n) (leaf_sizes p) (dest_bits p) d ∷ [] else []))))
      (all-join (OutIs lines) _ _
      (outs-each (ports p) (λ o. if is_some (neighbour p n o) then link_outs p n o else []) (λ q low. outs-if (is_some (neighbour p n q)) (link_outs p n q) (λ some. link-outs q (low, some))))
      (outs-each (length p.domains) (λ d. if hosts p n d then local_out_group p leaf_names net_names (out_names n) (leaf_sizes p) (dest_bits p) d ∷ [] else []) (λ d there. outs-if (hosts p n d) (local_out_group p leaf_names net_names (out_names n) (leaf_sizes p) (dest_bits p) d ∷ [])
      (λ host. all-join (OutIs lines) (local_out_group p leaf_names net_names (out_names n) (leaf_sizes p) (dest_bits p) d).nets [] (local-outs d there host) tt))))

-- the output ports' items are assigns
module _ (p : Plan) (n : ℕ) where
  backed-each : (k : ℕ) (f : ℕ → List Group) → ((i : ℕ) → Backed (flat_map (λ (g : Group). g.nets) (f i))) → Backed (flat_map (λ (g : Group). g.nets) (each_group k f))
  backed-each zero f h = tt
  backed-each (suc k) f h = subst Backed (sym (flat-append (λ (g : Group). g.nets) (each_group k f) (f k))) (backed-join (flat_map (λ (g : Group). g.nets) (each_group k f)) (flat_map (λ (g : Group). g.nets) (f k)) (backed-each k f h) (h k))

  pub outs-backed : Backed (flat_map (λ (g : Group). g.nets) (out_groups p n))
  outs-backed =
      subst Backed (sym (flat-append (λ (g : Group). g.nets) (each_group (ports p) (λ o. if is_some (neighbour p n o) then link_outs p n o else [])) (each_group (length p.domains) (λ d. if hosts p n d then local_out_group p leaf_names net_names (out_names n) (leaf_sizes p) (dest_bits p) d ∷ [] else []))))
      (backed-join (flat_map (λ (g : Group). g.nets) (each_group (ports p) (λ o. if is_some (neighbour p n o) then link_outs p n o else []))) (flat_map (λ (g : Group). g.nets) (each_group (length p.domains) (λ d. if hosts p n d then local_out_group p leaf_names net_names (out_names n) (leaf_sizes p) (dest_bits p) d ∷ [] else [])))
      (backed-each (ports p) (λ o. if is_some (neighbour p n o) then link_outs p n o else []) (λ q. by-link q (is_some (neighbour p n q)) (nat_lt 64 (credit_bits p))))
      (backed-each (length p.domains) (λ d. if hosts p n d then local_out_group p leaf_names net_names (out_names n) (leaf_sizes p) (dest_bits p) d ∷ [] else []) (λ d. by-host d (hosts p n d))))
    where
      by-host : (d : ℕ) (b : Bool) → Backed (flat_map (λ (g : Group). g.nets) (if b then local_out_group p leaf_names net_names (out_names n) (leaf_sizes p) (dest_bits p) d ∷ [] else []))
      by-host d true = tt
      by-host d false = tt

      by-link : (q : ℕ) (b c : Bool) → Backed (flat_map (λ (g : Group). g.nets) (if b then link_out_group p leaf_names (out_names n) q ∷ credit_bundle p n q 0 (min (credit_bits p) 64) ∷ (if c then credit_bundle p n q 64 (credit_bits p - 64) ∷ [] else []) else []))
      by-link q true true = tt
      by-link q true false = tt
      by-link q false c = tt
