-- The ports of a tile's leaf have the numbers of the nets that the shape joins them to.
use Rattle.std.proofs.Common.{◌≡◌, ℕ, suc, ◌<◌, Bool, true, false, List, [], ◌∷◌, ◌++◌, Option, refl, sym, ap, ◌∙◌, subst, arith, ◌==◌, ◌&&◌, ◌||◌}
use Rattle.std.specs.Prelude.{Some, None, map, filter, flat_map, nat_lt, if◌then◌else◌, codes}
use Rattle.std.specs.List.{AllByRecursion, list_any}
use Rattle.std.proofs.lemmas.Bool.{and_parts, eqb-true, false≢true}
use Rattle.std.proofs.lemmas.Bool.Decides.{nat_tests}
use Rattle.vl_tree.specs.declared.tree.Port.{Port}
use Rattle.vl_tree.specs.declared.tree.Join.{Join}
use Rattle.vl_tree.specs.declared.tree.TopItem.{TopItem}
use Rattle.vl_tree.specs.Values.{Name, Leaf, Design}
use Rattle.vl_model.specs.Meaning.{Values}
use Rattle.vl_model.specs.Leaf.{IsLeafRun}
use Rattle.vl_model.specs.Lines.{leaf_named}
use Rattle.vl_model.specs.Rules.{IsSound as IsSoundDesign}
use Rattle.vl_model.specs.Whole.{Nets, Of, InstanceHas, EachInstance, Joined as JoinHolds, IsRun}
use Rattle.vl_model.proofs.Instances.{instance-runs}
use Rattle.noc_model.specs.declared.Host.{Host}
use Rattle.noc_model.specs.Events.{tabulate}
use Rattle.noc_model.specs.Plan.{Plan, tiles, ports, hosts, is_host}
use Rattle.noc_model.specs.Place.{neighbour, opposite}
use Rattle.gen_kit.specs.Ports.{host_ports}
use Rattle.gen_kit.specs.Shape.{Tied, credit_bits, first_ties, second_ties, host_ties, link_ties, tile_ties, tile_wires, tile_instance, all_tiles, HasShape}
use Rattle.gen_kit.specs.Replayed.{host_of}
use Rattle.gen_kit.specs.Work.{leaf_name}
use Rattle.gen_kit.proofs.Parts.{held-front, held-back}
use Rattle.top_tie.specs.Joins.{instance_name, inside_tile, HasNet, LinkJoined, HostJoined}
use Rattle.shape_sound.proofs.Listed.{at-number, of-mapped, of-joined}

-- a tie holds
abbrev Holds : Values → Nets → Tied → Type 0
Holds v nets t = HasNet v nets t.port.name t.net

-- ---- a link

link-ties : (p : Plan) (n q m : ℕ) (v : Values) (nets : Nets) → AllByRecursion (Holds v nets) (link_ties p n q (Some m)) → LinkJoined p n q m v nets
link-ties p n q m v nets all = record {
  words_in = all.0;
  words_out = all.1.0;
  credits_in = all.1.1.0;
  credits_out = all.1.1.1.0;
  more_in = λ more. (second more).0;
  more_out = λ more. (second more).1.0;
}
  where
    second : 64 < credit_bits p → AllByRecursion (Holds v nets) (second_ties p n q m (opposite q))
    second more =
        let many : nat_lt 64 (credit_bits p) ≡ true = grind (arith, nat_tests) in
        subst (λ b. AllByRecursion (Holds v nets) (if b then second_ties p n q m (opposite q) else [])) many
        (held-back (Holds v nets) (first_ties p n q m (opposite q)) (if nat_lt 64 (credit_bits p) then second_ties p n q m (opposite q) else []) all)

pub link-joined : (p : Plan) (n q m : ℕ) (v : Values) (nets : Nets) → q < ports p → neighbour p n q ≡ Some m → AllByRecursion (Holds v nets) (tile_ties p n) → LinkJoined p n q m v nets
link-joined p n q m v nets below e all =
    link-ties p n q m v nets (subst (λ o. AllByRecursion (Holds v nets) (link_ties p n q o)) e
    (at-number (λ k. AllByRecursion (Holds v nets) (link_ties p n k (neighbour p n k))) (ports p) (λ k. k)
    (of-joined (Holds v nets) (λ k. link_ties p n k (neighbour p n k)) (tabulate (ports p) (λ k. k))
    (held-back (Holds v nets) (flat_map host_ties (filter (λ (h : Host). h.tile == n) p.hosts)) (flat_map (λ k. link_ties p n k (neighbour p n k)) (tabulate (ports p) (λ k. k))) all)) q below))

-- ---- an attachment

host-is : (n d : ℕ) (h : Host) → is_host n d h ≡ true → h ≡ host_of d n
host-is n d h e =
    let es = and_parts (h.tile == n) (h.domain == d) e in
    let tile = eqb-true h.tile n es.0 in
    let domain = eqb-true h.domain d es.1 in
    ap (λ t. host_of h.domain t) tile ∙ ap (λ k. host_of k n) domain

-- what holds of a tile's ties holds of those of each of its attachments
pub host-among : (P : Tied → Type 0) (n d : ℕ) (hs : List Host) → list_any (is_host n d) hs ≡ true
    → AllByRecursion P (flat_map host_ties (filter (λ (h : Host). h.tile == n) hs)) → AllByRecursion P (host_ties (host_of d n))
host-among P n d [] some all = absurd (false≢true some)
host-among P n d (h ∷ hs) some all = go (h.tile == n) (is_host n d h) refl refl all some (host-among P n d hs)
  where
    rest : List Host
    rest = filter (λ (k : Host). k.tile == n) hs

    go : (c b : Bool) → (h.tile == n) ≡ c → is_host n d h ≡ b → AllByRecursion P (flat_map host_ties (if c then h ∷ rest else rest)) → (b || list_any (is_host n d) hs) ≡ true
        → (list_any (is_host n d) hs ≡ true → AllByRecursion P (flat_map host_ties rest) → AllByRecursion P (host_ties (host_of d n)))
        → AllByRecursion P (host_ties (host_of d n))
    go true true tile is kept any later = subst (λ k. AllByRecursion P (host_ties k)) (host-is n d h is) (held-front P (host_ties h) (flat_map host_ties rest) kept)
    go true false tile is kept any later = later any (held-back P (host_ties h) (flat_map host_ties rest) kept)
    go false true tile is kept any later = absurd (false≢true (sym tile ∙ (and_parts (h.tile == n) (h.domain == d) is).0))
    go false false tile is kept any later = later any kept

pub host-joined : (p : Plan) (n d : ℕ) (v : Values) (nets : Nets) → hosts p n d ≡ true → AllByRecursion (Holds v nets) (tile_ties p n) → HostJoined n d v nets
host-joined p n d v nets h all =
    of-mapped (Holds v nets) (λ (q : Port). record { port = q; net = q.name }) (host_ports (host_of d n))
    (host-among (Holds v nets) n d p.hosts h
    (held-front (Holds v nets) (flat_map host_ties (filter (λ (k : Host). k.tile == n) p.hosts)) (flat_map (λ k. link_ties p n k (neighbour p n k)) (tabulate (ports p) (λ k. k))) all))

-- ---- the instance of a tile

-- a tile's leaf in a run of the design
pub record TileRun (p : Plan) (d : Design) (n : ℕ) (values : ℕ → Nets) : Type 0 where
  pub leaf : Leaf
  pub named : leaf_named d.leaves (leaf_name n) ≡ Some leaf
  pub runs : IsLeafRun leaf (λ t. inside_tile (values t) n)
  pub ties : (t : ℕ) → AllByRecursion (Holds (inside_tile (values t) n) (values t)) (tile_ties p n)

of-leaf : (P : Leaf → Type 0) (x : Option Leaf) → Of x P → (l : Leaf) × (x ≡ Some l) × P l
of-leaf P None h = absurd h
of-leaf P (Some l) h = (l, refl, h)

pub tile-run : (p : Plan) (d : Design) (n : ℕ) (first : Name → Name → ℕ → ℕ) (inputs : ℕ → Name → ℕ) (values : ℕ → Nets) → IsSoundDesign d → HasShape p d → IsRun d first inputs values → n < tiles p
    → TileRun p d n values
tile-run p d n first inputs values sound shape run below =
    let each = subst (AllByRecursion (InstanceHas d.leaves Runs)) shape.items (instance-runs d first inputs values sound run) in
    let mine = at-number (λ k. InstanceHas d.leaves Runs (tile_instance p k)) (tiles p) (λ k. k)
    (of-mapped (InstanceHas d.leaves Runs) (tile_instance p) (all_tiles p)
    (held-back (InstanceHas d.leaves Runs) (flat_map (tile_wires p) (all_tiles p)) (map (tile_instance p) (all_tiles p)) each)) n below in
    let is = of-leaf (λ l. Runs l (instance_name n) (map join_of (tile_ties p n))) (leaf_named d.leaves (leaf_name n)) mine in
    record {
      leaf = is.0;
      named = is.1;
      runs = is.2.0;
      ties = λ t. of-mapped (JoinHolds (inside_tile (values t) n) (values t).top) join_of (tile_ties p n) (is.2.1 t);
    }
  where
    Runs : Leaf → Name → List Join → Type 0
    Runs l i joins = IsLeafRun l (λ t. (values t).inside i) × ((t : ℕ) → AllByRecursion (JoinHolds ((values t).inside i) (values t).top) joins)

    join_of : Tied → Join
    join_of t = record { port = t.port.name; net = t.net }
