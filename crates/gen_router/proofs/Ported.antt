-- The ports of a leaf, in order.
use Rattle.std.proofs.Common.{◌≡◌, ℕ, zero, suc, ◌+◌, ◌<◌, ◌≤◌, ◌==◌, Bool, true, false, List, [], ◌∷◌, ◌++◌, length, take, map, filter, flat_map, refl, sym, ap, ◌∙◌, arith, add-one, append_assoc, append-nil, Some, None, Option}
use Rattle.std.specs.Prelude.{slice_get, if◌then◌else◌, is_some, nat_lt}
use Rattle.std.proofs.lemmas.Grind.{flat_map-append}
use Rattle.std.proofs.lemmas.List.{map-append}
use Rattle.std.proofs.lemmas.List.Elements.{filter-append}
use Rattle.std.proofs.lemmas.Option.{slice_get_within, get_or_from_slice_get}
use Rattle.std.proofs.Math.Seq.{take-suc}
use Rattle.vl_tree.specs.declared.tree.Port.{Port}
use Rattle.vl_tree.specs.Values.{Leaf}
use Rattle.noc_model.specs.declared.Host.{Host}
use Rattle.noc_model.specs.Plan.{Plan, ports}
use Rattle.noc_model.specs.Place.{neighbour, opposite}
use Rattle.noc_model.specs.Events.{tabulate}
use Rattle.gen_kit.specs.Ports.{host_ports}
use Rattle.gen_kit.specs.Shape.{Tied, host_ties, link_ties, first_ties, second_ties, tile_ties, tile_head, credit_bits}
use Rattle.gen_router.specs.Ports.{with_ports, tile_hosts, tile_links, link_ports, first_ports, other_ports}

pub ports_none : (l : Leaf) → l ≡ with_ports l []
ports_none l = ap (λ ps. record { name = l.name; ports = ps; items = l.items }) (sym (append-nil l.ports))

pub ports_more : (l a b : Leaf) (ps qs : List Port) → a ≡ with_ports l ps → b ≡ with_ports a qs → b ≡ with_ports l (ps ++ qs)
ports_more l a b ps qs e f =
    f ∙ (ap (λ x. with_ports x qs) e ∙ ap (λ xs. record { name = l.name; ports = xs; items = l.items }) (append_assoc l.ports ps qs))

-- ---- attachments

taken : (hs : List Host) (j : ℕ) (h : Host) → slice_get hs j ≡ Some h → take (j + 1) hs ≡ take j hs ++ h ∷ []
taken hs j h e =
    ap (λ n. take n hs) (add-one j) ∙ (take-suc hs j h (slice_get_within hs j h e) ∙ ap (λ x. take j hs ++ x ∷ []) (get_or_from_slice_get hs j h h e))

hosts_joined : (n : ℕ) (xs ys : List Host) → tile_hosts n (xs ++ ys) ≡ tile_hosts n xs ++ tile_hosts n ys
hosts_joined n xs ys =
    ap (flat_map host_ports) (filter-append (λ (h : Host). h.tile == n) xs ys)
    ∙ flat_map-append host_ports (filter (λ (h : Host). h.tile == n) xs) (filter (λ (h : Host). h.tile == n) ys)

pub lone_here : (n : ℕ) (h : Host) → (h.tile == n) ≡ true → tile_hosts n (h ∷ []) ≡ host_ports h
lone_here n h e = ap (λ (b : Bool). flat_map host_ports (if b then h ∷ [] else [])) e ∙ append-nil (host_ports h)

pub lone_away : (n : ℕ) (h : Host) → (h.tile == n) ≡ false → tile_hosts n (h ∷ []) ≡ []
lone_away n h e = ap (λ (b : Bool). flat_map host_ports (if b then h ∷ [] else [])) e

pub hosts_more : (n j : ℕ) (hs : List Host) (h : Host) (l a b : Leaf) → slice_get hs j ≡ Some h → a ≡ with_ports l (tile_hosts n (take j hs))
    → b ≡ with_ports a (tile_hosts n (h ∷ [])) → b ≡ with_ports l (tile_hosts n (take (j + 1) hs))
hosts_more n j hs h l a b e before more =
    ports_more l a b (tile_hosts n (take j hs)) (tile_hosts n (h ∷ [])) before more
    ∙ sym (ap (λ xs. with_ports l (tile_hosts n xs)) (taken hs j h e) ∙ ap (with_ports l) (hosts_joined n (take j hs) (h ∷ [])))

-- ---- links

pub links_more : (p : Plan) (n k : ℕ) (l a b : Leaf) → a ≡ with_ports l (tile_links p n k) → b ≡ with_ports a (link_ports p n k) → b ≡ with_ports l (tile_links p n (k + 1))
links_more p n k l a b e f = rw (add-one k) (ports_more l a b (tile_links p n k) (link_ports p n k) e f)

-- ---- all of them

hosts_same : (hs : List Host) → map (λ (t : Tied). t.port) (flat_map host_ties hs) ≡ flat_map host_ports hs
hosts_same [] = refl
hosts_same (h ∷ hs) =
    map-append (λ (t : Tied). t.port) (host_ties h) (flat_map host_ties hs) ∙ ap (λ ps. host_ports h ++ ps) (hosts_same hs)

chosen_ports : (b : Bool) (ts : List Tied) → map (λ (t : Tied). t.port) (if b then ts else []) ≡ (if b then map (λ (t : Tied). t.port) ts else [])
chosen_ports true ts = refl
chosen_ports false ts = refl

link_same : (p : Plan) (n q : ℕ) (o : Option ℕ) → map (λ (t : Tied). t.port) (link_ties p n q o)
    ≡ (if is_some o then first_ports p n q ++ other_ports p n q else [])
link_same p n q None = refl
link_same p n q (Some m) =
    map-append (λ (t : Tied). t.port) (first_ties p n q m (opposite q)) (if nat_lt 64 (credit_bits p) then second_ties p n q m (opposite q) else [])
    ∙ ap (λ ps. first_ports p n q ++ ps) (chosen_ports (nat_lt 64 (credit_bits p)) (second_ties p n q m (opposite q)))

tabulate_more : (n : ℕ) (f : ℕ → ℕ) → tabulate (suc n) f ≡ tabulate n f ++ f n ∷ []
tabulate_more zero f = refl
tabulate_more (suc n) f = ap (λ xs. f 0 ∷ xs) (tabulate_more n (λ k. f (suc k)))

links_same : (p : Plan) (n k : ℕ) → map (λ (t : Tied). t.port) (flat_map (λ q. link_ties p n q (neighbour p n q)) (tabulate k (λ q. q))) ≡ tile_links p n k
links_same p n zero = refl
links_same p n (suc k) =
    let each : ℕ → List Tied = λ q. link_ties p n q (neighbour p n q) in
    ap (λ qs. map (λ (t : Tied). t.port) (flat_map each qs)) (tabulate_more k (λ q. q))
    ∙ (ap (map (λ (t : Tied). t.port)) (flat_map-append each (tabulate k (λ q. q)) (k ∷ []))
    ∙ (map-append (λ (t : Tied). t.port) (flat_map each (tabulate k (λ q. q))) (each k ++ [])
    ∙ (ap (λ ps. ps ++ map (λ (t : Tied). t.port) (each k ++ [])) (links_same p n k)
    ∙ ap (λ ps. tile_links p n k ++ ps) (ap (map (λ (t : Tied). t.port)) (append-nil (each k)) ∙ link_same p n k (neighbour p n k)))))

pub ports_are : (p : Plan) (n : ℕ) → tile_hosts n p.hosts ++ tile_links p n (ports p) ≡ (tile_head p n).ports
ports_are p n =
    let here : List Host = filter (λ (h : Host). h.tile == n) p.hosts in
    let each : ℕ → List Tied = λ q. link_ties p n q (neighbour p n q) in
    sym (map-append (λ (t : Tied). t.port) (flat_map host_ties here) (flat_map each (tabulate (ports p) (λ q. q)))
    ∙ (ap (λ ps. ps ++ map (λ (t : Tied). t.port) (flat_map each (tabulate (ports p) (λ q. q)))) (hosts_same here)
    ∙ ap (λ ps. flat_map host_ports here ++ ps) (links_same p n (ports p))))
