-- The ports of the top, and whose they are.
use Rattle.std.proofs.Common.{◌≡◌, ℕ, zero, suc, ◌+◌, ◌-◌, ◌<◌, ◌≤◌, Bool, true, false, ◌&&◌, ◌||◌, List, [], ◌∷◌, ◌++◌, length, map, refl, sym, ◌∙◌, ap, subst, bytes_eq, arith}
use Rattle.std.specs.Prelude.{Option, Some, None, is_some, option_map, find, flat_map, slice_get, slice_set, ◌==◌, ◌/◌, nat_lt, if◌then◌else◌}
use Rattle.std.specs.List.{AllByRecursion, list_any}
use Rattle.std.proofs.lemmas.Bool.{and_parts, or_from, or_left, or_right, both_ways, false≢true, eqb-true, ltb-true, ltb-false}
use Rattle.std.proofs.lemmas.Option.{none-some, same_Some}
use Rattle.std.proofs.lemmas.List.{get_or-set_same, get_or-set_other, length-set}
use Rattle.vl_tree.specs.declared.tree.Port.{Port}
use Rattle.vl_tree.specs.declared.fault.TextFault.TheVariants.{Ports}
use Rattle.vl_tree.specs.declared.tree.TopItem.{TopItem}
use Rattle.vl_tree.specs.declared.tree.TopItem.TheVariants.{Wire, Instance}
use Rattle.vl_tree.specs.Values.{Name, Leaf, Design}
use Rattle.vl_model.specs.declared.kind.Kind.TheVariants.{Inner, Child}
use Rattle.vl_model.specs.Lines.{Line, port, joint, sites_behind, lookup, found, declared, Declared, way_of, kind_passes, is_net, is_input, port_named}
use Rattle.vl_model.specs.Rules.{is_kind, name_twice}
use Rattle.vl_model.proofs.Passed.{Passes}
use Rattle.vl_model.proofs.Settling.{one-name, itself}
use Rattle.vl_model.proofs.Ordered.{lookup-front}
use Rattle.vl_model.proofs.Leaves.{named-cases}
use Rattle.vl_run.specs.Places.{ArePlaces}
use Rattle.noc_model.specs.declared.Host.{Host}
use Rattle.noc_model.specs.Plan.{Plan}
use Rattle.gen_kit.specs.Ports.{host_ports, top_ports, same_way, same_port, difference, ports_fault}
use Rattle.label_model.specs.Labels.{only, Label, from}
use Rattle.label_audit.specs.Rows.{first_bits, rows_by}
use Rattle.label_audit.specs.Audited.{has_port, domain_of, port_domain}
use Rattle.label_audit.specs.Whole.{domain_at, input_rows}
use Rattle.label_audit.proofs.Fed.{places-apart, place-below}

-- ---- ports that are the plan's

way-same : (a b : Bool) → same_way a b ≡ true → a ≡ b
way-same true true e = refl
way-same true false e = sym e
way-same false true e = e
way-same false false e = refl

port-same : (a b : Port) → same_port a b ≡ true → a ≡ b
port-same a b e =
    let es = and_parts (bytes_eq a.name b.name) ((a.high == b.high) && same_way a.output b.output) e in
    let fs = and_parts (a.high == b.high) (same_way a.output b.output) es.1 in
    let name = one-name a.name b.name es.0 in
    let high = eqb-true a.high b.high fs.0 in
    let way = way-same a.output b.output fs.1 in
    ap (λ n. port-of a.output a.high n) name ∙ ap (λ h. port-of a.output h b.name) high ∙ ap (λ w. port-of w b.high b.name) way
  where
    port-of : Bool → ℕ → List ℕ → Port
    port-of w h n = record { output = w; high = h; name = n }

no-difference : (xs ys : List Port) (i : ℕ) → difference i xs ys ≡ None → xs ≡ ys
no-difference [] [] i e = refl
no-difference [] (y ∷ ys) i e = absurd (none-some i (sym e))
no-difference (x ∷ xs) [] i e = absurd (none-some i (sym e))
no-difference (x ∷ xs) (y ∷ ys) i e = go (same_port x y) refl (no-difference xs ys (i + 1))
  where
    go : (b : Bool) → same_port x y ≡ b → (difference (i + 1) xs ys ≡ None → xs ≡ ys) → x ∷ xs ≡ y ∷ ys
    go true same later = ap (λ z. z ∷ xs) (port-same x y same) ∙ ap (λ zs. y ∷ zs) (later (sym (ap (λ b. if b then difference (i + 1) xs ys else Some i) same) ∙ e))
    go false other later = absurd (none-some i (sym e ∙ ap (λ b. if b then difference (i + 1) xs ys else Some i) other))

-- a design without the fault has the plan's ports
pub ports-are : (p : Plan) (d : Design) → ports_fault p d ≡ None → d.top.ports ≡ top_ports p
unfolding ports_fault
ports-are p d e = no-difference d.top.ports (top_ports p) 0 (go (difference 0 d.top.ports (top_ports p)) e)
  where
    go : (o : Option ℕ) → option_map Ports o ≡ None → o ≡ None
    go None e = refl
    go (Some i) e = absurd (none-some (Ports i) (sym e))

-- ---- no two ports have one name

abbrev Other : Name → Port → Type 0
Other n q = bytes_eq q.name n ≡ false

abbrev pub Apart : List Port → Type 0
Apart [] = Unit {0}
Apart (p ∷ ps) = AllByRecursion (Other p.name) ps × Apart ps

later-apart : (ls : List Leaf) (all before : List Line) (ps : List Port) (rest : List Line) (n : Name) (x : Declared) → lookup before n ≡ Some x → Passes name_twice (sites_behind ls all before (map port ps ++ rest)) → AllByRecursion (Other n) ps
unfolding name_twice
later-apart ls all before [] rest n x e p = tt
later-apart ls all before (q ∷ ps) rest n x e p = (go (bytes_eq q.name n) refl, later-apart ls all (before ++ port q ∷ []) ps rest n x (lookup-front before (port q ∷ []) n x e) p.1)
  where
    go : (b : Bool) → bytes_eq q.name n ≡ b → bytes_eq q.name n ≡ false
    go false is = is
    go true is = absurd (both_ways (is_some (lookup before q.name)) p.0 (ap (λ m. is_some (lookup before m)) (one-name q.name n is) ∙ ap is_some e))

-- each is declared where it stands, and later ones have other names
pub are-apart : (ls : List Leaf) (all before : List Line) (ps : List Port) (rest : List Line) → Passes name_twice (sites_behind ls all before (map port ps ++ rest)) → Apart ps
are-apart ls all before [] rest p = tt
are-apart ls all before (q ∷ ps) rest p = (here, are-apart ls all (before ++ port q ∷ []) ps rest p.1)
  where
    alone : (x : Declared) × (lookup (port q ∷ []) q.name ≡ Some x)
    alone = (record { name = q.name; kind = way_of q.output; high = q.high; last = 0 }, ap (λ b. if b then Some (record { name = q.name; kind = way_of q.output; high = q.high; last = 0 }) else None) (itself q.name))

    step : (o : Option Declared) (l : Option Declared) → (x : Declared) × (l ≡ Some x) → (x : Declared) × (found o q.name l ≡ Some x)
    step None l h = h
    step (Some z) l h = pick (bytes_eq q.name z.name) refl
      where
        pick : (b : Bool) → bytes_eq q.name z.name ≡ b → (x : Declared) × (found (Some z) q.name l ≡ Some x)
        pick true is = (z, ap (λ b. if b then Some z else l) is)
        pick false is = (h.0, ap (λ b. if b then Some z else l) is ∙ h.1)

    last : (bs : List Line) → (x : Declared) × (lookup (bs ++ port q ∷ []) q.name ≡ Some x)
    last [] = alone
    last (b ∷ bs) = step (declared b) (lookup (bs ++ port q ∷ []) q.name) (last bs)

    here : AllByRecursion (Other q.name) ps
    here = later-apart ls all (before ++ port q ∷ []) ps rest q.name (last before).0 (last before).1 p.1

-- ---- an input of the top is a port

no-input-item : (is : List TopItem) (n : Name) (x : Declared) → lookup (map joint is) n ≡ Some x → is_input x.kind ≡ true → ⊥
no-input-item [] n x e k = none-some x e
no-input-item (Wire h m ∷ is) n x e k = pick (bytes_eq n m) e (λ f. no-input-item is n x f k)
  where
    pick : (b : Bool) → (if b then Some (record { name = m; kind = Inner; high = h; last = 0 }) else lookup (map joint is) n) ≡ Some x → (lookup (map joint is) n ≡ Some x → ⊥) → ⊥
    pick true f later = let one : record { name = m; kind = Inner; high = h; last = 0 } ≡ x = cc in false≢true (ap (λ (z : Declared). is_input z.kind) one ∙ k)
    pick false f later = later f
no-input-item (Instance l m js ∷ is) n x e k = pick (bytes_eq n m) e (λ f. no-input-item is n x f k)
  where
    pick : (b : Bool) → (if b then Some (record { name = m; kind = Child; high = 0; last = 0 }) else lookup (map joint is) n) ≡ Some x → (lookup (map joint is) n ≡ Some x → ⊥) → ⊥
    pick true f later = let one : record { name = m; kind = Child; high = 0; last = 0 } ≡ x = cc in false≢true (ap (λ (z : Declared). is_input z.kind) one ∙ k)
    pick false f later = later f

pub top-port : (ps : List Port) (is : List TopItem) (n : Name) (x : Declared) → lookup (map port ps ++ map joint is) n ≡ Some x → is_input x.kind ≡ true → (q : Port) × (port_named ps n ≡ Some q) × (x.high ≡ q.high) × (n ≡ q.name)
top-port [] is n x e k = absurd (no-input-item is n x e k)
top-port (p ∷ ps) is n x e k = go (bytes_eq n p.name) refl (λ f. top-port ps is n x f k)
  where
    here : Declared
    here = record { name = p.name; kind = way_of p.output; high = p.high; last = 0 }

    Named : Bool → Type 0
    Named b = (q : Port) × ((if b then Some p else port_named ps n) ≡ Some q) × (x.high ≡ q.high) × (n ≡ q.name)

    looked : (b : Bool) → bytes_eq n p.name ≡ b → (if b then Some here else lookup (map port ps ++ map joint is) n) ≡ Some x
    looked b is' = sym (ap (λ c. if c then Some here else lookup (map port ps ++ map joint is) n) is') ∙ e

    go : (b : Bool) → bytes_eq n p.name ≡ b → (lookup (map port ps ++ map joint is) n ≡ Some x → (q : Port) × (port_named ps n ≡ Some q) × (x.high ≡ q.high) × (n ≡ q.name)) → Named (bytes_eq n p.name)
    go true is' later = let one : here ≡ x = same_Some here x (looked true is') in subst Named (sym is') (p, refl, sym (ap (λ (z : Declared). z.high) one), one-name n p.name is')
    go false is' later = subst Named (sym is') (later (looked false is'))

-- ---- the domain of a port

parted : (fs bs : List Port) → Apart (fs ++ bs) → AllByRecursion (λ (b : Port). list_any (λ (a : Port). bytes_eq b.name a.name) fs ≡ false) bs × Apart bs
parted [] bs a = (none bs, a)
  where
    none : (ys : List Port) → AllByRecursion (λ (b : Port). list_any (λ (a : Port). bytes_eq b.name a.name) [] ≡ false) ys
    none [] = tt
    none (y ∷ ys) = (refl, none ys)
parted (x ∷ fs) bs a = let rest = parted fs bs a.1 in (both bs (back fs a.0) rest.0, rest.1)
  where
    back : (xs : List Port) → AllByRecursion (Other x.name) (xs ++ bs) → AllByRecursion (Other x.name) bs
    back [] h = h
    back (y ∷ xs) h = back xs h.1

    both : (ys : List Port) → AllByRecursion (Other x.name) ys → AllByRecursion (λ (b : Port). list_any (λ (a : Port). bytes_eq b.name a.name) fs ≡ false) ys → AllByRecursion (λ (b : Port). list_any (λ (a : Port). bytes_eq b.name a.name) (x ∷ fs) ≡ false) ys
    both [] h k = tt
    both (y ∷ ys) h k = (or_from (bytes_eq y.name x.name) (list_any (λ (a : Port). bytes_eq y.name a.name) fs) h.0 k.0, both ys h.1 k.1)

at-place : (P : Port → Type 0) (xs : List Port) (k : ℕ) (q : Port) → slice_get xs k ≡ Some q → AllByRecursion P xs → P q
at-place P [] k q e a = absurd (none-some q e)
at-place P (x ∷ xs) zero q e a = let one : x ≡ q = cc in subst P one a.0
at-place P (x ∷ xs) (suc k) q e a = at-place P xs k q e a.1

has-own : (xs : List Port) (k : ℕ) (q : Port) → slice_get xs k ≡ Some q → list_any (λ (a : Port). bytes_eq q.name a.name) xs ≡ true
has-own [] k q e = absurd (none-some q e)
has-own (x ∷ xs) zero q e = let one : x ≡ q = cc in or_left (bytes_eq q.name x.name) (list_any (λ (a : Port). bytes_eq q.name a.name) xs) (ap (λ (z : Port). bytes_eq q.name z.name) one ∙ itself q.name)
has-own (x ∷ xs) (suc k) q e = or_right (bytes_eq q.name x.name) (list_any (λ (a : Port). bytes_eq q.name a.name) xs) (has-own xs k q e)

get-front : (xs ys : List Port) (k : ℕ) → k < length xs → slice_get (xs ++ ys) k ≡ slice_get xs k
get-front [] ys k lt = absurd (omega (arith, lt))
get-front (x ∷ xs) ys zero lt = refl
get-front (x ∷ xs) ys (suc k) lt = get-front xs ys k (omega (arith, lt))

get-back : (xs ys : List Port) (k j : ℕ) → j ≡ length xs + k → slice_get (xs ++ ys) j ≡ slice_get ys k
get-back [] ys k j e = ap (slice_get ys) (let same : j ≡ k = omega (arith, e) in same)
get-back (x ∷ xs) ys k zero e = absurd (omega (arith, e))
get-back (x ∷ xs) ys k (suc j) e = get-back xs ys k j (omega (arith, e))

pub eleven : (h : Host) → length (host_ports h) ≡ 11
eleven h = refl

-- the domain of port k, by its place and by its name
pub owner-at : (hosts : List Host) (k : ℕ) (q : Port) → slice_get (flat_map host_ports hosts) k ≡ Some q → Apart (flat_map host_ports hosts) → domain_at hosts k ≡ domain_of (find (has_port q.name) hosts)
owner-at [] k q e a = absurd (none-some q e)
owner-at (h ∷ hs) k q e a = go (nat_lt k 11) refl (λ j f. owner-at hs j q f (parted (host_ports h) (flat_map host_ports hs) a).1)
  where
    Goal : Bool → Type 0
    Goal b = domain_at (h ∷ hs) k ≡ domain_of (if b then Some h else find (has_port q.name) hs)

    go : (b : Bool) → nat_lt k 11 ≡ b → ((j : ℕ) → slice_get (flat_map host_ports hs) j ≡ Some q → domain_at hs j ≡ domain_of (find (has_port q.name) hs)) → Goal (has_port q.name h)
    go true is again =
        let less = ltb-true k 11 is in
        let mine : slice_get (host_ports h) k ≡ Some q = sym (get-front (host_ports h) (flat_map host_ports hs) k (subst (λ n. k < n) (sym (eleven h)) less)) ∙ e in
        let none : k / 11 ≡ 0 = omega (arith, less) in
        subst Goal (sym (has-own (host_ports h) k q mine)) (ap (λ n. domain_of (slice_get (h ∷ hs) n)) none)
    go false is again =
        let more = ltb-false k 11 is in
        let back : k ≡ 11 + (k - 11) = omega (arith, more) in
        let mine : slice_get (flat_map host_ports hs) (k - 11) ≡ Some q = sym (get-back (host_ports h) (flat_map host_ports hs) (k - 11) k (back ∙ ap (λ n. n + (k - 11)) (sym (eleven h)))) ∙ e in
        let next : k / 11 ≡ suc ((k - 11) / 11) = omega (arith, more) in
        let other = at-place (λ (b : Port). list_any (λ (a : Port). bytes_eq b.name a.name) (host_ports h) ≡ false) (flat_map host_ports hs) (k - 11) q mine (parted (host_ports h) (flat_map host_ports hs) a).0 in
        subst Goal (sym other) (ap (λ n. domain_of (slice_get (h ∷ hs) n)) next ∙ again (k - 11) mine)

-- ---- the rows of input ports

module _ (all : List Line) (t : Name → ℕ) (places : ArePlaces all t) (hosts : List Host) where
  pub length-inputs : (qs : List Port) (i : ℕ) (rows : List (List Label)) → length (input_rows t hosts qs i rows) ≡ length rows
  length-inputs [] i rows = refl
  length-inputs (q ∷ qs) i rows = length-set (input_rows t hosts qs (i + 1) rows) (t q.name) (first_bits (λ k. from (only (domain_at hosts i))) (q.high + 1)) ∙ length-inputs qs (i + 1) rows

  -- a port's row is from the domain of its place
  pub input-row : (qs : List Port) → AllByRecursion (λ (p : Port). is_kind is_net all p.name ≡ true) qs → (i : ℕ) (rows : List (List Label)) → length rows ≡ length all → (n : Name) → is_kind is_net all n ≡ true
      → (q : Port) → port_named qs n ≡ Some q → (k : ℕ) × (slice_get qs k ≡ Some q) × (rows_by t (input_rows t hosts qs i rows) n ≡ first_bits (λ j. from (only (domain_at hosts (i + k)))) (q.high + 1))
  input-row [] d i rows long n net q e = absurd (none-some q e)
  input-row (p ∷ ps) d i rows long n net q e = named-cases p ps n q e here (other (λ h. input-row ps d.1 (i + 1) rows long n net q h))
    where
      rest : List (List Label)
      rest = input_rows t hosts ps (i + 1) rows

      x : List Label
      x = first_bits (λ j. from (only (domain_at hosts i))) (p.high + 1)

      Found : Type 0
      Found = (k : ℕ) × (slice_get (p ∷ ps) k ≡ Some q) × (rows_by t (slice_set rest (t p.name) x) n ≡ first_bits (λ j. from (only (domain_at hosts (i + k)))) (q.high + 1))

      here : bytes_eq n p.name ≡ true → p ≡ q → Found
      here same one =
          let size = length-inputs ps (i + 1) rows in
          let at = place-below all t places is_net p.name d.0 in
          let first : i ≡ i + 0 = omega arith in (
            0,
            ap (λ z. Some z) one,
            ap (λ z. rows_by t (slice_set rest (t p.name) x) z) (one-name n p.name same) ∙ get_or-set_same rest (t p.name) x [] (omega (arith, size, long, at)) ∙ ap (λ (z : Port). first_bits (λ j. from (only (domain_at hosts i))) (z.high + 1)) one
                ∙ ap (λ k. first_bits (λ j. from (only (domain_at hosts k))) (q.high + 1)) first,
          )

      other : (port_named ps n ≡ Some q → (k : ℕ) × (slice_get ps k ≡ Some q) × (rows_by t rest n ≡ first_bits (λ j. from (only (domain_at hosts (i + 1 + k)))) (q.high + 1))) → bytes_eq n p.name ≡ false → port_named ps n ≡ Some q → Found
      other again apart later =
          let f = again later in
          let next : i + 1 + f.0 ≡ i + suc f.0 = omega arith in (
            suc f.0,
            f.1,
            get_or-set_other rest (t p.name) (t n) x [] (places-apart all t places is_net is_net n p.name net d.0 apart) ∙ f.2 ∙ ap (λ k. first_bits (λ j. from (only (domain_at hosts k))) (q.high + 1)) next,
          )
