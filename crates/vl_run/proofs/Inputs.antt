-- The numbers of the top's input ports.
use Rattle.std.proofs.Common.{◌≡◌, ℕ, ◌+◌, ◌<◌, ◌≤◌, ◌^◌, Bool, true, false, ◌||◌, List, [], ◌∷◌, ◌++◌, length, map, drop, refl, sym, ◌∙◌, ap, subst, bytes_eq, arith, append_assoc, get_or-set_same, get_or-set_other, length-set}
use Rattle.std.specs.Prelude.{Option, Some, None, is_some, if◌then◌else◌, slice_index, slice_set}
use Rattle.std.specs.List.{AllByRecursion}
use Rattle.std.proofs.lemmas.Option.{none-some}
use Rattle.std.proofs.lemmas.Bool.{both_ways, or_parts, or_from, false≢true, false_from_ne_true}
use Rattle.vl_tree.specs.declared.tree.Port.{Port}
use Rattle.vl_tree.specs.declared.tree.TopItem.{TopItem}
use Rattle.vl_tree.specs.declared.tree.TopItem.TheVariants.{Wire, Instance}
use Rattle.vl_tree.specs.Values.{Name, Leaf}
use Rattle.vl_model.specs.declared.kind.Kind.TheVariants.{Inner, Child}
use Rattle.vl_model.specs.Lines.{Line, port, joint, sites_behind, Declared, declared, found, lookup, kind_passes, way_of, is_net, is_input, net_bits, widths}
use Rattle.vl_model.specs.Rules.{is_kind, name_twice}
use Rattle.vl_model.proofs.Passed.{Passes}
use Rattle.vl_model.proofs.Settling.{one-name, itself}
use Rattle.vl_model.proofs.Ordered.{lookup-front}
use Rattle.vl_run.specs.Top.{inputs_of, with_ports, places_of}
use Rattle.vl_run.specs.Places.{ArePlaces}
use Rattle.vl_run.specs.Stands.{AreInputs, FitsPort}
use Rattle.vl_run.proofs.Linked.{apart, low}

-- whether one of the ports is an input port of this name
abbrev pub has_input : List Port → Name → Bool
has_input [] n = false
has_input (p ∷ ps) n = if p.output then has_input ps n else (bytes_eq n p.name || has_input ps n)

abbrev port_declared : Port → Declared
port_declared p = record { name = p.name; kind = way_of p.output; high = p.high; last = 0 }

abbrev pub Distinct : List Port → Type 0
Distinct [] = Unit {0}
Distinct (p ∷ ps) = (has_input ps p.name ≡ false) × Distinct ps

abbrev pub First : List Line → List Port → Type 0
First all ps = AllByRecursion (λ (p : Port). lookup all p.name ≡ Some (port_declared p)) ps

pub no-lookup : (o : Option Declared) → is_some o ≡ false → o ≡ None
no-lookup None e = refl
no-lookup (Some x) e = absurd (false≢true (sym e))

pub lookup-behind : (before rest : List Line) (n : Name) → lookup before n ≡ None → lookup (before ++ rest) n ≡ lookup rest n
lookup-behind [] rest n e = refl
lookup-behind (x ∷ before) rest n e = go (lookup-behind before rest n) (declared x) refl
  where
    Later : Type 0
    Later = lookup before n ≡ None → lookup (before ++ rest) n ≡ lookup rest n

    here : Later → (z : Declared) → declared x ≡ Some z → (b : Bool) → bytes_eq n z.name ≡ b → found (declared x) n (lookup (before ++ rest) n) ≡ lookup rest n
    here later z is true same = absurd (none-some z (sym e ∙ ap (λ o. found o n (lookup before n)) is ∙ ap (λ b. if b then Some z else lookup before n) same))
    here later z is false other =
        ap (λ o. found o n (lookup (before ++ rest) n)) is ∙ ap (λ b. if b then Some z else lookup (before ++ rest) n) other
        ∙ later (sym (ap (λ o. found o n (lookup before n)) is ∙ ap (λ b. if b then Some z else lookup before n) other) ∙ e)

    go : Later → (o : Option Declared) → declared x ≡ o → found (declared x) n (lookup (before ++ rest) n) ≡ lookup rest n
    go later None is = ap (λ o. found o n (lookup (before ++ rest) n)) is ∙ later (sym (ap (λ o. found o n (lookup before n)) is) ∙ e)
    go later (Some z) is = here later z is (bytes_eq n z.name) refl

-- later ports have other names
later-ports : (ls : List Leaf) (all before : List Line) (ps : List Port) (rest : List Line) (n : Name) (x : Declared) → lookup before n ≡ Some x → Passes name_twice (sites_behind ls all before (map port ps ++ rest)) → has_input ps n ≡ false
unfolding name_twice
later-ports ls all before [] rest n x e p = refl
later-ports ls all before (q ∷ ps) rest n x e p =
    way q.output (later-ports ls all (before ++ port q ∷ []) ps rest n x (lookup-front before (port q ∷ []) n x e) p.1)
  where
    other : bytes_eq n q.name ≡ false
    other = false_from_ne_true (bytes_eq n q.name) (λ same. both_ways (is_some (lookup before q.name)) p.0 (ap (λ m. is_some (lookup before m)) (sym (one-name n q.name same)) ∙ ap is_some e))

    way : (b : Bool) → has_input ps n ≡ false → (if b then has_input ps n else (bytes_eq n q.name || has_input ps n)) ≡ false
    way true h = h
    way false h = or_from (bytes_eq n q.name) (has_input ps n) other h

-- each port is the first of its name
pub are-first : (ls : List Leaf) (all before : List Line) (ps : List Port) (rest : List Line) → all ≡ before ++ (map port ps ++ rest) → Passes name_twice (sites_behind ls all before (map port ps ++ rest)) → First all ps × Distinct ps
unfolding name_twice
are-first ls all before [] rest e p = (tt, tt)
are-first ls all before (q ∷ ps) rest e p =
    let none : lookup before q.name ≡ None = no-lookup (lookup before q.name) p.0 in
    let self = itself q.name in
    let here : lookup (port q ∷ (map port ps ++ rest)) q.name ≡ Some (port_declared q) = ap (λ b. if b then Some (port_declared q) else lookup (map port ps ++ rest) q.name) self in
    let whole : lookup all q.name ≡ Some (port_declared q) = ap (λ z. lookup z q.name) e ∙ lookup-behind before (port q ∷ (map port ps ++ rest)) q.name none ∙ here in
    let alone : lookup (port q ∷ []) q.name ≡ Some (port_declared q) = ap (λ b. if b then Some (port_declared q) else None) self in
    let now' : lookup (before ++ port q ∷ []) q.name ≡ Some (port_declared q) = lookup-behind before (port q ∷ []) q.name none ∙ alone in
    let more = are-first ls all (before ++ port q ∷ []) ps rest (e ∙ sym (append_assoc before (port q ∷ []) (map port ps ++ rest))) p.1 in
    ((whole, more.0), (later-ports ls all (before ++ port q ∷ []) ps rest q.name (port_declared q) now' p.1, more.1))

-- ---- what is an input port

no-input-item : (is : List TopItem) (n : Name) → kind_passes is_input (lookup (map joint is) n) ≡ false
no-input-item [] n = refl
no-input-item (Wire h m ∷ is) n = pick (bytes_eq n m) (no-input-item is n)
  where
    pick : (b : Bool) → kind_passes is_input (lookup (map joint is) n) ≡ false → kind_passes is_input (if b then Some (record { name = m; kind = Inner; high = h; last = 0 }) else lookup (map joint is) n) ≡ false
    pick true e = refl
    pick false e = e
no-input-item (Instance l m js ∷ is) n = pick (bytes_eq n m) (no-input-item is n)
  where
    pick : (b : Bool) → kind_passes is_input (lookup (map joint is) n) ≡ false → kind_passes is_input (if b then Some (record { name = m; kind = Child; high = 0; last = 0 }) else lookup (map joint is) n) ≡ false
    pick true e = refl
    pick false e = e

pub input-among : (ps : List Port) (is : List TopItem) (n : Name) → kind_passes is_input (lookup (map port ps ++ map joint is) n) ≡ true → has_input ps n ≡ true
input-among [] is n e = absurd (both_ways (kind_passes is_input (lookup (map joint is) n)) (no-input-item is n) e)
input-among (p ∷ ps) is n e = go p.output refl (bytes_eq n p.name) refl (input-among ps is n)
  where
    Rest : Option Declared
    Rest = lookup (map port ps ++ map joint is) n

    go : (b : Bool) → p.output ≡ b → (same : Bool) → bytes_eq n p.name ≡ same → (kind_passes is_input Rest ≡ true → has_input ps n ≡ true)
        → (if p.output then has_input ps n else (bytes_eq n p.name || has_input ps n)) ≡ true
    go true out true is' later = absurd (false≢true (sym (ap (λ (b : Bool). is_input (way_of b)) out) ∙ sym (ap (λ b. kind_passes is_input (if b then Some (port_declared p) else Rest)) is') ∙ e))
    go true out false other later = rw out (later (sym (ap (λ b. kind_passes is_input (if b then Some (port_declared p) else Rest)) other) ∙ e))
    go false out true is' later = rw (out, is') refl
    go false out false other later = rw (out, other) (later (sym (ap (λ b. kind_passes is_input (if b then Some (port_declared p) else Rest)) other) ∙ e))

module _ (all : List Line) where
  pub among-input : (ps : List Port) → First all ps → (n : Name) → has_input ps n ≡ true → is_kind is_input all n ≡ true
  among-input [] f n h = absurd (false≢true h)
  among-input (p ∷ ps) f n h = go p.output refl (bytes_eq n p.name) refl (among-input ps f.1 n)
    where
      go : (b : Bool) → p.output ≡ b → (same : Bool) → bytes_eq n p.name ≡ same → (has_input ps n ≡ true → is_kind is_input all n ≡ true) → is_kind is_input all n ≡ true
      go true out same is later = later (sym (ap (λ b. if b then has_input ps n else (bytes_eq n p.name || has_input ps n)) out) ∙ h)
      go false out true is later =
          ap (λ m. kind_passes is_input (lookup all m)) (one-name n p.name is) ∙ ap (kind_passes is_input) f.0 ∙ ap (λ b. is_input (way_of b)) out
      go false out false is later = later (sym (ap (λ b. if b then has_input ps n else (bytes_eq n p.name || has_input ps n)) out ∙ ap (λ b. b || has_input ps n) is) ∙ h)

  -- each number fits its port
  pub inputs-fit : (ps : List Port) → First all ps → (xs : List ℕ) → AreInputs ps xs → (n : Name) → has_input ps n ≡ true → inputs_of ps xs n < 2 ^ (widths all).net n
  inputs-fit [] f xs a n h = absurd (false≢true h)
  inputs-fit (p ∷ ps) f xs a n h = go (λ ys b. inputs-fit ps f.1 ys b n) p.output refl (bytes_eq n p.name) refl
    where
      Goal : ℕ → Type 0
      Goal x = x < 2 ^ (widths all).net n

      go : ((ys : List ℕ) → AreInputs ps ys → has_input ps n ≡ true → Goal (inputs_of ps ys n)) → (b : Bool) → p.output ≡ b → (same : Bool) → bytes_eq n p.name ≡ same
          → Goal (if p.output then inputs_of ps xs n else (if bytes_eq n p.name then slice_index xs 0 else inputs_of ps (drop 1 xs) n))
      go later true out same is =
          rw out (later xs (subst (λ b. FitsPort b p xs (λ more. AreInputs ps more)) out a) (sym (ap (λ b. if b then has_input ps n else (bytes_eq n p.name || has_input ps n)) out) ∙ h))
      go later false out true is =
          let fits = subst (λ b. FitsPort b p xs (λ more. AreInputs ps more)) out a in
          let one : n ≡ p.name = one-name n p.name is in
          let wide : (widths all).net n ≡ p.high + 1 = ap (widths all).net one ∙ ap net_bits f.0 ∙ ap (λ b. if is_net (way_of b) then p.high + 1 else 0) out in
          rw (out, is) (subst (λ k. slice_index xs 0 < 2 ^ k) (sym wide) fits.0)
      go later false out false is =
          let fits = subst (λ b. FitsPort b p xs (λ more. AreInputs ps more)) out a in
          rw (out, is) (later (drop 1 xs) fits.1 (sym (ap (λ b. if b then has_input ps n else (bytes_eq n p.name || has_input ps n)) out ∙ ap (λ b. b || has_input ps n) is) ∙ h))

  module _ (t : Name → ℕ) (places : ArePlaces all t) where
    name-net : (p : Port) → lookup all p.name ≡ Some (port_declared p) → is_kind is_net all p.name ≡ true
    name-net p e = ap (kind_passes is_net) e ∙ way p.output
      where
        way : (b : Bool) → is_net (way_of b) ≡ true
        way true = refl
        way false = refl

    pub length-with : (ps : List Port) (places : List ℕ) (xs tops : List ℕ) → length (with_ports ps places xs tops) ≡ length tops
    length-with [] qs xs tops = refl
    length-with (p ∷ ps) qs xs tops = go (length-with ps) p.output
      where
        go : ((qs xs tops : List ℕ) → length (with_ports ps qs xs tops) ≡ length tops) → (b : Bool) → length (if b then with_ports ps (drop 1 qs) xs tops else with_ports ps (drop 1 qs) (drop 1 xs) (slice_set tops (slice_index qs 0) (slice_index xs 0))) ≡ length tops
        go later true = later (drop 1 qs) xs tops
        go later false = later (drop 1 qs) (drop 1 xs) (slice_set tops (slice_index qs 0) (slice_index xs 0)) ∙ length-set tops (slice_index qs 0) (slice_index xs 0)

    pub others-stay : (ps : List Port) → First all ps → (xs tops : List ℕ) (n : Name) → is_kind is_net all n ≡ true → has_input ps n ≡ false → slice_index (with_ports ps (places_of t ps) xs tops) (t n) ≡ slice_index tops (t n)
    others-stay [] f xs tops n k h = refl
    others-stay (p ∷ ps) f xs tops n k h = go (λ ys more. others-stay ps f.1 ys more n k) p.output refl
      where
        go : ((ys more : List ℕ) → has_input ps n ≡ false → slice_index (with_ports ps (places_of t ps) ys more) (t n) ≡ slice_index more (t n)) → (b : Bool) → p.output ≡ b
            → slice_index (if p.output then with_ports ps (places_of t ps) xs tops else with_ports ps (places_of t ps) (drop 1 xs) (slice_set tops (t p.name) (slice_index xs 0))) (t n) ≡ slice_index tops (t n)
        go later true out = rw out (later xs tops (sym (ap (λ b. if b then has_input ps n else (bytes_eq n p.name || has_input ps n)) out) ∙ h))
        go later false out =
            let hs = or_parts (bytes_eq n p.name) (has_input ps n) (sym (ap (λ b. if b then has_input ps n else (bytes_eq n p.name || has_input ps n)) out) ∙ h) in
            rw out (later (drop 1 xs) (slice_set tops (t p.name) (slice_index xs 0)) hs.1
            ∙ get_or-set_other tops (t p.name) (t n) (slice_index xs 0) 0 (apart all t places p.name n (name-net p f.0) k hs.0))

    pub inputs-put : (ps : List Port) → First all ps → Distinct ps → (xs tops : List ℕ) → length all ≤ length tops → (n : Name) → is_kind is_net all n ≡ true → has_input ps n ≡ true
        → slice_index (with_ports ps (places_of t ps) xs tops) (t n) ≡ inputs_of ps xs n
    inputs-put [] f d xs tops room n k h = absurd (false≢true h)
    inputs-put (p ∷ ps) f d xs tops room n k h = go (λ ys more le. inputs-put ps f.1 d.1 ys more le n k) p.output refl (bytes_eq n p.name) refl
      where
        go : ((ys more : List ℕ) → length all ≤ length more → has_input ps n ≡ true → slice_index (with_ports ps (places_of t ps) ys more) (t n) ≡ inputs_of ps ys n) → (b : Bool) → p.output ≡ b → (same : Bool) → bytes_eq n p.name ≡ same
            → slice_index (if p.output then with_ports ps (places_of t ps) xs tops else with_ports ps (places_of t ps) (drop 1 xs) (slice_set tops (t p.name) (slice_index xs 0))) (t n)
            ≡ (if p.output then inputs_of ps xs n else (if bytes_eq n p.name then slice_index xs 0 else inputs_of ps (drop 1 xs) n))
        go later true out same is = rw out (later xs tops room (sym (ap (λ b. if b then has_input ps n else (bytes_eq n p.name || has_input ps n)) out) ∙ h))
        go later false out true is =
            let one : n ≡ p.name = one-name n p.name is in
            let at = low all t places p.name (name-net p f.0) in
            rw (out, is) (others-stay ps f.1 (drop 1 xs) (slice_set tops (t p.name) (slice_index xs 0)) n k (ap (has_input ps) one ∙ d.0)
            ∙ ap (λ m. slice_index (slice_set tops (t p.name) (slice_index xs 0)) (t m)) one ∙ get_or-set_same tops (t p.name) (slice_index xs 0) 0 (omega arith))
        go later false out false is =
            let more : length all ≤ length (slice_set tops (t p.name) (slice_index xs 0)) = subst (λ z. length all ≤ z) (sym (length-set tops (t p.name) (slice_index xs 0))) room in
            rw (out, is) (later (drop 1 xs) (slice_set tops (t p.name) (slice_index xs 0)) more
            (sym (ap (λ b. if b then has_input ps n else (bytes_eq n p.name || has_input ps n)) out ∙ ap (λ b. b || has_input ps n) is) ∙ h))
