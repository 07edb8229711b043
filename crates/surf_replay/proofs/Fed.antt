-- What the driver puts on the input ports is what the text reads there.
use Rattle.std.proofs.Common.{◌≡◌, ◌≢◌, ℕ, zero, suc, ◌+◌, ◌<◌, ◌≤◌, Bool, true, false, List, [], ◌∷◌, ◌++◌, refl, sym, ◌∙◌, ap, subst, bytes_eq, arith}
use Rattle.std.specs.Prelude.{Option, Some, None, is_some, slice_get, flat_map, codes, if◌then◌else◌, ◌||◌, ◌==◌}
use Rattle.std.proofs.Math.Path.{fun_ext}
use Rattle.std.proofs.lemmas.Option.{none-some}
use Rattle.std.proofs.lemmas.Bool.{both_ways, or_parts, or_right, false≢true}
use Rattle.vl_tree.specs.declared.tree.Port.{Port}
use Rattle.vl_tree.specs.Values.{Name}
use Rattle.vl_model.specs.Meaning.{one_if}
use Rattle.vl_model.proofs.Settling.{one-name, itself}
use Rattle.noc_model.specs.declared.Host.{Host}
use Rattle.noc_model.specs.declared.Offer.{Offer}
use Rattle.noc_model.specs.Driver.{Driver}
use Rattle.gen_kit.specs.Ports.{host_name, host_ports}
use Rattle.gen_kit.specs.Replayed.{address_of, payload_of, last_of, host_input, driven_inputs}
use Rattle.vl_run.specs.Top.{inputs_of}
use Rattle.vl_run.proofs.Inputs.{has_input, Distinct}
use Rattle.surf_replay.specs.Feed.{host_numbers, all_numbers}

module _ (v : Driver) (t : ℕ) (states : ℕ → List ℕ) where
  same-input : (hs : List Host) (j : ℕ) (n : Name)
      → inputs_of (flat_map host_ports hs) (all_numbers v t states j hs) n ≡ driven_inputs v t states j hs n
  same-input [] j n = refl
  same-input (h ∷ hs) j n =
      ap (host_input h (v.offer j (states j) t) (v.hears j (states j) t) n) (same-input hs (j + 1) n)

  -- the numbers by the list are those by name
  pub same-inputs : (hs : List Host)
      → inputs_of (flat_map host_ports hs) (all_numbers v t states 0 hs) ≡ driven_inputs v t states 0 hs
  same-inputs hs = fun_ext (same-input hs 0)

-- ---- by names

-- a name of the attachment's input ports
abbrev pub Owns : Host → Name → Type 0
Owns h n = has_input (host_ports h) n ≡ true

any-more : (a b c d e r : Bool) → (a || (b || (c || (d || (e || false))))) ≡ true
    → (a || (b || (c || (d || (e || r))))) ≡ true
any-more true b c d e r h = refl
any-more false true c d e r h = refl
any-more false false true d e r h = refl
any-more false false false true e r h = refl
any-more false false false false true r h = refl
any-more false false false false false r h = absurd (false≢true h)

any-behind : (a b c d e r : Bool) → r ≡ true → (a || (b || (c || (d || (e || r))))) ≡ true
any-behind true b c d e r h = refl
any-behind false true c d e r h = refl
any-behind false false true d e r h = refl
any-behind false false false true e r h = refl
any-behind false false false false true r h = refl
any-behind false false false false false r h = h

abbrev named : List ℕ → Host → Name → Bool
named front h n = bytes_eq n (host_name front h)

pub among : (hs : List Host) (i : ℕ) (h : Host) → slice_get hs i ≡ Some h → (n : Name) → Owns h n
    → has_input (flat_map host_ports hs) n ≡ true
among [] i h e n own = absurd (none-some h e)
among (g ∷ hs) zero h e n own =
    let one : g ≡ h = cc in
    let mine : has_input (host_ports g) n ≡ true = subst (λ z. has_input (host_ports z) n ≡ true) (sym one) own in
    any-more (named (codes "ov") g n) (named (codes "oa") g n) (named (codes "op") g n) (named (codes "ol") g n) (named (codes "hr") g n) (has_input (flat_map host_ports hs) n) mine
among (g ∷ hs) (suc i) h e n own =
    any-behind (named (codes "ov") g n) (named (codes "oa") g n) (named (codes "op") g n) (named (codes "ol") g n) (named (codes "hr") g n) (has_input (flat_map host_ports hs) n) (among hs i h e n own)

-- a name of a later attachment is none of this one's
apart : (ps : List Port) (n m : Name) → has_input ps n ≡ true → has_input ps m ≡ false → bytes_eq n m ≡ false
apart ps n m a b = go (bytes_eq n m) refl
  where
    go : (c : Bool) → bytes_eq n m ≡ c → bytes_eq n m ≡ false
    go true same = absurd (both_ways (has_input ps n) (ap (has_input ps) (one-name n m same) ∙ b) a)
    go false other = other

skip : (g : Host) (o : Option Offer) (hears : Bool) (ps : List Port) (n : Name) (y : ℕ) → Distinct (host_ports g ++ ps)
    → has_input ps n ≡ true → host_input g o hears n y ≡ y
skip g o hears ps n y d h =
    let e0 = apart ps n (host_name (codes "ov") g) h d.0 in
    let e1 = apart ps n (host_name (codes "oa") g) h d.1.0 in
    let e2 = apart ps n (host_name (codes "op") g) h d.1.1.0 in
    let e3 = apart ps n (host_name (codes "ol") g) h d.1.1.1.0 in
    let e4 = apart ps n (host_name (codes "hr") g) h d.1.1.1.1.0 in
    rw (e0, e1, e2, e3, e4) refl

module _ (v : Driver) (t : ℕ) (states : ℕ → List ℕ) where
  abbrev Given : ℕ → Host → Name → ℕ → ℕ
  Given k h n y = host_input h (v.offer k (states k) t) (v.hears k (states k) t) n y

  given-at : (hs : List Host) (j i k : ℕ) (h : Host) → k ≡ j + i → slice_get hs i ≡ Some h
      → Distinct (flat_map host_ports hs) → (n : Name) → Owns h n
      → (y : ℕ) × (driven_inputs v t states j hs n ≡ Given k h n y)
  given-at [] j i k h is e d n own = absurd (none-some h e)
  given-at (g ∷ hs) j zero k h is e d n own =
      let one : g ≡ h = cc in
      let same : j ≡ k = omega arith in
      (driven_inputs v t states (j + 1) hs n, ap (λ z. Given j z n (driven_inputs v t states (j + 1) hs n)) one ∙ ap (λ z. Given z h n (driven_inputs v t states (j + 1) hs n)) same)
  given-at (g ∷ hs) j (suc i) k h is e d n own =
      let later = given-at hs (j + 1) i k h (omega arith) e d.1.1.1.1.1.1.1.1.1.1.1 n own in
      (later.0, skip g (v.offer j (states j) t) (v.hears j (states j) t) (flat_map host_ports hs) n (driven_inputs v t states (j + 1) hs n) d (among hs i h e n own) ∙ later.1)

  module _ (hs : List Host) (j : ℕ) (h : Host) (at : slice_get hs j ≡ Some h) (d : Distinct (flat_map host_ports hs)) where
    abbrev o : Option Offer
    o = v.offer j (states j) t

    abbrev hears : Bool
    hears = v.hears j (states j) t

    abbrev given : Name → ℕ
    given = driven_inputs v t states 0 hs

    start : j ≡ 0 + j
    start = omega arith

    pub given-ov : given (host_name (codes "ov") h) ≡ one_if (is_some o)
    given-ov =
        let n : Name = host_name (codes "ov") h in
        let self = itself n in
        let g = given-at hs 0 j j h start at d n (rw self refl) in
        g.1 ∙ rw self refl

    pub given-oa : given (host_name (codes "oa") h) ≡ address_of o
    given-oa =
        let n : Name = host_name (codes "oa") h in
        let self = itself n in
        let g = given-at hs 0 j j h start at d n (rw self refl) in
        g.1 ∙ rw self refl

    pub given-op : given (host_name (codes "op") h) ≡ payload_of o
    given-op =
        let n : Name = host_name (codes "op") h in
        let self = itself n in
        let g = given-at hs 0 j j h start at d n (rw self refl) in
        g.1 ∙ rw self refl

    pub given-ol : given (host_name (codes "ol") h) ≡ last_of o
    given-ol =
        let n : Name = host_name (codes "ol") h in
        let self = itself n in
        let g = given-at hs 0 j j h start at d n (rw self refl) in
        g.1 ∙ rw self refl

    pub given-hr : given (host_name (codes "hr") h) ≡ one_if hears
    given-hr =
        let n : Name = host_name (codes "hr") h in
        let self = itself n in
        let g = given-at hs 0 j j h start at d n (rw self refl) in
        g.1 ∙ rw self refl
