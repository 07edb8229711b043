-- The numbers of the input ports, attachment by attachment.
use Rattle.std.proofs.Common.{◌≡◌, ℕ, zero, suc, ◌+◌, ◌-◌, ◌<◌, ◌≤◌, ◌^◌, Bool, true, false, List, [], ◌∷◌, ◌++◌, length, take, drop, refl, sym, ◌∙◌, ap, subst, arith, add-one, below_more}
use Rattle.std.specs.Prelude.{Option, Some, None, slice_get, is_some, flat_map}
use Rattle.std.proofs.lemmas.List.{append_assoc, append-nil, length-take-le}
use Rattle.std.proofs.lemmas.Option.{none-some}
use Rattle.vl_tree.specs.declared.tree.Port.{Port}
use Rattle.vl_model.specs.Meaning.{one_if}
use Rattle.noc_model.specs.declared.Host.{Host}
use Rattle.noc_model.specs.declared.Offer.{Offer}
use Rattle.noc_model.specs.Driver.{Driver}
use Rattle.gen_kit.specs.Ports.{host_ports}
use Rattle.vl_run.specs.Stands.{AreInputs}
use Rattle.surf_replay.specs.Feed.{host_numbers, all_numbers, IsSmallOffer}

pub taken-more : {A : Type 0} (xs : List A) (i : ℕ) (x : A) → slice_get xs i ≡ Some x
    → take (i + 1) xs ≡ take i xs ++ x ∷ []
taken-more [] i x is = absurd (none-some x is)
taken-more (y ∷ xs) zero x is = let one : y ≡ x = cc in ap (λ z. z ∷ []) one
taken-more (y ∷ xs) (suc i) x is =
    rw (add-one (suc i)) (ap (λ z. y ∷ z) (ap (λ k. take k xs) (sym (add-one i)) ∙ taken-more xs i x is))

module _ (v : Driver) (t : ℕ) (states : ℕ → List ℕ) where
  abbrev Numbers : ℕ → List ℕ
  Numbers j = host_numbers (v.offer j (states j) t) (v.hears j (states j) t)

  numbers-behind : (j : ℕ) (hs : List Host) (h : Host) (k : ℕ) → k ≡ j + length hs
      → all_numbers v t states j (hs ++ h ∷ []) ≡ all_numbers v t states j hs ++ Numbers k
  numbers-behind j [] h k e = let same : j ≡ k = omega arith in append-nil (Numbers j) ∙ ap Numbers same
  numbers-behind j (g ∷ hs) h k e =
      ap (λ z. Numbers j ++ z) (numbers-behind (j + 1) hs h k (omega arith))
      ∙ sym (append_assoc (Numbers j) (all_numbers v t states (j + 1) hs) (Numbers k))

  pub one-more-host : (hs : List Host) (j : ℕ) (h : Host) → slice_get hs j ≡ Some h → j ≤ length hs
      → all_numbers v t states 0 (take (j + 1) hs) ≡ all_numbers v t states 0 (take j hs) ++ Numbers j
  one-more-host hs j h at le =
      ap (all_numbers v t states 0) (taken-more hs j h at)
      ∙ numbers-behind 0 (take j hs) h j (omega (arith, length-take-le j hs le))

bit-fits : (b : Bool) → one_if b < 2 ^ (0 + 1)
bit-fits true = omega arith
bit-fits false = omega arith

host-fits : (h : Host) (o : Option Offer) (hears : Bool) (ps : List Port) (xs : List ℕ) → IsSmallOffer o
    → AreInputs ps xs → AreInputs (host_ports h ++ ps) (host_numbers o hears ++ xs)
host-fits h None hears ps xs s rest = (omega arith, (omega arith, (omega arith, (omega arith, (bit-fits hears, rest)))))
host-fits h (Some o) hears ps xs s rest = (omega arith, (s.0, (s.1, (bit-fits o.last, (bit-fits hears, rest)))))

-- numbers of small offers fit the plan's ports
pub all-fit : (v : Driver) (t : ℕ) (states : ℕ → List ℕ) (hs : List Host) (j : ℕ)
    → ((k : ℕ) → j ≤ k → k < j + length hs → IsSmallOffer (v.offer k (states k) t))
    → AreInputs (flat_map host_ports hs) (all_numbers v t states j hs)
all-fit v t states [] j small = tt
all-fit v t states (h ∷ hs) j small =
    host-fits h (v.offer j (states j) t) (v.hears j (states j) t) (flat_map host_ports hs) (all_numbers v t states (j + 1) hs) (small j (omega arith) (omega arith))
    (all-fit v t states hs (j + 1) (λ k a b. small k (omega arith) (omega arith)))

pub small-below : (v : Driver) (t : ℕ) (states : ℕ → List ℕ) (j : ℕ)
    → ((k : ℕ) → k < j → IsSmallOffer (v.offer k (states k) t)) → IsSmallOffer (v.offer j (states j) t)
    → (k : ℕ) → k < j + 1 → IsSmallOffer (v.offer k (states k) t)
small-below v t states j below here = below_more (λ k. IsSmallOffer (v.offer k (states k) t)) j below here

pub there : {A : Type 0} (xs : List A) (j : ℕ) → j < length xs → (x : A) × (slice_get xs j ≡ Some x)
there [] j h = absurd (omega arith)
there (x ∷ xs) zero h = (x, refl)
there (x ∷ xs) (suc j) h = there xs j (omega arith)
