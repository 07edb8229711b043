-- What is put on the input ports of a plan's text.
use Rattle.std.specs.Prelude.{ℕ, ◌+◌, ◌<◌, ◌^◌, Bool, List, [], ◌∷◌, ◌++◌, Option, Some, None, is_some}
use Rattle.vl_model.specs.Meaning.{one_if}
use Rattle.noc_model.specs.declared.Host.{Host}
use Rattle.noc_model.specs.declared.Offer.{Offer}
use Rattle.noc_model.specs.Driver.{Driver}
use Rattle.gen_kit.specs.Replayed.{address_of, payload_of, last_of}

-- the numbers of what an attachment offers, on four ports
abbrev pub offer_numbers : Option Offer → List ℕ
offer_numbers o = one_if (is_some o) ∷ address_of o ∷ payload_of o ∷ last_of o ∷ []

-- and whether it hears
abbrev pub host_numbers : Option Offer → Bool → List ℕ
host_numbers o hears = offer_numbers o ++ one_if hears ∷ []

-- those of all attachments, which are numbered from j on, in cycle t
abbrev pub all_numbers : Driver → ℕ → (ℕ → List ℕ) → ℕ → List Host → List ℕ
all_numbers v t states j [] = []
all_numbers v t states j (h ∷ hs) = host_numbers (v.offer j (states j) t) (v.hears j (states j) t)
    ++ all_numbers v t states (j + 1) hs

-- an offer's numbers are of 32 bits
abbrev pub IsSmallOffer : Option Offer → Type 0
IsSmallOffer None = Unit {0}
IsSmallOffer (Some o) = (o.address < 2 ^ 32) × (o.payload < 2 ^ 32)
