-- Small networks, and what is offered to them.
use Rattle.std.specs.Prelude.{ℕ, zero, suc, Bool, true, false, List, [], ◌∷◌, ◌++◌, Some, None, ◌==◌, if◌then◌else◌}
use Rattle.noc_model.specs.declared.plan.DomainPart.{DomainPart}
use Rattle.noc_model.specs.declared.Host.{Host}
use Rattle.noc_model.specs.declared.Range.{Range}
use Rattle.noc_model.specs.declared.Offer.{Offer}
use Rattle.noc_model.specs.Plan.{Plan}
use Rattle.noc_model.specs.Run.{Input}

-- ---- networks

-- domains with the names a, b, c and so on, of this many channels
abbrev pub named_from : ℕ → List ℕ → List DomainPart
named_from name [] = []
named_from name (channels ∷ more) = record { name = name ∷ []; channels = channels } ∷ named_from (suc name) more

-- a network of these sides with one domain, hosted nowhere
abbrev pub plain : Bool → List ℕ → Plan
plain torus dims = record {
  torus = torus;
  dims = dims;
  stages = 1;
  buffer = 2;
  domains = named_from 97 (1 ∷ []);
  hosts = [];
  ranges = [];
  slots = 0 ∷ [];
}

-- domain 0 at each of these tiles
abbrev pub alone_at : List ℕ → List Host
alone_at [] = []
alone_at (n ∷ ns) = record { tile = n; domain = 0 } ∷ alone_at ns

-- the domains at the tile
abbrev pub all_at : ℕ → List ℕ → List Host
all_at n [] = []
all_at n (d ∷ ds) = record { tile = n; domain = d } ∷ all_at n ds

-- a range of a tile
abbrev pub range : ℕ → ℕ → ℕ → Range
range tile first last = record { tile = tile; first = first; last = last }

-- one tile that hosts one domain
abbrev pub one_tile : Plan
one_tile = record (plain false (1 ∷ [])) { hosts = alone_at (0 ∷ []); ranges = range 0 0x10 0x1f ∷ [] }

-- two tiles that host two domains each
abbrev pub two_tiles : Plan
two_tiles = record (plain false (2 ∷ [])) {
  domains = named_from 97 (1 ∷ 1 ∷ []);
  hosts = all_at 0 (0 ∷ 1 ∷ []) ++ all_at 1 (0 ∷ 1 ∷ []);
  ranges = range 0 0x0 0xff ∷ range 1 0x100 0x1ff ∷ [];
  slots = 0 ∷ 1 ∷ [];
}

-- a row of three tiles, and one domain
abbrev pub three_in_a_row : Plan
three_in_a_row = record (plain false (3 ∷ []))
    { buffer = 4; hosts = alone_at (0 ∷ 1 ∷ 2 ∷ []); ranges = range 1 0x100 0x1ff ∷ [] }

-- a ring of three tiles, and one domain
abbrev pub ring_of_three : Plan
ring_of_three = record (plain true (3 ∷ [])) { hosts = alone_at (0 ∷ 1 ∷ 2 ∷ []); ranges = range 0 0x0 0xff ∷ [] }

-- a ring of four tiles, of which two host the domain
abbrev pub ring_of_four : Plan
ring_of_four = record (plain true (4 ∷ [])) { hosts = alone_at (0 ∷ 2 ∷ []); ranges = range 2 0x200 0x2ff ∷ [] }

-- a row of five tiles whose ends host three domains, with links of four registers
abbrev pub five_in_a_row : Plan
five_in_a_row = record (plain false (5 ∷ [])) {
  stages = 4;
  domains = named_from 97 (1 ∷ 1 ∷ 1 ∷ []);
  hosts = all_at 0 (0 ∷ 1 ∷ 2 ∷ []) ++ all_at 4 (0 ∷ 1 ∷ 2 ∷ []);
  ranges = range 0 0x0 0xff ∷ range 4 0x400 0x4ff ∷ [];
  slots = 0 ∷ 1 ∷ 2 ∷ [];
}

-- tile 0 hosts the one domain, and tile 1 the other
abbrev pub split_domains : Plan
split_domains = record two_tiles { hosts = all_at 0 (0 ∷ []) ++ all_at 1 (1 ∷ []); ranges = range 1 0x100 0x1ff ∷ [] }

-- two tiles whose first domain owns two of three slots
abbrev pub weighted_slots : Plan
weighted_slots = record two_tiles { slots = 0 ∷ 0 ∷ 1 ∷ [] }

-- three dimensions of two tiles, of which the first and the last host the domain
abbrev pub cube : Plan
cube = record (plain false (2 ∷ 2 ∷ 2 ∷ [])) { hosts = alone_at (0 ∷ 7 ∷ []); ranges = range 7 0x700 0x7ff ∷ [] }

-- ---- inputs

-- nothing is offered, and all hear
abbrev pub quiet : Input
quiet = record { offer = λ n. None; hears = λ n. true }

-- as many quiet cycles
unfoldable pub quiet_for : ℕ → List Input
quiet_for zero = []
quiet_for (suc n) = quiet ∷ quiet_for n

-- one tile is offered a word
abbrev pub offered : ℕ → Offer → Input
offered n x = record { offer = λ m. if m == n then Some x else None; hears = λ m. true }

-- the only word of a packet
abbrev pub alone : ℕ → ℕ → Offer
alone address payload = record { address = address; payload = payload; last = true }

-- the same, where nobody hears
abbrev pub deaf : Input → Input
deaf x = record x { hears = λ n. false }
