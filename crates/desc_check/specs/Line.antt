-- The line that is printed for a fault.
use Rattle.std.specs.Prelude.{ℕ, List, [], ◌∷◌, ◌++◌, codes, Option, Some, None}
use Rattle.std.specs.Fmt.{decimal}
use Rattle.std.specs.List.{flat_map}
use Rattle.noc_desc.specs.declared.DescFault.{DescFault}
use Rattle.noc_desc.specs.declared.DescFault.TheVariants.{NotToml, KeyUnknown, KeyMissing, KeyKind, Version, Shape, Dims, Stages, Buffer, DomainCount, DomainName, DomainTwice, Channels, TileRange, TileTwice, HostUnknown, HostTwice, RangeTile, RangeOrder, RangeOverlap, PlacesMany, AttachMany, SlotCount, SlotUnknown, SlotMissing, Memory}

-- the number of a fault; that memory ran out has none
abbrev pub fault_number : DescFault → Option ℕ
fault_number NotToml = Some 1
fault_number (KeyUnknown kind element key) = Some 2
fault_number (KeyMissing kind element key) = Some 3
fault_number (KeyKind kind element key) = Some 4
fault_number Version = Some 5
fault_number Shape = Some 6
fault_number Dims = Some 7
fault_number Stages = Some 8
fault_number Buffer = Some 9
fault_number DomainCount = Some 10
fault_number (DomainName i) = Some 11
fault_number (DomainTwice i j) = Some 12
fault_number (Channels i) = Some 13
fault_number (TileRange i) = Some 14
fault_number (TileTwice i j) = Some 15
fault_number (HostUnknown i k) = Some 16
fault_number (HostTwice i k) = Some 17
fault_number (RangeTile i) = Some 18
fault_number (RangeOrder i) = Some 19
fault_number (RangeOverlap i j) = Some 20
fault_number (PlacesMany count) = Some 21
fault_number (AttachMany count) = Some 22
fault_number SlotCount = Some 23
fault_number (SlotUnknown i) = Some 24
fault_number (SlotMissing i) = Some 25
fault_number (Memory e) = None

-- its indices, or the number that is too many
abbrev pub indices_of : DescFault → List ℕ
indices_of NotToml = []
indices_of (KeyUnknown kind element key) = kind ∷ element ∷ key ∷ []
indices_of (KeyMissing kind element key) = kind ∷ element ∷ key ∷ []
indices_of (KeyKind kind element key) = kind ∷ element ∷ key ∷ []
indices_of Version = []
indices_of Shape = []
indices_of Dims = []
indices_of Stages = []
indices_of Buffer = []
indices_of DomainCount = []
indices_of (DomainName i) = i ∷ []
indices_of (DomainTwice i j) = i ∷ j ∷ []
indices_of (Channels i) = i ∷ []
indices_of (TileRange i) = i ∷ []
indices_of (TileTwice i j) = i ∷ j ∷ []
indices_of (HostUnknown i k) = i ∷ k ∷ []
indices_of (HostTwice i k) = i ∷ k ∷ []
indices_of (RangeTile i) = i ∷ []
indices_of (RangeOrder i) = i ∷ []
indices_of (RangeOverlap i j) = i ∷ j ∷ []
indices_of (PlacesMany count) = count ∷ []
indices_of (AttachMany count) = count ∷ []
indices_of SlotCount = []
indices_of (SlotUnknown i) = i ∷ []
indices_of (SlotMissing i) = i ∷ []
indices_of (Memory e) = []

-- what the line begins with
abbrev pub head_of : Option ℕ → List ℕ
head_of None = codes "surf: no memory"
head_of (Some n) = codes "surf: description fault " ++ decimal n

-- each number after a blank
abbrev pub spaced : List ℕ → List ℕ
spaced numbers = flat_map (λ n. 32 ∷ decimal n) numbers

-- the line of a fault, with its LF
abbrev pub line_of : DescFault → List ℕ
line_of fault = head_of (fault_number fault) ++ spaced (indices_of fault) ++ 10 ∷ []
