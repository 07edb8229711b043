-- What ties the registers and memories of a tile's leaf to the tile parts of all domains, and what its inputs must be.
use Rattle.std.specs.Prelude.{◌≡◌, ◌≢◌, ℕ, ◌+◌, ◌-◌, ◌*◌, ◌/◌, ◌%◌, ◌<◌, ◌≤◌, ◌^◌, Bool, true, false, [], length, Option, Some, None, is_some, if◌then◌else◌, ◌==◌, ℤ, pos, ◌-ℤ◌, All}
use Rattle.vl_tree.specs.Values.{Name}
use Rattle.vl_model.specs.Meaning.{Values, one_if}
use Rattle.gen_buffer.specs.Fifo.{FifoNames}
use Rattle.noc_model.specs.declared.Flit.{Flit}
use Rattle.noc_model.specs.declared.LinkFlit.{LinkFlit}
use Rattle.noc_model.specs.declared.Offer.{Offer}
use Rattle.noc_model.specs.declared.Packet.{Packet}
use Rattle.noc_model.specs.declared.Packet.TheVariants.{Between, Passing, Dropping}
use Rattle.noc_model.specs.declared.Stage.TheVariants.{Idle}
use Rattle.noc_model.specs.Plan.{Plan, channels, link_channels, classes, ports, in_channels, at_local, hosts}
use Rattle.noc_model.specs.Place.{neighbour, opposite, owner, route}
use Rattle.noc_model.specs.Shared.{own_places}
use Rattle.noc_model.specs.SoundState.{IsSoundTile, GoesHome}
use Rattle.noc_model.specs.Tile.{Tile, TileIn}
use Rattle.gen_kit.specs.Masks.{mask}
use Rattle.gen_kit.specs.Rotate.{RotateNames, PointsTo}
use Rattle.leaf_tie.specs.Places.{stage_at, is_idle}
use Rattle.leaf_tie.specs.Alloc.{AllocNames, AllocSize, AllocTie}
use Rattle.noc_model.specs.Step.{waits_for}
use Rattle.leaf_tie.specs.Switch.{goes_by}
use Rattle.leaf_tie.specs.Slots.{SlotNames, Counts, leaving_slot, arriving_slot}
use Rattle.leaf_tie.specs.Buffers.{BufferSize, BufferTie, link_code}

-- ---- what there is at a tile

-- the output is a link
abbrev pub HasLink : Plan → ℕ → ℕ → Type 0
HasLink p n port = (port < ports p) × (is_some (neighbour p n port) ≡ true)

-- a port that the domain has there: the local one where the tile hosts it
abbrev pub HasPort : Plan → ℕ → ℕ → ℕ → Type 0
HasPort p n d port = at_local port (hosts p n d ≡ true) (HasLink p n port)

-- the domain has the channel at the input port
abbrev pub HasPlace : Plan → ℕ → ℕ → ℕ → ℕ → Type 0
HasPlace p n d port c = HasPort p n d port × (c < in_channels p d port)

-- whether the domain has one channel at each port
abbrev pub is_lone : Plan → ℕ → Bool
is_lone p d = link_channels p d == 1

-- ---- names

-- the registers and memories of a leaf
pub record LeafNames : Type 0 where
  -- by the number of a slot in cycle 0
  pub slot : ℕ → SlotNames
  -- by output and place of a link
  pub row : ℕ → ℕ → Name
  -- by domain and output
  pub alloc : ℕ → ℕ → AllocNames
  pub switch : ℕ → ℕ → RotateNames
  pub credits : ℕ → ℕ → ℕ → Name
  -- by domain and input port
  pub turn : ℕ → ℕ → RotateNames
  pub pulse : ℕ → ℕ → Name
  pub buffer : ℕ → ℕ → ℕ → FifoNames
  -- by domain
  pub idle : ℕ → Name
  pub passing : ℕ → Name
  pub dropping : ℕ → Name
  pub dest : ℕ → Name
  pub current : ℕ → Name
  pub dropped : ℕ → Name
  pub ejected : ℕ → Name

-- ---- codes

-- a flit as a number: head, tail, destination and payload
abbrev pub flit_code : ℕ → Flit → ℕ
flit_code dest_bits f = ((one_if f.head * 2 + one_if f.tail) * 2 ^ dest_bits + f.dest) * 2 ^ 32 + f.payload

-- a buffer's word: one bit for the output, of as many as there are ports, then the flit
abbrev pub word_code : Plan → ℕ → ℕ → Flit → ℕ
word_code p n dest_bits f = 2 ^ route p n f.dest * 2 ^ (34 + dest_bits) + flit_code dest_bits f

-- the payload has 32 bits
abbrev pub IsWord : Flit → Type 0
IsWord f = f.payload < 2 ^ 32

-- an ejection place: a bit 1, head, tail, payload
abbrev pub ejected_code : Option Flit → ℕ
ejected_code None = 0
ejected_code (Some f) = ((2 + one_if f.head) * 2 + one_if f.tail) * 2 ^ 32 + f.payload

-- ---- the tie of one domain

-- how many classes the output's channels have
abbrev pub class_count : Plan → ℕ → ℕ
class_count p o = at_local o 1 (classes p)

-- the sizes of the output's allocation
abbrev pub alloc_size : Plan → ℕ → ℕ → AllocSize
alloc_size p d o = record {
  high = ports p * link_channels p d - 1;
  size = at_local o 1 (channels p d) - 1;
  last = class_count p o - 1;
}

-- the packet that is given in
abbrev pub PacketTie : Name → Name → Name → Values → Packet → Type 0
PacketTie passing dropping dest v Between = (v.net passing ≡ 0) × (v.net dropping ≡ 0)
PacketTie passing dropping dest v (Passing to) = (v.net passing ≡ 1) × (v.net dropping ≡ 0) × (v.net dest ≡ to)
PacketTie passing dropping dest v Dropping = (v.net passing ≡ 0) × (v.net dropping ≡ 1)

-- the registers and memories hold the tile part of one domain
pub record DomainTie (p : Plan) (n d : ℕ) (names : LeafNames) (size : BufferSize) (dest_bits : ℕ) (v : Values)
    (t : ℤ) (s : Tile) : Type 0 where
  pub idle : v.net (names.idle d) ≡ mask (ports p * link_channels p d) (λ place. is_idle (stage_at p d s place))
  pub outputs : (o : ℕ) → HasPort p n d o → AllocTie p d o (names.alloc d o) (alloc_size p d o) v s
  -- with more channels than one the switch has pointers for all ports, also for those that are not there
  pub switches : (o : ℕ) → o < ports p → (is_lone p d ≡ true → HasPort p n d o)
      → PointsTo (names.switch d o) (ports p - 1) v (s.switch o)
  pub credits : (o x : ℕ) → HasLink p n o → x < link_channels p d → v.net (names.credits d o x) ≡ s.credits o x
  pub turns : is_lone p d ≡ false → (port : ℕ) → port < ports p
      → PointsTo (names.turn d port) (link_channels p d - 1) v (s.turn port)
  pub pulses : (port : ℕ) → HasLink p n port → v.net (names.pulse d port) ≡ mask (link_channels p d) (s.pulse port)
  pub buffers : (port c : ℕ) → HasPlace p n d port c → BufferTie (word_code p n dest_bits)
      (names.buffer d port c) size v (s.queue port c)
  pub packet : hosts p n d ≡ true → PacketTie (names.passing d) (names.dropping d) (names.dest d) v s.packet
  pub current : hosts p n d ≡ true → v.net (names.current d) ≡ s.current
  pub dropped : hosts p n d ≡ true → v.net (names.dropped d) ≡ one_if s.dropped
  pub ejected : hosts p n d ≡ true → v.net (names.ejected d) ≡ ejected_code s.ejected
  -- what needs no register: places that are not there stay empty and idle, and the model's own invariant
  pub absent : (port c : ℕ) → (HasPlace p n d port c → ⊥) → (s.queue port c ≡ []) × (s.stage port c ≡ Idle)
  pub sound : IsSoundTile p d n t s
  pub within : (o x : ℕ) → HasLink p n o → s.credits o x ≤ p.buffer
  pub short : (port c : ℕ) → length (s.queue port c) ≤ p.buffer
  pub words : (port c : ℕ) → All IsWord (s.queue port c)
  pub held : (f : Flit) → s.ejected ≡ Some f → IsWord f
  -- no packet goes by the local output where the tile doesn't host the domain
  pub home : hosts p n d ≡ false → (port c : ℕ) → (goes_by (s.stage port c) 0 ≡ false)
      × (waits_for (s.stage port c) 0 ≡ false)

-- ---- the tie of the leaf

-- in cycle t the counters name the links' slots, and the row of each leaving link is each domain's in its own places
pub record LeafTie (p : Plan) (n : ℕ) (names : LeafNames) (size : BufferSize) (dest_bits link_flit link_channel : ℕ)
    (v : Values) (t : ℕ) (s : ℕ → Tile) (shared : ℕ → ℕ → Option LinkFlit) : Type 0 where
  pub leaving : (o : ℕ) → HasLink p n o → Counts (names.slot (leaving_slot p n o)) p.slots (leaving_slot p n o) t v
  pub arriving : (port m : ℕ) → neighbour p n port ≡ Some m → Counts (names.slot (arriving_slot p m
      (opposite port))) p.slots (arriving_slot p m (opposite port)) t v
  pub rows : (o i : ℕ) → HasLink p n o → i < p.stages → v.net (names.row o i) ≡ link_code
      (flit_code dest_bits) link_flit link_channel (shared o i)
  pub payloads : (o i : ℕ) (x : LinkFlit) → HasLink p n o → shared o i ≡ Some x → IsWord x.flit
  pub own : (d o i : ℕ) → o ≢ 0 → (s d).row o i ≡ own_places p d n o (pos t) (shared o) i
  pub domains : (d : ℕ) → d < length p.domains → DomainTie p n d names size dest_bits v (pos t) (s d)

-- ---- what the inputs must be

-- ports of the leaf
pub record PortNames : Type 0 where
  pub link_in : ℕ → Name
  -- the bundle and the bit of a credit, by port and credit number
  pub credit_in : ℕ → ℕ → Name
  pub credit_bit : ℕ → ℕ
  -- by domain
  pub offered : ℕ → Name
  pub address : ℕ → Name
  pub payload : ℕ → Name
  pub last : ℕ → Name
  pub hears : ℕ → Name

-- the ports show the offer
abbrev pub OfferShown : PortNames → ℕ → Values → Option Offer → Type 0
OfferShown q d v None = v.net (q.offered d) ≡ 0
OfferShown q d v (Some x) = (v.net (q.offered d) ≡ 1) × (v.net (q.address d) ≡ x.address)
    × (v.net (q.payload d) ≡ x.payload) × (v.net (q.last d) ≡ one_if x.last)

-- one word on the port for all domains, and each domain has it where its slot was the filling one
pub record PortIn (p : Plan) (n port m : ℕ) (q : PortNames) (dest_bits link_flit link_channel : ℕ) (v : Values)
    (t : ℕ) (s : ℕ → Tile) (i : ℕ → TileIn) (word : Option LinkFlit) : Type 0 where
  pub shown : v.net (q.link_in port) ≡ link_code (flit_code dest_bits) link_flit link_channel word
  pub its_own : (d : ℕ) → (i d).arrives port ≡ (if owner p m (opposite port)
      (pos t -ℤ pos p.stages) == d then word else None)
  pub channel : (d : ℕ) (x : LinkFlit) → (i d).arrives port ≡ Some x → (x.channel < link_channels p d)
      × (length ((s d).queue port x.channel) < p.buffer) × GoesHome p d x.flit
  pub payload : (x : LinkFlit) → word ≡ Some x → IsWord x.flit

-- what the ports show is what comes to each domain, and it keeps the conditions of a tile's inputs
pub record LeafIn (p : Plan) (n : ℕ) (q : PortNames) (base : ℕ
    → ℕ) (dest_bits link_flit link_channel : ℕ) (v : Values) (t : ℕ) (s : ℕ → Tile) (i : ℕ → TileIn) : Type 0 where
  pub links : (port m : ℕ) → neighbour p n port ≡ Some m → (word : Option LinkFlit)
      × PortIn p n port m q dest_bits link_flit link_channel v t s i word
  pub unlinked : (d port : ℕ) → neighbour p n port ≡ None → (i d).arrives port ≡ None
  pub returns : (d o x : ℕ) → d < length p.domains → HasLink p n o → x < link_channels p d
      → v.net (q.credit_in o (base d + x)) / 2 ^ q.credit_bit (base d + x) % 2 ≡ one_if ((i d).returns o x)
  pub room : (d o x : ℕ) → HasLink p n o → (i d).returns o x ≡ true → (s d).credits o x < p.buffer
  pub offers : (d : ℕ) → hosts p n d ≡ true → OfferShown q d v (i d).offer × (v.net (q.hears d) ≡ one_if (i d).hears)
  pub payloads : (d : ℕ) (x : Offer) → (i d).offer ≡ Some x → x.payload < 2 ^ 32
  pub unhosted : (d : ℕ) → hosts p n d ≡ false → ((i d).offer ≡ None) × ((i d).hears ≡ false)
