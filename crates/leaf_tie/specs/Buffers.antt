-- The list of one input channel, in a memory: filled from a link or by the attachment, emptied by the switch.
use Rattle.std.specs.Prelude.{◌≡◌, ℕ, ◌+◌, ◌-◌, ◌*◌, ◌<◌, ◌≤◌, ◌^◌, Bool, true, false, List, [], ◌∷◌, length, map, Option, Some, None, if◌then◌else◌, ℤ}
use Rattle.vl_tree.specs.declared.tree.Op.TheVariants.{And, Equal}
use Rattle.vl_tree.specs.Values.{Name, Expr, net, bit, part, two, wire, assign}
use Rattle.vl_model.specs.Meaning.{Values, one_if}
use Rattle.gen_kit.specs.Families.{in_bits}
use Rattle.gen_buffer.specs.Fifo.{FifoNames, fifo_items, IsList}
use Rattle.noc_model.specs.declared.Flit.{Flit}
use Rattle.noc_model.specs.declared.LinkFlit.{LinkFlit}
use Rattle.noc_model.specs.Plan.{Plan}
use Rattle.noc_model.specs.Tile.{Tile, TileIn}
use Rattle.noc_model.specs.Step.{leaves, comes_in}
use Rattle.gen_kit.specs.Groups.{Group}

-- bh, lh and wh: one less than the bits of the pointers, of the length and of the words
pub record BufferSize : Type 0 where
  pub bh : ℕ
  pub lh : ℕ
  pub wh : ℕ

-- the nets that move it are declared first and assigned later; the word is a net that several buffers share
abbrev pub buffer_group : FifoNames → BufferSize → Expr → Expr → Group
buffer_group n z push pop = record {
  heads = wire 0 n.push ∷ wire 0 n.pop ∷ fifo_items n z.bh z.lh z.wh;
  nets = assign n.push push ∷ assign n.pop pop ∷ [];
  moves = [];
}

-- the memory has the list's words, in the code of flits
abbrev pub BufferTie : (Flit → ℕ) → FifoNames → BufferSize → Values → List Flit → Type 0
BufferTie code n z v q = IsList n z.bh v (map code q)

-- whether there is a flit
abbrev pub is_filled : List Flit → Bool
is_filled [] = false
is_filled (f ∷ fs) = true

-- what the nets that move it show
pub record BufferIn (p : Plan) (d n port c : ℕ) (code : Flit
    → ℕ) (b : FifoNames) (v : Values) (t : ℤ) (s : Tile) (i : TileIn) : Type 0 where
  pub push : v.net b.push ≡ one_if (is_filled (comes_in p d s i port c))
  pub word : (f : Flit) → comes_in p d s i port c ≡ f ∷ [] → v.net b.word ≡ code f
  pub pop : v.net b.pop ≡ one_if (leaves p d n t s i port c)
  -- what a tile asks of its inputs: a flit comes only where there is room
  pub short : length (s.queue port c) ≤ p.buffer
  pub room : is_filled (comes_in p d s i port c) ≡ true → length (s.queue port c) < p.buffer

-- ---- words on a link

-- a bit 1, the channel in channel_bits, the flit in flit_bits
abbrev pub link_code : (Flit → ℕ) → ℕ → ℕ → Option LinkFlit → ℕ
link_code code flit_bits channel_bits None = 0
link_code code flit_bits channel_bits (Some x) = 2 ^ (channel_bits + flit_bits) +
    (x.channel * 2 ^ flit_bits + code x.flit)

-- what comes for channel c by the arriving link, in the domain's slots
abbrev pub arrival_push : Name → Name → ℕ → ℕ → ℕ → Expr
arrival_push own link flit_bits channel_bits c =
    two And (net own) (two And (bit link (channel_bits + flit_bits)) (two Equal (part link
    (channel_bits + flit_bits - 1) flit_bits) (in_bits channel_bits c)))

-- an arriving word for all domains: the port has the code of it, and each domain has it in its own slots
pub record Arrives (code : Flit → ℕ) (flit_bits channel_bits : ℕ) (own link : Name) (v : Values) (mine : Bool)
    (word : Option LinkFlit) (its : Option LinkFlit) : Type 0 where
  pub owned : v.net own ≡ one_if mine
  pub shown : v.net link ≡ link_code code flit_bits channel_bits word
  pub its_own : its ≡ (if mine then word else None)
  pub fits : (x : LinkFlit) → word ≡ Some x → (x.channel < 2 ^ channel_bits) × (code x.flit < 2 ^ flit_bits)
