-- The attachment of a domain at a tile: whether a word is taken, where its packet goes, and what enters.
use Rattle.std.specs.Prelude.{◌≡◌, ℕ, zero, suc, ◌+◌, ◌-◌, ◌<◌, ◌≤◌, ◌^◌, List, [], ◌∷◌, ◌++◌, length, Option, Some, None, filter, if◌then◌else◌, ◌==◌}
use Rattle.vl_tree.specs.declared.tree.Op.TheVariants.{And, Or, Add, Equal, Less}
use Rattle.vl_tree.specs.Values.{Name, Expr, net, bit, part, not, two, choose, cat, no_parts, parts, Item, wire, reg, assign, clocked}
use Rattle.vl_model.specs.Meaning.{Widths, Values}
use Rattle.gen_kit.specs.Families.{in_bits, defined, or_upto}
use Rattle.gen_kit.specs.Mux.{table}
use Rattle.gen_kit.specs.Groups.{Group}
use Rattle.noc_model.specs.declared.Range.{Range}
use Rattle.noc_model.specs.Plan.{Plan, channels, ports, hosts}
use Rattle.noc_model.specs.Place.{route}
use Rattle.noc_model.specs.Tile.{Tile, TileIn}
use Rattle.leaf_tie.specs.Tie.{PacketTie, PortNames, OfferShown}

-- the registers and nets of an attachment
pub record AttachNames : Type 0 where
  -- registers: the packet that is given in, the current channel, and the drop pulse
  pub passing : Name
  pub dropping : Name
  pub dest : Name
  pub current : Name
  pub dropped : Name
  -- what an address finds among the last of the ranges, by their number, and among all
  pub look : ℕ → Name
  pub found : Name
  -- whether a word is taken, whether its packet goes to a tile, whether a flit enters
  pub taken : Name
  pub goes : Name
  pub enters : Name
  -- the tile that it goes to, and the word that is stored
  pub to : Name
  pub word : Name
  -- the lengths of the local port's buffers, by channel
  pub count : ℕ → Name

-- the sizes: bits of a destination, one less than the bits of the current channel, of a buffer's length, and of a word
pub record AttachSize : Type 0 where
  pub dest_bits : ℕ
  pub ch : ℕ
  pub lh : ℕ
  pub wh : ℕ

-- ---- looking up

-- what is found, as a number: above the tile a bit 1
abbrev pub found_code : ℕ → Option ℕ → ℕ
found_code b None = 0
found_code b (Some tile) = 2 ^ b + tile

-- the ranges of tiles that host the domain
abbrev pub reach : Plan → ℕ → List Range
reach p d = filter (λ (r : Range). hosts p r.tile d) p.ranges

-- whether the address is not below the first of the range
abbrev pub not_below : Name → Range → Expr
not_below address r = not (two Less (net address) (in_bits 32 r.first))

-- whether it is not above the last: nothing is compared for being above the last of all addresses
abbrev pub not_above : Name → Range → Expr
not_above address r =
    if r.last == 2 ^ 32 - 1
    then two Or (two Less (net address) (in_bits 32 r.last)) (two Equal (net address) (in_bits 32 r.last))
    else not (two Less (in_bits 32 r.last) (net address))

-- whether the address is in the range: no address is below 0
abbrev pub in_range : Name → Range → Expr
in_range address r =
    if r.first == 0 then not_above address r else two And (not_below address r) (not_above address r)

-- what is found among the last k ranges
abbrev pub looked : (ℕ → Name) → ℕ → ℕ → Expr
looked look b zero = in_bits (b + 1) 0
looked look b (suc k) = net (look (suc k))

-- one net for each range, the last range first
abbrev pub look_nets : Name → (ℕ → Name) → ℕ → List Range → List Item
look_nets address look b [] = []
look_nets address look b (r ∷ rs) = look_nets address look b rs ++ defined b (look (suc (length rs)))
    (choose (in_range address r) (in_bits (b + 1) (2 ^ b + r.tile)) (looked look b (length rs)))

-- ---- the group

-- whether the current channel's buffer has room
abbrev pub room_expr : Plan → ℕ → AttachNames → AttachSize → Expr
room_expr p d a z = or_upto (channels p d - 1) (λ c. two And (two Equal (net a.current) (in_bits (z.ch + 1) c))
    (two Less (net (a.count c)) (in_bits (z.lh + 1) p.buffer)))

-- the current channel's number after a last flit
abbrev pub next_channel : Plan → ℕ → AttachNames → AttachSize → Expr
next_channel p d a z = choose (two Equal (net a.current) (in_bits (z.ch + 1) (channels p d - 1)))
    (in_bits (z.ch + 1) 0) (two Add (net a.current) (in_bits (z.ch + 1) 1))

-- the word that is stored of an entering flit: its route bits, head, tail, destination and payload
abbrev pub entry_word : Plan → ℕ → AttachNames → Name → Name → ℕ → Expr
entry_word p n a last payload b = cat (parts (table a.to (ports p) (λ to. 2 ^ route p n to) 0 b) (parts (not
    (net a.passing)) (parts (net last) (parts (net a.to) (parts (net payload) no_parts)))))

-- the group: a word is offered by the ports. Buffers use the net of the word that is stored before it is assigned
abbrev pub attach_group : Plan → ℕ → ℕ → AttachNames → PortNames → AttachSize → Group
attach_group p n d a q z = record {
  heads =
      reg 0 a.passing ∷ reg 0 a.dropping ∷ reg (z.dest_bits - 1) a.dest ∷ reg z.ch a.current ∷ reg 0 a.dropped
      ∷ wire z.wh a.word ∷ [];
  nets =
      look_nets (q.address d) a.look z.dest_bits (reach p d)
      ++ (defined z.dest_bits a.found (looked a.look z.dest_bits (length (reach p d)))
      ++ (defined 0 a.taken (two And (net (q.offered d)) (two Or (net a.dropping) (room_expr p d a z)))
      ++ (defined 0 a.goes (two Or (net a.passing) (two And (not (net a.dropping)) (bit a.found z.dest_bits)))
      ++ (defined (z.dest_bits - 1) a.to (choose (net a.passing) (net a.dest) (part a.found (z.dest_bits - 1) 0))
      ++ (defined 0 a.enters (two And (net a.taken) (net a.goes))
      ++ (assign a.word (entry_word p n a (q.last d) (q.payload d) z.dest_bits) ∷ []))))));
  moves =
      clocked a.passing (record { width = 1; value = 0 })
      (choose (net a.taken) (two And (not (net (q.last d))) (net a.goes)) (net a.passing))
      ∷ clocked a.dropping (record { width = 1; value = 0 })
      (choose (net a.taken) (two And (not (net (q.last d))) (not (net a.goes))) (net a.dropping))
      ∷ clocked a.dest (record { width = z.dest_bits; value = 0 })
      (choose (net a.taken) (net a.to) (net a.dest))
      ∷ clocked a.current (record { width = z.ch + 1; value = 0 })
      (choose (two And (net a.enters) (net (q.last d))) (next_channel p d a z) (net a.current))
      ∷ clocked a.dropped (record { width = 1; value = 0 }) (two And (net a.taken) (not (net a.goes)))
      ∷ [];
}

-- whether a flit enters channel c
abbrev pub enter_at : AttachNames → AttachSize → ℕ → Expr
enter_at a z c = two And (net a.enters) (two Equal (net a.current) (in_bits (z.ch + 1) c))

-- what it takes: the registers and the lengths stand, the ports show the offer
pub record AttachIn (p : Plan) (n d : ℕ) (a : AttachNames) (q : PortNames) (z : AttachSize) (w : Widths) (v : Values)
    (s : Tile) (i : TileIn) : Type 0 where
  pub packet : PacketTie a.passing a.dropping a.dest v s.packet
  pub current : v.net a.current ≡ s.current
  pub few : s.current < channels p d
  pub counts : (c : ℕ) → c < channels p d → v.net (a.count c) ≡ length (s.queue 0 c)
  pub offer : OfferShown q d v i.offer
  pub last_width : w.net (q.last d) ≡ 1
  pub payload_width : w.net (q.payload d) ≡ 32
  pub channels_fit : channels p d ≤ 2 ^ (z.ch + 1)
  pub some_dest : 1 ≤ z.dest_bits
