-- What the laws say.
use Rattle.gen_buffer.specs.Fifo.{FifoNames}
use Rattle.leaf_tie.specs.Alloc.{AllocIn, AllocNames, AllocSize, AllocTie, FitsOutput, alloc_group, class_nets, out_count}
use Rattle.leaf_tie.specs.Buffers.{Arrives, BufferIn, BufferSize, BufferTie, arrival_push, buffer_group, is_filled}
use Rattle.leaf_tie.specs.Counts.{CreditIn, IdleIn, credit_group, idle_group}
use Rattle.leaf_tie.specs.Fits.{AllDeclare, AllFit}
use Rattle.leaf_tie.specs.Glue.{GlueFits, LeafRuns, LeafStarts, Moves, NetNames, at_or, next_shared, rows_at, state_at}
use Rattle.gen_kit.specs.Groups.{Group, GroupGives, GroupKeeps, HoldsIn, all_items}
use Rattle.leaf_tie.specs.Outs.{LeafOut, OutNames, credit_out_group, link_out_group, local_out_group}
use Rattle.leaf_tie.specs.Sizes.{largest_size}
use Rattle.leaf_tie.specs.Whole.{Joined, leaf_groups}
use Rattle.vl_model.specs.Parts.{AllHold, AllStep, Runs}
use Rattle.leaf_tie.specs.Links.{LinkIn, LinkNames, LinkTie, link_group}
use Rattle.gen_kit.specs.Masks.{mask}
use Rattle.leaf_tie.specs.Places.{ends_at, is_active, is_idle, leaves_at, stage_at}
use Rattle.gen_kit.specs.Families.{for_each}
use Rattle.gen_kit.specs.Rotate.{PointsTo, RotateNames, rotate_group}
use Rattle.leaf_tie.specs.Slots.{Counts, Owns, SlotNames, arriving_slot, leaving_slot, slot_group}
use Rattle.leaf_tie.specs.Switch.{ReadyIn, SwitchIn, SwitchNames, SwitchSize, place_count, ready_expr, ready_for, switch_group}
use Rattle.leaf_tie.specs.Tags.{DrivesOwn, GroupsInOrder}
use Rattle.leaf_tie.specs.Tie.{HasLink, LeafIn, LeafNames, LeafTie, PortNames}
use Rattle.noc_model.specs.Sound.{IsSound}
use Rattle.noc_model.specs.Place.{owner, way_of}
use Rattle.noc_model.specs.declared.ways.Way.TheVariants.{Local}
use Rattle.noc_model.specs.Plan.{Plan, hosts, in_channels, link_channels, ports, tiles}
use Rattle.noc_model.specs.Step.{flit_on, is_on, is_tail_on, sent, shifted, tile_step}
use Rattle.noc_model.specs.Tile.{Tile, TileIn}
use Rattle.noc_model.specs.declared.Flit.{Flit}
use Rattle.noc_model.specs.declared.LinkFlit.{LinkFlit}
use Rattle.std.specs.List.{AllByRecursion}
use Rattle.std.specs.Prelude.{Bool, List, Option, Some, [], length, map, pos, slice_index, suc, true, ℕ, ℤ, ◌%◌, ◌&&◌, ◌*◌, ◌+◌, ◌++◌, ◌-ℤ◌, ◌-◌, ◌<◌, ◌==◌, ◌^◌, ◌≡◌, ◌≢◌, ◌≤◌, ◌/◌}
use Rattle.vl_model.specs.Leaf.{IsLeafRun, leaf_widths}
use Rattle.vl_model.specs.Lines.{item, leaf_named}
use Rattle.vl_model.specs.Meaning.{Values, Widths, one_if, value_of}
use Rattle.vl_model.specs.Order.{InOrder}
use Rattle.vl_model.specs.Rules.{drivers, IsSound as IsSoundDesign}
use Rattle.vl_tree.specs.Values.{Design, Expr, Item, Leaf, Name}

-- An edge keeps who waits for an output, who holds which channel, and the pointer, as a step has them.
abbrev pub AllocKept : Type 0
AllocKept = (p : Plan) (d n o : ℕ) (a : AllocNames) (z : AllocSize) → FitsOutput p d n o z
    → GroupKeeps (alloc_group p d n o a z) (λ w v u. (t : ℤ) (s : Tile) (i : TileIn)
    → AllocIn p d n o a z w v t s i → AllocTie p d o a z v s → AllocTie p d o a z u (tile_step p d n t s i))

-- A slot counter keeps to its cycle.
abbrev pub SlotKept : Type 0
SlotKept = (n : SlotNames) (h : ℕ) (slots : List ℕ) (domains first : ℕ) → 1 ≤ length slots → length slots ≤ 2 ^ (h + 1)
    → GroupKeeps (slot_group n h slots domains first) (λ w v u. (t : ℕ) → Counts n slots first t v
    → Counts n slots first (suc t) u)

-- Its nets show whose slot it is.
abbrev pub SlotShown : Type 0
SlotShown = (n : SlotNames) (h : ℕ) (slots : List ℕ) (domains first : ℕ) → 1 ≤ length slots
    → GroupGives (slot_group n h slots domains first) (λ w v. (t : ℕ) → Counts n slots first t v → (e : ℕ)
    → e < domains → Owns n slots first t v e)

-- A counter that begins at a leaving link's slot names its owner.
abbrev pub LeavingOwner : Type 0
LeavingOwner = (p : Plan) (n o t : ℕ) → way_of o ≢ Local → 1 ≤ length p.slots
    → owner p n o (pos t) ≡ slice_index p.slots ((t + leaving_slot p n o) % length p.slots)

-- A counter that begins at an arriving link's slot names the owner of the cycle in which the last place was filled.
abbrev pub ArrivingOwner : Type 0
ArrivingOwner = (p : Plan) (m o t : ℕ) → way_of o ≢ Local → 1 ≤ length p.slots
    → owner p m o (pos t -ℤ pos p.stages) ≡ slice_index p.slots ((t + arriving_slot p m o) % length p.slots)

-- An edge keeps an input channel's list, as a step has it.
abbrev pub BufferKept : Type 0
BufferKept = (p : Plan) (d n port c : ℕ) (code : Flit → ℕ) (b : FifoNames) (z : BufferSize) (push pop : Expr)
    → p.buffer ≤ 2 ^ (z.bh + 1) → p.buffer < 2 ^ (z.lh + 1)
    → GroupKeeps (buffer_group b z push pop) (λ w v u. (t : ℤ) (s : Tile) (i : TileIn)
    → BufferIn p d n port c code b v t s i
    → BufferTie code b z v (s.queue port c) → BufferTie code b z u ((tile_step p d n t s i).queue port c))

-- A buffer is pushed where its domain's word arrives for its channel.
abbrev pub ArrivalPushes : Type 0
ArrivalPushes = (code : Flit → ℕ) (fb cb : ℕ) (own link : Name) (w : Widths) (v : Values) (mine : Bool)
    (word its : Option LinkFlit) (c : ℕ) → 1 ≤ cb
    → Arrives code fb cb own link v mine word its → value_of w v (arrival_push own link fb cb c) ≡ one_if (is_filled
    (flit_on its c))

-- The nets of an output's ready places show them.
abbrev pub ReadyShown : Type 0
ReadyShown = (p : Plan) (d n o : ℕ) (filled : Name) (active : ℕ → Name) (able : ℕ
    → Expr) (high last : ℕ) (w : Widths) (v : Values) (t : ℤ) (s : Tile) (i : TileIn)
    → ReadyIn p d n o filled active able high last w v t s i
    → value_of w v (ready_expr filled active able high last) ≡ mask (high + 1) (ready_for p d n t s i o)

-- An edge keeps the input ports' pointers.
abbrev pub TurnsKept : Type 0
TurnsKept = (p : Plan) (d n : ℕ) (a : SwitchNames) (z : SwitchSize)
    → GroupKeeps (switch_group a z) (λ w v u. (t : ℤ) (s : Tile) (i : TileIn) → SwitchIn p d n a z v t s i
    → (port : ℕ) → port ≤ z.last → PointsTo (a.turn port) z.channel u ((tile_step p d n t s i).turn port))

-- An edge keeps the outputs' switch pointers.
abbrev pub ChoicesKept : Type 0
ChoicesKept = (p : Plan) (d n : ℕ) (a : SwitchNames) (z : SwitchSize)
    → GroupKeeps (switch_group a z) (λ w v u. (t : ℤ) (s : Tile) (i : TileIn) → SwitchIn p d n a z v t s i
    → (o : ℕ) → o ≤ z.last → PointsTo (a.choice o) z.last u ((tile_step p d n t s i).switch o))

-- A flit goes by an output's channel where a place that is active on it leaves.
abbrev pub OnShown : Type 0
OnShown = (p : Plan) (d n o w : ℕ) (t : ℤ) (s : Tile) (i : TileIn) → ((port : ℕ)
    → in_channels p d port ≤ link_channels p d)
    → 2 ^ 1 - 1 - one_if (mask (ports p * link_channels p d) (λ place. is_active (stage_at p d s place) o w
    && leaves_at p d n t s i place) == 0) ≡ one_if (is_on (sent p d n t s i o) w)

-- The last flit of a packet goes by an output's channel where it leaves such a place.
abbrev pub FreedShown : Type 0
FreedShown = (p : Plan) (d n o w : ℕ) (t : ℤ) (s : Tile) (i : TileIn) → ((port : ℕ)
    → in_channels p d port ≤ link_channels p d)
    → 2 ^ 1 - 1 - one_if (mask (ports p * link_channels p d) (λ place. is_active (stage_at p d s place) o w
    && ends_at p d n t s i place) == 0) ≡ one_if (is_tail_on (sent p d n t s i o) w)

-- An edge keeps a link's row for all domains.
abbrev pub LinkKept : Type 0
LinkKept = (p : Plan) (n o h domains last : ℕ) (code : Option LinkFlit → ℕ) (a : LinkNames) → o ≢ 0
    → GroupKeeps (link_group a h domains last) (λ w v u. (t : ℕ) (s : ℕ → Tile) (i : ℕ → TileIn) (shared : ℕ
    → Option LinkFlit) → LinkIn p n o domains code a v t s i → LinkTie p n o last code a v t s shared
    → LinkTie p n o last code a u (suc t) (λ d. tile_step p d n (pos t) (s d) (i d)) (shifted (sent p (owner p n o
    (pos t)) n (pos t) (s (owner p n o (pos t))) (i (owner p n o (pos t))) o) shared))

-- An edge keeps the places that are idle.
abbrev pub IdleKept : Type 0
IdleKept = (p : Plan) (d n : ℕ) (idle filled ends : Name) (h : ℕ)
    → GroupKeeps (idle_group idle filled ends h) (λ w v u. (t : ℤ) (s : Tile) (i : TileIn)
    → IdleIn p d n idle filled ends h w v t s i
    → u.net idle ≡ mask (h + 1) (λ place. is_idle (stage_at p d (tile_step p d n t s i) place)))

-- An edge keeps a channel's credits.
abbrev pub CreditKept : Type 0
CreditKept = (p : Plan) (d n o x : ℕ) (count : Name) (pulse on : Expr) (h : ℕ) → o ≢ 0 → p.buffer < 2 ^ (h + 1)
    → GroupKeeps (credit_group count pulse on h p.buffer) (λ w v u. (t : ℤ) (s : Tile) (i : TileIn)
    → CreditIn p d n o x count pulse on w v t s i → u.net count ≡ (tile_step p d n t s i).credits o x)

-- The widths of a round-robin choice agree.
abbrev pub RotateNetsFit : Type 0
RotateNetsFit = (n : RotateNames) (h : ℕ) (w : Widths) → w.net n.request ≡ h + 1
    → AllDeclare w (rotate_group n h).heads → AllDeclare w (rotate_group n h).nets → AllFit w (rotate_group n h).nets

-- The widths of a class's nets agree.
abbrev pub ClassNetsFit : Type 0
ClassNetsFit = (a : AllocNames) (z : AllocSize) (w : Widths) (k : ℕ) → k ≤ z.last → w.net a.held ≡ out_count z
    → AllDeclare w (class_nets a z k) → AllFit w (class_nets a z k)

-- A name is driven as often as its own group drives it.
abbrev pub OwnDrivers : Type 0
OwnDrivers = (tag : Name → ℕ) (n : ℕ) (f : ℕ → List Item) (x : Name) → ((k : ℕ) → k < n
    → AllByRecursion (DrivesOwn tag k) (f k)) → tag x < n
    → drivers [] (map item (for_each n f)) x ≡ drivers [] (map item (f (tag x))) x

-- The nets of groups that are in order stand in order.
abbrev pub InOrderTogether : Type 0
InOrderTogether = (tag : Name → ℕ) (n : ℕ) (f : ℕ → List Item) → GroupsInOrder tag n f → InOrder (for_each n f)

-- The nets of a domain's switch show which places a flit leaves.
abbrev pub LeavesShown : Type 0
LeavesShown = (p : Plan) (d n : ℕ) (a : SwitchNames) (z : SwitchSize)
    → GroupGives (switch_group a z) (λ w v. (t : ℤ) (s : Tile) (i : TileIn) → SwitchIn p d n a z v t s i
    → v.net a.leaves ≡ mask (place_count z) (leaves_at p d n t s i))

-- An edge keeps the tie of a leaf to the tile parts of all domains.
abbrev pub LeafKept : Type 0
LeafKept = (p : Plan) (n : ℕ) (names : LeafNames) (nets : NetNames) (q : PortNames) (base : ℕ
    → ℕ) (size : BufferSize) (slot_high dest_bits link_flit link_channel : ℕ)
    (w : Widths) (v u : Values) (t : ℕ) (s : ℕ → Tile) (i : ℕ → TileIn) (shared : ℕ → ℕ → Option LinkFlit)
    → IsSound p → n < tiles p → GlueFits p size slot_high dest_bits link_flit link_channel
    → LeafRuns p n names nets q base size slot_high dest_bits link_flit link_channel w v u
    → LeafIn p n q base dest_bits link_flit link_channel v t s i
    → LeafTie p n names size dest_bits link_flit link_channel v t s shared
    → LeafTie p n names size dest_bits link_flit link_channel u (suc t) (λ d. tile_step p d n (pos t) (s d) (i d))
    (next_shared p n t s i shared)

-- From reset on the tie stands in every cycle, with any first content of memories.
abbrev pub LeafRun : Type 0
LeafRun = (p : Plan) (n : ℕ) (names : LeafNames) (nets : NetNames) (q : PortNames) (base : ℕ
    → ℕ) (size : BufferSize) (slot_high dest_bits link_flit link_channel : ℕ)
    (w : Widths) (v : ℕ → Values) (i : ℕ → ℕ → TileIn) → IsSound p → n < tiles p
    → GlueFits p size slot_high dest_bits link_flit link_channel
    → ((t : ℕ) → LeafRuns p n names nets q base size slot_high dest_bits link_flit link_channel w (v t) (v (suc t)))
    → ((t : ℕ) → LeafIn p n q base dest_bits link_flit link_channel (v t) t (state_at p n i t) (i t))
    → LeafStarts p n names nets q base size slot_high dest_bits link_flit link_channel (v 0)
    → (t : ℕ) → LeafTie p n names size dest_bits link_flit link_channel (v t) t (state_at p n i t) (rows_at p n i t)

-- Where a leaf's items are those of some groups, each of the groups moves over an edge.
abbrev pub GroupsMove : Type 0
GroupsMove = (gs : List Group) (w : Widths) (v u : Values) → AllHold w v (all_items gs)
    → AllHold w u (all_items gs) → AllStep w v u (all_items gs) → (k : ℕ) (g : Group) → k < length gs
    → Moves (at_or gs k g) w v u

-- A leaf whose items are those of all groups, and of others, holds the tile parts of all domains in every cycle.
abbrev pub GroupsRun : Type 0
GroupsRun = (p : Plan) (n : ℕ) (names : LeafNames) (nets : NetNames) (q : PortNames) (base : ℕ
    → ℕ) (size : BufferSize) (slot_high dest_bits link_flit link_channel : ℕ) (others : List Group)
    (w : Widths) (v : ℕ → Values) (i : ℕ → ℕ → TileIn) → IsSound p → n < tiles p
    → GlueFits p size slot_high dest_bits link_flit link_channel → Joined p n names nets q w
    → Runs (all_items (leaf_groups p n names nets q base size slot_high dest_bits link_flit link_channel
    ++ others)) w v
    → ((t : ℕ) → LeafIn p n q base dest_bits link_flit link_channel (v t) t (state_at p n i t) (i t))
    → (t : ℕ) → LeafTie p n names size dest_bits link_flit link_channel (v t) t (state_at p n i t) (rows_at p n i t)

-- So does such a leaf in a sound design, in each of its runs.
abbrev pub TextRun : Type 0
TextRun = (p : Plan) (n : ℕ) (names : LeafNames) (nets : NetNames) (q : PortNames) (base : ℕ
    → ℕ) (size : BufferSize) (slot_high dest_bits link_flit link_channel : ℕ) (others : List Group)
    (design : Design) (name : Name) (l : Leaf) (v : ℕ → Values) (i : ℕ → ℕ → TileIn) → IsSound p → n < tiles p
    → GlueFits p size slot_high dest_bits link_flit link_channel
    → IsSoundDesign design → leaf_named design.leaves name ≡ Some l
    → l.items ≡ all_items (leaf_groups p n names nets q base size slot_high dest_bits link_flit link_channel
    ++ others)
    → Joined p n names nets q (leaf_widths l) → IsLeafRun l v
    → ((t : ℕ) → LeafIn p n q base dest_bits link_flit link_channel (v t) t (state_at p n i t) (i t))
    → (t : ℕ) → LeafTie p n names size dest_bits link_flit link_channel (v t) t (state_at p n i t) (rows_at p n i t)

-- The output ports of a leaf that is tied to its tile show what the tile parts give out.
abbrev pub OutsShown : Type 0
OutsShown = (p : Plan) (n : ℕ) (names : LeafNames) (nets : NetNames) (out : OutNames) (size : BufferSize)
    (dest_bits link_flit link_channel : ℕ) (w : Widths) (v : Values) (t : ℕ) (s : ℕ → Tile) (shared : ℕ → ℕ
    → Option LinkFlit) → IsSound p → ((o : ℕ) → HasLink p n o → HoldsIn (link_out_group p names out o) w v)
    → ((d : ℕ) → d < length p.domains → hosts p n d ≡ true
    → HoldsIn (local_out_group p names nets out size dest_bits d) w v)
    → LeafTie p n names size dest_bits link_flit link_channel v t s shared
    → LeafOut p n out dest_bits link_flit link_channel v s shared

-- The largest sizes are enough for every plan.
abbrev pub SizesFit : Type 0
SizesFit = (p : Plan) → IsSound p → GlueFits p largest_size 5 8 42 3

-- Each bit of a bundle of credits that goes out is the pulse of its domain and channel.
abbrev pub CreditsShown : Type 0
CreditsShown = (p : Plan) (n : ℕ) (names : LeafNames) (size : BufferSize) (dest_bits link_flit link_channel : ℕ)
    (bundle : Name) (port first count : ℕ) (domain channel : ℕ → ℕ) (w : Widths) (v : Values) (t : ℕ) (s : ℕ
    → Tile) (shared : ℕ → ℕ → Option LinkFlit)
    → HoldsIn (credit_out_group names bundle port first count domain channel) w v
    → LeafTie p n names size dest_bits link_flit link_channel v t s shared → HasLink p n port
    → (r : ℕ) → first ≤ r → r < first + count → domain r < length p.domains → channel r < link_channels p (domain r)
    → v.net bundle / 2 ^ (r - first) % 2 ≡ one_if ((s (domain r)).pulse port (channel r))
