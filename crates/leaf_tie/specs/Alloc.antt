-- Who waits for an output of a domain, and which of its channels are held by whom.
use Rattle.std.specs.Prelude.{◌≡◌, ℕ, zero, suc, ◌+◌, ◌-◌, ◌*◌, ◌/◌, ◌%◌, ◌<◌, ◌≤◌, Bool, true, false, List, [], ◌∷◌, ◌++◌, ◌==◌, ◌&&◌, nat_lt, if◌then◌else◌, ℤ}
use Rattle.vl_tree.specs.declared.tree.Op.TheVariants.{And, Or}
use Rattle.vl_tree.specs.Values.{Name, Expr, Exprs, net, bit, part, not, two, choose, cat, no_parts, parts, Item, wire, reg, assign, clocked}
use Rattle.vl_model.specs.Meaning.{Widths, Values}
use Rattle.gen_kit.specs.Families.{in_bits}
use Rattle.noc_model.specs.Plan.{Plan, channels, link_channels, in_channels, ports, at_local}
use Rattle.noc_model.specs.Tile.{Tile, TileIn}
use Rattle.noc_model.specs.Step.{waits_for, class_of, sent, is_tail_on}
use Rattle.gen_kit.specs.Masks.{mask}
use Rattle.gen_kit.specs.Groups.{Group}
use Rattle.gen_kit.specs.Rotate.{least_member, RotateNames, rotate_group, is_empty, PointsTo}
use Rattle.leaf_tie.specs.Places.{stage_at, queue_at, is_active, is_led, ends_at}
use Rattle.gen_kit.specs.Families.{for_each, or_upto, defined}

-- the nets of an output's allocation, by class where they have a number
pub record AllocNames : Type 0 where
  -- registers
  pub waiting : Name
  pub held : Name
  pub active : ℕ → Name
  -- of each class: its free channels, the least of them, and that one where it is taken
  pub free : ℕ → Name
  pub least : ℕ → Name
  pub taken : ℕ → Name
  -- requests, pointer and winner
  pub choice : RotateNames
  -- from elsewhere: the places that become routed here, those whose packet ends, and the channels whose packet ends
  pub led : Name
  pub ends : Name
  pub freed : Name

-- high: one less than the places; size: one less than a class's channels; last: one less than the classes
pub record AllocSize : Type 0 where
  pub high : ℕ
  pub size : ℕ
  pub last : ℕ

-- the number of the first channel of class k
abbrev pub class_start : AllocSize → ℕ → ℕ
class_start z k = k * (z.size + 1)

-- how many channels the output has
abbrev pub out_count : AllocSize → ℕ
out_count z = (z.last + 1) * (z.size + 1)

-- the places that ask the output for a channel of class k
abbrev pub in_class : Plan → ℕ → ℕ → ℕ → ℕ → ℕ → Bool
in_class p d n o k place =
    nat_lt (place % link_channels p d) (in_channels p d (place / link_channels p d))
    && (class_of p d n (place / link_channels p d) (place % link_channels p d) o == k)

-- the places from which a packet goes on in class k, as a number
abbrev pub class_number : Plan → ℕ → ℕ → ℕ → AllocSize → ℕ → Expr
class_number p d n o z k = in_bits (z.high + 1) (mask (z.high + 1) (in_class p d n o k))

-- the free channels of class k, and the least of them
abbrev pub class_nets : AllocNames → AllocSize → ℕ → List Item
class_nets a z k =
    wire z.size (a.free k) ∷ assign (a.free k) (not (part a.held (class_start z k + z.size) (class_start z k)))
    ∷ wire z.size (a.least k) ∷ assign (a.least k) (least_member z.size (a.free k))
    ∷ []

-- the places that wait for a free channel of class k
abbrev pub asks_class : Plan → ℕ → ℕ → ℕ → AllocNames → AllocSize → ℕ → Expr
asks_class p d n o a z k =
    choose (is_empty z.size (net (a.free k))) (in_bits (z.high + 1) 0) (two And (net a.waiting)
    (class_number p d n o z k))

-- the channel of class k that is taken, if the winner goes on in this class
abbrev pub taken_nets : Plan → ℕ → ℕ → ℕ → AllocNames → AllocSize → ℕ → List Item
taken_nets p d n o a z k =
    wire z.size (a.taken k)
    ∷ assign (a.taken k) (choose (is_empty z.high (two And (net a.choice.winner) (class_number p d n o z k)))
    (in_bits (z.size + 1) 0) (net (a.least k)))
    ∷ []

-- whether the output has one channel: that one is taken, then, wherever a place wins
abbrev pub has_one : AllocSize → Bool
has_one z = out_count z == 1

-- the last class's channels stand first
abbrev pub taken_parts : AllocNames → ℕ → Exprs
taken_parts a zero = parts (net (a.taken zero)) no_parts
taken_parts a (suc k) = parts (net (a.taken (suc k))) (taken_parts a k)

-- the channels that are taken
abbrev pub taken_channels : AllocNames → AllocSize → Expr
taken_channels a z = if has_one z then not (is_empty z.high (net a.choice.winner)) else cat (taken_parts a z.last)

-- 0 in h + 1 bits
abbrev pub zero_of : ℕ → Expr
zero_of h = in_bits (h + 1) 0

-- the place that becomes active on channel j of class k
abbrev pub becomes_active : AllocNames → AllocSize → ℕ → ℕ → Expr
becomes_active a z k j = if has_one z then net a.choice.winner else choose (bit (a.taken k) j) (net a.choice.winner)
    (zero_of z.high)

-- the places that are active on channel j of class k
abbrev pub active_move : AllocNames → AllocSize → ℕ → ℕ → List Item
active_move a z k j =
    clocked (a.active (class_start z k + j)) (record { width = z.high + 1; value = 0 })
    (two Or (two And (net (a.active (class_start z k + j))) (not (net a.ends))) (becomes_active a z k j))
    ∷ []

-- the moves of the places that are active on each channel
abbrev pub active_moves : AllocNames → AllocSize → List Item
active_moves a z = for_each (z.last + 1) (λ k. for_each (z.size + 1) (active_move a z k))

-- the nets where the output has one channel: all that wait for it ask for it, if nobody holds it
abbrev pub lone_requests : AllocNames → AllocSize → List Item
lone_requests a z = defined z.high a.choice.request (choose (net a.held) (zero_of z.high) (net a.waiting))
    ++ (rotate_group a.choice z.high).nets

-- the nets where the output has more: the free channels of each class, who asks for one, and what is taken
abbrev pub class_requests : Plan → ℕ → ℕ → ℕ → AllocNames → AllocSize → List Item
class_requests p d n o a z =
    for_each (z.last + 1) (class_nets a z)
    ++ (wire z.high a.choice.request ∷ assign a.choice.request (or_upto z.last (asks_class p d n o a z))
    ∷ ((rotate_group a.choice z.high).nets ++ for_each (z.last + 1) (taken_nets p d n o a z)))

-- the group of an output's allocation
abbrev pub alloc_group : Plan → ℕ → ℕ → ℕ → AllocNames → AllocSize → Group
alloc_group p d n o a z = record {
  heads = reg z.high a.waiting ∷ reg (out_count z - 1) a.held ∷ ((rotate_group a.choice z.high).heads
      ++ for_each (out_count z) (λ w. reg z.high (a.active w) ∷ []));
  nets = if has_one z then lone_requests a z else class_requests p d n o a z;
  moves =
      clocked a.waiting (record { width = z.high + 1; value = 0 }) (two Or (two And (net a.waiting) (not
      (net a.choice.winner))) (net a.led))
      ∷ clocked a.held (record { width = out_count z; value = 0 }) (two Or (two And (net a.held) (not
      (net a.freed))) (taken_channels a z))
      ∷ ((rotate_group a.choice z.high).moves ++ active_moves a z);
}

-- ---- the tie

-- the sizes are the output's
pub record FitsOutput (p : Plan) (d n o : ℕ) (z : AllocSize) : Type 0 where
  pub places : z.high + 1 ≡ ports p * link_channels p d
  pub class_size : z.size + 1 ≡ at_local o 1 (channels p d)
  pub starts : (k : ℕ) → k ≤ z.last → k * channels p d ≡ k * (z.size + 1)
  pub classes : (place : ℕ) → nat_lt (place % link_channels p d) (in_channels p d
      (place / link_channels p d)) ≡ true → class_of p d n (place / link_channels p d)
      (place % link_channels p d) o ≤ z.last

-- the registers of the output's allocation hold the state's part
pub record AllocTie (p : Plan) (d o : ℕ) (a : AllocNames) (z : AllocSize) (v : Values) (s : Tile) : Type 0 where
  pub waiting : v.net a.waiting ≡ mask (z.high + 1) (λ place. waits_for (stage_at p d s place) o)
  pub held : v.net a.held ≡ mask (out_count z) (s.held o)
  pub active : (w : ℕ) → w < out_count z → v.net (a.active w) ≡ mask (z.high + 1) (λ place. is_active
      (stage_at p d s place) o w)
  pub pointer : PointsTo a.choice z.high v (s.allocation o)

-- what the nets of other groups show
pub record AllocIn (p : Plan) (d n o : ℕ) (a : AllocNames) (z : AllocSize) (w : Widths) (v : Values) (t : ℤ)
    (s : Tile) (i : TileIn) : Type 0 where
  pub led : v.net a.led ≡ mask (z.high + 1) (λ place. is_led p n (queue_at p d s place) (stage_at p d s place) o)
  pub ends : v.net a.ends ≡ mask (z.high + 1) (ends_at p d n t s i)
  pub ends_width : w.net a.ends ≡ z.high + 1
  pub freed : v.net a.freed ≡ mask (out_count z) (is_tail_on (sent p d n t s i o))
  pub freed_width : w.net a.freed ≡ out_count z
  -- no place beyond a port's channels waits
  pub beyond : (place : ℕ) → nat_lt (place % link_channels p d) (in_channels p d (place / link_channels p d)) ≡ false
      → waits_for (stage_at p d s place) o ≡ false
