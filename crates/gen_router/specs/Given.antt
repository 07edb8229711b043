-- Groups that stand together in a leaf.
use Rattle.std.specs.Prelude.{ℕ, ◌+◌, ◌-◌, List, [], ◌∷◌, ◌++◌, length, is_some, if◌then◌else◌}
use Rattle.vl_tree.specs.Values.{net, bit}
use Rattle.flit_word.specs.Words.{dest_bits, channel_bits, flit_bits}
use Rattle.gen_kit.specs.Groups.{Group}
use Rattle.noc_model.specs.Plan.{Plan, channels, link_channels, hosts}
use Rattle.noc_model.specs.Place.{neighbour}
use Rattle.leaf_tie.specs.Alloc.{alloc_group}
use Rattle.leaf_tie.specs.Counts.{idle_group, credit_group}
use Rattle.leaf_tie.specs.Glue.{high, has_port, switch_part, link_names, filled_group, tails_group, led_group, ready_group, unready_group, ends_group, freed_group, flit_group, word_group, arrival_group, pulse_group}
use Rattle.leaf_tie.specs.Links.{link_group}
use Rattle.leaf_tie.specs.Names.{credit_base, leaf_names, net_names, port_names, leaf_sizes, slot_high}
use Rattle.leaf_tie.specs.Slots.{slot_group}
use Rattle.leaf_tie.specs.Tie.{alloc_size}
use Rattle.leaf_tie.specs.Whole.{each_group, uses_slot, to_neighbour}
use Rattle.gen_router.specs.Ordered.{its_outputs, its_flits, its_channel, its_words, its_buffers, its_attachment, filled_buffer, entered_buffer}

-- the counter that begins at a slot, where a link needs it
abbrev pub slot_part : Plan → ℕ → ℕ → List Group
slot_part p n k = if uses_slot p n k
    then slot_group (leaf_names.slot k) (slot_high p) p.slots (length p.domains) k ∷ []
    else []

-- the row of a link
abbrev pub its_link : Plan → ℕ → ℕ → Group
its_link p n o = link_group (link_names p n leaf_names net_names o) (channel_bits p + flit_bits p) (length p.domains)
    (p.stages - 1)

-- the credits of a channel
abbrev pub its_credits : Plan → ℕ → ℕ → ℕ → ℕ → Group
its_credits p n d o x = credit_group (leaf_names.credits d o x) (bit ((port_names n).credit_in o (credit_base p d + x))
    ((port_names n).credit_bit (credit_base p d + x))) (net (net_names.on d o x)) (leaf_sizes p).lh p.buffer

-- what a link has for all domains
abbrev pub link_part : Plan → ℕ → ℕ → List Group
link_part p n o = if is_some (neighbour p n o)
    then arrival_group p n net_names (port_names n) (leaf_sizes p) (dest_bits p) o ∷ its_link p n o ∷ []
    else []

-- what an output has before the switch
abbrev pub output_part : Plan → ℕ → ℕ → ℕ → List Group
output_part p n d o = if has_port p n d o
    then led_group p n leaf_names net_names (dest_bits p) d o
    ∷ alloc_group p d n o (leaf_names.alloc d o) (alloc_size p d o)
    ∷ ready_group p n leaf_names net_names (port_names n) (leaf_sizes p) d o ∷ []
    else unready_group p net_names d o ∷ []

-- what a port has behind it
abbrev pub flit_part : Plan → ℕ → ℕ → ℕ → List Group
flit_part p n d o = if has_port p n d o
    then freed_group p leaf_names net_names d o ∷ flit_group p leaf_names net_names (dest_bits p) d o ∷ []
    else []

-- what a link has for the domain
abbrev pub word_part : Plan → ℕ → ℕ → ℕ → List Group
word_part p n d o = if is_some (neighbour p n o)
    then each_group (link_channels p d) (its_channel p n d o)
    ++ (word_group p n leaf_names net_names (dest_bits p) (flit_bits p) (channel_bits p) d o
    ∷ pulse_group p leaf_names net_names d o ∷ [])
    else []

-- the buffers that a link from tile m fills, and those of a port
abbrev pub filled_buffers : Plan → ℕ → ℕ → ℕ → ℕ → List Group
filled_buffers p n d port m = each_group (link_channels p d) (λ c. filled_buffer p n d port m c ∷ [])

-- the buffers of a port, where a link comes in there
abbrev pub buffer_part : Plan → ℕ → ℕ → ℕ → List Group
buffer_part p n d port = to_neighbour (filled_buffers p n d port) (neighbour p n port)

-- the buffers that the attachment fills
abbrev pub local_buffers : Plan → ℕ → List Group
local_buffers p d = each_group (channels p d) (λ c. entered_buffer p d c ∷ [])

-- what a domain has where the tile hosts it
abbrev pub hosted_part : Plan → ℕ → ℕ → List Group
hosted_part p n d = if hosts p n d then its_attachment p n d else []

-- of a domain: what there is up to the switch, and behind it
abbrev pub first_groups : Plan → ℕ → ℕ → List Group
first_groups p n d =
    filled_group p n leaf_names net_names d ∷ tails_group p n leaf_names net_names (dest_bits p) d
    ∷ (its_outputs p n d ++ (switch_part p n leaf_names net_names d
    ∷ ends_group p net_names d ∷ idle_group (leaf_names.idle d) (net_names.filled d) (net_names.ends d) (high p d)
    ∷ []))

-- what a domain has behind its switch: what is sent, what is chosen, its buffers, its attachment
abbrev pub last_groups : Plan → ℕ → ℕ → List Group
last_groups p n d = its_flits p n d ++ (its_words p n d ++ (its_buffers p n d ++ hosted_part p n d))
