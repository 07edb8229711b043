-- A draft's first fault: each is looked for only where none of a smaller number was found.
use Rattle.std.specs.Prelude.{◌≤◌, [], ◌∷◌, length, Option}
use Rattle.noc_model.specs.Limits.{most_sides, most_tiles, most_buffer, most_domains}
use Rattle.noc_model.specs.Plan.{Plan, tiles, places}
use Rattle.noc_model.specs.Sound.{AreSides, HaveChannels}
use Rattle.noc_desc.specs.declared.Draft.{Draft}
use Rattle.noc_desc.specs.declared.DescFault.{DescFault}
use Rattle.desc_check.specs.Words.{first_of}
use Rattle.desc_check.specs.Network.{tile_count, plan_of_draft}
use Rattle.desc_check.specs.Faults.{version_fault, shape_fault, dims_fault, stages_fault, buffer_fault, domain_count_fault, domain_name_fault, domain_twice_fault, channels_fault, tile_range_fault, tile_twice_fault, host_unknown_fault, host_twice_fault, range_tile_fault, range_order_fault, range_overlap_fault, places_fault, attach_fault, slot_count_fault, slot_unknown_fault, slot_missing_fault}

-- the first fault of what has one number
abbrev pub form_fault : Draft → Option DescFault
form_fault d = first_of (version_fault d.version ∷ shape_fault d.shape ∷ dims_fault d.version d.dims
    ∷ stages_fault d.stages ∷ buffer_fault d.buffer ∷ [])

-- the first fault of the domains
abbrev pub domains_fault : Draft → Option DescFault
domains_fault d = first_of (domain_count_fault d.domains ∷ domain_name_fault d.domains ∷ domain_twice_fault d.domains
    ∷ channels_fault d.domains ∷ [])

-- the first fault of the tiles
abbrev pub tiles_fault : Draft → Option DescFault
tiles_fault d = first_of (tile_range_fault (tile_count d.dims) d.tiles ∷ tile_twice_fault d.tiles
    ∷ host_unknown_fault d.domains d.tiles ∷ host_twice_fault d.tiles ∷ [])

-- the first fault of the ranges
abbrev pub ranges_fault : Draft → Option DescFault
ranges_fault d = first_of (range_tile_fault (tile_count d.dims) d.ranges ∷ range_order_fault d.ranges
    ∷ range_overlap_fault d.ranges ∷ [])

-- what the buffer slots of a plan are counted from is in range
pub record IsSized (p : Plan) : Type 0 where
  pub dims : length p.dims ≤ most_sides
  pub sides : AreSides p.dims
  pub tile_count : tiles p ≤ most_tiles
  pub buffer : p.buffer ≤ most_buffer
  pub domains : length p.domains ≤ most_domains
  pub channels : HaveChannels p.domains

-- the plan has too many buffer slots or attachments
abbrev pub plan_fault : Plan → Option DescFault
plan_fault p = first_of (places_fault (places p) ∷ attach_fault (length p.hosts) ∷ [])

-- the fault of a network that is too large
abbrev pub sizes_fault : Draft → Option DescFault
sizes_fault d = plan_fault (plan_of_draft d)

-- the first fault of the slots
abbrev pub slots_fault : Draft → Option DescFault
slots_fault d = first_of (slot_count_fault d.version d.slots ∷ slot_unknown_fault d.domains d.slots
    ∷ slot_missing_fault d.version d.domains d.slots ∷ [])

-- the first fault of a draft's values and lists
abbrev pub lists_fault : Draft → Option DescFault
lists_fault d = first_of (form_fault d ∷ domains_fault d ∷ tiles_fault d ∷ ranges_fault d ∷ [])

-- the first fault of a draft
abbrev pub first_fault : Draft → Option DescFault
first_fault d = first_of (lists_fault d ∷ sizes_fault d ∷ slots_fault d ∷ [])
