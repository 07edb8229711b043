-- What contracts see of a router, and a router at the start.
use Rattle.std.specs.Prelude.{ℕ, List, map, replicate, length, Option}
use Rattle.std.specs.List.{range_with_len}
use Rattle.noc_model.specs.declared.Stage.{Stage}
use Rattle.noc_model.specs.declared.Stage.TheVariants.{Idle}
use Rattle.noc_model.specs.Plan.{Plan}
use Rattle.noc_model.specs.Inputs.{input_count}
use Rattle.flit_pool.specs.Lists.{Lists}
use Rattle.credit_links.specs.Counts.{Counts, full_counts}
use Rattle.vc_alloc.specs.Allocator.{Allocator, start_of}
use Rattle.slot_switch.specs.Switch.{Switch}
use Rattle.wave_sched.specs.declared.wheels.Wheel.{Wheel}
use Rattle.slot_switch.specs.Switch as switches
use Rattle.router_core.specs.declared.attachments.Attachment.{Attachment}
use Rattle.router_core.specs.declared.attachments.Told.{Told}
use Rattle.router_core.specs.Attachments.{start_attachment, nothing_told}
use Rattle.router_core.specs.Buffers.{empty_buffers}
use Rattle.router_core.specs.Pulses.{no_pulses}

-- of each domain: the flits in the buffers of its inputs, the stages of their packets, its credit pulses, who holds the
-- channels of its outputs, who is next at the switch, its credits, its attachment, and what the outside does there; and
-- the owners of the links
pub record Parts : Type 0 where
  pub tile : ℕ
  pub buffers : List Lists
  pub stages : List (List Stage)
  pub pulses : List (List (Option ℕ))
  pub allocator : Allocator
  pub switch : Switch
  pub credits : Counts
  pub attachments : List Attachment
  pub told : List Told
  pub wheel : Wheel

-- the router of tile n at the start, with this wheel
abbrev pub start_parts : Plan → ℕ → Wheel → Parts
start_parts p n w = record {
  tile = n;
  buffers = empty_buffers p;
  stages = map (λ d. replicate (input_count p d) Idle) (range_with_len 0 (length p.domains));
  pulses = no_pulses p;
  allocator = start_of p n;
  switch = switches.start_of p;
  credits = full_counts p;
  attachments = replicate (length p.domains) start_attachment;
  told = replicate (length p.domains) nothing_told;
  wheel = w;
}
