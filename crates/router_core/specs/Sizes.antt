-- A router that is made for a tile of a plan.
use Rattle.std.specs.Prelude.{◌≡◌, ℕ, ◌<◌, List, length}
use Rattle.noc_model.specs.Plan.{Plan, tiles, ports, channels}
use Rattle.noc_model.specs.Inputs.{input_count}
use Rattle.flit_pool.specs.Lists.{Lists}
use Rattle.credit_links.specs.Counts.{Counts}
use Rattle.route_stage.specs.Routed.{HasInputs}
use Rattle.vc_partition.specs.Lanes.{lane}
use Rattle.vc_alloc.specs.Allocator.{Allocator}
use Rattle.vc_alloc.specs.Shown.{IsFor}
use Rattle.slot_switch.specs.Switch.{Switch}
use Rattle.wave_sched.specs.Wheels.{wheel_ports}
use Rattle.router_core.specs.Buffers.{lists_at}
use Rattle.router_core.specs.declared.attachments.Attachment.{Attachment}
use Rattle.router_core.specs.Attachments.{attachment_at}
use Rattle.router_core.specs.Parts.{Parts}

-- a buffer for each input of each domain, as deep as the plan says
pub record HasBuffers (p : Plan) (xs : List Lists) : Type 0 where
  pub domains : length xs ≡ length p.domains
  pub inputs : (d : ℕ) → d < length p.domains → length (lists_at xs d).lists ≡ input_count p d
  pub depth : (d : ℕ) → d < length p.domains → (lists_at xs d).depth ≡ p.buffer

-- a place for each port of each domain
pub record HasPorts (p : Plan) {T : Type 0} (v : List (List T)) : Type 0 where
  pub domains : length v ≡ length p.domains
  pub ports : (d : ℕ) → d < length p.domains → length (lane v d) ≡ ports p

-- the credits of each output channel of each domain
pub record HasCredits (p : Plan) (x : Counts) : Type 0 where
  pub counts : HasInputs p x.lanes
  pub buffer : x.buffer ≡ p.buffer

-- an allocator for each domain
pub record HasAllocator (p : Plan) (n : ℕ) (x : Allocator) : Type 0 where
  pub tile : x.tile ≡ n
  pub domains : (d : ℕ) → d < length p.domains → IsFor x p d
  pub holders : HasInputs p x.holders
  pub pointers : HasPorts p x.pointers

-- a switch for each domain
pub record HasSwitch (p : Plan) (x : Switch) : Type 0 where
  pub port_count : x.ports ≡ ports p
  pub asks : HasPorts p x.asks
  pub turns : HasPorts p x.turns
  pub switches : HasPorts p x.switches

-- an attachment for each domain, whose current channel is there
pub record HasAttachments (p : Plan) (xs : List Attachment) : Type 0 where
  pub domains : length xs ≡ length p.domains
  pub current : (d : ℕ) → d < length p.domains → (attachment_at xs d).current < channels p d

-- each part is made for a tile of the plan
pub record IsMade (r : Parts) (p : Plan) : Type 0 where
  pub tile : r.tile < tiles p
  pub buffers : HasBuffers p r.buffers
  pub stages : HasInputs p r.stages
  pub pulses : HasPorts p r.pulses
  pub allocator : HasAllocator p r.tile r.allocator
  pub switch : HasSwitch p r.switch
  pub credits : HasCredits p r.credits
  pub attachments : HasAttachments p r.attachments
  pub told : length r.told ≡ length p.domains
  pub wheel : wheel_ports r.wheel ≡ ports p
