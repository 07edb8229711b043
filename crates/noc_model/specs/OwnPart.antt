-- What a plan has for one domain.
use Rattle.std.specs.Prelude.{◌≡◌, ℕ, ◌<◌, length, slice_index, ◌==◌}
use Rattle.noc_model.specs.Plan.{Plan, channels, hosts}

-- two plans have the same own part of domain d: the shape, the links, the buffers, the number of slots and which of
-- them are the domain's, its channels, the tiles that host it, and the addresses
pub record HaveOwnPart (p q : Plan) (d : ℕ) : Type 0 where
  pub torus : p.torus ≡ q.torus
  pub dims : p.dims ≡ q.dims
  pub stages : p.stages ≡ q.stages
  pub buffer : p.buffer ≡ q.buffer
  pub slot_count : length p.slots ≡ length q.slots
  pub own_slots : (i : ℕ) → i < length p.slots → (slice_index p.slots i == d) ≡ (slice_index q.slots i == d)
  pub channel_count : channels p d ≡ channels q d
  pub host_tiles : (n : ℕ) → hosts p n d ≡ hosts q n d
  pub ranges : p.ranges ≡ q.ranges
