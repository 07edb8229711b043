-- A port of a plan's text, by its place among the ports of its attachment.
use Rattle.std.specs.Prelude.{◌≡◌, ℕ, ◌≤◌, ◌==◌, ◌||◌, nat_le, Bool, false, List, [], Option, Some, None, slice_get, if◌then◌else◌}
use Rattle.std.specs.Option.{option_map_or}
use Rattle.vl_tree.specs.declared.tree.Port.{Port}
use Rattle.noc_model.specs.declared.Host.{Host}
use Rattle.gen_kit.specs.declared.ports.PortSpec.{PortSpec}
use Rattle.gen_kit.specs.Ports.{PortKind, port_kinds, host_name, same_port}

-- the number of the most significant bit of a port of this kind
abbrev pub high_of : ℕ → ℕ
high_of k = if (k == 1) || ((k == 2) || (k == 10)) then 31 else 0

-- the front of the name of a port of this kind
abbrev pub kind_head : ℕ → List ℕ
kind_head k = option_map_or (λ (x : PortKind). x.head) (slice_get port_kinds k) []

-- the attachment that has the port
abbrev pub spec_host : PortSpec → Host
spec_host s = record { tile = s.tile; domain = s.domain }

-- the port that is described
abbrev pub port_of : PortSpec → Port
port_of s = record { output = s.output; high = s.high; name = host_name (kind_head s.kind) (spec_host s) }

-- there is such a kind, with this direction and width
pub record IsSpec (s : PortSpec) : Type 0 where
  pub kind : s.kind ≤ 10
  pub output : s.output ≡ nat_le 5 s.kind
  pub high : s.high ≡ high_of s.kind

-- both lists have the same port
abbrev pub same_at : Option Port → Option Port → Bool
same_at (Some a) (Some b) = same_port a b
same_at (Some a) None = false
same_at None b = false
