-- The plan of a shape.
use Rattle.std.specs.Prelude.{ℕ, [], ◌∷◌, map}
use Rattle.noc_model.specs.declared.plan.DomainPart.{DomainPart}
use Rattle.noc_model.specs.Plan.{Plan}
use Rattle.worked_plans.specs.declared.Shape.{Shape}

-- a domain of one channel, whose name is one byte
abbrev pub named : ℕ → DomainPart
named b = record { name = b ∷ []; channels = 1 }

-- the plan that has this shape
abbrev pub plan_in : Shape → Plan
plan_in s = record {
  torus = s.torus;
  dims = s.dims.now;
  stages = s.stages;
  buffer = s.buffer;
  domains = map named s.names.now;
  hosts = s.hosts.now;
  ranges = s.ranges.now;
  slots = s.slots.now;
}
