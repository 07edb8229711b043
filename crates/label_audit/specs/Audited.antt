-- The audit of a design for a plan: whose a port is, and the verdict.
use Rattle.std.specs.Prelude.{ℕ, Bool, List, length, Option, Some, None, find, bytes_eq}
use Rattle.std.specs.List.{list_any}
use Rattle.vl_tree.specs.declared.tree.Port.{Port}
use Rattle.vl_tree.specs.Values.{Name, Design}
use Rattle.noc_model.specs.declared.Host.{Host}
use Rattle.noc_model.specs.Limits.{most_domains}
use Rattle.noc_model.specs.Plan.{Plan}
use Rattle.gen_kit.specs.Ports.{host_ports}
use Rattle.label_model.specs.Verdict.{Leak, IsVerdict}
use Rattle.label_audit.specs.declared.leaks.Verdict.{Verdict}
use Rattle.label_audit.specs.declared.leaks.Verdict.TheVariants.{Clean, Leak as LeakAt}

-- whether the attachment has a port of the name
abbrev pub has_port : Name → Host → Bool
has_port n h = list_any (λ (p : Port). bytes_eq n p.name) (host_ports h)

-- the domain of an attachment, and 0 where there is none
abbrev pub domain_of : Option Host → ℕ
domain_of None = 0
domain_of (Some h) = h.domain

-- the domain of the plan's first attachment that has a port of the name
abbrev pub port_domain : Plan → Name → ℕ
port_domain p n = domain_of (find (has_port n) p.hosts)

-- a verdict of the code
abbrev pub leak_of : Verdict → Option Leak
leak_of Clean = None
leak_of (LeakAt port phase foreign) = Some (record { port = port; phase = phase; foreign = foreign })

-- the verdict on the design: its phases are the plan's slots, and domains are numbers below the most that a plan has
abbrev pub IsAudit : Plan → Design → Verdict → Type 0
IsAudit p d verdict = IsVerdict d (port_domain p) most_domains (length p.slots) (leak_of verdict)
