-- The first host that passes the test is the one, and if none passes there is none.
use Rattle.std.proofs.Common.{sym, ◌∙◌}
use Rattle.noc_model.specs.Plan.{is_host}
use Rattle.noc_model.proofs.Named.{host_at-position, list_any-position, list_any-no_position}
use Rattle.noc_model.proofs.lookups.host_in.Goals as goal

pub returns-in-Some-clause-found : goal.returns-in-Some-clause-found
returns-in-Some-clause-found c =
    host_at-position c.args.n c.args.d c.args.hosts.now c.in-Some.j (sym c.host_place.ensures ∙ c.in-Some.is)

pub returns-in-Some-clause-hosted : goal.returns-in-Some-clause-hosted
returns-in-Some-clause-hosted c =
    sym (list_any-position (is_host c.args.n c.args.d) c.args.hosts.now c.in-Some.j (record { tile = 0; domain = 0 }) (sym c.host_place.ensures ∙ c.in-Some.is))

pub returns-in-None-clause-hosted : goal.returns-in-None-clause-hosted
returns-in-None-clause-hosted c =
    sym (list_any-no_position (is_host c.args.n c.args.d) c.args.hosts.now (sym c.host_place.ensures ∙ c.in-None.is))
