use Rattle.std.proofs.Common.{◌<◌, sym, ap, ◌∙◌, subst}
use Rattle.noc_model.specs.Plan.{name_of}
use Rattle.surf_base.specs.Block.{Puts}
use Rattle.surf_base.proofs.Blocks.{Puts-nothing}
use Rattle.wave_sched.proofs.Standing.{wheel_ports-is}
use Rattle.surf_cli.proofs.Texts.{Writes-port, port_text-none}
use Rattle.surf_cli.proofs.table.put_port.Goals as goal

pub leaving-domain-requires : goal.leaving-domain-requires
leaving-domain-requires g c = subst (λ k. c.args.port < k) (sym (wheel_ports-is c.args.wheel.now c.args.plan.now c.args.tile c.args.cycle c.requires.wheel)) c.requires.port

pub returns-in-Some : goal.returns-in-Some
returns-in-Some g c =
    let p = c.args.plan.now in
    Writes-port c.put_line.result _ _ p c.args.cycle c.args.tile c.args.port c.in-Some.field-0 c.name.result.now (sym c.in-Some.ensures.value)
    (c.name.ensures ∙ ap (name_of p) (c.leaving-domain.ensures.value p c.args.tile c.args.cycle c.in-Some.field-0 c.requires.wheel (sym c.in-Some.ensures.value))) c.put_line.ensures

pub returns-in-None : goal.returns-in-None
returns-in-None g c = subst (Puts _ _) (sym (port_text-none c.args.plan.now c.args.cycle c.args.tile c.args.port (sym c.in-None.ensures.value))) (Puts-nothing _)
