use Rattle.std.proofs.Common.{◌≡◌, ◌<◌, ℕ, true, None, [], length, sym, ap, ◌∙◌, arith}
use Rattle.std.proofs.lemmas.List.{get_or_read}
use Rattle.noc_model.specs.Plan.{ports}
use Rattle.credit_links.specs.Rows.{place_at}
use Rattle.router_core.specs.Pulses.{pulse_at}
use Rattle.cycle_sim.specs.Links.{row_of}
use Rattle.cycle_sim.proofs.Waking.{unlike}
use Rattle.cycle_sim.proofs.wake.may_sleep.Goals.{then-is_idle, else-is_idle}
use Rattle.cycle_sim.proofs.wake.may_sleep.Goals as goal

pub returns-then-has_no_flits : goal.returns-then-has_no_flits
returns-then-has_no_flits c = λ all.
    let p = c.args.plan.now in
    let pulses = c.args.pulses.now in
    let both : (c.is_idle.result ≡ true) × ((o i : ℕ) → o < ports p → place_at (row_of p c.args.rows.now c.args.tile o) i ≡ None) =
    elim c.if-is_idle.branch [
      | then-is_idle w ↦ (w.if-is_idle.true, w.has_no_flits.ensures (sym w.value-is ∙ c.if-has_no_flits.true))
      | else-is_idle w ↦ absurd (unlike (sym c.if-has_no_flits.true ∙ w.value-is ∙ w.if-is_idle.false))
    ] in
    let inside : c.args.tile < length pulses = omega (arith, c.requires.tile, c.requires.pulses) in
    let read = get_or_read pulses _ _ inside c.index-pulses-tile.is [] in
    record {
      idle = c.is_idle.ensures.0 both.0;
      empty = both.1;
      silent = λ d port there low. ap (λ x. pulse_at x d port) (sym read) ∙ c.has_no_pulses.ensures all d port there low;
    }
