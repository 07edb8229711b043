use Rattle.std.proofs.Common.{◌≡◌, ◌≢◌, ℕ, ◌+◌, ◌<◌, ◌≤◌, ◌⊎◌, inl, inr, sym, ◌∙◌, ap, subst, arith, ⊎_elim}
use Rattle.std.specs.Prelude.{List, Some, slice_get}
use Rattle.std.proofs.lemmas.Bool.{cases_eq}
use Rattle.vl_model.specs.Whole.{Nets}
use Rattle.noc_model.specs.declared.Host.{Host}
use Rattle.noc_model.specs.Driver.{Driver}
use Rattle.tile_drive.specs.Seen.{seen_at}
use Rattle.vl_run.specs.Running.{running}
use Rattle.surf_replay.specs.Cycle.{IsIn, seen_text, notified}
use Rattle.surf_replay.proofs.attached.step_all.Goals as goal

pub loop-j-preserved : goal.loop-j-preserved
loop-j-preserved g c =
    let e = c.step_attached.ensures in
    let i = c.loop-j.invariant in
    let j = c.loop-j.j in
    let t = c.args.cycle in
    let v : Driver = g.D.Driving.driver c.args.drive.now in
    let state : ℕ → List ℕ = g.D.Driving.state c.args.drive.now in
    record {
      count = e.count ∙ i.count;
      driver = e.driver ∙ i.driver;
      seen_len = e.seen_len ∙ i.seen_len;
      done = λ nets k h less in-cycle at.
          ⊎_elim
          (λ (same : k ≡ j). (
          let here : slice_get c.args.plan.now.hosts j ≡ Some h =
          ap (slice_get c.args.plan.now.hosts) (sym same) ∙ at in
          let s = ap (g.D.Driving.state c.step_attached.new.drive) same ∙ e.state nets h in-cycle here
          ∙ ap (λ (w : Driver). notified w t j (g.D.Driving.state c.loop-j.drive j) nets h) i.driver
          ∙ ap (λ (x : List ℕ). notified v t j x nets h) (i.left j (omega arith))
          ∙ ap (λ (n : ℕ). notified v t n (state n) nets h) (sym same) in
          let q = ap (seen_at c.step_attached.new.seen) same ∙ e.seen nets h in-cycle here
          ∙ ap (λ (w : Driver). seen_text w t j (g.D.Driving.state c.loop-j.drive j) nets h) i.driver
          ∙ ap (λ (x : List ℕ). seen_text v t j x nets h) (i.left j (omega arith))
          ∙ ap (λ (n : ℕ). seen_text v t n (state n) nets h) (sym same) in
          (s, q)))
          (λ (other : k ≢ j). (
          let before : k < j = omega (arith, other) in
          let was = i.done nets k h before in-cycle at in
          (e.others k other ∙ was.0, e.seen_others k other ∙ was.1)))
          (cases_eq k j);
      left = λ k le. (let other : k ≢ j = λ same. absurd (omega arith) in e.others k other ∙ i.left k (omega arith));
    }
