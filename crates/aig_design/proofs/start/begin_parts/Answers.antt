use Rattle.std.proofs.Common.{◌++◌, ◌∷◌, [], sym, ◌∙◌, ap, append_assoc}
use Rattle.aig_design.proofs.Laid.{laid-more}
use Rattle.aig_design.proofs.start.begin_parts.Goals as goal

pub loop-part-preserved : goal.loop-part-preserved
loop-part-preserved c =
    let x = c.in-Some.part in
    let ys = c.loop-part.yielded in (
      c.in_ok-laid.ensures.front,
      c.loop-part.invariant.1 ∙ ap (λ z. ys ++ z) c.in-Some.ensures.steps.0 ∙ sym (append_assoc ys (x ∷ []) c.next.new.self.rest.items),
      laid-more c.args.variables.now.next c.loop-part.variables.next c.begin_part.new.variables.next ys x c.loop-part.wired.items c.push.new.self.items c.loop-part.resets.items c.push-in-loop-part.new.self.items c.in_ok-laid.laid.wired c.in_ok-laid.laid.resets
          c.in_ok-push.ensures.items c.in_ok-push-2.ensures.items c.loop-part.invariant.2 c.in_ok-laid.ensures.laid c.in_ok-laid.ensures.resets,
    )
