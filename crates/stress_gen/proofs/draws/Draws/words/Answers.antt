use Rattle.std.proofs.Common.{map, ◌++◌, ◌∷◌, [], List, ℕ, ap, sym, ◌∙◌, arith}
use Rattle.std.specs.List.{range_with_len}
use Rattle.std.proofs.lemmas.List.FromFn.{map-range_with_len_more}
use Rattle.stress_gen.specs.Draws.{next, upper, draw}
use Rattle.stress_gen.proofs.More.{more-draws}
use Rattle.stress_gen.proofs.draws.Draws.words.Goals as goal

pub loop-preserved : goal.loop-preserved
loop-preserved c =
    let x = c.args.self.now.number in
    let drawn = c.draw.ensures.value ∙ ap upper (c.draw.ensures.number ∙ ap next c.loop.invariant.number) in
    record {
      words = c.in_ok-push.ensures.ok ∙ ap (λ (ws : List ℕ). ws ++ c.draw.result ∷ []) c.loop.invariant.words
          ∙ ap (λ w. map (draw x) (range_with_len 0 c.loop.counter) ++ w ∷ []) drawn
          ∙ sym (map-range_with_len_more (draw x) 0 c.loop.counter c.loop.counter (omega arith));
      number = c.draw.ensures.number ∙ ap next c.loop.invariant.number ∙ sym (more-draws x c.loop.counter);
    }
