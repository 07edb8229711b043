use Rattle.std.proofs.Common.{◌*◌, ◌≤◌, length, map, ◌∙◌, ap, sym, subst, get_or, []}
use Rattle.aig_gates.specs.Memory.{IsHalved}
use Rattle.aig_model.specs.Form.{word}
use Rattle.aig_model.specs.Netlist.{MeansWord, settle_gates}
use Rattle.aig_gates.proofs.Rippled.{all-at}
use Rattle.aig_gates.proofs.Rows.{within-at, select-more, select-is}
use Rattle.aig_gates.proofs.gates.Netlist.select.Goals as goal

pub loop-bit-preserved : goal.loop-bit-preserved
loop-bit-preserved c =
    let n = c.loop-bit.self in
    let m = c.halved.new.self in
    let half = c.in_ok-words-2.words in
    let i = c.loop-bit.bit-index in
    let index = c.args.index.now in
    select-more c.args.self.now n m c.args.row.now c.loop-bit.words half index i c.requires.index c.loop-bit-test.true c.halved.ensures.grows
    (subst (λ ws. IsHalved n m ws (get_or index i 0) half (length half)) c.as_slice.ensures c.in_ok-words-2.ensures.half) (subst (λ ws. length ws ≤ 2 * length half) c.as_slice.ensures c.in_ok-words-2.ensures.whole)
    (all-at c.args.self.now index i c.requires.index c.loop-bit-test.true) c.loop-bit.invariant

pub returns-clause-within : goal.returns-clause-within
returns-clause-within c most a =
    subst (λ w. length w ≤ most) (sym (c.in_ok-bits.ensures ∙ c.literals.ensures ∙ ap (λ ws. get_or ws 0 []) c.as_slice-2.ensures)) (within-at most c.loop-bit.words 0 (c.loop-bit.invariant.within most a))

pub returns-clause-value : goal.returns-clause-value
returns-clause-value c =
    subst (λ w. MeansWord c.loop-bit.self w (λ v. get_or (map (word (settle_gates c.args.self.now v)) c.args.row.now) (word (settle_gates c.args.self.now v) c.args.index.now) 0)) (sym (c.in_ok-bits.ensures ∙ c.literals.ensures ∙ ap (λ ws. get_or ws 0 []) c.as_slice-2.ensures))
    (select-is c.args.self.now c.loop-bit.self c.args.row.now c.loop-bit.words c.args.index.now c.loop-bit.bit-index c.loop-bit-test.false c.loop-bit.invariant)
