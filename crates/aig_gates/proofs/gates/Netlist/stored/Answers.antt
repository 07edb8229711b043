use Rattle.std.proofs.Common.{ℕ, ◌+◌, ◌<◌, Bool, length, ◌∙◌, ap, sym, subst, arith}
use Rattle.std.specs.Prelude.{max, ◌==◌}
use Rattle.std.proofs.lemmas.List.{get_or_read}
use Rattle.aig_model.specs.Form.{literal, word}
use Rattle.aig_model.specs.Netlist.{Means, MeansWord, settle_gates}
use Rattle.aig_model.proofs.Netlists.{grows-twice, means-grows, grown-word}
use Rattle.aig_gates.specs.declared.words.Way.TheVariants.{Choose}
use Rattle.aig_gates.specs.Zips.{combined}
use Rattle.aig_gates.specs.Memory.{IsStored}
use Rattle.aig_gates.proofs.Inserted.{no-variable}
use Rattle.aig_gates.proofs.Rippled.{means-itself}
use Rattle.aig_gates.proofs.Rows.{store-more, store-is}
use Rattle.aig_gates.proofs.gates.Netlist.stored.Goals as goal

pub loop-place-preserved : goal.loop-place-preserved
loop-place-preserved c =
    let n0 = c.args.self.now in
    let n = c.loop-place.self in
    let n1 = c.equal.new.self in
    let p = c.and.new.self in
    let m = c.combine.new.self in
    let g0 = c.loop-place.invariant.grows in
    let g1 = grows-twice n0 n n1 g0 c.equal.ensures.grows in
    let gp = grows-twice n0 n1 p g1 c.and.ensures.grows in
    let gm = grows-twice n0 p m gp c.combine.ensures.grows in
    let gnm = grows-twice n n1 m c.equal.ensures.grows (grows-twice n1 p m c.and.ensures.grows c.combine.ensures.grows) in
    let i = c.loop-place.place in
    let index = c.args.index.now in
    let value = c.args.value.now in
    let row = c.args.row.now in
    let f : (ℕ → Bool) → Bool = λ v. literal (settle_gates n0 v) c.args.enable in
    let h : (ℕ → Bool) → Bool = λ v. word (settle_gates n0 v) index == i in
    let front : 0 < n.start = (let s = g0.start in let f0 = c.known.ensures.front in omega (arith, s, f0)) in
    let here : Means n1 c.in_ok-here.here h =
    record {
      known = c.in_ok-here.ensures.value.known;
      value = λ v e.
          c.in_ok-here.ensures.value.value v e ∙ ap (λ x. x == word (settle_gates n v) c.as_slice.result.now) (grown-word n0 n g0 v index c.requires.index)
          ∙ ap (λ x. word (settle_gates n0 v) index == x) (ap (word (settle_gates n v)) c.as_slice.ensures ∙ c.in_ok-number.ensures.value (settle_gates n v) (no-variable n.start n.gates v front e));
    } in
    let hits = c.in_ok-hit.ensures.value f h (means-grows n0 n1 g1 c.args.enable f (means-itself n0 c.args.enable c.requires.enable)) here in
    let old = c.as_slice-in-loop-place.ensures ∙ get_or_read row i _ c.loop-place-test.true c.index-row-place.is _ in
    subst (λ a. IsStored n0 m row c.args.enable index value a (i + 1)) (sym c.in_ok-push.ensures.ok)
    (store-more n0 n m row c.loop-place.all c.args.enable index value i c.in_ok-hit.hit c.in_ok-chosen.chosen c.requires.row c.requires.value gnm gm p gp c.combine.ensures.grows hits
    (subst (λ xs. MeansWord m c.in_ok-chosen.chosen (λ v. combined (Choose c.in_ok-hit.hit) (settle_gates p v) (word (settle_gates p v) value) (word (settle_gates p v) xs))) old c.in_ok-chosen.ensures.value)
    (c.in_ok-chosen.ensures.count ∙ ap (λ xs. max (length value) (length xs)) old) c.loop-place.invariant)

pub returns-clause-words : goal.returns-clause-words
returns-clause-words c v e =
    let past = c.loop-place-test.false in
    let within = c.loop-place.auto.place-end in
    store-is c.args.self.now c.loop-place.self c.args.row.now c.loop-place.all c.args.enable c.args.index.now c.args.value.now
    (subst (IsStored c.args.self.now c.loop-place.self c.args.row.now c.args.enable c.args.index.now c.args.value.now c.loop-place.all) (omega (arith, past, within)) c.loop-place.invariant) v e
