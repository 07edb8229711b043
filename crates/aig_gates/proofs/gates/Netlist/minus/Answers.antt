use Rattle.std.proofs.Common.{◌<◌, [], sym, subst, arith}
use Rattle.std.specs.Prelude.{not, ◌==◌}
use Rattle.std.proofs.lemmas.List.{take_rest}
use Rattle.aig_model.specs.Form.{word}
use Rattle.aig_model.specs.Netlist.{AreOf, Means, MeansWord, settle_gates}
use Rattle.aig_model.proofs.Netlists.{all-wider}
use Rattle.aig_gates.specs.declared.words.Way.TheVariants.{Choose}
use Rattle.aig_gates.specs.Zips.{combined}
use Rattle.aig_gates.proofs.Zipped.{IsPadded, IsComplement, bound-some, minus-known, minus-fits, minus-cut}
use Rattle.aig_gates.proofs.gates.Netlist.minus.Goals as goal

pub returns-then-bits-count-clause-value : goal.returns-then-bits-count-clause-value
returns-then-bits-count-clause-value c =
    let pad : IsPadded c.args.bits.now c.in_ok-low.low c.args.count = record { known = c.in_ok-low.ensures.known; count = c.in_ok-low.ensures.count; value = c.in_ok-low.ensures.value } in
    let other : IsComplement c.in_ok-low.low c.in_ok-other.other = subst (λ xs. IsComplement xs c.in_ok-other.other) c.as_slice.ensures (record { known = c.in_ok-other.ensures.known; value = c.in_ok-other.ensures.value }) in
    minus-fits c.args.self.now c.known.ensures.front c.args.bits.now c.in_ok-low.low c.in_ok-other.other c.args.count c.requires pad other c.if-bits-count.true

pub combine-requires-clause-first : goal.combine-requires-clause-first
combine-requires-clause-first c =
    let n1 = c.any.new.self in
    let front : 0 < n1.start = (let same = c.any.ensures.grows.start in let f = c.known.ensures.front in omega (arith, same, f)) in
    subst (AreOf n1) (sym c.as_slice-2.ensures) (c.in_ok-zeros.ensures.known _ (bound-some n1 front) tt)

pub combine-requires-clause-second : goal.combine-requires-clause-second
combine-requires-clause-second c =
    let pad : IsPadded c.args.bits.now c.in_ok-low.low c.args.count = record { known = c.in_ok-low.ensures.known; count = c.in_ok-low.ensures.count; value = c.in_ok-low.ensures.value } in
    let other : IsComplement c.in_ok-low.low c.in_ok-other.other = subst (λ xs. IsComplement xs c.in_ok-other.other) c.as_slice.ensures (record { known = c.in_ok-other.ensures.known; value = c.in_ok-other.ensures.value }) in
    subst (AreOf c.any.new.self) (sym c.as_slice-3.ensures)
    (all-wider c.args.self.now c.any.new.self c.any.ensures.grows c.in_ok-other.other (minus-known c.args.self.now c.known.ensures.front c.args.bits.now c.in_ok-low.low c.in_ok-other.other c.args.count c.requires pad other))

pub returns-clause-value : goal.returns-clause-value
returns-clause-value c =
    let n = c.args.self.now in
    let n1 = c.any.new.self in
    let n2 = c.combine.new.self in
    let over = c.in_ok-over.over in
    let pad : IsPadded c.args.bits.now c.in_ok-low.low c.args.count = record { known = c.in_ok-low.ensures.known; count = c.in_ok-low.ensures.count; value = c.in_ok-low.ensures.value } in
    let other : IsComplement c.in_ok-low.low c.in_ok-other.other = subst (λ xs. IsComplement xs c.in_ok-other.other) c.as_slice.ensures (record { known = c.in_ok-other.ensures.known; value = c.in_ok-other.ensures.value }) in
    let zeros : IsPadded [] c.in_ok-zeros.zeros c.args.count = record { known = c.in_ok-zeros.ensures.known; count = c.in_ok-zeros.ensures.count; value = c.in_ok-zeros.ensures.value } in
    minus-cut n c.known.ensures.front c.args.bits.now c.in_ok-low.low c.in_ok-other.other c.args.count c.requires pad other n1 n2 over c.in_ok-zeros.zeros c.in_ok-rest.rest c.any.ensures.grows (subst (λ xs. Means n1 over (λ v. not (word (settle_gates n v) xs == 0))) (take_rest c.args.bits.now c.args.count) c.in_ok-over.ensures.value) zeros
    (subst (λ xs. MeansWord n2 c.in_ok-rest.rest (λ v. combined (Choose over) (settle_gates n1 v) (word (settle_gates n1 v) xs) (word (settle_gates n1 v) c.in_ok-other.other))) c.as_slice-2.ensures
    (subst (λ ys. MeansWord n2 c.in_ok-rest.rest (λ v. combined (Choose over) (settle_gates n1 v) (word (settle_gates n1 v) c.as_slice-2.result.now) (word (settle_gates n1 v) ys))) c.as_slice-3.ensures c.in_ok-rest.ensures.value))
