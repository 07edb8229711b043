use Rattle.std.proofs.Common.{◌+◌, ◌*◌, [], get_or, length, ◌∙◌, ap, sym, subst, arith}
use Rattle.std.specs.Prelude.{max}
use Rattle.aig_model.specs.Form.{word}
use Rattle.aig_model.specs.Netlist.{AreOf, MeansWord, settle_gates}
use Rattle.aig_model.proofs.Netlists.{wider}
use Rattle.aig_gates.specs.declared.words.Way.TheVariants.{Choose}
use Rattle.aig_gates.specs.Zips.{combined}
use Rattle.aig_gates.specs.Memory.{IsHalved}
use Rattle.aig_gates.proofs.Rows.{words-wider, word-at, half-none, half-more}
use Rattle.aig_gates.proofs.gates.Netlist.halved.Goals as goal

pub combine-requires : goal.combine-requires
combine-requires c =
    let n0 = c.args.self.now in
    let n = c.loop-place.self in
    let g = c.loop-place.invariant.grows in
    let row = c.args.row.now in
    let known = words-wider n0 n g row c.requires.row in
    record {
      way = wider n0 n g c.args.bit c.requires.bit;
      first = subst (AreOf n) (sym c.literals-odd.ensures) (word-at n row (2 * c.loop-place.place + 1) known);
      second = subst (AreOf n) (sym c.literals-even.ensures) (word-at n row (2 * c.loop-place.place) known);
    }

pub loop-place-init : goal.loop-place-init
loop-place-init c = subst (λ h. IsHalved c.args.self.now c.args.self.now c.args.row.now c.args.bit h 0) (sym c.new-half.ensures) (half-none c.args.self.now c.args.row.now c.args.bit)

pub loop-place-preserved : goal.loop-place-preserved
loop-place-preserved c =
    let n0 = c.args.self.now in
    let n = c.loop-place.self in
    let m = c.combine.new.self in
    let chosen = c.in_ok-chosen.chosen in
    let o = c.literals-odd.ensures in
    let e = c.literals-even.ensures in
    let odd = c.literals-odd.result.now in
    let even = c.literals-even.result.now in
    subst (λ h. IsHalved n0 m c.args.row.now c.args.bit h (c.loop-place.place + 1)) (sym c.in_ok-push.ensures.ok)
    (half-more n0 n m c.args.row.now c.loop-place.half c.args.bit c.loop-place.place chosen c.requires.row c.requires.bit c.combine.ensures.grows
    (subst (λ xs. MeansWord m chosen (λ v. combined (Choose c.args.bit) (settle_gates n v) (word (settle_gates n v) xs) (word (settle_gates n v) (get_or c.args.row.now (2 * c.loop-place.place) [])))) o
    (subst (λ xs. MeansWord m chosen (λ v. combined (Choose c.args.bit) (settle_gates n v) (word (settle_gates n v) odd) (word (settle_gates n v) xs))) e c.in_ok-chosen.ensures.value))
    (c.in_ok-chosen.ensures.count ∙ ap (λ xs. max (length xs) (length even)) o ∙ ap (λ xs. max (length (get_or c.args.row.now (2 * c.loop-place.place + 1) [])) (length xs)) e) c.loop-place.invariant)

pub returns : goal.returns
returns c =
    let z = c.loop-place.invariant in
    let past = c.loop-place-test.false in
    let within = c.loop-place.auto.place-end in
    let end = c.div_ceil-place-end.ensures in
    record {
      grows = z.grows;
      half = subst (IsHalved c.args.self.now c.loop-place.self c.args.row.now c.args.bit c.loop-place.half) (sym z.count) z;
      whole = (let k = z.count in omega (arith, past, within, end, k));
    }
