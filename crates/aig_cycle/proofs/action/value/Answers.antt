use Rattle.std.proofs.Common.{◌≡◌, ℕ, ◌+◌, ◌-◌, ◌*◌, ◌/◌, ◌%◌, ◌^◌, ◌<◌, ◌≤◌, Bool, false, List, [], length, map, get_or, refl, sym, subst, ◌∙◌, ap, arith}
use Rattle.std.specs.Prelude.{IfOk, slice_index}
use Rattle.aig_model.specs.Form.{word}
use Rattle.aig_model.specs.Netlist.{Net, MeansWord, settle_gates}
use Rattle.vl_model.specs.Meaning.{chosen}
use Rattle.vl_run.specs.declared.step.Action.{Action}
use Rattle.vl_run.specs.declared.step.Action.TheVariants.{Number, Bits, Not, Two, Choose, Load, Join}
use Rattle.vl_run.specs.Step.{combined, action_value, word_at}
use Rattle.aig_gates.specs.Memory as memory
use Rattle.aig_gates.specs.Zips.{AreBelow}
use Rattle.aig_gates.proofs.Inserted.{no-variable}
use Rattle.aig_gates.proofs.Zipped.{if-ok, bound-some}
use Rattle.aig_cycle.specs.Wires.{numbers, rows, IsWord, AreWords, IsMask, IsScale, IsPlain}
use Rattle.aig_cycle.specs.Short.{lengths, IsShort}
use Rattle.aig_cycle.proofs.Shorter.{pow-fits}
use Rattle.aig_cycle.proofs.Actions.{both-ok, word-number, row-at, word-of, row-of, known-words, narrow-words, part-known, mask-width, masked-part, joined-number}
use Rattle.aig_cycle.proofs.action.value.Goals as goal

abbrev Brief : Net → Net → List (List ℕ) → Action → List ℕ → Type 0
Brief old new nets a r = (k : ℕ) → IsShort (lengths nets) a k → (new ≡ old) × (length r ≤ k)

abbrev Says : Net → Net → List (List ℕ) → List (List (List ℕ)) → Action → List ℕ → Type 0
Says old new nets ms a r = (v : ℕ → Bool) → v 0 ≡ false → let s = settle_gates old v in word (settle_gates new v) r ≡ action_value (word_at (rows s ms)) (slice_index (numbers s nets)) a

pub select-requires-clause-row : goal.select-requires-clause-row
select-requires-clause-row c =
    let n = c.args.netlist.now in
    known-words n c.memory.result.now (subst (AreWords n) (sym c.memory.ensures) (row-of n c.args.memories.now c.in-Load.place c.requires.memories))

pub returns-in-Number-clause-word : goal.returns-in-Number-clause-word
returns-in-Number-clause-word c =
    let n = c.args.netlist.now in
    both-ok c.number_word.result (λ r. (k : ℕ) → 0 < k → AreBelow k r) (λ r. length r ≤ 64) (IsWord n) (λ r known narrow. record { known = known (n.start + length n.gates) (bound-some n c.known.ensures.front); narrow = narrow })
    c.number_word.ensures.known c.number_word.ensures.narrow

pub returns-in-Number-clause-value : goal.returns-in-Number-clause-value
returns-in-Number-clause-value c =
    let n = c.args.netlist.now in
    let number = c.in-Number.number in
    subst (λ a. IfOk c.number_word.result (Says n n c.args.nets.now c.args.memories.now a)) (sym c.in-Number.is)
    (if-ok c.number_word.result (λ r. (v : ℕ → Bool) → v 0 ≡ false → word v r ≡ number) (Says n n c.args.nets.now c.args.memories.now (Number number))
    (λ r h v e. h (settle_gates n v) (no-variable n.start n.gates v c.known.ensures.front e)) c.number_word.ensures.value)

pub returns-in-Bits-clause-word : goal.returns-in-Bits-clause-word
returns-in-Bits-clause-word c =
    let n = c.args.netlist.now in
    let lits = c.literals-in-Bits.result.now in
    let here = subst (IsWord n) (sym c.literals-in-Bits.ensures) (word-of n c.args.nets.now c.in-Bits.from c.requires.nets) in
    both-ok c.part.result (λ r. (k : ℕ) → 0 < k → AreBelow k lits → AreBelow k r) (λ r. length r ≡ c.width.result) (IsWord n)
    (λ r known count. part-known n lits r c.width.result c.known.ensures.front here known count c.width.ensures.most) c.part.ensures.known c.part.ensures.count

pub returns-in-Bits-clause-value : goal.returns-in-Bits-clause-value
returns-in-Bits-clause-value c =
    let n = c.args.netlist.now in
    let from = c.in-Bits.from in
    let low = c.in-Bits.low in
    let mask = c.in-Bits.mask in
    let k = c.width.result in
    let lits = c.literals-in-Bits.result.now in
    let m : IsMask mask = subst IsPlain c.in-Bits.is c.requires.plain in
    let w = mask-width mask k m c.width.ensures.fits c.width.ensures.least in
    subst (λ a. IfOk c.part.result (Says n n c.args.nets.now c.args.memories.now a)) (sym c.in-Bits.is)
    (if-ok c.part.result (λ r. (v : ℕ → Bool) → v 0 ≡ false → word v r ≡ word v lits / 2 ^ low % 2 ^ k) (Says n n c.args.nets.now c.args.memories.now (Bits from low mask))
    (λ r h v e. h (settle_gates n v) (no-variable n.start n.gates v c.known.ensures.front e) ∙ ap (λ x. x / 2 ^ low % 2 ^ k) (word-number (settle_gates n v) c.args.nets.now from lits c.literals-in-Bits.ensures)
    ∙ sym (masked-part (get_or (numbers (settle_gates n v) c.args.nets.now) from 0 / 2 ^ low) mask k w.0)) c.part.ensures.value)

pub returns-in-Not-clause-value : goal.returns-in-Not-clause-value
returns-in-Not-clause-value c =
    let n = c.args.netlist.now in
    let from = c.in-Not.from in
    let mask = c.in-Not.mask in
    let k = c.width-in-Not.result in
    let lits = c.literals-in-Not.result.now in
    let m : IsMask mask = subst IsPlain c.in-Not.is c.requires.plain in
    let w = mask-width mask k m c.width-in-Not.ensures.fits c.width-in-Not.ensures.least in
    subst (λ a. IfOk c.minus.result (Says n c.minus.new.self c.args.nets.now c.args.memories.now a)) (sym c.in-Not.is)
    (if-ok c.minus.result (λ r. MeansWord c.minus.new.self r (λ v. 2 ^ k - 1 - word (settle_gates n v) lits)) (Says n c.minus.new.self c.args.nets.now c.args.memories.now (Not from mask))
    (λ r h v e. h.value v e ∙ ap (λ x. 2 ^ k - 1 - x) (word-number (settle_gates n v) c.args.nets.now from lits c.literals-in-Not.ensures)
    ∙ ap (λ x. x - get_or (numbers (settle_gates n v) c.args.nets.now) from 0) (sym w.0)) c.minus.ensures.value)

pub returns-in-Two-clause-value : goal.returns-in-Two-clause-value
returns-in-Two-clause-value c =
    let n = c.args.netlist.now in
    let op = c.in-Two.op in
    let mask = c.in-Two.mask in
    let l = c.literals-in-Two.result.now in
    let r' = c.literals-in-Two-2.result.now in
    subst (λ a. IfOk c.two.result (Says n c.two.new.netlist c.args.nets.now c.args.memories.now a)) (sym c.in-Two.is)
    (if-ok c.two.result (λ r. MeansWord c.two.new.netlist r (λ v. combined op mask (word (settle_gates n v) l) (word (settle_gates n v) r'))) (Says n c.two.new.netlist c.args.nets.now c.args.memories.now (Two op mask c.in-Two.left c.in-Two.right))
    (λ r h v e. h.value v e ∙ ap (λ x. combined op mask x (word (settle_gates n v) r')) (word-number (settle_gates n v) c.args.nets.now c.in-Two.left l c.literals-in-Two.ensures)
    ∙ ap (combined op mask (get_or (numbers (settle_gates n v) c.args.nets.now) c.in-Two.left 0)) (word-number (settle_gates n v) c.args.nets.now c.in-Two.right r' c.literals-in-Two-2.ensures)) c.two.ensures.value)

pub returns-in-Choose-clause-value : goal.returns-in-Choose-clause-value
returns-in-Choose-clause-value c =
    let n = c.args.netlist.now in
    let nets = c.args.nets.now in
    let t = c.literals-in-Choose.result.now in
    let a = c.literals-in-Choose-2.result.now in
    let b = c.literals-in-Choose-3.result.now in
    subst (λ z. IfOk c.choice.result (Says n c.choice.new.netlist nets c.args.memories.now z)) (sym c.in-Choose.is)
    (if-ok c.choice.result (λ r. MeansWord c.choice.new.netlist r (λ v. chosen (word (settle_gates n v) t) (word (settle_gates n v) a) (word (settle_gates n v) b)))
    (Says n c.choice.new.netlist nets c.args.memories.now (Choose c.in-Choose.test c.in-Choose.first c.in-Choose.second))
    (λ r h v e. h.value v e ∙ ap (λ x. chosen x (word (settle_gates n v) a) (word (settle_gates n v) b)) (word-number (settle_gates n v) nets c.in-Choose.test t c.literals-in-Choose.ensures)
    ∙ ap (λ x. chosen (get_or (numbers (settle_gates n v) nets) c.in-Choose.test 0) x (word (settle_gates n v) b)) (word-number (settle_gates n v) nets c.in-Choose.first a c.literals-in-Choose-2.ensures)
    ∙ ap (chosen (get_or (numbers (settle_gates n v) nets) c.in-Choose.test 0) (get_or (numbers (settle_gates n v) nets) c.in-Choose.first 0)) (word-number (settle_gates n v) nets c.in-Choose.second b c.literals-in-Choose-3.ensures))
    c.choice.ensures.value)

pub returns-in-Load-clause-word : goal.returns-in-Load-clause-word
returns-in-Load-clause-word c =
    let n = c.args.netlist.now in
    let row = c.memory.result.now in
    let words = subst (AreWords n) (sym c.memory.ensures) (row-of n c.args.memories.now c.in-Load.place c.requires.memories) in
    both-ok c.select.result (λ r. (most : ℕ) → memory.AreWithin most row → length r ≤ most)
    (λ r. MeansWord c.select.new.self r (λ v. get_or (map (word (settle_gates n v)) row) (word (settle_gates n v) c.literals-in-Load.result.now) 0)) (IsWord c.select.new.self)
    (λ r within means. record { known = means.known; narrow = within 64 (narrow-words n row words) }) c.select.ensures.within c.select.ensures.value

pub returns-in-Load-clause-value : goal.returns-in-Load-clause-value
returns-in-Load-clause-value c =
    let n = c.args.netlist.now in
    let nets = c.args.nets.now in
    let ms = c.args.memories.now in
    let k = c.in-Load.place in
    let i = c.in-Load.index in
    let row = c.memory.result.now in
    let lits = c.literals-in-Load.result.now in
    subst (λ z. IfOk c.select.result (Says n c.select.new.self nets ms z)) (sym c.in-Load.is)
    (if-ok c.select.result (λ r. MeansWord c.select.new.self r (λ v. get_or (map (word (settle_gates n v)) row) (word (settle_gates n v) lits) 0)) (Says n c.select.new.self nets ms (Load k i))
    (λ r h v e. h.value v e ∙ ap (λ x. get_or (map (word (settle_gates n v)) x) (word (settle_gates n v) lits) 0) c.memory.ensures
    ∙ ap (λ x. get_or x (word (settle_gates n v) lits) 0) (sym (row-at (settle_gates n v) ms k))
    ∙ ap (λ x. get_or (get_or (rows (settle_gates n v) ms) k []) x 0) (word-number (settle_gates n v) nets i lits c.literals-in-Load.ensures)) c.select.ensures.value)

pub returns-in-Join-clause-value : goal.returns-in-Join-clause-value
returns-in-Join-clause-value c =
    let n = c.args.netlist.now in
    let nets = c.args.nets.now in
    let a = c.literals-in-Join.result.now in
    let b = c.literals-in-Join-2.result.now in
    let k = c.shift.result in
    let scale = c.in-Join.scale in
    let m : IsScale scale = subst IsPlain c.in-Join.is c.requires.plain in
    let own : k ≡ m.width = c.shift.ensures m.width m.narrow m.is in
    let is : scale ≡ 2 ^ k % 2 ^ 64 = m.is ∙ ap (λ w. 2 ^ w % 2 ^ 64) (sym own) in
    let le : k ≤ 64 = subst (λ w. w ≤ 64) (sym own) m.narrow in
    subst (λ z. IfOk c.join.result (Says n c.join.new.self nets c.args.memories.now z)) (sym c.in-Join.is)
    (if-ok c.join.result (λ r. MeansWord c.join.new.self r (λ v. (word (settle_gates n v) a * 2 ^ k + word (settle_gates n v) b) % 2 ^ 64)) (Says n c.join.new.self nets c.args.memories.now (Join c.in-Join.front scale c.in-Join.back))
    (λ r h v e. h.value v e ∙ joined-number (word (settle_gates n v) a) (word (settle_gates n v) b) scale k le is
    ∙ ap (λ x. (x * scale % 2 ^ 64 + word (settle_gates n v) b) % 2 ^ 64) (word-number (settle_gates n v) nets c.in-Join.front a c.literals-in-Join.ensures)
    ∙ ap (λ x. (get_or (numbers (settle_gates n v) nets) c.in-Join.front 0 * scale % 2 ^ 64 + x) % 2 ^ 64) (word-number (settle_gates n v) nets c.in-Join.back b c.literals-in-Join-2.ensures)) c.join.ensures.value)

pub returns-in-Number-clause-short : goal.returns-in-Number-clause-short
returns-in-Number-clause-short c =
    let n = c.args.netlist.now in
    subst (λ a. IfOk c.number_word.result (Brief n n c.args.nets.now a)) (sym c.in-Number.is)
    (if-ok c.number_word.result (λ r. (w : ℕ) → c.in-Number.number < 2 ^ w → length r ≤ w) (Brief n n c.args.nets.now (Number c.in-Number.number)) (λ r h k e. (refl, h k e)) c.number_word.ensures.count)

pub returns-in-Bits-clause-short : goal.returns-in-Bits-clause-short
returns-in-Bits-clause-short c =
    let n = c.args.netlist.now in
    subst (λ a. IfOk c.part.result (Brief n n c.args.nets.now a)) (sym c.in-Bits.is)
    (if-ok c.part.result (λ r. length r ≡ c.width.result) (Brief n n c.args.nets.now (Bits c.in-Bits.from c.in-Bits.low c.in-Bits.mask))
    (λ r h k e. (refl, (let l = c.width.ensures.least k e in omega (arith, h, l)))) c.part.ensures.count)

pub returns-in-Not-clause-short : goal.returns-in-Not-clause-short
returns-in-Not-clause-short c =
    let n = c.args.netlist.now in
    let from = c.in-Not.from in
    let mask = c.in-Not.mask in
    let w = c.width-in-Not.result in
    let lits = c.literals-in-Not.result.now in
    let m : IsMask mask = subst IsPlain c.in-Not.is c.requires.plain in
    let own = mask-width mask w m c.width-in-Not.ensures.fits c.width-in-Not.ensures.least in
    let below = c.width-in-Not.ensures.fits in
    let long : length lits ≡ lengths c.args.nets.now from = ap length c.literals-in-Not.ensures in
    subst (λ a. IfOk c.minus.result (Brief n c.minus.new.self c.args.nets.now a)) (sym c.in-Not.is)
    (if-ok c.minus.result (λ r. length r ≡ w) (Brief n c.minus.new.self c.args.nets.now (Not from mask))
    (λ r h k e. (
    let l = c.width-in-Not.ensures.least k e.0 in
    let e1 = e.1 in
    let fits : lengths c.args.nets.now from ≤ w = pow-fits (lengths c.args.nets.now from) w (omega (arith, e1, below)) in
    (c.minus.ensures.free (omega (arith, long, fits)), omega (arith, h, l)))) c.minus.ensures.count)

pub returns-in-Two-clause-short : goal.returns-in-Two-clause-short
returns-in-Two-clause-short c =
    let n = c.args.netlist.now in
    subst (λ z. IfOk c.two.result (Brief n c.two.new.netlist c.args.nets.now z)) (sym c.in-Two.is)
    (if-ok c.two.result (λ r. length r ≤ 64) (Brief n c.two.new.netlist c.args.nets.now (Two c.in-Two.op c.in-Two.mask c.in-Two.left c.in-Two.right)) (λ r h k e. absurd e) c.two.ensures.narrow)

pub returns-in-Choose-clause-short : goal.returns-in-Choose-clause-short
returns-in-Choose-clause-short c =
    let n = c.args.netlist.now in
    subst (λ z. IfOk c.choice.result (Brief n c.choice.new.netlist c.args.nets.now z)) (sym c.in-Choose.is)
    (if-ok c.choice.result (λ r. length r ≤ 64) (Brief n c.choice.new.netlist c.args.nets.now (Choose c.in-Choose.test c.in-Choose.first c.in-Choose.second)) (λ r h k e. absurd e) c.choice.ensures.narrow)

pub returns-in-Load-clause-short : goal.returns-in-Load-clause-short
returns-in-Load-clause-short c =
    let n = c.args.netlist.now in
    subst (λ z. IfOk c.select.result (Brief n c.select.new.self c.args.nets.now z)) (sym c.in-Load.is)
    (if-ok c.select.result (λ r. (most : ℕ) → memory.AreWithin most c.memory.result.now → length r ≤ most) (Brief n c.select.new.self c.args.nets.now (Load c.in-Load.place c.in-Load.index)) (λ r h k e. absurd e) c.select.ensures.within)

pub returns-in-Join-clause-short : goal.returns-in-Join-clause-short
returns-in-Join-clause-short c =
    let n = c.args.netlist.now in
    let nets = c.args.nets.now in
    let a = c.literals-in-Join.result.now in
    let b = c.literals-in-Join-2.result.now in
    let w = c.shift.result in
    let front : length a ≡ lengths nets c.in-Join.front = ap length c.literals-in-Join.ensures in
    let back : length b ≡ lengths nets c.in-Join.back = ap length c.literals-in-Join-2.ensures in
    subst (λ z. IfOk c.join.result (Brief n c.join.new.self nets z)) (sym c.in-Join.is)
    (if-ok c.join.result (λ r. length b ≤ w → length r ≤ w + length a) (Brief n c.join.new.self nets (Join c.in-Join.front c.in-Join.scale c.in-Join.back))
    (λ r h k j. (
    let own : w ≡ j.width = c.shift.ensures j.width j.narrow j.is in
    let f = j.fits in
    let m = j.most in
    let fits : length b ≤ w = omega (arith, own, f, back) in
    let most = h fits in
    (c.join.ensures.free fits, omega (arith, most, m, own, front)))) c.join.ensures.count)
