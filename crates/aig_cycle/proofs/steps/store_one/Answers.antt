use Rattle.std.proofs.Common.{◌≡◌, ℕ, Bool, get_or, [], length, ◌≤◌, ◌∙◌, ap, sym, subst}
use Rattle.std.specs.Prelude.{◌==◌}
use Rattle.aig_model.specs.Form.{word}
use Rattle.aig_model.specs.Netlist.{AreOf, settle_gates}
use Rattle.aig_model.proofs.Netlists.{all-wider, grows-twice}
use Rattle.aig_gates.proofs.Inserted.{no-variable}
use Rattle.aig_gates.proofs.Rows as gates
use Rattle.aig_cycle.specs.Wires.{numbers, AreWords, AreRows}
use Rattle.aig_cycle.proofs.Actions.{word-of, row-of, known-words, narrow-words, word-number}
use Rattle.aig_cycle.proofs.Running.{rows-wider, rows-set, both-words, store-one-is}
use Rattle.aig_cycle.proofs.steps.store_one.Goals as goal

pub stored-requires-clause-row : goal.stored-requires-clause-row
stored-requires-clause-row c =
    let n = c.args.netlist.now in
    let old = c.memory.result.now in
    let is = c.memory.ensures ∙ ap (λ ms. get_or ms c.args.store.memory []) c.as_slice-2.ensures.value in
    gates.words-wider n c.equal.new.self c.equal.ensures.grows old (known-words n old (subst (AreWords n) (sym is) (row-of n c.args.memories.now.items c.args.store.memory c.requires.memories)))

pub stored-requires-clause-index : goal.stored-requires-clause-index
stored-requires-clause-index c =
    let n = c.args.netlist.now in
    all-wider n c.equal.new.self c.equal.ensures.grows c.literals-2.result.now (subst (AreOf n) (sym c.literals-2.ensures) (word-of n c.args.nets.now c.args.store.index c.requires.nets).known)

pub stored-requires-clause-value : goal.stored-requires-clause-value
stored-requires-clause-value c =
    let n = c.args.netlist.now in
    all-wider n c.equal.new.self c.equal.ensures.grows c.literals-3.result.now (subst (AreOf n) (sym c.literals-3.ensures) (word-of n c.args.nets.now c.args.store.value c.requires.nets).known)

pub returns-clause-words : goal.returns-clause-words
returns-clause-words c =
    let n = c.args.netlist.now in
    let m = c.stored.new.self in
    let g = grows-twice n c.equal.new.self m c.equal.ensures.grows c.stored.ensures.grows in
    let old = c.memory.result.now in
    let is = c.memory.ensures ∙ ap (λ ms. get_or ms c.args.store.memory []) c.as_slice-2.ensures.value in
    let words = subst (AreWords n) (sym is) (row-of n c.args.memories.now.items c.args.store.memory c.requires.memories) in
    let value = subst (λ w. length w ≤ 64) (sym c.literals-3.ensures) (word-of n c.args.nets.now c.args.store.value c.requires.nets).narrow in
    let row = both-words m c.in_ok-row.row c.in_ok-row.ensures.known (c.in_ok-row.ensures.within 64 (narrow-words n old words) value) in
    subst (AreRows m) (sym c.put_row.ensures) (rows-set m c.args.memories.now.items c.args.store.memory c.in_ok-row.row (rows-wider n m g c.args.memories.now.items c.requires.memories) row)

pub returns-clause-value : goal.returns-clause-value
returns-clause-value c v e =
    let n = c.args.netlist.now in
    let n1 = c.equal.new.self in
    let m = c.stored.new.self in
    let is = c.memory.ensures ∙ ap (λ ms. get_or ms c.args.store.memory []) c.as_slice-2.ensures.value in
    let s : ℕ → Bool = settle_gates n v in
    let one : word s c.as_slice.result.now ≡ 1 = ap (word s) c.as_slice.ensures ∙ c.in_ok-one.ensures.value s (no-variable n.start n.gates v c.known.ensures.front e) in
    let on = c.in_ok-enable.ensures.value.value v e ∙ ap (λ z. z == word s c.as_slice.result.now) (word-number s c.args.nets.now c.args.store.enable c.literals.result.now c.literals.ensures)
    ∙ ap (λ z. get_or (numbers s c.args.nets.now) c.args.store.enable 0 == z) one in
    store-one-is n n1 m v c.args.memories.now.items _ c.args.nets.now c.args.store c.in_ok-enable.enable c.in_ok-row.row c.memory.result.now c.literals-2.result.now c.literals-3.result.now c.equal.ensures.grows c.stored.ensures.grows
    c.requires.memories c.requires.nets is c.literals-2.ensures c.literals-3.ensures on (c.in_ok-row.ensures.words v e) c.put_row.ensures
