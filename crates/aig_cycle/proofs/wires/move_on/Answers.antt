use Rattle.std.proofs.Common.{[], ◌++◌, ◌∙◌, ap, sym, subst}
use Rattle.aig_model.specs.Netlist.{settle_gates}
use Rattle.aig_model.proofs.Netlists.{grows-twice}
use Rattle.vl_run.specs.State.{Code}
use Rattle.vl_run.specs.Step.{ran, word_at}
use Rattle.vl_run.specs.Program.{stored_in}
use Rattle.aig_cycle.specs.Wires.{numbers, rows, AreWords, AreRows}
use Rattle.aig_cycle.specs.Steps.{linked_words}
use Rattle.aig_cycle.specs.Short.{lengths, Bounds, AreShort}
use Rattle.aig_cycle.proofs.Shorter.{shorts-end}
use Rattle.aig_cycle.proofs.Running.{words-wider, rows-wider, numbers-grown, rows-grown, linked-words, edge-is}
use Rattle.aig_cycle.proofs.wires.move_on.Goals as goal

pub run-requires-clause-nets : goal.run-requires-clause-nets
run-requires-clause-nets c =
    let n = c.args.netlist.now in
    let p = c.args.program.now in
    let feeds = c.as_slice.ensures.value ∙ ap (λ (q : Code). q.feeds) c.program.view_is in
    subst (AreWords n) (sym (c.in_ok-copy.ensures ∙ ap (λ ls. linked_words c.args.tops.now ls c.args.nets.now.items) feeds)) (linked-words n c.args.tops.now p.feeds c.args.nets.now.items c.requires.tops c.requires.wires.nets)

pub run-requires-2-clause-memories : goal.run-requires-2-clause-memories
run-requires-2-clause-memories c = subst (AreRows c.run.new.netlist) (sym c.as_slice-5.ensures.value) (rows-wider c.args.netlist.now c.run.new.netlist c.run.ensures.grows c.args.memories.now.items c.requires.wires.memories)

pub store-requires-clause-memories : goal.store-requires-clause-memories
store-requires-clause-memories c =
    rows-wider c.args.netlist.now c.run-2.new.netlist (grows-twice c.args.netlist.now c.run.new.netlist c.run-2.new.netlist c.run.ensures.grows c.run-2.ensures.grows) c.args.memories.now.items c.requires.wires.memories

pub run-requires-3-clause-nets : goal.run-requires-3-clause-nets
run-requires-3-clause-nets c = words-wider c.run-2.new.netlist c.store.new.netlist c.store.ensures.grows c.run-2.new.nets.items c.in_ok-run-2.ensures.words

pub returns-clause-words : goal.returns-clause-words
returns-clause-words c = record {
  nets = c.in_ok-run-3.ensures.words;
  memories = rows-wider c.store.new.netlist c.run-3.new.netlist c.run-3.ensures.grows c.store.new.memories.items c.in_ok-store.ensures.words;
}

pub returns-clause-value : goal.returns-clause-value
returns-clause-value c v e =
    let n0 = c.args.netlist.now in
    let n1 = c.run.new.netlist in
    let n2 = c.run-2.new.netlist in
    let n3 = c.store.new.netlist in
    let n4 = c.run-3.new.netlist in
    let p = c.args.program.now in
    let ms = c.args.memories.now.items in
    let after = c.store.new.memories.items in
    let a = c.copy.new.to.items in
    let b = c.run.new.nets.items in
    let z = c.run-2.new.nets.items in
    let feeds = c.as_slice.ensures.value ∙ ap (λ (q : Code). q.feeds) c.program.view_is in
    let settle = c.as_slice-2.ensures.value ∙ ap (λ (q : Code). q.settle) c.program.view_is in
    let next = c.as_slice-4.ensures.value ∙ ap (λ (q : Code). q.next) c.program.view_is in
    let stores = c.as_slice-6.ensures.value ∙ ap (λ (q : Code). q.stores) c.program.view_is in
    let moves = c.as_slice-8.ensures.value ∙ ap (λ (q : Code). q.moves) c.program.view_is in
    edge-is n0 n1 n2 n3 n4 v p c.args.tops.now c.args.nets.now.items a b z c.run-3.new.nets.items ms after c.run.ensures.grows c.run-2.ensures.grows c.requires.wires.memories
    (c.in_ok-copy.ensures ∙ ap (λ ls. linked_words c.args.tops.now ls c.args.nets.now.items) feeds)
    (c.in_ok-run.ensures.value v e ∙ ap (λ m. ran (word_at (rows (settle_gates n0 v) m)) c.as_slice-2.result.now (numbers (settle_gates n0 v) a)) c.as_slice-3.ensures.value
    ∙ ap (λ ss. ran (word_at (rows (settle_gates n0 v) ms)) ss (numbers (settle_gates n0 v) a)) settle)
    (c.in_ok-run-2.ensures.value v e ∙ ap (λ m. ran (word_at (rows (settle_gates n1 v) m)) c.as_slice-4.result.now (numbers (settle_gates n1 v) b)) c.as_slice-5.ensures.value
    ∙ ap (λ ss. ran (word_at (rows (settle_gates n1 v) ms)) ss (numbers (settle_gates n1 v) b)) next)
    (c.in_ok-store.ensures.value v e ∙ ap (λ ws. stored_in (numbers (settle_gates n2 v) ws) c.as_slice-6.result.now (rows (settle_gates n2 v) ms)) c.as_slice-7.ensures.value
    ∙ ap (λ xs. stored_in (numbers (settle_gates n2 v) z) xs (rows (settle_gates n2 v) ms)) stores)
    (numbers-grown n2 n3 c.store.ensures.grows v z c.in_ok-run-2.ensures.words)
    (c.in_ok-run-3.ensures.value v e ∙ ap (λ m. ran (word_at (rows (settle_gates n3 v) m)) c.as_slice-8.result.now (numbers (settle_gates n3 v) z)) c.as_slice-9.ensures.value
    ∙ ap (λ ss. ran (word_at (rows (settle_gates n3 v) after)) ss (numbers (settle_gates n3 v) z)) moves)
    (rows-grown n3 n4 c.run-3.ensures.grows v after c.in_ok-store.ensures.words)

pub returns-clause-short : goal.returns-clause-short
returns-clause-short c h =
    let p = c.args.program.now in
    let x : Bounds = h.bounds in
    let feeds = c.as_slice.ensures.value ∙ ap (λ (q : Code). q.feeds) c.program.view_is in
    let settle = c.as_slice-2.ensures.value ∙ ap (λ (q : Code). q.settle) c.program.view_is in
    let next = c.as_slice-4.ensures.value ∙ ap (λ (q : Code). q.next) c.program.view_is in
    let stores = c.as_slice-6.ensures.value ∙ ap (λ (q : Code). q.stores) c.program.view_is in
    let moves = c.as_slice-8.ensures.value ∙ ap (λ (q : Code). q.moves) c.program.view_is in
    let fed = c.in_ok-copy.ensures ∙ ap (λ ls. linked_words c.args.tops.now ls c.args.nets.now.items) feeds in
    let start : AreShort x (p.settle ++ (p.next ++ p.moves)) (lengths c.copy.new.to.items) = subst (λ z. AreShort x (p.settle ++ (p.next ++ p.moves)) (lengths z)) (sym fed) h.steps in
    let one = c.in_ok-run.ensures.short x (p.next ++ p.moves) (subst (λ z. AreShort x (z ++ (p.next ++ p.moves)) (lengths c.copy.new.to.items)) (sym settle) start) in
    let two = c.in_ok-run-2.ensures.short x p.moves (subst (λ z. AreShort x (z ++ p.moves) (lengths c.run.new.nets.items)) (sym next) one.1) in
    let three = c.in_ok-run-3.ensures.short x []
    (subst (λ z. AreShort x (z ++ []) (lengths c.run-2.new.nets.items)) (sym moves) (shorts-end x p.moves (lengths c.run-2.new.nets.items) two.1)) in
    three.0 ∙ c.in_ok-store.ensures.none (stores ∙ h.stores) ∙ two.0 ∙ one.0
