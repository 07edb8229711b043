use Rattle.std.proofs.Common.{ℕ, List, ◌≡◌, sym, ◌∙◌, ap, subst, length, replicate, arith}
use Rattle.std.proofs.lemmas.List.{length-replicate}
use Rattle.std.specs.List.{AllByRecursion}
use Rattle.vl_tree.specs.Values.{Name, Leaf}
use Rattle.vl_tree.specs.Read.{read_leaf}
use Rattle.vl_run.specs.Emit.{place_in}
use Rattle.vl_run.specs.Step.{ran, word_at}
use Rattle.vl_run.specs.Program.{reset_steps}
use Rattle.vl_run.specs.State.{Code}
use Rattle.vl_run.specs.Start.{IsInside}
use Rattle.vl_run.specs.declared.packed.Packed.{Packed}
use Rattle.vl_run.specs.Packed.{all_unpacked, AreBelow}
use Rattle.vl_run.proofs.Room.{started}
use Rattle.vl_run.proofs.state.State.new.Goals as goal

pub returns : goal.returns
returns c =
    let s : Name → ℕ = place_in c.args.leaf.now.declared.now in
    let l : Leaf = read_leaf c.args.leaf.now.leaf.now in
    let p = c.args.program.now in
    let ms = c.in_ok-memories.memories.items in
    let e1 : c.as_slice.result.now ≡ p.settle = c.as_slice.ensures.value ∙ ap (λ (q : Code). q.settle) c.program.view_is in
    let e2 : c.as_slice-2.result.now ≡ p.next = c.as_slice-2.ensures.value ∙ ap (λ (q : Code). q.next) c.program.view_is in
    let e3 : c.as_slice-3.result.now ≡ p.moves = c.as_slice-3.ensures.value ∙ ap (λ (q : Code). q.moves) c.program.view_is in
    let e5 : c.as_slice-5.result.now ≡ reset_steps s l.items = cc (c.as_slice-5.ensures.value, c.in_ok-resets.ensures, c.as_slice-4.ensures, c.scope_of-scope.ensures.declared) in
    let e6 : c.as_slice-6.result.now ≡ reset_steps s l.items = cc (c.as_slice-6.ensures.value, c.in_ok-resets.ensures, c.as_slice-4.ensures, c.scope_of-scope.ensures.declared) in
    let e8 : c.as_slice-8.result.now ≡ ms = cc (c.as_slice-8.ensures.value) in
    let z : c.in_ok-nets.nets ≡ replicate c.in_ok-size.size 0 = c.in_ok-nets.ensures in
    started s l p c.in_ok-settle.settle c.in_ok-both.both c.in_ok-all.all c.in_ok-size.size ms c.run.new.nets
    (omega (arith, c.in_ok-settle.ensures.least, c.scope_of-scope.ensures.lines)) c.in_ok-both.ensures.least c.in_ok-all.ensures.least c.in_ok-size.ensures.least
    (subst (AllByRecursion (IsInside c.in_ok-settle.settle)) e1 c.in_ok-settle.ensures.steps)
    (subst (AllByRecursion (IsInside c.in_ok-both.both)) e2 c.in_ok-both.ensures.steps)
    (subst (AllByRecursion (IsInside c.in_ok-all.all)) e3 c.in_ok-all.ensures.steps)
    (subst (AllByRecursion (IsInside c.in_ok-size.size)) e5 c.in_ok-size.ensures.steps)
    c.in_ok-memories.ensures
    (c.run.ensures ∙ ap (λ x. ran (word_at x) (all_unpacked c.as_slice-7.result.now) c.in_ok-nets.nets) e8 ∙ ap (λ (ps : List Packed). ran (word_at ms) (all_unpacked ps) c.in_ok-nets.nets) c.as_slice-7.ensures.value
    ∙ c.in_ok-first.ensures.alike (word_at ms) c.in_ok-nets.nets ∙ ap (λ x. ran (word_at ms) x c.in_ok-nets.nets) e6 ∙ ap (ran (word_at ms) (reset_steps s l.items)) z)

pub run-requires : goal.run-requires
run-requires c =
    let size = c.in_ok-size.size in
    let long : length c.in_ok-nets.nets ≡ size = ap length c.in_ok-nets.ensures ∙ length-replicate size 0 in
    let same : c.as_slice-6.result.now ≡ c.as_slice-5.result.now = c.as_slice-6.ensures.value ∙ sym c.as_slice-5.ensures.value in
    subst (AreBelow (length c.in_ok-nets.nets)) (sym c.as_slice-7.ensures.value)
    (c.in_ok-first.ensures.below (length c.in_ok-nets.nets)
    (subst (λ k. AllByRecursion (IsInside k) c.as_slice-6.result.now) (sym long) (subst (AllByRecursion (IsInside size)) (sym same) c.in_ok-size.ensures.steps)))
