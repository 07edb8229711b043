use Rattle.std.proofs.Common.{◌≡◌, List, length, sym, ◌∙◌, ap, subst}
use Rattle.vl_run.specs.declared.packed.Packed.{Packed}
use Rattle.vl_run.specs.Step.{word_at}
use Rattle.vl_run.specs.Packed.{all_unpacked, AreBelow}
use Rattle.vl_run.specs.State.{Kept}
use Rattle.vl_run.specs.Shown.{kept_after}
use Rattle.vl_run.proofs.Acted.{length-ran}
use Rattle.vl_run.proofs.Linked.{length-linked}
use Rattle.vl_run.proofs.Packing.{packed-edge}
use Rattle.vl_run.proofs.state.State.edge.Goals as goal

pub returns : goal.returns
returns c =
    packed-edge c.args.program.now c.args.lists.now c.args.tops.now c.args.self.now c.feed.new.self c.take.new.self c.take-2.new.self c.store.new.self c.take-3.new.self c.requires.packs c.feed.ensures
    (c.take.ensures ∙ ap (λ (ps : List Packed). kept_after (all_unpacked ps) c.feed.new.self) c.as_slice.ensures.value)
    (c.take-2.ensures ∙ ap (λ (ps : List Packed). kept_after (all_unpacked ps) c.take.new.self) c.as_slice-2.ensures.value)
    c.store.ensures
    (c.take-3.ensures ∙ ap (λ (ps : List Packed). kept_after (all_unpacked ps) c.store.new.self) c.as_slice-3.ensures.value)

pub take-requires : goal.take-requires
take-requires c =
    let l = c.args.lists.now in
    let long : length c.feed.new.self.nets ≡ length c.args.self.now.nets =
    ap (λ (k : Kept). length k.nets) c.feed.ensures ∙ length-linked c.args.tops.now c.args.program.now.feeds c.args.self.now.nets in
    subst (AreBelow (length c.feed.new.self.nets)) (sym c.as_slice.ensures.value) (subst (λ k. AreBelow k l.settle.items) (sym long) c.requires.fits.settle)

pub take-requires-2 : goal.take-requires-2
take-requires-2 c =
    let l = c.args.lists.now in
    let fed = c.feed.new.self in
    let long : length c.take.new.self.nets ≡ length c.args.self.now.nets =
    ap (λ (k : Kept). length k.nets) c.take.ensures ∙ length-ran (word_at fed.memories) (all_unpacked c.as_slice.result.now) fed.nets
    ∙ ap (λ (k : Kept). length k.nets) c.feed.ensures ∙ length-linked c.args.tops.now c.args.program.now.feeds c.args.self.now.nets in
    subst (AreBelow (length c.take.new.self.nets)) (sym c.as_slice-2.ensures.value) (subst (λ k. AreBelow k l.next.items) (sym long) c.requires.fits.next)

pub take-requires-3 : goal.take-requires-3
take-requires-3 c =
    let l = c.args.lists.now in
    let fed = c.feed.new.self in
    let settled = c.take.new.self in
    let long : length c.store.new.self.nets ≡ length c.args.self.now.nets =
    ap (λ (k : Kept). length k.nets) c.store.ensures ∙ ap (λ (k : Kept). length k.nets) c.take-2.ensures
    ∙ length-ran (word_at settled.memories) (all_unpacked c.as_slice-2.result.now) settled.nets
    ∙ ap (λ (k : Kept). length k.nets) c.take.ensures ∙ length-ran (word_at fed.memories) (all_unpacked c.as_slice.result.now) fed.nets
    ∙ ap (λ (k : Kept). length k.nets) c.feed.ensures ∙ length-linked c.args.tops.now c.args.program.now.feeds c.args.self.now.nets in
    subst (AreBelow (length c.store.new.self.nets)) (sym c.as_slice-3.ensures.value) (subst (λ k. AreBelow k l.moves.items) (sym long) c.requires.fits.moves)
