use Rattle.std.proofs.Common.{◌≡◌, List, length, sym, ◌∙◌, ap, subst}
use Rattle.vl_run.specs.declared.packed.Packed.{Packed}
use Rattle.vl_run.specs.declared.packed.Lists.{Lists}
use Rattle.vl_run.specs.State.{Kept, Part}
use Rattle.vl_run.specs.Packed.{all_unpacked, Packs, FitIn}
use Rattle.vl_run.specs.Shown.{part_after, IsRefreshed}
use Rattle.vl_run.proofs.Packing.{kept-alike, fits-long}
use Rattle.vl_run.proofs.Acted.{length-ran}
use Rattle.vl_run.specs.Step.{word_at}
use Rattle.vl_run.proofs.Refreshed.{refreshed}
use Rattle.vl_run.proofs.parts.Instance.refresh.Goals as goal

pub returns : goal.returns
returns c =
    let x : Part = c.self.inside.part in
    let l : Lists = c.self.inside.lists in
    let h : Packs x.code l = c.self.invariant.0 in
    let made : c.take.new.self ≡ part_after h.some x =
    c.take.ensures ∙ ap (λ (ps : List Packed). part_after (all_unpacked ps) x) c.as_slice.ensures.value
    ∙ ap (λ (k : Kept). record { code = x.code; kept = k }) (kept-alike (all_unpacked l.shows.items) h.some x.kept h.shows) in
    subst (λ (z : Part). IsRefreshed z c.take.new.self) c.self.view_is (subst (λ (z : Part). IsRefreshed x z) (sym made) (refreshed x h.some h.enough))

pub invariant_of-self : goal.invariant_of-self
invariant_of-self c =
    let x : Part = c.self.inside.part in
    let l : Lists = c.self.inside.lists in
    let y : Part = part_after (all_unpacked c.as_slice.result.now) x in
    let long : length y.kept.nets ≡ length x.kept.nets = length-ran (word_at x.kept.memories) (all_unpacked c.as_slice.result.now) x.kept.nets in (
      subst (λ (z : Part). Packs z.code l) (sym c.take.ensures) c.self.invariant.0,
      subst (λ (z : Part). FitIn (length z.kept.nets) l) (sym c.take.ensures) (fits-long (length x.kept.nets) (length y.kept.nets) l long c.self.invariant.1),
    )
