use Rattle.std.proofs.Common.{◌≡◌, ◌<◌, ◌-◌, ◌∷◌, Option, List, length, take, refl, false, None, sym, ap, ◌∙◌, subst, arith, ⊎_elim}
use Rattle.std.specs.Prelude.{slice_get, slice_index_or}
use Rattle.std.proofs.lemmas.List.{get_or_read}
use Rattle.std.proofs.lemmas.Option.{slice_get_read}
use Rattle.std.proofs.lemmas.Bool.Decides.{eqb_tells}
use Rattle.noc_model.specs.declared.LinkFlit.{LinkFlit}
use Rattle.router_core.specs.declared.router.RouterOut.{RouterOut}
use Rattle.cycle_sim.specs.Asleep.{is_awake}
use Rattle.cycle_sim.specs.Links.{row_of}
use Rattle.cycle_sim.proofs.Written.{get-below, same-read}
use Rattle.cycle_sim.proofs.shift.shift_all.Goals as goal

pub shift_if-requires-clause-links : goal.shift_if-requires-clause-links
shift_if-requires-clause-links c =
    let n = c.loop-tile.tile in
    let below : n < length c.args.outs.now = omega (arith, c.requires.outs, c.tiles-tile-end.ensures, c.loop-tile-test.true) in
    c.requires.links n c.index-outs-tile.result (slice_get_read c.args.outs.now (length c.args.outs.now) n c.index-outs-tile.result refl below c.index-outs-tile.is)

pub loop-tile-preserved : goal.loop-tile-preserved
loop-tile-preserved c =
    let n = c.loop-tile.tile in
    let p = c.args.plan.now in
    let first = c.args.rows.now.items in
    let olds = c.loop-tile.rows.items in
    let news = c.shift_if.new.rows.items in
    let inv = c.loop-tile.invariant in
    let below : n < length c.args.outs.now = omega (arith, c.requires.outs, c.tiles-tile-end.ensures, c.loop-tile-test.true) in
    let at = slice_get_read c.args.outs.now (length c.args.outs.now) n c.index-outs-tile.result refl below c.index-outs-tile.is in
    let f : List (Option LinkFlit) → List (Option LinkFlit) = λ row. take (length row - 1) row in
    record {
      rows = c.shift_if.ensures.rows;
      shifted = λ k o out less is up inside. ⊎_elim
          (λ same.
          let out_is : c.index-outs-tile.result ≡ out = same-read c.index-outs-tile.result out (sym at ∙ ap (slice_get c.args.outs.now) (sym same.1) ∙ is) in
          ap (λ j. row_of p news j o) same.1 ∙ c.shift_if.ensures.shifted (ap (is_awake c.args.awake.now) (sym same.1) ∙ up) o inside
          ∙ ap (λ (z : RouterOut). slice_index_or z.links.items o None ∷ f (row_of p olds n o)) out_is
          ∙ ap (λ row. slice_index_or out.links.items o None ∷ f row) (inv.left n o (omega arith) inside ∙ ap (λ j. row_of p first j o) (sym same.1)))
          (λ other.
          let apart = other.1 in
          c.shift_if.ensures.others k o apart inside ∙ inv.shifted k o out (grind (arith, less, apart)) is up inside)
          (eqb_tells k n);
      asleep = λ k o down inside. ⊎_elim
          (λ same. ap (λ xs. row_of p xs k o) (c.shift_if.ensures.asleep (ap (is_awake c.args.awake.now) (sym same.1) ∙ down)) ∙ inv.asleep k o down inside)
          (λ other. c.shift_if.ensures.others k o other.1 inside ∙ inv.asleep k o down inside)
          (eqb_tells k n);
      left = λ k o more inside. c.shift_if.ensures.others k o (λ e. absurd (omega (arith, more, e))) inside ∙ inv.left k o (omega (arith, more)) inside;
    }

pub returns-clause-shifted : goal.returns-clause-shifted
returns-clause-shifted c = λ n o out is up inside.
    let there = get-below c.args.outs.now n out is in
    c.loop-tile.invariant.shifted n o out (omega (arith, there, c.requires.outs, c.tiles-tile-end.ensures, c.loop-tile-test.false)) is up inside
