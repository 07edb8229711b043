use Rattle.std.proofs.Common.{◌≡◌, ◌<◌, ◌-◌, ◌*◌, ◌+◌, ◌∷◌, Option, List, length, take, set, length-set, get_or, get_or-set_same, get_or-set_other, None, [], sym, ap, ◌∙◌, arith, ⊎_elim}
use Rattle.std.specs.Prelude.{slice_index_or}
use Rattle.std.proofs.lemmas.List.{get_or_read}
use Rattle.std.proofs.lemmas.Nat.{mul-le, div-mul-add, mod-mul-add}
use Rattle.std.proofs.lemmas.Bool.Decides.{eqb_tells}
use Rattle.noc_model.specs.declared.LinkFlit.{LinkFlit}
use Rattle.noc_model.specs.Plan.{tiles, ports}
use Rattle.cycle_sim.specs.Links.{link_number}
use Rattle.cycle_sim.proofs.Numbers.{number-below, same-link}
use Rattle.cycle_sim.proofs.shift.shift_from.Goals as goal

pub loop-port-preserved : goal.loop-port-preserved
loop-port-preserved c =
    let p = c.args.plan.now in
    let n = c.args.tile in
    let port = c.loop-port.port in
    let olds = c.loop-port.rows.items in
    let new = c.shift.new.self in
    let inv = c.loop-port.invariant in
    let low : port < ports p = omega (arith, c.loop-port-test.true, c.ports-port-end.ensures.value) in
    let k = n * c.ports.result + port in
    let at : k ≡ link_number p n port = ap (λ b. n * b + port) c.ports.ensures.value in
    let within = number-below p n port c.requires.tile low in
    let below : k < length olds = omega (arith, at, within, inv.rows) in
    let old = get_or_read olds _ _ below c.index_mut.ensures.value [] ∙ ap (λ j. get_or olds j []) at ∙ inv.left port (omega arith) low in
    let sent : c.index-sent.result.now ≡ slice_index_or c.args.out.now.links.items port None =
    get_or_read c.args.out.now.links.items _ _ (omega (arith, low, c.requires.links)) c.index-sent.ensures None in
    let f : List (Option LinkFlit) → List (Option LinkFlit) = λ row. take (length row - 1) row in
    record {
      rows = length-set olds k new ∙ inv.rows;
      shifted = λ o less. ⊎_elim
          (λ same.
          ap (λ j. get_or (set olds k new) (link_number p n j) []) same.1 ∙ ap (λ j. get_or (set olds k new) j []) (sym at) ∙ get_or-set_same olds k new [] below ∙ c.shift.ensures.row
          ∙ ap (λ x. x ∷ f c.index_mut.result.now) (sent ∙ ap (λ j. slice_index_or c.args.out.now.links.items j None) (sym same.1))
          ∙ ap (λ row. slice_index_or c.args.out.now.links.items o None ∷ f row) (old ∙ ap (λ j. get_or c.args.rows.now.items (link_number p n j) []) (sym same.1)))
          (λ other.
          let apart = other.1 in
          get_or-set_other olds k (link_number p n o) new [] (λ e. apart (let all = e ∙ at in omega (arith, all))) ∙ inv.shifted o (grind (arith, less, apart)))
          (eqb_tells o port);
      left = λ o more inside. get_or-set_other olds k (link_number p n o) new [] (λ e. let all = e ∙ at in absurd (omega (arith, all, more))) ∙ inv.left o (omega (arith, more)) inside;
      others = λ m o apart inside.
          get_or-set_other olds k (link_number p m o) new [] (λ e. apart (same-link p m o n port inside low (e ∙ at)).0) ∙ inv.others m o apart inside;
    }

pub returns-clause-shifted : goal.returns-clause-shifted
returns-clause-shifted c = λ o inside. c.loop-port.invariant.shifted o (omega (arith, inside, c.ports-port-end.ensures.value, c.loop-port-test.false))
