use Rattle.std.proofs.Common.{ℕ, Bool, ◌∙◌, ap}
use Rattle.std.specs.Prelude.{not, ◌==◌, if◌then◌else◌}
use Rattle.aig_model.specs.Form.{word}
use Rattle.aig_model.specs.Netlist.{settle_gates}
use Rattle.aig_model.proofs.Netlists.{grown-word}
use Rattle.aig_cycle.proofs.Actions.{choice-is}
use Rattle.aig_cycle.proofs.action.choice.Goals as goal

pub returns-clause-value : goal.returns-clause-value
returns-clause-value c =
    let n = c.args.netlist.now in
    let n1 = c.any.new.self in
    let g = c.any.ensures.grows in
    let first = c.args.first.now in
    let second = c.args.second.now in
    record {
      known = c.in_ok-bits.ensures.value.known;
      value = λ v e.
          let s : ℕ → Bool = settle_gates n v in
          let u : ℕ → Bool = settle_gates n1 v in
          let t : Bool = not (word s c.args.test.now == 0) in
          c.in_ok-bits.ensures.value.value v e ∙ ap (λ b. if b then word u first else word u second) (c.in_ok-some.ensures.value.value v e)
          ∙ ap (λ x. if t then x else word u second) (grown-word n n1 g v first c.requires.first.known) ∙ ap (λ x. if t then word s first else x) (grown-word n n1 g v second c.requires.second.known)
          ∙ choice-is (word s c.args.test.now) (word s first) (word s second);
    }
