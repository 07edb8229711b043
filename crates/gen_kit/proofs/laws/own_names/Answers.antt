use Rattle.std.proofs.Common.{◌≡◌, true, sym, ◌∙◌, ap, arith, nat_lt}
use Rattle.std.proofs.lemmas.Bool.Decides.{nat_tests}
use Rattle.gen_kit.proofs.Spelled.{digit_second, read_tag, read_number, own-spelled}
use Rattle.gen_kit.proofs.laws.own_names.Goals as goal

pub returns-clause-apart : goal.returns-clause-apart
returns-clause-apart c = λ t s i j low few small less same.
    let left = own-spelled t i low small in
    let right = own-spelled s j few less in
    (sym left.tag ∙ ap read_tag same ∙ right.tag, sym left.number ∙ ap read_number same ∙ right.number)

pub returns-clause-fit : goal.returns-clause-fit
returns-clause-fit c = λ t i low small. (own-spelled t i low small).plain

pub returns-clause-no_ports : goal.returns-clause-no_ports
returns-clause-no_ports c = λ t i a b rest low small same.
    let digit : nat_lt b 58 ≡ true = sym (ap digit_second same) ∙ (own-spelled t i low small).digit in
    grind (arith, nat_tests, digit)
