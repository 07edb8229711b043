use Rattle.std.proofs.Common.{ℕ, ◌+◌, ◌-◌, ◌%◌, ◌^◌, List, sym, subst, ◌∙◌}
use Rattle.std.specs.Prelude.{IfOk}
use Rattle.vl_tree.specs.declared.tree.Op.{Op}
use Rattle.vl_tree.specs.declared.tree.Op.TheVariants.{Add, Sub}
use Rattle.vl_run.specs.Step.{combined}
use Rattle.aig_model.specs.Form.{word}
use Rattle.aig_model.specs.Netlist.{Net, MeansWord, settle_gates}
use Rattle.aig_gates.proofs.Zipped.{if-ok}
use Rattle.aig_cycle.proofs.Actions.{mask-width, masked, difference, small-word, means-same}
use Rattle.aig_cycle.proofs.action.two.Goals as goal

abbrev Says : Net → Net → List ℕ → List ℕ → ℕ → Op → List ℕ → Type 0
Says old new left right mask op r = MeansWord new r (λ v. combined op mask (word (settle_gates old v) left) (word (settle_gates old v) right))

pub returns-in-Add-clause-value : goal.returns-in-Add-clause-value
returns-in-Add-clause-value c =
    let n = c.args.netlist.now in
    let m = c.add.new.self in
    let left = c.args.left.now in
    let right = c.args.right.now in
    let mask = c.args.mask in
    let k = c.width-count.result in
    let w = mask-width mask k c.requires.mask c.width-count.ensures.fits c.width-count.ensures.least in
    subst (λ op. IfOk c.add.result (Says n m left right mask op)) (sym c.in-Add.is)
    (if-ok c.add.result (λ r. MeansWord m r (λ v. (word (settle_gates n v) left + word (settle_gates n v) right) % 2 ^ k)) (Says n m left right mask Add)
    (λ r h. means-same m r (λ v. (word (settle_gates n v) left + word (settle_gates n v) right) % 2 ^ k) (λ v. combined Add mask (word (settle_gates n v) left) (word (settle_gates n v) right))
    (λ v. sym (masked (word (settle_gates n v) left + word (settle_gates n v) right) mask k w.0 w.1)) h) c.add.ensures.value)

pub returns-in-Sub-clause-value : goal.returns-in-Sub-clause-value
returns-in-Sub-clause-value c =
    let n = c.args.netlist.now in
    let m = c.subtract.new.self in
    let left = c.args.left.now in
    let right = c.args.right.now in
    let mask = c.args.mask in
    let k = c.width-count.result in
    let w = mask-width mask k c.requires.mask c.width-count.ensures.fits c.width-count.ensures.least in
    subst (λ op. IfOk c.subtract.result (Says n m left right mask op)) (sym c.in-Sub.is)
    (if-ok c.subtract.result (λ r. MeansWord m r (λ v. (word (settle_gates n v) left + (2 ^ k - word (settle_gates n v) right % 2 ^ k)) % 2 ^ k)) (Says n m left right mask Sub)
    (λ r h. means-same m r (λ v. (word (settle_gates n v) left + (2 ^ k - word (settle_gates n v) right % 2 ^ k)) % 2 ^ k) (λ v. combined Sub mask (word (settle_gates n v) left) (word (settle_gates n v) right))
    (λ v. sym (masked (word (settle_gates n v) left + (2 ^ 64 - word (settle_gates n v) right)) mask k w.0 w.1
    ∙ difference (word (settle_gates n v) left) (word (settle_gates n v) right) k w.1 (small-word (settle_gates n v) right c.requires.right.narrow))) h) c.subtract.ensures.value)
