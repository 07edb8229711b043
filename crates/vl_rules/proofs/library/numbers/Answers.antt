use Rattle.std.proofs.Common.{◌<◌, ◌∙◌, sym, ap, cond, bytes_eq, take, length, arith, Some, None}
use Rattle.std.specs.Option.{option_or}
use Rattle.vl_tree.specs.Values.{Leaf}
use Rattle.vl_tree.specs.Read.{read_leaf, read_leaves}
use Rattle.vl_rules.specs.Library.{first_leaf}
use Rattle.vl_rules.proofs.Headed.{mapped}
use Rattle.vl_rules.proofs.Noted.{position-more}
use Rattle.vl_rules.proofs.library.numbers.Goals as goal

pub loop-number-preserved : goal.loop-number-preserved
loop-number-preserved c n =
    let within : c.loop-number.number < length c.args.leaves.now = omega arith in
    c.in_ok-put_first.ensures n
    ∙ ap (λ e. option_or e (cond (bytes_eq n c.as_slice.result.now) (Some c.loop-number.number) None)) (c.loop-number.invariant n)
    ∙ ap (λ m. option_or (first_leaf (take c.loop-number.number (read_leaves c.args.leaves.now)) n) (cond (bytes_eq n m) (Some c.loop-number.number) None)) c.as_slice.ensures
    ∙ sym (position-more (λ (l : Leaf). bytes_eq n l.name) (read_leaves c.args.leaves.now) c.loop-number.number (read_leaf c.index-leaves-number.result)
    (mapped read_leaf c.args.leaves.now c.loop-number.number c.index-leaves-number.result within c.index-leaves-number.is))
