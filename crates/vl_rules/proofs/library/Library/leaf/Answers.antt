use Rattle.std.proofs.Common.{◌≡◌, ◌∙◌, sym, ap, bytes_eq, length, arith, refl}
use Rattle.std.specs.Prelude.{option_map}
use Rattle.std.proofs.lemmas.List.{length-map}
use Rattle.std.proofs.lemmas.Option.{slice_get-map}
use Rattle.vl_tree.specs.Values.{Leaf}
use Rattle.vl_tree.specs.Read.{read_leaf, read_leaves}
use Rattle.vl_rules.proofs.Shelved.{position-in, named-at, named-late, named-none}
use Rattle.vl_rules.proofs.library.Library.leaf.Goals as goal

pub known-requires-clause-within : goal.known-requires-clause-within
known-requires-clause-within c =
    let h =
    position-in (λ (l : Leaf). bytes_eq c.args.name.now l.name) 0 c.in-Some.number (read_leaves c.args.self.now.leaves.now) (sym (c.in-Some.ensures ∙ c.requires.numbers c.args.name.now)) in
    let same : length (read_leaves c.args.self.now.leaves.now) ≡ length c.args.self.now.leaves.now =
    rw length-map refl in
    omega arith

pub returns-then-number-count-clause-leaf : goal.returns-then-number-count-clause-leaf
returns-then-number-count-clause-leaf c =
    sym (named-at (λ (l : Leaf). bytes_eq c.args.name.now l.name) c.in-Some.number c.args.count (read_leaves c.args.self.now.leaves.now) (read_leaf c.known.result.leaf.now)
    (sym (c.in-Some.ensures ∙ c.requires.numbers c.args.name.now)) c.if-number-count.true (slice_get-map read_leaf c.args.self.now.leaves.now c.in-Some.number ∙ ap (option_map read_leaf) c.known.ensures.leaf))

pub returns-else-number-count-clause-leaf : goal.returns-else-number-count-clause-leaf
returns-else-number-count-clause-leaf c =
    sym (named-late (λ (l : Leaf). bytes_eq c.args.name.now l.name) c.in-Some.number c.args.count (read_leaves c.args.self.now.leaves.now) (sym (c.in-Some.ensures ∙ c.requires.numbers c.args.name.now)) c.if-number-count.false)

pub returns-in-None-clause-leaf : goal.returns-in-None-clause-leaf
returns-in-None-clause-leaf c =
    sym (named-none (λ (l : Leaf). bytes_eq c.args.name.now l.name) 0 c.args.count (read_leaves c.args.self.now.leaves.now) (sym (c.in-None.ensures ∙ c.requires.numbers c.args.name.now)))
