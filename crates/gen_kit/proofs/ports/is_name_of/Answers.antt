use Rattle.std.proofs.Common.{◌++◌, ◌∷◌, []}
use Rattle.std.specs.Prelude.{decimal}
use Rattle.gen_kit.proofs.Behind.{no-second, no-third, whole}
use Rattle.gen_kit.proofs.ports.is_name_of.Goals as goal

pub returns-in_default-behind_number : goal.returns-in_default-behind_number
returns-in_default-behind_number c =
    no-second c.args.name.now c.args.front.now (95 ∷ decimal c.args.tile) ((95 ∷ decimal c.args.domain) ++ []) c.in-Some.numbers.now c.in-Some.ensures.same c.in_default-behind_number.ensures.other

pub returns-in-Some-behind_number-2 : goal.returns-in-Some-behind_number-2
returns-in-Some-behind_number-2 c =
    whole c.args.name.now c.args.front.now (95 ∷ decimal c.args.tile) (95 ∷ decimal c.args.domain) c.in-Some.numbers.now c.in-Some-behind_number.last.now c.in-Some-behind_number-2.rest.now c.is_empty.result
    c.in-Some.ensures.same c.in-Some-behind_number.ensures.same c.in-Some-behind_number-2.ensures.same c.is_empty.ensures

pub returns-in-None : goal.returns-in-None
returns-in-None c =
    no-third c.args.name.now c.args.front.now (95 ∷ decimal c.args.tile) (95 ∷ decimal c.args.domain) c.in-Some.numbers.now c.in-Some-behind_number.last.now
    c.in-Some.ensures.same c.in-Some-behind_number.ensures.same c.in-None.ensures.other
