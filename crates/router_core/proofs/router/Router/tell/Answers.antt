use Rattle.std.proofs.Common.{sym, subst}
use Rattle.router_core.specs.Parts.{Parts}
use Rattle.router_core.specs.Sizes.{IsMade}
use Rattle.router_core.specs.Shown.{Shows}
use Rattle.router_core.proofs.Telling.{told_parts, told-shows, told-made}
use Rattle.router_core.proofs.router.Router.tell.Goals as goal

pub returns-clause-value : goal.returns-clause-value
returns-clause-value c = λ i. let r : Parts = c.self.view_is i in told_parts r c.args.d c.args.told

pub returns-clause-shows : goal.returns-clause-shows
returns-clause-shows c = λ p e s shown.
    let P : Parts → Type 0 = λ r. Shows r p e s in
    subst P (sym (returns-clause-value c)) (told-shows c.args.self.now c.args.d c.args.told p e s shown)

pub returns-clause-made : goal.returns-clause-made
returns-clause-made c = λ p made.
    let P : Parts → Type 0 = λ r. IsMade r p in
    subst P (sym (returns-clause-value c)) (told-made c.args.self.now c.args.d c.args.told p made)
