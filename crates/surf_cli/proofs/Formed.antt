-- Forms of networks that are written, and networks that have too many places for one.
use Rattle.std.proofs.Common.{◌≡◌, inr, ◌<◌, ◌≤◌, ℕ, List, refl, ◌∙◌, ap, sym, subst}
use Rattle.std.specs.Prelude.{nat_lt, if◌then◌else◌}
use Rattle.std.proofs.lemmas.Bool.{lt-ltb, le-ltb}
use Rattle.noc_model.specs.Plan.{Plan, places}
use Rattle.surf_cli.specs.declared.statuses.End.TheVariants.{Refused}
use Rattle.surf_cli.specs.declared.refusals.Refusal.TheVariants.{Size}
use Rattle.surf_cli.specs.Limits.{form_places}
use Rattle.surf_cli.specs.Contents.{Contents}
use Rattle.surf_cli.specs.Jobs.{Aiger}
use Rattle.surf_cli.specs.FormText.{IsFormText}
use Rattle.surf_cli.specs.Meaning.{Outcome, Does, FormOf, Makes, refuses, formed, with_plan, over}
use Rattle.surf_cli.specs.Answers.{IsRefused}
use Rattle.surf_cli.proofs.Judged.{halts}

formed-is : (held : Contents) (description : List ℕ) (p : Plan) → description ≡ held.description → ((next : Plan → Outcome) → with_plan description next ≡ next p) → over Aiger held ≡ formed p
formed-is held description p e plan = ap (λ d. with_plan d formed) (sym e) ∙ plan formed

-- the text of a form of the description's plan is right, where the network has not too many places
pub form-made : (held : Contents) (description bytes : List ℕ) (p : Plan) → description ≡ held.description → ((next : Plan → Outcome) → with_plan description next ≡ next p) → places p ≤ form_places
    → IsFormText p bytes → Makes (over Aiger held) bytes
form-made held description bytes p e plan few right =
    let meant = formed-is held description p e plan ∙ ap (λ b. if b then refuses Size else Does (FormOf p)) (le-ltb form_places (places p) few) in
    subst (λ m. Makes m bytes) (sym meant) right

-- and else the run ends so
pub form-refused : (held : Contents) (description : List ℕ) (p : Plan) → description ≡ held.description → ((next : Plan → Outcome) → with_plan description next ≡ next p) → form_places < places p
    → IsRefused (over Aiger held) (Refused Size)
form-refused held description p e plan many =
    let meant = formed-is held description p e plan ∙ ap (λ b. if b then refuses Size else Does (FormOf p)) (lt-ltb form_places (places p) many) in
    inr record { refusal = Size; of_contents = tt; is = refl; meant = halts (over Aiger held) (Refused Size) meant }
