use Rattle.std.proofs.Common.{◌≡◌, ◌∙◌, ℕ, zero, suc, List, [], ◌∷◌, Option, None, refl, sym, ap}
use Rattle.std.specs.Prelude.{slice_get, option_copied}
use Rattle.noc_model.specs.declared.LinkFlit.{LinkFlit}
use Rattle.credit_links.specs.Rows.{place_at}
use Rattle.credit_links.proofs.pipe.Pipe.at.Goals as goal

none-at : (row : List (Option LinkFlit)) (i : ℕ) → slice_get row i ≡ None → place_at row i ≡ None
none-at [] i e = refl
none-at (x ∷ row) zero e = absurd (cc e)
none-at (x ∷ row) (suc i) e = none-at row i e

pub returns-in-None : goal.returns-in-None
returns-in-None c =
    sym (ap (λ row. place_at row c.args.i) (sym c.self.view_is) ∙ none-at c.self.inside.places.items c.args.i (sym c.get.ensures ∙ ap option_copied c.in-None.is))
