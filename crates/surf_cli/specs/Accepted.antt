-- The line that says what an accepted description describes.
use Rattle.std.specs.Prelude.{ℕ, List, [], ◌∷◌, ◌++◌, length, codes}
use Rattle.surf_base.specs.Numbers.{labelled}
use Rattle.noc_model.specs.Plan.{Plan, tiles, places, hop}

-- the line
unfoldable pub accepted_text : Plan → List ℕ
accepted_text p =
    labelled (codes "accepted tiles ") (tiles p)
    ++ labelled (codes " domains ") (length p.domains)
    ++ labelled (codes " places ") (places p)
    ++ labelled (codes " hop ") (hop p)
    ++ 10 ∷ []
