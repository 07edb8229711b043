use Rattle.std.proofs.Common.{◌≡◌, ℕ, List, ◌∷◌, [], ◌∙◌, subst}
use Rattle.std.specs.Prelude.{codes, length}
use Rattle.noc_model.specs.Plan.{Plan, tiles, places, hop}
use Rattle.surf_base.specs.Numbers.{labelled}
use Rattle.surf_base.specs.Block.{Stream, Puts, BreaksOff}
use Rattle.surf_base.proofs.Blocks.{Writes-then}
use Rattle.surf_cli.specs.Accepted.{accepted_text}
use Rattle.std.proofs.lemmas.Result.{err_from_is_err_and}
use Rattle.surf_cli.proofs.Texts.{Writes-broken}
use Rattle.surf_cli.proofs.Parts.{in-first_of_5, in-second_of_5, in-third_of_5, in-fourth_of_5, puts-4}
use Rattle.surf_cli.proofs.accepted.put_accepted.Goals as goal

-- the parts of the line
abbrev tiles_part : Plan → List ℕ
tiles_part p = labelled (codes "accepted tiles ") (tiles p)

abbrev domains_part : Plan → List ℕ
domains_part p = labelled (codes " domains ") (length p.domains)

abbrev places_part : Plan → List ℕ
places_part p = labelled (codes " places ") (places p)

abbrev hop_part : Plan → List ℕ
hop_part p = labelled (codes " hop ") (hop p)

-- a label with a number that is another
puts-is : (s t : Stream) (label : List ℕ) (n m : ℕ) → n ≡ m → Puts s t (labelled label n) → Puts s t (labelled label m)
puts-is s t label n m e p = subst (λ k. Puts s t (labelled label k)) e p

breaks-is : (s t : Stream) (label : List ℕ) (n m : ℕ) → n ≡ m → BreaksOff s t (labelled label n) → BreaksOff s t (labelled label m)
breaks-is s t label n m e p = subst (λ k. BreaksOff s t (labelled label k)) e p

pub returns-in_err-put_labelled : goal.returns-in_err-put_labelled
unfolding accepted_text
returns-in_err-put_labelled g c =
    let p = c.args.plan.now in
    let e = err_from_is_err_and c.from_residual.result c.from_residual.ensures.1 in
    Writes-broken c.from_residual.result e.0 _ _ _ e.1
    (in-first_of_5 _ _ (tiles_part p) (domains_part p) (places_part p) (hop_part p) (10 ∷ [])
    (breaks-is _ _ (codes "accepted tiles ") _ (tiles p) (c.from.ensures ∙ c.tiles.ensures) c.in_err-put_labelled.ensures))

pub returns-in_err-put_labelled-2 : goal.returns-in_err-put_labelled-2
unfolding accepted_text
returns-in_err-put_labelled-2 g c =
    let p = c.args.plan.now in
    let e = err_from_is_err_and c.from_residual-in_err-put_labelled-2.result c.from_residual-in_err-put_labelled-2.ensures.1 in
    Writes-broken c.from_residual-in_err-put_labelled-2.result e.0 _ _ _ e.1
    (in-second_of_5 _ _ _ (tiles_part p) (domains_part p) (places_part p) (hop_part p) (10 ∷ [])
    (puts-is _ _ (codes "accepted tiles ") _ (tiles p) (c.from.ensures ∙ c.tiles.ensures) c.in_ok-put_labelled.ensures)
    (breaks-is _ _ (codes " domains ") _ (length p.domains) (c.from-2.ensures ∙ c.domains.ensures) c.in_err-put_labelled-2.ensures))

pub returns-in_err-put_labelled-3 : goal.returns-in_err-put_labelled-3
unfolding accepted_text
returns-in_err-put_labelled-3 g c =
    let p = c.args.plan.now in
    let e = err_from_is_err_and c.from_residual-in_err-put_labelled-3.result c.from_residual-in_err-put_labelled-3.ensures.1 in
    Writes-broken c.from_residual-in_err-put_labelled-3.result e.0 _ _ _ e.1
    (in-third_of_5 _ _ _ _ (tiles_part p) (domains_part p) (places_part p) (hop_part p) (10 ∷ [])
    (puts-is _ _ (codes "accepted tiles ") _ (tiles p) (c.from.ensures ∙ c.tiles.ensures) c.in_ok-put_labelled.ensures)
    (puts-is _ _ (codes " domains ") _ (length p.domains) (c.from-2.ensures ∙ c.domains.ensures) c.in_ok-put_labelled-2.ensures)
    (breaks-is _ _ (codes " places ") _ (places p) (c.from-3.ensures ∙ c.places.ensures) c.in_err-put_labelled-3.ensures))

pub returns-in_err-put_labelled-4 : goal.returns-in_err-put_labelled-4
unfolding accepted_text
returns-in_err-put_labelled-4 g c =
    let p = c.args.plan.now in
    let e = err_from_is_err_and c.from_residual-in_err-put_labelled-4.result c.from_residual-in_err-put_labelled-4.ensures.1 in
    Writes-broken c.from_residual-in_err-put_labelled-4.result e.0 _ _ _ e.1
    (in-fourth_of_5 _ _ _ _ _ (tiles_part p) (domains_part p) (places_part p) (hop_part p) (10 ∷ [])
    (puts-is _ _ (codes "accepted tiles ") _ (tiles p) (c.from.ensures ∙ c.tiles.ensures) c.in_ok-put_labelled.ensures)
    (puts-is _ _ (codes " domains ") _ (length p.domains) (c.from-2.ensures ∙ c.domains.ensures) c.in_ok-put_labelled-2.ensures)
    (puts-is _ _ (codes " places ") _ (places p) (c.from-3.ensures ∙ c.places.ensures) c.in_ok-put_labelled-3.ensures)
    (breaks-is _ _ (codes " hop ") _ (hop p) (c.from-4.ensures ∙ c.hop.ensures) c.in_err-put_labelled-4.ensures))

pub returns : goal.returns
unfolding accepted_text
returns g c =
    let p = c.args.plan.now in
    Writes-then c.put.result _ _ _ _ (10 ∷ [])
    (puts-4 _ _ _ _ _ (tiles_part p) (domains_part p) (places_part p) (hop_part p)
    (puts-is _ _ (codes "accepted tiles ") _ (tiles p) (c.from.ensures ∙ c.tiles.ensures) c.in_ok-put_labelled.ensures)
    (puts-is _ _ (codes " domains ") _ (length p.domains) (c.from-2.ensures ∙ c.domains.ensures) c.in_ok-put_labelled-2.ensures)
    (puts-is _ _ (codes " places ") _ (places p) (c.from-3.ensures ∙ c.places.ensures) c.in_ok-put_labelled-3.ensures)
    (puts-is _ _ (codes " hop ") _ (hop p) (c.from-4.ensures ∙ c.hop.ensures) c.in_ok-put_labelled-4.ensures))
    c.put.ensures
