-- At the attachments of one domain, the driver of a trace is that of the domain's entries.
use Rattle.std.proofs.Common.{◌≡◌, ℕ, ◌++◌, Bool, true, false, eqb, List, [], ◌∷◌, length, refl, sym, ap, ◌∙◌, arith}
use Rattle.std.specs.Prelude.{slice_get, nat_lt, if◌then◌else◌, flat_map, not}
use Rattle.std.proofs.lemmas.Bool.Decides.{nat_tests}
use Rattle.noc_model.specs.Plan.{Plan}
use Rattle.trace_read.specs.declared.entries.Entry.{Entry}
use Rattle.trace_read.specs.Restrict.{entry_attach, is_domain, is_of, of_domain}
use Rattle.tile_drive.specs.TraceDriver.{at_attach, due_of, spans_of, offer_in, taken_in, is_deaf, trace_driver}

-- an entry of another domain is of another attachment
apart : (p : Plan) (d j : ℕ) (e : Entry) → is_domain d (slice_get p.hosts j) ≡ true → is_of p d e ≡ false
    → eqb (entry_attach e) j ≡ false
apart p d j e own foreign = go (eqb (entry_attach e) j) refl
  where
    go : (b : Bool) → eqb (entry_attach e) j ≡ b → eqb (entry_attach e) j ≡ false
    go true same =
        let attach : entry_attach e ≡ j = grind (arith, nat_tests) in
        let here : true ≡ false = sym own ∙ ap (λ i. is_domain d (slice_get p.hosts i)) (sym attach) ∙ foreign in absurd cc
    go false other = other

-- what the entries have for an attachment of the domain is kept
kept : {A : Type 0} (f : Entry → List A) (p : Plan) (d j : ℕ) (es : List Entry)
    → is_domain d (slice_get p.hosts j) ≡ true
    → flat_map (λ e. at_attach j e (f e)) (of_domain p d es) ≡ flat_map (λ e. at_attach j e (f e)) es
kept f p d j [] own = refl
kept f p d j (e ∷ es) own = go (is_of p d e) refl (kept f p d j es own)
  where
    go : (b : Bool) → is_of p d e ≡ b
        → flat_map (λ x. at_attach j x (f x)) (of_domain p d es) ≡ flat_map (λ x. at_attach j x (f x)) es
        → flat_map (λ x. at_attach j x (f x)) (of_domain p d (e ∷ es)) ≡ at_attach j e (f e) ++ flat_map (λ x. at_attach j x (f x)) es
    go true here more = rw here (ap (λ r. at_attach j e (f e) ++ r) more)
    go false foreign more = rw (foreign, apart p d j e own foreign) more

-- it offers the same
pub restricted_offer : (p : Plan) (d j : ℕ) (es : List Entry) (state : List ℕ) (t : ℕ)
    → is_domain d (slice_get p.hosts j) ≡ true
    → (trace_driver p (of_domain p d es)).offer j state t ≡ (trace_driver p es).offer j state t
unfolding trace_driver
restricted_offer p d j es state t own =
    ap (λ due. offer_in t (slice_get (if nat_lt j (length p.hosts) then due else []) (taken_in state))) (kept due_of p d j es own)

-- it hears in the same cycles
pub restricted_hears : (p : Plan) (d j : ℕ) (es : List Entry) (state : List ℕ) (t : ℕ)
    → is_domain d (slice_get p.hosts j) ≡ true
    → (trace_driver p (of_domain p d es)).hears j state t ≡ (trace_driver p es).hears j state t
unfolding trace_driver
restricted_hears p d j es state t own =
    ap (λ spans. not (is_deaf (if nat_lt j (length p.hosts) then spans else []) t)) (kept spans_of p d j es own)
