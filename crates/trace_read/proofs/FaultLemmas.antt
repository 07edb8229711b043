-- The faults and the entry of a line, once its numbers are read.
use Rattle.std.proofs.Common.{◌≡◌, ℕ, Bool, true, false, ◌||◌, Some, List, ◌∷◌, [], length, refl, sym, ap, ◌∙◌}
use Rattle.std.specs.Prelude.{◌==◌, nat_lt, map}
use Rattle.std.proofs.lemmas.List.{length-map}
use Rattle.surf_base.specs.Numbers.{hex_in}
use Rattle.noc_model.specs.Plan.{Plan}
use Rattle.trace_read.specs.declared.entries.Entry.TheVariants.{Send, Hold}
use Rattle.trace_read.specs.declared.fault.TraceFault.{TraceFault}
use Rattle.trace_read.specs.declared.fault.TraceFault.TheVariants.{Syntax, Number, TileRange, DomainUnknown, NotHosted, WordCount, Memory}
use Rattle.trace_read.specs.Accepted.{MemoryOr}
use Rattle.trace_read.specs.Entries.{is_send, number, word_of, attach_named, entry_of}
use Rattle.trace_read.specs.Faults.{has_no_word, first_of, place_faults, field_faults}

pub hold_fault : (p : Plan) (n : ℕ) (cycle tile domain verb value : List ℕ) (more : List (List ℕ)) (c t k : ℕ)
    → is_send (cycle ∷ tile ∷ domain ∷ verb ∷ value ∷ more) ≡ false → number cycle ≡ Some c → number tile ≡ Some t
    → number value ≡ Some k
    → first_of (field_faults p n (cycle ∷ tile ∷ domain ∷ verb ∷ value ∷ more)) ≡ first_of (place_faults p n t domain ((false, WordCount n) ∷ []))
hold_fault p n cycle tile domain verb value more c t k not_send cycle_is tile_is value_is =
    rw (not_send, cycle_is, tile_is, value_is) refl

pub hold_entry : (p : Plan) (cycle tile domain verb value : List ℕ) (more : List (List ℕ)) (c t k : ℕ)
    → is_send (cycle ∷ tile ∷ domain ∷ verb ∷ value ∷ more) ≡ false → number cycle ≡ Some c → number tile ≡ Some t
    → number value ≡ Some k
    → entry_of p (cycle ∷ tile ∷ domain ∷ verb ∷ value ∷ more) ≡ Hold c (attach_named p t domain) k
hold_entry p cycle tile domain verb value more c t k not_send cycle_is tile_is value_is =
    rw (not_send, cycle_is, tile_is, value_is) refl

pub send_fault : (p : Plan) (n : ℕ) (cycle tile domain verb value : List ℕ) (more : List (List ℕ)) (c t a : ℕ)
    → is_send (cycle ∷ tile ∷ domain ∷ verb ∷ value ∷ more) ≡ true → number cycle ≡ Some c → number tile ≡ Some t
    → hex_in value ≡ Some a
    → has_no_word more ≡ false
    → first_of (field_faults p n (cycle ∷ tile ∷ domain ∷ verb ∷ value ∷ more))
    ≡ first_of (place_faults p n t domain (((length more == 0) || nat_lt 256 (length more), WordCount n) ∷ []))
send_fault p n cycle tile domain verb value more c t a send cycle_is tile_is value_is words =
    rw (send, cycle_is, tile_is, value_is, words) refl

pub send_entry : (p : Plan) (cycle tile domain verb value : List ℕ) (more : List (List ℕ)) (c t a : ℕ)
    → is_send (cycle ∷ tile ∷ domain ∷ verb ∷ value ∷ more) ≡ true → number cycle ≡ Some c → number tile ≡ Some t
    → hex_in value ≡ Some a
    → entry_of p (cycle ∷ tile ∷ domain ∷ verb ∷ value ∷ more) ≡ Send c (attach_named p t domain) a (map word_of more)
send_entry p cycle tile domain verb value more c t a send cycle_is tile_is value_is =
    rw (send, cycle_is, tile_is, value_is) refl

-- a fault that holds is an answer
pub memory_or : (e : TraceFault) {P : Type 0} → P → MemoryOr e P
memory_or (Memory refused) h = tt
memory_or (Syntax n) h = h
memory_or (Number n) h = h
memory_or (TileRange n) h = h
memory_or (DomainUnknown n) h = h
memory_or (NotHosted n) h = h
memory_or (WordCount n) h = h

-- the test of the words is that of their fields
pub counted : (words : List ℕ) (more : List (List ℕ)) (r b : Bool) → words ≡ map word_of more
    → r ≡ ((length words == 0) || nat_lt 256 (length words)) → r ≡ b
    → ((length more == 0) || nat_lt 256 (length more)) ≡ b
counted words more r b words_is r_is b_is =
    let e : length words ≡ length more = ap length words_is ∙ length-map more word_of in rw (← e) (sym r_is ∙ b_is)
