-- Small traces as drivers, computed.
use Rattle.std.proofs.Common.{◌≡◌, ℕ, Bool, true, false, List, [], ◌∷◌, Some, None, refl}
use Rattle.std.specs.Prelude.{Option, map}
use Rattle.noc_model.specs.declared.Offer.{Offer}
use Rattle.noc_model.specs.Examples.{two_tiles}
use Rattle.trace_read.specs.declared.entries.Entry.{Entry}
use Rattle.trace_read.specs.declared.entries.Entry.TheVariants.{Send, Hold}
use Rattle.tile_drive.specs.TraceDriver.{trace_driver, untaken}

-- two packets of one attachment, one of them of two words, and two holds of another that meet
abbrev small : List Entry
small = Send 3 1 16 (7 ∷ 9 ∷ []) ∷ Hold 10 2 2 ∷ Send 0 1 17 (5 ∷ []) ∷ Hold 12 2 1 ∷ []

abbrev offer : ℕ → ℕ → Bool → Option Offer
offer address payload last = Some (record { address = address; payload = payload; last = last })

-- the words come in order, none before its send's cycle
words_in_order :
    (trace_driver two_tiles small).offer 1 untaken 2 ∷ (trace_driver two_tiles small).offer 1 untaken 3
    ∷ (trace_driver two_tiles small).offer 1 ((trace_driver two_tiles small).taken 1 untaken 3) 4
    ∷ (trace_driver two_tiles small).offer 1 (2 ∷ []) 4 ∷ (trace_driver two_tiles small).offer 1 (3 ∷ []) 99
    ∷ (trace_driver two_tiles small).offer 0 untaken 99 ∷ []
    ≡ None ∷ offer 16 7 false ∷ offer 16 9 true ∷ offer 17 5 true ∷ None ∷ None ∷ []
unfolding trace_driver
words_in_order = refl

-- deaf in the cycles of the holds alone
deaf_in_its_holds : map ((trace_driver two_tiles small).hears 2 untaken) (9 ∷ 10 ∷ 11 ∷ 12 ∷ 13 ∷ [])
    ≡ true ∷ false ∷ false ∷ false ∷ true ∷ []
unfolding trace_driver
deaf_in_its_holds = refl
