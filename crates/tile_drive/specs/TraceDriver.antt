-- The driver of a trace.
use Rattle.std.specs.Prelude.{ℕ, ◌+◌, Bool, not, ◌&&◌, ◌==◌, nat_le, nat_lt, if◌then◌else◌, List, [], ◌∷◌, length, flat_map, Option, Some, None, slice_get, slice_index}
use Rattle.std.specs.List.{list_any}
use Rattle.noc_model.specs.declared.Offer.{Offer}
use Rattle.noc_model.specs.Plan.{Plan}
use Rattle.noc_model.specs.Driver.{Driver}
use Rattle.trace_read.specs.declared.entries.Entry.{Entry}
use Rattle.trace_read.specs.declared.entries.Entry.TheVariants.{Send, Hold}
use Rattle.trace_read.specs.Restrict.{entry_attach}
use Rattle.tile_drive.specs.declared.scripts.Due.{Due}
use Rattle.tile_drive.specs.declared.scripts.Span.{Span}

-- the words of a send, each with its cycle and as it is offered. The send's last word is the last of the packet
abbrev pub due_words : ℕ → ℕ → List ℕ → List Due
due_words cycle address [] = []
due_words cycle address (word ∷ more) =
    record { cycle = cycle; offer = record { address = address; payload = word; last = length more == 0 } }
    ∷ due_words cycle address more

-- the words of an entry
abbrev pub due_of : Entry → List Due
due_of (Send cycle attach address words) = due_words cycle address words
due_of (Hold cycle attach count) = []

-- the cycles of an entry in which its attachment is deaf
abbrev pub spans_of : Entry → List Span
spans_of (Send cycle attach address words) = []
spans_of (Hold cycle attach count) = record { cycle = cycle; count = count } ∷ []

-- what the entry has for attachment j
abbrev pub at_attach : {A : Type 0} → ℕ → Entry → List A → List A
at_attach j e xs = if entry_attach e == j then xs else []

-- the words of the sends of attachment j, in the order of the trace
abbrev pub due_in : List Entry → ℕ → List Due
due_in es j = flat_map (λ e. at_attach j e (due_of e)) es

-- the holds of attachment j
abbrev pub spans_in : List Entry → ℕ → List Span
spans_in es j = flat_map (λ e. at_attach j e (spans_of e)) es

-- a word is offered from its cycle on
abbrev pub offer_in : ℕ → Option Due → Option Offer
offer_in t None = None
offer_in t (Some due) = if nat_le due.cycle t then Some due.offer else None

-- the cycles from the span's cycle on, as many as its count
abbrev pub covers : ℕ → Span → Bool
covers t span = nat_le span.cycle t && nat_lt t (span.cycle + span.count)

-- how many words were taken, which is the state of an attachment
abbrev pub taken_in : List ℕ → ℕ
taken_in state = slice_index state 0

-- the driver that offers each attachment's words in order, and hears where it is not deaf
abbrev pub driver_of : (ℕ → List Due) → (ℕ → ℕ → Bool) → Driver
driver_of due deaf = record {
  offer = λ j state t. offer_in t (slice_get (due j) (taken_in state));
  hears = λ j state t. not (deaf j t);
  taken = λ j state t. (taken_in state + 1) ∷ [];
  got = λ j state t e. state;
}

-- whether one of the spans has the cycle
abbrev pub is_deaf : List Span → ℕ → Bool
is_deaf spans t = list_any (covers t) spans

-- the driver of a trace at the attachments of the plan: an attachment is deaf in the spans of its holds
unfoldable pub trace_driver : Plan → List Entry → Driver
trace_driver p es = driver_of
    (λ j. if nat_lt j (length p.hosts) then due_in es j else [])
    (λ j t. is_deaf (if nat_lt j (length p.hosts) then spans_in es j else []) t)

-- the state of an attachment before the first cycle: no word was taken
abbrev pub untaken : List ℕ
untaken = 0 ∷ []
