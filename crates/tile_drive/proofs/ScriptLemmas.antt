-- Scripts, after one of them was changed.
use Rattle.std.proofs.Common.{◌≡◌, ◌≢◌, ℕ, ◌<◌, ◌≤◌, ◌++◌, Bool, true, false, eqb, Some, List, [], length, get_or, set, refl, sym, ap, ◌∙◌, subst, arith, append-nil, get_or-set_other, get_or-set_same, zero, suc, ◌∷◌}
use Rattle.std.specs.Prelude.{slice_get, nat_lt, if◌then◌else◌}
use Rattle.std.proofs.Math.ListN.{length-set}
use Rattle.std.proofs.lemmas.Bool.Decides.{nat_tests}
use Rattle.std.proofs.lemmas.Option.{slice_get-get_or, slice_get_past}
use Rattle.noc_model.specs.Plan.{Plan}
use Rattle.trace_read.specs.declared.entries.Entry.{Entry}
use Rattle.trace_read.specs.Restrict.{entry_attach}
use Rattle.tile_drive.specs.declared.scripts.Due.{Due}
use Rattle.tile_drive.specs.declared.scripts.Span.{Span}
use Rattle.tile_drive.specs.declared.scripts.Script.{Script}
use Rattle.tile_drive.specs.TraceDriver.{due_of, spans_of, at_attach, due_in, spans_in, is_deaf, driver_of, trace_driver}
use Rattle.tile_drive.specs.Scripts.{due_of_script, spans_of_script, due_at, spans_at, AddsEntry, scripts_driver}

-- the script that was written
written : (scripts : List Script) (i : ℕ) (new : Script) → i < length scripts
    → slice_get (set scripts i new) i ≡ Some new
written scripts i new within =
    let within' : i < length (set scripts i new) = omega (arith, length-set scripts i new) in
    slice_get-get_or (set scripts i new) i new within' ∙ ap Some (get_or-set_same scripts i new new within)

-- a script that was not
unwritten : (scripts : List Script) (i j : ℕ) (new : Script) → j < length scripts → j ≢ i
    → slice_get (set scripts i new) j ≡ slice_get scripts j
unwritten scripts i j new within other =
    let within' : j < length (set scripts i new) = omega (arith, length-set scripts i new) in
    slice_get-get_or (set scripts i new) j new within' ∙ ap Some (get_or-set_other scripts i j new new other)
    ∙ sym (slice_get-get_or scripts j new within)

-- the entry's parts were added to the script of its attachment
pub adds_entry : (scripts : List Script) (i : ℕ) (d new : Script) (e : Entry) → i ≡ entry_attach e → i < length scripts
    → new.due.items ≡ (get_or scripts i d).due.items ++ due_of e
    → new.spans.items ≡ (get_or scripts i d).spans.items ++ spans_of e
    → AddsEntry scripts (set scripts i new) e
adds_entry scripts i d new e i_is within due spans = record {
  count = length-set scripts i new;
  due = λ j inside. due_case j inside (eqb (entry_attach e) j) refl;
  spans = λ j inside. spans_case j inside (eqb (entry_attach e) j) refl;
}
  where
    was : slice_get scripts i ≡ Some (get_or scripts i d)
    was = slice_get-get_or scripts i d within

    due_case : (j : ℕ) → j < length scripts → (b : Bool) → eqb (entry_attach e) j ≡ b
        → due_at (set scripts i new) j ≡ due_at scripts j ++ at_attach j e (due_of e)
    due_case j inside true same =
        let i_j : i ≡ j = grind (arith, nat_tests) in
        let P : ℕ → Type 0 = λ k. due_at (set scripts i new) k ≡ due_at scripts k ++ due_of e in
        rw same (subst P i_j (ap due_of_script (written scripts i new within) ∙ due ∙ ap (λ o. due_of_script o ++ due_of e) (sym was)))
    due_case j inside false other =
        let apart : j ≢ i = grind (arith, nat_tests) in
        rw other (ap due_of_script (unwritten scripts i j new inside apart) ∙ sym (append-nil (due_at scripts j)))

    spans_case : (j : ℕ) → j < length scripts → (b : Bool) → eqb (entry_attach e) j ≡ b
        → spans_at (set scripts i new) j ≡ spans_at scripts j ++ at_attach j e (spans_of e)
    spans_case j inside true same =
        let i_j : i ≡ j = grind (arith, nat_tests) in
        let P : ℕ → Type 0 = λ k. spans_at (set scripts i new) k ≡ spans_at scripts k ++ spans_of e in
        rw same (subst P i_j (ap spans_of_script (written scripts i new within) ∙ spans ∙ ap (λ o. spans_of_script o ++ spans_of e) (sym was)))
    spans_case j inside false other =
        let apart : j ≢ i = grind (arith, nat_tests) in
        rw other (ap spans_of_script (unwritten scripts i j new inside apart) ∙ sym (append-nil (spans_at scripts j)))

-- an entry of no script adds nothing
pub adds_nothing : (scripts : List Script) (e : Entry) → length scripts ≤ entry_attach e → AddsEntry scripts scripts e
adds_nothing scripts e past = record {
  count = refl;
  due = λ j inside. let apart : eqb (entry_attach e) j ≡ false = grind (arith, nat_tests) in rw apart (sym (append-nil (due_at scripts j)));
  spans = λ j inside. let apart : eqb (entry_attach e) j ≡ false = grind (arith, nat_tests) in rw apart (sym (append-nil (spans_at scripts j)));
}

-- what is kept at each attachment of a plan, and nothing elsewhere
due_same : (count : ℕ) (kept given : ℕ → List Due) → ((j : ℕ) → j < count → kept j ≡ given j)
    → ((j : ℕ) → count ≤ j → kept j ≡ [])
    → kept ≡ (λ j. if nat_lt j count then given j else [])
due_same count kept given inside past = λ i j. at_place j (nat_lt j count) refl i
  where
    at_place : (j : ℕ) (b : Bool) → nat_lt j count ≡ b → kept j ≡ (if nat_lt j count then given j else [])
    at_place j true less = rw less (inside j (grind (arith, nat_tests)))
    at_place j false not_less = rw not_less (past j (grind (arith, nat_tests)))

-- the cycles in which each is deaf
abbrev deaf_of : (ℕ → List Span) → ℕ → ℕ → Bool
deaf_of spans j t = is_deaf (spans j) t

deaf_same : (count : ℕ) (kept given : ℕ → List Span)
    → ((j t : ℕ) → j < count → is_deaf (kept j) t ≡ is_deaf (given j) t)
    → ((j : ℕ) → count ≤ j → kept j ≡ [])
    → deaf_of kept ≡ deaf_of (λ j. if nat_lt j count then given j else [])
deaf_same count kept given inside past = λ i j t. at_place j t (nat_lt j count) refl i
  where
    at_place : (j t : ℕ) (b : Bool) → nat_lt j count ≡ b
        → is_deaf (kept j) t ≡ is_deaf (if nat_lt j count then given j else []) t
    at_place j t true less = rw less (inside j t (grind (arith, nat_tests)))
    at_place j t false not_less = rw not_less (ap (λ spans. is_deaf spans t) (past j (grind (arith, nat_tests))))

-- scripts that keep what a trace asks for are the driver of the trace
pub scripts_are : (p : Plan) (es : List Entry) (scripts : List Script) → length scripts ≡ length p.hosts
    → ((j : ℕ) → j < length p.hosts → due_at scripts j ≡ due_in es j)
    → ((j t : ℕ) → j < length p.hosts → is_deaf (spans_at scripts j) t ≡ is_deaf (spans_in es j) t)
    → scripts_driver scripts ≡ trace_driver p es
unfolding trace_driver
scripts_are p es scripts count due deaf =
    let same_due = due_same (length p.hosts) (due_at scripts) (due_in es) due
    (λ j past. ap due_of_script (slice_get_past scripts j (omega (arith, count, past)))) in
    let same_deaf = deaf_same (length p.hosts) (spans_at scripts) (spans_in es) deaf
    (λ j past. ap spans_of_script (slice_get_past scripts j (omega (arith, count, past)))) in
    ap (λ d. driver_of d (λ j t. is_deaf (spans_at scripts j) t)) same_due
    ∙ ap (λ s. driver_of (λ j. if nat_lt j (length p.hosts) then due_in es j else []) s) same_deaf

-- an empty script more
pub due_push : (scripts : List Script) (script : Script) → script.due.items ≡ [] → ((j : ℕ) → due_at scripts j ≡ [])
    → (j : ℕ) → due_at (scripts ++ script ∷ []) j ≡ []
due_push [] script none all zero = none
due_push [] script none all (suc j) = refl
due_push (first ∷ more) script none all zero = all 0
due_push (first ∷ more) script none all (suc j) = due_push more script none (λ k. all (suc k)) j

pub spans_push : (scripts : List Script) (script : Script) → script.spans.items ≡ []
    → ((j : ℕ) → spans_at scripts j ≡ []) → (j : ℕ) → spans_at (scripts ++ script ∷ []) j ≡ []
spans_push [] script none all zero = none
spans_push [] script none all (suc j) = refl
spans_push (first ∷ more) script none all zero = all 0
spans_push (first ∷ more) script none all (suc j) = spans_push more script none (λ k. all (suc k)) j
