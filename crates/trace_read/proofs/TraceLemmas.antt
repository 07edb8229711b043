-- A trace, from its lines.
use Rattle.std.proofs.Common.{◌≡◌, ℕ, Some, None, List, [], ◌∷◌, ◌++◌, refl, sym, ap, ◌∙◌, append-nil}
use Rattle.std.specs.Str.Lines.{lines}
use Rattle.noc_model.specs.Plan.{Plan}
use Rattle.trace_read.specs.declared.entries.Entry.{Entry}
use Rattle.trace_read.specs.declared.fault.TraceFault.{TraceFault}
use Rattle.trace_read.specs.declared.fault.TraceFault.TheVariants.{Syntax, Number, TileRange, DomainUnknown, NotHosted, WordCount, Memory}
use Rattle.trace_read.specs.Entries.{entries}
use Rattle.trace_read.specs.Faults.{line_fault}
use Rattle.trace_read.specs.Accepted.{MemoryOr, fault_from, first_fault, trace_of}

-- what follows from a fault that is an answer
memory_weaker : (e : TraceFault) {P Q : Type 0} → (P → Q) → MemoryOr e P → MemoryOr e Q
memory_weaker (Memory refused) f h = tt
memory_weaker (Syntax n) f h = f h
memory_weaker (Number n) f h = f h
memory_weaker (TileRange n) f h = f h
memory_weaker (DomainUnknown n) f h = f h
memory_weaker (NotHosted n) f h = f h
memory_weaker (WordCount n) f h = f h

-- the fault of a line is the trace's, where no line before it is faulty
pub fault_found : (p : Plan) (bytes rest text more : List ℕ) (n : ℕ) (e : TraceFault)
    → fault_from p n (lines rest) ≡ fault_from p 1 (lines bytes)
    → lines rest ≡ text ∷ lines more → MemoryOr e (line_fault p n text ≡ Some e)
    → MemoryOr e (first_fault p bytes ≡ Some e)
unfolding first_fault
fault_found p bytes rest text more n e same split =
    memory_weaker e (λ faulty. sym same ∙ ap (fault_from p n) split ∙ rw faulty refl)

-- the entries of a trace without a fault
pub trace_done : (p : Plan) (bytes rest : List ℕ) (trace : List Entry) (n : ℕ) → rest ≡ []
    → trace ++ entries p (lines rest) ≡ entries p (lines bytes)
    → fault_from p n (lines rest) ≡ fault_from p 1 (lines bytes) → trace_of p bytes ≡ Some trace
unfolding trace_of first_fault
trace_done p bytes rest trace n none same clean =
    let clean' : fault_from p 1 (lines bytes) ≡ None = sym clean ∙ ap (λ r. fault_from p n (lines r)) none in
    let same' : entries p (lines bytes) ≡ trace =
    sym same ∙ ap (λ r. trace ++ entries p (lines r)) none ∙ append-nil trace in
    rw (clean', same') refl
