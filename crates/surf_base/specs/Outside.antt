-- What files, sinks and their counts of faults mean.
use Rattle.std.specs.Prelude.{◌≡◌, ℕ, ◌<◌, ◌≤◌, ◌⊎◌, ◌↔◌, List, [], ◌++◌, length, take, drop, Option, Some}
use Rattle.std.specs.Option.{option_map}

-- what is observed of a name: nothing, that no file has it, or the bytes that its file holds
pub data Held : Type 0 where
  Unobserved : Held
  Absent : Held
  Holds : (bytes : List ℕ) → Held

-- a count of faults rose: it is greater than before, or it stands at its type's end
abbrev pub Rose : ℕ → ℕ → Type 0
Rose old new = (old < new) ⊎ (18446744073709551615 ≤ new)

-- what a sink has after more bytes, where its bytes are observed
abbrev pub appended : Option (List ℕ) → List ℕ → Option (List ℕ)
appended written bytes = option_map (λ had. had ++ bytes) written

-- a read put the first `n` of the bytes that were left in front of the buffer, and left the others, where they are
-- observed
abbrev pub HandsOn : ℕ → List ℕ → Option (List ℕ) → Option (List ℕ) → Type 0
HandsOn n buf old new = (bytes : List ℕ) → old ≡ Some bytes
    → (n ≤ length bytes) × (take n buf ≡ take n bytes) × (new ≡ Some (drop n bytes))

-- a read gave no bytes exactly where none were left, where they are observed
abbrev pub EndsAt : ℕ → Option (List ℕ) → Type 0
EndsAt n left = (bytes : List ℕ) → left ≡ Some bytes → ((n ≡ 0) ↔ (bytes ≡ []))

-- a sink has got a prefix of these bytes, where its bytes are observed
abbrev pub GotPrefix : Option (List ℕ) → Option (List ℕ) → List ℕ → Type 0
GotPrefix old new bytes = (k : ℕ) × (k ≤ length bytes) × (new ≡ appended old (take k bytes))
