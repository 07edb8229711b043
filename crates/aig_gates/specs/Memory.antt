-- Rows of words: half of one, by a bit of the index, and one with another word at an index.
use Rattle.std.specs.Prelude.{◌≡◌, ℕ, ◌+◌, ◌*◌, ◌^◌, ◌<◌, ◌≤◌, ◌==◌, Bool, false, ◌&&◌, List, [], length, take, slice_index_or, if◌then◌else◌}
use Rattle.std.specs.List.{AllByRecursion}
use Rattle.aig_model.specs.Form.{literal, one_if_true, word}
use Rattle.aig_model.specs.Netlist.{Net, Grows, AreOf, settle_gates}

-- all literals of these words are of the net
abbrev pub AreWords : Net → List (List ℕ) → Type 0
AreWords n row = AllByRecursion (AreOf n) row

-- no word has more bits than this
abbrev pub AreWithin : ℕ → List (List ℕ) → Type 0
AreWithin most row = AllByRecursion (λ w. length w ≤ most) row

-- the first i words are those that the bit names of each two neighbours
pub record IsHalved (old new : Net) (row : List (List ℕ)) (bit : ℕ) (made : List (List ℕ)) (i : ℕ) : Type 0 where
  pub grows : Grows old new
  pub known : AreWords new made
  pub count : length made ≡ i
  pub within : (most : ℕ) → AreWithin most row → AreWithin most made
  pub value : (v : ℕ → Bool) → v 0 ≡ false → (k : ℕ) → k < i → word (settle_gates new v) (slice_index_or made k [])
      ≡ word (settle_gates old v) (slice_index_or row (2 * k + one_if_true (literal (settle_gates old v) bit)) [])

-- the words are those that the first i bits of the index name
pub record IsSelected (old new : Net) (row : List (List ℕ)) (index : List ℕ) (made : List (List ℕ))
    (i : ℕ) : Type 0 where
  pub grows : Grows old new
  pub known : AreWords new made
  pub within : (most : ℕ) → AreWithin most row → AreWithin most made
  pub value : (v : ℕ → Bool) → v 0 ≡ false → (k : ℕ) → word (settle_gates new v) (slice_index_or made k [])
      ≡ word (settle_gates old v) (slice_index_or row (2 ^ i * k + word (settle_gates old v) (take i index)) [])

-- the first i words are the row's, but for the value where it is stored
pub record IsStored (old new : Net) (row : List (List ℕ)) (enable : ℕ) (index value : List ℕ) (made : List (List ℕ))
    (i : ℕ) : Type 0 where
  pub grows : Grows old new
  pub known : AreWords new made
  pub count : length made ≡ i
  pub within : (most : ℕ) → AreWithin most row → length value ≤ most → AreWithin most made
  pub words : (v : ℕ → Bool) → v 0 ≡ false → (k : ℕ) → k < i → word (settle_gates new v) (slice_index_or made k [])
      ≡ (let s = settle_gates old v in
      if literal s enable && (word s index == k) then word s value else word s (slice_index_or row k []))
