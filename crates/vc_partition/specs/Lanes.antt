-- One vector that is cut into lanes.
use Rattle.std.specs.Prelude.{◌≡◌, ℕ, zero, suc, ◌+◌, ◌^◌, ◌<◌, List, [], ◌∷◌, length, map, take, drop, slice_index_or}
use Rattle.std.specs.List.{range_with_len}

-- how many places lanes of these lengths have
abbrev pub total : List ℕ → ℕ
total [] = 0
total (c ∷ cs) = c + total cs

-- how many places the lanes before lane d have
abbrev pub start_of : List ℕ → ℕ → ℕ
start_of [] d = 0
start_of (c ∷ cs) zero = 0
start_of (c ∷ cs) (suc d) = c + start_of cs d

module _ {T : Type 0} where
  -- the lanes of these lengths, one after the other
  abbrev pub cut : List T → List ℕ → List (List T)
  cut xs [] = []
  cut xs (c ∷ cs) = take c xs ∷ cut (drop c xs) cs

  -- lane d
  abbrev pub lane : List (List T) → ℕ → List T
  lane v d = slice_index_or v d []

  -- the lanes fill the vector, and begin where they are said to
  pub record IsCut (xs : List T) (counts starts : List ℕ) : Type 0 where
    pub whole : total counts ≡ length xs
    pub few : length xs < 2 ^ 32
    pub begin : starts ≡ map (start_of counts) (range_with_len 0 (length counts))
