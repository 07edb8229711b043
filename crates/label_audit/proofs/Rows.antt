-- Rows of the code, bit by bit.
use Rattle.std.proofs.Common.{◌≡◌, ℕ, zero, suc, ◌+◌, ◌<◌, ◌≤◌, ◌^◌, Bool, true, false, List, [], ◌∷◌, ◌++◌, map, length, refl, sym, ◌∙◌, ap, arith}
use Rattle.std.specs.Prelude.{◌==◌, get_or}
use Rattle.std.specs.Int.{bit_at}
use Rattle.std.proofs.lemmas.Nat.Bits.{bit_at-lt}
use Rattle.std.proofs.lemmas.List.{map-append}
use Rattle.std.proofs.Math.ListN.{get_or-map}
use Rattle.label_model.specs.Labels.{Label, known, known_as}
use Rattle.label_audit.specs.declared.bit.Bit.{Bit}
use Rattle.label_audit.specs.declared.bit.Bit.TheVariants.{Known, From}
use Rattle.label_audit.specs.Bits.{label_in}
use Rattle.label_audit.specs.Rows.{row_in, bit_in}
use Rattle.label_audit.proofs.Bits.{none-in, either-in}

-- a row grows by a bit
pub grown : (xs : List Bit) (x : Bit) → row_in (xs ++ x ∷ []) ≡ row_in xs ++ label_in x ∷ []
grown xs x = map-append label_in xs (x ∷ [])

-- a known bit of a number
pub known-bit : (n i : ℕ) → known (bit_at n i == 1) ≡ known_as (bit_at n i)
known-bit n i = go (bit_at n i) (bit_at-lt n i)
  where
    go : (x : ℕ) → x < 2 → known (x == 1) ≡ known_as x
    go zero h = refl
    go (suc zero) h = refl
    go (suc (suc x)) h = absurd (omega (arith, h))

-- the row at a place
pub row-at : (rows : List (List Bit)) (i : ℕ) → row_in (get_or rows i []) ≡ get_or (map row_in rows) i []
row-at rows i = sym (get_or-map row_in rows i [])

pub ruleset rows = (grown, known-bit, none-in, either-in, row-at)
