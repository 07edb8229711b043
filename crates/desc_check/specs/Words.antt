-- Numbers and names of a draft, and a search along a list.
use Rattle.std.specs.Prelude.{ℕ, ◌+◌, Bool, false, ◌&&◌, ◌||◌, ◌==◌, nat_le, nat_lt, List, [], ◌∷◌, length, ℤ, pos, negsuc, if◌then◌else◌, Option, Some, None}
use Rattle.std.specs.Option.{option_or}
use Rattle.std.specs.List.{list_any, list_all}
use Rattle.std.specs.Str.{bytes_eq}
use Rattle.noc_model.specs.Limits.{most_name}
use Rattle.noc_desc.specs.declared.DraftDomain.{DraftDomain}
use Rattle.noc_desc.specs.declared.DescFault.{DescFault}

-- the number; what is below 0 is no number of a plan
abbrev pub number_of : ℤ → ℕ
number_of (pos n) = n
number_of (negsuc n) = 0

-- from low to high
abbrev pub is_between : ℕ → ℕ → ℕ → Bool
is_between low high n = nat_le low n && nat_le n high

-- from low to high, where the number is not below 0
abbrev pub is_within : ℕ → ℕ → ℤ → Bool
is_within low high (pos n) = is_between low high n
is_within low high (negsuc n) = false

-- from 0 on, and below n
abbrev pub is_below : ℕ → ℤ → Bool
is_below n (pos m) = nat_lt m n
is_below n (negsuc m) = false

-- a digit, a letter, `_` or `-`, in ASCII
abbrev pub is_name_byte : ℕ → Bool
is_name_byte b = is_between 48 57 b || is_between 65 90 b || is_between 97 122 b || b == 95 || b == 45

-- one byte or more of a name, and not too many
abbrev pub is_name : List ℕ → Bool
is_name bytes = is_between 1 most_name (length bytes) && list_all is_name_byte bytes

-- one of the domains has the name
abbrev pub is_domain : List DraftDomain → List ℕ → Bool
is_domain domains name = list_any (λ x. bytes_eq x.name name) domains

-- one of the names is this one
abbrev pub is_among : List (List ℕ) → List ℕ → Bool
is_among names name = list_any (λ other. bytes_eq other name) names

-- the fault, where it is one
abbrev pub fault_if : Bool → DescFault → Option DescFault
fault_if holds fault = if holds then Some fault else None

-- the first answer that there is along a list, whose elements count from n
abbrev pub first_at : {A : Type 0} → (ℕ → A → Option DescFault) → ℕ → List A → Option DescFault
first_at f n [] = None
first_at f n (x ∷ xs) = option_or (f n x) (first_at f (n + 1) xs)

-- the first of these answers
abbrev pub first_of : List (Option DescFault) → Option DescFault
first_of [] = None
first_of (answer ∷ answers) = option_or answer (first_of answers)
