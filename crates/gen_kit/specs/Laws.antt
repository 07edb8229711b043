-- What the laws say.
use Rattle.std.specs.Prelude.{◌≡◌, ℕ, ◌+◌, ◌/◌, ◌<◌, ◌≤◌, ◌^◌, Bool, true, List, [], ◌∷◌, Option, Some, None}
use Rattle.noc_model.specs.Pick.{pick}
use Rattle.noc_model.specs.Step.{is_place, after}
use Rattle.vl_tree.specs.Values.{Name, Expr}
use Rattle.vl_tree.specs.Tokens.{is_name}
use Rattle.vl_model.specs.Meaning.{Widths, Values, value_of, one_if}
use Rattle.gen_kit.specs.Families.{or_upto}
use Rattle.gen_kit.specs.Groups.{GroupGives, GroupKeeps, GroupStarts}
use Rattle.gen_kit.specs.Mux.{gated_words, table}
use Rattle.gen_kit.specs.OwnNames.{own_name_of}
use Rattle.gen_kit.specs.Rotate.{RotateNames, rotate_group, IsAsked, PointsTo, Wins}

-- The nets of a round-robin choice show what is picked
abbrev pub RotateShown : Type 0
RotateShown = (n : RotateNames) (h : ℕ) → GroupGives (rotate_group n h)
    (λ w v. (set : ℕ → Bool) (p : ℕ) → IsAsked n h v set p → Wins n h v (pick (h + 1) set p))

-- An edge moves its pointer behind what is picked
abbrev pub RotateKept : Type 0
RotateKept = (n : RotateNames) (h : ℕ) → GroupKeeps (rotate_group n h)
    (λ w v u. (set : ℕ → Bool) (p : ℕ) → IsAsked n h v set p → PointsTo n h u (after (pick (h + 1) set p) p))

-- Its pointer begins at 0
abbrev pub RotateStarts : Type 0
RotateStarts = (n : RotateNames) (h : ℕ) → GroupStarts (rotate_group n h) (λ v. PointsTo n h v 0)

-- An OR of words, each where its bit is 1, is the word of the one bit, or 0
abbrev pub MuxShown : Type 0
MuxShown = (w : Widths) (v : Values) (width : ℕ) (b f : ℕ → Expr) (n : ℕ) (x : Option ℕ)
    → ((j : ℕ) → x ≡ Some j → j ≤ n) → ((k : ℕ) → k ≤ n → value_of w v (b k) ≡ one_if (is_place x k))
    → ((j : ℕ) → x ≡ Some j → value_of w v (or_upto n (gated_words width b f)) ≡ value_of w v (f j))
    × (x ≡ None → value_of w v (or_upto n (gated_words width b f)) ≡ 0)

-- A table by the bits of a net is the function
abbrev pub TableShown : Type 0
TableShown = (w : Widths) (v : Values) (n : Name) (width : ℕ) (f : ℕ → ℕ) (i k : ℕ) → v.net n / 2 ^ i < 2 ^ k
    → value_of w v (table n width f i k) ≡ f (v.net n / 2 ^ i)

-- A leaf's own names of two tags, or of two numbers, differ
abbrev pub OwnNamesApart : Type 0
OwnNamesApart = (t s i j : ℕ) → t < 6144 → s < 6144 → i < 2 ^ 64 → j < 2 ^ 64
    → own_name_of t (i ∷ []) ≡ own_name_of s (j ∷ []) → (t ≡ s) × (i ≡ j)

-- They are names
abbrev pub OwnNamesFit : Type 0
OwnNamesFit = (t i : ℕ) → t < 6144 → i < 2 ^ 64 → is_name (own_name_of t (i ∷ [])) ≡ true

-- Their second byte is below 58, as digits are; that of a port's name is a letter
abbrev pub OwnNamesAreNoPorts : Type 0
OwnNamesAreNoPorts = (t i a b : ℕ) (rest : List ℕ) → t < 6144 → i < 2 ^ 64 → own_name_of t (i ∷ []) ≡ a ∷ b ∷ rest → b < 58
