-- Names of the top and of leaves' ports, read back: what comes before their numbers, the numbers, and a rank.
use Rattle.std.proofs.Common.{◌≡◌, ◌≢◌, ℕ, ◌+◌, ◌*◌, ◌^◌, ◌<◌, ◌≤◌, Bool, true, false, List, [], ◌∷◌, ◌++◌, refl, ◌∙◌, ap, arith, bytes_eq, ◌==◌, if◌then◌else◌}
use Rattle.std.specs.Prelude.{codes, decimal}
use Rattle.std.specs.List.{AllByRecursion}
use Rattle.std.specs.Str.Parse.{AllDigits, digits_value}
use Rattle.std.proofs.lemmas.Bool.Decides.{nat_tests}
use Rattle.std.proofs.lemmas.Fmt.{decimal_is_IsNumeral}
use Rattle.std.proofs.lemmas.Str.Parse.{digit_from_value}
use Rattle.vl_tree.specs.Values.{Name}
use Rattle.vl_model.proofs.Settling.{one-name}
use Rattle.gen_kit.specs.Ports.{name_with}

-- ---- the parts of a name

-- the bytes up to the next underscore, and those behind it
abbrev pub upto : List ℕ → List ℕ
upto [] = []
upto (b ∷ bs) = if b == 95 then [] else b ∷ upto bs

abbrev pub behind : List ℕ → List ℕ
behind [] = []
behind (b ∷ bs) = if b == 95 then bs else behind bs

-- none of the bytes is an underscore
abbrev pub Plain : List ℕ → Type 0
Plain bs = AllByRecursion (λ b. (b == 95) ≡ false) bs

split : (bs rest : List ℕ) → Plain bs → (upto (bs ++ 95 ∷ rest) ≡ bs) × (behind (bs ++ 95 ∷ rest) ≡ rest)
split [] rest all = (refl, refl)
split (b ∷ bs) rest all = let more = split bs rest all.1 in rw all.0 (ap (λ z. b ∷ z) more.0, more.1)

last : (bs : List ℕ) → Plain bs → (upto (bs ++ []) ≡ bs) × (behind (bs ++ []) ≡ [])
last [] all = (refl, refl)
last (b ∷ bs) all = let more = last bs all.1 in rw all.0 (ap (λ z. b ∷ z) more.0, more.1)

not-line : (b : ℕ) → (48 ≤ b) × (b ≤ 57) → (b == 95) ≡ false
not-line b h = let low = h.0 in let high = h.1 in grind (arith, nat_tests)

digits-plain : (ds : List ℕ) → AllDigits 10 ds → Plain ds
digits-plain [] all = tt
digits-plain (d ∷ ds) all = (not-line d (digit_from_value d all.0), digits-plain ds all.1)

pub decimal-plain : (n : ℕ) → n < 2 ^ 64 → Plain (decimal n)
decimal-plain n small = digits-plain (decimal n) (decimal_is_IsNumeral n small).0.1

-- ---- the rank

abbrev value_at : List ℕ → ℕ
value_at bs = digits_value 10 (upto bs)

-- the first number of a name
abbrev pub owner : Name → ℕ
owner bs = value_at (behind bs)

-- an attachment's ports, in order
abbrev host_place : List ℕ → ℕ
host_place head =
    if bytes_eq head (codes "ov") then 0
    else if bytes_eq head (codes "oa") then 1
    else if bytes_eq head (codes "op") then 2
    else if bytes_eq head (codes "ol") then 3
    else if bytes_eq head (codes "hr") then 4
    else if bytes_eq head (codes "rd") then 5
    else if bytes_eq head (codes "dr") then 6
    else if bytes_eq head (codes "ev") then 7
    else if bytes_eq head (codes "eh") then 8
    else if bytes_eq head (codes "et") then 9
    else if bytes_eq head (codes "ep") then 10
    else 11

-- ports of attachments come first, then the links' ports of leaves, then wires, then instances
abbrev pub rank_of : List ℕ → ℕ → ℕ → ℕ → ℕ
rank_of head a b c =
    if bytes_eq head (codes "tile") then 8388608 + a
    else if bytes_eq head (codes "lw") then 4194304 + 4 * (8 * a + b)
    else if bytes_eq head (codes "cw") then 4194304 + 4 * (8 * a + b) + 1 + c
    else if bytes_eq head (codes "li") then 2097152 + 8 * (8 * a + b)
    else if bytes_eq head (codes "lo") then 2097152 + 8 * (8 * a + b) + 1
    else if bytes_eq head (codes "ci") then 2097152 + 8 * (8 * a + b) + 2 + 2 * c
    else if bytes_eq head (codes "co") then 2097152 + 8 * (8 * a + b) + 3 + 2 * c
    else 16 * (256 * a + b) + host_place head

unfoldable pub rank : Name → ℕ
rank bs = rank_of (upto bs) (value_at (behind bs)) (value_at (behind (behind bs))) (value_at (behind (behind (behind bs))))

module _ (head : List ℕ) (plain : Plain head) where
  pub rank-one : (a : ℕ) → a < 2 ^ 64 → rank (name_with head (a ∷ [])) ≡ rank_of head a 0 0
  unfolding rank
  rank-one a small =
      let s = split head (decimal a ++ []) plain in
      let e = last (decimal a) (decimal-plain a small) in
      let first : value_at (behind (name_with head (a ∷ []))) ≡ a = ap value_at s.1 ∙ ap (digits_value 10) e.0 ∙ (decimal_is_IsNumeral a small).1 in
      let second : value_at (behind (behind (name_with head (a ∷ [])))) ≡ 0 = ap (λ z. value_at (behind z)) s.1 ∙ ap value_at e.1 in
      let third : value_at (behind (behind (behind (name_with head (a ∷ []))))) ≡ 0 = ap (λ z. value_at (behind (behind z))) s.1 ∙ ap (λ z. value_at (behind z)) e.1 in
      λ i. rank_of (s.0 i) (first i) (second i) (third i)

  pub rank-two : (a b : ℕ) → a < 2 ^ 64 → b < 2 ^ 64 → rank (name_with head (a ∷ b ∷ [])) ≡ rank_of head a b 0
  unfolding rank
  rank-two a b small few =
      let s = split head (decimal a ++ 95 ∷ (decimal b ++ [])) plain in
      let r = split (decimal a) (decimal b ++ []) (decimal-plain a small) in
      let e = last (decimal b) (decimal-plain b few) in
      let first : value_at (behind (name_with head (a ∷ b ∷ []))) ≡ a = ap value_at s.1 ∙ ap (digits_value 10) r.0 ∙ (decimal_is_IsNumeral a small).1 in
      let second : value_at (behind (behind (name_with head (a ∷ b ∷ [])))) ≡ b = ap (λ z. value_at (behind z)) s.1 ∙ ap value_at r.1 ∙ ap (digits_value 10) e.0 ∙ (decimal_is_IsNumeral b few).1 in
      let third : value_at (behind (behind (behind (name_with head (a ∷ b ∷ []))))) ≡ 0 = ap (λ z. value_at (behind (behind z))) s.1 ∙ ap (λ z. value_at (behind z)) r.1 ∙ ap value_at e.1 in
      λ i. rank_of (s.0 i) (first i) (second i) (third i)

  pub rank-three : (a b c : ℕ) → a < 2 ^ 64 → b < 2 ^ 64 → c < 2 ^ 64 → rank (name_with head (a ∷ b ∷ c ∷ [])) ≡ rank_of head a b c
  unfolding rank
  rank-three a b c small few tiny =
      let s = split head (decimal a ++ 95 ∷ (decimal b ++ 95 ∷ (decimal c ++ []))) plain in
      let r = split (decimal a) (decimal b ++ 95 ∷ (decimal c ++ [])) (decimal-plain a small) in
      let q = split (decimal b) (decimal c ++ []) (decimal-plain b few) in
      let e = last (decimal c) (decimal-plain c tiny) in
      let first : value_at (behind (name_with head (a ∷ b ∷ c ∷ []))) ≡ a = ap value_at s.1 ∙ ap (digits_value 10) r.0 ∙ (decimal_is_IsNumeral a small).1 in
      let second : value_at (behind (behind (name_with head (a ∷ b ∷ c ∷ [])))) ≡ b = ap (λ z. value_at (behind z)) s.1 ∙ ap value_at r.1 ∙ ap (digits_value 10) q.0 ∙ (decimal_is_IsNumeral b few).1 in
      let third : value_at (behind (behind (behind (name_with head (a ∷ b ∷ c ∷ []))))) ≡ c =
      ap (λ z. value_at (behind (behind z))) s.1 ∙ ap (λ z. value_at (behind z)) r.1 ∙ ap value_at q.1 ∙ ap (digits_value 10) e.0 ∙ (decimal_is_IsNumeral c tiny).1 in
      λ i. rank_of (s.0 i) (first i) (second i) (third i)

  pub owner-is : (a : ℕ) (more : List ℕ) → a < 2 ^ 64 → owner (name_with head (a ∷ more)) ≡ a
  owner-is a more small = go more
    where
      go : (ns : List ℕ) → owner (name_with head (a ∷ ns)) ≡ a
      go [] = ap value_at (split head (decimal a ++ []) plain).1 ∙ ap (digits_value 10) (last (decimal a) (decimal-plain a small)).0 ∙ (decimal_is_IsNumeral a small).1
      go (b ∷ ns) = ap value_at (split head (decimal a ++ name_with [] (b ∷ ns)) plain).1 ∙ ap (digits_value 10) (split (decimal a) (decimal b ++ name_with [] ns) (decimal-plain a small)).0 ∙ (decimal_is_IsNumeral a small).1

-- names of other ranks differ
pub other : (n m : Name) → rank n ≢ rank m → bytes_eq n m ≡ false
other n m differ = go (bytes_eq n m) refl
  where
    go : (b : Bool) → bytes_eq n m ≡ b → b ≡ false
    go false e = refl
    go true e = absurd (differ (ap rank (one-name n m e)))
