-- Fields and lines, one after another.
use Rattle.std.proofs.Common.{◌≡◌, ℕ, ◌+◌, ◌-◌, ◌<◌, ◌≤◌, Bool, true, false, not, suc, add-one, inl, inr, eqb, ltb, Option, Some, None, List, [], ◌∷◌, length, get_or, take, drop, refl, sym, ◌∙◌, ap, arith}
use Rattle.std.specs.Prelude.{unwrap_or, position}
use Rattle.std.specs.List.{position_or_len, slice_split}
use Rattle.std.specs.Str.Lines.{lines, lines_of_parts, strip_carriage_return}
use Rattle.std.proofs.lemmas.Bool.{cases_lt}
use Rattle.std.proofs.lemmas.Bool.Decides.{nat_tests}
use Rattle.std.proofs.lemmas.List.Sums.{prefix_len-le-length, passes_at_first, fails_before_first}
use Rattle.std.proofs.lemmas.List.Splits.{slice_split-cons_yes, slice_split_none, slice_split_first, length-slice_split}
use Rattle.std.proofs.lemmas.List.{take_all, drop_all, length-take, length-drop}
use Rattle.std.proofs.Math.Seq.{drop-cons}
use Rattle.trace_read.specs.Text.{is_blank, is_ink, is_field, is_feed, fields}

-- the first place that passes, or the length
pub place-from_position : (p : ℕ → Bool) (xs : List ℕ) (r : Option ℕ) (n k : ℕ) → r ≡ position p xs → n ≡ length xs
    → k ≡ unwrap_or r n
    → (k ≡ position_or_len p xs) × (k ≤ length xs)
place-from_position p xs r n k r_is n_is k_is =
    let few = prefix_len-le-length (λ x. not (p x)) xs in
    go (ltb (position_or_len p xs) (length xs)) refl
  where
    go : (b : Bool) → ltb (position_or_len p xs) (length xs) ≡ b → (k ≡ position_or_len p xs) × (k ≤ length xs)
    go true e =
        let r_some : r ≡ Some (position_or_len p xs) = r_is ∙ rw e refl in
        let same : k ≡ position_or_len p xs = k_is ∙ rw r_some refl in
        (same, omega (arith, prefix_len-le-length (λ x. not (p x)) xs, same))
    go false e =
        let r_none : r ≡ None = r_is ∙ rw e refl in
        let same : k ≡ length xs = k_is ∙ rw r_none n_is in
        let past : length xs ≤ position_or_len p xs = grind (arith, nat_tests) in
        (omega (arith, prefix_len-le-length (λ x. not (p x)) xs, same, past), omega (arith, same))

-- blanks in front of the fields
fields-skip : (line : List ℕ) → fields line ≡ fields (drop (position_or_len is_ink line) line)
unfolding fields
fields-skip [] = refl
fields-skip (b ∷ bs) = go (is_blank b) refl (fields-skip bs)
  where
    go : (t : Bool) → is_blank b ≡ t → fields bs ≡ fields (drop (position_or_len is_ink bs) bs)
        → fields (b ∷ bs) ≡ fields (drop (position_or_len is_ink (b ∷ bs)) (b ∷ bs))
    go true e more =
        let one : 1 + position_or_len is_ink bs ≡ suc (position_or_len is_ink bs) = omega arith in
        rw (e, one) more
    go false e more = rw (e, e) refl

-- the first field, where no blank stands in front of it, and more behind it
fields-take : (rest : List ℕ) → 0 < position_or_len is_blank rest → position_or_len is_blank rest < length rest
    → fields rest ≡ take (position_or_len is_blank rest) rest ∷ fields (drop (position_or_len is_blank rest) rest)
unfolding fields
fields-take rest some inside =
    let e : ℕ = position_or_len is_blank rest in
    let long : length (take e rest) ≡ e = omega (arith, length-take e rest) in
    let field : is_field (take e rest) ≡ true = grind (arith, nat_tests) in
    let blank : is_blank (get_or rest e 0) ≡ true = passes_at_first is_blank rest 0 inside in
    let split : slice_split is_blank rest ≡ take e rest ∷ slice_split is_blank (drop (e + 1) rest) =
    slice_split_first is_blank rest 0 inside in
    let behind : slice_split is_blank (drop e rest) ≡ [] ∷ slice_split is_blank (drop (e + 1) rest) =
    rw (drop-cons rest e 0 inside, slice_split-cons_yes is_blank (get_or rest e 0) (drop (suc e) rest) blank, add-one e) refl in
    rw (split, behind, field) refl

-- the only field, where no blank stands
fields-all : (rest : List ℕ) → 0 < length rest → length rest ≤ position_or_len is_blank rest → fields rest ≡ rest ∷ []
unfolding fields
fields-all rest some past =
    let field : is_field rest ≡ true = grind (arith, nat_tests) in
    let none : slice_split is_blank rest ≡ rest ∷ [] =
    slice_split_none is_blank rest (λ k d within. fails_before_first is_blank rest k d (omega arith)) in
    rw (none, field) refl

-- no field
fields-none : fields [] ≡ []
unfolding fields
fields-none = refl

-- where no byte of a field follows the blanks in front, there is no field
pub no_field : (line rest : List ℕ) → rest ≡ drop (position_or_len is_ink line) line → position_or_len is_blank rest ≡ 0
    → fields line ≡ []
no_field line rest rest_is stop = elim (cases_lt (position_or_len is_ink line) (length line)) [
  | inl inside ↦
      let first = drop-cons line (position_or_len is_ink line) 0 inside in
      let ink : is_ink (get_or line (position_or_len is_ink line) 0) ≡ true = passes_at_first is_ink line 0 inside in
      let stops : position_or_len is_blank (get_or line (position_or_len is_ink line) 0 ∷ drop (suc (position_or_len is_ink line)) line) ≡ 0 =
      ap (position_or_len is_blank) (sym (rest_is ∙ first)) ∙ stop in
      let goes_on = rw ink at stops in
      absurd (omega arith)
  | inr past ↦ fields-skip line ∙ ap fields (drop_all _ line past) ∙ fields-none
]

-- the first field, and what is behind it
pub one_field : (line rest : List ℕ) → rest ≡ drop (position_or_len is_ink line) line
    → 0 < position_or_len is_blank rest
    → fields line ≡ take (position_or_len is_blank rest) rest ∷ fields (drop (position_or_len is_blank rest) rest)
one_field line rest rest_is some =
    fields-skip line ∙ ap fields (sym rest_is) ∙ elim (cases_lt (position_or_len is_blank rest) (length rest)) [
      | inl inside ↦ fields-take rest some inside
      | inr past ↦
          let few = prefix_len-le-length (λ b. not (is_blank b)) rest in
          fields-all rest (omega (arith, few)) past
          ∙ rw (take_all (position_or_len is_blank rest) rest past, drop_all (position_or_len is_blank rest) rest past, fields-none) refl
    ]

-- a part before others is a line, and loses its carriage return
part-before : (part : List ℕ) (parts : List (List ℕ)) → 0 < length parts
    → lines_of_parts (part ∷ parts) ≡ strip_carriage_return part ∷ lines_of_parts parts
part-before part [] some = absurd (omega arith)
part-before part (next ∷ more) some = refl

-- the first line, where a line feed ends it
pub line_first : (bytes : List ℕ) → position_or_len is_feed bytes < length bytes
    → lines bytes ≡ strip_carriage_return (take (position_or_len is_feed bytes) bytes) ∷ lines (drop (position_or_len is_feed bytes + 1) bytes)
line_first bytes inside =
    let behind = drop (position_or_len is_feed bytes + 1) bytes in
    let split : slice_split is_feed bytes ≡ take (position_or_len is_feed bytes) bytes ∷ slice_split is_feed behind =
    slice_split_first is_feed bytes 0 inside in
    let some : 0 < length (slice_split is_feed behind) = omega (arith, length-slice_split is_feed behind) in
    ap lines_of_parts split ∙ part-before _ _ some

-- the last line, which no line feed ends
pub line_last : (bytes : List ℕ) → 0 < length bytes → length bytes ≤ position_or_len is_feed bytes
    → lines bytes ≡ bytes ∷ lines []
line_last bytes some past =
    let none : slice_split is_feed bytes ≡ bytes ∷ [] =
    slice_split_none is_feed bytes (λ k d within. fails_before_first is_feed bytes k d (omega arith)) in
    let long : eqb (length bytes) 0 ≡ false = grind (arith, nat_tests) in
    ap lines_of_parts none ∙ rw long refl

-- all that a slice has from a place on
rest-is : (xs : List ℕ) (i : ℕ) → take (length xs - i) (drop i xs) ≡ drop i xs
rest-is xs i = take_all _ _ (omega (arith, length-drop i xs))

-- the same, of the places that the code finds
pub no_field_at : (line : List ℕ) (start stop : ℕ) → start ≡ position_or_len is_ink line
    → stop ≡ position_or_len is_blank (take (length line - start) (drop start line)) → stop ≡ 0 → fields line ≡ []
no_field_at line start stop start_is stop_is none =
    no_field line _ (rest-is line start ∙ ap (λ i. drop i line) start_is) (sym stop_is ∙ none)

pub one_field_at : (line rest : List ℕ) (start stop : ℕ) → start ≡ position_or_len is_ink line
    → rest ≡ take (length line - start) (drop start line)
    → stop ≡ position_or_len is_blank rest → (stop ≡ 0 → ⊥)
    → fields line ≡ take stop rest ∷ fields (take (length rest - stop) (drop stop rest))
one_field_at line rest start stop start_is rest_is stop_is some =
    let found = one_field line rest (rest_is ∙ rest-is line start ∙ ap (λ i. drop i line) start_is) (omega arith) in
    let found' : fields line ≡ take stop rest ∷ fields (drop stop rest) = rw stop_is found in
    found' ∙ ap (λ more. take stop rest ∷ fields more) (sym (rest-is rest stop))

-- the first line and the rest, of the place that the code finds
pub one_line_at : (bytes line : List ℕ) (stop : ℕ) → stop ≡ position_or_len is_feed bytes → stop ≤ length bytes
    → (stop ≡ length bytes → ⊥)
    → line ≡ strip_carriage_return (take stop bytes)
    → lines bytes ≡ line ∷ lines (take (length bytes - (stop + 1)) (drop (stop + 1) bytes))
one_line_at bytes line stop stop_is within inside line_is =
    let found = line_first bytes (omega arith) in
    let found' : lines bytes ≡ strip_carriage_return (take stop bytes) ∷ lines (drop (stop + 1) bytes) =
    rw stop_is found in
    found' ∙ rw (line_is, rest-is bytes (stop + 1)) refl

pub last_line_at : (bytes : List ℕ) (stop : ℕ) → stop ≡ position_or_len is_feed bytes → stop ≡ length bytes
    → 0 < length bytes → lines bytes ≡ bytes ∷ []
last_line_at bytes stop stop_is end some = line_last bytes some (omega arith)
