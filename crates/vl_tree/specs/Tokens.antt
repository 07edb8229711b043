-- A text as pieces: at each place the longest blank, comment or token that begins there.
use Rattle.std.specs.Prelude.{ℕ, zero, suc, ◌+◌, ◌-◌, ◌^◌, ◌<◌, ◌≤◌, ◌==◌, nat_lt, nat_le, Bool, true, false, not, ◌&&◌, ◌||◌, if◌then◌else◌, List, [], ◌∷◌, length, drop, Option, Some, None, option_map, codes, bytes_eq, take_while, IsTrue}
use Rattle.std.specs.List.{list_any, list_all, AllByRecursion}
use Rattle.std.specs.Char.{is_digit, is_ascii_digit}
use Rattle.std.specs.Str.Parse.{digits_value}

-- a word or a symbol by its bytes, a name, a plain number, and a constant with its width and value
pub data Token : Type 0 where
  mark : List ℕ → Token
  name : List ℕ → Token
  plain : ℕ → Token
  sized : ℕ → ℕ → Token

-- how many bytes a piece takes, and its token, which a blank and a comment don't have
pub record Piece : Type 0 where
  pub token : Option Token
  pub len : ℕ

-- a token of n bytes
abbrev pub piece : Token → ℕ → Option Piece
piece t n = Some (record { token = Some t; len = n })

-- a blank or a comment of n bytes
abbrev pub gap : ℕ → Piece
gap n = record { token = None; len = n }

-- whether the next byte is b
abbrev pub next_is : ℕ → List ℕ → Bool
next_is b [] = false
next_is b (c ∷ cs) = c == b

-- one byte more at the front of the first part
abbrev pub with_first : ℕ → List (List ℕ) → List (List ℕ)
with_first b [] = (b ∷ []) ∷ []
with_first b (x ∷ xs) = (b ∷ x) ∷ xs

-- the parts of a text between single spaces
abbrev pub split : List ℕ → List (List ℕ)
split [] = [] ∷ []
split (b ∷ bs) = if b == 32 then [] ∷ split bs else with_first b (split bs)

-- ---- blanks and comments

-- space, tab, LF and CR
abbrev pub is_blank : ℕ → Bool
is_blank b = (b == 32) || (b == 9) || (b == 10) || (b == 13)

-- how many bytes there are up to the end of the next */
abbrev pub to_close : List ℕ → Option ℕ
to_close [] = None
to_close (b ∷ bs) = if (b == 42) && next_is 47 bs then Some 2 else option_map suc (to_close bs)

-- the comment whose first slash stands before these bytes: // up to LF or the end, or /* up to the next */
abbrev pub comment_at : List ℕ → Option Piece
comment_at bs =
    if next_is 47 bs then Some (gap (length (take_while (λ c. not (c == 10)) bs) + 1))
    else if next_is 42 bs then option_map (λ n. gap (n + 2)) (to_close (drop 1 bs))
    else None

-- ---- words, names and numbers

-- an ASCII letter
abbrev pub is_letter : ℕ → Bool
is_letter b = (nat_le 65 b && nat_le b 90) || (nat_le 97 b && nat_le b 122)

-- a letter, a digit or an underscore
abbrev pub is_run : ℕ → Bool
is_run b = is_letter b || is_ascii_digit b || (b == 95)

-- the words of the grammar, none of which is a name
abbrev pub words : List (List ℕ)
words = split (codes "module endmodule input output wire reg assign always posedge if else clk rst noc")

-- whether a run is one of these words
abbrev pub is_word : List ℕ → Bool
is_word r = list_any (bytes_eq r) words

-- what stands behind the first letter of a name
abbrev pub is_name_rest : List ℕ → Bool
is_name_rest bs = list_all is_run bs && nat_lt (length bs) 64 && list_any (λ c. c == 95) bs
    && list_any is_ascii_digit bs

-- at most 64 letters, digits and underscores, at first a letter, with an underscore and a digit
abbrev pub is_name : List ℕ → Bool
is_name [] = false
is_name (b ∷ bs) = is_letter b && is_name_rest bs

-- digits of the base alone
abbrev pub all_digits : ℕ → List ℕ → Bool
all_digits base ds = list_all (λ d. is_digit d base) ds

-- 1 to 9 decimal digits
abbrev pub is_plain : List ℕ → Bool
is_plain r = all_digits 10 r && nat_lt 0 (length r) && nat_lt (length r) 10

-- 1 or 2 decimal digits, the first of them not 0, of a value up to 64
abbrev pub is_width : List ℕ → Bool
is_width r = all_digits 10 r && not (next_is 48 r) && nat_lt 0 (length r) && nat_lt (length r) 3
    && nat_le (digits_value 10 r) 64

-- the base that a letter names, and 0 where it names none
abbrev pub base_of : ℕ → ℕ
base_of b = if b == 98 then 2 else if b == 100 then 10 else if b == 104 then 16 else 0

-- 1 to 64 digits of the base, of a value below two to the width
abbrev pub is_value : ℕ → ℕ → List ℕ → Bool
is_value width base ds = all_digits base ds && nat_lt 0 (length ds) && nat_lt (length ds) 65
    && nat_lt (digits_value base ds) (2 ^ width)

-- the constant of a width, of a run behind its quote, and of the bytes after that run. A question mark directly
-- behind a binary or hexadecimal one is refused
abbrev pub sized_at : List ℕ → List ℕ → List ℕ → Option Piece
sized_at w [] after = None
sized_at w (b ∷ ds) after =
    if is_width w && is_value (digits_value 10 w) (base_of b) ds && ((b == 100) || not (next_is 63 after))
    then piece (sized (digits_value 10 w) (digits_value (base_of b) ds)) (length w + length ds + 2)
    else None

-- the longest run of letters, digits and underscores at the front
abbrev pub run_of : List ℕ → List ℕ
run_of bs = take_while is_run bs

-- what stands behind that run
abbrev pub after_run : List ℕ → List ℕ
after_run bs = drop (length (run_of bs)) bs

-- the token of a run and of the bytes after it
abbrev pub run_at : List ℕ → List ℕ → Option Piece
run_at r after =
    if is_word r then piece (mark r) (length r)
    else if is_name r then piece (name r) (length r)
    else if next_is 39 after then sized_at r (run_of (drop 1 after)) (after_run (drop 1 after))
    else if is_plain r then piece (plain (digits_value 10 r)) (length r)
    else None

-- ---- symbols

-- whether a byte is a symbol by itself
abbrev pub is_symbol : ℕ → Bool
is_symbol b = list_any (λ c. c == b) (codes "()[]{};:,.@+-&|^~?<=")

-- the longest symbol at the front, of which only <= and == take two bytes
abbrev pub symbol_at : ℕ → List ℕ → Option Piece
symbol_at b bs =
    if ((b == 60) || (b == 61)) && next_is 61 bs then piece (mark (b ∷ 61 ∷ [])) 2
    else if is_symbol b then piece (mark (b ∷ [])) 1
    else None

-- the longest piece at the front
unfoldable pub piece_at : List ℕ → Option Piece
piece_at [] = None
piece_at (b ∷ bs) =
    if is_blank b then Some (gap 1)
    else if b == 47 then comment_at bs
    else if is_run b then run_at (run_of (b ∷ bs)) (after_run (b ∷ bs))
    else symbol_at b bs

-- ---- whole texts

-- a token, and how many bytes there are from its first one to the end of the text
pub record Placed : Type 0 where
  pub token : Token
  pub left : ℕ

-- the tokens behind a piece, and before them the piece's own token if it has one
abbrev pub with_token : Option Token → ℕ → List Placed → List Placed
with_token None n ts = ts
with_token (Some t) n ts = record { token = t; left = n } ∷ ts

-- the tokens from the place of a piece on, at which n bytes are left: none where no piece begins
abbrev pub pieced : Option Piece → ℕ → (ℕ → List Placed) → List Placed
pieced None n rest = []
pieced (Some p) n rest = with_token p.token n (rest (p.len - 1))

-- the tokens, where k more bytes belong to the piece before
unfoldable pub tokens_behind : ℕ → List ℕ → List Placed
tokens_behind k [] = []
tokens_behind zero (b ∷ bs) = pieced (piece_at (b ∷ bs)) (length bs + 1) (λ k. tokens_behind k bs)
tokens_behind (suc k) (b ∷ bs) = tokens_behind k bs

-- the tokens of the text, as far as it is made of pieces
abbrev pub tokens_of : List ℕ → List Placed
tokens_of bytes = tokens_behind 0 bytes

-- the unread bytes from the place of a piece on, at which n bytes are left: all of them where no piece begins
abbrev pub unread_at : Option Piece → ℕ → (ℕ → ℕ) → ℕ
unread_at None n rest = n
unread_at (Some p) n rest = rest (p.len - 1)

-- the unread bytes, where k more bytes belong to the piece before
unfoldable pub unread_behind : ℕ → List ℕ → ℕ
unread_behind k [] = 0
unread_behind zero (b ∷ bs) = unread_at (piece_at (b ∷ bs)) (length bs + 1) (λ k. unread_behind k bs)
unread_behind (suc k) (b ∷ bs) = unread_behind k bs

-- how many bytes there are from the first place on at which no piece begins: 0 where the whole text is pieces
abbrev pub unread : List ℕ → ℕ
unread bytes = unread_behind 0 bytes

-- ---- what a token can be

-- the symbols, of one byte or two
abbrev pub symbols : List (List ℕ)
symbols = split (codes "( ) [ ] { } ; : , . @ = + - & | ^ ~ ? < <= ==")

-- a word or a symbol
abbrev pub is_mark_text : List ℕ → Bool
is_mark_text m = is_word m || list_any (bytes_eq m) symbols

-- the test passes
abbrev pub Holds : Bool → Type 0
Holds true = Unit {0}
Holds false = ⊥

-- the token can stand in a text: a word or symbol of the grammar, a name, a number of at most nine digits, or a
-- constant of 1 to 64 bits whose value fits them
abbrev pub IsToken : Token → Type 0
IsToken (mark m) = Holds (is_mark_text m)
IsToken (name n) = IsTrue (is_name n)
IsToken (plain v) = v < 10 ^ 9
IsToken (sized w v) = (0 < w) × (w ≤ 64) × (v < 2 ^ w)

-- each of these tokens can stand in a text
abbrev pub AreTokens : List Token → Type 0
AreTokens ts = AllByRecursion IsToken ts
