-- What the reader's own values stand for.
use Rattle.std.specs.Prelude.{ℕ, List, [], ◌∷◌, Option, None, Some}
use Rattle.vl_tree.specs.Tokens as tokens
use Rattle.vl_tree.specs.Tokens.{mark, name, plain, sized, Placed, tokens_of}
use Rattle.vl_read.specs.declared.piece.Token.{Token}
use Rattle.vl_read.specs.declared.piece.Token.TheVariants.{Mark, Name, Plain, Sized}
use Rattle.vl_read.specs.declared.piece.Piece.{Piece}
use Rattle.vl_read.specs.declared.ahead.Ahead.{Ahead}

-- the token that one of the code stands for
abbrev pub token_of : Token → tokens.Token
token_of (Mark m) = mark m.now
token_of (Name n) = name n.now
token_of (Plain v) = plain v
token_of (Sized k) = sized k.width k.value

-- the same, if there is one
abbrev pub token_in : Option Token → Option tokens.Token
token_in None = None
token_in (Some t) = Some (token_of t)

-- the piece that one of the code stands for
abbrev pub piece_of : Piece → tokens.Piece
piece_of p = record { token = token_in p.token; len = p.len }

-- the next token, from whose first byte on n bytes are left, and then the tokens of the bytes behind it: none where
-- there is no next one
abbrev pub placed_of : Option Token → ℕ → List ℕ → List Placed
placed_of None n bytes = []
placed_of (Some t) n bytes = record { token = token_of t; left = n } ∷ tokens_of bytes

-- the tokens from the next one on
abbrev pub placed : Ahead → List Placed
placed a = placed_of a.token a.left a.rest.now

-- what the next token is read as
abbrev pub next_by : {X : Type 0} → (tokens.Token → Option X) → List Placed → Option X
next_by f [] = None
next_by f (t ∷ ts) = f t.token
