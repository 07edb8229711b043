-- Which bytes spell a design, and the first fault of bytes that spell none.
use Rattle.std.specs.Prelude.{◌≡◌, ℕ, ◌+◌, ◌<◌, ◌==◌, nat_le, Bool, ◌&&◌, ◌||◌, ◌⊎◌, List, [], ◌∷◌, ◌++◌, length, map, IsTrue, IsFalse}
use Rattle.std.specs.List.{list_all}
use Rattle.vl_tree.specs.Values.{Design}
use Rattle.vl_tree.specs.Tokens.{Token, Placed, AreTokens, tokens_of, unread}
use Rattle.vl_tree.specs.Grammar.{design_tokens, DesignFits}

-- the tokens alone, without their places
abbrev pub text_of : List Placed → List Token
text_of ts = map (λ t. t.token) ts

-- tab, LF, CR and 0x20 to 0x7e
abbrev pub is_text_byte : ℕ → Bool
is_text_byte b = (b == 9) || (b == 10) || (b == 13) || (nat_le 32 b && nat_le b 126)

-- the bytes are pieces, and their tokens are the design's
pub record Spells (bytes : List ℕ) (d : Design) : Type 0 where
  pub clean : IsTrue (list_all is_text_byte bytes)
  pub whole : unread bytes ≡ 0
  pub tokens : text_of (tokens_of bytes) ≡ design_tokens d
  pub fits : DesignFits d

-- each of its tokens can stand in a text, and no expression is too deep
pub record IsPlain (d : Design) : Type 0 where
  pub tokens : AreTokens (design_tokens d)
  pub fits : DesignFits d

-- ---- faults

-- the first byte that a text can't have
pub record ByteFault (bytes : List ℕ) (place : ℕ) : Type 0 where
  pub front : List ℕ
  pub byte : ℕ
  pub rest : List ℕ
  pub parts : bytes ≡ front ++ (byte ∷ rest)
  pub at : place ≡ length front
  pub before : IsTrue (list_all is_text_byte front)
  pub here : IsFalse (is_text_byte byte)

-- the first place at which no piece begins, of bytes that a text can have
pub record TokenFault (bytes : List ℕ) (place : ℕ) : Type 0 where
  pub clean : IsTrue (list_all is_text_byte bytes)
  pub some : 0 < unread bytes
  pub at : place + unread bytes ≡ length bytes

-- some text of the grammar begins with these tokens
pub record Begins (tokens : List Token) : Type 0 where
  pub design : Design
  pub rest : List Token
  pub plain : IsPlain design
  pub parts : tokens ++ rest ≡ design_tokens design

-- these tokens are no text of the grammar
abbrev pub IsNoText : List Token → Type 0
IsNoText tokens = (d : Design) → IsPlain d → tokens ≡ design_tokens d → ⊥

-- the place of the first token with which no text begins any more, or the end where the text is cut off
abbrev pub GrammarPlace : List ℕ → ℕ → Type 0
GrammarPlace bytes place =
    ((before : List Placed) × (t : Placed) × (after : List Placed) × (tokens_of bytes ≡ before ++ (t ∷ after))
    × (place + t.left ≡ length bytes)
    × Begins (text_of before) × (Begins (text_of before ++ (t.token ∷ [])) → ⊥))
    ⊎ ((place ≡ length bytes) × Begins (text_of (tokens_of bytes)) × IsNoText (text_of (tokens_of bytes)))

-- the bytes are pieces, and their tokens are no text of the grammar
pub record GrammarFault (bytes : List ℕ) (place : ℕ) : Type 0 where
  pub clean : IsTrue (list_all is_text_byte bytes)
  pub whole : unread bytes ≡ 0
  pub at : GrammarPlace bytes place
