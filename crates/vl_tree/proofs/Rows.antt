-- Worked texts, computed.
use Rattle.std.proofs.Common.{◌≡◌, ℕ, true, false, List, [], ◌∷◌, refl}
use Rattle.std.specs.Prelude.{codes}
use Rattle.vl_tree.specs.Values.{Expr, number, cat, no_parts, assign, Design}
use Rattle.vl_tree.specs.Tokens.{mark, name, plain, sized, piece_at, tokens_behind, tokens_of, unread_behind, unread, is_name}
use Rattle.vl_tree.specs.Grammar.{limit, design_tokens}
use Rattle.vl_tree.specs.Plain.{plain_design}
use Rattle.vl_tree.specs.Spells.{text_of, Spells}

-- ---- tokens

statement : text_of (tokens_of (codes "a_1[3:0]/* x */<= 8'hFf; // end")) ≡ name (codes "a_1") ∷ mark (codes "[") ∷ plain 3 ∷ mark (codes ":") ∷ plain 0 ∷ mark (codes "]") ∷ mark (codes "<=") ∷ sized 8 255 ∷ mark (codes ";") ∷ []
unfolding tokens_behind piece_at
statement = refl

zeros : text_of (tokens_of (codes "00")) ≡ plain 0 ∷ []
unfolding tokens_behind piece_at
zeros = refl

decimal_then_question : text_of (tokens_of (codes "1'd0?")) ≡ sized 1 0 ∷ mark (codes "?") ∷ []
unfolding tokens_behind piece_at
decimal_then_question = refl

blank_then_question : text_of (tokens_of (codes "1'b0 ?")) ≡ sized 1 0 ∷ mark (codes "?") ∷ []
unfolding tokens_behind piece_at
blank_then_question = refl

greatest : text_of (tokens_of (codes "64'd18446744073709551615")) ≡ sized 64 18446744073709551615 ∷ []
unfolding tokens_behind piece_at
greatest = refl

-- ---- bytes at which no piece begins

binary_then_question : unread (codes "1'b0?") ≡ 5
unfolding unread_behind piece_at
binary_then_question = refl

quote_behind_a_name : unread (codes "a_1'd0") ≡ 3
unfolding unread_behind piece_at
quote_behind_a_name = refl

too_great : unread (codes "1'd2") ≡ 4
unfolding unread_behind piece_at
too_great = refl

width_with_zero : unread (codes "08'd1") ≡ 5
unfolding unread_behind piece_at
width_with_zero = refl

width_of_65 : unread (codes "65'd1") ≡ 5
unfolding unread_behind piece_at
width_of_65 = refl

upper_case_base : unread (codes "8'HF") ≡ 4
unfolding unread_behind piece_at
upper_case_base = refl

ten_digits : unread (codes "a_1 1234567890") ≡ 10
unfolding unread_behind piece_at
ten_digits = refl

no_close : unread (codes "/*/") ≡ 3
unfolding unread_behind piece_at
no_close = refl

ends_in_comment : unread (codes "a_1 // end") ≡ 0
unfolding unread_behind piece_at
ends_in_comment = refl

-- ---- names

name_of_64 : is_name (codes "a_1456789012345678901234567890123456789012345678901234567890123x") ≡ true
name_of_64 = refl

name_of_65 : is_name (codes "a_1456789012345678901234567890123456789012345678901234567890123xy") ≡ false
name_of_65 = refl

no_digit : is_name (codes "a_b") ≡ false
no_digit = refl

no_underscore : is_name (codes "a1") ≡ false
no_underscore = refl

-- ---- whole texts

wrong_width : List ℕ
wrong_width =
    codes "module r_0 (input wire clk, input wire rst, output wire [1:0] q_0);\n  assign q_0 = 3'd0;\nendmodule\nmodule noc (input wire clk, input wire rst);\nendmodule\n"

-- a leaf with one port and one assign to it
one_assign : Expr → Design
one_assign e = record {
  leaves = record { name = codes "r_0"; ports = record { output = true; high = 1; name = codes "q_0" } ∷ []; items = assign (codes "q_0") e ∷ [] } ∷ [];
  top = record { ports = []; items = [] };
}

wrong_width_spells : Spells wrong_width (one_assign (number (record { width = 3; value = 0 })))
unfolding wrong_width one_assign tokens_behind unread_behind piece_at limit
wrong_width_spells = record { clean = refl; whole = refl; tokens = refl; fits = ((tt, tt), tt) }

wrong_width_is_plain : plain_design (one_assign (number (record { width = 3; value = 0 }))) ≡ true
unfolding one_assign limit
wrong_width_is_plain = refl

no_parts_at_all : List ℕ
no_parts_at_all =
    codes "module r_0 (input wire clk, input wire rst, output wire [1:0] q_0);\n  assign q_0 = {};\nendmodule\nmodule noc (input wire clk, input wire rst);\nendmodule\n"

no_parts_tokens : text_of (tokens_of no_parts_at_all) ≡ design_tokens (one_assign (cat no_parts))
unfolding no_parts_at_all one_assign tokens_behind piece_at
no_parts_tokens = refl

no_parts_is_not_plain : plain_design (one_assign (cat no_parts)) ≡ false
unfolding one_assign limit
no_parts_is_not_plain = refl

no_parts_spells_none : (bytes : List ℕ) → Spells bytes (one_assign (cat no_parts)) → ⊥
unfolding one_assign limit
no_parts_spells_none bytes s = s.fits.0.0
