-- A text, piece by piece.
use Rattle.std.proofs.Common.{◌≡◌, ℕ, zero, suc, ◌+◌, ◌-◌, ◌<◌, ◌≤◌, List, [], ◌∷◌, length, drop, Some, None, refl, sym, ap, ◌∙◌, arith}
use Rattle.vl_tree.specs.Tokens.{piece_at, with_token, tokens_behind, tokens_of, unread_behind, unread}
use Rattle.vl_tree.proofs.Says.{behind_drop, unread_drop}
use Rattle.vl_read.specs.declared.piece.Piece.{Piece}
use Rattle.vl_read.specs.View.{piece_of, token_in}

drop_back : (n b : ℕ) (bs : List ℕ) → 0 < n → drop (n - 1) bs ≡ drop n (b ∷ bs)
drop_back zero b bs h = absurd (omega arith)
drop_back (suc n) b bs h = let e : suc n - 1 ≡ n = omega arith in rw e refl

pub unread_none : (bs : List ℕ) → None ≡ piece_at bs → unread bs ≡ length bs
unfolding unread_behind
unread_none [] e = refl
unread_none (b ∷ bs) e = let f = sym e in rw f (omega arith)

pub unread_some : (p : Piece) (bs : List ℕ) → 0 < p.len → p.len ≤ length bs → Some (piece_of p) ≡ piece_at bs
    → unread (drop p.len bs) ≡ unread bs
unfolding unread_behind
unread_some p [] some within e = absurd (omega arith)
unread_some p (b ∷ bs) some within e =
    let f = sym e in
    rw f (sym (unread_drop (p.len - 1) bs ∙ ap unread (drop_back p.len b bs some)))

pub tokens_none : (bs : List ℕ) → None ≡ piece_at bs → [] ≡ tokens_of bs
unfolding tokens_behind
tokens_none [] e = refl
tokens_none (b ∷ bs) e = let f = sym e in rw f refl

-- the tokens from a piece on
pub tokens_some : (p : Piece) (bs : List ℕ) → 0 < p.len → p.len ≤ length bs → Some (piece_of p) ≡ piece_at bs
    → with_token (token_in p.token) (length bs) (tokens_of (drop p.len bs)) ≡ tokens_of bs
unfolding tokens_behind
tokens_some p [] some within e = absurd (omega arith)
tokens_some p (b ∷ bs) some within e =
    let f = sym e in
    let n : length bs + 1 ≡ suc (length bs) = omega arith in
    rw (f, n) (ap (with_token (token_in p.token) (suc (length bs))) (sym (behind_drop (p.len - 1) bs ∙ ap tokens_of (drop_back p.len b bs some))))
