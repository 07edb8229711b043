-- One edge keeps a link's tie.
use Rattle.std.proofs.Common.{◌≡◌, ◌≢◌, ℕ, zero, suc, ◌+◌, ◌<◌, Bool, true, false, Option, refl, sym, ◌∙◌, ap, arith, ◌==◌, ℤ}
use Rattle.std.specs.Prelude.{Some, None, if◌then◌else◌, pos}
use Rattle.std.proofs.lemmas.Bool.Decides.{nat_tests}
use Rattle.std.proofs.lemmas.Int.{ints}
use Rattle.vl_model.specs.Meaning.{Widths, Values, value_of, one_if}
use Rattle.vl_model.specs.Leaf.{Stepped}
use Rattle.noc_model.specs.declared.LinkFlit.{LinkFlit}
use Rattle.noc_model.specs.Plan.{Plan}
use Rattle.noc_model.specs.Place.{owner}
use Rattle.noc_model.specs.Shared.{own_places, filled_in}
use Rattle.noc_model.specs.Tile.{Tile, TileIn}
use Rattle.noc_model.specs.Step.{sent, tile_step, shifted}
use Rattle.noc_model.proofs.SharedRows.{sent-owner}
use Rattle.gen_kit.specs.Groups.{GroupKeeps}
use Rattle.leaf_tie.specs.Links.{LinkNames, owners_word, link_group, LinkTie, LinkIn}
use Rattle.gen_kit.proofs.Families.{each-held}

word-is : (w : Widths) (v : Values) (a : LinkNames) (h domains k : ℕ) → ((e : ℕ) → e < domains → v.net (a.owns e) ≡ one_if (k == e)) → k < domains → value_of w v (owners_word a h domains) ≡ v.net (a.word k)
word-is w v a h zero k owned below = absurd (omega arith)
word-is w v a h (suc e) k owned below = go (λ b. word-is w v a h e k (λ m h. owned m (omega arith)) b) (k == e) refl
  where
    go : (k < e → value_of w v (owners_word a h e) ≡ v.net (a.word k)) → (b : Bool) → (k == e) ≡ b → value_of w v (owners_word a h (suc e)) ≡ v.net (a.word k)
    go before true is =
        let same : k ≡ e = grind (arith, nat_tests, is) in
        rw (owned e (omega arith), is) (ap (λ m. v.net (a.word m)) (sym same))
    go before false is =
        let less : k < e = grind (arith, nat_tests, is) in
        rw (owned e (omega arith), is) (before less)

not-owner : (p : Plan) (d n : ℕ) (t : ℤ) (s : Tile) (i : TileIn) (o : ℕ) → o ≢ 0 → owner p n o t ≢ d → sent p d n t s i o ≡ None
not-owner p d n t s i o link other = go (sent p d n t s i o) refl
  where
    go : (x : Option LinkFlit) → sent p d n t s i o ≡ x → x ≡ None
    go None e = refl
    go (Some x) e = absurd (other (sent-owner p d n t s i o x link e))

first-place : (p : Plan) (n o : ℕ) (t : ℤ) (s : ℕ → Tile) (i : ℕ → TileIn) (d : ℕ) → o ≢ 0
    → sent p d n t (s d) (i d) o ≡ (if owner p n o t == d then sent p (owner p n o t) n t (s (owner p n o t)) (i (owner p n o t)) o else None)
first-place p n o t s i d link = go (owner p n o t == d) refl
  where
    go : (b : Bool) → (owner p n o t == d) ≡ b → sent p d n t (s d) (i d) o ≡ (if b then sent p (owner p n o t) n t (s (owner p n o t)) (i (owner p n o t)) o else None)
    go true e = let same : owner p n o t ≡ d = grind (arith, nat_tests, e) in ap (λ k. sent p k n t (s k) (i k) o) (sym same)
    go false e = not-owner p d n t (s d) (i d) o link (grind (arith, nat_tests, e))

-- the places of a link are each domain's own after a shift
pub own-kept : (p : Plan) (n o t : ℕ) (s : ℕ → Tile) (i : ℕ → TileIn) (shared : ℕ → Option LinkFlit) → o ≢ 0 → ((d j : ℕ) → (s d).row o j ≡ own_places p d n o (pos t) shared j)
    → (d j : ℕ) → (tile_step p d n (pos t) (s d) (i d)).row o j ≡ own_places p d n o (pos (suc t)) (shifted (sent p (owner p n o (pos t)) n (pos t) (s (owner p n o (pos t))) (i (owner p n o (pos t))) o) shared) j
unfolding tile_step
own-kept p n o t s i shared link was = own
  where
    now : filled_in (pos (suc t)) 0 ≡ pos t
    now = omega (arith, ints)

    before : (j : ℕ) → filled_in (pos (suc t)) (suc j) ≡ filled_in (pos t) j
    before j = omega (arith, ints)

    own : (d j : ℕ) → shifted (sent p d n (pos t) (s d) (i d) o) ((s d).row o) j ≡ own_places p d n o (pos (suc t)) (shifted (sent p (owner p n o (pos t)) n (pos t) (s (owner p n o (pos t))) (i (owner p n o (pos t))) o) shared) j
    own d zero = first-place p n o (pos t) s i d link ∙ ap (λ y. if owner p n o y == d then sent p (owner p n o (pos t)) n (pos t) (s (owner p n o (pos t))) (i (owner p n o (pos t))) o else None) (sym now)
    own d (suc j) = was d j ∙ ap (λ y. if owner p n o y == d then shared j else None) (sym (before j))

pub link-kept : (p : Plan) (n o h domains last : ℕ) (code : Option LinkFlit → ℕ) (a : LinkNames) → o ≢ 0
    → GroupKeeps (link_group a h domains last) (λ w v u. (t : ℕ) (s : ℕ → Tile) (i : ℕ → TileIn) (shared : ℕ → Option LinkFlit) → LinkIn p n o domains code a v t s i → LinkTie p n o last code a v t s shared
    → LinkTie p n o last code a u (suc t) (λ d. tile_step p d n (pos t) (s d) (i d)) (shifted (sent p (owner p n o (pos t)) n (pos t) (s (owner p n o (pos t))) (i (owner p n o (pos t))) o) shared))
unfolding tile_step
link-kept p n o h domains last code a link w v u held after e t s i shared from tie = record { places = places; own = λ d j. own-kept p n o t s i shared link tie.own d j }
  where
    places : (j : ℕ) → j < last + 1 → u.net (a.row j) ≡ code (shifted (sent p (owner p n o (pos t)) n (pos t) (s (owner p n o (pos t))) (i (owner p n o (pos t))) o) shared j)
    places zero below = e.moves.0 ∙ word-is w v a h domains (owner p n o (pos t)) from.owned from.some_owner ∙ from.words (owner p n o (pos t)) from.some_owner
    places (suc j) below =
        let move = each-held (Stepped w v u) last _ e.moves.1 j (omega arith) in
        let at : suc j ≡ j + 1 = omega arith in
        ap (λ k. u.net (a.row k)) at ∙ move.0 ∙ tie.places j (omega arith)
