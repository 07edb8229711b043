-- The first fault of a text.
use Rattle.std.proofs.Common.{◌≡◌, ℕ, suc, ◌+◌, ◌-◌, ◌<◌, ◌≤◌, Bool, true, false, cond, List, [], ◌∷◌, ◌++◌, length, get_or, take, drop, Ok, Err, refl, sym, ap, subst, ◌∙◌, append_assoc, arith, inl, inr}
use Rattle.std.specs.Prelude.{◌⊎◌, ◌&&◌}
use Rattle.std.specs.List.{prefix_len, list_all}
use Rattle.std.proofs.lemmas.List.{take-append-drop, drop_more, length-take-le, length-append, append-nil}
use Rattle.std.proofs.lemmas.List.Sums.{prefix_len_stops}
use Rattle.vl_tree.specs.Values.{Design}
use Rattle.vl_tree.specs.Tokens.{Placed, tokens_of, unread}
use Rattle.vl_tree.specs.Spells.{text_of, is_text_byte, Spells, ByteFault, TokenFault, Begins, GrammarPlace, GrammarFault}
use Rattle.vl_tree.specs.Reading.{design_at}
use Rattle.vl_tree.proofs.Lexed.{and_true}
use Rattle.vl_tree.proofs.Forms.{text_append}
use Rattle.vl_tree.proofs.Designs.{design_found, design_again, fault_place, fault_within, plain_spelled}

-- ---- bytes

pub all_pass : (p : ℕ → Bool) (bs : List ℕ) → length bs ≤ prefix_len p bs → list_all p bs ≡ true
all_pass p [] h = refl
all_pass p (b ∷ bs) h =
    elim (p b) as (λ t. suc (length bs) ≤ cond t (1 + prefix_len p bs) 0 → (t && list_all p bs) ≡ true) [ true ↦ λ l. all_pass p bs (omega arith) | false ↦ λ l. absurd (omega arith) ] h

-- where all pass, all do
pub all_long : (p : ℕ → Bool) (bs : List ℕ) → list_all p bs ≡ true → prefix_len p bs ≡ length bs
all_long p [] h = refl
all_long p (b ∷ bs) h =
    elim (p b) as (λ t. (t && list_all p bs) ≡ true → cond t (1 + prefix_len p bs) 0 ≡ suc (length bs)) [ true ↦ λ l. omega (arith, all_long p bs l) | false ↦ λ l. absurd cc ] h

front_passes : (p : ℕ → Bool) (bs : List ℕ) → list_all p (take (prefix_len p bs) bs) ≡ true
front_passes p [] = refl
front_passes p (b ∷ bs) =
    elim (p b) as (λ t. p b ≡ t → list_all p (take (cond t (1 + prefix_len p bs) 0) (b ∷ bs)) ≡ true) [
      | true ↦ λ is. let e : 1 + prefix_len p bs ≡ suc (prefix_len p bs) = omega arith in rw (e, is) (front_passes p bs)
      | false ↦ λ is. refl
    ] refl

pub byte_here : (bs : List ℕ) (n : ℕ) → n ≡ prefix_len is_text_byte bs → n < length bs → ByteFault bs n
byte_here bs n is lt = record {
  front = take n bs;
  byte = get_or bs n 0;
  rest = drop (n + 1) bs;
  parts = sym (take-append-drop n bs) ∙ ap (λ r. take n bs ++ r) (drop_more bs n 0 lt);
  at = sym (length-take-le n bs (omega arith));
  before = ap (λ k. list_all is_text_byte (take k bs)) is ∙ front_passes is_text_byte bs;
  here = ap (λ k. is_text_byte (get_or bs k 0)) is ∙ prefix_len_stops is_text_byte bs 0 (omega arith);
}

prefix_stops : (p : ℕ → Bool) (front : List ℕ) (b : ℕ) (rest : List ℕ) → list_all p front ≡ true → p b ≡ false
    → prefix_len p (front ++ (b ∷ rest)) ≡ length front
prefix_stops p [] b rest all here = rw here refl
prefix_stops p (x ∷ front) b rest all here =
    let k = and_true (p x) (list_all p front) all in
    let h = k.0 in
    rw h (omega (arith, prefix_stops p front b rest k.1 here))

pub byte_place : (bs : List ℕ) (n : ℕ) → ByteFault bs n → (prefix_len is_text_byte bs ≡ n) × (n < length bs)
byte_place bs n f =
    let e : prefix_len is_text_byte bs ≡ n =
    ap (prefix_len is_text_byte) f.parts ∙ prefix_stops is_text_byte f.front f.byte f.rest f.before f.here ∙ sym f.at in
    let l : length bs ≡ length f.front + suc (length f.rest) =
    ap length f.parts ∙ length-append f.front (f.byte ∷ f.rest) in
    (e, omega (arith, l, f.at))

-- a text without such a byte
pub no_byte : (bs : List ℕ) (n : ℕ) → length bs ≤ prefix_len is_text_byte bs → ByteFault bs n → ⊥
no_byte bs n clean f = let k = byte_place bs n f in absurd (omega (arith, k.0, k.1))

-- a text with one
pub some_byte : (bs : List ℕ) (n : ℕ) → n ≡ prefix_len is_text_byte bs → n < length bs → list_all is_text_byte bs ≡ true
    → ⊥
some_byte bs n is lt all = absurd (omega (arith, all_long is_text_byte bs all))

pub token_here : (bs : List ℕ) (n left : ℕ) → length bs ≤ prefix_len is_text_byte bs → left ≡ unread bs → 0 < left
    → left ≤ length bs → n ≡ length bs - left → TokenFault bs n
token_here bs n left clean is some within at =
    record { clean = all_pass is_text_byte bs clean; some = omega arith; at = omega arith }

-- ---- the grammar

pub spelled_here : (bs : List ℕ) (d : Design) → length bs ≤ prefix_len is_text_byte bs → unread bs ≡ 0
    → design_at (tokens_of bs) ≡ Ok d → Spells bs d
spelled_here bs d clean whole e =
    let f = design_found (tokens_of bs) d e in
    record { clean = all_pass is_text_byte bs clean; whole = whole; tokens = f.1; fits = f.0 }

pub spelled_read : (bs : List ℕ) (d : Design) → Spells bs d → design_at (tokens_of bs) ≡ Ok d
spelled_read bs d s = design_again d (tokens_of bs) s.fits (plain_spelled bs d s).tokens s.tokens

pub grammar_here : (bs : List ℕ) (n : ℕ) → length bs ≤ prefix_len is_text_byte bs → unread bs ≡ 0
    → design_at (tokens_of bs) ≡ Err n → GrammarFault bs (length bs - n)
grammar_here bs n clean whole e =
    let within = fault_within bs n e in
    record { clean = all_pass is_text_byte bs clean; whole = whole; at = fault_place bs n (length bs - n) e (omega arith) }

record Compared (x y : List Placed) (t u : Placed) : Type 0 where
  more : List Placed
  is : y ≡ x ++ (t ∷ more)

abbrev Ways : List Placed → List Placed → Placed → Placed → Type 0
Ways x y t u = (t ≡ u) ⊎ (Compared x y t u ⊎ Compared y x u t)

longer : (v : Placed) (x y : List Placed) (t u : Placed) → Ways x y t u → Ways (v ∷ x) (v ∷ y) t u
longer v x y t u (inl e) = inl e
longer v x y t u (inr (inl c)) = inr (inl (record { more = c.more; is = ap (λ zs. v ∷ zs) c.is }))
longer v x y t u (inr (inr c)) = inr (inr (record { more = c.more; is = ap (λ zs. v ∷ zs) c.is }))

ways : (x y : List Placed) (t u : Placed) (a b : List Placed) → x ++ (t ∷ a) ≡ y ++ (u ∷ b) → Ways x y t u
ways [] [] t u a b e = inl (cc e)
ways [] (v ∷ y) t u a b e = let h : t ≡ v = cc e in inr (inl (record { more = y; is = ap (λ w. w ∷ y) (sym h) }))
ways (v ∷ x) [] t u a b e = let h : v ≡ u = cc e in inr (inr (record { more = x; is = ap (λ w. w ∷ x) h }))
ways (v ∷ x) (w ∷ y) t u a b e =
    let h : v ≡ w = cc e in
    let k : x ++ (t ∷ a) ≡ y ++ (u ∷ b) = cc e in
    subst (λ z. Ways (v ∷ x) (z ∷ y) t u) h (longer v x y t u (ways x y t u a b k))

-- what begins so begins with a part of it
begins_with : (before more : List Placed) (t : Placed) (all : List Placed) → all ≡ before ++ (t ∷ more)
    → Begins (text_of all) → Begins (text_of before ++ (t.token ∷ []))
begins_with before more t all is b =
    let text : text_of all ≡ (text_of before ++ (t.token ∷ [])) ++ text_of more =
    ap text_of is ∙ text_append before (t ∷ more) ∙ sym (append_assoc (text_of before) (t.token ∷ []) (text_of more)) in
    record {
      design = b.design;
      rest = text_of more ++ b.rest;
      plain = b.plain;
      parts = sym (append_assoc (text_of before ++ (t.token ∷ [])) (text_of more) b.rest) ∙ ap (λ us. us ++ b.rest) (sym text) ∙ b.parts;
    }

pub one_place : (bs : List ℕ) (a b : ℕ) → GrammarPlace bs a → GrammarPlace bs b → a ≡ b
one_place bs a b (inl (x, t, p, is, at, begins, dead)) (inl (y, u, q, is', at', begins', dead')) =
    elim (ways x y t u p q (sym is ∙ is')) as (λ w. a ≡ b) [
      | inl e ↦ omega (arith, at, at', ap (λ (v : Placed). v.left) e)
      | inr w ↦ elim w as (λ w. a ≡ b) [
        | inl c ↦ absurd (dead (begins_with x c.more t y c.is begins'))
        | inr c ↦ absurd (dead' (begins_with y c.more u x c.is begins))
      ]
    ]
one_place bs a b (inl (x, t, p, is, at, begins, dead)) (inr (at', begins', none)) =
    absurd (dead (begins_with x p t (tokens_of bs) is begins'))
one_place bs a b (inr (at, begins, none)) (inl (y, u, q, is', at', begins', dead')) =
    absurd (dead' (begins_with y q u (tokens_of bs) is' begins))
one_place bs a b (inr (at, begins, none)) (inr (at', begins', none')) = at ∙ sym at'

pub not_spelled : (bs : List ℕ) (n : ℕ) (d : Design) → GrammarFault bs n → Spells bs d → ⊥
not_spelled bs n d f s =
    elim f.at as (λ w. ⊥) [
      | inl (x, t, p, is, at, begins, dead) ↦ dead (begins_with x p t (tokens_of bs) is (record { design = d; rest = []; plain = plain_spelled bs d s; parts = append-nil (text_of (tokens_of bs)) ∙ s.tokens }))
      | inr (at, begins, none) ↦ none d (plain_spelled bs d s) s.tokens
    ]
