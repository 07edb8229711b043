-- Readers of expressions.
use Rattle.std.proofs.Common.{◌≡◌, ℕ, zero, suc, Bool, true, List, [], ◌∷◌, ◌++◌, Option, Some, None, refl, sym, ap, subst, ◌∙◌, append_assoc, arith, inl, inr}
use Rattle.std.specs.Prelude.{◌⊎◌, codes}
use Rattle.std.specs.List.{AllByRecursion}
use Rattle.vl_tree.specs.declared.tree.Const.{Const}
use Rattle.vl_tree.specs.declared.tree.Op.{Op}
use Rattle.vl_tree.specs.declared.tree.Op.TheVariants.{Add, Sub, And, Or, Xor, Equal, Less}
use Rattle.vl_tree.specs.Values.{Name, Expr, Exprs, net, number, bit, part, word, not, two, choose, cat, no_parts, parts}
use Rattle.vl_tree.specs.Tokens.{Token, mark, name, plain, sized, Placed, IsToken}
use Rattle.vl_tree.specs.Spells.{text_of}
use Rattle.vl_tree.specs.Grammar.{marks, each, op_mark, const_token, expr_tokens, more_tokens, Fits, AllFit}
use Rattle.vl_tree.specs.Reading.{Reader, one, both, made, either, nothing, deeper, until, phrase, closed, opened, is_mark, is_name_token, is_plain_token, is_sized_token, the_name, the_plain, the_sized, the_op, Pick, whole, at_bit, at_part, at_word, picked_of, pick_of, numbers_at, pick_at, Rest, with, which, rest_of, rest_at, group_at, parts_from, cat_at, level_at, expr_at}
use Rattle.vl_tree.proofs.Forms.{any, fails_at, Leads, leads_not, follow_not, IsForm, Example, s2, V2, s_until, V_until, made_form, either_form, nothing_form, none_form, narrow_form, until_form}
use Rattle.vl_tree.proofs.Single.{same_form, bytes_same, then_any, then_led, all_values, phrase_form, closed_form, opened_form, name_form, plain_form, sized_form, op_form}

-- behind an expression no bracket opens
abbrev pub after_expr : Token → Bool
after_expr = fails_at (is_mark (codes "["))

pub an_expr : (d : ℕ) → Example expr_tokens (Fits (suc d))
an_expr d = record { value = net (codes "a_0"); valid = tt; right = (refl, tt) }

-- ---- behind a name

-- behind the bracket
abbrev behind : Pick → List Token
behind whole = []
behind (at_bit i) = plain i ∷ marks (codes "]")
behind (at_part h l) = plain h ∷ (marks (codes ":") ++ (plain l ∷ marks (codes "]")))
behind (at_word e) = expr_tokens e ++ marks (codes "]")

abbrev IsNumbers : Pick → Type 0
IsNumbers whole = ⊥
IsNumbers (at_bit i) = Unit {0}
IsNumbers (at_part h l) = Unit {0}
IsNumbers (at_word e) = ⊥

abbrev IsWord : ℕ → Pick → Type 0
IsWord d whole = ⊥
IsWord d (at_bit i) = ⊥
IsWord d (at_part h l) = ⊥
IsWord d (at_word e) = Fits d e

abbrev IsIndex : ℕ → Pick → Type 0
IsIndex d whole = ⊥
IsIndex d (at_bit i) = Unit {0}
IsIndex d (at_part h l) = Unit {0}
IsIndex d (at_word e) = Fits d e

abbrev IsPick : ℕ → Pick → Type 0
IsPick d whole = Unit {0}
IsPick d (at_bit i) = Unit {0}
IsPick d (at_part h l) = Unit {0}
IsPick d (at_word e) = Fits d e

abbrev pick_tokens : Pick → List Token
pick_tokens whole = []
pick_tokens (at_bit i) = marks (codes "[") ++ behind (at_bit i)
pick_tokens (at_part h l) = marks (codes "[") ++ behind (at_part h l)
pick_tokens (at_word e) = marks (codes "[") ++ behind (at_word e)

abbrev ends_tokens : Option ℕ → List Token
ends_tokens None = marks (codes "]")
ends_tokens (Some l) = marks (codes ":") ++ (plain l ∷ marks (codes "]"))

abbrev HasEnd : Option ℕ → Type 0
HasEnd None = ⊥
HasEnd (Some l) = Unit {0}

abbrev HasNoEnd : Option ℕ → Type 0
HasNoEnd None = Unit {0}
HasNoEnd (Some l) = ⊥

ends_form : IsForm ends_tokens all_values any (either (is_mark (codes ":")) (made (λ l. Some l) (opened (codes ":") (closed (one the_plain) (codes "]")))) (made (λ u. None) (phrase (codes "]"))))
ends_form =
    either_form ends_tokens HasEnd HasNoEnd all_values (is_mark (codes ":")) any (made (λ l. Some l) (opened (codes ":") (closed (one the_plain) (codes "]")))) (made (λ u. None) (phrase (codes "]")))
    (λ x v. tt) (λ x v. tt) (λ x u. elim x as (λ o. HasEnd o ⊎ HasNoEnd o) [ None ↦ inr tt | Some l ↦ inl tt ])
    (λ x v. elim x as (λ o. HasEnd o → Leads (is_mark (codes ":")) (ends_tokens o)) [ None ↦ λ h. absurd h | Some l ↦ λ h. refl ] v)
    (λ x front r w e m. leads_not (is_mark (codes ":")) (ends_tokens x) front r (elim x as (λ o. HasNoEnd o → Leads (fails_at (is_mark (codes ":"))) (ends_tokens o)) [ None ↦ λ h. refl | Some l ↦ λ h. absurd h ] w) e)
    (made_form (λ l. marks (codes ":") ++ ((plain l ∷ []) ++ marks (codes "]"))) all_values ends_tokens HasEnd any (λ l. Some l) (opened (codes ":") (closed (one the_plain) (codes "]")))
    (λ x v. refl) (λ x v. tt) (λ y v. elim y as (λ o. HasEnd o → (l : ℕ) × Unit {0} × (Some l ≡ o)) [ None ↦ λ h. absurd h | Some l ↦ λ h. (l, tt, refl) ] v)
    (opened_form (codes ":") refl (record { value = 0; valid = tt; right = (omega arith, (tt, tt)) }) (closed_form (codes "]") refl refl plain_form)))
    (made_form (λ u. marks (codes "]")) all_values ends_tokens HasNoEnd any (λ (u : Unit {0}). None) (phrase (codes "]"))
    (λ x v. refl) (λ x v. tt) (λ y v. elim y as (λ o. HasNoEnd o → (u : Unit {0}) × Unit {0} × (None ≡ o)) [ None ↦ λ h. (tt, tt, refl) | Some l ↦ λ h. absurd h ] v)
    (phrase_form (codes "]") refl))

abbrev Numbers : Pick → Type 0
Numbers y = (x : ℕ × Option ℕ) × (Unit {0} × Unit {0}) × (pick_of x.0 x.1 ≡ y)

numbers_from : (y : Pick) → IsNumbers y → Numbers y
numbers_from whole v = absurd v
numbers_from (at_bit i) v = ((i, None), (tt, tt), refl)
numbers_from (at_part h l) v = ((h, Some l), (tt, tt), refl)
numbers_from (at_word e) v = absurd v

numbers_form : IsForm behind IsNumbers any numbers_at
unfolding numbers_at
numbers_form =
    made_form (s2 (λ i. plain i ∷ []) (λ i. ends_tokens)) (V2 all_values (λ i. all_values)) behind IsNumbers any (λ x. pick_of x.0 x.1) (both (one the_plain) (λ i. either (is_mark (codes ":")) (made (λ l. Some l) (opened (codes ":") (closed (one the_plain) (codes "]")))) (made (λ u. None) (phrase (codes "]")))))
    (λ x v. elim x.1 as (λ o. behind (pick_of x.0 o) ≡ plain x.0 ∷ ends_tokens o) [ None ↦ refl | Some l ↦ refl ])
    (λ x v. elim x.1 as (λ o. IsNumbers (pick_of x.0 o)) [ None ↦ tt | Some l ↦ tt ])
    numbers_from
    (then_any plain_form (λ i. ends_form) (λ i v r. record { value = None; valid = tt; right = (tt, tt) }))

-- what the tests say of the first token
numbers_lead : (x : Pick) → IsNumbers x → Leads is_plain_token (behind x)
numbers_lead whole v = absurd v
numbers_lead (at_bit i) v = refl
numbers_lead (at_part h l) v = refl
numbers_lead (at_word e) v = absurd v

expr_leads_not_plain : (e : Expr) (a : List Token) → Leads (fails_at is_plain_token) (expr_tokens e ++ a)
expr_leads_not_plain (net n) a = refl
expr_leads_not_plain (number k) a = refl
expr_leads_not_plain (bit n i) a = refl
expr_leads_not_plain (part n h l) a = refl
expr_leads_not_plain (word n e) a = refl
expr_leads_not_plain (not e) a = refl
expr_leads_not_plain (two op x y) a = refl
expr_leads_not_plain (choose c x y) a = refl
expr_leads_not_plain (cat no_parts) a = refl
expr_leads_not_plain (cat (parts e es)) a = refl

word_lead : (d : ℕ) (x : Pick) → IsWord d x → Leads (fails_at is_plain_token) (behind x)
word_lead d whole v = absurd v
word_lead d (at_bit i) v = absurd v
word_lead d (at_part h l) v = absurd v
word_lead d (at_word e) v = expr_leads_not_plain e (marks (codes "]"))

index_split : (d : ℕ) (x : Pick) → IsIndex d x → IsNumbers x ⊎ IsWord d x
index_split d whole v = absurd v
index_split d (at_bit i) v = inl tt
index_split d (at_part h l) v = inl tt
index_split d (at_word e) v = inr v

index_numbers : (d : ℕ) (x : Pick) → IsNumbers x → IsIndex d x
index_numbers d whole v = absurd v
index_numbers d (at_bit i) v = tt
index_numbers d (at_part h l) v = tt
index_numbers d (at_word e) v = absurd v

index_word : (d : ℕ) (x : Pick) → IsWord d x → IsIndex d x
index_word d whole v = absurd v
index_word d (at_bit i) v = absurd v
index_word d (at_part h l) v = absurd v
index_word d (at_word e) v = v

word_from : (d : ℕ) (y : Pick) → IsWord d y → (e : Expr) × Fits d e × (at_word e ≡ y)
word_from d whole v = absurd v
word_from d (at_bit i) v = absurd v
word_from d (at_part h l) v = absurd v
word_from d (at_word e) v = (e, v, refl)

no_word : (x : Pick) → IsWord zero x → ⊥
no_word whole v = v
no_word (at_bit i) v = v
no_word (at_part h l) v = v
no_word (at_word e) v = v

word_form : (d : ℕ) (below : Reader Expr) → IsForm expr_tokens (Fits d) after_expr below
    → IsForm behind (IsWord d) any (deeper d (made at_word (closed below (codes "]"))))
word_form zero below held =
    same_form behind (IsWord zero) (λ x v. refl) (λ x v. absurd v) no_word (none_form behind any)
word_form (suc d) below held =
    made_form (λ e. expr_tokens e ++ marks (codes "]")) (Fits (suc d)) behind (IsWord (suc d)) any at_word (closed below (codes "]")) (λ x v. refl) (λ x v. v) (word_from (suc d)) (closed_form (codes "]") refl refl held)

index_form : (d : ℕ) (below : Reader Expr) → IsForm expr_tokens (Fits d) after_expr below
    → IsForm behind (IsIndex d) any (either is_plain_token numbers_at (deeper d (made at_word (closed below (codes "]")))))
index_form d below held =
    either_form behind IsNumbers (IsWord d) (IsIndex d) is_plain_token any numbers_at (deeper d (made at_word (closed below (codes "]"))))
    (index_numbers d) (index_word d) (index_split d) numbers_lead (λ x front r w e m. leads_not is_plain_token (behind x) front r (word_lead d x w) e)
    numbers_form (word_form d below held)

index_spelled : (d : ℕ) (x : Pick) → IsIndex d x → pick_tokens x ≡ marks (codes "[") ++ behind x
index_spelled d whole v = absurd v
index_spelled d (at_bit i) v = refl
index_spelled d (at_part h l) v = refl
index_spelled d (at_word e) v = refl

index_leads : (d : ℕ) (x : Pick) → IsIndex d x → Leads (is_mark (codes "[")) (pick_tokens x)
index_leads d whole v = absurd v
index_leads d (at_bit i) v = refl
index_leads d (at_part h l) v = refl
index_leads d (at_word e) v = refl

pick_index : (d : ℕ) (x : Pick) → IsIndex d x → IsPick d x
pick_index d whole v = absurd v
pick_index d (at_bit i) v = tt
pick_index d (at_part h l) v = tt
pick_index d (at_word e) v = v

pick_split : (d : ℕ) (x : Pick) → IsPick d x → IsIndex d x ⊎ (x ≡ whole)
pick_split d whole v = inr refl
pick_split d (at_bit i) v = inl tt
pick_split d (at_part h l) v = inl tt
pick_split d (at_word e) v = inl v

no_front : (front r : List Placed) → text_of front ≡ [] → front ++ r ≡ r
no_front [] r e = refl
no_front (t ∷ front) r e = absurd cc

pick_form : (d : ℕ) (below : Reader Expr) → IsForm expr_tokens (Fits d) after_expr below
    → IsForm pick_tokens (IsPick d) after_expr (pick_at d below)
unfolding pick_at
pick_form d below held =
    either_form pick_tokens (IsIndex d) (λ x. x ≡ whole) (IsPick d) (is_mark (codes "[")) after_expr (opened (codes "[") (either is_plain_token numbers_at (deeper d (made at_word (closed below (codes "]")))))) (nothing whole)
    (pick_index d) (λ x w. subst (IsPick d) (sym w) tt) (pick_split d) (index_leads d)
    (λ x front r w e m. rw (no_front front r (e ∙ ap pick_tokens w)) (follow_not (is_mark (codes "[")) r m))
    (narrow_form pick_tokens (IsIndex d) after_expr (opened (codes "[") (either is_plain_token numbers_at (deeper d (made at_word (closed below (codes "]"))))))
    (same_form pick_tokens (IsIndex d) (index_spelled d) (λ x v. v) (λ x v. v)
    (opened_form (codes "[") refl (record { value = at_bit 0; valid = tt; right = (omega arith, (tt, tt)) }) (index_form d below held))))
    (nothing_form pick_tokens after_expr whole refl)

-- ---- names and constants

abbrev IsNamed : ℕ → Expr → Type 0
IsNamed d (net n) = Unit {0}
IsNamed d (bit n i) = Unit {0}
IsNamed d (part n h l) = Unit {0}
IsNamed d (word n e) = Fits d e
IsNamed d _ = ⊥

abbrev IsConst : Expr → Type 0
IsConst (number k) = Unit {0}
IsConst _ = ⊥

abbrev IsDeep : ℕ → Expr → Type 0
IsDeep d (not e) = Fits d e
IsDeep d (two op a b) = Fits d a × Fits d b
IsDeep d (choose c a b) = Fits d c × Fits d a × Fits d b
IsDeep d (cat (parts e es)) = Fits d e × AllFit d es
IsDeep d _ = ⊥

abbrev IsFlat : ℕ → Expr → Type 0
IsFlat d (number k) = Unit {0}
IsFlat d (not e) = Fits d e
IsFlat d (two op a b) = Fits d a × Fits d b
IsFlat d (choose c a b) = Fits d c × Fits d a × Fits d b
IsFlat d (cat (parts e es)) = Fits d e × AllFit d es
IsFlat d _ = ⊥

abbrev Named : ℕ → Expr → Type 0
Named d y = (x : Name × Pick) × (Unit {0} × IsPick d x.1) × (picked_of x.0 x.1 ≡ y)

named_from : (d : ℕ) (y : Expr) → IsNamed d y → Named d y
named_from d (net n) v = ((n, whole), (tt, tt), refl)
named_from d (bit n i) v = ((n, at_bit i), (tt, tt), refl)
named_from d (part n h l) v = ((n, at_part h l), (tt, tt), refl)
named_from d (word n e) v = ((n, at_word e), (tt, v), refl)
named_from d _ v = absurd v

picked_spelled : (d : ℕ) (n : Name) (k : Pick) → IsPick d k → expr_tokens (picked_of n k) ≡ name n ∷ pick_tokens k
picked_spelled d n whole v = refl
picked_spelled d n (at_bit i) v = refl
picked_spelled d n (at_part h l) v = refl
picked_spelled d n (at_word e) v = refl

picked_named : (d : ℕ) (n : Name) (k : Pick) → IsPick d k → IsNamed d (picked_of n k)
picked_named d n whole v = tt
picked_named d n (at_bit i) v = tt
picked_named d n (at_part h l) v = tt
picked_named d n (at_word e) v = v

named_form : (d : ℕ) (below : Reader Expr) → IsForm expr_tokens (Fits d) after_expr below
    → IsForm expr_tokens (IsNamed d) after_expr (made (λ x. picked_of x.0 x.1) (both (one the_name) (λ n. pick_at d below)))
named_form d below held =
    made_form (s2 (λ n. name n ∷ []) (λ n. pick_tokens)) (V2 all_values (λ n. IsPick d)) expr_tokens (IsNamed d) after_expr (λ x. picked_of x.0 x.1) (both (one the_name) (λ n. pick_at d below))
    (λ x v. picked_spelled d x.0 x.1 v.1) (λ x v. picked_named d x.0 x.1 v.1) (named_from d)
    (then_any name_form (λ n. pick_form d below held) (λ n v r. record { value = whole; valid = tt; right = tt }))

const_from : (y : Expr) → IsConst y → (k : Const) × Unit {0} × (number k ≡ y)
const_from (number k) v = (k, tt, refl)
const_from _ v = absurd v

const_form : IsForm expr_tokens IsConst after_expr (made number (one the_sized))
const_form = narrow_form expr_tokens IsConst after_expr (made number (one the_sized))
    (made_form (λ k. const_token k ∷ []) all_values expr_tokens IsConst any number (one the_sized) (λ x v. refl) (λ x v. tt) const_from sized_form)

-- ---- in parentheses

abbrev rest_tokens : Rest → List Token
rest_tokens (with op b) = op_mark op ∷ expr_tokens b
rest_tokens (which b c) = marks (codes "?") ++ (expr_tokens b ++ (marks (codes ":") ++ expr_tokens c))

abbrev IsWith : ℕ → Rest → Type 0
IsWith d (with op b) = Fits d b
IsWith d (which b c) = ⊥

abbrev IsWhich : ℕ → Rest → Type 0
IsWhich d (with op b) = ⊥
IsWhich d (which b c) = Fits d b × Fits d c

abbrev IsRest : ℕ → Rest → Type 0
IsRest d (with op b) = Fits d b
IsRest d (which b c) = Fits d b × Fits d c

rest_split : (d : ℕ) (x : Rest) → IsRest d x → IsWhich d x ⊎ IsWith d x
rest_split d (with op b) v = inr v
rest_split d (which b c) v = inl v

with_rest : (d : ℕ) (x : Rest) → IsWith d x → IsRest d x
with_rest d (with op b) v = v
with_rest d (which b c) v = absurd v

which_rest : (d : ℕ) (x : Rest) → IsWhich d x → IsRest d x
which_rest d (with op b) v = absurd v
which_rest d (which b c) v = v

which_leads : (d : ℕ) (x : Rest) → IsWhich d x → Leads (is_mark (codes "?")) (rest_tokens x)
which_leads d (with op b) v = absurd v
which_leads d (which b c) v = refl

op_not_mark : (op : Op) (a : List Token) → Leads (fails_at (is_mark (codes "?"))) (op_mark op ∷ a)
op_not_mark Add a = refl
op_not_mark Sub a = refl
op_not_mark And a = refl
op_not_mark Or a = refl
op_not_mark Xor a = refl
op_not_mark Equal a = refl
op_not_mark Less a = refl

with_leads : (d : ℕ) (x : Rest) → IsWith d x → Leads (fails_at (is_mark (codes "?"))) (rest_tokens x)
with_leads d (with op b) v = op_not_mark op (expr_tokens b)
with_leads d (which b c) v = absurd v

op_after : (op : Op) (a : List Token) → Leads after_expr (op_mark op ∷ a)
op_after Add a = refl
op_after Sub a = refl
op_after And a = refl
op_after Or a = refl
op_after Xor a = refl
op_after Equal a = refl
op_after Less a = refl

rest_after : (d : ℕ) (x : Rest) → IsRest d x → Leads after_expr (rest_tokens x)
rest_after d (with op b) v = op_after op (expr_tokens b)
rest_after d (which b c) v = refl

with_from : (d : ℕ) (y : Rest) → IsWith d y → (x : Op × Expr) × (Unit {0} × Fits d x.1) × (with x.0 x.1 ≡ y)
with_from d (with op b) v = ((op, b), (tt, v), refl)
with_from d (which b c) v = absurd v

which_from : (d : ℕ) (y : Rest) → IsWhich d y → (x : Expr × Expr) × (Fits d x.0 × Fits d x.1) × (which x.0 x.1 ≡ y)
which_from d (with op b) v = absurd v
which_from d (which b c) v = ((b, c), (v.0, v.1), refl)

op_right : (op : Op) → IsToken (op_mark op)
op_right Add = tt
op_right Sub = tt
op_right And = tt
op_right Or = tt
op_right Xor = tt
op_right Equal = tt
op_right Less = tt

rest_form : (d : ℕ) (below : Reader Expr) → IsForm expr_tokens (Fits (suc d)) after_expr below
    → IsForm rest_tokens (IsRest (suc d)) after_expr (rest_at below)
unfolding rest_at
rest_form d below held =
    either_form rest_tokens (IsWhich (suc d)) (IsWith (suc d)) (IsRest (suc d)) (is_mark (codes "?")) after_expr (made (λ x. which x.0 x.1) (both (opened (codes "?") below) (λ b. opened (codes ":") below))) (made (λ x. with x.0 x.1) (both (one the_op) (λ op. below)))
    (which_rest (suc d)) (with_rest (suc d)) (rest_split (suc d)) (which_leads (suc d)) (λ x front r w e m. leads_not (is_mark (codes "?")) (rest_tokens x) front r (with_leads (suc d) x w) e)
    (made_form (s2 (λ b. marks (codes "?") ++ expr_tokens b) (λ b c. marks (codes ":") ++ expr_tokens c)) (V2 (Fits (suc d)) (λ b. Fits (suc d))) rest_tokens (IsWhich (suc d)) after_expr (λ x. which x.0 x.1) (both (opened (codes "?") below) (λ b. opened (codes ":") below))
    (λ x v. sym (append_assoc (marks (codes "?")) (expr_tokens x.0) (marks (codes ":") ++ expr_tokens x.1))) (λ x v. v) (which_from (suc d))
    (then_led (opened_form (codes "?") refl (an_expr d) held) (λ b. opened_form (codes ":") refl (an_expr d) held) (λ b v r. record { value = net (codes "a_0"); valid = tt; right = (tt, (refl, tt)) }) (λ b c v w. refl)))
    (made_form (s2 (λ op. op_mark op ∷ []) (λ op. expr_tokens)) (V2 all_values (λ op. Fits (suc d))) rest_tokens (IsWith (suc d)) after_expr (λ x. with x.0 x.1) (both (one the_op) (λ op. below))
    (λ x v. refl) (λ x v. v.1) (with_from (suc d))
    (then_any op_form (λ op. held) (λ op v r. an_expr d)))

-- what stands between the parentheses
abbrev within_tokens : Expr → List Token
within_tokens (not e) = marks (codes "~") ++ expr_tokens e
within_tokens (two op a b) = expr_tokens a ++ rest_tokens (with op b)
within_tokens (choose c a b) = expr_tokens c ++ rest_tokens (which a b)
within_tokens _ = []

abbrev IsNot : ℕ → Expr → Type 0
IsNot d (not e) = Fits d e
IsNot d _ = ⊥

abbrev IsTwo : ℕ → Expr → Type 0
IsTwo d (two op a b) = Fits d a × Fits d b
IsTwo d (choose c a b) = Fits d c × Fits d a × Fits d b
IsTwo d _ = ⊥

abbrev IsGroup : ℕ → Expr → Type 0
IsGroup d (not e) = Fits d e
IsGroup d (two op a b) = Fits d a × Fits d b
IsGroup d (choose c a b) = Fits d c × Fits d a × Fits d b
IsGroup d _ = ⊥

not_from : (d : ℕ) (y : Expr) → IsNot d y → (e : Expr) × Fits d e × (not e ≡ y)
not_from d (not e) v = (e, v, refl)
not_from d _ v = absurd v

two_from : (d : ℕ) (y : Expr) → IsTwo d y → (x : Expr × Rest) × (Fits d x.0 × IsRest d x.1) × (rest_of x.0 x.1 ≡ y)
two_from d (two op a b) v = ((a, with op b), (v.0, v.1), refl)
two_from d (choose c a b) v = ((c, which a b), (v.0, (v.1, v.2)), refl)
two_from d _ v = absurd v

two_spelled : (d : ℕ) (a : Expr) (k : Rest) → within_tokens (rest_of a k) ≡ expr_tokens a ++ rest_tokens k
two_spelled d a (with op b) = refl
two_spelled d a (which b c) = refl

two_valid : (d : ℕ) (a : Expr) (k : Rest) → Fits d a → IsRest d k → IsTwo d (rest_of a k)
two_valid d a (with op b) v w = (v, w)
two_valid d a (which b c) v w = (v, w.0, w.1)

not_group : (d : ℕ) (x : Expr) → IsNot d x → IsGroup d x
not_group d (not e) v = v
not_group d _ v = absurd v

two_group : (d : ℕ) (x : Expr) → IsTwo d x → IsGroup d x
two_group d (two op a b) v = v
two_group d (choose c a b) v = v
two_group d _ v = absurd v

group_split : (d : ℕ) (x : Expr) → IsGroup d x → IsNot d x ⊎ IsTwo d x
group_split d (not e) v = inl v
group_split d (two op a b) v = inr v
group_split d (choose c a b) v = inr v
group_split d _ v = absurd v

not_leads : (d : ℕ) (x : Expr) → IsNot d x → Leads (is_mark (codes "~")) (within_tokens x)
not_leads d (not e) v = refl
not_leads d _ v = absurd v

expr_leads : (e : Expr) (a : List Token) → Leads (fails_at (is_mark (codes "~"))) (expr_tokens e ++ a)
expr_leads (net n) a = refl
expr_leads (number k) a = refl
expr_leads (bit n i) a = refl
expr_leads (part n h l) a = refl
expr_leads (word n e) a = refl
expr_leads (not e) a = refl
expr_leads (two op x y) a = refl
expr_leads (choose c x y) a = refl
expr_leads (cat no_parts) a = refl
expr_leads (cat (parts e es)) a = refl

two_leads : (d : ℕ) (x : Expr) → IsTwo d x → Leads (fails_at (is_mark (codes "~"))) (within_tokens x)
two_leads d (two op a b) v = expr_leads a (rest_tokens (with op b))
two_leads d (choose c a b) v = expr_leads c (rest_tokens (which a b))
two_leads d _ v = absurd v

within_form : (d : ℕ) (below : Reader Expr) → IsForm expr_tokens (Fits (suc d)) after_expr below
    → IsForm within_tokens (IsGroup (suc d)) after_expr (either (is_mark (codes "~")) (made not (opened (codes "~") below)) (made (λ x. rest_of x.0 x.1) (both below (λ a. rest_at below))))
within_form d below held =
    either_form within_tokens (IsNot (suc d)) (IsTwo (suc d)) (IsGroup (suc d)) (is_mark (codes "~")) after_expr (made not (opened (codes "~") below)) (made (λ x. rest_of x.0 x.1) (both below (λ a. rest_at below)))
    (not_group (suc d)) (two_group (suc d)) (group_split (suc d)) (not_leads (suc d)) (λ x front r w e m. leads_not (is_mark (codes "~")) (within_tokens x) front r (two_leads (suc d) x w) e)
    (made_form (λ e. marks (codes "~") ++ expr_tokens e) (Fits (suc d)) within_tokens (IsNot (suc d)) after_expr not (opened (codes "~") below) (λ x v. refl) (λ x v. v) (not_from (suc d)) (opened_form (codes "~") refl (an_expr d) held))
    (made_form (s2 expr_tokens (λ a. rest_tokens)) (V2 (Fits (suc d)) (λ a. IsRest (suc d))) within_tokens (IsTwo (suc d)) after_expr (λ x. rest_of x.0 x.1) (both below (λ a. rest_at below))
    (λ x v. two_spelled (suc d) x.0 x.1) (λ x v. two_valid (suc d) x.0 x.1 v.0 v.1) (two_from (suc d))
    (then_led held (λ a. rest_form d below held) (λ a v r. record { value = with Add (net (codes "a_0")); valid = tt; right = (tt, (refl, tt)) }) (λ a k v w. rest_after (suc d) k w)))

group_spelled : (d : ℕ) (x : Expr) → IsGroup d x
    → expr_tokens x ≡ marks (codes "(") ++ (within_tokens x ++ marks (codes ")"))
group_spelled d (not e) v = refl
group_spelled d (two op a b) v =
    ap (λ ts. mark (codes "(") ∷ ts) (sym (append_assoc (expr_tokens a) (op_mark op ∷ expr_tokens b) (marks (codes ")"))))
group_spelled d (choose c a b) v = ap (λ ts. mark (codes "(") ∷ ts) (simp append_assoc)
group_spelled d _ v = absurd v

group_form : (d : ℕ) (below : Reader Expr) → IsForm expr_tokens (Fits (suc d)) after_expr below
    → IsForm expr_tokens (IsGroup (suc d)) any (group_at below)
unfolding group_at
group_form d below held =
    same_form expr_tokens (IsGroup (suc d)) (group_spelled (suc d)) (λ x v. v) (λ x v. v)
    (opened_form (codes "(") refl (record { value = not (net (codes "a_0")); valid = tt; right = (tt, (refl, (tt, tt))) }) (closed_form (codes ")") refl refl (within_form d below held)))

-- ---- in braces

each_more : (es : List Expr)
    → more_tokens (parts_from es) ≡ each (λ e. marks (codes ",") ++ expr_tokens e) es ++ marks (codes "}")
each_more [] = refl
each_more (e ∷ es) =
    ap (λ ts. mark (codes ",") ∷ (expr_tokens e ++ ts)) (each_more es)
    ∙ ap (λ ts. mark (codes ",") ∷ ts) (sym (append_assoc (expr_tokens e) (each (λ e. marks (codes ",") ++ expr_tokens e) es) (marks (codes "}"))))

list_of : Exprs → List Expr
list_of no_parts = []
list_of (parts e es) = e ∷ list_of es

list_back : (es : Exprs) → parts_from (list_of es) ≡ es
unfolding list_of
list_back no_parts = refl
list_back (parts e es) = ap (parts e) (list_back es)

all_fit : (d : ℕ) (es : List Expr) → AllByRecursion (Fits d) es → AllFit d (parts_from es)
all_fit d [] v = tt
all_fit d (e ∷ es) v = (v.0, all_fit d es v.1)

fit_all : (d : ℕ) (es : Exprs) → AllFit d es → AllByRecursion (Fits d) (list_of es)
unfolding list_of
fit_all d no_parts v = tt
fit_all d (parts e es) v = (v.0, fit_all d es v.1)

abbrev IsCat : ℕ → Expr → Type 0
IsCat d (cat (parts e es)) = Fits d e × AllFit d es
IsCat d _ = ⊥

abbrev CatOf : Type 0
CatOf = Expr × (List Expr × Unit {0})

abbrev cat_of : CatOf → Expr
cat_of x = cat (parts x.0 (parts_from x.1.0))

cat_from : (d : ℕ) (y : Expr) → IsCat d y
    → (x : CatOf) × (Fits d x.0 × (AllByRecursion (Fits d) x.1.0 × Unit {0})) × (cat_of x ≡ y)
cat_from d (cat (parts e es)) v =
    ((e, (list_of es, tt)), (v.0, (fit_all d es v.1, tt)), ap (λ us. cat (parts e us)) (list_back es))
cat_from d _ v = absurd v

comma_after : (k : Token) → is_mark (codes ",") k ≡ true → after_expr k ≡ true
comma_after (mark m) e = let h : m ≡ codes "," = bytes_same m (codes ",") e in rw h refl
comma_after (name n) e = absurd cc
comma_after (plain v) e = absurd cc
comma_after (sized w v) e = absurd cc

more_after : (es : List Expr) (u : Unit {0})
    → Leads after_expr (each (λ e. marks (codes ",") ++ expr_tokens e) es ++ marks (codes "}"))
more_after [] u = refl
more_after (e ∷ es) u = refl

-- behind the brace
abbrev cat_tokens : Expr → List Token
cat_tokens (cat (parts e es)) = expr_tokens e ++ more_tokens es
cat_tokens _ = []

cat_spelled : (d : ℕ) (x : Expr) → IsCat d x → expr_tokens x ≡ marks (codes "{") ++ cat_tokens x
cat_spelled d (cat (parts e es)) v = refl
cat_spelled d _ v = absurd v

cat_form : (d : ℕ) (below : Reader Expr) → IsForm expr_tokens (Fits (suc d)) after_expr below
    → IsForm expr_tokens (IsCat (suc d)) any (cat_at below)
unfolding cat_at
cat_form d below held =
    same_form expr_tokens (IsCat (suc d)) (cat_spelled (suc d)) (λ x v. v) (λ x v. v)
    (opened_form (codes "{") refl (record { value = cat (parts (net (codes "a_0")) no_parts); valid = (tt, tt); right = (refl, (tt, tt)) })
    (made_form (s2 expr_tokens (λ e. s_until (λ e. marks (codes ",") ++ expr_tokens e) (λ (u : Unit {0}). marks (codes "}")))) (V2 (Fits (suc d)) (λ e. V_until (Fits (suc d)) all_values)) cat_tokens (IsCat (suc d)) any cat_of
    (both below (λ e. until (is_mark (codes ",")) (opened (codes ",") below) (phrase (codes "}"))))
    (λ x v. ap (λ ts. expr_tokens x.0 ++ ts) (each_more x.1.0)) (λ x v. (v.0, all_fit (suc d) x.1.0 v.1.0)) (cat_from (suc d))
    (then_led held
    (λ e. until_form (λ e. marks (codes ",") ++ expr_tokens e) (Fits (suc d)) (λ (u : Unit {0}). marks (codes "}")) all_values (is_mark (codes ",")) after_expr any (opened (codes ",") below) (phrase (codes "}"))
    (λ x v. refl) (λ u v. refl) (λ u v. refl) comma_after (record { value = tt; valid = tt; right = (tt, tt) }) (opened_form (codes ",") refl (an_expr d) held) (phrase_form (codes "}") refl))
    (λ e v r. record { value = ([], tt); valid = (tt, tt); right = (tt, tt) })
    (λ e x v w. more_after x.0 x.1))))

-- ---- one level, and all

flat_split : (d : ℕ) (x : Expr) → IsFlat d x → IsConst x ⊎ IsDeep d x
flat_split d (number k) v = inl tt
flat_split d (not e) v = inr v
flat_split d (two op a b) v = inr v
flat_split d (choose c a b) v = inr v
flat_split d (cat (parts e es)) v = inr v
flat_split d (cat no_parts) v = absurd v
flat_split d (net n) v = absurd v
flat_split d (bit n i) v = absurd v
flat_split d (part n h l) v = absurd v
flat_split d (word n e) v = absurd v

const_flat : (d : ℕ) (x : Expr) → IsConst x → IsFlat d x
const_flat d (number k) v = tt
const_flat d _ v = absurd v

deep_flat : (d : ℕ) (x : Expr) → IsDeep d x → IsFlat d x
deep_flat d (not e) v = v
deep_flat d (two op a b) v = v
deep_flat d (choose c a b) v = v
deep_flat d (cat (parts e es)) v = v
deep_flat d (cat no_parts) v = absurd v
deep_flat d (net n) v = absurd v
deep_flat d (number k) v = absurd v
deep_flat d (bit n i) v = absurd v
deep_flat d (part n h l) v = absurd v
deep_flat d (word n e) v = absurd v

const_leads : (x : Expr) → IsConst x → Leads is_sized_token (expr_tokens x)
const_leads (number k) v = refl
const_leads _ v = absurd v

deep_leads : (d : ℕ) (x : Expr) → IsDeep d x → Leads (fails_at is_sized_token) (expr_tokens x)
deep_leads d (not e) v = refl
deep_leads d (two op a b) v = refl
deep_leads d (choose c a b) v = refl
deep_leads d (cat (parts e es)) v = refl
deep_leads d (cat no_parts) v = absurd v
deep_leads d (net n) v = absurd v
deep_leads d (number k) v = absurd v
deep_leads d (bit n i) v = absurd v
deep_leads d (part n h l) v = absurd v
deep_leads d (word n e) v = absurd v

deep_split : (d : ℕ) (x : Expr) → IsDeep d x → IsGroup d x ⊎ IsCat d x
deep_split d (not e) v = inl v
deep_split d (two op a b) v = inl v
deep_split d (choose c a b) v = inl v
deep_split d (cat (parts e es)) v = inr v
deep_split d (cat no_parts) v = absurd v
deep_split d (net n) v = absurd v
deep_split d (number k) v = absurd v
deep_split d (bit n i) v = absurd v
deep_split d (part n h l) v = absurd v
deep_split d (word n e) v = absurd v

group_deep : (d : ℕ) (x : Expr) → IsGroup d x → IsDeep d x
group_deep d (not e) v = v
group_deep d (two op a b) v = v
group_deep d (choose c a b) v = v
group_deep d _ v = absurd v

cat_deep : (d : ℕ) (x : Expr) → IsCat d x → IsDeep d x
cat_deep d (cat (parts e es)) v = v
cat_deep d _ v = absurd v

group_leads : (d : ℕ) (x : Expr) → IsGroup d x → Leads (is_mark (codes "(")) (expr_tokens x)
group_leads d (not e) v = refl
group_leads d (two op a b) v = refl
group_leads d (choose c a b) v = refl
group_leads d _ v = absurd v

cat_leads : (d : ℕ) (x : Expr) → IsCat d x → Leads (fails_at (is_mark (codes "("))) (expr_tokens x)
cat_leads d (cat (parts e es)) v = refl
cat_leads d _ v = absurd v

no_deep : (x : Expr) → IsDeep zero x → ⊥
no_deep (not e) v = v
no_deep (two op a b) v = v.0
no_deep (choose c a b) v = v.0
no_deep (cat (parts e es)) v = v.0
no_deep (cat no_parts) v = v
no_deep (net n) v = v
no_deep (number k) v = v
no_deep (bit n i) v = v
no_deep (part n h l) v = v
no_deep (word n e) v = v

deep_form : (d : ℕ) (below : Reader Expr) → IsForm expr_tokens (Fits d) after_expr below
    → IsForm expr_tokens (IsDeep d) after_expr (deeper d (either (is_mark (codes "(")) (group_at below) (cat_at below)))
deep_form zero below held =
    same_form expr_tokens (IsDeep zero) (λ x v. refl) (λ x v. absurd v) no_deep (none_form expr_tokens after_expr)
deep_form (suc d) below held =
    either_form expr_tokens (IsGroup (suc d)) (IsCat (suc d)) (IsDeep (suc d)) (is_mark (codes "(")) after_expr (group_at below) (cat_at below)
    (group_deep (suc d)) (cat_deep (suc d)) (deep_split (suc d)) (group_leads (suc d)) (λ x front r w e m. leads_not (is_mark (codes "(")) (expr_tokens x) front r (cat_leads (suc d) x w) e)
    (narrow_form expr_tokens (IsGroup (suc d)) after_expr (group_at below) (group_form d below held))
    (narrow_form expr_tokens (IsCat (suc d)) after_expr (cat_at below) (cat_form d below held))

flat_form : (d : ℕ) (below : Reader Expr) → IsForm expr_tokens (Fits d) after_expr below
    → IsForm expr_tokens (IsFlat d) after_expr (either is_sized_token (made number (one the_sized)) (deeper d (either (is_mark (codes "(")) (group_at below) (cat_at below))))
flat_form d below held =
    either_form expr_tokens IsConst (IsDeep d) (IsFlat d) is_sized_token after_expr (made number (one the_sized)) (deeper d (either (is_mark (codes "(")) (group_at below) (cat_at below)))
    (const_flat d) (deep_flat d) (flat_split d) const_leads (λ x front r w e m. leads_not is_sized_token (expr_tokens x) front r (deep_leads d x w) e)
    const_form (deep_form d below held)

named_fits : (d : ℕ) (x : Expr) → IsNamed d x → Fits (suc d) x
named_fits d (net n) v = tt
named_fits d (bit n i) v = tt
named_fits d (part n h l) v = tt
named_fits d (word n e) v = v
named_fits d (number k) v = absurd v
named_fits d (not e) v = absurd v
named_fits d (two op a b) v = absurd v
named_fits d (choose c a b) v = absurd v
named_fits d (cat es) v = absurd v

flat_fits : (d : ℕ) (x : Expr) → IsFlat d x → Fits (suc d) x
flat_fits d (number k) v = tt
flat_fits d (not e) v = v
flat_fits d (two op a b) v = v
flat_fits d (choose c a b) v = v
flat_fits d (cat (parts e es)) v = v
flat_fits d (cat no_parts) v = absurd v
flat_fits d (net n) v = absurd v
flat_fits d (bit n i) v = absurd v
flat_fits d (part n h l) v = absurd v
flat_fits d (word n e) v = absurd v

fits_split : (d : ℕ) (x : Expr) → Fits (suc d) x → IsNamed d x ⊎ IsFlat d x
fits_split d (net n) v = inl tt
fits_split d (bit n i) v = inl tt
fits_split d (part n h l) v = inl tt
fits_split d (word n e) v = inl v
fits_split d (number k) v = inr tt
fits_split d (not e) v = inr v
fits_split d (two op a b) v = inr v
fits_split d (choose c a b) v = inr v
fits_split d (cat (parts e es)) v = inr v
fits_split d (cat no_parts) v = absurd v

named_leads : (d : ℕ) (x : Expr) → IsNamed d x → Leads is_name_token (expr_tokens x)
named_leads d (net n) v = refl
named_leads d (bit n i) v = refl
named_leads d (part n h l) v = refl
named_leads d (word n e) v = refl
named_leads d (number k) v = absurd v
named_leads d (not e) v = absurd v
named_leads d (two op a b) v = absurd v
named_leads d (choose c a b) v = absurd v
named_leads d (cat es) v = absurd v

flat_leads : (d : ℕ) (x : Expr) → IsFlat d x → Leads (fails_at is_name_token) (expr_tokens x)
flat_leads d (number k) v = refl
flat_leads d (not e) v = refl
flat_leads d (two op a b) v = refl
flat_leads d (choose c a b) v = refl
flat_leads d (cat (parts e es)) v = refl
flat_leads d (cat no_parts) v = absurd v
flat_leads d (net n) v = absurd v
flat_leads d (bit n i) v = absurd v
flat_leads d (part n h l) v = absurd v
flat_leads d (word n e) v = absurd v

level_form : (d : ℕ) (below : Reader Expr) → IsForm expr_tokens (Fits d) after_expr below
    → IsForm expr_tokens (Fits (suc d)) after_expr (level_at d below)
unfolding level_at
level_form d below held =
    either_form expr_tokens (IsNamed d) (IsFlat d) (Fits (suc d)) is_name_token after_expr (made (λ x. picked_of x.0 x.1) (both (one the_name) (λ n. pick_at d below)))
    (either is_sized_token (made number (one the_sized)) (deeper d (either (is_mark (codes "(")) (group_at below) (cat_at below))))
    (named_fits d) (flat_fits d) (fits_split d) (named_leads d) (λ x front r w e m. leads_not is_name_token (expr_tokens x) front r (flat_leads d x w) e)
    (named_form d below held) (flat_form d below held)

pub expr_form : (d : ℕ) → IsForm expr_tokens (Fits d) after_expr (expr_at d)
unfolding expr_at
expr_form zero =
    same_form expr_tokens (Fits zero) (λ x v. refl) (λ x v. v) (λ x v. v) (none_form expr_tokens after_expr)
expr_form (suc d) = level_form d (expr_at d) (expr_form d)
