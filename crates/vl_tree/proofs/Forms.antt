-- What a reader takes is spelled so, what is spelled so is taken, and where it stops nothing goes on: how these laws are put together.
use Rattle.std.proofs.Common.{◌≡◌, ℕ, zero, suc, ◌<◌, Bool, true, false, List, [], ◌∷◌, ◌++◌, length, map, Option, Some, None, Result, Ok, Err, refl, sym, ap, subst, ◌∙◌, append_assoc, arith, inl, inr}
use Rattle.std.specs.Prelude.{◌⊎◌, ◌&&◌, not, cond}
use Rattle.std.specs.List.{AllByRecursion}
use Rattle.std.proofs.lemmas.List.{length-append}
use Rattle.vl_tree.specs.Tokens.{Token, mark, Placed, AreTokens, Holds, is_mark_text}
use Rattle.vl_tree.specs.Grammar.{each}
use Rattle.vl_tree.specs.Spells.{text_of}
use Rattle.vl_tree.specs.Reading.{Reader, left_of, picked, one, paired, continued, both, made_of, made, next_passes, either, nothing, none, until_within, until}

-- ---- lists of tokens

-- the same next token, or none
abbrev pub Alike : List Placed → List Placed → Type 0
Alike [] [] = Unit {0}
Alike [] (u ∷ us) = ⊥
Alike (t ∷ ts) [] = ⊥
Alike (t ∷ ts) (u ∷ us) = t ≡ u

pub alike_self : (ts : List Placed) → Alike ts ts
alike_self [] = tt
alike_self (t ∷ ts) = refl

pub alike_behind : (front r r' : List Placed) → Alike r r' → Alike (front ++ r) (front ++ r')
alike_behind [] r r' a = a
alike_behind (t ∷ ts) r r' a = refl

pub alike_left : (r r' : List Placed) → Alike r r' → left_of r ≡ left_of r'
alike_left [] [] a = refl
alike_left [] (u ∷ us) a = absurd a
alike_left (t ∷ ts) [] a = absurd a
alike_left (t ∷ ts) (u ∷ us) a = ap (λ (x : Placed). x.left) a

pub alike_passes : (c : Token → Bool) (r r' : List Placed) → Alike r r' → next_passes c r ≡ next_passes c r'
alike_passes c [] [] a = refl
alike_passes c [] (u ∷ us) a = absurd a
alike_passes c (t ∷ ts) [] a = absurd a
alike_passes c (t ∷ ts) (u ∷ us) a = ap (λ (x : Placed). c x.token) a

pub text_append : (a b : List Placed) → text_of (a ++ b) ≡ text_of a ++ text_of b
text_append [] b = refl
text_append (t ∷ a) b = ap (λ ts. t.token ∷ ts) (text_append a b)

pub record Cut (front : List Placed) (a b : List Token) : Type 0 where
  pub fore : List Placed
  pub hind : List Placed
  pub parts : front ≡ fore ++ hind
  pub first : text_of fore ≡ a
  pub second : text_of hind ≡ b

pub cut : (front : List Placed) (a b : List Token) → text_of front ≡ a ++ b → Cut front a b
cut front [] b e = record { fore = []; hind = front; parts = refl; first = refl; second = e }
cut [] (x ∷ a) b e = absurd cc
cut (t ∷ front) (x ∷ a) b e =
    let tail : text_of front ≡ a ++ b = cc e in
    let head : t.token ≡ x = cc e in
    let c = cut front a b tail in
    record { fore = t ∷ c.fore; hind = c.hind; parts = ap (λ ts. t ∷ ts) c.parts; first = cc (head, c.first); second = c.second }

pub right_append : (a b : List Token) → AreTokens a → AreTokens b → AreTokens (a ++ b)
right_append [] b p q = q
right_append (x ∷ a) b p q = (p.0, right_append a b p.1 q)

pub right_front : (a b : List Token) → AreTokens (a ++ b) → AreTokens a
right_front [] b p = tt
right_front (x ∷ a) b p = (p.0, right_front a b p.1)

pub right_rest : (a b : List Token) → AreTokens (a ++ b) → AreTokens b
right_rest [] b p = p
right_rest (x ∷ a) b p = right_rest a b p.1

abbrev pub are_marks : List (List ℕ) → Bool
are_marks [] = true
are_marks (m ∷ ms) = is_mark_text m && are_marks ms

pub holds : (b : Bool) → b ≡ true → Holds b
holds true e = tt
holds false e = absurd cc

both_true : (a b : Bool) → (a && b) ≡ true → (a ≡ true) × (b ≡ true)
both_true true b e = (refl, e)
both_true false b e = absurd cc

pub right_marks : (ms : List (List ℕ)) → are_marks ms ≡ true → AreTokens (map mark ms)
right_marks [] e = tt
right_marks (m ∷ ms) e =
    let k = both_true (is_mark_text m) (are_marks ms) e in
    (holds (is_mark_text m) k.0, right_marks ms k.1)

-- ---- what may follow, and what stands at the front

abbrev pub MayFollow : (Token → Bool) → List Placed → Type 0
MayFollow f [] = Unit {0}
MayFollow f (t ∷ ts) = f t.token ≡ true

abbrev pub any : Token → Bool
any t = true

pub any_follows : (r : List Placed) → MayFollow any r
any_follows [] = tt
any_follows (t ∷ ts) = refl

-- the first token passes
abbrev pub Leads : (Token → Bool) → List Token → Type 0
Leads c [] = ⊥
Leads c (t ∷ ts) = c t ≡ true

pub leads_passes : (c : Token → Bool) (a : List Token) (front r : List Placed) → Leads c a → text_of front ≡ a
    → next_passes c (front ++ r) ≡ true
leads_passes c [] front r l e = absurd l
leads_passes c (x ∷ a) [] r l e = absurd cc
leads_passes c (x ∷ a) (t ∷ front) r l e = let h : t.token ≡ x = cc e in rw h l

pub leads_follow : (c : Token → Bool) (a : List Token) (front r : List Placed) → Leads c a → text_of front ≡ a
    → MayFollow c (front ++ r)
leads_follow c [] front r l e = absurd l
leads_follow c (x ∷ a) [] r l e = absurd cc
leads_follow c (x ∷ a) (t ∷ front) r l e = let h : t.token ≡ x = cc e in rw h l

abbrev pub fails_at : (Token → Bool) → Token → Bool
fails_at c t = not (c t)

not_true : (b : Bool) → not b ≡ true → b ≡ false
not_true true e = absurd cc
not_true false e = refl

pub leads_not : (c : Token → Bool) (a : List Token) (front r : List Placed) → Leads (fails_at c) a → text_of front ≡ a
    → next_passes c (front ++ r) ≡ false
leads_not c [] front r l e = absurd l
leads_not c (x ∷ a) [] r l e = absurd cc
leads_not c (x ∷ a) (t ∷ front) r l e = let h : t.token ≡ x = cc e in rw h (not_true (c x) l)

pub follow_not : (c : Token → Bool) (r : List Placed) → MayFollow (fails_at c) r → next_passes c r ≡ false
follow_not c [] f = refl
follow_not c (t ∷ ts) f = not_true (c t.token) f

-- ---- the laws of a reader: s spells a value, V says which values there are

pub record Found {X : Type 0} (s : X → List Token) (V : X → Type 0) (p : Reader X) (ts : List Placed) (x : X) (r : List Placed) : Type 0 where
  pub front : List Placed
  pub parts : ts ≡ front ++ r
  pub spelled : text_of front ≡ s x
  pub valid : V x
  pub alike : (r' : List Placed) → Alike r r' → p (front ++ r') ≡ Ok (x, r')

pub record Completes {X : Type 0} (s : X → List Token) (V : X → Type 0) (before : List Token) : Type 0 where
  pub value : X
  pub valid : V value
  pub rest : List Token
  pub right : AreTokens rest
  pub parts : before ++ rest ≡ s value

pub record Failed {X : Type 0} (s : X → List Token) (V : X → Type 0) (p : Reader X) (ts : List Placed) (n : ℕ) : Type 0 where
  pub before : List Placed
  pub after : List Placed
  pub parts : ts ≡ before ++ after
  pub place : n ≡ left_of after
  pub viable : (before ≡ []) ⊎ Completes s V (text_of before)
  pub dead : (after' : List Placed) → Alike after after' → p (before ++ after') ≡ Err n

-- at one list of tokens
pub record At {X : Type 0} (s : X → List Token) (V : X → Type 0) (p : Reader X) (ts : List Placed) : Type 0 where
  pub found : (x : X) (r : List Placed) → p ts ≡ Ok (x, r) → Found s V p ts x r
  pub fails : (n : ℕ) → AreTokens (text_of ts) → p ts ≡ Err n → Failed s V p ts n

-- of one value, before what may follow
abbrev pub Again : {X : Type 0} → (X → List Token) → (Token → Bool) → Reader X → X → Type 0
Again s f p x =
    (front r : List Placed) → AreTokens (s x) → text_of front ≡ s x → MayFollow f r → p (front ++ r) ≡ Ok (x, r)

pub record IsForm {X : Type 0} (s : X → List Token) (V : X → Type 0) (f : Token → Bool) (p : Reader X) : Type 0 where
  pub at : (ts : List Placed) → At s V p ts
  pub again : (x : X) → V x → Again s f p x

pub record Example {X : Type 0} (s : X → List Token) (V : X → Type 0) : Type 0 where
  pub value : X
  pub valid : V value
  pub right : AreTokens (s value)

pub complete : {X : Type 0} (s : X → List Token) (V : X → Type 0) → Example s V → Completes s V []
complete s V e = record { value = e.value; valid = e.valid; rest = s e.value; right = e.right; parts = refl }

-- ---- one token

abbrev pub done : {X : Type 0} → X → List Placed → Result (X × List Placed) ℕ
done x r = Ok (x, r)

pub ok_pair : {X : Type 0} (x y : X) (r ts : List Placed) → done x r ≡ done y ts → (x ≡ y) × (r ≡ ts)
ok_pair {X} x y r ts e =
    let p : (x, r) ≡ (y, ts) = cc e in
    (ap (λ (q : X × List Placed). q.0) p, ap (λ (q : X × List Placed). q.1) p)

picked_ok : {X : Type 0} (o : Option X) (n : ℕ) (ts : List Placed) (x : X) (r : List Placed) → picked o n ts ≡ Ok (x, r)
    → (o ≡ Some x) × (ts ≡ r)
picked_ok None n ts x r e = absurd cc
picked_ok (Some y) n ts x r e = let k = ok_pair y x ts r e in (ap (λ z. Some z) k.0, k.1)

picked_err : {X : Type 0} (o : Option X) (n m : ℕ) (ts : List Placed) → picked o n ts ≡ Err m → (o ≡ None) × (n ≡ m)
picked_err None n m ts e = (refl, cc)
picked_err (Some y) n m ts e = absurd cc

one_found : {X : Type 0} (f : Token → Option X) (tok : X → Token) (V : X → Type 0)
    → ((t : Token) (x : X) → f t ≡ Some x → (t ≡ tok x) × V x) → (ts : List Placed) (x : X) (r : List Placed)
    → one f ts ≡ Ok (x, r) → Found (λ y. tok y ∷ []) V (one f) ts x r
one_found f tok V to [] x r e = absurd cc
one_found f tok V to (t ∷ ts) x r e =
    let k = picked_ok (f t.token) t.left ts x r e in
    let v = to t.token x k.0 in
    let is : f t.token ≡ Some x = k.0 in
    record { front = t ∷ []; parts = ap (λ us. t ∷ us) k.1; spelled = ap (λ u. u ∷ []) v.0; valid = v.1; alike = λ r' a. rw is refl }

one_fails : {X : Type 0} (f : Token → Option X) (s : X → List Token) (V : X → Type 0) (ts : List Placed) (n : ℕ)
    → one f ts ≡ Err n → Failed s V (one f) ts n
one_fails f s V [] n e =
    record { before = []; after = []; parts = refl; place = cc; viable = inl refl; dead = λ r' a. elim r' as (λ us. Alike [] us → one f us ≡ Err n) [ [] ↦ λ _. e | u ∷ us ↦ λ h. absurd h ] a }
one_fails f s V (t ∷ ts) n e =
    let k = picked_err (f t.token) t.left n ts e in
    let is : f t.token ≡ None = k.0 in
    let at : t.left ≡ n = k.1 in
    record { before = []; after = t ∷ ts; parts = refl; place = sym k.1; viable = inl refl; dead = λ r' a. elim r' as (λ us. Alike (t ∷ ts) us → one f us ≡ Err n) [ [] ↦ λ h. absurd h | u ∷ us ↦ λ h. subst (λ (v : Placed). picked (f v.token) v.left us ≡ Err n) h (rw is (ap Err at)) ] a }

one_again : {X : Type 0} (f : Token → Option X) (tok : X → Token) (x : X) → f (tok x) ≡ Some x
    → Again (λ y. tok y ∷ []) any (one f) x
one_again f tok x is [] r right e m = absurd cc
one_again f tok x is (t ∷ []) r right e m = let h : t.token ≡ tok x = cc e in rw (h, is) refl
one_again f tok x is (t ∷ u ∷ front) r right e m = absurd cc

pub one_form : {X : Type 0} (f : Token → Option X) (tok : X → Token) (V : X → Type 0)
    → ((t : Token) (x : X) → f t ≡ Some x → (t ≡ tok x) × V x) → ((x : X) → V x → f (tok x) ≡ Some x)
    → IsForm (λ y. tok y ∷ []) V any (one f)
one_form f tok V to from = record {
  at = λ ts. record { found = λ x r e. one_found f tok V to ts x r e; fails = λ n right e. one_fails f (λ y. tok y ∷ []) V ts n e };
  again = λ x v. one_again f tok x (from x v);
}

-- ---- one after the other

continued_ok : {X Y : Type 0} (o : Result (X × List Placed) ℕ) (k : X → Reader Y) (x : X) (y : Y) (r : List Placed)
    → continued o k ≡ done (x, y) r → (m : List Placed) × (o ≡ Ok (x, m)) × (k x m ≡ Ok (y, r))
continued_ok {X} {Y} (Ok a) k x y r e =
    elim (k a.0 a.1) as (λ v. k a.0 a.1 ≡ v → paired a.0 v ≡ done (x, y) r → (m : List Placed) × (Ok a ≡ done x m) × (k x m ≡ Ok (y, r))) [
      | Ok b ↦ λ is h.
          let q = ok_pair (a.0, b.0) (x, y) b.1 r h in
          let same : a.0 ≡ x = ap (λ (w : X × Y). w.0) q.0 in
          let other : b.0 ≡ y = ap (λ (w : X × Y). w.1) q.0 in
          (a.1, ap (λ (w : X). done w a.1) same, subst (λ (w : X). k w a.1 ≡ Ok (y, r)) same (is ∙ ap (λ (w : Y). done w b.1) other ∙ ap (λ (w : List Placed). done y w) q.1))
      | Err n ↦ λ is h. absurd cc
    ] refl e
continued_ok (Err n) k x y r e = absurd cc

continued_err : {X Y : Type 0} (o : Result (X × List Placed) ℕ) (k : X → Reader Y) (n : ℕ) → continued o k ≡ Err n
    → (o ≡ Err n) ⊎ ((x : X) × (m : List Placed) × (o ≡ Ok (x, m)) × (k x m ≡ Err n))
continued_err {X} {Y} (Ok a) k n e =
    elim (k a.0 a.1) as (λ v. k a.0 a.1 ≡ v → paired a.0 v ≡ Err n → (done a.0 a.1 ≡ Err n) ⊎ ((x : X) × (m : List Placed) × (done a.0 a.1 ≡ Ok (x, m)) × (k x m ≡ Err n))) [
      | Ok b ↦ λ is h. absurd cc
      | Err m ↦ λ is h. inr (a.0, a.1, refl, is ∙ cc h)
    ] refl e
continued_err (Err m) k n e = inl cc

-- what two readers spell
abbrev pub s2 : {X Y : Type 0} → (X → List Token) → (X → Y → List Token) → X × Y → List Token
s2 s t x = s x.0 ++ t x.0 x.1

abbrev pub V2 : {X Y : Type 0} → (X → Type 0) → (X → Y → Type 0) → X × Y → Type 0
V2 V W x = V x.0 × W x.0 x.1

pub both_at : {X Y : Type 0} (s : X → List Token) (V : X → Type 0) (t : X → Y → List Token) (W : X → Y → Type 0)
    (p : Reader X) (k : X → Reader Y) (ts : List Placed)
    → ((x : X) → V x → AreTokens (s x) → Example (t x) (W x)) → At s V p ts
    → ((x : X) (r : List Placed) → p ts ≡ Ok (x, r) → At (t x) (W x) (k x) r) → At (s2 s t) (V2 V W) (both p k) ts
unfolding both
both_at s V t W p k ts example one then = record {
  found = λ xy r e.
      let c = continued_ok (p ts) k xy.0 xy.1 r e in
      let a = one.found xy.0 c.0 c.1 in
      let b = (then xy.0 c.0 c.1).found xy.1 r c.2 in
      record {
        front = a.front ++ b.front;
        parts = a.parts ∙ ap (λ us. a.front ++ us) b.parts ∙ sym (append_assoc a.front b.front r);
        spelled = text_append a.front b.front ∙ cc (a.spelled, b.spelled);
        valid = (a.valid, b.valid);
        alike = λ r' alike.
            let near : Alike c.0 (b.front ++ r') =
            subst (λ us. Alike us (b.front ++ r')) (sym b.parts) (alike_behind b.front r r' alike) in
            let again : p (a.front ++ (b.front ++ r')) ≡ Ok (xy.0, b.front ++ r') = a.alike (b.front ++ r') near in
            rw (append_assoc a.front b.front r', again, b.alike r' alike) refl;
      };
  fails = λ n right e. elim (continued_err (p ts) k n e) [
    | inl stops ↦
        let a = one.fails n right stops in
        record {
          before = a.before;
          after = a.after;
          parts = a.parts;
          place = a.place;
          viable = elim a.viable [
            | inl none ↦ inl none
            | inr c ↦ inr (
                let total : AreTokens (s c.value) =
                subst AreTokens c.parts (right_append (text_of a.before) c.rest (right_front (text_of a.before) (text_of a.after) (subst AreTokens (ap text_of a.parts ∙ text_append a.before a.after) right)) c.right) in
                let ex = example c.value c.valid total in
                record {
                  value = (c.value, ex.value);
                  valid = (c.valid, ex.valid);
                  rest = c.rest ++ t c.value ex.value;
                  right = right_append c.rest (t c.value ex.value) c.right ex.right;
                  parts = sym (append_assoc (text_of a.before) c.rest (t c.value ex.value)) ∙ ap (λ us. us ++ t c.value ex.value) c.parts;
                })
          ];
          dead = λ after' alike. let h = a.dead after' alike in rw h refl;
        }
    | inr c ↦
        let x = c.0 in
        let m = c.1 in
        let a = one.found x m c.2 in
        let split : AreTokens (text_of a.front ++ text_of m) =
        subst AreTokens (ap text_of a.parts ∙ text_append a.front m) right in
        let right_a : AreTokens (s x) = subst AreTokens a.spelled (right_front (text_of a.front) (text_of m) split) in
        let b = (then x m c.2).fails n (right_rest (text_of a.front) (text_of m) split) c.3 in
        record {
          before = a.front ++ b.before;
          after = b.after;
          parts = a.parts ∙ ap (λ us. a.front ++ us) b.parts ∙ sym (append_assoc a.front b.before b.after);
          place = b.place;
          viable = inr (
              let ends : Completes (t x) (W x) (text_of b.before) = elim b.viable as (λ u. Completes (t x) (W x) (text_of b.before)) [
                | inl none ↦ subst (λ us. Completes (t x) (W x) (text_of us)) (sym none) (complete (t x) (W x) (example x a.valid right_a))
                | inr d ↦ d
              ] in
              record {
                value = (x, ends.value);
                valid = (a.valid, ends.valid);
                rest = ends.rest;
                right = ends.right;
                parts = ap (λ us. us ++ ends.rest) (text_append a.front b.before) ∙ append_assoc (text_of a.front) (text_of b.before) ends.rest ∙ cc (a.spelled, ends.parts);
              });
          dead = λ after' alike.
              let near : Alike m (b.before ++ after') =
              subst (λ us. Alike us (b.before ++ after')) (sym b.parts) (alike_behind b.before b.after after' alike) in
              let again : p (a.front ++ (b.before ++ after')) ≡ Ok (x, b.before ++ after') =
              a.alike (b.before ++ after') near in
              rw (append_assoc a.front b.before after', again, b.dead after' alike) refl;
        }
  ];
}

pub both_again : {X Y : Type 0} (s : X → List Token) (t : X → Y → List Token) (g f : Token → Bool) (p : Reader X)
    (k : X → Reader Y) (x : X) (y : Y)
    → Again s g p x → Again (t x) f (k x) y
    → ((front r : List Placed) → text_of front ≡ t x y → MayFollow f r → MayFollow g (front ++ r))
    → Again (s2 s t) f (both p k) (x, y)
unfolding both
both_again s t g f p k x y one then follows front r right e m =
    let c = cut front (s x) (t x y) e in
    let a : p (c.fore ++ (c.hind ++ r)) ≡ Ok (x, c.hind ++ r) =
    one c.fore (c.hind ++ r) (right_front (s x) (t x y) right) c.first (follows c.hind r c.second m) in
    let b = then c.hind r (right_rest (s x) (t x y) right) c.second m in
    rw (c.parts, append_assoc c.fore c.hind r, a, b) refl

pub both_form : {X Y : Type 0} (s : X → List Token) (V : X → Type 0) (t : X → Y → List Token) (W : X → Y → Type 0)
    (g f : Token → Bool) (p : Reader X) (k : X → Reader Y)
    → IsForm s V g p → ((x : X) → IsForm (t x) (W x) f (k x)) → ((x : X) → V x → AreTokens (s x) → Example (t x) (W x))
    → ((x : X) (y : Y) (front r : List Placed) → V x → W x y → text_of front ≡ t x y → MayFollow f r → MayFollow g (front ++ r))
    → IsForm (s2 s t) (V2 V W) f (both p k)
both_form s V t W g f p k one then example follows = record {
  at = λ ts. both_at s V t W p k ts example (one.at ts) (λ x r e. (then x).at r);
  again = λ xy v. both_again s t g f p k xy.0 xy.1 (one.again xy.0 v.0) ((then xy.0).again xy.1 v.1) (λ front r e m. follows xy.0 xy.1 front r v.0 v.1 e m);
}

-- ---- a value made of another

made_ok : {X Y : Type 0} (f : X → Y) (o : Result (X × List Placed) ℕ) (y : Y) (r : List Placed) → made_of f o ≡ done y r
    → (x : X) × (o ≡ Ok (x, r)) × (f x ≡ y)
made_ok f (Ok a) y r e = let k = ok_pair (f a.0) y a.1 r e in (a.0, ap (λ w. done a.0 w) k.1, k.0)
made_ok f (Err n) y r e = absurd cc

made_err : {X Y : Type 0} (f : X → Y) (o : Result (X × List Placed) ℕ) (n : ℕ) → made_of f o ≡ Err n → o ≡ Err n
made_err f (Ok a) n e = absurd cc
made_err f (Err m) n e = cc

pub made_at : {X Y : Type 0} (s : X → List Token) (V : X → Type 0) (s' : Y → List Token) (V' : Y → Type 0) (f : X → Y)
    (p : Reader X) (ts : List Placed)
    → ((x : X) → V x → s' (f x) ≡ s x) → ((x : X) → V x → V' (f x)) → At s V p ts → At s' V' (made f p) ts
unfolding made
made_at s V s' V' f p ts spelled to one = record {
  found = λ y r e.
      let k = made_ok f (p ts) y r e in
      let a = one.found k.0 r k.1 in
      record {
        front = a.front;
        parts = a.parts;
        spelled = a.spelled ∙ sym (spelled k.0 a.valid) ∙ ap s' k.2;
        valid = subst V' k.2 (to k.0 a.valid);
        alike = λ r' alike. rw (a.alike r' alike) (ap (λ w. done w r') k.2);
      };
  fails = λ n right e.
      let a = one.fails n right (made_err f (p ts) n e) in
      record {
        before = a.before;
        after = a.after;
        parts = a.parts;
        place = a.place;
        viable = elim a.viable [
          | inl none ↦ inl none
          | inr c ↦ inr (record { value = f c.value; valid = to c.value c.valid; rest = c.rest; right = c.right; parts = c.parts ∙ sym (spelled c.value c.valid) })
        ];
        dead = λ after' alike. rw (a.dead after' alike) refl;
      };
}

pub made_form : {X Y : Type 0} (s : X → List Token) (V : X → Type 0) (s' : Y → List Token) (V' : Y → Type 0)
    (g : Token → Bool) (f : X → Y) (p : Reader X)
    → ((x : X) → V x → s' (f x) ≡ s x) → ((x : X) → V x → V' (f x)) → ((y : Y) → V' y → (x : X) × V x × (f x ≡ y))
    → IsForm s V g p → IsForm s' V' g (made f p)
unfolding made
made_form s V s' V' g f p spelled to from one = record {
  at = λ ts. made_at s V s' V' f p ts spelled to (one.at ts);
  again = λ y v front r right e m.
      let k = from y v in
      let same : s' y ≡ s k.0 = sym (ap s' k.2) ∙ spelled k.0 k.1 in
      let a : p (front ++ r) ≡ Ok (k.0, r) = one.again k.0 k.1 front r (subst AreTokens same right) (e ∙ same) m in
      rw a (ap (λ w. done w r) k.2);
}

-- ---- one of two

abbrev Chosen : {X : Type 0} → Bool → Reader X → Reader X → List Placed → Result (X × List Placed) ℕ → Type 0
Chosen b p q ts o = ((b ≡ true) × (p ts ≡ o)) ⊎ ((b ≡ false) × (q ts ≡ o))

chosen : {X : Type 0} (b : Bool) (p q : Reader X) (ts : List Placed) (o : Result (X × List Placed) ℕ)
    → cond b (p ts) (q ts) ≡ o → Chosen b p q ts o
chosen true p q ts o e = inl (refl, e)
chosen false p q ts o e = inr (refl, e)

either_part : {X : Type 0} (s : X → List Token) (V U : X → Type 0) (c : Token → Bool) (p q w : Reader X)
    (ts : List Placed)
    → ((x : X) → V x → U x) → ((us : List Placed) → next_passes c us ≡ next_passes c ts → w us ≡ p us) → At s V p ts
    → At s U w ts
either_part s V U c p q w ts to same one =
    record {
      found = λ x r e.
          let a = one.found x r (sym (same ts refl) ∙ e) in
          record {
            front = a.front;
            parts = a.parts;
            spelled = a.spelled;
            valid = to x a.valid;
            alike = λ r' alike. same (a.front ++ r') (sym (ap (next_passes c) a.parts ∙ alike_passes c (a.front ++ r) (a.front ++ r') (alike_behind a.front r r' alike))) ∙ a.alike r' alike;
          };
      fails = λ n right e.
          let a = one.fails n right (sym (same ts refl) ∙ e) in
          record {
            before = a.before;
            after = a.after;
            parts = a.parts;
            place = a.place;
            viable = elim a.viable [
              | inl none ↦ inl none
              | inr d ↦ inr (record { value = d.value; valid = to d.value d.valid; rest = d.rest; right = d.right; parts = d.parts })
            ];
            dead = λ after' alike. same (a.before ++ after') (sym (ap (next_passes c) a.parts ∙ alike_passes c (a.before ++ a.after) (a.before ++ after') (alike_behind a.before a.after after' alike))) ∙ a.dead after' alike;
          };
    }

pub either_at : {X : Type 0} (s : X → List Token) (V W U : X → Type 0) (c : Token → Bool) (p q : Reader X)
    (ts : List Placed)
    → ((x : X) → V x → U x) → ((x : X) → W x → U x) → (next_passes c ts ≡ true → At s V p ts)
    → (next_passes c ts ≡ false → At s W q ts) → At s U (either c p q) ts
unfolding either
either_at {X} s V W U c p q ts vu wu one other =
    elim (next_passes c ts) as (λ b. next_passes c ts ≡ b → At s U (either c p q) ts) [
      | true ↦ λ is. either_part s V U c p q (either c p q) ts vu (λ us e. let h : next_passes c us ≡ true = e ∙ is in rw h refl) (one is)
      | false ↦ λ is. either_part s W U c q p (either c p q) ts wu (λ us e. let h : next_passes c us ≡ false = e ∙ is in rw h refl) (other is)
    ] refl

pub either_form : {X : Type 0} (s : X → List Token) (V W U : X → Type 0) (c f : Token → Bool) (p q : Reader X)
    → ((x : X) → V x → U x) → ((x : X) → W x → U x) → ((x : X) → U x → V x ⊎ W x) → ((x : X) → V x → Leads c (s x))
    → ((x : X) (front r : List Placed) → W x → text_of front ≡ s x → MayFollow f r → next_passes c (front ++ r) ≡ false)
    → IsForm s V f p → IsForm s W f q → IsForm s U f (either c p q)
unfolding either
either_form s V W U c f p q vu wu split leads apart one other = record {
  at = λ ts. either_at s V W U c p q ts vu wu (λ is. one.at ts) (λ is. other.at ts);
  again = λ x u front r right e m. elim (split x u) [
    | inl v ↦ let h = leads_passes c (s x) front r (leads x v) e in rw h (one.again x v front r right e m)
    | inr w ↦ let h = apart x front r w e m in rw h (other.again x w front r right e m)
  ];
}

-- ---- nothing, and none

pub nothing_form : {X : Type 0} (s : X → List Token) (f : Token → Bool) (x : X) → s x ≡ []
    → IsForm s (λ y. y ≡ x) f (nothing x)
unfolding nothing
nothing_form s f x empty = record {
  at = λ ts. record {
    found = λ y r e. let k = ok_pair x y ts r e in record { front = []; parts = k.1; spelled = sym empty ∙ ap s k.0; valid = sym k.0; alike = λ r' a. ap (λ w. done w r') k.0 };
    fails = λ n right e. absurd cc;
  };
  again = λ y v front r right e m.
      let nil : text_of front ≡ [] = e ∙ ap s v ∙ empty in
      elim front as (λ us. text_of us ≡ [] → done x (us ++ r) ≡ Ok (y, r)) [ [] ↦ λ _. ap (λ w. done w r) (sym v) | t ∷ us ↦ λ h. absurd cc ] nil;
}

pub none_form : {X : Type 0} (s : X → List Token) (f : Token → Bool) → IsForm s (λ x. ⊥) f none
unfolding none
none_form s f = record {
  at = λ ts. record {
    found = λ x r e. absurd cc;
    fails = λ n right e. record { before = []; after = ts; parts = refl; place = sym (cc e); viable = inl refl; dead = λ after' a. ap (λ w. Err w) (sym (alike_left ts after' a)) ∙ e };
  };
  again = λ x v. absurd v;
}

-- a stronger condition on what follows
pub narrow_form : {X : Type 0} (s : X → List Token) (V : X → Type 0) (f : Token → Bool) (p : Reader X)
    → IsForm s V any p → IsForm s V f p
narrow_form s V f p one =
    record { at = one.at; again = λ x v front r right e m. one.again x v front r right e (any_follows r) }

-- ---- as many as there are, and what closes them

abbrev pub step_of : {X Y : Type 0} → (Token → Bool) → Reader X → Reader Y → Reader (List X × Y) → Reader (List X × Y)
step_of c p q more = either c (made (λ x. (x.0 ∷ x.1.0, x.1.1)) (both p (λ x. more))) (made (λ y. ([], y)) q)

-- each of the values begins with a token that passes, so it takes one at least
abbrev pub Leading : {X : Type 0} → (X → List Token) → (X → Type 0) → (Token → Bool) → Type 0
Leading {X} s V c = (x : X) → V x → Leads c (s x)

nonempty : (c : Token → Bool) (a : List Token) (front : List Placed) → Leads c a → text_of front ≡ a → 0 < length front
nonempty c [] front l e = absurd l
nonempty c (x ∷ a) [] l e = absurd cc
nonempty c (x ∷ a) (t ∷ front) l e = omega arith

shorter : {X : Type 0} (s : X → List Token) (V : X → Type 0) (c : Token → Bool) (p : Reader X) (ts : List Placed)
    (x : X) (r : List Placed) → Leading s V c → At s V p ts → p ts ≡ Ok (x, r) → length r < length ts
shorter s V c p ts x r leads at e =
    let a = at.found x r e in
    let n = nonempty c (s x) a.front (leads x a.valid) a.spelled in
    omega (arith, ap (λ (us : List Placed). length us) a.parts, length-append a.front r)

both_same : {X Y : Type 0} (p : Reader X) (k l : X → Reader Y) (ts : List Placed)
    → ((x : X) (r : List Placed) → p ts ≡ Ok (x, r) → k x r ≡ l x r) → both p k ts ≡ both p l ts
unfolding both
both_same p k l ts same =
    elim (p ts) as (λ o. p ts ≡ o → continued o k ≡ continued o l) [
      | Ok a ↦ λ is. ap (paired a.0) (same a.0 a.1 is)
      | Err n ↦ λ is. refl
    ] refl

step_same : {X Y : Type 0} (c : Token → Bool) (p : Reader X) (q : Reader Y) (m n : Reader (List X × Y))
    (ts : List Placed) → ((x : X) (r : List Placed) → p ts ≡ Ok (x, r) → m r ≡ n r)
    → step_of c p q m ts ≡ step_of c p q n ts
unfolding either made
step_same c p q m n ts same = let h = both_same p (λ x. m) (λ x. n) ts same in rw h refl

fuel : {X Y : Type 0} (s : X → List Token) (V : X → Type 0) (c : Token → Bool) (p : Reader X) (q : Reader Y)
    → Leading s V c → ((ts : List Placed) → At s V p ts)
    → (m n : ℕ) (ts : List Placed) → length ts < m → length ts < n → until_within m c p q ts ≡ until_within n c p q ts
unfolding until_within
fuel s V c p q leads at zero n ts a b = absurd (omega arith)
fuel s V c p q leads at (suc m) zero ts a b = absurd (omega arith)
fuel s V c p q leads at (suc m) (suc n) ts a b = step_same c p q (until_within m c p q) (until_within n c p q) ts (λ x r e.
    let l = shorter s V c p ts x r leads (at ts) e in
    fuel s V c p q leads at m n r (omega arith) (omega arith))

pub until_step : {X Y : Type 0} (s : X → List Token) (V : X → Type 0) (c : Token → Bool) (p : Reader X) (q : Reader Y)
    → Leading s V c → ((ts : List Placed) → At s V p ts)
    → (ts : List Placed) → until c p q ts ≡ step_of c p q (until c p q) ts
unfolding until until_within
until_step s V c p q leads at ts = step_same c p q (until_within (length ts) c p q) (until c p q) ts (λ x r e.
    let l = shorter s V c p ts x r leads (at ts) e in
    fuel s V c p q leads at (length ts) (suc (length r)) r l (omega arith))

-- a reader that is another one at each list
same_at : {X : Type 0} (s : X → List Token) (V : X → Type 0) (p w : Reader X) (ts : List Placed)
    → ((us : List Placed) → w us ≡ p us) → At s V p ts → At s V w ts
same_at s V p w ts same one = either_part s V V (λ t. true) p p w ts (λ x v. v) (λ us e. same us) one

abbrev pub s_until : {X Y : Type 0} → (X → List Token) → (Y → List Token) → List X × Y → List Token
s_until s t x = each s x.0 ++ t x.1

abbrev pub V_until : {X Y : Type 0} → (X → Type 0) → (Y → Type 0) → List X × Y → Type 0
V_until V W x = AllByRecursion V x.0 × W x.1

abbrev cons_of : {X Y : Type 0} → X × (List X × Y) → List X × Y
cons_of x = (x.0 ∷ x.1.0, x.1.1)

abbrev nil_of : {X Y : Type 0} → Y → List X × Y
nil_of y = ([], y)

until_at : {X Y : Type 0} (s : X → List Token) (V : X → Type 0) (t : Y → List Token) (W : Y → Type 0) (c : Token → Bool)
    (p : Reader X) (q : Reader Y)
    → Leading s V c → ((ts : List Placed) → At s V p ts) → ((ts : List Placed) → At t W q ts) → Example t W
    → (n : ℕ) (ts : List Placed) → length ts < n → At (s_until s t) (V_until V W) (until c p q) ts
until_at s V t W c p q leads at last example zero ts l = absurd (omega arith)
until_at {X} {Y} s V t W c p q leads at last example (suc n) ts l =
    let rest : Example (s_until s t) (V_until V W) =
    record { value = ([], example.value); valid = (tt, example.valid); right = example.right } in
    let more : At (s_until s t) (V_until V W) (made cons_of (both p (λ x. until c p q))) ts =
    made_at (s2 s (λ x. s_until s t)) (V2 V (λ x. V_until V W)) (s_until s t) (V_until V W) cons_of (both p (λ x. until c p q)) ts
    (λ x v. append_assoc (s x.0) (each s x.1.0) (t x.1.1)) (λ x v. ((v.0, v.1.0), v.1.1))
    (both_at s V (λ x. s_until s t) (λ x. V_until V W) p (λ x. until c p q) ts (λ x v r. rest) (at ts) (λ x r e.
    let k = shorter s V c p ts x r leads (at ts) e in
    until_at s V t W c p q leads at last example n r (omega arith)))
    in
    let none : At (s_until s t) (V_until V W) (made nil_of q) ts =
    made_at t W (s_until s t) (V_until V W) nil_of q ts (λ y w. refl) (λ y w. (tt, w)) (last ts)
    in
    same_at (s_until s t) (V_until V W) (step_of c p q (until c p q)) (until c p q) ts (until_step s V c p q leads at)
    (either_at (s_until s t) (V_until V W) (V_until V W) (V_until V W) c (made cons_of (both p (λ x. until c p q))) (made nil_of q) ts (λ x v. v) (λ x v. v) (λ is. more) (λ is. none))

leads_on : (c g : Token → Bool) (a b d : List Token) → ((k : Token) → c k ≡ true → g k ≡ true) → Leads c a
    → Leads g ((a ++ b) ++ d)
leads_on c g [] b d goes l = absurd l
leads_on c g (x ∷ a) b d goes l = goes x l

until_again : {X Y : Type 0} (s : X → List Token) (V : X → Type 0) (t : Y → List Token) (W : Y → Type 0)
    (c g f : Token → Bool) (p : Reader X) (q : Reader Y)
    → Leading s V c → Leading t W (fails_at c) → Leading t W g → ((k : Token) → c k ≡ true → g k ≡ true)
    → IsForm s V g p → IsForm t W f q
    → (xs : List X) (y : Y) → AllByRecursion V xs → W y → Again (s_until s t) f (until c p q) (xs, y)
unfolding either made both
until_again s V t W c g f p q leads ends follows goes one last [] y vs w front r right e m =
    let h = leads_not c (t y) front r (ends y w) e in
    until_step s V c p q leads one.at (front ++ r) ∙ rw (h, last.again y w front r right e m) refl
until_again s V t W c g f p q leads ends follows goes one last (x ∷ xs) y vs w front r right e m =
    let regroup = append_assoc (s x) (each s xs) (t y) in
    let k = cut front (s x) (each s xs ++ t y) (e ∙ regroup) in
    let right' : AreTokens (s x ++ (each s xs ++ t y)) = subst AreTokens regroup right in
    let rest : until c p q (k.hind ++ r) ≡ Ok ((xs, y), r) =
    until_again s V t W c g f p q leads ends follows goes one last xs y vs.1 w k.hind r (right_rest (s x) (each s xs ++ t y) right') k.second m in
    let follow : MayFollow g (k.hind ++ r) = elim xs as (λ zs. AllByRecursion V zs → text_of k.hind ≡ each s zs ++ t y → MayFollow g (k.hind ++ r)) [
      | [] ↦ λ _ h. leads_follow g (t y) k.hind r (follows y w) h
      | z ∷ zs ↦ λ u h. leads_follow g ((s z ++ each s zs) ++ t y) k.hind r (leads_on c g (s z) (each s zs) (t y) goes (leads z u.0)) h
    ] vs.1 k.second in
    let here : p (k.fore ++ (k.hind ++ r)) ≡ Ok (x, k.hind ++ r) =
    one.again x vs.0 k.fore (k.hind ++ r) (right_front (s x) (each s xs ++ t y) right') k.first follow in
    let h : next_passes c (k.fore ++ (k.hind ++ r)) ≡ true =
    leads_passes c (s x) k.fore (k.hind ++ r) (leads x vs.0) k.first in
    until_step s V c p q leads one.at (front ++ r) ∙ rw (k.parts, append_assoc k.fore k.hind r, h, here, rest) refl

pub until_form : {X Y : Type 0} (s : X → List Token) (V : X → Type 0) (t : Y → List Token) (W : Y → Type 0)
    (c g f : Token → Bool) (p : Reader X) (q : Reader Y)
    → Leading s V c → Leading t W (fails_at c) → Leading t W g → ((k : Token) → c k ≡ true → g k ≡ true) → Example t W
    → IsForm s V g p → IsForm t W f q
    → IsForm (s_until s t) (V_until V W) f (until c p q)
until_form s V t W c g f p q leads ends follows goes example one last = record {
  at = λ ts. until_at s V t W c p q leads one.at last.at example (suc (length ts)) ts (omega arith);
  again = λ xy v. until_again s V t W c g f p q leads ends follows goes one last xy.0 xy.1 v.0 v.1;
}
