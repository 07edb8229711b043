-- Readers of one token, of words and symbols, and of a value between them.
use Rattle.std.proofs.Common.{◌≡◌, ℕ, Bool, true, false, eqb, List, [], ◌∷◌, ◌++◌, map, Option, Some, None, refl, sym, ap, subst, ◌∙◌, arith, inl, inr}
use Rattle.std.specs.Prelude.{◌⊎◌, ◌&&◌, cond, bytes_eq, codes}
use Rattle.std.proofs.lemmas.Bool.{eqb-true}
use Rattle.std.proofs.lemmas.Slice.Eq.{bytes_eq-Decides}
use Rattle.vl_tree.specs.declared.tree.Const.{Const}
use Rattle.vl_tree.specs.declared.tree.Op.{Op}
use Rattle.vl_tree.specs.declared.tree.Op.TheVariants.{Add, Sub, And, Or, Xor, Equal, Less}
use Rattle.vl_tree.specs.Values.{Name}
use Rattle.vl_tree.specs.Tokens.{Token, mark, name, plain, sized, split, AreTokens, is_mark_text}
use Rattle.vl_tree.specs.Grammar.{marks, op_mark, const_token, way_mark, range_tokens}
use Rattle.vl_tree.specs.Reading.{Reader, one, both, nothing, first, phrase_of, phrase, closed, opened, only_if, the_mark, the_name, the_same, the_plain, the_zero, the_sized, op_of, the_op, the_way, range_at}
use Rattle.vl_tree.proofs.Forms.{any, any_follows, Leads, leads_follow, IsForm, Example, s2, V2, one_form, both_form, made_form, nothing_form, are_marks, right_marks}

-- ---- shorter forms of the laws

pub same_form : {X : Type 0} {s : X → List Token} {V : X → Type 0} {f : Token → Bool} {p : Reader X}
    (s' : X → List Token) (V' : X → Type 0)
    → ((x : X) → V x → s' x ≡ s x) → ((x : X) → V x → V' x) → ((x : X) → V' x → V x) → IsForm s V f p → IsForm s' V' f p
same_form s' V' spelled to from one = record {
  at = λ ts. record {
    found = λ x r e.
        let a = (one.at ts).found x r e in
        record { front = a.front; parts = a.parts; spelled = a.spelled ∙ sym (spelled x a.valid); valid = to x a.valid; alike = a.alike };
    fails = λ n right e.
        let a = (one.at ts).fails n right e in
        record {
          before = a.before;
          after = a.after;
          parts = a.parts;
          place = a.place;
          viable = elim a.viable [
            | inl none ↦ inl none
            | inr c ↦ inr (record { value = c.value; valid = to c.value c.valid; rest = c.rest; right = c.right; parts = c.parts ∙ sym (spelled c.value c.valid) })
          ];
          dead = a.dead;
        };
  };
  again = λ x v front r right e m.
      let v' = from x v in
      let same = spelled x v' in
      one.again x v' front r (subst AreTokens same right) (e ∙ same) m;
}

pub then_any : {X Y : Type 0} {s : X → List Token} {V : X → Type 0} {t : X → Y → List Token} {W : X → Y → Type 0}
    {f : Token → Bool} {p : Reader X} {k : X → Reader Y}
    → IsForm s V any p → ((x : X) → IsForm (t x) (W x) f (k x))
    → ((x : X) → V x → AreTokens (s x) → Example (t x) (W x)) → IsForm (s2 s t) (V2 V W) f (both p k)
then_any {s = s} {V = V} {t = t} {W = W} {f = f} {p = p} {k = k} one then example =
    both_form s V t W any f p k one then example (λ x y front r v w e m. any_follows (front ++ r))

pub then_led : {X Y : Type 0} {s : X → List Token} {V : X → Type 0} {t : X → Y → List Token} {W : X → Y → Type 0}
    {g f : Token → Bool} {p : Reader X} {k : X → Reader Y}
    → IsForm s V g p → ((x : X) → IsForm (t x) (W x) f (k x)) → ((x : X) → V x → AreTokens (s x) → Example (t x) (W x))
    → ((x : X) (y : Y) → V x → W x y → Leads g (t x y)) → IsForm (s2 s t) (V2 V W) f (both p k)
then_led {s = s} {V = V} {t = t} {W = W} {g = g} {f = f} {p = p} {k = k} one then example leads =
    both_form s V t W g f p k one then example (λ x y front r v w e m. leads_follow g (t x y) front r (leads x y v w) e)

-- ---- words and symbols

pub bytes_same : (a b : List ℕ) → bytes_eq a b ≡ true → a ≡ b
bytes_same a b = (bytes_eq-Decides a b).0

pub bytes_self : (a : List ℕ) → bytes_eq a a ≡ true
bytes_self a = (bytes_eq-Decides a a).1 refl

only_true : {X : Type 0} (b : Bool) (x y : X) → only_if b x ≡ Some y → b ≡ true
only_true true x y e = refl
only_true false x y e = absurd cc

mark_to : (m : List ℕ) (t : Token) (u : Unit {0}) → the_mark m t ≡ Some u → (t ≡ mark m) × Unit {0}
mark_to m (mark k) u e = (ap (λ z. mark z) (bytes_same k m (only_true (bytes_eq k m) tt u e)), tt)
mark_to m (name n) u e = absurd cc
mark_to m (plain v) u e = absurd cc
mark_to m (sized w v) u e = absurd cc

mark_from : (m : List ℕ) (u : Unit {0}) → Unit {0} → the_mark m (mark m) ≡ Some u
mark_from m u v = rw (bytes_self m) refl

abbrev pub all_values : {X : Type 0} → X → Type 0
all_values x = Unit {0}

later : (m : List ℕ) (ms : List (List ℕ)) → are_marks (m ∷ ms) ≡ true → are_marks ms ≡ true
later m ms e = elim (is_mark_text m) as (λ b. (b && are_marks ms) ≡ true → are_marks ms ≡ true) [ true ↦ λ h. h | false ↦ λ h. absurd cc ] e

pub phrase_of_form : (ms : List (List ℕ)) → are_marks ms ≡ true
    → IsForm (λ (u : Unit {0}). map mark ms) all_values any (phrase_of ms)
unfolding phrase_of nothing
phrase_of_form [] known =
    same_form (λ (u : Unit {0}). []) all_values (λ x v. refl) (λ x v. tt) (λ x v. refl) (nothing_form (λ (u : Unit {0}). []) any tt refl)
phrase_of_form (m ∷ ms) known =
    made_form (s2 (λ (u : Unit {0}). mark m ∷ []) (λ u (w : Unit {0}). map mark ms)) (V2 all_values (λ u. all_values)) (λ (u : Unit {0}). map mark (m ∷ ms)) all_values any (λ x. tt) (both (one (the_mark m)) (λ x. phrase_of ms))
    (λ x v. refl) (λ x v. tt) (λ y v. ((tt, tt), (tt, tt), refl))
    (then_any (one_form (the_mark m) (λ u. mark m) all_values (mark_to m) (mark_from m)) (λ u. phrase_of_form ms (later m ms known)) (λ u v r. record { value = tt; valid = tt; right = right_marks ms (later m ms known) }))

pub phrase_form : (text : List ℕ) → are_marks (split text) ≡ true
    → IsForm (λ (u : Unit {0}). marks text) all_values any (phrase text)
phrase_form text known = phrase_of_form (split text) known

pub closed_form : {X : Type 0} {s : X → List Token} {V : X → Type 0} {g : Token → Bool} {p : Reader X} (text : List ℕ)
    → are_marks (split text) ≡ true → Leads g (marks text) → IsForm s V g p
    → IsForm (λ x. s x ++ marks text) V any (closed p text)
closed_form {X} {s = s} {V = V} {g = g} {p = p} text known leads one =
    made_form (s2 s (λ x (u : Unit {0}). marks text)) (V2 V (λ x. all_values)) (λ x. s x ++ marks text) V any (λ (x : X × Unit {0}). x.0) (both p (λ x. phrase text))
    (λ x v. refl) (λ x v. v.0) (λ y v. ((y, tt), (v, tt), refl))
    (then_led one (λ x. phrase_form text known) (λ x v r. record { value = tt; valid = tt; right = right_marks (split text) known }) (λ x y v w. leads))

pub opened_form : {X : Type 0} {s : X → List Token} {V : X → Type 0} {f : Token → Bool} {p : Reader X} (text : List ℕ)
    → are_marks (split text) ≡ true → Example s V → IsForm s V f p → IsForm (λ x. marks text ++ s x) V f (opened text p)
opened_form {X} {s = s} {V = V} {f = f} {p = p} text known example one =
    made_form (s2 (λ (u : Unit {0}). marks text) (λ u. s)) (V2 all_values (λ u. V)) (λ x. marks text ++ s x) V f (λ (x : Unit {0} × X). x.1) (both (phrase text) (λ u. p))
    (λ x v. refl) (λ x v. v.1) (λ y v. ((tt, y), (tt, v), refl))
    (then_any (phrase_form text known) (λ u. one) (λ u v r. example))

-- ---- names and numbers

name_to : (t : Token) (n : Name) → the_name t ≡ Some n → (t ≡ name n) × Unit {0}
name_to (mark k) n e = absurd cc
name_to (name m) n e = (cc e, tt)
name_to (plain v) n e = absurd cc
name_to (sized w v) n e = absurd cc

pub name_form : IsForm (λ n. name n ∷ []) all_values any (one the_name)
name_form = one_form the_name name all_values name_to (λ n v. refl)

pub a_name : Example (λ n. name n ∷ []) all_values
a_name = record { value = codes "a_0"; valid = tt; right = (refl, tt) }

same_to : (n : Name) (t : Token) (u : Unit {0}) → the_same n t ≡ Some u → (t ≡ name n) × Unit {0}
same_to n (mark k) u e = absurd cc
same_to n (name m) u e = (ap (λ z. name z) (bytes_same m n (only_true (bytes_eq m n) tt u e)), tt)
same_to n (plain v) u e = absurd cc
same_to n (sized w v) u e = absurd cc

pub same_name_form : (n : Name) → IsForm (λ (u : Unit {0}). name n ∷ []) all_values any (one (the_same n))
same_name_form n = one_form (the_same n) (λ u. name n) all_values (same_to n) (λ u v. rw (bytes_self n) refl)

plain_to : (t : Token) (v : ℕ) → the_plain t ≡ Some v → (t ≡ plain v) × Unit {0}
plain_to (mark k) v e = absurd cc
plain_to (name m) v e = absurd cc
plain_to (plain w) v e = (cc e, tt)
plain_to (sized w x) v e = absurd cc

pub plain_form : IsForm (λ v. plain v ∷ []) all_values any (one the_plain)
plain_form = one_form the_plain plain all_values plain_to (λ n v. refl)

pub a_plain : Example (λ v. plain v ∷ []) all_values
a_plain = record { value = 0; valid = tt; right = (omega arith, tt) }

zero_to : (t : Token) (u : Unit {0}) → the_zero t ≡ Some u → (t ≡ plain 0) × Unit {0}
zero_to (mark k) u e = absurd cc
zero_to (name m) u e = absurd cc
zero_to (plain w) u e = (ap (λ z. plain z) (eqb-true w 0 (only_true (eqb w 0) tt u e)), tt)
zero_to (sized w x) u e = absurd cc

pub zero_form : IsForm (λ (u : Unit {0}). plain 0 ∷ []) all_values any (one the_zero)
zero_form = one_form the_zero (λ u. plain 0) all_values zero_to (λ n v. refl)

sized_to : (t : Token) (k : Const) → the_sized t ≡ Some k → (t ≡ const_token k) × Unit {0}
sized_to (mark m) k e = absurd cc
sized_to (name m) k e = absurd cc
sized_to (plain w) k e = absurd cc
sized_to (sized w x) k e =
    let made_is : Const = record { width = w; value = x } in
    let is : made_is ≡ k = cc e in
    (ap const_token is, tt)

pub sized_form : IsForm (λ k. const_token k ∷ []) all_values any (one the_sized)
sized_form = one_form the_sized const_token all_values sized_to (λ n v. refl)

pub a_const : Const
a_const = record { width = 1; value = 0 }

-- ---- operators and directions

abbrev Looked : {X : Type 0} → List ℕ → List ℕ → X → Option X → X → Type 0
Looked k m x rest y = ((k ≡ m) × (x ≡ y)) ⊎ (rest ≡ Some y)

looked : {X : Type 0} (k m : List ℕ) (x : X) (rest : Option X) (y : X) → cond (bytes_eq k m) (Some x) rest ≡ Some y
    → Looked k m x rest y
looked k m x rest y e =
    elim (bytes_eq k m) as (λ b. bytes_eq k m ≡ b → cond b (Some x) rest ≡ Some y → Looked k m x rest y) [
      | true ↦ λ is h. inl (bytes_same k m is, cc h)
      | false ↦ λ is h. inr h
    ] refl e

way_to : (t : Token) (o : Bool) → the_way t ≡ Some o → (t ≡ way_mark o) × Unit {0}
way_to (mark k) o e = elim (looked k (codes "output") true (cond (bytes_eq k (codes "input")) (Some false) None) o e) [
  | inl h ↦ (ap (λ z. mark z) h.0 ∙ ap way_mark h.1, tt)
  | inr g ↦ elim (looked k (codes "input") false None o g) [
    | inl h ↦ (ap (λ z. mark z) h.0 ∙ ap way_mark h.1, tt)
    | inr h ↦ absurd cc
  ]
]
way_to (name m) o e = absurd cc
way_to (plain w) o e = absurd cc
way_to (sized w x) o e = absurd cc

way_from : (o : Bool) → Unit {0} → the_way (way_mark o) ≡ Some o
way_from true v = refl
way_from false v = refl

pub way_form : IsForm (λ o. way_mark o ∷ []) all_values any (one the_way)
way_form = one_form the_way way_mark all_values way_to way_from

op_is : (k : List ℕ) (o : Op) → op_of k ≡ Some o → mark k ≡ op_mark o
op_is k o e =
    elim (looked k (codes "+") Add (cond (bytes_eq k (codes "-")) (Some Sub) (cond (bytes_eq k (codes "&")) (Some And) (cond (bytes_eq k (codes "|")) (Some Or) (cond (bytes_eq k (codes "^")) (Some Xor) (cond (bytes_eq k (codes "==")) (Some Equal) (cond (bytes_eq k (codes "<")) (Some Less) (None))))))) o e) as (λ u. mark k ≡ op_mark o) [
      | inl h ↦ ap (λ z. mark z) h.0 ∙ ap op_mark h.1
      | inr g0 ↦
          elim (looked k (codes "-") Sub (cond (bytes_eq k (codes "&")) (Some And) (cond (bytes_eq k (codes "|")) (Some Or) (cond (bytes_eq k (codes "^")) (Some Xor) (cond (bytes_eq k (codes "==")) (Some Equal) (cond (bytes_eq k (codes "<")) (Some Less) (None)))))) o g0) as (λ u. mark k ≡ op_mark o) [
            | inl h ↦ ap (λ z. mark z) h.0 ∙ ap op_mark h.1
            | inr g1 ↦
                elim (looked k (codes "&") And (cond (bytes_eq k (codes "|")) (Some Or) (cond (bytes_eq k (codes "^")) (Some Xor) (cond (bytes_eq k (codes "==")) (Some Equal) (cond (bytes_eq k (codes "<")) (Some Less) (None))))) o g1) as (λ u. mark k ≡ op_mark o) [
                  | inl h ↦ ap (λ z. mark z) h.0 ∙ ap op_mark h.1
                  | inr g2 ↦
                      elim (looked k (codes "|") Or (cond (bytes_eq k (codes "^")) (Some Xor) (cond (bytes_eq k (codes "==")) (Some Equal) (cond (bytes_eq k (codes "<")) (Some Less) (None)))) o g2) as (λ u. mark k ≡ op_mark o) [
                        | inl h ↦ ap (λ z. mark z) h.0 ∙ ap op_mark h.1
                        | inr g3 ↦
                            elim (looked k (codes "^") Xor (cond (bytes_eq k (codes "==")) (Some Equal) (cond (bytes_eq k (codes "<")) (Some Less) (None))) o g3) as (λ u. mark k ≡ op_mark o) [
                              | inl h ↦ ap (λ z. mark z) h.0 ∙ ap op_mark h.1
                              | inr g4 ↦
                                  elim (looked k (codes "==") Equal (cond (bytes_eq k (codes "<")) (Some Less) (None)) o g4) as (λ u. mark k ≡ op_mark o) [
                                    | inl h ↦ ap (λ z. mark z) h.0 ∙ ap op_mark h.1
                                    | inr g5 ↦
                                        elim (looked k (codes "<") Less (None) o g5) as (λ u. mark k ≡ op_mark o) [
                                          | inl h ↦ ap (λ z. mark z) h.0 ∙ ap op_mark h.1
                                          | inr g6 ↦
                                              absurd cc
                                        ]
                                  ]
                            ]
                      ]
                ]
          ]
    ]

op_to : (t : Token) (o : Op) → the_op t ≡ Some o → (t ≡ op_mark o) × Unit {0}
op_to (mark k) o e = (op_is k o e, tt)
op_to (name m) o e = absurd cc
op_to (plain w) o e = absurd cc
op_to (sized w x) o e = absurd cc

op_from : (o : Op) → Unit {0} → the_op (op_mark o) ≡ Some o
op_from Add v = refl
op_from Sub v = refl
op_from And v = refl
op_from Or v = refl
op_from Xor v = refl
op_from Equal v = refl
op_from Less v = refl

pub op_form : IsForm (λ o. op_mark o ∷ []) all_values any (one the_op)
op_form = one_form the_op op_mark all_values op_to op_from

-- ---- ranges

pub range_form : IsForm range_tokens all_values any range_at
unfolding range_at
range_form =
    opened_form (codes "[") refl (record { value = 0; valid = tt; right = (omega arith, (tt, (omega arith, (tt, tt)))) })
    (made_form (s2 (λ h. (plain h ∷ []) ++ marks (codes ":")) (λ h (u : Unit {0}). (plain 0 ∷ []) ++ marks (codes "]"))) (V2 all_values (λ h. all_values)) (λ h. plain h ∷ (marks (codes ":") ++ (plain 0 ∷ marks (codes "]")))) all_values any first
    (both (closed (one the_plain) (codes ":")) (λ h. closed (one the_zero) (codes "]")))
    (λ x v. refl) (λ x v. tt) (λ y v. ((y, tt), (tt, tt), refl))
    (then_any (closed_form (codes ":") refl refl plain_form) (λ h. closed_form (codes "]") refl refl zero_form) (λ h v r. record { value = tt; valid = tt; right = (omega arith, (tt, tt)) })))

pub a_range : Example range_tokens all_values
a_range = record { value = 0; valid = tt; right = (tt, (omega arith, (tt, (omega arith, (tt, tt))))) }
