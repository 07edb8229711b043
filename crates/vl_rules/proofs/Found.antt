-- What a table has after a name got a value.
use Rattle.std.proofs.Common.{◌≡◌, ℕ, Bool, true, false, cond, List, [], ◌∷◌, refl, sym, ap, ◌∙◌, bytes_eq}
use Rattle.std.specs.Prelude.{Option, Some}
use Rattle.std.specs.Map.{lookup}
use Rattle.std.proofs.lemmas.Bool.{false≢true}
use Rattle.indexmap.specs.IndexMap.{insert_entry}
use Rattle.vl_tree.proofs.Single.{bytes_self, bytes_same}

-- an entry before which the name is not
behind : {V : Type 0} (a b n : List ℕ) (v w : V) (rest after : Option V) (s t : Bool) → bytes_eq a b ≡ false
    → bytes_eq n b ≡ s → bytes_eq n a ≡ t → after ≡ cond t (Some v) rest
    → cond s (Some w) after ≡ cond t (Some v) (cond s (Some w) rest)
behind a b n v w rest after true true f p q e =
    absurd (false≢true (sym f ∙ ap (bytes_eq a) (sym (bytes_same n b p) ∙ bytes_same n a q) ∙ bytes_self a))
behind a b n v w rest after true false f p q e = refl
behind a b n v w rest after false t f p q e = e

-- an entry of the name itself
here : {V : Type 0} (a b n : List ℕ) (v w : V) (rest : Option V) (s : Bool) → bytes_eq a b ≡ true → bytes_eq n b ≡ s
    → cond s (Some v) rest ≡ cond (bytes_eq n a) (Some v) (cond s (Some w) rest)
here a b n v w rest s f p = rw (ap (bytes_eq n) (bytes_same a b f) ∙ p) (go s)
  where
    go : (s : Bool) → cond s (Some v) rest ≡ cond s (Some v) (cond s (Some w) rest)
    go true = refl
    go false = refl

-- the name has the new value, and each other one what it had
pub put : {K V : Type 0} (name : K → List ℕ) (es : List (K × V)) (k : K) (v : V) (n : List ℕ)
    → lookup (λ x. bytes_eq n (name x)) (insert_entry (λ a b. bytes_eq (name a) (name b)) es k v) ≡ cond (bytes_eq n (name k)) (Some v) (lookup (λ x. bytes_eq n (name x)) es)
put name [] k v n = refl
put name (e ∷ es) k v n = go (bytes_eq (name k) (name e.0)) refl (put name es k v n)
  where
    go : (b : Bool) → bytes_eq (name k) (name e.0) ≡ b
        → lookup (λ x. bytes_eq n (name x)) (insert_entry (λ a b. bytes_eq (name a) (name b)) es k v) ≡ cond (bytes_eq n (name k)) (Some v) (lookup (λ x. bytes_eq n (name x)) es)
        → lookup (λ x. bytes_eq n (name x)) (cond b ((e.0, v) ∷ es) (e ∷ insert_entry (λ a b. bytes_eq (name a) (name b)) es k v)) ≡ cond (bytes_eq n (name k)) (Some v) (cond (bytes_eq n (name e.0)) (Some e.1) (lookup (λ x. bytes_eq n (name x)) es))
    go true f rest =
        here (name k) (name e.0) n v e.1 (lookup (λ x. bytes_eq n (name x)) es) (bytes_eq n (name e.0)) f refl
    go false f rest =
        behind (name k) (name e.0) n v e.1 (lookup (λ x. bytes_eq n (name x)) es) (lookup (λ x. bytes_eq n (name x)) (insert_entry (λ a b. bytes_eq (name a) (name b)) es k v)) (bytes_eq n (name e.0)) (bytes_eq n (name k)) f refl refl rest
