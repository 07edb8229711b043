-- A table of what is declared says where each name stands.
use Rattle.std.proofs.Common.{◌≡◌, ℕ, zero, suc, ◌<◌, Bool, true, false, List, [], ◌∷◌, length, take, refl, sym, ◌∙◌, ap, subst, bytes_eq, arith}
use Rattle.std.specs.Prelude.{Option, Some, None, slice_get, nat_lt, if◌then◌else◌}
use Rattle.std.proofs.Math.Seq.{take-length}
use Rattle.std.proofs.Math.Path.{fun_ext}
use Rattle.std.proofs.lemmas.Option.{none-some}
use Rattle.std.proofs.lemmas.Bool.Decides.{nat_tests}
use Rattle.vl_tree.specs.Values.{Name}
use Rattle.vl_model.specs.Meaning.{Widths}
use Rattle.vl_model.specs.Lines.{Line, Declared, declared, found, lookup, widths, net_bits, word_bits}
use Rattle.vl_model.proofs.Settling.{one-name}
use Rattle.vl_rules.specs.declared.names.Names.{Names}
use Rattle.vl_rules.specs.declared.scope.Entry.{Entry}
use Rattle.vl_rules.specs.Names as tables
use Rattle.vl_rules.specs.Scope.{before, declared_as, seen, Declares, widths_at}
use Rattle.vl_run.specs.Emit.{line_of, place_in}
use Rattle.vl_run.specs.Places.{ArePlaces}

-- the first line that declares the name
record First (lines : List Line) (n : Name) (x : Declared) : Type 0 where
  place : ℕ
  line : Line
  there : slice_get lines place ≡ Some line
  declares : declared line ≡ Some x
  none : lookup (take place lines) n ≡ None
  some : lookup (take (suc place) lines) n ≡ Some x
  named : bytes_eq n x.name ≡ true

first : (lines : List Line) (n : Name) (x : Declared) → lookup lines n ≡ Some x → First lines n x
first [] n x e = absurd (none-some x e)
first (l ∷ ls) n x e = go (declared l) refl (first ls n x)
  where
    here : (z : Declared) → declared l ≡ Some z → (lookup ls n ≡ Some x → First ls n x) → (b : Bool) → bytes_eq n z.name ≡ b → First (l ∷ ls) n x
    here z is later true same =
        let one : z ≡ x = cc (subst (λ b. (if b then Some z else lookup ls n) ≡ Some x) same (subst (λ o. found o n (lookup ls n) ≡ Some x) is e)) in
        record {
          place = 0;
          line = l;
          there = refl;
          declares = is ∙ ap (λ y. Some y) one;
          none = refl;
          some = ap (λ o. found o n None) is ∙ ap (λ b. if b then Some z else None) same ∙ ap (λ y. Some y) one;
          named = subst (λ (y : Declared). bytes_eq n y.name ≡ true) one same;
        }
    here z is later false other =
        let f = later (subst (λ b. (if b then Some z else lookup ls n) ≡ Some x) other (subst (λ o. found o n (lookup ls n) ≡ Some x) is e)) in
        record {
          place = suc f.place;
          line = f.line;
          there = f.there;
          declares = f.declares;
          none = ap (λ o. found o n (lookup (take f.place ls) n)) is ∙ ap (λ b. if b then Some z else lookup (take f.place ls) n) other ∙ f.none;
          some = ap (λ o. found o n (lookup (take (suc f.place) ls) n)) is ∙ ap (λ b. if b then Some z else lookup (take (suc f.place) ls) n) other ∙ f.some;
          named = f.named;
        }

    go : (o : Option Declared) → declared l ≡ o → (lookup ls n ≡ Some x → First ls n x) → First (l ∷ ls) n x
    go (Some z) is later = here z is later (bytes_eq n z.name) refl
    go None is later =
        let f = later (subst (λ o. found o n (lookup ls n) ≡ Some x) is e) in
        record {
          place = suc f.place;
          line = f.line;
          there = f.there;
          declares = f.declares;
          none = ap (λ o. found o n (lookup (take f.place ls) n)) is ∙ f.none;
          some = ap (λ o. found o n (lookup (take (suc f.place) ls) n)) is ∙ f.some;
          named = f.named;
        }

inside : {A : Type 0} (xs : List A) (i : ℕ) (x : A) → slice_get xs i ≡ Some x → i < length xs
inside [] i x e = absurd (none-some x e)
inside (y ∷ xs) zero x e = omega arith
inside (y ∷ xs) (suc i) x e = let h = inside xs i x e in omega arith

-- the table has the line
at-line : (o : Option Entry) (n : Name) (p : ℕ) (x : Declared) → before p n o ≡ None → before (suc p) n o ≡ Some x → line_of o ≡ p
at-line None n p x a b = absurd (none-some x b)
at-line (Some e) n p x a b = go (nat_lt e.line p) refl (nat_lt e.line (suc p)) refl
  where
    go : (c : Bool) → nat_lt e.line p ≡ c → (d : Bool) → nat_lt e.line (suc p) ≡ d → e.line ≡ p
    go true c d q = absurd (none-some (declared_as n e) (sym a ∙ ap (λ z. if z then Some (declared_as n e) else None) c))
    go false c true q = grind (arith, nat_tests)
    go false c false q = absurd (none-some x (sym (ap (λ z. if z then Some (declared_as n e) else None) q) ∙ b))

module _ (t : Names Entry) (lines : List Line) (d : Declares t lines) where
  placed : (n : Name) (x : Declared) → lookup lines n ≡ Some x → (f : First lines n x) × (place_in t n ≡ f.place)
  placed n x e =
      let f = first lines n x e in
      (f, at-line (tables.found t n) n f.place x (d f.place n ∙ f.none) (d (suc f.place) n ∙ f.some))

  pub places-of : ArePlaces lines (place_in t)
  places-of = record {
    below = λ n x e. (let p = placed n x e in let h = inside lines p.0.place p.0.line p.0.there in omega arith);
    apart = λ n m x y a b same. (
        let p = placed n x a in
        let q = placed m y b in
        let together : p.0.place ≡ q.0.place = sym p.1 ∙ same ∙ q.1 in
        let lines-same : p.0.line ≡ q.0.line = cc (sym p.0.there ∙ ap (slice_get lines) together ∙ q.0.there) in
        let both : x ≡ y = cc (sym p.0.declares ∙ ap declared lines-same ∙ q.0.declares) in
        one-name n x.name p.0.named ∙ ap (λ (z : Declared). z.name) both ∙ sym (one-name m y.name q.0.named));
    line = λ n x e. (let p = placed n x e in (p.0.line, ap (slice_get lines) p.1 ∙ p.0.there, p.0.declares));
  }

  pub widths-of : (k : ℕ) → k ≡ length lines → widths_at t k ≡ widths lines
  widths-of k e =
      let same : seen t k ≡ lookup lines = fun_ext (λ n. d k n ∙ ap (λ xs. lookup xs n) (ap (λ j. take j lines) e ∙ take-length lines)) in
      ap (λ (f : Name → Option Declared). to-widths f) same
    where
      to-widths : (Name → Option Declared) → Widths
      to-widths f = record { net = λ n. net_bits (f n); word = λ n. word_bits (f n) }
