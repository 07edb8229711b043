-- Whole designs: one design at most, and the place of the first fault.
use Rattle.std.proofs.Common.{◌≡◌, ℕ, ◌+◌, ◌≤◌, List, [], ◌∷◌, ◌++◌, length, Result, Ok, Err, refl, sym, ap, subst, ◌∙◌, append_assoc, arith, inl, inr}
use Rattle.std.specs.List.{AllByRecursion}
use Rattle.std.proofs.lemmas.List.{append-nil}
use Rattle.vl_tree.specs.Values.{Design}
use Rattle.vl_tree.specs.Tokens.{Token, Placed, AreTokens, tokens_of}
use Rattle.vl_tree.specs.Grammar.{design_tokens, DesignFits}
use Rattle.vl_tree.specs.Spells.{text_of, Spells, IsPlain, Begins, GrammarPlace}
use Rattle.vl_tree.specs.Reading.{left_of, modules_at, ended_at, ended, design_at}
use Rattle.vl_tree.proofs.Forms.{Alike, any_follows, done, ok_pair, Found, Failed, Completes, complete, right_append, right_front, text_append}
use Rattle.vl_tree.proofs.Modules.{modules_form, a_design}
use Rattle.vl_tree.proofs.Lexed.{tokens_right, tokens_within, within_rest}

modules_again : (d : Design) (front r : List Placed) → DesignFits d → AreTokens (design_tokens d)
    → text_of front ≡ design_tokens d → modules_at (front ++ r) ≡ Ok (d, r)
modules_again d front r fits right e = modules_form.again d fits front r right e (any_follows r)

pub design_again : (d : Design) (ts : List Placed) → DesignFits d → AreTokens (design_tokens d)
    → text_of ts ≡ design_tokens d → design_at ts ≡ Ok d
unfolding design_at
design_again d ts fits right e =
    let a : modules_at ts ≡ Ok (d, []) = ap modules_at (sym (append-nil ts)) ∙ modules_again d ts [] fits right e in
    rw a refl

ended_ok : (o : Result (Design × List Placed) ℕ) (d : Design) → ended o ≡ Ok d → o ≡ Ok (d, [])
ended_ok (Err n) d e = absurd cc
ended_ok (Ok x) d e =
    elim x.1 as (λ r. ended_at x.0 r ≡ Ok d → done x.0 r ≡ done d []) [
      | [] ↦ λ h. let same : x.0 ≡ d = cc h in ap (λ y. done y []) same
      | t ∷ ts ↦ λ h. absurd cc
    ] e

pub design_found : (ts : List Placed) (d : Design) → design_at ts ≡ Ok d → DesignFits d × (text_of ts ≡ design_tokens d)
unfolding design_at
design_found ts d e =
    let f = (modules_form.at ts).found d [] (ended_ok (modules_at ts) d e) in
    (f.valid, ap text_of (f.parts ∙ append-nil f.front) ∙ f.spelled)

pub one_spelled : (bytes : List ℕ) (c d : Design) → Spells bytes c → Spells bytes d → c ≡ d
one_spelled bytes c d p q =
    let right = tokens_right bytes in
    let a = design_again c (tokens_of bytes) p.fits (subst AreTokens p.tokens right) p.tokens in
    let b = design_again d (tokens_of bytes) q.fits (subst AreTokens q.tokens right) q.tokens in
    cc (a, b)

pub plain_spelled : (bytes : List ℕ) (d : Design) → Spells bytes d → IsPlain d
plain_spelled bytes d p = record { tokens = subst AreTokens p.tokens (tokens_right bytes); fits = p.fits }

-- ---- faults

-- tokens with no place
lift : List Token → List Placed
lift [] = []
lift (t ∷ ts) = record { token = t; left = 0 } ∷ lift ts

text_lift : (ts : List Token) → text_of (lift ts) ≡ ts
unfolding lift
text_lift [] = refl
text_lift (t ∷ ts) = ap (λ us. t ∷ us) (text_lift ts)

begins_of : (before : List Placed) → Completes design_tokens DesignFits (text_of before) → AreTokens (text_of before)
    → Begins (text_of before)
begins_of before c right = record {
  design = c.value;
  rest = c.rest;
  plain = record { tokens = subst AreTokens c.parts (right_append (text_of before) c.rest right c.right); fits = c.valid };
  parts = c.parts;
}

-- a text that begins with these tokens is read whole
read_on : (before : List Placed) (t : Placed) (b : Begins (text_of before ++ (t.token ∷ [])))
    → modules_at (before ++ (t ∷ lift b.rest)) ≡ Ok (b.design, [])
read_on before t b =
    let same : text_of (before ++ (t ∷ lift b.rest)) ≡ design_tokens b.design =
    text_append before (t ∷ lift b.rest) ∙ ap (λ us. text_of before ++ (t.token ∷ us)) (text_lift b.rest)
    ∙ sym (append_assoc (text_of before) (t.token ∷ []) b.rest) ∙ b.parts in
    ap modules_at (sym (append-nil (before ++ (t ∷ lift b.rest))))
    ∙ modules_again b.design (before ++ (t ∷ lift b.rest)) [] b.plain.fits b.plain.tokens same

-- where the modules stop
stops_at : (bytes : List ℕ) (n place : ℕ) → Failed design_tokens DesignFits modules_at (tokens_of bytes) n
    → modules_at (tokens_of bytes) ≡ Err n → place + n ≡ length bytes → GrammarPlace bytes place
unfolding design_at
stops_at bytes n place f e sum =
    let ts : List Placed = tokens_of bytes in
    let right : AreTokens (text_of f.before ++ text_of f.after) =
    subst AreTokens (ap text_of f.parts ∙ text_append f.before f.after) (tokens_right bytes) in
    let right_before : AreTokens (text_of f.before) = right_front (text_of f.before) (text_of f.after) right in
    let completes : Completes design_tokens DesignFits (text_of f.before) = elim f.viable as (λ u. Completes design_tokens DesignFits (text_of f.before)) [
      | inl none ↦ subst (λ us. Completes design_tokens DesignFits (text_of us)) (sym none) (complete design_tokens DesignFits a_design)
      | inr c ↦ c
    ] in
    let begins : Begins (text_of f.before) = begins_of f.before completes right_before in
    elim f.after as (λ us. ts ≡ f.before ++ us → n ≡ left_of us → ((vs : List Placed) → Alike us vs → modules_at (f.before ++ vs) ≡ Err n) → GrammarPlace bytes place) [
      | [] ↦ λ parts at dead.
          let all : ts ≡ f.before = parts ∙ append-nil f.before in
          inr (
            omega arith,
            subst (λ us. Begins (text_of us)) (sym all) begins,
            λ d plain same.
                let a : design_at ts ≡ Ok d = design_again d ts plain.fits plain.tokens same in
                let b : design_at ts ≡ Err n = rw e refl in
                cc (a, b),
          )
      | t ∷ us ↦ λ parts at dead.
          inl (f.before, t, us, parts, omega arith, begins, λ b. let a = read_on f.before t b in let c = dead (t ∷ lift b.rest) refl in cc (a, c))
    ] f.parts f.place f.dead

-- where tokens stand behind a design
stands_behind : (bytes : List ℕ) (d : Design) (t : Placed) (rest : List Placed) (place : ℕ)
    → Found design_tokens DesignFits modules_at (tokens_of bytes) d (t ∷ rest) → place + t.left ≡ length bytes
    → GrammarPlace bytes place
stands_behind bytes d t rest place f sum =
    let right : AreTokens (text_of f.front ++ text_of (t ∷ rest)) =
    subst AreTokens (ap text_of f.parts ∙ text_append f.front (t ∷ rest)) (tokens_right bytes) in
    let right_front : AreTokens (text_of f.front) = right_front (text_of f.front) (text_of (t ∷ rest)) right in
    let begins : Begins (text_of f.front) =
    record { design = d; rest = []; plain = record { tokens = subst AreTokens f.spelled right_front; fits = f.valid }; parts = append-nil (text_of f.front) ∙ f.spelled } in
    inl (
      f.front,
      t,
      rest,
      f.parts,
      sum,
      begins,
      λ b.
          let a : modules_at (f.front ++ (t ∷ lift b.rest)) ≡ Ok (b.design, []) = read_on f.front t b in
          let c : modules_at (f.front ++ (t ∷ lift b.rest)) ≡ Ok (d, t ∷ lift b.rest) =
          f.alike (t ∷ lift b.rest) refl in
          let k = ok_pair d b.design (t ∷ lift b.rest) [] (sym c ∙ a) in
          cc k.1,
    )

pub fault_place : (bytes : List ℕ) (n place : ℕ) → design_at (tokens_of bytes) ≡ Err n → place + n ≡ length bytes
    → GrammarPlace bytes place
unfolding design_at
fault_place bytes n place e sum =
    elim (modules_at (tokens_of bytes)) as (λ o. modules_at (tokens_of bytes) ≡ o → ended o ≡ Err n → GrammarPlace bytes place) [
      | Ok x ↦ λ is h.
          elim x.1 as (λ r. modules_at (tokens_of bytes) ≡ Ok (x.0, r) → ended_at x.0 r ≡ Err n → GrammarPlace bytes place) [
            | [] ↦ λ at g. absurd cc
            | t ∷ rest ↦ λ at g. let m : t.left ≡ n = cc g in stands_behind bytes x.0 t rest place ((modules_form.at (tokens_of bytes)).found x.0 (t ∷ rest) at) (omega arith)
          ] is h
      | Err m ↦ λ is h. let same : m ≡ n = cc h in
          let at : modules_at (tokens_of bytes) ≡ Err n = is ∙ ap Err same in
          stops_at bytes n place ((modules_form.at (tokens_of bytes)).fails n (tokens_right bytes) at) at sum
    ] refl e

left_within : (n : ℕ) (ts : List Placed) → AllByRecursion (λ t. t.left ≤ n) ts → left_of ts ≤ n
left_within n [] h = omega arith
left_within n (t ∷ ts) h = h.0

-- no place lies outside the text
pub fault_within : (bytes : List ℕ) (n : ℕ) → design_at (tokens_of bytes) ≡ Err n → n ≤ length bytes
unfolding design_at
fault_within bytes n e =
    elim (modules_at (tokens_of bytes)) as (λ o. modules_at (tokens_of bytes) ≡ o → ended o ≡ Err n → n ≤ length bytes) [
      | Ok x ↦ λ is h.
          let f = (modules_form.at (tokens_of bytes)).found x.0 x.1 is in
          let l =
          left_within (length bytes) x.1 (within_rest (length bytes) f.front x.1 (subst (λ us. AllByRecursion (λ t. t.left ≤ length bytes) us) f.parts (tokens_within bytes))) in
          elim x.1 as (λ r. left_of r ≤ length bytes → ended_at x.0 r ≡ Err n → n ≤ length bytes) [
            | [] ↦ λ at g. absurd cc
            | t ∷ rest ↦ λ at g. let m : t.left ≡ n = cc g in omega arith
          ] l h
      | Err m ↦ λ is h.
          let same : m ≡ n = cc h in
          let f = (modules_form.at (tokens_of bytes)).fails n (tokens_right bytes) (is ∙ ap Err same) in
          let l =
          left_within (length bytes) f.after (within_rest (length bytes) f.before f.after (subst (λ us. AllByRecursion (λ t. t.left ≤ length bytes) us) f.parts (tokens_within bytes))) in
          omega (arith, f.place)
    ] refl e
