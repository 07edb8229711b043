-- Texts of a loop, put one after another.
use Rattle.std.proofs.Common.{◌≡◌, ℕ, zero, suc, ◌+◌, ◌-◌, ◌<◌, List, [], ◌∷◌, ◌++◌, refl, sym, ap, ◌∙◌, subst, arith}
use Rattle.std.specs.Prelude.{flat_map, Some, None, Result, Err, pos}
use Rattle.noc_model.specs.Plan.{Plan, name_of}
use Rattle.noc_model.specs.Place.{neighbour, owner}
use Rattle.std.specs.List.{range_with_len}
use Rattle.std.proofs.lemmas.List.{append-nil}
use Rattle.std.proofs.lemmas.List.Concat.{flat_map-append}
use Rattle.surf_base.specs.Block.{Stream, Puts, BreaksOff, Writes}
use Rattle.surf_base.proofs.Blocks.{Puts-then, BreaksOff-then, BreaksOff-more}
use Rattle.surf_cli.specs.Texts.{texts_below}
use Rattle.surf_cli.specs.Schedule.{port_text, owner_line, link_line}

range-append : (a i j : ℕ) → range_with_len a (i + j) ≡ range_with_len a i ++ range_with_len (a + i) j
range-append a zero j = let n : 0 + j ≡ j = omega arith in let b : a + 0 ≡ a = omega arith in rw (n, b) refl
range-append a (suc i) j =
    let n : suc i + j ≡ suc (i + j) = omega arith in
    let b : a + 1 + i ≡ a + suc i = omega arith in
    rw n (ap (λ (xs : List ℕ). a ∷ xs) (range-append (a + 1) i j ∙ ap (λ k. range_with_len (a + 1) i ++ range_with_len k j) b))

texts-append : (i j : ℕ) (text : ℕ → List ℕ) → texts_below (i + j) text ≡ texts_below i text ++ flat_map text (range_with_len i j)
texts-append i j text =
    let z : 0 + i ≡ i = omega arith in
    ap (flat_map text) (range-append 0 i j) ∙ flat_map-append text (range_with_len 0 i) (range_with_len (0 + i) j)
    ∙ ap (λ k. texts_below i text ++ flat_map text (range_with_len k j)) z

texts-more : (i : ℕ) (text : ℕ → List ℕ) → texts_below (i + 1) text ≡ texts_below i text ++ text i
texts-more i text = texts-append i 1 text ∙ ap (λ z. texts_below i text ++ z) (append-nil (text i))

-- the next text of a loop
pub Puts-next : (s t u : Stream) (i : ℕ) (text : ℕ → List ℕ) → Puts s t (texts_below i text) → Puts t u (text i) → Puts s u (texts_below (i + 1) text)
Puts-next s t u i text p q = subst (Puts s u) (sym (texts-more i text)) (Puts-then s t u (texts_below i text) (text i) p q)

-- a loop that breaks off
pub BreaksOff-loop : (s t u : Stream) (i n : ℕ) (text : ℕ → List ℕ) → i < n → Puts s t (texts_below i text) → BreaksOff t u (text i) → BreaksOff s u (texts_below n text)
BreaksOff-loop s t u i n text less p q =
    let e : i + 1 + (n - (i + 1)) ≡ n = omega arith in
    let whole : texts_below n text ≡ texts_below (i + 1) text ++ flat_map text (range_with_len (i + 1) (n - (i + 1))) =
    ap (λ k. texts_below k text) (sym e) ∙ texts-append (i + 1) (n - (i + 1)) text in
    let next : BreaksOff s u (texts_below (i + 1) text) = subst (BreaksOff s u) (sym (texts-more i text)) (BreaksOff-then s t u (texts_below i text) (text i) p q) in
    subst (BreaksOff s u) (sym whole) (BreaksOff-more s u (texts_below (i + 1) text) (flat_map text (range_with_len (i + 1) (n - (i + 1)))) next)

-- a whole loop
pub Puts-loop : (s t : Stream) (i n : ℕ) (text : ℕ → List ℕ) → i ≡ n → Puts s t (texts_below i text) → Puts s t (texts_below n text)
Puts-loop s t i n text e p = subst (λ k. Puts s t (texts_below k text)) e p

-- what broke off is the answer of an exit by `?`
pub Writes-broken : {T E : Type 0} (r : Result T E) (e : E) (s t : Stream) (bytes : List ℕ) → r ≡ Err e → BreaksOff s t bytes → Writes r s t bytes
Writes-broken r e s t bytes is p = subst (λ x. Writes x s t bytes) (sym is) p

same-from : (a n : ℕ) (f g : ℕ → List ℕ) → ((i : ℕ) → i < a + n → f i ≡ g i) → flat_map f (range_with_len a n) ≡ flat_map g (range_with_len a n)
same-from a zero f g same = refl
same-from a (suc n) f g same = ap (λ t. f a ++ t) (same-from (a + 1) n f g (λ i less. same i (omega arith))) ∙ ap (λ t. t ++ flat_map g (range_with_len (a + 1) n)) (same a (omega arith))

-- texts that are the same one by one
pub texts-same : (n : ℕ) (f g : ℕ → List ℕ) → ((i : ℕ) → i < n → f i ≡ g i) → texts_below n f ≡ texts_below n g
texts-same n f g same = same-from 0 n f g (λ i less. same i (omega arith))

-- a port with a link has a line
pub port_text-some : (p : Plan) (t n port m : ℕ) → neighbour p n port ≡ Some m → port_text p t n port ≡ owner_line p t n port
unfolding port_text
port_text-some p t n port m e = rw e refl

-- a port without a link has none
pub port_text-none : (p : Plan) (t n port : ℕ) → neighbour p n port ≡ None → port_text p t n port ≡ []
unfolding port_text
port_text-none p t n port e = rw e refl

-- what a line says is the text of its port
pub Writes-port : {T E : Type 0} (r : Result T E) (s u : Stream) (p : Plan) (t n port m : ℕ) (name : List ℕ) → neighbour p n port ≡ Some m
    → name ≡ name_of p (owner p n port (pos t)) → Writes r s u (link_line t n port name) → Writes r s u (port_text p t n port)
Writes-port r s u p t n port m name link named h =
    subst (Writes r s u) (sym (port_text-some p t n port m link)) (subst (λ (x : List ℕ). Writes r s u (link_line t n port x)) named h)
