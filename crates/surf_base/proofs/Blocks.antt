-- Bytes put after bytes, by way of a block.
use Rattle.std.proofs.Common.{◌≡◌, ℕ, ◌≤◌, List, [], ◌++◌, sym, ap, ◌∙◌, append_assoc, take, drop, arith}
use Rattle.std.proofs.lemmas.List.{append-nil, take-append-drop}
use Rattle.std.specs.Prelude.{Option, Result, Ok, Err, OnOk, OnErr}
use Rattle.surf_base.specs.Outside.{appended, GotPrefix, Rose}
use Rattle.surf_base.specs.Block.{Stream, stream, Puts, BreaksOff, Writes}
use Rattle.surf_base.proofs.OutsideLemmas.{appended-nothing, appended-append, Rose-wider}

-- nothing is put
pub Puts-nothing : (s : Stream) → Puts s s []
Puts-nothing s =
    record { front = []; sent = sym (appended-nothing s.written); kept = append-nil s.gathered; faults = omega arith }

-- two puts are one
pub Puts-then : (s t u : Stream) (x y : List ℕ) → Puts s t x → Puts t u y → Puts s u (x ++ y)
Puts-then s t u x y p q = record {
  front = p.front ++ q.front;
  sent = q.sent ∙ ap (λ v. appended v q.front) p.sent ∙ appended-append s.written p.front q.front;
  kept = sym (append_assoc s.gathered x y) ∙ ap (λ z. z ++ y) p.kept ∙ append_assoc p.front t.gathered y ∙ ap (λ z. p.front ++ z) q.kept ∙ sym (append_assoc p.front q.front u.gathered);
  faults = omega (arith, p.faults, q.faults);
}

-- a put, and then one that breaks off
pub BreaksOff-then : (s t u : Stream) (x y : List ℕ) → Puts s t x → BreaksOff t u y → BreaksOff s u (x ++ y)
BreaksOff-then s t u x y p q = record {
  front = p.front ++ q.front;
  rest = q.rest;
  sent = q.sent ∙ ap (λ v. appended v q.front) p.sent ∙ appended-append s.written p.front q.front;
  kept = sym (append_assoc s.gathered x y) ∙ ap (λ z. z ++ y) p.kept ∙ append_assoc p.front t.gathered y ∙ ap (λ z. p.front ++ z) q.kept ∙ sym (append_assoc p.front q.front q.rest);
  faults = omega (arith, p.faults, q.faults);
  rose = Rose-wider s.faults t.faults u.faults u.faults p.faults (omega arith) q.rose;
}

-- what breaks off within these bytes breaks off within more
pub BreaksOff-more : (s t : Stream) (x y : List ℕ) → BreaksOff s t x → BreaksOff s t (x ++ y)
BreaksOff-more s t x y p = record {
  front = p.front;
  rest = p.rest ++ y;
  sent = p.sent;
  kept = sym (append_assoc s.gathered x y) ∙ ap (λ z. z ++ y) p.kept ∙ append_assoc p.front p.rest y;
  faults = p.faults;
  rose = p.rose;
}

-- the answer of what was done after a put is that of both
pub Writes-then : {T E : Type 0} (r : Result T E) (s t u : Stream) (x y : List ℕ) → Puts s t x → Writes r t u y
    → Writes r s u (x ++ y)
Writes-then (Ok v) s t u x y p q = Puts-then s t u x y p q
Writes-then (Err e) s t u x y p q = BreaksOff-then s t u x y p q

-- an error on the way to more bytes
pub Writes-err : {T E : Type 0} (r : Result T E) (e : E) (s t : Stream) (x y : List ℕ) → r ≡ Err e → BreaksOff s t x
    → Writes r s t (x ++ y)
Writes-err r e s t x y is p = rw is (BreaksOff-more s t x y p)

-- a piece is gathered
pub Puts-gathered : (w : Option (List ℕ)) (b b₁ piece : List ℕ) (f : ℕ) → b₁ ≡ b ++ piece
    → Puts (stream w b f) (stream w b₁ f) piece
Puts-gathered w b b₁ piece f e =
    record { front = []; sent = sym (appended-nothing w); kept = sym e; faults = omega arith }

-- all that is gathered is written
pub Puts-flushed : (w w₁ : Option (List ℕ)) (b b₁ : List ℕ) (f g : ℕ) → w₁ ≡ appended w b → b₁ ≡ [] → f ≤ g
    → Puts (stream w b f) (stream w₁ b₁ g) []
Puts-flushed w w₁ b b₁ f g sent empty faults =
    record { front = b; sent = sent; kept = ap (λ z. b ++ z) (sym empty); faults = faults }

-- a front of what is gathered was written
pub BreaksOff-within : (w w₁ : Option (List ℕ)) (b b₁ : List ℕ) (f g : ℕ) → GotPrefix w w₁ b → f ≤ g → Rose f g
    → BreaksOff (stream w b f) (stream w₁ b₁ g) []
BreaksOff-within w w₁ b b₁ f g p le rose =
    record { front = take p.0 b; rest = drop p.0 b; sent = p.2; kept = append-nil b ∙ sym (take-append-drop p.0 b); faults = le; rose = rose }

-- a piece is written, with nothing gathered
pub Puts-written : (w w₁ : Option (List ℕ)) (b piece : List ℕ) (f g : ℕ) → b ≡ [] → w₁ ≡ appended w piece → f ≤ g
    → Puts (stream w b f) (stream w₁ b g) piece
Puts-written w w₁ b piece f g empty sent faults =
    record { front = piece; sent = sent; kept = ap (λ z. z ++ piece) empty ∙ sym (append-nil piece) ∙ ap (λ z. piece ++ z) (sym empty); faults = faults }

-- a front of a piece was written, with nothing gathered
pub BreaksOff-written : (w w₁ : Option (List ℕ)) (b piece : List ℕ) (f g : ℕ) → b ≡ [] → GotPrefix w w₁ piece → f ≤ g
    → Rose f g → BreaksOff (stream w b f) (stream w₁ b g) piece
BreaksOff-written w w₁ b piece f g empty p le rose =
    record { front = take p.0 piece; rest = drop p.0 piece; sent = p.2; kept = ap (λ z. z ++ piece) empty ∙ sym (take-append-drop p.0 piece); faults = le; rose = rose }

-- the answer of writing a piece, with nothing gathered
pub Writes-written : {T E : Type 0} (r : Result T E) (w w₁ : Option (List ℕ)) (b piece : List ℕ) (f g : ℕ) → b ≡ []
    → OnOk r (w₁ ≡ appended w piece) → OnErr r (GotPrefix w w₁ piece) → OnErr r (Rose f g) → f ≤ g
    → Writes r (stream w b f) (stream w₁ b g) piece
Writes-written (Ok v) w w₁ b piece f g empty ok prefix rose le = Puts-written w w₁ b piece f g empty ok le
Writes-written (Err e) w w₁ b piece f g empty ok prefix rose le =
    BreaksOff-written w w₁ b piece f g empty prefix le rose
