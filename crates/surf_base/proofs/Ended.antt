-- How putting by way of a block ends.
use Rattle.std.proofs.Common.{◌≡◌, ℕ, ◌≤◌, List, [], ◌++◌, length, take, sym, ap, ◌∙◌, subst, arith}
use Rattle.std.specs.Prelude.{Option, Result, Ok, Err, OnOk, OnErr}
use Rattle.std.proofs.lemmas.List.{append-nil, length-append}
use Rattle.std.proofs.Math.Seq.{take-append_seam}
use Rattle.surf_base.specs.Outside.{appended, GotPrefix, Rose}
use Rattle.surf_base.specs.Block.{Stream, stream, Puts, BreaksOff, Writes}
use Rattle.surf_base.proofs.Blocks.{Puts-then, BreaksOff-then}

-- what breaks off with nothing gathered before has written a prefix
pub GotPrefix-broken : (w : Option (List ℕ)) (b : List ℕ) (f : ℕ) (t : Stream) (bytes : List ℕ) → b ≡ []
    → BreaksOff (stream w b f) t bytes → GotPrefix w t.written bytes × (f ≤ t.faults) × Rose f t.faults
GotPrefix-broken w b f t bytes empty p =
    let kept : bytes ≡ p.front ++ p.rest = ap (λ z. z ++ bytes) (sym empty) ∙ p.kept in (
      (
        length p.front,
        omega (arith, ap length kept, length-append p.front p.rest),
        p.sent ∙ ap (appended w) (sym (ap (take (length p.front)) kept ∙ take-append_seam p.front p.rest)),
      ),
      p.faults,
      p.rose,
    )

-- the bytes are put, and then handing them on breaks off
pub GotPrefix-last : (w : Option (List ℕ)) (b : List ℕ) (f : ℕ) (t u : Stream) (bytes : List ℕ) → b ≡ []
    → Puts (stream w b f) t bytes → BreaksOff t u []
    → GotPrefix w u.written bytes × (f ≤ u.faults) × Rose f u.faults
GotPrefix-last w b f t u bytes empty p q =
    GotPrefix-broken w b f u bytes empty (subst (BreaksOff (stream w b f) u) (append-nil bytes) (BreaksOff-then (stream w b f) t u bytes [] p q))

-- the bytes are put, and handed on
pub appended-flushed : (w : Option (List ℕ)) (b : List ℕ) (f : ℕ) (t u : Stream) (bytes : List ℕ) → b ≡ []
    → Puts (stream w b f) t bytes → Puts t u [] → u.gathered ≡ []
    → (u.written ≡ appended w bytes) × (f ≤ u.faults)
appended-flushed w b f t u bytes empty p q last =
    let whole = Puts-then (stream w b f) t u bytes [] p q in
    let kept : bytes ≡ whole.front =
    ap (λ z. z ++ bytes) (sym empty) ∙ ap (λ z. b ++ z) (sym (append-nil bytes)) ∙ whole.kept
    ∙ ap (λ z. whole.front ++ z) last ∙ append-nil whole.front in
    (whole.sent ∙ ap (appended w) (sym kept), whole.faults)

-- the answer of handing on, after the bytes are put
pub Writes-flushed : {T E : Type 0} (r : Result T E) (w : Option (List ℕ)) (b : List ℕ) (f : ℕ) (t u : Stream)
    (bytes : List ℕ) → b ≡ [] → Puts (stream w b f) t bytes
    → Writes r t u [] → OnOk r (u.gathered ≡ [])
    → (f ≤ u.faults) × OnOk r (u.written ≡ appended w bytes) × OnErr r (Rose f u.faults) × OnErr r (GotPrefix w u.written bytes)
Writes-flushed (Ok v) w b f t u bytes empty p q last =
    let all = appended-flushed w b f t u bytes empty p q last in
    (all.1, all.0, tt, tt)
Writes-flushed (Err e) w b f t u bytes empty p q last =
    let some = GotPrefix-last w b f t u bytes empty p q in
    (some.1, tt, some.2, some.0)
