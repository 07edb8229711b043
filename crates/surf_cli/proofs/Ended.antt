-- How the writing of an answer ends.
use Rattle.std.proofs.Common.{◌≡◌, ℕ, List, [], sym, subst}
use Rattle.std.specs.Prelude.{Option, Result, Ok, Err, OnOk}
use Rattle.surf_base.specs.Block.{Stream, stream, Puts, BreaksOff, Writes}
use Rattle.surf_base.proofs.Ended.{GotPrefix-broken, GotPrefix-last, appended-flushed}
use Rattle.surf_cli.specs.Answers.{Delivers}

-- an answer that breaks off
pub Delivers-broken : {T E : Type 0} (r : Result T E) (e : E) (w : Option (List ℕ)) (b : List ℕ) (f : ℕ) (t : Stream) (bytes : List ℕ) → r ≡ Err e → b ≡ [] → BreaksOff (stream w b f) t bytes
    → Delivers r w t.written f t.faults bytes
Delivers-broken r e w b f t bytes is empty p = subst (λ x. Delivers x w t.written f t.faults bytes) (sym is) (GotPrefix-broken w b f t bytes empty p)

-- an answer that is put, and then handed on
pub Delivers-flushed : {T E : Type 0} (r : Result T E) (w : Option (List ℕ)) (b : List ℕ) (f : ℕ) (t u : Stream) (bytes : List ℕ) → b ≡ [] → Puts (stream w b f) t bytes → Writes r t u [] → OnOk r (u.gathered ≡ [])
    → Delivers r w u.written f u.faults bytes
Delivers-flushed (Ok x) w b f t u bytes empty p q last = appended-flushed w b f t u bytes empty p q last
Delivers-flushed (Err e) w b f t u bytes empty p q last = GotPrefix-last w b f t u bytes empty p q
