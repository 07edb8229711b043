use Rattle.std.proofs.Common.{refl}
use Rattle.trace_read.proofs.TextLemmas.{no_field_at, one_field_at}
use Rattle.trace_read.proofs.text.next_field.Goals as goal

pub returns-then-end-eq0-clause-split : goal.returns-then-end-eq0-clause-split
returns-then-end-eq0-clause-split c =
    no_field_at _ _ _ c.ink_at-start.ensures.value c.blank_at-end.ensures.value c.if-end-eq0.true

pub returns-then-end-eq0-clause-some : goal.returns-then-end-eq0-clause-some
returns-then-end-eq0-clause-some c =
    no_field_at _ _ _ c.ink_at-start.ensures.value c.blank_at-end.ensures.value c.if-end-eq0.true

pub returns-then-end-eq0-clause-less : goal.returns-then-end-eq0-clause-less
returns-then-end-eq0-clause-less c =
    no_field_at _ _ _ c.ink_at-start.ensures.value c.blank_at-end.ensures.value c.if-end-eq0.true

pub returns-clause-split : goal.returns-clause-split
returns-clause-split c =
    one_field_at _ _ _ _ c.ink_at-start.ensures.value refl c.blank_at-end.ensures.value c.if-end-eq0.false
