use Rattle.std.proofs.Common.{sym, ◌∙◌, refl}
use Rattle.noc_model.specs.Place.{class_after}
use Rattle.dor_routes.proofs.class_after.Goals as goal

pub returns-then-is_wrap-clause-value : goal.returns-then-is_wrap-clause-value
unfolding class_after
returns-then-is_wrap-clause-value c = rw (sym c.is_wrap.ensures.value ∙ c.if-is_wrap.true) refl

pub returns-then-is_same_dim-clause-value : goal.returns-then-is_same_dim-clause-value
unfolding class_after
returns-then-is_same_dim-clause-value c =
    rw (sym c.is_wrap.ensures.value ∙ c.if-is_wrap.false, ← c.of_port-came.ensures, ← c.of_port-goes.ensures, sym c.is_same_dim.ensures ∙ c.if-is_same_dim.true) refl

pub returns-else-is_same_dim-clause-value : goal.returns-else-is_same_dim-clause-value
unfolding class_after
returns-else-is_same_dim-clause-value c =
    rw (sym c.is_wrap.ensures.value ∙ c.if-is_wrap.false, ← c.of_port-came.ensures, ← c.of_port-goes.ensures, sym c.is_same_dim.ensures ∙ c.if-is_same_dim.false) refl
