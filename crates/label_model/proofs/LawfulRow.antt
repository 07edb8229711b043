-- A design with a lawful labelling: a bit that turns in each cycle, shown at an output. Its labels are known in both phases.
use Rattle.std.proofs.Common.{◌≡◌, ℕ, zero, suc, ◌+◌, ◌%◌, ◌<◌, Bool, true, false, [], ◌∷◌, refl, bytes_eq, arith}
use Rattle.std.specs.Prelude.{Some, None, codes, if◌then◌else◌}
use Rattle.std.specs.Int.{bit_at}
use Rattle.std.specs.List.{AllByRecursion}
use Rattle.std.proofs.lemmas.Bool.{false≢true}
use Rattle.vl_tree.specs.declared.tree.TopItem.TheVariants.{Instance}
use Rattle.vl_tree.specs.Values.{Name, net, not, reg, assign, clocked, Design}
use Rattle.vl_model.specs.Lines.{top_lines, is_input, kind_passes}
use Rattle.vl_model.specs.declared.kind.Kind.TheVariants.{Output, Child}
use Rattle.vl_model.specs.Rules.{is_kind, first_fault, name_twice, name_unknown, wrong_width, wrong_order, wrong_driver, goes_through, wrong_size, wrong_joins}
use Rattle.vl_model.specs.Leaf.{leaf_widths}
use Rattle.vl_model.specs.Whole.{EachInstance}
use Rattle.label_model.specs.Labels.{Label, known, from, none, sources, known_as, IsBelow}
use Rattle.label_model.specs.Lawful.{LabelNets, AreLabels, IsCarried, IsLawful, AreClean}

unfoldable turning : Design
turning = record {
  leaves = record {
    name = codes "r_0";
    ports = record { output = true; high = 0; name = codes "q_0" } ∷ [];
    items = reg 0 (codes "c_0") ∷ assign (codes "q_0") (net (codes "c_0")) ∷ clocked (codes "c_0") (record { width = 1; value = 0 }) (not (net (codes "c_0"))) ∷ [];
  } ∷ [];
  top = record {
    ports = record { output = true; high = 0; name = codes "y_0" } ∷ [];
    items = Instance (codes "r_0") (codes "t_0") (record { port = codes "q_0"; net = codes "y_0" } ∷ []) ∷ [];
  };
}

turning_is_sound : first_fault turning ≡ None
unfolding first_fault name_twice name_unknown wrong_width wrong_order wrong_driver goes_through wrong_size wrong_joins turning
turning_is_sound = refl

abbrev by_phase : ℕ → Label
by_phase zero = known false
by_phase (suc f) = known true

abbrev labels : ℕ → LabelNets
labels f = record { top = λ n i. by_phase f; inside = λ k. record { net = λ n i. by_phase f; word = λ n i. from none } }

no-input : (n : Name) → is_kind is_input (top_lines turning.top) n ≡ true → ⊥
unfolding turning
no-input n k = go (bytes_eq n (codes "y_0")) (bytes_eq n (codes "t_0")) k
  where
    go : (b c : Bool) → kind_passes is_input (if b then Some (record { name = codes "y_0"; kind = Output; high = 0; last = 0 }) else if c then Some (record { name = codes "t_0"; kind = Child; high = 0; last = 0 }) else None) ≡ true → ⊥
    go true c h = false≢true h
    go false true h = false≢true h
    go false false h = false≢true h

in-phase : (owner : Name → ℕ) (f : ℕ) → AreLabels turning owner (labels f)
unfolding turning
in-phase owner f = record {
  inputs = λ n k. absurd (no-input n k);
  assigned = ((tt, ((λ i lt. refl), (tt, tt))), tt);
  tied = (((λ i lt. refl), tt), tt);
}

first-bit : (i : ℕ) → i < 1 → IsBelow (known_as (bit_at 0 i)) (known false)
first-bit zero lt = refl
first-bit (suc i) lt = absurd (omega (arith, lt))

carried-on : (f : ℕ) → f < 2 → EachInstance turning (λ leaf n joins. AllByRecursion (IsCarried (leaf_widths leaf) ((labels f).inside n) ((labels ((f + 1) % 2)).inside n)) leaf.items)
unfolding turning
carried-on zero lt = ((tt, (tt, ((λ i lt. refl), tt))), tt)
carried-on (suc zero) lt = ((tt, (tt, ((λ i lt. refl), tt))), tt)
carried-on (suc (suc f)) lt = absurd (omega (arith, lt))

turning_is_lawful : (owner : Name → ℕ) → IsLawful turning owner 2 labels
unfolding turning
turning_is_lawful owner = record { right = λ f lt. in-phase owner f; starts = ((tt, (tt, (first-bit, tt))), tt); edges = carried-on }

turning_is_clean : (owner : Name → ℕ) → AreClean turning owner 2 labels
turning_is_clean owner n k f lf i lt e dep = absurd (known-only f dep)
  where
    known-only : (f : ℕ) → sources (by_phase f) e ≡ true → ⊥
    known-only zero h = false≢true h
    known-only (suc f) h = false≢true h
