-- A form of a design stays one without the gates that nothing needs.
use Rattle.std.proofs.Common.{◌≡◌, ℕ, zero, suc, Bool, false, List, [], ◌∷◌, map, get_or, refl, sym, ◌∙◌, ap, subst, arith}
use Rattle.std.proofs.Math.Path.{fun_ext}
use Rattle.vl_tree.specs.Values.{Design}
use Rattle.vl_model.specs.Settle.{run}
use Rattle.aig_model.specs.Form.{Form, literal, given, values, first_gate, states}
use Rattle.aig_model.specs.FormOf.{IsFormOf, AreBits, all_latches, zero_words}
use Rattle.aig_model.proofs.Netlists.{variable-stays}
use Rattle.aig_out.specs.Ran.{at}
use Rattle.aig_trim.specs.Trimmed.{IsTrimmed}

literal-at : (v : ℕ → Bool) (xs : List ℕ) (j : ℕ) → v 0 ≡ false → at (map (literal v) xs) j ≡ literal v (get_or xs j 0)
literal-at v [] j e = sym e
literal-at v (x ∷ xs) zero e = refl
literal-at v (x ∷ xs) (suc j) e = literal-at v xs j e

-- variable 0 is false
no-variable : (f : Form) (input state : ℕ → Bool) → values f input state 0 ≡ false
no-variable f input state = variable-stays (given f input state) (first_gate f) f.gates 0 (omega arith)

same-states : (f g : Form) → IsTrimmed f g → (bits : ℕ → ℕ → Bool) (t : ℕ) → states g bits t ≡ states f bits t
unfolding states
same-states f g is bits zero = refl
same-states f g is bits (suc t) =
    let s : ℕ → Bool = states g bits t in
    let r : ℕ → Bool = states f bits t in
    let next = is.next (bits t) s ∙ ap (λ q. map (literal (values f (bits t) q)) f.latches) (same-states f g is bits t) in
    fun_ext (λ j. sym (literal-at (values g (bits t) s) g.latches j (no-variable g (bits t) s)) ∙ ap (λ bs. at bs j) next ∙ literal-at (values f (bits t) r) f.latches j (no-variable f (bits t) r))

pub trimmed-of : (d : Design) (f g : Form) → IsFormOf d f → IsTrimmed f g → IsFormOf d g
trimmed-of d f g is cut = record {
  form = cut.form;
  inputs = cut.inputs ∙ is.inputs;
  count = cut.latches ∙ is.count;
  outputs = λ inputs bits fed t. cut.outputs (bits t) (states g bits t) ∙ ap (λ s. map (literal (values f (bits t) s)) f.outputs) (same-states f g cut bits t) ∙ is.outputs inputs bits fed t;
  latches = λ inputs bits fed t. subst (λ s. AreBits (all_latches d.leaves (run d zero_words inputs t).inside d.top.items) s 0) (sym (same-states f g cut bits t)) (is.latches inputs bits fed t);
  free = λ wiring. let none = is.free wiring in let few = cut.few in omega (arith, none, few);
}
