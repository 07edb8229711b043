-- What words of inputs are given: the numbers of input ports, by name.
use Rattle.std.proofs.Common.{◌≡◌, ℕ, ◌+◌, ◌<◌, ◌^◌, Bool, true, false, List, [], ◌∷◌, ◌++◌, refl, sym, ◌∙◌, ap, subst}
use Rattle.std.specs.Prelude.{if◌then◌else◌}
use Rattle.std.specs.List.{AllByRecursion}
use Rattle.vl_tree.specs.declared.tree.Port.{Port}
use Rattle.vl_tree.specs.Values.{Name}
use Rattle.aig_model.specs.FormOf.{AreBits, bits_from, in_way, all_bits, FitPorts}
use Rattle.aig_design.specs.Start.{kept_bits, input_ports, fits_port, number_bits}
use Rattle.aig_design.specs.Laws.{StandAt, InputsHaveNumbers}

pub given-bits : (t : Name → ℕ) (h : ℕ → ℕ) (given : Name → ℕ) (ps : List Port) → StandAt t h given ps → kept_bits (λ (p : Port). t p.name) number_bits h (input_ports ps) ≡ all_bits false given ps
given-bits t h given [] a = refl
given-bits t h given (p ∷ ps) a = go p.output refl (given-bits t h given ps a.1)
  where
    go : (b : Bool) → p.output ≡ b → kept_bits (λ (q : Port). t q.name) number_bits h (input_ports ps) ≡ all_bits false given ps → kept_bits (λ (q : Port). t q.name) number_bits h (input_ports (p ∷ ps)) ≡ (if in_way false p.output then bits_from (given p.name) 0 (p.high + 1) else []) ++ all_bits false given ps
    go true e later = rw e later
    go false e later = rw e (ap (λ x. bits_from x 0 (p.high + 1) ++ kept_bits (λ (q : Port). t q.name) number_bits h (input_ports ps)) (a.0 e) ∙ ap (λ bs. bits_from (given p.name) 0 (p.high + 1) ++ bs) later)

given-fits : (t : Name → ℕ) (h : ℕ → ℕ) (given : Name → ℕ) (ps : List Port) → StandAt t h given ps → FitPorts given ps → AllByRecursion (λ (p : Port). fits_port p (h (t p.name))) (input_ports ps)
given-fits t h given [] a f = tt
given-fits t h given (p ∷ ps) a f = go p.output refl (given-fits t h given ps a.1 f.1)
  where
    go : (b : Bool) → p.output ≡ b → AllByRecursion (λ (q : Port). fits_port q (h (t q.name))) (input_ports ps) → AllByRecursion (λ (q : Port). fits_port q (h (t q.name))) (input_ports (p ∷ ps))
    go true e later = rw e later
    go false e later = rw e (subst (λ x. x < 2 ^ (p.high + 1)) (sym (a.0 e)) (f.0 e), later)

pub inputs-have-numbers : InputsHaveNumbers
inputs-have-numbers t first next ps old new v h given put a f bits p lt =
    put.value v h (given-fits t h given ps a f) (subst (λ bs. AreBits bs (λ j. v (first + j)) 0) (sym (given-bits t h given ps a)) bits) p lt
