-- Input ports with words of variables, one by one.
use Rattle.std.proofs.Common.{◌≡◌, ℕ, ◌+◌, ◌<◌, ◌^◌, Bool, true, false, List, [], ◌∷◌, ◌++◌, length, get_or, set, take, sym, ◌∙◌, ap, subst, arith}
use Rattle.std.specs.Prelude.{cond, not}
use Rattle.std.proofs.lemmas.List.{append-nil}
use Rattle.std.proofs.lemmas.List.Elements.{filter_more}
use Rattle.vl_tree.specs.declared.tree.Port.{Port}
use Rattle.vl_tree.specs.Values.{Name}
use Rattle.aig_model.specs.Form.{word}
use Rattle.aig_model.specs.FormOf.{AreBits, flipped_bits}
use Rattle.vl_run.specs.Top.{places_of}
use Rattle.aig_gates.specs.Zips.{AreBelow}
use Rattle.aig_cycle.specs.Wires.{IsWord}
use Rattle.aig_cycle.proofs.Latched.{plain-bits}
use Rattle.aig_design.specs.Start.{IsMade, input_ports, is_narrow_port, fits_port, number_bits, AreInputsPut}
use Rattle.aig_design.proofs.Placed.{put-one}
use Rattle.aig_design.proofs.Rows.{length-bits, made-known}
use Rattle.aig_design.proofs.Shown.{place-of}

port-made : (first next : ℕ) (p : Port) (made : List ℕ) → next ≡ first + (p.high + 1) → AreBelow (first + p.high + 1) made → length made ≡ p.high + 1
    → ((v : ℕ → Bool) (y : ℕ) → y < 2 ^ (p.high + 1) → AreBits (flipped_bits y 0 0 (p.high + 1)) (λ j. v (first + j)) 0 → word v made ≡ y)
    → IsMade is_narrow_port fits_port number_bits IsWord word first next p made
port-made first next p made is below count says = record {
  up = omega (arith, is);
  count = λ y. (let l = length-bits y 0 (p.high + 1) in omega (arith, is, l));
  are_known = λ n le small. made-known n first p.high next made below count is le small;
  value = λ v y small bits. says v y small (subst (λ bs. AreBits bs (λ j. v (first + j)) 0) (sym (plain-bits y 0 (p.high + 1))) bits);
}

pub inputs-more : (ports : List Port) (places : List ℕ) (i place : ℕ) (d : Port) (first mid next : ℕ) (old now' new : List (List ℕ)) (made : List ℕ) → i < length ports → d ≡ get_or ports i d → d.output ≡ false → place ≡ get_or places i 0
    → next ≡ mid + (d.high + 1) → AreBelow (mid + d.high + 1) made → length made ≡ d.high + 1
    → ((v : ℕ → Bool) (y : ℕ) → y < 2 ^ (d.high + 1) → AreBits (flipped_bits y 0 0 (d.high + 1)) (λ j. v (mid + j)) 0 → word v made ≡ y) → new ≡ set now' place made
    → ((t : Name → ℕ) → places ≡ places_of t ports → AreInputsPut t first mid (input_ports (take i ports)) old now') → (t : Name → ℕ) → places ≡ places_of t ports → AreInputsPut t first next (input_ports (take (i + 1) ports)) old new
inputs-more ports places i place d first mid next old now' new made lt is out at up below count says put z t e =
    let here : place ≡ t d.name = at ∙ place-of t places ports i d lt e ∙ ap (λ (p : Port). t p.name) (sym is) in
    let one : input_ports (take i ports) ++ d ∷ [] ≡ input_ports (take (i + 1) ports) =
    sym (filter_more (λ (p : Port). not p.output) ports i d lt ∙ ap (λ (p : Port). input_ports (take i ports) ++ cond (not p.output) (p ∷ []) []) (sym is) ∙ ap (λ b. input_ports (take i ports) ++ cond (not b) (d ∷ []) []) out) in
    subst (λ ps. AreInputsPut t first next ps old new) one
    (put-one (λ (p : Port). t p.name) is_narrow_port fits_port number_bits IsWord word [] first mid next (input_ports (take i ports)) d old now' new made (port-made mid next d made up below count says) (put ∙ ap (λ q. set now' q made) here) (z t e))

pub inputs-skip : (ports : List Port) (places : List ℕ) (i : ℕ) (d : Port) (first mid : ℕ) (old now' : List (List ℕ)) → i < length ports → d ≡ get_or ports i d → d.output ≡ true
    → ((t : Name → ℕ) → places ≡ places_of t ports → AreInputsPut t first mid (input_ports (take i ports)) old now') → (t : Name → ℕ) → places ≡ places_of t ports → AreInputsPut t first mid (input_ports (take (i + 1) ports)) old now'
inputs-skip ports places i d first mid old now' lt is out z t e =
    let one : input_ports (take i ports) ≡ input_ports (take (i + 1) ports) =
    sym (filter_more (λ (p : Port). not p.output) ports i d lt ∙ ap (λ (p : Port). input_ports (take i ports) ++ cond (not p.output) (p ∷ []) []) (sym is) ∙ ap (λ b. input_ports (take i ports) ++ cond (not b) (d ∷ []) []) out ∙ append-nil (input_ports (take i ports))) in
    subst (λ ps. AreInputsPut t first mid ps old now') one (z t e)
