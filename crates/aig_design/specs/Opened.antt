-- What a form is made from, and what it is made of.
use Rattle.std.specs.Prelude.{◌≡◌, ℕ, ◌+◌, ◌<◌, ◌≤◌, ◌^◌, Bool, true, false, List, [], length, map, replicate, slice_index}
use Rattle.std.specs.List.{AllByRecursion}
use Rattle.vl_tree.specs.declared.tree.Port.{Port}
use Rattle.vl_tree.specs.Values.{Name, Design}
use Rattle.aig_model.specs.Form.{literal}
use Rattle.aig_model.specs.FormOf.{all_bits}
use Rattle.aig_model.specs.Netlist.{Net, AreOf, settle_gates}
use Rattle.vl_run.specs.State.{Part, part_settled, part_edged}
use Rattle.vl_run.specs.Top.{places_of}
use Rattle.vl_run.specs.Fresh.{IsBegun}
use Rattle.aig_cycle.specs.Wires.{numbers}
use Rattle.aig_cycle.specs.Steps.{Wired, part_as, shown_words, AreWired}
use Rattle.aig_cycle.specs.Short.{Bounds, IsWithin, lengths, AreShortSettles, AreWithin, AreShortEdges}
use Rattle.aig_design.specs.Start.{IsBoundedPort, input_ports, is_narrow_port, AreInputsPut, AreLaid, instance_bits}

-- the instances of a design at the beginning of a cycle: how many inputs there are, the first variable behind the latches, the
-- instances with words of latches, the numbers of their nets at reset, where the ports stand, and the top's nets, without words
pub record IsOpened (d : Design) (inputs next : ℕ) (wired : List Wired) (resets : List (List ℕ)) (ports : List ℕ) (tops : List (List ℕ)) : Type 0 where
  pub parts : List Part
  pub lines : List ℕ
  pub begun : IsBegun d parts lines ports
  pub input_bits : (f : Name → ℕ) → inputs ≡ length (all_bits false f d.top.ports)
  pub laid : AreLaid (1 + inputs) next parts wired resets
  pub no_words : tops ≡ replicate (length lines) []
  pub low : next < 2 ^ 61

-- within a cycle: nets have settled, the top's nets have the words of output ports, and these are the literals of the top's
pub record AreShown (ports : List Port) (places : List ℕ) (old new : Net) (before after : List Wired) (tops shown : List (List ℕ)) (outputs : List ℕ) : Type 0 where
  pub wired : AreWired new after
  pub settled : (v : ℕ → Bool) → v 0 ≡ false → map (part_as (settle_gates new v)) after ≡ map part_settled (map (part_as (settle_gates old v)) before)
  pub tops_are : shown ≡ shown_words after tops
  pub known : AreOf new outputs
  pub value : (t : Name → ℕ) → places ≡ places_of t ports → (v : ℕ → Bool) → v 0 ≡ false → map (literal v) outputs ≡ all_bits true (λ n. slice_index (numbers v shown) (t n)) ports
  pub short : (bs : List Bounds) → AreShortSettles bs before → (new ≡ old) × AreWithin bs after

-- an edge: the top's input ports have words of inputs, each instance has moved, and these are the literals that latches take
pub record AreNext (ports : List Port) (places : List ℕ) (resets : List (List ℕ)) (old new : Net) (before after : List Wired) (tops fed : List (List ℕ)) (latches : List ℕ) : Type 0 where
  pub fed_are : (t : Name → ℕ) → places ≡ places_of t ports → (next : ℕ) × AreInputsPut t 1 next (input_ports ports) tops fed
  pub edged : (v : ℕ → Bool) → v 0 ≡ false → map (part_as (settle_gates new v)) after ≡ map (part_edged (numbers (settle_gates old v) fed)) (map (part_as (settle_gates old v)) before)
  pub known : AreOf new latches
  pub value : (v : ℕ → Bool) → v 0 ≡ false → map (literal v) latches ≡ instance_bits resets (map (part_as v) after)
  pub fed_short : (t : Name → ℕ) → places ≡ places_of t ports → (b : Bounds) → AllByRecursion (IsBoundedPort t b) ports → IsWithin b (lengths tops) → IsWithin b (lengths fed)
  pub free : AreShortEdges fed before → new ≡ old

-- the top's input ports stand at their places, no wider than 64 bits, and their variables stand before the net's
pub record HasInputs (n : Net) (ports : List Port) (places : List ℕ) : Type 0 where
  pub top : Name → ℕ
  pub named : places ≡ places_of top ports
  pub narrow : AllByRecursion is_narrow_port (input_ports ports)
  pub room : (f : Name → ℕ) → 1 + length (all_bits false f ports) ≤ n.start
