-- What a form is made from, step by step.
use Rattle.std.proofs.Common.{◌≡◌, ℕ, zero, suc, ◌+◌, ◌<◌, ◌≤◌, ◌^◌, Bool, true, false, List, [], ◌∷◌, length, replicate, refl, sym, ◌∙◌, ap, subst, arith}
use Rattle.std.specs.Prelude.{if◌then◌else◌}
use Rattle.std.specs.List.{AllByRecursion}
use Rattle.vl_tree.specs.declared.tree.Port.{Port}
use Rattle.vl_tree.specs.Values.{Name, Design}
use Rattle.vl_model.specs.Lines.{Line, top_lines, way_of, net_bits, is_net}
use Rattle.vl_model.specs.Rules.{IsSound}
use Rattle.vl_model.proofs.Passed.{top-sound}
use Rattle.vl_run.specs.State.{Part}
use Rattle.vl_run.specs.Fresh.{IsBegun}
use Rattle.vl_run.proofs.Narrow.{are-narrow}
use Rattle.vl_run.proofs.Inputs.{First}
use Rattle.vl_run.proofs.Whole.{ports-first}
use Rattle.aig_model.specs.FormOf.{all_bits}
use Rattle.aig_model.specs.Netlist.{Net}
use Rattle.aig_gates.specs.Zips.{AreBelow}
use Rattle.aig_cycle.specs.Wires.{AreWords}
use Rattle.aig_cycle.specs.Steps.{Wired, shown_words, AreWired}
use Rattle.aig_cycle.proofs.Running.{linked-words}
use Rattle.aig_design.specs.Start.{input_ports, is_narrow_port, AreInputsPut, AreLaid}
use Rattle.aig_design.specs.Laws.{StandAt}
use Rattle.aig_design.specs.Opened.{IsOpened, HasInputs}
use Rattle.aig_design.proofs.Given.{given-bits}
use Rattle.aig_design.proofs.AllParts.{count-all, known-all}
use Rattle.aig_design.proofs.Cycled.{all-named}

pub opened-of : (d : Design) (inputs behind next : ℕ) (parts : List Part) (lines ports : List ℕ) (wired : List Wired) (resets : List (List ℕ)) (tops : List (List ℕ)) → IsBegun d parts lines ports → inputs + 1 ≡ behind
    → ((f : Name → ℕ) → behind ≡ 1 + length (all_bits false f d.top.ports)) → AreLaid behind next parts wired resets → tops ≡ replicate (length lines) [] → next < 2 ^ 61 → IsOpened d inputs next wired resets ports tops
opened-of d inputs behind next parts lines ports wired resets tops begun is count laid empty low = record {
  parts = parts;
  lines = lines;
  begun = begun;
  input_bits = λ f. (let c = count f in omega (arith, c, is));
  laid = (let e : behind ≡ 1 + inputs = omega (arith, is) in subst (λ k. AreLaid k next parts wired resets) e laid);
  no_words = empty;
  low = low;
}

-- ---- what outputs show

pub shown-known : (n : Net) (ws : List Wired) (tops : List (List ℕ)) → AreWired n ws → AreWords n tops → AreWords n (shown_words ws tops)
shown-known n [] tops a b = b
shown-known n (w ∷ ws) tops a b = linked-words n w.wires.nets w.code.outs (shown_words ws tops) a.0.wires.nets (shown-known n ws tops a.1 b)

pub words-below : (n : Net) (ws : List (List ℕ)) → AreWords n ws → AllByRecursion (AreBelow (n.start + length n.gates)) ws
words-below n [] a = tt
words-below n (w ∷ ws) a = (a.0.known, words-below n ws a.1)

pub none-known : (n : Net) (k : ℕ) → AreWords n (replicate k [])
none-known n zero = tt
none-known n (suc k) = (record { known = tt; narrow = omega arith }, none-known n k)

-- ---- inputs

no-place : (ps : List Port) (t : Name → ℕ) → StandAt t (λ p. 0) (λ n. 0) ps
no-place [] t = tt
no-place (p ∷ ps) t = ((λ out. refl), no-place ps t)

-- words of the top's nets are known, once inputs are put
pub fed-known : (n : Net) (ports : List Port) (places : List ℕ) (next : ℕ) (tops fed : List (List ℕ)) (h : HasInputs n ports places) → AreInputsPut h.top 1 next (input_ports ports) tops fed → AreWords n tops → AreWords n fed
fed-known n ports places next tops fed h put a =
    let count : next ≡ 1 + length (all_bits false (λ m. 0) ports) = put.count (λ p. 0) ∙ ap (λ bs. 1 + length bs) (given-bits h.top (λ p. 0) (λ m. 0) ports (no-place ports h.top)) in
    let room = h.room (λ m. 0) in
    put.are_known n (omega (arith, count, room)) h.narrow a

module _ (d : Design) (sound : IsSound d) where
  abbrev all : List Line
  all = top_lines d.top

  narrow-ports : (ps : List Port) → First all ps → AllByRecursion is_narrow_port (input_ports ps)
  narrow-ports [] f = tt
  narrow-ports (p ∷ ps) f = go p.output refl (narrow-ports ps f.1)
    where
      wide : (b : Bool) → is_net (way_of b) ≡ true
      wide true = refl
      wide false = refl

      here : p.high < 64
      here =
          let most = (are-narrow d.leaves all (top-sound d sound.rules).width).0 p.name in
          let w : p.high + 1 ≤ 64 = subst (λ k. k ≤ 64) (ap net_bits f.0 ∙ ap (λ b. if b then p.high + 1 else 0) (wide p.output)) most in
          omega (arith, w)

      go : (b : Bool) → p.output ≡ b → AllByRecursion is_narrow_port (input_ports ps) → AllByRecursion is_narrow_port (input_ports (p ∷ ps))
      go true out rest = rw out rest
      go false out rest = rw out (here, rest)

  pub has-inputs : (inputs next : ℕ) (wired : List Wired) (resets : List (List ℕ)) (ports : List ℕ) (tops : List (List ℕ)) → IsOpened d inputs next wired resets ports tops → (n : Net) → n.start ≡ next → HasInputs n d.top.ports ports
  has-inputs inputs next wired resets ports tops o n start = record {
    top = o.begun.top;
    named = o.begun.named;
    narrow = narrow-ports d.top.ports (ports-first d sound).0;
    room = λ f.
        let count = o.input_bits f in
        let up = count-all o.begun.top d.leaves (λ i. record { net = λ m. 0; word = λ m j. 0 }) d.top.items (all-named d sound) (1 + inputs) next o.parts wired resets o.begun.fresh o.laid in
        omega (arith, count, up, start);
  }

  pub begins-known : (inputs next : ℕ) (wired : List Wired) (resets : List (List ℕ)) (ports : List ℕ) (tops : List (List ℕ)) → IsOpened d inputs next wired resets ports tops → (n : Net) → n.start ≡ next → AreWired n wired × AreWords n tops
  begins-known inputs next wired resets ports tops o n start = (
    known-all o.begun.top d.leaves n d.top.items (all-named d sound) (1 + inputs) next o.parts wired resets o.begun.fresh o.laid (omega (arith, start)),
    subst (AreWords n) (sym o.no_words) (none-known n (length o.lines)),
  )

  pub some-next : (inputs next : ℕ) (wired : List Wired) (resets : List (List ℕ)) (ports : List ℕ) (tops : List (List ℕ)) → IsOpened d inputs next wired resets ports tops → 0 < next
  some-next inputs next wired resets ports tops o =
      let up = count-all o.begun.top d.leaves (λ i. record { net = λ m. 0; word = λ m j. 0 }) d.top.items (all-named d sound) (1 + inputs) next o.parts wired resets o.begun.fresh o.laid in
      omega (arith, up)
