-- A cycle of the form is a cycle of the design.
use Rattle.std.proofs.Common.{◌≡◌, ℕ, zero, suc, ◌+◌, ◌<◌, ◌≤◌, Bool, true, false, List, [], ◌∷◌, length, map, get_or, refl, sym, ◌∙◌, ap, subst, arith}
use Rattle.std.specs.Prelude.{Some, if◌then◌else◌, slice_get, slice_index}
use Rattle.std.proofs.lemmas.Option.{none-some}
use Rattle.std.proofs.lemmas.List.{length-map, length-replicate, get_or-map}
use Rattle.std.proofs.lemmas.Grind.{same_number_lists}
use Rattle.vl_tree.specs.declared.tree.Port.{Port}
use Rattle.vl_tree.specs.Values.{Name, Design}
use Rattle.vl_model.specs.Meaning.{Values}
use Rattle.vl_model.specs.Lines.{Line, top_lines, way_of, is_input}
use Rattle.vl_model.specs.Rules.{is_kind, IsSound}
use Rattle.vl_model.specs.Whole.{Nets}
use Rattle.vl_model.specs.Settle.{settled, with_inputs, inside_stepped, by_name}
use Rattle.vl_model.proofs.Tops.{Each, each-leaf}
use Rattle.vl_model.proofs.One.{known, found-here}
use Rattle.vl_run.specs.Places.{ArePlaces}
use Rattle.vl_run.specs.State.{Part, part_settled, part_edged, shown_by}
use Rattle.vl_run.specs.Top.{inputs_of, with_ports, places_of}
use Rattle.vl_run.specs.Stands.{AllStand, Stands}
use Rattle.vl_run.proofs.Inputs.{First, input-among, length-with}
use Rattle.vl_run.proofs.Whole.{shown, output-shows, edge-parts, ports-first}
use Rattle.aig_model.specs.Form.{literal, word}
use Rattle.aig_model.specs.FormOf.{AreBits, FitPorts, all_bits, all_latches}
use Rattle.aig_model.specs.Netlist.{Net, Grows, AreOf, settle_gates}
use Rattle.aig_model.proofs.Netlists.{variable-stays, grown-literal}
use Rattle.aig_cycle.specs.Wires.{numbers}
use Rattle.aig_cycle.specs.Steps.{Wired, part_as}
use Rattle.aig_design.specs.Start.{has_place, input_ports}
use Rattle.aig_design.specs.Laws.{StandAt}
use Rattle.aig_design.specs.Opened.{IsOpened, AreShown, AreNext}
use Rattle.aig_design.proofs.Given.{inputs-have-numbers}
use Rattle.aig_design.proofs.Named.{LeafNames, leaf-names, net_at, net-there}
use Rattle.aig_design.proofs.Stood.{quiet, quiet_of}
use Rattle.aig_design.proofs.AllParts.{IsStill, codes, laid-codes, settled-codes, edged-codes, count-all, stand-all, ends-all}
use Rattle.aig_design.proofs.Topped.{shown-numbers, same-outputs, given_numbers, given-fit, given-there, given-put}

-- bits of a function are those of another that is the same there
pub bits-same : (bs : List Bool) (f g : ℕ → Bool) (i : ℕ) → ((j : ℕ) → j < i + length bs → g j ≡ f j) → AreBits bs f i → AreBits bs g i
bits-same [] f g i same h = tt
bits-same (b ∷ bs) f g i same h = (same i (omega arith) ∙ h.0, bits-same bs f g (i + 1) (λ j lt. same j (omega (arith, lt))) h.1)

pub literals-grown : (old new : Net) → Grows old new → (v : ℕ → Bool) (xs : List ℕ) → AreOf old xs → map (literal (settle_gates new v)) xs ≡ map (literal (settle_gates old v)) xs
literals-grown old new g v [] a = refl
literals-grown old new g v (x ∷ xs) a = ap (λ b. b ∷ map (literal (settle_gates new v)) xs) (grown-literal old new g v x a.0) ∙ ap (λ bs. literal (settle_gates old v) x ∷ bs) (literals-grown old new g v xs a.1)

pub zero-stays : (n : Net) → 0 < n.start → (v : ℕ → Bool) → v 0 ≡ false → settle_gates n v 0 ≡ false
zero-stays n some v e = variable-stays v n.start n.gates 0 some ∙ e

same-top : (f g : Name → ℕ) (a : Name → Values) → ((n : Name) → f n ≡ g n) → ◌≡◌ {A = Nets} (record { top = f; inside = a }) (record { top = g; inside = a })
same-top f g a h = λ i. record { top = λ n. h n i; inside = a }

place-at : (t : Name → ℕ) (ps : List Port) (i : ℕ) (p : Port) → slice_get ps i ≡ Some p → slice_index (places_of t ps) i ≡ t p.name
place-at t [] i p e = absurd (none-some p e)
place-at t (q ∷ ps) zero p e = let one : q ≡ p = cc in ap (λ (z : Port). t z.name) one
place-at t (q ∷ ps) (suc i) p e = place-at t ps i p e

module _ (d : Design) (sound : IsSound d) where
  abbrev all : List Line
  all = top_lines d.top

  abbrev ps : List Port
  ps = d.top.ports

  pub all-named : Each d.leaves (λ l n js. LeafNames l) d.top.items
  all-named = each-leaf d.leaves LeafNames d.top.items (known d sound) (λ n l e. leaf-names d sound n l e)

  -- the registers and memories of a state, in each instance
  abbrev pub all_quiet : (Name → Values) → Name → Values
  all_quiet a = by_name d.leaves d.top.items (λ o n js. quiet_of o (a n)) a

  pub quiet-here : (a : Name → Values) → Each d.leaves (λ l n js. all_quiet a n ≡ quiet l (a n)) d.top.items
  quiet-here a = found-here d sound (λ o n js. quiet_of o (a n)) a

  stand-at : (t : Name → ℕ) → ArePlaces all t → (g : Name → ℕ) (qs : List Port) → First all qs → StandAt t (λ p. net_at g (slice_get all p)) g qs
  stand-at t places g [] f = tt
  stand-at t places g (p ∷ qs) f = ((λ out. net-there all t places g p.name (record { name = p.name; kind = way_of p.output; high = p.high; last = 0 }) f.0), stand-at t places g qs f.1)

  same-inputs : (g : Name → ℕ) (b : Name → Values) → with_inputs d (λ n. inputs_of ps (given_numbers g ps) n) b ≡ with_inputs d g b
  same-inputs g b = same-top (λ n. if is_kind is_input all n then inputs_of ps (given_numbers g ps) n else 0) (λ n. if is_kind is_input all n then g n else 0) b (λ n. go n (is_kind is_input all n) refl)
    where
      go : (n : Name) (c : Bool) → is_kind is_input all n ≡ c → (if is_kind is_input all n then inputs_of ps (given_numbers g ps) n else 0) ≡ (if is_kind is_input all n then g n else 0)
      go n true is = rw is (given-there g ps n (input-among ps d.top.items n is))
      go n false is = rw is refl

  module _ (inputs next : ℕ) (wired0 : List Wired) (resets : List (List ℕ)) (ports : List ℕ) (tops0 : List (List ℕ)) (o : IsOpened d inputs next wired0 resets ports tops0)
      (n0 n1 n2 : Net) (start : n0.start ≡ next) (empty : n0.gates ≡ []) (grow1 : Grows n0 n1) (grow2 : Grows n1 n2) (wired1 wired2 : List Wired) (tops1 tops2 : List (List ℕ)) (outputs latches : List ℕ)
      (shows : AreShown ps ports n0 n1 wired0 wired1 tops0 tops1 outputs) (takes : AreNext ps ports resets n1 n2 wired1 wired2 tops1 tops2 latches) where
    abbrev t : Name → ℕ
    t = o.begun.top

    module _ (v : ℕ → Bool) (false-zero : v 0 ≡ false) (b : Name → Values) (still : Each d.leaves (λ l n js. IsStill l (b n)) d.top.items) (state : AreBits (all_latches d.leaves b d.top.items) (λ j. v (1 + inputs + j)) 0)
        (g : Name → ℕ) (fits : FitPorts g ps) (given : AreBits (all_bits false g ps) (λ j. v (1 + j)) 0) where
      abbrev w1 : ℕ → Bool
      w1 = settle_gates n1 v

      abbrev w2 : ℕ → Bool
      w2 = settle_gates n2 v

      abbrev parts0 : List Part
      parts0 = map (part_as v) wired0

      abbrev tops : List ℕ
      tops = numbers w1 tops0

      abbrev after : Nets
      after = settled d (with_inputs d g b)

      start1 : n1.start ≡ next
      start1 = grow1.start ∙ start

      start2 : n2.start ≡ next
      start2 = grow2.start ∙ start1

      next-is : next ≡ 1 + inputs + length (all_latches d.leaves b d.top.items)
      next-is = count-all t d.leaves b d.top.items all-named (1 + inputs) next o.parts wired0 resets o.begun.fresh o.laid

      some : 0 < next
      some = let e = next-is in omega (arith, e)

      zero1 : w1 0 ≡ false
      zero1 = zero-stays n1 (subst (λ k. 0 < k) (sym start1) some) v false-zero

      zero2 : w2 0 ≡ false
      zero2 = zero-stays n2 (subst (λ k. 0 < k) (sym start2) some) v false-zero

      begins : settle_gates n0 v ≡ v
      begins = ap (λ gs. settle_gates (record { start = n0.start; gates = gs }) v) empty

      parts-stand : AllStand t d.leaves b d.top.items parts0
      parts-stand = stand-all t d.leaves v b d.top.items all-named still (1 + inputs) next o.parts wired0 resets o.begun.fresh o.laid state

      parts-settled : map (part_as w1) wired1 ≡ map part_settled parts0
      parts-settled = shows.settled v false-zero ∙ ap (λ s. map part_settled (map (part_as s) wired0)) begins

      room : length all ≤ length tops
      room =
          let a = o.begun.room in
          let e : length tops ≡ length o.lines = length-map tops0 (word w1) ∙ ap length o.no_words ∙ length-replicate (length o.lines) [] in
          omega (arith, a, e)

      shown-tops : numbers w1 tops1 ≡ shown_by (map part_settled parts0) tops
      shown-tops = ap (numbers w1) shows.tops_are ∙ shown-numbers w1 wired1 tops0 ∙ ap (λ xs. shown_by xs tops) parts-settled

      whole : Stands (record { design = d; parts = map part_settled parts0; tops = shown_by (map part_settled parts0) tops; ports = ports }) b
      whole = shown d sound t o.begun.places b parts0 parts-stand tops ports room o.begun.named

      -- outputs show the design's
      pub outputs-are : map (literal w2) outputs ≡ all_bits true after.top ps
      outputs-are =
          literals-grown n1 n2 grow2 v outputs shows.known ∙ shows.value t o.begun.named w1 zero1
          ∙ same-outputs (λ n. slice_index (numbers w1 tops1) (t n)) after.top ps
          (λ i p e out.
          ap (λ z. slice_index z (t p.name)) shown-tops
          ∙ ap (slice_index (shown_by (map part_settled parts0) tops)) (sym (ap (λ q. slice_index q i) o.begun.named ∙ place-at t ps i p e))
          ∙ output-shows d sound (map part_settled parts0) (shown_by (map part_settled parts0) tops) ports b whole g i p e out)

      -- ---- the edge

      abbrev H : ℕ → ℕ
      H p = net_at g (slice_get all p)

      stands-there : StandAt t H g ps
      stands-there = stand-at t o.begun.places g ps (ports-first d sound).0

      given1 : AreBits (all_bits false g ps) (λ j. w1 (1 + j)) 0
      given1 =
          bits-same (all_bits false g ps) (λ j. v (1 + j)) (λ j. w1 (1 + j)) 0
          (λ j lt. (
          let count = o.input_bits g in
          let n = next-is in
          let e = start1 in
          variable-stays v n1.start n1.gates (1 + j) (omega (arith, lt, count, n, e)))) given

      fed-is : numbers w1 tops2 ≡ with_ports ps ports (given_numbers g ps) (shown_by (map part_settled parts0) tops)
      fed-is =
          let f = takes.fed_are t o.begun.named in
          let old : List ℕ = numbers w1 tops1 in
          let long2 : length (numbers w1 tops2) ≡ length tops1 = length-map tops2 (word w1) ∙ f.1.size in
          let long1 : length old ≡ length tops1 = length-map tops1 (word w1) in
          let longer : length (with_ports ps (places_of t ps) (given_numbers g ps) old) ≡ length old = length-with all t o.begun.places ps (places_of t ps) (given_numbers g ps) old in
          same_number_lists (numbers w1 tops2) (with_ports ps (places_of t ps) (given_numbers g ps) old) (omega (arith, long2, long1, longer))
          (λ p lt. (
          let low : p < length tops1 = omega (arith, lt, long2) in
          let new-word : get_or (numbers w1 tops2) p 0 ≡ word w1 (get_or tops2 p []) = (let s = f.1.size in get_or-map (word w1) tops2 p [] 0 (omega (arith, low, s))) in
          let old-word : get_or old p 0 ≡ word w1 (get_or tops1 p []) = get_or-map (word w1) tops1 p [] 0 low in
          new-word ∙ inputs-have-numbers t 1 f.0 ps tops1 tops2 w1 H g f.1 stands-there fits given1 p low
          ∙ ap (λ z. if has_place (λ (q : Port). t q.name) (input_ports ps) p then H p else z) (sym old-word)
          ∙ sym (given-put t H g ps stands-there old p (omega (arith, low, long1)))))
          ∙ ap (λ qs. with_ports ps qs (given_numbers g ps) old) (sym o.begun.named)
          ∙ ap (with_ports ps ports (given_numbers g ps)) shown-tops

      parts-edged : map (part_as w2) wired2 ≡ map (part_edged (with_ports ps ports (given_numbers g ps) (shown_by (map part_settled parts0) tops))) (map part_settled parts0)
      parts-edged = takes.edged v false-zero ∙ ap (λ z. map (part_edged z) (map (part_as w1) wired1)) fed-is ∙ ap (map (part_edged (with_ports ps ports (given_numbers g ps) (shown_by (map part_settled parts0) tops)))) parts-settled

      codes-same : codes (map (part_as w2) wired2) ≡ codes o.parts
      codes-same =
          ap codes parts-edged ∙ edged-codes (with_ports ps ports (given_numbers g ps) (shown_by (map part_settled parts0) tops)) (map part_settled parts0) ∙ settled-codes parts0
          ∙ laid-codes v (1 + inputs) next o.parts wired0 resets o.laid

      -- latches take the bits of the design's next state
      pub latches-are : map (literal w2) latches ≡ all_latches d.leaves (inside_stepped d.leaves d.top.items after.inside) d.top.items
      latches-are =
          let X : Nets = with_inputs d (λ n. inputs_of ps (given_numbers g ps) n) b in
          takes.value w2 zero2
          ∙ ends-all t d.leaves whole.top (inside_stepped d.leaves d.top.items (settled d X).inside) d.top.items all-named (1 + inputs) next o.parts wired0 resets (map (part_as w2) wired2) o.begun.fresh o.laid codes-same
          (subst (AllStand whole.top d.leaves (inside_stepped d.leaves d.top.items (settled d X).inside) d.top.items) (sym parts-edged)
          (edge-parts d sound b (given_numbers g ps) (given-fit g ps fits) (map part_settled parts0) (shown_by (map part_settled parts0) tops) ports whole))
          ∙ ap (λ (z : Nets). all_latches d.leaves (inside_stepped d.leaves d.top.items (settled d z).inside) d.top.items) (same-inputs g b)
