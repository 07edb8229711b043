-- The top's nets: what they show, and that they take the numbers of input ports.
use Rattle.std.proofs.Common.{◌≡◌, ℕ, suc, ◌+◌, ◌<◌, Bool, true, false, List, [], ◌∷◌, ◌++◌, length, map, set, refl, sym, ◌∙◌, ap, subst, bytes_eq, arith, inl, inr, length-set, get_or-set_same, get_or-set_other}
use Rattle.std.specs.Prelude.{Some, ◌==◌, ◌||◌, if◌then◌else◌, slice_get, slice_index}
use Rattle.std.proofs.lemmas.Bool.{cases_eq, ne_eqb, eq-eqb, false≢true}
use Rattle.vl_tree.specs.declared.tree.Port.{Port}
use Rattle.vl_tree.specs.Values.{Name}
use Rattle.vl_model.proofs.Settling.{one-name}
use Rattle.vl_run.specs.State.{shown_by}
use Rattle.vl_run.specs.Top.{inputs_of, with_ports, places_of}
use Rattle.vl_run.specs.Stands.{AreInputs, FitsPort}
use Rattle.vl_run.proofs.Inputs.{has_input}
use Rattle.aig_model.specs.FormOf.{bits_from, in_way, port_bits, all_bits, FitPorts}
use Rattle.aig_cycle.specs.Wires.{numbers}
use Rattle.aig_cycle.specs.Steps.{Wired, part_as, shown_words}
use Rattle.aig_cycle.proofs.Running.{linked-numbers}
use Rattle.aig_design.specs.Start.{has_place, input_ports}
use Rattle.aig_design.specs.Laws.{StandAt}

-- what words show is what their numbers show
pub shown-numbers : (s : ℕ → Bool) (ws : List Wired) (tops : List (List ℕ)) → numbers s (shown_words ws tops) ≡ shown_by (map (part_as s) ws) (numbers s tops)
shown-numbers s [] tops = refl
shown-numbers s (w ∷ ws) tops =
    linked-numbers s w.wires.nets w.code.outs (shown_words ws tops) ∙ ap (λ z. (shown_by (part_as s w ∷ []) z)) (shown-numbers s ws tops)

-- output ports with the same numbers have the same bits
pub same-outputs : (f g : Name → ℕ) (ps : List Port) → ((i : ℕ) (p : Port) → slice_get ps i ≡ Some p → p.output ≡ true → f p.name ≡ g p.name) → all_bits true f ps ≡ all_bits true g ps
same-outputs f g [] same = refl
same-outputs f g (p ∷ ps) same =
    ap (λ z. z ++ all_bits true f ps) (go p.output refl) ∙ ap (λ z. port_bits true g p ++ z) (same-outputs f g ps (λ i q e out. same (suc i) q e out))
  where
    go : (b : Bool) → p.output ≡ b → (if in_way true p.output then bits_from (f p.name) 0 (p.high + 1) else []) ≡ (if in_way true p.output then bits_from (g p.name) 0 (p.high + 1) else [])
    go true out = ap (λ x. if in_way true p.output then bits_from x 0 (p.high + 1) else []) (same 0 p refl out)
    go false out = rw out refl

-- the numbers of the input ports, in order
abbrev pub given_numbers : (Name → ℕ) → List Port → List ℕ
given_numbers g ps = map (λ (p : Port). g p.name) (input_ports ps)

pub given-fit : (g : Name → ℕ) (ps : List Port) → FitPorts g ps → AreInputs ps (given_numbers g ps)
given-fit g [] f = tt
given-fit g (p ∷ ps) f = go p.output refl (given-fit g ps f.1)
  where
    go : (b : Bool) → p.output ≡ b → AreInputs ps (given_numbers g ps) → FitsPort p.output p (given_numbers g (p ∷ ps)) (λ more. AreInputs ps more)
    go true out rest = rw out rest
    go false out rest = rw out (f.0 out, rest)

pub given-there : (g : Name → ℕ) (ps : List Port) (n : Name) → has_input ps n ≡ true → inputs_of ps (given_numbers g ps) n ≡ g n
given-there g [] n h = absurd (false≢true h)
given-there g (p ∷ ps) n h = go p.output refl (bytes_eq n p.name) refl (given-there g ps n)
  where
    go : (b : Bool) → p.output ≡ b → (same : Bool) → bytes_eq n p.name ≡ same → (has_input ps n ≡ true → inputs_of ps (given_numbers g ps) n ≡ g n) → inputs_of (p ∷ ps) (given_numbers g (p ∷ ps)) n ≡ g n
    go true out same is later = rw out (later (rw out at h))
    go false out true is later = rw (out, is) (ap g (sym (one-name n p.name is)))
    go false out false is later = rw (out, is) (later (rw (out, is) at h))

or-swap : (a b : Bool) → (a || b) ≡ (if a then true else b)
or-swap true b = refl
or-swap false b = refl

-- the top's nets with the numbers of the input ports, where the number of a place is h
pub given-put : (t : Name → ℕ) (h : ℕ → ℕ) (g : Name → ℕ) (ps : List Port) → StandAt t h g ps → (tops : List ℕ) (p : ℕ) → p < length tops
    → slice_index (with_ports ps (places_of t ps) (given_numbers g ps) tops) p ≡ (if has_place (λ (q : Port). t q.name) (input_ports ps) p then h p else slice_index tops p)
given-put t h g [] a tops p lt = refl
given-put t h g (q ∷ ps) a tops p lt = go q.output refl (given-put t h g ps a.1)
  where
    rest : Bool
    rest = has_place (λ (q : Port). t q.name) (input_ports ps) p

    pick : (b c : Bool) (x y : ℕ) → x ≡ y → (if c then x else y) ≡ y
    pick b true x y e = e
    pick b false x y e = refl

    go : (b : Bool) → q.output ≡ b
        → ((more : List ℕ) (p : ℕ) → p < length more → slice_index (with_ports ps (places_of t ps) (given_numbers g ps) more) p ≡ (if has_place (λ (q : Port). t q.name) (input_ports ps) p then h p else slice_index more p))
        → slice_index (with_ports (q ∷ ps) (places_of t (q ∷ ps)) (given_numbers g (q ∷ ps)) tops) p ≡ (if has_place (λ (q : Port). t q.name) (input_ports (q ∷ ps)) p then h p else slice_index tops p)
    go true out later = rw out (later tops p lt)
    go false out later =
        rw out (later (set tops (t q.name) (g q.name)) p (subst (λ k. p < k) (sym (length-set tops (t q.name) (g q.name))) lt) ∙ elim (cases_eq p (t q.name)) [
          | inl same ↦
              let here : slice_index (set tops (t q.name) (g q.name)) p ≡ h p =
              ap (λ k. slice_index (set tops (t q.name) (g q.name)) k) same ∙ get_or-set_same tops (t q.name) (g q.name) 0 (omega (arith, lt, same)) ∙ sym (a.0 out) ∙ ap h (sym same) in
              let this : (t q.name == p) ≡ true = eq-eqb (t q.name) p (sym same) in
              ap (λ z. if rest then h p else z) here ∙ pick rest rest (h p) (h p) refl ∙ ap (λ b. if (b || rest) then h p else slice_index tops p) (sym this)
          | inr other ↦
              let there : slice_index (set tops (t q.name) (g q.name)) p ≡ slice_index tops p = get_or-set_other tops (t q.name) p (g q.name) 0 other in
              let that : (t q.name == p) ≡ false = ne_eqb (t q.name) p (λ e. other (sym e)) in
              ap (λ z. if rest then h p else z) there ∙ ap (λ b. if (b || rest) then h p else slice_index tops p) (sym that)
        ])
