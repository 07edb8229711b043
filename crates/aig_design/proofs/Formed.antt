-- The form is the design's, cycle by cycle.
use Rattle.std.proofs.Common.{◌≡◌, ℕ, zero, suc, ◌+◌, ◌-◌, ◌*◌, ◌<◌, ◌≤◌, ◌^◌, Bool, true, false, List, [], ◌∷◌, length, map, get_or, Option, refl, sym, ◌∙◌, ap, subst, arith}
use Rattle.std.specs.Prelude.{Some, None, ◌==◌, nat_le, if◌then◌else◌}
use Rattle.std.specs.Int.{bit_at}
use Rattle.std.specs.List.{AllByRecursion, list_all}
use Rattle.std.proofs.lemmas.Nat.{pow_pos}
use Rattle.std.proofs.lemmas.List.{length-map}
use Rattle.std.proofs.lemmas.Bool.{ne_eqb, le-leb, lt-leb}
use Rattle.std.proofs.lemmas.Nat.Bits.{bit_at-zero}
use Rattle.vl_tree.specs.declared.tree.Port.{Port}
use Rattle.vl_tree.specs.Values.{Name, Item, wire, reg, mem, assign, clocked, store, Leaf, Design}
use Rattle.vl_model.specs.Meaning.{Values}
use Rattle.vl_model.specs.Lines.{Line, leaf_lines, top_lines, is_input, is_register, is_memory, kind_passes, widths}
use Rattle.vl_model.specs.Rules.{is_kind, IsSound}
use Rattle.vl_model.specs.Leaf.{leaf_widths, Stepped, Reset, AreSmall, IsRightIn}
use Rattle.vl_model.specs.Lines.{leaf_named}
use Rattle.vl_tree.specs.declared.tree.TopItem.{TopItem}
use Rattle.vl_tree.specs.declared.tree.TopItem.TheVariants.{Wire, Instance}
use Rattle.vl_model.specs.Whole.{Nets, Of, IsRun, Fit, SameKept, SameState, SameNets, AreSmallNets}
use Rattle.vl_model.specs.Settle.{settled, with_inputs, stepped, instance_stepped, inside_stepped, reset_net, run}
use Rattle.vl_model.proofs.Stepping.{reset-only, step-holds, same-step, same-store}
use Rattle.vl_model.proofs.Tops.{Each, each-map, each-both}
use Rattle.vl_model.proofs.One.{known, found-here, one-valuation}
use Rattle.vl_model.proofs.Running.{one-run}
use Rattle.vl_run.proofs.Inputs.{input-among, inputs-fit}
use Rattle.vl_run.proofs.Whole.{ports-first}
use Rattle.aig_model.specs.Form.{Form, first_gate, last_variable, AreOrdered, flipped, given, values, literal, next_state, states, form_outputs}
use Rattle.aig_model.specs.FormOf.{IsFormOf, needs_no_gate, in_way, AreBits, AreInputs, FitPorts, bits_from, flipped_bits, words_from, all_bits, leaf_latches, all_latches, zero_words}
use Rattle.aig_model.specs.FormOf as form
use Rattle.aig_model.specs.Netlist.{Net, Grows, IsReady, settle_gates}
use Rattle.aig_model.proofs.Netlists.{all-wider}
use Rattle.aig_cycle.specs.Steps.{Wired}
use Rattle.aig_design.specs.Opened.{IsOpened, AreShown, AreNext}
use Rattle.aig_design.proofs.Bits.{bits-join, bits-moved}
use Rattle.aig_design.proofs.Named.{IsFirst, LeafNames}
use Rattle.aig_design.proofs.Stood.{quiet}
use Rattle.aig_design.proofs.AllParts.{IsStill, IsAlike, all-alike, count-all}
use Rattle.aig_design.proofs.Topped.{given_numbers, given-fit, given-there}
use Rattle.aig_design.proofs.Cycled.{bits-same, all-named, all_quiet, quiet-here, outputs-are, latches-are}

-- ---- lists of bits

-- bits of literals are those of the function that reads them
pub bits-of-map : (f : ℕ → Bool) (xs : List ℕ) → AreBits (map f xs) (λ j. f (get_or xs j 0)) 0
bits-of-map f [] = tt
bits-of-map f (x ∷ xs) = (refl, bits-moved (map f xs) (λ j. f (get_or xs j 0)) (λ j. f (get_or (x ∷ xs) j 0)) 0 1 same (bits-of-map f xs))
  where
    same : (k : ℕ) → f (get_or (x ∷ xs) (1 + k) 0) ≡ f (get_or xs (0 + k) 0)
    same k =
        let a : 1 + k ≡ suc k = omega arith in
        let b : k ≡ 0 + k = omega arith in
        ap (λ j. f (get_or (x ∷ xs) j 0)) a ∙ ap (λ j. f (get_or xs j 0)) b

flipped-self : (b : Bool) → flipped b b ≡ false
flipped-self true = refl
flipped-self false = refl

reset-bits : (x i w : ℕ) (j : ℕ) → AreBits (flipped_bits x x i w) (λ k. false) j
reset-bits x i zero j = tt
reset-bits x i (suc w) j = (sym (flipped-self (bit_at x i == 1)), reset-bits x (i + 1) w (j + 1))

zero-bits : (i w j : ℕ) → AreBits (bits_from 0 i w) (λ k. false) j
zero-bits i zero j = tt
zero-bits i (suc w) j = (sym (no-bit i), zero-bits (i + 1) w (j + 1))
  where
    no-bit : (i : ℕ) → (bit_at 0 i == 1) ≡ false
    no-bit i = ap (λ x. x == 1) (bit_at-zero i)

zero-rows : (h j count : ℕ) (f : ℕ → ℕ) → ((i : ℕ) → f i ≡ 0) → (k : ℕ) → AreBits (words_from f h j count) (λ q. false) k
zero-rows h j zero f none k = tt
zero-rows h j (suc count) f none k =
    bits-join (bits_from (f j) 0 (h + 1)) (words_from f h (j + 1) count) (λ q. false) k
    (subst (λ x. AreBits (bits_from x 0 (h + 1)) (λ q. false) k) (sym (none j)) (zero-bits 0 (h + 1) k))
    (zero-rows h (j + 1) count f none (k + length (bits_from (f j) 0 (h + 1))))

zero-inputs : (ps : List Port) (k : ℕ) → AreBits (all_bits false (λ n. 0) ps) (λ q. false) k
zero-inputs [] k = tt
zero-inputs (p ∷ ps) k =
    bits-join (if in_way false p.output then bits_from 0 0 (p.high + 1) else []) (all_bits false (λ n. 0) ps) (λ q. false) k (go p.output)
    (zero-inputs ps (k + length (if in_way false p.output then bits_from 0 0 (p.high + 1) else [])))
  where
    go : (b : Bool) → AreBits (if in_way false b then bits_from 0 0 (p.high + 1) else []) (λ q. false) k
    go true = tt
    go false = zero-bits 0 (p.high + 1) k

zero-fits : (ps : List Port) → FitPorts (λ n. 0) ps
zero-fits [] = tt
zero-fits (p ∷ ps) = ((λ out. pow_pos (p.high + 1)), zero-fits ps)

-- ---- at reset

reset-registers : (all : List Item) (l : Leaf) (u : Values) → ((n : Name) → is_kind is_register (leaf_lines l) n ≡ true → u.net n ≡ reset_net all n) → (is : List Item) → AllByRecursion (IsFirst (leaf_lines l)) is
    → (k : ℕ) → AreBits (form.register_bits all u is) (λ q. false) k
reset-registers all l u same [] f k = tt
reset-registers all l u same (wire h n ∷ is) f k = reset-registers all l u same is f.1 k
reset-registers all l u same (mem h n last ∷ is) f k = reset-registers all l u same is f.1 k
reset-registers all l u same (assign n e ∷ is) f k = reset-registers all l u same is f.1 k
reset-registers all l u same (clocked n c e ∷ is) f k = reset-registers all l u same is f.1 k
reset-registers all l u same (store c n i e ∷ is) f k = reset-registers all l u same is f.1 k
reset-registers all l u same (reg h n ∷ is) f k =
    bits-join (flipped_bits (u.net n) (reset_net all n) 0 (h + 1)) (form.register_bits all u is) (λ q. false) k
    (subst (λ x. AreBits (flipped_bits x (reset_net all n) 0 (h + 1)) (λ q. false) k) (sym (same n (ap (kind_passes is_register) f.0))) (reset-bits (reset_net all n) 0 (h + 1) k))
    (reset-registers all l u same is f.1 (k + length (flipped_bits (u.net n) (reset_net all n) 0 (h + 1))))

reset-memories : (l : Leaf) (u : Values) → ((n : Name) (i : ℕ) → is_kind is_memory (leaf_lines l) n ≡ true → u.word n i ≡ 0) → (is : List Item) → AllByRecursion (IsFirst (leaf_lines l)) is
    → (k : ℕ) → AreBits (form.memory_bits u is) (λ q. false) k
reset-memories l u none [] f k = tt
reset-memories l u none (wire h n ∷ is) f k = reset-memories l u none is f.1 k
reset-memories l u none (reg h n ∷ is) f k = reset-memories l u none is f.1 k
reset-memories l u none (assign n e ∷ is) f k = reset-memories l u none is f.1 k
reset-memories l u none (clocked n c e ∷ is) f k = reset-memories l u none is f.1 k
reset-memories l u none (store c n i e ∷ is) f k = reset-memories l u none is f.1 k
reset-memories l u none (mem h n last ∷ is) f k =
    bits-join (words_from (u.word n) h 0 (last + 1)) (form.memory_bits u is) (λ q. false) k (zero-rows h 0 (last + 1) (u.word n) (λ i. none n i (ap (kind_passes is_memory) f.0)) k)
    (reset-memories l u none is f.1 (k + length (words_from (u.word n) h 0 (last + 1))))

-- all latches of a design at reset are 0
reset-latches : (ls : List Leaf) (a : Name → Values) (is : List TopItem) → Each ls (λ l n js. LeafNames l) is → Each ls (λ l n js. AllByRecursion (Reset (a n)) l.items) is
    → Each ls (λ l n js. (m : Name) (i : ℕ) → is_kind is_memory (leaf_lines l) m ≡ true → (a n).word m i ≡ 0) is → (k : ℕ) → AreBits (all_latches ls a is) (λ q. false) k
reset-latches ls a [] names r z k = tt
reset-latches ls a (Wire h n ∷ is) names r z k = reset-latches ls a is names.1 r.1 z.1 k
reset-latches ls a (Instance l n js ∷ is) names r z k =
    bits-join (leaf_latches (leaf_named ls l) (a n)) (all_latches ls a is) (λ q. false) k (go (leaf_named ls l) names.0 r.0 z.0)
    (reset-latches ls a is names.1 r.1 z.1 (k + length (leaf_latches (leaf_named ls l) (a n))))
  where
    go : (o : Option Leaf) → Of o (λ y. LeafNames y) → Of o (λ y. AllByRecursion (Reset (a n)) y.items) → Of o (λ y. (m : Name) (i : ℕ) → is_kind is_memory (leaf_lines y) m ≡ true → (a n).word m i ≡ 0) → AreBits (leaf_latches o (a n)) (λ q. false) k
    go None names r z = absurd names
    go (Some y) names r z =
        bits-join (form.register_bits y.items (a n) y.items) (form.memory_bits (a n) y.items) (λ q. false) k
        (reset-registers y.items y (a n) (λ m e. reset-only (a n) y.items m r (names.facts.moving.register m e)) y.items names.first k)
        (reset-memories y (a n) z y.items names.first (k + length (form.register_bits y.items (a n) y.items)))

-- ---- the variables of a form

given-input : (f : Form) (input state : ℕ → Bool) (j : ℕ) → j < f.inputs → given f input state (1 + j) ≡ input j
given-input f input state j lt =
    let some : (1 + j == 0) ≡ false = ne_eqb (1 + j) 0 (λ e. absurd (omega (arith, e))) in
    let low : nat_le (1 + j) f.inputs ≡ true = le-leb (1 + j) f.inputs (omega (arith, lt)) in
    let back : 1 + j - 1 ≡ j = omega arith in
    rw (some, low) (ap input back)

given-state : (f : Form) (input state : ℕ → Bool) (j : ℕ) → given f input state (1 + f.inputs + j) ≡ state j
given-state f input state j =
    let some : (1 + f.inputs + j == 0) ≡ false = ne_eqb (1 + f.inputs + j) 0 (λ e. absurd (omega (arith, e))) in
    let high : nat_le (1 + f.inputs + j) f.inputs ≡ false = lt-leb (1 + f.inputs + j) f.inputs (omega arith) in
    let back : 1 + f.inputs + j - f.inputs - 1 ≡ j = omega arith in
    rw (some, high) (ap state back)

same-values : (v u : Values) → ((n : Name) → v.net n ≡ u.net n) → ((n : Name) (k : ℕ) → v.word n k ≡ u.word n k) → v ≡ u
same-values v u nets words = λ i. record { net = λ n. nets n i; word = λ n k. words n k i }

module _ (d : Design) (sound : IsSound d) (inputs next : ℕ) (wired0 : List Wired) (resets : List (List ℕ)) (ports : List ℕ) (tops0 : List (List ℕ)) (o : IsOpened d inputs next wired0 resets ports tops0)
    (n0 n1 n2 : Net) (start : n0.start ≡ next) (empty : n0.gates ≡ []) (grow1 : Grows n0 n1) (grow2 : Grows n1 n2) (wired1 wired2 : List Wired) (tops1 tops2 : List (List ℕ)) (outputs latches : List ℕ)
    (shows : AreShown d.top.ports ports n0 n1 wired0 wired1 tops0 tops1 outputs) (takes : AreNext d.top.ports ports resets n1 n2 wired1 wired2 tops1 tops2 latches) where
  abbrev all : List Line
  all = top_lines d.top

  abbrev F : Form
  F = record { inputs = inputs; latches = latches; outputs = outputs; gates = n2.gates }

  abbrev no_values : Name → Values
  no_values n = record { net = λ m. 0; word = λ m j. 0 }

  module _ (g : ℕ → Name → ℕ) (bits : ℕ → ℕ → Bool) (fed : AreInputs d g bits) where
    abbrev R : ℕ → Nets
    R c = run d zero_words g c

    fit : Fit d zero_words g
    fit = record {
      input = λ c n k. input-fits c n k;
      word = each-map d.leaves (λ l n js. Unit {0}) (λ l n js. (m : Name) (i : ℕ) → is_kind is_memory (leaf_lines l) m ≡ true → zero_words n m i < 2 ^ (leaf_widths l).word m)
          (λ l n js u m i k. pow_pos ((leaf_widths l).word m)) d.top.items (known d sound);
    }
      where
        input-fits : (c : ℕ) (n : Name) → is_kind is_input all n ≡ true → g c n < 2 ^ (widths all).net n
        input-fits c n k =
            let has = input-among d.top.ports d.top.items n k in
            subst (λ x. x < 2 ^ (widths all).net n) (given-there (g c) d.top.ports n has)
            (inputs-fit all d.top.ports (ports-first d sound).0 (given_numbers (g c) d.top.ports) (given-fit (g c) d.top.ports (fed c).0) n has)

    is-run : IsRun d zero_words g R
    is-run = (one-run d sound zero_words g fit).0

    -- the state of a cycle, without what nets have
    abbrev B : ℕ → Name → Values
    B c = all_quiet d sound (R c).inside

    abbrev S : ℕ → Nets
    S c = with_inputs d (g c) (B c)

    still : (c : ℕ) → Each d.leaves (λ l n js. IsStill l (B c n)) d.top.items
    still c =
        each-both d.leaves (λ l n js. B c n ≡ quiet l ((R c).inside n)) (λ l n js. IsRightIn l ((R c).inside n)) (λ l n js. IsStill l (B c n))
        (λ l n js e r. subst (IsStill l) (sym e) (quiet-still l ((R c).inside n) r.small)) d.top.items (quiet-here d sound (R c).inside) (is-run.right c).inside
      where
        quiet-still : (l : Leaf) (u : Values) → AreSmall (leaf_widths l) u → IsStill l (quiet l u)
        quiet-still l u small = record {
          small = record { net = λ n. go n (is_kind is_register (leaf_lines l) n); word = small.word };
          still = λ n k. ap (λ b. if b then u.net n else 0) k;
        }
          where
            go : (n : Name) (b : Bool) → (if b then u.net n else 0) < 2 ^ (leaf_widths l).net n
            go n true = small.net n
            go n false = pow_pos ((leaf_widths l).net n)

    small-state : (c : ℕ) → AreSmallNets d (S c)
    small-state c = record {
      top = λ n. go n (is_kind is_input all n) refl;
      inside = each-map d.leaves (λ l n js. IsStill l (B c n)) (λ l n js. AreSmall (leaf_widths l) (B c n)) (λ l n js s. s.small) d.top.items (still c);
    }
      where
        go : (n : Name) (b : Bool) → is_kind is_input all n ≡ b → (if is_kind is_input all n then g c n else 0) < 2 ^ (widths all).net n
        go n true k = rw k (fit.input c n k)
        go n false k = rw k (pow_pos ((widths all).net n))

    -- it settles to what the run has
    same-state : (c : ℕ) → SameState d (S c) (R c)
    same-state c = record {
      inside = each-map d.leaves (λ l n js. B c n ≡ quiet l ((R c).inside n)) (λ l n js. SameKept l (B c n) ((R c).inside n))
          (λ l n js e. record {
            register = λ m k. ap (λ (q : Values). q.net m) e ∙ ap (λ b. if b then ((R c).inside n).net m else 0) k;
            word = λ m i. ap (λ (q : Values). q.word m i) e;
          }) d.top.items (quiet-here d sound (R c).inside);
      inputs = λ n k. is-run.fed c n k ∙ ap (λ b. if b then g c n else 0) (sym k);
    }

    same-nets : (c : ℕ) → SameNets d (R c) (settled d (S c))
    same-nets c = (one-valuation d sound (S c) (small-state c)).2 (R c) (is-run.right c) (same-state c)

    -- and its latches are the run's
    alike-quiet : (c : ℕ) → all_latches d.leaves (B c) d.top.items ≡ all_latches d.leaves (R c).inside d.top.items
    alike-quiet c =
        all-alike o.begun.top d.leaves (B c) (R c).inside d.top.items (all-named d sound)
        (each-map d.leaves (λ l n js. SameKept l (B c n) ((R c).inside n)) (λ l n js. IsAlike l (B c n) ((R c).inside n))
        (λ l n js s. record { register = s.register; memory = λ m k i. s.word m i }) d.top.items (same-state c).inside)

    -- the next state's are those of the next cycle
    alike-next : (c : ℕ) → all_latches d.leaves (inside_stepped d.leaves d.top.items (settled d (S c)).inside) d.top.items ≡ all_latches d.leaves (R (suc c)).inside d.top.items
    alike-next c =
        let X : Name → Values = (settled d (S c)).inside in
        let Y : Name → Values = (R c).inside in
        let N : Name → Values = inside_stepped d.leaves d.top.items X in
        all-alike o.begun.top d.leaves N (R (suc c)).inside d.top.items (all-named d sound)
        (each-both d.leaves (λ l n js. LeafNames l × (N n ≡ stepped (leaf_widths l) (X n) l.items (X n))) (λ l n js. (X n ≡ Y n) × AllByRecursion (Stepped (leaf_widths l) (Y n) ((R (suc c)).inside n)) l.items) (λ l n js. IsAlike l (N n) ((R (suc c)).inside n))
        (λ l n js a b. one-step l (N n) (X n) (Y n) ((R (suc c)).inside n) a.0 a.1 b.0 b.1) d.top.items
        (each-both d.leaves (λ l n js. LeafNames l) (λ l n js. N n ≡ stepped (leaf_widths l) (X n) l.items (X n)) (λ l n js. LeafNames l × (N n ≡ stepped (leaf_widths l) (X n) l.items (X n))) (λ l n js a b. (a, b)) d.top.items
        (all-named d sound) (found-here d sound (λ l n joins. instance_stepped l (X n)) X))
        (each-both d.leaves (λ l n js. X n ≡ Y n) (λ l n js. AllByRecursion (Stepped (leaf_widths l) (Y n) ((R (suc c)).inside n)) l.items) (λ l n js. (X n ≡ Y n) × AllByRecursion (Stepped (leaf_widths l) (Y n) ((R (suc c)).inside n)) l.items) (λ l n js a b. (a, b)) d.top.items
        (each-map d.leaves (λ l n js. ((m : Name) → (Y n).net m ≡ (X n).net m) × ((m : Name) (i : ℕ) → (Y n).word m i ≡ (X n).word m i)) (λ l n js. X n ≡ Y n) (λ l n js h. same-values (X n) (Y n) (λ m. sym (h.0 m)) (λ m i. sym (h.1 m i))) d.top.items (same-nets c).inside)
        (is-run.edges c)))
      where
        one-step : (l : Leaf) (u x y z : Values) → LeafNames l → u ≡ stepped (leaf_widths l) x l.items x → x ≡ y → AllByRecursion (Stepped (leaf_widths l) y z) l.items → IsAlike l u z
        one-step l u x y z names is same steps =
            let W = leaf_widths l in
            let whole : u ≡ stepped W y l.items y = is ∙ ap (λ (q : Values). stepped W q l.items q) same in
            let stands = step-holds W y l.items y names.facts.moving.once in
            record {
              register = λ n k. ap (λ (q : Values). q.net n) whole ∙ same-step W y l.items (stepped W y l.items y) z stands steps n (names.facts.moving.register n k);
              memory = λ n k i. ap (λ (q : Values). q.word n i) whole ∙ same-store W y l.items (stepped W y l.items y) z stands steps n (names.facts.moving.memory n k) i;
            }

    -- ---- the form

    count : next ≡ 1 + inputs + length (all_latches d.leaves no_values d.top.items)
    count = count-all o.begun.top d.leaves no_values d.top.items (all-named d sound) (1 + inputs) next o.parts wired0 resets o.begun.fresh o.laid

    start2 : n2.start ≡ next
    start2 = grow2.start ∙ grow1.start ∙ start

    module _ (long : length latches ≡ length (all_latches d.leaves no_values d.top.items)) where
      first-is : first_gate F ≡ n2.start
      first-is = let a = count in let b = start2 in omega (arith, a, b, long)

      abbrev V : ℕ → ℕ → Bool
      V c = given F (bits c) (states F bits c)

      values-are : (c : ℕ) → values F (bits c) (states F bits c) ≡ settle_gates n2 (V c)
      values-are c = ap (λ k. settle_gates (record { start = k; gates = n2.gates }) (V c)) first-is

      inputs-given : (c : ℕ) → AreBits (all_bits false (g c) d.top.ports) (λ j. V c (1 + j)) 0
      inputs-given c =
          bits-same (all_bits false (g c) d.top.ports) (bits c) (λ j. V c (1 + j)) 0
          (λ j lt. given-input F (bits c) (states F bits c) j (let e = o.input_bits (g c) in omega (arith, lt, e))) (fed c).1

      -- where the latches have the bits of the run's state, so have the variables
      latches-given : (c : ℕ) → AreBits (all_latches d.leaves (R c).inside d.top.items) (states F bits c) 0 → AreBits (all_latches d.leaves (B c) d.top.items) (λ j. V c (1 + inputs + j)) 0
      latches-given c h =
          subst (λ bs. AreBits bs (λ j. V c (1 + inputs + j)) 0) (sym (alike-quiet c))
          (bits-same (all_latches d.leaves (R c).inside d.top.items) (states F bits c) (λ j. V c (1 + inputs + j)) 0 (λ j lt. given-state F (bits c) (states F bits c) j) h)

      pub outputs-run : (c : ℕ) → AreBits (all_latches d.leaves (R c).inside d.top.items) (states F bits c) 0 → form_outputs F bits c ≡ all_bits true (R c).top d.top.ports
      outputs-run c h =
          ap (λ w. map (literal w) outputs) (values-are c)
          ∙ outputs-are d sound inputs next wired0 resets ports tops0 o n0 n1 n2 start empty grow1 grow2 wired1 wired2 tops1 tops2 outputs latches shows takes (V c) refl (B c) (still c) (latches-given c h) (g c) (fed c).0 (inputs-given c)
          ∙ ap (λ f. all_bits true f d.top.ports) (λ i n. sym ((same-nets c).top n) i)

      pub latches-run : (c : ℕ) → AreBits (all_latches d.leaves (R c).inside d.top.items) (states F bits c) 0
      unfolding states
      latches-run zero = reset-latches d.leaves (R 0).inside d.top.items (all-named d sound) is-run.starts is-run.filled 0
      latches-run (suc c) =
          let W : ℕ → Bool = settle_gates n2 (V c) in
          subst (λ w. AreBits (all_latches d.leaves (R (suc c)).inside d.top.items) (next_state F w) 0) (sym (values-are c))
          (subst (λ bs. AreBits bs (λ j. literal W (get_or latches j 0)) 0)
          (latches-are d sound inputs next wired0 resets ports tops0 o n0 n1 n2 start empty grow1 grow2 wired1 wired2 tops1 tops2 outputs latches shows takes (V c) refl (B c) (still c) (latches-given c (latches-run c)) (g c) (fed c).0 (inputs-given c)
          ∙ alike-next c)
          (bits-of-map (literal W) latches))

    -- with no inputs and at reset, there are as many latches as the design has bits
    first-latches : AreBits (all_bits false (g 0) d.top.ports) (λ q. false) 0 → length latches ≡ length (all_latches d.leaves no_values d.top.items)
    first-latches none =
        let X : Name → Values = inside_stepped d.leaves d.top.items (settled d (S 0)).inside in
        let at-reset : AreBits (all_latches d.leaves (B 0) d.top.items) (λ q. false) 0 =
        subst (λ bs. AreBits bs (λ q. false) 0) (sym (alike-quiet 0)) (reset-latches d.leaves (R 0).inside d.top.items (all-named d sound) is-run.starts is-run.filled 0) in
        let taken =
        latches-are d sound inputs next wired0 resets ports tops0 o n0 n1 n2 start empty grow1 grow2 wired1 wired2 tops1 tops2 outputs latches shows takes (λ q. false) refl (B 0) (still 0) at-reset (g 0) (fed 0).0 none in
        let a : length latches ≡ length (all_latches d.leaves X d.top.items) = sym (length-map latches (literal (settle_gates n2 (λ q. false)))) ∙ ap length taken in
        let b : next ≡ 1 + inputs + length (all_latches d.leaves X d.top.items) = count-all o.begun.top d.leaves X d.top.items (all-named d sound) (1 + inputs) next o.parts wired0 resets o.begun.fresh o.laid in
        let c = count in
        omega (arith, a, b, c)

  below : (k : ℕ) → last_variable F + 1 ≡ k → (xs : List ℕ) → AllByRecursion (λ x. x < 2 * k) xs → AllByRecursion (λ x. x ≤ 2 * last_variable F + 1) xs
  below k e [] a = tt
  below k e (x ∷ xs) a = (let h = a.0 in omega (arith, h, e), below k e xs a.1)

  no-inputs : AreInputs d (λ c n. 0) (λ c i. false)
  no-inputs c = (zero-fits d.top.ports, zero-inputs d.top.ports 0)

  long-is : length latches ≡ length (all_latches d.leaves no_values d.top.items)
  long-is = first-latches (λ c n. 0) (λ c i. false) no-inputs (zero-inputs d.top.ports 0)

  pub form-is : IsReady n2 → length n2.gates < 2 ^ 61 → length outputs < 2 ^ 64 → (list_all (λ (l : Leaf). list_all needs_no_gate l.items) d.leaves ≡ true → length n2.gates ≡ 0) → IsFormOf d F
  form-is ready few short free =
      let first : first_gate F ≡ n2.start = first-is (λ c n. 0) (λ c i. false) no-inputs long-is in
      let start-at : n2.start ≡ next = start2 (λ c n. 0) (λ c i. false) no-inputs in
      let low = o.low in
      let up : last_variable F + 1 ≡ n2.start + length n2.gates = omega (arith, first) in
      record {
        form = record {
          ordered = subst (λ k. AreOrdered k n2.gates) (sym first) ready.ordered;
          latches = below (n2.start + length n2.gates) up latches takes.known;
          outputs = below (n2.start + length n2.gates) up outputs (all-wider n1 n2 grow2 outputs shows.known);
          fits = omega (arith, up, start-at, low, few);
          count = short;
        };
        inputs = o.input_bits (λ n. 0);
        count = long-is;
        outputs = λ g bits fed c. outputs-run g bits fed long-is c (latches-run g bits fed long-is c);
        latches = λ g bits fed c. latches-run g bits fed long-is c;
        free = free;
      }
