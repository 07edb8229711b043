-- What outputs show and latches take, one by one.
use Rattle.std.proofs.Common.{◌≡◌, ℕ, zero, suc, ◌+◌, ◌<◌, ◌≤◌, Bool, true, false, List, [], ◌∷◌, ◌++◌, length, map, get_or, take, refl, sym, ◌∙◌, ap, subst, arith, append_assoc}
use Rattle.std.specs.Prelude.{min, if◌then◌else◌}
use Rattle.std.specs.List.{AllByRecursion}
use Rattle.std.proofs.lemmas.List.{get_or-map, append-nil, take_more, flat_map_more, length-append, map-append, length-map}
use Rattle.vl_tree.specs.declared.tree.Port.{Port}
use Rattle.vl_tree.specs.Values.{Name}
use Rattle.aig_model.specs.Form.{literal, word}
use Rattle.aig_model.specs.Netlist.{Net, AreOf}
use Rattle.aig_model.specs.FormOf.{bits_from, in_way, port_bits, all_bits}
use Rattle.vl_run.specs.State.{Part}
use Rattle.vl_run.specs.Top.{places_of}
use Rattle.aig_gates.specs.Zips.{AreBelow}
use Rattle.aig_cycle.specs.Wires.{numbers}
use Rattle.aig_cycle.specs.Steps.{Wired, part_as, IsWired, AreWired}
use Rattle.aig_cycle.specs.Latches.{part_bits}
use Rattle.aig_design.specs.Start.{instance_bits}
use Rattle.aig_cycle.proofs.Actions.{number-at}
use Rattle.aig_design.proofs.Rows.{length-bits}
use Rattle.aig_cycle.proofs.Added.{AreAdded, added-none, added-more, added-all, of-both}
use Rattle.aig_cycle.proofs.Running.{wired-at}

-- the numbers of the top's nets by name, where names stand at t
abbrev pub top_numbers : (Name → ℕ) → List (List ℕ) → (ℕ → Bool) → Name → ℕ
top_numbers t tops v n = get_or (numbers v tops) (t n) 0

-- the literals so far are those of the first i ports
pub record IsShown (ports : List Port) (places : List ℕ) (tops : List (List ℕ)) (made : List ℕ) (i : ℕ) : Type 0 where
  pub known : (k : ℕ) → 0 < k → AllByRecursion (AreBelow k) tops → AreBelow k made
  pub value : (t : Name → ℕ) → places ≡ places_of t ports → AreAdded (λ v. port_bits true (top_numbers t tops v)) [] made (take i ports)

pub shown-none : (ports : List Port) (places : List ℕ) (tops : List (List ℕ)) → IsShown ports places tops [] 0
shown-none ports places tops = record { known = λ k some a. tt; value = λ t e. added-none (λ v. port_bits true (top_numbers t tops v)) [] ports }

pub below-both : (k : ℕ) (xs ys : List ℕ) → AreBelow k xs → AreBelow k ys → AreBelow k (xs ++ ys)
below-both k [] ys a b = b
below-both k (x ∷ xs) ys a b = (a.0, below-both k xs ys a.1 b)

words-at : (k : ℕ) (ws : List (List ℕ)) (i : ℕ) → AllByRecursion (AreBelow k) ws → AreBelow k (get_or ws i [])
words-at k [] i a = tt
words-at k (w ∷ ws) zero a = a.0
words-at k (w ∷ ws) (suc i) a = words-at k ws i a.1

pub place-of : (t : Name → ℕ) (places : List ℕ) (ports : List Port) (i : ℕ) (d : Port) → i < length ports → places ≡ places_of t ports → get_or places i 0 ≡ t (get_or ports i d).name
place-of t places ports i d lt is = ap (λ ps. get_or ps i 0) is ∙ get_or-map (λ (p : Port). t p.name) ports i d 0 lt

pub shown-more : (ports : List Port) (places : List ℕ) (tops : List (List ℕ)) (made new bits w : List ℕ) (i place : ℕ) (d : Port) → i < length ports → (get_or ports i d).output ≡ true → place ≡ get_or places i 0 → w ≡ get_or tops place [] → new ≡ made ++ bits
    → ((k : ℕ) → 0 < k → AreBelow k w → AreBelow k bits) → ((v : ℕ → Bool) → v 0 ≡ false → map (literal v) bits ≡ bits_from (word v w) 0 ((get_or ports i d).high + 1))
    → IsShown ports places tops made i → IsShown ports places tops new (i + 1)
shown-more ports places tops made new bits w i place d lt out at is put low says z = record {
  known = λ k some a. subst (AreBelow k) (sym put) (below-both k made bits (z.known k some a) (low k some (subst (AreBelow k) (sym is) (words-at k tops place a))));
  value = λ t e.
      let p = get_or ports i d in
      let here : place ≡ t p.name = at ∙ place-of t places ports i d lt e in
      added-more (λ v. port_bits true (top_numbers t tops v)) [] made bits new ports i d lt put
      (λ v f. says v f ∙ ap (λ x. bits_from x 0 (p.high + 1)) (ap (word v) is ∙ sym (number-at v tops place) ∙ ap (λ q. get_or (numbers v tops) q 0) here)
      ∙ ap (λ b. if in_way true b then bits_from (top_numbers t tops v p.name) 0 (p.high + 1) else []) (sym out))
      (z.value t e);
}

pub shown-skip : (ports : List Port) (places : List ℕ) (tops : List (List ℕ)) (made : List ℕ) (i : ℕ) (d : Port) → i < length ports → (get_or ports i d).output ≡ false → IsShown ports places tops made i → IsShown ports places tops made (i + 1)
shown-skip ports places tops made i d lt out z = record {
  known = z.known;
  value = λ t e.
      let p = get_or ports i d in
      added-more (λ v. port_bits true (top_numbers t tops v)) [] made [] made ports i d lt (sym (append-nil made))
      (λ v f. ap (λ b. if in_way true b then bits_from (top_numbers t tops v p.name) 0 (p.high + 1) else []) (sym out))
      (z.value t e);
}

pub shown-all : (ports : List Port) (places : List ℕ) (tops : List (List ℕ)) (made : List ℕ) (i : ℕ) → length ports ≤ i → IsShown ports places tops made i → (t : Name → ℕ) → places ≡ places_of t ports → (v : ℕ → Bool) → v 0 ≡ false
    → map (literal v) made ≡ all_bits true (λ n. get_or (numbers v tops) (t n) 0) ports
shown-all ports places tops made i all z t e = added-all (λ v. port_bits true (top_numbers t tops v)) [] made ports i all (z.value t e)

-- ---- variables of inputs

bits-of-more : (f : Name → ℕ) (ports : List Port) (i : ℕ) (d : Port) → i < length ports → length (all_bits false f (take (i + 1) ports)) ≡ length (all_bits false f (take i ports)) + length (port_bits false f (get_or ports i d))
bits-of-more f ports i d lt =
    ap (λ ps. length (all_bits false f ps)) (take_more ports i d lt) ∙ ap length (sym (flat_map_more (port_bits false f) [] (take i ports) (get_or ports i d))) ∙ length-append (all_bits false f (take i ports)) (port_bits false f (get_or ports i d))

pub passed-more : (ports : List Port) (i : ℕ) (d : Port) (first mid next : ℕ) → i < length ports → (get_or ports i d).output ≡ false → next ≡ mid + ((get_or ports i d).high + 1)
    → ((f : Name → ℕ) → mid ≡ first + length (all_bits false f (take i ports))) → (f : Name → ℕ) → next ≡ first + length (all_bits false f (take (i + 1) ports))
passed-more ports i d first mid next lt out is z f =
    let p = get_or ports i d in
    let more = bits-of-more f ports i d lt in
    let one : length (port_bits false f p) ≡ p.high + 1 = ap (λ b. length (if in_way false b then bits_from (f p.name) 0 (p.high + 1) else [])) out ∙ length-bits (f p.name) 0 (p.high + 1) in
    let before = z f in
    omega (arith, more, one, before, is)

pub passed-skip : (ports : List Port) (i : ℕ) (d : Port) (first mid : ℕ) → i < length ports → (get_or ports i d).output ≡ true
    → ((f : Name → ℕ) → mid ≡ first + length (all_bits false f (take i ports))) → (f : Name → ℕ) → mid ≡ first + length (all_bits false f (take (i + 1) ports))
passed-skip ports i d first mid lt out z f =
    let p = get_or ports i d in
    let more = bits-of-more f ports i d lt in
    let one : length (port_bits false f p) ≡ 0 = ap (λ b. length (if in_way false b then bits_from (f p.name) 0 (p.high + 1) else [])) out in
    let before = z f in
    omega (arith, more, one, before)

-- ---- what latches take

-- the literals so far have the bits of the first i instances
pub record AreTaken (resets : List (List ℕ)) (parts : List Wired) (made : List ℕ) (i : ℕ) : Type 0 where
  pub known : (n : Net) → 0 < n.start → AreWired n parts → AreOf n made
  pub value : (v : ℕ → Bool) → v 0 ≡ false → map (literal v) made ≡ instance_bits (take i resets) (map (part_as v) (take i parts))

pub instances-none : (resets : List (List ℕ)) (parts : List Wired) → AreTaken resets parts [] 0
instances-none [] parts = record { known = λ n some a. tt; value = λ v e. refl }
instances-none (r ∷ rs) parts = record { known = λ n some a. tt; value = λ v e. refl }

instances-push : (rs : List (List ℕ)) (xs : List Part) (r : List ℕ) (x : Part) → length rs ≡ length xs → instance_bits (rs ++ r ∷ []) (xs ++ x ∷ []) ≡ instance_bits rs xs ++ part_bits r x
instances-push [] [] r x e = append-nil (part_bits r x)
instances-push [] (y ∷ xs) r x e = absurd (omega (arith, e))
instances-push (q ∷ rs) [] r x e = absurd (omega (arith, e))
instances-push (q ∷ rs) (y ∷ xs) r x e = ap (λ z. part_bits q y ++ z) (instances-push rs xs r x (omega (arith, e))) ∙ sym (append_assoc (part_bits q y) (instance_bits rs xs) (part_bits r x))

long-take : {A : Type 0} (xs : List A) (i : ℕ) → i ≤ length xs → length (take i xs) ≡ i
long-take [] zero le = refl
long-take [] (suc i) le = absurd (omega (arith, le))
long-take (x ∷ xs) zero le = refl
long-take (x ∷ xs) (suc i) le = let e = long-take xs i (omega (arith, le)) in omega (arith, e)

pub instances-more : (resets : List (List ℕ)) (parts : List Wired) (made new bits : List ℕ) (i : ℕ) (r : List ℕ) (x : Wired) → i < length resets → i < length parts → r ≡ get_or resets i r → x ≡ get_or parts i x → new ≡ made ++ bits
    → ((n : Net) → 0 < n.start → IsWired n x → AreOf n bits) → ((v : ℕ → Bool) → v 0 ≡ false → map (literal v) bits ≡ part_bits r (part_as v x)) → AreTaken resets parts made i → AreTaken resets parts new (i + 1)
instances-more resets parts made new bits i r x lr lx er ex put low says z = record {
  known = λ n some a. subst (AreOf n) (sym put) (of-both n made bits (z.known n some a) (low n some (wired-at n parts i x lx ex a)));
  value = λ v e.
      let count : length (take i resets) ≡ length (map (part_as v) (take i parts)) = (
      let a = long-take resets i (omega (arith, lr)) in
      let b = length-map (take i parts) (part_as v) in
      let c = long-take parts i (omega (arith, lx)) in
      omega (arith, a, b, c)
      ) in
      ap (map (literal v)) put ∙ map-append (literal v) made bits ∙ ap (λ b. b ++ map (literal v) bits) (z.value v e) ∙ ap (λ b. instance_bits (take i resets) (map (part_as v) (take i parts)) ++ b) (says v e)
      ∙ sym (instances-push (take i resets) (map (part_as v) (take i parts)) r (part_as v x) count)
      ∙ ap (λ b. instance_bits (take i resets ++ r ∷ []) b) (sym (map-append (part_as v) (take i parts) (x ∷ []))) ∙ ap (λ b. instance_bits b (map (part_as v) (take i parts ++ x ∷ []))) (ap (λ y. take i resets ++ y ∷ []) er ∙ sym (take_more resets i r lr))
      ∙ ap (λ b. instance_bits (take (i + 1) resets) (map (part_as v) b)) (ap (λ y. take i parts ++ y ∷ []) ex ∙ sym (take_more parts i x lx));
}

bits-within : (rs : List (List ℕ)) (xs : List Part) (i : ℕ) → min (length xs) (length rs) ≤ i → instance_bits (take i rs) (take i xs) ≡ instance_bits rs xs
bits-within [] xs zero le = refl
bits-within [] xs (suc i) le = refl
bits-within (r ∷ rs) [] zero le = refl
bits-within (r ∷ rs) [] (suc i) le = refl
bits-within (r ∷ rs) (x ∷ xs) zero le = absurd (omega (arith, le))
bits-within (r ∷ rs) (x ∷ xs) (suc i) le = ap (λ b. part_bits r x ++ b) (bits-within rs xs i (omega (arith, le)))

pub instances-all : (resets : List (List ℕ)) (parts : List Wired) (made : List ℕ) (i : ℕ) → min (length parts) (length resets) ≤ i → AreTaken resets parts made i → (v : ℕ → Bool) → v 0 ≡ false
    → map (literal v) made ≡ instance_bits resets (map (part_as v) parts)
instances-all resets parts made i le z v e =
    z.value v e ∙ ap (instance_bits (take i resets)) (take-map parts i) ∙ bits-within resets (map (part_as v) parts) i (let l = length-map parts (part_as v) in subst (λ k. min k (length resets) ≤ i) (sym l) le)
  where
    take-map : (xs : List Wired) (i : ℕ) → map (part_as v) (take i xs) ≡ take i (map (part_as v) xs)
    take-map [] zero = refl
    take-map [] (suc i) = refl
    take-map (x ∷ xs) zero = refl
    take-map (x ∷ xs) (suc i) = ap (λ ys. part_as v x ∷ ys) (take-map xs i)
