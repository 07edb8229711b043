-- The rows of all instances, and of the top's nets, in a phase.
use Rattle.std.proofs.Common.{◌≡◌, ℕ, zero, suc, ◌+◌, ◌<◌, Bool, true, false, ◌&&◌, List, [], ◌∷◌, ◌++◌, length, map, refl, sym, ◌∙◌, ap, subst, bytes_eq, arith}
use Rattle.std.specs.Prelude.{Option, Some, None, find, get_or, slice_get, ◌==◌}
use Rattle.std.specs.List.{AllByRecursion}
use Rattle.std.proofs.lemmas.Bool.{eqb-true, eqb-false}
use Rattle.std.proofs.lemmas.Option.{none-some}
use Rattle.std.proofs.lemmas.List.{length-append}
use Rattle.vl_tree.specs.declared.tree.Port.{Port}
use Rattle.vl_tree.specs.declared.tree.Join.{Join}
use Rattle.vl_tree.specs.declared.tree.TopItem.{TopItem}
use Rattle.vl_tree.specs.declared.tree.TopItem.TheVariants.{Wire, Instance}
use Rattle.vl_tree.specs.Values.{Name, Leaf, Design}
use Rattle.vl_model.specs.Lines.{Line, joint, leaf_lines, leaf_named, is_net, port_named, widths}
use Rattle.vl_model.specs.Rules.{is_kind, is_output_port, join_drives, instance_drives, drivers}
use Rattle.vl_model.specs.Leaf.{leaf_widths}
use Rattle.vl_model.specs.Whole.{Of}
use Rattle.vl_model.proofs.Passed.{all-map}
use Rattle.vl_model.proofs.Tops.{Each, GoodJoin, found-none}
use Rattle.vl_run.specs.Places.{ArePlaces}
use Rattle.vl_run.proofs.Placed.{places-of}
use Rattle.label_model.specs.Labels.{Label, Labels}
use Rattle.label_model.specs.Driven.{of_port, of_instance, driven_by}
use Rattle.label_model.specs.Phase.{labelled, output_labels}
use Rattle.label_model.proofs.Runs.{port-bits}
use Rattle.label_audit.specs.declared.part.Part.{Part}
use Rattle.label_audit.specs.Rows.{first_bits, firsts, rows_by}
use Rattle.label_audit.specs.Instances.{shown_row, each_join, settled_rows, each_port, blank_row, shown_rows}
use Rattle.label_audit.specs.Whole.{leaf_of, place_of, IsPart, AllAt, Holds, shown_in}
use Rattle.label_audit.proofs.Fed.{length-shown, Shows, shown-is}
use Rattle.label_audit.proofs.OneLeaf.{Facts, shown-port}

-- ---- items 0 to n-1

pub length-firsts : {A : Type 0} (f : ℕ → A) (n : ℕ) → length (firsts f n) ≡ n
length-firsts f zero = refl
length-firsts f (suc n) = length-append (firsts f n) (f n ∷ []) ∙ (let rest = length-firsts f n in omega (arith, rest))

pub front-at : {A : Type 0} (xs ys : List A) (i : ℕ) (x : A) → i < length xs → get_or (xs ++ ys) i x ≡ get_or xs i x
front-at [] ys i x lt = absurd (omega (arith, lt))
front-at (y ∷ xs) ys zero x lt = refl
front-at (y ∷ xs) ys (suc i) x lt = front-at xs ys i x (omega (arith, lt))

pub back-at : {A : Type 0} (xs : List A) (y x : A) → get_or (xs ++ y ∷ []) (length xs) x ≡ y
back-at [] y x = refl
back-at (z ∷ xs) y x = back-at xs y x

pub firsts-at : {A : Type 0} (f : ℕ → A) (n i : ℕ) (x : A) → i < n → get_or (firsts f n) i x ≡ f i
firsts-at f zero i x lt = absurd (omega (arith, lt))
firsts-at {A = A} f (suc n) i x lt = go (i == n) refl (firsts-at f n i x)
  where
    long : length (firsts f n) ≡ n
    long = length-firsts f n

    go : (b : Bool) → (i == n) ≡ b → (i < n → get_or (firsts f n) i x ≡ f i) → get_or (firsts f n ++ f n ∷ []) i x ≡ f i
    go true is rest =
        let e = eqb-true i n is in ap (λ k. get_or (firsts f n ++ f n ∷ []) k x) (e ∙ sym long) ∙ back-at (firsts f n) (f n) x ∙ ap f (sym e)
    go false is rest =
        let less : i < n = grind (arith, lt, eqb-false i n is) in front-at (firsts f n) (f n ∷ []) i x (omega (arith, less, long)) ∙ rest less

-- ---- what holds of each instance and its part

-- the parts from i on are these
abbrev pub IsTail : List Part → ℕ → List Part → Type 0
IsTail whole i ps = (k : ℕ) → slice_get whole (i + k) ≡ slice_get ps k

tail-more : (whole : List Part) (i : ℕ) (p : Part) (ps : List Part) → IsTail whole i (p ∷ ps) → IsTail whole (i + 1) ps
tail-more whole i p ps t k = let e : i + 1 + k ≡ i + suc k = omega arith in ap (slice_get whole) e ∙ t (suc k)

tail-here : (whole : List Part) (i : ℕ) (p : Part) (ps : List Part) → IsTail whole i (p ∷ ps) → slice_get whole i ≡ Some p
tail-here whole i p ps t = let e : i ≡ i + 0 = omega arith in ap (slice_get whole) e ∙ t 0

module _ (ls : List Leaf) where
  -- with what holds of each instance
  pub at-map : (whole : List Part) (P : Leaf → Name → List Join → Type 0) (R Q : Leaf → Name → List Join → Part → ℕ → Type 0)
      → ((l : Leaf) (n : Name) (js : List Join) (p : Part) (i : ℕ) → slice_get whole i ≡ Some p → P l n js → R l n js p i → Q l n js p i)
      → (i : ℕ) (is : List TopItem) → Each ls P is → (ps : List Part) → IsTail whole i ps → AllAt ls R i is ps → AllAt ls Q i is ps
  at-map whole P R Q f i [] e ps t a = a
  at-map whole P R Q f i (Wire h n ∷ is) e ps t a = at-map whole P R Q f i is e.1 ps t a
  at-map whole P R Q f i (Instance l n js ∷ is) e [] t a = a
  at-map whole P R Q f i (Instance l n js ∷ is) e (p ∷ ps) t a = (go (leaf_named ls l) e.0 a.0, at-map whole P R Q f (i + 1) is e.1 ps (tail-more whole i p ps t) a.1)
    where
      go : (o : Option Leaf) → Of o (λ y. P y n js) → Of o (λ y. R y n js p i) → Of o (λ y. Q y n js p i)
      go None x r = r
      go (Some y) x r = f y n js p i (tail-here whole i p ps t) x r

  -- two facts of each
  pub at-pair : (R Q : Leaf → Name → List Join → Part → ℕ → Type 0) (i : ℕ) (is : List TopItem) (ps : List Part) → AllAt ls R i is ps → AllAt ls Q i is ps → AllAt ls (λ l n js p k. R l n js p k × Q l n js p k) i is ps
  at-pair R Q i [] ps a b = a
  at-pair R Q i (Wire h n ∷ is) ps a b = at-pair R Q i is ps a b
  at-pair R Q i (Instance l n js ∷ is) [] a b = a
  at-pair R Q i (Instance l n js ∷ is) (p ∷ ps) a b = (go (leaf_named ls l) a.0 b.0, at-pair R Q (i + 1) is ps a.1 b.1)
    where
      go : (o : Option Leaf) → Of o (λ y. R y n js p i) → Of o (λ y. Q y n js p i) → Of o (λ y. R y n js p i × Q y n js p i)
      go None r q = r
      go (Some y) r q = (r, q)

  -- what follows of each instance
  pub at-each : (R : Leaf → Name → List Join → Part → ℕ → Type 0) (P : Leaf → Name → List Join → Type 0) → ((l : Leaf) (n : Name) (js : List Join) (p : Part) (i : ℕ) → R l n js p i → P l n js)
      → (i : ℕ) (is : List TopItem) (ps : List Part) → AllAt ls R i is ps → Each ls P is
  at-each R P f i [] ps a = tt
  at-each R P f i (Wire h n ∷ is) ps a = (tt, at-each R P f i is ps a)
  at-each R P f i (Instance l n js ∷ is) [] a = absurd a
  at-each R P f i (Instance l n js ∷ is) (p ∷ ps) a = (go (leaf_named ls l) a.0, at-each R P f (i + 1) is ps a.1)
    where
      go : (o : Option Leaf) → Of o (λ y. R y n js p i) → Of o (λ y. P y n js)
      go None r = r
      go (Some y) r = f y n js p i r

-- ---- the top's nets

pub length-shown-in : (t : Name → ℕ) (xs : List (List (List Label))) (ps : List Part) (i : ℕ) (tops : List (List Label)) → length (shown_in t xs ps i tops) ≡ length tops
length-shown-in t xs [] i tops = refl
length-shown-in t xs (p ∷ ps) i tops =
    length-shown (leaf_of p) (place_of p) t (settled_rows (place_of p) (leaf_of p) (each_port (blank_row (place_of p)) (leaf_of p).ports (get_or xs i []))) p.joins.now (shown_in t xs ps (i + 1) tops)
    ∙ length-shown-in t xs ps (i + 1) tops

module _ (ls : List Leaf) (all : List Line) (t : Name → ℕ) (top-places : ArePlaces all t) (inside : Name → Labels) (xs : List (List (List Label))) where
  abbrev wide : Name → ℕ
  wide n = (widths all).net n

  -- an instance's part, and what its rows hold
  abbrev pub Standing : Leaf → Name → List Join → Part → ℕ → Type 0
  Standing l n js p i = Facts all l n js × IsPart l js p × Holds l (place_of p) (get_or xs i []) (inside n)

  abbrev out-rows : Leaf → Part → ℕ → List (List Label)
  out-rows l p i = settled_rows (place_of p) l (each_port (blank_row (place_of p)) l.ports (get_or xs i []))

  pub part-places : (l : Leaf) (js : List Join) (p : Part) → IsPart l js p → ArePlaces (leaf_lines l) (place_of p)
  part-places l js p is = subst (λ z. ArePlaces (leaf_lines z) (place_of p)) is.0 (places-of p.leaf.declared.now (leaf_lines (leaf_of p)) is.2)

  -- each output port's row has its labels, as many as the joined net has bits
  each-shows : (l : Leaf) (n : Name) (js : List Join) (p : Part) (i : ℕ) → Standing l n js p i → (ks : List Join) → AllByRecursion (GoodJoin all l) ks
      → AllByRecursion (Shows all l (place_of p) t top-places (out-rows l p i) (output_labels inside l n) wide) ks
  each-shows l n js p i st = all-map (GoodJoin all l) (Shows all l (place_of p) t top-places (out-rows l p i) (output_labels inside l n) wide)
      (λ j g way.
      shown-port all l n js st.0 (place_of p) (part-places l js p st.1) (get_or xs i []) (inside n) st.2 j.port g.port g.named (sym (ap is_output_port g.named) ∙ way)
      ∙ ap (first_bits (output_labels inside l n j.port)) (port-bits l j.port g.port g.named ∙ g.wide))

  -- a net's row has the labels of what drives it, or else those that it had
  pub tops-hold : (i : ℕ) (is : List TopItem) (ps : List Part) → AllAt ls Standing i is ps → (tops : List (List Label)) → length tops ≡ length all → (n : Name) → is_kind is_net all n ≡ true
      → (y : ℕ → Label) → (drivers ls (map joint is) n ≡ 0 → rows_by t tops n ≡ first_bits y (wide n))
      → rows_by t (shown_in t xs ps i tops) n ≡ first_bits (driven_by ls (output_labels inside) is n y) (wide n)
  tops-hold i [] ps a tops long n k y base = ap (λ qs. rows_by t (shown_in t xs qs i tops) n) a ∙ base refl
  tops-hold i (Wire h m ∷ is) ps a tops long n k y base = tops-hold i is ps a tops long n k y (λ e. base (omega (arith, e)))
  tops-hold i (Instance l m js ∷ is) [] a tops long n k y base = absurd a
  tops-hold i (Instance l m js ∷ is) (p ∷ ps) a tops long n k y base = go (leaf_named ls l) refl a.0 (λ h. tops-hold (i + 1) is ps a.1 tops long n k y h)
    where
      rest : List (List Label)
      rest = shown_in t xs ps (i + 1) tops

      Y : ℕ → Label
      Y = driven_by ls (output_labels inside) is n y

      Again : Type 0
      Again = (drivers ls (map joint is) n ≡ 0 → rows_by t tops n ≡ first_bits y (wide n)) → rows_by t rest n ≡ first_bits Y (wide n)

      size : length rest ≡ length all
      size = length-shown-in t xs ps (i + 1) tops ∙ long

      here : (x : Leaf) → leaf_named ls l ≡ Some x → Standing x m js p i → Again
          → rows_by t (shown_rows (place_of p) t x js (get_or xs i []) rest) n ≡ first_bits (of_port (find (join_drives x n) js) (output_labels inside x m) Y) (wide n)
      here x named st again =
          shown-is all x (place_of p) t top-places (out-rows x p i) (output_labels inside x m) wide js st.0.good.joins (each-shows x m js p i st js st.0.good.joins) rest size n k Y
          (λ none. again (λ zero_later. base (
          let no_join = found-none (join_drives x n) js none in
          let same : instance_drives n js (leaf_named ls l) ≡ 0 = ap (instance_drives n js) named ∙ no_join in
          omega (arith, zero_later, same))))

      go : (o : Option Leaf) → leaf_named ls l ≡ o → Of o (λ x. Standing x m js p i) → Again
          → rows_by t (shown_rows (place_of p) t (leaf_of p) p.joins.now (get_or xs i []) rest) n ≡ first_bits (of_instance (output_labels inside) m js (leaf_named ls l) n Y) (wide n)
      go None named st again = absurd st
      go (Some x) named st again =
          ap (λ z. rows_by t (shown_rows (place_of p) t z p.joins.now (get_or xs i []) rest) n) st.1.0 ∙ ap (λ z. rows_by t (shown_rows (place_of p) t x z (get_or xs i []) rest) n) st.1.1
          ∙ here x named st again ∙ ap (λ o. first_bits (of_instance (output_labels inside) m js o n Y) (wide n)) (sym named)
