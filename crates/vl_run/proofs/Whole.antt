-- A whole machine: at reset, over an edge, and what its outputs show.
use Rattle.std.proofs.Common.{◌≡◌, ℕ, zero, suc, ◌+◌, ◌<◌, ◌≤◌, ◌^◌, Bool, true, false, List, [], ◌∷◌, length, map, refl, sym, ◌∙◌, ap, subst, arith}
use Rattle.std.specs.Prelude.{Option, Some, None, find, if◌then◌else◌, slice_get, slice_index, codes}
use Rattle.std.specs.List.{AllByRecursion}
use Rattle.std.proofs.lemmas.Nat.{pow_pos}
use Rattle.std.proofs.lemmas.Option.{none-some}
use Rattle.std.proofs.lemmas.Bool.{both_ways}
use Rattle.vl_tree.specs.declared.tree.Port.{Port}
use Rattle.vl_tree.specs.declared.tree.Join.{Join}
use Rattle.vl_tree.specs.declared.tree.TopItem.{TopItem}
use Rattle.vl_tree.specs.declared.tree.TopItem.TheVariants.{Wire, Instance}
use Rattle.vl_tree.specs.Values.{Name, Leaf, Design}
use Rattle.vl_model.specs.Meaning.{Widths, Values}
use Rattle.vl_model.specs.declared.kind.Kind.{Kind}
use Rattle.vl_model.specs.declared.kind.Kind.TheVariants.{Input, Output, Inner, Register, Memory, Child}
use Rattle.vl_model.specs.Lines.{Line, heading, joint, top_lines, leaf_named, lookup, Declared, way_of, kind_passes, is_net, is_input, widths, net_bits}
use Rattle.vl_model.specs.Rules.{is_kind, IsSound, wants_driver, drivers, join_drives}
use Rattle.vl_model.specs.Leaf.{leaf_widths, AreSmall, IsRightIn}
use Rattle.vl_model.specs.Whole.{Nets, Of, IsRight, AreSmallNets}
use Rattle.vl_model.specs.Settle.{settle, settled, settled_in, fed, port_value, instance_value, net_value, top_value, inside_settled, inside_stepped, inside_reset, instance_reset, instance_stepped, stepped, with_inputs}
use Rattle.vl_model.proofs.Passed.{top-sound, all-map}
use Rattle.vl_model.proofs.Settling.{settle-word}
use Rattle.vl_model.proofs.Ordered.{kind-of}
use Rattle.vl_model.proofs.Leaves.{settled-keeps}
use Rattle.vl_model.proofs.Tops.{Each, each-both, each-leaf, GoodJoin, GoodInstance, net-has, net-one}
use Rattle.vl_model.proofs.One.{good, known, found-here, at-name, one-driver, one-valuation}
use Rattle.vl_run.specs.Program.{linked}
use Rattle.vl_run.specs.State.{Code, Part, part_settled, part_edged, shown_by}
use Rattle.vl_run.specs.Places.{ArePlaces}
use Rattle.vl_run.specs.Top.{inputs_of, with_ports, places_of}
use Rattle.vl_run.specs.Fresh.{FreshAt, AllFresh, IsBegun}
use Rattle.vl_run.specs.Stands.{StandsIn, StandsAt, AllStand, Stands, Running, AreInputs}
use Rattle.vl_run.proofs.Linked.{length-linked, outs}
use Rattle.vl_run.proofs.Standing.{LeafFacts, leaf-facts, settled-nets, settled-stands, edge-stands}
use Rattle.vl_run.proofs.Begun.{begun}
use Rattle.vl_run.proofs.Inputs.{has_input, First, Distinct, are-first, input-among, among-input, inputs-fit, others-stay, inputs-put, length-with}

-- ---- all instances

module _ (t : Name → ℕ) (ls : List Leaf) where
  -- what is made of each instance stands where it should
  all-mapped : (P : Leaf → Name → List Join → Type 0) (a b : Name → Values) (f : Part → Part)
      → ((l : Leaf) (n : Name) (js : List Join) (x : Part) → P l n js → StandsIn t l js x (a n) → StandsIn t l js (f x) (b n))
      → (is : List TopItem) → Each ls P is → (xs : List Part) → AllStand t ls a is xs → AllStand t ls b is (map f xs)
  all-mapped P a b f make [] e xs h = ap (map f) h
  all-mapped P a b f make (Wire k m ∷ is) e xs h = all-mapped P a b f make is e.1 xs h
  all-mapped P a b f make (Instance l n js ∷ is) e [] h = h
  all-mapped P a b f make (Instance l n js ∷ is) e (x ∷ xs) h = (go (leaf_named ls l) e.0 h.0, all-mapped P a b f make is e.1 xs h.1)
    where
      go : (o : Option Leaf) → Of o (λ y. P y n js) → StandsAt t o js x (a n) → StandsAt t o js (f x) (b n)
      go None p s = s
      go (Some y) p s = make y n js x p s

  all-small : (a : Name → Values) (is : List TopItem) (xs : List Part) → AllStand t ls a is xs → Each ls (λ l n js. AreSmall (leaf_widths l) (a n)) is
  all-small a [] xs h = tt
  all-small a (Wire k m ∷ is) xs h = (tt, all-small a is xs h)
  all-small a (Instance l n js ∷ is) [] h = absurd h
  all-small a (Instance l n js ∷ is) (x ∷ xs) h = (go (leaf_named ls l) h.0, all-small a is xs h.1)
    where
      go : (o : Option Leaf) → StandsAt t o js x (a n) → Of o (λ y. AreSmall (leaf_widths y) (a n))
      go None s = s
      go (Some y) s = s.small

  all-begun : (a : Name → Values) (is : List TopItem) → Each ls (λ l n js. LeafFacts l × (a n ≡ instance_reset (Some l) (λ m i. 0))) is → (xs : List Part) → AllFresh t ls is xs → AllStand t ls a is xs
  all-begun a [] e xs h = h
  all-begun a (Wire k m ∷ is) e xs h = all-begun a is e.1 xs h
  all-begun a (Instance l n js ∷ is) e [] h = h
  all-begun a (Instance l n js ∷ is) e (x ∷ xs) h = (go (leaf_named ls l) e.0 h.0, all-begun a is e.1 xs h.1)
    where
      go : (o : Option Leaf) → Of o (λ y. LeafFacts y × (a n ≡ instance_reset (Some y) (λ m i. 0))) → FreshAt t o js x → StandsAt t o js x (a n)
      go None e s = s
      go (Some y) e s = subst (StandsIn t y js x) (sym e.1) (begun t y js e.0 s.place s.places x s.code s.start)

  pub length-shown : (xs : List Part) (tops : List ℕ) → length (shown_by xs tops) ≡ length tops
  length-shown [] tops = refl
  length-shown (x ∷ xs) tops = length-linked x.kept.nets x.code.outs (shown_by xs tops) ∙ length-shown xs tops

  -- the top's nets take what the instances show
  shows : (all : List Line) → ArePlaces all t → (a : Name → Values) (is : List TopItem) → Each ls (λ l n js. LeafFacts l × GoodInstance all l n js) is → (xs : List Part) → AllStand t ls a is xs
      → (tops : List ℕ) → length all ≤ length tops → (n : Name) → is_kind is_net all n ≡ true → slice_index (shown_by (map part_settled xs) tops) (t n) ≡ net_value ls a is n (slice_index tops (t n))
  shows all places a [] e xs h tops room n k = ap (λ ys. slice_index (shown_by (map part_settled ys) tops) (t n)) h
  shows all places a (Wire b m ∷ is) e xs h tops room n k = shows all places a is e.1 xs h tops room n k
  shows all places a (Instance l i js ∷ is) e [] h tops room n k = absurd h
  shows all places a (Instance l i js ∷ is) e (x ∷ xs) h tops room n k = go (shows all places a is e.1 xs h.1 tops room n k) (leaf_named ls l) e.0 h.0
    where
      Rest : List ℕ
      Rest = shown_by (map part_settled xs) tops

      V : ℕ
      V = net_value ls a is n (slice_index tops (t n))

      roomy : length all ≤ length Rest
      roomy = subst (λ z. length all ≤ z) (sym (length-shown (map part_settled xs) tops)) room

      go : slice_index Rest (t n) ≡ V → (o : Option Leaf) → Of o (λ y. LeafFacts y × GoodInstance all y i js) → StandsAt t o js x (a i)
          → slice_index (linked (part_settled x).kept.nets x.code.outs Rest) (t n) ≡ instance_value a i js o n V
      go later None e s = absurd s
      go later (Some y) e s =
          ap (λ c. slice_index (linked (part_settled x).kept.nets c Rest) (t n)) (ap (λ (q : Code). q.outs) s.code)
          ∙ outs all y s.place t s.places places (settle (leaf_widths y) (a i) y.items) js e.1.joins (part_settled x).kept.nets (settled-nets t y js e.0 x (a i) s) Rest roomy n k
          ∙ ap (port_value (find (join_drives y n) js) (settle (leaf_widths y) (a i) y.items)) later

-- ---- the whole

module _ (d : Design) (sound : IsSound d) where
  abbrev all : List Line
  all = top_lines d.top

  pub facts : Each d.leaves (λ l n js. LeafFacts l) d.top.items
  facts = each-leaf d.leaves LeafFacts d.top.items (known d sound) (λ n l e. leaf-facts d sound n l e)

  facts-and-joins : Each d.leaves (λ l n js. LeafFacts l × GoodInstance all l n js) d.top.items
  facts-and-joins = each-both d.leaves (λ l n js. LeafFacts l) (GoodInstance all) (λ l n js. LeafFacts l × GoodInstance all l n js) (λ l n js f g. (f, g)) d.top.items facts (good d sound)

  abbrev drivers-of : Name → ℕ
  drivers-of n = drivers d.leaves (map joint d.top.items) n

  -- a net of the top that is no input port has one driver
  driven : (n : Name) → is_kind is_net all n ≡ true → is_kind is_input all n ≡ false → drivers-of n ≡ 1
  driven n k unfed = let what = kind-of is_net all n k in one-driver d sound n what.0 what.1 (wants what.0.kind what.2 (sym (ap (kind_passes is_input) what.1) ∙ unfed))
    where
      wants : (c : Kind) → is_net c ≡ true → is_input c ≡ false → wants_driver c ≡ true
      wants Input a b = sym b
      wants Output a b = refl
      wants Inner a b = refl
      wants Register a b = refl
      wants Memory a b = refl
      wants Child a b = a

  -- so its number follows from the state alone
  same-value : (a : Name → Values) (n : Name) → drivers-of n ≡ 1 → (y z : ℕ) → net_value d.leaves a d.top.items n y ≡ net_value d.leaves a d.top.items n z
  same-value a n one y z =
      sym (net-has d.leaves a (λ x. net_value d.leaves a d.top.items n z ≡ x) n y d.top.items (λ none. absurd (omega arith)) (net-one d.leaves a n z d.top.items (known d sound) one))

  -- the top's nets have the numbers that follow from the state
  pub tops-show : (t : Name → ℕ) → ArePlaces all t → (a : Name → Values) (xs : List Part) → AllStand t d.leaves a d.top.items xs → (tops : List ℕ) → length all ≤ length tops
      → (n : Name) → is_kind is_net all n ≡ true → is_kind is_input all n ≡ false → (y : ℕ) → slice_index (shown_by (map part_settled xs) tops) (t n) ≡ net_value d.leaves a d.top.items n y
  tops-show t places a xs h tops room n k unfed y = shows t d.leaves all places a d.top.items facts-and-joins xs h tops room n k ∙ same-value a n (driven n k unfed) (slice_index tops (t n)) y

  -- settled instances and what they show stand as a whole
  pub shown : (t : Name → ℕ) → ArePlaces all t → (a : Name → Values) (xs : List Part) → AllStand t d.leaves a d.top.items xs → (tops ports : List ℕ) → length all ≤ length tops → ports ≡ places_of t d.top.ports
      → Stands (record { design = d; parts = map part_settled xs; tops = shown_by (map part_settled xs) tops; ports = ports }) a
  shown t places a xs h tops ports room named = record {
    top = t;
    places = places;
    parts = all-mapped t d.leaves (λ l n js. LeafFacts l) a a part_settled (λ l n js x f s. settled-stands t l js f x (a n) s) d.top.items facts xs h;
    room = subst (λ z. length all ≤ z) (sym (length-shown t d.leaves (map part_settled xs) tops)) room;
    ports = named;
    tops = tops-show t places a xs h tops room;
  }

  -- what a machine begins with stands at reset
  pub reset-parts : (parts : List Part) (tops ports : List ℕ) (b : IsBegun d parts tops ports) → AllStand b.top d.leaves (inside_reset d.leaves d.top.items (λ i m k. 0)) d.top.items parts
  reset-parts parts tops ports b =
      let a : Name → Values = inside_reset d.leaves d.top.items (λ i m k. 0) in
      let at = found-here d sound (λ l n joins. instance_reset l (λ m k. 0)) (λ n. record { net = λ m. 0; word = λ m i. 0 }) in
      let each = each-both d.leaves (λ l n js. LeafFacts l) (λ l n js. a n ≡ instance_reset (Some l) (λ m k. 0)) (λ l n js. LeafFacts l × (a n ≡ instance_reset (Some l) (λ m k. 0))) (λ l n js f g. (f, g)) d.top.items facts at in
      all-begun b.top d.leaves a d.top.items each parts b.fresh

  pub reset-stands : (parts : List Part) (tops ports : List ℕ) → IsBegun d parts tops ports
      → Stands (record { design = d; parts = map part_settled parts; tops = shown_by (map part_settled parts) tops; ports = ports }) (inside_reset d.leaves d.top.items (λ i m k. 0))
  reset-stands parts tops ports b = shown b.top b.places (inside_reset d.leaves d.top.items (λ i m k. 0)) parts (reset-parts parts tops ports b) tops ports b.room b.named

  -- the ports of the top, each the first of its name
  pub ports-first : First all d.top.ports × Distinct d.top.ports
  ports-first = are-first d.leaves all (heading (codes "noc") ∷ []) d.top.ports (map joint d.top.items) refl (top-sound d sound.rules).once.1

  is-input : (n : Name) → is_kind is_input all n ≡ true → has_input d.top.ports n ≡ true
  is-input n k = input-among d.top.ports d.top.items n k

  no-input : (n : Name) → is_kind is_input all n ≡ false → has_input d.top.ports n ≡ false
  no-input n k = go (has_input d.top.ports n) refl
    where
      go : (b : Bool) → has_input d.top.ports n ≡ b → has_input d.top.ports n ≡ false
      go true h = absurd (both_ways (is_kind is_input all n) k (among-input all d.top.ports ports-first.0 n h))
      go false h = h

  module _ (a : Name → Values) (xs : List ℕ) (fits : AreInputs d.top.ports xs) where
    abbrev inputs : Name → ℕ
    inputs n = inputs_of d.top.ports xs n

    abbrev s : Nets
    s = with_inputs d inputs a

    top-small : (n : Name) → s.top n < 2 ^ (widths all).net n
    top-small n = go (is_kind is_input all n) refl
      where
        go : (b : Bool) → is_kind is_input all n ≡ b → (if is_kind is_input all n then inputs n else 0) < 2 ^ (widths all).net n
        go true k = rw k (inputs-fit all d.top.ports ports-first.0 xs fits n (is-input n k))
        go false k = rw k (pow_pos ((widths all).net n))

    pub small-nets : (t : Name → ℕ) (parts : List Part) → AllStand t d.leaves a d.top.items parts → AreSmallNets d s
    small-nets t parts h = record { top = top-small; inside = all-small t d.leaves a d.top.items parts h }

    -- the input ports have their numbers
    pub inputs-show : (t : Name → ℕ) (parts : List Part) → AllStand t d.leaves a d.top.items parts → (n : Name) → is_kind is_input all n ≡ true → (settled d s).top n ≡ inputs n
    inputs-show t parts h n k = (one-valuation d sound s (small-nets t parts h)).1.inputs n k ∙ ap (λ c. if c then inputs n else 0) k

    -- a join's net is a net of the top
    net-of-width : (l : Leaf) (j : Join) → GoodJoin all l j → is_kind is_net all j.net ≡ true
    net-of-width l j g = go (lookup all j.net) refl
      where
        pick : (x : Declared) (b : Bool) → g.port.high + 1 ≡ (if b then x.high + 1 else 0) → b ≡ true
        pick x true e = refl
        pick x false e = absurd (omega arith)

        go : (o : Option Declared) → lookup all j.net ≡ o → kind_passes is_net (lookup all j.net) ≡ true
        go None is = absurd (let e : g.port.high + 1 ≡ 0 = g.wide ∙ ap net_bits is in omega arith)
        go (Some x) is = ap (kind_passes is_net) is ∙ pick x (is_net x.kind) (g.wide ∙ ap net_bits is)

    abbrev after : List Part → List ℕ → List ℕ → Running
    after parts tops ports =
        let T : List ℕ = with_ports d.top.ports ports xs tops in
        let ys : List Part = map part_settled (map (part_edged T) parts) in
        record { design = d; parts = ys; tops = shown_by ys T; ports = ports }

    -- over an edge, before the outputs settle and after
    edge-both : (parts : List Part) (tops ports : List ℕ) (h : Stands (record { design = d; parts = parts; tops = tops; ports = ports }) a)
        → AllStand h.top d.leaves (inside_stepped d.leaves d.top.items (settled d s).inside) d.top.items (map (part_edged (with_ports d.top.ports ports xs tops)) parts)
        × Stands (after parts tops ports) (inside_stepped d.leaves d.top.items (settled d s).inside)
    unfolding settled
    edge-both parts tops ports h = (edged-all, shown t h.places b (map (part_edged T) parts) edged-all T ports roomy h.ports)
      where
        t : Name → ℕ
        t = h.top

        T : List ℕ
        T = with_ports d.top.ports ports xs tops

        top : Name → ℕ
        top = top_value d s

        u : Name → Values
        u = inside_settled d.leaves d.top.items top a

        b : Name → Values
        b = inside_stepped d.leaves d.top.items u

        small : AreSmallNets d s
        small = small-nets t parts h.parts

        right : IsRight d (settled d s)
        right = (one-valuation d sound s small).0

        roomy : length all ≤ length T
        roomy = subst (λ z. length all ≤ z) (sym (length-with all t h.places d.top.ports ports xs tops)) h.room

        fed-input : (n : Name) → is_kind is_input all n ≡ true → top n ≡ inputs n
        fed-input n k = (one-valuation d sound s small).1.inputs n k ∙ ap (λ c. if c then inputs n else 0) k

        T-shows : (n : Name) → is_kind is_net all n ≡ true → slice_index T (t n) ≡ top n
        T-shows n k = ap (λ q. slice_index (with_ports d.top.ports q xs tops) (t n)) h.ports ∙ go (is_kind is_input all n) refl
          where
            go : (c : Bool) → is_kind is_input all n ≡ c → slice_index (with_ports d.top.ports (places_of t d.top.ports) xs tops) (t n) ≡ top n
            go true i = inputs-put all t h.places d.top.ports ports-first.0 ports-first.1 xs tops h.room n k (is-input n i) ∙ sym (fed-input n i)
            go false unfed = others-stay all t h.places d.top.ports ports-first.0 xs tops n k (no-input n unfed) ∙ h.tops n k unfed (s.top n)

        ties : (l : Leaf) (js : List Join) → AllByRecursion (GoodJoin all l) js → AllByRecursion (λ (j : Join). slice_index T (t j.net) ≡ top j.net) js
        ties l js g = all-map (GoodJoin all l) (λ (j : Join). slice_index T (t j.net) ≡ top j.net) (λ j q. T-shows j.net (net-of-width l j q)) js g

        Known-of : Leaf → Name → List Join → Type 0
        Known-of l n js = LeafFacts l × GoodInstance all l n js × IsRightIn l (u n) × (u n ≡ settled_in l js top (a n)) × (b n ≡ stepped (leaf_widths l) (u n) l.items (u n))

        known-all : Each d.leaves Known-of d.top.items
        known-all =
            each-both d.leaves (λ l n js. LeafFacts l × GoodInstance all l n js) (λ l n js. IsRightIn l (u n) × (u n ≡ settled_in l js top (a n)) × (b n ≡ stepped (leaf_widths l) (u n) l.items (u n))) Known-of
            (λ l n js f g. (f.0, f.1, g.0, g.1, g.2)) d.top.items facts-and-joins
            (each-both d.leaves (λ l n js. IsRightIn l (u n)) (λ l n js. (u n ≡ settled_in l js top (a n)) × (b n ≡ stepped (leaf_widths l) (u n) l.items (u n)))
            (λ l n js. IsRightIn l (u n) × (u n ≡ settled_in l js top (a n)) × (b n ≡ stepped (leaf_widths l) (u n) l.items (u n))) (λ l n js f g. (f, g.0, g.1)) d.top.items right.inside
            (each-both d.leaves (λ l n js. u n ≡ settled_in l js top (a n)) (λ l n js. b n ≡ stepped (leaf_widths l) (u n) l.items (u n))
            (λ l n js. (u n ≡ settled_in l js top (a n)) × (b n ≡ stepped (leaf_widths l) (u n) l.items (u n))) (λ l n js f g. (f, g)) d.top.items
            (at-name d sound top a) (found-here d sound (λ l n joins. instance_stepped l (u n)) u)))

        one-edge : (l : Leaf) (n : Name) (js : List Join) (x : Part) → Known-of l n js → StandsIn t l js x (a n) → StandsIn t l js (part_edged T x) (b n)
        one-edge l n js x f st =
            subst (StandsIn t l js (part_edged T x)) (sym f.4)
            (edge-stands t l js f.0 all T top x (a n) (u n) f.1.joins (ties l js f.1.joins) st f.2
            (λ m free. ap (λ (v : Values). v.net m) f.3 ∙ settled-keeps l f.0.good (fed l js top (a n)) m free)
            (λ m i. ap (λ (v : Values). v.word m i) f.3 ∙ ap (λ g. g m i) (settle-word (leaf_widths l) (fed l js top (a n)) l.items)))

        edged-all : AllStand t d.leaves b d.top.items (map (part_edged T) parts)
        edged-all = all-mapped t d.leaves Known-of a b (part_edged T) one-edge d.top.items known-all parts h.parts

    pub edge-parts : (parts : List Part) (tops ports : List ℕ) (h : Stands (record { design = d; parts = parts; tops = tops; ports = ports }) a)
        → AllStand h.top d.leaves (inside_stepped d.leaves d.top.items (settled d s).inside) d.top.items (map (part_edged (with_ports d.top.ports ports xs tops)) parts)
    edge-parts parts tops ports h = (edge-both parts tops ports h).0

    pub edge-whole : (parts : List Part) (tops ports : List ℕ) → Stands (record { design = d; parts = parts; tops = tops; ports = ports }) a
        → Stands (after parts tops ports) (inside_stepped d.leaves d.top.items (settled d s).inside)
    edge-whole parts tops ports h = (edge-both parts tops ports h).1

  first-at : (ps : List Port) → First all ps → (i : ℕ) (p : Port) → slice_get ps i ≡ Some p → lookup all p.name ≡ Some (record { name = p.name; kind = way_of p.output; high = p.high; last = 0 })
  first-at [] f i p e = absurd (none-some p e)
  first-at (q ∷ ps) f zero p e = let one : q ≡ p = cc in subst (λ (z : Port). lookup all z.name ≡ Some (record { name = z.name; kind = way_of z.output; high = z.high; last = 0 })) one f.0
  first-at (q ∷ ps) f (suc i) p e = first-at ps f.1 i p e

  place-at : (t : Name → ℕ) (ps : List Port) (i : ℕ) (p : Port) → slice_get ps i ≡ Some p → slice_index (places_of t ps) i ≡ t p.name
  place-at t [] i p e = absurd (none-some p e)
  place-at t (q ∷ ps) zero p e = let one : q ≡ p = cc in ap (λ (z : Port). t z.name) one
  place-at t (q ∷ ps) (suc i) p e = place-at t ps i p e

  -- an output port has the number that follows from the state, whatever the inputs
  pub output-shows : (parts : List Part) (tops ports : List ℕ) (a : Name → Values) → Stands (record { design = d; parts = parts; tops = tops; ports = ports }) a → (inputs : Name → ℕ) (i : ℕ) (p : Port)
      → slice_get d.top.ports i ≡ Some p → p.output ≡ true → slice_index tops (slice_index ports i) ≡ (settled d (with_inputs d inputs a)).top p.name
  unfolding settled
  output-shows parts tops ports a h inputs i p e out =
      let at = first-at d.top.ports ports-first.0 i p e in
      let net : is_kind is_net all p.name ≡ true = ap (kind_passes is_net) at ∙ ap (λ b. is_net (way_of b)) out in
      let unfed : is_kind is_input all p.name ≡ false = ap (kind_passes is_input) at ∙ ap (λ b. is_input (way_of b)) out in
      ap (λ q. slice_index tops (slice_index q i)) h.ports ∙ ap (slice_index tops) (place-at h.top d.top.ports i p e) ∙ h.tops p.name net unfed ((with_inputs d inputs a).top p.name)

  -- and a number of its width
  pub output-small : (parts : List Part) (tops ports : List ℕ) (a : Name → Values) → Stands (record { design = d; parts = parts; tops = tops; ports = ports }) a → (i : ℕ) (p : Port)
      → slice_get d.top.ports i ≡ Some p → p.output ≡ true → slice_index tops (slice_index ports i) < 2 ^ (p.high + 1)
  output-small parts tops ports a h i p e out =
      let nothing : Name → ℕ = λ n. 0 in
      let low : (n : Name) (b : Bool) → (if b then 0 else 0) < 2 ^ (widths all).net n = λ n b. zero-below (widths all) n b in
      let small : AreSmallNets d (with_inputs d nothing a) = record { top = λ n. low n (is_kind is_input all n); inside = all-small h.top d.leaves a d.top.items parts h.parts } in
      let right : IsRight d (settled d (with_inputs d nothing a)) = (one-valuation d sound (with_inputs d nothing a) small).0 in
      let at = first-at d.top.ports ports-first.0 i p e in
      let wide : (widths all).net p.name ≡ p.high + 1 = ap net_bits at ∙ ap (λ b. if is_net (way_of b) then p.high + 1 else 0) out in
      subst (λ k. slice_index tops (slice_index ports i) < 2 ^ k) wide
      (subst (λ x. x < 2 ^ (widths all).net p.name) (sym (output-shows parts tops ports a h nothing i p e out)) (right.top p.name))
    where
      zero-below : (w : Widths) (n : Name) (b : Bool) → (if b then 0 else 0) < 2 ^ w.net n
      zero-below w n true = pow_pos (w.net n)
      zero-below w n false = pow_pos (w.net n)
