-- A design of wiring alone grows no gate.
use Rattle.std.proofs.Common.{◌≡◌, ℕ, ◌+◌, ◌≤◌, Bool, true, false, List, [], ◌∷◌, ◌++◌, length, map, Option, refl, sym, ◌∙◌, ap, subst, bytes_eq, arith}
use Rattle.std.specs.Prelude.{Some, None, if◌then◌else◌}
use Rattle.std.specs.List.{AllByRecursion, list_all}
use Rattle.std.proofs.lemmas.Bool.{and_parts}
use Rattle.std.proofs.lemmas.Option.{none-some}
use Rattle.vl_tree.specs.declared.tree.Join as tree_join
use Rattle.vl_tree.specs.declared.tree.Port.{Port}
use Rattle.vl_tree.specs.declared.tree.TopItem.{TopItem}
use Rattle.vl_tree.specs.declared.tree.TopItem.TheVariants.{Wire, Instance}
use Rattle.vl_tree.specs.Values.{Name, Item, wire, reg, mem, assign, clocked, store, Leaf, Design}
use Rattle.vl_model.specs.declared.kind.Kind.TheVariants.{Register}
use Rattle.vl_model.specs.Lines.{Line, leaf_lines, top_lines, leaf_named, Declared, lookup, way_of, is_net, net_bits, widths}
use Rattle.vl_model.specs.Rules.{is_kind, IsSound}
use Rattle.vl_model.specs.Leaf.{leaf_widths}
use Rattle.vl_model.specs.Whole.{Of}
use Rattle.vl_model.proofs.Passed.{top-sound}
use Rattle.vl_model.proofs.Ordered.{kind-of}
use Rattle.vl_model.proofs.Tops.{Each, GoodInstance}
use Rattle.vl_run.specs.Program.{registers_of}
use Rattle.vl_run.specs.Places.{ArePlaces}
use Rattle.vl_run.specs.State.{Code, Part, code_of}
use Rattle.vl_run.specs.Fresh.{IsFresh, FreshAt, AllFresh}
use Rattle.vl_run.proofs.Inputs.{First}
use Rattle.vl_run.proofs.Narrow.{AreNarrow, are-narrow}
use Rattle.vl_run.proofs.Whole.{ports-first}
use Rattle.aig_model.specs.FormOf.{needs_no_gate}
use Rattle.aig_model.specs.Netlist.{Net, settle_gates}
use Rattle.aig_cycle.specs.Steps.{Wired, part_as, linked_words, shown_words}
use Rattle.aig_cycle.specs.Short.{lengths, Bounds, IsWithin, AreShort, AreShortSettles, AreWithin, AreShortEdges}
use Rattle.aig_design.specs.Start.{IsBounded, IsBoundedPort, IsLaid, AreLaid}
use Rattle.aig_design.specs.Opened.{IsOpened, AreShown, AreNext}
use Rattle.aig_design.proofs.AllParts.{codes, settled-codes}
use Rattle.aig_design.proofs.Cycled.{all-named}
use Rattle.aig_design.proofs.Laid.{no-lengths}
use Rattle.aig_design.proofs.Named.{IsFirst, LeafNames}
use Rattle.aig_design.proofs.Brief.{X, settle-short, edge-short, no-stores, feeds-short, outs-short}

-- ---- one instance

net-apart : (all : List Line) (s : Name → ℕ) → ArePlaces all s → (n m : Name) (x : Declared) → lookup all n ≡ Some x → is_kind is_net all m ≡ true → s m ≡ s n → m ≡ n
net-apart all s places n m x e k same = let y = kind-of is_net all m k in places.apart m n y.0 x y.1 e same

registers-bounded : (all : List Line) (s : Name → ℕ) (places : ArePlaces all s) (most : AreNarrow (widths all)) (is : List Item) → AllByRecursion (IsFirst all) is → AllByRecursion (IsBounded (X all s places most)) (registers_of s is)
registers-bounded all s places most [] f = tt
registers-bounded all s places most (wire h n ∷ is) f = registers-bounded all s places most is f.1
registers-bounded all s places most (mem h n last ∷ is) f = registers-bounded all s places most is f.1
registers-bounded all s places most (assign n e ∷ is) f = registers-bounded all s places most is f.1
registers-bounded all s places most (clocked n k e ∷ is) f = registers-bounded all s places most is f.1
registers-bounded all s places most (store c n i e ∷ is) f = registers-bounded all s places most is f.1
registers-bounded all s places most (reg h n ∷ is) f = (
  (λ m k same. (
      let one : m ≡ n = net-apart all s places n m (record { name = n; kind = Register; high = h; last = 0 }) f.0 k same in
      let wide : (widths all).net m ≡ h + 1 = ap (widths all).net one ∙ ap net_bits f.0 in
      omega (arith, wide))),
  registers-bounded all s places most is f.1,
)

abbrev wired-codes : List Wired → List Code
wired-codes ws = map (λ (w : Wired). w.code) ws

module _ (top : List Line) (t : Name → ℕ) (top-places : ArePlaces top t) (top-most : AreNarrow (widths top)) where
  abbrev T : Bounds
  T = X top t top-places top-most

  -- instances settle without gates, show words no longer than the top's nets, and move without gates
  record AreBrief (ws : List Wired) : Type 0 where
    pub bounds : List Bounds
    pub settles : AreShortSettles bounds ws
    pub shown : (after : List Wired) → wired-codes after ≡ wired-codes ws → AreWithin bounds after → (tops : List (List ℕ)) → IsWithin T (lengths tops) → IsWithin T (lengths (shown_words after tops))
    pub edges : (after : List Wired) → wired-codes after ≡ wired-codes ws → AreWithin bounds after → (fed : List (List ℕ)) → IsWithin T (lengths fed) → AreShortEdges fed after

  brief-none : AreBrief []
  brief-none = record { bounds = []; settles = tt; shown = none-shown; edges = none-edges }
    where
      none-shown : (after : List Wired) → wired-codes after ≡ [] → AreWithin [] after → (tops : List (List ℕ)) → IsWithin T (lengths tops) → IsWithin T (lengths (shown_words after tops))
      none-shown [] e a tops w = w
      none-shown (x ∷ xs) e a tops w = absurd a

      none-edges : (after : List Wired) → wired-codes after ≡ [] → AreWithin [] after → (fed : List (List ℕ)) → IsWithin T (lengths fed) → AreShortEdges fed after
      none-edges [] e a fed w = tt
      none-edges (x ∷ xs) e a fed w = absurd a

  first-of : (a w : Wired) (us ws : List Wired) → wired-codes (a ∷ us) ≡ wired-codes (w ∷ ws) → (a.code ≡ w.code) × (wired-codes us ≡ wired-codes ws)
  first-of a w us ws e = (ap (λ cs. first cs) e, ap (λ cs. rest cs) e)
    where
      first : List Code → Code
      first [] = w.code
      first (x ∷ xs) = x

      rest : List Code → List Code
      rest [] = []
      rest (x ∷ xs) = xs

  module _ (y : Leaf) (n : Name) (js : List tree_join.Join) (first next : ℕ) (x : Part) (w : Wired) (ws : List Wired) (f : IsFresh t y js x) (laid : IsLaid first next x w) (names : LeafNames y) (good : GoodInstance top y n js)
      (free : list_all needs_no_gate y.items ≡ true) (more : AreBrief ws) where
    abbrev all : List Line
    all = leaf_lines y

    abbrev most : AreNarrow (widths all)
    most = names.facts.narrow

    abbrev L : Bounds
    L = X all f.place f.places most

    abbrev C : Code
    C = code_of f.place (leaf_widths y) t y js

    code : w.code ≡ C
    code = laid.code ∙ f.code

    start : IsWithin L (lengths w.wires.nets)
    start = laid.short L (subst (λ (q : Code). AllByRecursion (IsBounded L) q.registers) (sym f.code) (registers-bounded all f.place f.places most y.items names.first))

    shows : (after : List Wired) → wired-codes after ≡ wired-codes (w ∷ ws) → AreWithin (L ∷ more.bounds) after → (tops : List (List ℕ)) → IsWithin T (lengths tops) → IsWithin T (lengths (shown_words after tops))
    shows [] e a tops v = absurd a
    shows (p ∷ ps) e a tops v =
        let es = first-of p w ps ws e in
        subst (λ (q : Code). IsWithin T (lengths (linked_words p.wires.nets q.outs (shown_words ps tops)))) (sym (es.0 ∙ code))
        (outs-short top t top-places top-most y f.place f.places most p.wires.nets (shown_words ps tops) js good.joins a.0 (more.shown ps es.1 a.1 tops v))

    moves : (after : List Wired) → wired-codes after ≡ wired-codes (w ∷ ws) → AreWithin (L ∷ more.bounds) after → (fed : List (List ℕ)) → IsWithin T (lengths fed) → AreShortEdges fed after
    moves [] e a fed v = absurd a
    moves (p ∷ ps) e a fed v =
        let es = first-of p w ps ws e in
        let here = feeds-short top t top-places top-most y f.place f.places most fed p.wires.nets js good.joins v a.0 in (
          record {
            bounds = L;
            steps = subst (λ (q : Code). AreShort L (q.settle ++ (q.next ++ q.moves)) (lengths (linked_words fed q.feeds p.wires.nets))) (sym (es.0 ∙ code))
                (edge-short all f.place f.places most y.items names.facts.ruled names.facts.good.tight (names.facts.moving.moves (record { net = λ m. 0; word = λ m i. 0 })) free (lengths (linked_words fed C.feeds p.wires.nets)) here);
            stores = ap (λ (q : Code). q.stores) (es.0 ∙ code) ∙ no-stores all f.place f.places most y.items (length (leaf_lines y)) free;
          },
          more.edges ps es.1 a.1 fed v,
        )

    brief-one : AreBrief (w ∷ ws)
    brief-one =
        record {
          bounds = L ∷ more.bounds;
          settles = (
            subst (λ (q : Code). AreShort L q.settle (lengths w.wires.nets)) (sym code)
                (settle-short all f.place f.places most y.items names.facts.ruled names.facts.good.tight free (lengths w.wires.nets) start),
            more.settles,
          );
          shown = shows;
          edges = moves;
        }

  -- ---- all instances

  abbrev LeavesFree : List Leaf → Type 0
  LeavesFree ls = list_all (λ (l : Leaf). list_all needs_no_gate l.items) ls ≡ true

  free-leaf : (ls : List Leaf) → LeavesFree ls → (n : Name) (l : Leaf) → leaf_named ls n ≡ Some l → list_all needs_no_gate l.items ≡ true
  free-leaf [] k n l e = absurd (none-some l e)
  free-leaf (x ∷ ls) k n l e = go (free-leaf ls ks.1 n l) (bytes_eq n x.name) refl
    where
      ks : (list_all needs_no_gate x.items ≡ true) × (list_all (λ (y : Leaf). list_all needs_no_gate y.items) ls ≡ true)
      ks = and_parts (list_all needs_no_gate x.items) (list_all (λ (y : Leaf). list_all needs_no_gate y.items) ls) k

      go : (leaf_named ls n ≡ Some l → list_all needs_no_gate l.items ≡ true) → (b : Bool) → bytes_eq n x.name ≡ b → list_all needs_no_gate l.items ≡ true
      go later true is = let one : x ≡ l = cc (rw is at e) in subst (λ (y : Leaf). list_all needs_no_gate y.items ≡ true) one ks.0
      go later false is = later (rw is at e)

  brief-all : (ls : List Leaf) → LeavesFree ls → (is : List TopItem) (first next : ℕ) (xs : List Part) (ws : List Wired) (rs : List (List ℕ)) → AllFresh t ls is xs → AreLaid first next xs ws rs
      → Each ls (λ l n js. LeafNames l) is → Each ls (GoodInstance top) is → AreBrief ws
  brief-all ls k [] first next [] [] rs f d names good = brief-none
  brief-all ls k [] first next [] (w ∷ ws) rs f d names good = absurd d
  brief-all ls k [] first next (x ∷ xs) ws rs f d names good = cc
  brief-all ls k (Wire h n ∷ is) first next xs ws rs f d names good = brief-all ls k is first next xs ws rs f d names.1 good.1
  brief-all ls k (Instance l n js ∷ is) first next [] ws rs f d names good = absurd f
  brief-all ls k (Instance l n js ∷ is) first next (x ∷ xs) [] rs f d names good = brief-none
  brief-all ls k (Instance l n js ∷ is) first next (x ∷ xs) (w ∷ ws) [] f d names good = absurd d
  brief-all ls k (Instance l n js ∷ is) first next (x ∷ xs) (w ∷ ws) (r ∷ rs) f d names good =
      go (leaf_named ls l) refl f.0 names.0 good.0 (brief-all ls k is d.middle next xs ws rs f.1 d.rest names.1 good.1)
    where
      go : (o : Option Leaf) → leaf_named ls l ≡ o → FreshAt t o js x → Of o (λ y. LeafNames y) → Of o (λ y. GoodInstance top y n js) → AreBrief ws → AreBrief (w ∷ ws)
      go None is g a b more = absurd g
      go (Some y) at g a b more = brief-one y n js first d.middle x w ws g d.laid a b (free-leaf ls k l y at) more

-- ---- the form

part-codes : (s : ℕ → Bool) (ws : List Wired) → codes (map (part_as s) ws) ≡ wired-codes ws
part-codes s [] = refl
part-codes s (w ∷ ws) = ap (λ cs. w.code ∷ cs) (part-codes s ws)

ports-bounded : (all : List Line) (t : Name → ℕ) (places : ArePlaces all t) (most : AreNarrow (widths all)) (ps : List Port) → First all ps → AllByRecursion (IsBoundedPort t (X all t places most)) ps
ports-bounded all t places most [] f = tt
ports-bounded all t places most (p ∷ ps) f = (one, ports-bounded all t places most ps f.1)
  where
    way : (b : Bool) → (if is_net (way_of b) then p.high + 1 else 0) ≡ p.high + 1
    way true = refl
    way false = refl

    one : (m : Name) → is_kind is_net all m ≡ true → t m ≡ t p.name → p.high + 1 ≤ (widths all).net m
    one m k same =
        let who : m ≡ p.name = net-apart all t places p.name m (record { name = p.name; kind = way_of p.output; high = p.high; last = 0 }) f.0 k same in
        let wide : (widths all).net m ≡ p.high + 1 = ap (widths all).net who ∙ ap net_bits f.0 ∙ way p.output in
        omega (arith, wide)

pub no-gates : (d : Design) (sound : IsSound d) (inputs next : ℕ) (wired0 : List Wired) (resets : List (List ℕ)) (ports : List ℕ) (tops0 : List (List ℕ)) (o : IsOpened d inputs next wired0 resets ports tops0) (n0 n1 n2 : Net) → n0.gates ≡ []
    → (wired1 wired2 : List Wired) (tops1 tops2 : List (List ℕ)) (outputs latches : List ℕ) → AreShown d.top.ports ports n0 n1 wired0 wired1 tops0 tops1 outputs → AreNext d.top.ports ports resets n1 n2 wired1 wired2 tops1 tops2 latches
    → Each d.leaves (GoodInstance (top_lines d.top)) d.top.items → list_all (λ (l : Leaf). list_all needs_no_gate l.items) d.leaves ≡ true → length n2.gates ≡ 0
no-gates d sound inputs next wired0 resets ports tops0 o n0 n1 n2 empty wired1 wired2 tops1 tops2 outputs latches shows takes good free =
    let all : List Line = top_lines d.top in
    let t : Name → ℕ = o.begun.top in
    let most : AreNarrow (widths all) = are-narrow d.leaves all (top-sound d sound.rules).width in
    let places : ArePlaces all t = o.begun.places in
    let T' : Bounds = X all t places most in
    let brief = brief-all all t places most d.leaves free d.top.items (1 + inputs) next o.parts wired0 resets o.begun.fresh o.laid (all-named d sound) good in
    let settled = shows.short brief.bounds brief.settles in
    let s : ℕ → Bool = λ i. false in
    let same : wired-codes wired1 ≡ wired-codes wired0 =
    sym (part-codes (settle_gates n1 s) wired1) ∙ ap codes (shows.settled s refl) ∙ settled-codes (map (part_as (settle_gates n0 s)) wired0) ∙ part-codes (settle_gates n0 s) wired0 in
    let none : IsWithin T' (lengths tops0) = λ n k. (let e : lengths tops0 (t n) ≡ 0 = ap (λ ws. lengths ws (t n)) o.no_words ∙ no-lengths (length o.lines) (t n) in omega (arith, e)) in
    let shown : IsWithin T' (lengths tops1) = subst (λ ws. IsWithin T' (lengths ws)) (sym shows.tops_are) (brief.shown wired1 same settled.1 tops0 none) in
    let fed : IsWithin T' (lengths tops2) = takes.fed_short t o.begun.named T' (ports-bounded all t places most d.top.ports (ports-first d sound).0) shown in
    let moved : n2 ≡ n1 = takes.free (brief.edges wired1 same settled.1 tops2 fed) in
    ap (λ (n : Net). length n.gates) (moved ∙ settled.0) ∙ ap length empty
