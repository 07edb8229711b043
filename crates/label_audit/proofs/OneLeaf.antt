-- One instance: the rows of its registers and memories hold labels at reset, through a phase, and where they are joined.
use Rattle.std.proofs.Common.{◌≡◌, ℕ, zero, suc, ◌+◌, ◌<◌, Bool, true, false, List, [], ◌∷◌, ◌++◌, length, map, refl, sym, ◌∙◌, ap, subst, bytes_eq, arith}
use Rattle.std.specs.Prelude.{Option, Some, None, find, if◌then◌else◌}
use Rattle.std.specs.Int.{bit_at}
use Rattle.std.specs.List.{AllByRecursion}
use Rattle.std.proofs.lemmas.Bool.{both_ways, false≢true}
use Rattle.std.proofs.lemmas.Option.{none-some}
use Rattle.std.proofs.lemmas.List.{length-append}
use Rattle.vl_tree.specs.declared.tree.Port.{Port}
use Rattle.vl_tree.specs.declared.tree.Join.{Join}
use Rattle.vl_tree.specs.Values.{Name, Item, wire, reg, mem, assign, clocked, store, Leaf, Design}
use Rattle.vl_model.specs.Meaning.{Widths}
use Rattle.vl_model.specs.declared.kind.Kind.{Kind}
use Rattle.vl_model.specs.declared.kind.Kind.TheVariants.{Input, Output, Inner, Register, Memory, Child}
use Rattle.vl_model.specs.Lines.{Line, heading, item, leaf_lines, top_lines, leaf_named, lookup, Declared, kind_passes, way_of, is_net, is_driven, is_input, is_register, is_memory, net_bits, port_named, widths}
use Rattle.vl_model.specs.Rules.{IsSound, is_kind}
use Rattle.vl_model.specs.Leaf.{leaf_widths}
use Rattle.vl_model.specs.Settle.{is_input_port}
use Rattle.vl_model.specs.Order.{is_assigned}
use Rattle.vl_model.proofs.Passed.{leaf-sound, all-map}
use Rattle.vl_model.proofs.Settling.{one-name}
use Rattle.vl_model.proofs.Ordered.{kind-of}
use Rattle.vl_model.proofs.Leaves.{leaf-port, leaf-input}
use Rattle.vl_model.proofs.Tops.{Each, each-both, each-leaf, GoodJoin, GoodInstance, found-has, found-none}
use Rattle.vl_model.proofs.One.{good, known, port-join, all-both}
use Rattle.vl_run.specs.Places.{ArePlaces}
use Rattle.vl_run.proofs.Ruled.{ItemRuled}
use Rattle.vl_run.proofs.Inputs.{are-first}
use Rattle.vl_run.proofs.Standing.{LeafFacts, leaf-facts}
use Rattle.label_model.specs.Labels.{none, Label, known as sure, from, known_as, Labels}
use Rattle.label_model.specs.Driven.{of_net}
use Rattle.label_model.specs.Phase.{labelled, fed_labels, carried, begun, nothing}
use Rattle.label_model.proofs.Edges.{ReadyLeaf, ClockedHas, StoredHas, clocked-has, stored-has}
use Rattle.label_model.proofs.Handing.{Begins, all-begin, begun-word}
use Rattle.label_model.proofs.Labelling.{labelled-word, outputs-same}
use Rattle.label_model.proofs.Runs.{ready, port-bits}
use Rattle.label_audit.specs.Rows.{first_bits, rows_by}
use Rattle.label_audit.specs.Instances.{no_rows, reset_row, handed_row, blank_row, each_port, settled_rows, fed_row, each_join, first_rows, fed_rows, next_rows}
use Rattle.label_audit.specs.Whole.{Holds}
use Rattle.label_audit.proofs.Settled.{HasNet, Words, Agrees, settles}
use Rattle.label_audit.proofs.Handed.{HandsRow, all-handed, length-handed}
use Rattle.label_audit.proofs.Kept.{kept-rows}
use Rattle.label_audit.proofs.Fed.{length-blank, length-fed, fed-other, fed-here, blank-other, blank-here}

-- ---- what is used of an instance of a sound design

pub record Facts (all : List Line) (l : Leaf) (n : Name) (js : List Join) : Type 0 where
  pub leaf : LeafFacts l
  pub ready : ReadyLeaf l
  pub good : GoodInstance all l n js
  pub ports : AllByRecursion (λ (p : Port). is_kind is_net (leaf_lines l) p.name ≡ true) l.ports

ports-declared : (d : Design) → IsSound d → (n : Name) (l : Leaf) → leaf_named d.leaves n ≡ Some l → AllByRecursion (λ (p : Port). is_kind is_net (leaf_lines l) p.name ≡ true) l.ports
ports-declared d sound n l e =
    let s = leaf-sound d sound.rules n l e in
    all-map (λ (p : Port). lookup (leaf_lines l) p.name ≡ Some (record { name = p.name; kind = way_of p.output; high = p.high; last = 0 })) (λ (p : Port). is_kind is_net (leaf_lines l) p.name ≡ true)
    (λ p f. ap (kind_passes is_net) f ∙ way p.output) l.ports (are-first s.0 (leaf_lines l) (heading l.name ∷ []) l.ports (map item l.items) refl s.1.once.1).0
  where
    way : (b : Bool) → is_net (way_of b) ≡ true
    way true = refl
    way false = refl

pub facts : (d : Design) → IsSound d → Each d.leaves (Facts (top_lines d.top)) d.top.items
facts d sound =
    each-both d.leaves (λ l n js. LeafFacts l × ReadyLeaf l) (λ l n js. GoodInstance (top_lines d.top) l n js × AllByRecursion (λ (p : Port). is_kind is_net (leaf_lines l) p.name ≡ true) l.ports) (Facts (top_lines d.top))
    (λ l n js a b. record { leaf = a.0; ready = a.1; good = b.0; ports = b.1 }) d.top.items
    (each-both d.leaves (λ l n js. LeafFacts l) (λ l n js. ReadyLeaf l) (λ l n js. LeafFacts l × ReadyLeaf l) (λ l n js a b. (a, b)) d.top.items
    (each-leaf d.leaves LeafFacts d.top.items (known d sound) (λ n l e. leaf-facts d sound n l e)) (ready d sound))
    (each-both d.leaves (GoodInstance (top_lines d.top)) (λ l n js. AllByRecursion (λ (p : Port). is_kind is_net (leaf_lines l) p.name ≡ true) l.ports)
    (λ l n js. GoodInstance (top_lines d.top) l n js × AllByRecursion (λ (p : Port). is_kind is_net (leaf_lines l) p.name ≡ true) l.ports) (λ l n js a b. (a, b)) d.top.items (good d sound)
    (each-leaf d.leaves (λ l. AllByRecursion (λ (p : Port). is_kind is_net (leaf_lines l) p.name ≡ true) l.ports) d.top.items (known d sound) (ports-declared d sound)))

-- a join's net is a net of the top
joined-net : (all : List Line) (l : Leaf) (j : Join) → GoodJoin all l j → is_kind is_net all j.net ≡ true
joined-net all l j g = go (lookup all j.net) refl
  where
    pick : (x : Declared) (b : Bool) → g.port.high + 1 ≡ (if b then x.high + 1 else 0) → b ≡ true
    pick x true e = refl
    pick x false e = absurd (omega (arith, e))

    go : (o : Option Declared) → lookup all j.net ≡ o → kind_passes is_net (lookup all j.net) ≡ true
    go None is = absurd (let e : g.port.high + 1 ≡ 0 = g.wide ∙ ap net_bits is in omega (arith, e))
    go (Some x) is = ap (kind_passes is_net) is ∙ pick x (is_net x.kind) (g.wide ∙ ap net_bits is)

pub length-none : (n : ℕ) → length (no_rows n) ≡ n
length-none zero = refl
length-none (suc n) = length-append (no_rows n) ([] ∷ []) ∙ (let rest = length-none n in omega (arith, rest))

module _ (all : List Line) (l : Leaf) (i : Name) (js : List Join) (f : Facts all l i js) (s : Name → ℕ) (places : ArePlaces (leaf_lines l) s) where
  abbrev lines : List Line
  lines = leaf_lines l

  abbrev W : Widths
  W = leaf_widths l

  -- ---- reset

  module _ (bits : Name → ℕ) (nets : (n : Name) → is_kind is_register lines n ≡ true → bits n ≡ W.net n) (words : (n : Name) → is_kind is_memory lines n ≡ true → bits n ≡ W.word n) where
    out : List (List Label)
    out = first_rows s bits l

    abbrev R : Labels
    R = begun l.items nothing

    abbrev Given : Item → Type 0
    Given x = ItemRuled lines x × Begins R x

    given : AllByRecursion Given l.items
    given = all-both (ItemRuled lines) (Begins R) Given (λ x a b. (a, b)) l.items f.leaf.ruled (all-begin l.items nothing f.ready.moving.once)

    handed : AllByRecursion (HandsRow lines s places (reset_row bits) (first_rows s bits l)) l.items
    handed = all-handed lines s places (reset_row bits) l.items f.leaf.ruled f.ready.moving.once (no_rows (length lines)) (length-none (length lines))

    abbrev NetIs : Name → Type 0
    NetIs n = rows_by s (first_rows s bits l) n ≡ first_bits (R.net n) (W.net n)

    abbrev WordIs : Name → Type 0
    WordIs n = rows_by s (first_rows s bits l) n ≡ first_bits (R.word n) (W.word n)

    net-is : (x : Item) → HandsRow lines s places (reset_row bits) (first_rows s bits l) x → Given x → ClockedHas NetIs x
    net-is (clocked n k e) h g = h ∙ ap (first_bits (λ j. known_as (bit_at k.value j))) (nets n g.0.0) ∙ ap (λ q. first_bits q (W.net n)) (sym g.1)
    net-is (store c n x e) h g = tt
    net-is (wire x n) h g = tt
    net-is (reg x n) h g = tt
    net-is (mem x n last) h g = tt
    net-is (assign n e) h g = tt

    word-is : (x : Item) → HandsRow lines s places (reset_row bits) (first_rows s bits l) x → Given x → StoredHas WordIs x
    word-is (store c n x e) h g = h ∙ ap (first_bits (λ j. from none)) (words n g.0.0) ∙ ap (λ q. first_bits (q n) (W.word n)) (sym (begun-word l.items nothing))
    word-is (clocked n k e) h g = tt
    word-is (wire x n) h g = tt
    word-is (reg x n) h g = tt
    word-is (mem x n last) h g = tt
    word-is (assign n e) h g = tt

    pub first-holds : Holds l s (first_rows s bits l) (begun l.items nothing)
    first-holds = record {
      long = length-handed lines s places (reset_row bits) l.items (no_rows (length lines)) ∙ length-none (length lines);
      registers = λ n k. clocked-has NetIs l.items (all-both (HandsRow lines s places (reset_row bits) (first_rows s bits l)) Given (ClockedHas NetIs) net-is l.items handed given) n (f.ready.moving.register n k);
      memories = λ n k. stored-has WordIs l.items (all-both (HandsRow lines s places (reset_row bits) (first_rows s bits l)) Given (StoredHas WordIs) word-is l.items handed given) n (f.ready.moving.memory n k);
    }

  -- ---- what no assign drives

  undriven : (n : Name) → is_assigned l.items n ≡ false → is_kind is_driven lines n ≡ false
  undriven n free = go (is_kind is_driven lines n) refl
    where
      go : (b : Bool) → is_kind is_driven lines n ≡ b → is_kind is_driven lines n ≡ false
      go true d = absurd (both_ways (is_assigned l.items n) free (f.leaf.good.driven n d))
      go false d = d

  -- an input port, or a register
  undriven-is : (P : Name → Type 0) → ((n : Name) (p : Port) → is_kind is_net lines n ≡ true → port_named l.ports n ≡ Some p → p.output ≡ false → P n) → ((n : Name) → is_kind is_register lines n ≡ true → port_named l.ports n ≡ None → P n)
      → (n : Name) → is_kind is_net lines n ≡ true → is_assigned l.items n ≡ false → P n
  undriven-is P input register n k free = go (port_named l.ports n) refl
    where
      off : is_kind is_driven lines n ≡ false
      off = undriven n free

      way : (b : Bool) → is_driven (way_of b) ≡ false → b ≡ false
      way true e = absurd (false≢true (sym e))
      way false e = refl

      kinds : (c : Kind) → is_net c ≡ true → is_driven c ≡ false → (is_input c ≡ true → ⊥) → is_register c ≡ true
      kinds Input a b other = absurd (other refl)
      kinds Output a b other = absurd (false≢true (sym b))
      kinds Inner a b other = absurd (false≢true (sym b))
      kinds Register a b other = refl
      kinds Memory a b other = absurd (false≢true a)
      kinds Child a b other = absurd (false≢true a)

      go : (o : Option Port) → port_named l.ports n ≡ o → P n
      go (Some p) named = input n p k named (way p.output (sym (ap (kind_passes is_driven) (leaf-port l n p named)) ∙ off))
      go None named =
          let what = kind-of is_net lines n k in
          let not-input : is_input what.0.kind ≡ true → ⊥ = λ e. (let p = leaf-input l n (ap (kind_passes is_input) what.1 ∙ e) in none-some p.0 (sym named ∙ p.1)) in
          register n (ap (kind_passes is_register) what.1 ∙ kinds what.0.kind what.2 (sym (ap (kind_passes is_driven) what.1) ∙ off) not-input) named

  no-port : (test : Kind → Bool) → ((b : Bool) → test (way_of b) ≡ false) → (n : Name) → is_kind test lines n ≡ true → port_named l.ports n ≡ None
  no-port test never n k = go (port_named l.ports n) refl
    where
      go : (o : Option Port) → port_named l.ports n ≡ o → port_named l.ports n ≡ None
      go None named = named
      go (Some p) named = absurd (both_ways (is_kind test lines n) (ap (kind_passes test) (leaf-port l n p named) ∙ never p.output) k)

  memory-way : (b : Bool) → is_memory (way_of b) ≡ false
  memory-way true = refl
  memory-way false = refl

  -- ---- what output ports show

  module _ (rows : List (List Label)) (v : Labels) (h : Holds l s rows v) where
    -- without the inputs
    abbrev blind : Labels
    blind = record { net = λ n. if is_input_port (port_named l.ports n) then (λ k. sure false) else v.net n; word = v.word }

    abbrev blank : List (List Label)
    blank = each_port (blank_row s) l.ports rows

    blank-long : length blank ≡ length lines
    blank-long = length-blank s l.ports rows ∙ h.long

    blank-words : Words lines s places f.leaf.narrow blank blind
    blank-words n k = blank-other lines s places is_memory l.ports f.ports rows n k (no-port is_memory memory-way n k) ∙ h.memories n k

    blank-nets : Agrees lines s places f.leaf.narrow l.items blank blind
    blank-nets = undriven-is (λ n. HasNet lines s places f.leaf.narrow blank blind n)
        (λ n p k named way.
        blank-here lines s places l.ports f.ports rows h.long n k p named way ∙ ap (first_bits (λ j. sure false)) (sym (port-bits l n p named))
        ∙ ap (λ q. first_bits q (W.net n)) (sym (ap (λ o. if is_input_port o then (λ j. sure false) else v.net n) named ∙ ap (λ b. if (if b then false else true) then (λ j. sure false) else v.net n) way)))
        (λ n k named.
        blank-other lines s places is_register l.ports f.ports rows n k named ∙ h.registers n k
        ∙ ap (λ q. first_bits q (W.net n)) (sym (ap (λ o. if is_input_port o then (λ j. sure false) else v.net n) named)))

    pub shown-port : (n : Name) (p : Port) → port_named l.ports n ≡ Some p → p.output ≡ true
        → rows_by s (settled_rows s l (each_port (blank_row s) l.ports rows)) n ≡ first_bits ((labelled W v l.items).net n) (W.net n)
    shown-port n p named way =
        (settles lines s places f.leaf.narrow l.items f.leaf.ruled f.leaf.good.tight f.leaf.good.order blind blank blank-long blank-words blank-nets).0 n (ap (kind_passes is_net) (leaf-port l n p named) ∙ net-way p.output)
        ∙ ap (λ q. first_bits q (W.net n)) (outputs-same l f.leaf.good blind v refl (λ m e. ap (λ b. if b then (λ j. sure false) else v.net m) e) n p named way)
      where
        net-way : (b : Bool) → is_net (way_of b) ≡ true
        net-way true = refl
        net-way false = refl

    -- ---- fed by the top

    module _ (t : Name → ℕ) (tops : List (List Label)) (top : Name → ℕ → Label) (tie : (n : Name) → is_kind is_net all n ≡ true → rows_by t tops n ≡ first_bits (top n) ((widths all).net n)) where
      abbrev V : Labels
      V = fed_labels l js top v

      abbrev fed : List (List Label)
      fed = each_join (fed_row l s t tops) js rows

      fed-long : length fed ≡ length lines
      fed-long = length-fed l s t tops js rows ∙ h.long

      fed-words : Words lines s places f.leaf.narrow fed V
      fed-words n k = fed-other all l s t places tops is_memory js f.good.joins rows n k (ap is_input_port (no-port is_memory memory-way n k)) ∙ h.memories n k

      abbrev finds : Name → Option Join
      finds n = find (λ (j : Join). bytes_eq n j.port) js

      input-row : (n : Name) (p : Port) → port_named l.ports n ≡ Some p → p.output ≡ false → (o : Option Join) → finds n ≡ o → rows_by s fed n ≡ first_bits (of_net (finds n) top (v.net n)) (W.net n)
      input-row n p named way None at = absurd (let one = port-join l js f.good.each n p named in let zero_joins = found-none (λ (j : Join). bytes_eq n j.port) js at in omega (arith, one, zero_joins))
      input-row n p named way (Some j) at =
          let has = found-has (λ (k : Join). bytes_eq n k.port) (GoodJoin all l) js j at (all-map (GoodJoin all l) (λ k. bytes_eq n k.port ≡ true → GoodJoin all l k) (λ k g e. g) js f.good.joins) in
          let same : port_named l.ports n ≡ Some has.1.port = ap (port_named l.ports) (one-name n j.port has.0) ∙ has.1.named in
          fed-here all l s t places tops js f.good.joins rows h.long n p named way j at ∙ tie j.net (joined-net all l j has.1) ∙ ap (first_bits (top j.net)) (sym has.1.wide ∙ sym (port-bits l n has.1.port same))
          ∙ ap (λ q. first_bits q (W.net n)) (sym (ap (λ o. of_net o top (v.net n)) at))

      fed-nets : Agrees lines s places f.leaf.narrow l.items fed V
      fed-nets = undriven-is (λ n. HasNet lines s places f.leaf.narrow fed V n)
          (λ n p k named way.
          input-row n p named way (finds n) refl
          ∙ ap (λ q. first_bits q (W.net n)) (sym (ap (λ o. if is_input_port o then of_net (finds n) top (v.net n) else v.net n) named ∙ ap (λ b. if (if b then false else true) then of_net (finds n) top (v.net n) else v.net n) way)))
          (λ n k named.
          fed-other all l s t places tops is_register js f.good.joins rows n k (ap is_input_port named) ∙ h.registers n k
          ∙ ap (λ q. first_bits q (W.net n)) (sym (ap (λ o. if is_input_port o then of_net (finds n) top (v.net n) else v.net n) named)))

      settled : ((n : Name) → is_kind is_net lines n ≡ true → HasNet lines s places f.leaf.narrow (fed_rows s t l js tops rows) (labelled W V l.items) n) × Words lines s places f.leaf.narrow (fed_rows s t l js tops rows) (labelled W V l.items)
      settled = settles lines s places f.leaf.narrow l.items f.leaf.ruled f.leaf.good.tight f.leaf.good.order V fed fed-long fed-words fed-nets

      pub next-holds : Holds l s (next_rows s t l js tops rows) (carried W (labelled W V l.items) l.items (labelled W V l.items))
      next-holds =
          let kept = kept-rows l s places f.leaf.narrow (fed_rows s t l js tops rows) (labelled W V l.items) settled.0 settled.1 f.ready f.leaf.ruled (labelled W V l.items) (no_rows (length lines)) (length-none (length lines)) in
          record {
            long = length-handed lines s places (handed_row s (fed_rows s t l js tops rows)) l.items (no_rows (length lines)) ∙ length-none (length lines);
            registers = kept.0;
            memories = kept.1;
          }
