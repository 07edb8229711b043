-- The first leak of the rows is that of the labels: the verdict.
use Rattle.std.proofs.Common.{◌≡◌, ℕ, zero, suc, ◌+◌, ◌-◌, ◌<◌, Bool, true, false, ◌&&◌, List, [], ◌∷◌, length, map, drop, refl, sym, ◌∙◌, ap, subst, arith}
use Rattle.std.specs.Prelude.{Option, Some, None, codes, get_or, slice_get, not, nat_lt, ◌==◌, if◌then◌else◌}
use Rattle.std.specs.List.{AllByRecursion}
use Rattle.std.proofs.lemmas.Bool.{and_parts, ltb-true, false≢true}
use Rattle.std.proofs.lemmas.Option.{none-some, slice_get_within, get_or_from_slice_get}
use Rattle.std.proofs.lemmas.List.{length-map, at_drop_more}
use Rattle.std.proofs.Math.ListN.{get_or-map}
use Rattle.vl_tree.specs.declared.tree.Port.{Port}
use Rattle.vl_tree.specs.Values.{Name, Design}
use Rattle.vl_model.specs.declared.kind.Kind.{Kind}
use Rattle.vl_model.specs.declared.kind.Kind.TheVariants.{Input, Output, Inner, Register, Memory, Child}
use Rattle.vl_model.specs.Lines.{Line, heading, joint, top_lines, lookup, kind_passes, way_of, is_net, is_output, net_bits, widths}
use Rattle.vl_model.specs.Rules.{is_kind}
use Rattle.vl_model.proofs.Passed.{top-sound}
use Rattle.vl_model.proofs.Ordered.{kind-of}
use Rattle.vl_run.specs.Emit.{place_in}
use Rattle.vl_run.proofs.Inputs.{First, are-first}
use Rattle.noc_model.specs.declared.Host.{Host}
use Rattle.noc_model.specs.Limits.{most_domains}
use Rattle.label_model.specs.Labels.{Domains, Label, sources}
use Rattle.label_model.specs.Lawful.{LabelNets}
use Rattle.label_model.specs.Phase.{top_labels, phase_labels}
use Rattle.label_model.specs.Verdict.{Leak, first_of, foreign_of, leak_here, port_leak, first_leak, AreBelow, IsVerdict}
use Rattle.label_audit.specs.declared.bit.Bit.{Bit}
use Rattle.label_audit.specs.declared.bit.Bit.TheVariants.{Known, From}
use Rattle.label_audit.specs.declared.phase.Shape.{Shape}
use Rattle.label_audit.specs.Bits.{domains_in, label_in}
use Rattle.label_audit.specs.Rows.{row_in, bit_in, first_bits, row_sources, rows_by}
use Rattle.label_audit.specs.Audited.{port_domain}
use Rattle.label_audit.specs.Whole.{IsShape, domain_at, phase_in, tops_in}
use Rattle.label_audit.specs.Walks.{design_in, phase_count, phase_at, IsWalk, IsDone, all_tops}
use Rattle.label_audit.specs.Leaks.{row_foreign, leak_in, port_rows, port_leak_in, or_leak, leaks_in}
use Rattle.label_audit.proofs.Computed.{bit-first, sources-first}
use Rattle.label_audit.proofs.Firsts.{foreign-is}
use Rattle.label_audit.proofs.Whole.{length-firsts, firsts-at}
use Rattle.label_audit.proofs.TopPorts.{ports-are, Apart, are-apart, owner-at}
use Rattle.label_audit.proofs.Phases.{tops-are}
use Rattle.label_audit.proofs.Walks.{done-least}

-- ---- a bit of the code depends on few domains

small-bit : (b : Bit) (e : ℕ) → sources (label_in b) e ≡ true → e < most_domains
small-bit (Known b) e h = absurd (false≢true h)
small-bit (From mask) e h = ltb-true e 16 (and_parts (nat_lt e 16) _ h).0

small-row : (bits : List Bit) (i e : ℕ) → sources (bit_in (row_in bits) i) e ≡ true → e < most_domains
small-row [] i e h = absurd (false≢true h)
small-row (b ∷ bits) zero e h = small-bit b e h
small-row (b ∷ bits) (suc i) e h = small-row bits i e h

small-rows : (rows : List (List Bit)) (k i e : ℕ) → sources (bit_in (get_or (map row_in rows) k []) i) e ≡ true → e < most_domains
small-rows [] k i e h = absurd (false≢true h)
small-rows (r ∷ rows) zero i e h = small-row r i e h
small-rows (r ∷ rows) (suc k) i e h = small-rows rows k i e h

small-phase : (tops : List (List (List Bit))) (f k i e : ℕ) → sources (bit_in (get_or (get_or (phase_in tops) f []) k []) i) e ≡ true → e < most_domains
small-phase [] f k i e h = absurd (false≢true h)
small-phase (x ∷ tops) zero k i e h = small-rows x k i e h
small-phase (x ∷ tops) (suc f) k i e h = small-phase tops f k i e h

-- ---- one port

-- one phase more
pub leak-step : (own p : ℕ) (row : ℕ → List Label) (f n : ℕ) → f < n → leak_in own p row f (n - f) ≡ leak_here p f (row_foreign own (row f)) (leak_in own p row (f + 1) (n - (f + 1)))
leak-step own p row f n lt = ap (leak_in own p row f) (let e : n - f ≡ suc (n - (f + 1)) = omega (arith, lt) in e)

-- the least foreign domain of a row, from the set of its domains
pub foreign-row : (own mask : ℕ) (r : List Label) → domains_in mask ≡ row_sources r → first_of (λ e. not (e == own) && domains_in mask e) 0 16 ≡ row_foreign own r
foreign-row own mask r e = ap (λ (S : Domains). first_of (λ k. not (k == own) && S k) 0 16) e

-- one port more
pub ports-step : (t : Name → ℕ) (hosts : List Host) (tops : List (List (List Label))) (count : ℕ) (ports : List Port) (i : ℕ) (q : Port) → slice_get ports i ≡ Some q
    → leaks_in t hosts tops count (drop i ports) i ≡ or_leak (port_leak_in t hosts tops count q i) (leaks_in t hosts tops count (drop (i + 1) ports) (i + 1))
ports-step t hosts tops count ports i q e =
    at_drop_more (λ qs. leaks_in t hosts tops count qs i) ports i q (slice_get_within ports i q e)
    ∙ ap (λ z. leaks_in t hosts tops count (z ∷ drop (i + 1) ports) i) (get_or_from_slice_get ports i q q e)

or-here : (p f : ℕ) (x : Option ℕ) (rest later : Option Leak) → or_leak (leak_here p f x rest) later ≡ leak_here p f x (or_leak rest later)
or-here p f None rest later = refl
or-here p f (Some e) rest later = refl

foreign-same : (own w : ℕ) (r : List Label) (x : ℕ → Label) → r ≡ first_bits x w → row_foreign own r ≡ foreign_of most_domains own x w
foreign-same own w r x e =
    ap (row_foreign own) e ∙ ap (λ S. first_of (λ k. not (k == own) && S k) 0 most_domains) (sources-first x w) ∙ sym (foreign-is most_domains own x w)

module _ (owner : Name → ℕ) (labels : ℕ → LabelNets) (L : ℕ) (row : ℕ → List Label) (q : Port) (own p : ℕ) (mine : own ≡ owner q.name) (rows : (f : ℕ) → f < L → row f ≡ first_bits ((labels f).top q.name) (q.high + 1)) where
  port-is : (k f : ℕ) → f + k ≡ L → (later : Option Leak) → or_leak (leak_in own p row f k) later ≡ port_leak most_domains owner labels q p f k later
  port-is zero f e later = refl
  port-is (suc k) f e later =
      let here = foreign-same own (q.high + 1) (row f) ((labels f).top q.name) (rows f (omega (arith, e))) in
      let mine-too = ap (λ z. foreign_of most_domains z ((labels f).top q.name) (q.high + 1)) mine in
      let next : f + 1 + k ≡ L = omega (arith, e) in
      or-here p f (row_foreign own (row f)) (leak_in own p row (f + 1) k) later ∙ ap (λ x. leak_here p f x (or_leak (leak_in own p row (f + 1) k) later)) (here ∙ mine-too)
      ∙ ap (leak_here p f (foreign_of most_domains (owner q.name) ((labels f).top q.name) (q.high + 1))) (port-is k (f + 1) next later)

-- ---- all ports

module _ (s : Shape) (shape : IsShape s) (phases : List (List (List (List Bit)))) (done : IsDone s phases) (tops : List (List (List Bit))) (same : phase_in tops ≡ all_tops s phases) where
  abbrev d : Design
  d = design_in s

  abbrev owner : Name → ℕ
  owner = port_domain s.plan.now

  abbrev L : ℕ
  L = phase_count s

  abbrev all : List Line
  all = top_lines d.top

  abbrev t : Name → ℕ
  t = place_in s.declared.now

  abbrev walk : IsWalk s phases None
  walk = done

  abbrev labels : ℕ → LabelNets
  labels f = phase_labels d owner (walk.kept f)

  pub count : length tops ≡ L
  count = let e = ap length same in let a = length-map tops (λ rows. map row_in rows) in let b = length-firsts (λ f. tops_in s (phase_in (phase_at phases f))) (length phases) in let long = walk.long in omega (arith, e, a, b, long)

  tops-at : (f : ℕ) → f < L → get_or (phase_in tops) f [] ≡ tops_in s (phase_in (phase_at phases f))
  tops-at f lt =
      let long = walk.long in ap (λ xs. get_or xs f []) same ∙ firsts-at (λ g. tops_in s (phase_in (phase_at phases g))) (length phases) f [] (omega (arith, lt, long))

  -- a net's row has its labels
  row-is : (f : ℕ) → f < L → (n : Name) → is_kind is_net all n ≡ true → port_rows t (phase_in tops) n f ≡ first_bits ((labels f).top n) ((widths all).net n)
  unfolding phase_labels
  row-is f lt n k = ap (λ rows. rows_by t rows n) (tops-at f lt) ∙ tops-are s shape (walk.kept f) (phase_in (phase_at phases f)) (walk.stand f lt) n k

  are-below : AreBelow d most_domains L labels
  are-below n k f lt i less e h =
      let what = kind-of is_output all n k in
      let net : is_kind is_net all n ≡ true = ap (kind_passes is_net) what.1 ∙ kinds what.0.kind what.2 in
      small-phase tops f (t n) i e (subst (λ z. sources z e ≡ true) (sym (ap (λ r. bit_in r i) (row-is f lt n net) ∙ bit-first ((labels f).top n) ((widths all).net n) i less)) h)
    where
      kinds : (c : Kind) → is_output c ≡ true → is_net c ≡ true
      kinds Input a = refl
      kinds Output a = refl
      kinds Inner a = refl
      kinds Register a = refl
      kinds Memory a = a
      kinds Child a = a

  -- what is known of the port at position p
  record Good (q : Port) (p : ℕ) : Type 0 where
    net : is_kind is_net all q.name ≡ true
    wide : (widths all).net q.name ≡ q.high + 1
    own : domain_at s.plan.now.hosts p ≡ owner q.name

  first-at : (qs : List Port) (k : ℕ) (q : Port) → slice_get qs k ≡ Some q → First all qs → lookup all q.name ≡ Some (record { name = q.name; kind = way_of q.output; high = q.high; last = 0 })
  first-at [] k q e a = absurd (none-some q e)
  first-at (x ∷ qs) zero q e a = let one : x ≡ q = cc in subst (λ (z : Port). lookup all z.name ≡ Some (record { name = z.name; kind = way_of z.output; high = z.high; last = 0 })) one a.0
  first-at (x ∷ qs) (suc k) q e a = first-at qs k q e a.1

  good-at : (k : ℕ) (q : Port) → slice_get d.top.ports k ≡ Some q → Good q k
  good-at k q e =
      let once = (top-sound d shape.sound.rules).once.1 in
      let at = first-at d.top.ports k q e (are-first d.leaves all (heading (codes "noc") ∷ []) d.top.ports (map joint d.top.items) refl once).0 in
      let whole = ports-are s.plan.now d shape.ports in
      let apart = are-apart d.leaves all (heading (codes "noc") ∷ []) d.top.ports (map joint d.top.items) once in
      record {
        net = ap (kind_passes is_net) at ∙ net-way q.output;
        wide = ap net_bits at ∙ ap (λ b. if b then q.high + 1 else 0) (net-way q.output);
        own = owner-at s.plan.now.hosts k q (subst (λ z. slice_get z k ≡ Some q) whole e) (subst Apart whole apart);
      }
    where
      net-way : (b : Bool) → is_net (way_of b) ≡ true
      net-way true = refl
      net-way false = refl

  port-here : (q : Port) (p : ℕ) → Good q p → (later : Option Leak)
      → or_leak (port_leak_in t s.plan.now.hosts (phase_in tops) (length tops) q p) later ≡ (if q.output then port_leak most_domains owner labels q p 0 L later else later)
  port-here q p g later = ap (λ c. or_leak (port_leak_in t s.plan.now.hosts (phase_in tops) c q p) later) count ∙ go q.output
    where
      rows : (f : ℕ) → f < L → port_rows t (phase_in tops) q.name f ≡ first_bits ((labels f).top q.name) (q.high + 1)
      rows f lt = row-is f lt q.name g.net ∙ ap (first_bits ((labels f).top q.name)) g.wide

      go : (b : Bool) → or_leak (if b then leak_in (domain_at s.plan.now.hosts p) p (port_rows t (phase_in tops) q.name) 0 L else None) later ≡ (if b then port_leak most_domains owner labels q p 0 L later else later)
      go true = port-is owner labels L (port_rows t (phase_in tops) q.name) q (domain_at s.plan.now.hosts p) p g.own rows L 0 (let e : 0 + L ≡ L = omega arith in e) later
      go false = refl

  leaks-are : (qs : List Port) (p : ℕ) → ((k : ℕ) (q : Port) → slice_get qs k ≡ Some q → Good q (p + k))
      → leaks_in t s.plan.now.hosts (phase_in tops) (length tops) qs p ≡ first_leak most_domains L owner labels qs p
  leaks-are [] p good = refl
  leaks-are (q ∷ qs) p good =
      let here : p + 0 ≡ p = omega arith in
      port-here q p (subst (Good q) here (good 0 q refl)) (leaks_in t s.plan.now.hosts (phase_in tops) (length tops) qs (p + 1))
      ∙ ap (λ later. if q.output then port_leak most_domains owner labels q p 0 L later else later)
      (leaks-are qs (p + 1) (λ k x e. (let next : p + suc k ≡ p + 1 + k = omega arith in subst (Good x) next (good (suc k) x e))))

  pub verdict-is : (leak : Option Leak) → leak ≡ leaks_in t s.plan.now.hosts (phase_in tops) (length tops) d.top.ports 0 → IsVerdict d owner most_domains L leak
  verdict-is leak e = (
    labels,
    done-least s shape phases walk,
    are-below,
    e ∙ leaks-are d.top.ports 0 (λ k q at. (let place : k ≡ 0 + k = omega arith in subst (Good q) place (good-at k q at))),
  )
