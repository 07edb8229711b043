-- What is known of a design that is labelled, by the numbers of its ports and instances.
use Rattle.std.proofs.Common.{◌≡◌, ℕ, zero, suc, ◌+◌, ◌*◌, ◌/◌, ◌<◌, ◌≤◌, List, [], ◌∷◌, ◌++◌, length, map, refl, sym, ◌∙◌, ap, subst, arith}
use Rattle.std.specs.Prelude.{Option, Some, None, flat_map, get_or, slice_get, All}
use Rattle.std.proofs.lemmas.Option.{none-some, get_or_from_slice_get}
use Rattle.std.proofs.lemmas.List.{length-append}
use Rattle.vl_tree.specs.declared.tree.Join.{Join}
use Rattle.vl_tree.specs.declared.tree.TopItem.{TopItem}
use Rattle.vl_tree.specs.declared.tree.TopItem.TheVariants.{Wire, Instance}
use Rattle.vl_tree.specs.Values.{Name, Leaf}
use Rattle.vl_tree.specs.Read.{read_design, read_leaves}
use Rattle.vl_model.specs.Lines.{leaf_lines, leaf_named}
use Rattle.vl_model.specs.Whole.{Of}
use Rattle.vl_rules.specs.Scope.{Declares}
use Rattle.noc_model.specs.declared.Host.{Host}
use Rattle.gen_kit.specs.Ports.{host_ports, top_ports}
use Rattle.label_model.specs.Labels.{Label}
use Rattle.label_audit.specs.declared.bit.Bit.{Bit}
use Rattle.label_audit.specs.declared.part.Part.{Part}
use Rattle.label_audit.specs.declared.phase.Shape.{Shape}
use Rattle.label_audit.specs.Bits.{label_in}
use Rattle.label_audit.specs.Rows.{row_in, first_bits, firsts}
use Rattle.label_audit.specs.Audited.{domain_of}
use Rattle.label_audit.specs.Whole.{leaf_of, IsPart, AllAt, IsShape, domain_at, phase_in}
use Rattle.label_audit.proofs.Rows.{grown}
use Rattle.label_audit.proofs.Instances.{more-rows, more-phase}
use Rattle.label_audit.proofs.TopPorts.{eleven, ports-are}

-- ---- on lists

pub at-some : {A : Type 0} (xs : List A) (i : ℕ) (x : A) → i < length xs → x ≡ get_or xs i x → slice_get xs i ≡ Some x
at-some [] i x lt e = absurd (omega (arith, lt))
at-some (y ∷ xs) zero x lt e = ap (λ z. Some z) (sym e)
at-some (y ∷ xs) (suc i) x lt e = at-some xs i x (omega (arith, lt)) e

-- within the list the other value plays no part
pub any-default : {A : Type 0} (xs : List A) (i : ℕ) (x y : A) → i < length xs → get_or xs i x ≡ get_or xs i y
any-default [] i x y lt = absurd (omega (arith, lt))
any-default (z ∷ xs) zero x y lt = refl
any-default (z ∷ xs) (suc i) x y lt = any-default xs i x y (omega (arith, lt))

one-more : {A : Type 0} (f : ℕ → A) (i : ℕ) → firsts f (i + 1) ≡ firsts f i ++ f i ∷ []
one-more f i = ap (firsts f) (let e : i + 1 ≡ suc i = omega arith in e)

-- one more bit, one more row, and one more instance
pub grow-row : (row all : List Bit) (x : Bit) (f : ℕ → Label) (i : ℕ) → all ≡ row ++ x ∷ [] → row_in row ≡ first_bits f i → label_in x ≡ f i → row_in all ≡ first_bits f (i + 1)
grow-row row all x f i e h k =
    ap row_in e ∙ grown row x ∙ ap (λ z. z ++ label_in x ∷ []) h ∙ ap (λ z. first_bits f i ++ z ∷ []) k ∙ ap (first_bits f) (let next : suc i ≡ i + 1 = omega arith in next)

pub grow-rows : (rows all : List (List Bit)) (x : List Bit) (f : ℕ → List Label) (i : ℕ) → all ≡ rows ++ x ∷ [] → map row_in rows ≡ firsts f i → row_in x ≡ f i → map row_in all ≡ firsts f (i + 1)
grow-rows rows all x f i e h k = ap (map row_in) e ∙ more-rows rows x ∙ ap (λ z. z ++ row_in x ∷ []) h ∙ ap (λ z. firsts f i ++ z ∷ []) k ∙ sym (one-more f i)

pub grow-phase : (phase all : List (List (List Bit))) (x : List (List Bit)) (f : ℕ → List (List Label)) (i : ℕ) → all ≡ phase ++ x ∷ [] → phase_in phase ≡ firsts f i → map row_in x ≡ f i → phase_in all ≡ firsts f (i + 1)
grow-phase phase all x f i e h k = ap phase_in e ∙ more-phase phase x ∙ ap (λ z. z ++ map row_in x ∷ []) h ∙ ap (λ z. firsts f i ++ z ∷ []) k ∙ sym (one-more f i)

-- ---- ports

length-ports : (hosts : List Host) → length (flat_map host_ports hosts) ≡ 11 * length hosts
length-ports [] = refl
length-ports (h ∷ hs) = length-append (host_ports h) (flat_map host_ports hs) ∙ (let rest = length-ports hs in let mine = eleven h in omega (arith, rest, mine))

pub get-some : {A : Type 0} (xs : List A) (i : ℕ) → i < length xs → (x : A) × (slice_get xs i ≡ Some x)
get-some [] i lt = absurd (omega (arith, lt))
get-some (x ∷ xs) zero lt = (x, refl)
get-some (x ∷ xs) (suc i) lt = get-some xs i (omega (arith, lt))

module _ (s : Shape) (shape : IsShape s) where
  count : length s.design.now.top.ports ≡ 11 * length s.plan.now.hosts
  count = ap length (ports-are s.plan.now (read_design s.design.now) shape.ports) ∙ length-ports s.plan.now.hosts

  -- each port is one of an attachment
  pub host-within : (i : ℕ) → i < length s.design.now.top.ports → i / 11 < length s.plan.now.hosts
  host-within i lt = let e = count in omega (arith, e, lt)

  -- there are few
  pub few-ports : length s.design.now.top.ports ≤ 2816
  few-ports = let e = count in let few = shape.plan.host_count in omega (arith, e, few)

  pub domain-small : (i : ℕ) → i < length s.design.now.top.ports → domain_at s.plan.now.hosts i < 16
  domain-small i lt =
      let hosts = s.plan.now.hosts in
      let x = get-some hosts (i / 11) (host-within i lt) in
      let at : get_or hosts (i / 11) x.0 ≡ x.0 = get_or_from_slice_get hosts (i / 11) x.0 x.0 x.1 in
      let each = shape.plan.hosts (i / 11) x.0 (host-within i lt) in
      let low : x.0.domain < length s.plan.now.domains = subst (λ (z : Host). z.domain < length s.plan.now.domains) at each.1 in
      let few = shape.plan.domains.1 in
      subst (λ o. domain_of o < 16) (sym x.1) (omega (arith, low, few))

  -- ---- instances

  knows-at : (ls : List Leaf) (k i : ℕ) (is : List TopItem) (ps : List Part) (p : Part) → AllAt ls (λ l n js x j. IsPart l js x) i is ps → slice_get ps k ≡ Some p → Declares p.leaf.declared.now (leaf_lines (leaf_of p))
  knows-at ls k i [] ps p a e = absurd (none-some p (sym (ap (λ z. slice_get z k) a) ∙ e))
  knows-at ls k i (Wire h n ∷ is) ps p a e = knows-at ls k i is ps p a e
  knows-at ls k i (Instance l n js ∷ is) [] p a e = absurd a
  knows-at ls zero i (Instance l n js ∷ is) (q ∷ ps) p a e = go (leaf_named ls l) a.0
    where
      go : (o : Option Leaf) → Of o (λ y. IsPart y js q) → Declares p.leaf.declared.now (leaf_lines (leaf_of p))
      go None h = absurd h
      go (Some y) h = let one : q ≡ p = cc in subst (λ (z : Part). Declares z.leaf.declared.now (leaf_lines (leaf_of z))) one h.2
  knows-at ls (suc k) i (Instance l n js ∷ is) (q ∷ ps) p a e = knows-at ls k (i + 1) is ps p a.1 e

  -- each instance's table says what its leaf declares
  pub part-knows : (k : ℕ) (p : Part) → slice_get s.parts.now k ≡ Some p → Declares p.leaf.declared.now (leaf_lines (leaf_of p))
  part-knows k p e = knows-at (read_leaves s.design.now.leaves) k 0 s.design.now.top.items s.parts.now p shape.parts e
