-- A whole design, labelled: its instances in order, the rows of the top's nets, and those that a phase hands over.
use Rattle.std.specs.Prelude.{◌≡◌, ℕ, ◌+◌, ◌/◌, List, [], ◌∷◌, map, length, get_or, Option, Some, None, slice_get, slice_set, true}
use Rattle.vl_tree.specs.declared.tree.Port.{Port}
use Rattle.vl_tree.specs.declared.tree.Join.{Join}
use Rattle.vl_tree.specs.declared.tree.TopItem.{TopItem}
use Rattle.vl_tree.specs.declared.tree.TopItem.TheVariants.{Wire, Instance}
use Rattle.vl_tree.specs.Values.{Name, Leaf, Design}
use Rattle.vl_tree.specs.Read.{read_leaf, read_leaves, read_design}
use Rattle.vl_model.specs.Lines.{leaf_lines, top_lines, is_register, is_memory, leaf_named}
use Rattle.vl_model.specs.Rules.{IsSound, is_kind}
use Rattle.vl_model.specs.Leaf.{leaf_widths}
use Rattle.vl_model.specs.Whole.{Of}
use Rattle.vl_rules.specs.Scope.{Declares}
use Rattle.vl_run.specs.Emit.{place_in}
use Rattle.noc_model.specs.declared.Host.{Host}
use Rattle.noc_model.specs.Sound.{IsSound as IsSoundPlan}
use Rattle.gen_kit.specs.Ports.{ports_fault}
use Rattle.label_model.specs.Labels.{only, Label, from, Labels}
use Rattle.label_audit.specs.declared.bit.Bit.{Bit}
use Rattle.label_audit.specs.declared.part.Part.{Part}
use Rattle.label_audit.specs.declared.phase.Shape.{Shape}
use Rattle.label_audit.specs.Rows.{row_in, first_bits, firsts, joined_rows, rows_by, bits_in}
use Rattle.label_audit.specs.Instances.{no_rows, shown_rows, first_rows, next_rows}
use Rattle.label_audit.specs.Audited.{domain_of}

-- ---- instances

-- the leaf of the instance
abbrev pub leaf_of : Part → Leaf
leaf_of p = read_leaf p.leaf.leaf.now

-- where the names of the instance's leaf stand
abbrev pub place_of : Part → Name → ℕ
place_of p = place_in p.leaf.declared.now

-- the part is an instance of the leaf with these joins, and knows what the leaf declares
abbrev pub IsPart : Leaf → List Join → Part → Type 0
IsPart l js p = (leaf_of p ≡ l) × (p.joins.now ≡ js) × Declares p.leaf.declared.now (leaf_lines (leaf_of p))

-- what holds of each instance and its part, which are numbered from i on in the order of the items
abbrev pub AllAt : List Leaf → (Leaf → Name → List Join → Part → ℕ → Type 0) → ℕ → List TopItem → List Part → Type 0
AllAt ls R i [] ps = ps ≡ []
AllAt ls R i (Wire h n ∷ is) ps = AllAt ls R i is ps
AllAt ls R i (Instance l n js ∷ is) [] = ⊥
AllAt ls R i (Instance l n js ∷ is) (p ∷ ps) = Of (leaf_named ls l) (λ y. R y n js p i) × AllAt ls R (i + 1) is ps

-- the parts are the instances, in order
abbrev pub AreParts : List Leaf → List TopItem → List Part → Type 0
AreParts ls is ps = AllAt ls (λ l n js p i. IsPart l js p) 0 is ps

-- a sound design with the ports of the plan's text, and what its top declares and instantiates
pub record IsShape (s : Shape) : Type 0 where
  pub plan : IsSoundPlan s.plan.now
  pub sound : IsSound (read_design s.design.now)
  pub ports : ports_fault s.plan.now (read_design s.design.now) ≡ None
  pub declared : Declares s.declared.now (top_lines s.design.now.top)
  pub parts : AreParts (read_leaves s.design.now.leaves) s.design.now.top.items s.parts.now

-- ---- rows by instance

-- the rows that those of the code stand for
abbrev pub phase_in : List (List (List Bit)) → List (List (List Label))
phase_in xs = map (λ rows. map row_in rows) xs

-- the labels above both, row by row
abbrev pub joined_in : List (List (List Label)) → List (List (List Label)) → List (List (List Label))
joined_in xs ys = firsts (λ i. joined_rows (get_or xs i []) (get_or ys i [])) (length xs)

-- the rows of registers and memories at reset of an instance
abbrev pub first_at : Option Part → List (List Label)
first_at None = []
first_at (Some p) = first_rows (place_of p) (bits_in p.leaf.declared.now) (leaf_of p)

-- those of all instances
abbrev pub first_in : Shape → List (List (List Label))
first_in s = firsts (λ i. first_at (slice_get s.parts.now i)) (length s.parts.now)

-- ---- rows of the top

-- the domain of port i, where each attachment has eleven
abbrev pub domain_at : List Host → ℕ → ℕ
domain_at hosts i = domain_of (slice_get hosts (i / 11))

-- the rows with those of ports, the first of which is port i: each is from its own domain. Names of the top stand at t
abbrev pub input_rows : (Name → ℕ) → List Host → List Port → ℕ → List (List Label) → List (List Label)
input_rows t hosts [] i rows = rows
input_rows t hosts (q ∷ qs) i rows = slice_set (input_rows t hosts qs (i + 1) rows) (t q.name)
    (first_bits (λ k. from (only (domain_at hosts i))) (q.high + 1))

-- the rows with those that instances show, the first of which is instance i: the first that is joined to a net counts
abbrev pub shown_in : (Name → ℕ) → List (List (List Label)) → List Part → ℕ → List (List Label) → List (List Label)
shown_in t xs [] i tops = tops
shown_in t xs (p ∷ ps) i tops =
    shown_rows (place_of p) t (leaf_of p) p.joins.now (get_or xs i []) (shown_in t xs ps (i + 1) tops)

-- the rows of the top's nets in a phase with these registers and memories
abbrev pub tops_in : Shape → List (List (List Label)) → List (List Label)
tops_in s xs = shown_in (place_in s.declared.now) xs s.parts.now 0
    (input_rows (place_in s.declared.now) s.plan.now.hosts s.design.now.top.ports 0
    (no_rows (length (top_lines s.design.now.top))))

-- ---- what is handed over

-- the rows of registers and memories of an instance in the next phase
abbrev pub next_at : (Name → ℕ) → List (List Label) → Option Part → List (List Label) → List (List Label)
next_at t tops None kept = []
next_at t tops (Some p) kept = next_rows (place_of p) t (leaf_of p) p.joins.now tops kept

-- those of all instances
abbrev pub next_in : Shape → List (List (List Label)) → List (List (List Label))
next_in s xs = firsts (λ i. next_at (place_in s.declared.now) (tops_in s xs) (slice_get s.parts.now i) (get_or xs i []))
    (length s.parts.now)

-- ---- what rows stand for

-- the rows of a leaf's registers and memories have these labels. Names stand at s
pub record Holds (l : Leaf) (s : Name → ℕ) (rows : List (List Label)) (v : Labels) : Type 0 where
  pub long : length rows ≡ length (leaf_lines l)
  pub registers : (n : Name) → is_kind is_register (leaf_lines l) n ≡ true
      → rows_by s rows n ≡ first_bits (v.net n) ((leaf_widths l).net n)
  pub memories : (n : Name) → is_kind is_memory (leaf_lines l) n ≡ true
      → rows_by s rows n ≡ first_bits (v.word n) ((leaf_widths l).word n)

-- the rows of all instances have these labels, by the instance's name
abbrev pub Stand : Shape → (Name → Labels) → List (List (List Label)) → Type 0
Stand s inside xs = AllAt (read_leaves s.design.now.leaves)
    (λ l n js p i. Holds l (place_of p) (get_or xs i []) (inside n)) 0 s.design.now.top.items s.parts.now
