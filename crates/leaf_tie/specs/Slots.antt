-- Slot counters, and whose slot it is.
use Rattle.std.specs.Prelude.{◌≡◌, ℕ, ◌+◌, ◌-◌, ◌%◌, List, [], ◌∷◌, length, ◌==◌, if◌then◌else◌, slice_index, pos, ◌-ℤ◌}
use Rattle.vl_tree.specs.declared.tree.Op.TheVariants.{Add, Equal, Or}
use Rattle.vl_tree.specs.Values.{Name, Expr, net, two, choose, Item, wire, reg, assign, clocked}
use Rattle.vl_model.specs.Meaning.{Values, one_if}
use Rattle.gen_kit.specs.Families.{in_bits}
use Rattle.noc_model.specs.Plan.{Plan}
use Rattle.noc_model.specs.Place.{way_of, slot_of}
use Rattle.gen_kit.specs.Groups.{Group}
use Rattle.gen_kit.specs.Families.{for_each}

-- a slot counter, and the nets that say whose slot it is
pub record SlotNames : Type 0 where
  pub count : Name
  -- of each domain
  pub owns : ℕ → Name

-- whether the counter names one of the domain's entries, the entries counted from k
abbrev pub owned : SlotNames → ℕ → ℕ → List ℕ → ℕ → Expr
owned n h k [] e = in_bits 1 0
owned n h k (d ∷ ds) e = if d == e then two Or (two Equal (net n.count) (in_bits (h + 1) k)) (owned n h
    (k + 1) ds e) else owned n h (k + 1) ds e

-- the nets that say whose slot it is
abbrev pub owned_nets : SlotNames → ℕ → List ℕ → ℕ → List Item
owned_nets n h slots e = wire 0 (n.owns e) ∷ assign (n.owns e) (owned n h 0 slots e) ∷ []

-- a counter modulo the number of slots, which begins at first
abbrev pub slot_group : SlotNames → ℕ → List ℕ → ℕ → ℕ → Group
slot_group n h slots domains first = record {
  heads = reg h n.count ∷ [];
  nets = for_each domains (owned_nets n h slots);
  moves =
      clocked n.count (record { width = h + 1; value = first })
      (choose (two Equal (net n.count) (in_bits (h + 1) (length slots - 1))) (in_bits (h + 1) 0) (two Add
      (net n.count) (in_bits (h + 1) 1)))
      ∷ [];
}

-- in cycle t
abbrev pub Counts : SlotNames → List ℕ → ℕ → ℕ → Values → Type 0
Counts n slots first t v = v.net n.count ≡ (t + first) % length slots

-- the net of domain e says whether the slot is its own
abbrev pub Owns : SlotNames → List ℕ → ℕ → ℕ → Values → ℕ → Type 0
Owns n slots first t v e = v.net (n.owns e) ≡ one_if (slice_index slots ((t + first) % length slots) == e)

-- the number, in cycle 0, of the slot in which the first place of a leaving link is filled
abbrev pub leaving_slot : Plan → ℕ → ℕ → ℕ
leaving_slot p n o = slot_of p n (pos 0) (way_of o)

-- the same of the slot in which the last place of the link that leaves tile m by the port was filled
abbrev pub arriving_slot : Plan → ℕ → ℕ → ℕ
arriving_slot p m o = slot_of p m (pos 0 -ℤ pos p.stages) (way_of o)
