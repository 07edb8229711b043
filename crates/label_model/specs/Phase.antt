-- The labels, computed: those of all nets in a phase from its registers and memories, in the order of `vl_model`'s one
-- valuation; what a phase hands over to the next; and reset.
use Rattle.std.specs.Prelude.{ℕ, false, List, [], ◌∷◌, Option, Some, None, if◌then◌else◌, bytes_eq, find}
use Rattle.std.specs.Int.{bit_at}
use Rattle.vl_tree.specs.declared.tree.Join.{Join}
use Rattle.vl_tree.specs.Values.{Name, Item, wire, reg, mem, assign, clocked, store, Leaf, Design}
use Rattle.vl_model.specs.Meaning.{Widths, width_of}
use Rattle.vl_model.specs.Lines.{port_named}
use Rattle.vl_model.specs.Leaf.{leaf_widths}
use Rattle.vl_model.specs.Settle.{is_input_port}
use Rattle.label_model.specs.Labels.{none, only, either, Label, known, from, sources, known_as, join, all_sources, Labels, label_of}
use Rattle.label_model.specs.Lawful.{LabelNets}
use Rattle.label_model.specs.Driven.{driven_by, of_net, by_instance}

-- the labels with others for one net
abbrev pub put_net : Labels → Name → (ℕ → Label) → Labels
put_net l n x = record { net = λ m. if bytes_eq m n then x else l.net m; word = l.word }

-- the labels with others for one memory
abbrev pub put_word : Labels → Name → (ℕ → Label) → Labels
put_word l n x = record { net = l.net; word = λ m. if bytes_eq m n then x else l.word m }

-- ---- a leaf

-- the assigns in order
abbrev pub labelled : Widths → Labels → List Item → Labels
labelled w l [] = l
labelled w l (assign n e ∷ is) = labelled w (put_net l n (label_of w l e)) is
labelled w l (wire h n ∷ is) = labelled w l is
labelled w l (reg h n ∷ is) = labelled w l is
labelled w l (mem h n last ∷ is) = labelled w l is
labelled w l (clocked n k e ∷ is) = labelled w l is
labelled w l (store c n i e ∷ is) = labelled w l is

-- ---- all nets

-- what an output port of an instance has before the inputs are known: it does not depend on them
abbrev pub output_labels : (Name → Labels) → Leaf → Name → Name → ℕ → Label
output_labels inside l i port = (labelled (leaf_widths l) (inside i) l.items).net port

-- the labels of net n of the top: what no instance drives is an input, from its own domain
abbrev pub top_labels : Design → (Name → ℕ) → (Name → Labels) → Name → ℕ → Label
top_labels d owner inside n =
    driven_by d.leaves (output_labels inside) d.top.items n (λ i. from (only (owner n)))

-- the labels inside, with those of the joined nets at the input ports
abbrev pub fed_labels : Leaf → List Join → (Name → ℕ → Label) → Labels → Labels
fed_labels l joins top v = record {
  net = λ n. if is_input_port (port_named l.ports n) then
      of_net (find (λ (j : Join). bytes_eq n j.port) joins) top (v.net n) else v.net n;
  word = v.word;
}

-- the labels in an instance, with the joined nets at its inputs and its assigns in order
abbrev pub instance_labels : Option Leaf → List Join → (Name → ℕ → Label) → Labels → Labels
instance_labels None joins top v = v
instance_labels (Some l) joins top v = labelled (leaf_widths l) (fed_labels l joins top v) l.items

-- the labels of all nets, from those of registers and memories
unfoldable pub phase_labels : Design → (Name → ℕ) → (Name → Labels) → LabelNets
phase_labels d owner inside = record {
  top = top_labels d owner inside;
  inside = by_instance d.leaves d.top.items
      (λ l n joins. instance_labels l joins (top_labels d owner inside) (inside n)) inside;
}

-- ---- from phase to phase

-- what a memory's bit may be after a store of label new
abbrev pub write_label : Label → Label → Label → Label
write_label (known false) old new = old
write_label enable old new = join old (from (either (sources enable) (sources new)))

-- the registers and memories that a leaf hands over, item by item, each from the labels before
abbrev pub carried : Widths → Labels → List Item → Labels → Labels
carried w l [] m = m
carried w l (clocked n k e ∷ is) m = carried w l is (put_net m n (label_of w l e))
carried w l (store c n x e ∷ is) m =
    carried w l is (put_word m n (λ i. write_label (label_of w l c 0) (l.word n i)
    (from (either (all_sources (label_of w l x) (width_of w x)) (sources (label_of w l e i))))))
carried w l (wire h n ∷ is) m = carried w l is m
carried w l (reg h n ∷ is) m = carried w l is m
carried w l (mem h n last ∷ is) m = carried w l is m
carried w l (assign n e ∷ is) m = carried w l is m

-- those that an instance hands over
abbrev pub instance_carried : Option Leaf → Labels → Labels
instance_carried None v = v
instance_carried (Some l) v = carried (leaf_widths l) v l.items v

-- the registers and memories that a phase hands over to the next
unfoldable pub next_labels : Design → (Name → ℕ) → (Name → Labels) → Name → Labels
next_labels d owner inside = by_instance d.leaves d.top.items
    (λ l n joins. instance_carried l ((phase_labels d owner inside).inside n)) inside

-- ---- reset

-- registers are known, item by item
abbrev pub begun : List Item → Labels → Labels
begun [] m = m
begun (clocked n k e ∷ is) m = begun is (put_net m n (λ i. known_as (bit_at k.value i)))
begun (wire h n ∷ is) m = begun is m
begun (reg h n ∷ is) m = begun is m
begun (mem h n last ∷ is) m = begun is m
begun (assign n e ∷ is) m = begun is m
begun (store c n i e ∷ is) m = begun is m

-- memories depend on no domain
abbrev pub nothing : Labels
nothing = record { net = λ n i. known false; word = λ n i. from none }

-- those of an instance at reset
abbrev pub instance_begun : Option Leaf → Labels
instance_begun None = nothing
instance_begun (Some l) = begun l.items nothing

-- the registers and memories at reset
abbrev pub first_labels : Design → Name → Labels
first_labels d = by_instance d.leaves d.top.items (λ l n joins. instance_begun l) (λ n. nothing)
