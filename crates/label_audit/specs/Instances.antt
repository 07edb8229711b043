-- The rows of one instance, by the lines that declare its nets and memories.
use Rattle.std.specs.Prelude.{ℕ, zero, suc, ◌+◌, false, List, [], ◌∷◌, ◌++◌, length, if◌then◌else◌, slice_set}
use Rattle.vl_tree.specs.declared.tree.Port.{Port}
use Rattle.vl_tree.specs.declared.tree.Join.{Join}
use Rattle.vl_tree.specs.Values.{Name, Item, wire, reg, mem, assign, clocked, store, Leaf}
use Rattle.vl_model.specs.Lines.{leaf_lines, port_named}
use Rattle.vl_model.specs.Rules.{is_output_port}
use Rattle.label_model.specs.Labels.{none, Label, known, from}
use Rattle.label_audit.specs.Rows.{bit_in, first_bits, constant_row, store_row, row_of, rows_by}

-- as many rows without a bit
abbrev pub no_rows : ℕ → List (List Label)
no_rows zero = []
no_rows (suc n) = no_rows n ++ [] ∷ []

-- ---- item by item

-- the rows after an assign
abbrev pub assigned_row : (Name → ℕ) → Item → List (List Label) → List (List Label)
assigned_row s (assign n e) rows = slice_set rows (s n) (row_of (rows_by s rows) e)
assigned_row s _ rows = rows

-- the rows with what the item gives the register that it clocks, or the memory that it stores to
abbrev pub moved_row : (Name → ℕ) → (Item → List Label) → Item → List (List Label) → List (List Label)
moved_row s f (clocked n k e) rows = slice_set rows (s n) (f (clocked n k e))
moved_row s f (store c n i e) rows = slice_set rows (s n) (f (store c n i e))
moved_row s f _ rows = rows

-- what an item gives at reset, where names have so many bits
abbrev pub reset_row : (Name → ℕ) → Item → List Label
reset_row bits (clocked n k e) = constant_row k.value (bits n)
reset_row bits (store c n i e) = first_bits (λ j. from none) (bits n)
reset_row bits _ = []

-- what it hands over to the next phase
abbrev pub handed_row : (Name → ℕ) → List (List Label) → Item → List Label
handed_row s rows (clocked n k e) = row_of (rows_by s rows) e
handed_row s rows (store c n i e) = store_row (bit_in (row_of (rows_by s rows) c) 0) (row_of (rows_by s rows) i)
    (row_of (rows_by s rows) e) (rows_by s rows n)
handed_row s rows _ = []

-- the rows of registers and memories with what the item gives at reset
abbrev pub begun_row : (Name → ℕ) → (Name → ℕ) → Item → List (List Label) → List (List Label)
begun_row s bits = moved_row s (reset_row bits)

-- the rows of the next phase with what the item hands over
abbrev pub carried_row : (Name → ℕ) → List (List Label) → Item → List (List Label) → List (List Label)
carried_row s rows = moved_row s (handed_row s rows)

-- ---- all items, in order

-- what they make of rows, one after the other
abbrev pub each_item : (Item → List (List Label) → List (List Label)) → List Item → List (List Label)
    → List (List Label)
each_item f [] rows = rows
each_item f (x ∷ xs) rows = each_item f xs (f x rows)

-- ---- ports

-- the rows with as many bits as the port has, if it is an input port
abbrev pub blank_row : (Name → ℕ) → Port → List (List Label) → List (List Label)
blank_row s p rows = if p.output then rows else slice_set rows (s p.name) (first_bits (λ i. known false) (p.high + 1))

-- what ports make of rows, the last first
abbrev pub each_port : (Port → List (List Label) → List (List Label)) → List Port → List (List Label)
    → List (List Label)
each_port f [] rows = rows
each_port f (p ∷ ps) rows = f p (each_port f ps rows)

-- ---- joins

-- the top's rows with that of the port, if it is an output port
abbrev pub shown_row : Leaf → (Name → ℕ) → (Name → ℕ) → List (List Label) → Join → List (List Label) → List (List Label)
shown_row l s top rows j tops =
    if is_output_port (port_named l.ports j.port) then slice_set tops (top j.net) (rows_by s rows j.port) else tops

-- the rows with that of the net, if the port is no output port
abbrev pub fed_row : Leaf → (Name → ℕ) → (Name → ℕ) → List (List Label) → Join → List (List Label) → List (List Label)
fed_row l s top tops j rows =
    if is_output_port (port_named l.ports j.port) then rows else slice_set rows (s j.port) (rows_by top tops j.net)

-- what joins make of rows, the last first
abbrev pub each_join : (Join → List (List Label) → List (List Label)) → List Join → List (List Label)
    → List (List Label)
each_join f [] rows = rows
each_join f (j ∷ js) rows = f j (each_join f js rows)

-- ---- an instance

-- the rows of registers and memories at reset
abbrev pub first_rows : (Name → ℕ) → (Name → ℕ) → Leaf → List (List Label)
first_rows s bits l = each_item (begun_row s bits) l.items (no_rows (length (leaf_lines l)))

-- the rows with the assigns in order
abbrev pub settled_rows : (Name → ℕ) → Leaf → List (List Label) → List (List Label)
settled_rows s l rows = each_item (assigned_row s) l.items rows

-- the top's rows with those of the output ports
abbrev pub shown_rows : (Name → ℕ) → (Name → ℕ) → Leaf → List Join → List (List Label) → List (List Label)
    → List (List Label)
shown_rows s top l joins kept tops = each_join (shown_row l s top (settled_rows s l (each_port
    (blank_row s) l.ports kept))) joins tops

-- the rows of all nets, with the top's at the input ports
abbrev pub fed_rows : (Name → ℕ) → (Name → ℕ) → Leaf → List Join → List (List Label) → List (List Label)
    → List (List Label)
fed_rows s top l joins tops kept = settled_rows s l (each_join (fed_row l s top tops) joins kept)

-- the rows of registers and memories in the next phase
abbrev pub next_rows : (Name → ℕ) → (Name → ℕ) → Leaf → List Join → List (List Label) → List (List Label)
    → List (List Label)
next_rows s top l joins tops kept =
    each_item (carried_row s (fed_rows s top l joins tops kept)) l.items (no_rows (length (leaf_lines l)))
