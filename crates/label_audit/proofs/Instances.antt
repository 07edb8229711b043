-- Rows by line.
use Rattle.std.proofs.Common.{◌≡◌, ℕ, ◌+◌, ◌<◌, List, [], ◌∷◌, ◌++◌, map, length, get_or, drop, sym, ◌∙◌, ap}
use Rattle.std.proofs.lemmas.List.{map-append, at_drop_more}
use Rattle.std.proofs.Math.ListN.{get_or-map}
use Rattle.vl_tree.specs.declared.tree.LeafItem.{LeafItem}
use Rattle.vl_tree.specs.declared.tree.Port.{Port}
use Rattle.vl_tree.specs.declared.tree.Join.{Join}
use Rattle.vl_tree.specs.Values.{Item}
use Rattle.vl_tree.specs.Read.{read_item, read_items}
use Rattle.label_model.specs.Labels.{Label}
use Rattle.label_audit.specs.declared.bit.Bit.{Bit}
use Rattle.label_audit.specs.Rows.{row_in}
use Rattle.label_audit.specs.Instances.{each_item, each_port, each_join}
use Rattle.label_audit.specs.Whole.{phase_in}
use Rattle.label_audit.proofs.Rows.{row-at}

-- one more row
pub more-rows : (rows : List (List Bit)) (x : List Bit) → map row_in (rows ++ x ∷ []) ≡ map row_in rows ++ row_in x ∷ []
more-rows rows x = map-append row_in rows (x ∷ [])

-- one more item
pub item-at : (f : Item → List (List Label) → List (List Label)) (rows : List (List Label)) (xs : List LeafItem) (i : ℕ) (x : LeafItem) → i < length xs → x ≡ get_or xs i x
    → each_item f (read_items (drop i xs)) rows ≡ each_item f (read_items (drop (i + 1) xs)) (f (read_item x) rows)
item-at f rows xs i x h is = at_drop_more (λ ys. each_item f (read_items ys) rows) xs i x h ∙ ap (λ y. each_item f (read_items (y ∷ drop (i + 1) xs)) rows) (sym is)

-- one more join
pub join-at : (f : Join → List (List Label) → List (List Label)) (rows : List (List Label)) (xs : List Join) (i : ℕ) (x : Join) → i < length xs → x ≡ get_or xs i x
    → each_join f (drop i xs) rows ≡ f x (each_join f (drop (i + 1) xs) rows)
join-at f rows xs i x h is = at_drop_more (λ ys. each_join f ys rows) xs i x h ∙ ap (λ y. each_join f (y ∷ drop (i + 1) xs) rows) (sym is)

-- one more port
pub port-at : (f : Port → List (List Label) → List (List Label)) (rows : List (List Label)) (xs : List Port) (i : ℕ) (x : Port) → i < length xs → x ≡ get_or xs i x
    → each_port f (drop i xs) rows ≡ f x (each_port f (drop (i + 1) xs) rows)
port-at f rows xs i x h is = at_drop_more (λ ys. each_port f ys rows) xs i x h ∙ ap (λ y. each_port f (y ∷ drop (i + 1) xs) rows) (sym is)

-- one more instance
pub more-phase : (phase : List (List (List Bit))) (x : List (List Bit)) → phase_in (phase ++ x ∷ []) ≡ phase_in phase ++ map row_in x ∷ []
more-phase phase x = map-append (λ rows. map row_in rows) phase (x ∷ [])

-- the rows at a place
pub rows-at : (phase : List (List (List Bit))) (i : ℕ) → map row_in (get_or phase i []) ≡ get_or (phase_in phase) i []
rows-at phase i = sym (get_or-map (λ rows. map row_in rows) phase i [])

pub ruleset instances = (more-rows, row-at, more-phase, rows-at)

pub ruleset items_in = (item-at)

pub ruleset joins_in = (join-at)

pub ruleset ports_in = (port-at)
