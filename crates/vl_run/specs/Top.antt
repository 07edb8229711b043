-- The numbers of the top's input ports.
use Rattle.std.specs.Prelude.{ℕ, List, [], ◌∷◌, map, drop, slice_index, slice_set, if◌then◌else◌, bytes_eq}
use Rattle.vl_tree.specs.declared.tree.Port.{Port}
use Rattle.vl_tree.specs.Values.{Name}

-- the number of an input port, of those that are given for the input ports in order
abbrev pub inputs_of : List Port → List ℕ → Name → ℕ
inputs_of [] xs n = 0
inputs_of (p ∷ ps) xs n =
    if p.output then inputs_of ps xs n
    else if bytes_eq n p.name then slice_index xs 0
    else inputs_of ps (drop 1 xs) n

-- the top's nets with them, where the ports stand at these places
abbrev pub with_ports : List Port → List ℕ → List ℕ → List ℕ → List ℕ
with_ports [] places xs tops = tops
with_ports (p ∷ ps) places xs tops =
    if p.output then with_ports ps (drop 1 places) xs tops
    else with_ports ps (drop 1 places) (drop 1 xs) (slice_set tops (slice_index places 0) (slice_index xs 0))

-- the places of ports
abbrev pub places_of : (Name → ℕ) → List Port → List ℕ
places_of t ps = map (λ (p : Port). t p.name) ps
