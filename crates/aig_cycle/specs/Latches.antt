-- The bits that an instance keeps, at the places that its code says.
use Rattle.std.specs.Prelude.{ℕ, ◌+◌, Bool, List, ◌++◌, flat_map, slice_index, slice_index_or, []}
use Rattle.vl_run.specs.declared.program.Register.{Register}
use Rattle.vl_run.specs.declared.program.Memory.{Memory}
use Rattle.vl_run.specs.State.{Part}
use Rattle.aig_model.specs.FormOf.{flipped_bits, words_from}

-- the bits of a register, complemented where its reset constant has a 1
abbrev pub register_row : List ℕ → List ℕ → Register → List Bool
register_row resets nets r = flipped_bits (slice_index nets r.place) (slice_index resets r.place) 0 (r.high + 1)

-- the bits of a memory, word by word
abbrev pub memory_row : List (List ℕ) → Memory → List Bool
memory_row rows m = words_from (λ j. slice_index (slice_index_or rows m.place []) j) m.high 0 (m.last + 1)

-- the bits of an instance: its registers, then its memories
abbrev pub part_bits : List ℕ → Part → List Bool
part_bits resets x = flat_map (register_row resets x.kept.nets) x.code.registers ++ flat_map (memory_row x.kept.memories) x.code.memories
