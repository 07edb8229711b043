-- Sizes that are enough for every plan.
use Rattle.leaf_tie.specs.Buffers.{BufferSize}

-- sixteen words in a buffer, of seven route bits and a flit of eight destination bits
abbrev pub largest_size : BufferSize
largest_size = record { bh = 3; lh = 4; wh = 48 }
