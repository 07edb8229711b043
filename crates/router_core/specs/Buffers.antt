-- The input buffers of a tile.
use Rattle.std.specs.Prelude.{ℕ, List, [], map, replicate, length, slice_index_or, slice_set}
use Rattle.std.specs.List.{range_with_len}
use Rattle.noc_model.specs.declared.Flit.{Flit}
use Rattle.noc_model.specs.Plan.{Plan}
use Rattle.noc_model.specs.Inputs.{input_count}
use Rattle.flit_pool.specs.Lists.{Lists, list_at}

-- what stands for the buffers of a domain that isn't there
abbrev pub no_lists : Lists
no_lists = record { lists = []; depth = 0 }

-- the buffers of domain d
abbrev pub lists_at : List Lists → ℕ → Lists
lists_at xs d = slice_index_or xs d no_lists

-- the flits of domain d in the buffer of the input at place k
abbrev pub flits_at : List Lists → ℕ → ℕ → List Flit
flits_at xs d k = list_at (lists_at xs d) k

-- other flits there; all other buffers stay
abbrev pub with_flits : List Lists → ℕ → ℕ → List Flit → List Lists
with_flits xs d k fs =
    slice_set xs d (record (lists_at xs d) { lists = slice_set (lists_at xs d).lists k fs })

-- the buffers of domain d with nothing in them
abbrev pub empty_lists : Plan → ℕ → Lists
empty_lists p d = record { lists = replicate (input_count p d) []; depth = p.buffer }

-- and those of all domains
abbrev pub empty_buffers : Plan → List Lists
empty_buffers p = map (empty_lists p) (range_with_len 0 (length p.domains))
