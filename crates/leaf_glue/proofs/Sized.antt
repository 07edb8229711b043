-- The sizes of a leaf's buffers, and of its channel numbers.
use Rattle.std.proofs.Common.{◌≡◌, ℕ, zero, suc, ◌+◌, ◌-◌, ◌≤◌, ◌^◌, true, false, ap, ◌∙◌, arith}
use Rattle.std.specs.Prelude.{nat_le, if◌then◌else◌}
use Rattle.vl_tree.specs.Values.{Leaf}
use Rattle.vl_model.specs.Laws.{with_items}
use Rattle.flit_word.specs.Words.{bits, bits_from, channel_bits, max_link_channels}
use Rattle.gen_buffer.specs.declared.BufferSpec.{BufferSpec}
use Rattle.gen_buffer.specs.Buffer.{fifo_names, buffer_items}
use Rattle.gen_buffer.specs.Fifo.{FifoNames, fifo_items}
use Rattle.gen_buffer.specs.Sizes.{index_high, count_high}
use Rattle.noc_model.specs.Plan.{Plan}

pub buffer_is : (s : BufferSpec) (n : FifoNames) (depth wh : ℕ) (l a : Leaf) → fifo_names s ≡ n → s.depth ≡ depth → s.width ≡ wh + 1
    → a ≡ with_items l (buffer_items s) → a ≡ with_items l (fifo_items n (index_high depth) (count_high depth) wh)
buffer_is s n depth wh l a named deep wide is =
    let less : s.width - 1 ≡ wh = omega (arith, wide) in
    is ∙ ap (with_items l) (ap (λ m. fifo_items m (index_high s.depth) (count_high s.depth) (s.width - 1)) named
    ∙ (ap (λ k. fifo_items n (index_high k) (count_high k) (s.width - 1)) deep ∙ ap (fifo_items n (index_high depth) (count_high depth)) less))

from_one : (fuel b n : ℕ) → b ≤ bits_from fuel b n
from_one zero b n = omega arith
from_one (suc fuel) b n =
    elim (nat_le n (2 ^ b)) as (λ t. b ≤ (if t then b else bits_from fuel (b + 1) n)) [ true ↦ omega arith | false ↦ omega (arith, from_one fuel (b + 1) n) ]

pub some_channel_bits : (p : Plan) → 1 ≤ channel_bits p
unfolding bits
some_channel_bits p = from_one (max_link_channels p) 1 (max_link_channels p)
