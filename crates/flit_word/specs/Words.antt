-- The words of flits and of links, as bits.
use Rattle.std.specs.Prelude.{ℕ, zero, suc, ◌+◌, ◌*◌, ◌^◌, nat_le, max, List, [], ◌∷◌, Option, Some, None, if◌then◌else◌}
use Rattle.noc_model.specs.declared.Flit.{Flit}
use Rattle.noc_model.specs.declared.LinkFlit.{LinkFlit}
use Rattle.noc_model.specs.declared.plan.DomainPart.{DomainPart}
use Rattle.noc_model.specs.Plan.{Plan, tiles, classes}
use Rattle.noc_model.specs.Step.{one_if}

-- ---- widths

-- the least b from this one on with n at most two to b, of as many as are tried
abbrev pub bits_from : ℕ → ℕ → ℕ → ℕ
bits_from zero b n = b
bits_from (suc fuel) b n = if nat_le n (2 ^ b) then b else bits_from fuel (b + 1) n

-- the least b of at least 1 with n at most two to b
unfoldable pub bits : ℕ → ℕ
bits n = bits_from n 1 n

-- the bits of a tile's number
abbrev pub dest_bits : Plan → ℕ
dest_bits p = bits (tiles p)

-- the greatest number of channels that one of the domains has on a link, with so many classes
abbrev pub max_channels : ℕ → List DomainPart → ℕ
max_channels class_count [] = 0
max_channels class_count (x ∷ xs) = max (class_count * x.channels) (max_channels class_count xs)

-- the greatest number of channels of one domain on a link
abbrev pub max_link_channels : Plan → ℕ
max_link_channels p = max_channels (classes p) p.domains

-- the bits of a channel's number on a link
abbrev pub channel_bits : Plan → ℕ
channel_bits p = bits (max_link_channels p)

-- head, tail, destination, payload
abbrev pub flit_bits : Plan → ℕ
flit_bits p = 34 + dest_bits p

-- a bit 1, the channel, the flit
abbrev pub link_bits : Plan → ℕ
link_bits p = 1 + channel_bits p + flit_bits p

-- ---- words

-- the word that has one part above the bits of another
abbrev pub above : ℕ → ℕ → ℕ → ℕ
above high low_bits low = high * 2 ^ low_bits + low

-- the word of a flit, from the most significant bit: head, tail, destination, payload
abbrev pub flit_word : Plan → Flit → ℕ
flit_word p f = above (above (above (one_if f.head) 1 (one_if f.tail)) (dest_bits p) f.dest) 32 f.payload

-- the word of a link register: 0 where it is empty, else from the most significant bit a 1, the channel, the flit's
-- word
abbrev pub link_word : Plan → Option LinkFlit → ℕ
link_word p None = 0
link_word p (Some x) = above (above 1 (channel_bits p) x.channel) (flit_bits p) (flit_word p x.flit)
