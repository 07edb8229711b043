-- Worked latencies of lone words: the bounds of a route, and runs that meet them.
use Rattle.std.proofs.Common.{◌≡◌, ℕ, List, [], ◌∷◌, refl}
use Rattle.std.specs.Prelude.{codes}
use Rattle.noc_model.specs.Plan.{Plan}
use Rattle.noc_model.specs.Lone.{IsRoute, wraps, waits, least_latency, most_latency}
use Rattle.noc_model.specs.Examples.{named_from, alone_at, range, two_tiles, ring_of_four, cube, quiet, quiet_for, offered, alone}
use Rattle.noc_model.proofs.Everything.{everything}
use Rattle.noc_model.proofs.RunRows.{report_of}

-- the least latency, how often the word may wait, and the most
abbrev latency : Plan → ℕ → ℕ → List ℕ → List ℕ
latency p n dest ms = least_latency p ms ∷ waits p dest n ms ∷ most_latency p dest n ms ∷ []

route_of_a_word : IsRoute two_tiles 1 0 (1 ∷ [])
unfolding everything
route_of_a_word = (refl, refl)

latency_over_one_link : latency two_tiles 0 1 (1 ∷ []) ≡ 8 ∷ 1 ∷ 9 ∷ []
unfolding everything
latency_over_one_link = refl

-- in cycle 4 the word is ready, and the link is a's: it is got as early as it may be
word_is_as_early_as_the_bound : report_of two_tiles 0 (quiet ∷ offered 0 (alone 0x100 0xa) ∷ quiet_for 11)
    ≡ codes "domain a\n1 0 take 0000000a\n9 1 got 11 0000000a\nend 1 0 0 1\n"
unfolding everything quiet_for
word_is_as_early_as_the_bound = refl

-- three domains on a ring of four tiles
abbrev shared_ring : Plan
shared_ring = record ring_of_four {
  domains = named_from 97 (1 ∷ 1 ∷ 1 ∷ []);
  hosts = alone_at (1 ∷ 3 ∷ []);
  ranges = range 1 0x100 0x1ff ∷ [];
  slots = 0 ∷ 1 ∷ 2 ∷ [];
}

-- tile 3 and tile 1 are as far apart by plus, over the wrap link to tile 0
route_round_the_ring : IsRoute shared_ring 1 3 (0 ∷ 1 ∷ [])
unfolding everything
route_round_the_ring = (refl, (refl, refl))

latency_round_the_ring : wraps shared_ring 1 3 (0 ∷ 1 ∷ []) ∷ latency shared_ring 3 1 (0 ∷ 1 ∷ []) ≡ 1 ∷ 12 ∷ 2 ∷ 16 ∷ []
unfolding everything
latency_round_the_ring = refl

-- the word owns the wrap link as soon as it is ready, and waits behind it for the two other slots
word_waits_behind_the_wrap_link : report_of shared_ring 0 (offered 3 (alone 0x100 7) ∷ quiet_for 16)
    ≡ codes "domain a\n0 3 take 00000007\n14 1 got 11 00000007\nend 1 0 0 1\n"
unfolding everything quiet_for
word_waits_behind_the_wrap_link = refl

-- a cycle later it waits for the wrap link too: it is got as late as it may be
word_waits_at_both_links : report_of shared_ring 0 (quiet ∷ offered 3 (alone 0x100 7) ∷ quiet_for 18)
    ≡ codes "domain a\n1 3 take 00000007\n17 1 got 11 00000007\nend 1 0 0 1\n"
unfolding everything quiet_for
word_waits_at_both_links = refl

-- a dimension each, and a slot each time
latency_across_the_cube : latency (record cube { slots = 0 ∷ 0 ∷ 0 ∷ [] }) 0 7 (1 ∷ 3 ∷ 7 ∷ []) ≡ 16 ∷ 3 ∷ 22 ∷ []
unfolding everything
latency_across_the_cube = refl
