-- Worked plans: links, routes, classes, ranks, owners and counts, computed.
use Rattle.std.proofs.Common.{◌≡◌, ℕ, true, false, List, [], ◌∷◌, map, refl}
use Rattle.std.specs.Prelude.{Option, Some, None, pos, negsuc}
use Rattle.noc_model.specs.Plan.{Plan, places, lookup}
use Rattle.noc_model.specs.Place.{coords_in, coord, side, opposite, neighbour, is_wrap, route, class_after, rank, wave, owner}
use Rattle.noc_model.specs.Examples.{plain, named_from, two_tiles, split_domains, weighted_slots, ring_of_three, ring_of_four, cube}

-- the owners of the link by plus from tile 0, and by minus from tile 1
abbrev owners_at : Plan → ℕ → List ℕ
owners_at p t = owner p 0 1 (pos t) ∷ owner p 1 2 (pos t) ∷ []

two_domains_take_turns : owners_at (record two_tiles { stages = 2 }) 0 ∷ owners_at (record two_tiles { stages = 2 }) 1 ∷ [] ≡ (0 ∷ 1 ∷ []) ∷ (1 ∷ 0 ∷ []) ∷ []
unfolding coord side wave owner
two_domains_take_turns = refl

weighted_slots_go_round : owners_at weighted_slots 0 ∷ owners_at weighted_slots 1 ∷ owners_at weighted_slots 2 ∷ []
    ≡ (0 ∷ 0 ∷ []) ∷ (0 ∷ 1 ∷ []) ∷ (1 ∷ 0 ∷ []) ∷ []
unfolding coord side wave owner
weighted_slots_go_round = refl

-- the owners in the cycles before the first are those of a whole turn later
owners_before_the_start : owner weighted_slots 1 2 (negsuc 0) ∷ owner weighted_slots 1 2 (negsuc 1) ∷ owner weighted_slots 1 2 (negsuc 5) ∷ []
    ≡ owner weighted_slots 1 2 (pos 2) ∷ owner weighted_slots 1 2 (pos 1) ∷ owner weighted_slots 1 2 (pos 0) ∷ []
unfolding coord side wave owner
owners_before_the_start = refl

-- the neighbours by plus and minus of dimension 0, then of dimension 1
abbrev around : Plan → ℕ → List (Option ℕ)
around p n = map (neighbour p n) (0 ∷ 1 ∷ 2 ∷ 3 ∷ 4 ∷ [])

mesh_ends_at_its_edges : around (plain false (2 ∷ 3 ∷ [])) 0 ∷ around (plain false (2 ∷ 3 ∷ [])) 3 ∷ around (plain false (2 ∷ 3 ∷ [])) 5 ∷ []
    ≡ (None ∷ Some 1 ∷ None ∷ Some 2 ∷ None ∷ [])
    ∷ (None ∷ None ∷ Some 2 ∷ Some 5 ∷ Some 1 ∷ [])
    ∷ (None ∷ None ∷ Some 4 ∷ None ∷ Some 3 ∷ []) ∷ []
unfolding coord side neighbour
mesh_ends_at_its_edges = refl

torus_closes_each_ring : around (plain true (2 ∷ 3 ∷ [])) 0 ∷ around (plain true (2 ∷ 3 ∷ [])) 5 ∷ []
    ≡ (None ∷ Some 1 ∷ Some 1 ∷ Some 2 ∷ Some 4 ∷ [])
    ∷ (None ∷ Some 4 ∷ Some 4 ∷ Some 1 ∷ Some 3 ∷ []) ∷ []
unfolding coord side neighbour
torus_closes_each_ring = refl

side_of_one_has_no_link : around (plain true (1 ∷ 3 ∷ [])) 1 ≡ None ∷ None ∷ None ∷ Some 2 ∷ Some 0 ∷ []
unfolding coord side neighbour
side_of_one_has_no_link = refl

links_arrive_by_the_opposite_port : map opposite (1 ∷ 2 ∷ 3 ∷ 4 ∷ 5 ∷ 6 ∷ []) ≡ 2 ∷ 1 ∷ 4 ∷ 3 ∷ 6 ∷ 5 ∷ []
unfolding opposite
links_arrive_by_the_opposite_port = refl

wrap_links_of_a_ring : map (λ n. is_wrap ring_of_three n 1) (0 ∷ 1 ∷ 2 ∷ []) ≡ false ∷ false ∷ true ∷ []
unfolding coord side is_wrap
wrap_links_of_a_ring = refl

wrap_links_of_a_ring_by_minus : map (λ n. is_wrap ring_of_three n 2) (0 ∷ 1 ∷ 2 ∷ []) ≡ true ∷ false ∷ false ∷ []
unfolding coord side is_wrap
wrap_links_of_a_ring_by_minus = refl

ring_of_two_has_wrap_links_only : map (λ n. is_wrap (plain true (2 ∷ [])) n 1) (0 ∷ 1 ∷ []) ≡ true ∷ true ∷ []
unfolding coord side is_wrap
ring_of_two_has_wrap_links_only = refl

mesh_has_no_wrap_link : map (λ n. is_wrap (plain false (2 ∷ [])) n 1) (0 ∷ 1 ∷ []) ≡ false ∷ false ∷ []
unfolding coord side is_wrap
mesh_has_no_wrap_link = refl

corner_of_the_cube : coords_in cube.dims 7 ≡ 1 ∷ 1 ∷ 1 ∷ []
corner_of_the_cube = refl

routes_go_by_dimension : route cube 0 7 ∷ route cube 3 7 ∷ route cube 7 7 ∷ route cube 7 3 ∷ [] ≡ 1 ∷ 5 ∷ 0 ∷ 6 ∷ []
unfolding route
routes_go_by_dimension = refl

-- the tie goes by plus, and the wrap link begins class 1
routes_of_a_ring : map (λ n. route ring_of_four 0 n ∷ class_after ring_of_four 0 0 0 (route ring_of_four 0 n) ∷ []) (0 ∷ 1 ∷ 2 ∷ 3 ∷ [])
    ≡ (0 ∷ 0 ∷ []) ∷ (1 ∷ 0 ∷ []) ∷ (1 ∷ 0 ∷ []) ∷ (2 ∷ 1 ∷ []) ∷ []
unfolding coord side is_wrap route class_after
routes_of_a_ring = refl

-- class 1 is kept within a dimension, and left behind at a turn
class_ends_at_a_turn : class_after (plain true (3 ∷ 3 ∷ [])) 0 2 1 1 ∷ class_after (plain true (3 ∷ 3 ∷ [])) 0 2 1 3 ∷ [] ≡ 1 ∷ 0 ∷ []
unfolding coord side is_wrap class_after
class_ends_at_a_turn = refl

-- round the ring by plus: class 0 up to the edge, class 1 from the wrap link on
ranks_rise_round_a_ring : rank ring_of_four 2 1 0 ∷ rank ring_of_four 3 1 1 ∷ rank ring_of_four 0 1 1 ∷ [] ≡ 2 ∷ 16 ∷ 17 ∷ []
unfolding coord side rank
ranks_rise_round_a_ring = refl

ranks_rise_round_a_ring_by_minus : rank ring_of_four 1 2 0 ∷ rank ring_of_four 0 2 1 ∷ rank ring_of_four 3 2 1 ∷ [] ≡ 2 ∷ 16 ∷ 17 ∷ []
unfolding coord side rank
ranks_rise_round_a_ring_by_minus = refl

-- a port without a link has places too
places_count_every_port : places cube ∷ places (plain false (1 ∷ [])) ∷ [] ≡ 112 ∷ 6 ∷ []
places_count_every_port = refl

places_of_a_torus : places (record (plain true (8 ∷ 8 ∷ [])) { buffer = 4; domains = named_from 97 (2 ∷ 2 ∷ 2 ∷ 2 ∷ []) }) ≡ 20480
places_of_a_torus = refl

-- a hosting tile's address, an address of a tile that does not host the domain, and an address of no range
lookups_need_a_host : lookup split_domains 1 256 ∷ lookup split_domains 0 256 ∷ lookup split_domains 1 512 ∷ [] ≡ Some 1 ∷ None ∷ None ∷ []
lookups_need_a_host = refl
