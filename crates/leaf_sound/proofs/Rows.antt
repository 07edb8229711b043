-- Worked rows of leaves, computed: the leaf of a small plan has the demands.
use Rattle.std.proofs.Common.{◌≡◌, true, [], length, refl}
use Rattle.std.specs.Prelude.{None}
use Rattle.vl_tree.specs.Grammar.{limit}
use Rattle.vl_tree.specs.Plain.{plain_leaf}
use Rattle.vl_model.specs.Lines.{leaf_lines, module_sites}
use Rattle.vl_model.specs.Rules.{rules, first_fault_of, name_twice, name_unknown, wrong_width, wrong_order, wrong_driver, goes_through, wrong_size, wrong_joins}
use Rattle.noc_model.specs.Examples.{one_tile, two_tiles, ring_of_three}
use Rattle.noc_model.proofs.Everything.{everything}
use Rattle.flit_word.specs.Words.{bits}
use Rattle.gen_kit.specs.OwnNames.{own_front}
use Rattle.leaf_tie.specs.Names.{leaf_module}

items_of_one_tile : length (leaf_module one_tile 0).items ≡ 90
unfolding everything
items_of_one_tile = refl

one_tile_is_plain : plain_leaf (leaf_module one_tile 0) ≡ true
unfolding everything limit bits own_front
one_tile_is_plain = refl

one_tile_breaks_no_rule : first_fault_of rules (module_sites [] (leaf_lines (leaf_module one_tile 0))) ≡ None
unfolding everything bits own_front name_twice name_unknown wrong_width wrong_order wrong_driver goes_through wrong_size wrong_joins
one_tile_breaks_no_rule = refl

-- with a link and two domains
two_tiles_break_no_rule : first_fault_of rules (module_sites [] (leaf_lines (leaf_module two_tiles 0))) ≡ None
unfolding everything bits own_front name_twice name_unknown wrong_width wrong_order wrong_driver goes_through wrong_size wrong_joins
two_tiles_break_no_rule = refl

-- with two channels at each link
ring_of_three_breaks_no_rule : first_fault_of rules (module_sites [] (leaf_lines (leaf_module ring_of_three 0))) ≡ None
unfolding everything bits own_front name_twice name_unknown wrong_width wrong_order wrong_driver goes_through wrong_size wrong_joins
ring_of_three_breaks_no_rule = refl
