-- Each example is sound.
use Rattle.std.proofs.Common.{refl}
use Rattle.noc_model.specs.Sound.{IsSound}
use Rattle.noc_model.specs.Examples.{one_tile, two_tiles, three_in_a_row, ring_of_three, ring_of_four, five_in_a_row, split_domains, weighted_slots, cube}
use Rattle.noc_model.proofs.Checked.{sound}

pub one_tile-sound : IsSound one_tile
one_tile-sound = sound one_tile refl refl

pub two_tiles-sound : IsSound two_tiles
two_tiles-sound = sound two_tiles refl refl

pub three_in_a_row-sound : IsSound three_in_a_row
three_in_a_row-sound = sound three_in_a_row refl refl

pub ring_of_three-sound : IsSound ring_of_three
ring_of_three-sound = sound ring_of_three refl refl

pub ring_of_four-sound : IsSound ring_of_four
ring_of_four-sound = sound ring_of_four refl refl

pub five_in_a_row-sound : IsSound five_in_a_row
five_in_a_row-sound = sound five_in_a_row refl refl

pub split_domains-sound : IsSound split_domains
split_domains-sound = sound split_domains refl refl

pub weighted_slots-sound : IsSound weighted_slots
weighted_slots-sound = sound weighted_slots refl refl

pub cube-sound : IsSound cube
cube-sound = sound cube refl refl
