-- Worked runs: the flits that entered, that were delivered, and that are inside after each cycle.
use Rattle.std.proofs.Common.{◌≡◌, ℕ, ◌++◌, List, [], ◌∷◌, refl, true, false, length}
use Rattle.std.specs.Prelude.{Some, None, take}
use Rattle.noc_model.specs.declared.Flit.{Flit}
use Rattle.noc_model.specs.Run.{Input, start, run}
use Rattle.noc_model.specs.Flits.{inside, entered, delivered, delivered_to}
use Rattle.noc_model.specs.Holder.{holder_of}
use Rattle.noc_model.specs.Packets.{AreWholePackets, sent_on, entered_by}
use Rattle.noc_model.proofs.Everything.{everything}
use Rattle.noc_model.specs.Examples.{two_tiles, three_in_a_row, quiet_for, offered, alone}
use Rattle.noc_model.proofs.RunRows.{both_ends}

-- one word from tile 0 to tile 1
abbrev pub crossing : List Input
crossing = offered 0 (alone 0x100 0xa) ∷ quiet_for 11

abbrev word : Flit
word = record { head = true; tail = true; dest = 1; payload = 0xa }

-- it enters in cycle 0, is inside until cycle 9, and is delivered then
one_word_is_kept : (entered two_tiles 0 0 (start two_tiles) crossing) ∷ inside two_tiles 0 (run two_tiles 0 (take 1 crossing)) ∷ inside two_tiles 0 (run two_tiles 0 (take 6 crossing))
    ∷ inside two_tiles 0 (run two_tiles 0 (take 9 crossing)) ∷ inside two_tiles 0 (run two_tiles 0 (take 10 crossing))
    ∷ delivered_to two_tiles 0 0 (start two_tiles) (take 9 crossing) 1 ∷ delivered_to two_tiles 0 0 (start two_tiles) (take 10 crossing) 1 ∷ delivered_to two_tiles 0 0 (start two_tiles) crossing 0 ∷ []
    ≡ (word ∷ []) ∷ (word ∷ []) ∷ (word ∷ []) ∷ (word ∷ []) ∷ [] ∷ [] ∷ (word ∷ []) ∷ [] ∷ []
unfolding everything quiet_for
one_word_is_kept = refl

-- two packets of two words from both ends: four enter, and after ten cycles two are delivered and two inside
abbrev meeting : List Input
meeting = both_ends 0xa1 0xb1 false ∷ both_ends 0xa2 0xb2 true ∷ quiet_for 8

two_packets_are_kept : length (entered three_in_a_row 0 0 (start three_in_a_row) meeting)
    ∷ length (delivered three_in_a_row 0 0 (start three_in_a_row) meeting) ∷ length (inside three_in_a_row 0 (run three_in_a_row 0 meeting)) ∷ [] ≡ 4 ∷ 2 ∷ 2 ∷ []
unfolding everything quiet_for
two_packets_are_kept = refl

-- the local output of the tile between is held by the packet from tile 2, then by nobody, then by the one from tile 0
packets_hold_in_turn : holder_of three_in_a_row 0 (run three_in_a_row 0 (take 7 meeting) 1) 0 0 ∷ holder_of three_in_a_row 0 (run three_in_a_row 0 (take 8 meeting) 1) 0 0
    ∷ holder_of three_in_a_row 0 (run three_in_a_row 0 (take 9 meeting) 1) 0 0 ∷ holder_of three_in_a_row 0 (run three_in_a_row 0 (take 10 meeting) 1) 0 0 ∷ []
    ≡ Some 1 ∷ Some 1 ∷ None ∷ Some 2 ∷ []
unfolding everything quiet_for
packets_hold_in_turn = refl

-- the packets from both ends go out at the tile between one behind the other
payloads : List Flit → List ℕ
payloads [] = []
payloads (f ∷ fs) = f.payload ∷ payloads fs

packets_pass_whole : payloads (sent_on three_in_a_row 0 0 (start three_in_a_row) (meeting ++ quiet_for 4) 1 0 0) ∷ payloads (sent_on three_in_a_row 0 0 (start three_in_a_row) (meeting ++ quiet_for 4) 0 1 0)
    ∷ payloads (entered_by three_in_a_row 0 0 (start three_in_a_row) meeting 2 0) ∷ payloads (delivered_to three_in_a_row 0 0 (start three_in_a_row) (meeting ++ quiet_for 4) 1) ∷ []
    ≡ (0xb1 ∷ 0xb2 ∷ 0xa1 ∷ 0xa2 ∷ []) ∷ (0xa1 ∷ 0xa2 ∷ []) ∷ (0xb1 ∷ 0xb2 ∷ []) ∷ (0xb1 ∷ 0xb2 ∷ 0xa1 ∷ 0xa2 ∷ []) ∷ []
unfolding everything quiet_for payloads
packets_pass_whole = refl

-- a second head before the tail is no row of packets, and neither is a flit to another tile
two_heads_are_no_packets : AreWholePackets (record word { tail = false } ∷ word ∷ []) → ⊥
two_heads_are_no_packets h = let second = h.packets.1.0 in cc second

two_tiles_are_no_packet : AreWholePackets (record word { tail = false } ∷ record word { head = false; dest = 0 } ∷ [])
    → ⊥
two_tiles_are_no_packet h = let second = h.packets.1.0 in cc second
