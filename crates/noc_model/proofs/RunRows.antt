-- Worked runs: the report of one domain, computed from what it is offered.
use Rattle.std.proofs.Common.{◌≡◌, ℕ, List, [], ◌∷◌, refl, true, false, Bool}
use Rattle.std.specs.Prelude.{codes, Some, None, Option, ◌==◌, if◌then◌else◌, nat_le, drop}
use Rattle.noc_model.specs.Plan.{Plan}
use Rattle.noc_model.specs.Run.{Input, start}
use Rattle.noc_model.specs.Events.{events_from}
use Rattle.noc_model.specs.Report.{report}
use Rattle.noc_model.specs.Driver.{Driver, driven_events}
use Rattle.noc_model.specs.declared.Offer.{Offer}
use Rattle.noc_model.proofs.Everything.{everything}
use Rattle.noc_model.specs.Examples.{one_tile, two_tiles, three_in_a_row, ring_of_three, ring_of_four, five_in_a_row, split_domains, weighted_slots, quiet_for, offered, alone, deaf}

-- the report of domain d, which is offered this from cycle 0 on
abbrev pub report_of : Plan → ℕ → List Input → List ℕ
report_of p d xs = report p d (events_from p d 0 (start p) xs)

one_word_through_one_tile : report_of one_tile 0 (offered 0 (alone 0x10 0x2a) ∷ quiet_for 5)
    ≡ codes "domain a\n0 0 take 0000002a\n4 0 got 11 0000002a\nend 1 0 0 1\n"
unfolding everything quiet_for
one_word_through_one_tile = refl

no_cycle_has_no_event : report_of one_tile 0 [] ≡ codes "domain a\nend 0 0 0 0\n"
unfolding everything
no_cycle_has_no_event = refl

-- both words are ready in cycle 3, which b owns, and a has cycle 4
two_domains_share_a_link : report_of two_tiles 0 (offered 0 (alone 0x100 0xa) ∷ quiet_for 11) ∷ report_of two_tiles 1 (offered 0 (alone 0x100 0xb) ∷ quiet_for 11) ∷ []
    ≡ codes "domain a\n0 0 take 0000000a\n9 1 got 11 0000000a\nend 1 0 0 1\n"
    ∷ codes "domain b\n0 0 take 0000000b\n8 1 got 11 0000000b\nend 1 0 0 1\n" ∷ []
unfolding everything quiet_for
two_domains_share_a_link = refl

-- with two slots of three a goes a cycle earlier, and b two later
weights_shift_the_words : report_of weighted_slots 0 (offered 0 (alone 0x100 0xa) ∷ quiet_for 11) ∷ report_of weighted_slots 1 (offered 0 (alone 0x100 0xb) ∷ quiet_for 11) ∷ []
    ≡ codes "domain a\n0 0 take 0000000a\n8 1 got 11 0000000a\nend 1 0 0 1\n"
    ∷ codes "domain b\n0 0 take 0000000b\n10 1 got 11 0000000b\nend 1 0 0 1\n" ∷ []
unfolding everything quiet_for
weights_shift_the_words = refl

-- three words are offered in turn, and nobody hears up to cycle 9
abbrev held_back : List Input
held_back =
    deaf (offered 0 (alone 0x10 1))
    ∷ deaf (offered 0 (alone 0x10 2)) ∷ deaf (offered 0 (alone 0x10 2)) ∷ deaf (offered 0 (alone 0x10 2)) ∷ deaf (offered 0 (alone 0x10 2))
    ∷ deaf (offered 0 (alone 0x10 3)) ∷ deaf (offered 0 (alone 0x10 3)) ∷ deaf (offered 0 (alone 0x10 3)) ∷ deaf (offered 0 (alone 0x10 3)) ∷ deaf (offered 0 (alone 0x10 3))
    ∷ offered 0 (alone 0x10 3) ∷ offered 0 (alone 0x10 3) ∷ quiet_for 4

-- through buffers of one flit
deaf_attachment_holds_words_back : report_of (record one_tile { buffer = 1 }) 0
    held_back
    ≡ codes "domain a\n0 0 take 00000001\n1 0 wait 00000002\n2 0 wait 00000002\n3 0 wait 00000002\n4 0 take 00000002\n5 0 wait 00000003\n6 0 wait 00000003\n7 0 wait 00000003\n8 0 wait 00000003\n9 0 wait 00000003\n10 0 wait 00000003\n10 0 got 11 00000001\n11 0 take 00000003\n11 0 got 11 00000002\n15 0 got 11 00000003\nend 3 9 0 3\n"
unfolding everything quiet_for
deaf_attachment_holds_words_back = refl

address_of_no_range_drops_the_packet : report_of one_tile 0 (offered 0 (record { address = 0x99; payload = 1; last = false }) ∷ offered 0 (record { address = 0x99; payload = 2; last = true }) ∷ quiet_for 2)
    ≡ codes "domain a\n0 0 take 00000001\n1 0 take 00000002\n1 0 drop\n2 0 drop\nend 2 0 2 0\n"
unfolding everything quiet_for
address_of_no_range_drops_the_packet = refl

tile_of_another_domain_drops_the_packet : report_of split_domains 0 (offered 0 (alone 0x100 5) ∷ quiet_for 3)
    ≡ codes "domain a\n0 0 take 00000005\n1 0 drop\nend 1 0 1 0\n"
unfolding everything quiet_for
tile_of_another_domain_drops_the_packet = refl

word_over_a_wrap_link : report_of ring_of_three 0 (offered 2 (alone 0 9) ∷ quiet_for 9)
    ≡ codes "domain a\n0 2 take 00000009\n8 0 got 11 00000009\nend 1 0 0 1\n"
unfolding everything quiet_for
word_over_a_wrap_link = refl

tie_goes_by_plus : report_of ring_of_four 0 (offered 0 (alone 0x200 7) ∷ quiet_for 13)
    ≡ codes "domain a\n0 0 take 00000007\n12 2 got 11 00000007\nend 1 0 0 1\n"
unfolding everything quiet_for
tie_goes_by_plus = refl

-- tile 0 and tile 2 are offered words for the tile between them
abbrev pub both_ends : ℕ → ℕ → Bool → Input
both_ends a b last = record {
  offer = λ n. if n == 0 then Some (record { address = 0x100; payload = a; last = last })
      else (if n == 2 then Some (record { address = 0x100; payload = b; last = last }) else None);
  hears = λ n. true;
}

-- port 1 comes before port 2, and the tail frees the channel
packets_from_both_ends : report_of three_in_a_row 0 (both_ends 0xa1 0xb1 false ∷ both_ends 0xa2 0xb2 true ∷ quiet_for 12)
    ≡ codes "domain a\n0 0 take 000000a1\n0 2 take 000000b1\n1 0 take 000000a2\n1 2 take 000000b2\n8 1 got 10 000000b1\n9 1 got 01 000000b2\n11 1 got 10 000000a1\n12 1 got 01 000000a2\nend 4 0 0 4\n"
unfolding everything quiet_for
packets_from_both_ends = refl

-- the slots move along with a word, which waits at its first tile alone
words_ride_the_wave : report_of five_in_a_row 0 (offered 0 (alone 0x400 1) ∷ quiet_for 35) ∷ report_of five_in_a_row 1 (offered 4 (alone 0x0 2) ∷ quiet_for 35) ∷ report_of five_in_a_row 2 (offered 0 (alone 0x400 3) ∷ quiet_for 35) ∷ []
    ≡ codes "domain a\n0 0 take 00000001\n32 4 got 11 00000001\nend 1 0 0 1\n"
    ∷ codes "domain b\n0 4 take 00000002\n32 0 got 11 00000002\nend 1 0 0 1\n"
    ∷ codes "domain c\n0 0 take 00000003\n34 4 got 11 00000003\nend 1 0 0 1\n" ∷ []
unfolding everything quiet_for
words_ride_the_wave = refl

-- offers the words of its state in turn, and hears from cycle 10 on
abbrev patient : Driver
patient = record { offer = λ j words t. next_word words; hears = λ j words t. nat_le 10 t; taken = λ j words t. drop 1 words; got = λ j words t e. words }
  where
    next_word : List ℕ → Option Offer
    next_word [] = None
    next_word (w ∷ words) = Some (alone 0x10 w)

driver_gives_the_run_that_it_drives : driven_events (record one_tile { buffer = 1 }) 0 patient 16 0 (start (record one_tile { buffer = 1 })) (λ j. 1 ∷ 2 ∷ 3 ∷ [])
    ≡ events_from (record one_tile { buffer = 1 }) 0 0 (start (record one_tile { buffer = 1 })) held_back
unfolding everything quiet_for
driver_gives_the_run_that_it_drives = refl
