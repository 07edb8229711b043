-- Small traces, computed.
use Rattle.std.proofs.Common.{◌≡◌, [], ◌∷◌, ◌++◌, Some, None, codes, refl}
use Rattle.std.specs.Prelude.{map}
use Rattle.surf_base.specs.Numbers.{decimal_in, hex_in}
use Rattle.noc_model.specs.Examples.{one_tile, two_tiles, split_domains}
use Rattle.trace_read.specs.declared.entries.Entry.TheVariants.{Send, Hold}
use Rattle.trace_read.specs.declared.fault.TraceFault.TheVariants.{Syntax, Number, TileRange, DomainUnknown, NotHosted, WordCount}
use Rattle.trace_read.specs.Text.{fields}
use Rattle.trace_read.specs.Accepted.{first_fault, trace_of}
use Rattle.trace_read.specs.Restrict.{of_domain}

-- each fault has a line that it is the least of
one_fault_each :
    map (first_fault one_tile)
    (codes "0 0 a send" ∷ codes "0 0 a send 10" ∷ codes "0 9 q hold 1" ∷ codes "0 0 q hold x" ∷ codes "0 0 q hold 1" ∷ [])
    ≡ Some (Syntax 1) ∷ Some (WordCount 1) ∷ Some (TileRange 1) ∷ Some (Number 1) ∷ Some (DomainUnknown 1) ∷ []
unfolding first_fault fields hex_in decimal_in
one_fault_each = refl

not_hosted : first_fault split_domains (codes "0 1 a hold 1") ≡ Some (NotHosted 1)
unfolding first_fault fields hex_in decimal_in
not_hosted = refl

comments_count_as_lines : first_fault one_tile (codes "# a comment\n0 0 a send\n") ≡ Some (Syntax 2)
unfolding first_fault fields hex_in decimal_in
comments_count_as_lines = refl

least_number_on_a_line : first_fault one_tile (codes "0 9 a send\n\n") ≡ Some (Syntax 1)
unfolding first_fault fields hex_in decimal_in
least_number_on_a_line = refl

spelling :
    map (first_fault one_tile)
    (codes "4294967296 0 a hold 1" ∷ codes "0 0 a hold 1 1" ∷ codes "0 0 a send 123456789 1" ∷ (codes "# " ++ 128 ∷ [])
    ∷ codes "0 0 a send 10 1\r\r\n" ∷ codes "0 0 a send 10 1\r" ∷ codes "00000000000 0 a hold 1" ∷ (11 ∷ []) ∷ [])
    ≡ Some (Number 1) ∷ Some (Syntax 1) ∷ Some (Number 1) ∷ None ∷ Some (Syntax 1) ∷ Some (Syntax 1) ∷ Some (Number 1) ∷ Some (Syntax 1) ∷ []
unfolding first_fault fields hex_in decimal_in
spelling = refl

comment_is_an_empty_trace : trace_of one_tile (codes "# " ++ 128 ∷ []) ≡ Some []
unfolding trace_of first_fault fields hex_in decimal_in
comment_is_an_empty_trace = refl

last_line_without_a_feed : trace_of one_tile (codes "0 0 a hold 10\r\n\t0 00  a send 00000010 2A ffffffff")
    ≡ Some (Hold 0 0 10 ∷ Send 0 0 16 (42 ∷ 4294967295 ∷ []) ∷ [])
unfolding trace_of first_fault fields hex_in decimal_in
last_line_without_a_feed = refl

two_domains_send : trace_of two_tiles (codes "0 0 a send 100 a\n0 0 b send 100 b\n0 1 b hold 3\n")
    ≡ Some (Send 0 0 256 (10 ∷ []) ∷ Send 0 1 256 (11 ∷ []) ∷ Hold 0 3 3 ∷ [])
unfolding trace_of first_fault fields hex_in decimal_in
two_domains_send = refl

one_domain_stays : of_domain two_tiles 1 (Send 0 0 256 (10 ∷ []) ∷ Send 0 1 256 (11 ∷ []) ∷ Hold 0 3 3 ∷ [])
    ≡ Send 0 1 256 (11 ∷ []) ∷ Hold 0 3 3 ∷ []
one_domain_stays = refl
