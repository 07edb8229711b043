-- The replay of a right text is the simulation.
use Rattle.std.proofs.Common.{sym, ◌≡◌, ℕ, zero, suc, ◌+◌, ◌^◌, ◌<◌, ◌≤◌, Bool, true, false, ◌&&◌, ◌==◌, List, [], ◌∷◌, map, drop, length, Ok, refl, ◌∙◌, ap, arith}
use Rattle.std.specs.Prelude.{Some, None, nat_le, nat_lt, if◌then◌else◌, slice_get, option_map, unwrap_or}
use Rattle.std.specs.List.{AllByRecursion, cons_option}
use Rattle.std.specs.Char.{digit_value}
use Rattle.std.specs.Str.Lines.{lines}
use Rattle.std.specs.Str.Parse.{AllDigits, digits_value}
use Rattle.std.proofs.lemmas.Bool.{and_parts}
use Rattle.std.proofs.lemmas.Bool.Decides.{nat_tests}
use Rattle.std.proofs.lemmas.Int.Digits.{digits_value-lt}
use Rattle.surf_base.specs.Numbers.{are_digits, is_hex, hex_in}
use Rattle.vl_tree.specs.declared.tree.Port.{Port}
use Rattle.vl_tree.specs.declared.fault.TextFault.TheVariants.{Ports}
use Rattle.vl_tree.specs.Values.{Design}
use Rattle.vl_model.proofs.Settling.{itself}
use Rattle.vl_model.proofs.Together.{all-join}
use Rattle.noc_model.specs.Plan.{Plan}
use Rattle.noc_model.specs.Run.{start}
use Rattle.noc_model.specs.Report.{report}
use Rattle.noc_model.specs.Sound.{IsSound}
use Rattle.noc_model.proofs.OwnAttachments.{driven_events-same}
use Rattle.trace_read.specs.declared.entries.Entry.{Entry}
use Rattle.trace_read.specs.declared.entries.Entry.TheVariants.{Send, Hold}
use Rattle.trace_read.specs.Restrict.{entry_attach, of_domain}
use Rattle.trace_read.specs.Text.{fields}
use Rattle.trace_read.specs.Entries.{field, is_skipped, is_send, word_of, number_of, attach_named, entry_of, entries}
use Rattle.tile_drive.specs.declared.scripts.Due.{Due}
use Rattle.tile_drive.specs.TraceDriver.{due_words, due_of, at_attach, due_in, offer_in, taken_in, trace_driver, untaken}
use Rattle.gen_kit.specs.Ports.{top_ports, same_way, same_port, difference, ports_fault}
use Rattle.gen_kit.specs.Right.{IsRightDesign, IsRightText}
use Rattle.surf_replay.specs.Feed.{IsSmallOffer}
use Rattle.right_design.specs.Alike.{OffersFit}
use Rattle.right_design.proofs.Driven.{replay-is-simulation}
use Rattle.surf_cli.specs.Simulate.{report_text, reports_text}
use Rattle.surf_cli.specs.Replay.{replayed_report, replayed_text}
use Rattle.surf_cli.specs.TextRead.{unless, judged_design, judged_text}
use Rattle.surf_cli.specs.Meaning.{Exactly, Does, with_judged, with_text, with_trace, if_sound}
use Rattle.surf_cli.specs.Laws.{ReplayIsSimulate, CommandsAgree}
use Rattle.surf_cli.proofs.Described.{described-sound}
use Rattle.surf_cli.proofs.Simulated.{alike}
use Rattle.surf_cli.proofs.TextReads.{read-spelled}
use Rattle.surf_cli.proofs.Texts.{texts-same}

-- ---- the words of a trace have 32 bits

digits-of : (bytes : List ℕ) → are_digits 16 bytes ≡ true → AllDigits 16 bytes
digits-of [] h = tt
digits-of (c ∷ cs) h =
    let parts = and_parts (nat_lt (digit_value c) 16) (are_digits 16 cs) h in
    let first : nat_lt (digit_value c) 16 ≡ true = parts.0 in
    (grind (arith, nat_tests), digits-of cs parts.1)

small-value : (bytes : List ℕ) → is_hex bytes ≡ true → digits_value 16 bytes < 2 ^ 32
small-value bytes h =
    let some = and_parts (nat_le 1 (length bytes)) (nat_le (length bytes) 8 && are_digits 16 bytes) h in
    let parts = and_parts (nat_le (length bytes) 8) (are_digits 16 bytes) some.1 in
    let short : nat_le (length bytes) 8 ≡ true = parts.0 in
    let few : length bytes ≤ 8 = grind (arith, nat_tests) in
    let below = digits_value-lt 16 bytes (digits-of bytes parts.1) in
    fits (length bytes) (digits_value 16 bytes) few below
  where
    fits : (k x : ℕ) → k ≤ 8 → x < 16 ^ k → x < 2 ^ 32
    fits zero x le less = omega (arith, less)
    fits (suc zero) x le less = omega (arith, less)
    fits (suc (suc zero)) x le less = omega (arith, less)
    fits (suc (suc (suc zero))) x le less = omega (arith, less)
    fits (suc (suc (suc (suc zero)))) x le less = omega (arith, less)
    fits (suc (suc (suc (suc (suc zero))))) x le less = omega (arith, less)
    fits (suc (suc (suc (suc (suc (suc zero)))))) x le less = omega (arith, less)
    fits (suc (suc (suc (suc (suc (suc (suc zero))))))) x le less = omega (arith, less)
    fits (suc (suc (suc (suc (suc (suc (suc (suc zero)))))))) x le less = omega (arith, less)
    fits (suc (suc (suc (suc (suc (suc (suc (suc (suc k))))))))) x le less = absurd (omega (arith, le))

small-word : (f : List ℕ) → word_of f < 2 ^ 32
unfolding hex_in
small-word f = go (is_hex f) refl
  where
    go : (b : Bool) → is_hex f ≡ b → unwrap_or (if b then Some (digits_value 16 f) else None) 0 < 2 ^ 32
    go true is = small-value f is
    go false other = omega arith

abbrev IsSmall : ℕ → Type 0
IsSmall x = x < 2 ^ 32

small-words : (fs : List (List ℕ)) → AllByRecursion IsSmall (map word_of fs)
small-words [] = tt
small-words (f ∷ fs) = (small-word f, small-words fs)

abbrev SmallEntry : Entry → Type 0
SmallEntry (Send cycle attach address words) = IsSmall address × AllByRecursion IsSmall words
SmallEntry (Hold cycle attach count) = Unit {0}

small-entry : (p : Plan) (fs : List (List ℕ)) → SmallEntry (entry_of p fs)
small-entry p fs = go (is_send fs)
  where
    go : (b : Bool) → SmallEntry (if b then Send (number_of (field fs 0)) (attach_named p (number_of (field fs 1)) (field fs 2)) (word_of (field fs 4)) (map word_of (drop 5 fs))
        else Hold (number_of (field fs 0)) (attach_named p (number_of (field fs 1)) (field fs 2)) (number_of (field fs 4)))
    go true = (small-word (field fs 4), small-words (drop 5 fs))
    go false = tt

small-entries : (p : Plan) (ls : List (List ℕ)) → AllByRecursion SmallEntry (entries p ls)
small-entries p [] = tt
small-entries p (l ∷ ls) = go (is_skipped (fields l)) (small-entries p ls)
  where
    go : (b : Bool) → AllByRecursion SmallEntry (entries p ls) → AllByRecursion SmallEntry (cons_option (if b then None else Some (entry_of p (fields l))) (entries p ls))
    go true rest = rest
    go false rest = (small-entry p (fields l), rest)

-- ---- and so have the offers of its driver

abbrev SmallDue : Due → Type 0
SmallDue due = IsSmall due.offer.address × IsSmall due.offer.payload

small-due : (cycle address : ℕ) (words : List ℕ) → IsSmall address → AllByRecursion IsSmall words → AllByRecursion SmallDue (due_words cycle address words)
small-due cycle address [] a all = tt
small-due cycle address (word ∷ more) a all = ((a, all.0), small-due cycle address more a all.1)

small-script : (es : List Entry) (j : ℕ) → AllByRecursion SmallEntry es → AllByRecursion SmallDue (due_in es j)
small-script [] j all = tt
small-script (e ∷ es) j all = all-join SmallDue (at_attach j e (due_of e)) (due_in es j) (go (entry_attach e == j)) (small-script es j all.1)
  where
    of-entry : (x : Entry) → SmallEntry x → AllByRecursion SmallDue (due_of x)
    of-entry (Send cycle attach address words) small = small-due cycle address words small.0 small.1
    of-entry (Hold cycle attach count) small = tt

    go : (b : Bool) → AllByRecursion SmallDue (if b then due_of e else [])
    go true = of-entry e all.0
    go false = tt

small-at : (xs : List Due) (i t : ℕ) → AllByRecursion SmallDue xs → IsSmallOffer (offer_in t (slice_get xs i))
small-at [] i t all = tt
small-at (x ∷ xs) zero t all = go (nat_le x.cycle t)
  where
    go : (b : Bool) → IsSmallOffer (if b then Some x.offer else None)
    go true = all.0
    go false = tt
small-at (x ∷ xs) (suc i) t all = small-at xs i t all.1

offers-fit : (p : Plan) (es : List Entry) → AllByRecursion SmallEntry es → OffersFit (trace_driver p es)
unfolding trace_driver
offers-fit p es all j t state = small-at (if nat_lt j (length p.hosts) then due_in es j else []) (taken_in state) t (go (nat_lt j (length p.hosts)))
  where
    go : (b : Bool) → AllByRecursion SmallDue (if b then due_in es j else [])
    go true = small-script es j all
    go false = tt

-- ---- reports

report-same : (p : Plan) (d : Design) (es : List Entry) (cycles k : ℕ) → IsSound p → IsRightDesign p d → AllByRecursion SmallEntry es → replayed_report p d es cycles k ≡ report_text p es cycles k
unfolding replayed_report report_text
report-same p d es cycles k sound right small =
    ap (report p k)
    (replay-is-simulation p d sound right (trace_driver p es) (offers-fit p es small) (λ j. untaken) cycles k
    ∙ driven_events-same p k (trace_driver p es) (trace_driver p (of_domain p k es)) cycles 0 (start p) (λ j. untaken) (λ j. untaken) (λ j own. alike p k j es own) (λ j own. refl))

reports-same : (p : Plan) (d : Design) (es : List Entry) (cycles : ℕ) → IsSound p → IsRightDesign p d → AllByRecursion SmallEntry es → replayed_text p d es cycles ≡ reports_text p es cycles
reports-same p d es cycles sound right small = texts-same (length p.domains) (replayed_report p d es cycles) (report_text p es cycles) (λ k less. report-same p d es cycles k sound right small)

-- ---- a right text is judged as its design

same-port-is : (q : Port) → same_port q q ≡ true
same-port-is q =
    let name = itself q.name in
    let high : (q.high == q.high) ≡ true = grind (arith, nat_tests) in
    rw (name, high) (way q.output)
  where
    way : (b : Bool) → same_way b b ≡ true
    way true = refl
    way false = refl

no-difference : (i : ℕ) (ps : List Port) → difference i ps ps ≡ None
no-difference i [] = refl
no-difference i (q ∷ ps) = let same = same-port-is q in rw same (no-difference (i + 1) ps)

no-ports-fault : (p : Plan) (d : Design) → d.top.ports ≡ top_ports p → ports_fault p d ≡ None
unfolding ports_fault
no-ports-fault p d e = ap (λ ps. option_map Ports (difference 0 ps (top_ports p))) e ∙ ap (option_map Ports) (no-difference 0 (top_ports p))

judged-right : (p : Plan) (text : List ℕ) (right : IsRightText p text) → judged_text p text ≡ Ok right.design
unfolding judged_text
judged-right p text right =
    ap (judged_design p) (read-spelled text right.design right.spelled)
    ∙ ap (λ f. unless f (unless (ports_fault p right.design) (Ok right.design))) right.right.sound.rules
    ∙ ap (λ f. unless f (Ok right.design)) (no-ports-fault p right.design right.right.shape.ports)

pub replay-is-simulate : ReplayIsSimulate
replay-is-simulate p text trace cycles sound right =
    ap (λ r. if_sound r (λ d. with_trace p trace (λ es. Does (Exactly (replayed_text p d es cycles))))) (judged-right p text right)
    ∙ ap (λ bytes. with_trace p trace (λ es. Does (Exactly bytes))) (reports-same p right.design (entries p (lines trace)) cycles sound right.right (small-entries p (lines trace)))

pub commands-agree : CommandsAgree
commands-agree p held cycles e right =
    ap (λ j. with_judged j (λ q. with_text q held.text (λ d. with_trace q held.trace (λ es. Does (Exactly (replayed_text q d es cycles)))))) e
    ∙ replay-is-simulate p held.text held.trace cycles (described-sound held.description p e) right
    ∙ sym (ap (λ j. with_judged j (λ q. with_trace q held.trace (λ es. Does (Exactly (reports_text q es cycles))))) e)
