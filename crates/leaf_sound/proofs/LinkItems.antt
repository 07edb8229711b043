-- The items of a domain are right: links, buffers and the attachment.
use Rattle.std.proofs.Common.{◌≡◌, ℕ, zero, suc, ◌+◌, ◌-◌, ◌*◌, ◌^◌, ◌<◌, ◌≤◌, Bool, true, false, List, [], ◌∷◌, length, refl, sym, ◌∙◌, ap, subst, arith, Some, is_some, ◌==◌, nat_lt, codes, if◌then◌else◌, pos, All}
use Rattle.std.proofs.lemmas.Bool.Decides.{nat_tests}
use Rattle.vl_tree.specs.declared.tree.Op.TheVariants.{And, Or, Add, Sub, Equal}
use Rattle.vl_tree.specs.Values.{Name, Expr, net, bit, two}
use Rattle.vl_model.specs.declared.kind.Kind.TheVariants.{Register}
use Rattle.vl_model.specs.Lines.{Line}
use Rattle.noc_model.specs.Plan.{Plan, tiles, ports, hosts, channels, link_channels}
use Rattle.noc_model.specs.Place.{neighbour, opposite}
use Rattle.noc_model.specs.Sound.{IsSound}
use Rattle.flit_word.specs.Words.{dest_bits, channel_bits, flit_bits}
use Rattle.gen_kit.specs.Families.{in_bits}
use Rattle.leaf_tie.specs.Tie.{HasLink}
use Rattle.leaf_tie.specs.Glue.{has_port, out_flit}
use Rattle.leaf_tie.specs.Names.{leaf_names, net_names, port_names, credit_base, leaf_sizes}
use Rattle.leaf_tie.proofs.Sized.{in_few}
use Rattle.leaf_sound.proofs.Ranked.{at}
use Rattle.leaf_sound.proofs.Inner.{few-channels, few-links, few-ports}
use Rattle.leaf_sound.proofs.Typed.{Net, Is, net-is, number-is, bit-is, part-is, not-is, two-is, choose-is, none-are, next-are, cat-is, deeper, wide-as, if-is, or-is, less-true}
use Rattle.leaf_sound.proofs.Walk.{May, Any}
use Rattle.leaf_sound.proofs.Domain as facts
use Rattle.leaf_sound.proofs.Domain.{Wire, ls, by-register, by-rank, reg-in, wire-in}
use Rattle.leaf_sound.proofs.Items.{Good, GoodNets, good-nil, nets-nil, net-next, assign-next, reg-next, wire-next, clocked-next, good-join, nets-join}
use Rattle.leaf_sound.proofs.SharedItems.{pow-pos, two-more}
use Rattle.leaf_tie.specs.Slots.{arriving_slot}
use Rattle.leaf_tie.specs.Counts.{credit_group}
use Rattle.leaf_tie.specs.Glue.{word_group, pulse_group}
use Rattle.noc_model.specs.Place.{way_of}
use Rattle.leaf_tie.proofs.Grouped.{uses-arriving}
use Rattle.leaf_tie.proofs.Started.{slot-below}
use Rattle.leaf_sound.proofs.Bits.{sizes-meet, bits-some}
use Rattle.leaf_sound.proofs.Shared as shared
use Rattle.leaf_sound.proofs.SwitchItems as switched
use Rattle.leaf_sound.proofs.SharedItems.{input-may}
use Rattle.vl_tree.specs.Values.{word, store}
use Rattle.vl_tree.specs.declared.tree.Op.TheVariants.{Less}
use Rattle.vl_model.specs.Lines.{lookup, kind_passes, is_memory, word_bits, word_count, widths}
use Rattle.vl_model.specs.Rules.{is_kind, is_size}
use Rattle.vl_tree.specs.Plain.{plain_number}
use Rattle.noc_model.specs.declared.Range.{Range}
use Rattle.noc_model.specs.declared.plan.DomainPart.{DomainPart}
use Rattle.noc_model.specs.Plan.{classes, channels_in, all_link_channels}
use Rattle.noc_model.specs.Place.{route}
use Rattle.std.proofs.Common.{slice_get, nat_le, ◌-ℤ◌, filter}
use Rattle.std.specs.List.{AllByRecursion}
use Rattle.noc_model.specs.Sound.{IsRangeIn}
use Rattle.leaf_sound.proofs.Inner.{few-ranges}
use Rattle.std.proofs.lemmas.List.Sums.{sum_by-cons}
use Rattle.gen_kit.specs.Ports.{name_with}
use Rattle.gen_kit.specs.Shape.{credit_bits}
use Rattle.gen_buffer.specs.Fifo.{fifo_moves, fifo_nets}
use Rattle.leaf_tie.specs.Attach.{attach_group, enter_at, in_range, not_above, look_nets, looked, reach, room_expr, entry_word}
use Rattle.leaf_tie.specs.Buffers.{buffer_group}
use Rattle.leaf_tie.specs.Glue.{eject_group, link_push, pop_of, attach_names, attach_size, current_high}
use Rattle.leaf_sound.proofs.Bits.{index-few, count-enough}
use Rattle.leaf_sound.proofs.Items.{head-assign}
use Rattle.leaf_sound.proofs.SharedItems.{table-is, route-below}

-- ---- credits

pub sum_to : ℕ → List DomainPart → ℕ → ℕ
sum_to k xs zero = 0
sum_to k xs (suc d) = sum_to k xs d + k * channels_in (slice_get xs d)

pub unfolding-sum : (p : Plan) (d : ℕ) → credit_base p d ≡ sum_to (classes p) p.domains d
unfolding sum_to
unfolding-sum p zero = refl
unfolding-sum p (suc d) = ap (λ s. s + link_channels p d) (unfolding-sum p d)

sum-first : (k : ℕ) (x : DomainPart) (xs : List DomainPart) (d : ℕ) → sum_to k (x ∷ xs) (suc d) ≡ k * x.channels + sum_to k xs d
unfolding sum_to
sum-first k x xs zero = omega arith
sum-first k x xs (suc d) = ap (λ s. s + k * channels_in (slice_get xs d)) (sum-first k x xs d) ∙ omega arith

sum-none : (k d : ℕ) → sum_to k [] d ≡ 0
unfolding sum_to
sum-none k zero = refl
sum-none k (suc d) = let rest = sum-none k d in omega (arith, rest)

sum-most : (k : ℕ) (xs : List DomainPart) (d : ℕ) → sum_to k xs d ≤ all_link_channels k xs
unfolding sum_to
sum-most k xs zero = omega arith
sum-most k [] (suc d) = let none = sum-none k (suc d) in omega (arith, none)
sum-most k (x ∷ xs) (suc d) = let first = sum-first k x xs d in let rest = sum-most k xs d in let split = sum_by-cons (λ (y : DomainPart). k * y.channels) x xs in omega (arith, first, rest, split)

pub sum-all : (k : ℕ) (xs : List DomainPart) → sum_to k xs (length xs) ≡ all_link_channels k xs
unfolding sum_to
sum-all k [] = refl
sum-all k (x ∷ xs) = sum-first k x xs (length xs) ∙ rw (sum-all k xs) (sym (sum_by-cons (λ (y : DomainPart). k * y.channels) x xs))

pub credit-below : (p : Plan) (d x : ℕ) → x < link_channels p d → credit_base p d + x < credit_bits p
credit-below p d x less = let is = unfolding-sum p (suc d) in let most = sum-most (classes p) p.domains (suc d) in omega (arith, is, most, less)

-- ---- memories

-- a memory of a power of two
mem-size : (b : ℕ) → b ≤ 3 → (is_size (2 ^ (b + 1) - 1 + 1) ≡ true) × (plain_number (2 ^ (b + 1) - 1) ≡ true)
mem-size zero le = (refl, refl)
mem-size (suc zero) le = (refl, refl)
mem-size (suc (suc zero)) le = (refl, refl)
mem-size (suc (suc (suc zero))) le = (refl, refl)
mem-size (suc (suc (suc (suc b)))) le = absurd (omega arith)

module _ (p : Plan) (n : ℕ) (sound : IsSound p) (inside : n < tiles p) (d : ℕ) (there : d < length p.domains) where
  abbrev lines : List Line
  lines = ls p n sound inside

  some-links : (1 ≤ link_channels p d) × (link_channels p d ≤ 8)
  some-links = few-links p d sound there

  few-p : ports p ≤ 7
  few-p = few-ports p sound

  few-dest : dest_bits p ≤ 8
  few-dest = facts.few-dests p n sound inside

  some-dest : 1 ≤ dest_bits p
  some-dest = bits-some (tiles p)

  few-l : (leaf_sizes p).lh < 64
  few-l = facts.few-count p n sound inside d there

  channels-fit : link_channels p d ≤ 2 ^ channel_bits p
  channels-fit = (sizes-meet p sound).channels d

  some-channel : 1 ≤ channel_bits p
  some-channel = (sizes-meet p sound).some_channel

  -- ---- credits and words

  module _ (o : ℕ) (link : HasLink p n o) where
    credit-bit-is : (P : Name → Type 0) → ((m : Name) → P m) → (x : ℕ) → x < link_channels p d → Is lines P (bit ((port_names n).credit_in o (credit_base p d + x)) ((port_names n).credit_bit (credit_base p d + x))) 1 1
    credit-bit-is P may x less = go (nat_lt (credit_base p d + x) 64) refl
      where
        below : credit_base p d + x < credit_bits p
        below = credit-below p d x less

        go : (b : Bool) → nat_lt (credit_base p d + x) 64 ≡ b → Is lines P (bit (if b then name_with (codes "ci") (n ∷ o ∷ []) else name_with (codes "ci") (n ∷ o ∷ 1 ∷ [])) (if b then credit_base p d + x else credit_base p d + x - 64)) 1 1
        go true e = let low : credit_base p d + x < 64 = grind (arith, nat_tests, e) in let b = below in bit-is lines P (credit_base p d + x) (shared.first-credits p n sound inside o link).its (may (name_with (codes "ci") (n ∷ o ∷ []))) (omega (arith, low, b))
        go false e =
            let high : 64 ≤ credit_base p d + x = grind (arith, nat_tests, e) in
            let b = below in
            let two : nat_lt 64 (credit_bits p) ≡ true = grind (arith, nat_tests, high, b) in
            bit-is lines P (credit_base p d + x - 64) (shared.second-credits p n sound inside o link two).its (may (name_with (codes "ci") (n ∷ o ∷ 1 ∷ []))) (omega (arith, high, b))

    pub credit-good : (x : ℕ) (less : x < link_channels p d) → Good lines (credit_group (leaf_names.credits d o x) (bit ((port_names n).credit_in o (credit_base p d + x)) ((port_names n).credit_bit (credit_base p d + x))) (net (net_names.on d o x)) (leaf_sizes p).lh p.buffer).moves
    credit-good x less =
        let c = facts.credits p n sound inside d there o link x less in
        let few = few-l in
        let on = net-is lines (Any lines) (facts.on p n sound inside d there o link x less).its tt in
        let count = net-is lines (Any lines) c tt in
        let one = number-is lines (Any lines) ((leaf_sizes p).lh + 1) 1 (omega arith) (omega (arith, few)) (two-more (leaf_sizes p).lh) in
        clocked-next lines c
        (choose-is lines (Any lines) (deeper lines (Any lines) 3 (omega arith) (credit-bit-is (Any lines) (λ m. tt) x less))
        (choose-is lines (Any lines) (deeper lines (Any lines) 2 (omega arith) on) (deeper lines (Any lines) 2 (omega arith) count) (two-is lines (Any lines) Add count one))
        (choose-is lines (Any lines) (deeper lines (Any lines) 2 (omega arith) on) (two-is lines (Any lines) Sub count one) (deeper lines (Any lines) 2 (omega arith) count)))
        (omega arith) refl (count-enough p.buffer sound.buffer.1) (good-nil lines)

    pub pulse-good : Good lines (pulse_group p leaf_names net_names d o).moves
    pulse-good = clocked-next lines (facts.pulse p n sound inside d there o link) (part-is lines (Any lines) (o *
        (link_channels p d - 1 + 1) + (link_channels p d - 1)) (o * (link_channels p d - 1 + 1))
        (link_channels p d - 1 + 1) (facts.leaves p n sound inside d there).its tt (omega arith)
        (switched.part-inside p n sound inside d there o (let less = link.0 in omega (arith, less))) (omega arith))
        (omega arith) refl (pow-pos (link_channels p d - 1 + 1)) (good-nil lines)

  -- the flit that goes by an output
  out-flit-is : (t : Name) (h r o : ℕ) → Wire lines t h r → at d 9 0 ≤ r → o < ports p → has_port p n d o ≡ true
      → Is lines (May lines t) (out_flit p n leaf_names net_names (dest_bits p) d o) (34 + dest_bits p) 8
  out-flit-is t h r o x far low has =
      let few = few-p in
      let dests = few-dest in
      deeper lines (May lines t) 8 (omega (arith, few))
      (or-is lines (May lines t) (ports p - 1) (34 + dest_bits p) 2 (λ port le.
      let v = facts.choice-winner p n sound inside d there o (omega (arith, low)) (λ one. has) in
      choose-is lines (May lines t) (bit-is lines (May lines t) port v.its (by-rank lines t (leaf_names.switch d o).winner r (at d 5 o + 3 + 1) x v.at_rank (omega (arith, far, few, low))) le)
      (flit-of port (has_port p n d port) refl (omega arith))
      (number-is lines (May lines t) (34 + dest_bits p) 0 (omega arith) (omega (arith, dests)) (pow-pos (34 + dest_bits p)))))
    where
      flit-of : (port : ℕ) (b : Bool) → has_port p n d port ≡ b → port < ports p → Is lines (May lines t) (if b then net (net_names.flit d port) else in_bits (34 + dest_bits p) 0) (34 + dest_bits p) 1
      flit-of port true e below = let few = few-p in wide-as lines (May lines t) (let e : 33 + dest_bits p + 1 ≡ 34 + dest_bits p = omega arith in e) (wire-in lines x (facts.flit p n sound inside d there port below e) (omega (arith, far, few, below)))
      flit-of port false e below = let dests = few-dest in number-is lines (May lines t) (34 + dest_bits p) 0 (omega arith) (omega (arith, dests)) (pow-pos (34 + dest_bits p))

  pub word-good : (o : ℕ) (link : HasLink p n (suc o)) → GoodNets lines (word_group p n leaf_names net_names (dest_bits p) (flit_bits p) (channel_bits p) d (suc o)).nets
  word-good o link =
      let t = facts.word p n sound inside d there (suc o) link in
      let P = May lines (net_names.word d (suc o)) in
      let most = some-links in let low_links = most.0 in let high_links = most.1 in
      let few = facts.few-word p n sound inside d there in
      let fits = channels-fit in
      let cb = some-channel in
      let on : (k : ℕ) → k ≤ link_channels p d - 1 → Is lines (May lines (net_names.word d (suc o))) (net (net_names.on d (suc o) k)) 1 1 = λ k le. wire-in lines t (facts.on p n sound inside d there (suc o) link k (omega (arith, low_links, le))) (omega (arith, high_links, low_links, le)) in
      net-next lines t
      (wide-as lines P (let e : 1 + (channel_bits p + (34 + dest_bits p + 0)) ≡ channel_bits p + flit_bits p + 1 = omega arith in e)
      (cat-is lines P (next-are lines P (deeper lines P 16 (omega (arith, high_links)) (or-is lines P (link_channels p d - 1) 1 1 on))
      (next-are lines P (deeper lines P 16 (omega (arith, high_links)) (or-is lines P (link_channels p d - 1) (channel_bits p) 2 (λ k le. choose-is lines P (on k le) (number-is lines P (channel_bits p) k cb (omega (arith, few)) (omega (arith, fits, low_links, le))) (number-is lines P (channel_bits p) 0 cb (omega (arith, few)) (pow-pos (channel_bits p))))))
      (next-are lines P (deeper lines P 16 (omega arith) (out-flit-is (net_names.word d (suc o))
      (channel_bits p + flit_bits p) (at d 9 (suc o) + 8 + 1) (suc o) t (omega arith) link.0 link.1))
      (none-are lines P 16)))) (omega arith) (omega (arith, few))))
      (omega arith) (nets-nil lines)

  -- ---- buffers

  pop-is : (t : Name) (r port c : ℕ) → Wire lines t 0 r → at d 7 0 + 1 < r → port < ports p → c < link_channels p d → Is lines (May lines t) (pop_of p net_names d port c) 1 1
  pop-is t r port c x far low less = switched.leaves-place-is p n sound inside d there port c x far low less

  pub link-buffer-nets : (port m c : ℕ) → suc port < ports p → neighbour p n (suc port) ≡ Some m → c < link_channels p d
      → GoodNets lines (buffer_group (leaf_names.buffer d (suc port) c) (leaf_sizes p) (link_push p leaf_names (port_names n) (flit_bits p) (channel_bits p) d (suc port) m c) (pop_of p net_names d (suc port) c)).nets
  link-buffer-nets port m c low e less =
      let link : HasLink p n (suc port) = (low, ap is_some e) in
      let b = facts.buffer p n sound inside d there (suc port) c low (ap is_some e) less in
      let some = sound.slot_count.0 in
      let most = sound.slot_count.1 in
      let domains = sound.domains.1 in
      let below = slot-below p m (pos 0 -ℤ pos p.stages) (way_of (opposite (suc port))) some in
      let owns = shared.owns p n sound inside (arriving_slot p m (opposite (suc port))) (slot-below p m (pos 0 -ℤ pos p.stages) (way_of (opposite (suc port))) some) (uses-arriving p n (suc port) m e) d there in
      let l = shared.link-in p n sound inside (suc port) link in
      let P = May lines (leaf_names.buffer d (suc port) c).push in
      let may = input-may lines (leaf_names.buffer d (suc port) c).push ((port_names n).link_in (suc port)) b.push l (omega arith) in
      let cb = some-channel in
      let fits = channels-fit in
      let few = facts.few-word p n sound inside d there in
      assign-next lines b.push (two-is lines P And (deeper lines P 3 (omega arith) (net-is lines P owns.its (by-rank lines (leaf_names.buffer d (suc port) c).push ((leaf_names.slot (arriving_slot p m (opposite (suc port)))).owns d) (at d 10 (suc port) + 2 * c + 1) (2048 * (1024 + arriving_slot p m (opposite (suc port))) + d + 1) b.push owns.at_rank (omega (arith, below, most, domains, there)))))
      (two-is lines P And (deeper lines P 2 (omega arith) (bit-is lines P (channel_bits p + flit_bits p) l.its may (omega arith)))
      (two-is lines P Equal (part-is lines P (channel_bits p + flit_bits p - 1) (flit_bits p) (channel_bits p) l.its may (omega (arith, cb)) (omega (arith, cb)) (omega (arith, cb))) (number-is lines P (channel_bits p) c cb (omega (arith, few)) (omega (arith, fits, less)))))) (omega arith)
      (assign-next lines b.pop (pop-is (leaf_names.buffer d (suc port) c).pop (at d 10 (suc port) + (2 * c + 1) + 1) (suc port) c b.pop (omega arith) low less) (omega arith) (nets-nil lines))

  -- what a buffer declares and how it moves, for any word
  buffer-heads : (port c : ℕ) → facts.Buffer p n sound inside d there port c → (push pop : Expr) {r : ℕ} → Wire lines (leaf_names.buffer d port c).word (leaf_sizes p).wh r → Good lines (buffer_group (leaf_names.buffer d port c) (leaf_sizes p) push pop).heads
  buffer-heads port c b push pop {r} word_net =
      let few_words = facts.few-words p n sound inside d there in
      let few_index = facts.few-index p n sound inside d there in
      let few = few-l in
      let size = mem-size (leaf_sizes p).bh (index-few p.buffer) in
      let push_net = net-is lines (Any lines) b.push.its tt in
      let pop_net = net-is lines (Any lines) b.pop.its tt in
      let count = net-is lines (Any lines) b.count tt in
      let one = number-is lines (Any lines) ((leaf_sizes p).lh + 1) 1 (omega arith) (omega (arith, few)) (two-more (leaf_sizes p).lh) in
      let step = number-is lines (Any lines) ((leaf_sizes p).bh + 1) 1 (omega arith) (omega (arith, few_index)) (two-more (leaf_sizes p).bh) in
      let read = net-is lines (Any lines) b.read tt in
      let write = net-is lines (Any lines) b.write tt in
      let value = net-is lines (Any lines) word_net.its tt in
      let words : 2 ^ ((leaf_sizes p).bh + 1) ≡ word_count (lookup lines (leaf_names.buffer d port c).memory) = (let some = pow-pos ((leaf_sizes p).bh + 1) in let e : 2 ^ ((leaf_sizes p).bh + 1) ≡ 2 ^ ((leaf_sizes p).bh + 1) - 1 + 1 = omega (arith, some) in e) ∙ sym (ap word_count b.memory) in
      let known : is_kind is_memory lines (leaf_names.buffer d port c).memory ≡ true = ap (kind_passes is_memory) b.memory in
      let word_wide : (widths lines).word (leaf_names.buffer d port c).memory ≡ (leaf_sizes p).wh + 1 = ap word_bits b.memory in
      let front : Is lines (May lines (leaf_names.buffer d port c).front) (word (leaf_names.buffer d port c).memory (net (leaf_names.buffer d port c).read)) ((leaf_sizes p).wh + 1) 2 =
      (let inner = reg-in lines (leaf_names.buffer d port c).front b.read in record {
        width = word_wide;
        agree = refl;
        some = omega arith;
        few = omega (arith, few_words);
        plain = λ m le. rw (less-true 0 m (omega arith), b.memory_plain, inner.plain (m - 1) (omega arith)) refl;
        reads = inner.reads;
        uses = (record { memory = known; index = ap (λ k. 2 ^ k) inner.width ∙ words; read = inner.reads; plain_index = refl }, tt);
      }) in
      let empty = two-is lines (May lines (leaf_names.buffer d port c).empty) Equal (reg-in lines (leaf_names.buffer d port c).empty b.count) (number-is lines (May lines (leaf_names.buffer d port c).empty) ((leaf_sizes p).lh + 1) 0 (omega arith) (omega (arith, few)) (pow-pos ((leaf_sizes p).lh + 1))) in
      let stored : Good lines (store (net (leaf_names.buffer d port c).push) (leaf_names.buffer d port c).memory (net (leaf_names.buffer d port c).write) (net (leaf_names.buffer d port c).word) ∷ []) =
      record {
        all = (
          record {
            j = (leaf_sizes p).bh + 1;
            k = (leaf_sizes p).wh + 1;
            enable = deeper lines (Any lines) 200 (omega arith) push_net;
            index = deeper lines (Any lines) 200 (omega arith) write;
            value = deeper lines (Any lines) 200 (omega arith) value;
            word = word_wide;
            memory = known;
            count = words;
            plain = b.memory_plain;
            no_use = refl;
          },
          tt,
        );
      } in
      let moved : Good lines (fifo_moves (leaf_names.buffer d port c) (leaf_sizes p).bh (leaf_sizes p).lh) =
      clocked-next lines b.read (choose-is lines (Any lines) (deeper lines (Any lines) 2 (omega arith) pop_net) (two-is lines (Any lines) Add read step) (deeper lines (Any lines) 2 (omega arith) read)) (omega arith) refl (pow-pos ((leaf_sizes p).bh + 1))
      (clocked-next lines b.write (choose-is lines (Any lines) (deeper lines (Any lines) 2 (omega arith) push_net) (two-is lines (Any lines) Add write step) (deeper lines (Any lines) 2 (omega arith) write)) (omega arith) refl (pow-pos ((leaf_sizes p).bh + 1))
      (clocked-next lines b.count (choose-is lines (Any lines) (deeper lines (Any lines) 3 (omega arith) push_net)
      (choose-is lines (Any lines) (deeper lines (Any lines) 2 (omega arith) pop_net) (deeper lines (Any lines) 2 (omega arith) count) (two-is lines (Any lines) Add count one))
      (choose-is lines (Any lines) (deeper lines (Any lines) 2 (omega arith) pop_net) (two-is lines (Any lines) Sub count one) (deeper lines (Any lines) 2 (omega arith) count))) (omega arith) refl (pow-pos ((leaf_sizes p).lh + 1)) stored)) in
      let shown : Good lines (fifo_nets (leaf_names.buffer d port c) (leaf_sizes p).lh (leaf_sizes p).wh) =
      wire-next lines b.front (head-assign lines b.front front (omega arith) (wire-next lines b.empty (head-assign lines b.empty empty (omega arith) (good-nil lines)))) in
      wire-next lines b.push (wire-next lines b.pop
      (record { all = ((few_words, b.memory_plain, size.0, size.1), (reg-next lines b.read (reg-next lines b.write (reg-next lines b.count (good-join lines shown moved)))).all) }))

  pub link-buffer-heads : (port m c : ℕ) → suc port < ports p → neighbour p n (suc port) ≡ Some m → c < link_channels p d
      → Good lines (buffer_group (leaf_names.buffer d (suc port) c) (leaf_sizes p) (link_push p leaf_names (port_names n) (flit_bits p) (channel_bits p) d (suc port) m c) (pop_of p net_names d (suc port) c)).heads
  link-buffer-heads port m c low e less =
      buffer-heads (suc port) c (facts.buffer p n sound inside d there (suc port) c low (ap is_some e) less) (link_push p leaf_names (port_names n) (flit_bits p) (channel_bits p) d (suc port) m c) (pop_of p net_names d (suc port) c) (shared.stored p n sound inside (suc port) (low, ap is_some e))

  -- ---- the attachment

  module _ (host : hosts p n d ≡ true) where
    some-ports : 0 < ports p
    some-ports = omega arith

    pub local-buffer-heads : (c : ℕ) → c < channels p d → Good lines (buffer_group (leaf_names.buffer d 0 c) (leaf_sizes p) (enter_at (attach_names leaf_names net_names d) (attach_size p (leaf_sizes p) (dest_bits p) d) c) (pop_of p net_names d 0 c)).heads
    local-buffer-heads c less =
        buffer-heads 0 c (facts.buffer p n sound inside d there 0 c (omega arith) host less) (enter_at (attach_names leaf_names net_names d) (attach_size p (leaf_sizes p) (dest_bits p) d) c) (pop_of p net_names d 0 c) (facts.local-word p n sound inside d there host)

    -- channels are numbers of the current channel's bits
    current-fits : channels p d ≤ 2 ^ (current_high (channels p d) + 1)
    current-fits = go (nat_le (channels p d) 2) refl
      where
        go : (b : Bool) → nat_le (channels p d) 2 ≡ b → channels p d ≤ 2 ^ ((if b then 0 else 1) + 1)
        go true e = let le : channels p d ≤ 2 = grind (arith, nat_tests, e) in omega arith
        go false e = let few = (few-channels p d sound there).1 in omega (arith, few)

    few-current : current_high (channels p d) < 64
    few-current = facts.few-current p n sound inside d there host

    current-equal : (P : Name → Type 0) → P (leaf_names.current d) → (k : ℕ) → k < channels p d → Is lines P (two Equal (net (leaf_names.current d)) (in_bits (current_high (channels p d) + 1) k)) 1 2
    current-equal P may k less =
        let few = few-current in let fits = current-fits in
        two-is lines P Equal (net-is lines P (facts.current p n sound inside d there host) may) (number-is lines P (current_high (channels p d) + 1) k (omega arith) (omega (arith, few)) (omega (arith, fits, less)))

    pub local-buffer-nets : (c : ℕ) → c < channels p d → GoodNets lines (buffer_group (leaf_names.buffer d 0 c) (leaf_sizes p) (enter_at (attach_names leaf_names net_names d) (attach_size p (leaf_sizes p) (dest_bits p) d) c) (pop_of p net_names d 0 c)).nets
    local-buffer-nets c less =
        let b = facts.buffer p n sound inside d there 0 c (omega arith) host less in
        let P = May lines (leaf_names.buffer d 0 c).push in
        let top = in_few p d 0 in
        assign-next lines b.push (two-is lines P And (deeper lines P 2 (omega arith) (wire-in lines b.push (facts.enters p n sound inside d there host) (omega arith)))
        (current-equal P (by-register lines (leaf_names.buffer d 0 c).push (facts.current p n sound inside d there host)) c less)) (omega arith)
        (assign-next lines b.pop (pop-is (leaf_names.buffer d 0 c).pop (at d 13 0 + (2 * c + 1) + 1) 0 c b.pop (omega arith) (omega arith) (omega (arith, top, less))) (omega arith) (nets-nil lines))

    pub eject-good : GoodNets lines (eject_group p n leaf_names net_names (port_names n) (dest_bits p) d).nets
    eject-good = let t = facts.eject p n sound inside d there host in net-next lines t (wide-as lines (May lines
        (net_names.eject d)) (let e : 34 + dest_bits p ≡ 33 + dest_bits p + 1 = omega arith in e) (out-flit-is
        (net_names.eject d) (33 + dest_bits p) (at d 11 0 + 1 + 1) 0 t (omega arith) (omega arith) host))
        (omega arith) (nets-nil lines)

    pub eject-moves : Good lines (eject_group p n leaf_names net_names (port_names n) (dest_bits p) d).moves
    eject-moves =
        let e = facts.eject p n sound inside d there host in
        let kept = facts.ejected p n sound inside d there host in
        clocked-next lines kept
        (choose-is lines (Any lines) (deeper lines (Any lines) 2 (omega arith) (net-is lines (Any lines) (facts.on-local p n sound inside d there host).its tt))
        (cat-is lines (Any lines) (next-are lines (Any lines) (number-is lines (Any lines) 1 1 (omega arith) (omega arith) (omega arith))
        (next-are lines (Any lines) (part-is lines (Any lines) (33 + dest_bits p) (32 + dest_bits p) 2 e.its tt (omega arith) (omega arith) (omega arith))
        (next-are lines (Any lines) (part-is lines (Any lines) 31 0 32 e.its tt (omega arith) (omega arith) refl) (none-are lines (Any lines) 1)))) (omega arith) (omega arith))
        (choose-is lines (Any lines) (net-is lines (Any lines) (shared.hears p n sound inside d there host).its tt) (number-is lines (Any lines) 35 0 (omega arith) (omega arith) (pow-pos 35)) (net-is lines (Any lines) kept tt)))
        (omega arith) refl (pow-pos 35) (good-nil lines)

    pub attach-heads-good : Good lines (attach_group p n d (attach_names leaf_names net_names d) (port_names n) (attach_size p (leaf_sizes p) (dest_bits p) d)).heads
    attach-heads-good =
        reg-next lines (facts.passing p n sound inside d there host) (reg-next lines (facts.dropping p n sound inside d there host) (reg-next lines (facts.dest p n sound inside d there host)
        (reg-next lines (facts.current p n sound inside d there host) (reg-next lines (facts.dropped p n sound inside d there host) (wire-next lines (facts.local-word p n sound inside d there host) (good-nil lines))))))

    -- the lookup
    looked-is : (t : Name) (h r k : ℕ) → Wire lines t h r → k ≤ length (reach p d) → at d 11 0 + (1 + k) + 1 < r → Is lines (May lines t) (looked (net_names.look d) (dest_bits p) k) (dest_bits p + 1) 1
    looked-is t h r zero x le far = let few = few-dest in number-is lines (May lines t) (dest_bits p + 1) 0 (omega arith) (omega (arith, few)) (pow-pos (dest_bits p + 1))
    looked-is t h r (suc k) x le far = wire-in lines x (facts.look p n sound inside d there host (suc k) (omega arith) le) far

    double : (b k : ℕ) → k < 2 ^ b → 2 ^ b + k < 2 ^ (b + 1)
    double b k less = let all : 2 ^ b + k < 2 ^ suc b = omega (arith, less) in subst (λ z. 2 ^ b + k < 2 ^ z) (let e : suc b ≡ b + 1 = omega arith in e) all

    -- whether the address is in the range
    range-is : (P : Name → Type 0) (address : Name) (r : Range) → Is lines P (net address) 32 1 → r.first < 2 ^ 32
        → r.last < 2 ^ 32 → Is lines P (in_range address r) 1 4
    range-is P address r x low high =
        let first = number-is lines P 32 r.first (omega arith) (omega arith) low in
        let last = number-is lines P 32 r.last (omega arith) (omega arith) high in
        let above : Is lines P (not_above address r) 1 3 = if-is lines P (r.last == 2 ^ 32 - 1)
        (λ top. two-is lines P Or (two-is lines P Less x last) (two-is lines P Equal x last)) (λ more. not-is lines P
        (two-is lines P Less last x)) in
        if-is lines P (r.first == 0) (λ zero. deeper lines P 4 (omega arith) above) (λ some. two-is lines P And
        (not-is lines P (two-is lines P Less x first)) above)

    looks-good : (rs : List Range) → length rs ≤ length (reach p d) → AllByRecursion (λ (r : Range). (r.tile < tiles p) × (r.first < 2 ^ 32) × (r.last < 2 ^ 32)) rs → GoodNets lines (look_nets ((port_names n).address d) (net_names.look d) (dest_bits p) rs)
    looks-good [] le all = nets-nil lines
    looks-good (r ∷ rs) le all =
        let t = facts.look p n sound inside d there host (suc (length rs)) (omega arith) le in
        let P = May lines (net_names.look d (suc (length rs))) in
        let a = shared.address p n sound inside d there host in
        let may = input-may lines (net_names.look d (suc (length rs))) ((port_names n).address d) t a (omega arith) in
        let address = net-is lines P a.its may in
        let few = few-dest in
        let dests = (sizes-meet p sound).dests in
        let here = all.0 in
        let tile = here.0 in
        nets-join lines (looks-good rs (omega arith) all.1)
        (net-next lines t (choose-is lines P (range-is P ((port_names n).address d) r address here.1 here.2)
        (deeper lines P 4 (omega arith) (number-is lines P (dest_bits p + 1) (2 ^ dest_bits p + r.tile) (omega arith) (omega (arith, few)) (double (dest_bits p) r.tile (omega (arith, dests, tile)))))
        (deeper lines P 4 (omega arith) (looked-is (net_names.look d (suc (length rs))) (dest_bits p) (at d 11 0 + (1 + suc (length rs)) + 1) (length rs) t (omega arith) (omega arith)))) (omega arith) (nets-nil lines))

    reach-all : AllByRecursion (λ (r : Range). (r.tile < tiles p) × (r.first < 2 ^ 32) × (r.last < 2 ^ 32)) (reach p d)
    reach-all = go p.ranges (λ k r less. sound.ranges k r less)
      where
        go : (rs : List Range) → All (IsRangeIn (tiles p)) rs → AllByRecursion (λ (r : Range). (r.tile < tiles p) × (r.first < 2 ^ 32) × (r.last < 2 ^ 32)) (filter (λ (r : Range). hosts p r.tile d) rs)
        go [] all = tt
        go (r ∷ rs) all = keep (hosts p r.tile d) (go rs (λ k x less. all (suc k) x (omega arith)))
          where
            keep : (b : Bool) → AllByRecursion (λ (r : Range). (r.tile < tiles p) × (r.first < 2 ^ 32) × (r.last < 2 ^ 32)) (filter (λ (r : Range). hosts p r.tile d) rs) → AllByRecursion (λ (r : Range). (r.tile < tiles p) × (r.first < 2 ^ 32) × (r.last < 2 ^ 32)) (if b then r ∷ filter (λ (r : Range). hosts p r.tile d) rs else filter (λ (r : Range). hosts p r.tile d) rs)
            keep true rest = let here = all 0 r (omega arith) in ((here.0, (let a = here.1 in let b = here.2 in omega (arith, a, b)), here.2), rest)
            keep false rest = rest

    -- whether there is room
    pub room-is : (P : Name → Type 0) → P (leaf_names.current d) → ((c : ℕ) → c < channels p d → P (leaf_names.buffer d 0 c).count) → Is lines P (room_expr p d (attach_names leaf_names net_names d) (attach_size p (leaf_sizes p) (dest_bits p) d)) 1 7
    room-is P may counts =
        let some = (few-channels p d sound there).0 in
        let most = (few-channels p d sound there).1 in
        let few = few-l in
        deeper lines P 7 (omega (arith, most))
        (or-is lines P (channels p d - 1) 1 3 (λ c le. two-is lines P And (current-equal P may c (omega (arith, some, le)))
        (two-is lines P Less (net-is lines P (facts.buffer p n sound inside d there 0 c (omega arith) host (omega (arith, some, le))).count (counts c (omega (arith, some, le)))) (number-is lines P ((leaf_sizes p).lh + 1) p.buffer (omega arith) (omega (arith, few)) (count-enough p.buffer sound.buffer.1)))))

    pub count-register : (c : ℕ) → c < channels p d → Net lines Register (leaf_names.buffer d 0 c).count (leaf_sizes p).lh
    count-register c less = (facts.buffer p n sound inside d there 0 c (omega arith) host less).count

    word-is : Is lines (May lines (net_names.local d)) (entry_word p n (attach_names leaf_names net_names d) ((port_names n).last d) ((port_names n).payload d) (dest_bits p)) ((leaf_sizes p).wh + 1) (dest_bits p + 3)
    word-is =
        let w = facts.local-word p n sound inside d there host in
        let P = May lines (net_names.local d) in
        let to = facts.to p n sound inside d there host in
        let l = shared.last p n sound inside d there host in
        let y = shared.payload p n sound inside d there host in
        let dests = few-dest in
        let some = some-dest in
        let few = few-p in
        wide-as lines P (let e : ports p + (1 + (1 + (dest_bits p - 1 + 1 + (32 + 0)))) ≡ (leaf_sizes p).wh + 1 = omega (arith, some) in e)
        (deeper lines P (dest_bits p + 3) (omega arith) (cat-is lines P (next-are lines P (deeper lines P (dest_bits p + 2) (omega arith) (table-is lines P (ports p) (λ t. 2 ^ route p n t) 0 (dest_bits p) to.its (by-rank lines (net_names.local d) (net_names.to d) (at d 12 0 + 5 + 1) (at d 12 0 + 3 + 1) w to.at_rank (omega arith)) (omega arith) (omega (arith, few)) (λ t. route-below p n t) (omega (arith, some))))
        (next-are lines P (deeper lines P (dest_bits p + 2) (omega arith) (not-is lines P (reg-in lines (net_names.local d) (facts.passing p n sound inside d there host))))
        (next-are lines P (deeper lines P (dest_bits p + 2) (omega arith) (net-is lines P l.its (input-may lines (net_names.local d) ((port_names n).last d) w l (omega arith))))
        (next-are lines P (deeper lines P (dest_bits p + 2) (omega arith) (wire-in lines w to (omega arith)))
        (next-are lines P (deeper lines P (dest_bits p + 2) (omega arith) (net-is lines P y.its (input-may lines (net_names.local d) ((port_names n).payload d) w y (omega arith)))) (none-are lines P (dest_bits p + 2))))))) (omega arith) (omega (arith, few, dests))))

    pub attach-good : GoodNets lines (attach_group p n d (attach_names leaf_names net_names d) (port_names n) (attach_size p (leaf_sizes p) (dest_bits p) d)).nets
    attach-good =
        let f = facts.found-net p n sound inside d there host in
        let k = facts.taken-net p n sound inside d there host in
        let g = facts.goes p n sound inside d there host in
        let to = facts.to p n sound inside d there host in
        let e = facts.enters p n sound inside d there host in
        let w = facts.local-word p n sound inside d there host in
        let passing = facts.passing p n sound inside d there host in
        let dropping = facts.dropping p n sound inside d there host in
        let o = shared.offered p n sound inside d there host in
        let some = some-dest in
        let dests = few-dest in
        let few = few-ranges p d sound in
        nets-join lines (looks-good (reach p d) (omega arith) reach-all)
        (net-next lines f (looked-is (net_names.found d) (dest_bits p) (at d 12 0 + 0 + 1) (length (reach p d)) f (omega arith) (omega (arith, few))) (omega arith)
        (net-next lines k (two-is lines (May lines (net_names.taken d)) And (deeper lines (May lines (net_names.taken d)) 8 (omega arith) (net-is lines (May lines (net_names.taken d)) o.its (input-may lines (net_names.taken d) ((port_names n).offered d) k o (omega arith))))
        (two-is lines (May lines (net_names.taken d)) Or (deeper lines (May lines (net_names.taken d)) 7 (omega arith) (reg-in lines (net_names.taken d) dropping))
        (room-is (May lines (net_names.taken d)) (by-register lines (net_names.taken d) (facts.current p n sound inside d there host)) (λ c less. by-register lines (net_names.taken d) (count-register c less))))) (omega arith)
        (net-next lines g (two-is lines (May lines (net_names.goes d)) Or (deeper lines (May lines (net_names.goes d)) 3 (omega arith) (reg-in lines (net_names.goes d) passing))
        (two-is lines (May lines (net_names.goes d)) And (not-is lines (May lines (net_names.goes d)) (reg-in lines (net_names.goes d) dropping))
        (deeper lines (May lines (net_names.goes d)) 2 (omega arith) (bit-is lines (May lines (net_names.goes d)) (dest_bits p) f.its (by-rank lines (net_names.goes d) (net_names.found d) (at d 12 0 + 2 + 1) (at d 12 0 + 0 + 1) g f.at_rank (omega arith)) (omega arith))))) (omega arith)
        (net-next lines to (choose-is lines (May lines (net_names.to d)) (reg-in lines (net_names.to d) passing) (reg-in lines (net_names.to d) (facts.dest p n sound inside d there host))
        (part-is lines (May lines (net_names.to d)) (dest_bits p - 1) 0 (dest_bits p - 1 + 1) f.its (by-rank lines (net_names.to d) (net_names.found d) (at d 12 0 + 3 + 1) (at d 12 0 + 0 + 1) to f.at_rank (omega arith)) (omega arith) (omega (arith, some)) (omega arith))) (omega arith)
        (net-next lines e (two-is lines (May lines (net_names.enters d)) And (wire-in lines e k (omega arith)) (wire-in lines e g (omega arith))) (omega arith)
        (assign-next lines w word-is (omega (arith, dests)) (nets-nil lines)))))))

    pub attach-moves : Good lines (attach_group p n d (attach_names leaf_names net_names d) (port_names n) (attach_size p (leaf_sizes p) (dest_bits p) d)).moves
    attach-moves =
        let k = net-is lines (Any lines) (facts.taken-net p n sound inside d there host).its tt in
        let g = net-is lines (Any lines) (facts.goes p n sound inside d there host).its tt in
        let to = net-is lines (Any lines) (facts.to p n sound inside d there host).its tt in
        let e = net-is lines (Any lines) (facts.enters p n sound inside d there host).its tt in
        let l = net-is lines (Any lines) (shared.last p n sound inside d there host).its tt in
        let passing = facts.passing p n sound inside d there host in
        let dropping = facts.dropping p n sound inside d there host in
        let dest = facts.dest p n sound inside d there host in
        let current = facts.current p n sound inside d there host in
        let dropped = facts.dropped p n sound inside d there host in
        let some = some-dest in
        let few = few-current in
        let one = (few-channels p d sound there).0 in
        clocked-next lines passing (choose-is lines (Any lines) (deeper lines (Any lines) 3 (omega arith) k) (two-is lines (Any lines) And (not-is lines (Any lines) l) (deeper lines (Any lines) 2 (omega arith) g)) (deeper lines (Any lines) 3 (omega arith) (net-is lines (Any lines) passing tt))) (omega arith) refl (omega arith)
        (clocked-next lines dropping (choose-is lines (Any lines) (deeper lines (Any lines) 3 (omega arith) k) (two-is lines (Any lines) And (not-is lines (Any lines) l) (not-is lines (Any lines) g)) (deeper lines (Any lines) 3 (omega arith) (net-is lines (Any lines) dropping tt))) (omega arith) refl (omega arith)
        (clocked-next lines dest (choose-is lines (Any lines) k to (net-is lines (Any lines) dest tt)) (omega arith) (omega (arith, some)) (pow-pos (dest_bits p))
        (clocked-next lines current (choose-is lines (Any lines) (deeper lines (Any lines) 3 (omega arith) (two-is lines (Any lines) And e l))
        (choose-is lines (Any lines) (current-equal (Any lines) tt (channels p d - 1) (omega (arith, one))) (deeper lines (Any lines) 2 (omega arith) (number-is lines (Any lines) (current_high (channels p d) + 1) 0 (omega arith) (omega (arith, few)) (pow-pos (current_high (channels p d) + 1))))
        (two-is lines (Any lines) Add (net-is lines (Any lines) current tt) (number-is lines (Any lines) (current_high (channels p d) + 1) 1 (omega arith) (omega (arith, few)) (two-more (current_high (channels p d))))))
        (deeper lines (Any lines) 3 (omega arith) (net-is lines (Any lines) current tt))) (omega arith) refl (pow-pos (current_high (channels p d) + 1))
        (clocked-next lines dropped (two-is lines (Any lines) And (deeper lines (Any lines) 2 (omega arith) k) (not-is lines (Any lines) g)) (omega arith) refl (omega arith) (good-nil lines)))))
