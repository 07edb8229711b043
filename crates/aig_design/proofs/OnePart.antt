-- An instance and its words: how many variables they take, what they stand for, and which bits they end with.
use Rattle.std.proofs.Common.{◌≡◌, ℕ, ◌+◌, ◌<◌, ◌≤◌, ◌^◌, Bool, true, false, List, [], ◌∷◌, ◌++◌, length, get_or, replicate, refl, sym, ◌∙◌, ap, subst, arith}
use Rattle.std.specs.Prelude.{Some, if◌then◌else◌, slice_get, slice_index, slice_index_or, flat_map}
use Rattle.std.specs.List.{AllByRecursion}
use Rattle.std.proofs.lemmas.List.{length-map, length-replicate, length-append}
use Rattle.std.proofs.lemmas.Bool.{false≢true}
use Rattle.vl_tree.specs.declared.tree.Join.{Join}
use Rattle.vl_tree.specs.Values.{Name, Item, wire, reg, mem, assign, clocked, store, Leaf}
use Rattle.vl_model.specs.Meaning.{Values}
use Rattle.vl_model.specs.declared.kind.Kind.{Kind}
use Rattle.vl_model.specs.declared.kind.Kind.TheVariants.{Input, Output, Inner, Register, Memory, Child}
use Rattle.vl_model.specs.Lines.{Line, leaf_lines, Declared, lookup, kind_passes, is_net, is_register, is_memory, word_count}
use Rattle.vl_model.specs.Rules.{is_kind}
use Rattle.vl_model.specs.Leaf.{leaf_widths, AreSmall}
use Rattle.vl_model.specs.Settle.{reset_net}
use Rattle.vl_model.proofs.Ordered.{kind-of}
use Rattle.vl_run.specs.declared.program.Register as code_register
use Rattle.vl_run.specs.declared.program.Memory as code_memory
use Rattle.vl_run.specs.Step.{word_at}
use Rattle.vl_run.specs.Program.{registers_of, memories_of}
use Rattle.vl_run.specs.Rows.{Rows}
use Rattle.vl_run.specs.Start.{AreInside, HasRoom, IsWithin, empty_memory}
use Rattle.vl_run.specs.State.{Code, Part}
use Rattle.vl_run.specs.Stands.{StandsIn}
use Rattle.vl_run.specs.Fresh.{IsFresh}
use Rattle.vl_run.proofs.Readied.{register-is-net}
use Rattle.aig_model.specs.Form.{word}
use Rattle.aig_model.specs.FormOf.{AreBits, flipped_bits, words_from, leaf_latches}
use Rattle.aig_model.specs.FormOf as form
use Rattle.aig_model.specs.Netlist.{Net}
use Rattle.aig_cycle.specs.Wires.{numbers, rows}
use Rattle.aig_cycle.specs.Steps.{Wired, part_as, IsWired, IsPlainCode}
use Rattle.aig_cycle.specs.Latches.{register_row, memory_row, part_bits}
use Rattle.aig_cycle.proofs.Actions.{number-at, row-at}
use Rattle.aig_design.specs.Start.{has_place, kept_bits, register_place, register_bits, memory_place, memory_bits, FitsMemory, IsLaid}
use Rattle.aig_design.proofs.Bits.{bits-both, bits-behind}
use Rattle.aig_design.proofs.Plain.{codes-are-plain}
use Rattle.aig_design.proofs.Named.{IsFirst, LeafNames, net_at, words_at, net-there, words-there, listed}
use Rattle.aig_design.proofs.Stood.{length-listed, listed-at, none-known, no-rows-known, no-word-there, reset-there, registers-are, memories-are, registers-fit, memories-fit, registers-narrow, memories-narrow, is-among, memory-is-among, words-same, register-free}

module _ (t : Name → ℕ) (l : Leaf) (js : List Join) (names : LeafNames l) (x : Part) (fresh : IsFresh t l js x) (first next : ℕ) (w : Wired) (laid : IsLaid first next x w) where
  abbrev all : List Line
  all = leaf_lines l

  abbrev s : Name → ℕ
  s = fresh.place

  registers-code : x.code.registers ≡ registers_of s l.items
  registers-code = ap (λ (q : Code). q.registers) fresh.code

  memories-code : x.code.memories ≡ memories_of s l.items
  memories-code = ap (λ (q : Code). q.memories) fresh.code

  at-reset : (n : Name) → is_kind is_net all n ≡ true → slice_index x.kept.nets (s n) ≡ reset_net l.items n
  at-reset n net = reset-there l names s fresh.places x.code x.kept fresh.start n net

  abbrev H : Values → ℕ → ℕ
  H u p = net_at u.net (slice_get all p)

  abbrev M : Values → ℕ → List ℕ
  M u p = words_at u.word (slice_get all p)

  register-bits : (u : Values) → kept_bits register_place (register_bits x.kept.nets) (H u) x.code.registers ≡ form.register_bits l.items u l.items
  register-bits u =
      ap (kept_bits register_place (register_bits x.kept.nets) (H u)) registers-code
      ∙ registers-are l names s fresh.places u x.kept.nets at-reset l.items names.first

  memory-bits : (u : Values) → kept_bits memory_place memory_bits (M u) x.code.memories ≡ form.memory_bits u l.items
  memory-bits u =
      ap (kept_bits memory_place memory_bits (M u)) memories-code
      ∙ memories-are l names s fresh.places u l.items names.first

  middle-is : (u : Values) → laid.middle ≡ first + length (form.register_bits l.items u l.items)
  middle-is u = laid.registers.count (H u) ∙ ap (λ z. first + length z) (register-bits u)

  next-is : (u : Values) → next ≡ laid.middle + length (form.memory_bits u l.items)
  next-is u = laid.memories.count (M u) ∙ ap (λ z. laid.middle + length z) (memory-bits u)

  -- how many variables the instance takes
  pub count-one : (u : Values) → next ≡ first + length (leaf_latches (Some l) u)
  count-one u =
      let a = middle-is u in
      let b = next-is u in
      let c = length-append (form.register_bits l.items u l.items) (form.memory_bits u l.items) in
      omega (arith, a, b, c)

  -- its words are of each net behind them
  pub known-one : (n : Net) → next ≤ n.start → IsWired n w
  known-one n le =
      let up : laid.middle ≤ n.start = (let b = next-is (record { net = λ m. 0; word = λ m i. 0 }) in omega (arith, b, le)) in
      let plain : IsPlainCode w.code = subst IsPlainCode (sym (laid.code ∙ fresh.code)) (codes-are-plain s (leaf_widths l) t l js) in
      record {
        plain = plain;
        wires = record {
          nets = laid.registers.are_known n up (subst (AllByRecursion (λ (r : code_register.Register). r.high < 64)) (sym registers-code) (registers-narrow l names s fresh.places l.items names.first)) (none-known n (length x.kept.nets));
          memories = laid.memories.are_known n le (subst (AllByRecursion (λ (m : code_memory.Memory). m.high < 64)) (sym memories-code) (memories-narrow l names s fresh.places l.items names.first)) (no-rows-known n (length x.kept.memories));
        };
      }

  module _ (v : ℕ → Bool) (u : Values) (still : (n : Name) → is_kind is_register all n ≡ false → u.net n ≡ 0) (small : AreSmall (leaf_widths l) u) (bits : AreBits (leaf_latches (Some l) u) (λ j. v (first + j)) 0) where
    abbrev nets : List ℕ
    nets = numbers v w.wires.nets

    parts : AreBits (form.register_bits l.items u l.items) (λ j. v (first + j)) 0
    parts = (bits-both (form.register_bits l.items u l.items) (form.memory_bits u l.items) (λ j. v (first + j)) 0 bits).0

    behind : AreBits (form.memory_bits u l.items) (λ j. v (laid.middle + j)) 0
    behind = bits-behind (form.register_bits l.items u l.items) (form.memory_bits u l.items) v first laid.middle (middle-is u) bits

    net-long : length nets ≡ length x.kept.nets
    net-long = length-map w.wires.nets (word v) ∙ laid.registers.size ∙ length-replicate (length x.kept.nets) []

    row-long : length (rows v w.wires.memories) ≡ length x.kept.memories
    row-long = length-map w.wires.memories (numbers v) ∙ laid.memories.size ∙ length-replicate (length x.kept.memories) []

    memories-long : length x.kept.memories ≡ length all
    memories-long = ap length fresh.start.memories ∙ length-map all empty_memory

    net-room : (n : Name) (d : Declared) → lookup all n ≡ Some d → s n < length (replicate {A = List ℕ} (length x.kept.nets) [])
    net-room n d e =
        let a = fresh.places.below n d e in
        let b = fresh.start.room.lines in
        let c = length-replicate {A = List ℕ} (length x.kept.nets) [] in
        omega (arith, a, b, c)

    row-room : (n : Name) (d : Declared) → lookup all n ≡ Some d → s n < length (replicate {A = List (List ℕ)} (length x.kept.memories) [])
    row-room n d e =
        let a = fresh.places.below n d e in
        let b = memories-long in
        let c = length-replicate {A = List (List ℕ)} (length x.kept.memories) [] in
        omega (arith, a, b, c)

    -- what stands where a name is declared
    net-word : (n : Name) (d : Declared) → lookup all n ≡ Some d → slice_index nets (s n) ≡ (if has_place register_place x.code.registers (s n) then H u (s n) else 0)
    net-word n d e =
        number-at v w.wires.nets (s n)
        ∙ laid.registers.value v (H u) (subst (AllByRecursion (λ (r : code_register.Register). H u r.place < 2 ^ (r.high + 1))) (sym registers-code) (registers-fit l names s fresh.places u small l.items names.first))
        (subst (λ z. AreBits z (λ j. v (first + j)) 0) (sym (register-bits u)) parts) (s n) (net-room n d e)
        ∙ ap (λ z. if has_place register_place x.code.registers (s n) then H u (s n) else z) (no-word-there v (length x.kept.nets) (s n))

    row-words : (n : Name) (d : Declared) → lookup all n ≡ Some d → d.kind ≡ Memory → slice_index_or (rows v w.wires.memories) (s n) [] ≡ listed (u.word n) 0 (d.last + 1)
    row-words n d e k =
        let among : has_place memory_place x.code.memories (s n) ≡ true =
        ap (λ z. has_place memory_place z (s n)) memories-code ∙ memory-is-among l names s fresh.places n (ap (kind_passes is_memory) e ∙ ap is_memory k) in
        row-at v w.wires.memories (s n)
        ∙ laid.memories.value v (M u) (subst (AllByRecursion (λ (m : code_memory.Memory). FitsMemory m (M u m.place))) (sym memories-code) (memories-fit l names s fresh.places u small l.items names.first))
        (subst (λ z. AreBits z (λ j. v (laid.middle + j)) 0) (sym (memory-bits u)) behind) (s n) (row-room n d e)
        ∙ ap (λ b. if b then M u (s n) else numbers v (get_or (replicate (length x.kept.memories) []) (s n) [])) among
        ∙ words-there all s fresh.places u.word n d e

    -- a net has its number in a state where what is no register has none
    net-stands : (n : Name) → is_kind is_net all n ≡ true → slice_index nets (s n) ≡ u.net n
    net-stands n net =
        let what = kind-of is_net all n net in
        net-word n what.0 what.1 ∙ ap (λ z. if has_place register_place x.code.registers (s n) then z else 0) (net-there all s fresh.places u.net n what.0 what.1)
        ∙ go (is_kind is_register all n) refl (has_place register_place x.code.registers (s n)) refl
      where
        go : (b : Bool) → is_kind is_register all n ≡ b → (c : Bool) → has_place register_place x.code.registers (s n) ≡ c → (if has_place register_place x.code.registers (s n) then u.net n else 0) ≡ u.net n
        go true is c has = ap (λ b. if b then u.net n else 0) (ap (λ z. has_place register_place z (s n)) registers-code ∙ is-among l names s fresh.places n is)
        go false is true has = ap (λ b. if b then u.net n else 0) has
        go false is false has = ap (λ b. if b then u.net n else 0) has ∙ sym (still n is)

    rows-stand : Rows all s (rows v w.wires.memories) u
    rows-stand = record {
      there = λ n k. (let what = kind-of is_memory all n k in let a = fresh.places.below n what.0 what.1 in let b = memories-long in let c = row-long in omega (arith, a, b, c));
      long = λ n k. (let what = kind-of is_memory all n k in ap length (row-words n what.0 what.1 (memory-kind what.0.kind what.2)) ∙ length-listed (u.word n) 0 (what.0.last + 1) ∙ sym (ap word_count what.1));
      word = λ n i k lt. word-there n i k lt (kind-of is_memory all n k);
    }
      where
        memory-kind : (k : Kind) → is_memory k ≡ true → k ≡ Memory
        memory-kind Input e = absurd (false≢true e)
        memory-kind Output e = absurd (false≢true e)
        memory-kind Inner e = absurd (false≢true e)
        memory-kind Register e = absurd (false≢true e)
        memory-kind Memory e = refl
        memory-kind Child e = absurd (false≢true e)

        word-there : (n : Name) (i : ℕ) → is_kind is_memory all n ≡ true → i < word_count (lookup all n) → (d : Declared) × (lookup all n ≡ Some d) × (is_memory d.kind ≡ true) → word_at (rows v w.wires.memories) (s n) i ≡ u.word n i
        word-there n i k lt what =
            let there : i < what.0.last + 1 = subst (λ c. i < c) (ap word_count what.1) lt in
            let e : 0 + i ≡ i = omega arith in
            ap (λ r. slice_index r i) (row-words n what.0 what.1 (memory-kind what.0.kind what.2)) ∙ listed-at (u.word n) 0 (what.0.last + 1) i there ∙ ap (u.word n) e

    -- the instance stands at the state
    pub stands-one : StandsIn t l js (part_as v w) u
    stands-one = record {
      place = s;
      places = fresh.places;
      code = laid.code ∙ fresh.code;
      room = subst (λ c. HasRoom l c nets) (sym laid.code) (record {
        lines = subst (λ k. length all ≤ k) (sym net-long) fresh.start.room.lines;
        settle = subst (λ k. AllByRecursion (IsWithin k) x.code.settle) (sym net-long) fresh.start.room.settle;
        next = subst (λ k. AllByRecursion (IsWithin k) x.code.next) (sym net-long) fresh.start.room.next;
        moves = subst (λ k. AllByRecursion (IsWithin k) x.code.moves) (sym net-long) fresh.start.room.moves;
        inside = subst (λ k. AreInside k x.code) (sym net-long) fresh.start.room.inside;
      });
      small = small;
      nets = λ n net free. net-stands n net;
      rows = rows-stand;
    }

-- ---- the bits that an instance ends with

abbrev place-or : List code_register.Register → ℕ
place-or [] = 0
place-or (r ∷ rs) = r.place

abbrev register-rest : List code_register.Register → List code_register.Register
register-rest [] = []
register-rest (r ∷ rs) = rs

abbrev memory-or : List code_memory.Memory → ℕ
memory-or [] = 0
memory-or (m ∷ ms) = m.place

abbrev memory-rest : List code_memory.Memory → List code_memory.Memory
memory-rest [] = []
memory-rest (m ∷ ms) = ms

module _ (l : Leaf) (names : LeafNames l) (s r : Name → ℕ) (b : Values) where
  abbrev lines : List Line
  lines = leaf_lines l

  registers-end : (resets nets : List ℕ) → ((n : Name) → is_kind is_net lines n ≡ true → slice_index resets (s n) ≡ reset_net l.items n) → ((n : Name) → is_kind is_register lines n ≡ true → slice_index nets (r n) ≡ b.net n)
      → (is : List Item) → AllByRecursion (IsFirst lines) is → registers_of r is ≡ registers_of s is → flat_map (register_row resets nets) (registers_of s is) ≡ form.register_bits l.items b is
  registers-end resets nets at stand [] f e = refl
  registers-end resets nets at stand (wire h n ∷ is) f e = registers-end resets nets at stand is f.1 e
  registers-end resets nets at stand (mem h n last ∷ is) f e = registers-end resets nets at stand is f.1 e
  registers-end resets nets at stand (assign n x ∷ is) f e = registers-end resets nets at stand is f.1 e
  registers-end resets nets at stand (clocked n k x ∷ is) f e = registers-end resets nets at stand is f.1 e
  registers-end resets nets at stand (store c n i x ∷ is) f e = registers-end resets nets at stand is f.1 e
  registers-end resets nets at stand (reg h n ∷ is) f e =
      let rest = flat_map (register_row resets nets) (registers_of s is) in
      let same : s n ≡ r n = sym (ap (λ q. place-or q) e) in
      ap (λ p. flipped_bits (slice_index nets p) (slice_index resets (s n)) 0 (h + 1) ++ rest) same
      ∙ ap (λ z. flipped_bits z (slice_index resets (s n)) 0 (h + 1) ++ rest) (stand n (ap (kind_passes is_register) f.0))
      ∙ ap (λ z. flipped_bits (b.net n) z 0 (h + 1) ++ rest) (at n (ap (kind_passes is_net) f.0))
      ∙ ap (λ z. flipped_bits (b.net n) (reset_net l.items n) 0 (h + 1) ++ z) (registers-end resets nets at stand is f.1 (ap (λ q. register-rest q) e))

  memories-end : (ms : List (List ℕ)) → ((n : Name) (i : ℕ) → is_kind is_memory lines n ≡ true → i < word_count (lookup lines n) → word_at ms (r n) i ≡ b.word n i)
      → (is : List Item) → AllByRecursion (IsFirst lines) is → memories_of r is ≡ memories_of s is → flat_map (memory_row ms) (memories_of s is) ≡ form.memory_bits b is
  memories-end ms stand [] f e = refl
  memories-end ms stand (wire h n ∷ is) f e = memories-end ms stand is f.1 e
  memories-end ms stand (reg h n ∷ is) f e = memories-end ms stand is f.1 e
  memories-end ms stand (assign n x ∷ is) f e = memories-end ms stand is f.1 e
  memories-end ms stand (clocked n k x ∷ is) f e = memories-end ms stand is f.1 e
  memories-end ms stand (store c n i x ∷ is) f e = memories-end ms stand is f.1 e
  memories-end ms stand (mem h n last ∷ is) f e =
      let rest = flat_map (memory_row ms) (memories_of s is) in
      let same : s n ≡ r n = sym (ap (λ q. memory-or q) e) in
      let count : word_count (lookup lines n) ≡ last + 1 = ap word_count f.0 in
      ap (λ p. words_from (λ j. slice_index (slice_index_or ms p []) j) h 0 (last + 1) ++ rest) same
      ∙ ap (λ z. z ++ rest) (words-same (λ j. word_at ms (r n) j) (b.word n) h 0 (last + 1) (λ i lt. stand n i (ap (kind_passes is_memory) f.0) (subst (λ c. i < c) (sym count) (omega (arith, lt)))))
      ∙ ap (λ z. words_from (b.word n) h 0 (last + 1) ++ z) (memories-end ms stand is f.1 (ap (λ q. memory-rest q) e))

-- an instance that stands at a state has its bits, where its registers have these places
pub ends-one : (t u : Name → ℕ) (l : Leaf) (js ks : List Join) → LeafNames l → (x y : Part) → IsFresh t l js x → y.code ≡ x.code → (b : Values) → StandsIn u l ks y b → part_bits x.kept.nets y ≡ leaf_latches (Some l) b
ends-one t u l js ks names x y fresh same b st =
    let s = fresh.place in
    let r = st.place in
    let registers : y.code.registers ≡ registers_of s l.items = ap (λ (q : Code). q.registers) (same ∙ fresh.code) in
    let memories : y.code.memories ≡ memories_of s l.items = ap (λ (q : Code). q.memories) (same ∙ fresh.code) in
    let registers-same : registers_of r l.items ≡ registers_of s l.items = sym (ap (λ (q : Code). q.registers) st.code) ∙ registers in
    let memories-same : memories_of r l.items ≡ memories_of s l.items = sym (ap (λ (q : Code). q.memories) st.code) ∙ memories in
    ap (λ rs. flat_map (register_row x.kept.nets y.kept.nets) rs ++ flat_map (memory_row y.kept.memories) y.code.memories) registers
    ∙ ap (λ ms. flat_map (register_row x.kept.nets y.kept.nets) (registers_of s l.items) ++ flat_map (memory_row y.kept.memories) ms) memories
    ∙ ap (λ z. z ++ flat_map (memory_row y.kept.memories) (memories_of s l.items))
    (registers-end l names s r b x.kept.nets y.kept.nets (λ n net. reset-there l names s fresh.places x.code x.kept fresh.start n net)
    (λ n k. st.nets n (register-is-net (leaf_lines l) n k) (register-free l n k)) l.items names.first registers-same)
    ∙ ap (λ z. form.register_bits l.items b l.items ++ z) (memories-end l names s r b y.kept.memories (λ n i k lt. st.rows.word n i k lt) l.items names.first memories-same)
