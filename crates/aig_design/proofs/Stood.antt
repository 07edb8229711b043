-- One instance at the beginning of a cycle: where the variables have the bits of a state, it stands at that state.
use Rattle.std.proofs.Common.{◌≡◌, ℕ, zero, suc, ◌+◌, ◌<◌, ◌≤◌, ◌^◌, Bool, true, false, List, [], ◌∷◌, ◌++◌, length, map, get_or, replicate, Option, refl, sym, ◌∙◌, ap, subst, bytes_eq, arith}
use Rattle.std.specs.Prelude.{Some, None, ◌==◌, ◌||◌, if◌then◌else◌, slice_get, slice_index}
use Rattle.std.specs.List.{AllByRecursion}
use Rattle.std.proofs.lemmas.List.{length-replicate, length-append}
use Rattle.std.proofs.lemmas.Bool.{eq-eqb, both_ways, false≢true}
use Rattle.vl_tree.specs.declared.tree.Port.{Port}
use Rattle.vl_tree.specs.Values.{Name, Item, wire, reg, mem, assign, clocked, store, Leaf}
use Rattle.vl_model.specs.Meaning.{Values}
use Rattle.vl_model.specs.declared.kind.Kind.{Kind}
use Rattle.vl_model.specs.declared.kind.Kind.TheVariants.{Input, Output, Inner, Register, Memory, Child}
use Rattle.vl_model.specs.Lines.{Line, port, item, leaf_lines, lookup, kind_passes, way_of, is_net, is_register, is_memory, is_driven, net_bits, word_bits}
use Rattle.vl_model.specs.Rules.{is_kind}
use Rattle.vl_model.specs.Leaf.{leaf_widths, AreSmall}
use Rattle.vl_model.specs.Settle.{reset_net}
use Rattle.vl_model.proofs.Settling.{one-name}
use Rattle.vl_model.proofs.Ordered.{kind-of}
use Rattle.vl_run.specs.declared.step.Step.{Step}
use Rattle.vl_run.specs.declared.program.Register as code_register
use Rattle.vl_run.specs.declared.program.Memory as code_memory
use Rattle.vl_run.specs.Step.{word_at}
use Rattle.vl_run.specs.Program.{reset_steps, registers_of, memories_of}
use Rattle.vl_run.specs.Places.{ArePlaces}
use Rattle.vl_run.specs.Start.{IsStart}
use Rattle.vl_run.specs.State.{Code, Kept}
use Rattle.vl_run.proofs.Acted.{ran-acted}
use Rattle.vl_run.proofs.Begun.{are-reset}
use Rattle.aig_model.specs.Form.{word}
use Rattle.aig_model.specs.FormOf.{AreBits, bits_from, flipped_bits, words_from, leaf_latches}
use Rattle.aig_model.specs.FormOf as form
use Rattle.aig_model.specs.Netlist.{Net}
use Rattle.aig_cycle.specs.Wires.{AreWords, AreRows}
use Rattle.aig_design.specs.Start.{has_place, kept_bits, register_place, is_narrow_register, fits_register, register_bits, memory_place, is_narrow_memory, FitsMemory, memory_bits}
use Rattle.aig_design.proofs.Rows.{length-bits}
use Rattle.aig_design.proofs.Named.{IsFirst, LeafNames, net_at, net-there, words_at, words-there, listed}

-- ---- numbers in a row

pub length-listed : (f : ℕ → ℕ) (j count : ℕ) → length (listed f j count) ≡ count
length-listed f j zero = refl
length-listed f j (suc count) = let e = length-listed f (j + 1) count in omega (arith, e)

pub listed-at : (f : ℕ → ℕ) (j count i : ℕ) → i < count → get_or (listed f j count) i 0 ≡ f (j + i)
listed-at f j zero i lt = absurd (omega (arith, lt))
listed-at f j (suc count) zero lt = let e : j ≡ j + 0 = omega arith in ap f e
listed-at f j (suc count) (suc i) lt =
    let e : j + 1 + i ≡ j + suc i = omega arith in
    listed-at f (j + 1) count i (omega (arith, lt)) ∙ ap f e

listed-all : (P : ℕ → Type 0) (f : ℕ → ℕ) (j count : ℕ) → ((i : ℕ) → P (f i)) → AllByRecursion P (listed f j count)
listed-all P f j zero h = tt
listed-all P f j (suc count) h = (h j, listed-all P f (j + 1) count h)

pub words-same : (f g : ℕ → ℕ) (h j count : ℕ) → ((i : ℕ) → i < j + count → f i ≡ g i) → words_from f h j count ≡ words_from g h j count
words-same f g h j zero same = refl
words-same f g h j (suc count) same =
    ap (λ x. bits_from x 0 (h + 1) ++ words_from f h (j + 1) count) (same j (omega arith))
    ∙ ap (λ z. bits_from (g j) 0 (h + 1) ++ z) (words-same f g h (j + 1) count (λ i lt. same i (omega (arith, lt))))

pub length-words : (f g : ℕ → ℕ) (h j count : ℕ) → length (words_from f h j count) ≡ length (words_from g h j count)
length-words f g h j zero = refl
length-words f g h j (suc count) =
    let a = length-append (bits_from (f j) 0 (h + 1)) (words_from f h (j + 1) count) in
    let b = length-append (bits_from (g j) 0 (h + 1)) (words_from g h (j + 1) count) in
    let c = length-bits (f j) 0 (h + 1) in
    let d = length-bits (g j) 0 (h + 1) in
    let e = length-words f g h (j + 1) count in
    omega (arith, a, b, c, d, e)

zeros-are : (n i : ℕ) → slice_index (replicate n 0) i ≡ 0
zeros-are zero i = refl
zeros-are (suc n) zero = refl
zeros-are (suc n) (suc i) = zeros-are n i

pub none-known : (n : Net) (k : ℕ) → AreWords n (replicate k [])
none-known n zero = tt
none-known n (suc k) = (record { known = tt; narrow = omega arith }, none-known n k)

pub no-rows-known : (n : Net) (k : ℕ) → AreRows n (replicate k [])
no-rows-known n zero = tt
no-rows-known n (suc k) = (tt, no-rows-known n k)

pub no-word-there : (v : ℕ → Bool) (k p : ℕ) → word v (get_or (replicate k []) p []) ≡ 0
no-word-there v zero p = refl
no-word-there v (suc k) zero = refl
no-word-there v (suc k) (suc p) = no-word-there v k p

or-true : (a : Bool) → (a || true) ≡ true
or-true true = refl
or-true false = refl

-- the registers of a state, and its memories
abbrev pub quiet : Leaf → Values → Values
quiet l u = record { net = λ n. if is_kind is_register (leaf_lines l) n then u.net n else 0; word = u.word }

abbrev pub quiet_of : Option Leaf → Values → Values
quiet_of None u = u
quiet_of (Some l) u = quiet l u

-- a register is not driven
pub register-free : (l : Leaf) (n : Name) → is_kind is_register (leaf_lines l) n ≡ true → is_kind is_driven (leaf_lines l) n ≡ false
register-free l n k = let what = kind-of is_register (leaf_lines l) n k in ap (kind_passes is_driven) what.1 ∙ kinds what.0.kind what.2
  where
    kinds : (k : Kind) → is_register k ≡ true → is_driven k ≡ false
    kinds Input e = refl
    kinds Output e = absurd (false≢true e)
    kinds Inner e = absurd (false≢true e)
    kinds Register e = refl
    kinds Memory e = refl
    kinds Child e = refl

-- ---- the registers among the items

module _ (l : Leaf) (names : LeafNames l) (s : Name → ℕ) (places : ArePlaces (leaf_lines l) s) where
  abbrev all : List Line
  all = leaf_lines l

  reg-is : (h : ℕ) (n : Name) → IsFirst all (reg h n) → is_kind is_register all n ≡ true
  reg-is h n e = ap (kind_passes is_register) e

  reg-net : (h : ℕ) (n : Name) → IsFirst all (reg h n) → is_kind is_net all n ≡ true
  reg-net h n e = ap (kind_passes is_net) e

  mem-is : (h : ℕ) (n : Name) (last : ℕ) → IsFirst all (mem h n last) → is_kind is_memory all n ≡ true
  mem-is h n last e = ap (kind_passes is_memory) e

  -- the number of a register at reset stands at its place
  pub reset-there : (p : Code) (k : Kept) → IsStart s l p k → (n : Name) → is_kind is_net all n ≡ true → slice_index k.nets (s n) ≡ reset_net l.items n
  reset-there p k st n net =
      let zeros : List ℕ = replicate {A = ℕ} (length k.nets) 0 in
      let long : length zeros ≡ length k.nets = length-replicate (length k.nets) 0 in
      let within : AllByRecursion (λ (z : Step). z.to < length zeros) (reset_steps s l.items) = subst (λ j. AllByRecursion (λ (z : Step). z.to < j) (reset_steps s l.items)) (sym long) st.resets in
      ap (λ z. slice_index z (s n)) st.nets ∙ ap (λ g. g (s n)) (ran-acted (word_at k.memories) (reset_steps s l.items) zeros within)
      ∙ are-reset all s places (word_at k.memories) l.items names.facts.ruled names.facts.moving.once n net (slice_index zeros) (zeros-are (length k.nets) (s n))

  module _ (u : Values) where
    abbrev H : ℕ → ℕ
    H p = net_at u.net (slice_get all p)

    abbrev M : ℕ → List ℕ
    M p = words_at u.word (slice_get all p)

    reg-number : (h : ℕ) (n : Name) → IsFirst all (reg h n) → H (s n) ≡ u.net n
    reg-number h n e = net-there all s places u.net n (record { name = n; kind = Register; high = h; last = 0 }) e

    mem-words : (h : ℕ) (n : Name) (last : ℕ) → IsFirst all (mem h n last) → M (s n) ≡ listed (u.word n) 0 (last + 1)
    mem-words h n last e = words-there all s places u.word n (record { name = n; kind = Memory; high = h; last = last }) e

    -- bits of registers at their places are those of the state
    pub registers-are : (resets : List ℕ) → ((n : Name) → is_kind is_net all n ≡ true → slice_index resets (s n) ≡ reset_net l.items n) → (is : List Item) → AllByRecursion (IsFirst all) is
        → kept_bits register_place (register_bits resets) H (registers_of s is) ≡ form.register_bits l.items u is
    registers-are resets at [] f = refl
    registers-are resets at (wire h n ∷ is) f = registers-are resets at is f.1
    registers-are resets at (mem h n last ∷ is) f = registers-are resets at is f.1
    registers-are resets at (assign n e ∷ is) f = registers-are resets at is f.1
    registers-are resets at (clocked n k e ∷ is) f = registers-are resets at is f.1
    registers-are resets at (store c n i e ∷ is) f = registers-are resets at is f.1
    registers-are resets at (reg h n ∷ is) f =
        let rest = kept_bits register_place (register_bits resets) H (registers_of s is) in
        ap (λ x. flipped_bits x (slice_index resets (s n)) 0 (h + 1) ++ rest) (reg-number h n f.0)
        ∙ ap (λ k. flipped_bits (u.net n) k 0 (h + 1) ++ rest) (at n (reg-net h n f.0))
        ∙ ap (λ z. flipped_bits (u.net n) (reset_net l.items n) 0 (h + 1) ++ z) (registers-are resets at is f.1)

    pub memories-are : (is : List Item) → AllByRecursion (IsFirst all) is → kept_bits memory_place memory_bits M (memories_of s is) ≡ form.memory_bits u is
    memories-are [] f = refl
    memories-are (wire h n ∷ is) f = memories-are is f.1
    memories-are (reg h n ∷ is) f = memories-are is f.1
    memories-are (assign n e ∷ is) f = memories-are is f.1
    memories-are (clocked n k e ∷ is) f = memories-are is f.1
    memories-are (store c n i e ∷ is) f = memories-are is f.1
    memories-are (mem h n last ∷ is) f =
        let rest = kept_bits memory_place memory_bits M (memories_of s is) in
        let here : words_from (λ j. slice_index (M (s n)) j) h 0 (last + 1) ≡ words_from (u.word n) h 0 (last + 1) =
        ap (λ row. words_from (λ j. slice_index row j) h 0 (last + 1)) (mem-words h n last f.0)
        ∙ words-same (λ j. slice_index (listed (u.word n) 0 (last + 1)) j) (u.word n) h 0 (last + 1)
        (λ i lt. let e : 0 + i ≡ i = omega arith in listed-at (u.word n) 0 (last + 1) i (omega (arith, lt)) ∙ ap (u.word n) e) in
        ap (λ z. z ++ rest) here ∙ ap (λ z. words_from (u.word n) h 0 (last + 1) ++ z) (memories-are is f.1)

    -- ---- they fit

    module _ (small : AreSmall (leaf_widths l) u) where
      pub registers-fit : (is : List Item) → AllByRecursion (IsFirst all) is → AllByRecursion (λ (r : code_register.Register). fits_register r (H (register_place r))) (registers_of s is)
      registers-fit [] f = tt
      registers-fit (wire h n ∷ is) f = registers-fit is f.1
      registers-fit (mem h n last ∷ is) f = registers-fit is f.1
      registers-fit (assign n e ∷ is) f = registers-fit is f.1
      registers-fit (clocked n k e ∷ is) f = registers-fit is f.1
      registers-fit (store c n i e ∷ is) f = registers-fit is f.1
      registers-fit (reg h n ∷ is) f =
          (subst (λ x. x < 2 ^ (h + 1)) (sym (reg-number h n f.0)) (subst (λ w. u.net n < 2 ^ w) (ap net_bits f.0) (small.net n)), registers-fit is f.1)

      pub memories-fit : (is : List Item) → AllByRecursion (IsFirst all) is → AllByRecursion (λ (m : code_memory.Memory). FitsMemory m (M (memory_place m))) (memories_of s is)
      memories-fit [] f = tt
      memories-fit (wire h n ∷ is) f = memories-fit is f.1
      memories-fit (reg h n ∷ is) f = memories-fit is f.1
      memories-fit (assign n e ∷ is) f = memories-fit is f.1
      memories-fit (clocked n k e ∷ is) f = memories-fit is f.1
      memories-fit (store c n i e ∷ is) f = memories-fit is f.1
      memories-fit (mem h n last ∷ is) f = (
        subst (FitsMemory (record { place = s n; high = h; last = last })) (sym (mem-words h n last f.0)) (record {
          count = length-listed (u.word n) 0 (last + 1);
          words = listed-all (λ x. x < 2 ^ (h + 1)) (u.word n) 0 (last + 1) (λ i. subst (λ w. u.word n i < 2 ^ w) (ap word_bits f.0) (small.word n i));
        }),
        memories-fit is f.1,
      )

  -- ---- they are narrow

  pub registers-narrow : (is : List Item) → AllByRecursion (IsFirst all) is → AllByRecursion is_narrow_register (registers_of s is)
  registers-narrow [] f = tt
  registers-narrow (wire h n ∷ is) f = registers-narrow is f.1
  registers-narrow (mem h n last ∷ is) f = registers-narrow is f.1
  registers-narrow (assign n e ∷ is) f = registers-narrow is f.1
  registers-narrow (clocked n k e ∷ is) f = registers-narrow is f.1
  registers-narrow (store c n i e ∷ is) f = registers-narrow is f.1
  registers-narrow (reg h n ∷ is) f =
      ((let w : h + 1 ≤ 64 = subst (λ k. k ≤ 64) (ap net_bits f.0) (names.facts.narrow.0 n) in omega (arith, w)), registers-narrow is f.1)

  pub memories-narrow : (is : List Item) → AllByRecursion (IsFirst all) is → AllByRecursion is_narrow_memory (memories_of s is)
  memories-narrow [] f = tt
  memories-narrow (wire h n ∷ is) f = memories-narrow is f.1
  memories-narrow (reg h n ∷ is) f = memories-narrow is f.1
  memories-narrow (assign n e ∷ is) f = memories-narrow is f.1
  memories-narrow (clocked n k e ∷ is) f = memories-narrow is f.1
  memories-narrow (store c n i e ∷ is) f = memories-narrow is f.1
  memories-narrow (mem h n last ∷ is) f =
      ((let w : h + 1 ≤ 64 = subst (λ k. k ≤ 64) (ap word_bits f.0) (names.facts.narrow.1 n) in omega (arith, w)), memories-narrow is f.1)

  -- ---- what is a register is among them

  abbrev AmongRegisters : Name → List Item → Type 0
  AmongRegisters n is = has_place register_place (registers_of s is) (s n) ≡ true

  register-among : (n : Name) (is : List Item) → kind_passes is_register (lookup (map item is) n) ≡ true → AmongRegisters n is
  register-among n [] k = absurd (false≢true k)
  register-among n (wire h m ∷ is) k = go (bytes_eq n m) k (register-among n is)
    where
      go : (b : Bool) → kind_passes is_register (if b then Some (record { name = m; kind = Inner; high = h; last = 0 }) else lookup (map item is) n) ≡ true → (kind_passes is_register (lookup (map item is) n) ≡ true → AmongRegisters n is) → AmongRegisters n is
      go true e later = absurd (false≢true e)
      go false e later = later e
  register-among n (reg h m ∷ is) k = go (bytes_eq n m) refl k (register-among n is)
    where
      go : (b : Bool) → bytes_eq n m ≡ b → kind_passes is_register (if b then Some (record { name = m; kind = Register; high = h; last = 0 }) else lookup (map item is) n) ≡ true → (kind_passes is_register (lookup (map item is) n) ≡ true → AmongRegisters n is)
          → ((s m == s n) || has_place register_place (registers_of s is) (s n)) ≡ true
      go true same e later = ap (λ z. (s z == s n) || has_place register_place (registers_of s is) (s n)) (sym (one-name n m same)) ∙ ap (λ b. b || has_place register_place (registers_of s is) (s n)) (eq-eqb (s n) (s n) refl)
      go false other e later = ap (λ b. (s m == s n) || b) (later e) ∙ or-true (s m == s n)
  register-among n (mem h m last ∷ is) k = go (bytes_eq n m) k (register-among n is)
    where
      go : (b : Bool) → kind_passes is_register (if b then Some (record { name = m; kind = Memory; high = h; last = last }) else lookup (map item is) n) ≡ true → (kind_passes is_register (lookup (map item is) n) ≡ true → AmongRegisters n is) → AmongRegisters n is
      go true e later = absurd (false≢true e)
      go false e later = later e
  register-among n (assign m e ∷ is) k = register-among n is k
  register-among n (clocked m c e ∷ is) k = register-among n is k
  register-among n (store c m i e ∷ is) k = register-among n is k

  abbrev AmongMemories : Name → List Item → Type 0
  AmongMemories n is = has_place memory_place (memories_of s is) (s n) ≡ true

  memory-among : (n : Name) (is : List Item) → kind_passes is_memory (lookup (map item is) n) ≡ true → AmongMemories n is
  memory-among n [] k = absurd (false≢true k)
  memory-among n (wire h m ∷ is) k = go (bytes_eq n m) k (memory-among n is)
    where
      go : (b : Bool) → kind_passes is_memory (if b then Some (record { name = m; kind = Inner; high = h; last = 0 }) else lookup (map item is) n) ≡ true → (kind_passes is_memory (lookup (map item is) n) ≡ true → AmongMemories n is) → AmongMemories n is
      go true e later = absurd (false≢true e)
      go false e later = later e
  memory-among n (mem h m last ∷ is) k = go (bytes_eq n m) refl k (memory-among n is)
    where
      go : (b : Bool) → bytes_eq n m ≡ b → kind_passes is_memory (if b then Some (record { name = m; kind = Memory; high = h; last = last }) else lookup (map item is) n) ≡ true → (kind_passes is_memory (lookup (map item is) n) ≡ true → AmongMemories n is)
          → ((s m == s n) || has_place memory_place (memories_of s is) (s n)) ≡ true
      go true same e later = ap (λ z. (s z == s n) || has_place memory_place (memories_of s is) (s n)) (sym (one-name n m same)) ∙ ap (λ b. b || has_place memory_place (memories_of s is) (s n)) (eq-eqb (s n) (s n) refl)
      go false other e later = ap (λ b. (s m == s n) || b) (later e) ∙ or-true (s m == s n)
  memory-among n (reg h m ∷ is) k = go (bytes_eq n m) k (memory-among n is)
    where
      go : (b : Bool) → kind_passes is_memory (if b then Some (record { name = m; kind = Register; high = h; last = 0 }) else lookup (map item is) n) ≡ true → (kind_passes is_memory (lookup (map item is) n) ≡ true → AmongMemories n is) → AmongMemories n is
      go true e later = absurd (false≢true e)
      go false e later = later e
  memory-among n (assign m e ∷ is) k = memory-among n is k
  memory-among n (clocked m c e ∷ is) k = memory-among n is k
  memory-among n (store c m i e ∷ is) k = memory-among n is k

  behind-ports : (test : Kind → Bool) → ((b : Bool) → test (way_of b) ≡ false) → (n : Name) (ps : List Port) → kind_passes test (lookup (map port ps ++ map item l.items) n) ≡ true → kind_passes test (lookup (map item l.items) n) ≡ true
  behind-ports test never n [] k = k
  behind-ports test never n (p ∷ ps) k = go (bytes_eq n p.name) k (behind-ports test never n ps)
    where
      go : (b : Bool) → kind_passes test (if b then Some (record { name = p.name; kind = way_of p.output; high = p.high; last = 0 }) else lookup (map port ps ++ map item l.items) n) ≡ true
          → (kind_passes test (lookup (map port ps ++ map item l.items) n) ≡ true → kind_passes test (lookup (map item l.items) n) ≡ true) → kind_passes test (lookup (map item l.items) n) ≡ true
      go true e later = absurd (both_ways (test (way_of p.output)) (never p.output) e)
      go false e later = later e

  no-register : (b : Bool) → is_register (way_of b) ≡ false
  no-register true = refl
  no-register false = refl

  no-memory : (b : Bool) → is_memory (way_of b) ≡ false
  no-memory true = refl
  no-memory false = refl

  pub is-among : (n : Name) → is_kind is_register all n ≡ true → AmongRegisters n l.items
  is-among n k = register-among n l.items (behind-ports is_register no-register n l.ports k)

  pub memory-is-among : (n : Name) → is_kind is_memory all n ≡ true → AmongMemories n l.items
  memory-is-among n k = memory-among n l.items (behind-ports is_memory no-memory n l.ports k)
