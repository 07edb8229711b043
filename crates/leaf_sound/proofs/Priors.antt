-- What the heads of a leaf use stands before it, and its moves declare nothing.
use Rattle.std.proofs.Common.{◌≡◌, ℕ, zero, suc, ◌+◌, ◌-◌, ◌^◌, ◌<◌, ◌≤◌, ◌⊎◌, inl, inr, Bool, true, false, List, [], ◌∷◌, ◌++◌, refl, sym, ap, subst, arith, Option, Some, None, flat_map, if◌then◌else◌, append_assoc}
use Rattle.std.proofs.lemmas.List.{append-nil}
use Rattle.std.specs.List.{AllByRecursion}
use Rattle.vl_tree.specs.declared.tree.Op.TheVariants.{Equal}
use Rattle.vl_tree.specs.Values.{Name, Expr, Item, wire, reg, mem, assign, clocked, store, net, word, two}
use Rattle.vl_model.specs.Meaning.{Use, nets_of, uses_of, one_if}
use Rattle.vl_model.proofs.Settling.{itself}
use Rattle.gen_kit.specs.Families.{for_each, in_bits}
use Rattle.gen_kit.specs.Groups.{Group}
use Rattle.gen_buffer.specs.Fifo.{FifoNames, fifo_nets, fifo_moves, steps_by, clocked_from_zero, next_count}
use Rattle.leaf_tie.specs.Buffers.{BufferSize, buffer_group}
use Rattle.leaf_tie.specs.Whole.{each_group, to_neighbour}
use Rattle.leaf_sound.proofs.Evened.{declares, declares-append}
use Rattle.leaf_sound.proofs.Rising.{flat-append}

-- each name is declared by these items
abbrev pub Before : List Item → List Name → Type 0
Before is ns = AllByRecursion (λ m. 1 ≤ declares m is) ns

abbrev pub BeforeUses : List Item → List Use → Type 0
BeforeUses is us = AllByRecursion (λ (u : Use). (1 ≤ declares u.memory is) × Before is (nets_of u.index)) us

abbrev pub UsesBefore : List Item → Item → Type 0
UsesBefore is (wire h n) = Unit {0}
UsesBefore is (reg h n) = Unit {0}
UsesBefore is (mem h n last) = Unit {0}
UsesBefore is (assign n e) = (1 ≤ declares n is) × Before is (nets_of e) × BeforeUses is (uses_of e)
UsesBefore is (clocked n k e) = (1 ≤ declares n is) × Before is (nets_of e) × BeforeUses is (uses_of e)
UsesBefore is (store c n i e) = (1 ≤ declares n is) × Before is (nets_of c) × BeforeUses is (uses_of c) × Before is (nets_of i) × BeforeUses is (uses_of i) × Before is (nets_of e) × BeforeUses is (uses_of e)

abbrev pub Prior : List Item → List Item → Type 0
Prior before [] = Unit {0}
Prior before (x ∷ xs) = UsesBefore before x × Prior (before ++ x ∷ []) xs

pub prior-join : (before a b : List Item) → Prior before a → Prior (before ++ a) b → Prior before (a ++ b)
prior-join before [] b x y = subst (λ z. Prior z b) (append-nil before) y
prior-join before (i ∷ a) b x y = (x.0, prior-join (before ++ i ∷ []) a b x.1 (subst (λ z. Prior z b) (sym (append_assoc before (i ∷ []) a)) y))

-- behind any items that declare these names
pub record Priors (W : Name → Type 0) (is : List Item) : Type 0 where
  pub all : (before : List Item) → ((m : Name) → W m → 1 ≤ declares m before) → Prior before is

more-before : (before a : List Item) (m : Name) → 1 ≤ declares m before → 1 ≤ declares m (before ++ a)
more-before before a m some = let split = declares-append m before a in omega (arith, split, some)

pub priors-nil : {W : Name → Type 0} → Priors W []
priors-nil = record { all = λ before has. tt }

pub priors-wire : {W : Name → Type 0} {h : ℕ} {n : Name} {is : List Item} → Priors W is → Priors W (wire h n ∷ is)
priors-wire {W} {h} {n} x = record { all = λ before has. (tt, x.all (before ++ wire h n ∷ []) (λ m w. more-before before (wire h n ∷ []) m (has m w))) }

pub priors-reg : {W : Name → Type 0} {h : ℕ} {n : Name} {is : List Item} → Priors W is → Priors W (reg h n ∷ is)
priors-reg {W} {h} {n} x = record { all = λ before has. (tt, x.all (before ++ reg h n ∷ []) (λ m w. more-before before (reg h n ∷ []) m (has m w))) }

-- what the first part declares, the second may use
pub priors-then : {W : Name → Type 0} {a b : List Item} → Priors W a → Priors (λ m. W m ⊎ (1 ≤ declares m a)) b → Priors W (a ++ b)
priors-then {W} {a} {b} x y = record { all = λ before has. prior-join before a b (x.all before has) (y.all (before ++ a) (λ m w. (let split = declares-append m before a in both before has m w))) }
  where
    both : (before : List Item) → ((m : Name) → W m → 1 ≤ declares m before) → (m : Name) → W m ⊎ (1 ≤ declares m a) → 1 ≤ declares m (before ++ a)
    both before has m (inl w) = more-before before a m (has m w)
    both before has m (inr some) = let split = declares-append m before a in omega (arith, split, some)

pub priors-join : {W : Name → Type 0} {a b : List Item} → Priors W a → Priors W b → Priors W (a ++ b)
priors-join {W} {a} {b} x y = record { all = λ before has. prior-join before a b (x.all before has) (y.all (before ++ a) (λ m w. more-before before a m (has m w))) }

pub priors-each : {W : Name → Type 0} {f : ℕ → List Item} (n : ℕ) → ((k : ℕ) → k < n → Priors W (f k)) → Priors W (for_each n f)
priors-each zero h = priors-nil
priors-each (suc n) h = priors-join (priors-each n (λ k less. h k (omega arith))) (h n (omega arith))

-- ---- a buffer

fresh-wire : (before : List Item) (h : ℕ) (n : Name) → 1 ≤ declares n (before ++ wire h n ∷ [])
fresh-wire before h n = let split = declares-append n before (wire h n ∷ []) in let one = ap one_if (itself n) in omega (arith, split, one)

fresh-reg : (before : List Item) (h : ℕ) (n : Name) → 1 ≤ declares n (before ++ reg h n ∷ [])
fresh-reg before h n = let split = declares-append n before (reg h n ∷ []) in let one = ap one_if (itself n) in omega (arith, split, one)

fresh-mem : (before : List Item) (h : ℕ) (n : Name) (last : ℕ) → 1 ≤ declares n (before ++ mem h n last ∷ [])
fresh-mem before h n last = let split = declares-append n before (mem h n last ∷ []) in let one = ap one_if (itself n) in omega (arith, split, one)

-- the names of a buffer are declared
record Have (a : FifoNames) (is : List Item) : Type 0 where
  push : 1 ≤ declares a.push is
  pop : 1 ≤ declares a.pop is
  memory : 1 ≤ declares a.memory is
  read : 1 ≤ declares a.read is
  write : 1 ≤ declares a.write is
  count : 1 ≤ declares a.count is
  word : 1 ≤ declares a.word is

grown : {a : FifoNames} {is : List Item} (x : Item) → Have a is → Have a (is ++ x ∷ [])
grown {a} {is} x h = record {
  push = more-before is (x ∷ []) a.push h.push;
  pop = more-before is (x ∷ []) a.pop h.pop;
  memory = more-before is (x ∷ []) a.memory h.memory;
  read = more-before is (x ∷ []) a.read h.read;
  write = more-before is (x ∷ []) a.write h.write;
  count = more-before is (x ∷ []) a.count h.count;
  word = more-before is (x ∷ []) a.word h.word;
}

moves-prior : (a : FifoNames) (bh lh : ℕ) (is : List Item) → Have a is → Prior is (fifo_moves a bh lh)
moves-prior a bh lh is h1 =
    let h2 = grown (steps_by bh a.read a.pop) h1 in
    let h3 = grown (steps_by bh a.write a.push) h2 in
    let h4 = grown (clocked_from_zero lh a.count (next_count a lh)) h3 in (
      (h1.read, (h1.pop, (h1.read, (h1.read, tt))), tt),
      (
        (h2.write, (h2.push, (h2.write, (h2.write, tt))), tt),
        (
          (h3.count, (h3.push, (h3.pop, (h3.count, (h3.count, (h3.pop, (h3.count, (h3.count, tt))))))), tt),
          ((h4.memory, (h4.push, tt), tt, (h4.write, tt), tt, (h4.word, tt), tt), tt),
        ),
      ),
    )

nets-prior : (a : FifoNames) (bh lh wh : ℕ) (is : List Item) → Have a is → Prior is (fifo_nets a lh wh ++ fifo_moves a bh lh)
nets-prior a bh lh wh is h1 =
    let h2 = grown (wire wh a.front) h1 in
    let h3 = grown (assign a.front (word a.memory (net a.read))) h2 in
    let h4 = grown (wire 0 a.empty) h3 in
    let h5 = grown (assign a.empty (two Equal (net a.count) (in_bits (lh + 1) 0))) h4 in (
      tt,
      (
        (fresh-wire is wh a.front, (h2.read, tt), ((h2.memory, (h2.read, tt)), tt)),
        (
          tt,
          (
            (fresh-wire ((is ++ wire wh a.front ∷ []) ++ assign a.front (word a.memory (net a.read)) ∷ []) 0 a.empty, (h4.count, tt), tt),
            moves-prior a bh lh ((((is ++ wire wh a.front ∷ []) ++ assign a.front (word a.memory (net a.read)) ∷ []) ++ wire 0 a.empty ∷ []) ++ assign a.empty (two Equal (net a.count) (in_bits (lh + 1) 0)) ∷ []) h5,
          ),
        ),
      ),
    )

have-all : (a : FifoNames) (z : BufferSize) (is : List Item) → 1 ≤ declares a.word is
    → Have a ((((((is ++ wire 0 a.push ∷ []) ++ wire 0 a.pop ∷ []) ++ mem z.wh a.memory (2 ^ (z.bh + 1) - 1) ∷ []) ++ reg z.bh a.read ∷ []) ++ reg z.bh a.write ∷ []) ++ reg z.lh a.count ∷ [])
have-all a z is some =
    let b1 = is ++ wire 0 a.push ∷ [] in
    let b2 = b1 ++ wire 0 a.pop ∷ [] in
    let b3 = b2 ++ mem z.wh a.memory (2 ^ (z.bh + 1) - 1) ∷ [] in
    let b4 = b3 ++ reg z.bh a.read ∷ [] in
    let b5 = b4 ++ reg z.bh a.write ∷ [] in
    let more : (m : Name) (b : List Item) (x : Item) → 1 ≤ declares m b → 1 ≤ declares m (b ++ x ∷ []) = λ m b x h. more-before b (x ∷ []) m h in
    record {
      push = more a.push b5 (reg z.lh a.count) (more a.push b4 (reg z.bh a.write) (more a.push b3 (reg z.bh a.read) (more a.push b2 (mem z.wh a.memory (2 ^ (z.bh + 1) - 1)) (more a.push b1 (wire 0 a.pop) (fresh-wire is 0 a.push)))));
      pop = more a.pop b5 (reg z.lh a.count) (more a.pop b4 (reg z.bh a.write) (more a.pop b3 (reg z.bh a.read) (more a.pop b2 (mem z.wh a.memory (2 ^ (z.bh + 1) - 1)) (fresh-wire b1 0 a.pop))));
      memory = more a.memory b5 (reg z.lh a.count) (more a.memory b4 (reg z.bh a.write) (more a.memory b3 (reg z.bh a.read) (fresh-mem b2 z.wh a.memory (2 ^ (z.bh + 1) - 1))));
      read = more a.read b5 (reg z.lh a.count) (more a.read b4 (reg z.bh a.write) (fresh-reg b3 z.bh a.read));
      write = more a.write b5 (reg z.lh a.count) (fresh-reg b4 z.bh a.write);
      count = fresh-reg b5 z.lh a.count;
      word = more a.word b5 (reg z.lh a.count) (more a.word b4 (reg z.bh a.write) (more a.word b3 (reg z.bh a.read) (more a.word b2 (mem z.wh a.memory (2 ^ (z.bh + 1) - 1)) (more a.word b1 (wire 0 a.pop) (more a.word is (wire 0 a.push) some)))));
    }

pub buffer-priors : {W : Name → Type 0} (a : FifoNames) (z : BufferSize) (push pop : Expr) → W a.word → Priors W (buffer_group a z push pop).heads
buffer-priors {W} a z push pop its = record {
  all = λ before has.
      (tt, (tt, (tt, (tt, (tt, (tt, nets-prior a z.bh z.lh z.wh ((((((before ++ wire 0 a.push ∷ []) ++ wire 0 a.pop ∷ []) ++ mem z.wh a.memory (2 ^ (z.bh + 1) - 1) ∷ []) ++ reg z.bh a.read ∷ []) ++ reg z.bh a.write ∷ []) ++ reg z.lh a.count ∷ []) (have-all a z before (has a.word its))))))));
}

-- ---- groups

pub record GroupsPrior (W : Name → Type 0) (gs : List Group) : Type 0 where
  pub its : Priors W (flat_map (λ (g : Group). g.heads) gs)

pub no-groups : {W : Name → Type 0} → GroupsPrior W []
no-groups = record { its = priors-nil }

pub group-next : {W : Name → Type 0} {g : Group} {gs : List Group} → Priors W g.heads → GroupsPrior W gs → GroupsPrior W (g ∷ gs)
group-next x more = record { its = priors-join x more.its }

pub group-then : {W : Name → Type 0} {g : Group} {gs : List Group} → Priors W g.heads → GroupsPrior (λ m. W m ⊎ (1 ≤ declares m g.heads)) gs → GroupsPrior W (g ∷ gs)
group-then x more = record { its = priors-then x more.its }

pub groups-join : {W : Name → Type 0} {xs ys : List Group} → GroupsPrior W xs → GroupsPrior W ys → GroupsPrior W (xs ++ ys)
groups-join {W} {xs} {ys} a b = record { its = subst (Priors W) (sym (flat-append (λ (g : Group). g.heads) xs ys)) (priors-join a.its b.its) }

pub groups-then : {W : Name → Type 0} {xs ys : List Group} → GroupsPrior W xs → GroupsPrior (λ m. W m ⊎ (1 ≤ declares m (flat_map (λ (g : Group). g.heads) xs))) ys → GroupsPrior W (xs ++ ys)
groups-then {W} {xs} {ys} a b = record { its = subst (Priors W) (sym (flat-append (λ (g : Group). g.heads) xs ys)) (priors-then a.its b.its) }

pub groups-each : {W : Name → Type 0} {f : ℕ → List Group} (n : ℕ) → ((k : ℕ) → k < n → GroupsPrior W (f k)) → GroupsPrior W (each_group n f)
groups-each zero h = no-groups
groups-each (suc n) h = groups-join (groups-each n (λ k less. h k (omega arith))) (h n (omega arith))

pub groups-if : {W : Name → Type 0} {xs ys : List Group} (b : Bool) → (b ≡ true → GroupsPrior W xs) → (b ≡ false → GroupsPrior W ys) → GroupsPrior W (if b then xs else ys)
groups-if true a b = a refl
groups-if false a b = b refl

pub groups-neighbour : {W : Name → Type 0} {f : ℕ → List Group} (x : Option ℕ) → ((m : ℕ) → x ≡ Some m → GroupsPrior W (f m)) → GroupsPrior W (to_neighbour f x)
groups-neighbour None h = no-groups
groups-neighbour (Some m) h = h m refl
