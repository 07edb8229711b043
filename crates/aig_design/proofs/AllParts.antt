-- All instances: how many variables they take, what their words stand for, and which bits they end with.
use Rattle.std.proofs.Common.{◌≡◌, ℕ, ◌+◌, ◌≤◌, Bool, true, false, List, [], ◌∷◌, ◌++◌, length, map, Option, refl, ◌∙◌, ap, arith}
use Rattle.std.specs.Prelude.{Some, None}
use Rattle.std.specs.List.{AllByRecursion}
use Rattle.std.proofs.lemmas.List.{length-append}
use Rattle.vl_tree.specs.declared.tree.TopItem.{TopItem}
use Rattle.vl_tree.specs.declared.tree.TopItem.TheVariants.{Wire, Instance}
use Rattle.vl_tree.specs.Values.{Name, Item, wire, reg, mem, assign, clocked, store, Leaf}
use Rattle.vl_model.specs.Meaning.{Values}
use Rattle.vl_model.specs.Lines.{leaf_lines, leaf_named, kind_passes, is_register, is_memory}
use Rattle.vl_model.specs.Rules.{is_kind}
use Rattle.vl_model.specs.Leaf.{leaf_widths, AreSmall}
use Rattle.vl_model.specs.Settle.{reset_net}
use Rattle.vl_model.specs.Whole.{Of}
use Rattle.vl_model.proofs.Tops.{Each}
use Rattle.vl_run.specs.State.{Code, Part, part_settled, part_edged}
use Rattle.vl_run.specs.Stands.{StandsAt, AllStand}
use Rattle.vl_run.specs.Fresh.{FreshAt, AllFresh}
use Rattle.aig_model.specs.FormOf.{AreBits, flipped_bits, words_from, leaf_latches, all_latches}
use Rattle.aig_model.specs.FormOf as form
use Rattle.aig_model.specs.Netlist.{Net}
use Rattle.aig_cycle.specs.Steps.{Wired, part_as, IsWired, AreWired}
use Rattle.aig_cycle.specs.Latches.{part_bits}
use Rattle.aig_design.specs.Start.{AreLaid, instance_bits}
use Rattle.aig_design.proofs.Bits.{bits-both, bits-behind}
use Rattle.aig_design.proofs.Named.{IsFirst, LeafNames}
use Rattle.aig_design.proofs.Stood.{words-same}
use Rattle.aig_design.proofs.OnePart.{count-one, known-one, stands-one, ends-one}

-- ---- states with the same registers and memories

pub registers-alike : (all : List Item) (a b : Values) (l : Leaf) → ((n : Name) → is_kind is_register (leaf_lines l) n ≡ true → a.net n ≡ b.net n) → (is : List Item) → AllByRecursion (IsFirst (leaf_lines l)) is
    → form.register_bits all a is ≡ form.register_bits all b is
registers-alike all a b l same [] f = refl
registers-alike all a b l same (wire h n ∷ is) f = registers-alike all a b l same is f.1
registers-alike all a b l same (mem h n last ∷ is) f = registers-alike all a b l same is f.1
registers-alike all a b l same (assign n e ∷ is) f = registers-alike all a b l same is f.1
registers-alike all a b l same (clocked n k e ∷ is) f = registers-alike all a b l same is f.1
registers-alike all a b l same (store c n i e ∷ is) f = registers-alike all a b l same is f.1
registers-alike all a b l same (reg h n ∷ is) f =
    ap (λ x. flipped_bits x (reset_net all n) 0 (h + 1) ++ form.register_bits all a is) (same n (ap (kind_passes is_register) f.0))
    ∙ ap (λ z. flipped_bits (b.net n) (reset_net all n) 0 (h + 1) ++ z) (registers-alike all a b l same is f.1)

pub memories-alike : (a b : Values) (l : Leaf) → ((n : Name) → is_kind is_memory (leaf_lines l) n ≡ true → (i : ℕ) → a.word n i ≡ b.word n i) → (is : List Item) → AllByRecursion (IsFirst (leaf_lines l)) is
    → form.memory_bits a is ≡ form.memory_bits b is
memories-alike a b l same [] f = refl
memories-alike a b l same (wire h n ∷ is) f = memories-alike a b l same is f.1
memories-alike a b l same (reg h n ∷ is) f = memories-alike a b l same is f.1
memories-alike a b l same (assign n e ∷ is) f = memories-alike a b l same is f.1
memories-alike a b l same (clocked n k e ∷ is) f = memories-alike a b l same is f.1
memories-alike a b l same (store c n i e ∷ is) f = memories-alike a b l same is f.1
memories-alike a b l same (mem h n last ∷ is) f =
    ap (λ z. z ++ form.memory_bits a is) (words-same (a.word n) (b.word n) h 0 (last + 1) (λ i lt. same n (ap (kind_passes is_memory) f.0) i))
    ∙ ap (λ z. words_from (b.word n) h 0 (last + 1) ++ z) (memories-alike a b l same is f.1)

-- one state of registers and memories
pub record IsAlike (l : Leaf) (a b : Values) : Type 0 where
  pub register : (n : Name) → is_kind is_register (leaf_lines l) n ≡ true → a.net n ≡ b.net n
  pub memory : (n : Name) → is_kind is_memory (leaf_lines l) n ≡ true → (i : ℕ) → a.word n i ≡ b.word n i

pub latches-alike : (l : Leaf) → LeafNames l → (a b : Values) → IsAlike l a b → leaf_latches (Some l) a ≡ leaf_latches (Some l) b
latches-alike l names a b same =
    ap (λ z. z ++ form.memory_bits a l.items) (registers-alike l.items a b l same.register l.items names.first)
    ∙ ap (λ z. form.register_bits l.items b l.items ++ z) (memories-alike a b l same.memory l.items names.first)

-- a state in which only registers and memories have numbers, and small ones
pub record IsStill (l : Leaf) (b : Values) : Type 0 where
  pub small : AreSmall (leaf_widths l) b
  pub still : (n : Name) → is_kind is_register (leaf_lines l) n ≡ false → b.net n ≡ 0

-- ---- codes

abbrev pub codes : List Part → List Code
codes xs = map (λ (x : Part). x.code) xs

first-code : (x y : Part) (xs ys : List Part) → codes (y ∷ ys) ≡ codes (x ∷ xs) → y.code ≡ x.code
first-code x y xs ys e = ap (λ cs. code-or x.code cs) e
  where
    code-or : Code → List Code → Code
    code-or c [] = c
    code-or c (d ∷ ds) = d

rest-codes : (x y : Part) (xs ys : List Part) → codes (y ∷ ys) ≡ codes (x ∷ xs) → codes ys ≡ codes xs
rest-codes x y xs ys e = ap (λ cs. rest cs) e
  where
    rest : List Code → List Code
    rest [] = []
    rest (c ∷ cs) = cs

-- words have the codes of the instances that they are laid for
pub laid-codes : (v : ℕ → Bool) (first next : ℕ) (xs : List Part) (ws : List Wired) (rs : List (List ℕ)) → AreLaid first next xs ws rs → codes (map (part_as v) ws) ≡ codes xs
laid-codes v first next [] [] [] d = refl
laid-codes v first next [] [] (r ∷ rs) d = refl
laid-codes v first next [] (w ∷ ws) rs d = absurd d
laid-codes v first next (x ∷ xs) [] rs d = absurd d
laid-codes v first next (x ∷ xs) (w ∷ ws) [] d = absurd d
laid-codes v first next (x ∷ xs) (w ∷ ws) (r ∷ rs) d = ap (λ c. c ∷ codes (map (part_as v) ws)) d.laid.code ∙ ap (λ cs. x.code ∷ cs) (laid-codes v d.middle next xs ws rs d.rest)

pub settled-codes : (xs : List Part) → codes (map part_settled xs) ≡ codes xs
settled-codes [] = refl
settled-codes (x ∷ xs) = ap (λ cs. x.code ∷ cs) (settled-codes xs)

pub edged-codes : (tops : List ℕ) (xs : List Part) → codes (map (part_edged tops) xs) ≡ codes xs
edged-codes tops [] = refl
edged-codes tops (x ∷ xs) = ap (λ cs. x.code ∷ cs) (edged-codes tops xs)

-- ---- instances, one by one

module _ (t : Name → ℕ) (ls : List Leaf) where
  abbrev Named : List TopItem → Type 0
  Named is = Each ls (λ l n js. LeafNames l) is

  pub all-alike : (a b : Name → Values) (is : List TopItem) → Named is → Each ls (λ l n js. IsAlike l (a n) (b n)) is → all_latches ls a is ≡ all_latches ls b is
  all-alike a b [] k e = refl
  all-alike a b (Wire h n ∷ is) k e = all-alike a b is k.1 e.1
  all-alike a b (Instance l n js ∷ is) k e =
      ap (λ z. z ++ all_latches ls a is) (go (leaf_named ls l) k.0 e.0) ∙ ap (λ z. leaf_latches (leaf_named ls l) (b n) ++ z) (all-alike a b is k.1 e.1)
    where
      go : (o : Option Leaf) → Of o (λ y. LeafNames y) → Of o (λ y. IsAlike y (a n) (b n)) → leaf_latches o (a n) ≡ leaf_latches o (b n)
      go None k e = absurd k
      go (Some y) k e = latches-alike y k (a n) (b n) e

  -- how many variables all instances take
  pub count-all : (a : Name → Values) (is : List TopItem) → Named is → (first next : ℕ) (xs : List Part) (ws : List Wired) (rs : List (List ℕ)) → AllFresh t ls is xs → AreLaid first next xs ws rs → next ≡ first + length (all_latches ls a is)
  count-all a [] k first next [] [] [] f d = d ∙ omega arith
  count-all a [] k first next [] [] (r ∷ rs) f d = absurd d
  count-all a [] k first next [] (w ∷ ws) rs f d = absurd d
  count-all a [] k first next (x ∷ xs) ws rs f d = cc
  count-all a (Wire h n ∷ is) k first next xs ws rs f d = count-all a is k.1 first next xs ws rs f d
  count-all a (Instance l n js ∷ is) k first next [] ws rs f d = absurd f
  count-all a (Instance l n js ∷ is) k first next (x ∷ xs) [] rs f d = absurd d
  count-all a (Instance l n js ∷ is) k first next (x ∷ xs) (w ∷ ws) [] f d = absurd d
  count-all a (Instance l n js ∷ is) k first next (x ∷ xs) (w ∷ ws) (r ∷ rs) f d =
      let one = go (leaf_named ls l) k.0 f.0 in
      let rest = count-all a is k.1 d.middle next xs ws rs f.1 d.rest in
      let both = length-append (leaf_latches (leaf_named ls l) (a n)) (all_latches ls a is) in
      omega (arith, one, rest, both)
    where
      go : (o : Option Leaf) → Of o (λ y. LeafNames y) → FreshAt t o js x → d.middle ≡ first + length (leaf_latches o (a n))
      go None k f = absurd k
      go (Some y) k f = count-one t y js k x f first d.middle w d.laid (a n)

  -- their words are of each net behind them
  pub known-all : (n : Net) (is : List TopItem) → Named is → (first next : ℕ) (xs : List Part) (ws : List Wired) (rs : List (List ℕ)) → AllFresh t ls is xs → AreLaid first next xs ws rs → next ≤ n.start → AreWired n ws
  known-all n [] k first next [] [] [] f d le = tt
  known-all n [] k first next [] [] (r ∷ rs) f d le = tt
  known-all n [] k first next [] (w ∷ ws) rs f d le = absurd d
  known-all n [] k first next (x ∷ xs) ws rs f d le = cc
  known-all n (Wire h m ∷ is) k first next xs ws rs f d le = known-all n is k.1 first next xs ws rs f d le
  known-all n (Instance l m js ∷ is) k first next [] ws rs f d le = absurd f
  known-all n (Instance l m js ∷ is) k first next (x ∷ xs) [] rs f d le = absurd d
  known-all n (Instance l m js ∷ is) k first next (x ∷ xs) (w ∷ ws) [] f d le = absurd d
  known-all n (Instance l m js ∷ is) k first next (x ∷ xs) (w ∷ ws) (r ∷ rs) f d le =
      (go (leaf_named ls l) k.0 f.0, known-all n is k.1 d.middle next xs ws rs f.1 d.rest le)
    where
      lower : d.middle ≤ n.start
      lower = let rest = count-all (λ i. record { net = λ j. 0; word = λ j k. 0 }) is k.1 d.middle next xs ws rs f.1 d.rest in omega (arith, rest, le)

      go : (o : Option Leaf) → Of o (λ y. LeafNames y) → FreshAt t o js x → IsWired n w
      go None k f = absurd k
      go (Some y) k f = known-one t y js k x f first d.middle w d.laid n lower

  -- where the variables have the bits of such a state, all instances stand at it
  pub stand-all : (v : ℕ → Bool) (b : Name → Values) (is : List TopItem) → Named is → Each ls (λ l n js. IsStill l (b n)) is → (first next : ℕ) (xs : List Part) (ws : List Wired) (rs : List (List ℕ))
      → AllFresh t ls is xs → AreLaid first next xs ws rs → AreBits (all_latches ls b is) (λ j. v (first + j)) 0 → AllStand t ls b is (map (part_as v) ws)
  stand-all v b [] k e first next [] [] [] f d bits = refl
  stand-all v b [] k e first next [] [] (r ∷ rs) f d bits = refl
  stand-all v b [] k e first next [] (w ∷ ws) rs f d bits = absurd d
  stand-all v b [] k e first next (x ∷ xs) ws rs f d bits = cc
  stand-all v b (Wire h n ∷ is) k e first next xs ws rs f d bits = stand-all v b is k.1 e.1 first next xs ws rs f d bits
  stand-all v b (Instance l n js ∷ is) k e first next [] ws rs f d bits = absurd f
  stand-all v b (Instance l n js ∷ is) k e first next (x ∷ xs) [] rs f d bits = absurd d
  stand-all v b (Instance l n js ∷ is) k e first next (x ∷ xs) (w ∷ ws) [] f d bits = absurd d
  stand-all v b (Instance l n js ∷ is) k e first next (x ∷ xs) (w ∷ ws) (r ∷ rs) f d bits = (
    go (leaf_named ls l) k.0 e.0 f.0 (bits-both (leaf_latches (leaf_named ls l) (b n)) (all_latches ls b is) (λ j. v (first + j)) 0 bits).0,
    stand-all v b is k.1 e.1 d.middle next xs ws rs f.1 d.rest
        (bits-behind (leaf_latches (leaf_named ls l) (b n)) (all_latches ls b is) v first d.middle (count (leaf_named ls l) k.0 f.0) bits),
  )
    where
      count : (o : Option Leaf) → Of o (λ y. LeafNames y) → FreshAt t o js x → d.middle ≡ first + length (leaf_latches o (b n))
      count None k f = absurd k
      count (Some y) k f = count-one t y js k x f first d.middle w d.laid (b n)

      go : (o : Option Leaf) → Of o (λ y. LeafNames y) → Of o (λ y. IsStill y (b n)) → FreshAt t o js x → AreBits (leaf_latches o (b n)) (λ j. v (first + j)) 0 → StandsAt t o js (part_as v w) (b n)
      go None k e f bits = absurd k
      go (Some y) k e f bits = stands-one t y js k x f first d.middle w d.laid v (b n) e.still e.small bits

  -- instances that stand at a state have its bits
  pub ends-all : (u : Name → ℕ) (b : Name → Values) (is : List TopItem) → Named is → (first next : ℕ) (xs : List Part) (ws : List Wired) (rs : List (List ℕ)) (ys : List Part)
      → AllFresh t ls is xs → AreLaid first next xs ws rs → codes ys ≡ codes xs → AllStand u ls b is ys → instance_bits rs ys ≡ all_latches ls b is
  ends-all u b [] k first next [] [] [] ys f d e h = refl
  ends-all u b [] k first next [] [] (r ∷ rs) ys f d e h = absurd d
  ends-all u b [] k first next [] (w ∷ ws) rs ys f d e h = absurd d
  ends-all u b [] k first next (x ∷ xs) ws rs ys f d e h = cc
  ends-all u b (Wire h n ∷ is) k first next xs ws rs ys f d e s = ends-all u b is k.1 first next xs ws rs ys f d e s
  ends-all u b (Instance l n js ∷ is) k first next [] ws rs ys f d e h = absurd f
  ends-all u b (Instance l n js ∷ is) k first next (x ∷ xs) [] rs ys f d e h = absurd d
  ends-all u b (Instance l n js ∷ is) k first next (x ∷ xs) (w ∷ ws) [] ys f d e h = absurd d
  ends-all u b (Instance l n js ∷ is) k first next (x ∷ xs) (w ∷ ws) (r ∷ rs) [] f d e h = absurd h
  ends-all u b (Instance l n js ∷ is) k first next (x ∷ xs) (w ∷ ws) (r ∷ rs) (y ∷ ys) f d e h =
      ap (λ z. part_bits z y ++ instance_bits rs ys) d.at_reset
      ∙ ap (λ z. z ++ instance_bits rs ys) (go (leaf_named ls l) k.0 f.0 h.0)
      ∙ ap (λ z. leaf_latches (leaf_named ls l) (b n) ++ z) (ends-all u b is k.1 d.middle next xs ws rs ys f.1 d.rest (rest-codes x y xs ys e) h.1)
    where
      go : (o : Option Leaf) → Of o (λ q. LeafNames q) → FreshAt t o js x → StandsAt u o js y (b n) → part_bits x.kept.nets y ≡ leaf_latches o (b n)
      go None k f s = absurd k
      go (Some q) k f s = ends-one t u q js js k x y f (first-code x y xs ys e) (b n) s
