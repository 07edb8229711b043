-- One edge keeps a buffer's list.
use Rattle.std.proofs.Common.{◌≡◌, ℕ, suc, ◌+◌, ◌-◌, ◌*◌, ◌/◌, ◌%◌, ◌<◌, ◌≤◌, ◌^◌, ◌⊎◌, inl, inr, Bool, true, false, List, [], ◌∷◌, ◌++◌, length, refl, sym, ◌∙◌, ap, arith, subst, length-append}
use Rattle.std.proofs.Math.Nat.{mod-eq_of_lt, add-mod_right, mod-add-mod, mod-add-div, mul-le-mul_left}
use Rattle.std.proofs.lemmas.Bool.Decides.{nat_tests}
use Rattle.vl_model.specs.Meaning.{Widths, Values, one_if, chosen}
use Rattle.vl_model.specs.Leaf.{stored}
use Rattle.vl_model.specs.Parts.{AllHold, AllStep, Keeps}
use Rattle.gen_buffer.specs.Fifo.{FifoNames, fifo_items, WordsAre, Stands, IsList, next_list, MayMove}

suc-le : {a b : ℕ} → a < b → a + 1 ≤ b
suc-le h = omega arith

mul-suc' : (m k : ℕ) → m * (k + 1) ≡ m * k + m
mul-suc' m k = grind arith

-- two places less than a whole turn apart are two words
apart : (m r p : ℕ) → r < p → p < r + m → r % m ≡ p % m → ⊥
apart m r p less near e = go order
  where
    order : (p / m ≤ r / m) ⊎ (r / m < p / m)
    order = grind arith

    rs : r % m + m * (r / m) ≡ r
    rs = mod-add-div r m

    ps : p % m + m * (p / m) ≡ p
    ps = mod-add-div p m

    go : (p / m ≤ r / m) ⊎ (r / m < p / m) → ⊥
    go (inl h) = let below = mul-le-mul_left m h in omega arith
    go (inr h) =
        let above = mul-le-mul_left m (suc-le h) in
        let parts : m * (r / m + 1) ≡ m * (r / m) + m = mul-suc' m (r / m) in
        omega arith

-- a word elsewhere stays
stays : (words : ℕ → ℕ) (index x j : ℕ) → (index ≡ j → ⊥) → stored 1 index x words j ≡ words j
stays words index x j other = grind (arith, nat_tests)

-- the word that is stored
lands : (words : ℕ → ℕ) (index x : ℕ) → stored 1 index x words index ≡ x
lands words index x = grind (arith, nat_tests)

words-kept : (words words' : ℕ → ℕ) (m r : ℕ) (q : List ℕ) → ((j : ℕ) → words' j ≡ words j) → WordsAre words m r q
    → WordsAre words' m r q
words-kept words words' m r [] same h = tt
words-kept words words' m r (x ∷ q) same h = (same (r % m) ∙ h.0, words-kept words words' m (suc r) q same h.1)

words-pushed : (words words' : ℕ → ℕ) (m r p x : ℕ) (q : List ℕ) → p ≡ r + length q → length q < m
    → ((j : ℕ) → words' j ≡ stored 1 (p % m) x words j)
    → WordsAre words m r q → WordsAre words' m r (q ++ x ∷ [])
words-pushed words words' m r p x [] e room new h =
    let same : p ≡ r = omega arith in
    (subst (λ z. words' (z % m) ≡ x) same (new (p % m) ∙ lands words (p % m) x), tt)
words-pushed words words' m r p x (y ∷ q) e room new h =
    let other : p % m ≡ r % m → ⊥ = λ s. apart m r p (omega arith) (omega arith) (sym s) in (
      new (r % m) ∙ stays words (p % m) x (r % m) other ∙ h.0,
      words-pushed words words' m (suc r) p x q (omega arith) (omega arith) new h.1,
    )

-- ---- the registers

up-mod : (a r m : ℕ) → a ≡ r % m → (a + 1) % m ≡ suc r % m
up-mod a r m e = ap (λ z. (z + 1) % m) e ∙ mod-add-mod r m 1 ∙ ap (λ z. z % m) (omega arith)

down-mod : (a m : ℕ) → 0 < a → a < m → (a + (m - 1)) % m ≡ a - 1
down-mod a m some less =
    let e : a + (m - 1) ≡ (a - 1) + m = omega arith in
    let small : a - 1 < m = omega arith in
    ap (λ z. z % m) e ∙ add-mod_right (a - 1) m ∙ mod-eq_of_lt small

picks : (b : Bool) (c x y k : ℕ) → c ≡ one_if b → k ≡ chosen c x y → k ≡ chosen (one_if b) x y
picks b c x y k e f = f ∙ ap (λ z. chosen z x y) e

picks-two : (a b : Bool) (c d p q r s k : ℕ) → c ≡ one_if a → d ≡ one_if b → k ≡ chosen c (chosen d p q) (chosen d r s)
    → k ≡ chosen (one_if a) (chosen (one_if b) p q) (chosen (one_if b) r s)
picks-two a b c d p q r s k e f g =
    g ∙ ap (λ z. chosen z (chosen d p q) (chosen d r s)) e ∙ ap (λ z. chosen (one_if a) (chosen z p q) (chosen z r s)) f

at-width : (a b k l : ℕ) → k ≡ l → (a + b) % 2 ^ k ≡ (a + b) % 2 ^ l
at-width a b k l e = ap (λ z. (a + b) % 2 ^ z) e

length-pushed : (q : List ℕ) (x : ℕ) → length (q ++ x ∷ []) ≡ length q + 1
length-pushed q x = length-append q (x ∷ [])

-- what an edge does, with the widths known
pub record Moves (n : FifoNames) (bh lh : ℕ) (v w : Values) (push pop : Bool) : Type 0 where
  pub read : w.net n.read ≡ chosen (one_if pop) ((v.net n.read + 1) % 2 ^ (bh + 1)) (v.net n.read)
  pub write : w.net n.write ≡ chosen (one_if push) ((v.net n.write + 1) % 2 ^ (bh + 1)) (v.net n.write)
  pub count : w.net n.count ≡ chosen (one_if push)
      (chosen (one_if pop) (v.net n.count) ((v.net n.count + 1) % 2 ^ (lh + 1)))
      (chosen (one_if pop) ((v.net n.count + (2 ^ (lh + 1) - 1)) % 2 ^ (lh + 1)) (v.net n.count))
  pub words : (j : ℕ) → w.word n.memory j ≡ stored (one_if push) (v.net n.write) (v.net n.word) (v.word n.memory) j

moves : (n : FifoNames) (bh lh wh : ℕ) (z : Widths) (v w : Values) (push pop : Bool)
    → AllHold z v (fifo_items n bh lh wh) → AllStep z v w (fifo_items n bh lh wh)
    → v.net n.push ≡ one_if push → v.net n.pop ≡ one_if pop → Moves n bh lh v w push pop
moves n bh lh wh z v w push pop held e pe oe =
    let clocks = e.1.1.1.1.1.1.1.1 in
    let up : (a b k l : ℕ) → k ≡ l → (a + b) % 2 ^ k ≡ (a + b) % 2 ^ l = at-width in
    record {
      read = subst (λ k. w.net n.read ≡ chosen (one_if pop) ((v.net n.read + 1) % 2 ^ k) (v.net n.read)) held.1.0.0 (picks pop _ _ _ _ oe clocks.0);
      write = subst (λ k. w.net n.write ≡ chosen (one_if push) ((v.net n.write + 1) % 2 ^ k) (v.net n.write)) held.1.1.0.0 (picks push _ _ _ _ pe clocks.1.0);
      count = subst (λ k. w.net n.count ≡ chosen (one_if push)
          (chosen (one_if pop) (v.net n.count) ((v.net n.count + 1) % 2 ^ k))
          (chosen (one_if pop) ((v.net n.count + (2 ^ k - 1)) % 2 ^ k) (v.net n.count))) held.1.1.1.0.0 (picks-two push pop _ _ _ _ _ _ _ pe oe clocks.1.1.0);
      words = λ j. clocks.1.1.1.0 j ∙ ap (λ z. stored z (v.net n.write) (v.net n.word) (v.word n.memory) j) pe;
    }

kept : (n : FifoNames) (bh lh depth : ℕ) (v w : Values) (push pop : Bool) (q : List ℕ) (r : ℕ) → depth ≤ 2 ^ (bh + 1)
    → depth < 2 ^ (lh + 1) → Moves n bh lh v w push pop
    → length q ≤ depth → MayMove push pop depth q → Stands n bh v r q
    → IsList n bh w (next_list push pop (v.net n.word) q)
kept n bh lh depth v w false false q r small fits m short may s = (
  r,
  record {
    read = m.read ∙ s.read;
    write = m.write ∙ s.write;
    count = m.count ∙ s.count;
    words = words-kept (v.word n.memory) (w.word n.memory) (2 ^ (bh + 1)) r q m.words s.words;
  },
)
kept n bh lh depth v w true false q r small fits m short may s =
    let more = length-pushed q (v.net n.word) in
    let room : length q < depth = may.0 refl in (
      r,
      record {
        read = m.read ∙ s.read;
        write = m.write ∙ up-mod (v.net n.write) (r + length q) (2 ^ (bh + 1)) s.write ∙ ap (λ z. z % 2 ^ (bh + 1)) (omega arith);
        count = m.count ∙ mod-eq_of_lt (omega (arith, s.count)) ∙ omega (arith, s.count);
        words = words-pushed (v.word n.memory) (w.word n.memory) (2 ^ (bh + 1)) r (r + length q) (v.net n.word) q refl (omega arith)
            (λ j. m.words j ∙ ap (λ z. stored 1 z (v.net n.word) (v.word n.memory) j) s.write) s.words;
      },
    )
kept n bh lh depth v w push true [] r small fits m short may s = absurd (omega (arith, may.1 refl))
kept n bh lh depth v w false true (x ∷ q) r small fits m short may s = (
  suc r,
  record {
    read = m.read ∙ up-mod (v.net n.read) r (2 ^ (bh + 1)) s.read;
    write = m.write ∙ s.write ∙ ap (λ z. z % 2 ^ (bh + 1)) (omega arith);
    count = m.count ∙ down-mod (v.net n.count) (2 ^ (lh + 1)) (omega (arith, s.count)) (omega (arith, s.count)) ∙ omega (arith, s.count);
    words = words-kept (v.word n.memory) (w.word n.memory) (2 ^ (bh + 1)) (suc r) q m.words s.words.1;
  },
)
kept n bh lh depth v w true true (x ∷ q) r small fits m short may s =
    let more = length-pushed q (v.net n.word) in
    let place : r + suc (length q) ≡ suc r + length q = omega arith in (
      suc r,
      record {
        read = m.read ∙ up-mod (v.net n.read) r (2 ^ (bh + 1)) s.read;
        write = m.write ∙ up-mod (v.net n.write) (r + suc (length q)) (2 ^ (bh + 1)) s.write ∙ ap (λ z. z % 2 ^ (bh + 1)) (omega arith);
        count = m.count ∙ s.count ∙ omega arith;
        words = words-pushed (v.word n.memory) (w.word n.memory) (2 ^ (bh + 1)) (suc r) (suc r + length q) (v.net n.word) q refl (omega arith)
            (λ j. m.words j ∙ ap (λ z. stored 1 z (v.net n.word) (v.word n.memory) j) (s.write ∙ ap (λ z. z % 2 ^ (bh + 1)) place)) s.words.1;
      },
    )

pub fifo-kept : (n : FifoNames) (bh lh wh depth : ℕ) → depth ≤ 2 ^ (bh + 1) → depth < 2 ^ (lh + 1)
    → Keeps (fifo_items n bh lh wh) (λ z v w. (push pop : Bool) (q : List ℕ) → v.net n.push ≡ one_if push → v.net n.pop ≡ one_if pop
    → length q ≤ depth → MayMove push pop depth q → IsList n bh v q → IsList n bh w (next_list push pop (v.net n.word) q))
fifo-kept n bh lh wh depth small fits z v w held held' e push pop q pe oe short may s =
    kept n bh lh depth v w push pop q s.0 small fits (moves n bh lh wh z v w push pop held e pe oe) short may s.1
