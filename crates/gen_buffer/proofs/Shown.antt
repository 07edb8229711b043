-- A buffer begins empty, keeps its list, and shows it.
use Rattle.std.proofs.Common.{◌≡◌, ℕ, ◌+◌, ◌-◌, ◌%◌, ◌<◌, ◌≤◌, ◌^◌, Bool, true, false, List, [], ◌∷◌, ◌++◌, length, refl, sym, ◌∙◌, ap, arith, length-append, ◌==◌, append_assoc, subst}
use Rattle.std.specs.Prelude.{nat_lt, if◌then◌else◌}
use Rattle.std.proofs.Math.Nat.{mod-eq_of_lt}
use Rattle.std.proofs.lemmas.Nat.{pow_pos}
use Rattle.std.proofs.lemmas.Bool.Decides.{nat_tests}
use Rattle.vl_tree.specs.Values.{Item, Leaf}
use Rattle.vl_model.specs.Laws.{with_items}
use Rattle.vl_model.specs.Meaning.{Widths, Values, one_if}
use Rattle.vl_model.specs.Leaf.{Reset, Stepped}
use Rattle.vl_model.specs.Parts.{AllReset, AllHold, AllStep, Holds}
use Rattle.gen_kit.proofs.Parts.{held-back}
use Rattle.gen_buffer.specs.declared.BufferSpec.{BufferSpec}
use Rattle.gen_buffer.specs.declared.BufferNets.{BufferNets}
use Rattle.gen_buffer.specs.Fifo.{FifoNames, fifo_items, IsList, Stands, next_list, popped, pushed, MayMove}
use Rattle.gen_buffer.specs.Sizes.{index_high, count_high}
use Rattle.gen_buffer.specs.Laws.{ListStarts}
use Rattle.gen_buffer.specs.Buffer.{fifo_names, nets_of, buffer_items, HoldsList, ShowsFront, ShowsList, IsBuffer, is_nothing}
use Rattle.gen_buffer.proofs.Queue.{fifo-kept}

pub fifo-starts : ListStarts
fifo-starts n bh lh wh v e =
    let clocks = e.1.1.1.1.1.1.1.1 in
    let none : 0 % 2 ^ (bh + 1) ≡ 0 = mod-eq_of_lt (pow_pos (bh + 1)) in (
      0,
      record {
        read = clocks.0 ∙ sym none;
        write = clocks.1.0 ∙ sym none;
        count = clocks.1.1.0;
        words = tt;
      },
    )

-- ---- the sizes fit

deep-enough : (depth : ℕ) → depth ≤ 16 → depth ≤ 2 ^ (index_high depth + 1)
deep-enough depth le = go (nat_lt depth 3) refl (nat_lt depth 5) refl (nat_lt depth 9) refl
  where
    go : (a : Bool) → nat_lt depth 3 ≡ a → (b : Bool) → nat_lt depth 5 ≡ b → (c : Bool) → nat_lt depth 9 ≡ c
        → depth ≤ 2 ^ ((if a then 0 else if b then 1 else if c then 2 else 3) + 1)
    go true e b f c g = let less : depth < 3 = grind (arith, nat_tests) in omega arith
    go false e true f c g = let less : depth < 5 = grind (arith, nat_tests) in omega arith
    go false e false f true g = let less : depth < 9 = grind (arith, nat_tests) in omega arith
    go false e false f false g = omega arith

wide-enough : (depth : ℕ) → depth ≤ 16 → depth < 2 ^ (count_high depth + 1)
wide-enough depth le = go (nat_lt depth 2) refl (nat_lt depth 4) refl (nat_lt depth 8) refl (nat_lt depth 16) refl
  where
    go : (a : Bool) → nat_lt depth 2 ≡ a → (b : Bool) → nat_lt depth 4 ≡ b → (c : Bool) → nat_lt depth 8 ≡ c
        → (d : Bool) → nat_lt depth 16 ≡ d
        → depth < 2 ^ ((if a then 0 else if b then 1 else if c then 2 else if d then 3 else 4) + 1)
    go true e b f c g d h = let less : depth < 2 = grind (arith, nat_tests) in omega arith
    go false e true f c g d h = let less : depth < 4 = grind (arith, nat_tests) in omega arith
    go false e false f true g d h = let less : depth < 8 = grind (arith, nat_tests) in omega arith
    go false e false f false g true h = let less : depth < 16 = grind (arith, nat_tests) in omega arith
    go false e false f false g false h = omega arith

-- ---- the buffer is a list

short-next : (push pop : Bool) (depth x : ℕ) (q : List ℕ) → length q ≤ depth → MayMove push pop depth q
    → length (next_list push pop x q) ≤ depth
short-next false false depth x q le may = le
short-next true false depth x q le may = let room = may.0 refl in let more = length-append q (x ∷ []) in omega arith
short-next false true depth x [] le may = le
short-next false true depth x (y ∷ q) le may = omega (arith, le)
short-next true true depth x [] le may = let some = may.1 refl in absurd (omega arith)
short-next true true depth x (y ∷ q) le may = let more = length-append q (x ∷ []) in omega (arith, le)

front-shown : (n : FifoNames) (bh : ℕ) (v : Values) (q : List ℕ) → v.net n.front ≡ v.word n.memory (v.net n.read)
    → IsList n bh v q → ShowsFront (v.net n.front) q
front-shown n bh v [] e s = tt
front-shown n bh v (x ∷ q) e s = e ∙ ap (v.word n.memory) (s.1.read) ∙ s.1.words.0

empty-shown : (q : List ℕ) (count empty : ℕ) → empty ≡ one_if (count == 0) → count ≡ length q
    → empty ≡ one_if (is_nothing q)
empty-shown [] count empty e c = e ∙ rw c refl
empty-shown (x ∷ q) count empty e c =
    let some : (length (x ∷ q) == 0) ≡ false = grind (arith, nat_tests) in
    e ∙ ap (λ k. one_if (k == 0)) c ∙ ap one_if some

pub is-buffer : (s : BufferSpec) (old : List Item) → s.depth ≤ 16 → IsBuffer (old ++ buffer_items s) s (nets_of s)
is-buffer s old le = record {
  starts = λ v e. record {
    list = fifo-starts (fifo_names s) (index_high s.depth) (count_high s.depth) (s.width - 1) v (held-back (Reset v) old (buffer_items s) e);
    short = omega arith;
  };
  kept = λ w v u held later e push pop q a b may h. record {
    list = fifo-kept (fifo_names s) (index_high s.depth) (count_high s.depth) (s.width - 1) s.depth (deep-enough s.depth le) (wide-enough s.depth le) w v u
        (held-back (Holds w v) old (buffer_items s) held) (held-back (Holds w u) old (buffer_items s) later) (held-back (Stepped w v u) old (buffer_items s) e)
        push pop q a b h.short may h.list;
    short = short-next push pop s.depth (v.net s.word) q h.short may;
  };
  shown = λ w v held q h.
      let mine = held-back (Holds w v) old (buffer_items s) held in
      record {
        front = front-shown (fifo_names s) (index_high s.depth) v q mine.1.1.1.1.1.0 h.list;
        empty = empty-shown q (v.net (fifo_names s).count) (v.net (fifo_names s).empty) mine.1.1.1.1.1.1.1.0 h.list.1.count;
        length = h.list.1.count;
      };
}

-- ---- items behind items

pub items-joined : (x start a b : Leaf) (h n m : List Item) → a ≡ with_items start h → b ≡ with_items a n
    → x ≡ with_items b m → x ≡ with_items start (h ++ (n ++ m))
items-joined x start a b h n m e f g =
    g ∙ ap (λ l. with_items l m) (f ∙ ap (λ l. with_items l n) e)
    ∙ ap (λ is. with_items (record { name = start.name; ports = start.ports; items = [] }) is) (append_assoc (start.items ++ h) n m ∙ append_assoc start.items h (n ++ m))

-- what is built is a buffer
pub buffer-in : (s : BufferSpec) (n : BufferNets) (old new : Leaf) → n ≡ nets_of s → s.depth ≤ 16
    → new ≡ with_items old (buffer_items s) → IsBuffer new.items s n
buffer-in s n old new e le f =
    subst (λ m. IsBuffer new.items s m) (sym e)
    (subst (λ l. IsBuffer l.items s (nets_of s)) (sym f) (is-buffer s old.items le))
