-- The registers and memories of a sound leaf each move by one item.
use Rattle.std.proofs.Common.{◌≡◌, ℕ, ◌+◌, ◌<◌, ◌≤◌, ◌^◌, Bool, true, false, ◌&&◌, ◌||◌, List, [], ◌∷◌, ◌++◌, map, refl, sym, ◌∙◌, ap, subst, bytes_eq, arith}
use Rattle.std.specs.Prelude.{Some, ◌==◌, nat_lt, nat_le}
use Rattle.std.specs.List.{AllByRecursion, list_all}
use Rattle.std.proofs.lemmas.Bool.{and_parts, or_parts, eqb-true, ltb-true, not-false, false≢true, false_from_ne_true}
use Rattle.std.proofs.lemmas.Nat.{pow_pos}
use Rattle.vl_tree.specs.Values.{Name, Item, wire, reg, mem, assign, clocked, store, Leaf}
use Rattle.vl_tree.specs.Tokens.{is_name}
use Rattle.vl_tree.specs.Plain.{plain_const, plain_item, plain_expr}
use Rattle.vl_tree.specs.Grammar.{limit}
use Rattle.vl_model.specs.Meaning.{Widths, Values, width_of, agrees, one_if}
use Rattle.vl_model.specs.declared.kind.Kind.{Kind}
use Rattle.vl_model.specs.declared.kind.Kind.TheVariants.{Input, Output, Inner, Register, Memory, Child}
use Rattle.vl_model.specs.Lines.{Line, item, sites_behind, module_sites, leaf_lines, Declared, lookup, kind_passes, is_net, is_memory, is_driven, is_register, widths}
use Rattle.vl_model.specs.Rules.{is_kind, knows, name_unknown, line_fits, wrong_width, drives, drivers, wants_driver, wrong_driver}
use Rattle.vl_model.specs.Leaf.{leaf_widths, Stepped}
use Rattle.vl_model.specs.Settle.{reset_net}
use Rattle.vl_model.specs.Once.{is_clocked, is_stored, AreOnce}
use Rattle.vl_model.proofs.Passed.{Passes, passes-behind, SoundModule, SoundLeaf}
use Rattle.vl_model.proofs.Settling.{one-name, itself}
use Rattle.vl_model.proofs.Ordered.{lookup-front, kind-of, drivers-append, driven-once, more, known-here, known-width, net-width, word-width, other-kind, driven-register, driven-memory}
use Rattle.vl_model.proofs.Leaves.{front, front-drives-none}
use Rattle.vl_model.proofs.Stepping.{Moves}

-- ---- counts

named-counts : (m n : Name) → bytes_eq m n ≡ true → one_if (bytes_eq m n) ≡ 1
named-counts m n e = ap one_if e

clock-counts : (ls : List Leaf) (is : List Item) (m : Name) → is_clocked is m ≡ true → 1 ≤ drivers ls (map item is) m
clock-counts ls [] m c = absurd (false≢true c)
clock-counts ls (wire h n ∷ is) m c = let rest = clock-counts ls is m c in omega arith
clock-counts ls (reg h n ∷ is) m c = let rest = clock-counts ls is m c in omega arith
clock-counts ls (mem h n last ∷ is) m c = let rest = clock-counts ls is m c in omega arith
clock-counts ls (assign n e ∷ is) m c = let rest = clock-counts ls is m c in omega arith
clock-counts ls (store d n i e ∷ is) m c = let rest = clock-counts ls is m c in omega arith
clock-counts ls (clocked n k e ∷ is) m c = go (clock-counts ls is m) (bytes_eq m n) refl
  where
    go : (is_clocked is m ≡ true → 1 ≤ drivers ls (map item is) m) → (b : Bool) → bytes_eq m n ≡ b
        → 1 ≤ drivers ls (map item (clocked n k e ∷ is)) m
    go later true same = let one = named-counts m n same in omega arith
    go later false other = let rest = later (rw other at c) in omega arith

store-counts : (ls : List Leaf) (is : List Item) (m : Name) → is_stored is m ≡ true → 1 ≤ drivers ls (map item is) m
store-counts ls [] m c = absurd (false≢true c)
store-counts ls (wire h n ∷ is) m c = let rest = store-counts ls is m c in omega arith
store-counts ls (reg h n ∷ is) m c = let rest = store-counts ls is m c in omega arith
store-counts ls (mem h n last ∷ is) m c = let rest = store-counts ls is m c in omega arith
store-counts ls (assign n e ∷ is) m c = let rest = store-counts ls is m c in omega arith
store-counts ls (clocked n k e ∷ is) m c = let rest = store-counts ls is m c in omega arith
store-counts ls (store d n i e ∷ is) m c = go (store-counts ls is m) (bytes_eq m n) refl
  where
    go : (is_stored is m ≡ true → 1 ≤ drivers ls (map item is) m) → (b : Bool) → bytes_eq m n ≡ b
        → 1 ≤ drivers ls (map item (store d n i e ∷ is)) m
    go later true same = let one = named-counts m n same in omega arith
    go later false other = let rest = later (rw other at c) in omega arith

module _ (ls : List Leaf) (all : List Line) where
  -- what has one driver, and has it here, has none later
  none-left : (before : List Line) (x : Item) (is : List Item) (m : Name) → all ≡ before ++ map item (x ∷ is)
      → drivers ls all m ≡ 1 → 1 ≤ drives ls m (item x) → drivers ls (map item is) m ≡ 0
  none-left before x is m e one here = let parts : drivers ls all m ≡ drivers ls before m + (drives ls m (item x) + drivers ls (map item is) m) = ap (λ l. drivers ls l m) e ∙ drivers-append ls before (map item (x ∷ is)) m in omega arith

  target-once : (test : Kind → Bool) → ((k : Kind) → test k ≡ true → wants_driver k ≡ true)
      → Passes wrong_driver (module_sites ls all) → (before rest : List Line) (n : Name) → all ≡ before ++ rest
      → is_kind test before n ≡ true → drivers ls all n ≡ 1
  target-once test wants once before rest n e k =
      let what = kind-of test before n k in
      driven-once ls all n what.0 once (ap (λ l. lookup l n) e ∙ lookup-front before rest n what.0 what.1) (wants what.0.kind what.2)

  register-wants : (k : Kind) → is_register k ≡ true → wants_driver k ≡ true
  register-wants Input e = absurd (false≢true e)
  register-wants Output e = refl
  register-wants Inner e = refl
  register-wants Register e = refl
  register-wants Memory e = refl
  register-wants Child e = absurd (false≢true e)

  memory-wants : (k : Kind) → is_memory k ≡ true → wants_driver k ≡ true
  memory-wants Input e = absurd (false≢true e)
  memory-wants Output e = refl
  memory-wants Inner e = refl
  memory-wants Register e = refl
  memory-wants Memory e = refl
  memory-wants Child e = absurd (false≢true e)

  pub are-once : Passes wrong_driver (module_sites ls all) → (before : List Line) (is : List Item)
      → all ≡ before ++ map item is → Passes name_unknown (sites_behind ls all before (map item is)) → AreOnce is
  are-once once before [] e known = tt
  are-once once before (wire h n ∷ is) e known =
      are-once once (before ++ item (wire h n) ∷ []) is (more all before (wire h n) is e) known.1
  are-once once before (reg h n ∷ is) e known =
      are-once once (before ++ item (reg h n) ∷ []) is (more all before (reg h n) is e) known.1
  are-once once before (mem h n last ∷ is) e known =
      are-once once (before ++ item (mem h n last) ∷ []) is (more all before (mem h n last) is e) known.1
  are-once once before (assign n v ∷ is) e known =
      are-once once (before ++ item (assign n v) ∷ []) is (more all before (assign n v) is e) known.1
  are-once once before (clocked n k v ∷ is) e known =
      let target =
      (and_parts (is_kind is_register before n) (knows before v) (known-here ls all before (item (clocked n k v)) (map item is) known)).0 in
      let one = target-once is_register register-wants once before (map item (clocked n k v ∷ is)) n e target in
      let itself-counts = named-counts n n (itself n) in
      let none = none-left before (clocked n k v) is n e one (omega arith) in (
        false_from_ne_true (is_clocked is n) (λ c. let some = clock-counts ls is n c in omega arith),
        are-once once (before ++ item (clocked n k v) ∷ []) is (more all before (clocked n k v) is e) known.1,
      )
  are-once once before (store c n i v ∷ is) e known =
      let target =
      (and_parts (is_kind is_memory before n) (knows before c && (knows before i && knows before v)) (known-here ls all before (item (store c n i v)) (map item is) known)).0 in
      let one = target-once is_memory memory-wants once before (map item (store c n i v ∷ is)) n e target in
      let itself-counts = named-counts n n (itself n) in
      let none = none-left before (store c n i v) is n e one (omega arith) in (
        false_from_ne_true (is_stored is n) (λ s. let some = store-counts ls is n s in omega arith),
        are-once once (before ++ item (store c n i v) ∷ []) is (more all before (store c n i v) is e) known.1,
      )

  register-memory : (k : Kind) → is_register k ≡ true → is_memory k ≡ true → ⊥
  register-memory Input a b = false≢true a
  register-memory Output a b = false≢true a
  register-memory Inner a b = false≢true a
  register-memory Register a b = false≢true b
  register-memory Memory a b = false≢true a
  register-memory Child a b = false≢true a

  -- a register that no item clocks has no driver; so for memories
  none-clocks : (before : List Line) (is : List Item) (m : Name) → all ≡ before ++ map item is
      → is_kind is_register all m ≡ true → Passes name_unknown (sites_behind ls all before (map item is))
      → is_clocked is m ≡ false
      → drivers ls (map item is) m ≡ 0
  none-clocks before [] m e k p f = refl
  none-clocks before (wire h n ∷ is) m e k p f =
      let rest = none-clocks (before ++ item (wire h n) ∷ []) is m (more all before (wire h n) is e) k p.1 f in
      omega arith
  none-clocks before (reg h n ∷ is) m e k p f =
      let rest = none-clocks (before ++ item (reg h n) ∷ []) is m (more all before (reg h n) is e) k p.1 f in
      omega arith
  none-clocks before (mem h n last ∷ is) m e k p f =
      let rest = none-clocks (before ++ item (mem h n last) ∷ []) is m (more all before (mem h n last) is e) k p.1 f in
      omega arith
  none-clocks before (clocked n c v ∷ is) m e k p f =
      let fs = or_parts (bytes_eq m n) (is_clocked is m) f in
      let here : one_if (bytes_eq m n) ≡ 0 = ap one_if fs.0 in
      let rest = none-clocks (before ++ item (clocked n c v) ∷ []) is m (more all before (clocked n c v) is e) k p.1 fs.1 in omega arith
  none-clocks before (assign n v ∷ is) m e k p f =
      let here = other-kind is_register is_driven all before (map item (assign n v ∷ is)) m n (λ c a b. driven-register c b a) e k
      (and_parts (is_kind is_driven before n) (knows before v) (known-here ls all before (item (assign n v)) (map item is) p)).0 in
      let rest = none-clocks (before ++ item (assign n v) ∷ []) is m (more all before (assign n v) is e) k p.1 f in omega arith
  none-clocks before (store c n i v ∷ is) m e k p f =
      let here = other-kind is_register is_memory all before (map item (store c n i v ∷ is)) m n register-memory e k
      (and_parts (is_kind is_memory before n) (knows before c && (knows before i && knows before v)) (known-here ls all before (item (store c n i v)) (map item is) p)).0 in
      let rest = none-clocks (before ++ item (store c n i v) ∷ []) is m (more all before (store c n i v) is e) k p.1 f in omega arith

  none-stores : (before : List Line) (is : List Item) (m : Name) → all ≡ before ++ map item is
      → is_kind is_memory all m ≡ true → Passes name_unknown (sites_behind ls all before (map item is))
      → is_stored is m ≡ false
      → drivers ls (map item is) m ≡ 0
  none-stores before [] m e k p f = refl
  none-stores before (wire h n ∷ is) m e k p f =
      let rest = none-stores (before ++ item (wire h n) ∷ []) is m (more all before (wire h n) is e) k p.1 f in
      omega arith
  none-stores before (reg h n ∷ is) m e k p f =
      let rest = none-stores (before ++ item (reg h n) ∷ []) is m (more all before (reg h n) is e) k p.1 f in
      omega arith
  none-stores before (mem h n last ∷ is) m e k p f =
      let rest = none-stores (before ++ item (mem h n last) ∷ []) is m (more all before (mem h n last) is e) k p.1 f in
      omega arith
  none-stores before (store c n i v ∷ is) m e k p f =
      let fs = or_parts (bytes_eq m n) (is_stored is m) f in
      let here : one_if (bytes_eq m n) ≡ 0 = ap one_if fs.0 in
      let rest = none-stores (before ++ item (store c n i v) ∷ []) is m (more all before (store c n i v) is e) k p.1 fs.1 in omega arith
  none-stores before (assign n v ∷ is) m e k p f =
      let here = other-kind is_memory is_driven all before (map item (assign n v ∷ is)) m n (λ c a b. driven-memory c b a) e k
      (and_parts (is_kind is_driven before n) (knows before v) (known-here ls all before (item (assign n v)) (map item is) p)).0 in
      let rest = none-stores (before ++ item (assign n v) ∷ []) is m (more all before (assign n v) is e) k p.1 f in omega arith
  none-stores before (clocked n c v ∷ is) m e k p f =
      let here = other-kind is_memory is_register all before (map item (clocked n c v ∷ is)) m n (λ c a b. register-memory c b a) e k
      (and_parts (is_kind is_register before n) (knows before v) (known-here ls all before (item (clocked n c v)) (map item is) p)).0 in
      let rest = none-stores (before ++ item (clocked n c v) ∷ []) is m (more all before (clocked n c v) is e) k p.1 f in omega arith

  -- what is clocked is a register
  pub clocks-register : (before : List Line) (is : List Item) (m : Name) → all ≡ before ++ map item is
      → Passes name_unknown (sites_behind ls all before (map item is)) → is_clocked is m ≡ true
      → is_kind is_register all m ≡ true
  clocks-register before [] m e p c = absurd (false≢true c)
  clocks-register before (wire h n ∷ is) m e p c =
      clocks-register (before ++ item (wire h n) ∷ []) is m (more all before (wire h n) is e) p.1 c
  clocks-register before (reg h n ∷ is) m e p c =
      clocks-register (before ++ item (reg h n) ∷ []) is m (more all before (reg h n) is e) p.1 c
  clocks-register before (mem h n last ∷ is) m e p c =
      clocks-register (before ++ item (mem h n last) ∷ []) is m (more all before (mem h n last) is e) p.1 c
  clocks-register before (assign n v ∷ is) m e p c =
      clocks-register (before ++ item (assign n v) ∷ []) is m (more all before (assign n v) is e) p.1 c
  clocks-register before (store d n i v ∷ is) m e p c =
      clocks-register (before ++ item (store d n i v) ∷ []) is m (more all before (store d n i v) is e) p.1 c
  clocks-register before (clocked n k v ∷ is) m e p c = go (clocks-register (before ++ item (clocked n k v) ∷ []) is m (more all before (clocked n k v) is e) p.1) (bytes_eq m n) refl
    where
      go : (is_clocked is m ≡ true → is_kind is_register all m ≡ true) → (b : Bool) → bytes_eq m n ≡ b
          → is_kind is_register all m ≡ true
      go later false other = later (rw other at c)
      go later true same =
          let what =
          kind-of is_register before n (and_parts (is_kind is_register before n) (knows before v) (known-here ls all before (item (clocked n k v)) (map item is) p)).0 in
          ap (is_kind is_register all) (one-name m n same) ∙ ap (λ l. is_kind is_register l n) e
          ∙ ap (kind_passes is_register) (lookup-front before (map item (clocked n k v ∷ is)) n what.0 what.1) ∙ what.2

register-net : (k : Kind) → is_register k ≡ true → is_net k ≡ true
register-net Input e = refl
register-net Output e = refl
register-net Inner e = refl
register-net Register e = refl
register-net Memory e = absurd (false≢true e)
register-net Child e = absurd (false≢true e)

pub moves : (v : Values) (ls : List Leaf) (all before : List Line) (is : List Item) → all ≡ before ++ map item is
    → list_all plain_item is ≡ true → Passes name_unknown (sites_behind ls all before (map item is))
    → Passes wrong_width (sites_behind ls all before (map item is)) → AllByRecursion (Moves (widths all) v) is
unfolding wrong_width
moves v ls all before [] e plain known p = tt
moves v ls all before (wire h n ∷ is) e plain known p =
    (tt, moves v ls all (before ++ item (wire h n) ∷ []) is (more all before (wire h n) is e) (and_parts (plain_item (wire h n)) (list_all plain_item is) plain).1 known.1 p.1)
moves v ls all before (reg h n ∷ is) e plain known p =
    (tt, moves v ls all (before ++ item (reg h n) ∷ []) is (more all before (reg h n) is e) (and_parts (plain_item (reg h n)) (list_all plain_item is) plain).1 known.1 p.1)
moves v ls all before (mem h n last ∷ is) e plain known p =
    (tt, moves v ls all (before ++ item (mem h n last) ∷ []) is (more all before (mem h n last) is e) (and_parts (plain_item (mem h n last)) (list_all plain_item is) plain).1 known.1 p.1)
moves v ls all before (assign n x ∷ is) e plain known p =
    (tt, moves v ls all (before ++ item (assign n x) ∷ []) is (more all before (assign n x) is e) (and_parts (plain_item (assign n x)) (list_all plain_item is) plain).1 known.1 p.1)
moves v ls all before (clocked n k x ∷ is) e plain known p =
    let plains = and_parts (plain_item (clocked n k x)) (list_all plain_item is) plain in
    let mine = and_parts (is_name n && plain_const k) (plain_expr limit x) plains.0 in
    let const =
    ltb-true k.value (2 ^ k.width) (and_parts (nat_lt 0 k.width && nat_le k.width 64) (nat_lt k.value (2 ^ k.width)) (and_parts (is_name n) (plain_const k) mine.0).1).1 in
    let parts =
    and_parts (is_kind is_register before n) (knows before x) (known-here ls all before (item (clocked n k x)) (map item is) known) in
    let fits =
    and_parts (agrees (widths before) x) ((width_of (widths before) x == (widths before).net n) && (k.width == (widths before).net n)) (not-false (line_fits ls (widths before) (item (clocked n k x))) p.0) in
    let wide =
    and_parts (width_of (widths before) x == (widths before).net n) (k.width == (widths before).net n) fits.1 in
    let same = known-width all before (map item (clocked n k x ∷ is)) x e parts.1 in
    let what = kind-of is_register before n parts.0 in
    let target = net-width all before (map item (clocked n k x ∷ is)) n e (ap (kind_passes is_net) what.1 ∙ register-net what.0.kind what.2) in (
      (
        mine.1,
        sym same.1 ∙ fits.0,
        sym same.0 ∙ eqb-true (width_of (widths before) x) ((widths before).net n) wide.0 ∙ target,
        subst (λ w. k.value < 2 ^ w) (eqb-true k.width ((widths before).net n) wide.1 ∙ target) const,
      ),
      moves v ls all (before ++ item (clocked n k x) ∷ []) is (more all before (clocked n k x) is e) plains.1 known.1 p.1,
    )
moves v ls all before (store c n i x ∷ is) e plain known p =
    let plains = and_parts (plain_item (store c n i x)) (list_all plain_item is) plain in
    let mine = and_parts ((plain_expr limit c && is_name n) && plain_expr limit i) (plain_expr limit x) plains.0 in
    let parts =
    and_parts (is_kind is_memory before n) (knows before c && (knows before i && knows before x)) (known-here ls all before (item (store c n i x)) (map item is) known) in
    let known3 =
    and_parts (knows before i) (knows before x) (and_parts (knows before c) (knows before i && knows before x) parts.1).1 in
    let f1 = and_parts (agrees (widths before) c) ((width_of (widths before) c == 1) && (agrees (widths before) i && (agrees (widths before) x && (width_of (widths before) x == (widths before).word n))))
    (not-false (line_fits ls (widths before) (item (store c n i x))) p.0) in
    let f2 =
    and_parts (width_of (widths before) c == 1) (agrees (widths before) i && (agrees (widths before) x && (width_of (widths before) x == (widths before).word n))) f1.1 in
    let f3 =
    and_parts (agrees (widths before) i) (agrees (widths before) x && (width_of (widths before) x == (widths before).word n)) f2.1 in
    let f4 = and_parts (agrees (widths before) x) (width_of (widths before) x == (widths before).word n) f3.1 in
    let same = known-width all before (map item (store c n i x ∷ is)) x e known3.1 in
    let target = word-width all before (map item (store c n i x ∷ is)) n e parts.0 in (
      (mine.1, sym same.1 ∙ f4.0, sym same.0 ∙ eqb-true (width_of (widths before) x) ((widths before).word n) f4.1 ∙ target),
      moves v ls all (before ++ item (store c n i x) ∷ []) is (more all before (store c n i x) is e) plains.1 known.1 p.1,
    )

-- what is used of a sound leaf at resets and edges
pub record MovingLeaf (l : Leaf) : Type 0 where
  pub once : AreOnce l.items
  pub register : (n : Name) → is_kind is_register (leaf_lines l) n ≡ true → is_clocked l.items n ≡ true
  pub memory : (n : Name) → is_kind is_memory (leaf_lines l) n ≡ true → is_stored l.items n ≡ true
  pub clocked : (n : Name) → is_clocked l.items n ≡ true → is_kind is_register (leaf_lines l) n ≡ true
  pub moves : (v : Values) → AllByRecursion (Moves (leaf_widths l) v) l.items

pub moving-leaf : (l : Leaf) → list_all plain_item l.items ≡ true → SoundLeaf l → MovingLeaf l
moving-leaf l plain s = record {
  once = are-once ls all m.driver (front l) l.items refl known;
  register = λ n k. clocks n k (is_clocked l.items n) refl;
  memory = λ n k. stores n k (is_stored l.items n) refl;
  clocked = λ n c. clocks-register ls all (front l) l.items n refl known c;
  moves = λ v. moves v ls all (front l) l.items refl plain known (passes-behind wrong_width ls all [] (front l) (map item l.items) m.width);
}
  where
    ls : List Leaf
    ls = s.0

    all : List Line
    all = leaf_lines l

    m : SoundModule ls all
    m = s.1

    known : Passes name_unknown (sites_behind ls all (front l) (map item l.items))
    known = passes-behind name_unknown ls all [] (front l) (map item l.items) m.known

    no-driver : (n : Name) (x : Declared) → lookup all n ≡ Some x → wants_driver x.kind ≡ true
        → drivers ls (map item l.items) n ≡ 0 → ⊥
    no-driver n x is wants none =
        let one : drivers ls all n ≡ 1 = driven-once ls all n x m.driver is wants in
        let parts : drivers ls all n ≡ drivers ls (front l) n + drivers ls (map item l.items) n =
        drivers-append ls (front l) (map item l.items) n in
        let first : drivers ls (front l) n ≡ 0 = front-drives-none ls l n in
        omega arith

    clocks : (n : Name) → is_kind is_register all n ≡ true → (b : Bool) → is_clocked l.items n ≡ b
        → is_clocked l.items n ≡ true
    clocks n k true e = e
    clocks n k false e =
        let what = kind-of is_register all n k in
        absurd (no-driver n what.0 what.1 (register-wants ls all what.0.kind what.2) (none-clocks ls all (front l) l.items n refl k known e))

    stores : (n : Name) → is_kind is_memory all n ≡ true → (b : Bool) → is_stored l.items n ≡ b
        → is_stored l.items n ≡ true
    stores n k true e = e
    stores n k false e =
        let what = kind-of is_memory all n k in
        absurd (no-driver n what.0 what.1 (memory-wants ls all what.0.kind what.2) (none-stores ls all (front l) l.items n refl k known e))

-- ---- reset constants fit

pub reset-small : (w : Widths) (v : Values) (is : List Item) (n : Name) → AllByRecursion (Moves w v) is
    → reset_net is n < 2 ^ w.net n
reset-small w v [] n a = pow_pos (w.net n)
reset-small w v (wire h m ∷ is) n a = reset-small w v is n a.1
reset-small w v (reg h m ∷ is) n a = reset-small w v is n a.1
reset-small w v (mem h m last ∷ is) n a = reset-small w v is n a.1
reset-small w v (assign m e ∷ is) n a = reset-small w v is n a.1
reset-small w v (store c m i e ∷ is) n a = reset-small w v is n a.1
reset-small w v (clocked m k e ∷ is) n a = go (reset-small w v is n a.1) (bytes_eq n m) refl
  where
    go : reset_net is n < 2 ^ w.net n → (b : Bool) → bytes_eq n m ≡ b → reset_net (clocked m k e ∷ is) n < 2 ^ w.net n
    go later true same = rw same (subst (λ x. k.value < 2 ^ w.net x) (sym (one-name n m same)) a.0.3)
    go later false other = rw other later

-- what is stepped to is kept where registers and words are
pub stepped-same : (w : Widths) (v a b : Values) (is : List Item) → AllByRecursion (Stepped w v a) is
    → ((n : Name) → is_clocked is n ≡ true → b.net n ≡ a.net n) → ((n : Name) (j : ℕ) → b.word n j ≡ a.word n j)
    → AllByRecursion (Stepped w v b) is
stepped-same w v a b [] f nets words = tt
stepped-same w v a b (wire h m ∷ is) f nets words = (tt, stepped-same w v a b is f.1 nets words)
stepped-same w v a b (reg h m ∷ is) f nets words = (tt, stepped-same w v a b is f.1 nets words)
stepped-same w v a b (mem h m last ∷ is) f nets words = (tt, stepped-same w v a b is f.1 nets words)
stepped-same w v a b (assign m e ∷ is) f nets words = (tt, stepped-same w v a b is f.1 nets words)
stepped-same w v a b (store c m i e ∷ is) f nets words =
    ((λ j. words m j ∙ f.0 j), stepped-same w v a b is f.1 nets words)
stepped-same w v a b (clocked m k e ∷ is) f nets words = (nets m (rw (itself m) refl) ∙ f.0, stepped-same w v a b is f.1 (λ n c. nets n (later n (bytes_eq n m) c)) words)
  where
    later : (n : Name) (t : Bool) → is_clocked is n ≡ true → (t || is_clocked is n) ≡ true
    later n true c = refl
    later n false c = c
