-- Resets and edges of one leaf: registers and memories agree as their labels say.
use Rattle.std.proofs.Common.{◌≡◌, ℕ, ◌+◌, ◌<◌, ◌^◌, Bool, true, false, ◌&&◌, List, [], ◌∷◌, ◌++◌, map, Option, refl, sym, ◌∙◌, ap, subst, bytes_eq, arith}
use Rattle.std.specs.Prelude.{Some, None, ◌==◌, ◌||◌, if◌then◌else◌}
use Rattle.std.specs.Int.{bit_at}
use Rattle.std.specs.List.{AllByRecursion, list_all}
use Rattle.std.proofs.lemmas.Nat.Bits.{bit_at-lt}
use Rattle.std.proofs.lemmas.Bool.{and_parts, eqb-true, false≢true, not-false}
use Rattle.vl_tree.specs.Values.{Name, Expr, Item, wire, reg, mem, assign, clocked, store, Leaf}
use Rattle.vl_tree.specs.Tokens.{is_name}
use Rattle.vl_tree.specs.Grammar.{limit}
use Rattle.vl_tree.specs.Plain.{plain_expr, plain_item}
use Rattle.vl_model.specs.Meaning.{Widths, Values, width_of, agrees, value_of, nets_of}
use Rattle.vl_model.specs.Lines.{Line, item, sites_behind, leaf_lines, Declared, lookup, kind_passes, is_net, is_memory, is_register, net_bits, word_bits, widths}
use Rattle.vl_model.specs.Rules.{is_kind, knows, name_unknown, line_fits, wrong_width}
use Rattle.vl_model.specs.Leaf.{leaf_widths, AreSmall, stored, Stepped, Reset}
use Rattle.vl_model.specs.Once.{is_clocked, is_stored}
use Rattle.vl_model.proofs.Valued.{value-small}
use Rattle.vl_model.proofs.Passed.{Passes, SoundLeaf, passes-behind}
use Rattle.vl_model.proofs.Settling.{one-name}
use Rattle.vl_model.proofs.Stepping.{Moves}
use Rattle.vl_model.proofs.Ordered.{more, known-here, known-width}
use Rattle.vl_model.proofs.Leaves.{front}
use Rattle.vl_model.proofs.Moving.{MovingLeaf, moving-leaf}
use Rattle.label_model.specs.Labels.{Domains, none, either, IsWithin, Label, known, from, sources, known_as, IsBelow, all_sources, Labels, label_of}
use Rattle.label_model.specs.Lawful.{MayWrite, IsCarried, IsBegun}
use Rattle.label_model.proofs.Bits.{Agrees, AllAgree, within-left, within-right, agrees-own, agrees-below, agrees-same, bit-one, same-number}
use Rattle.label_model.proofs.Exprs.{expr-agrees}

-- ---- names without a width

no-bits : (x : Declared) (b : Bool) → b ≡ false → (if b then x.high + 1 else 0) ≡ 0
no-bits x true e = absurd (false≢true (sym e))
no-bits x false e = refl

pub no-net : (all : List Line) (n : Name) → is_kind is_net all n ≡ false → (widths all).net n ≡ 0
no-net all n k = go (lookup all n) refl
  where
    go : (o : Option Declared) → lookup all n ≡ o → (widths all).net n ≡ 0
    go None is = ap net_bits is
    go (Some x) is = ap net_bits is ∙ no-bits x (is_net x.kind) (sym (ap (kind_passes is_net) is) ∙ k)

no-word : (all : List Line) (n : Name) → is_kind is_memory all n ≡ false → (widths all).word n ≡ 0
no-word all n k = go (lookup all n) refl
  where
    go : (o : Option Declared) → lookup all n ≡ o → (widths all).word n ≡ 0
    go None is = ap word_bits is
    go (Some x) is = ap word_bits is ∙ no-bits x (is_memory x.kind) (sym (ap (kind_passes is_memory) is) ∙ k)

pub word-memory : (all : List Line) (n : Name) (i : ℕ) → i < (widths all).word n → is_kind is_memory all n ≡ true
word-memory all n i lt = go (is_kind is_memory all n) refl
  where
    go : (b : Bool) → is_kind is_memory all n ≡ b → is_kind is_memory all n ≡ true
    go true k = k
    go false k = let none = no-word all n k in absurd (omega (arith, none, lt))

-- ---- what a sound leaf's stores read

-- the enable is one bit, and the index fits
abbrev pub Sides : Widths → Item → Type 0
Sides w (store c n i e) = (plain_expr limit c ≡ true) × (agrees w c ≡ true) × (width_of w c ≡ 1) × (plain_expr limit i ≡ true) × (agrees w i ≡ true)
Sides w _ = Unit {0}

sides : (ls : List Leaf) (all before : List Line) (is : List Item) → all ≡ before ++ map item is → list_all plain_item is ≡ true → Passes name_unknown (sites_behind ls all before (map item is))
    → Passes wrong_width (sites_behind ls all before (map item is)) → AllByRecursion (Sides (widths all)) is
unfolding wrong_width
sides ls all before [] e plain named p = tt
sides ls all before (wire h n ∷ is) e plain named p = (tt, sides ls all (before ++ item (wire h n) ∷ []) is (more all before (wire h n) is e) (and_parts (plain_item (wire h n)) (list_all plain_item is) plain).1 named.1 p.1)
sides ls all before (reg h n ∷ is) e plain named p = (tt, sides ls all (before ++ item (reg h n) ∷ []) is (more all before (reg h n) is e) (and_parts (plain_item (reg h n)) (list_all plain_item is) plain).1 named.1 p.1)
sides ls all before (mem h n last ∷ is) e plain named p = (tt, sides ls all (before ++ item (mem h n last) ∷ []) is (more all before (mem h n last) is e) (and_parts (plain_item (mem h n last)) (list_all plain_item is) plain).1 named.1 p.1)
sides ls all before (assign n x ∷ is) e plain named p = (tt, sides ls all (before ++ item (assign n x) ∷ []) is (more all before (assign n x) is e) (and_parts (plain_item (assign n x)) (list_all plain_item is) plain).1 named.1 p.1)
sides ls all before (clocked n k x ∷ is) e plain named p = (tt, sides ls all (before ++ item (clocked n k x) ∷ []) is (more all before (clocked n k x) is e) (and_parts (plain_item (clocked n k x)) (list_all plain_item is) plain).1 named.1 p.1)
sides ls all before (store c n i x ∷ is) e plain named p =
    let plains = and_parts (plain_item (store c n i x)) (list_all plain_item is) plain in
    let mine = and_parts ((plain_expr limit c && is_name n) && plain_expr limit i) (plain_expr limit x) plains.0 in
    let front2 = and_parts (plain_expr limit c && is_name n) (plain_expr limit i) mine.0 in
    let front1 = and_parts (plain_expr limit c) (is_name n) front2.0 in
    let parts = and_parts (is_kind is_memory before n) (knows before c && (knows before i && knows before x)) (known-here ls all before (item (store c n i x)) (map item is) named) in
    let known2 = and_parts (knows before c) (knows before i && knows before x) parts.1 in
    let known3 = and_parts (knows before i) (knows before x) known2.1 in
    let f1 = and_parts (agrees (widths before) c) ((width_of (widths before) c == 1) && (agrees (widths before) i && (agrees (widths before) x && (width_of (widths before) x == (widths before).word n))))
    (not-false (line_fits ls (widths before) (item (store c n i x))) p.0) in
    let f2 = and_parts (width_of (widths before) c == 1) (agrees (widths before) i && (agrees (widths before) x && (width_of (widths before) x == (widths before).word n))) f1.1 in
    let f3 = and_parts (agrees (widths before) i) (agrees (widths before) x && (width_of (widths before) x == (widths before).word n)) f2.1 in
    let same = known-width all before (map item (store c n i x ∷ is)) c e known2.0 in
    let same2 = known-width all before (map item (store c n i x ∷ is)) i e known3.0 in (
      (front1.0, sym same.1 ∙ f1.0, sym same.0 ∙ eqb-true (width_of (widths before) c) 1 f2.0, front2.1, sym same2.1 ∙ f3.0),
      sides ls all (before ++ item (store c n i x) ∷ []) is (more all before (store c n i x) is e) plains.1 named.1 p.1,
    )

-- what is used of a sound leaf
pub record ReadyLeaf (l : Leaf) : Type 0 where
  pub moving : MovingLeaf l
  pub sides : AllByRecursion (Sides (leaf_widths l)) l.items

pub ready-leaf : (l : Leaf) → list_all plain_item l.items ≡ true → SoundLeaf l → ReadyLeaf l
ready-leaf l plain s = record {
  moving = moving-leaf l plain s;
  sides =
      sides s.0 (leaf_lines l) (front l) l.items refl plain (passes-behind name_unknown s.0 (leaf_lines l) [] (front l) (map item l.items) s.1.known)
      (passes-behind wrong_width s.0 (leaf_lines l) [] (front l) (map item l.items) s.1.width);
}

-- ---- the item that moves a register or a memory

abbrev pub ClockedHas : (Name → Type 0) → Item → Type 0
ClockedHas P (clocked n k e) = P n
ClockedHas P _ = Unit {0}

abbrev pub StoredHas : (Name → Type 0) → Item → Type 0
StoredHas P (store c n i e) = P n
StoredHas P _ = Unit {0}

here : (P : Name → Type 0) (n m : Name) (rest : Bool) → P m → (rest ≡ true → P n) → (bytes_eq n m || rest) ≡ true → P n
here P n m rest p more h = go (bytes_eq n m) refl h
  where
    go : (b : Bool) → bytes_eq n m ≡ b → (b || rest) ≡ true → P n
    go true same h = subst P (sym (one-name n m same)) p
    go false other h = more h

pub clocked-has : (P : Name → Type 0) (is : List Item) → AllByRecursion (ClockedHas P) is → (n : Name) → is_clocked is n ≡ true → P n
clocked-has P [] a n h = absurd (false≢true h)
clocked-has P (clocked m k e ∷ is) a n h = here P n m (is_clocked is n) a.0 (clocked-has P is a.1 n) h
clocked-has P (wire x m ∷ is) a n h = clocked-has P is a.1 n h
clocked-has P (reg x m ∷ is) a n h = clocked-has P is a.1 n h
clocked-has P (mem x m last ∷ is) a n h = clocked-has P is a.1 n h
clocked-has P (assign m e ∷ is) a n h = clocked-has P is a.1 n h
clocked-has P (store c m i e ∷ is) a n h = clocked-has P is a.1 n h

pub stored-has : (P : Name → Type 0) (is : List Item) → AllByRecursion (StoredHas P) is → (n : Name) → is_stored is n ≡ true → P n
stored-has P [] a n h = absurd (false≢true h)
stored-has P (store c m i e ∷ is) a n h = here P n m (is_stored is n) a.0 (stored-has P is a.1 n) h
stored-has P (wire x m ∷ is) a n h = stored-has P is a.1 n h
stored-has P (reg x m ∷ is) a n h = stored-has P is a.1 n h
stored-has P (mem x m last ∷ is) a n h = stored-has P is a.1 n h
stored-has P (assign m e ∷ is) a n h = stored-has P is a.1 n h
stored-has P (clocked m k e ∷ is) a n h = stored-has P is a.1 n h

-- what follows of each item from four facts of it
all-four : {A : Type 0} (P Q R S T : A → Type 0) → ((x : A) → P x → Q x → R x → S x → T x) → (xs : List A) → AllByRecursion P xs → AllByRecursion Q xs → AllByRecursion R xs → AllByRecursion S xs → AllByRecursion T xs
all-four P Q R S T f [] p q r s = tt
all-four P Q R S T f (x ∷ xs) p q r s = (f x p.0 q.0 r.0 s.0, all-four P Q R S T f xs p.1 q.1 r.1 s.1)

pub all-of : {A : Type 0} (P : A → Type 0) → ((x : A) → P x) → (xs : List A) → AllByRecursion P xs
all-of P f [] = tt
all-of P f (x ∷ xs) = (f x, all-of P f xs)

-- ---- what is kept

-- for domain d, each bit of each memory agrees, in all words
abbrev pub WordsAgree : ℕ → Widths → Labels → Values → Values → Type 0
WordsAgree d w l v u = (n : Name) (j i : ℕ) → i < w.word n → Agrees d (l.word n i) (bit_at (v.word n j) i) (bit_at (u.word n j) i)

abbrev pub KeptAgrees : ℕ → Leaf → Labels → Values → Values → Type 0
KeptAgrees d leaf l v u =
    ((n : Name) → is_kind is_register (leaf_lines leaf) n ≡ true → AllAgree d (l.net n) ((leaf_widths leaf).net n) (v.net n) (u.net n))
    × WordsAgree d (leaf_widths leaf) l v u

-- ---- an edge

module _ (d : ℕ) where
  -- a label above the old word's and above what may be written
  written-agrees : (W M : Label) (T : Domains) (a b p q : ℕ) → IsBelow W M → IsBelow (from T) M → Agrees d W p q → (IsWithin T d → p ≡ q → a ≡ b) → Agrees d M a b
  written-agrees W (known v) T a b p q old new h f = absurd new
  written-agrees W (from S) T a b p q old new h f = λ s. f (λ e k. s e (new e k)) (agrees-below d W (from S) p q old h s)

  stored-bit : (c i x y j k : ℕ) (f g : ℕ → ℕ) → bit_at x k ≡ bit_at y k → bit_at (f j) k ≡ bit_at (g j) k → bit_at (stored c i x f j) k ≡ bit_at (stored c i y g j) k
  stored-bit c i x y j k f g new old = go ((c == 1) && (i == j))
    where
      go : (b : Bool) → bit_at (if b then x else f j) k ≡ bit_at (if b then y else g j) k
      go true = new
      go false = old

  -- c and e are the enables, i and h the indexes, x and y the values
  store-agrees : (C W M : Label) (T V : Domains) (c e i h x y j k : ℕ) (f g : ℕ → ℕ) → c < 2 ^ 1 → e < 2 ^ 1 → Agrees d C (bit_at c 0) (bit_at e 0) → (IsWithin T d → i ≡ h) → (IsWithin V d → bit_at x k ≡ bit_at y k)
      → Agrees d W (bit_at (f j) k) (bit_at (g j) k) → IsBelow W M → MayWrite C (from (either (sources C) (either T V))) M → Agrees d M (bit_at (stored c i x f j) k) (bit_at (stored e h y g j) k)
  store-agrees (known false) W M T V c e i h x y j k f g sc se en ix val old low write =
      subst (λ z. Agrees d M (bit_at (stored z i x f j) k) (bit_at (stored e h y g j) k)) (sym (sym (bit-one c sc) ∙ en.0))
      (subst (λ z. Agrees d M (bit_at (f j) k) (bit_at (stored z h y g j) k)) (sym (sym (bit-one e se) ∙ en.1)) (agrees-below d W M (bit_at (f j) k) (bit_at (g j) k) low old))
  store-agrees (known true) W M T V c e i h x y j k f g sc se en ix val old low write =
      written-agrees W M (either none (either T V)) (bit_at (stored c i x f j) k) (bit_at (stored e h y g j) k) (bit_at (f j) k) (bit_at (g j) k) low write old (λ s same.
      ap (λ z. bit_at (stored z i x f j) k) (sym (bit-one c sc) ∙ en.0 ∙ sym en.1 ∙ bit-one e se) ∙ ap (λ z. bit_at (stored e z x f j) k) (ix (within-left T V d s)) ∙ stored-bit e h x y j k f g (val (within-right T V d s)) same)
  store-agrees (from S) W M T V c e i h x y j k f g sc se en ix val old low write =
      written-agrees W M (either S (either T V)) (bit_at (stored c i x f j) k) (bit_at (stored e h y g j) k) (bit_at (f j) k) (bit_at (g j) k) low write old (λ s same.
      let rest = within-right S (either T V) d s in
      ap (λ z. bit_at (stored z i x f j) k) (sym (bit-one c sc) ∙ en (within-left S (either T V) d s) ∙ bit-one e se) ∙ ap (λ z. bit_at (stored e z x f j) k) (ix (within-left T V d rest))
      ∙ stored-bit e h x y j k f g (val (within-right T V d rest)) same)

module _ (d : ℕ) (w : Widths) (l m : Labels) (v u v2 u2 : Values) (vs : AreSmall w v) (us : AreSmall w u) (nets : (n : Name) → AllAgree d (l.net n) (w.net n) (v.net n) (u.net n)) (words : WordsAgree d w l v u) where
  of-expr : (e : Expr) → plain_expr limit e ≡ true → agrees w e ≡ true → AllAgree d (label_of w l e) (width_of w e) (value_of w v e) (value_of w u e)
  of-expr e p a = expr-agrees d w l v u vs us words limit e p a (all-of (λ n. AllAgree d (l.net n) (w.net n) (v.net n) (u.net n)) nets (nets_of e))

  abbrev NextNet : Name → Type 0
  NextNet n = AllAgree d (m.net n) (w.net n) (v2.net n) (u2.net n)

  abbrev NextWord : Name → Type 0
  NextWord n = (j i : ℕ) → i < w.word n → Agrees d (m.word n i) (bit_at (v2.word n j) i) (bit_at (u2.word n j) i)

  abbrev BothMove : Item → Type 0
  BothMove x = Stepped w v v2 x × Stepped w u u2 x

  clocks : (x : Item) → Moves w v x → IsCarried w l m x → Stepped w v v2 x → Stepped w u u2 x → ClockedHas NextNet x
  clocks (clocked n k e) f c a b = λ i lt.
      let here : Agrees d (label_of w l e i) (bit_at (value_of w v e) i) (bit_at (value_of w u e) i) = of-expr e f.0 f.1 i (subst (λ z. i < z) (sym f.2) lt) in
      agrees-below d (label_of w l e i) (m.net n i) (bit_at (v2.net n) i) (bit_at (u2.net n) i) (c i lt)
      (subst (λ z. Agrees d (label_of w l e i) (bit_at z i) (bit_at (u2.net n) i)) (sym a) (subst (λ z. Agrees d (label_of w l e i) (bit_at (value_of w v e) i) (bit_at z i)) (sym b) here))
  clocks (wire h n) f c a b = tt
  clocks (reg h n) f c a b = tt
  clocks (mem h n last) f c a b = tt
  clocks (assign n e) f c a b = tt
  clocks (store x n i e) f c a b = tt

  stores : (x : Item) → Moves w v x → Sides w x → IsCarried w l m x → BothMove x → StoredHas NextWord x
  stores (store c n x e) f s k b = λ j i lt.
      subst (λ z. Agrees d (m.word n i) (bit_at z i) (bit_at (u2.word n j) i)) (sym (b.0 j))
      (subst (λ z. Agrees d (m.word n i) (bit_at (stored (value_of w v c) (value_of w v x) (value_of w v e) (v.word n) j) i) (bit_at z i)) (sym (b.1 j))
      (store-agrees d (label_of w l c 0) (l.word n i) (m.word n i) (all_sources (label_of w l x) (width_of w x)) (sources (label_of w l e i)) (value_of w v c) (value_of w u c) (value_of w v x) (value_of w u x) (value_of w v e) (value_of w u e) j i (v.word n) (u.word n)
      (subst (λ z. value_of w v c < 2 ^ z) s.2 (value-small w v vs limit c s.0 s.1)) (subst (λ z. value_of w u c < 2 ^ z) s.2 (value-small w u us limit c s.0 s.1))
      (of-expr c s.0 s.1 0 (subst (λ z. 0 < z) (sym s.2) (omega arith)))
      (same-number d (label_of w l x) (width_of w x) (value_of w v x) (value_of w u x) (value-small w v vs limit x s.3 s.4) (value-small w u us limit x s.3 s.4) (of-expr x s.3 s.4))
      (agrees-own d (label_of w l e i) (bit_at (value_of w v e) i) (bit_at (value_of w u e) i) (of-expr e f.0 f.1 i (subst (λ z. i < z) (sym f.2) lt)))
      (words n j i lt) (k i lt).0 (k i lt).1))
  stores (wire h n) f s c b = tt
  stores (reg h n) f s c b = tt
  stores (mem h n last) f s c b = tt
  stores (assign n e) f s c b = tt
  stores (clocked n k e) f s c b = tt

-- the edge of one leaf
pub edge-agrees : (d : ℕ) (leaf : Leaf) (l m : Labels) (v u v2 u2 : Values) → ReadyLeaf leaf → AreSmall (leaf_widths leaf) v → AreSmall (leaf_widths leaf) u
    → ((n : Name) → AllAgree d (l.net n) ((leaf_widths leaf).net n) (v.net n) (u.net n)) → WordsAgree d (leaf_widths leaf) l v u → AllByRecursion (IsCarried (leaf_widths leaf) l m) leaf.items
    → AllByRecursion (Stepped (leaf_widths leaf) v v2) leaf.items → AllByRecursion (Stepped (leaf_widths leaf) u u2) leaf.items → KeptAgrees d leaf m v2 u2
edge-agrees d leaf l m v u v2 u2 ready vs us nets words carried a b = (
  λ n k. clocked-has (NextNet d w l m v u v2 u2 vs us nets words) leaf.items clocked-all n (ready.moving.register n k),
  λ n j i lt. stored-has (NextWord d w l m v u v2 u2 vs us nets words) leaf.items stored-all n (ready.moving.memory n (word-memory (leaf_lines leaf) n i lt)) j i lt,
)
  where
    w : Widths
    w = leaf_widths leaf

    clocked-all : AllByRecursion (ClockedHas (NextNet d w l m v u v2 u2 vs us nets words)) leaf.items
    clocked-all =
        all-four (Moves w v) (IsCarried w l m) (Stepped w v v2) (Stepped w u u2) (ClockedHas (NextNet d w l m v u v2 u2 vs us nets words)) (clocks d w l m v u v2 u2 vs us nets words) leaf.items (ready.moving.moves v) carried a b

    both : AllByRecursion (BothMove d w l m v u v2 u2 vs us nets words) leaf.items
    both =
        all-four (Stepped w v v2) (Stepped w u u2) (λ x. Unit {0}) (λ x. Unit {0}) (BothMove d w l m v u v2 u2 vs us nets words) (λ x p q r s. (p, q)) leaf.items a b (all-of (λ x. Unit {0}) (λ x. tt) leaf.items)
        (all-of (λ x. Unit {0}) (λ x. tt) leaf.items)

    stored-all : AllByRecursion (StoredHas (NextWord d w l m v u v2 u2 vs us nets words)) leaf.items
    stored-all =
        all-four (Moves w v) (Sides w) (IsCarried w l m) (BothMove d w l m v u v2 u2 vs us nets words) (StoredHas (NextWord d w l m v u v2 u2 vs us nets words)) (stores d w l m v u v2 u2 vs us nets words) leaf.items (ready.moving.moves v)
        ready.sides carried both

-- ---- reset

begun-net : (d : ℕ) (w : Widths) (m : Labels) (v u : Values) (x : Item) → IsBegun w m x → Reset v x → Reset u x → ClockedHas (λ n. AllAgree d (m.net n) (w.net n) (v.net n) (u.net n)) x
begun-net d w m v u (clocked n k e) s a b = λ i lt.
    agrees-below d (known_as (bit_at k.value i)) (m.net n i) (bit_at (v.net n) i) (bit_at (u.net n) i) (s i lt)
    (subst (λ z. Agrees d (known_as (bit_at k.value i)) (bit_at z i) (bit_at (u.net n) i)) (sym a)
    (subst (λ z. Agrees d (known_as (bit_at k.value i)) (bit_at k.value i) (bit_at z i)) (sym b) (agrees-same d (bit_at k.value i) (bit_at k.value i) refl (bit_at-lt k.value i))))
begun-net d w m v u (wire h n) s a b = tt
begun-net d w m v u (reg h n) s a b = tt
begun-net d w m v u (mem h n last) s a b = tt
begun-net d w m v u (assign n e) s a b = tt
begun-net d w m v u (store c n i e) s a b = tt

begun-word : (w : Widths) (m : Labels) (x : Item) → IsBegun w m x → StoredHas (λ n. (i : ℕ) → i < w.word n → IsBelow (from none) (m.word n i)) x
begun-word w m (store c n i e) s = s
begun-word w m (wire h n) s = tt
begun-word w m (reg h n) s = tt
begun-word w m (mem h n last) s = tt
begun-word w m (assign n e) s = tt
begun-word w m (clocked n k e) s = tt

pub begins : (d : ℕ) (leaf : Leaf) (m : Labels) (v u : Values) → ReadyLeaf leaf → AllByRecursion (IsBegun (leaf_widths leaf) m) leaf.items → AllByRecursion (Reset v) leaf.items → AllByRecursion (Reset u) leaf.items
    → ((n : Name) (j : ℕ) → is_kind is_memory (leaf_lines leaf) n ≡ true → v.word n j ≡ u.word n j) → KeptAgrees d leaf m v u
begins d leaf m v u ready begun a b same = (
  λ n k. clocked-has (λ n. AllAgree d (m.net n) (w.net n) (v.net n) (u.net n)) leaf.items
      (all-four (IsBegun w m) (Reset v) (Reset u) (λ x. Unit {0}) (ClockedHas (λ n. AllAgree d (m.net n) (w.net n) (v.net n) (u.net n))) (λ x p q r t. begun-net d w m v u x p q r) leaf.items begun a b (all-of (λ x. Unit {0}) (λ x. tt) leaf.items)) n (ready.moving.register n k),
  λ n j i lt.
      let memory = word-memory (leaf_lines leaf) n i lt in
      agrees-below d (from none) (m.word n i) (bit_at (v.word n j) i) (bit_at (u.word n j) i)
      (stored-has (λ n. (i : ℕ) → i < w.word n → IsBelow (from none) (m.word n i)) leaf.items
      (all-four (IsBegun w m) (λ x. Unit {0}) (λ x. Unit {0}) (λ x. Unit {0}) (StoredHas (λ n. (i : ℕ) → i < w.word n → IsBelow (from none) (m.word n i))) (λ x p q r t. begun-word w m x p) leaf.items begun (all-of (λ x. Unit {0}) (λ x. tt) leaf.items)
      (all-of (λ x. Unit {0}) (λ x. tt) leaf.items) (all-of (λ x. Unit {0}) (λ x. tt) leaf.items)) n (ready.moving.memory n memory) i lt) (λ s. ap (λ z. bit_at z i) (same n j memory)),
)
  where
    w : Widths
    w = leaf_widths leaf
