-- What a leaf hands over to the next phase: its items' carried labels, and the least such.
use Rattle.std.proofs.Common.{◌≡◌, ℕ, ◌<◌, true, false, List, [], ◌∷◌, refl, sym, ◌∙◌, subst, bytes_eq}
use Rattle.std.specs.Int.{bit_at}
use Rattle.std.specs.List.{AllByRecursion}
use Rattle.std.proofs.lemmas.Bool.{or_parts, or_left, or_right}
use Rattle.vl_tree.specs.Values.{Name, Item, wire, reg, mem, assign, clocked, store}
use Rattle.vl_model.specs.Meaning.{Widths, width_of}
use Rattle.vl_model.specs.Once.{is_clocked, is_stored, AreOnce}
use Rattle.vl_model.proofs.Settling.{itself}
use Rattle.label_model.specs.Labels.{Domains, none, either, Label, known, from, sources, known_as, IsBelow, all_sources, Labels, label_of}
use Rattle.label_model.specs.Lawful.{MayWrite, IsCarried, IsBegun}
use Rattle.label_model.specs.Phase.{put_net, put_word, write_label, carried, begun, nothing}
use Rattle.label_model.proofs.Below.{below-itself, below-both, join-left, join-right, join-least}
use Rattle.label_model.proofs.Edges.{ClockedHas, StoredHas}
use Rattle.label_model.proofs.Labelling.{put-here, put-other}

-- ---- a store

pub write-keeps : (c old : Label) (V : Domains) → IsBelow old (write_label c old (from V))
write-keeps (known false) old V = below-itself old
write-keeps (known true) old V = join-left old (from (either none V))
write-keeps (from S) old V = join-left old (from (either S V))

pub write-may : (c old : Label) (V : Domains) → MayWrite c (from (either (sources c) V)) (write_label c old (from V))
write-may (known false) old V = tt
write-may (known true) old V = join-right old (from (either none V))
write-may (from S) old V = join-right old (from (either S V))

pub write-least : (c old M : Label) (V : Domains) → IsBelow old M → MayWrite c (from (either (sources c) V)) M → IsBelow (write_label c old (from V)) M
write-least (known false) old M V h k = h
write-least (known true) old M V h k = join-least old (from (either none V)) M h k
write-least (from S) old M V h k = join-least old (from (either S V)) M h k

-- ---- an item's target

pub clocked-targets : (P : Name → Type 0) (is : List Item) → ((n : Name) → is_clocked is n ≡ true → P n) → AllByRecursion (ClockedHas P) is
clocked-targets P [] h = tt
clocked-targets P (wire x n ∷ is) h = (tt, clocked-targets P is h)
clocked-targets P (reg x n ∷ is) h = (tt, clocked-targets P is h)
clocked-targets P (mem x n last ∷ is) h = (tt, clocked-targets P is h)
clocked-targets P (assign n e ∷ is) h = (tt, clocked-targets P is h)
clocked-targets P (store c n i e ∷ is) h = (tt, clocked-targets P is h)
clocked-targets P (clocked n k e ∷ is) h = (h n (or_left (bytes_eq n n) (is_clocked is n) (itself n)), clocked-targets P is (λ m c. h m (or_right (bytes_eq m n) (is_clocked is m) c)))

module _ (w : Widths) (l : Labels) where
  -- the labels that may be written at bit i
  abbrev written : Item → ℕ → Domains
  written (store c n x e) i = either (all_sources (label_of w l x) (width_of w x)) (sources (label_of w l e i))
  written _ i = none

  carried-net : (is : List Item) (m : Labels) (n : Name) → is_clocked is n ≡ false → (carried w l is m).net n ≡ m.net n
  carried-net [] m n f = refl
  carried-net (wire h k ∷ is) m n f = carried-net is m n f
  carried-net (reg h k ∷ is) m n f = carried-net is m n f
  carried-net (mem h k last ∷ is) m n f = carried-net is m n f
  carried-net (assign k e ∷ is) m n f = carried-net is m n f
  carried-net (store c k x e ∷ is) m n f = carried-net is (put_word m k (λ i. write_label (label_of w l c 0) (l.word k i) (from (written (store c k x e) i)))) n f
  carried-net (clocked k c e ∷ is) m n f =
      let fs = or_parts (bytes_eq n k) (is_clocked is n) f in
      carried-net is (put_net m k (label_of w l e)) n fs.1 ∙ put-other m k n (label_of w l e) fs.0

  carried-word : (is : List Item) (m : Labels) (n : Name) → is_stored is n ≡ false → (carried w l is m).word n ≡ m.word n
  carried-word [] m n f = refl
  carried-word (wire h k ∷ is) m n f = carried-word is m n f
  carried-word (reg h k ∷ is) m n f = carried-word is m n f
  carried-word (mem h k last ∷ is) m n f = carried-word is m n f
  carried-word (assign k e ∷ is) m n f = carried-word is m n f
  carried-word (clocked k c e ∷ is) m n f = carried-word is (put_net m k (label_of w l e)) n f
  carried-word (store c k x e ∷ is) m n f =
      let fs = or_parts (bytes_eq n k) (is_stored is n) f in
      carried-word is (put_word m k (λ i. write_label (label_of w l c 0) (l.word k i) (from (written (store c k x e) i)))) n fs.1 ∙ rw fs.0 refl

  -- what an item moves has the label that it carries
  abbrev pub Carries : Labels → Item → Type 0
  Carries r (clocked n k e) = r.net n ≡ label_of w l e
  Carries r (store c n x e) = r.word n ≡ (λ i. write_label (label_of w l c 0) (l.word n i) (from (written (store c n x e) i)))
  Carries r _ = Unit {0}

  pub all-carry : (is : List Item) (m : Labels) → AreOnce is → AllByRecursion (Carries (carried w l is m)) is
  all-carry [] m o = tt
  all-carry (wire h n ∷ is) m o = (tt, all-carry is m o)
  all-carry (reg h n ∷ is) m o = (tt, all-carry is m o)
  all-carry (mem h n last ∷ is) m o = (tt, all-carry is m o)
  all-carry (assign n e ∷ is) m o = (tt, all-carry is m o)
  all-carry (clocked n k e ∷ is) m o = (carried-net is (put_net m n (label_of w l e)) n o.0 ∙ put-here m n (label_of w l e), all-carry is (put_net m n (label_of w l e)) o.1)
  all-carry (store c n x e ∷ is) m o =
      let next : Labels = put_word m n (λ i. write_label (label_of w l c 0) (l.word n i) (from (written (store c n x e) i))) in
      (carried-word is next n o.0 ∙ rw (itself n) refl, all-carry is next o.1)

  pub is-carried : (r : Labels) (x : Item) → Carries r x → IsCarried w l r x
  is-carried r (clocked n k e) h = λ i lt. subst (λ f. IsBelow (label_of w l e i) (f i)) (sym h) (below-itself (label_of w l e i))
  is-carried r (store c n x e) h = λ i lt. (
    subst (λ f. IsBelow (l.word n i) (f i)) (sym h) (write-keeps (label_of w l c 0) (l.word n i) (written (store c n x e) i)),
    subst (λ f. MayWrite (label_of w l c 0) (from (either (sources (label_of w l c 0)) (written (store c n x e) i))) (f i)) (sym h) (write-may (label_of w l c 0) (l.word n i) (written (store c n x e) i)),
  )
  is-carried r (wire h n) a = tt
  is-carried r (reg h n) a = tt
  is-carried r (mem h n last) a = tt
  is-carried r (assign n e) a = tt

  pub least-net : (r later : Labels) (x : Item) → Carries r x → IsCarried w l later x → ClockedHas (λ n. (i : ℕ) → i < w.net n → IsBelow (r.net n i) (later.net n i)) x
  least-net r later (clocked n k e) h s = λ i lt. subst (λ f. IsBelow (f i) (later.net n i)) (sym h) (s i lt)
  least-net r later (store c n x e) h s = tt
  least-net r later (wire x n) h s = tt
  least-net r later (reg x n) h s = tt
  least-net r later (mem x n last) h s = tt
  least-net r later (assign n e) h s = tt

  pub least-word : (r later : Labels) (x : Item) → Carries r x → IsCarried w l later x → StoredHas (λ n. (i : ℕ) → i < w.word n → IsBelow (r.word n i) (later.word n i)) x
  least-word r later (store c n x e) h s = λ i lt.
      subst (λ f. IsBelow (f i) (later.word n i)) (sym h) (write-least (label_of w l c 0) (l.word n i) (later.word n i) (written (store c n x e) i) (s i lt).0 (s i lt).1)
  least-word r later (clocked n k e) h s = tt
  least-word r later (wire x n) h s = tt
  least-word r later (reg x n) h s = tt
  least-word r later (mem x n last) h s = tt
  least-word r later (assign n e) h s = tt

  -- what is carried to labels is carried to those above
  pub carried-up : (m n : Labels) → ((k : Name) (i : ℕ) → i < w.word k → IsBelow (m.word k i) (n.word k i)) → (x : Item) → ClockedHas (λ k. (i : ℕ) → i < w.net k → IsBelow (m.net k i) (n.net k i)) x → IsCarried w l m x → IsCarried w l n x
  carried-up m n words (clocked k c e) up h = λ i lt. below-both (label_of w l e i) (m.net k i) (n.net k i) (h i lt) (up i lt)
  carried-up m n words (store c k x e) up h = λ i lt. (
    below-both (l.word k i) (m.word k i) (n.word k i) (h i lt).0 (words k i lt),
    may-up (label_of w l c 0) (from (either (sources (label_of w l c 0)) (written (store c k x e) i))) (m.word k i) (n.word k i) (h i lt).1 (words k i lt),
  )
    where
      may-up : (c x y z : Label) → MayWrite c x y → IsBelow y z → MayWrite c x z
      may-up (known false) x y z h k = tt
      may-up (known true) x y z h k = below-both x y z h k
      may-up (from S) x y z h k = below-both x y z h k
  carried-up m n words (wire x k) up h = tt
  carried-up m n words (reg x k) up h = tt
  carried-up m n words (mem x k last) up h = tt
  carried-up m n words (assign k e) up h = tt

-- ---- reset

begun-net : (is : List Item) (m : Labels) (n : Name) → is_clocked is n ≡ false → (begun is m).net n ≡ m.net n
begun-net [] m n f = refl
begun-net (wire h k ∷ is) m n f = begun-net is m n f
begun-net (reg h k ∷ is) m n f = begun-net is m n f
begun-net (mem h k last ∷ is) m n f = begun-net is m n f
begun-net (assign k e ∷ is) m n f = begun-net is m n f
begun-net (store c k x e ∷ is) m n f = begun-net is m n f
begun-net (clocked k c e ∷ is) m n f =
    let fs = or_parts (bytes_eq n k) (is_clocked is n) f in
    begun-net is (put_net m k (λ i. known_as (bit_at c.value i))) n fs.1 ∙ put-other m k n (λ i. known_as (bit_at c.value i)) fs.0

pub begun-word : (is : List Item) (m : Labels) → (begun is m).word ≡ m.word
begun-word [] m = refl
begun-word (wire h k ∷ is) m = begun-word is m
begun-word (reg h k ∷ is) m = begun-word is m
begun-word (mem h k last ∷ is) m = begun-word is m
begun-word (assign k e ∷ is) m = begun-word is m
begun-word (store c k x e ∷ is) m = begun-word is m
begun-word (clocked k c e ∷ is) m = begun-word is (put_net m k (λ i. known_as (bit_at c.value i)))

-- a clocked item's register is known, and memories depend on no domain
abbrev pub Begins : Labels → Item → Type 0
Begins r (clocked n k e) = r.net n ≡ (λ i. known_as (bit_at k.value i))
Begins r _ = Unit {0}

pub all-begin : (is : List Item) (m : Labels) → AreOnce is → AllByRecursion (Begins (begun is m)) is
all-begin [] m o = tt
all-begin (wire h n ∷ is) m o = (tt, all-begin is m o)
all-begin (reg h n ∷ is) m o = (tt, all-begin is m o)
all-begin (mem h n last ∷ is) m o = (tt, all-begin is m o)
all-begin (assign n e ∷ is) m o = (tt, all-begin is m o)
all-begin (store c n x e ∷ is) m o = (tt, all-begin is m o.1)
all-begin (clocked n k e ∷ is) m o =
    let x : ℕ → Label = λ i. known_as (bit_at k.value i) in (begun-net is (put_net m n x) n o.0 ∙ put-here m n x, all-begin is (put_net m n x) o.1)

pub is-begun : (w : Widths) (r : Labels) → r.word ≡ nothing.word → (x : Item) → Begins r x → IsBegun w r x
is-begun w r words (clocked n k e) h = λ i lt. subst (λ f. IsBelow (known_as (bit_at k.value i)) (f i)) (sym h) (below-itself (known_as (bit_at k.value i)))
is-begun w r words (store c n x e) h = λ i lt. subst (λ f. IsBelow (from none) (f n i)) (sym words) (below-itself (from none))
is-begun w r words (wire x n) h = tt
is-begun w r words (reg x n) h = tt
is-begun w r words (mem x n last) h = tt
is-begun w r words (assign n e) h = tt

pub least-begun-net : (w : Widths) (r later : Labels) (x : Item) → Begins r x → IsBegun w later x → ClockedHas (λ n. (i : ℕ) → i < w.net n → IsBelow (r.net n i) (later.net n i)) x
least-begun-net w r later (clocked n k e) h s = λ i lt. subst (λ f. IsBelow (f i) (later.net n i)) (sym h) (s i lt)
least-begun-net w r later (store c n x e) h s = tt
least-begun-net w r later (wire x n) h s = tt
least-begun-net w r later (reg x n) h s = tt
least-begun-net w r later (mem x n last) h s = tt
least-begun-net w r later (assign n e) h s = tt

pub least-begun-word : (w : Widths) (r later : Labels) → r.word ≡ nothing.word → (x : Item) → IsBegun w later x → StoredHas (λ n. (i : ℕ) → i < w.word n → IsBelow (r.word n i) (later.word n i)) x
least-begun-word w r later words (store c n x e) s = λ i lt. subst (λ f. IsBelow (f n i) (later.word n i)) (sym words) (s i lt)
least-begun-word w r later words (clocked n k e) s = tt
least-begun-word w r later words (wire x n) s = tt
least-begun-word w r later words (reg x n) s = tt
least-begun-word w r later words (mem x n last) s = tt
least-begun-word w r later words (assign n e) s = tt

pub begun-up : (w : Widths) (m n : Labels) → ((k : Name) (i : ℕ) → i < w.word k → IsBelow (m.word k i) (n.word k i)) → (x : Item) → ClockedHas (λ k. (i : ℕ) → i < w.net k → IsBelow (m.net k i) (n.net k i)) x → IsBegun w m x → IsBegun w n x
begun-up w m n words (clocked k c e) up h = λ i lt. below-both (known_as (bit_at c.value i)) (m.net k i) (n.net k i) (h i lt) (up i lt)
begun-up w m n words (store c k x e) up h = λ i lt. below-both (from none) (m.word k i) (n.word k i) (h i lt) (words k i lt)
begun-up w m n words (wire x k) up h = tt
begun-up w m n words (reg x k) up h = tt
begun-up w m n words (mem x k last) up h = tt
begun-up w m n words (assign k e) up h = tt
