-- Another word of a memory.
use Rattle.std.proofs.Common.{◌≡◌, ◌≢◌, ℕ, zero, suc, ◌+◌, ◌<◌, ◌≤◌, ◌^◌, Bool, true, false, ◌&&◌, List, [], ◌∷◌, ◌++◌, length, get_or, map, refl, sym, ◌∙◌, ap, subst, bytes_eq, append_assoc, arith}
use Rattle.std.specs.Prelude.{Some, None, is_some, if◌then◌else◌, slice_get, slice_set, ◌==◌, codes}
use Rattle.std.proofs.lemmas.Option.{none-some}
use Rattle.std.proofs.lemmas.Bool.{both_ways, false_from_ne_true}
use Rattle.vl_tree.specs.declared.tree.Port.{Port}
use Rattle.vl_tree.specs.declared.tree.Join.{Join}
use Rattle.vl_tree.specs.declared.tree.TopItem.{TopItem}
use Rattle.vl_tree.specs.declared.tree.TopItem.TheVariants.{Wire, Instance}
use Rattle.vl_tree.specs.Values.{Name, Item, wire, reg, mem, assign, clocked, store, Leaf, Design}
use Rattle.vl_model.specs.Meaning.{Values}
use Rattle.vl_model.specs.declared.kind.Kind.TheVariants.{Memory, Child}
use Rattle.vl_model.specs.Lines.{Line, heading, port, item, joint, leaf_lines, top_lines, sites_behind, module_sites, Declared, declared, found, lookup, kind_passes, is_memory, leaf_named, word_bits, word_count, widths}
use Rattle.vl_model.specs.Rules.{is_kind, IsSound, is_again, repeats, name_twice}
use Rattle.vl_model.proofs.Passed.{Passes, SoundLeaf, leaf-sound, top-sound, passes-behind}
use Rattle.vl_model.proofs.Settling.{itself, one-name}
use Rattle.vl_model.proofs.Ordered.{lookup-front}
use Rattle.vl_run.specs.Places.{ArePlaces}
use Rattle.vl_run.specs.Rows.{Rows}
use Rattle.vl_run.specs.State.{Part}
use Rattle.vl_run.specs.Stands.{StandsIn, StandsAt, AllStand, Stands}
use Rattle.vl_run.specs.Put as put
use Rattle.vl_run.specs.Put.{instances, memories_of, with_word, with_word_in, memory_place, memory_line, part_with, parts_with}
use Rattle.vl_run.proofs.Stored.{written, write-row}
use Rattle.vl_run.proofs.Inputs.{no-lookup, lookup-behind}

-- ---- each name is declared at one line

module _ (ls : List Leaf) (all : List Line) where
  again : (before : List Line) (y : Line) (x : Declared) → declared y ≡ Some x → repeats ls before y ≡ false → is_some (lookup before x.name) ≡ false
  again before (heading n) x e r = absurd (none-some x e)
  again before (port p) x e r = subst (λ o. is_again before o ≡ false) e r
  again before (item i) x e r = subst (λ o. is_again before o ≡ false) e r
  again before (joint j) x e r = subst (λ o. is_again before o ≡ false) e r

  here : (before : List Line) (y : Line) (x : Declared) → declared y ≡ Some x → repeats ls before y ≡ false → lookup (before ++ y ∷ []) x.name ≡ Some x
  here before y x e r =
      lookup-behind before (y ∷ []) x.name (no-lookup (lookup before x.name) (again before y x e r))
      ∙ ap (λ o. found o x.name None) e ∙ ap (λ b. if b then Some x else None) (itself x.name)

  -- later lines declare other names
  no-later : (before xs : List Line) → Passes name_twice (sites_behind ls all before xs) → (n : Name) (z : Declared) → lookup before n ≡ Some z
      → (j : ℕ) (y : Line) (x : Declared) → slice_get xs j ≡ Some y → declared y ≡ Some x → x.name ≢ n
  unfolding name_twice
  no-later before [] p n z known j y x at e same = none-some y at
  no-later before (b ∷ xs) p n z known zero y x at e same =
      let one : b ≡ y = cc in
      let new = again before y x e (subst (λ w. repeats ls before w ≡ false) one p.0) in
      both_ways (is_some (lookup before x.name)) new (ap (λ m. is_some (lookup before m)) same ∙ ap is_some known)
  no-later before (b ∷ xs) p n z known (suc j) y x at e same = no-later (before ++ b ∷ []) xs p.1 n z (lookup-front before (b ∷ []) n z known) j y x at e same

  unique : (before xs : List Line) → Passes name_twice (sites_behind ls all before xs) → (i j : ℕ) (a b : Line) (x y : Declared) → slice_get xs i ≡ Some a → slice_get xs j ≡ Some b
      → declared a ≡ Some x → declared b ≡ Some y → x.name ≡ y.name → i ≡ j
  unfolding name_twice
  unique before [] p i j a b x y ea eb da db same = absurd (none-some a ea)
  unique before (c ∷ xs) p zero zero a b x y ea eb da db same = refl
  unique before (c ∷ xs) p zero (suc j) a b x y ea eb da db same =
      let one : c ≡ a = cc in
      absurd (no-later (before ++ c ∷ []) xs p.1 x.name x (here before c x (ap declared one ∙ da) p.0) j b y eb db (sym same))
  unique before (c ∷ xs) p (suc i) zero a b x y ea eb da db same =
      let one : c ≡ b = cc in
      absurd (no-later (before ++ c ∷ []) xs p.1 y.name y (here before c y (ap declared one ∙ db) p.0) i a x ea da same)
  unique before (c ∷ xs) p (suc i) (suc j) a b x y ea eb da db same = ap suc (unique (before ++ c ∷ []) xs p.1 i j a b x y ea eb da db same)

  known-from : (before xs : List Line) → Passes name_twice (sites_behind ls all before xs) → (k : ℕ) (y : Line) (x : Declared) → slice_get xs k ≡ Some y → declared y ≡ Some x → lookup (before ++ xs) x.name ≡ Some x
  unfolding name_twice
  known-from before [] p k y x at e = absurd (none-some y at)
  known-from before (c ∷ xs) p zero y x at e =
      let one : c ≡ y = cc in
      ap (λ zs. lookup zs x.name) (sym (append_assoc before (c ∷ []) xs)) ∙ lookup-front (before ++ c ∷ []) xs x.name x (here before c x (ap declared one ∙ e) p.0)
  known-from before (c ∷ xs) p (suc k) y x at e =
      ap (λ zs. lookup zs x.name) (sym (append_assoc before (c ∷ []) xs)) ∙ known-from (before ++ c ∷ []) xs p.1 k y x at e

  -- a line's name stands at the line
  place-is : Passes name_twice (module_sites ls all) → (s : Name → ℕ) → ArePlaces all s → (k : ℕ) (y : Line) (x : Declared) → slice_get all k ≡ Some y → declared y ≡ Some x → s x.name ≡ k
  place-is p s places k y x at e =
      let l = places.line x.name x (known-from [] all p k y x at e) in
      unique [] all p (s x.name) k l.0 y x x l.1 at l.2 e refl

-- ---- one instance

at-item : (is : List Item) (k : ℕ) (x : Item) → slice_get is k ≡ Some x → slice_get (map item is) k ≡ Some (item x)
at-item [] k x e = absurd (none-some x e)
at-item (y ∷ is) zero x e = let one : y ≡ x = cc in ap (λ z. Some (item z)) one
at-item (y ∷ is) (suc k) x e = at-item is k x e

behind-ports : (ps : List Port) (is : List Item) (k : ℕ) → slice_get (map port ps ++ map item is) (length ps + k) ≡ slice_get (map item is) k
behind-ports [] is k = let e : 0 + k ≡ k = omega arith in ap (slice_get (map item is)) e
behind-ports (p ∷ ps) is k =
    let e : length (p ∷ ps) + k ≡ suc (length ps + k) = omega arith in
    ap (slice_get (map port (p ∷ ps) ++ map item is)) e ∙ behind-ports ps is k

-- the item that declares the memory of a number
memory-at : (is : List Item) (k : ℕ) (m : put.Memory) → slice_get (memories_of is) k ≡ Some m → slice_get is (memory_place is k) ≡ Some (mem m.high m.name m.last)
memory-at [] k m e = absurd (none-some m e)
memory-at (mem h n last ∷ is) zero m e = let one : record { name = n; high = h; last = last } ≡ m = cc in ap (λ (z : put.Memory). Some (mem z.high z.name z.last)) one
memory-at (mem h n last ∷ is) (suc k) m e = memory-at is k m e
memory-at (wire h n ∷ is) k m e = memory-at is k m e
memory-at (reg h n ∷ is) k m e = memory-at is k m e
memory-at (assign n v ∷ is) k m e = memory-at is k m e
memory-at (clocked n c v ∷ is) k m e = memory-at is k m e
memory-at (store c n i v ∷ is) k m e = memory-at is k m e

module _ (t : Name → ℕ) (l : Leaf) (sound : SoundLeaf l) (k : ℕ) (m : put.Memory) (is-memory : slice_get (memories_of l.items) k ≡ Some m) (i x : ℕ) (within : i ≤ m.last) (fits : x < 2 ^ (m.high + 1)) where
  abbrev all : List Line
  all = leaf_lines l

  abbrev shown_as : Declared
  shown_as = record { name = m.name; kind = Memory; high = m.high; last = m.last }

  at : slice_get all (memory_line l k) ≡ Some (item (mem m.high m.name m.last))
  at = behind-ports l.ports l.items (memory_place l.items k) ∙ at-item l.items (memory_place l.items k) (mem m.high m.name m.last) (memory-at l.items k m is-memory)

  known : lookup all m.name ≡ Some shown_as
  known = known-from sound.0 all [] all sound.1.once (memory_line l k) (item (mem m.high m.name m.last)) shown_as at refl

  pub memory-kind : is_kind is_memory all m.name ≡ true
  memory-kind = ap (kind_passes is_memory) known

  wide : (widths all).word m.name ≡ m.high + 1
  wide = ap word_bits known

  put-stands : (js : List Join) (p : Part) (v : Values) → StandsIn t l js p v → StandsIn t l js (part_with (memory_line l k) i x p) (with_word v m.name i x)
  put-stands js p v st = record {
    place = st.place;
    places = st.places;
    code = st.code;
    room = st.room;
    small = record { net = st.small.net; word = λ n j. small n j (bytes_eq n m.name) refl (i == j) refl };
    nets = st.nets;
    rows = subst (λ r. Rows all st.place (written p.kept.memories r i x) (with_word v m.name i x)) here-it
        (write-row all st.place st.places p.kept.memories v m.name i x memory-kind (subst (λ c. i < c) (sym (ap word_count known)) (omega arith)) st.rows);
  }
    where
      here-it : st.place m.name ≡ memory_line l k
      here-it = place-is sound.0 all sound.1.once st.place st.places (memory_line l k) (item (mem m.high m.name m.last)) shown_as at refl

      small : (n : Name) (j : ℕ) (b : Bool) → bytes_eq n m.name ≡ b → (c : Bool) → (i == j) ≡ c → (if bytes_eq n m.name && (i == j) then x else v.word n j) < 2 ^ (widths all).word n
      small n j true same true e =
          let one : n ≡ m.name = one-name n m.name same in
          rw (same, e) (subst (λ w. x < 2 ^ w) (sym (ap (λ a. (widths all).word a) one ∙ wide)) fits)
      small n j true same false e = rw (same, e) (st.small.word n j)
      small n j false other c e = rw other (st.small.word n j)

-- ---- all instances

instance-at : (is : List TopItem) (c : ℕ) (u : Name × Name) → slice_get (instances is) c ≡ Some u → (j : ℕ) × (js : List Join) × (slice_get (map joint is) j ≡ Some (joint (Instance u.0 u.1 js)))
instance-at [] c u e = absurd (none-some u e)
instance-at (Wire h n ∷ is) c u e = let r = instance-at is c u e in (suc r.0, r.1, r.2)
instance-at (Instance l n js ∷ is) zero u e = let one : (l, n) ≡ u = cc in (0, js, ap (λ (z : Name × Name). Some (joint (Instance z.0 z.1 js))) one)
instance-at (Instance l n js ∷ is) (suc c) u e = let r = instance-at is c u e in (suc r.0, r.1, r.2)

module _ (t : Name → ℕ) (ls : List Leaf) (all : List Line) (inside : Name → Values) (u : Name × Name) (n : Name) (row i x : ℕ) where
  abbrev after : Name → Values
  after = with_word_in inside u.1 n i x

  other : (k : Name) → k ≢ u.1 → after k ≡ inside k
  other k apart = ap (λ b. if b then with_word (inside k) n i x else inside k) (false_from_ne_true (bytes_eq k u.1) (λ same. apart (one-name k u.1 same)))

  -- instances of other names stand as before
  others-stand : (is : List TopItem) → ((j : ℕ) (y : Line) (z : Declared) → slice_get (map joint is) j ≡ Some y → declared y ≡ Some z → z.name ≢ u.1) → (xs : List Part) → AllStand t ls inside is xs → AllStand t ls after is xs
  others-stand [] free xs h = h
  others-stand (Wire h m ∷ is) free xs st = others-stand is (λ j. free (suc j)) xs st
  others-stand (Instance l m js ∷ is) free [] st = st
  others-stand (Instance l m js ∷ is) free (p ∷ xs) st =
      (subst (StandsAt t (leaf_named ls l) js p) (sym (other m (free 0 (joint (Instance l m js)) (declared-as m) refl refl))) st.0, others-stand is (λ j. free (suc j)) xs st.1)
    where
      declared-as : Name → Declared
      declared-as m = record { name = m; kind = Child; high = 0; last = 0 }

  put-all : (leaf : Leaf) → leaf_named ls u.0 ≡ Some leaf → ((js : List Join) (p : Part) → StandsIn t leaf js p (inside u.1) → StandsIn t leaf js (part_with row i x p) (with_word (inside u.1) n i x))
      → (before : List Line) (is : List TopItem) → Passes name_twice (sites_behind ls all before (map joint is)) → (c : ℕ) → slice_get (instances is) c ≡ Some u
      → (xs : List Part) → AllStand t ls inside is xs → AllStand t ls after is (parts_with c row i x xs)
  unfolding name_twice
  put-all leaf named make before [] p c e xs st = absurd (none-some u e)
  put-all leaf named make before (Wire h m ∷ is) p c e xs st = put-all leaf named make (before ++ joint (Wire h m) ∷ []) is p.1 c e xs st
  put-all leaf named make before (Instance l m js ∷ is) p c e [] st = absurd st
  put-all leaf named make before (Instance l m js ∷ is) p zero e (q ∷ xs) st =
      let one : (l, m) ≡ u = cc in
      let at : m ≡ u.1 = ap (λ (z : Name × Name). z.1) one in
      let of : leaf_named ls l ≡ Some leaf = ap (λ (z : Name × Name). leaf_named ls z.0) one ∙ named in
      let was : StandsIn t leaf js q (inside u.1) = subst (λ (a : Name). StandsIn t leaf js q (inside a)) at (subst (λ o. StandsAt t o js q (inside m)) of st.0) in
      let same : after m ≡ with_word (inside u.1) n i x = ap after at ∙ ap (λ b. if b then with_word (inside u.1) n i x else inside u.1) (itself u.1) in
      let now' : StandsAt t (leaf_named ls l) js (part_with row i x q) (after m) = subst (λ o. StandsAt t o js (part_with row i x q) (after m)) (sym of) (subst (StandsIn t leaf js (part_with row i x q)) (sym same) (make js q was)) in
      let known = here ls all before (joint (Instance l m js)) (record { name = m; kind = Child; high = 0; last = 0 }) refl p.0 in
      (now', others-stand is (λ j y z a b same. no-later ls all (before ++ joint (Instance l m js) ∷ []) (map joint is) p.1 m (record { name = m; kind = Child; high = 0; last = 0 }) known j y z a b (same ∙ sym at)) xs st.1)
  put-all leaf named make before (Instance l m js ∷ is) p (suc c) e (q ∷ xs) st =
      let r = instance-at is c u e in
      let known = here ls all before (joint (Instance l m js)) (record { name = m; kind = Child; high = 0; last = 0 }) refl p.0 in
      let apart : m ≢ u.1 = λ same. no-later ls all (before ++ joint (Instance l m js) ∷ []) (map joint is) p.1 m (record { name = m; kind = Child; high = 0; last = 0 }) known
      r.0 (joint (Instance u.0 u.1 r.1)) (record { name = u.1; kind = Child; high = 0; last = 0 }) r.2 refl (sym same) in
      (subst (StandsAt t (leaf_named ls l) js q) (sym (other m apart)) st.0, put-all leaf named make (before ++ joint (Instance l m js) ∷ []) is p.1 c e xs st.1)

-- ---- the list of instances

pub set-with : (ps : List Part) (c row i x : ℕ) (p q : Part) → c < length ps → q ≡ part_with row i x (get_or ps c p) → slice_set ps c q ≡ parts_with c row i x ps
set-with [] c row i x p q less made = absurd (omega arith)
set-with (r ∷ ps) zero row i x p q less made = ap (λ z. z ∷ ps) made
set-with (r ∷ ps) (suc c) row i x p q less made = ap (λ (zs : List Part). r ∷ zs) (set-with ps c row i x p q (omega arith) made)

pub none-with : (ps : List Part) (c row i x : ℕ) → length ps ≤ c → ps ≡ parts_with c row i x ps
none-with [] c row i x past = refl
none-with (r ∷ ps) zero row i x past = absurd (omega arith)
none-with (r ∷ ps) (suc c) row i x past = ap (λ (zs : List Part). r ∷ zs) (none-with ps c row i x (omega arith))

-- ---- the whole

pub length-with : (c row i x : ℕ) (ps : List Part) → length (parts_with c row i x ps) ≡ length ps
length-with c row i x [] = refl
length-with zero row i x (p ∷ ps) = refl
length-with (suc c) row i x (p ∷ ps) = ap suc (length-with c row i x ps)

-- the instances of a machine with another word stand at the state with it
pub put-parts : (d : Design) (sound : IsSound d) (inside : Name → Values) (parts : List Part) (tops ports : List ℕ) (st : Stands (record { design = d; parts = parts; tops = tops; ports = ports }) inside)
    → (c : ℕ) (u : Name × Name) → slice_get (instances d.top.items) c ≡ Some u → (l : Leaf) → leaf_named d.leaves u.0 ≡ Some l → (k : ℕ) (m : put.Memory) → slice_get (memories_of l.items) k ≡ Some m
    → (i x : ℕ) → i ≤ m.last → x < 2 ^ (m.high + 1)
    → AllStand st.top d.leaves (with_word_in inside u.1 m.name i x) d.top.items (parts_with c (memory_line l k) i x parts)
put-parts d sound inside parts tops ports st c u is-instance l named k m is-memory i x within fits =
    put-all st.top d.leaves (top_lines d.top) inside u m.name (memory_line l k) i x l named
    (λ js p was. put-stands st.top l (leaf-sound d sound.rules u.0 l named) k m is-memory i x within fits js p (inside u.1) was)
    (heading (codes "noc") ∷ map port d.top.ports) d.top.items
    (passes-behind name_twice d.leaves (top_lines d.top) [] (heading (codes "noc") ∷ map port d.top.ports) (map joint d.top.items) (top-sound d sound.rules).once)
    c is-instance parts st.parts
