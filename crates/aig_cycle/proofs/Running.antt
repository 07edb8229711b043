-- Steps and stores, one by one.
use Rattle.std.proofs.Common.{◌≡◌, ℕ, zero, suc, ◌+◌, ◌<◌, ◌≤◌, Bool, true, false, List, [], ◌∷◌, ◌++◌, length, map, get_or, set, take, drop, refl, sym, ◌∙◌, ap, subst, arith, inl, inr}
use Rattle.std.specs.Prelude.{◌==◌, if◌then◌else◌, slice_index}
use Rattle.std.proofs.lemmas.Bool.{cases_lt}
use Rattle.std.proofs.lemmas.List.{map-set, length-set, set-get_or, set_past, at_drop_more, get_or-map, length-map, take_all, drop_all, append-nil}
use Rattle.std.proofs.lemmas.List.Edits.{map_over_more}
use Rattle.aig_model.specs.Form.{literal, word}
use Rattle.aig_model.specs.Netlist.{Net, Grows, AreOf, settle_gates}
use Rattle.aig_model.proofs.Netlists.{all-wider, grows-none, grows-twice, grown-word}
use Rattle.vl_run.specs.declared.step.Step.{Step}
use Rattle.vl_run.specs.declared.program.Store.{Store}
use Rattle.vl_run.specs.declared.program.Link.{Link}
use Rattle.vl_run.specs.Step.{ran, action_value, word_at}
use Rattle.vl_run.specs.Program.{stored_in, linked}
use Rattle.vl_run.specs.State.{Code, settled_by, edged}
use Rattle.aig_gates.specs.Memory as memory
use Rattle.aig_cycle.specs.Wires.{numbers, rows, kept_as, IsWord, AreWords, AreRows, ArePlain, IsPlain}
use Rattle.vl_run.specs.State.{Part}
use Rattle.aig_cycle.specs.Steps.{linked_words, Wired, part_as, IsWired, AreWired}
use Rattle.aig_cycle.proofs.Actions.{number-at, row-at, word-of, row-of}

-- ---- one step more

one-turn : (m : ℕ → ℕ → ℕ) (ss : List Step) (i : ℕ) (s : Step) (nets : List ℕ) → i < length ss → s ≡ get_or ss i s
    → ran m (drop i ss) nets ≡ ran m (drop (i + 1) ss) (set nets s.to (action_value m (slice_index nets) s.action))
one-turn m ss i s nets h is = at_drop_more (λ x. ran m x nets) ss i s h ∙ ap (λ (z : Step). ran m (z ∷ drop (i + 1) ss) nets) (sym is)

-- ---- longer nets

pub word-wider : (n m : Net) → Grows n m → (w : List ℕ) → IsWord n w → IsWord m w
word-wider n m g w a = record { known = all-wider n m g w a.known; narrow = a.narrow }

pub words-wider : (n m : Net) → Grows n m → (ws : List (List ℕ)) → AreWords n ws → AreWords m ws
words-wider n m g [] a = tt
words-wider n m g (w ∷ ws) a = (word-wider n m g w a.0, words-wider n m g ws a.1)

pub rows-wider : (n m : Net) → Grows n m → (ms : List (List (List ℕ))) → AreRows n ms → AreRows m ms
rows-wider n m g [] a = tt
rows-wider n m g (w ∷ ws) a = (words-wider n m g w a.0, rows-wider n m g ws a.1)

pub numbers-grown : (n m : Net) → Grows n m → (v : ℕ → Bool) (ws : List (List ℕ)) → AreWords n ws → numbers (settle_gates m v) ws ≡ numbers (settle_gates n v) ws
numbers-grown n m g v [] a = refl
numbers-grown n m g v (w ∷ ws) a = ap (λ x. x ∷ numbers (settle_gates m v) ws) (grown-word n m g v w a.0.known) ∙ ap (λ xs. word (settle_gates n v) w ∷ xs) (numbers-grown n m g v ws a.1)

pub rows-grown : (n m : Net) → Grows n m → (v : ℕ → Bool) (ms : List (List (List ℕ))) → AreRows n ms → rows (settle_gates m v) ms ≡ rows (settle_gates n v) ms
rows-grown n m g v [] a = refl
rows-grown n m g v (w ∷ ws) a = ap (λ x. x ∷ rows (settle_gates m v) ws) (numbers-grown n m g v w a.0) ∙ ap (λ xs. numbers (settle_gates n v) w ∷ xs) (rows-grown n m g v ws a.1)

-- ---- writes

pub words-set : (n : Net) (ws : List (List ℕ)) (i : ℕ) (w : List ℕ) → AreWords n ws → IsWord n w → AreWords n (set ws i w)
words-set n [] zero w a b = tt
words-set n [] (suc i) w a b = tt
words-set n (x ∷ xs) zero w a b = (b, a.1)
words-set n (x ∷ xs) (suc i) w a b = (a.0, words-set n xs i w a.1 b)

pub rows-set : (n : Net) (ms : List (List (List ℕ))) (i : ℕ) (r : List (List ℕ)) → AreRows n ms → AreWords n r → AreRows n (set ms i r)
rows-set n [] zero r a b = tt
rows-set n [] (suc i) r a b = tt
rows-set n (x ∷ xs) zero r a b = (b, a.1)
rows-set n (x ∷ xs) (suc i) r a b = (a.0, rows-set n xs i r a.1 b)

-- ---- links

pub linked-numbers : (s : ℕ → Bool) (from : List (List ℕ)) (ls : List Link) (to : List (List ℕ)) → numbers s (linked_words from ls to) ≡ linked (numbers s from) ls (numbers s to)
linked-numbers s from [] to = refl
linked-numbers s from (l ∷ ls) to =
    map-set (word s) (linked_words from ls to) l.to (get_or from l.from []) ∙ ap (λ xs. set xs l.to (word s (get_or from l.from []))) (linked-numbers s from ls to)
    ∙ ap (set (linked (numbers s from) ls (numbers s to)) l.to) (sym (number-at s from l.from))

pub linked-words : (n : Net) (from : List (List ℕ)) (ls : List Link) (to : List (List ℕ)) → AreWords n from → AreWords n to → AreWords n (linked_words from ls to)
linked-words n from [] to a b = b
linked-words n from (l ∷ ls) to a b = words-set n (linked_words from ls to) l.to (get_or from l.from []) (linked-words n from ls to a b) (word-of n from l.from a)

-- ---- steps

-- after i steps, those that are left make of the words what all make of the first
pub record IsRunning (n0 n : Net) (ss : List Step) (first now' : List (List ℕ)) (ms : List (List (List ℕ))) (i : ℕ) : Type 0 where
  pub grows : Grows n0 n
  pub words : AreWords n now'
  pub value : (v : ℕ → Bool) → v 0 ≡ false → let m = word_at (rows (settle_gates n0 v) ms) in
      ran m (drop i ss) (numbers (settle_gates n v) now') ≡ ran m ss (numbers (settle_gates n0 v) first)

pub running-none : (n : Net) (ss : List Step) (first : List (List ℕ)) (ms : List (List (List ℕ))) → AreWords n first → IsRunning n n ss first first ms 0
running-none n ss first ms a = record { grows = grows-none n; words = a; value = λ v e. ap (λ xs. ran (word_at (rows (settle_gates n v) ms)) xs (numbers (settle_gates n v) first)) (whole ss) }
  where
    whole : (xs : List Step) → drop 0 xs ≡ xs
    whole [] = refl
    whole (x ∷ xs) = refl

pub plain-at : (ss : List Step) (i : ℕ) (s : Step) → ArePlain ss → i < length ss → s ≡ get_or ss i s → IsPlain s.action
plain-at [] i s a lt is = absurd (omega (arith, lt))
plain-at (x ∷ xs) zero s a lt is = subst (λ (z : Step). IsPlain z.action) (sym is) a.0
plain-at (x ∷ xs) (suc i) s a lt is = plain-at xs i s a.1 (omega (arith, lt)) is

pub running-more : (n0 n m : Net) (ss : List Step) (first now' next : List (List ℕ)) (ms : List (List (List ℕ))) (i : ℕ) (s : Step) (w : List ℕ) → i < length ss → s ≡ get_or ss i s → AreRows n0 ms → Grows n m → IsWord m w
    → ((v : ℕ → Bool) → v 0 ≡ false → word (settle_gates m v) w ≡ action_value (word_at (rows (settle_gates n v) ms)) (slice_index (numbers (settle_gates n v) now')) s.action)
    → next ≡ set now' s.to w → IsRunning n0 n ss first now' ms i → IsRunning n0 m ss first next ms (i + 1)
running-more n0 n m ss first now' next ms i s w lt at km g kw says put r = record {
  grows = grows-twice n0 n m r.grows g;
  words = subst (AreWords m) (sym put) (words-set m now' s.to w (words-wider n m g now' r.words) kw);
  value = λ v e.
      let M = word_at (rows (settle_gates n0 v) ms) in
      let before = numbers (settle_gates n v) now' in
      let number : word (settle_gates m v) w ≡ action_value M (slice_index before) s.action = says v e ∙ ap (λ R. action_value (word_at R) (slice_index before) s.action) (rows-grown n0 n r.grows v ms km) in
      let after : numbers (settle_gates m v) next ≡ set before s.to (action_value M (slice_index before) s.action) =
      ap (numbers (settle_gates m v)) put ∙ map-set (word (settle_gates m v)) now' s.to w ∙ ap (λ xs. set xs s.to (word (settle_gates m v) w)) (numbers-grown n m g v now' r.words) ∙ ap (set before s.to) number in
      ap (ran M (drop (i + 1) ss)) after ∙ sym (one-turn M ss i s before lt at) ∙ r.value v e;
}

pub running-all : (n0 n : Net) (ss : List Step) (first now' : List (List ℕ)) (ms : List (List (List ℕ))) (i : ℕ) → length ss ≤ i → IsRunning n0 n ss first now' ms i → (v : ℕ → Bool) → v 0 ≡ false
    → numbers (settle_gates n v) now' ≡ ran (word_at (rows (settle_gates n0 v) ms)) ss (numbers (settle_gates n0 v) first)
running-all n0 n ss first now' ms i all r v e = ap (λ xs. ran (word_at (rows (settle_gates n0 v) ms)) xs (numbers (settle_gates n v) now')) (sym (drop_all i ss all)) ∙ r.value v e

-- ---- stores

pub record IsStoring (n0 n : Net) (xs : List Store) (nets : List (List ℕ)) (first now' : List (List (List ℕ))) (i : ℕ) : Type 0 where
  pub grows : Grows n0 n
  pub words : AreRows n now'
  pub value : (v : ℕ → Bool) → v 0 ≡ false → let N = numbers (settle_gates n0 v) nets in
      stored_in N (drop i xs) (rows (settle_gates n v) now') ≡ stored_in N xs (rows (settle_gates n0 v) first)

pub storing-none : (n : Net) (xs : List Store) (nets : List (List ℕ)) (first : List (List (List ℕ))) → AreRows n first → IsStoring n n xs nets first first 0
storing-none n xs nets first a = record { grows = grows-none n; words = a; value = λ v e. ap (λ ys. stored_in (numbers (settle_gates n v) nets) ys (rows (settle_gates n v) first)) (whole xs) }
  where
    whole : (xs : List Store) → drop 0 xs ≡ xs
    whole [] = refl
    whole (x ∷ xs) = refl

pub storing-more : (n0 n m : Net) (xs : List Store) (nets : List (List ℕ)) (first now' next : List (List (List ℕ))) (i : ℕ) (x : Store) → i < length xs → x ≡ get_or xs i x → AreWords n0 nets → Grows n m → AreRows m next
    → ((v : ℕ → Bool) → v 0 ≡ false → rows (settle_gates m v) next ≡ stored_in (numbers (settle_gates n v) nets) (x ∷ []) (rows (settle_gates n v) now'))
    → IsStoring n0 n xs nets first now' i → IsStoring n0 m xs nets first next (i + 1)
storing-more n0 n m xs nets first now' next i x lt at kn g kr says r = record {
  grows = grows-twice n0 n m r.grows g;
  words = kr;
  value = λ v e.
      let N = numbers (settle_gates n0 v) nets in
      ap (stored_in N (drop (i + 1) xs)) (says v e ∙ ap (λ z. stored_in z (x ∷ []) (rows (settle_gates n v) now')) (numbers-grown n0 n r.grows v nets kn))
      ∙ sym (at_drop_more (λ z. stored_in N z (rows (settle_gates n v) now')) xs i x lt ∙ ap (λ (z : Store). stored_in N (z ∷ drop (i + 1) xs) (rows (settle_gates n v) now')) (sym at)) ∙ r.value v e;
}

pub storing-all : (n0 n : Net) (xs : List Store) (nets : List (List ℕ)) (first now' : List (List (List ℕ))) (i : ℕ) → length xs ≤ i → IsStoring n0 n xs nets first now' i → (v : ℕ → Bool) → v 0 ≡ false
    → rows (settle_gates n v) now' ≡ stored_in (numbers (settle_gates n0 v) nets) xs (rows (settle_gates n0 v) first)
storing-all n0 n xs nets first now' i all r v e = ap (λ ys. stored_in (numbers (settle_gates n0 v) nets) ys (rows (settle_gates n v) now')) (sym (drop_all i xs all)) ∙ r.value v e

-- one store: a row that is written back as it was leaves the rows as they were
pub stored-row : (b : Bool) (ms : List (List ℕ)) (k i x : ℕ) → set ms k (if b then set (get_or ms k []) i x else get_or ms k []) ≡ (if b then set ms k (set (get_or ms k []) i x) else ms)
stored-row true ms k i x = refl
stored-row false ms k i x = elim (cases_lt k (length ms)) [ inl lt ↦ set-get_or ms k [] | inr past ↦ set_past ms k (get_or ms k []) past ]

pub both-words : (n : Net) (ws : List (List ℕ)) → memory.AreWords n ws → memory.AreWithin 64 ws → AreWords n ws
both-words n [] a b = tt
both-words n (w ∷ ws) a b = (record { known = a.0; narrow = b.0 }, both-words n ws a.1 b.1)

abbrev N-at : List (List ℕ) → (ℕ → Bool) → ℕ → ℕ
N-at nets s i = get_or (numbers s nets) i 0

pub store-one-is : (n n1 m : Net) (v : ℕ → Bool) (ms next : List (List (List ℕ))) (nets : List (List ℕ)) (x : Store) (enable : ℕ) (row old : List (List ℕ)) (index value : List ℕ) → Grows n n1 → Grows n1 m → AreRows n ms → AreWords n nets
    → old ≡ get_or ms x.memory [] → index ≡ get_or nets x.index [] → value ≡ get_or nets x.value []
    → literal (settle_gates n1 v) enable ≡ (get_or (numbers (settle_gates n v) nets) x.enable 0 == 1)
    → numbers (settle_gates m v) row ≡ (let s = settle_gates n1 v in if literal s enable then set (numbers s old) (word s index) (word s value) else numbers s old)
    → next ≡ set ms x.memory row → rows (settle_gates m v) next ≡ stored_in (numbers (settle_gates n v) nets) (x ∷ []) (rows (settle_gates n v) ms)
store-one-is n n1 m v ms next nets x enable row old index value g1 g2 km kn is-old is-index is-value on words put =
    let s : ℕ → Bool = settle_gates n v in
    let u : ℕ → Bool = settle_gates n1 v in
    let w : ℕ → Bool = settle_gates m v in
    let N = numbers s nets in
    let R = rows s ms in
    let b = N-at nets s x.enable == 1 in
    let old-words : AreWords n old = subst (AreWords n) (sym is-old) (row-of n ms x.memory km) in
    let i : word u index ≡ N-at nets s x.index = grown-word n n1 g1 v index (subst (λ z. AreOf n z) (sym is-index) (word-of n nets x.index kn).known) ∙ ap (word s) is-index ∙ sym (number-at s nets x.index) in
    let y : word u value ≡ N-at nets s x.value = grown-word n n1 g1 v value (subst (λ z. AreOf n z) (sym is-value) (word-of n nets x.value kn).known) ∙ ap (word s) is-value ∙ sym (number-at s nets x.value) in
    let o : numbers u old ≡ get_or R x.memory [] = numbers-grown n n1 g1 v old old-words ∙ ap (numbers s) is-old ∙ sym (row-at s ms x.memory) in
    let here : numbers w row ≡ (if b then set (get_or R x.memory []) (N-at nets s x.index) (N-at nets s x.value) else get_or R x.memory []) =
    words ∙ ap (λ c. if c then set (numbers u old) (word u index) (word u value) else numbers u old) on ∙ ap (λ z. if b then set (numbers u old) z (word u value) else numbers u old) i
    ∙ ap (λ z. if b then set (numbers u old) (N-at nets s x.index) z else numbers u old) y ∙ ap (λ z. if b then set z (N-at nets s x.index) (N-at nets s x.value) else z) o in
    ap (rows w) put ∙ map-set (numbers w) ms x.memory row ∙ ap (λ z. set z x.memory (numbers w row)) (rows-grown n m (grows-twice n n1 m g1 g2) v ms km) ∙ ap (set R x.memory) here
    ∙ stored-row b R x.memory (N-at nets s x.index) (N-at nets s x.value)

-- ---- an edge

pub settle-is : (n m : Net) (v : ℕ → Bool) (p : Code) (nets now' : List (List ℕ)) (ms : List (List (List ℕ))) → Grows n m → AreRows n ms
    → numbers (settle_gates m v) now' ≡ ran (word_at (rows (settle_gates n v) ms)) p.settle (numbers (settle_gates n v) nets)
    → kept_as (settle_gates m v) (record { nets = now'; memories = ms }) ≡ settled_by p (kept_as (settle_gates n v) (record { nets = nets; memories = ms }))
settle-is n m v p nets now' ms g km is = λ t. record { nets = is t; memories = rows-grown n m g v ms km t }

pub edge-is : (n0 n1 n2 n3 n4 : Net) (v : ℕ → Bool) (p : Code) (tops nets a b c d : List (List ℕ)) (ms after : List (List (List ℕ))) → Grows n0 n1 → Grows n1 n2 → AreRows n0 ms
    → a ≡ linked_words tops p.feeds nets
    → numbers (settle_gates n1 v) b ≡ ran (word_at (rows (settle_gates n0 v) ms)) p.settle (numbers (settle_gates n0 v) a)
    → numbers (settle_gates n2 v) c ≡ ran (word_at (rows (settle_gates n1 v) ms)) p.next (numbers (settle_gates n1 v) b)
    → rows (settle_gates n3 v) after ≡ stored_in (numbers (settle_gates n2 v) c) p.stores (rows (settle_gates n2 v) ms)
    → numbers (settle_gates n3 v) c ≡ numbers (settle_gates n2 v) c
    → numbers (settle_gates n4 v) d ≡ ran (word_at (rows (settle_gates n3 v) after)) p.moves (numbers (settle_gates n3 v) c)
    → rows (settle_gates n4 v) after ≡ rows (settle_gates n3 v) after
    → kept_as (settle_gates n4 v) (record { nets = d; memories = after }) ≡ edged p (numbers (settle_gates n0 v) tops) (kept_as (settle_gates n0 v) (record { nets = nets; memories = ms }))
unfolding edged
edge-is n0 n1 n2 n3 n4 v p tops nets a b c d ms after g1 g2 km fed settled ready stored same moved kept =
    let s : ℕ → Bool = settle_gates n0 v in
    let R = rows s ms in
    let r1 : rows (settle_gates n1 v) ms ≡ R = rows-grown n0 n1 g1 v ms km in
    let r2 : rows (settle_gates n2 v) ms ≡ R = rows-grown n0 n2 (grows-twice n0 n1 n2 g1 g2) v ms km in
    let A = linked (numbers s tops) p.feeds (numbers s nets) in
    let B = ran (word_at R) p.settle A in
    let C = ran (word_at R) p.next B in
    let D = stored_in C p.stores R in
    let ea : numbers s a ≡ A = ap (numbers s) fed ∙ linked-numbers s tops p.feeds nets in
    let eb : numbers (settle_gates n1 v) b ≡ B = settled ∙ ap (ran (word_at R) p.settle) ea in
    let ec : numbers (settle_gates n2 v) c ≡ C = ready ∙ ap (λ z. ran (word_at z) p.next (numbers (settle_gates n1 v) b)) r1 ∙ ap (ran (word_at R) p.next) eb in
    let ed : rows (settle_gates n3 v) after ≡ D = stored ∙ ap (λ z. stored_in z p.stores (rows (settle_gates n2 v) ms)) ec ∙ ap (stored_in C p.stores) r2 in
    let ee : numbers (settle_gates n4 v) d ≡ ran (word_at D) p.moves C = moved ∙ ap (λ z. ran (word_at z) p.moves (numbers (settle_gates n3 v) c)) ed ∙ ap (ran (word_at D) p.moves) (same ∙ ec) in
    let ef : rows (settle_gates n4 v) after ≡ D = kept ∙ ed in
    λ t. record { nets = ee t; memories = ef t }

-- ---- all instances

pub wired-wider : (n m : Net) → Grows n m → (xs : List Wired) → AreWired n xs → AreWired m xs
wired-wider n m g [] a = tt
wired-wider n m g (x ∷ xs) a =
    (record { plain = a.0.plain; wires = record { nets = words-wider n m g x.wires.nets a.0.wires.nets; memories = rows-wider n m g x.wires.memories a.0.wires.memories } }, wired-wider n m g xs a.1)

pub wired-at : (n : Net) (xs : List Wired) (i : ℕ) (x : Wired) → i < length xs → x ≡ get_or xs i x → AreWired n xs → IsWired n x
wired-at n [] i x lt is a = absurd (omega (arith, lt))
wired-at n (y ∷ xs) zero x lt is a = subst (IsWired n) (sym is) a.0
wired-at n (y ∷ xs) (suc i) x lt is a = wired-at n xs i x (omega (arith, lt)) is a.1

pub wired-set : (n : Net) (xs : List Wired) (i : ℕ) (x : Wired) → AreWired n xs → IsWired n x → AreWired n (set xs i x)
wired-set n [] zero x a b = tt
wired-set n [] (suc i) x a b = tt
wired-set n (y ∷ xs) zero x a b = (b, a.1)
wired-set n (y ∷ xs) (suc i) x a b = (a.0, wired-set n xs i x a.1 b)

pub parts-grown : (n m : Net) → Grows n m → (v : ℕ → Bool) (xs : List Wired) → AreWired n xs → map (part_as (settle_gates m v)) xs ≡ map (part_as (settle_gates n v)) xs
parts-grown n m g v [] a = refl
parts-grown n m g v (x ∷ xs) a =
    ap (λ z. z ∷ map (part_as (settle_gates m v)) xs) (same (numbers-grown n m g v x.wires.nets a.0.wires.nets) (rows-grown n m g v x.wires.memories a.0.wires.memories))
    ∙ ap (λ zs. part_as (settle_gates n v) x ∷ zs) (parts-grown n m g v xs a.1)
  where
    same : numbers (settle_gates m v) x.wires.nets ≡ numbers (settle_gates n v) x.wires.nets → rows (settle_gates m v) x.wires.memories ≡ rows (settle_gates n v) x.wires.memories
        → part_as (settle_gates m v) x ≡ part_as (settle_gates n v) x
    same a b = λ t. record { code = x.code; kept = record { nets = a t; memories = b t } }

-- the first i parts are what f makes of them
pub record IsTurned (f : (ℕ → Bool) → Part → Part) (n0 n : Net) (first now' : List Wired) (i : ℕ) : Type 0 where
  pub grows : Grows n0 n
  pub wired : AreWired n now'
  pub count : length now' ≡ length first
  pub value : (v : ℕ → Bool) → v 0 ≡ false → let P = map (part_as (settle_gates n0 v)) first in
      map (part_as (settle_gates n v)) now' ≡ map (f v) (take i P) ++ drop i P

pub turned-none : (f : (ℕ → Bool) → Part → Part) (n : Net) (first : List Wired) → AreWired n first → IsTurned f n n first first 0
turned-none f n first a = record { grows = grows-none n; wired = a; count = refl; value = λ v e. nothing (f v) (map (part_as (settle_gates n v)) first) }
  where
    nothing : (g : Part → Part) (xs : List Part) → xs ≡ map g (take 0 xs) ++ drop 0 xs
    nothing g [] = refl
    nothing g (x ∷ xs) = refl

pub turned-more : (f : (ℕ → Bool) → Part → Part) (n0 n m : Net) (first now' next : List Wired) (i : ℕ) (x y : Wired) → i < length now' → x ≡ get_or now' i x → Grows n m → IsWired m y
    → ((v : ℕ → Bool) → v 0 ≡ false → part_as (settle_gates m v) y ≡ f v (part_as (settle_gates n v) x)) → next ≡ set now' i y → IsTurned f n0 n first now' i → IsTurned f n0 m first next (i + 1)
turned-more f n0 n m first now' next i x y lt at g ky says put r = record {
  grows = grows-twice n0 n m r.grows g;
  wired = subst (AreWired m) (sym put) (wired-set m now' i y (wired-wider n m g now' r.wired) ky);
  count = ap length put ∙ length-set now' i y ∙ r.count;
  value = λ v e.
      let P = map (part_as (settle_gates n0 v)) first in
      let Q = map (part_as (settle_gates n v)) now' in
      let long : i < length P = (let a = length-map first (part_as (settle_gates n0 v)) in let b = r.count in omega (arith, lt, a, b)) in
      let here : part_as (settle_gates n v) x ≡ get_or Q i (part_as (settle_gates n v) x) = ap (part_as (settle_gates n v)) at ∙ sym (get_or-map (part_as (settle_gates n v)) now' i x (part_as (settle_gates n v) x) lt) in
      ap (map (part_as (settle_gates m v))) put ∙ map-set (part_as (settle_gates m v)) now' i y ∙ ap (λ z. set z i (part_as (settle_gates m v) y)) (parts-grown n m g v now' r.wired) ∙ ap (set Q i) (says v e)
      ∙ map_over_more (f v) P Q i (part_as (settle_gates n v) x) long (r.value v e) here;
}

pub turned-all : (f : (ℕ → Bool) → Part → Part) (n0 n : Net) (first now' : List Wired) (i : ℕ) → length now' ≤ i → IsTurned f n0 n first now' i → (v : ℕ → Bool) → v 0 ≡ false
    → map (part_as (settle_gates n v)) now' ≡ map (f v) (map (part_as (settle_gates n0 v)) first)
turned-all f n0 n first now' i all r v e =
    let P = map (part_as (settle_gates n0 v)) first in
    let long : length P ≤ i = (let a = length-map first (part_as (settle_gates n0 v)) in let b = r.count in omega (arith, all, a, b)) in
    r.value v e ∙ ap (λ xs. map (f v) xs ++ drop i P) (take_all i P long) ∙ ap (λ xs. map (f v) P ++ xs) (drop_all i P long) ∙ append-nil (map (f v) P)
