-- A slot counter keeps to its cycle, and its nets show whose slot it is.
use Rattle.std.proofs.Common.{◌≡◌, ◌≢◌, ℕ, zero, suc, ◌+◌, ◌-◌, ◌*◌, ◌%◌, ◌<◌, ◌≤◌, ◌^◌, Bool, true, false, List, [], ◌∷◌, length, refl, sym, ◌∙◌, ap, arith, ◌==◌, ◌||◌, ◌&&◌, ℤ}
use Rattle.std.specs.Prelude.{if◌then◌else◌, pos, negsuc, ◌+ℤ◌, ◌-ℤ◌, slice_index, bit_or}
use Rattle.std.proofs.Math.Nat.{mod-eq_of_lt, mod-lt, mod-add-mod, mod_self}
use Rattle.std.proofs.lemmas.Bool.Decides.{nat_tests}
use Rattle.std.proofs.lemmas.Int.{ints}
use Rattle.vl_model.specs.Meaning.{Widths, Values, value_of, chosen, one_if}
use Rattle.vl_model.specs.Parts.{Holds}
use Rattle.noc_model.specs.Plan.{Plan, hop}
use Rattle.noc_model.specs.Place.{way_of, slot_of, modulo, next_in, owner, wave}
use Rattle.noc_model.specs.declared.ways.Way.{Way}
use Rattle.noc_model.specs.declared.ways.Way.TheVariants.{Local, Plus, Minus}
use Rattle.noc_model.proofs.Modulo.{modulo-next}
use Rattle.gen_kit.specs.Groups.{GroupGives, GroupKeeps, GroupStarts}
use Rattle.vl_tree.specs.Values.{two, net}
use Rattle.vl_tree.specs.declared.tree.Op.TheVariants.{Or, Equal}
use Rattle.gen_kit.specs.Families.{in_bits}
use Rattle.leaf_tie.specs.Slots.{SlotNames, owned, owned_nets, slot_group, Counts, Owns, leaving_slot, arriving_slot}
use Rattle.gen_kit.proofs.Families.{each-held}

-- ---- the counter

count-next : (c l m : ℕ) → c < l → l ≤ m → chosen (one_if (c == l - 1)) 0 ((c + 1) % m) ≡ (c + 1) % l
count-next c l m below fits = go (c == l - 1) refl
  where
    go : (b : Bool) → (c == l - 1) ≡ b → chosen (one_if b) 0 ((c + 1) % m) ≡ (c + 1) % l
    go true e = let same : c + 1 ≡ l = grind (arith, nat_tests) in sym (ap (λ z. z % l) same ∙ mod_self l)
    go false e = let less : c + 1 < l = grind (arith, nat_tests) in mod-eq_of_lt (omega arith) ∙ sym (mod-eq_of_lt less)

one-on : (t k l : ℕ) → ((t + k) % l + 1) % l ≡ (suc t + k) % l
one-on t k l = mod-add-mod (t + k) l 1 ∙ ap (λ z. z % l) (omega arith)

pub slot-kept : (n : SlotNames) (h : ℕ) (slots : List ℕ) (domains first : ℕ) → 1 ≤ length slots → length slots ≤ 2 ^ (h + 1)
    → GroupKeeps (slot_group n h slots domains first) (λ w v u. (t : ℕ) → Counts n slots first t v → Counts n slots first (suc t) u)
slot-kept n h slots domains first some fits w v u held held-after e t c =
    let below : v.net n.count < length slots = rw c (mod-lt (t + first) some) in
    let width : w.net n.count ≡ h + 1 = held.heads.0.0 in
    e.moves.0 ∙ rw width (count-next (v.net n.count) (length slots) (2 ^ (h + 1)) below fits) ∙ ap (λ z. (z + 1) % length slots) c ∙ one-on t first (length slots)

pub slot-starts : (n : SlotNames) (h : ℕ) (slots : List ℕ) (domains first : ℕ) → first < length slots → GroupStarts (slot_group n h slots domains first) (Counts n slots first 0)
slot-starts n h slots domains first below v e = e.0 ∙ sym (ap (λ z. z % length slots) (omega arith) ∙ mod-eq_of_lt below)

-- ---- whose slot it is

found : ℕ → List ℕ → ℕ → ℕ → Bool
found k [] c e = false
found k (d ∷ ds) c e = ((c == k) && (d == e)) || found (k + 1) ds c e

bit-or : (a b : Bool) → bit_or (one_if a) (one_if b) ≡ one_if (a || b)
bit-or true true = refl
bit-or true false = refl
bit-or false true = refl
bit-or false false = refl

and-true : (a : Bool) → (a && true) ≡ a
and-true true = refl
and-true false = refl

and-false : (a : Bool) → (a && false) ≡ false
and-false true = refl
and-false false = refl

or-false : (b : Bool) → (b || false) ≡ b
or-false true = refl
or-false false = refl

owned-found : (w : Widths) (v : Values) (n : SlotNames) (h k : ℕ) (ds : List ℕ) (e : ℕ) → value_of w v (owned n h k ds e) ≡ one_if (found k ds (v.net n.count) e)
unfolding found
owned-found w v n h k [] e = refl
owned-found w v n h k (d ∷ ds) e = go (d == e) (owned-found w v n h (k + 1) ds e)
  where
    go : (b : Bool) → value_of w v (owned n h (k + 1) ds e) ≡ one_if (found (k + 1) ds (v.net n.count) e)
        → value_of w v (if b then two Or (two Equal (net n.count) (in_bits (h + 1) k)) (owned n h (k + 1) ds e) else owned n h (k + 1) ds e) ≡ one_if (((v.net n.count == k) && b) || found (k + 1) ds (v.net n.count) e)
    go true before = rw (before, and-true (v.net n.count == k)) (bit-or (v.net n.count == k) (found (k + 1) ds (v.net n.count) e))
    go false before = rw (and-false (v.net n.count == k)) before

later-not : (k : ℕ) (ds : List ℕ) (c e : ℕ) → c < k → found k ds c e ≡ false
unfolding found
later-not k [] c e below = refl
later-not k (d ∷ ds) c e below =
    let no : (c == k) ≡ false = grind (arith, nat_tests) in
    rw (no, later-not (k + 1) ds c e (omega arith)) refl

found-is : (k : ℕ) (ds : List ℕ) (j e : ℕ) → j < length ds → found k ds (k + j) e ≡ (slice_index ds j == e)
unfolding found
found-is k [] j e below = absurd (omega arith)
found-is k (d ∷ ds) zero e below =
    let here : (k + 0 == k) ≡ true = grind (arith, nat_tests) in
    rw (here, later-not (k + 1) ds (k + 0) e (omega arith)) (or-false (d == e))
found-is k (d ∷ ds) (suc j) e below =
    let no : (k + suc j == k) ≡ false = grind (arith, nat_tests) in
    let shift : k + suc j ≡ (k + 1) + j = omega arith in
    rw no (ap (λ c. found (k + 1) ds c e) shift ∙ found-is (k + 1) ds j e (omega arith))

pub slot-shown : (n : SlotNames) (h : ℕ) (slots : List ℕ) (domains first : ℕ) → 1 ≤ length slots
    → GroupGives (slot_group n h slots domains first) (λ w v. (t : ℕ) → Counts n slots first t v → (e : ℕ) → e < domains → Owns n slots first t v e)
slot-shown n h slots domains first some w v held t c e below =
    let j : ℕ = (t + first) % length slots in
    let at : v.net n.count ≡ 0 + j = omega (arith, c) in
    (each-held (Holds w v) domains (owned_nets n h slots) held.nets e below).1.0
    ∙ owned-found w v n h 0 slots e ∙ ap (λ z. one_if (found 0 slots z e)) at ∙ ap one_if (found-is 0 slots j e (mod-lt (t + first) some))

-- ---- the network's slots

pub modulo-below : (k : ℕ) (z : ℤ) → 1 ≤ k → modulo z k < k
modulo-below k (pos a) some = mod-lt a some
modulo-below k (negsuc a) some = omega arith

next-mod : (k x : ℕ) → x < k → next_in k x ≡ (x + 1) % k
next-mod k x below = go (x + 1 == k) refl
  where
    go : (b : Bool) → (x + 1 == k) ≡ b → (if b then 0 else x + 1) ≡ (x + 1) % k
    go true e = let same : x + 1 ≡ k = grind (arith, nat_tests) in sym (ap (λ z. z % k) same ∙ mod_self k)
    go false e = let less : x + 1 < k = grind (arith, nat_tests) in sym (mod-eq_of_lt less)

on-by : (z : ℤ) (k t : ℕ) → 1 ≤ k → modulo (z +ℤ pos t) k ≡ (t + modulo z k) % k
on-by z k zero some =
    let same : z +ℤ pos 0 ≡ z = omega (arith, ints) in
    ap (λ y. modulo y k) same ∙ sym (ap (λ x. x % k) (omega arith) ∙ mod-eq_of_lt (modulo-below k z some))
on-by z k (suc t) some =
    let step : z +ℤ pos (suc t) ≡ (z +ℤ pos t) +ℤ pos 1 = omega (arith, ints) in
    ap (λ y. modulo y k) step ∙ modulo-next k (z +ℤ pos t) some ∙ next-mod k (modulo (z +ℤ pos t) k) (modulo-below k (z +ℤ pos t) some)
    ∙ ap (λ x. (x + 1) % k) (on-by z k t some) ∙ one-on t (modulo z k) k

slot-on : (p : Plan) (n t : ℕ) (z : ℤ) (way : Way) → way ≢ Local → 1 ≤ length p.slots → slot_of p n (z +ℤ pos t) way ≡ (t + slot_of p n z way) % length p.slots
slot-on p n t z Local link some = absurd (link refl)
slot-on p n t z (Plus i) link some =
    let moved : (z +ℤ pos t) -ℤ pos (hop p * wave p n) ≡ (z -ℤ pos (hop p * wave p n)) +ℤ pos t = turn z t (hop p * wave p n) in
    ap (λ y. modulo y (length p.slots)) moved ∙ on-by (z -ℤ pos (hop p * wave p n)) (length p.slots) t some
  where
    turn : (z : ℤ) (t k : ℕ) → (z +ℤ pos t) -ℤ pos k ≡ (z -ℤ pos k) +ℤ pos t
    turn z t k = omega (arith, ints)
slot-on p n t z (Minus i) link some =
    let moved : (z +ℤ pos t) +ℤ pos (hop p * wave p n) ≡ (z +ℤ pos (hop p * wave p n)) +ℤ pos t = turn z t (hop p * wave p n) in
    ap (λ y. modulo y (length p.slots)) moved ∙ on-by (z +ℤ pos (hop p * wave p n)) (length p.slots) t some
  where
    turn : (z : ℤ) (t k : ℕ) → (z +ℤ pos t) +ℤ pos k ≡ (z +ℤ pos k) +ℤ pos t
    turn z t k = omega (arith, ints)

-- a counter that begins at the link's slot names its owner in each cycle
pub leaving-owner : (p : Plan) (n o t : ℕ) → way_of o ≢ Local → 1 ≤ length p.slots → owner p n o (pos t) ≡ slice_index p.slots ((t + leaving_slot p n o) % length p.slots)
unfolding owner
leaving-owner p n o t link some =
    let same : pos t ≡ pos 0 +ℤ pos t = omega (arith, ints) in
    ap (λ y. slice_index p.slots (slot_of p n y (way_of o))) same ∙ ap (slice_index p.slots) (slot-on p n t (pos 0) (way_of o) link some)

pub arriving-owner : (p : Plan) (m o t : ℕ) → way_of o ≢ Local → 1 ≤ length p.slots → owner p m o (pos t -ℤ pos p.stages) ≡ slice_index p.slots ((t + arriving_slot p m o) % length p.slots)
unfolding owner
arriving-owner p m o t link some =
    let same : pos t -ℤ pos p.stages ≡ (pos 0 -ℤ pos p.stages) +ℤ pos t = omega (arith, ints) in
    ap (λ y. slice_index p.slots (slot_of p m y (way_of o))) same ∙ ap (slice_index p.slots) (slot-on p m t (pos 0 -ℤ pos p.stages) (way_of o) link some)
