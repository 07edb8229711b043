-- A ring after a number came in, and after one went out.
use Rattle.std.proofs.Common.{◌≡◌, ◌≢◌, ℕ, zero, suc, ◌+◌, ◌-◌, ◌<◌, ◌≤◌, Bool, true, false, List, [], ◌∷◌, ◌++◌, length, refl, sym, ap, ◌∙◌, subst, arith, append_assoc, length-append, Some, None, ⊎_elim, ◌⊎◌, inl, inr}
use Rattle.std.specs.Prelude.{◌==◌, ◌&&◌, ◌||◌, nat_lt, nat_le, not, if◌then◌else◌, slice_get}
use Rattle.std.specs.List.{list_any}
use Rattle.std.proofs.lemmas.Bool.Decides.{nat_tests, eqb_tells}
use Rattle.flit_pool.specs.declared.ring.Link.{Link}
use Rattle.noc_model.specs.Step.{one_if}
use Rattle.flit_pool.specs.Chains.{times, last_of}
use Rattle.flit_pool.proofs.Chains.{one-same, times-self, last-in}
use Rattle.flit_pool.specs.Ring.{Numbers, has, link_at, Linked, members, is_in, IsRing, joined, parted, without}
use Rattle.flit_pool.proofs.Rings.{IsJoined, IsParted, times-both, length-both, apart, head_of, linked-before, linked-next, walk-is, join-linked, part-linked, is-joined, is-parted, length-joined, length-parted, parted-gone, at-most-once, member-in, member-below, closed-out, last-is, last-below, count-is}

-- ---- numbers below n, none of them twice, are n or fewer

spread : ℕ → List ℕ → ℕ
spread zero xs = 0
spread (suc n) xs = spread n xs + times n xs

spread-nil : (n : ℕ) → spread n [] ≡ 0
unfolding spread
spread-nil zero = refl
spread-nil (suc n) = let e = spread-nil n in omega (arith, e)

spread-above : (n x : ℕ) (xs : List ℕ) → n ≤ x → spread n (x ∷ xs) ≡ spread n xs
unfolding spread
spread-above zero x xs above = refl
spread-above (suc n) x xs above =
    let e = spread-above n x xs (omega (arith, above)) in
    let t : (x == n) ≡ false = grind (arith, nat_tests) in
    let o = ap one_if t in
    omega (arith, e, o)

spread-cons : (n x : ℕ) (xs : List ℕ) → x < n → spread n (x ∷ xs) ≡ spread n xs + 1
unfolding spread
spread-cons zero x xs below = absurd (omega (arith, below))
spread-cons (suc n) x xs below = ⊎_elim
    (λ w. let e : n ≤ x = omega (arith, w.1) in let a = spread-above n x xs e in let o = ap one_if w.0 in omega (arith, a, o))
    (λ w. let apart = w.1 in let a = spread-cons n x xs (omega (arith, below, apart)) in let o = ap one_if w.0 in omega (arith, a, o))
    (eqb_tells x n)

spread-all : (n : ℕ) (xs : List ℕ) → ((i : ℕ) → 1 ≤ times i xs → i < n) → length xs ≡ spread n xs
spread-all n [] below = sym (spread-nil n)
spread-all n (x ∷ xs) below =
    let a = spread-cons n x xs (below x (times-self x xs)) in
    let b = spread-all n xs (λ i some. below i (omega (arith, some))) in
    omega (arith, a, b)

spread-few : (n : ℕ) (xs : List ℕ) → ((i : ℕ) → times i xs ≤ 1) → spread n xs ≤ n
unfolding spread
spread-few zero xs once = omega arith
spread-few (suc n) xs once = let a = spread-few n xs once in let b = once n in omega (arith, a, b)

few-below : (n : ℕ) (xs : List ℕ) → ((i : ℕ) → 1 ≤ times i xs → i < n) → ((i : ℕ) → times i xs ≤ 1) → length xs ≤ n
few-below n xs below once = let a = spread-all n xs below in let b = spread-few n xs once in omega (arith, a, b)

-- ---- marks

in-true : (ms : List Link) (size j : ℕ) → j < size → (link_at ms j).next ≤ size → is_in ms size j ≡ true
in-true ms size j below linked =
    let a : nat_lt j size ≡ true = grind (arith, nat_tests) in
    let b : nat_le (link_at ms j).next size ≡ true = grind (arith, nat_tests) in
    ap (λ w. w && nat_le (link_at ms j).next size) a ∙ b

in-closed : (ms : List Link) (size : ℕ) → is_in ms size size ≡ false
in-closed ms size = let a : nat_lt size size ≡ false = grind (arith, nat_tests) in ap (λ w. w && nat_le (link_at ms size).next size) a

in-gone : (ms : List Link) (size j : ℕ) → j < size → (link_at ms j).next ≡ size + 1 → is_in ms size j ≡ false
in-gone ms size j below gone =
    let a : nat_lt j size ≡ true = grind (arith, nat_tests) in
    let b : nat_le (link_at ms j).next size ≡ false = grind (arith, nat_tests) in
    ap (λ w. w && nat_le (link_at ms j).next size) a ∙ b

in-same : (ls ms : List Link) (size j : ℕ) → (link_at ms j).next ≡ (link_at ls j).next
    → is_in ms size j ≡ is_in ls size j
in-same ls ms size j e = ap (λ n. nat_lt j size && nat_le n size) e

module _ (ls : List Link) (size count : ℕ) (ring : IsRing ls size count) where
  pub count-few : count ≤ size
  count-few =
      let a = count-is ls size count ring in
      let b =
      few-below size (members ls size count) (member-below ls size count ring) (at-most-once ls size count ring) in
      omega (arith, a, b)

  -- whatever stands before a linked number is linked, or closes the ring; its link may change to another
  still-in : (ms : List Link) (b : ℕ) → (b ≡ size) ⊎ (1 ≤ times b (members ls size count)) → (link_at ms b).next ≤ size
      → is_in ms size b ≡ is_in ls size b
  still-in ms b (inl closed) linked =
      ap (λ k. is_in ms size k) closed ∙ in-closed ms size ∙ sym (in-closed ls size)
      ∙ ap (λ k. is_in ls size k) (sym closed)
  still-in ms b (inr some) linked =
      in-true ms size b (member-below ls size count ring b some) linked ∙ sym (member-in ls size count ring b some)

  last-at : ((link_at ls size).before ≡ size) ⊎ (1 ≤ times (link_at ls size).before (members ls size count))
  last-at =
      let is = last-is ls size count ring in
      let P : ℕ → Type 0 = λ w. (w ≡ size) ⊎ (1 ≤ times w (members ls size count)) in
      subst P (sym is) (last-below ls size count ring (members ls size count) (member-below ls size count ring))

  at-within : (b : ℕ) → (b ≡ size) ⊎ (1 ≤ times b (members ls size count)) → b < size + 1
  at-within b (inl closed) = omega (arith, closed)
  at-within b (inr some) = let a = member-below ls size count ring b some in omega (arith, a)

  pub last-within : (link_at ls size).before < length ls
  last-within = let a = at-within (link_at ls size).before last-at in omega (arith, a, ring.whole)

  at-apart : (i b : ℕ) → i < size → times i (members ls size count) ≡ 0
      → (b ≡ size) ⊎ (1 ≤ times b (members ls size count)) → i ≢ b
  at-apart i b below out (inl closed) = λ e. omega (arith, e, closed, below)
  at-apart i b below out (inr some) = λ e. apart i b (members ls size count) out some (sym e)

  -- ---- a number comes in
  module _ (i : ℕ) (below : i < size) (out : times i (members ls size count) ≡ 0) where
    abbrev last : ℕ
    last = (link_at ls size).before

    abbrev ms : List Link
    ms = joined ls size i

    abbrev xs : List ℕ
    xs = members ls size count

    step : IsJoined ls ms last i size
    step =
        is-joined ls size i (omega (arith, below, ring.whole)) (omega (arith, ring.whole)) last-within (omega (arith, below)) (at-apart i last below out last-at)

    join-round : Linked ms size ((xs ++ i ∷ []) ++ size ∷ [])
    join-round = join-linked ls ms size i size last xs step (last-is ls size count ring) (at-most-once ls size count ring) (closed-out ls size count ring) (closed-out ls size count ring) out
        (omega (arith, below)) ring.round

    pub join-members : members ms size (count + 1) ≡ xs ++ i ∷ []
    join-members =
        let a = count-is ls size count ring in
        let b = length-both xs i in
        walk-is ms size size (count + 1) (xs ++ i ∷ []) (omega (arith, a, b)) join-round

    join-mark : (j : ℕ) → j ≢ i → is_in ms size j ≡ is_in ls size j
    join-mark j j_i = ⊎_elim
        (λ w. let P : ℕ → Type 0 = λ k. is_in ms size k ≡ is_in ls size k in subst P (sym w.1) (still-in ms last last-at (omega (arith, step.to, below))))
        (λ w. in-same ls ms size j (step.next j w.1 j_i))
        (eqb_tells j last)

    join-once : (j : ℕ) → times j (xs ++ i ∷ []) ≡ one_if (is_in ms size j)
    join-once j =
        let both = times-both j xs (i ∷ []) in
        ⊎_elim
        (λ w. let e : j ≡ i = w.1 in
        let t : (i == j) ≡ true = grind (arith, nat_tests) in
        let o = ap one_if t in
        let none : times j xs ≡ 0 = ap (λ k. times k xs) e ∙ out in
        let m : one_if (is_in ms size j) ≡ 1 =
        ap (λ k. one_if (is_in ms size k)) e ∙ ap one_if (in-true ms size i below (omega (arith, step.on))) in
        omega (arith, both, o, none, m))
        (λ w. let j_i = w.1 in
        let t : (i == j) ≡ false = grind (arith, nat_tests) in
        let o = ap one_if t in
        let m = ap one_if (join-mark j j_i) in
        let old = ring.once j in
        omega (arith, both, o, m, old))
        (eqb_tells j i)

    pub join-keeps : IsRing ms size (count + 1)
    join-keeps = record {
      whole = length-joined ls size i ∙ ring.whole;
      few = ring.few;
      round = let P : List ℕ → Type 0 = λ ys. Linked ms size (ys ++ size ∷ []) in subst P (sym join-members) join-round;
      once = λ j. ap (times j) join-members ∙ join-once j;
    }

-- ---- where a number stands in a list

pub none-times : (i : ℕ) (xs : List ℕ) → list_any (λ k. k == i) xs ≡ false → times i xs ≡ 0
none-times i [] e = refl
none-times i (x ∷ xs) e = ⊎_elim
    (λ w. absurd (let bad = sym e ∙ ap (λ b. b || list_any (λ k. k == i) xs) w.0 in cc bad))
    (λ w. let rest = none-times i xs (sym (ap (λ b. b || list_any (λ k. k == i) xs) w.0) ∙ e) in let o = ap one_if w.0 in omega (arith, rest, o))
    (eqb_tells x i)

pub some-times : (i : ℕ) (xs : List ℕ) → list_any (λ k. k == i) xs ≡ true → 1 ≤ times i xs
some-times i [] e = absurd (cc e)
some-times i (x ∷ xs) e = ⊎_elim
    (λ w. let o = ap one_if w.0 in omega (arith, o))
    (λ w. let rest = some-times i xs (sym (ap (λ b. b || list_any (λ k. k == i) xs) w.0) ∙ e) in omega (arith, rest))
    (eqb_tells x i)

pub times-some : (i : ℕ) (xs : List ℕ) → list_any (λ k. k == i) xs ≡ nat_le 1 (times i xs)
times-some i [] = let t : nat_le 1 0 ≡ false = grind (arith, nat_tests) in sym t
times-some i (x ∷ xs) = ⊎_elim
    (λ w. let o = ap one_if w.0 in
    let t : nat_le 1 (one_if (x == i) + times i xs) ≡ true = let a : 1 ≤ one_if (x == i) + times i xs = omega (arith, o) in grind (arith, nat_tests) in
    ap (λ b. b || list_any (λ k. k == i) xs) w.0 ∙ sym t)
    (λ w. let o = ap one_if w.0 in
    let n : one_if (x == i) + times i xs ≡ times i xs = omega (arith, o) in
    ap (λ b. b || list_any (λ k. k == i) xs) w.0 ∙ times-some i xs ∙ ap (nat_le 1) (sym n))
    (eqb_tells x i)

pub record IsSplit (i : ℕ) (xs : List ℕ) : Type 0 where
  pub front : List ℕ
  pub behind : List ℕ
  pub is : xs ≡ front ++ i ∷ behind

pub split : (i : ℕ) (xs : List ℕ) → 1 ≤ times i xs → IsSplit i xs
split i [] some = absurd (omega (arith, some))
split i (x ∷ xs) some = ⊎_elim
    (λ w. record { front = []; behind = xs; is = ap (λ k. k ∷ xs) w.1 })
    (λ w. let o = ap one_if w.0 in
    let rest = split i xs (omega (arith, some, o)) in
    record { front = x ∷ rest.front; behind = rest.behind; is = ap (λ ys. x ∷ ys) rest.is })
    (eqb_tells x i)

without-step : (b : Bool) (x : ℕ) (ys zs : List ℕ) → b ≡ false → ys ≡ zs → (if not b then x ∷ ys else ys) ≡ x ∷ zs
without-step true x ys zs e same = absurd (cc e)
without-step false x ys zs e same = ap (λ w. x ∷ w) same

without-none : (i : ℕ) (xs : List ℕ) → times i xs ≡ 0 → without xs i ≡ xs
without-none i [] none = refl
without-none i (x ∷ xs) none = ⊎_elim
    (λ w. absurd (let o = ap one_if w.0 in omega (arith, o, none)))
    (λ w. without-step (x == i) x (without xs i) xs w.0 (without-none i xs (omega (arith, none))))
    (eqb_tells x i)

without-here : (b : Bool) (x : ℕ) (ys zs : List ℕ) → b ≡ true → ys ≡ zs → (if not b then x ∷ ys else ys) ≡ zs
without-here true x ys zs e same = same
without-here false x ys zs e same = absurd (cc e)

without-split : (i : ℕ) (us vs : List ℕ) → times i us ≡ 0 → times i vs ≡ 0 → without (us ++ i ∷ vs) i ≡ us ++ vs
without-split i [] vs front behind =
    let t : (i == i) ≡ true = grind (arith, nat_tests) in without-here (i == i) i (without vs i) vs t (without-none i vs behind)
without-split i (x ∷ us) vs front behind = ⊎_elim
    (λ w. absurd (let o = ap one_if w.0 in omega (arith, o, front)))
    (λ w. without-step (x == i) x (without (us ++ i ∷ vs) i) (us ++ vs) w.0 (without-split i us vs (omega (arith, front)) behind))
    (eqb_tells x i)

last-either : (us : List ℕ) (z : ℕ) → (last_of us z ≡ z) ⊎ (1 ≤ times (last_of us z) us)
last-either [] z = inl refl
last-either (x ∷ us) z = inr (last-in x us)

head-either : (vs : List ℕ) (z : ℕ) → (head_of vs z ≡ z) ⊎ (1 ≤ times (head_of vs z) vs)
head-either [] z = inl refl
head-either (v ∷ vs) z = inr (times-self v vs)

-- ---- a number goes out
module _ (ls : List Link) (size count i : ℕ) (us vs : List ℕ) (ring : IsRing ls size count) (is : members ls size count ≡ us ++ i ∷ vs) where
  abbrev ys : List ℕ
  ys = us ++ i ∷ vs

  abbrev b : ℕ
  b = (link_at ls i).before

  abbrev n : ℕ
  n = (link_at ls i).next

  all-once : (j : ℕ) → times j (us ++ i ∷ vs) ≤ 1
  all-once j = let a = at-most-once ls size count ring j in let e = ap (times j) is in omega (arith, a, e)

  there : (j : ℕ) → times j (members ls size count) ≡ times j us + (one_if (i == j) + times j vs)
  there j = ap (times j) is ∙ times-both j us (i ∷ vs)

  is-below : i < size
  is-below = let a = there i in let o = one-same i in member-below ls size count ring i (omega (arith, a, o))

  linked : Linked ls size (us ++ i ∷ (vs ++ size ∷ []))
  linked =
      let P : List ℕ → Type 0 = λ w. Linked ls size (w ++ size ∷ []) in
      let Q : List ℕ → Type 0 = λ w. Linked ls size w in
      subst Q (append_assoc us (i ∷ vs) (size ∷ [])) (subst P is ring.round)

  b-is : b ≡ last_of us size
  b-is = linked-before ls size i us (vs ++ size ∷ []) linked

  n-is : n ≡ head_of vs size
  n-is = linked-next ls size i size us vs linked

  b-at : (b ≡ size) ⊎ (1 ≤ times b us)
  b-at = let P : ℕ → Type 0 = λ w. (w ≡ size) ⊎ (1 ≤ times w us) in subst P (sym b-is) (last-either us size)

  n-at : (n ≡ size) ⊎ (1 ≤ times n vs)
  n-at = let P : ℕ → Type 0 = λ w. (w ≡ size) ⊎ (1 ≤ times w vs) in subst P (sym n-is) (head-either vs size)

  b-among : (b ≡ size) ⊎ (1 ≤ times b (members ls size count))
  b-among = ⊎_elim (λ closed. inl closed) (λ some. inr (let a = there b in omega (arith, a, some))) b-at

  pub n-below : n ≤ size
  n-below = ⊎_elim (λ closed. omega (arith, closed)) (λ some. let a = there n in let w = member-below ls size count ring n (omega (arith, a, some)) in omega (arith, w)) n-at

  pub b-below : b ≤ size
  b-below = let a = at-within ls size count ring b b-among in omega (arith, a)

  i-once : (times i us ≡ 0) × (times i vs ≡ 0)
  i-once =
      let a = there i in
      let o = one-same i in
      let m = at-most-once ls size count ring i in
      (omega (arith, a, o, m), omega (arith, a, o, m))

  i-b : i ≢ b
  i-b = ⊎_elim (λ (closed : b ≡ size). λ (e : i ≡ b). let low = is-below in omega (arith, e, closed, low)) (λ (some : 1 ≤ times b us). λ (e : i ≡ b). apart i b us i-once.0 some (sym e)) b-at

  i-n : i ≢ n
  i-n = ⊎_elim (λ (closed : n ≡ size). λ (e : i ≡ n). let low = is-below in omega (arith, e, closed, low)) (λ (some : 1 ≤ times n vs). λ (e : i ≡ n). apart i n vs i-once.1 some (sym e)) n-at

  parts : IsParted ls (parted ls size i) i b n
  parts =
      let low = is-below in
      let b_low = b-below in
      let n_low = n-below in
      is-parted ls size i (omega (arith, low, ring.whole)) (omega (arith, b_low, ring.whole)) (omega (arith, n_low, ring.whole)) i-b i-n

  part-round : Linked (parted ls size i) size ((us ++ vs) ++ size ∷ [])
  part-round =
      let Q : List ℕ → Type 0 = λ w. Linked (parted ls size i) size w in
      let closed : times size (us ++ i ∷ vs) ≡ 0 = sym (ap (times size) is) ∙ closed-out ls size count ring in
      subst Q (sym (append_assoc us vs (size ∷ []))) (part-linked ls (parted ls size i) size i size b n us vs parts b-is n-is all-once closed closed linked)

  abbrev part : List Link
  part = parted ls size i

  pub part-members : members part size (count - 1) ≡ us ++ vs
  part-members =
      let a = count-is ls size count ring ∙ ap length is in
      let c = length-append us (i ∷ vs) in
      let d = length-append us vs in
      walk-is part size size (count - 1) (us ++ vs) (omega (arith, a, c, d)) part-round

  part-mark : (j : ℕ) → j ≢ i → is_in part size j ≡ is_in ls size j
  part-mark j j_i =
      let n_low = n-below in
      ⊎_elim
      (λ w. let P : ℕ → Type 0 = λ k. is_in part size k ≡ is_in ls size k in subst P (sym w.1) (still-in ls size count ring part b b-among (let to = parts.to in omega (arith, to, n_low))))
      (λ w. in-same ls part size j (parts.next j w.1 j_i))
      (eqb_tells j b)

  part-once : (j : ℕ) → times j (us ++ vs) ≡ one_if (is_in part size j)
  part-once j =
      let both = times-both j us vs in
      let old = there j in
      ⊎_elim
      (λ w. let e : j ≡ i = w.1 in
      let none : times j us + times j vs ≡ 0 =
      ap (λ k. times k us + times k vs) e ∙ (let o = i-once in omega (arith, o)) in
      let low = is-below in
      let m : one_if (is_in part size j) ≡ 0 =
      ap (λ k. one_if (is_in part size k)) e
      ∙ ap one_if (in-gone part size i low (parted-gone ls size i (omega (arith, low, ring.whole)))) in
      omega (arith, both, none, m))
      (λ w. let j_i = w.1 in
      let t : (i == j) ≡ false = grind (arith, nat_tests) in
      let o = ap one_if t in
      let m = ap one_if (part-mark j j_i) in
      let once = ring.once j in
      omega (arith, both, old, o, m, once))
      (eqb_tells j i)

  pub part-keeps : IsRing part size (count - 1)
  part-keeps = record {
    whole = length-parted ls size i ∙ ring.whole;
    few = ring.few;
    round = let P : List ℕ → Type 0 = λ w. Linked part size (w ++ size ∷ []) in subst P (sym part-members) part-round;
    once = λ j. ap (times j) part-members ∙ part-once j;
  }

  pub part-without : without (members ls size count) i ≡ us ++ vs
  part-without = ap (λ w. without w i) is ∙ without-split i us vs i-once.0 i-once.1

-- ---- what comes after a number

pub data Follows (xs : List ℕ) (k n z : ℕ) : Type 0 where
  ends : slice_get xs (suc k) ≡ None → n ≡ z → Follows xs k n z
  goes : slice_get xs (suc k) ≡ Some n → Follows xs k n z

follows : (ls : List Link) (a z i : ℕ) (xs : List ℕ) (k : ℕ) → Linked ls a (xs ++ z ∷ []) → slice_get xs k ≡ Some i
    → Follows xs k (link_at ls i).next z
follows ls a z i [] k h e = absurd (cc e)
follows ls a z i (x ∷ []) zero h e = ends refl (let at : x ≡ i = cc e in ap (λ w. (link_at ls w).next) (sym at) ∙ h.2.0)
follows ls a z i (x ∷ y ∷ ys) zero h e =
    goes (let at : x ≡ i = cc e in ap Some (sym (ap (λ w. (link_at ls w).next) (sym at) ∙ h.2.0)))
follows ls a z i (x ∷ xs) (suc k) h e = go (follows ls x z i xs k h.2 e)
  where
    go : Follows xs k (link_at ls i).next z → Follows (x ∷ xs) (suc k) (link_at ls i).next z
    go (ends none is) = ends none is
    go (goes some) = goes some

get-times : (xs : List ℕ) (k w : ℕ) → slice_get xs k ≡ Some w → 1 ≤ times w xs
get-times [] k w e = absurd (cc e)
get-times (x ∷ xs) zero w e = let at : x ≡ w = cc e in let o = one-same x in let P : ℕ → Type 0 = λ v. 1 ≤ times v (x ∷ xs) in subst P at (times-self x xs)
get-times (x ∷ xs) (suc k) w e = let rest = get-times xs k w e in omega (arith, rest)

-- ---- a call, where contracts see the ring as v

pub record IsCall (ls : List Link) (size count : ℕ) (v : Numbers) : Type 0 where
  pub ring : IsRing ls size count
  pub size_is : size ≡ v.size
  pub items_is : members ls size count ≡ v.items

pub is-call : (ls : List Link) (size count : ℕ) (v : Numbers) → IsRing ls size count
    → record { items = members ls size count; size = size } ≡ v → IsCall ls size count v
is-call ls size count v ring view =
    record { ring = ring; size_is = ap (λ (x : Numbers). x.size) view; items_is = ap (λ (x : Numbers). x.items) view }

module _ {ls : List Link} {size count : ℕ} {v : Numbers} (call : IsCall ls size count v) (i : ℕ) where
  pub absent-out : has v i ≡ false → times i (members ls size count) ≡ 0
  absent-out absent = ap (times i) call.items_is ∙ none-times i v.items absent

  pub present-some : has v i ≡ true → 1 ≤ times i (members ls size count)
  present-some present =
      let a = some-times i v.items present in
      let e = ap (times i) call.items_is in
      omega (arith, a, e)

  pub present-below : has v i ≡ true → i < size
  present-below present = member-below ls size count call.ring i (present-some present)

  pub holds-value : i < v.size → nat_le (link_at ls i).next size ≡ has v i
  holds-value below =
      let low : nat_lt i size ≡ true = let e = call.size_is in let a : i < size = omega (arith, e, below) in grind (arith, nat_tests) in
      let mark : is_in ls size i ≡ nat_le (link_at ls i).next size =
      ap (λ w. w && nat_le (link_at ls i).next size) low in
      sym mark ∙ one-back (is_in ls size i) ∙ ap (nat_le 1) (sym (call.ring.once i))
      ∙ sym (times-some i (members ls size count)) ∙ ap (list_any (λ k. k == i)) call.items_is
    where
      one-back : (b : Bool) → b ≡ nat_le 1 (one_if b)
      one-back true = let t : nat_le 1 1 ≡ true = grind (arith, nat_tests) in sym t
      one-back false = let t : nat_le 1 0 ≡ false = grind (arith, nat_tests) in sym t

  pub after-value : (k : ℕ) → slice_get v.items k ≡ Some i → Follows (members ls size count) k (link_at ls i).next size
  after-value k at =
      follows ls size size i (members ls size count) k call.ring.round (ap (λ w. slice_get w k) call.items_is ∙ at)

  pub after-none : (k : ℕ) → slice_get v.items k ≡ Some i → (link_at ls i).next ≡ size
      → None ≡ slice_get v.items (k + 1)
  after-none k at end = go (after-value k at)
    where
      go : Follows (members ls size count) k (link_at ls i).next size → None ≡ slice_get v.items (k + 1)
      go (ends none is) =
          sym none ∙ ap (slice_get (members ls size count)) (let e : suc k ≡ k + 1 = omega arith in e)
          ∙ ap (λ w. slice_get w (k + 1)) call.items_is
      go (goes some) =
          absurd (let low = member-below ls size count call.ring (link_at ls i).next (get-times (members ls size count) (suc k) (link_at ls i).next some) in omega (arith, low, end))

  pub after-some : (k : ℕ) → slice_get v.items k ≡ Some i → ((link_at ls i).next ≡ size → ⊥)
      → Some (link_at ls i).next ≡ slice_get v.items (k + 1)
  after-some k at end = go (after-value k at)
    where
      go : Follows (members ls size count) k (link_at ls i).next size
          → Some (link_at ls i).next ≡ slice_get v.items (k + 1)
      go (ends none is) = absurd (end is)
      go (goes some) =
          sym some ∙ ap (slice_get (members ls size count)) (let e : suc k ≡ k + 1 = omega arith in e)
          ∙ ap (λ w. slice_get w (k + 1)) call.items_is

  pub join-value : (below : i < v.size) (absent : has v i ≡ false)
      → (let w : Numbers = record { items = members (joined ls size i) size (count + 1); size = size } in w) ≡ record { items = v.items ++ i ∷ []; size = v.size }
  join-value below absent =
      ap (λ ys. let w : Numbers = record { items = ys; size = size } in w)
      (join-members ls size count call.ring i (let e = call.size_is in omega (arith, e, below)) (absent-out absent) ∙ ap (λ ys. ys ++ i ∷ []) call.items_is)
      ∙ ap (λ n. let w : Numbers = record { items = v.items ++ i ∷ []; size = n } in w) call.size_is

  pub join-ring : i < v.size → has v i ≡ false → IsRing (joined ls size i) size (count + 1)
  join-ring below absent =
      join-keeps ls size count call.ring i (let e = call.size_is in omega (arith, e, below)) (absent-out absent)

  module _ (present : has v i ≡ true) where
    found : IsSplit i (members ls size count)
    found = split i (members ls size count) (present-some present)

    pub leave-next : (link_at ls i).next ≤ size
    leave-next = n-below ls size count i found.front found.behind call.ring found.is

    pub leave-before : (link_at ls i).before ≤ size
    leave-before = b-below ls size count i found.front found.behind call.ring found.is

    pub leave-ring : IsRing (parted ls size i) size (count - 1)
    leave-ring = part-keeps ls size count i found.front found.behind call.ring found.is

    pub leave-value : (let w : Numbers = record { items = members (parted ls size i) size (count - 1); size = size } in w) ≡ record { items = without v.items i; size = v.size }
    leave-value =
        ap (λ ys. let w : Numbers = record { items = ys; size = size } in w)
        (part-members ls size count i found.front found.behind call.ring found.is ∙ sym (part-without ls size count i found.front found.behind call.ring found.is)
        ∙ ap (λ ys. without ys i) call.items_is)
        ∙ ap (λ n. let w : Numbers = record { items = without v.items i; size = n } in w) call.size_is
