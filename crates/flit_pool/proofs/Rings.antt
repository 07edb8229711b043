-- How the links of a ring stand, and what a step makes of them.
use Rattle.std.proofs.Common.{◌≡◌, ◌≢◌, ℕ, zero, suc, ◌+◌, ◌<◌, ◌≤◌, Bool, true, false, List, [], ◌∷◌, ◌++◌, length, set, refl, sym, ap, ◌∙◌, subst, arith, get_or-set_other, get_or-set_same, length-set, ⊎_elim, ◌⊎◌, inl, inr}
use Rattle.std.specs.Prelude.{◌==◌, ◌&&◌, nat_lt, nat_le}
use Rattle.std.proofs.lemmas.Bool.{ltb-true}
use Rattle.std.proofs.lemmas.Bool.Decides.{nat_tests, eqb_tells}
use Rattle.flit_pool.specs.declared.ring.Link.{Link}
use Rattle.noc_model.specs.Step.{one_if}
use Rattle.flit_pool.specs.Chains.{times, last_of}
use Rattle.flit_pool.proofs.Chains.{one-same, one-true, times-self, last-in}
use Rattle.flit_pool.specs.Ring.{no_link, link_at, walk, Linked, members, is_in, IsRing, with_next, with_before, joined, parted}

pub times-both : (i : ℕ) (xs ys : List ℕ) → times i (xs ++ ys) ≡ times i xs + times i ys
times-both i [] ys = omega arith
times-both i (x ∷ xs) ys = let e = times-both i xs ys in omega (arith, e)

pub length-both : (xs : List ℕ) (z : ℕ) → length (xs ++ z ∷ []) ≡ length xs + 1
length-both [] z = omega arith
length-both (x ∷ xs) z = let e = length-both xs z in omega (arith, e)

pub apart : (i j : ℕ) (xs : List ℕ) → times i xs ≡ 0 → 1 ≤ times j xs → j ≢ i
apart i j xs none some = λ e. let same : times j xs ≡ times i xs = ap (λ k. times k xs) e in omega (arith, same, none, some)

abbrev pub head_of : List ℕ → ℕ → ℕ
head_of [] z = z
head_of (v ∷ vs) z = v

head-in : (vs : List ℕ) (z : ℕ) → 1 ≤ times (head_of vs z) (vs ++ z ∷ [])
head-in [] z = times-self z []
head-in (v ∷ vs) z = times-self v (vs ++ z ∷ [])

-- ---- linked lists

pub linked-before : (ls : List Link) (a i : ℕ) (us ws : List ℕ) → Linked ls a (us ++ i ∷ ws)
    → (link_at ls i).before ≡ last_of us a
linked-before ls a i [] ws h = h.1
linked-before ls a i (x ∷ us) ws h = linked-before ls x i us ws h.2

pub linked-next : (ls : List Link) (a i z : ℕ) (us vs : List ℕ) → Linked ls a (us ++ i ∷ (vs ++ z ∷ []))
    → (link_at ls i).next ≡ head_of vs z
linked-next ls a i z [] [] h = h.2.0
linked-next ls a i z [] (v ∷ vs) h = h.2.0
linked-next ls a i z (x ∷ us) vs h = linked-next ls x i z us vs h.2

-- a list that is linked from a on to z is what is walked from a
walk-along : (ls : List Link) (a z : ℕ) (xs : List ℕ) → Linked ls a (xs ++ z ∷ [])
    → walk ls (length xs) (link_at ls a).next ≡ xs
walk-along ls a z [] h = refl
walk-along ls a z (x ∷ xs) h =
    ap (λ w. w ∷ walk ls (length xs) (link_at ls w).next) h.0 ∙ ap (λ ys. x ∷ ys) (walk-along ls x z xs h.2)

pub walk-is : (ls : List Link) (a z k : ℕ) (xs : List ℕ) → k ≡ length xs → Linked ls a (xs ++ z ∷ [])
    → walk ls k (link_at ls a).next ≡ xs
walk-is ls a z k xs long h = ap (λ n. walk ls n (link_at ls a).next) long ∙ walk-along ls a z xs h

pub length-walk : (ls : List Link) (k i : ℕ) → length (walk ls k i) ≡ k
length-walk ls zero i = refl
length-walk ls (suc k) i = let e = length-walk ls k (link_at ls i).next in omega (arith, e)

frame : (ls ms : List Link) (a z : ℕ) (vs : List ℕ)
    → ((j : ℕ) → 1 ≤ times j (a ∷ vs) → (link_at ms j).next ≡ (link_at ls j).next)
    → ((j : ℕ) → 1 ≤ times j (vs ++ z ∷ []) → (link_at ms j).before ≡ (link_at ls j).before)
    → Linked ls a (vs ++ z ∷ []) → Linked ms a (vs ++ z ∷ [])
frame ls ms a z [] next before h = (next a (times-self a []) ∙ h.0, before z (times-self z []) ∙ h.1, tt)
frame ls ms a z (v ∷ vs) next before h = (
  next a (times-self a (v ∷ vs)) ∙ h.0,
  before v (times-self v (vs ++ z ∷ [])) ∙ h.1,
  frame ls ms v z vs (λ j is. next j (omega (arith, is))) (λ j is. before j (omega (arith, is))) h.2,
)

-- ---- one comes in behind the last

pub record IsJoined (ls ms : List Link) (last i z : ℕ) : Type 0 where
  pub to : (link_at ms last).next ≡ i
  pub on : (link_at ms i).next ≡ z
  pub back : (link_at ms i).before ≡ last
  pub end : (link_at ms z).before ≡ i
  pub next : (j : ℕ) → j ≢ last → j ≢ i → (link_at ms j).next ≡ (link_at ls j).next
  pub before : (j : ℕ) → j ≢ i → j ≢ z → (link_at ms j).before ≡ (link_at ls j).before

pub join-linked : (ls ms : List Link) (a i z last : ℕ) (xs : List ℕ) → IsJoined ls ms last i z → last ≡ last_of xs a
    → ((j : ℕ) → times j xs ≤ 1) → times a xs ≡ 0 → times z xs ≡ 0 → times i xs ≡ 0 → a ≢ i
    → Linked ls a (xs ++ z ∷ []) → Linked ms a ((xs ++ i ∷ []) ++ z ∷ [])
join-linked ls ms a i z last [] step is once a_out z_out i_out a_i h =
    (ap (λ w. (link_at ms w).next) (sym is) ∙ step.to, step.back ∙ is, (step.on, step.end, tt))
join-linked ls ms a i z last (x ∷ xs) step is once a_out z_out i_out a_i h =
    let x_once = once x in
    let x_self = one-same x in
    let last_in : 1 ≤ times last (x ∷ xs) = let P : ℕ → Type 0 = λ w. 1 ≤ times w (x ∷ xs) in subst P (sym is) (last-in x xs) in
    let a_last : a ≢ last = λ e. apart a last (x ∷ xs) a_out last_in (sym e) in
    let x_i : x ≢ i = apart i x (x ∷ xs) i_out (times-self x xs) in
    let x_z : x ≢ z = apart z x (x ∷ xs) z_out (times-self x xs) in (
      step.next a a_last a_i ∙ h.0,
      step.before x x_i x_z ∙ h.1,
      join-linked ls ms x i z last xs step is (λ j. let o = once j in omega (arith, o)) (omega (arith, x_once, x_self)) (omega (arith, z_out)) (omega (arith, i_out)) x_i h.2,
    )

-- ---- one goes out

pub record IsParted (ls ms : List Link) (i b n : ℕ) : Type 0 where
  pub to : (link_at ms b).next ≡ n
  pub back : (link_at ms n).before ≡ b
  pub next : (j : ℕ) → j ≢ b → j ≢ i → (link_at ms j).next ≡ (link_at ls j).next
  pub before : (j : ℕ) → j ≢ n → j ≢ i → (link_at ms j).before ≡ (link_at ls j).before

pub part-linked : (ls ms : List Link) (a i z b n : ℕ) (us vs : List ℕ) → IsParted ls ms i b n → b ≡ last_of us a
    → n ≡ head_of vs z
    → ((j : ℕ) → times j (us ++ i ∷ vs) ≤ 1) → times a (us ++ i ∷ vs) ≡ 0 → times z (us ++ i ∷ vs) ≡ 0
    → Linked ls a (us ++ i ∷ (vs ++ z ∷ [])) → Linked ms a (us ++ (vs ++ z ∷ []))
part-linked ls ms a i z b n [] [] step b_is n_is once a_out z_out h = (
  ap (λ w. (link_at ms w).next) (sym b_is) ∙ step.to ∙ n_is,
  ap (λ w. (link_at ms w).before) (sym n_is) ∙ step.back ∙ b_is,
  tt,
)
part-linked ls ms a i z b n [] (v ∷ vs) step b_is n_is once a_out z_out h =
    let i_once = once i in
    let i_self = one-same i in
    let v_once = once v in
    let v_self = one-same v in
    let z_in : 1 ≤ times z (z ∷ []) = times-self z [] in (
      ap (λ w. (link_at ms w).next) (sym b_is) ∙ step.to ∙ n_is,
      ap (λ w. (link_at ms w).before) (sym n_is) ∙ step.back ∙ b_is,
      frame ls ms v z vs
          (λ j there.
          let j_b : j ≢ b = λ e. apart a j (v ∷ vs) (omega (arith, a_out)) there (e ∙ b_is) in
          let j_i : j ≢ i = apart i j (v ∷ vs) (omega (arith, i_once, i_self)) there in
          step.next j j_b j_i)
          (λ j there.
          let v_not : times v (vs ++ z ∷ []) ≡ 0 =
          let both = times-both v vs (z ∷ []) in
          let v_z : v ≢ z = apart z v (v ∷ vs) (omega (arith, z_out)) (times-self v vs) in
          let none : times v (z ∷ []) ≡ 0 = let t : (z == v) ≡ false = grind (arith, nat_tests) in let o = ap one_if t in omega (arith, o) in
          omega (arith, both, none, v_once, v_self) in
          let i_not : times i (vs ++ z ∷ []) ≡ 0 =
          let both = times-both i vs (z ∷ []) in
          let i_z : i ≢ z = apart z i (i ∷ v ∷ vs) z_out (times-self i (v ∷ vs)) in
          let none : times i (z ∷ []) ≡ 0 = let t : (z == i) ≡ false = grind (arith, nat_tests) in let o = ap one_if t in omega (arith, o) in
          omega (arith, both, none, i_once, i_self) in
          let j_n : j ≢ n = λ e. apart v j (vs ++ z ∷ []) v_not there (e ∙ n_is) in
          step.before j j_n (apart i j (vs ++ z ∷ []) i_not there))
          h.2.2,
    )
part-linked ls ms a i z b n (x ∷ us) vs step b_is n_is once a_out z_out h =
    let a_both = times-both a us (i ∷ vs) in
    let x_both = times-both x us (i ∷ vs) in
    let i_both = times-both i us (i ∷ vs) in
    let x_once = once x in
    let x_self = one-same x in
    let i_self = one-same i in
    let last_in : 1 ≤ times b (x ∷ us) = let P : ℕ → Type 0 = λ w. 1 ≤ times w (x ∷ us) in subst P (sym b_is) (last-in x us) in
    let a_b : a ≢ b = λ e. apart a b (x ∷ us) (omega (arith, a_both, a_out)) last_in (sym e) in
    let a_i : a ≢ i = λ e. apart a i (i ∷ vs) (omega (arith, a_both, a_out)) (times-self i vs) (sym e) in
    let x_i : x ≢ i = λ e. apart x i (i ∷ vs) (omega (arith, x_both, x_once, x_self)) (times-self i vs) (sym e) in
    let x_not : times x (vs ++ z ∷ []) ≡ 0 =
    let both = times-both x vs (z ∷ []) in
    let x_z : x ≢ z = apart z x (x ∷ (us ++ i ∷ vs)) z_out (times-self x (us ++ i ∷ vs)) in
    let none : times x (z ∷ []) ≡ 0 = let t : (z == x) ≡ false = grind (arith, nat_tests) in let o = ap one_if t in omega (arith, o) in
    omega (arith, both, none, x_both, x_once, x_self) in
    let head_in' : 1 ≤ times n (vs ++ z ∷ []) = let P : ℕ → Type 0 = λ w. 1 ≤ times w (vs ++ z ∷ []) in subst P (sym n_is) (head-in vs z) in
    let x_n : x ≢ n = λ e. apart x n (vs ++ z ∷ []) x_not head_in' (sym e) in (
      step.next a a_b a_i ∙ h.0,
      step.before x x_n x_i ∙ h.1,
      part-linked ls ms x i z b n us vs step b_is n_is (λ j. let o = once j in omega (arith, o)) (omega (arith, x_once, x_self)) (omega (arith, z_out)) h.2,
    )

-- ---- one link is written

other : (ls : List Link) (i j : ℕ) (x : Link) → j ≢ i → link_at (set ls i x) j ≡ link_at ls j
other ls i j x apart = get_or-set_other ls i j x no_link apart

same : (ls : List Link) (i : ℕ) (x : Link) → i < length ls → link_at (set ls i x) i ≡ x
same ls i x within = get_or-set_same ls i x no_link within

next-same : (ls : List Link) (i n : ℕ) → i < length ls → (link_at (with_next ls i n) i).next ≡ n
next-same ls i n within = ap (λ (x : Link). x.next) (same ls i _ within)

next-other : (ls : List Link) (i j n : ℕ) → j ≢ i → (link_at (with_next ls i n) j).next ≡ (link_at ls j).next
next-other ls i j n apart = ap (λ (x : Link). x.next) (other ls i j _ apart)

next-before : (ls : List Link) (i j n : ℕ) → i < length ls
    → (link_at (with_next ls i n) j).before ≡ (link_at ls j).before
next-before ls i j n within = ⊎_elim
    (λ w. let P : ℕ → Type 0 = λ k. (link_at (with_next ls i n) k).before ≡ (link_at ls k).before in subst P (sym w.1) (ap (λ (x : Link). x.before) (same ls i _ within)))
    (λ w. ap (λ (x : Link). x.before) (other ls i j _ w.1))
    (eqb_tells j i)

before-same : (ls : List Link) (i b : ℕ) → i < length ls → (link_at (with_before ls i b) i).before ≡ b
before-same ls i b within = ap (λ (x : Link). x.before) (same ls i _ within)

before-other : (ls : List Link) (i j b : ℕ) → j ≢ i → (link_at (with_before ls i b) j).before ≡ (link_at ls j).before
before-other ls i j b apart = ap (λ (x : Link). x.before) (other ls i j _ apart)

before-next : (ls : List Link) (i j b : ℕ) → i < length ls → (link_at (with_before ls i b) j).next ≡ (link_at ls j).next
before-next ls i j b within = ⊎_elim
    (λ w. let P : ℕ → Type 0 = λ k. (link_at (with_before ls i b) k).next ≡ (link_at ls k).next in subst P (sym w.1) (ap (λ (x : Link). x.next) (same ls i _ within)))
    (λ w. ap (λ (x : Link). x.next) (other ls i j _ w.1))
    (eqb_tells j i)

pub is-joined : (ls : List Link) (size i : ℕ) → i < length ls → size < length ls → (link_at ls size).before < length ls
    → i ≢ size → i ≢ (link_at ls size).before
    → IsJoined ls (joined ls size i) (link_at ls size).before i size
is-joined ls size i inside closed last_in i_size i_last =
    let last : ℕ = (link_at ls size).before in
    let l : Link = record { next = size; before = last } in
    let ls₁ : List Link = with_next ls last i in
    let ls₂ : List Link = set ls₁ i l in
    let long₁ : length ls₁ ≡ length ls = length-set ls last _ in
    let long₂ : length ls₂ ≡ length ls = length-set ls₁ i l ∙ long₁ in
    let in₁ : i < length ls₁ = omega (arith, long₁, inside) in
    let in₂ : size < length ls₂ = omega (arith, long₂, closed) in
    record {
      to = before-next ls₂ size last i in₂ ∙ ap (λ (x : Link). x.next) (other ls₁ i last l (λ e. i_last (sym e))) ∙ next-same ls last i last_in;
      on = before-next ls₂ size i i in₂ ∙ ap (λ (x : Link). x.next) (same ls₁ i l in₁);
      back = before-other ls₂ size i i i_size ∙ ap (λ (x : Link). x.before) (same ls₁ i l in₁);
      end = before-same ls₂ size i in₂;
      next = λ j j_last j_i. before-next ls₂ size j i in₂ ∙ ap (λ (x : Link). x.next) (other ls₁ i j l j_i) ∙ next-other ls last j i j_last;
      before = λ j j_i j_size. before-other ls₂ size j i j_size ∙ ap (λ (x : Link). x.before) (other ls₁ i j l j_i) ∙ next-before ls last j i last_in;
    }

pub is-parted : (ls : List Link) (size i : ℕ) → i < length ls → (link_at ls i).before < length ls
    → (link_at ls i).next < length ls → i ≢ (link_at ls i).before → i ≢ (link_at ls i).next
    → IsParted ls (parted ls size i) i (link_at ls i).before (link_at ls i).next
is-parted ls size i inside b_in n_in i_b i_n =
    let b : ℕ = (link_at ls i).before in
    let n : ℕ = (link_at ls i).next in
    let l : Link = record { next = size + 1; before = size + 1 } in
    let ls₁ : List Link = with_next ls b n in
    let ls₂ : List Link = with_before ls₁ n b in
    let long₁ : length ls₁ ≡ length ls = length-set ls b _ in
    let in₁ : n < length ls₁ = omega (arith, long₁, n_in) in
    record {
      to = ap (λ (x : Link). x.next) (other ls₂ i b l (λ e. i_b (sym e))) ∙ before-next ls₁ n b b in₁ ∙ next-same ls b n b_in;
      back = ap (λ (x : Link). x.before) (other ls₂ i n l (λ e. i_n (sym e))) ∙ before-same ls₁ n b in₁;
      next = λ j j_b j_i. ap (λ (x : Link). x.next) (other ls₂ i j l j_i) ∙ before-next ls₁ n j b in₁ ∙ next-other ls b j n j_b;
      before = λ j j_n j_i. ap (λ (x : Link). x.before) (other ls₂ i j l j_i) ∙ before-other ls₁ n j b j_n ∙ next-before ls b j n b_in;
    }

pub length-joined : (ls : List Link) (size i : ℕ) → length (joined ls size i) ≡ length ls
length-joined ls size i =
    length-set (set (with_next ls (link_at ls size).before i) i _) size _
    ∙ length-set (with_next ls (link_at ls size).before i) i _ ∙ length-set ls (link_at ls size).before _

pub length-parted : (ls : List Link) (size i : ℕ) → length (parted ls size i) ≡ length ls
length-parted ls size i =
    length-set (with_before (with_next ls (link_at ls i).before (link_at ls i).next) (link_at ls i).next (link_at ls i).before) i _
    ∙ length-set (with_next ls (link_at ls i).before (link_at ls i).next) (link_at ls i).next _
    ∙ length-set ls (link_at ls i).before _

pub parted-gone : (ls : List Link) (size i : ℕ) → i < length ls → (link_at (parted ls size i) i).next ≡ size + 1
parted-gone ls size i inside =
    let ls₂ : List Link =
    with_before (with_next ls (link_at ls i).before (link_at ls i).next) (link_at ls i).next (link_at ls i).before in
    let long : length ls₂ ≡ length ls =
    length-set (with_next ls (link_at ls i).before (link_at ls i).next) (link_at ls i).next _
    ∙ length-set ls (link_at ls i).before _ in
    ap (λ (x : Link). x.next) (same ls₂ i _ (omega (arith, long, inside)))

-- ---- a ring

pub and-both : (a b : Bool) → (a && b) ≡ true → (a ≡ true) × (b ≡ true)
and-both true b e = (refl, e)
and-both false b e = absurd (cc e)

pub one-few : (b : Bool) → one_if b ≤ 1
one-few true = omega arith
one-few false = omega arith

module _ (ls : List Link) (size count : ℕ) (ring : IsRing ls size count) where
  pub count-is : count ≡ length (members ls size count)
  count-is = sym (length-walk ls count (link_at ls size).next)

  pub at-most-once : (i : ℕ) → times i (members ls size count) ≤ 1
  at-most-once i = let a = ring.once i in let b = one-few (is_in ls size i) in omega (arith, a, b)

  -- a member is below the closing place, and is linked
  pub member-in : (i : ℕ) → 1 ≤ times i (members ls size count) → is_in ls size i ≡ true
  member-in i some = let a = ring.once i in one-true (is_in ls size i) (omega (arith, a, some))

  pub member-below : (i : ℕ) → 1 ≤ times i (members ls size count) → i < size
  member-below i some =
      ltb-true i size (and-both (nat_lt i size) (nat_le (link_at ls i).next size) (member-in i some)).0

  pub closed-out : times size (members ls size count) ≡ 0
  closed-out =
      let a = ring.once size in
      let t : nat_lt size size ≡ false = grind (arith, nat_tests) in
      let b = ap (λ w. one_if (w && nat_le (link_at ls size).next size)) t in
      omega (arith, a, b)

  -- the last is a member, or the closing place
  pub last-is : (link_at ls size).before ≡ last_of (members ls size count) size
  last-is = linked-before ls size size (members ls size count) [] ring.round

  pub last-below : (xs : List ℕ) → ((i : ℕ) → 1 ≤ times i xs → i < size)
      → (last_of xs size ≡ size) ⊎ (1 ≤ times (last_of xs size) xs)
  last-below [] below = inl refl
  last-below (x ∷ xs) below = inr (last-in x xs)
