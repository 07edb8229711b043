-- A leaf that needs no gate makes no word longer than its net is wide.
use Rattle.std.proofs.Common.{◌≡◌, ◌≢◌, ℕ, ◌+◌, ◌-◌, ◌%◌, ◌<◌, ◌≤◌, ◌^◌, Bool, true, false, ◌&&◌, List, [], ◌∷◌, ◌++◌, length, get_or, set, Option, refl, sym, ◌∙◌, ap, subst, bytes_eq, arith, append_assoc}
use Rattle.std.specs.Prelude.{Some, None, min, nat_lt, nat_le, if◌then◌else◌}
use Rattle.std.proofs.lemmas.List.{append-nil}
use Rattle.std.specs.List.{AllByRecursion, list_all}
use Rattle.std.proofs.lemmas.Bool.{and_parts, ltb-true, false≢true}
use Rattle.std.proofs.lemmas.Nat.{pow_pos}
use Rattle.std.proofs.Math.Pow.{pow_mono}
use Rattle.vl_tree.specs.Values.{Name, Expr, Exprs, net, number, bit, part, word, not, two, choose, cat, no_parts, parts, Item, wire, reg, mem, assign, clocked, store, Leaf}
use Rattle.vl_tree.specs.Plain.{plain_const, plain_expr, plain_exprs}
use Rattle.vl_tree.specs.Grammar.{limit}
use Rattle.vl_tree.specs.declared.tree.Port.{Port}
use Rattle.vl_tree.specs.declared.tree.Join as tree_join
use Rattle.vl_model.specs.Meaning.{Widths, Values, width_of, widths_of, agrees, all_agree, nets_of, parts_nets}
use Rattle.vl_model.specs.Lines.{Line, leaf_lines, Declared, lookup, kind_passes, way_of, is_net, net_bits, widths, port_named}
use Rattle.vl_model.specs.Rules.{is_kind, is_output_port}
use Rattle.vl_model.specs.Settle.{is_input_port}
use Rattle.vl_model.proofs.Stepping.{Moves}
use Rattle.vl_model.proofs.Leaves.{leaf-port}
use Rattle.vl_model.proofs.Tops.{GoodJoin}
use Rattle.vl_model.proofs.Settling.{one-name, Tight}
use Rattle.vl_model.proofs.Ordered.{driven-is-net}
use Rattle.vl_run.specs.declared.step.Step.{Step}
use Rattle.vl_run.specs.declared.step.Action.{Action}
use Rattle.vl_run.specs.declared.step.Action.TheVariants.{Number, Copy, Bits, Not, Join}
use Rattle.vl_run.specs.Emit.{step, fetch, fetched, steps_of, parts_steps, mask_of, scale_of}
use Rattle.vl_run.specs.Program.{assign_steps, next_steps, move_steps, stores_of, feeds_of, outs_of}
use Rattle.vl_run.proofs.Ruled.{Ruled, ItemRuled}
use Rattle.vl_run.proofs.Settled.{ruled-nets}
use Rattle.vl_run.proofs.Readied.{register-is-net}
use Rattle.vl_run.specs.Places.{ArePlaces}
use Rattle.vl_run.proofs.Linked.{apart, low}
use Rattle.vl_run.proofs.Narrow.{AreNarrow, narrow}
use Rattle.vl_run.proofs.Acted.{placed-here, placed-other}
use Rattle.aig_model.specs.FormOf.{is_wiring, are_wiring, needs_no_gate}
use Rattle.aig_cycle.specs.Steps.{linked_words}
use Rattle.aig_cycle.specs.Short.{lengths, bounded, IsShort, Bounds, IsWithin, AreShort}
use Rattle.aig_cycle.proofs.Shorter.{lengths-set}

both-parts : (p : Name → Bool) (xs ys : List Name) → list_all p (xs ++ ys) ≡ true → (list_all p xs ≡ true) × (list_all p ys ≡ true)
both-parts p [] ys h = (refl, h)
both-parts p (x ∷ xs) ys h =
    let hs = and_parts (p x) (list_all p (xs ++ ys)) h in
    let more = both-parts p xs ys hs.1 in
    (rw (hs.0, more.0) refl, more.1)

-- ---- masks and scales

mask-fits : (w : ℕ) → mask_of w < 2 ^ w
mask-fits w = let some = pow_pos (min 64 w) in let le : min 64 w ≤ w = omega arith in let up = pow_mono le in omega (arith, some, up)

mask-more : (b w : ℕ) → b ≤ w → w ≤ 64 → 2 ^ b ≤ mask_of w + 1
mask-more b w le small = let some = pow_pos (min 64 w) in let own : b ≤ min 64 w = omega (arith, le, small) in let up = pow_mono own in omega (arith, some, up)

module _ (all : List Line) (s : Name → ℕ) (places : ArePlaces all s) (most : AreNarrow (widths all)) where
  abbrev pub W : Widths
  W = widths all

  -- a net is as wide as it is declared
  abbrev pub X : Bounds
  X = record { known = is_kind is_net all; place = s; most = W.net }

  -- ---- sizes of an expression

  abbrev mutual
    Sized : Expr → Type 0
    Sized (net n) = is_kind is_net all n ≡ true
    Sized (number k) = k.value < 2 ^ k.width
    Sized (bit n i) = Unit {0}
    Sized (part n h l) = Unit {0}
    Sized (word n e) = ⊥
    Sized (not e) = Sized e × (width_of W e ≤ 64)
    Sized (two op a b) = ⊥
    Sized (choose c a b) = ⊥
    Sized (cat es) = AllSized es

    AllSized : Exprs → Type 0
    AllSized no_parts = Unit {0}
    AllSized (parts e es) = Sized e × (width_of W e ≤ 64) × AllSized es

  mutual
    sized : (d : ℕ) (e : Expr) → plain_expr d e ≡ true → agrees W e ≡ true → list_all (is_kind is_net all) (nets_of e) ≡ true → is_wiring e ≡ true → Sized e
    sized d (net n) p a k q = (and_parts (is_kind is_net all n) true k).0
    sized d (number c) p a k q = ltb-true c.value (2 ^ c.width) (and_parts (nat_lt 0 c.width && nat_le c.width 64) (nat_lt c.value (2 ^ c.width)) (and_parts (nat_lt 0 d) (plain_const c) p).1).1
    sized d (bit n i) p a k q = tt
    sized d (part n h l) p a k q = tt
    sized d (word n e) p a k q = absurd (false≢true q)
    sized d (not e) p a k q = let inner = (and_parts (nat_lt 0 d) (plain_expr (d - 1) e) p).1 in (sized (d - 1) e inner a k q, narrow W most (d - 1) e inner a)
    sized d (two op x y) p a k q = absurd (false≢true q)
    sized d (choose c x y) p a k q = absurd (false≢true q)
    sized d (cat no_parts) p a k q = tt
    sized d (cat (parts x xs)) p a k q =
        let ps = and_parts (nat_lt 0 d && plain_expr (d - 1) x) (plain_exprs (d - 1) xs) p in
        let qs = and_parts (nat_lt 0 d) (plain_expr (d - 1) x) ps.0 in
        let both : plain_exprs (d - 1) (parts x xs) ≡ true = rw (qs.1, ps.1) refl in
        let h1 = and_parts (all_agree W (parts x xs)) (nat_le (widths_of W (parts x xs)) 64) a in
        all-sized (d - 1) (parts x xs) both h1.0 k q

    all-sized : (d : ℕ) (es : Exprs) → plain_exprs d es ≡ true → all_agree W es ≡ true → list_all (is_kind is_net all) (parts_nets es) ≡ true → are_wiring es ≡ true → AllSized es
    all-sized d no_parts p a k q = tt
    all-sized d (parts x xs) p a k q =
        let ps = and_parts (plain_expr d x) (plain_exprs d xs) p in
        let hs = and_parts (agrees W x) (all_agree W xs) a in
        let ks = both-parts (is_kind is_net all) (nets_of x) (parts_nets xs) k in
        let qs = and_parts (is_wiring x) (are_wiring xs) q in
        (sized d x ps.0 hs.0 ks.0 qs.0, narrow W most d x ps.0 hs.0, all-sized d xs ps.1 hs.1 ks.1 qs.1)

  -- ---- bounds that stay

  abbrev Same : ℕ → (ℕ → ℕ) → (ℕ → ℕ) → Type 0
  Same free b c = (j : ℕ) → j < free → c j ≡ b j

  within-same : (free : ℕ) (b c : ℕ → ℕ) → length all ≤ free → Same free b c → IsWithin X b → IsWithin X c
  within-same free b c le same w n k =
      let at = low all s places n k in
      subst (λ z. z ≤ W.net n) (sym (same (s n) (omega (arith, at, le)))) (w n k)

  -- steps that write a word no longer than k at a place, and otherwise only from `free` on
  abbrev Writes : List Step → ℕ → ℕ → ℕ → Type 0
  Writes ss to free k = (rest : List Step) (b : ℕ → ℕ) → IsWithin X b → ((c : ℕ → ℕ) → ((j : ℕ) → j < free → j ≢ to → c j ≡ b j) → c to ≤ k → AreShort X rest c) → AreShort X (ss ++ rest) b

  one : (to free : ℕ) (a : Action) (k : ℕ) → ((b : ℕ → ℕ) → IsWithin X b → IsShort b a k) → Writes (step to a ∷ []) to free k
  one to free a k short rest b w next =
      (k, (short b w, next (bounded to k b) (λ j h other. placed-other to k b j other) (subst (λ z. z ≤ k) (sym (placed-here to k b)) (omega arith))))

  abbrev Fetches : Expr → ℕ → Type 0
  Fetches e free = (rest : List Step) (b : ℕ → ℕ) → IsWithin X b → ((c : ℕ → ℕ) → Same free b c → c (fetched s free e) ≤ width_of W e → AreShort X rest c) → AreShort X (fetch e (steps_of s W free (free + 1) e) ++ rest) b

  own : (ss : List Step) (free k : ℕ) → Writes ss free (free + 1) k → (rest : List Step) (b : ℕ → ℕ) → IsWithin X b → ((c : ℕ → ℕ) → Same free b c → c free ≤ k → AreShort X rest c) → AreShort X (ss ++ rest) b
  own ss free k g rest b w next = g rest b w (λ c keep top. next c (λ j h. keep j (omega (arith, h)) (λ same. absurd (omega (arith, h, same)))) top)

  fetches : (e : Expr) (free : ℕ) → Sized e → Writes (steps_of s W free (free + 1) e) free (free + 1) (width_of W e) → Fetches e free
  fetches (net n) free z g = λ rest b w next. next b (λ j h. refl) (w n z)
  fetches (number k) free z g = own (steps_of s W free (free + 1) (number k)) free k.width g
  fetches (bit n i) free z g = own (steps_of s W free (free + 1) (bit n i)) free 1 g
  fetches (part n h l) free z g = own (steps_of s W free (free + 1) (part n h l)) free (h - l + 1) g
  fetches (word n e) free z g = absurd z
  fetches (not e) free z g = own (steps_of s W free (free + 1) (not e)) free (width_of W e) g
  fetches (two op x y) free z g = absurd z
  fetches (choose c x y) free z g = absurd z
  fetches (cat es) free z g = own (steps_of s W free (free + 1) (cat es)) free (widths_of W es) g

  regroup : (xs : List Step) (x : Step) (rest : List Step) (b : ℕ → ℕ) → AreShort X (xs ++ (x ∷ rest)) b → AreShort X ((xs ++ x ∷ []) ++ rest) b
  regroup xs x rest b h = subst (λ z. AreShort X z b) (sym (append_assoc xs (x ∷ []) rest)) h

  not-writes : (e : Expr) (to free : ℕ) → Sized (not e) → Writes (steps_of s W free (free + 1) e) free (free + 1) (width_of W e) → Writes (steps_of s W to free (not e)) to free (width_of W e)
  not-writes e to free z g rest b w next =
      let xs : List Step = fetch e (steps_of s W free (free + 1) e) in
      let a : Action = Not (fetched s free e) (mask_of (width_of W e)) in
      let k : ℕ = width_of W e in
      regroup xs (step to a) rest b
      (fetches e free z.0 g (step to a ∷ rest) b w
      (λ c same top. (
        k,
        (
          (mask-fits k, mask-more (c (fetched s free e)) k top z.1),
          next (bounded to k c) (λ j h other. placed-other to k c j other ∙ same j h) (subst (λ y. y ≤ k) (sym (placed-here to k c)) (omega arith)),
        ),
      )))

  -- parts are put behind those so far, which stand at a place and are no longer than i
  abbrev InRow : Exprs → ℕ → Type 0
  InRow es at = (i : ℕ) (rest : List Step) (b : ℕ → ℕ) → IsWithin X b → b at ≤ i → ((c : ℕ → ℕ) → Same at b c → c at ≤ i + widths_of W es → AreShort X rest c) → AreShort X (parts_steps s W at es ++ rest) b

  cat-writes : (es : Exprs) (to free : ℕ) → length all ≤ free → InRow es free → Writes (steps_of s W to free (cat es)) to free (widths_of W es)
  cat-writes es to free le g rest b w next =
      let xs : List Step = parts_steps s W free es in
      let k : ℕ = widths_of W es in
      let start : ℕ → ℕ = bounded free 0 b in
      let same0 : Same free b start = λ j h. placed-other free 0 b j (λ e. absurd (omega (arith, h, e))) in
      regroup ((step free (Number 0) ∷ []) ++ xs) (step to (Copy free)) rest b (
        0,
        (
          omega arith,
          g 0 (step to (Copy free) ∷ rest) start (within-same free b start le same0 w) (subst (λ y. y ≤ 0) (sym (placed-here free 0 b)) (omega arith))
              (λ c same top. (
                k,
                (
                  omega (arith, top),
                  next (bounded to k c) (λ j h other. placed-other to k c j other ∙ same j h ∙ same0 j h) (subst (λ y. y ≤ k) (sym (placed-here to k c)) (omega arith)),
                ),
              )),
        ),
      )

  mutual
    writes : (e : Expr) (to free : ℕ) → length all ≤ free → Sized e → Writes (steps_of s W to free e) to free (width_of W e)
    writes (net n) to free le z = one to free (Copy (s n)) (W.net n) (λ b w. w n z)
    writes (number k) to free le z = one to free (Number k.value) k.width (λ b w. z)
    writes (bit n i) to free le z = one to free (Bits (s n) i 1) 1 (λ b w. omega arith)
    writes (part n h l) to free le z = one to free (Bits (s n) l (mask_of (h - l + 1))) (h - l + 1) (λ b w. mask-fits (h - l + 1))
    writes (word n e) to free le z = absurd z
    writes (two op x y) to free le z = absurd z
    writes (choose c x y) to free le z = absurd z
    writes (not e) to free le z = not-writes e to free z (writes e free (free + 1) (omega (arith, le)) z.0)
    writes (cat es) to free le z = cat-writes es to free le (in-row es free le z)

    in-row : (es : Exprs) (at : ℕ) → length all ≤ at → AllSized es → InRow es at
    in-row no_parts at le z i rest b w so next = next b (λ j h. refl) (omega (arith, so))
    in-row (parts e es) at le z i rest b w so next =
        let xs : List Step = fetch e (steps_of s W (at + 1) (at + 1 + 1) e) in
        let more : List Step = parts_steps s W at es in
        let a : Action = Join at (scale_of (width_of W e)) (fetched s (at + 1) e) in
        let k : ℕ = width_of W e in
        subst (λ y. AreShort X y b) (sym (append_assoc (xs ++ step at a ∷ []) more rest))
        (regroup xs (step at a) (more ++ rest) b
        (fetches e (at + 1) z.0 (writes e (at + 1) (at + 1 + 1) (omega (arith, le)) z.0) (step at a ∷ (more ++ rest)) b w
        (λ c same top. (
        let here : c at ≡ b at = same at (omega arith) in
        let small = z.1 in
        let after : ℕ → ℕ = bounded at (k + i) c in
        let kept : Same at b after = λ j h. placed-other at (k + i) c j (λ e. absurd (omega (arith, h, e))) ∙ same j (omega (arith, h)) in (
          k + i,
          (
            record { width = k; narrow = small; is = scale-is k small; fits = top; most = omega (arith, here, so) },
            in-row es at le z.2 (k + i) rest after (within-same at b after le kept w) (subst (λ y. y ≤ k + i) (sym (placed-here at (k + i) c)) (omega arith))
                (λ d same-d top-d. next d (λ j h. same-d j h ∙ kept j h) (omega (arith, top-d))),
          ),
        )))))
      where
        scale-is : (k : ℕ) → k ≤ 64 → scale_of k ≡ 2 ^ k % 2 ^ 64
        scale-is k small = let e : min 64 k ≡ k = omega (arith, small) in ap (λ j. 2 ^ j % 2 ^ 64) e

  -- ---- items

  abbrev pub AreFree : List Item → Type 0
  AreFree is = list_all needs_no_gate is ≡ true

  -- a word of a net is written
  within-put : (n : Name) → is_kind is_net all n ≡ true → (b c : ℕ → ℕ) → ((j : ℕ) → j < length all → j ≢ s n → c j ≡ b j) → c (s n) ≤ W.net n → IsWithin X b → IsWithin X c
  within-put n there b c keep top w m k = go (bytes_eq m n) refl
    where
      go : (t : Bool) → bytes_eq m n ≡ t → c (s m) ≤ W.net m
      go true same = subst (λ z. c (s z) ≤ W.net z) (sym (one-name m n same)) top
      go false other = subst (λ z. z ≤ W.net m) (sym (keep (s m) (low all s places m k) (apart all s places n m there k other))) (w m k)

  abbrev pub zeros : Values
  zeros = record { net = λ n. 0; word = λ n i. 0 }

  size : (e : Expr) → Ruled all e → plain_expr limit e ≡ true → agrees W e ≡ true → is_wiring e ≡ true → Sized e
  size e r p a k = sized limit e p a (ruled-nets all s places most (λ i j. 0) e r) k

  settles : (is : List Item) → AllByRecursion (ItemRuled all) is → AllByRecursion (Tight W) is → AreFree is → (rest : List Step) (b : ℕ → ℕ) → IsWithin X b
      → ((c : ℕ → ℕ) → IsWithin X c → AreShort X rest c) → AreShort X (assign_steps s W (length all) is ++ rest) b
  settles [] r t k rest b w next = next b w
  settles (wire h n ∷ is) r t k rest b w next = settles is r.1 t.1 k rest b w next
  settles (reg h n ∷ is) r t k rest b w next = settles is r.1 t.1 k rest b w next
  settles (mem h n last ∷ is) r t k rest b w next = absurd (false≢true k)
  settles (clocked n c e ∷ is) r t k rest b w next = settles is r.1 t.1 (and_parts (is_wiring e) (list_all needs_no_gate is) k).1 rest b w next
  settles (store c n i e ∷ is) r t k rest b w next = absurd (false≢true k)
  settles (assign n e ∷ is) r t k rest b w next =
      let ks = and_parts (is_wiring e) (list_all needs_no_gate is) k in
      let more : List Step = assign_steps s W (length all) is in
      subst (λ z. AreShort X z b) (sym (append_assoc (steps_of s W (s n) (length all) e) more rest))
      (writes e (s n) (length all) (omega arith) (size e r.0.1 t.0.0 t.0.1 ks.0) (more ++ rest) b w
      (λ c keep top. settles is r.1 t.1 ks.1 rest c (within-put n (driven-is-net all n r.0.0) b c keep (subst (λ z. c (s n) ≤ z) t.0.2 top) w) next))

  -- what registers take stands at the places from `free` on, and is no longer than they are wide
  abbrev Ready : ℕ → List Item → (ℕ → ℕ) → Type 0
  Ready free [] b = Unit {0}
  Ready free (clocked n k e ∷ is) b = (b free ≤ W.net n) × Ready (free + 1) is b
  Ready free (store c n i e ∷ is) b = ⊥
  Ready free (wire h n ∷ is) b = Ready free is b
  Ready free (reg h n ∷ is) b = Ready free is b
  Ready free (mem h n last ∷ is) b = Ready free is b
  Ready free (assign n e ∷ is) b = Ready free is b

  readies : (is : List Item) (free : ℕ) → length all ≤ free → AllByRecursion (ItemRuled all) is → AllByRecursion (Moves W zeros) is → AreFree is → (rest : List Step) (b : ℕ → ℕ) → IsWithin X b
      → ((c : ℕ → ℕ) → Same free b c → Ready free is c → AreShort X rest c) → AreShort X (next_steps s W free is ++ rest) b
  readies [] free le r t k rest b w next = next b (λ j h. refl) tt
  readies (wire h n ∷ is) free le r t k rest b w next = readies is free le r.1 t.1 k rest b w next
  readies (reg h n ∷ is) free le r t k rest b w next = readies is free le r.1 t.1 k rest b w next
  readies (mem h n last ∷ is) free le r t k rest b w next = absurd (false≢true k)
  readies (assign n e ∷ is) free le r t k rest b w next = readies is free le r.1 t.1 (and_parts (is_wiring e) (list_all needs_no_gate is) k).1 rest b w next
  readies (store c n i e ∷ is) free le r t k rest b w next = absurd (false≢true k)
  readies (clocked n q e ∷ is) free le r t k rest b w next =
      let ks = and_parts (is_wiring e) (list_all needs_no_gate is) k in
      let more : List Step = next_steps s W (free + 1) is in
      subst (λ z. AreShort X z b) (sym (append_assoc (steps_of s W free (free + 1) e) more rest))
      (own (steps_of s W free (free + 1) e) free (width_of W e) (writes e free (free + 1) (omega (arith, le)) (size e r.0.1 t.0.0 t.0.1 ks.0)) (more ++ rest) b w
      (λ c keep top. readies is (free + 1) (omega (arith, le)) r.1 t.1 ks.1 rest c (within-same free b c le keep w)
      (λ d same ready. next d (λ j h. same j (omega (arith, h)) ∙ keep j h)
      (subst (λ z. z ≤ W.net n) (sym (same free (omega arith))) (subst (λ z. c free ≤ z) t.0.2 top), ready))))

  stays-ready : (is : List Item) (free : ℕ) (b c : ℕ → ℕ) → ((j : ℕ) → free ≤ j → c j ≡ b j) → Ready free is b → Ready free is c
  stays-ready [] free b c f r = tt
  stays-ready (wire h n ∷ is) free b c f r = stays-ready is free b c f r
  stays-ready (reg h n ∷ is) free b c f r = stays-ready is free b c f r
  stays-ready (mem h n last ∷ is) free b c f r = stays-ready is free b c f r
  stays-ready (assign n e ∷ is) free b c f r = stays-ready is free b c f r
  stays-ready (store q n i e ∷ is) free b c f r = absurd r
  stays-ready (clocked n k e ∷ is) free b c f r =
      (subst (λ z. z ≤ W.net n) (sym (f free (omega arith))) r.0, stays-ready is (free + 1) b c (λ j h. f j (omega (arith, h))) r.1)

  moves : (is : List Item) (free : ℕ) → length all ≤ free → AllByRecursion (ItemRuled all) is → (b : ℕ → ℕ) → IsWithin X b → Ready free is b → AreShort X (move_steps s free is) b
  moves [] free le r b w ready = w
  moves (wire h n ∷ is) free le r b w ready = moves is free le r.1 b w ready
  moves (reg h n ∷ is) free le r b w ready = moves is free le r.1 b w ready
  moves (mem h n last ∷ is) free le r b w ready = moves is free le r.1 b w ready
  moves (assign n e ∷ is) free le r b w ready = moves is free le r.1 b w ready
  moves (store c n i e ∷ is) free le r b w ready = absurd ready
  moves (clocked n k e ∷ is) free le r b w ready =
      let there = register-is-net all n r.0.0 in
      let at = low all s places n there in
      let width : ℕ = W.net n in
      let c : ℕ → ℕ = bounded (s n) width b in (
        width,
        (
          ready.0,
          moves is (free + 1) (omega (arith, le)) r.1 c
              (within-put n there b c (λ j h other. placed-other (s n) width b j other) (subst (λ z. z ≤ width) (sym (placed-here (s n) width b)) (omega arith)) w)
              (stays-ready is (free + 1) b c (λ j h. placed-other (s n) width b j (λ same. absurd (omega (arith, h, same, at, le)))) ready.1),
        ),
      )

  pub settle-short : (is : List Item) → AllByRecursion (ItemRuled all) is → AllByRecursion (Tight W) is → AreFree is → (b : ℕ → ℕ) → IsWithin X b → AreShort X (assign_steps s W (length all) is) b
  settle-short is r t k b w = subst (λ z. AreShort X z b) (append-nil (assign_steps s W (length all) is)) (settles is r t k [] b w (λ c v. v))

  pub edge-short : (is : List Item) → AllByRecursion (ItemRuled all) is → AllByRecursion (Tight W) is → AllByRecursion (Moves W zeros) is → AreFree is → (b : ℕ → ℕ) → IsWithin X b
      → AreShort X (assign_steps s W (length all) is ++ (next_steps s W (length all) is ++ move_steps s (length all) is)) b
  edge-short is r t m k b w =
      settles is r t k (next_steps s W (length all) is ++ move_steps s (length all) is) b w
      (λ c v. readies is (length all) (omega arith) r m k (move_steps s (length all) is) c v
      (λ d same ready. moves is (length all) (omega arith) r d (within-same (length all) c d (omega arith) same v) ready))

  pub no-stores : (is : List Item) (free : ℕ) → AreFree is → stores_of s free is ≡ []
  no-stores [] free k = refl
  no-stores (wire h n ∷ is) free k = no-stores is free k
  no-stores (reg h n ∷ is) free k = no-stores is free k
  no-stores (mem h n last ∷ is) free k = absurd (false≢true k)
  no-stores (assign n e ∷ is) free k = no-stores is free (and_parts (is_wiring e) (list_all needs_no_gate is) k).1
  no-stores (clocked n c e ∷ is) free k = no-stores is (free + 1) (and_parts (is_wiring e) (list_all needs_no_gate is) k).1
  no-stores (store c n i e ∷ is) free k = absurd (false≢true k)

  -- a word is written at a net
  pub within-set : (ws : List (List ℕ)) (n : Name) (w : List ℕ) → is_kind is_net all n ≡ true → length w ≤ W.net n → IsWithin X (lengths ws) → IsWithin X (lengths (set ws (s n) w))
  within-set ws n w there le a m k = go (bytes_eq m n) refl
    where
      write : (j : ℕ) → lengths (set ws (s n) w) j ≤ bounded (s n) (W.net n) (lengths ws) j
      write = lengths-set ws (s n) w (W.net n) le

      go : (t : Bool) → bytes_eq m n ≡ t → lengths (set ws (s n) w) (s m) ≤ W.net m
      go true same = subst (λ z. lengths (set ws (s n) w) (s z) ≤ W.net z) (sym (one-name m n same)) (subst (λ z. lengths (set ws (s n) w) (s n) ≤ z) (placed-here (s n) (W.net n) (lengths ws)) (write (s n)))
      go false other =
          let b = write (s m) in
          let old : bounded (s n) (W.net n) (lengths ws) (s m) ≡ lengths ws (s m) = placed-other (s n) (W.net n) (lengths ws) (s m) (apart all s places n m there k other) in
          let before = a m k in
          omega (arith, b, old, before)

-- ---- links

net-there : (all : List Line) (n : Name) (h : ℕ) → h + 1 ≡ (widths all).net n → is_kind is_net all n ≡ true
net-there all n h e = go (lookup all n) e
  where
    go : (o : Option Declared) → h + 1 ≡ net_bits o → kind_passes is_net o ≡ true
    go None q = absurd (omega (arith, q))
    go (Some x) q = pick (is_net x.kind) q
      where
        pick : (b : Bool) → h + 1 ≡ (if b then x.high + 1 else 0) → b ≡ true
        pick true p = refl
        pick false p = absurd (omega (arith, p))

port-width : (l : Leaf) (n : Name) (p : Port) → port_named l.ports n ≡ Some p → (widths (leaf_lines l)).net n ≡ p.high + 1
port-width l n p named = ap net_bits (leaf-port l n p named) ∙ go p.output
  where
    go : (b : Bool) → (if is_net (way_of b) then p.high + 1 else 0) ≡ p.high + 1
    go true = refl
    go false = refl

module _ (top : List Line) (t : Name → ℕ) (top-places : ArePlaces top t) (top-most : AreNarrow (widths top)) (l : Leaf) (s : Name → ℕ) (places : ArePlaces (leaf_lines l) s) (most : AreNarrow (widths (leaf_lines l))) where
  abbrev T : Bounds
  T = X top t top-places top-most

  abbrev L : Bounds
  L = X (leaf_lines l) s places most

  pub feeds-short : (tops nets : List (List ℕ)) (js : List tree_join.Join) → AllByRecursion (GoodJoin top l) js → IsWithin T (lengths tops) → IsWithin L (lengths nets) → IsWithin L (lengths (linked_words tops (feeds_of l s t js) nets))
  feeds-short tops nets [] g a b = b
  feeds-short tops nets (j ∷ js) g a b = go (is_input_port (port_named l.ports j.port)) (feeds-short tops nets js g.1 a b)
    where
      go : (q : Bool) → IsWithin L (lengths (linked_words tops (feeds_of l s t js) nets)) → IsWithin L (lengths (linked_words tops ((if q then record { from = t j.net; to = s j.port } ∷ [] else []) ++ feeds_of l s t js) nets))
      go false later = later
      go true later =
          let width = port-width l j.port g.0.port g.0.named in
          let wide = g.0.wide in
          let from = a j.net (net-there top j.net g.0.port.high wide) in
          within-set (leaf_lines l) s places most (linked_words tops (feeds_of l s t js) nets) j.port (get_or tops (t j.net) []) (net-there (leaf_lines l) j.port g.0.port.high (sym width)) (omega (arith, from, wide, width)) later

  pub outs-short : (nets tops : List (List ℕ)) (js : List tree_join.Join) → AllByRecursion (GoodJoin top l) js → IsWithin L (lengths nets) → IsWithin T (lengths tops) → IsWithin T (lengths (linked_words nets (outs_of l s t js) tops))
  outs-short nets tops [] g a b = b
  outs-short nets tops (j ∷ js) g a b = go (is_output_port (port_named l.ports j.port)) (outs-short nets tops js g.1 a b)
    where
      go : (q : Bool) → IsWithin T (lengths (linked_words nets (outs_of l s t js) tops)) → IsWithin T (lengths (linked_words nets ((if q then record { from = s j.port; to = t j.net } ∷ [] else []) ++ outs_of l s t js) tops))
      go false later = later
      go true later =
          let width = port-width l j.port g.0.port g.0.named in
          let wide = g.0.wide in
          let from = a j.port (net-there (leaf_lines l) j.port g.0.port.high (sym width)) in
          within-set top t top-places top-most (linked_words nets (outs_of l s t js) tops) j.net (get_or nets (s j.port) []) (net-there top j.net g.0.port.high wide) (omega (arith, from, wide, width)) later
