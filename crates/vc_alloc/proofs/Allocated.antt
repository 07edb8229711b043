-- What the outputs give is what the definition gives.
use Rattle.std.proofs.Common.{◌≡◌, ◌≢◌, ℕ, zero, suc, ◌<◌, ◌≤◌, Bool, true, false, List, length, Option, Some, None, refl, sym, ap, ◌∙◌, subst, arith, ⊎_elim}
use Rattle.std.specs.Prelude.{is_some, option_map, option_and_then, if◌then◌else◌, nat_lt, ◌==◌, ◌&&◌, ◌||◌}
use Rattle.std.proofs.lemmas.Bool.{cases_eq, cases_lt}
use Rattle.std.proofs.lemmas.List.{get_or_past}
use Rattle.std.proofs.lemmas.Bool.Decides.{nat_tests}
use Rattle.noc_model.specs.declared.Stage.{Stage}
use Rattle.noc_model.specs.declared.Stage.TheVariants.{Idle, Routed, Active}
use Rattle.noc_model.specs.Plan.{Plan, ports, link_channels, in_channels}
use Rattle.noc_model.specs.Inputs.{input_count, input_port, input_channel}
use Rattle.noc_model.specs.Tile.{Tile}
use Rattle.noc_model.specs.Step.{winner, taken_channel, is_place, is_candidate, waits_for, activated, after}
use Rattle.noc_model.proofs.Least.{pick-member}
use Rattle.vc_partition.specs.Lanes.{lane}
use Rattle.vc_alloc.specs.declared.Winner.{Winner}
use Rattle.vc_alloc.specs.Allocator.{Allocator, link_channels_at, holder_at, held_at, pointer_at, best_at}
use Rattle.vc_alloc.specs.Chosen.{winner_with, free_at}
use Rattle.vc_alloc.specs.Shown.{stage_at, GoesBelow, IsFor, Shows}
use Rattle.vc_alloc.specs.Commits.{OnlyLane, OnlyDomain, held_after, pointer_after, stage_after, stage_below, allocated, HaveCommitted, HasAllocated}
use Rattle.vc_alloc.proofs.Chosen.{winner-place, winner-free}
use Rattle.vc_alloc.proofs.Wanted.{and-both}
use Rattle.vc_alloc.proofs.Commits.{below-done}

-- ---- one output

pointer-is : (b : Option Winner) (k : ℕ) → pointer_after b k ≡ after (option_map (λ (w : Winner). w.place) b) k
pointer-is None k = refl
pointer-is (Some b) k = refl

holder-is : (free : ℕ → Option ℕ) (found : Option ℕ) (c : ℕ) (h : Option ℕ)
    → held_after (winner_with free found) c h ≡ (if is_place (option_and_then free found) c then found else h)
holder-is free None c h = refl
holder-is free (Some k) c h = go (free k)
  where
    go : (f : Option ℕ)
        → held_after (option_map (λ to. let w : Winner = record { place = k; to = to } in w) f) c h ≡ (if is_place f c then Some k else h)
    go None = refl
    go (Some to) = refl

taken-is : (p : Plan) (d n o : ℕ) (s : Tile)
    → option_and_then (free_at p d n s o) (winner p d n s o) ≡ taken_channel p d n s o
unfolding taken_channel
taken-is p d n o s = refl

some-held : (free : ℕ → Option ℕ) (found : Option ℕ) (c : ℕ) (h : Option ℕ) (held : Bool) → is_some h ≡ held
    → is_some (if is_place (option_and_then free found) c then found else h) ≡ (held || is_place (option_and_then free found) c)
some-held free None c h held e = e ∙ sym (or-false held)
  where
    or-false : (a : Bool) → (a || false) ≡ a
    or-false true = refl
    or-false false = refl
some-held free (Some k) c h held e = go (is_place (free k) c)
  where
    go : (b : Bool) → is_some (if b then Some k else h) ≡ (held || b)
    go true = or-true held
      where
        or-true : (a : Bool) → true ≡ (a || true)
        or-true true = refl
        or-true false = refl
    go false = e ∙ or-false held
      where
        or-false : (a : Bool) → a ≡ (a || false)
        or-false true = refl
        or-false false = refl

-- ---- the stages

-- where no output below m picks the input, its next stage stays
stage-quiet : (m : ℕ) (x : Allocator) (k : ℕ) (next : Stage)
    → ((o : ℕ) → o < m → (n : Stage) → stage_after o (best_at x o) k n ≡ n) → stage_below m x k next ≡ next
stage-quiet zero x k next not = refl
stage-quiet (suc m) x k next not =
    not m (let e : m < suc m = omega arith in e) (stage_below m x k next)
    ∙ stage-quiet m x k next (λ o less n. not o (let e : o < suc m = omega (arith, less) in e) n)

-- where one output alone may pick it, that output alone counts
stage-one : (m : ℕ) (x : Allocator) (k q : ℕ) (next : Stage) → q < m
    → ((o : ℕ) → o < m → o ≢ q → (n : Stage) → stage_after o (best_at x o) k n ≡ n)
    → stage_below m x k next ≡ stage_after q (best_at x q) k next
stage-one zero x k q next there not = absurd (omega (arith, there))
stage-one (suc m) x k q next there not = ⊎_elim
    (λ (e : m ≡ q).
    let quiet : stage_below m x k next ≡ next = stage-quiet m x k next
    (λ o less n. not o (let a : o < suc m = omega (arith, less) in a) (let a : o ≢ q = omega (arith, less, e) in a) n) in
    ap (stage_after m (best_at x m) k) quiet ∙ ap (λ j. stage_after j (best_at x j) k next) e)
    (λ (apart : m ≢ q).
    not m (let a : m < suc m = omega arith in a) apart (stage_below m x k next)
    ∙ stage-one m x k q next (omega (arith, there, apart)) (λ o less other n. not o (let a : o < suc m = omega (arith, less) in a) other n))
    (cases_eq m q)

module _ (p : Plan) (d n : ℕ) (s : Tile) where
  -- the winner of an output waits for it
  winner-waits : (o k : ℕ) → winner p d n s o ≡ Some k
      → (k < input_count p d) × (waits_for (s.stage (input_port p d k) (input_channel p d k)) o ≡ true)
  unfolding winner
  winner-waits o k e =
      let member = pick-member (input_count p d) (is_candidate p d n s o) (s.allocation o) k e in
      let rest = (and-both (nat_lt (input_channel p d k) (in_channels p d (input_port p d k))) (waits_for (s.stage (input_port p d k) (input_channel p d k)) o && is_some (free_at p d n s o k)) member.1).1 in (
        member.0,
        (and-both (waits_for (s.stage (input_port p d k) (input_channel p d k)) o) (is_some (free_at p d n s o k)) rest).0,
      )

  abbrev best : ℕ → Option Winner
  best o = winner_with (free_at p d n s o) (winner p d n s o)

  -- an output that the input doesn't wait for doesn't pick it
  not-picked : (o k : ℕ) (st : Stage) → st ≡ s.stage (input_port p d k) (input_channel p d k) → waits_for st o ≡ false
      → (next : Stage) → stage_after o (best o) k next ≡ next
  not-picked o k st is none next = go (winner p d n s o) refl
    where
      other : (j : ℕ) (f : Option ℕ) → k ≢ j
          → stage_after o (option_map (λ to. let w : Winner = record { place = j; to = to } in w) f) k next ≡ next
      other j None apart = refl
      other j (Some to) apart = let no : (j == k) ≡ false = grind (arith, nat_tests) in ap (λ b. if b then Active o to else next) no

      go : (c : Option ℕ) → winner p d n s o ≡ c → stage_after o (winner_with (free_at p d n s o) c) k next ≡ next
      go None e = refl
      go (Some j) e = ⊎_elim
          (λ (same : k ≡ j). absurd (let waits = (winner-waits o j e).1 in
          let bad : false ≡ true = sym none ∙ ap (λ t. waits_for t o) is ∙ ap (λ i. waits_for (s.stage (input_port p d i) (input_channel p d i)) o) same ∙ waits in cc bad))
          (λ (apart : k ≢ j). other j (free_at p d n s o j) apart)
          (cases_eq k j)

  -- the output that it waits for
  picked : (o k : ℕ) (next : Stage)
      → stage_after o (best o) k next ≡ (if is_place (winner p d n s o) k then activated true o (taken_channel p d n s o) else next)
  picked o k next =
      go (winner p d n s o) refl
      ∙ ap (λ t. if is_place (winner p d n s o) k then activated true o t else next) (taken-is p d n o s)
    where
      with_free : (j : ℕ) (f : Option ℕ) → is_some f ≡ true
          → stage_after o (option_map (λ to. let w : Winner = record { place = j; to = to } in w) f) k next ≡ (if j == k then activated true o f else next)
      with_free j None some = absurd (cc some)
      with_free j (Some to) some = refl

      go : (c : Option ℕ) → winner p d n s o ≡ c
          → stage_after o (winner_with (free_at p d n s o) c) k next ≡ (if is_place c k then activated true o (option_and_then (free_at p d n s o) c) else next)
      go None e = refl
      go (Some j) e = with_free j (free_at p d n s o j) (winner-free p d n o s j e)

  stage-is : (x : Allocator) (m k : ℕ) (st next : Stage) → ports p ≤ m → ((o : ℕ) → o < m → best_at x o ≡ best o)
      → st ≡ s.stage (input_port p d k) (input_channel p d k)
      → ((o : ℕ) → st ≡ Routed o → o < m) → stage_below m x k next ≡ allocated p d n s k st next
  stage-is x m k Idle next all bests is routed =
      stage-quiet m x k next (λ o less v. ap (λ b. stage_after o b k v) (bests o less) ∙ not-picked o k Idle is refl v)
  stage-is x m k (Active q w) next all bests is routed =
      stage-quiet m x k next (λ o less v. ap (λ b. stage_after o b k v) (bests o less) ∙ not-picked o k (Active q w) is refl v)
  stage-is x m k (Routed q) next all bests is routed =
      let there = routed q refl in
      stage-one m x k q next there
      (λ o less apart v.
      let no : waits_for (Routed q) o ≡ false = grind (arith, nat_tests) in
      ap (λ b. stage_after o b k v) (bests o less) ∙ not-picked o k (Routed q) is no v)
      ∙ ap (λ b. stage_after q b k next) (bests q there) ∙ picked q k next

-- ---- the step of a domain

-- what shows the tile shows it, whatever is wanted
still-shows : (x y : Allocator) (stages : List (List Stage)) (p : Plan) (d : ℕ) (s : Tile)
    → y ≡ record x { best = y.best } → Shows x stages p d s → Shows y stages p d s
still-shows x y stages p d s rest shows = record {
  held = λ o w there below. ap (λ (v : Allocator). held_at v d o w) rest ∙ shows.held o w there below;
  pointers = λ o there. ap (λ (v : Allocator). pointer_at v d o) rest ∙ shows.pointers o there;
  inputs = shows.inputs;
}

module _ (x x0 x1 y : Allocator) (stages u v : List (List Stage)) (p : Plan) (d : ℕ) (made : IsFor x p d) (forgot : x0 ≡ record x { best = x0.best }) (outputs0 : length x0.best ≡ length x.best)
    (knows : x1 ≡ record x0 { best = x1.best }) (outputs1 : length x1.best ≡ length x0.best)
    (bests : (s : Tile) (o : ℕ) → Shows x0 stages p d s → o < ports p → best_at x1 o ≡ winner_with (free_at p d x0.tile s o) (winner p d x0.tile s o))
    (outs : (k : ℕ) → GoesBelow (ports p) (stage_at stages d k)) (places : length (lane u d) ≡ input_count p d)
    (have : HaveCommitted x1 y u v d (length x1.best)) where
  outputs : length x1.best ≡ ports p
  outputs = outputs1 ∙ outputs0 ∙ made.port_count

  best-is : (s : Tile) → Shows x stages p d s → (o : ℕ) → o < ports p
      → best_at x1 o ≡ winner_with (free_at p d x.tile s o) (winner p d x.tile s o)
  best-is s shows o there =
      bests s o (still-shows x x0 stages p d s forgot shows) there
      ∙ ap (λ n. winner_with (free_at p d n s o) (winner p d n s o)) (ap (λ (w : Allocator). w.tile) forgot)

  -- all but what is wanted stays
  same-held : (o c : ℕ) → holder_at x1 d o c ≡ holder_at x d o c
  same-held o c = ap (λ (w : Allocator). holder_at w d o c) knows ∙ ap (λ (w : Allocator). holder_at w d o c) forgot

  same-pointer : (o : ℕ) → pointer_at x1 d o ≡ pointer_at x d o
  same-pointer o = ap (λ (w : Allocator). pointer_at w d o) knows ∙ ap (λ (w : Allocator). pointer_at w d o) forgot

  same-channels : link_channels_at x1 d ≡ link_channels p d
  same-channels =
      ap (λ (w : Allocator). link_channels_at w d) knows ∙ ap (λ (w : Allocator). link_channels_at w d) forgot
      ∙ made.link

  there-too : (o : ℕ) → o < ports p → o < length x1.best
  there-too o there = let e = outputs in omega (arith, e, there)

  goes : (st : Stage) (q : ℕ) → GoesBelow (ports p) st → st ≡ Routed q → q < ports p
  goes st q below is = let P : Stage → Type 0 = GoesBelow (ports p) in subst P is below

  pub active-is : (s : Tile) → Shows x stages p d s → (k : ℕ) → k < input_count p d
      → stage_at v d k ≡ allocated p d x.tile s k (stage_at stages d k) (stage_at u d k)
  active-is s shows k below =
      have.active k (omega (arith, places, below))
      ∙ stage-is p d x.tile s x1 (length x1.best) k (stage_at stages d k) (stage_at u d k) (let e = outputs in omega (arith, e))
      (λ o less. best-is s shows o (let e = outputs in omega (arith, e, less))) (shows.inputs k below)
      (λ q is. there-too q (goes (stage_at stages d k) q (outs k) is))

  pub holders-are : (s : Tile) → Shows x stages p d s → (o c : ℕ) → o < ports p → c < link_channels p d
      → holder_at y d o c ≡ (if is_place (taken_channel p d x.tile s o) c then winner p d x.tile s o else holder_at x d o c)
  holders-are s shows o c there below =
      let inside = there-too o there in
      have.held o c inside (let e = same-channels in omega (arith, e, below))
      ∙ below-done o (length x1.best) (held_after (best_at x1 o) c (holder_at x1 d o c)) (holder_at x1 d o c) inside
      ∙ ap (λ b. held_after b c (holder_at x1 d o c)) (best-is s shows o there)
      ∙ holder-is (free_at p d x.tile s o) (winner p d x.tile s o) c (holder_at x1 d o c)
      ∙ ap (λ t. if is_place t c then winner p d x.tile s o else holder_at x1 d o c) (taken-is p d x.tile o s)
      ∙ ap (λ h. if is_place (taken_channel p d x.tile s o) c then winner p d x.tile s o else h) (same-held o c)

  pub has-allocated : HasAllocated x y stages u v p d
  has-allocated = record {
    active = active-is;
    holders = holders-are;
    held = λ s shows o c there below.
        ap is_some (holders-are s shows o c there below)
        ∙ ap (λ t. is_some (if is_place t c then winner p d x.tile s o else holder_at x d o c)) (sym (taken-is p d x.tile o s))
        ∙ some-held (free_at p d x.tile s o) (winner p d x.tile s o) c (holder_at x d o c) (s.held o c) (shows.held o c there below)
        ∙ ap (λ t. s.held o c || is_place t c) (taken-is p d x.tile o s);
    pointers = λ s shows o there.
        let inside = there-too o there in
        have.moved o inside
        ∙ below-done o (length x1.best) (pointer_after (best_at x1 o) (pointer_at x1 d o)) (pointer_at x1 d o) inside
        ∙ ap (λ b. pointer_after b (pointer_at x1 d o)) (best-is s shows o there)
        ∙ pointer-is (winner_with (free_at p d x.tile s o) (winner p d x.tile s o)) (pointer_at x1 d o)
        ∙ ap (λ w. after w (pointer_at x1 d o)) (winner-place p d x.tile o s)
        ∙ ap (after (winner p d x.tile s o)) (same-pointer o ∙ shows.pointers o there);
  }

  pub nothing-wanted : (k : ℕ) → best_at y k ≡ None
  nothing-wanted k = have.best k ∙ ⊎_elim
      (λ (less : k < length x1.best). below-done k (length x1.best) None (best_at x1 k) less)
      (λ (past : length x1.best ≤ k).
      let no : nat_lt k (length x1.best) ≡ false = grind (arith, nat_tests) in
      ap (λ b. if b then None else best_at x1 k) no ∙ get_or_past x1.best k None past)
      (cases_lt k (length x1.best))

  pub only-domain : OnlyDomain x y d
  only-domain =
      let with_new : Allocator → Allocator =
      λ w. record w { holders = y.holders; pointers = y.pointers; best = y.best } in
      let same : x1 ≡ record x { best = x1.best } =
      knows ∙ ap (λ (w : Allocator). let z : Allocator = record w { best = x1.best } in z) forgot in
      record {
        rest = have.only.rest ∙ ap with_new same;
        outputs = have.only.outputs ∙ outputs1 ∙ outputs0;
        holders = let P : List (List (Option ℕ)) → Type 0 = λ l. OnlyLane l y.holders d in subst P (ap (λ (w : Allocator). w.holders) same) have.only.holders;
        pointers = let P : List (List ℕ) → Type 0 = λ l. OnlyLane l y.pointers d in subst P (ap (λ (w : Allocator). w.pointers) same) have.only.pointers;
      }
