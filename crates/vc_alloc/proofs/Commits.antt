-- What the outputs give, one after the other.
use Rattle.std.proofs.Common.{◌≡◌, ◌≢◌, ◌⊎◌, inl, inr, ℕ, suc, ◌+◌, ◌*◌, ◌/◌, ◌%◌, ◌<◌, true, false, List, [], length, Some, None, refl, sym, ap, ◌∙◌, subst, arith, mul_comm, length-set, get_or-set_same, get_or-set_other, ⊎_elim}
use Rattle.std.specs.Prelude.{if◌then◌else◌, nat_lt, ◌==◌, slice_set}
use Rattle.std.proofs.lemmas.Bool.{cases_eq}
use Rattle.std.proofs.lemmas.Bool.Decides.{nat_tests}
use Rattle.std.proofs.lemmas.Nat.{div-mul-add, mod-mul-add, mul-add-lt}
use Rattle.noc_model.specs.declared.Stage.{Stage}
use Rattle.noc_model.specs.declared.Stage.TheVariants.{Idle, Active}
use Rattle.vc_partition.specs.Lanes.{lane}
use Rattle.vc_partition.proofs.Cuts.{lane-written, lane-other, lanes-other}
use Rattle.vc_alloc.specs.declared.Winner.{Winner}
use Rattle.vc_alloc.specs.Allocator.{Allocator, IsAllocator, link_channels_at, spot, holder_at, pointer_at, best_at, with_best, taken, committed, AreOf}
use Rattle.vc_alloc.specs.Shown.{stage_at}
use Rattle.vc_alloc.specs.Commits.{OnlyLane, held_after, pointer_after, stage_after, holder_below, pointer_below, stage_below, HaveCommitted}

-- ---- lanes

pub lane-start : {T : Type 0} (u : List (List T)) (d : ℕ) → OnlyLane u u d
lane-start u d = record { others = λ e apart. refl; places = refl; domains = refl }

pub lane-then : {T : Type 0} (u v w : List (List T)) (d : ℕ) → OnlyLane u v d → OnlyLane v w d → OnlyLane u w d
lane-then u v w d a b =
    record { others = λ e apart. b.others e apart ∙ a.others e apart; places = b.places ∙ a.places; domains = b.domains ∙ a.domains }

pub lane-set : {T : Type 0} (u : List (List T)) (d k : ℕ) (x : T) → d < length u
    → OnlyLane u (slice_set u d (slice_set (lane u d) k x)) d
lane-set u d k x there = record {
  others = λ e apart. lanes-other u d e k x apart;
  places = ap length (get_or-set_same u d (slice_set (lane u d) k x) [] there) ∙ length-set (lane u d) k x;
  domains = length-set u d (slice_set (lane u d) k x);
}

-- ---- one output more

-- two values of which one stands below o, and the other from o on
below-zero : {A : Type 0} (k : ℕ) (x y : A) → (if nat_lt k 0 then x else y) ≡ y
below-zero k x y = let no : nat_lt k 0 ≡ false = grind (arith, nat_tests) in ap (λ b. if b then x else y) no

below-own : {A : Type 0} (o : ℕ) (x y : A) → (if nat_lt o o then x else y) ≡ y
below-own o x y = let no : nat_lt o o ≡ false = grind (arith, nat_tests) in ap (λ b. if b then x else y) no

pub below-done : {A : Type 0} (k o : ℕ) (x y : A) → k < o → (if nat_lt k o then x else y) ≡ x
below-done k o x y less = let yes : nat_lt k o ≡ true = grind (arith, nat_tests) in ap (λ b. if b then x else y) yes

below-other : {A : Type 0} (k o : ℕ) (x y : A) → k ≢ o
    → (if nat_lt k (o + 1) then x else y) ≡ (if nat_lt k o then x else y)
below-other k o x y apart = let same : nat_lt k (o + 1) ≡ nat_lt k o = grind (arith, nat_tests) in ap (λ b. if b then x else y) same

stage-next : (o : ℕ) (x : Allocator) (k : ℕ) (next : Stage)
    → stage_below (o + 1) x k next ≡ stage_after o (best_at x o) k (stage_below o x k next)
stage-next o x k next = let e : o + 1 ≡ suc o = omega arith in ap (λ j. stage_below j x k next) e

pub have-start : (x : Allocator) (u : List (List Stage)) (d : ℕ) → AreOf x d → HaveCommitted x x u u d 0
have-start x u d same = record {
  only = record { rest = refl; outputs = refl; holders = lane-start x.holders d; pointers = lane-start x.pointers d };
  same = same;
  best = λ k. sym (below-zero k None (best_at x k));
  held = λ k w there inside. sym (below-zero k (held_after (best_at x k) w (holder_at x d k w)) (holder_at x d k w));
  moved = λ k there. sym (below-zero k (pointer_after (best_at x k) (pointer_at x d k)) (pointer_at x d k));
  active = λ k there. refl;
  stages = lane-start u d;
}

module _ (x y : Allocator) (u w : List (List Stage)) (d o : ℕ) (there : o < length x.best) (have : HaveCommitted x y u w d o) where
  pub best-now : best_at y o ≡ best_at x o
  best-now = have.best o ∙ below-own o None (best_at x o)

  channels-now : link_channels_at y d ≡ link_channels_at x d
  channels-now = ap (λ (v : Allocator). link_channels_at v d) have.only.rest

  nothing : best_at x o ≡ None → HaveCommitted x y u w d (o + 1)
  nothing none = record {
    only = have.only;
    same = have.same;
    best = λ k. have.best k ∙ ⊎_elim
        (λ (e : k ≡ o).
        let B : ℕ → Type 0 =
        λ j. (if nat_lt j o then None else best_at x j) ≡ (if nat_lt j (o + 1) then None else best_at x j) in
        subst B (sym e) (below-own o None (best_at x o) ∙ none ∙ sym (below-done o (o + 1) None (best_at x o) (omega arith))))
        (λ (apart : k ≢ o). sym (below-other k o None (best_at x k) apart))
        (cases_eq k o);
    held = λ k c inside below. have.held k c inside below ∙ ⊎_elim
        (λ (e : k ≡ o).
        let B : ℕ → Type 0 = λ j. holder_below o x d j c ≡ holder_below (o + 1) x d j c in
        subst B (sym e)
        (below-own o (held_after (best_at x o) c (holder_at x d o c)) (holder_at x d o c)
        ∙ sym (ap (λ b. held_after b c (holder_at x d o c)) none)
        ∙ sym (below-done o (o + 1) (held_after (best_at x o) c (holder_at x d o c)) (holder_at x d o c) (omega arith))))
        (λ (apart : k ≢ o). sym (below-other k o (held_after (best_at x k) c (holder_at x d k c)) (holder_at x d k c) apart))
        (cases_eq k o);
    moved = λ k inside. have.moved k inside ∙ ⊎_elim
        (λ (e : k ≡ o).
        let B : ℕ → Type 0 = λ j. pointer_below o x d j ≡ pointer_below (o + 1) x d j in
        subst B (sym e)
        (below-own o (pointer_after (best_at x o) (pointer_at x d o)) (pointer_at x d o)
        ∙ sym (ap (λ b. pointer_after b (pointer_at x d o)) none)
        ∙ sym (below-done o (o + 1) (pointer_after (best_at x o) (pointer_at x d o)) (pointer_at x d o) (omega arith))))
        (λ (apart : k ≢ o). sym (below-other k o (pointer_after (best_at x k) (pointer_at x d k)) (pointer_at x d k) apart))
        (cases_eq k o);
    active = λ k inside. have.active k inside ∙ sym (stage-next o x k (stage_at u d k) ∙ ap (λ b. stage_after o b k (stage_below o x k (stage_at u d k))) none);
    stages = have.stages;
  }

  pub have-none : (z : Allocator) → best_at y o ≡ None → z ≡ committed y d o (best_at y o)
      → HaveCommitted x z u w d (o + 1)
  have-none z none made =
      let P : Allocator → Type 0 = λ v. HaveCommitted x v u w d (o + 1) in
      subst P (sym (made ∙ ap (committed y d o) none)) (nothing (sym best-now ∙ none))

  module _ (whole : IsAllocator x) (domain : d < length x.channels) (next_there : d < length u) (places : length (lane u d) ≡ length x.best * link_channels_at x d) (b : Winner) (some : best_at y o ≡ Some b) where
    was : best_at x o ≡ Some b
    was = sym best-now ∙ some

    of : (b.place < length y.best * link_channels_at y d) × (b.to < link_channels_at y d)
    of = have.same o b some

    channel : b.to < link_channels_at x d
    channel = let e = channels-now in let c = of.1 in omega (arith, e, c)

    place_there : b.place < length x.best * link_channels_at x d
    place_there =
        let P : ℕ → Type 0 = λ n. b.place < length x.best * n in
        let Q : ℕ → Type 0 = λ n. b.place < n * link_channels_at y d in
        subst P channels-now (subst Q have.only.outputs of.0)

    holders_there : d < length y.holders
    holders_there = let a = have.only.holders.domains in let e = whole.holders in omega (arith, a, e, domain)

    pointers_there : d < length y.pointers
    pointers_there = let a = have.only.pointers.domains in let e = whole.pointers in omega (arith, a, e, domain)

    pointer_there : o < length (lane y.pointers d)
    pointer_there = let a = have.only.pointers.places in let e = whole.outputs d domain in omega (arith, a, e, there)

    spots : (k c : ℕ) → k < length x.best → c < link_channels_at x d → spot y d k c < length (lane y.holders d)
    spots k c inside below =
        let most : k * link_channels_at x d + c < link_channels_at x d * length x.best =
        mul-add-lt k (link_channels_at x d) c (length x.best) inside below in
        let turn = mul_comm (length x.best) (link_channels_at x d) in
        let a = have.only.holders.places in
        let e = whole.spots d domain in
        let P : ℕ → Type 0 = λ n. k * n + c < length (lane y.holders d) in
        subst P (sym channels-now) (omega (arith, a, e, most, turn))

    stages_there : d < length w
    stages_there = let a = have.stages.domains in omega (arith, a, next_there)

    stage_there : b.place < length (lane w d)
    stage_there = let a = have.stages.places in let e = place_there in omega (arith, a, places, e)

    abbrev next : Allocator
    next = taken (with_best y o None) d o b

    abbrev put : List (List Stage)
    put = slice_set w d (slice_set (lane w d) b.place (Active o b.to))

    best-next : (k : ℕ) → best_at next k ≡ (if nat_lt k (o + 1) then None else best_at x k)
    best-next k = ⊎_elim
        (λ (e : k ≡ o).
        let B : ℕ → Type 0 = λ j. best_at next j ≡ (if nat_lt j (o + 1) then None else best_at x j) in
        subst B (sym e) (get_or-set_same y.best o None None (let a = have.only.outputs in omega (arith, a, there)) ∙ sym (below-done o (o + 1) None (best_at x o) (omega arith))))
        (λ (apart : k ≢ o). get_or-set_other y.best o k None None apart ∙ have.best k ∙ sym (below-other k o None (best_at x k) apart))
        (cases_eq k o)

    spot-apart : (k c : ℕ) → c < link_channels_at x d → spot y d k c ≡ spot y d o b.to → (k ≡ o) × (c ≡ b.to)
    spot-apart k c below e =
        let low : c < link_channels_at y d = let a = channels-now in omega (arith, a, below) in (
          sym (div-mul-add k (link_channels_at y d) c low) ∙ ap (λ n. n / link_channels_at y d) e
              ∙ div-mul-add o (link_channels_at y d) b.to of.1,
          sym (mod-mul-add k (link_channels_at y d) c low) ∙ ap (λ n. n % link_channels_at y d) e
              ∙ mod-mul-add o (link_channels_at y d) b.to of.1,
        )

    held-next : (k c : ℕ) → k < length x.best → c < link_channels_at x d
        → holder_at next d k c ≡ holder_below (o + 1) x d k c
    held-next k c inside below = ⊎_elim
        (λ (e : k ≡ o).
        let B : ℕ → Type 0 = λ j. holder_at next d j c ≡ holder_below (o + 1) x d j c in
        subst B (sym e)
        (own (cases_eq c b.to) ∙ sym (ap (λ a. held_after a c (holder_at x d o c)) was)
        ∙ sym (below-done o (o + 1) (held_after (best_at x o) c (holder_at x d o c)) (holder_at x d o c) (omega arith))))
        (λ (apart : k ≢ o).
        lane-other y.holders d (spot y d o b.to) (spot y d k c) (Some b.place) None holders_there (λ e. apart (spot-apart k c below e).0)
        ∙ have.held k c inside below ∙ sym (below-other k o (held_after (best_at x k) c (holder_at x d k c)) (holder_at x d k c) apart))
        (cases_eq k o)
      where
        own : (c ≡ b.to) ⊎ (c ≢ b.to) → holder_at next d o c ≡ (if b.to == c then Some b.place else holder_at x d o c)
        own (inl e) =
            let yes : (b.to == c) ≡ true = grind (arith, nat_tests) in
            ap (holder_at next d o) e
            ∙ lane-written y.holders d (spot y d o b.to) (Some b.place) None holders_there (spots o b.to there channel)
            ∙ sym (ap (λ t. if t then Some b.place else holder_at x d o c) yes)
        own (inr apart) =
            let no : (b.to == c) ≡ false = grind (arith, nat_tests) in
            lane-other y.holders d (spot y d o b.to) (spot y d o c) (Some b.place) None holders_there (λ e. apart (spot-apart o c below e).1)
            ∙ have.held o c there below
            ∙ below-own o (held_after (best_at x o) c (holder_at x d o c)) (holder_at x d o c)
            ∙ sym (ap (λ t. if t then Some b.place else holder_at x d o c) no)

    moved-next : (k : ℕ) → k < length x.best → pointer_at next d k ≡ pointer_below (o + 1) x d k
    moved-next k inside = ⊎_elim
        (λ (e : k ≡ o).
        let B : ℕ → Type 0 = λ j. pointer_at next d j ≡ pointer_below (o + 1) x d j in
        subst B (sym e)
        (lane-written y.pointers d o (b.place + 1) 0 pointers_there pointer_there ∙ sym (ap (λ a. pointer_after a (pointer_at x d o)) was)
        ∙ sym (below-done o (o + 1) (pointer_after (best_at x o) (pointer_at x d o)) (pointer_at x d o) (omega arith))))
        (λ (apart : k ≢ o). lane-other y.pointers d o k (b.place + 1) 0 pointers_there apart ∙ have.moved k inside
        ∙ sym (below-other k o (pointer_after (best_at x k) (pointer_at x d k)) (pointer_at x d k) apart))
        (cases_eq k o)

    active-next : (k : ℕ) → k < length (lane u d) → stage_at put d k ≡ stage_below (o + 1) x k (stage_at u d k)
    active-next k inside =
        here (cases_eq k b.place) ∙ sym (ap (λ a. stage_after o a k (stage_below o x k (stage_at u d k))) was)
        ∙ sym (stage-next o x k (stage_at u d k))
      where
        here : (k ≡ b.place) ⊎ (k ≢ b.place)
            → stage_at put d k ≡ (if b.place == k then Active o b.to else stage_below o x k (stage_at u d k))
        here (inl e) =
            let yes : (b.place == k) ≡ true = grind (arith, nat_tests) in
            ap (stage_at put d) e ∙ lane-written w d b.place (Active o b.to) Idle stages_there stage_there
            ∙ sym (ap (λ t. if t then Active o b.to else stage_below o x k (stage_at u d k)) yes)
        here (inr apart) =
            let no : (b.place == k) ≡ false = grind (arith, nat_tests) in
            lane-other w d b.place k (Active o b.to) Idle stages_there apart ∙ have.active k inside
            ∙ sym (ap (λ t. if t then Active o b.to else stage_below o x k (stage_at u d k)) no)

    something : AreOf next d → HaveCommitted x next u put d (o + 1)
    something same = record {
      only = record {
        rest = ap (λ (v : Allocator). let n : Allocator = record v { holders = next.holders; pointers = next.pointers; best = next.best } in n) have.only.rest;
        outputs = length-set y.best o None ∙ have.only.outputs;
        holders = lane-then x.holders y.holders next.holders d have.only.holders (lane-set y.holders d (spot y d o b.to) (Some b.place) holders_there);
        pointers = lane-then x.pointers y.pointers next.pointers d have.only.pointers (lane-set y.pointers d o (b.place + 1) pointers_there);
      };
      same = same;
      best = best-next;
      held = held-next;
      moved = moved-next;
      active = active-next;
      stages = lane-then u w put d have.stages (lane-set w d b.place (Active o b.to) stages_there);
    }

    pub have-some : (z : Allocator) (v : List (List Stage)) → z ≡ committed y d o (best_at y o) → AreOf z d
        → v ≡ slice_set w d (slice_set (lane w d) b.place (Active o b.to))
        → HaveCommitted x z u v d (o + 1)
    have-some z v made same put_is =
        let now : z ≡ next = made ∙ ap (committed y d o) some in
        let A : Allocator → Type 0 = λ a. AreOf a d in
        let P : Allocator → Type 0 = λ a. HaveCommitted x a u put d (o + 1) in
        let Q : List (List Stage) → Type 0 = λ l. HaveCommitted x z u l d (o + 1) in
        subst Q (sym put_is) (subst P (sym now) (something (subst A now same)))
