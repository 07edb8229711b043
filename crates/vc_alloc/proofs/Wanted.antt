-- The best inputs after one input more was made known.
use Rattle.std.proofs.Common.{◌≡◌, ◌≢◌, ℕ, zero, suc, ◌+◌, ◌*◌, ◌<◌, ◌≤◌, Bool, true, false, List, [], ◌∷◌, length, set, get_or, Option, Some, None, refl, sym, ap, ◌∙◌, subst, arith, length-set, get_or-set_same, get_or-set_other, ⊎_elim}
use Rattle.std.specs.Prelude.{slice_get, is_some, ◌&&◌, ◌||◌, ◌==◌, nat_lt, if◌then◌else◌}
use Rattle.std.proofs.lemmas.Bool.Decides.{nat_tests, eqb_tells}
use Rattle.noc_model.specs.declared.Stage.{Stage}
use Rattle.noc_model.specs.declared.Stage.TheVariants.{Idle, Routed, Active}
use Rattle.noc_model.specs.Plan.{Plan, ports, link_channels, channels, classes, in_channels}
use Rattle.noc_model.specs.Inputs.{input_count, input_port, input_channel, unpack}
use Rattle.noc_model.specs.Pick.{pick}
use Rattle.noc_model.specs.Tile.{Tile}
use Rattle.noc_model.specs.Step.{class_of, free_for, is_candidate, waits_for, winner}
use Rattle.noc_model.proofs.Least.{pick-same}
use Rattle.noc_model.proofs.Inputs.{channel-below, class-below}
use Rattle.noc_model.proofs.Outputs.{class-few}
use Rattle.vc_partition.specs.Picks.{with_member}
use Rattle.vc_alloc.specs.declared.Winner.{Winner}
use Rattle.vc_alloc.specs.Allocator.{Allocator, link_channels_at, held_at, best_at, pointer_at, free_in, wanted, with_best, AreOf}
use Rattle.vc_alloc.specs.Chosen.{winner_with, with_input, free_at, HaveFree, HoldsAs}
use Rattle.vc_alloc.specs.Shown.{stage_at, GoesBelow, IsFor, Shows, wanted_by, wanted_at}
use Rattle.vc_alloc.specs.Progress.{KnowsBelow}
use Rattle.vc_alloc.proofs.Chosen.{one-more, free-is, first-none}

pub and-both : (a b : Bool) → (a && b) ≡ true → (a ≡ true) × (b ≡ true)
and-both true b e = (refl, e)
and-both false b e = absurd (cc e)

and-false : (a b : Bool) → b ≡ false → (a && b) ≡ false
and-false true b e = e
and-false false b e = refl

or-false : (a : Bool) → (a || false) ≡ a
or-false true = refl
or-false false = refl

module _ (p : Plan) (d : ℕ) (x : Allocator) (stages : List (List Stage)) (s : Tile) (made : IsFor x p d) (shows : Shows x stages p d s) (some : 1 ≤ channels p d) where
  abbrev many : ℕ
  many = input_count p d

  abbrev tile : ℕ
  tile = x.tile

  abbrev candidate : ℕ → ℕ → Bool
  candidate o k = is_candidate p d tile s o k

  abbrev sofar : ℕ → ℕ → ℕ → Bool
  sofar o i k = nat_lt k i && candidate o k

  abbrev best_sofar : ℕ → ℕ → Option Winner
  best_sofar o i = winner_with (free_at p d tile s o) (pick many (sofar o i) (s.allocation o))

  -- the input is no candidate: the set stays
  same-set : (o i : ℕ) → candidate o i ≡ false → (k : ℕ) → sofar o i k ≡ sofar o (i + 1) k
  same-set o i none k = ⊎_elim
      (λ w. let at : k ≡ i = w.1 in
      let here : candidate o k ≡ false = ap (candidate o) at ∙ none in
      and-false (nat_lt k i) (candidate o k) here ∙ sym (and-false (nat_lt k (i + 1)) (candidate o k) here))
      (λ w. let apart = w.1 in let e : nat_lt k i ≡ nat_lt k (i + 1) = grind (arith, nat_tests) in ap (λ b. b && candidate o k) e)
      (eqb_tells k i)

  same-best : (o i : ℕ) → candidate o i ≡ false → best_sofar o i ≡ best_sofar o (i + 1)
  same-best o i none =
      ap (winner_with (free_at p d tile s o)) (pick-same many (sofar o i) (sofar o (i + 1)) (s.allocation o) (s.allocation o) (λ k below. same-set o i none k) refl)

  stage-is : (i : ℕ) (st : Stage) → i < many → st ≡ stage_at stages d i
      → st ≡ s.stage (input_port p d i) (input_channel p d i)
  stage-is i st below e = e ∙ shows.inputs i below

  not-waiting : (o i : ℕ) (st : Stage) → i < many → st ≡ stage_at stages d i → waits_for st o ≡ false
      → candidate o i ≡ false
  not-waiting o i st below e none =
      let free : Bool = is_some (free_at p d tile s o i) in
      and-false (nat_lt (input_channel p d i) (in_channels p d (input_port p d i))) (waits_for (s.stage (input_port p d i) (input_channel p d i)) o && free)
      (ap (λ t. waits_for t o && free) (sym (stage-is i st below e)) ∙ ap (λ b. b && free) none)

  not-there : (o i : ℕ) → nat_lt (input_channel p d i) (in_channels p d (input_port p d i)) ≡ false
      → candidate o i ≡ false
  not-there o i none =
      ap (λ b. b && (waits_for (s.stage (input_port p d i) (input_channel p d i)) o && is_some (free_at p d tile s o i))) none

  have-free : (o i : ℕ) → HaveFree many (sofar o i) (free_at p d tile s o)
  have-free o i k below e =
      let c = (and-both (nat_lt k i) (candidate o k) e).1 in
      let rest =
      (and-both (nat_lt (input_channel p d k) (in_channels p d (input_port p d k))) (waits_for (s.stage (input_port p d k) (input_channel p d k)) o && is_some (free_at p d tile s o k)) c).1 in
      (and-both (waits_for (s.stage (input_port p d k) (input_channel p d k)) o) (is_some (free_at p d tile s o k)) rest).1

  -- an input that waits for the output and whose channel is there: the set has it too, if a channel is free for it
  more-set : (o i : ℕ) → candidate o i ≡ is_some (free_at p d tile s o i) → (k : ℕ)
      → with_input (sofar o i) (free_at p d tile s o) i k ≡ sofar o (i + 1) k
  more-set o i is k = go (is_some (free_at p d tile s o i)) refl
    where
      go : (b : Bool) → is_some (free_at p d tile s o i) ≡ b
          → with_input (sofar o i) (free_at p d tile s o) i k ≡ sofar o (i + 1) k
      go false e = ap (λ b. (if b then with_member (sofar o i) i else sofar o i) k) e ∙ same-set o i (is ∙ e) k
      go true e = ap (λ b. (if b then with_member (sofar o i) i else sofar o i) k) e
          ∙ ⊎_elim
          (λ w. let at : k ≡ i = w.1 in
          let here : candidate o k ≡ true = ap (candidate o) at ∙ is ∙ e in
          let less : nat_lt k (i + 1) ≡ true = grind (arith, nat_tests) in
          ap (λ b. sofar o i k || b) w.0 ∙ or-true (sofar o i k) ∙ sym (ap (λ b. b && candidate o k) less ∙ here))
          (λ w. let apart = w.1 in
          let same : nat_lt k i ≡ nat_lt k (i + 1) = grind (arith, nat_tests) in
          ap (λ b. sofar o i k || b) w.0 ∙ or-false (sofar o i k) ∙ ap (λ b. b && candidate o k) same)
          (eqb_tells k i)
        where
          or-true : (a : Bool) → (a || true) ≡ true
          or-true true = refl
          or-true false = refl

  holds : (o : ℕ) → o < ports p → HoldsAs x p d s o
  holds o there = record { channels = made.class; held = λ w below. shows.held o w there below }

  class-there : (i o : ℕ) → i < many → class_of p d tile (input_port p d i) (input_channel p d i) o < classes p
  class-there i o below =
      class-few p tile (input_port p d i) (unpack p d (input_channel p d i)).0 o (class-below p d (input_channel p d i) (channel-below p d i below))

  module _ (bs : List (Option Winner)) (i : ℕ) (below : i < many) (long : length bs ≡ ports p) (before : (o : ℕ) → o < ports p → get_or bs o None ≡ best_sofar o i) where
    abbrev cur : Allocator
    cur = record x { best = bs }

    routed-best : (out o : ℕ) → out < ports p → o < ports p → Routed out ≡ stage_at stages d i
        → nat_lt (input_channel p d i) (in_channels p d (input_port p d i)) ≡ true
        → best_at (with_best cur out (wanted (pointer_at cur d out) (best_at cur out) i (free_in cur d out (class_of p d tile (input_port p d i) (input_channel p d i) out)))) o ≡ best_sofar o (i + 1)
    routed-best out o there inside e present =
        let class : ℕ = class_of p d tile (input_port p d i) (input_channel p d i) out in
        let w : Option Winner = wanted (pointer_at cur d out) (best_at cur out) i (free_in cur d out class) in
        ⊎_elim
        (λ u. let same : o ≡ out = u.1 in
        let waits : waits_for (Routed out) out ≡ true = grind (arith, nat_tests) in
        let is : candidate out i ≡ is_some (free_at p d tile s out i) =
        ap (λ b. b && (waits_for (s.stage (input_port p d i) (input_channel p d i)) out && is_some (free_at p d tile s out i))) present
        ∙ ap (λ t. waits_for t out && is_some (free_at p d tile s out i)) (sym (stage-is i (Routed out) below e))
        ∙ ap (λ b. b && is_some (free_at p d tile s out i)) waits in
        ap (best_at (with_best cur out w)) same ∙ get_or-set_same bs out w None (omega (arith, there, long))
        ∙ ap (λ k. wanted k (best_at cur out) i (free_in cur d out class)) (shows.pointers out there)
        ∙ ap (λ b. wanted (s.allocation out) b i (free_in cur d out class)) (before out there)
        ∙ ap (wanted (s.allocation out) (best_sofar out i) i) (free-is p d out class x s (class-there i out below) some (holds out there))
        ∙ one-more many (s.allocation out) i (sofar out i) (free_at p d tile s out) below (have-free out i)
        ∙ ap (winner_with (free_at p d tile s out))
        (pick-same many (with_input (sofar out i) (free_at p d tile s out) i) (sofar out (i + 1)) (s.allocation out) (s.allocation out) (λ k less. more-set out i is k) refl)
        ∙ ap (λ k. best_sofar k (i + 1)) (sym same))
        (λ u. let apart = u.1 in
        let none : waits_for (Routed out) o ≡ false = grind (arith, nat_tests) in
        get_or-set_other bs out o w None apart ∙ before o inside ∙ same-best o i (not-waiting o i (Routed out) below e none))
        (eqb_tells o out)

    if-best : (b : Bool) (y z : Allocator) (o : ℕ)
        → best_at (if b then y else z) o ≡ (if b then best_at y o else best_at z o)
    if-best true y z o = refl
    if-best false y z o = refl

    pub step-best : (st : Stage) → st ≡ stage_at stages d i → GoesBelow (ports p) st → (o : ℕ) → o < ports p
        → best_at (wanted_at cur p d i st) o ≡ best_sofar o (i + 1)
    step-best Idle e goes o inside = before o inside ∙ same-best o i (not-waiting o i Idle below e refl)
    step-best (Active out w) e goes o inside =
        before o inside ∙ same-best o i (not-waiting o i (Active out w) below e refl)
    step-best (Routed out) e goes o inside = go (nat_lt (input_channel p d i) (in_channels p d (input_port p d i))) refl
      where
        go : (b : Bool) → nat_lt (input_channel p d i) (in_channels p d (input_port p d i)) ≡ b
            → best_at (wanted_by cur p d i out) o ≡ best_sofar o (i + 1)
        go true present = ap (λ b. best_at (if b then with_best cur out (wanted (pointer_at cur d out) (best_at cur out) i (free_in cur d out (class_of p d tile (input_port p d i) (input_channel p d i) out))) else cur) o) present
            ∙ routed-best out o goes inside e present
        go false absent = ap (λ b. best_at (if b then with_best cur out (wanted (pointer_at cur d out) (best_at cur out) i (free_in cur d out (class_of p d tile (input_port p d i) (input_channel p d i) out))) else cur) o) absent
            ∙ before o inside ∙ same-best o i (not-there o i absent)

-- ---- the loop over the inputs

pub get-some : {T : Type 0} (xs : List T) (i : ℕ) (r d : T) → slice_get xs i ≡ Some r → get_or xs i d ≡ r
get-some [] i r d e = absurd (cc e)
get-some (x ∷ xs) zero r d e = cc e
get-some (x ∷ xs) (suc i) r d e = get-some xs i r d e

pub some-class : (k c n : ℕ) → n ≡ k * c → 1 ≤ n → 1 ≤ c
some-class k zero n e some = absurd (let none : k * 0 ≡ 0 = omega arith in omega (arith, none, e, some))
some-class k (suc c) n e some = omega arith

wanted-rest : (x : Allocator) (bs : List (Option Winner)) (p : Plan) (d i : ℕ) (st : Stage)
    → wanted_at (record x { best = bs }) p d i st ≡ record x { best = (wanted_at (record x { best = bs }) p d i st).best }
wanted-rest x bs p d i Idle = refl
wanted-rest x bs p d i (Active o w) = refl
wanted-rest x bs p d i (Routed o) = go (nat_lt (input_channel p d i) (in_channels p d (input_port p d i))) _
  where
    go : (b : Bool) (w : Option Winner)
        → (if b then with_best (record x { best = bs }) o w else record x { best = bs }) ≡ record x { best = (if b then with_best (record x { best = bs }) o w else record x { best = bs }).best }
    go true w = refl
    go false w = refl

wanted-long : (y : Allocator) (p : Plan) (d i : ℕ) (st : Stage) → length (wanted_at y p d i st).best ≡ length y.best
wanted-long y p d i Idle = refl
wanted-long y p d i (Active o w) = refl
wanted-long y p d i (Routed o) = go (nat_lt (input_channel p d i) (in_channels p d (input_port p d i))) _
  where
    go : (b : Bool) (w : Option Winner) → length (if b then with_best y o w else y).best ≡ length y.best
    go true w = length-set y.best o w
    go false w = refl

pub knows-none : (x : Allocator) (p : Plan) (d : ℕ) (stages : List (List Stage)) → ((o : ℕ) → best_at x o ≡ None)
    → KnowsBelow 0 x x p d stages
knows-none x p d stages quiet = record {
  rest = refl;
  long = refl;
  same = λ o b e. absurd (let bad : None ≡ Some b = sym (quiet o) ∙ e in cc bad);
  best = λ s o shows there. quiet o
      ∙ sym (ap (winner_with (free_at p d x.tile s o)) (pick-same (input_count p d) (λ k. nat_lt k 0 && is_candidate p d x.tile s o k) (λ k. false) (s.allocation o) (s.allocation o)
      (λ k less. let e : nat_lt k 0 ≡ false = grind (arith, nat_tests) in ap (λ b. b && is_candidate p d x.tile s o k) e) refl)
      ∙ first-none (input_count p d) (s.allocation o) (free_at p d x.tile s o));
}

pub knows-more : (p : Plan) (d i : ℕ) (x y z : Allocator) (stages : List (List Stage)) (st : Stage) → IsFor x p d
    → 1 ≤ channels p d → i < input_count p d → KnowsBelow i x y p d stages
    → st ≡ stage_at stages d i → GoesBelow (ports p) st → z ≡ wanted_at y p d i st → AreOf z d
    → KnowsBelow (i + 1) x z p d stages
knows-more p d i x y z stages st made some below knows e goes is same =
    let cur : Allocator = record x { best = y.best } in
    let now : z ≡ wanted_at cur p d i st = is ∙ ap (λ w. wanted_at w p d i st) knows.rest in
    record {
      rest = now ∙ wanted-rest x y.best p d i st ∙ ap (λ b. let w : Allocator = record x { best = b } in w) (ap (λ (w : Allocator). w.best) (sym now));
      long = ap (λ (w : Allocator). length w.best) now ∙ wanted-long cur p d i st ∙ knows.long;
      same = same;
      best = λ s o shows there. ap (λ w. best_at w o) now
          ∙ step-best p d x stages s made shows some y.best i below (knows.long ∙ made.port_count) (λ k inside. knows.best s k shows inside) st e goes o there;
    }

pub knows-all : (p : Plan) (d i : ℕ) (x y : Allocator) (stages : List (List Stage)) → input_count p d ≤ i
    → KnowsBelow i x y p d stages → (s : Tile) (o : ℕ) → Shows x stages p d s → o < ports p
    → best_at y o ≡ winner_with (free_at p d x.tile s o) (winner p d x.tile s o)
unfolding winner
knows-all p d i x y stages past knows s o shows there =
    knows.best s o shows there
    ∙ ap (winner_with (free_at p d x.tile s o)) (pick-same (input_count p d) (λ k. nat_lt k i && is_candidate p d x.tile s o k) (is_candidate p d x.tile s o) (s.allocation o) (s.allocation o)
    (λ k less. let e : nat_lt k i ≡ true = grind (arith, nat_tests) in ap (λ b. b && is_candidate p d x.tile s o k) e) refl)
