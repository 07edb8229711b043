-- The best input of an output is the choice from those that want it.
use Rattle.std.proofs.Common.{◌≡◌, ℕ, zero, suc, ◌*◌, ◌+◌, ◌<◌, ◌≤◌, Bool, true, false, Option, Some, None, refl, sym, ap, ◌∙◌, arith}
use Rattle.std.specs.Prelude.{is_some, option_map, option_and_then, not, ◌&&◌, nat_le, nat_lt, if◌then◌else◌}
use Rattle.noc_model.specs.Plan.{Plan, link_channels, channels, classes, in_channels, at_local}
use Rattle.noc_model.specs.Inputs.{input_count, input_port, input_channel, pack}
use Rattle.noc_model.specs.Pick.{pick, least, number_if}
use Rattle.noc_model.specs.Tile.{Tile}
use Rattle.noc_model.specs.Step.{free_channel, free_for, is_candidate, waits_for, winner, taken_channel}
use Rattle.noc_model.proofs.Least.{least-same, pick-member}
use Rattle.noc_model.proofs.Inputs.{pack-below}
use Rattle.vc_partition.specs.Picks.{comes_first, better, with_member}
use Rattle.vc_partition.proofs.Picks.{pick-insert}
use Rattle.vc_alloc.specs.declared.Winner.{Winner}
use Rattle.vc_alloc.specs.Allocator.{Allocator, channels_at, held_at, free_in, better_of, wanted}
use Rattle.vc_alloc.specs.Chosen.{winner_with, with_input, free_at, HaveFree, HoldsAs}

none-least : (n : ℕ) (f : ℕ → Bool) → ((k : ℕ) → f k ≡ false) → least n f ≡ None
none-least zero f none = refl
none-least (suc n) f none = rw (none-least n f none, none n) refl

and-none : (a : Bool) → (a && false) ≡ false
and-none true = refl
and-none false = refl

pub first-none : (n pointer : ℕ) (free : ℕ → Option ℕ) → winner_with free (pick n (λ k. false) pointer) ≡ None
unfolding pick
first-none n pointer free =
    let late : least n (λ k. nat_le pointer k && false) ≡ None =
    none-least n (λ k. nat_le pointer k && false) (λ k. and-none (nat_le pointer k)) in
    let all : least n (λ k. false) ≡ None = none-least n (λ k. false) (λ k. refl) in
    rw (late, all) refl

-- the better of two inputs is the one whose place is the better
step : (pointer m to : ℕ) (free : ℕ → Option ℕ) (o : Option ℕ) → free m ≡ Some to
    → ((k : ℕ) → o ≡ Some k → is_some (free k) ≡ true)
    → wanted pointer (winner_with free o) m (Some to) ≡ winner_with free (better pointer o m)
step pointer m to free None e have = sym (ap (option_map (λ t. let w : Winner = record { place = m; to = t } in w)) e)
step pointer m to free (Some k) e have = go (free k) refl (have k refl)
  where
    both : (t : Bool) (tk : ℕ) → free k ≡ Some tk
        → Some (let w : Winner = if t then (record { place = m; to = to }) else (record { place = k; to = tk }) in w) ≡ winner_with free (Some (if t then m else k))
    both true tk is = sym (ap (option_map (λ t. let w : Winner = record { place = m; to = t } in w)) e)
    both false tk is = sym (ap (option_map (λ t. let w : Winner = record { place = k; to = t } in w)) is)

    go : (f : Option ℕ) → free k ≡ f → is_some f ≡ true
        → wanted pointer (winner_with free (Some k)) m (Some to) ≡ winner_with free (better pointer (Some k) m)
    go None is some = absurd (cc some)
    go (Some tk) is some =
        ap (λ f. wanted pointer (option_map (λ t. let w : Winner = record { place = k; to = t } in w) f) m (Some to)) is ∙ both (comes_first pointer m k) tk is

pub one-more : (n pointer m : ℕ) (set : ℕ → Bool) (free : ℕ → Option ℕ) → m < n → HaveFree n set free
    → wanted pointer (winner_with free (pick n set pointer)) m (free m) ≡ winner_with free (pick n (with_input set free m) pointer)
one-more n pointer m set free below have = go (free m) refl
  where
    go : (f : Option ℕ) → free m ≡ f
        → wanted pointer (winner_with free (pick n set pointer)) m (free m) ≡ winner_with free (pick n (with_input set free m) pointer)
    go None is = ap (wanted pointer (winner_with free (pick n set pointer)) m) is
        ∙ sym (ap (λ f. winner_with free (pick n (if is_some f then with_member set m else set) pointer)) is)
    go (Some to) is =
        ap (wanted pointer (winner_with free (pick n set pointer)) m) is
        ∙ step pointer m to free (pick n set pointer) is (λ k e. let member = pick-member n set pointer k e in have k member.0 member.1)
        ∙ ap (winner_with free) (sym (pick-insert n set pointer m below))
        ∙ sym (ap (λ f. winner_with free (pick n (if is_some f then with_member set m else set) pointer)) is)

-- ---- the definition's winner

and-both : (a b : Bool) → (a && b) ≡ true → (a ≡ true) × (b ≡ true)
and-both true b e = (refl, e)
and-both false b e = absurd (cc e)

pub winner-free : (p : Plan) (d n o : ℕ) (s : Tile) (k : ℕ) → winner p d n s o ≡ Some k
    → is_some (free_at p d n s o k) ≡ true
unfolding winner
winner-free p d n o s k e =
    let member = pick-member (input_count p d) (is_candidate p d n s o) (s.allocation o) k e in
    let rest =
    and-both (nat_lt (input_channel p d k) (in_channels p d (input_port p d k))) (waits_for (s.stage (input_port p d k) (input_channel p d k)) o && is_some (free_at p d n s o k)) member.1 in
    (and-both (waits_for (s.stage (input_port p d k) (input_channel p d k)) o) (is_some (free_at p d n s o k)) rest.1).1

place-is : (free : ℕ → Option ℕ) (o : Option ℕ) → ((k : ℕ) → o ≡ Some k → is_some (free k) ≡ true)
    → option_map (λ (w : Winner). w.place) (winner_with free o) ≡ o
place-is free None have = refl
place-is free (Some k) have = go (free k) refl (have k refl)
  where
    go : (f : Option ℕ) → free k ≡ f → is_some f ≡ true
        → option_map (λ (w : Winner). w.place) (winner_with free (Some k)) ≡ Some k
    go None is some = absurd (cc some)
    go (Some to) is some = ap (λ f. option_map (λ (w : Winner). w.place) (option_map (λ t. let w : Winner = record { place = k; to = t } in w) f)) is

pub winner-place : (p : Plan) (d n o : ℕ) (s : Tile)
    → option_map (λ (w : Winner). w.place) (winner_with (free_at p d n s o) (winner p d n s o)) ≡ winner p d n s o
winner-place p d n o s = place-is (free_at p d n s o) (winner p d n s o) (winner-free p d n o s)

map-map : (k : ℕ) (f : Option ℕ)
    → option_map (λ (w : Winner). w.to) (option_map (λ t. let w : Winner = record { place = k; to = t } in w) f) ≡ f
map-map k None = refl
map-map k (Some t) = refl

channel-is : (free : ℕ → Option ℕ) (o : Option ℕ)
    → option_map (λ (w : Winner). w.to) (winner_with free o) ≡ option_and_then free o
channel-is free None = refl
channel-is free (Some k) = map-map k (free k)

pub winner-channel : (p : Plan) (d n o : ℕ) (s : Tile)
    → option_map (λ (w : Winner). w.to) (winner_with (free_at p d n s o) (winner p d n s o)) ≡ taken_channel p d n s o
unfolding taken_channel
winner-channel p d n o s = channel-is (free_at p d n s o) (winner p d n s o)

-- ---- free channels

local-below : (o c j : ℕ) → 1 ≤ c → j < at_local o 1 c → j < c
local-below zero c j some below = omega (arith, some, below)
local-below (suc o) c j some below = below

pub free-is : (p : Plan) (d o class : ℕ) (x : Allocator) (s : Tile) → class < classes p → 1 ≤ channels p d
    → HoldsAs x p d s o → free_in x d o class ≡ free_channel p d s o class
free-is p d o class x s low some holds =
    ap (λ c. option_map (λ j. class * c + j) (least (at_local o 1 c) (λ j. not (held_at x d o (class * c + j))))) holds.channels
    ∙ ap (option_map (pack p d class))
    (least-same (at_local o 1 (channels p d)) (λ j. not (held_at x d o (pack p d class j))) (λ j. not (s.held o (pack p d class j)))
    (λ j below. ap not (holds.held (pack p d class j) (pack-below p d class j low (local-below o (channels p d) j some below)))))
