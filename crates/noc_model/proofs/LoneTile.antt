-- What a tile does where at most one of its channels has a flit.
use Rattle.std.proofs.Common.{◌≡◌, ◌≢◌, ℕ, zero, suc, ◌<◌, Bool, true, false, Option, List, [], ◌∷◌, refl, sym, ap, ◌∙◌, arith, ◌==◌, ◌&&◌, ℤ}
use Rattle.std.specs.Prelude.{Some, None, not, is_some, nat_lt, nat_le, if◌then◌else◌, option_and_then, option_map}
use Rattle.std.specs.Option.{option_or}
use Rattle.std.proofs.lemmas.Bool.Decides.{nat_tests}
use Rattle.noc_model.specs.declared.Flit.{Flit}
use Rattle.noc_model.specs.declared.LinkFlit.{LinkFlit}
use Rattle.noc_model.specs.declared.Grant.{Grant}
use Rattle.noc_model.specs.declared.Stage.{Stage}
use Rattle.noc_model.specs.declared.Stage.TheVariants.{Idle, Routed, Active}
use Rattle.noc_model.specs.Plan.{Plan, channels, link_channels, in_channels, ports, at_local}
use Rattle.noc_model.specs.Inputs.{place, input_count, input_port, input_channel, pack}
use Rattle.noc_model.specs.Pick.{least, pick}
use Rattle.noc_model.specs.Tile.{Tile, TileIn}
use Rattle.noc_model.specs.Step.{waits_for, class_of, free_for, is_candidate, winner, is_place, taken_channel, activated, takes, is_ready_at, is_ready, grant_at, asked, asks_for, chosen, granted_to, grant, is_channel, leaves, front, with_channel, sent, next_stage}
use Rattle.noc_model.proofs.Least.{pick-member}
use Rattle.noc_model.proofs.Switch.{asked-ready, asks_for-out, grant-ready, sent-by}
use Rattle.noc_model.proofs.Inputs.{input-within, port-place, channel-place, place-input, place-below}
use Rattle.noc_model.proofs.Holders.{granted-leaves, granted-sent, winner-waits}
use Rattle.noc_model.proofs.HolderMap.{least-some}

-- ---- picks

pub pick-some : (n : ℕ) (set : ℕ → Bool) (pointer k : ℕ) → k < n → set k ≡ true
    → (j : ℕ) × (pick n set pointer ≡ Some j)
unfolding pick
pick-some n set pointer k below e = go (least n (λ j. nat_le pointer j && set j)) refl
  where
    go : (o : Option ℕ) → least n (λ j. nat_le pointer j && set j) ≡ o → (j : ℕ) × (option_or o (least n set) ≡ Some j)
    go None is = least-some n set k below e
    go (Some j) is = (j, refl)

-- a set with one member
pub pick-one : (n : ℕ) (set : ℕ → Bool) (pointer k : ℕ) → k < n → set k ≡ true
    → ((j : ℕ) → j < n → set j ≡ true → j ≡ k) → pick n set pointer ≡ Some k
pick-one n set pointer k below e one =
    let some = pick-some n set pointer k below e in
    let member = pick-member n set pointer some.0 some.1 in
    some.1 ∙ ap Some (one some.0 member.0 member.1)

pub same-nat : (a : ℕ) → (a == a) ≡ true
same-nat a = let e : a ≡ a = refl in grind (arith, nat_tests)

-- ---- nothing is sent

-- nothing is granted
abbrev pub IsStill : Plan → ℕ → ℕ → ℤ → Tile → TileIn → Type 0
IsStill p d n t s i = (port : ℕ) (g : Grant) → grant p d n t s i port ≡ Some g → ⊥

pub still-leaves : (p : Plan) (d n : ℕ) (t : ℤ) (s : Tile) (i : TileIn) (port c : ℕ) → IsStill p d n t s i
    → leaves p d n t s i port c ≡ false
unfolding leaves
still-leaves p d n t s i port c still = go (grant p d n t s i port) refl
  where
    go : (x : Option Grant) → grant p d n t s i port ≡ x → is_channel x c ≡ false
    go None e = refl
    go (Some g) e = absurd (still port g e)

pub still-sent : (p : Plan) (d n : ℕ) (t : ℤ) (s : Tile) (i : TileIn) (o : ℕ) → IsStill p d n t s i
    → sent p d n t s i o ≡ None
still-sent p d n t s i o still = go (sent p d n t s i o) refl
  where
    go : (x : Option LinkFlit) → sent p d n t s i o ≡ x → x ≡ None
    go None e = refl
    go (Some x) e = let by = sent-by p d n t s i o x e in absurd (still by.port by.by by.granted)

-- ---- one channel has a flit

-- a flit at the front of a list is in the list of channel c of the port
abbrev pub IsOnlyAt : Plan → ℕ → Tile → ℕ → ℕ → Type 0
IsOnlyAt p d s port c =
    (port' c' : ℕ) (f : Flit) → c' < in_channels p d port' → front (s.queue port' c') ≡ Some f → (port' ≡ port) × (c' ≡ c)

ready-front : (p : Plan) (d n : ℕ) (t : ℤ) (s : Tile) (i : TileIn) (fs : List Flit) (st : Stage)
    → is_ready_at p d n t s i fs st ≡ true
    → (f : Flit) × (front fs ≡ Some f)
ready-front p d n t s i fs Idle e = absurd (cc e)
ready-front p d n t s i fs (Routed o) e = absurd (cc e)
ready-front p d n t s i [] (Active o w) e = absurd (cc e)
ready-front p d n t s i (f ∷ fs) (Active o w) e = (f, refl)

-- the only flit, f, waits for a switch grant to output o on its channel w
pub record IsOnly (p : Plan) (d : ℕ) (s : Tile) (port c o w : ℕ) (f : Flit) : Type 0 where
  pub inside : port < ports p
  pub below : c < in_channels p d port
  pub only : IsOnlyAt p d s port c
  pub queue : s.queue port c ≡ f ∷ []
  pub stage : s.stage port c ≡ Active o w

abbrev pub grant_of : ℕ → ℕ → ℕ → Grant
grant_of c o w = record { channel = c; out = o; to = w }

asked-only : (p : Plan) (d n : ℕ) (t : ℤ) (s : Tile) (i : TileIn) (port c o w : ℕ) (f : Flit)
    → IsOnly p d s port c o w f → takes p d n t s i o w ≡ true
    → asked p d n t s i port ≡ Some (grant_of c o w)
unfolding asked
asked-only p d n t s i port c o w f is taken =
    let ready : is_ready p d n t s i port c ≡ true = rw (is.queue, is.stage) taken in
    let picked = pick-one (in_channels p d port) (is_ready p d n t s i port) (s.turn port) c is.below ready
    (λ j less e. (let at = ready-front p d n t s i (s.queue port j) (s.stage port j) e in (is.only port j at.0 less at.1).1)) in
    ap (option_and_then (λ k. grant_at k (s.stage port k))) picked ∙ ap (grant_at c) is.stage

chosen-only : (p : Plan) (d n : ℕ) (t : ℤ) (s : Tile) (i : TileIn) (port c o w : ℕ) (f : Flit)
    → IsOnly p d s port c o w f → takes p d n t s i o w ≡ true
    → chosen p d n t s i o ≡ Some port
unfolding chosen
chosen-only p d n t s i port c o w f is taken =
    pick-one (ports p) (λ k. asks_for (asked p d n t s i k) o) (s.switch o) port is.inside
    (ap (λ x. asks_for x o) (asked-only p d n t s i port c o w f is taken) ∙ same-nat o)
    (λ k less e. (let asks = asks_for-out (asked p d n t s i k) o e in
    let ready = asked-ready p d n t s i k asks.0 asks.1 in
    (is.only k asks.0.channel ready.flit ready.in_range ready.is_front).0))

pub grant-only : (p : Plan) (d n : ℕ) (t : ℤ) (s : Tile) (i : TileIn) (port c o w : ℕ) (f : Flit)
    → IsOnly p d s port c o w f → takes p d n t s i o w ≡ true
    → grant p d n t s i port ≡ Some (grant_of c o w)
unfolding grant
grant-only p d n t s i port c o w f is taken =
    ap (option_and_then (λ g. granted_to (chosen p d n t s i g.out) port g)) (asked-only p d n t s i port c o w f is taken)
    ∙ ap (λ k. granted_to k port (grant_of c o w)) (chosen-only p d n t s i port c o w f is taken)
    ∙ ap (λ b. if b then Some (grant_of c o w) else None) (same-nat port)

-- it is sent
pub sent-only : (p : Plan) (d n : ℕ) (t : ℤ) (s : Tile) (i : TileIn) (port c o w : ℕ) (f : Flit)
    → IsOnly p d s port c o w f → takes p d n t s i o w ≡ true
    → sent p d n t s i o ≡ Some (record { channel = w; flit = f })
sent-only p d n t s i port c o w f is taken =
    granted-sent p d n t s i port (grant_of c o w) (grant-only p d n t s i port c o w f is taken)
    ∙ ap (λ fs. with_channel w (front fs)) is.queue

pub leaves-only : (p : Plan) (d n : ℕ) (t : ℤ) (s : Tile) (i : TileIn) (port c o w : ℕ) (f : Flit)
    → IsOnly p d s port c o w f → takes p d n t s i o w ≡ true
    → leaves p d n t s i port c ≡ true
leaves-only p d n t s i port c o w f is taken =
    granted-leaves p d n t s i port (grant_of c o w) (grant-only p d n t s i port c o w f is taken)

-- and nothing else is
pub sent-other : (p : Plan) (d n : ℕ) (t : ℤ) (s : Tile) (i : TileIn) (port c o w o' : ℕ) (f : Flit)
    → IsOnly p d s port c o w f → o' ≢ o
    → sent p d n t s i o' ≡ None
sent-other p d n t s i port c o w o' f is differ = go (sent p d n t s i o') refl
  where
    go : (x : Option LinkFlit) → sent p d n t s i o' ≡ x → x ≡ None
    go None e = refl
    go (Some x) e =
        let by = sent-by p d n t s i o' x e in
        let ready = grant-ready p d n t s i by.port by.by by.granted in
        let at = is.only by.port by.by.channel ready.flit ready.in_range ready.is_front in
        let stage : Active by.by.out by.by.to ≡ Active o w =
        sym ready.active ∙ ap (λ k. s.stage k by.by.channel) at.0 ∙ ap (s.stage port) at.1 ∙ is.stage in
        let out : by.by.out ≡ o = cc (stage) in
        absurd (differ (sym by.out ∙ out))

-- it waits where the output takes nothing
pub still-only : (p : Plan) (d n : ℕ) (t : ℤ) (s : Tile) (i : TileIn) (port c o w : ℕ) (f : Flit)
    → IsOnly p d s port c o w f → takes p d n t s i o w ≡ false
    → IsStill p d n t s i
still-only p d n t s i port c o w f is taken port' g e =
    let ready = grant-ready p d n t s i port' g e in
    let at = is.only port' g.channel ready.flit ready.in_range ready.is_front in
    let stage : Active g.out g.to ≡ Active o w =
    sym ready.active ∙ ap (λ k. s.stage k g.channel) at.0 ∙ ap (s.stage port) at.1 ∙ is.stage in
    let out : g.out ≡ o = cc (stage) in
    let to : g.to ≡ w = cc (stage) in
    let has = ready.taken in
    cc (has, out, to, taken)

-- ---- one channel waits for an output

-- the only packet, without a channel at its output o, whose channels are free
pub record IsOnlyRouted (p : Plan) (d : ℕ) (s : Tile) (port c o : ℕ) : Type 0 where
  pub inside : port < ports p
  pub below : c < in_channels p d port
  pub some : 0 < channels p d
  pub only : (port' c' o' : ℕ) → c' < in_channels p d port' → s.stage port' c' ≡ Routed o' → (port' ≡ port) × (c' ≡ c)
  pub stage : s.stage port c ≡ Routed o
  pub free : (w : ℕ) → s.held o w ≡ false

free-only : (p : Plan) (d n : ℕ) (s : Tile) (o port c : ℕ) → 0 < channels p d → ((w : ℕ) → s.held o w ≡ false)
    → (w : ℕ) × (free_for p d n s o port c ≡ Some w)
free-only p d n s o port c some free =
    let found =
    least-some (at_local o 1 (channels p d)) (λ j. not (s.held o (pack p d class j))) 0 (low o) (ap not (free (pack p d class 0))) in
    (pack p d class found.0, ap (option_map (pack p d class)) found.1)
  where
    class : ℕ
    class = class_of p d n port c o

    low : (k : ℕ) → 0 < at_local k 1 (channels p d)
    low zero = omega arith
    low (suc k) = some

is-below : (a b : ℕ) → a < b → nat_lt a b ≡ true
is-below a b e = grind (arith, nat_tests)

winner-only : (p : Plan) (d n : ℕ) (s : Tile) (port c o : ℕ) → IsOnlyRouted p d s port c o
    → winner p d n s o ≡ Some (place p d port c)
unfolding winner
winner-only p d n s port c o is =
    let won =
    pick-some (input_count p d) (is_candidate p d n s o) (s.allocation o) (place p d port c) (place-below p d port c is.inside low) candidate in
    let waits = winner-waits p d n s o won.0 won.1 in
    let at = is.only (input_port p d won.0) (input_channel p d won.0) o waits.below waits.was in
    won.1
    ∙ ap Some (sym (place-input p d won.0) ∙ ap (λ y. place p d y (input_channel p d won.0)) at.0 ∙ ap (place p d port) at.1)
  where
    low : c < link_channels p d
    low = input-within p d port c is.below

    candidate : is_candidate p d n s o (place p d port c) ≡ true
    candidate =
        let free = free-only p d n s o port c is.some is.free in
        ap (λ q. nat_lt (input_channel p d (place p d port c)) (in_channels p d q) && (waits_for (s.stage q (input_channel p d (place p d port c))) o && is_some (free_for p d n s o q (input_channel p d (place p d port c)))))
        (port-place p d port c low)
        ∙ ap (λ e. nat_lt e (in_channels p d port) && (waits_for (s.stage port e) o && is_some (free_for p d n s o port e))) (channel-place p d port c low)
        ∙ rw (is-below c (in_channels p d port) is.below, is.stage, same-nat o, free.1) refl

-- it is given a channel
pub activated-only : (p : Plan) (d n : ℕ) (t : ℤ) (s : Tile) (i : TileIn) (port c o : ℕ) → IsOnlyRouted p d s port c o
    → (w : ℕ) × (next_stage p d n t s i port c (s.stage port c) ≡ Active o w)
unfolding taken_channel
activated-only p d n t s i port c o is =
    let low = input-within p d port c is.below in
    let free =
    free-only p d n s o (input_port p d (place p d port c)) (input_channel p d (place p d port c)) is.some is.free in
    let won = winner-only p d n s port c o is in (
      free.0,
      ap (next_stage p d n t s i port c) is.stage
          ∙ ap (λ k. activated (is_place k (place p d port c)) o (option_and_then (λ j. free_for p d n s o (input_port p d j) (input_channel p d j)) k)) won
          ∙ ap (λ b. activated b o (free_for p d n s o (input_port p d (place p d port c)) (input_channel p d (place p d port c)))) (same-nat (place p d port c))
          ∙ ap (activated true o) free.1,
    )
