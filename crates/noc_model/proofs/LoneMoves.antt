-- The steps of a flit that is alone in its domain's network: routed, given a channel, sent, shifted, come to the next tile.
use Rattle.std.proofs.Common.{◌≡◌, ◌≢◌, ℕ, zero, suc, ◌<◌, ◌⊎◌, inl, inr, Bool, true, false, Option, [], ◌++◌, length, drop, refl, sym, ap, ◌∙◌, subst, arith, ◌&&◌, ℤ}
use Rattle.std.specs.Prelude.{Some, None, pos, if◌then◌else◌}
use Rattle.std.proofs.lemmas.Bool.Decides.{nat_tests}
use Rattle.noc_model.specs.declared.Flit.{Flit}
use Rattle.noc_model.specs.declared.LinkFlit.{LinkFlit}
use Rattle.noc_model.specs.declared.Stage.{Stage}
use Rattle.noc_model.specs.declared.Stage.TheVariants.{Idle, Routed, Active}
use Rattle.noc_model.specs.declared.ways.Way.{Way}
use Rattle.noc_model.specs.declared.ways.Way.TheVariants.{Local, Plus, Minus}
use Rattle.noc_model.specs.Plan.{Plan, tiles, link_channels, in_channels, out_channels}
use Rattle.noc_model.specs.Place.{neighbour, opposite, owner, route, way_of, side, coord, has_link, tile_that_way, next_in, last_in}
use Rattle.noc_model.specs.Step.{routed, takes, leaves, front, sent, is_tail, one_if, next_stage, comes_in, is_on}
use Rattle.noc_model.specs.Run.{State, Input, fed, step}
use Rattle.noc_model.specs.Laws.{on_row}
use Rattle.noc_model.specs.SoundState.{HasOutput}
use Rattle.noc_model.proofs.Coords.{AllPositive}
use Rattle.noc_model.proofs.Kept.{positive-sound}
use Rattle.noc_model.proofs.Wave.{neighbour-is}
use Rattle.noc_model.proofs.Rank.{move}
use Rattle.noc_model.proofs.Links.{link-from}
use Rattle.noc_model.proofs.Sum.{IsLink}
use Rattle.noc_model.proofs.Switch.{grant-ready}
use Rattle.noc_model.proofs.StateKept.{neighbour-inside, some-channels}
use Rattle.noc_model.proofs.LoneTile.{IsStill, still-leaves, still-sent, IsOnlyAt, IsOnly, leaves-only, sent-other, still-only, activated-only}
use Rattle.noc_model.proofs.LoneState.{same-or-not, Never, Is, is-or-not, AreListsEmpty, queue-step, stage-step, quiet-step, IsListed, IsCalm, nothing-in, other-still, listed-stays}

-- ---- in a list

-- a flit at the front of a list of its tile is the one
only-at : (p : Plan) (d : ℕ) (s : State) (f : Flit) (n port c : ℕ) (st : Stage) → IsListed p d s f n port c st
    → IsOnlyAt p d (s n) port c
only-at p d s f n port c st is port' c' g below e = go (is-or-not n port c n port' c')
  where
    go : Is n port c n port' c' ⊎ (Is n port c n port' c' → ⊥) → (port' ≡ port) × (c' ≡ c)
    go (inl h) = (h.1, h.2)
    go (inr differ) =
        let none = is.lists.queue n port' c' is.inside below differ in
        let h = ap front none in
        absurd (cc)

-- a channel that holds no output sends nothing
waiting-still : (p : Plan) (d : ℕ) (t : ℤ) (s : State) (x : Input) (f : Flit) (n port c : ℕ) (st : Stage)
    → IsListed p d s f n port c st → ((o w : ℕ) → st ≡ Active o w → ⊥)
    → IsStill p d n t (s n) (fed p d s x n)
waiting-still p d t s x f n port c st is waits port' g e =
    let ready = grant-ready p d n t (s n) (fed p d s x n) port' g e in
    let at = only-at p d s f n port c st is port' g.channel ready.flit ready.in_range ready.is_front in
    waits g.out g.to (sym is.stage ∙ sym (ap (λ k. (s n).stage k g.channel) at.0 ∙ ap ((s n).stage port) at.1) ∙ ready.active)

-- it is routed
pub idle-routed : (p : Plan) (d t : ℕ) (s : State) (x : Input) (f : Flit) (n port c : ℕ) → IsCalm p d t s x
    → IsListed p d s f n port c Idle
    → IsListed p d (step p d (pos t) s x) f n port c (Routed (route p n f.dest))
idle-routed p d t s x f n port c calm is =
    listed-stays p d t s x f n port c Idle (Routed (route p n f.dest)) calm is (waiting-still p d (pos t) s x f n port c Idle is (λ o w e. cc e))
    (ap (next_stage p d n (pos t) (s n) (fed p d s x n) port c) is.stage ∙ ap (λ fs. routed p n fs Idle) is.queue)

-- it is given a channel of its output
pub routed-active : (p : Plan) (d t : ℕ) (s : State) (x : Input) (f : Flit) (n port c o : ℕ) → IsCalm p d t s x
    → IsListed p d s f n port c (Routed o)
    → (w : ℕ) × IsListed p d (step p d (pos t) s x) f n port c (Active o w)
routed-active p d t s x f n port c o calm is =
    let next = activated-only p d n (pos t) (s n) (fed p d s x n) port c o (record {
      inside = is.there;
      below = is.below;
      some = some-channels p d calm.sound calm.there;
      only = routed-only;
      stage = is.stage;
      free = free;
    }) in
    (next.0, listed-stays p d t s x f n port c (Routed o) (Active o next.0) calm is (waiting-still p d (pos t) s x f n port c (Routed o) is (λ o' w e. cc e)) next.1)
  where
    at : (port' c' : ℕ) (st : Stage) → c' < in_channels p d port' → (s n).stage port' c' ≡ st → (st ≡ Idle → ⊥)
        → (port' ≡ port) × (c' ≡ c)
    at port' c' st below e busy = go (is-or-not n port c n port' c')
      where
        go : Is n port c n port' c' ⊎ (Is n port c n port' c' → ⊥) → (port' ≡ port) × (c' ≡ c)
        go (inl h) = (h.1, h.2)
        go (inr differ) = absurd (busy (sym e ∙ is.lists.stage n port' c' is.inside below differ))

    routed-only : (port' c' o' : ℕ) → c' < in_channels p d port' → (s n).stage port' c' ≡ Routed o'
        → (port' ≡ port) × (c' ≡ c)
    routed-only port' c' o' below e = at port' c' (Routed o') below e (λ h. cc h)

    free : (w : ℕ) → (s n).held o w ≡ false
    free w = go ((s n).held o w) refl
      where
        go : (b : Bool) → (s n).held o w ≡ b → b ≡ false
        go false e = refl
        go true e =
            let has = (calm.reached.held n).holder o w e in
            let holder = has.is_holder in
            let same = at has.port has.channel (Active o w) holder.below holder.active (λ h. cc h) in
            let bad : Routed o ≡ Active o w =
            sym is.stage ∙ sym (ap (λ k. (s n).stage k has.channel) same.0 ∙ ap ((s n).stage port) same.1)
            ∙ holder.active in
            absurd (cc bad)

pub only-of : (p : Plan) (d : ℕ) (s : State) (f : Flit) (n port c o w : ℕ) → IsListed p d s f n port c (Active o w)
    → IsOnly p d (s n) port c o w f
only-of p d s f n port c o w is = record {
  inside = is.there;
  below = is.below;
  only = only-at p d s f n port c (Active o w) is;
  queue = is.queue;
  stage = is.stage;
}

-- it waits where its output is another domain's
pub active-waits : (p : Plan) (d t : ℕ) (s : State) (x : Input) (f : Flit) (n port c o w : ℕ) → IsCalm p d t s x
    → IsListed p d s f n port c (Active o w)
    → o ≢ 0 → owner p n o (pos t) ≢ d → IsListed p d (step p d (pos t) s x) f n port c (Active o w)
unfolding takes
active-waits p d t s x f n port c o w calm is link other =
    let still =
    still-only p d n (pos t) (s n) (fed p d s x n) port c o w f (only-of p d s f n port c o w is) (refuses o link other) in
    listed-stays p d t s x f n port c (Active o w) (Active o w) calm is still
    (ap (next_stage p d n (pos t) (s n) (fed p d s x n) port c) is.stage
    ∙ ap (λ b. if b && is_tail (front ((s n).queue port c)) then Idle else Active o w) (still-leaves p d n (pos t) (s n) (fed p d s x n) port c still))
  where
    refuses : (k : ℕ) → k ≢ 0 → owner p n k (pos t) ≢ d → takes p d n (pos t) (s n) (fed p d s x n) k w ≡ false
    refuses zero linked differ = absurd (linked refl)
    refuses (suc k) linked differ = grind (arith, nat_tests, differ)

-- ---- it is sent

pub sent-elsewhere : (p : Plan) (d t : ℕ) (s : State) (x : Input) (f : Flit) (n port c o w n' o' : ℕ)
    → IsListed p d s f n port c (Active o w) → n' < tiles p
    → (n' ≡ n → o' ≡ o → ⊥) → sent p d n' (pos t) (s n') (fed p d s x n') o' ≡ None
sent-elsewhere p d t s x f n port c o w n' o' is inside differ = go (same-or-not n' n)
  where
    go : (n' ≡ n) ⊎ (n' ≢ n) → sent p d n' (pos t) (s n') (fed p d s x n') o' ≡ None
    go (inl e) =
        subst (λ k. sent p d k (pos t) (s k) (fed p d s x k) o' ≡ None) (sym e)
        (sent-other p d n (pos t) (s n) (fed p d s x n) port c o w o' f (only-of p d s f n port c o w is) (differ e))
    go (inr other) =
        still-sent p d n' (pos t) (s n') (fed p d s x n') o' (other-still p d (pos t) s x f n port c n' (Active o w) is inside other)

-- its list is empty then, and its channel idle
pub sent-lists : (p : Plan) (d t : ℕ) (s : State) (x : Input) (f : Flit) (n port c o w : ℕ) → IsCalm p d t s x
    → IsListed p d s f n port c (Active o w) → f.tail ≡ true
    → takes p d n (pos t) (s n) (fed p d s x n) o w ≡ true → AreListsEmpty p d (step p d (pos t) s x) Never
sent-lists p d t s x f n port c o w calm is tail taken = record {
  queue = λ n' port' c' inside below never. (at n' port' c' inside below).0;
  stage = λ n' port' c' inside below never. (at n' port' c' inside below).1;
}
  where
    left : leaves p d n (pos t) (s n) (fed p d s x n) port c ≡ true
    left = leaves-only p d n (pos t) (s n) (fed p d s x n) port c o w f (only-of p d s f n port c o w is) taken

    here : ((step p d (pos t) s x n).queue port c ≡ []) × ((step p d (pos t) s x n).stage port c ≡ Idle)
    here = (
      queue-step p d (pos t) s x n port c
          ∙ ap (λ b. drop (one_if b) ((s n).queue port c) ++ comes_in p d (s n) (fed p d s x n) port c) left
          ∙ ap (λ fs. drop 1 fs ++ comes_in p d (s n) (fed p d s x n) port c) is.queue
          ∙ nothing-in p d t s x n port c calm is.rows is.inside,
      stage-step p d (pos t) s x n port c
          ∙ ap (next_stage p d n (pos t) (s n) (fed p d s x n) port c) is.stage
          ∙ ap (λ b. if b && is_tail (front ((s n).queue port c)) then Idle else Active o w) left
          ∙ ap (λ fs. if is_tail (front fs) then Idle else Active o w) is.queue
          ∙ ap (λ b. if b then Idle else Active o w) tail,
    )

    at : (n' port' c' : ℕ) → n' < tiles p → c' < in_channels p d port'
        → ((step p d (pos t) s x n').queue port' c' ≡ []) × ((step p d (pos t) s x n').stage port' c' ≡ Idle)
    at n' port' c' inside below = go (is-or-not n port c n' port' c')
      where
        There : ℕ → ℕ → ℕ → Type 0
        There a b e = ((step p d (pos t) s x a).queue b e ≡ []) × ((step p d (pos t) s x a).stage b e ≡ Idle)

        go : Is n port c n' port' c' ⊎ (Is n port c n' port' c' → ⊥)
            → ((step p d (pos t) s x n').queue port' c' ≡ []) × ((step p d (pos t) s x n').stage port' c' ≡ Idle)
        go (inl h) = rw (h.0, h.1, h.2) here
        go (inr differ) =
            quiet-step p d (pos t) s x n' port' c' (is.lists.queue n' port' c' inside below differ) (is.lists.stage n' port' c' inside below differ) (nothing-in p d t s x n' port' c' calm is.rows inside)

on_row-none : (k : ℕ) (row : ℕ → Option LinkFlit) (w : ℕ) → ((i : ℕ) → i < k → row i ≡ None) → on_row k row w ≡ 0
on_row-none zero row w none = refl
on_row-none (suc k) row w none =
    let here : one_if (is_on (row k) w) ≡ 0 = ap (λ y. one_if (is_on y w)) (none k (omega arith)) in
    omega (arith, here, on_row-none k row w (λ i less. none i (omega arith)))

next-differs : (k x : ℕ) → 1 < k → x < k → next_in k x ≢ x
next-differs k x some below e = grind (arith, nat_tests)

last-differs : (k x : ℕ) → 1 < k → x < k → last_in k x ≢ x
last-differs k x some below e = grind (arith, nat_tests)

-- a link comes to another tile
pub link-differs : (p : Plan) (n o m : ℕ) → AllPositive p.dims → neighbour p n o ≡ Some m → m ≢ n
link-differs p n o m positive e same = let is = neighbour-is p n o m e in go (way_of o) is.0 (is.1 ∙ same)
  where
    go : (v : Way) → has_link p n v ≡ true → tile_that_way p n v ≡ n → ⊥
    go Local h back = cc h
    go (Plus i) h back =
        let m = move p n i true positive h in
        next-differs (side p i) (coord p n i) m.some m.from (sym m.at ∙ ap (λ k. coord p k i) back)
    go (Minus i) h back =
        let m = move p n i false positive h in
        last-differs (side p i) (coord p n i) m.some m.from (sym m.at ∙ ap (λ k. coord p k i) back)

pub in-link : (p : Plan) (d k : ℕ) → k ≢ 0 → in_channels p d k ≡ link_channels p d
in-link p d zero link = absurd (link refl)
in-link p d (suc k) link = refl

out-link : (p : Plan) (d k : ℕ) → k ≢ 0 → out_channels p d k ≡ link_channels p d
out-link p d zero link = absurd (link refl)
out-link p d (suc k) link = refl

pub out-lane : (p : Plan) (d t : ℕ) (s : State) (x : Input) (f : Flit) (n port c o w : ℕ) → IsCalm p d t s x
    → IsListed p d s f n port c (Active o w) → o ≢ 0 → w < link_channels p d
out-lane p d t s x f n port c o w calm is link =
    let low = (subst (HasOutput p d n) is.stage ((calm.reached.sound n).stages port c)).1 in
    rw (← out-link p d o link) low

-- by a link that the domain owns
pub link-takes : (p : Plan) (d t : ℕ) (s : State) (x : Input) (f : Flit) (n port c o w m : ℕ) → IsCalm p d t s x
    → IsListed p d s f n port c (Active o w) → neighbour p n o ≡ Some m
    → owner p n o (pos t) ≡ d → takes p d n (pos t) (s n) (fed p d s x n) o w ≡ true
unfolding takes
link-takes p d t s x f n port c o w m calm is e owned = may o link.leaves_port owned (omega (arith, calm.sums n o m w is.inside e, row, list, pulse, calm.sound.buffer.0))
  where
    link : IsLink p n o m
    link = link-from p n o m (positive-sound p calm.sound) is.inside e

    row : on_row p.stages ((s n).row o) w ≡ 0
    row = on_row-none p.stages ((s n).row o) w (λ i less. is.rows n o m i is.inside e less (λ h. h))

    low : w < in_channels p d (opposite o)
    low = rw (in-link p d (opposite o) link.arrives_port) (out-lane p d t s x f n port c o w calm is link.leaves_port)

    list : length ((s m).queue (opposite o) w) ≡ 0
    list =
        ap length (is.lists.queue m (opposite o) w (neighbour-inside p n o m (positive-sound p calm.sound) e) low (λ h. link-differs p n o m (positive-sound p calm.sound) e h.0))

    pulse : one_if ((s m).pulse (opposite o) w) ≡ 0
    pulse = ap one_if (is.pulses m (opposite o) w (neighbour-inside p n o m (positive-sound p calm.sound) e))

    may : (k : ℕ) → k ≢ 0 → owner p n k (pos t) ≡ d → 0 < (s n).credits k w
        → takes p d n (pos t) (s n) (fed p d s x n) k w ≡ true
    may zero linked own some = absurd (linked refl)
    may (suc k) linked own some = grind (arith, nat_tests, own, some)
