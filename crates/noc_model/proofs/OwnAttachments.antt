-- A domain's run depends on what is done at its own attachments alone.
use Rattle.std.proofs.Common.{◌≡◌, ℕ, zero, suc, Bool, true, false, ◌&&◌, List, [], ◌∷◌, ◌++◌, refl, sym, ap, ◌∙◌, if◌then◌else◌, Option, Some, None, ◌==◌}
use Rattle.std.specs.Prelude.{slice_get, filter, flat_map, is_some, pos, ℤ}
use Rattle.noc_model.specs.declared.Host.{Host}
use Rattle.noc_model.specs.declared.Ejected.{Ejected}
use Rattle.noc_model.specs.Plan.{Plan, hosts, tiles, attach_of}
use Rattle.noc_model.specs.Step.{is_open, tile_step}
use Rattle.noc_model.specs.Run.{State, Input, step, fed, arrival, return_of}
use Rattle.noc_model.specs.Events.{offer_events, drop_events, got_events, ejected_of, tile_events, tabulate, cycle_events}
use Rattle.noc_model.specs.Driver.{Driver, offer_at, hears_at, driven, after_taken, after_got, next_state, next_states, driven_events}
use Rattle.noc_model.proofs.HostTiles.{HasAttachment, attached, not-attached}

-- attachment j is of domain d
pub record IsOwn (p : Plan) (d j : ℕ) : Type 0 where
  pub host : Host
  pub at : slice_get p.hosts j ≡ Some host
  pub own : host.domain ≡ d

-- two drivers do the same at attachment j
pub record DoAlike (v w : Driver) (j : ℕ) : Type 0 where
  pub offer : (state : List ℕ) (t : ℕ) → v.offer j state t ≡ w.offer j state t
  pub hears : (state : List ℕ) (t : ℕ) → v.hears j state t ≡ w.hears j state t
  pub taken : (state : List ℕ) (t : ℕ) → v.taken j state t ≡ w.taken j state t
  pub got : (state : List ℕ) (t : ℕ) (e : Ejected) → v.got j state t e ≡ w.got j state t e

-- what two functions make of the members of a filtered list
pub flat_map-same : {A B : Type 0} (test : A → Bool) (f g : A → List B) (xs : List A)
    → ((x : A) → test x ≡ true → f x ≡ g x) → flat_map f (filter test xs) ≡ flat_map g (filter test xs)
flat_map-same test f g [] same = refl
flat_map-same test f g (x ∷ xs) same = go (test x) refl (flat_map-same test f g xs same)
  where
    go : (b : Bool) → test x ≡ b → flat_map f (filter test xs) ≡ flat_map g (filter test xs)
        → flat_map f (filter test (x ∷ xs)) ≡ flat_map g (filter test (x ∷ xs))
    go true here more = rw here (ap (λ r. f x ++ r) more ∙ ap (λ r. r ++ flat_map g (filter test xs)) (same x here))
    go false out more = rw out more

-- two inputs are the same at the tiles that host the domain
pub record AreSame (p : Plan) (d : ℕ) (x y : Input) : Type 0 where
  pub offer : (n : ℕ) → hosts p n d ≡ true → x.offer n ≡ y.offer n
  pub hears : (n : ℕ) → hosts p n d ≡ true → x.hears n ≡ y.hears n

pub events-same : (p : Plan) (d t : ℕ) (s : State) (x y : Input) → AreSame p d x y
    → cycle_events p d t s x ≡ cycle_events p d t s y
events-same p d t s x y same =
    flat_map-same (λ n. hosts p n d) (tile_events p d t s x) (tile_events p d t s y) (tabulate (tiles p) (λ n. n))
    (λ n here. ap (λ o. offer_events t n d (is_open p (s n)) o ++ drop_events t n d (s n).dropped ++ got_events t n d (x.hears n) (ejected_of (s n).ejected)) (same.offer n here)
    ∙ ap (λ b. offer_events t n d (is_open p (s n)) (y.offer n) ++ drop_events t n d (s n).dropped ++ got_events t n d b (ejected_of (s n).ejected)) (same.hears n here))

fed-same : (p : Plan) (d n : ℕ) (s : State) (x y : Input) → AreSame p d x y → fed p d s x n ≡ fed p d s y n
fed-same p d n s x y same = go (hosts p n d) refl
  where
    go : (b : Bool) → hosts p n d ≡ b → fed p d s x n ≡ fed p d s y n
    go true here =
        ap (λ o. record { arrives = arrival p s n; returns = return_of p s n; offer = if hosts p n d then o else None; hears = hosts p n d && x.hears n }) (same.offer n here)
        ∙ ap (λ b. record { arrives = arrival p s n; returns = return_of p s n; offer = if hosts p n d then y.offer n else None; hears = hosts p n d && b }) (same.hears n here)
    go false out =
        ap (λ b. record { arrives = arrival p s n; returns = return_of p s n; offer = if b then x.offer n else None; hears = b && x.hears n }) out
        ∙ sym (ap (λ b. record { arrives = arrival p s n; returns = return_of p s n; offer = if b then y.offer n else None; hears = b && y.hears n }) out)

pub step-same : (p : Plan) (d : ℕ) (t : ℤ) (s : State) (x y : Input) → AreSame p d x y → step p d t s x ≡ step p d t s y
unfolding step
step-same p d t s x y same = λ i n. tile_step p d n t (s n) (fed-same p d n s x y same i)

-- two drivers feed the domain alike
pub driven-same : (p : Plan) (d : ℕ) (v w : Driver) (states others : ℕ → List ℕ) (t : ℕ)
    → ((j : ℕ) → IsOwn p d j → DoAlike v w j) → ((j : ℕ) → IsOwn p d j → states j ≡ others j)
    → AreSame p d (driven p d v states t) (driven p d w others t)
driven-same p d v w states others t alike same = record {
  offer = λ n here. (let has = attached p n d here in let own = own-of n has in
      ap (offer_at v states t) has.is ∙ ap (λ state. v.offer has.number state t) (same has.number own)
      ∙ (alike has.number own).offer (others has.number) t
      ∙ sym (ap (offer_at w others t) has.is));
  hears = λ n here. (let has = attached p n d here in let own = own-of n has in
      ap (hears_at v states t) has.is ∙ ap (λ state. v.hears has.number state t) (same has.number own)
      ∙ (alike has.number own).hears (others has.number) t
      ∙ sym (ap (hears_at w others t) has.is));
}
  where
    own-of : (n : ℕ) (has : HasAttachment p n d) → IsOwn p d has.number
    own-of n has = record { host = record { tile = n; domain = d }; at = has.at; own = refl }

-- a driver is asked only where there is an attachment, so what a tile is fed of it is all of it
pub driven-offer : (p : Plan) (d n : ℕ) (v : Driver) (states : ℕ → List ℕ) (t : ℕ)
    → (if hosts p n d then offer_at v states t (attach_of p n d) else None) ≡ offer_at v states t (attach_of p n d)
driven-offer p d n v states t = go (hosts p n d) refl
  where
    go : (b : Bool) → hosts p n d ≡ b
        → (if b then offer_at v states t (attach_of p n d) else None) ≡ offer_at v states t (attach_of p n d)
    go true here = refl
    go false away = sym (ap (offer_at v states t) (not-attached p n d away))

pub driven-hears : (p : Plan) (d n : ℕ) (v : Driver) (states : ℕ → List ℕ) (t : ℕ)
    → (hosts p n d && hears_at v states t (attach_of p n d)) ≡ hears_at v states t (attach_of p n d)
driven-hears p d n v states t = go (hosts p n d) refl
  where
    go : (b : Bool) → hosts p n d ≡ b
        → (b && hears_at v states t (attach_of p n d)) ≡ hears_at v states t (attach_of p n d)
    go true here = refl
    go false away = sym (ap (hears_at v states t) (not-attached p n d away))

taken-same : (v w : Driver) (j : ℕ) (state : List ℕ) (t : ℕ) (b : Bool) → DoAlike v w j
    → after_taken v j state t b ≡ after_taken w j state t b
taken-same v w j state t true alike = alike.taken state t
taken-same v w j state t false alike = refl

got-same : (v w : Driver) (j : ℕ) (state : List ℕ) (t : ℕ) (b : Bool) (e : Option Ejected) → DoAlike v w j
    → after_got v j state t b e ≡ after_got w j state t b e
got-same v w j state t true (Some e) alike = alike.got state t e
got-same v w j state t true None alike = refl
got-same v w j state t false e alike = refl

-- an attachment's state after a cycle
after-same : (p : Plan) (d : ℕ) (v w : Driver) (t : ℕ) (s : State) (j : ℕ) (state : List ℕ) (h : Option Host)
    → DoAlike v w j → next_state p d v t s j state h ≡ next_state p d w t s j state h
after-same p d v w t s j state None alike = refl
after-same p d v w t s j state (Some h) alike =
    let ready : Bool = is_open p (s h.tile) in
    let e : Option Ejected = ejected_of (s h.tile).ejected in
    ap (λ b. if h.domain == d then b else state)
    (
    ap (λ o. after_got v j (after_taken v j state t (ready && is_some o)) t (v.hears j state t) e) (alike.offer state t)
    ∙ ap (λ x. after_got v j x t (v.hears j state t) e) (taken-same v w j state t (ready && is_some (w.offer j state t)) alike)
    ∙ ap (λ b. after_got v j (after_taken w j state t (ready && is_some (w.offer j state t))) t b e) (alike.hears state t)
    ∙ got-same v w j (after_taken w j state t (ready && is_some (w.offer j state t))) t (w.hears j state t) e alike
    )

pub states-same : (p : Plan) (d : ℕ) (v w : Driver) (states others : ℕ → List ℕ) (t : ℕ) (s : State)
    → ((j : ℕ) → IsOwn p d j → DoAlike v w j) → ((j : ℕ) → IsOwn p d j → states j ≡ others j)
    → (j : ℕ) → IsOwn p d j → next_states p d v states t s j ≡ next_states p d w others t s j
states-same p d v w states others t s alike same j own =
    ap (λ state. next_state p d v t s j state (slice_get p.hosts j)) (same j own)
    ∙ after-same p d v w t s j (others j) (slice_get p.hosts j) (alike j own)

-- drivers that do the same at the domain's own attachments, in the same states there, give the same events
pub driven_events-same : (p : Plan) (d : ℕ) (v w : Driver) (k t : ℕ) (s : State) (states others : ℕ → List ℕ)
    → ((j : ℕ) → IsOwn p d j → DoAlike v w j) → ((j : ℕ) → IsOwn p d j → states j ≡ others j)
    → driven_events p d v k t s states ≡ driven_events p d w k t s others
driven_events-same p d v w zero t s states others alike same = refl
driven_events-same p d v w (suc k) t s states others alike same =
    let x : Input = driven p d v states t in
    let y : Input = driven p d w others t in
    let fit : AreSame p d x y = driven-same p d v w states others t alike same in
    ap (λ es. es ++ driven_events p d v k (suc t) (step p d (pos t) s x) (next_states p d v states t s)) (events-same p d t s x y fit)
    ∙ ap (λ next. cycle_events p d t s y ++ driven_events p d v k (suc t) next (next_states p d v states t s)) (step-same p d (pos t) s x y fit)
    ∙ ap (λ es. cycle_events p d t s y ++ es)
    (driven_events-same p d v w k (suc t) (step p d (pos t) s y) (next_states p d v states t s) (next_states p d w others t s) alike (states-same p d v w states others t s alike same))
