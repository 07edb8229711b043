-- A flit that is alone in its domain's network goes on by one stage or one place in a cycle, or waits for its slot.
use Rattle.std.proofs.Common.{◌≡◌, ◌≢◌, ℕ, zero, suc, ◌-◌, ◌<◌, ◌⊎◌, inl, inr, Bool, true, false, Option, List, [], ◌∷◌, ◌++◌, length, drop, refl, sym, ap, ◌∙◌, subst, arith, ◌==◌, ℤ}
use Rattle.std.specs.Prelude.{Some, None, pos, if◌then◌else◌, option_and_then, option_to_list}
use Rattle.std.proofs.lemmas.Bool.Decides.{nat_tests}
use Rattle.noc_model.specs.declared.Flit.{Flit}
use Rattle.noc_model.specs.declared.Stage.{Stage}
use Rattle.noc_model.specs.declared.Stage.TheVariants.{Idle}
use Rattle.noc_model.specs.Plan.{Plan, tiles, ports, hosts, link_channels, in_channels, at_local}
use Rattle.noc_model.specs.Sound.{IsSound}
use Rattle.noc_model.specs.Place.{neighbour, opposite}
use Rattle.noc_model.specs.Tile.{Tile, TileIn}
use Rattle.noc_model.specs.Step.{leaves, front, sent, one_if, shifted, next_stage, word_in, entry, comes_in, flit_on, next_ejected, tile_step}
use Rattle.noc_model.specs.Run.{State, Input, last_place, arrival, fed, step}
use Rattle.noc_model.specs.Laws.{channel_sum}
use Rattle.noc_model.specs.Reached.{IsReached}
use Rattle.noc_model.proofs.Kept.{positive-sound}
use Rattle.noc_model.proofs.Links.{link-from}
use Rattle.noc_model.proofs.Switch.{grant-ready}
use Rattle.noc_model.proofs.StateKept.{arrival-none, neighbour-inside}
use Rattle.noc_model.proofs.Quiet.{quiet-stays}
use Rattle.noc_model.proofs.LoneTile.{IsStill, still-leaves, still-sent}

pub same-or-not : (a b : ℕ) → (a ≡ b) ⊎ (a ≢ b)
same-or-not a b = go (a == b) refl
  where
    go : (x : Bool) → (a == b) ≡ x → (a ≡ b) ⊎ (a ≢ b)
    go true e = inl (grind (arith, nat_tests, e))
    go false e = inr (λ same. grind (arith, nat_tests, e, same))

-- ---- empty parts of a state

abbrev pub Never : ℕ → ℕ → ℕ → Type 0
Never n x y = ⊥

abbrev pub Is : ℕ → ℕ → ℕ → ℕ → ℕ → ℕ → Type 0
Is n x y n' x' y' = (n' ≡ n) × (x' ≡ x) × (y' ≡ y)

pub is-or-not : (n x y n' x' y' : ℕ) → Is n x y n' x' y' ⊎ (Is n x y n' x' y' → ⊥)
is-or-not n x y n' x' y' = go (same-or-not n' n) (same-or-not x' x) (same-or-not y' y)
  where
    go : (n' ≡ n) ⊎ (n' ≢ n) → (x' ≡ x) ⊎ (x' ≢ x) → (y' ≡ y) ⊎ (y' ≢ y) → Is n x y n' x' y' ⊎ (Is n x y n' x' y' → ⊥)
    go (inl a) (inl b) (inl c) = inl (a, b, c)
    go (inr a) b c = inr (λ h. a h.0)
    go (inl a) (inr b) c = inr (λ h. b h.1)
    go (inl a) (inl b) (inr c) = inr (λ h. c h.2)

-- all lists but some are empty, and all channels but those are idle
pub record AreListsEmpty (p : Plan) (d : ℕ) (s : State) (but : ℕ → ℕ → ℕ → Type 0) : Type 0 where
  pub queue : (n port c : ℕ) → n < tiles p → c < in_channels p d port → (but n port c → ⊥) → (s n).queue port c ≡ []
  pub stage : (n port c : ℕ) → n < tiles p → c < in_channels p d port → (but n port c → ⊥) → (s n).stage port c ≡ Idle

-- all places of links but some are empty
abbrev pub AreRowsEmpty : Plan → State → (ℕ → ℕ → ℕ → Type 0) → Type 0
AreRowsEmpty p s but =
    (n o m i : ℕ) → n < tiles p → neighbour p n o ≡ Some m → i < p.stages → (but n o i → ⊥) → (s n).row o i ≡ None

-- all ejection places are empty
abbrev pub AreOutsEmpty : Plan → ℕ → State → Type 0
AreOutsEmpty p d s = (n : ℕ) → n < tiles p → hosts p n d ≡ true → (s n).ejected ≡ None

-- ---- the parts of a step

pub queue-step : (p : Plan) (d : ℕ) (t : ℤ) (s : State) (x : Input) (n port c : ℕ) → (step p d t s x n).queue port c
    ≡ drop (one_if (leaves p d n t (s n) (fed p d s x n) port c)) ((s n).queue port c) ++ comes_in p d (s n) (fed p d s x n) port c
unfolding step tile_step
queue-step p d t s x n port c = refl

pub stage-step : (p : Plan) (d : ℕ) (t : ℤ) (s : State) (x : Input) (n port c : ℕ) → (step p d t s x n).stage port c
    ≡ next_stage p d n t (s n) (fed p d s x n) port c ((s n).stage port c)
unfolding step tile_step
stage-step p d t s x n port c = refl

pulse-step : (p : Plan) (d : ℕ) (t : ℤ) (s : State) (x : Input) (n port c : ℕ) → (step p d t s x n).pulse port c
    ≡ at_local port false (leaves p d n t (s n) (fed p d s x n) port c)
unfolding step tile_step
pulse-step p d t s x n port c = refl

pub row-step : (p : Plan) (d : ℕ) (t : ℤ) (s : State) (x : Input) (n o i : ℕ) → (step p d t s x n).row o i
    ≡ shifted (sent p d n t (s n) (fed p d s x n) o) ((s n).row o) i
unfolding step tile_step
row-step p d t s x n o i = refl

pub ejected-step : (p : Plan) (d : ℕ) (t : ℤ) (s : State) (x : Input) (n : ℕ) → (step p d t s x n).ejected
    ≡ next_ejected (sent p d n t (s n) (fed p d s x n) 0) (fed p d s x n).hears (s n).ejected
unfolding step tile_step
ejected-step p d t s x n = refl

pub quiet-step : (p : Plan) (d : ℕ) (t : ℤ) (s : State) (x : Input) (n port c : ℕ) → (s n).queue port c ≡ []
    → (s n).stage port c ≡ Idle → comes_in p d (s n) (fed p d s x n) port c ≡ []
    → ((step p d t s x n).queue port c ≡ []) × ((step p d t s x n).stage port c ≡ Idle)
unfolding step
quiet-step p d t s x n port c empty idle none =
    let stays = quiet-stays p d n t (s n) (fed p d s x n) port c (record { empty = empty; idle = idle; nothing_comes = none }) in (stays.0, stays.1)

-- ---- nothing comes

-- no flit arrives where the last place is empty
pub nothing-arrives : (p : Plan) (s : State) (but : ℕ → ℕ → ℕ → Type 0) (n port : ℕ) → IsSound p → AreRowsEmpty p s but
    → n < tiles p
    → ((m : ℕ) → neighbour p n port ≡ Some m → but m (opposite port) (p.stages - 1) → ⊥) → arrival p s n port ≡ None
unfolding arrival
nothing-arrives p s but n port sound rows inside differs = go (neighbour p n port) refl
  where
    go : (o : Option ℕ) → neighbour p n port ≡ o → arrival p s n port ≡ None
    go None e = arrival-none p s n port e
    go (Some m) e =
        let link = link-from p n port m (positive-sound p sound) inside e in
        let some = sound.stages.0 in
        ap (option_and_then (λ k. last_place p (s k) (opposite port))) e
        ∙ rows m (opposite port) n (p.stages - 1) (neighbour-inside p n port m (positive-sound p sound) e) link.back (omega (arith, some)) (differs m e)

pub nothing-comes : (p : Plan) (d : ℕ) (s : State) (x : Input) (n port c : ℕ) → word_in p (s n) (fed p d s x n) ≡ None
    → (port ≢ 0 → arrival p s n port ≡ None)
    → comes_in p d (s n) (fed p d s x n) port c ≡ []
nothing-comes p d s x n zero c none empty = ap (λ w. if (s n).current == c then option_to_list (entry p d (s n).packet w) else []) none ∙ go ((s n).current == c) []
  where
    go : (b : Bool) (fs : List Flit) → (if b then fs else fs) ≡ fs
    go true fs = refl
    go false fs = refl
nothing-comes p d s x n (suc port) c none empty = ap (λ y. flit_on y c) (empty (omega arith))

-- ---- nothing is sent

pub empty-still : (p : Plan) (d n : ℕ) (t : ℤ) (s : Tile) (i : TileIn)
    → ((port c : ℕ) → c < in_channels p d port → s.queue port c ≡ []) → IsStill p d n t s i
empty-still p d n t s i empty port g e =
    let ready = grant-ready p d n t s i port g e in
    let none = empty port g.channel ready.in_range in
    let front_is = ready.is_front in
    let h = ap front none in
    cc

pub still-rows : (p : Plan) (d : ℕ) (t : ℤ) (s : State) (x : Input) (but : ℕ → ℕ → ℕ → Type 0)
    → ((n o : ℕ) → n < tiles p → sent p d n t (s n) (fed p d s x n) o ≡ None)
    → AreRowsEmpty p s but → (n o m i : ℕ) → n < tiles p → neighbour p n o ≡ Some m → i < p.stages
    → ((j : ℕ) → i ≡ suc j → but n o j → ⊥) → (step p d t s x n).row o i ≡ None
still-rows p d t s x but none rows n o m zero inside link below differs = row-step p d t s x n o zero ∙ none n o inside
still-rows p d t s x but none rows n o m (suc i) inside link below differs =
    row-step p d t s x n o (suc i) ∙ rows n o m i inside link (omega arith) (differs i refl)

pub outs-step : (p : Plan) (d : ℕ) (t : ℤ) (s : State) (x : Input)
    → ((n : ℕ) → n < tiles p → sent p d n t (s n) (fed p d s x n) 0 ≡ None) → AreOutsEmpty p d s
    → AreOutsEmpty p d (step p d t s x)
outs-step p d t s x none outs n inside hosted =
    ejected-step p d t s x n ∙ ap (λ y. next_ejected y (fed p d s x n).hears (s n).ejected) (none n inside)
    ∙ ap (next_ejected None (fed p d s x n).hears) (outs n inside hosted) ∙ go (fed p d s x n).hears
  where
    go : (b : Bool) → next_ejected None b None ≡ None
    go true = refl
    go false = refl

pub pulses-step : (p : Plan) (d : ℕ) (t : ℤ) (s : State) (x : Input) (n port c : ℕ)
    → IsStill p d n t (s n) (fed p d s x n) → (step p d t s x n).pulse port c ≡ false
pulses-step p d t s x n port c still =
    pulse-step p d t s x n port c ∙ ap (at_local port false) (still-leaves p d n t (s n) (fed p d s x n) port c still)
    ∙ local port
  where
    local : (k : ℕ) → at_local k false false ≡ false
    local zero = refl
    local (suc k) = refl

-- ---- where the flit is

-- in a list
pub record IsListed (p : Plan) (d : ℕ) (s : State) (f : Flit) (n port c : ℕ) (st : Stage) : Type 0 where
  pub inside : n < tiles p
  pub there : port < ports p
  pub below : c < in_channels p d port
  pub queue : (s n).queue port c ≡ f ∷ []
  pub stage : (s n).stage port c ≡ st
  pub lists : AreListsEmpty p d s (Is n port c)
  pub rows : AreRowsEmpty p s Never
  pub outs : AreOutsEmpty p d s
  pub pulses : (n' port' c' : ℕ) → n' < tiles p → (s n').pulse port' c' ≡ false

-- on a link
pub record IsLinked (p : Plan) (d : ℕ) (s : State) (f : Flit) (n o m w i : ℕ) : Type 0 where
  pub inside : n < tiles p
  pub link : neighbour p n o ≡ Some m
  pub channel : w < link_channels p d
  pub below : i < p.stages
  pub row : (s n).row o i ≡ Some (record { channel = w; flit = f })
  pub lists : AreListsEmpty p d s Never
  pub rows : AreRowsEmpty p s (Is n o i)
  pub outs : AreOutsEmpty p d s

-- nowhere
pub record IsVoid (p : Plan) (d : ℕ) (s : State) : Type 0 where
  pub lists : AreListsEmpty p d s Never
  pub rows : AreRowsEmpty p s Never
  pub outs : AreOutsEmpty p d s

-- what holds of a state of a run, in a cycle in which no word is taken
pub record IsCalm (p : Plan) (d t : ℕ) (s : State) (x : Input) : Type 0 where
  pub sound : IsSound p
  pub there : d < length p.domains
  pub reached : IsReached p d (pos t) s
  pub sums : (n o m w : ℕ) → n < tiles p → neighbour p n o ≡ Some m → channel_sum p s n o m w ≡ p.buffer
  pub no_word : (n : ℕ) → n < tiles p → word_in p (s n) (fed p d s x n) ≡ None

no-arrival : (p : Plan) (s : State) (n port : ℕ) → IsSound p → AreRowsEmpty p s Never → n < tiles p
    → arrival p s n port ≡ None
no-arrival p s n port sound rows inside = nothing-arrives p s Never n port sound rows inside (λ m e h. h)

pub nothing-in : (p : Plan) (d t : ℕ) (s : State) (x : Input) (n port c : ℕ) → IsCalm p d t s x → AreRowsEmpty p s Never
    → n < tiles p → comes_in p d (s n) (fed p d s x n) port c ≡ []
nothing-in p d t s x n port c calm rows inside =
    nothing-comes p d s x n port c (calm.no_word n inside) (λ h. no-arrival p s n port calm.sound rows inside)

-- the other tiles are still
pub other-still : (p : Plan) (d : ℕ) (t : ℤ) (s : State) (x : Input) (f : Flit) (n port c n' : ℕ) (st : Stage)
    → IsListed p d s f n port c st → n' < tiles p → n' ≢ n
    → IsStill p d n' t (s n') (fed p d s x n')
other-still p d t s x f n port c n' st is inside differ =
    empty-still p d n' t (s n') (fed p d s x n') (λ port' c' below. is.lists.queue n' port' c' inside below (λ h. differ h.0))

all-still : (p : Plan) (d : ℕ) (t : ℤ) (s : State) (x : Input) (f : Flit) (n port c n' : ℕ) (st : Stage)
    → IsListed p d s f n port c st → n' < tiles p
    → IsStill p d n t (s n) (fed p d s x n) → IsStill p d n' t (s n') (fed p d s x n')
all-still p d t s x f n port c n' st is inside still = go (same-or-not n' n)
  where
    go : (n' ≡ n) ⊎ (n' ≢ n) → IsStill p d n' t (s n') (fed p d s x n')
    go (inl e) = subst (λ k. IsStill p d k t (s k) (fed p d s x k)) (sym e) still
    go (inr differ) = other-still p d t s x f n port c n' st is inside differ

-- a flit that isn't sent stays in its list
pub listed-stays : (p : Plan) (d t : ℕ) (s : State) (x : Input) (f : Flit) (n port c : ℕ) (st st' : Stage)
    → IsCalm p d t s x → IsListed p d s f n port c st
    → IsStill p d n (pos t) (s n) (fed p d s x n)
    → next_stage p d n (pos t) (s n) (fed p d s x n) port c ((s n).stage port c) ≡ st'
    → IsListed p d (step p d (pos t) s x) f n port c st'
listed-stays p d t s x f n port c st st' calm is still next = record {
  inside = is.inside;
  there = is.there;
  below = is.below;
  queue = queue-step p d (pos t) s x n port c
      ∙ ap (λ b. drop (one_if b) ((s n).queue port c) ++ comes_in p d (s n) (fed p d s x n) port c) (still-leaves p d n (pos t) (s n) (fed p d s x n) port c still)
      ∙ ap (λ fs. (s n).queue port c ++ fs) (nothing-in p d t s x n port c calm is.rows is.inside)
      ∙ ap (λ fs. fs ++ []) is.queue;
  stage = stage-step p d (pos t) s x n port c ∙ next;
  lists = record {
    queue = λ n' port' c' inside below differ. (quiet-step p d (pos t) s x n' port' c' (is.lists.queue n' port' c' inside below differ) (is.lists.stage n' port' c' inside below differ) (nothing-in p d t s x n' port' c' calm is.rows inside)).0;
    stage = λ n' port' c' inside below differ. (quiet-step p d (pos t) s x n' port' c' (is.lists.queue n' port' c' inside below differ) (is.lists.stage n' port' c' inside below differ) (nothing-in p d t s x n' port' c' calm is.rows inside)).1;
  };
  rows = λ n' o m i inside link below differ. still-rows p d (pos t) s x Never
      (λ k o inside. still-sent p d k (pos t) (s k) (fed p d s x k) o (all-still p d (pos t) s x f n port c k st is inside still))
      is.rows n' o m i inside link below (λ j e h. h);
  outs = outs-step p d (pos t) s x (λ k inside. still-sent p d k (pos t) (s k) (fed p d s x k) 0 (all-still p d (pos t) s x f n port c k st is inside still)) is.outs;
  pulses = λ n' port' c' inside. pulses-step p d (pos t) s x n' port' c' (all-still p d (pos t) s x f n port c n' st is inside still);
}
