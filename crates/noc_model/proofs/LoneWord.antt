-- A word that is alone in its domain's network is delivered within its latency.
use Rattle.std.proofs.Common.{◌≡◌, ◌≢◌, ℕ, zero, suc, ◌+◌, ◌<◌, ◌≤◌, ◌⊎◌, inl, inr, true, Option, List, [], ◌∷◌, length, refl, sym, ap, ◌∙◌, subst, arith}
use Rattle.std.specs.Prelude.{Some, None, pos, is_some, take, slice_get, nat_lt, if◌then◌else◌, All}
use Rattle.std.proofs.lemmas.Bool.Decides.{nat_tests}
use Rattle.noc_model.specs.declared.Offer.{Offer}
use Rattle.noc_model.specs.declared.Stage.TheVariants.{Idle}
use Rattle.noc_model.specs.declared.Kind.TheVariants.{Take}
use Rattle.noc_model.specs.Plan.{Plan, tiles, hosts, in_channels}
use Rattle.noc_model.specs.Sound.{IsSound}
use Rattle.noc_model.specs.Place.{neighbour}
use Rattle.noc_model.specs.Step.{is_open, is_ready_packet, word_in}
use Rattle.noc_model.specs.Run.{State, Input, start, step, fed, run, state_after}
use Rattle.noc_model.specs.Events.{events_from}
use Rattle.noc_model.specs.SoundState.{IsOutput, GoesHome}
use Rattle.noc_model.specs.Reached.{IsReached}
use Rattle.noc_model.specs.Lone.{IsEmptyState, IsOnlyWord, IsOnlyTake, IsLoneWord, IsRoute, IsGot, least_latency, most_latency}
use Rattle.noc_model.proofs.HostTiles.{hosts-inside}
use Rattle.noc_model.proofs.TileRuns.{after-reached, after-sum}
use Rattle.noc_model.proofs.LoneState.{IsListed, IsVoid, IsCalm}
use Rattle.noc_model.proofs.LoneLinks.{flit_for, word-listed}
use Rattle.noc_model.proofs.LoneCount.{comes-home}
use Rattle.noc_model.proofs.LoneEvents.{input_of, input-at, state-taken, some-input, take-event, got-event}

-- ---- the state in which it is taken

-- a channel that there is, or one of a port without a link
port-kind : (p : Plan) (n port : ℕ) → IsOutput p n port ⊎ ((port ≢ 0) × (neighbour p n port ≡ None))
port-kind p n zero = inl (inl refl)
port-kind p n (suc port) = go (neighbour p n (suc port)) refl
  where
    go : (o : Option ℕ) → neighbour p n (suc port) ≡ o
        → IsOutput p n (suc port) ⊎ ((suc port ≢ 0) × (neighbour p n (suc port) ≡ None))
    go None e = inr (omega arith, e)
    go (Some m) e = inl (inr (ap is_some e))

empty-void : (p : Plan) (d t : ℕ) (s : State) → IsReached p d (pos t) s → IsEmptyState p d s → IsVoid p d s
empty-void p d t s reached empty = record {
  lists = record {
    queue = λ n port c inside below never. queue n port c inside below (port-kind p n port);
    stage = λ n port c inside below never. stage n port c inside below (port-kind p n port);
  };
  rows = λ n o m i inside link below never. (empty n inside).row o m i link below;
  outs = λ n inside hosted. (empty n inside).ejected hosted;
}
  where
    queue : (n port c : ℕ) → n < tiles p → c < in_channels p d port
        → IsOutput p n port ⊎ ((port ≢ 0) × (neighbour p n port ≡ None)) → (s n).queue port c ≡ []
    queue n port c inside below (inl there) = (empty n inside).queue port c there below
    queue n port c inside below (inr none) = (reached.sound n).unlinked port c none.0 none.1

    stage : (n port c : ℕ) → n < tiles p → c < in_channels p d port
        → IsOutput p n port ⊎ ((port ≢ 0) × (neighbour p n port ≡ None)) → (s n).stage port c ≡ Idle
    stage n port c inside below (inl there) = (empty n inside).stage port c there below
    stage n port c inside below (inr none) = (reached.held n).unlinked port c none.0 none.1

-- the word is taken, since its list has room
word-taken : (p : Plan) (d t n dest : ℕ) (s : State) (x : Input) (word : Offer) → IsSound p → IsReached p d (pos t) s
    → IsVoid p d s → n < tiles p → IsOnlyWord p d n dest s x word
    → word_in p (s n) (fed p d s x n) ≡ Some word
unfolding word_in is_open
word-taken p d t n dest s x word sound reached void inside is =
    let empty = void.lists.queue n 0 (s n).current inside (reached.sound n).current (λ h. h) in
    let room : nat_lt 0 p.buffer ≡ true = (let some = sound.buffer.0 in grind (arith, nat_tests)) in
    ap (λ k. if is_ready_packet k (length ((s n).queue 0 (s n).current)) p.buffer then (if hosts p n d then x.offer n else None) else None) is.between
    ∙ ap (λ fs. if nat_lt (length fs) p.buffer then (if hosts p n d then x.offer n else None) else None) empty
    ∙ ap (λ b. if b then (if hosts p n d then x.offer n else None) else None) room
    ∙ ap (λ b. if b then x.offer n else None) is.hosted ∙ is.offered

-- ---- no other word

other-word : (p : Plan) (d t u n : ℕ) (xs : List Input) (k : ℕ) (x : Input) (m : ℕ)
    → IsOnlyTake n t u (events_from p d 0 (start p) xs) → slice_get xs k ≡ Some x → t ≤ k → k ≤ u → m < tiles p
    → (k ≡ t → m ≡ n → ⊥)
    → word_in p (state_after p d (input_of xs) k m) (fed p d (state_after p d (input_of xs) k) x m) ≡ None
other-word p d t u n xs k x m only at low high inside differ =
    go (word_in p (state_after p d (input_of xs) k m) (fed p d (state_after p d (input_of xs) k) x m)) refl
  where
    go : (o : Option Offer)
        → word_in p (state_after p d (input_of xs) k m) (fed p d (state_after p d (input_of xs) k) x m) ≡ o → o ≡ None
    go None e = refl
    go (Some word) e =
        let same =
        only (record { cycle = k; tile = m; domain = d; kind = Take word.payload }) word.payload (take-event p d xs k x m word at inside e) low high refl in
        absurd (differ same.0 same.1)

calm-at : (p : Plan) (d t u n : ℕ) (xs : List Input) (k : ℕ) → IsSound p → d < length p.domains
    → IsOnlyTake n t u (events_from p d 0 (start p) xs) → u < length xs → t < k → k ≤ u
    → IsCalm p d k (state_after p d (input_of xs) k) (input_of xs k)
calm-at p d t u n xs k sound there only long low high =
    let some = some-input xs k (omega arith) in
    record {
      sound = sound;
      there = there;
      reached = after-reached p d (input_of xs) k sound there;
      sums = λ m o q w inside link. after-sum p d (input_of xs) k m o q w sound inside link;
      no_word = λ m inside. subst (λ x. word_in p (state_after p d (input_of xs) k m) (fed p d (state_after p d (input_of xs) k) x m) ≡ None) (sym (input-at xs k some.0 some.1))
          (other-word p d t u n xs k some.0 m only some.1 (omega arith) high inside (λ e f. omega arith));
    }

-- ---- the law

pub lone_word-law : (p : Plan) (d n dest t : ℕ) (inputs : List Input) (word : Offer) (way : List ℕ) → IsSound p
    → d < length p.domains → IsRoute p dest n way
    → IsLoneWord p d n dest t (t + most_latency p dest n way) word (run p d (take t inputs)) inputs (events_from p d 0 (start p) inputs)
    → IsGot d dest word.payload (t + least_latency p way) (t + most_latency p dest n way) (events_from p d 0 (start p) inputs)
lone_word-law p d n dest t inputs word way sound there way_is lone =
    let x : Input = lone.input in
    let long = lone.long in
    let state = state-taken p d inputs t (omega (arith, long)) in
    let s : State = state_after p d (input_of inputs) t in
    let reached = after-reached p d (input_of inputs) t sound there in
    let void = empty-void p d t s reached (subst (IsEmptyState p d) (sym state) lone.empty) in
    let here : IsOnlyWord p d n dest s x word =
    subst (λ q. IsOnlyWord p d n dest q x word) (sym state) lone.only_word in
    let inside = hosts-inside p n d sound here.hosted in
    let listed = word-listed p d t s x n dest word sound reached void inside here.between (word-taken p d t n dest s x word sound reached void inside here) here.last here.passed
    (λ k less differ. other-word p d t (t + most_latency p dest n way) n inputs t x k lone.only_take lone.now (omega arith) (omega arith) less (λ e f. differ f)) in
    let next : IsListed p d (state_after p d (input_of inputs) (suc t)) (flit_for dest word) n 0 (s n).current Idle =
    subst (λ y. IsListed p d (step_by y) (flit_for dest word) n 0 (s n).current Idle) (sym (input-at inputs t x lone.now)) listed in
    let homes : All (GoesHome p d) (flit_for dest word ∷ []) =
    subst (All (GoesHome p d)) next.queue (((after-reached p d (input_of inputs) (suc t) sound there).sound n).queued 0 (s n).current) in
    let hosted : hosts p dest d ≡ true = homes 0 (flit_for dest word) (omega arith) in
    let home = comes-home p d (input_of inputs) (flit_for dest word) way n (s n).current (suc t) sound there refl hosted way_is
    (λ k low high. calm-at p d t (t + most_latency p dest n way) n inputs k sound there lone.only_take long low (omega (arith, high))) next in
    let some = some-input inputs home.cycle (omega (arith, home.until, long)) in
    record {
      cycle = home.cycle;
      from = omega (arith, home.from);
      until = omega (arith, home.until);
      event = got-event p d inputs home.cycle some.0 dest (flit_for dest word) some.1 (hosts-inside p dest d sound hosted) hosted
          (lone.hears home.cycle some.0 (omega (arith, home.from)) (omega (arith, home.until)) some.1) home.ejected;
    }
  where
    step_by : Input → State
    step_by y = step p d (pos t) (state_after p d (input_of inputs) t) y
