-- The events of a run, cycle by cycle and tile by tile, and the inputs of a run as a sequence.
use Rattle.std.proofs.Common.{◌≡◌, ℕ, zero, suc, ◌+◌, ◌<◌, ◌≤◌, ◌⊎◌, inl, inr, Bool, true, false, cond, List, [], ◌∷◌, ◌++◌, length, get_or, refl, sym, ap, ◌∙◌, subst, arith}
use Rattle.std.specs.Prelude.{Some, None, pos, take, filter, flat_map, slice_get, Contains, if◌then◌else◌}
use Rattle.std.proofs.lemmas.List.Elements.{Contains-append_left, Contains-append_right}
use Rattle.std.proofs.lemmas.List.Concat.{flat_map-cons}
use Rattle.std.proofs.lemmas.Option.{get_or_from_slice_get, slice_get_within}
use Rattle.noc_model.specs.declared.Flit.{Flit}
use Rattle.noc_model.specs.declared.Offer.{Offer}
use Rattle.noc_model.specs.declared.Event.{Event}
use Rattle.noc_model.specs.declared.Kind.TheVariants.{Take, Got}
use Rattle.noc_model.specs.Plan.{Plan, tiles, hosts}
use Rattle.noc_model.specs.Step.{is_open, word_in}
use Rattle.noc_model.specs.Run.{State, Input, start, step, fed, state_from, run, state_after}
use Rattle.noc_model.specs.Events.{ejected_of, offer_events, drop_events, got_events, tile_events, tabulate, hosts_of, cycle_events, events_from}
use Rattle.noc_model.proofs.TileRuns.{after-run}

-- ---- members of lists

first : {X : Type 0} (x : X) (xs : List X) → Contains (x ∷ xs) x
first x xs = (0, omega arith, refl)

later : {X : Type 0} (x : X) (xs : List X) (z : X) → Contains xs z → Contains (x ∷ xs) z
later x xs z inside = (suc inside.0, omega (arith, inside.1), inside.2)

one-of : {X : Type 0} (x : X) (xs : List X) (z : X) → Contains (x ∷ xs) z → (x ≡ z) ⊎ Contains xs z
one-of {X} x xs z inside = go inside.0 inside.1 inside.2
  where
    go : (k : ℕ) → k < suc (length xs) → get_or (x ∷ xs) k z ≡ z → (x ≡ z) ⊎ Contains xs z
    go zero less at = inl at
    go (suc k) less at = inr (k, omega (arith, less), at)

nothing : {X : Type 0} (z : X) → Contains [] z → ⊥
nothing z inside = omega (arith, inside.1)

kept : {X : Type 0} (q : X → Bool) (xs : List X) (z : X) → Contains xs z → q z ≡ true → Contains (filter q xs) z
kept q [] z inside passes = absurd (nothing z inside)
kept {X} q (x ∷ xs) z inside passes = go (q x) refl (one-of x xs z inside) (λ within. kept q xs z within passes)
  where
    go : (b : Bool) → q x ≡ b → (x ≡ z) ⊎ Contains xs z → (Contains xs z → Contains (filter q xs) z)
        → Contains (cond b (x ∷ filter q xs) (filter q xs)) z
    go true e (inl at) more = (0, omega arith, at)
    go true e (inr within) more = later x (filter q xs) z (more within)
    go false e (inl at) more = absurd (let no : true ≡ false = sym passes ∙ ap q (sym at) ∙ e in cc)
    go false e (inr within) more = more within

flat-member : {X Y : Type 0} (f : X → List Y) (xs : List X) (x : X) (y : Y) → Contains xs x → Contains (f x) y
    → Contains (flat_map f xs) y
flat-member f [] x y inside there = absurd (nothing x inside)
flat-member {X} {Y} f (a ∷ xs) x y inside there =
    subst (λ ys. Contains ys y) (sym (flat_map-cons f a xs)) (go (one-of a xs x inside) (λ within. flat-member f xs x y within there))
  where
    go : (a ≡ x) ⊎ Contains xs x → (Contains xs x → Contains (flat_map f xs) y) → Contains (f a ++ flat_map f xs) y
    go (inl at) more = Contains-append_left (f a) (flat_map f xs) y (subst (λ z. Contains (f z) y) (sym at) there)
    go (inr within) more = Contains-append_right (f a) (flat_map f xs) y (more within)

tabulate-member : {X : Type 0} (n : ℕ) (f : ℕ → X) (k : ℕ) → k < n → Contains (tabulate n f) (f k)
tabulate-member zero f k less = absurd (omega arith)
tabulate-member (suc n) f zero less = first (f 0) (tabulate n (λ j. f (suc j)))
tabulate-member (suc n) f (suc k) less =
    later (f 0) (tabulate n (λ j. f (suc j))) (f (suc k)) (tabulate-member n (λ j. f (suc j)) k (omega arith))

-- ---- events

-- the events of a tile are among those of its cycle
tile-member : (p : Plan) (d t : ℕ) (s : State) (x : Input) (n : ℕ) (e : Event) → n < tiles p → hosts p n d ≡ true
    → Contains (tile_events p d t s x n) e → Contains (cycle_events p d t s x) e
tile-member p d t s x n e inside hosted there =
    flat-member (tile_events p d t s x) (hosts_of p d) n e
    (kept (λ k. hosts p k d) (tabulate (tiles p) (λ k. k)) n (tabulate-member (tiles p) (λ k. k) n inside) hosted) there

-- and those of a cycle among those of the run
cycle-member : (p : Plan) (d : ℕ) (xs : List Input) (u k : ℕ) (s : State) (x : Input) (e : Event)
    → slice_get xs k ≡ Some x
    → Contains (cycle_events p d (u + k) (state_from p d u s (take k xs)) x) e → Contains (events_from p d u s xs) e
cycle-member p d [] u k s x e at there = absurd (cc at)
cycle-member p d (y ∷ ys) u zero s x e at there =
    let same : y ≡ x = cc at in
    let now : u + 0 ≡ u = omega arith in
    Contains-append_left (cycle_events p d u s y) (events_from p d (suc u) (step p d (pos u) s y) ys) e
    (subst (λ z. Contains (cycle_events p d u s z) e) (sym same) (subst (λ q. Contains (cycle_events p d q s x) e) now there))
cycle-member p d (y ∷ ys) u (suc k) s x e at there =
    let next : u + suc k ≡ suc u + k = omega arith in
    Contains-append_right (cycle_events p d u s y) (events_from p d (suc u) (step p d (pos u) s y) ys) e
    (cycle-member p d ys (suc u) k (step p d (pos u) s y) x e at
    (subst (λ q. Contains (cycle_events p d q (state_from p d (suc u) (step p d (pos u) s y) (take k ys)) x) e) next there))

-- ---- inputs as a sequence

-- nothing is offered, and nobody hears
nobody : Input
nobody = record { offer = λ n. None; hears = λ n. false }

-- the input of each cycle
pub input_of : List Input → ℕ → Input
unfolding nobody
input_of xs k = get_or xs k nobody

pub input-at : (xs : List Input) (k : ℕ) (x : Input) → slice_get xs k ≡ Some x → input_of xs k ≡ x
unfolding input_of
input-at xs k x e = get_or_from_slice_get xs k x nobody e

tabulate-take : (xs : List Input) (t : ℕ) → t ≤ length xs → tabulate t (λ k. get_or xs k nobody) ≡ take t xs
tabulate-take xs zero few = refl
tabulate-take [] (suc t) few = absurd (omega arith)
tabulate-take (x ∷ xs) (suc t) few = ap (λ ys. x ∷ ys) (tabulate-take xs t (omega arith))

pub state-taken : (p : Plan) (d : ℕ) (xs : List Input) (t : ℕ) → t ≤ length xs
    → state_after p d (input_of xs) t ≡ run p d (take t xs)
unfolding input_of
state-taken p d xs t few = after-run p d (input_of xs) t ∙ ap (run p d) (tabulate-take xs t few)

pub some-input : (xs : List Input) (k : ℕ) → k < length xs → (x : Input) × (slice_get xs k ≡ Some x)
some-input [] k less = absurd (omega arith)
some-input (x ∷ xs) zero less = (x, refl)
some-input (x ∷ xs) (suc k) less = some-input xs k (omega arith)

-- an event of a tile in cycle k is one of the run
pub run-member : (p : Plan) (d : ℕ) (xs : List Input) (k : ℕ) (x : Input) (n : ℕ) (e : Event) → slice_get xs k ≡ Some x
    → n < tiles p → hosts p n d ≡ true
    → Contains (tile_events p d k (state_after p d (input_of xs) k) x n) e → Contains (events_from p d 0 (start p) xs) e
run-member p d xs k x n e at inside hosted there =
    let below = slice_get_within xs k x at in
    let now : k ≡ 0 + k = omega arith in
    cycle-member p d xs 0 k (start p) x e at
    (subst (λ q. Contains (cycle_events p d q (run p d (take k xs)) x) e) now
    (subst (λ s. Contains (cycle_events p d k s x) e) (state-taken p d xs k (omega (arith, below)))
    (tile-member p d k (state_after p d (input_of xs) k) x n e inside hosted there)))

-- ---- takes and gots

in-first : {X : Type 0} (xs ys zs : List X) (x : X) → Contains xs x → Contains (xs ++ ys ++ zs) x
in-first xs ys zs x inside = Contains-append_left (xs ++ ys) zs x (Contains-append_left xs ys x inside)

-- a word that is taken is an event
pub take-event : (p : Plan) (d : ℕ) (xs : List Input) (k : ℕ) (x : Input) (n : ℕ) (word : Offer)
    → slice_get xs k ≡ Some x → n < tiles p
    → word_in p (state_after p d (input_of xs) k n) (fed p d (state_after p d (input_of xs) k) x n) ≡ Some word
    → Contains (events_from p d 0 (start p) xs) (record { cycle = k; tile = n; domain = d; kind = Take word.payload })
unfolding word_in
take-event p d xs k x n word at inside e =
    open_it (is_open p (state_after p d (input_of xs) k n)) refl (hosts p n d) refl e
  where
    there : is_open p (state_after p d (input_of xs) k n) ≡ true → hosts p n d ≡ true → x.offer n ≡ Some word
        → Contains (events_from p d 0 (start p) xs) (record { cycle = k; tile = n; domain = d; kind = Take word.payload })
    there ready hosted offer =
        let made : record { cycle = k; tile = n; domain = d; kind = Take word.payload } ∷ [] ≡ offer_events k n d (is_open p (state_after p d (input_of xs) k n)) (x.offer n) =
        sym (rw (ready, offer) refl) in
        run-member p d xs k x n (record { cycle = k; tile = n; domain = d; kind = Take word.payload }) at inside hosted
        (in-first (offer_events k n d (is_open p (state_after p d (input_of xs) k n)) (x.offer n)) _ _ _
        (subst (λ es. Contains es (record { cycle = k; tile = n; domain = d; kind = Take word.payload })) made (first _ [])))

    open_it : (b : Bool) → is_open p (state_after p d (input_of xs) k n) ≡ b → (h : Bool) → hosts p n d ≡ h
        → (if b then (if h then x.offer n else None) else None) ≡ Some word
        → Contains (events_from p d 0 (start p) xs) (record { cycle = k; tile = n; domain = d; kind = Take word.payload })
    open_it true ready true hosted offer = there ready hosted offer
    open_it true ready false hosted offer = absurd (cc offer)
    open_it false ready h hosted offer = absurd (cc offer)

-- a flit that is heard is one
pub got-event : (p : Plan) (d : ℕ) (xs : List Input) (k : ℕ) (x : Input) (n : ℕ) (f : Flit) → slice_get xs k ≡ Some x
    → n < tiles p → hosts p n d ≡ true → x.hears n ≡ true
    → (state_after p d (input_of xs) k n).ejected ≡ Some f
    → Contains (events_from p d 0 (start p) xs) (record { cycle = k; tile = n; domain = d; kind = Got (record { head = f.head; tail = f.tail; payload = f.payload }) })
got-event p d xs k x n f at inside hosted hears e =
    let event : Event =
    record { cycle = k; tile = n; domain = d; kind = Got (record { head = f.head; tail = f.tail; payload = f.payload }) } in
    let made : event ∷ [] ≡ got_events k n d (x.hears n) (ejected_of (state_after p d (input_of xs) k n).ejected) =
    sym (rw (hears, e) refl) in
    run-member p d xs k x n event at inside hosted
    (Contains-append_right (offer_events k n d (is_open p (state_after p d (input_of xs) k n)) (x.offer n) ++ drop_events k n d (state_after p d (input_of xs) k n).dropped) _ event
    (subst (λ es. Contains es event) made (first event [])))
