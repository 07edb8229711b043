-- A flit that is alone in its domain's network enters it, goes over a link, and comes to an ejection place.
use Rattle.std.proofs.Common.{◌≡◌, ◌≢◌, ℕ, zero, suc, ◌-◌, ◌<◌, ◌⊎◌, inl, inr, Bool, true, false, List, [], ◌∷◌, ◌++◌, drop, refl, sym, ap, ◌∙◌, arith, ◌==◌, ◌||◌}
use Rattle.std.specs.Prelude.{Some, None, pos, is_none, is_some, if◌then◌else◌, option_to_list}
use Rattle.std.proofs.lemmas.Bool.Decides.{nat_tests}
use Rattle.noc_model.specs.declared.Flit.{Flit}
use Rattle.noc_model.specs.declared.Offer.{Offer}
use Rattle.noc_model.specs.declared.Packet.TheVariants.{Between}
use Rattle.noc_model.specs.declared.Stage.TheVariants.{Idle, Active}
use Rattle.noc_model.specs.Plan.{Plan, tiles, hosts, channels, in_channels, lookup}
use Rattle.noc_model.specs.Sound.{IsSound}
use Rattle.noc_model.specs.Place.{neighbour, opposite, owner}
use Rattle.noc_model.specs.Step.{takes, sent, one_if, next_stage, word_in, entry_of, entry, comes_in, flit_on, next_ejected, routed}
use Rattle.noc_model.specs.Run.{State, Input, arrival, fed, step}
use Rattle.noc_model.specs.Reached.{IsReached}
use Rattle.noc_model.proofs.Kept.{positive-sound}
use Rattle.noc_model.proofs.Links.{link-from}
use Rattle.noc_model.proofs.Sum.{IsLink, arrival-is, comes_in-link}
use Rattle.noc_model.proofs.Switched.{link-below}
use Rattle.noc_model.proofs.StateKept.{neighbour-inside}
use Rattle.noc_model.proofs.LoneTile.{IsStill, still-leaves, still-sent, sent-only, same-nat}
use Rattle.noc_model.proofs.LoneState.{same-or-not, Never, Is, is-or-not, AreListsEmpty, AreRowsEmpty, queue-step, stage-step, row-step, ejected-step, quiet-step, nothing-arrives, nothing-comes, empty-still, still-rows, outs-step, pulses-step, IsListed, IsLinked, IsVoid, IsCalm}
use Rattle.noc_model.proofs.LoneMoves.{only-of, sent-elsewhere, sent-lists, link-takes, in-link, out-lane}

-- ---- out of a list

-- over a link that the domain owns
pub active-sent : (p : Plan) (d t : ℕ) (s : State) (x : Input) (f : Flit) (n port c o w m : ℕ) → IsCalm p d t s x
    → IsListed p d s f n port c (Active o w) → f.tail ≡ true
    → neighbour p n o ≡ Some m → owner p n o (pos t) ≡ d → IsLinked p d (step p d (pos t) s x) f n o m w 0
active-sent p d t s x f n port c o w m calm is tail e owned =
    let link = link-from p n o m (positive-sound p calm.sound) is.inside e in
    let taken = link-takes p d t s x f n port c o w m calm is e owned in
    record {
      inside = is.inside;
      link = e;
      channel = out-lane p d t s x f n port c o w calm is link.leaves_port;
      below = omega (arith, calm.sound.stages.0);
      row = row-step p d (pos t) s x n o 0 ∙ sent-only p d n (pos t) (s n) (fed p d s x n) port c o w f (only-of p d s f n port c o w is) taken;
      lists = sent-lists p d t s x f n port c o w calm is tail taken;
      rows = rows-after;
      outs = outs-step p d (pos t) s x (λ k inside. sent-elsewhere p d t s x f n port c o w k 0 is inside (λ same h. link.leaves_port (sym h))) is.outs;
    }
  where
    rows-after : AreRowsEmpty p (step p d (pos t) s x) (Is n o 0)
    rows-after n' o' m' zero inside there below differ =
        row-step p d (pos t) s x n' o' zero
        ∙ sent-elsewhere p d t s x f n port c o w n' o' is inside (λ a b. differ (a, b, refl))
    rows-after n' o' m' (suc i) inside there below differ =
        row-step p d (pos t) s x n' o' (suc i) ∙ is.rows n' o' m' i inside there (omega arith) (λ h. h)

-- into the ejection place
pub active-ejected : (p : Plan) (d t : ℕ) (s : State) (x : Input) (f : Flit) (n port c w : ℕ) → IsCalm p d t s x
    → IsListed p d s f n port c (Active 0 w) → hosts p n d ≡ true
    → (step p d (pos t) s x n).ejected ≡ Some f
unfolding takes
active-ejected p d t s x f n port c w calm is hosted =
    let empty : takes p d n (pos t) (s n) (fed p d s x n) 0 w ≡ true =
    ap (λ y. is_none y || (fed p d s x n).hears) (is.outs n is.inside hosted) in
    ejected-step p d (pos t) s x n
    ∙ ap (λ y. next_ejected y (fed p d s x n).hears (s n).ejected) (sent-only p d n (pos t) (s n) (fed p d s x n) port c 0 w f (only-of p d s f n port c 0 w is) empty)

-- ---- on a link

linked-still : (p : Plan) (d t : ℕ) (s : State) (x : Input) (n : ℕ) → AreListsEmpty p d s Never → n < tiles p
    → IsStill p d n (pos t) (s n) (fed p d s x n)
linked-still p d t s x n lists inside =
    empty-still p d n (pos t) (s n) (fed p d s x n) (λ port c below. lists.queue n port c inside below (λ h. h))

nothing-sent : (p : Plan) (d t : ℕ) (s : State) (x : Input) (n o : ℕ) → AreListsEmpty p d s Never → n < tiles p
    → sent p d n (pos t) (s n) (fed p d s x n) o ≡ None
nothing-sent p d t s x n o lists inside =
    still-sent p d n (pos t) (s n) (fed p d s x n) o (linked-still p d t s x n lists inside)

last-other : (a k : ℕ) → suc k < a → a - 1 ≡ k → ⊥
last-other a k less e = omega arith

-- it goes on by a place
pub linked-shifted : (p : Plan) (d t : ℕ) (s : State) (x : Input) (f : Flit) (n o m w i : ℕ) → IsCalm p d t s x
    → IsLinked p d s f n o m w i → suc i < p.stages
    → IsLinked p d (step p d (pos t) s x) f n o m w (suc i)
linked-shifted p d t s x f n o m w i calm is more = record {
  inside = is.inside;
  link = is.link;
  channel = is.channel;
  below = more;
  row = row-step p d (pos t) s x n o (suc i) ∙ is.row;
  lists = record {
    queue = λ n' port c inside below never. (quiet n' port c inside below).0;
    stage = λ n' port c inside below never. (quiet n' port c inside below).1;
  };
  rows = λ n' o' m' i' inside link below differ. still-rows p d (pos t) s x (Is n o i) (λ k q inside. nothing-sent p d t s x k q is.lists inside)
      is.rows n' o' m' i' inside link below (λ j e h. differ (h.0, h.1, e ∙ ap suc h.2));
  outs = outs-step p d (pos t) s x (λ k inside. nothing-sent p d t s x k 0 is.lists inside) is.outs;
}
  where
    quiet : (n' port c : ℕ) → n' < tiles p → c < in_channels p d port
        → ((step p d (pos t) s x n').queue port c ≡ []) × ((step p d (pos t) s x n').stage port c ≡ Idle)
    quiet n' port c inside below =
        quiet-step p d (pos t) s x n' port c (is.lists.queue n' port c inside below (λ h. h)) (is.lists.stage n' port c inside below (λ h. h))
        (nothing-comes p d s x n' port c (calm.no_word n' inside)
        (λ local. nothing-arrives p s (Is n o i) n' port calm.sound is.rows inside (λ k e h. last-other p.stages i more h.2)))

-- it comes to the next tile
pub linked-arrived : (p : Plan) (d t : ℕ) (s : State) (x : Input) (f : Flit) (n o m w i : ℕ) → IsCalm p d t s x
    → IsLinked p d s f n o m w i → suc i ≡ p.stages
    → IsListed p d (step p d (pos t) s x) f m (opposite o) w Idle
linked-arrived p d t s x f n o m w i calm is last = record {
  inside = inside;
  there = link-below p m (opposite o) (ap is_some link.back);
  below = low;
  queue = queue-step p d (pos t) s x m (opposite o) w
      ∙ ap (λ b. drop (one_if b) ((s m).queue (opposite o) w) ++ comes_in p d (s m) (fed p d s x m) (opposite o) w) (still-leaves p d m (pos t) (s m) (fed p d s x m) (opposite o) w (linked-still p d t s x m is.lists inside))
      ∙ ap (λ fs. fs ++ comes_in p d (s m) (fed p d s x m) (opposite o) w) (is.lists.queue m (opposite o) w inside low (λ h. h))
      ∙ comes_in-link p d (s m) (fed p d s x m) (opposite o) w link.arrives_port
      ∙ ap (λ y. flit_on y w) (arrival-is p s n o m link ∙ ap ((s n).row o) at_last ∙ is.row)
      ∙ ap (λ b. if b then f ∷ [] else []) (same-nat w);
  stage = stage-step p d (pos t) s x m (opposite o) w
      ∙ ap (next_stage p d m (pos t) (s m) (fed p d s x m) (opposite o) w) (is.lists.stage m (opposite o) w inside low (λ h. h))
      ∙ ap (λ fs. routed p m fs Idle) (is.lists.queue m (opposite o) w inside low (λ h. h));
  lists = record {
    queue = λ n' port c there below differ. (quiet n' port c there below differ).0;
    stage = λ n' port c there below differ. (quiet n' port c there below differ).1;
  };
  rows = λ n' o' m' i' there link' below never. still-rows p d (pos t) s x (Is n o i) (λ k q there. nothing-sent p d t s x k q is.lists there)
      is.rows n' o' m' i' there link' below (λ j e h. past p.stages i i' j last below e h.2);
  outs = outs-step p d (pos t) s x (λ k there. nothing-sent p d t s x k 0 is.lists there) is.outs;
  pulses = λ n' port' c' there. pulses-step p d (pos t) s x n' port' c' (linked-still p d t s x n' is.lists there);
}
  where
    link : IsLink p n o m
    link = link-from p n o m (positive-sound p calm.sound) is.inside is.link

    inside : m < tiles p
    inside = neighbour-inside p n o m (positive-sound p calm.sound) is.link

    low : w < in_channels p d (opposite o)
    low = rw (in-link p d (opposite o) link.arrives_port) is.channel

    at_last : p.stages - 1 ≡ i
    at_last = omega (arith, last)

    past : (a k k' j : ℕ) → suc k ≡ a → k' < a → k' ≡ suc j → j ≡ k → ⊥
    past a k k' j e less up same = omega arith

    -- what arrives is the flit, or nothing
    elsewhere : (n' port : ℕ) → n' < tiles p → (n' ≡ m → port ≡ opposite o → ⊥) → arrival p s n' port ≡ None
    elsewhere n' port there differ = nothing-arrives p s (Is n o i) n' port calm.sound is.rows there (λ k e h. at_link k e h.0 h.1)
      where
        at_link : (k : ℕ) → neighbour p n' port ≡ Some k → k ≡ n → opposite port ≡ o → ⊥
        at_link k e same out =
            let back = link-from p n' port k (positive-sound p calm.sound) there e in
            let one : Some n' ≡ Some m =
            sym back.back ∙ ap (λ a. neighbour p a (opposite port)) same ∙ ap (neighbour p n) out ∙ is.link in
            differ (cc one) (sym back.is_opposite ∙ ap opposite out)

    quiet : (n' port c : ℕ) → n' < tiles p → c < in_channels p d port → (Is m (opposite o) w n' port c → ⊥)
        → ((step p d (pos t) s x n').queue port c ≡ []) × ((step p d (pos t) s x n').stage port c ≡ Idle)
    quiet n' port c there below differ =
        quiet-step p d (pos t) s x n' port c (is.lists.queue n' port c there below (λ h. h)) (is.lists.stage n' port c there below (λ h. h)) (comes (is-or-not m (opposite o) c n' port c))
      where
        other : (b : Bool) → (w == c) ≡ b → (n' ≡ m) → (port ≡ opposite o) → (if b then f ∷ [] else []) ≡ []
        other false e at by = refl
        other true e at by = absurd (differ (at, by, sym (grind (arith, nat_tests, e))))

        comes : Is m (opposite o) c n' port c ⊎ (Is m (opposite o) c n' port c → ⊥)
            → comes_in p d (s n') (fed p d s x n') port c ≡ []
        comes (inr away) =
            nothing-comes p d s x n' port c (calm.no_word n' there) (λ local. elsewhere n' port there (λ a b. away (a, b, refl)))
        comes (inl at) =
            ap (λ a. comes_in p d (s a) (fed p d s x a) port c) at.0
            ∙ ap (λ b. comes_in p d (s m) (fed p d s x m) b c) at.1
            ∙ comes_in-link p d (s m) (fed p d s x m) (opposite o) c link.arrives_port
            ∙ ap (λ y. flit_on y c) (arrival-is p s n o m link ∙ ap ((s n).row o) at_last ∙ is.row)
            ∙ other (w == c) refl at.0 at.1

-- ---- in at the attachment

-- the only word of a packet
abbrev pub flit_for : ℕ → Offer → Flit
flit_for dest word = record { head = true; tail = true; dest = dest; payload = word.payload }

-- it enters the current list of the local port
pub word-listed : (p : Plan) (d t : ℕ) (s : State) (x : Input) (n dest : ℕ) (word : Offer) → IsSound p
    → IsReached p d (pos t) s → IsVoid p d s → n < tiles p
    → (s n).packet ≡ Between → word_in p (s n) (fed p d s x n) ≡ Some word → word.last ≡ true
    → lookup p d word.address ≡ Some dest
    → ((k : ℕ) → k < tiles p → k ≢ n → word_in p (s k) (fed p d s x k) ≡ None)
    → IsListed p d (step p d (pos t) s x) (flit_for dest word) n 0 (s n).current Idle
word-listed p d t s x n dest word sound reached void inside between taken only home others = record {
  inside = inside;
  there = omega arith;
  below = low;
  queue = queue-step p d (pos t) s x n 0 here
      ∙ ap (λ b. drop (one_if b) ((s n).queue 0 here) ++ comes_in p d (s n) (fed p d s x n) 0 here) (still-leaves p d n (pos t) (s n) (fed p d s x n) 0 here (linked-still p d t s x n void.lists inside))
      ∙ ap (λ fs. fs ++ comes_in p d (s n) (fed p d s x n) 0 here) (void.lists.queue n 0 here inside low (λ h. h))
      ∙ ap (λ b. if b then option_to_list (entry p d (s n).packet (word_in p (s n) (fed p d s x n))) else []) (same-nat here)
      ∙ ap option_to_list enters;
  stage = stage-step p d (pos t) s x n 0 here
      ∙ ap (next_stage p d n (pos t) (s n) (fed p d s x n) 0 here) (void.lists.stage n 0 here inside low (λ h. h))
      ∙ ap (λ fs. routed p n fs Idle) (void.lists.queue n 0 here inside low (λ h. h));
  lists = record {
    queue = λ n' port c there below differ. (quiet n' port c there below differ).0;
    stage = λ n' port c there below differ. (quiet n' port c there below differ).1;
  };
  rows = λ n' o' m' i' there link' below never. still-rows p d (pos t) s x Never (λ k q there. nothing-sent p d t s x k q void.lists there)
      void.rows n' o' m' i' there link' below (λ j e h. h);
  outs = outs-step p d (pos t) s x (λ k there. nothing-sent p d t s x k 0 void.lists there) void.outs;
  pulses = λ n' port' c' there. pulses-step p d (pos t) s x n' port' c' (linked-still p d t s x n' void.lists there);
}
  where
    here : ℕ
    here = (s n).current

    low : here < channels p d
    low = (reached.sound n).current

    enters : entry p d (s n).packet (word_in p (s n) (fed p d s x n)) ≡ Some (flit_for dest word)
    enters =
        ap (λ k. entry p d k (word_in p (s n) (fed p d s x n))) between
        ∙ ap (entry p d Between) taken
        ∙ ap (entry_of Between word) home
        ∙ ap (λ b. Some (record { head = true; tail = b; dest = dest; payload = word.payload })) only

    quiet : (n' port c : ℕ) → n' < tiles p → c < in_channels p d port → (Is n 0 here n' port c → ⊥)
        → ((step p d (pos t) s x n').queue port c ≡ []) × ((step p d (pos t) s x n').stage port c ≡ Idle)
    quiet n' port c there below differ =
        quiet-step p d (pos t) s x n' port c (void.lists.queue n' port c there below (λ h. h)) (void.lists.stage n' port c there below (λ h. h)) (comes port differ (same-or-not n' n))
      where
        other : (b : Bool) (fs : List Flit) → ((s n').current == c) ≡ b → (n' ≡ n) → (Is n 0 here n' 0 c → ⊥)
            → (if b then fs else []) ≡ []
        other false fs e at away = refl
        other true fs e at away =
            let same : (s n').current ≡ c = grind (arith, nat_tests, e) in
            absurd (away (at, refl, sym same ∙ ap (λ k. (s k).current) at))

        comes : (q : ℕ) → (Is n 0 here n' q c → ⊥) → (n' ≡ n) ⊎ (n' ≢ n) → comes_in p d (s n') (fed p d s x n') q c ≡ []
        comes q away (inr far) =
            nothing-comes p d s x n' q c (others n' there far) (λ local. nothing-arrives p s Never n' q sound void.rows there (λ k e h. h))
        comes zero away (inl at) =
            other ((s n').current == c) (option_to_list (entry p d (s n').packet (word_in p (s n') (fed p d s x n')))) refl at away
        comes (suc q) away (inl at) =
            ap (λ y. flit_on y c) (nothing-arrives p s Never n' (suc q) sound void.rows there (λ k e h. h))
