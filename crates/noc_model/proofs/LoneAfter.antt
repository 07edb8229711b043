-- A network is empty again after traffic, at each place that there is, and the law holds of its next word.
use Rattle.std.proofs.Common.{◌≡◌, ℕ, zero, suc, ◌<◌, List, [], ◌∷◌, ◌++◌, refl, sym, ap, ◌∙◌, subst, arith, get_or, lit<, Bool, true, false, ◌&&◌}
use Rattle.std.specs.Prelude.{Some, None, is_some, take, slice_get}
use Rattle.noc_model.specs.declared.Event.{Event}
use Rattle.noc_model.specs.declared.Kind.TheVariants.{Take, Got}
use Rattle.noc_model.specs.declared.Stage.TheVariants.{Idle}
use Rattle.noc_model.specs.Run.{State, Input, start, run}
use Rattle.noc_model.specs.Events.{events_from}
use Rattle.noc_model.specs.Lone.{IsEmptyState, IsOnlyTake, IsGot}
use Rattle.noc_model.specs.Examples.{two_tiles, quiet_for, offered, alone}
use Rattle.noc_model.proofs.Everything.{everything}
use Rattle.noc_model.proofs.Inputs.{input-within}
use Rattle.noc_model.proofs.Outputs.{and-first}
use Rattle.noc_model.proofs.Switched.{link-below, output-below}
use Rattle.noc_model.proofs.SoundExamples.{two_tiles-sound}
use Rattle.noc_model.proofs.LoneWord.{lone_word-law}

-- a word is offered in cycle 0, and another in cycle 12
abbrev two_words : List Input
two_words = offered 0 (alone 0x100 0xa) ∷ quiet_for 11 ++ offered 0 (alone 0x100 0xb) ∷ quiet_for 9

-- the state between them
abbrev between : State
between = run two_tiles 0 (take 12 two_words)

-- places that the plan doesn't have still hold the first word: beyond the link's one stage, and of the local output
unreal_places_are_filled : is_some ((between 0).row 1 7) ∷ is_some ((between 1).row 0 3) ∷ [] ≡ true ∷ true ∷ []
unfolding everything quiet_for
unreal_places_are_filled = refl

abbrev IsEmptyAt : ℕ → ℕ → ℕ → Type 0
IsEmptyAt n port c =
    ((between n).queue port c ≡ []) × ((between n).stage port c ≡ Idle) × ((between n).row port c ≡ None)

empty-at : (n port c : ℕ) → n < 2 → port < 3 → c < 1 → IsEmptyAt n port c
unfolding everything quiet_for
empty-at zero zero zero inside there below = (refl, refl, refl)
empty-at zero (suc zero) zero inside there below = (refl, refl, refl)
empty-at zero (suc (suc zero)) zero inside there below = (refl, refl, refl)
empty-at (suc zero) zero zero inside there below = (refl, refl, refl)
empty-at (suc zero) (suc zero) zero inside there below = (refl, refl, refl)
empty-at (suc zero) (suc (suc zero)) zero inside there below = (refl, refl, refl)
empty-at n port (suc c) inside there below = absurd (omega arith)
empty-at n (suc (suc (suc port))) c inside there below = absurd (omega arith)
empty-at (suc (suc n)) port c inside there below = absurd (omega arith)

no-flit-out : (n : ℕ) → n < 2 → (between n).ejected ≡ None
unfolding everything quiet_for
no-flit-out zero inside = refl
no-flit-out (suc zero) inside = refl
no-flit-out (suc (suc n)) inside = absurd (omega arith)

network_is_empty_after_a_word : IsEmptyState two_tiles 0 between
network_is_empty_after_a_word n inside = record {
  queue = λ port c there below. (empty-at n port c inside (output-below two_tiles n port there) (input-within two_tiles 0 port c below)).0;
  stage = λ port c there below. (empty-at n port c inside (output-below two_tiles n port there) (input-within two_tiles 0 port c below)).1;
  row = λ o m i link below. (empty-at n o i inside (link-below two_tiles n o (ap is_some link)) below).2;
  ejected = λ hosted. no-flit-out n inside;
}

-- each word is ready in a cycle of the other domain, and got as late as it may be
abbrev events_of_both : List Event
events_of_both =
    record { cycle = 0; tile = 0; domain = 0; kind = Take 0xa }
    ∷ record { cycle = 9; tile = 1; domain = 0; kind = Got (record { head = true; tail = true; payload = 0xa }) }
    ∷ record { cycle = 12; tile = 0; domain = 0; kind = Take 0xb }
    ∷ record { cycle = 21; tile = 1; domain = 0; kind = Got (record { head = true; tail = true; payload = 0xb }) } ∷ []

events_of_two_words : events_from two_tiles 0 0 (start two_tiles) two_words ≡ events_of_both
unfolding everything quiet_for
events_of_two_words = refl

only-take : IsOnlyTake 0 12 21 events_of_both
only-take e payload inside low high is = go inside.0 inside.1 inside.2
  where
    go : (k : ℕ) → k < 4 → get_or events_of_both k e ≡ e → (e.cycle ≡ 12) × (e.tile ≡ 0)
    go zero less at = absurd (let early : 0 ≡ e.cycle = ap (λ (y : Event). y.cycle) at in omega arith)
    go (suc zero) less at = absurd (let early : 9 ≡ e.cycle = ap (λ (y : Event). y.cycle) at in omega arith)
    go (suc (suc zero)) less at = (sym (ap (λ (y : Event). y.cycle) at), sym (ap (λ (y : Event). y.tile) at))
    go (suc (suc (suc zero))) less at =
        absurd (let kind : Got (record { head = true; tail = true; payload = 0xb }) ≡ Take payload = ap (λ (y : Event). y.kind) at ∙ is in cc)
    go (suc (suc (suc (suc k)))) less at = absurd (omega arith)

-- whether tile n hears in each cycle
abbrev all_hear : ℕ → List Input → Bool
all_hear n [] = true
all_hear n (x ∷ xs) = x.hears n && all_hear n xs

heard : (n : ℕ) (xs : List Input) → all_hear n xs ≡ true → (k : ℕ) (x : Input) → slice_get xs k ≡ Some x
    → x.hears n ≡ true
heard n [] all k x at = absurd (cc at)
heard n (y ∷ ys) all zero x at = let same : y ≡ x = cc at in ap (λ (z : Input). z.hears n) (sym same) ∙ and-first (y.hears n) (all_hear n ys) all
heard n (y ∷ ys) all (suc k) x at = heard n ys (rest (y.hears n) all) k x at
  where
    rest : (a : Bool) → (a && all_hear n ys) ≡ true → all_hear n ys ≡ true
    rest true h = h
    rest false h = absurd (cc h)

-- the law of the second word, with all that it asks
second_word_is_got : IsGot 0 1 0xb 20 21 (events_from two_tiles 0 0 (start two_tiles) two_words)
unfolding everything quiet_for
second_word_is_got =
    lone_word-law two_tiles 0 0 1 12 two_words (alone 0x100 0xb) (1 ∷ []) two_tiles-sound (lit< tt) (refl, refl) (record {
      empty = network_is_empty_after_a_word;
      input = offered 0 (alone 0x100 0xb);
      now = refl;
      only_word = record { hosted = refl; between = refl; offered = refl; last = refl; passed = refl };
      only_take = subst (IsOnlyTake 0 12 21) (sym events_of_two_words) only-take;
      hears = λ k x low high at. heard 1 two_words refl k x at;
      long = lit< tt;
    })
