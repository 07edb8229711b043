-- What the outputs grant, one after the other.
use Rattle.std.proofs.Common.{◌≡◌, ◌≢◌, ℕ, ◌+◌, ◌<◌, true, false, List, length, refl, sym, ◌∙◌, ap, subst, arith, ⊎_elim}
use Rattle.std.specs.Prelude.{Option, Some, None, nat_lt, ◌==◌, if◌then◌else◌, option_map, option_and_then, slice_get, slice_index_or, slice_set}
use Rattle.std.proofs.lemmas.Bool.{cases_eq}
use Rattle.std.proofs.lemmas.Bool.Decides.{nat_tests}
use Rattle.std.proofs.lemmas.Option.{slice_get-get_or, get_or_from_slice_get}
use Rattle.noc_model.specs.declared.Grant.{Grant}
use Rattle.noc_model.specs.Pick.{pick}
use Rattle.noc_model.specs.Step.{asks_for, granted_to as to_port, after, after_grant}
use Rattle.noc_model.proofs.Least.{pick-member}
use Rattle.vc_partition.specs.Lanes.{lane}
use Rattle.vc_partition.proofs.Cuts.{lane-written, lane-other}
use Rattle.slot_switch.specs.declared.Granted.{Granted}
use Rattle.slot_switch.specs.Switch.{Switch, IsSwitch, ask_at, turn_at, switch_at, chosen_in, granted_to, granted_in, moved, with_turn, with_switch}
use Rattle.slot_switch.specs.Grants.{granted_below, switch_below, HaveGranted}
use Rattle.slot_switch.proofs.Asking.{lane-start, lane-then, lane-set}

-- ---- one output

-- an output that picks an input port grants
no-chosen : (x : Switch) (d o : ℕ) → granted_in x d o ≡ None → chosen_in x d o ≡ None
no-chosen x d o none = go (chosen_in x d o) refl
  where
    asks : (port : ℕ) (a : Option Grant) → ask_at x d port ≡ a → asks_for a o ≡ true → chosen_in x d o ≡ Some port
        → chosen_in x d o ≡ None
    asks port None at asked is = absurd (cc asked)
    asks port (Some g) at asked is = absurd (let bad = sym none ∙ ap (option_and_then (granted_to x d)) is ∙ ap (option_map (λ g. let w : Granted = record { port = port; grant = g } in w)) at in cc bad)

    go : (c : Option ℕ) → chosen_in x d o ≡ c → chosen_in x d o ≡ None
    go None is = is
    go (Some port) is =
        asks port (ask_at x d port) refl (pick-member x.ports (λ k. asks_for (ask_at x d k) o) (switch_at x d o) port is).1 is

-- what is known of a grant
pub record IsGrant (x : Switch) (d o : ℕ) (r : Granted) : Type 0 where
  pub chosen : chosen_in x d o ≡ Some r.port
  pub asked : ask_at x d r.port ≡ Some r.grant
  pub out : r.grant.out ≡ o
  pub below : r.port < x.ports

pub is-grant : (x : Switch) (d o : ℕ) (r : Granted) → granted_in x d o ≡ Some r → IsGrant x d o r
is-grant x d o r some = go (chosen_in x d o) refl
  where
    asks : (port : ℕ) (a : Option Grant) → ask_at x d port ≡ a → asks_for a o ≡ true → port < x.ports
        → chosen_in x d o ≡ Some port → IsGrant x d o r
    asks port None at asked less is = absurd (cc asked)
    asks port (Some g) at asked less is =
        let w : Granted = record { port = port; grant = g } in
        let same : w ≡ r = let both : Some w ≡ Some r = sym (ap (option_and_then (granted_to x d)) is ∙ ap (option_map (λ g. let v : Granted = record { port = port; grant = g } in v)) at) ∙ some in cc both in
        let out : g.out ≡ o = grind (arith, nat_tests) in
        let P : Granted → Type 0 = IsGrant x d o in
        subst P same (record { chosen = is; asked = at; out = out; below = less })

    go : (c : Option ℕ) → chosen_in x d o ≡ c → IsGrant x d o r
    go None is = absurd (let bad : None ≡ Some r = sym (ap (option_and_then (granted_to x d)) is) ∙ some in cc bad)
    go (Some port) is =
        let member = pick-member x.ports (λ k. asks_for (ask_at x d k) o) (switch_at x d o) port is in
        asks port (ask_at x d port) refl member.1 member.0 is

-- ---- the outputs below another

below-zero : (x : Switch) (d k : ℕ) → granted_below 0 x d k ≡ None
below-zero x d k = go (ask_at x d k)
  where
    go : (a : Option Grant)
        → option_and_then (λ g. if nat_lt g.out 0 then to_port (chosen_in x d g.out) k g else None) a ≡ None
    go None = refl
    go (Some g) = let no : nat_lt g.out 0 ≡ false = grind (arith, nat_tests) in ap (λ b. if b then to_port (chosen_in x d g.out) k g else None) no

-- an output that doesn't pick the port
below-keep : (x : Switch) (d k o : ℕ) → ((g : Grant) → to_port (chosen_in x d o) k g ≡ None)
    → granted_below (o + 1) x d k ≡ granted_below o x d k
below-keep x d k o not = go (ask_at x d k)
  where
    go : (a : Option Grant)
        → option_and_then (λ g. if nat_lt g.out (o + 1) then to_port (chosen_in x d g.out) k g else None) a
        ≡ option_and_then (λ g. if nat_lt g.out o then to_port (chosen_in x d g.out) k g else None) a
    go None = refl
    go (Some g) = ⊎_elim
        (λ (e : g.out ≡ o).
        let yes : nat_lt g.out (o + 1) ≡ true = grind (arith, nat_tests) in
        let no : nat_lt g.out o ≡ false = grind (arith, nat_tests) in
        ap (λ b. if b then to_port (chosen_in x d g.out) k g else None) yes ∙ ap (λ j. to_port (chosen_in x d j) k g) e
        ∙ not g
        ∙ sym (ap (λ b. if b then to_port (chosen_in x d g.out) k g else None) no))
        (λ (apart : g.out ≢ o).
        let same : nat_lt g.out (o + 1) ≡ nat_lt g.out o = grind (arith, nat_tests) in
        ap (λ b. if b then to_port (chosen_in x d g.out) k g else None) same)
        (cases_eq g.out o)

-- the port that an output picks
below-take : (x : Switch) (d k o : ℕ) (g : Grant) → ask_at x d k ≡ Some g → g.out ≡ o → chosen_in x d o ≡ Some k
    → granted_below (o + 1) x d k ≡ Some g
below-take x d k o g at out is =
    let yes : nat_lt g.out (o + 1) ≡ true = grind (arith, nat_tests) in
    let own : (k == k) ≡ true = grind (arith, nat_tests) in
    ap (option_and_then (λ g. if nat_lt g.out (o + 1) then to_port (chosen_in x d g.out) k g else None)) at
    ∙ ap (λ b. if b then to_port (chosen_in x d g.out) k g else None) yes ∙ ap (λ j. to_port (chosen_in x d j) k g) out
    ∙ ap (λ c. to_port c k g) is
    ∙ ap (λ b. if b then Some g else None) own

other-port : (j k : ℕ) (g : Grant) → k ≢ j → to_port (Some j) k g ≡ None
other-port j k g apart = let no : (j == k) ≡ false = grind (arith, nat_tests) in ap (λ b. if b then Some g else None) no

switch-zero : (x : Switch) (d k : ℕ) → switch_below 0 x d k ≡ switch_at x d k
switch-zero x d k = let no : nat_lt k 0 ≡ false = grind (arith, nat_tests) in ap (λ b. if b then after (chosen_in x d k) (switch_at x d k) else switch_at x d k) no

switch-own : (x : Switch) (d o : ℕ) → switch_below o x d o ≡ switch_at x d o
switch-own x d o = let no : nat_lt o o ≡ false = grind (arith, nat_tests) in ap (λ b. if b then after (chosen_in x d o) (switch_at x d o) else switch_at x d o) no

pub switch-done : (x : Switch) (d k o : ℕ) → k < o → switch_below o x d k ≡ after (chosen_in x d k) (switch_at x d k)
switch-done x d k o less = let yes : nat_lt k o ≡ true = grind (arith, nat_tests) in ap (λ b. if b then after (chosen_in x d k) (switch_at x d k) else switch_at x d k) yes

switch-other : (x : Switch) (d k o : ℕ) → k ≢ o → switch_below (o + 1) x d k ≡ switch_below o x d k
switch-other x d k o apart =
    let same : nat_lt k (o + 1) ≡ nat_lt k o = grind (arith, nat_tests) in
    ap (λ b. if b then after (chosen_in x d k) (switch_at x d k) else switch_at x d k) same

-- ---- one more output

pub have-start : (x : Switch) (u : List (List (Option Grant))) (d : ℕ)
    → ((k : ℕ) → k < x.ports → slice_get (lane u d) k ≡ Some None) → HaveGranted x x u u d 0
have-start x u d none = record {
  rest = refl;
  given = λ k there. none k there ∙ ap Some (sym (below-zero x d k));
  moved = λ k there. sym (ap (λ g. after_grant g (turn_at x d k)) (below-zero x d k));
  picked = λ k there. sym (switch-zero x d k);
  turns = lane-start x.turns d;
  switches = lane-start x.switches d;
  grants = lane-start u d;
}

module _ (x y : Switch) (u w : List (List (Option Grant))) (d o : ℕ) (there : o < x.ports) (have : HaveGranted x y u w d o) where
  same-chosen : chosen_in y d o ≡ chosen_in x d o
  same-chosen =
      ap (λ (v : Switch). pick v.ports (λ port. asks_for (ask_at v d port) o) (switch_at y d o)) have.rest
      ∙ ap (pick x.ports (λ port. asks_for (ask_at x d port) o)) (have.picked o there ∙ switch-own x d o)

  pub same-granted : granted_in y d o ≡ granted_in x d o
  same-granted =
      ap (option_and_then (granted_to y d)) same-chosen
      ∙ ap (λ (v : Switch). option_and_then (granted_to v d) (chosen_in x d o)) have.rest

  nothing : granted_in y d o ≡ None → HaveGranted x y u w d (o + 1)
  nothing none =
      let chosen : chosen_in x d o ≡ None = no-chosen x d o (sym same-granted ∙ none) in
      let keep : (k : ℕ) → granted_below (o + 1) x d k ≡ granted_below o x d k =
      λ k. below-keep x d k o (λ g. ap (λ c. to_port c k g) chosen) in
      record {
        rest = have.rest;
        given = λ k less. have.given k less ∙ ap Some (sym (keep k));
        moved = λ k less. have.moved k less ∙ sym (ap (λ g. after_grant g (turn_at x d k)) (keep k));
        picked = λ k less. have.picked k less ∙ ⊎_elim
            (λ (e : k ≡ o).
            ap (switch_below o x d) e ∙ switch-own x d o ∙ sym (ap (λ c. after c (switch_at x d o)) chosen)
            ∙ sym (switch-done x d o (o + 1) (omega arith)) ∙ sym (ap (switch_below (o + 1) x d) e))
            (λ (apart : k ≢ o). sym (switch-other x d k o apart))
            (cases_eq k o);
        turns = have.turns;
        switches = have.switches;
        grants = have.grants;
      }

  pub have-none : (z : Switch) → granted_in y d o ≡ None → z ≡ moved y d o (granted_in y d o)
      → HaveGranted x z u w d (o + 1)
  have-none z none made =
      let P : Switch → Type 0 = λ v. HaveGranted x v u w d (o + 1) in
      subst P (sym (made ∙ ap (moved y d o) none)) (nothing none)

  module _ (whole : IsSwitch x) (domain : d < length x.asks) (lanes_there : d < length u) (places : length (lane u d) ≡ x.ports) (r : Granted) (some : granted_in y d o ≡ Some r) where
    is : IsGrant x d o r
    is = is-grant x d o r (sym same-granted ∙ some)

    turns_there : d < length y.turns
    turns_there = let a = have.turns.domains in let b = whole.turns in omega (arith, a, b, domain)

    turn_there : r.port < length (lane y.turns d)
    turn_there =
        let a = have.turns.places in
        let b = whole.turn_places d domain in
        let c = is.below in
        omega (arith, a, b, c)

    switches_there : d < length y.switches
    switches_there = let a = have.switches.domains in let b = whole.switches in omega (arith, a, b, domain)

    switch_there : o < length (lane y.switches d)
    switch_there = let a = have.switches.places in let b = whole.switch_places d domain in omega (arith, a, b, there)

    grants_there : d < length w
    grants_there = let a = have.grants.domains in omega (arith, a, lanes_there)

    grant_places : length (lane w d) ≡ x.ports
    grant_places = have.grants.places ∙ places

    grant_there : r.port < length (lane w d)
    grant_there = let a = grant_places in let c = is.below in omega (arith, a, c)

    abbrev next : Switch
    next = with_switch (with_turn y d r.port (r.grant.channel + 1)) d o (r.port + 1)

    abbrev put : List (List (Option Grant))
    put = slice_set w d (slice_set (lane w d) r.port (Some r.grant))

    keep : (k : ℕ) → k ≢ r.port → granted_below (o + 1) x d k ≡ granted_below o x d k
    keep k apart = below-keep x d k o (λ g. ap (λ c. to_port c k g) is.chosen ∙ other-port r.port k g apart)

    take : granted_below (o + 1) x d r.port ≡ Some r.grant
    take = below-take x d r.port o r.grant is.asked is.out is.chosen

    given : (k : ℕ) → k < x.ports → slice_get (lane put d) k ≡ Some (granted_below (o + 1) x d k)
    given k less =
        let only = lane-set w d r.port (Some r.grant) grants_there in
        let long : k < length (lane put d) = let a = only.places in let b = grant_places in omega (arith, a, b, less) in
        slice_get-get_or (lane put d) k None long ∙ ap Some (⊎_elim
        (λ (e : k ≡ r.port). ap (λ j. slice_index_or (lane put d) j None) e ∙ lane-written w d r.port (Some r.grant) None grants_there grant_there ∙ sym take
        ∙ sym (ap (granted_below (o + 1) x d) e))
        (λ (apart : k ≢ r.port). lane-other w d r.port k (Some r.grant) None grants_there apart
        ∙ get_or_from_slice_get (lane w d) k (granted_below o x d k) None (have.given k less) ∙ sym (keep k apart))
        (cases_eq k r.port))

    turned : (k : ℕ) → k < x.ports → turn_at next d k ≡ after_grant (granted_below (o + 1) x d k) (turn_at x d k)
    turned k less = ⊎_elim
        (λ (e : k ≡ r.port). ap (turn_at next d) e ∙ lane-written y.turns d r.port (r.grant.channel + 1) 0 turns_there turn_there
        ∙ sym (ap (λ g. after_grant g (turn_at x d k)) (ap (granted_below (o + 1) x d) e ∙ take)))
        (λ (apart : k ≢ r.port). lane-other y.turns d r.port k (r.grant.channel + 1) 0 turns_there apart ∙ have.moved k less
        ∙ sym (ap (λ g. after_grant g (turn_at x d k)) (keep k apart)))
        (cases_eq k r.port)

    picks : (k : ℕ) → k < x.ports → switch_at next d k ≡ switch_below (o + 1) x d k
    picks k less = ⊎_elim
        (λ (e : k ≡ o). ap (switch_at next d) e ∙ lane-written y.switches d o (r.port + 1) 0 switches_there switch_there
        ∙ sym (ap (λ c. after c (switch_at x d o)) is.chosen) ∙ sym (switch-done x d o (o + 1) (omega arith)) ∙ sym (ap (switch_below (o + 1) x d) e))
        (λ (apart : k ≢ o). lane-other y.switches d o k (r.port + 1) 0 switches_there apart ∙ have.picked k less ∙ sym (switch-other x d k o apart))
        (cases_eq k o)

    something : HaveGranted x next u put d (o + 1)
    something = record {
      rest = ap (λ (v : Switch). let z : Switch = record v { turns = next.turns; switches = next.switches } in z) have.rest;
      given = given;
      moved = turned;
      picked = picks;
      turns = lane-then x.turns y.turns next.turns d have.turns (lane-set y.turns d r.port (r.grant.channel + 1) turns_there);
      switches = lane-then x.switches y.switches next.switches d have.switches (lane-set y.switches d o (r.port + 1) switches_there);
      grants = lane-then u w put d have.grants (lane-set w d r.port (Some r.grant) grants_there);
    }

    pub have-some : (z : Switch) (v : List (List (Option Grant))) → z ≡ moved y d o (granted_in y d o)
        → v ≡ slice_set w d (slice_set (lane w d) r.port (Some r.grant))
        → HaveGranted x z u v d (o + 1)
    have-some z v made set =
        let P : Switch → Type 0 = λ a. HaveGranted x a u put d (o + 1) in
        let Q : List (List (Option Grant)) → Type 0 = λ b. HaveGranted x z u b d (o + 1) in
        subst Q (sym set) (subst P (sym (made ∙ ap (moved y d o) some)) something)
