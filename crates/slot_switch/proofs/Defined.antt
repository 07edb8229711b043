-- What is asked for and granted is what the definition of a tile's step asks for and grants.
use Rattle.std.proofs.Common.{◌≡◌, ℕ, zero, suc, ◌<◌, Bool, true, false, Option, Some, None, refl, sym, ap, ◌∙◌, subst, arith, ℤ}
use Rattle.std.specs.Prelude.{option_map, option_and_then, ◌&&◌, ◌==◌, nat_le, if◌then◌else◌}
use Rattle.std.proofs.lemmas.Bool.Decides.{nat_tests}
use Rattle.noc_model.specs.declared.Grant.{Grant}
use Rattle.noc_model.specs.Plan.{Plan, ports}
use Rattle.noc_model.specs.Pick.{pick, least}
use Rattle.noc_model.specs.Tile.{Tile, TileIn}
use Rattle.noc_model.specs.Step.{asked, asks_for, chosen, granted_to as to_port, grant}
use Rattle.noc_model.proofs.Least.{pick-member, pick-same}
use Rattle.vc_partition.specs.Picks.{comes_first, better, with_member}
use Rattle.vc_partition.proofs.Picks.{pick-insert}
use Rattle.slot_switch.specs.declared.Granted.{Granted}
use Rattle.slot_switch.specs.Switch.{Switch, ask_at, switch_at, better_ask, chosen_in, granted_to, granted_in}
use Rattle.slot_switch.specs.Asked.{IsGrantOf, HaveGrants, AsksAs}

none-least : (n : ℕ) (f : ℕ → Bool) → ((k : ℕ) → f k ≡ false) → least n f ≡ None
none-least zero f none = refl
none-least (suc n) f none = rw (none-least n f none, none n) refl

and-none : (a : Bool) → (a && false) ≡ false
and-none true = refl
and-none false = refl

pub first-none : (n pointer : ℕ) (grants : ℕ → Option Grant)
    → option_and_then grants (pick n (λ k. false) pointer) ≡ None
unfolding pick
first-none n pointer grants =
    let late : least n (λ k. nat_le pointer k && false) ≡ None =
    none-least n (λ k. nat_le pointer k && false) (λ k. and-none (nat_le pointer k)) in
    let all : least n (λ k. false) ≡ None = none-least n (λ k. false) (λ k. refl) in
    rw (late, all) refl

step : (pointer m : ℕ) (grants : ℕ → Option Grant) (g : Grant) (o : Option ℕ) → grants m ≡ Some g → g.channel ≡ m
    → ((k : ℕ) → o ≡ Some k → IsGrantOf k (grants k))
    → Some (better_ask pointer (option_and_then grants o) g) ≡ option_and_then grants (better pointer o m)
step pointer m grants g None e own have = sym e
step pointer m grants g (Some k) e own have = go (grants k) refl (have k refl)
  where
    both : (t : Bool) (b : Grant) → grants k ≡ Some b → Some (if t then g else b) ≡ grants (if t then m else k)
    both true b is = sym e
    both false b is = sym is

    go : (f : Option Grant) → grants k ≡ f → IsGrantOf k f
        → Some (better_ask pointer (grants k) g) ≡ grants (if comes_first pointer m k then m else k)
    go None is some = absurd some
    go (Some b) is some =
        ap (λ f. Some (better_ask pointer f g)) is
        ∙ ap (λ w. Some (if comes_first pointer w b.channel then g else b)) own
        ∙ ap (λ w. Some (if comes_first pointer m w then g else b)) some
        ∙ both (comes_first pointer m k) b is

own-channel : (m : ℕ) (o : Option Grant) (g : Grant) → o ≡ Some g → IsGrantOf m o → g.channel ≡ m
own-channel m o g e is = let P : Option Grant → Type 0 = IsGrantOf m in subst P e is

pub one-more : (n pointer m : ℕ) (set : ℕ → Bool) (grants : ℕ → Option Grant) (g : Grant) → m < n
    → HaveGrants n set grants → grants m ≡ Some g → IsGrantOf m (grants m)
    → Some (better_ask pointer (option_and_then grants (pick n set pointer)) g) ≡ option_and_then grants (pick n (with_member set m) pointer)
one-more n pointer m set grants g below have e own =
    step pointer m grants g (pick n set pointer) e (own-channel m (grants m) g e own)
    (λ k at. let member = pick-member n set pointer k at in have k member.0 member.1)
    ∙ ap (option_and_then grants) (sym (pick-insert n set pointer m below))

-- ---- the definition

module _ (x : Switch) (p : Plan) (d n : ℕ) (t : ℤ) (s : Tile) (i : TileIn) (as_defined : AsksAs x p d n t s i) where
  pub chosen-is : (o : ℕ) → o < ports p → chosen_in x d o ≡ chosen p d n t s i o
  unfolding chosen
  chosen-is o there =
      ap (λ k. pick k (λ port. asks_for (ask_at x d port) o) (switch_at x d o)) as_defined.port_count
      ∙ pick-same (ports p) (λ port. asks_for (ask_at x d port) o) (λ port. asks_for (asked p d n t s i port) o) (switch_at x d o) (s.switch o)
      (λ k below. ap (λ g. asks_for g o) (as_defined.asks k below)) (as_defined.switches o there)

  chosen-port : (o port : ℕ) → chosen p d n t s i o ≡ Some port
      → (port < ports p) × (asks_for (asked p d n t s i port) o ≡ true)
  unfolding chosen
  chosen-port o port e = pick-member (ports p) (λ k. asks_for (asked p d n t s i k) o) (s.switch o) port e

  out-is : (a : Option Grant) (g : Grant) (o : ℕ) → a ≡ Some g → asks_for a o ≡ true → g.out ≡ o
  out-is None g o e asks = absurd (cc e)
  out-is (Some b) g o e asks = let same : b ≡ g = cc e in let at : b.out ≡ o = grind (arith, nat_tests) in sym (ap (λ (w : Grant). w.out) same) ∙ at

  own-port : (port : ℕ) (g : Grant) → to_port (Some port) port g ≡ Some g
  own-port port g = let e : (port == port) ≡ true = grind (arith, nat_tests) in ap (λ b. if b then Some g else None) e

  pub granted-is : (o : ℕ) (r : Granted) → o < ports p → granted_in x d o ≡ Some r
      → grant p d n t s i r.port ≡ Some r.grant
  unfolding grant
  granted-is o r there e = go (chosen p d n t s i o) refl
    where
      go : (c : Option ℕ) → chosen p d n t s i o ≡ c
          → option_and_then (λ g. to_port (chosen p d n t s i g.out) r.port g) (asked p d n t s i r.port) ≡ Some r.grant
      go None is =
          absurd (let bad : None ≡ Some r = sym (ap (option_and_then (granted_to x d)) (chosen-is o there ∙ is)) ∙ e in cc bad)
      go (Some port) is = asks (ask_at x d port) refl
        where
          asks : (a : Option Grant) → ask_at x d port ≡ a
              → option_and_then (λ g. to_port (chosen p d n t s i g.out) r.port g) (asked p d n t s i r.port) ≡ Some r.grant
          asks None at = absurd (let bad : None ≡ Some r = sym (ap (option_and_then (granted_to x d)) (chosen-is o there ∙ is) ∙ ap (option_map (λ g. let w : Granted = record { port = port; grant = g } in w)) at) ∙ e in cc bad)
          asks (Some g) at =
              let w : Granted = record { port = port; grant = g } in
              let same : w ≡ r = let both : Some w ≡ Some r = sym (ap (option_and_then (granted_to x d)) (chosen-is o there ∙ is) ∙ ap (option_map (λ g. let w : Granted = record { port = port; grant = g } in w)) at) ∙ e in cc both in
              let found = chosen-port o port is in
              let asked_is : asked p d n t s i port ≡ Some g = sym (as_defined.asks port found.0) ∙ at in
              let out : g.out ≡ o = out-is (asked p d n t s i port) g o asked_is found.1 in
              let P : Granted → Type 0 =
              λ v. option_and_then (λ g. to_port (chosen p d n t s i g.out) v.port g) (asked p d n t s i v.port) ≡ Some v.grant in
              subst P same
              (ap (option_and_then (λ g. to_port (chosen p d n t s i g.out) port g)) asked_is
              ∙ ap (λ k. to_port (chosen p d n t s i k) port g) out ∙ ap (λ c. to_port c port g) is ∙ own-port port g)

  if-some : (b : Bool) (g h : Grant) → (if b then Some g else None) ≡ Some h → (b ≡ true) × (g ≡ h)
  if-some true g h e = (refl, cc e)
  if-some false g h e = absurd (cc e)

  port-is : (c : Option ℕ) (port : ℕ) (g h : Grant) → to_port c port g ≡ Some h → (c ≡ Some port) × (g ≡ h)
  port-is None port g h e = absurd (cc e)
  port-is (Some k) port g h e = let both = if-some (k == port) g h e in let at : k ≡ port = grind (arith, nat_tests) in (ap Some at, both.1)

  pub grant-granted : (port : ℕ) (g : Grant) → port < ports p → g.out < ports p → grant p d n t s i port ≡ Some g
      → granted_in x d g.out ≡ Some (record { port = port; grant = g })
  unfolding grant
  grant-granted port g there out e = go (asked p d n t s i port) refl
    where
      go : (a : Option Grant) → asked p d n t s i port ≡ a
          → granted_in x d g.out ≡ Some (record { port = port; grant = g })
      go None is =
          absurd (let bad : None ≡ Some g = sym (ap (option_and_then (λ h. to_port (chosen p d n t s i h.out) port h)) is) ∙ e in cc bad)
      go (Some h) is =
          let both =
          port-is (chosen p d n t s i h.out) port h g (sym (ap (option_and_then (λ h. to_port (chosen p d n t s i h.out) port h)) is) ∙ e) in
          let asks : ask_at x d port ≡ Some g = as_defined.asks port there ∙ is ∙ ap Some both.1 in
          let picked : chosen_in x d g.out ≡ Some port =
          chosen-is g.out out ∙ ap (λ (w : Grant). chosen p d n t s i w.out) (sym both.1) ∙ both.0 in
          ap (option_and_then (granted_to x d)) picked ∙ ap (option_map (λ g. let w : Granted = record { port = port; grant = g } in w)) asks
