-- The map from output channels to the places that hold them.
use Rattle.std.proofs.Common.{◌≡◌, ℕ, zero, suc, ◌+◌, ◌*◌, ◌/◌, ◌%◌, ◌<◌, ◌≤◌, ◌⊎◌, inl, inr, Bool, true, false, Option, refl, sym, ◌∙◌, ap, arith, ◌&&◌}
use Rattle.std.specs.Prelude.{Some, None, is_some, nat_lt}
use Rattle.std.specs.Option.{option_or}
use Rattle.std.proofs.lemmas.Bool.Decides.{nat_tests}
use Rattle.noc_model.specs.declared.Stage.{Stage}
use Rattle.noc_model.specs.declared.Stage.TheVariants.{Idle, Routed, Active}
use Rattle.noc_model.specs.Plan.{Plan, link_channels, in_channels, ports}
use Rattle.noc_model.specs.Pick.{least, number_if}
use Rattle.noc_model.specs.Tile.{Tile}
use Rattle.noc_model.specs.Holder.{IsHolder, IsHeldTile, goes_on, is_holding, holder_of}
use Rattle.noc_model.proofs.Least.{least-member}
use Rattle.noc_model.proofs.Inputs.{input-within, place-below, port-below, place-input, port-place, channel-place}

-- where there is a member there is a least one
pub least-some : (n : ℕ) (set : ℕ → Bool) (k : ℕ) → k < n → set k ≡ true → (j : ℕ) × (least n set ≡ Some j)
least-some zero set k below member = absurd (omega arith)
least-some (suc n) set k below member = go (least n set) refl (λ less. least-some n set k less member)
  where
    Found : Type 0
    Found = (j : ℕ) × (least (suc n) set ≡ Some j)

    go : (o : Option ℕ) → least n set ≡ o → (k < n → (j : ℕ) × (least n set ≡ Some j)) → Found
    go (Some j) is earlier = (j, ap (λ x. option_or x (number_if (set n) n)) is)
    go None is earlier = cases order
      where
        order : (k < n) ⊎ (n ≤ k)
        order = grind arith

        cases : (k < n) ⊎ (n ≤ k) → Found
        cases (inl less) = absurd (let e = (earlier less).1 in cc (e, is))
        cases (inr more) =
            let same : k ≡ n = omega arith in
            (n, ap (λ x. option_or x (number_if (set n) n)) is ∙ ap (λ b. number_if b n) (ap set (sym same) ∙ member))

goes_on-active : (st : Stage) (o w : ℕ) → goes_on st o w ≡ true → st ≡ Active o w
goes_on-active Idle o w e = absurd (cc e)
goes_on-active (Routed to) o w e = absurd (cc e)
goes_on-active (Active to v) o w e =
    let out : to ≡ o = grind (arith, nat_tests, e) in
    let on : v ≡ w = grind (arith, nat_tests, e) in
    ap (λ k. Active k v) out ∙ ap (Active o) on

active-goes_on : (o w : ℕ) → goes_on (Active o w) o w ≡ true
active-goes_on o w = let out : o ≡ o = refl in let on : w ≡ w = refl in grind (arith, nat_tests)

parts : (a b : Bool) → (a && b) ≡ true → (a ≡ true) × (b ≡ true)
parts true b e = (refl, e)
parts false b e = absurd (cc e)

joined : (a b : Bool) → a ≡ true → b ≡ true → (a && b) ≡ true
joined true b e f = f
joined false b e f = absurd (cc e)

low : (a b : ℕ) → nat_lt a b ≡ true → a < b
low a b e = grind (arith, nat_tests)

is_low : (a b : ℕ) → a < b → nat_lt a b ≡ true
is_low a b e = grind (arith, nat_tests)

-- what the map gives holds the channel
pub holder_of-holds : (p : Plan) (d : ℕ) (s : Tile) (o w k : ℕ) → holder_of p d s o w ≡ Some k
    → IsHolder p d s o w (k / link_channels p d) (k % link_channels p d)
holder_of-holds p d s o w k e =
    let member = least-member (ports p * link_channels p d) (is_holding p d s o w) k e in
    let both =
    parts (nat_lt (k % link_channels p d) (in_channels p d (k / link_channels p d))) (goes_on (s.stage (k / link_channels p d) (k % link_channels p d)) o w) member.1 in
    record {
      inside = port-below p d k member.0;
      below = low (k % link_channels p d) (in_channels p d (k / link_channels p d)) both.0;
      active = goes_on-active (s.stage (k / link_channels p d) (k % link_channels p d)) o w both.1;
    }

holding-at : (p : Plan) (d : ℕ) (s : Tile) (o w port c k : ℕ) → IsHolder p d s o w port c → k / link_channels p d ≡ port
    → k % link_channels p d ≡ c → is_holding p d s o w k ≡ true
holding-at p d s o w port c k is at_port at_c =
    rw (at_port, at_c) (joined _ _ (is_low c (in_channels p d port) is.below) (ap (λ st. goes_on st o w) is.active ∙ active-goes_on o w))

-- a holder is what the map gives
pub holder_of-is : (p : Plan) (d n : ℕ) (s : Tile) (o w port c : ℕ) → IsHeldTile p d n s → IsHolder p d s o w port c
    → holder_of p d s o w ≡ Some (port * link_channels p d + c)
holder_of-is p d n s o w port c right is =
    let within : c < link_channels p d = input-within p d port c is.below in
    let place : ℕ = port * link_channels p d + c in
    let inside = place-below p d port c is.inside within in
    let found = least-some (ports p * link_channels p d) (is_holding p d s o w) place inside
    (holding-at p d s o w port c place is (port-place p d port c within) (channel-place p d port c within)) in
    let same =
    right.one o w (found.0 / link_channels p d) (found.0 % link_channels p d) port c (holder_of-holds p d s o w found.0 found.1) is in
    found.1
    ∙ ap Some (sym (place-input p d found.0) ∙ ap (λ k. k * link_channels p d + found.0 % link_channels p d) same.0 ∙ ap (λ k. port * link_channels p d + k) same.1)

-- a channel is held exactly where the map gives a place
pub held-is_some : (p : Plan) (d n : ℕ) (s : Tile) (o w : ℕ) → IsHeldTile p d n s
    → s.held o w ≡ is_some (holder_of p d s o w)
held-is_some p d n s o w right = go (holder_of p d s o w) refl
  where
    none : (b : Bool) → s.held o w ≡ b → holder_of p d s o w ≡ None → b ≡ false
    none false is e = refl
    none true is e =
        let has = right.holder o w is in
        absurd (let some = holder_of-is p d n s o w has.port has.channel right has.is_holder in cc)

    go : (k : Option ℕ) → holder_of p d s o w ≡ k → s.held o w ≡ is_some k
    go None e = none (s.held o w) refl e
    go (Some k) e = right.held o w (k / link_channels p d) (k % link_channels p d) (holder_of-holds p d s o w k e)
