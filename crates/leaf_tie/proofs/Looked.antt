-- An address is looked up by one net for each range of a tile that hosts the domain.
use Rattle.std.proofs.Common.{◌≡◌, ℕ, suc, ◌+◌, ◌-◌, ◌<◌, ◌≤◌, ◌^◌, ◌⊎◌, inl, inr, Bool, true, false, List, [], ◌∷◌, length, Option, refl, sym, ◌∙◌, ap, arith, ◌&&◌}
use Rattle.std.specs.Prelude.{Some, None, nat_le, nat_lt, if◌then◌else◌, option_map, filter, find, bit_and, ◌==◌, ◌||◌}
use Rattle.std.specs.List.{AllPairs, slice_index_or}
use Rattle.std.proofs.lemmas.Bool.Decides.{nat_tests}
use Rattle.vl_tree.specs.declared.tree.Op.TheVariants.{And, Or, Less, Equal}
use Rattle.vl_tree.specs.Values.{Name, net, not, two}
use Rattle.vl_model.specs.Meaning.{Widths, Values, value_of, one_if, chosen}
use Rattle.vl_model.specs.Parts.{Holds, AllHold}
use Rattle.gen_kit.proofs.Parts.{held-front, held-back}
use Rattle.noc_model.specs.declared.Range.{Range}
use Rattle.noc_model.specs.Plan.{Plan, hosts, holds_address, hosted_tile, lookup}
use Rattle.noc_model.specs.Sound.{AreApart}
use Rattle.leaf_tie.specs.Attach.{found_code, reach, not_below, not_above, in_range, looked, look_nets}
use Rattle.gen_kit.specs.Families.{in_bits}
use Rattle.gen_kit.proofs.Families.{bit-or}
use Rattle.leaf_tie.proofs.Buffered.{bit-and}

-- ---- the nets

at-least : (a first : ℕ) → 2 ^ 1 - 1 - one_if (nat_lt a first) ≡ one_if (nat_le first a)
at-least a first = go (nat_lt a first) refl
  where
    go : (b : Bool) → nat_lt a first ≡ b → 2 ^ 1 - 1 - one_if b ≡ one_if (nat_le first a)
    go true e = let no : nat_le first a ≡ false = grind (arith, nat_tests, e) in rw no refl
    go false e = let yes : nat_le first a ≡ true = grind (arith, nat_tests, e) in rw yes refl

at-most : (a last : ℕ) → (nat_lt a last || (a == last)) ≡ nat_le a last
at-most a last = go (nat_lt a last) refl (a == last) refl
  where
    go : (x : Bool) → nat_lt a last ≡ x → (y : Bool) → (a == last) ≡ y → (x || y) ≡ nat_le a last
    go true e y f = let yes : nat_le a last ≡ true = grind (arith, nat_tests, e) in sym yes
    go false e true f = let yes : nat_le a last ≡ true = grind (arith, nat_tests, f) in sym yes
    go false e false f = let no : nat_le a last ≡ false = grind (arith, nat_tests, e, f) in sym no

not-above-is : (w : Widths) (v : Values) (address : Name) (r : Range) → value_of w v (not_above address r) ≡ one_if (nat_le (v.net address) r.last)
not-above-is w v address r = go (r.last == 2 ^ 32 - 1)
  where
    go : (b : Bool) → value_of w v (if b then two Or (two Less (net address) (in_bits 32 r.last)) (two Equal (net address) (in_bits 32 r.last)) else not (two Less (in_bits 32 r.last) (net address))) ≡ one_if (nat_le (v.net address) r.last)
    go true = bit-or (nat_lt (v.net address) r.last) (v.net address == r.last) ∙ ap one_if (at-most (v.net address) r.last)
    go false = at-least r.last (v.net address)

in-range-is : (w : Widths) (v : Values) (address : Name) (r : Range) → value_of w v (in_range address r) ≡ one_if (holds_address (v.net address) r)
in-range-is w v address r = go (r.first == 0) refl
  where
    go : (b : Bool) → (r.first == 0) ≡ b → value_of w v (if b then not_above address r else two And (not_below address r) (not_above address r)) ≡ one_if (nat_le r.first (v.net address) && nat_le (v.net address) r.last)
    go true e =
        let all : nat_le r.first (v.net address) ≡ true = grind (arith, nat_tests, e) in
        not-above-is w v address r ∙ ap (λ b. one_if (b && nat_le (v.net address) r.last)) (sym all)
    go false e =
        ap (λ k. bit_and (2 ^ 1 - 1 - one_if (nat_lt (v.net address) r.first)) k) (not-above-is w v address r)
        ∙ ap (λ k. bit_and k (one_if (nat_le (v.net address) r.last))) (at-least (v.net address) r.first)
        ∙ bit-and (nat_le r.first (v.net address)) (nat_le (v.net address) r.last)

pub look-shown : (w : Widths) (v : Values) (address : Name) (look : ℕ → Name) (b : ℕ) (rs : List Range) → AllHold w v (look_nets address look b rs)
    → value_of w v (looked look b (length rs)) ≡ found_code b (option_map (λ (r : Range). r.tile) (find (holds_address (v.net address)) rs))
look-shown w v address look b [] h = refl
look-shown w v address look b (r ∷ rs) h =
    (held-back (Holds w v) (look_nets address look b rs) _ h).1.0
    ∙ ap (λ k. chosen k (2 ^ b + r.tile) (value_of w v (looked look b (length rs)))) (in-range-is w v address r)
    ∙ go (holds_address (v.net address) r) (look-shown w v address look b rs (held-front (Holds w v) (look_nets address look b rs) _ h))
  where
    go : (t : Bool) → value_of w v (looked look b (length rs)) ≡ found_code b (option_map (λ (r : Range). r.tile) (find (holds_address (v.net address)) rs))
        → chosen (one_if t) (2 ^ b + r.tile) (value_of w v (looked look b (length rs))) ≡ found_code b (option_map (λ (r : Range). r.tile) (if t then Some r else find (holds_address (v.net address)) rs))
    go true rest = refl
    go false rest = rest

-- ---- the ranges of hosts are enough

tile_of : Option Range → Option ℕ
tile_of x = option_map (λ (r : Range). r.tile) x

none-found : (h g : Range → Bool) (rs : List Range) → ((k : ℕ) (r : Range) → k < length rs → h (slice_index_or rs k r) ≡ false) → find h (filter g rs) ≡ None
none-found h g [] none = refl
none-found h g (r ∷ rs) none = go (g r) (none-found h g rs (λ k x below. none (suc k) x (omega arith)))
  where
    skip : (b : Bool) → b ≡ false → (x y : Option Range) → y ≡ None → (if b then x else y) ≡ None
    skip true e x y f = absurd (cc e)
    skip false e x y f = f

    go : (b : Bool) → find h (filter g rs) ≡ None → find h (if b then r ∷ filter g rs else filter g rs) ≡ None
    go true rest = skip (h r) (none 0 r (omega arith)) (Some r) (find h (filter g rs)) rest
    go false rest = rest

never-both : (a : ℕ) (q r : Range) → AreApart q r → holds_address a q ≡ true → holds_address a r ≡ false
never-both a q r apart e = go (holds_address a r) refl
  where
    parts_of : (x y : Bool) → (x && y) ≡ true → (x ≡ true) × (y ≡ true)
    parts_of true y f = (refl, f)
    parts_of false y f = absurd (cc f)

    le : (x y : ℕ) → nat_le x y ≡ true → x ≤ y
    le x y f = grind (arith, nat_tests, f)

    clash : (q.last < r.first) ⊎ (r.last < q.first) → q.first ≤ a → a ≤ q.last → r.first ≤ a → a ≤ r.last → ⊥
    clash (inl s) b c d f = omega (arith, s, b, c, d, f)
    clash (inr s) b c d f = omega (arith, s, b, c, d, f)

    go : (b : Bool) → holds_address a r ≡ b → b ≡ false
    go false f = refl
    go true f =
        let both_q = parts_of (nat_le q.first a) (nat_le a q.last) e in
        let both_r = parts_of (nat_le r.first a) (nat_le a r.last) f in
        absurd (clash apart (le q.first a both_q.0) (le a q.last both_q.1) (le r.first a both_r.0) (le a r.last both_r.1))

reach-found : (p : Plan) (d a : ℕ) (rs : List Range) → AllPairs AreApart rs → hosted_tile p d (find (holds_address a) rs) ≡ tile_of (find (holds_address a) (filter (λ (r : Range). hosts p r.tile d) rs))
unfolding tile_of
reach-found p d a [] apart = refl
reach-found p d a (r ∷ rs) apart =
    go (holds_address a r) refl (hosts p r.tile d) refl (reach-found p d a rs (λ i j x before below. apart (suc i) (suc j) x (omega (arith, before)) (omega (arith, below))))
  where
    rest : List Range
    rest = filter (λ (r : Range). hosts p r.tile d) rs

    go : (t : Bool) → holds_address a r ≡ t → (b : Bool) → hosts p r.tile d ≡ b → hosted_tile p d (find (holds_address a) rs) ≡ tile_of (find (holds_address a) (filter (λ (r : Range). hosts p r.tile d) rs))
        → hosted_tile p d (if t then Some r else find (holds_address a) rs) ≡ tile_of (find (holds_address a) (if b then r ∷ filter (λ (r : Range). hosts p r.tile d) rs else filter (λ (r : Range). hosts p r.tile d) rs))
    go true e true f same = ap (λ b. if b then Some r.tile else None) f ∙ sym (ap (λ t. tile_of (if t then Some r else find (holds_address a) (filter (λ (r : Range). hosts p r.tile d) rs))) e)
    go true e false f same =
        ap (λ b. if b then Some r.tile else None) f
        ∙ sym (ap tile_of (none-found (holds_address a) (λ (r : Range). hosts p r.tile d) rs (λ k x below. never-both a r (slice_index_or rs k x) (apart 0 (suc k) x (omega arith) (omega (arith, below))) e)))
    go false e true f same = same ∙ sym (ap (λ t. tile_of (if t then Some r else find (holds_address a) (filter (λ (r : Range). hosts p r.tile d) rs))) e)
    go false e false f same = same

pub found-shown : (p : Plan) (d : ℕ) (w : Widths) (v : Values) (address : Name) (look : ℕ → Name) (b : ℕ) → AllPairs AreApart p.ranges → AllHold w v (look_nets address look b (reach p d))
    → value_of w v (looked look b (length (reach p d))) ≡ found_code b (lookup p d (v.net address))
unfolding tile_of
found-shown p d w v address look b apart h =
    look-shown w v address look b (reach p d) h ∙ ap (found_code b) (sym (reach-found p d (v.net address) p.ranges apart))
