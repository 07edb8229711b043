-- The nets of an output's allocation show who wins which channel, and an edge keeps what the registers hold.
use Rattle.std.proofs.Common.{◌≡◌, ◌≢◌, ℕ, zero, suc, ◌+◌, ◌-◌, ◌*◌, ◌/◌, ◌%◌, ◌<◌, ◌≤◌, ◌^◌, Bool, true, false, List, Option, refl, sym, ◌∙◌, ap, arith, subst, ◌==◌, ◌&&◌, ◌||◌, ℤ}
use Rattle.std.specs.Prelude.{Some, None, not, is_some, nat_lt, nat_le, bit_and, bit_or, option_map, if◌then◌else◌}
use Rattle.std.proofs.Math.Nat.{mod-lt}
use Rattle.std.proofs.lemmas.Nat.{div-mul-add, mul-le, div-add-mod', div_below}
use Rattle.std.proofs.lemmas.Bool.Decides.{nat_tests}
use Rattle.vl_tree.specs.Values.{Item, net, bit, not as not_expr, choose, cat}
use Rattle.vl_model.specs.Meaning.{Widths, Values, one_if, chosen, value_of, values_of, widths_of}
use Rattle.vl_model.specs.Leaf.{Stepped}
use Rattle.vl_model.specs.Parts.{Holds, AllHold}
use Rattle.gen_kit.proofs.Parts.{held-front, held-back}
use Rattle.noc_model.specs.Plan.{Plan, link_channels, in_channels}
use Rattle.noc_model.specs.Pick.{least, pick, number_if}
use Rattle.noc_model.proofs.Least.{least-member}
use Rattle.noc_model.specs.Tile.{Tile, TileIn}
use Rattle.noc_model.specs.Step.{waits_for, class_of, free_channel, free_for, is_candidate, winner, is_place, taken_channel, sent, is_tail_on, after, tile_step}
use Rattle.gen_kit.specs.Masks.{mask}
use Rattle.gen_kit.specs.Groups.{HoldsIn, StepsIn, GroupGives, GroupKeeps}
use Rattle.gen_kit.specs.Rotate.{rotate_group, is_empty, IsAsked, Wins}
use Rattle.leaf_tie.specs.Places.{stage_at, queue_at, is_active, is_led, ends_at}
use Rattle.gen_kit.specs.Families.{for_each, any_upto, or_upto}
use Rattle.leaf_tie.specs.Alloc.{AllocNames, AllocSize, class_start, out_count, in_class, class_nets, asks_class, taken_nets, taken_parts, taken_channels, becomes_active, zero_of, has_one, lone_requests, class_requests, active_move, alloc_group, FitsOutput, AllocTie, AllocIn}
use Rattle.gen_kit.proofs.Sets.{mask-same, mask-and, mask-or, mask-not, mask-none, mask-some, none-zero, some-more, mask-least, mask-part, mask-cat, mask-bit}
use Rattle.gen_kit.proofs.Rotated.{rotate-shown, rotate-kept}
use Rattle.gen_kit.proofs.Families.{each-held, or-shown, any-none, any-lone}
use Rattle.leaf_tie.proofs.Nexts.{waits-next, active-next, winner-candidate, taken-some, taken-none, won}

zero-test : (x : ℕ) → x ≡ 0 → one_if (x == 0) ≡ 1
zero-test x e = rw e refl

more-test : (x : ℕ) → 0 < x → one_if (x == 0) ≡ 0
more-test x e = let no : (x == 0) ≡ false = grind (arith, nat_tests) in rw no refl

-- ---- classes

-- the free channels of a class
free_set : Tile → ℕ → AllocSize → ℕ → ℕ → Bool
free_set s o z k j = not (s.held o (class_start z k + j))

pub inside : (z : AllocSize) (k : ℕ) → k ≤ z.last → class_start z k + (z.size + 1) ≤ out_count z
inside z k le =
    let more : (k + 1) * (z.size + 1) ≤ (z.last + 1) * (z.size + 1) = mul-le (k + 1) (z.size + 1) (z.last + 1) (z.size + 1) (omega arith) (omega arith) in
    let parts : (k + 1) * (z.size + 1) ≡ k * (z.size + 1) + (z.size + 1) = grind arith in
    omega arith

free-shown : (a : AllocNames) (z : AllocSize) (w : Widths) (v : Values) (s : Tile) (o k : ℕ) → k ≤ z.last → v.net a.held ≡ mask (out_count z) (s.held o)
    → AllHold w v (class_nets a z k) → v.net (a.free k) ≡ mask (z.size + 1) (free_set s o z k)
unfolding free_set
free-shown a z w v s o k le held h =
    let width : class_start z k + z.size - class_start z k + 1 ≡ z.size + 1 = omega arith in
    let cut : v.net a.held / 2 ^ class_start z k % 2 ^ (z.size + 1) ≡ mask (z.size + 1) (λ j. s.held o (class_start z k + j)) = rw held (mask-part (z.size + 1) (class_start z k) (out_count z) (s.held o) (inside z k le)) in
    h.1.0 ∙ rw width (ap (λ x. 2 ^ (z.size + 1) - 1 - x) cut) ∙ mask-not (z.size + 1) (λ j. s.held o (class_start z k + j))

least-shown : (a : AllocNames) (z : AllocSize) (w : Widths) (v : Values) (s : Tile) (o k : ℕ) → k ≤ z.last → v.net a.held ≡ mask (out_count z) (s.held o)
    → AllHold w v (class_nets a z k) → v.net (a.least k) ≡ mask (z.size + 1) (is_place (least (z.size + 1) (free_set s o z k)))
least-shown a z w v s o k le held h =
    h.1.1.1.0 ∙ rw (free-shown a z w v s o k le held h) (mask-least (z.size + 1) (free_set s o z k))

-- the places that ask for a class that has a free channel
asks-shown : (p : Plan) (d n o : ℕ) (a : AllocNames) (z : AllocSize) (w : Widths) (v : Values) (s : Tile) (k : ℕ) → k ≤ z.last → v.net a.held ≡ mask (out_count z) (s.held o)
    → v.net a.waiting ≡ mask (z.high + 1) (λ place. waits_for (stage_at p d s place) o) → AllHold w v (class_nets a z k)
    → value_of w v (asks_class p d n o a z k) ≡ mask (z.high + 1) (λ place. is_some (least (z.size + 1) (free_set s o z k)) && (waits_for (stage_at p d s place) o && in_class p d n o k place))
asks-shown p d n o a z w v s k le held waiting h = go (least (z.size + 1) (free_set s o z k)) refl
  where
    free : v.net (a.free k) ≡ mask (z.size + 1) (free_set s o z k)
    free = free-shown a z w v s o k le held h

    both : bit_and (v.net a.waiting) (mask (z.high + 1) (in_class p d n o k)) ≡ mask (z.high + 1) (λ place. waits_for (stage_at p d s place) o && in_class p d n o k place)
    both = rw waiting (mask-and (z.high + 1) (λ place. waits_for (stage_at p d s place) o) (in_class p d n o k))

    go : (x : Option ℕ) → least (z.size + 1) (free_set s o z k) ≡ x
        → chosen (one_if (v.net (a.free k) == 0)) 0 (bit_and (v.net a.waiting) (mask (z.high + 1) (in_class p d n o k)))
        ≡ mask (z.high + 1) (λ place. is_some x && (waits_for (stage_at p d s place) o && in_class p d n o k place))
    go None is =
        rw (zero-test (v.net (a.free k)) (free ∙ none-zero (z.size + 1) (free_set s o z k) is)) (sym (mask-none (z.high + 1) (λ place. false && (waits_for (stage_at p d s place) o && in_class p d n o k place)) (λ i b. refl)))
    go (Some j) is =
        let some = some-more (z.size + 1) (free_set s o z k) j is in
        rw (more-test (v.net (a.free k)) (omega (arith, free, some.0))) both

-- ---- candidates

map-some : {A B : Type 0} (f : A → B) (x : Option A) → is_some (option_map f x) ≡ is_some x
map-some f None = refl
map-some f (Some x) = refl

-- the free channel of a class, by the sizes
free-least : (p : Plan) (d n o : ℕ) (z : AllocSize) (s : Tile) (k : ℕ) → FitsOutput p d n o z → k ≤ z.last
    → free_channel p d s o k ≡ option_map (λ j. class_start z k + j) (least (z.size + 1) (free_set s o z k))
unfolding free_set
free-least p d n o z s k fits le =
    rw (← fits.class_size)
    (ap (λ a. option_map (λ j. a + j) (least (z.size + 1) (λ j. not (s.held o (a + j))))) (fits.starts k le))

candidate-set : (p : Plan) (d n o : ℕ) (z : AllocSize) (s : Tile) → FitsOutput p d n o z → (place : ℕ)
    → any_upto z.last (λ k. is_some (least (z.size + 1) (free_set s o z k)) && (waits_for (stage_at p d s place) o && in_class p d n o k place)) ≡ is_candidate p d n s o place
candidate-set p d n o z s fits place = go (nat_lt (place % link_channels p d) (in_channels p d (place / link_channels p d))) refl
  where
    class : ℕ
    class = class_of p d n (place / link_channels p d) (place % link_channels p d) o

    none : (x y : Bool) → (x && (y && false)) ≡ false
    none true true = refl
    none true false = refl
    none false y = refl

    turned : (x y : Bool) → (x && (y && true)) ≡ (y && x)
    turned true true = refl
    turned true false = refl
    turned false true = refl
    turned false false = refl

    go : (b : Bool) → nat_lt (place % link_channels p d) (in_channels p d (place / link_channels p d)) ≡ b
        → any_upto z.last (λ k. is_some (least (z.size + 1) (free_set s o z k)) && (waits_for (stage_at p d s place) o && (b && (class == k))))
        ≡ (b && (waits_for (stage_at p d s place) o && is_some (free_for p d n s o (place / link_channels p d) (place % link_channels p d))))
    go false e = any-none z.last (λ k. is_some (least (z.size + 1) (free_set s o z k)) && (waits_for (stage_at p d s place) o && false)) (λ k le. none (is_some (least (z.size + 1) (free_set s o z k))) (waits_for (stage_at p d s place) o))
    go true e =
        let le : class ≤ z.last = fits.classes place e in
        let self : (class == class) ≡ true = grind (arith, nat_tests) in
        any-lone z.last class (λ k. is_some (least (z.size + 1) (free_set s o z k)) && (waits_for (stage_at p d s place) o && (class == k))) le
        (λ k other. (let differ : (class == k) ≡ false = grind (arith, nat_tests) in rw differ (none (is_some (least (z.size + 1) (free_set s o z k))) (waits_for (stage_at p d s place) o))))
        ∙ rw self (turned (is_some (least (z.size + 1) (free_set s o z class))) (waits_for (stage_at p d s place) o))
        ∙ ap (λ b. waits_for (stage_at p d s place) o && b) (sym (ap is_some (free-least p d n o z s class fits le) ∙ map-some (λ j. class_start z class + j) (least (z.size + 1) (free_set s o z class))))

-- ---- the nets

-- the lists of nets, one after another
pub record AllocNets (p : Plan) (d n o : ℕ) (a : AllocNames) (z : AllocSize) (w : Widths) (v : Values) : Type 0 where
  pub classes : (k : ℕ) → k ≤ z.last → AllHold w v (class_nets a z k)
  pub requests : v.net a.choice.request ≡ value_of w v (or_upto z.last (asks_class p d n o a z))
  pub choice : HoldsIn (rotate_group a.choice z.high) w v
  pub takings : (k : ℕ) → k ≤ z.last → AllHold w v (taken_nets p d n o a z k)

alloc-nets : (p : Plan) (d n o : ℕ) (a : AllocNames) (z : AllocSize) → has_one z ≡ false → GroupGives (alloc_group p d n o a z) (AllocNets p d n o a z)
alloc-nets p d n o a z more w v h =
    let family : List Item = for_each (z.last + 1) (class_nets a z) in
    let all : AllHold w v (class_requests p d n o a z) = subst (λ b. AllHold w v (if b then lone_requests a z else class_requests p d n o a z)) more h.nets in
    let rest = held-back (Holds w v) family _ all in
    let before = held-front (Holds w v) family _ all in
    record {
      classes = λ k le. each-held (Holds w v) (z.last + 1) (class_nets a z) before k (omega arith);
      requests = rest.1.0;
      choice = record { heads = held-front (Holds w v) (rotate_group a.choice z.high).heads _ h.heads.1.1; nets = held-front (Holds w v) (rotate_group a.choice z.high).nets _ rest.1.1 };
      takings = λ k le. each-held (Holds w v) (z.last + 1) (taken_nets p d n o a z) (held-back (Holds w v) (rotate_group a.choice z.high).nets _ rest.1.1) k (omega arith);
    }

class-asked : (p : Plan) (d n o : ℕ) (a : AllocNames) (z : AllocSize) (w : Widths) (v : Values) (s : Tile) → FitsOutput p d n o z → AllocNets p d n o a z w v → AllocTie p d o a z v s
    → IsAsked a.choice z.high v (is_candidate p d n s o) (s.allocation o)
class-asked p d n o a z w v s fits nets tie = record {
  request = nets.requests
      ∙ or-shown w v (z.high + 1) (asks_class p d n o a z) (λ k place. is_some (least (z.size + 1) (free_set s o z k)) && (waits_for (stage_at p d s place) o && in_class p d n o k place)) z.last
      (λ k le. asks-shown p d n o a z w v s k le tie.held tie.waiting (nets.classes k le))
      ∙ mask-same (z.high + 1) _ (is_candidate p d n s o) (λ place below. candidate-set p d n o z s fits place);
  pointer = tie.pointer;
}

-- no place beyond a port's channels waits for the output
abbrev pub NoneBeyond : Plan → ℕ → Tile → ℕ → Type 0
NoneBeyond p d s o = (place : ℕ) → nat_lt (place % link_channels p d) (in_channels p d (place / link_channels p d)) ≡ false → waits_for (stage_at p d s place) o ≡ false

-- an output with one channel has one class of one channel
one-class : (z : AllocSize) → has_one z ≡ true → (z.last ≡ 0) × (z.size ≡ 0)
one-class z one = (go-last z.last z.size product, go-size z.last z.size product)
  where
    product : (z.last + 1) * (z.size + 1) ≡ 1
    product = grind (arith, nat_tests, one)

    go-last : (a b : ℕ) → (a + 1) * (b + 1) ≡ 1 → a ≡ 0
    go-last zero b e = refl
    go-last (suc a) b e = let more : 1 * 1 ≤ (a + 1) * (b + 1) = mul-le 1 1 (a + 1) (b + 1) (omega arith) (omega arith) in let parts : (suc a + 1) * (b + 1) ≡ (a + 1) * (b + 1) + (b + 1) = grind arith in absurd (omega (arith, e, more, parts))

    go-size : (a b : ℕ) → (a + 1) * (b + 1) ≡ 1 → b ≡ 0
    go-size a zero e = refl
    go-size a (suc b) e = let more : (0 + 1) * (suc b + 1) ≤ (a + 1) * (suc b + 1) = mul-le (0 + 1) (suc b + 1) (a + 1) (suc b + 1) (omega arith) (omega arith) in absurd (omega (arith, e, more))

not-some : (b : Bool) → is_some (number_if (not b) 0) ≡ not b
not-some true = refl
not-some false = refl

-- the one channel is free where nobody holds it
one-free : (s : Tile) (o : ℕ) (z : AllocSize) (k : ℕ) → has_one z ≡ true → k ≤ z.last → is_some (least (z.size + 1) (free_set s o z k)) ≡ not (s.held o 0)
unfolding free_set
one-free s o z k one le =
    let at = one-class z one in let last = at.0 in
    let first : class_start z k ≡ 0 = (let none : k ≡ 0 = omega (arith, le, last) in ap (λ m. m * (z.size + 1)) none ∙ omega arith) in
    ap (λ m. is_some (least (m + 1) (λ j. not (s.held o (class_start z k + j))))) at.1
    ∙ ap (λ m. is_some (least (0 + 1) (λ j. not (s.held o (m + j))))) first ∙ not-some (s.held o 0)

one-candidate : (p : Plan) (d n o : ℕ) (z : AllocSize) (s : Tile) → FitsOutput p d n o z → has_one z ≡ true → NoneBeyond p d s o → (place : ℕ)
    → (not (s.held o 0) && waits_for (stage_at p d s place) o) ≡ is_candidate p d n s o place
one-candidate p d n o z s fits one beyond place = go (nat_lt (place % link_channels p d) (in_channels p d (place / link_channels p d))) refl
  where
    turned : (x y : Bool) → (x && y) ≡ (y && x)
    turned true true = refl
    turned true false = refl
    turned false true = refl
    turned false false = refl

    go : (b : Bool) → nat_lt (place % link_channels p d) (in_channels p d (place / link_channels p d)) ≡ b
        → (not (s.held o 0) && waits_for (stage_at p d s place) o) ≡ (b && (waits_for (stage_at p d s place) o && is_some (free_for p d n s o (place / link_channels p d) (place % link_channels p d))))
    go false e = ap (λ x. not (s.held o 0) && x) (beyond place e) ∙ turned (not (s.held o 0)) false
    go true e =
        let class : ℕ = class_of p d n (place / link_channels p d) (place % link_channels p d) o in
        let le : class ≤ z.last = fits.classes place e in
        let free : is_some (free_for p d n s o (place / link_channels p d) (place % link_channels p d)) ≡ not (s.held o 0) =
        ap is_some (free-least p d n o z s class fits le) ∙ map-some (λ j. class_start z class + j) (least (z.size + 1) (free_set s o z class)) ∙ one-free s o z class one le in
        turned (not (s.held o 0)) (waits_for (stage_at p d s place) o) ∙ ap (λ x. waits_for (stage_at p d s place) o && x) (sym free)

-- the set of one number
one-mask : (z : AllocSize) (set : ℕ → Bool) → has_one z ≡ true → mask (out_count z) set ≡ one_if (set 0)
one-mask z set one =
    let count : out_count z ≡ 1 = grind (arith, nat_tests, one) in
    ap (λ m. mask m set) count ∙ omega arith

lone-asked : (p : Plan) (d n o : ℕ) (a : AllocNames) (z : AllocSize) (w : Widths) (v : Values) (s : Tile) → FitsOutput p d n o z → has_one z ≡ true → NoneBeyond p d s o → AllHold w v (lone_requests a z) → AllocTie p d o a z v s
    → v.net a.choice.request ≡ mask (z.high + 1) (is_candidate p d n s o)
lone-asked p d n o a z w v s fits one beyond h tie =
    h.1.0 ∙ ap (λ k. chosen k 0 (v.net a.waiting)) (tie.held ∙ one-mask z (s.held o) one) ∙ go (s.held o 0) tie.waiting
    ∙ mask-same (z.high + 1) _ (is_candidate p d n s o) (λ place below. one-candidate p d n o z s fits one beyond place)
  where
    go : (b : Bool) → v.net a.waiting ≡ mask (z.high + 1) (λ place. waits_for (stage_at p d s place) o) → chosen (one_if b) 0 (v.net a.waiting) ≡ mask (z.high + 1) (λ place. not b && waits_for (stage_at p d s place) o)
    go true e = sym (mask-none (z.high + 1) (λ place. false && waits_for (stage_at p d s place) o) (λ m b. refl))
    go false e = e

-- the choice among the places that ask
choice-nets : (p : Plan) (d n o : ℕ) (a : AllocNames) (z : AllocSize) → GroupGives (alloc_group p d n o a z) (λ w v. HoldsIn (rotate_group a.choice z.high) w v)
choice-nets p d n o a z w v h = go (has_one z) refl h.nets
  where
    go : (b : Bool) → has_one z ≡ b → AllHold w v (if b then lone_requests a z else class_requests p d n o a z) → HoldsIn (rotate_group a.choice z.high) w v
    go true e nets = record { heads = held-front (Holds w v) (rotate_group a.choice z.high).heads _ h.heads.1.1; nets = nets.1.1 }
    go false e nets = (alloc-nets p d n o a z e w v h).choice

asked-is : (p : Plan) (d n o : ℕ) (a : AllocNames) (z : AllocSize) → FitsOutput p d n o z → GroupGives (alloc_group p d n o a z) (λ w v. (s : Tile) → NoneBeyond p d s o → AllocTie p d o a z v s
    → IsAsked a.choice z.high v (is_candidate p d n s o) (s.allocation o))
asked-is p d n o a z fits w v h s beyond tie = go (has_one z) refl h.nets
  where
    go : (b : Bool) → has_one z ≡ b → AllHold w v (if b then lone_requests a z else class_requests p d n o a z) → IsAsked a.choice z.high v (is_candidate p d n s o) (s.allocation o)
    go true e nets = record { request = lone-asked p d n o a z w v s fits e beyond nets tie; pointer = tie.pointer }
    go false e nets = class-asked p d n o a z w v s fits (alloc-nets p d n o a z e w v h) tie

pub winner-shown : (p : Plan) (d n o : ℕ) (a : AllocNames) (z : AllocSize) → FitsOutput p d n o z
    → GroupGives (alloc_group p d n o a z) (λ w v. (s : Tile) → NoneBeyond p d s o → AllocTie p d o a z v s → Wins a.choice z.high v (winner p d n s o))
unfolding winner
winner-shown p d n o a z fits w v h s beyond tie =
    rotate-shown a.choice z.high w v (choice-nets p d n o a z w v h) (is_candidate p d n s o) (s.allocation o) (asked-is p d n o a z fits w v h s beyond tie)
    ∙ ap (λ m. mask (z.high + 1) (is_place (pick m (is_candidate p d n s o) (s.allocation o)))) fits.places

apart : (c a b x y : ℕ) → x < c → y < c → a ≢ b → ((a * c + x) == (b * c + y)) ≡ false
apart c a b x y hx hy differ = go ((a * c + x) == (b * c + y)) refl
  where
    go : (t : Bool) → ((a * c + x) == (b * c + y)) ≡ t → t ≡ false
    go false e = refl
    go true e =
        let same : a * c + x ≡ b * c + y = grind (arith, nat_tests) in
        absurd (differ (sym (div-mul-add a c x hx) ∙ ap (λ m. m / c) same ∙ div-mul-add b c y hy))

-- the net of a class shows the channel that is taken
pub taken-shown : (p : Plan) (d n o : ℕ) (a : AllocNames) (z : AllocSize) → FitsOutput p d n o z → has_one z ≡ false
    → GroupGives (alloc_group p d n o a z) (λ w v. (s : Tile) → NoneBeyond p d s o → AllocTie p d o a z v s → (k : ℕ) → k ≤ z.last
    → v.net (a.taken k) ≡ mask (z.size + 1) (λ j. is_place (taken_channel p d n s o) (class_start z k + j)))
taken-shown p d n o a z fits more w v h s beyond tie k le = (nets.takings k le).1.0 ∙ go (winner p d n s o) refl
  where
    nets : AllocNets p d n o a z w v
    nets = alloc-nets p d n o a z more w v h

    under : bit_and (v.net a.choice.winner) (mask (z.high + 1) (in_class p d n o k)) ≡ mask (z.high + 1) (λ place. is_place (winner p d n s o) place && in_class p d n o k place)
    under = rw (winner-shown p d n o a z fits w v h s beyond tie) (mask-and (z.high + 1) (is_place (winner p d n s o)) (in_class p d n o k))

    lone : v.net (a.least k) ≡ mask (z.size + 1) (is_place (least (z.size + 1) (free_set s o z k)))
    lone = least-shown a z w v s o k le tie.held (nets.classes k le)

    shift : (x : Option ℕ) (b j : ℕ) → is_place x j ≡ is_place (option_map (λ m. b + m) x) (b + j)
    shift None b j = refl
    shift (Some m) b j = grind (arith, nat_tests)

    elsewhere : (x : Option ℕ) (c j : ℕ) → ((m : ℕ) → x ≡ Some m → m < z.size + 1) → j < z.size + 1 → c ≢ k → is_place (option_map (λ m. class_start z c + m) x) (class_start z k + j) ≡ false
    elsewhere None c j small below differ = refl
    elsewhere (Some m) c j small below differ = apart (z.size + 1) c k m j (small m refl) below differ

    go : (x : Option ℕ) → winner p d n s o ≡ x
        → chosen (one_if (bit_and (v.net a.choice.winner) (mask (z.high + 1) (in_class p d n o k)) == 0)) 0 (v.net (a.least k)) ≡ mask (z.size + 1) (λ j. is_place (taken_channel p d n s o) (class_start z k + j))
    go None is =
        let none : bit_and (v.net a.choice.winner) (mask (z.high + 1) (in_class p d n o k)) ≡ 0 =
        under ∙ ap (λ y. mask (z.high + 1) (λ place. is_place y place && in_class p d n o k place)) is ∙ mask-none (z.high + 1) (λ place. false && in_class p d n o k place) (λ m b. refl) in
        rw (zero-test _ none, taken-none p d n s o is) (sym (mask-none (z.size + 1) (λ j. false) (λ m b. refl)))
    go (Some q) is = split (class_of p d n (q / link_channels p d) (q % link_channels p d) o == k) refl
      where
        class : ℕ
        class = class_of p d n (q / link_channels p d) (q % link_channels p d) o

        at : taken_channel p d n s o ≡ option_map (λ j. class_start z class + j) (least (z.size + 1) (free_set s o z class))
        at = taken-some p d n s o q is ∙ free-least p d n o z s class fits (fits.classes q (winner-candidate p d n s o q is).in_range)

        these : bit_and (v.net a.choice.winner) (mask (z.high + 1) (in_class p d n o k)) ≡ mask (z.high + 1) (λ place. (q == place) && in_class p d n o k place)
        these = under ∙ ap (λ y. mask (z.high + 1) (λ place. is_place y place && in_class p d n o k place)) is

        split : (b : Bool) → (class == k) ≡ b
            → chosen (one_if (bit_and (v.net a.choice.winner) (mask (z.high + 1) (in_class p d n o k)) == 0)) 0 (v.net (a.least k)) ≡ mask (z.size + 1) (λ j. is_place (taken_channel p d n s o) (class_start z k + j))
        split true e =
            let same : class ≡ k = grind (arith, nat_tests) in
            let below : q < z.high + 1 = omega (arith, (winner-candidate p d n s o q is).below, fits.places) in
            let self : (q == q) ≡ true = grind (arith, nat_tests) in
            let member : ((q == q) && in_class p d n o k q) ≡ true = rw (self, (winner-candidate p d n s o q is).in_range, e) refl in
            let some : 0 < bit_and (v.net a.choice.winner) (mask (z.high + 1) (in_class p d n o k)) = rw these (mask-some (z.high + 1) q (λ place. (q == place) && in_class p d n o k place) below member) in
            rw (more-test _ some) (lone ∙ mask-same (z.size + 1) _ _ (λ j b.
            shift (least (z.size + 1) (free_set s o z k)) (class_start z k) j
            ∙ ap (λ c. is_place (option_map (λ m. class_start z c + m) (least (z.size + 1) (free_set s o z c))) (class_start z k + j)) (sym same)
            ∙ ap (λ y. is_place y (class_start z k + j)) (sym at)))
        split false e =
            let differ : class ≢ k = λ same. grind (arith, nat_tests, e, same) in
            let other : (place : ℕ) → ((q == place) && in_class p d n o k place) ≡ false = λ place. alone place (q == place) refl e in
            let none : bit_and (v.net a.choice.winner) (mask (z.high + 1) (in_class p d n o k)) ≡ 0 = these ∙ mask-none (z.high + 1) (λ place. (q == place) && in_class p d n o k place) (λ m b. other m) in
            rw (zero-test _ none) (sym (mask-none (z.size + 1) (λ j. is_place (taken_channel p d n s o) (class_start z k + j)) (λ j b.
            ap (λ y. is_place y (class_start z k + j)) at
            ∙ elsewhere (least (z.size + 1) (free_set s o z class)) class j (λ m f. (least-member (z.size + 1) (free_set s o z class) m f).0) b differ)))
          where
            hidden : (b : Bool) → (b && false) ≡ false
            hidden true = refl
            hidden false = refl

            alone : (place : ℕ) (b : Bool) → (q == place) ≡ b → (class == k) ≡ false → (b && in_class p d n o k place) ≡ false
            alone place false f g = refl
            alone place true f g =
                let here : q ≡ place = grind (arith, nat_tests) in
                ap (λ m. nat_lt (m % link_channels p d) (in_channels p d (m / link_channels p d)) && (class_of p d n (m / link_channels p d) (m % link_channels p d) o == k)) (sym here)
                ∙ rw g (hidden (nat_lt (q % link_channels p d) (in_channels p d (q / link_channels p d))))

-- ---- one edge

widths-of-parts : (a : AllocNames) (z : AllocSize) (w : Widths) → ((k : ℕ) → k ≤ z.last → w.net (a.taken k) ≡ z.size + 1) → (k : ℕ) → k ≤ z.last → widths_of w (taken_parts a k) ≡ (k + 1) * (z.size + 1)
widths-of-parts a z w each zero le = rw (each zero le) (omega arith)
widths-of-parts a z w each (suc k) le =
    rw (each (suc k) le, widths-of-parts a z w each k (omega arith)) (grind arith)

parts-shown : (a : AllocNames) (z : AllocSize) (w : Widths) (v : Values) (set : ℕ → Bool) → ((k : ℕ) → k ≤ z.last → w.net (a.taken k) ≡ z.size + 1)
    → ((k : ℕ) → k ≤ z.last → v.net (a.taken k) ≡ mask (z.size + 1) (λ j. set (class_start z k + j))) → (k : ℕ) → k ≤ z.last
    → values_of w v (taken_parts a k) ≡ mask ((k + 1) * (z.size + 1)) set
parts-shown a z w v set wide each zero le =
    let one : (0 + 1) * (z.size + 1) ≡ z.size + 1 = omega arith in
    rw one (omega (arith, each zero le, mask-same (z.size + 1) (λ j. set (0 * (z.size + 1) + j)) set (λ j b. (let e : 0 * (z.size + 1) + j ≡ j = omega arith in ap set e))))
parts-shown a z w v set wide each (suc k) le =
    let sum : (suc k + 1) * (z.size + 1) ≡ (k + 1) * (z.size + 1) + (z.size + 1) = grind arith in
    let start : suc k * (z.size + 1) ≡ (k + 1) * (z.size + 1) = grind arith in
    let below : values_of w v (taken_parts a k) ≡ mask ((k + 1) * (z.size + 1)) set = parts-shown a z w v set wide each k (omega arith) in
    rw (widths-of-parts a z w wide k (omega arith), below, each (suc k) le, sum, start) (sym (mask-cat (z.size + 1) ((k + 1) * (z.size + 1)) set))

place-is : (p : Plan) (d place : ℕ) → place / link_channels p d * link_channels p d + place % link_channels p d ≡ place
place-is p d place = div-add-mod' place (link_channels p d)

pick-winner : (p : Plan) (d n o : ℕ) (z : AllocSize) (s : Tile) → FitsOutput p d n o z → pick (z.high + 1) (is_candidate p d n s o) (s.allocation o) ≡ winner p d n s o
unfolding winner
pick-winner p d n o z s fits = ap (λ m. pick m (is_candidate p d n s o) (s.allocation o)) fits.places

-- a place's bits in the old state and in the new
next-waiting : (p : Plan) (d n o : ℕ) (t : ℤ) (s : Tile) (i : TileIn) (place : ℕ)
    → ((waits_for (stage_at p d s place) o && not (is_place (winner p d n s o) place)) || is_led p n (queue_at p d s place) (stage_at p d s place) o) ≡ waits_for (stage_at p d (tile_step p d n t s i) place) o
unfolding tile_step
next-waiting p d n o t s i place = sym (waits-next p d n t s i o (place / link_channels p d) (place % link_channels p d) place (stage_at p d s place) (place-is p d place) (won p d n s o place))

next-active : (p : Plan) (d n o x : ℕ) (t : ℤ) (s : Tile) (i : TileIn) (place : ℕ)
    → ((is_active (stage_at p d s place) o x && not (ends_at p d n t s i place)) || (is_place (taken_channel p d n s o) x && is_place (winner p d n s o) place)) ≡ is_active (stage_at p d (tile_step p d n t s i) place) o x
unfolding tile_step
next-active p d n o x t s i place = sym (active-next p d n t s i o x (place / link_channels p d) (place % link_channels p d) place (stage_at p d s place) (place-is p d place) (won p d n s o place))

next-pointer : (p : Plan) (d n o : ℕ) (t : ℤ) (s : Tile) (i : TileIn) → (tile_step p d n t s i).allocation o ≡ after (winner p d n s o) (s.allocation o)
unfolding tile_step
next-pointer p d n o t s i = refl

next-held : (p : Plan) (d n o : ℕ) (t : ℤ) (s : Tile) (i : TileIn) (x : ℕ) → ((s.held o x && not (is_tail_on (sent p d n t s i o) x)) || is_place (taken_channel p d n s o) x) ≡ (tile_step p d n t s i).held o x
unfolding tile_step
next-held p d n o t s i x = refl

-- all of a set, where the bit is 1
gated : (n : ℕ) (b : Bool) (set : ℕ → Bool) → chosen (one_if b) (mask n set) 0 ≡ mask n (λ i. b && set i)
gated n true set = refl
gated n false set = sym (mask-none n (λ i. false && set i) (λ i below. refl))

-- each number below a product is a row and a place in it
pub split : (c k x : ℕ) → x < (k + 1) * (c + 1) → (x / (c + 1) ≤ k) × (x % (c + 1) < c + 1) × (x / (c + 1) * (c + 1) + x % (c + 1) ≡ x)
split c k x below =
    let row : x / (c + 1) < k + 1 = div_below x (c + 1) (k + 1) (omega arith) below in
    (omega arith, mod-lt x (omega arith), div-add-mod' x (c + 1))

-- where a place wins the one channel, it takes it
one-taken : (p : Plan) (d n o : ℕ) (z : AllocSize) (s : Tile) → FitsOutput p d n o z → has_one z ≡ true → (q : ℕ) → winner p d n s o ≡ Some q → taken_channel p d n s o ≡ Some 0
one-taken p d n o z s fits one q is =
    let wins = winner-candidate p d n s o q is in
    let class : ℕ = class_of p d n (q / link_channels p d) (q % link_channels p d) o in
    let le : class ≤ z.last = fits.classes q wins.in_range in
    taken-some p d n s o q is ∙ go class le (free_for p d n s o (q / link_channels p d) (q % link_channels p d)) (free-least p d n o z s class fits le) wins.free
  where
    first : (k : ℕ) → k ≤ z.last → (x : Option ℕ) → least (z.size + 1) (free_set s o z k) ≡ x → is_some x ≡ true → option_map (λ j. class_start z k + j) x ≡ Some 0
    first k le None e some = absurd (cc some)
    first k le (Some j) e some =
        let at = one-class z one in let last = at.0 in let size = at.1 in
        let below : j < z.size + 1 = (least-member (z.size + 1) (free_set s o z k) j e).0 in
        let none : k ≡ 0 = omega (arith, le, last) in
        let start : class_start z k ≡ 0 = ap (λ m. m * (z.size + 1)) none ∙ omega arith in
        let whole : class_start z k + j ≡ 0 = omega (arith, start, below, size) in
        ap Some whole

    go : (k : ℕ) → k ≤ z.last → (y : Option ℕ) → y ≡ option_map (λ j. class_start z k + j) (least (z.size + 1) (free_set s o z k)) → is_some y ≡ true → y ≡ Some 0
    go k le y e some =
        e ∙ first k le (least (z.size + 1) (free_set s o z k)) refl (sym (map-some (λ j. class_start z k + j) (least (z.size + 1) (free_set s o z k))) ∙ sym (ap is_some e) ∙ some)

module _ (p : Plan) (d n o : ℕ) (a : AllocNames) (z : AllocSize) (fits : FitsOutput p d n o z) (w : Widths) (v : Values) (h : HoldsIn (alloc_group p d n o a z) w v) (s : Tile) (beyond : NoneBeyond p d s o) (tie : AllocTie p d o a z v s) where
  wins : v.net a.choice.winner ≡ mask (z.high + 1) (is_place (winner p d n s o))
  wins = winner-shown p d n o a z fits w v h s beyond tie

  lone-taken : has_one z ≡ true → 2 ^ 1 - 1 - one_if (v.net a.choice.winner == 0) ≡ mask (out_count z) (is_place (taken_channel p d n s o))
  lone-taken one = ap (λ k. 2 ^ 1 - 1 - one_if (k == 0)) wins ∙ go (winner p d n s o) refl ∙ sym (one-mask z (is_place (taken_channel p d n s o)) one)
    where
      go : (x : Option ℕ) → winner p d n s o ≡ x → 2 ^ 1 - 1 - one_if (mask (z.high + 1) (is_place x) == 0) ≡ one_if (is_place (taken_channel p d n s o) 0)
      go None is =
          ap (λ k. 2 ^ 1 - 1 - k) (zero-test (mask (z.high + 1) (is_place None)) (mask-none (z.high + 1) (is_place None) (λ m b. refl)))
          ∙ sym (ap (λ x. one_if (is_place x 0)) (taken-none p d n s o is))
      go (Some q) is =
          let below : q < z.high + 1 = omega (arith, (winner-candidate p d n s o q is).below, fits.places) in
          let self : (q == q) ≡ true = grind (arith, nat_tests) in
          ap (λ k. 2 ^ 1 - 1 - k) (more-test (mask (z.high + 1) (is_place (Some q))) (mask-some (z.high + 1) q (is_place (Some q)) below self))
          ∙ sym (ap (λ x. one_if (is_place x 0)) (one-taken p d n o z s fits one q is))

  -- the channels that are taken
  all-taken : value_of w v (taken_channels a z) ≡ mask (out_count z) (is_place (taken_channel p d n s o))
  all-taken = go (has_one z) refl
    where
      go : (b : Bool) → has_one z ≡ b → value_of w v (if b then not_expr (is_empty z.high (net a.choice.winner)) else cat (taken_parts a z.last)) ≡ mask (out_count z) (is_place (taken_channel p d n s o))
      go true e = lone-taken e
      go false e =
          parts-shown a z w v (is_place (taken_channel p d n s o)) (λ k le. ((alloc-nets p d n o a z e w v h).takings k le).0.0) (λ k le. taken-shown p d n o a z fits e w v h s beyond tie k le) z.last (omega arith)

  -- the place that becomes active on a channel
  becomes-shown : (k j : ℕ) → k ≤ z.last → j < z.size + 1
      → value_of w v (becomes_active a z k j) ≡ mask (z.high + 1) (λ place. is_place (taken_channel p d n s o) (class_start z k + j) && is_place (winner p d n s o) place)
  becomes-shown k j le below = go (has_one z) refl
    where
      lone : has_one z ≡ true → (x : Option ℕ) → winner p d n s o ≡ x → mask (z.high + 1) (is_place x) ≡ mask (z.high + 1) (λ place. is_place (taken_channel p d n s o) (class_start z k + j) && is_place x place)
      lone one None is = mask-same (z.high + 1) _ _ (λ place b. sym (hidden (is_place (taken_channel p d n s o) (class_start z k + j))))
        where
          hidden : (b : Bool) → (b && false) ≡ false
          hidden true = refl
          hidden false = refl
      lone one (Some q) is =
          let at = one-class z one in let last = at.0 in let size = at.1 in
          let none : k ≡ 0 = omega (arith, le, last) in
          let start : class_start z k ≡ 0 = ap (λ m. m * (z.size + 1)) none ∙ omega arith in
          let first : class_start z k + j ≡ 0 = omega (arith, start, below, size) in
          let taken : is_place (taken_channel p d n s o) (class_start z k + j) ≡ true = ap (λ x. is_place x (class_start z k + j)) (one-taken p d n o z s fits one q is) ∙ ap (λ m. 0 == m) first in
          mask-same (z.high + 1) _ _ (λ place b. sym (ap (λ y. y && (q == place)) taken))

      go : (b : Bool) → has_one z ≡ b → value_of w v (if b then net a.choice.winner else choose (bit (a.taken k) j) (net a.choice.winner) (zero_of z.high))
          ≡ mask (z.high + 1) (λ place. is_place (taken_channel p d n s o) (class_start z k + j) && is_place (winner p d n s o) place)
      go true e = wins ∙ lone e (winner p d n s o) refl
      go false e =
          let one_bit : v.net (a.taken k) / 2 ^ j % 2 ≡ one_if (is_place (taken_channel p d n s o) (class_start z k + j)) = rw (taken-shown p d n o a z fits e w v h s beyond tie k le) (mask-bit (z.size + 1) j (λ m. is_place (taken_channel p d n s o) (class_start z k + m)) below) in
          rw (one_bit, wins) (gated (z.high + 1) (is_place (taken_channel p d n s o) (class_start z k + j)) (is_place (winner p d n s o)))

pub alloc-kept : (p : Plan) (d n o : ℕ) (a : AllocNames) (z : AllocSize) → FitsOutput p d n o z
    → GroupKeeps (alloc_group p d n o a z) (λ w v u. (t : ℤ) (s : Tile) (i : TileIn) → AllocIn p d n o a z w v t s i → AllocTie p d o a z v s → AllocTie p d o a z u (tile_step p d n t s i))
alloc-kept p d n o a z fits w v u h k e t s i from tie = record {
  waiting = e.moves.0 ∙ rw (width, won_by, tie.waiting, from.led, mask-not (z.high + 1) (is_place (winner p d n s o)), mask-and (z.high + 1) (λ place. waits_for (stage_at p d s place) o) (λ place. not (is_place (winner p d n s o) place)))
      (mask-or (z.high + 1) _ _ ∙ mask-same (z.high + 1) _ _ (λ place below. next-waiting p d n o t s i place));
  held = e.moves.1.0
      ∙ ap (λ m. bit_or (bit_and (v.net a.held) (2 ^ w.net a.freed - 1 - v.net a.freed)) m) (all-taken p d n o a z fits w v h s from.beyond tie)
      ∙ rw (from.freed_width, tie.held, from.freed, mask-not (out_count z) (is_tail_on (sent p d n t s i o)), mask-and (out_count z) (s.held o) (λ x. not (is_tail_on (sent p d n t s i o) x)))
      (mask-or (out_count z) _ _ ∙ mask-same (out_count z) _ _ (λ x below. next-held p d n o t s i x));
  active = λ x below. (let at = split z.size z.last x below in subst (λ y. u.net (a.active y) ≡ mask (z.high + 1) (λ place. is_active (stage_at p d (tile_step p d n t s i) place) o y)) at.2 (one-active (x / (z.size + 1)) (x % (z.size + 1)) at.0 at.1));
  pointer = rotate-kept a.choice z.high w v u choice later rotates (is_candidate p d n s o) (s.allocation o) (asked-is p d n o a z fits w v h s from.beyond tie)
      ∙ ap (λ y. mask (z.high + 1) (nat_le (after y (s.allocation o)))) (pick-winner p d n o z s fits) ∙ ap (λ y. mask (z.high + 1) (nat_le y)) (sym (next-pointer p d n o t s i));
}
  where
    choice : HoldsIn (rotate_group a.choice z.high) w v
    choice = choice-nets p d n o a z w v h

    later : HoldsIn (rotate_group a.choice z.high) w u
    later = choice-nets p d n o a z w u k

    width : w.net a.choice.winner ≡ z.high + 1
    width = choice.nets.1.1.0.0

    won_by : v.net a.choice.winner ≡ mask (z.high + 1) (is_place (winner p d n s o))
    won_by = winner-shown p d n o a z fits w v h s from.beyond tie

    rotates : StepsIn (rotate_group a.choice z.high) w v u
    rotates = record { heads = held-front (Stepped w v u) (rotate_group a.choice z.high).heads _ e.heads.1.1; moves = held-front (Stepped w v u) (rotate_group a.choice z.high).moves _ e.moves.1.1 }

    one-active : (k j : ℕ) → k ≤ z.last → j < z.size + 1 → u.net (a.active (class_start z k + j)) ≡ mask (z.high + 1) (λ place. is_active (stage_at p d (tile_step p d n t s i) place) o (class_start z k + j))
    one-active k j le below =
        let x : ℕ = class_start z k + j in
        let inside : x < out_count z = omega (arith, inside z k le) in
        let move = each-held (Stepped w v u) (z.size + 1) (active_move a z k) (each-held (Stepped w v u) (z.last + 1) (λ m. for_each (z.size + 1) (active_move a z m)) (held-back (Stepped w v u) (rotate_group a.choice z.high).moves _ e.moves.1.1) k (omega arith)) j below in
        move.0 ∙ ap (λ m. bit_or (bit_and (v.net (a.active x)) (2 ^ w.net a.ends - 1 - v.net a.ends)) m) (becomes-shown p d n o a z fits w v h s from.beyond tie k j le below)
        ∙ rw (from.ends_width, tie.active x inside, from.ends, mask-not (z.high + 1) (ends_at p d n t s i), mask-and (z.high + 1) (λ place. is_active (stage_at p d s place) o x) (λ place. not (ends_at p d n t s i place)))
        (mask-or (z.high + 1) _ _ ∙ mask-same (z.high + 1) _ _ (λ place b. next-active p d n o x t s i place))
