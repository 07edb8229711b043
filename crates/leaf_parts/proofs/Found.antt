-- The nets of ranges, from the last range on.
use Rattle.std.proofs.Common.{◌≡◌, ℕ, zero, suc, ◌+◌, ◌≤◌, ◌<◌, ◌^◌, Bool, true, false, List, [], ◌∷◌, ◌++◌, length, drop, refl, sym, ap, subst, ◌∙◌, arith, add-one, All, filter, Some}
use Rattle.std.proofs.lemmas.Option.{slice_get_within, get_or_from_slice_get}
use Rattle.std.proofs.lemmas.List.{drop_more}
use Rattle.std.proofs.lemmas.List.Elements.{All-get_or}
use Rattle.std.specs.Prelude.{slice_get, if◌then◌else◌, nat_le}
use Rattle.vl_tree.specs.Values.{Leaf, Item}
use Rattle.vl_model.specs.Laws.{with_items}
use Rattle.flit_word.specs.Words.{bits, bits_from, dest_bits}
use Rattle.gen_kit.specs.Families.{defined}
use Rattle.noc_model.specs.declared.Range.{Range}
use Rattle.noc_model.specs.Plan.{Plan, tiles}
use Rattle.noc_model.specs.Sound.{IsSound, IsRangeIn}
use Rattle.leaf_tie.specs.Attach.{look_nets}
use Rattle.leaf_tie.specs.Names.{port_names}
use Rattle.leaf_parts.specs.Entries.{its_names, is_reached, range_nets, range_choice, look_net}
use Rattle.leaf_parts.proofs.Loops.{items_more}

drop_at : {X : Type 0} → (xs : List X) (i : ℕ) (x : X) → slice_get xs i ≡ Some x → drop i xs ≡ x ∷ drop (i + 1) xs
drop_at xs i x e = drop_more xs i x (slice_get_within xs i x e) ∙ ap (λ y. y ∷ drop (i + 1) xs) (get_or_from_slice_get xs i x x e)

pub range_tile : (p : Plan) (i : ℕ) (r : Range) → IsSound p → slice_get p.ranges i ≡ Some r → r.tile < tiles p
range_tile p i r sound e =
    let P : Range → Type 0 = IsRangeIn (tiles p) in
    (subst P (get_or_from_slice_get p.ranges i r r e) (All-get_or P p.ranges i r (slice_get_within p.ranges i r e) sound.ranges)).0

from_one : (fuel b n : ℕ) → b ≤ bits_from fuel b n
from_one zero b n = omega arith
from_one (suc fuel) b n =
    elim (nat_le n (2 ^ b)) as (λ t. b ≤ (if t then b else bits_from fuel (b + 1) n)) [ true ↦ omega arith | false ↦ omega (arith, from_one fuel (b + 1) n) ]

pub some_bits : (p : Plan) → 1 ≤ dest_bits p
unfolding bits
some_bits p = from_one (tiles p) 1 (tiles p)

reached : (h : Range → Bool) (xs : List Range) (i : ℕ) (r : Range) → slice_get xs i ≡ Some r → h r ≡ true → filter h (drop i xs) ≡ r ∷ filter h (drop (i + 1) xs)
reached h xs i r e hit = rw (drop_at xs i r e) (rw hit refl)

skipped : (h : Range → Bool) (xs : List Range) (i : ℕ) (r : Range) → slice_get xs i ≡ Some r → h r ≡ false → filter h (drop i xs) ≡ filter h (drop (i + 1) xs)
skipped h xs i r e miss = rw (drop_at xs i r e) (rw miss refl)

pub count_more : (p : Plan) (d i last k : ℕ) (r : Range) → last ≡ i + 1 → slice_get p.ranges i ≡ Some r → is_reached p d r ≡ true
    → k ≡ length (filter (is_reached p d) (drop last p.ranges)) → k + 1 ≡ length (filter (is_reached p d) (drop i p.ranges))
count_more p d i last k r next e hit same =
    ap (λ m. m + 1) (same ∙ ap (λ m. length (filter (is_reached p d) (drop m p.ranges))) next)
    ∙ (add-one (length (filter (is_reached p d) (drop (i + 1) p.ranges))) ∙ sym (ap length (reached (is_reached p d) p.ranges i r e hit)))

pub count_same : (p : Plan) (d i last k : ℕ) (r : Range) → last ≡ i + 1 → slice_get p.ranges i ≡ Some r → is_reached p d r ≡ false
    → k ≡ length (filter (is_reached p d) (drop last p.ranges)) → k ≡ length (filter (is_reached p d) (drop i p.ranges))
count_same p d i last k r next e miss same =
    same ∙ (ap (λ m. length (filter (is_reached p d) (drop m p.ranges))) next ∙ sym (ap length (skipped (is_reached p d) p.ranges i r e miss)))

pub nets_more : (p : Plan) (n d i last k : ℕ) (r : Range) (l a b : Leaf) → last ≡ i + 1 → slice_get p.ranges i ≡ Some r → is_reached p d r ≡ true
    → k ≡ length (filter (is_reached p d) (drop last p.ranges)) → a ≡ with_items l (range_nets p n d (drop last p.ranges))
    → b ≡ with_items a (look_net p n d r k) → b ≡ with_items l (range_nets p n d (drop i p.ranges))
nets_more p n d i last k r l a b next e hit same before more =
    let its : ℕ → List Item = λ m. defined (dest_bits p) ((its_names d).look (suc m)) (range_choice p n d r m) in
    let found : List Range = filter (is_reached p d) (drop (i + 1) p.ranges) in
    let nets : List Range → List Item = look_nets ((port_names n).address d) (its_names d).look (dest_bits p) in
    let counted : k ≡ length found = same ∙ ap (λ m. length (filter (is_reached p d) (drop m p.ranges))) next in
    let one : look_net p n d r k ≡ its (length found) =
    ap (λ m. defined (dest_bits p) ((its_names d).look m) (range_choice p n d r k)) (add-one k) ∙ ap its counted in
    let was : a ≡ with_items l (nets found) = before ∙ ap (λ m. with_items l (range_nets p n d (drop m p.ranges))) next in
    items_more l a b (nets found) (look_net p n d r k) was more
    ∙ (ap (λ is. with_items l (nets found ++ is)) one
    ∙ sym (ap (λ rs. with_items l (nets rs)) (reached (is_reached p d) p.ranges i r e hit)))

pub nets_same : (p : Plan) (n d i last : ℕ) (r : Range) (l a : Leaf) → last ≡ i + 1 → slice_get p.ranges i ≡ Some r → is_reached p d r ≡ false
    → a ≡ with_items l (range_nets p n d (drop last p.ranges)) → a ≡ with_items l (range_nets p n d (drop i p.ranges))
nets_same p n d i last r l a next e miss before =
    before ∙ (ap (λ m. with_items l (range_nets p n d (drop m p.ranges))) next
    ∙ sym (ap (λ rs. with_items l (look_nets ((port_names n).address d) (its_names d).look (dest_bits p) rs)) (skipped (is_reached p d) p.ranges i r e miss)))
