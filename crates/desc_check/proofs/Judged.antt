-- What a draft without a fault has.
use Rattle.std.proofs.Common.{◌≡◌, ℕ, ◌+◌, ◌<◌, Bool, true, false, not, ◌&&◌, ◌||◌, List, length, get_or, Option, Some, None, refl, arith}
use Rattle.std.specs.Prelude.{nat_le, nat_lt, ℤ, pos}
use Rattle.std.specs.Option.{option_or}
use Rattle.std.specs.Ordering.{int_eq}
use Rattle.std.specs.Str.{bytes_eq}
use Rattle.std.proofs.lemmas.Bool.Decides.{nat_tests}
use Rattle.noc_desc.specs.declared.Draft.{Draft}
use Rattle.noc_desc.specs.declared.DraftDomain.{DraftDomain}
use Rattle.noc_desc.specs.declared.DraftRange.{DraftRange}
use Rattle.noc_desc.specs.declared.DescFault.{DescFault}
use Rattle.noc_desc.specs.declared.DescFault.TheVariants.{DomainName, DomainTwice, Channels, RangeTile, RangeOrder, RangeOverlap, SlotUnknown, SlotMissing}
use Rattle.desc_check.specs.Words.{fault_if, is_within, is_below, is_name, is_domain, is_among}
use Rattle.desc_check.specs.Faults.{domain_name_fault, same_name_fault, domain_twice_fault, channels_fault, range_tile_fault, is_in_order, range_order_fault, overlaps_later, overlap_fault, range_overlap_fault, slot_unknown_fault, slot_missing_fault}
use Rattle.desc_check.specs.Network.{plan_of_draft}
use Rattle.desc_check.specs.Accepted.{form_fault, domains_fault, tiles_fault, ranges_fault, lists_fault, plan_fault, sizes_fault, slots_fault, first_fault}
use Rattle.desc_check.proofs.Lists.{neither, holds_not, holds, none_at}

pub both : (a b : Bool) → (a && b) ≡ true → (a ≡ true) × (b ≡ true)
both true b h = (refl, h)
both false b h = absurd (cc)

left_of : (a b : Bool) → (not a || b) ≡ false → (a ≡ true) × (b ≡ false)
left_of true b h = (refl, h)
left_of false b h = absurd (cc)

pub denied : (a : Bool) → not a ≡ false → a ≡ true
denied true h = refl
denied false h = absurd (cc)

pub second : (a b : Bool) → (a && b) ≡ false → a ≡ true → b ≡ false
second true b h e = h
second false b h e = absurd (cc)

pub good_name : (xs : List DraftDomain) → domain_name_fault xs ≡ None → (k : ℕ) (d : DraftDomain) → k < length xs
    → is_name (get_or xs k d).name ≡ true
good_name xs h k d less =
    holds _ (DomainName (0 + k)) (none_at (λ i x. fault_if (not (is_name x.name)) (DomainName i)) 0 xs h k d less)

pub good_channels : (xs : List DraftDomain) → channels_fault xs ≡ None → (k : ℕ) (d : DraftDomain) → k < length xs
    → is_within 1 4 (get_or xs k d).channels ≡ true
good_channels xs h k d less =
    holds _ (Channels (0 + k)) (none_at (λ i x. fault_if (not (is_within 1 4 x.channels)) (Channels i)) 0 xs h k d less)

before : (i j : ℕ) → i < j → nat_lt (0 + i) (0 + j) ≡ true
before i j h = grind (arith, nat_tests)

pub names_apart : (xs : List DraftDomain) → domain_twice_fault xs ≡ None → (i j : ℕ) (d : DraftDomain) → i < j
    → j < length xs → bytes_eq (get_or xs i d).name (get_or xs j d).name ≡ false
names_apart xs h i j d less below =
    let row = none_at (same_name_fault xs) 0 xs h i d (omega arith) in
    let at =
    none_at (λ j y. fault_if (nat_lt (0 + i) j && bytes_eq (get_or xs i d).name y.name) (DomainTwice (0 + i) j)) 0 xs row j d below in
    second (nat_lt (0 + i) (0 + j)) _ (holds_not _ (DomainTwice (0 + i) (0 + j)) at) (before i j less)

pub good_tile : (tiles : ℕ) (xs : List DraftRange) → range_tile_fault tiles xs ≡ None → (k : ℕ) (d : DraftRange)
    → k < length xs → (is_below tiles (get_or xs k d).tile ≡ true) × (nat_le 1024 (0 + k) ≡ false)
good_tile tiles xs h k d less =
    left_of _ (nat_le 1024 (0 + k)) (holds_not _ (RangeTile (0 + k)) (none_at (λ i x. fault_if (not (is_below tiles x.tile) || nat_le 1024 i) (RangeTile i)) 0 xs h k d less))

pub in_order : (xs : List DraftRange) → range_order_fault xs ≡ None → (k : ℕ) (d : DraftRange) → k < length xs
    → is_in_order (get_or xs k d) ≡ true
in_order xs h k d less =
    holds _ (RangeOrder (0 + k)) (none_at (λ i x. fault_if (not (is_in_order x)) (RangeOrder i)) 0 xs h k d less)

pub ranges_apart : (xs : List DraftRange) → range_overlap_fault xs ≡ None → (i j : ℕ) (d : DraftRange) → i < j
    → j < length xs → overlaps_later (0 + i) (get_or xs i d) (0 + j) (get_or xs j d) ≡ false
ranges_apart xs h i j d less below =
    let row = none_at (overlap_fault xs) 0 xs h i d (omega arith) in
    holds_not _ (RangeOverlap (0 + i) (0 + j)) (none_at (λ j y. fault_if (overlaps_later (0 + i) (get_or xs i d) j y) (RangeOverlap (0 + i) j)) 0 xs row j d below)

pub slot_known : (xs : List DraftDomain) (slots : List (List ℕ)) → slot_unknown_fault xs slots ≡ None
    → (k : ℕ) (d : List ℕ) → k < length slots → is_domain xs (get_or slots k d) ≡ true
slot_known xs slots h k d less =
    holds _ (SlotUnknown (0 + k)) (none_at (λ i name. fault_if (not (is_domain xs name)) (SlotUnknown i)) 0 slots h k d less)

pub has_slot : (version : ℤ) (xs : List DraftDomain) (slots : List (List ℕ))
    → slot_missing_fault version xs slots ≡ None → int_eq version (pos 2) ≡ true → (k : ℕ) (d : DraftDomain)
    → k < length xs → is_among slots (get_or xs k d).name ≡ true
has_slot version xs slots h two k d less =
    let at =
    none_at (λ i x. fault_if (int_eq version (pos 2) && not (is_among slots x.name)) (SlotMissing i)) 0 xs h k d less in
    denied _ (second (int_eq version (pos 2)) _ (holds_not _ (SlotMissing (0 + k)) at) two)

-- ---- groups of faults

pub form_none : (d : Draft) → lists_fault d ≡ None → form_fault d ≡ None
form_none d h = (neither (form_fault d) _ h).0

pub domains_none : (d : Draft) → lists_fault d ≡ None → domains_fault d ≡ None
domains_none d h = (neither (domains_fault d) _ (neither (form_fault d) _ h).1).0

pub ranges_none : (d : Draft) → lists_fault d ≡ None → ranges_fault d ≡ None
ranges_none d h =
    (neither (ranges_fault d) _ (neither (tiles_fault d) _ (neither (domains_fault d) _ (neither (form_fault d) _ h).1).1).1).0

none_of_three : (a b c : Option DescFault) → a ≡ None → b ≡ None → c ≡ None
    → option_or a (option_or b (option_or c None)) ≡ None
none_of_three None None c h k m = rw m refl
none_of_three (Some x) b c h k m = absurd cc
none_of_three None (Some x) c h k m = absurd cc

pub none_of_all : (d : Draft) → lists_fault d ≡ None → plan_fault (plan_of_draft d) ≡ None → slots_fault d ≡ None
    → first_fault d ≡ None
none_of_all d h k m = none_of_three (lists_fault d) (sizes_fault d) (slots_fault d) h k m

pub alone : (a : Option DescFault) → option_or a None ≡ a
alone None = refl
alone (Some x) = refl
