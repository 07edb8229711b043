-- Elements of a list: the name of a domain, and the place of the first that passes a test.
use Rattle.std.proofs.Common.{◌≡◌, ℕ, ◌<◌, ◌≤◌, Bool, true, false, List, length, slice_index_or, refl, arith, Some, None}
use Rattle.std.specs.Prelude.{slice_get, position, nat_lt}
use Rattle.std.specs.List.{list_any, position_or_len}
use Rattle.std.proofs.lemmas.Bool.Decides.{nat_tests}
use Rattle.std.proofs.lemmas.Option.{slice_get_read, slice_get-get_or}
use Rattle.std.proofs.lemmas.List.Quantifiers.{position-Some}
use Rattle.std.proofs.lemmas.List.Folds.{list_any_at, list_any_none}
use Rattle.std.proofs.lemmas.List.Sums.{fails_before_first}
use Rattle.noc_model.specs.declared.plan.DomainPart.{DomainPart}
use Rattle.noc_model.specs.declared.Host.{Host}
use Rattle.noc_model.specs.Plan.{name_at, is_host}

pub name_at-read : (xs : List DomainPart) (i : ℕ) (x : DomainPart) → i < length xs → x ≡ slice_index_or xs i x
    → name_at xs i ≡ x.name
name_at-read xs i x there e = rw (slice_get_read xs (length xs) i x refl there e) refl

-- the host that passes is the one of this tile and domain
is_host-true : (n d : ℕ) (h : Host) → is_host n d h ≡ true → h ≡ record { tile = n; domain = d }
is_host-true n d h e =
    let tile : h.tile ≡ n = grind (arith, nat_tests) in
    let domain : h.domain ≡ d = grind (arith, nat_tests) in
    rw (← tile, ← domain) refl

pub host_at-position : (n d : ℕ) (hs : List Host) (j : ℕ) → position (is_host n d) hs ≡ Some j
    → slice_get hs j ≡ Some (record { tile = n; domain = d })
host_at-position n d hs j e =
    let h : Host = record { tile = n; domain = d } in
    let found = position-Some (is_host n d) hs j h e in
    rw (slice_get-get_or hs j h found.0, is_host-true n d (slice_index_or hs j h) found.1) refl

pub list_any-position : {X : Type 0} (p : X → Bool) (xs : List X) (j : ℕ) (d : X) → position p xs ≡ Some j
    → list_any p xs ≡ true
list_any-position p xs j d e = let found = position-Some p xs j d e in list_any_at p xs j d found.0 found.1

pub list_any-no_position : {X : Type 0} (p : X → Bool) (xs : List X) → position p xs ≡ None → list_any p xs ≡ false
list_any-no_position p xs e =
    list_any_none p xs (λ k d there. fails_before_first p xs k d (let past = go (nat_lt (position_or_len p xs) (length xs)) refl in omega arith))
  where
    go : (b : Bool) → nat_lt (position_or_len p xs) (length xs) ≡ b → length xs ≤ position_or_len p xs
    go true t = absurd (let bad = rw t at e in cc)
    go false t = grind (arith, nat_tests)
