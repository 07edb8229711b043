-- A ring of numbers, linked by index both ways through one more place that closes it.
use Rattle.std.specs.Prelude.{◌≡◌, ℕ, zero, suc, ◌+◌, ◌^◌, ◌<◌, ◌==◌, ◌&&◌, Bool, not, List, [], ◌∷◌, ◌++◌, length, nat_le, nat_lt, slice_index_or, slice_set}
use Rattle.std.specs.List.{list_any, filter}
use Rattle.noc_model.specs.Step.{one_if}
use Rattle.flit_pool.specs.declared.ring.Link.{Link}
use Rattle.flit_pool.specs.Chains.{times}

-- what contracts see: the numbers of the ring in their order, each below the size
pub record Numbers : Type 0 where
  pub items : List ℕ
  pub size : ℕ

-- whether the number is in the ring
abbrev pub has : Numbers → ℕ → Bool
has x i = list_any (λ k. k == i) x.items

-- the numbers but this one
abbrev pub without : List ℕ → ℕ → List ℕ
without xs i = filter (λ k. not (k == i)) xs

-- ---- how they stand in one vector

-- what stands for a link where there is none
abbrev pub no_link : Link
no_link = record { next = 0; before = 0 }

-- the link of number i
abbrev pub link_at : List Link → ℕ → Link
link_at ls i = slice_index_or ls i no_link

-- the links from i on, so many
abbrev pub walk : List Link → ℕ → ℕ → List ℕ
walk ls zero i = []
walk ls (suc k) i = i ∷ walk ls k (link_at ls i).next

-- each is linked to the next, from a on, and back
abbrev pub Linked : List Link → ℕ → List ℕ → Type 0
Linked ls a [] = Unit {0}
Linked ls a (x ∷ xs) = ((link_at ls a).next ≡ x) × ((link_at ls x).before ≡ a) × Linked ls x xs

-- the numbers from the closing place on
abbrev pub members : List Link → ℕ → ℕ → List ℕ
members ls size count = walk ls count (link_at ls size).next

-- whether the number is linked: the others are marked by a link beyond the closing place
abbrev pub is_in : List Link → ℕ → ℕ → Bool
is_in ls size i = nat_lt i size && nat_le (link_at ls i).next size

-- the members are linked round the closing place, and each number that is linked is one of them, once
pub record IsRing (ls : List Link) (size count : ℕ) : Type 0 where
  pub whole : length ls ≡ size + 1
  pub few : size + 1 < 2 ^ 32
  pub round : Linked ls size (members ls size count ++ size ∷ [])
  pub once : (i : ℕ) → times i (members ls size count) ≡ one_if (is_in ls size i)

-- ---- what a step makes of the links

-- i is linked to the one that comes after it
abbrev pub with_next : List Link → ℕ → ℕ → List Link
with_next ls i next = slice_set ls i (record { next = next; before = (link_at ls i).before })

-- i is linked to the one that comes before it
abbrev pub with_before : List Link → ℕ → ℕ → List Link
with_before ls i before = slice_set ls i (record { next = (link_at ls i).next; before = before })

-- i comes in between the last and the closing place
abbrev pub joined : List Link → ℕ → ℕ → List Link
joined ls size i =
    let last : ℕ = (link_at ls size).before in
    with_before (slice_set (with_next ls last i) i (record { next = size; before = last })) size i

-- what stands before i is linked to what stands behind it, and i is marked
abbrev pub parted : List Link → ℕ → ℕ → List Link
parted ls size i =
    let l : Link = link_at ls i in
    slice_set (with_before (with_next ls l.before l.next) l.next l.before) i
    (record { next = size + 1; before = size + 1 })
