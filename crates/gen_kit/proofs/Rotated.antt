-- The nets of a round-robin choice show the pick, and an edge moves the pointer behind it.
use Rattle.std.proofs.Common.{◌≡◌, ℕ, ◌+◌, ◌-◌, ◌%◌, ◌<◌, ◌^◌, Bool, false, Option, refl, sym, ◌∙◌, ap, arith, ◌==◌, ◌&&◌}
use Rattle.std.specs.Prelude.{Some, None, nat_le, bit_and, bit_or}
use Rattle.std.specs.Option.{option_or}
use Rattle.std.proofs.lemmas.Nat.{pow_pos}
use Rattle.std.proofs.lemmas.Bool.Decides.{nat_tests}
use Rattle.vl_model.specs.Meaning.{Widths, Values, one_if, chosen}
use Rattle.noc_model.specs.Pick.{least, pick}
use Rattle.noc_model.specs.Step.{is_place, after}
use Rattle.noc_model.proofs.Least.{pick-member}
use Rattle.gen_kit.specs.Masks.{mask}
use Rattle.gen_kit.specs.Groups.{GroupGives, GroupKeeps, GroupStarts}
use Rattle.vl_tree.specs.Values.{Name}
use Rattle.vl_model.specs.Parts.{AllStep}
use Rattle.gen_kit.specs.Rotate.{RotateNames, rotate_group, pointer_moves, PointsTo, IsAsked, Wins}
use Rattle.gen_kit.proofs.Sets.{mask-and, mask-none, mask-one, none-zero, some-more, mask-least, mask-from, mask-above}

-- a test against 0
zero-test : (x : ℕ) → x ≡ 0 → one_if (x == 0) ≡ 1
zero-test x e = rw e refl

more-test : (x : ℕ) → 0 < x → one_if (x == 0) ≡ 0
more-test x e = let no : (x == 0) ≡ false = grind (arith, nat_tests) in rw no refl

-- the requests not below the pointer, or all of them
chosen-set : (n p : ℕ) (set : ℕ → Bool) (x : ℕ)
    → x ≡ chosen (one_if (mask n (λ i. nat_le p i && set i) == 0)) (mask n set) (mask n (λ i. nat_le p i && set i))
    → bit_and x ((0 + (2 ^ n - x)) % 2 ^ n) ≡ mask n (is_place (pick n set p))
unfolding pick
chosen-set n p set x e = go (least n (λ i. nat_le p i && set i)) refl
  where
    go : (o : Option ℕ) → least n (λ i. nat_le p i && set i) ≡ o
        → bit_and x ((0 + (2 ^ n - x)) % 2 ^ n) ≡ mask n (is_place (option_or o (least n set)))
    go None is =
        let all : x ≡ mask n set =
        e
        ∙ ap (λ c. chosen c (mask n set) (mask n (λ i. nat_le p i && set i))) (zero-test _ (none-zero n (λ i. nat_le p i && set i) is)) in
        rw all (mask-least n set)
    go (Some k) is =
        let some = some-more n (λ i. nat_le p i && set i) k is in
        let these : x ≡ mask n (λ i. nat_le p i && set i) =
        e ∙ ap (λ c. chosen c (mask n set) (mask n (λ i. nat_le p i && set i))) (more-test _ some.0) in
        rw these (mask-least n (λ i. nat_le p i && set i) ∙ ap (λ o. mask n (is_place o)) is)

pub rotate-shown : (n : RotateNames) (h : ℕ)
    → GroupGives (rotate_group n h) (λ w v. (set : ℕ → Bool) (p : ℕ) → IsAsked n h v set p → Wins n h v (pick (h + 1) set p))
rotate-shown n h w v held set p a =
    let under : bit_and (v.net n.pointer) (v.net n.request) ≡ mask (h + 1) (λ i. nat_le p i && set i) =
    rw (a.pointer, a.request) (mask-and (h + 1) (nat_le p) set) in
    held.nets.1.1.1.0 ∙ chosen-set (h + 1) p set (v.net n.some) (held.nets.1.0 ∙ rw (under, a.request) refl)

pub pointer-moved : (pointer by : Name) (h : ℕ) (w : Widths) (v u : Values) (x : Option ℕ) (p : ℕ)
    → AllStep w v u (pointer_moves pointer by h) → w.net by ≡ h + 1
    → v.net by ≡ mask (h + 1) (is_place x) → ((k : ℕ) → x ≡ Some k → k < h + 1)
    → v.net pointer ≡ mask (h + 1) (nat_le p) → u.net pointer ≡ mask (h + 1) (nat_le (after x p))
pointer-moved pointer by h w v u x p e width shown below before = go x shown below
  where
    moved : u.net pointer ≡ chosen (one_if (v.net by == 0)) (v.net pointer) (2 ^ (h + 1) - 1 - bit_or (v.net by) ((v.net by + (2 ^ (h + 1) - 1)) % 2 ^ (h + 1)))
    moved = e.0 ∙ rw width refl

    go : (x : Option ℕ) → v.net by ≡ mask (h + 1) (is_place x) → ((k : ℕ) → x ≡ Some k → k < h + 1)
        → u.net pointer ≡ mask (h + 1) (nat_le (after x p))
    go None shown below =
        let empty : v.net by ≡ 0 = shown ∙ mask-none (h + 1) (is_place None) (λ i b. refl) in
        moved
        ∙ ap (λ c. chosen c (v.net pointer) (2 ^ (h + 1) - 1 - bit_or (v.net by) ((v.net by + (2 ^ (h + 1) - 1)) % 2 ^ (h + 1)))) (zero-test _ empty)
        ∙ before
    go (Some k) shown below =
        let less : k < h + 1 = below k refl in
        let lone : v.net by ≡ 2 ^ k = shown ∙ mask-one (h + 1) k less in
        let some : 0 < v.net by = omega (arith, lone, pow_pos k) in
        moved
        ∙ ap (λ c. chosen c (v.net pointer) (2 ^ (h + 1) - 1 - bit_or (v.net by) ((v.net by + (2 ^ (h + 1) - 1)) % 2 ^ (h + 1)))) (more-test _ some)
        ∙ ap (λ z. 2 ^ (h + 1) - 1 - bit_or z ((z + (2 ^ (h + 1) - 1)) % 2 ^ (h + 1))) lone ∙ mask-above (h + 1) k less

pub rotate-kept : (n : RotateNames) (h : ℕ)
    → GroupKeeps (rotate_group n h) (λ w v u. (set : ℕ → Bool) (p : ℕ) → IsAsked n h v set p → PointsTo n h u (after (pick (h + 1) set p) p))
rotate-kept n h w v u held after-held e set p a =
    pointer-moved n.pointer n.winner h w v u (pick (h + 1) set p) p e.moves held.nets.1.1.0.0 (rotate-shown n h w v held set p a) (λ k is. (pick-member (h + 1) set p k is).0) a.pointer

pub rotate-starts : (n : RotateNames) (h : ℕ) → GroupStarts (rotate_group n h) (λ v. PointsTo n h v 0)
rotate-starts n h v e = e.0 ∙ sym (mask-from (h + 1) 0 (omega arith))
