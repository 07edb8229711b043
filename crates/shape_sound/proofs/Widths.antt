-- The wires of a text have at most 64 bits.
use Rattle.std.proofs.Common.{◌≡◌, ℕ, zero, suc, ◌+◌, ◌*◌, ◌^◌, ◌<◌, ◌≤◌, ◌⊎◌, inl, inr, Bool, true, false, List, [], ◌∷◌, refl, sym, subst, arith}
use Rattle.std.specs.Prelude.{nat_le, if◌then◌else◌}
use Rattle.std.specs.List.{AllByRecursion}
use Rattle.std.proofs.lemmas.Bool.Decides.{nat_tests}
use Rattle.std.proofs.lemmas.List.Elements.{recursion_from_All, All-weaker}
use Rattle.std.proofs.lemmas.List.Sums.{sum_by-le}
use Rattle.noc_model.specs.declared.plan.DomainPart.{DomainPart}
use Rattle.noc_model.specs.Plan.{Plan, tiles, classes}
use Rattle.noc_model.specs.Sound.{IsSound}
use Rattle.flit_word.specs.Words.{bits, bits_from, link_bits, max_channels, max_link_channels}
use Rattle.gen_kit.specs.Shape.{credit_bits}

from-most : (fuel b n c : ℕ) → b ≤ c → n ≤ 2 ^ c → bits_from fuel b n ≤ c
from-most zero b n c le fits = le
from-most (suc fuel) b n c le fits = go (nat_le n (2 ^ b)) refl order (λ less. from-most fuel (b + 1) n c less fits)
  where
    order : (b + 1 ≤ c) ⊎ (b ≡ c)
    order = grind (arith, le)

    go : (t : Bool) → nat_le n (2 ^ b) ≡ t → (b + 1 ≤ c) ⊎ (b ≡ c) → (b + 1 ≤ c → bits_from fuel (b + 1) n ≤ c) → (if t then b else bits_from fuel (b + 1) n) ≤ c
    go true e o later = le
    go false e (inl less) later = later less
    go false e (inr same) later =
        let all : n ≤ 2 ^ b = subst (λ k. n ≤ 2 ^ k) (sym same) fits in
        absurd (let more : 2 ^ b < n = grind (arith, nat_tests, e) in omega (arith, all, more))

bits-most : (n c : ℕ) → 1 ≤ c → n ≤ 2 ^ c → bits n ≤ c
unfolding bits
bits-most n c le fits = from-most n 1 n c le fits

two-classes : (p : Plan) → classes p ≤ 2
two-classes p = go p.torus
  where
    go : (b : Bool) → (if b then 2 else 1) ≤ 2
    go true = omega arith
    go false = omega arith

few-channels : (k : ℕ) (x : DomainPart) → k ≤ 2 → (1 ≤ x.channels) × (x.channels ≤ 4) → k * x.channels ≤ 8
few-channels zero x le h = omega arith
few-channels (suc zero) x le h = let most = h.1 in omega (arith, most)
few-channels (suc (suc zero)) x le h = let most = h.1 in omega (arith, most)
few-channels (suc (suc (suc k))) x le h = absurd (omega (arith, le))

most-channels : (k : ℕ) (xs : List DomainPart) → k ≤ 2 → AllByRecursion (λ (x : DomainPart). (1 ≤ x.channels) × (x.channels ≤ 4)) xs → max_channels k xs ≤ 8
most-channels k [] le all = omega arith
most-channels k (x ∷ xs) le all =
    let one = few-channels k x le all.0 in
    let rest = most-channels k xs le all.1 in
    omega (arith, one, rest)

pub few-link-bits : (p : Plan) → IsSound p → link_bits p ≤ 46
few-link-bits p sound =
    let channel = bits-most (max_link_channels p) 3 (omega arith) (most-channels (classes p) p.domains (two-classes p) (recursion_from_All (λ (x : DomainPart). (1 ≤ x.channels) × (x.channels ≤ 4)) p.domains sound.channels)) in
    let dest = bits-most (tiles p) 8 (omega arith) sound.tile_count in
    omega (arith, channel, dest)

pub few-credits : (p : Plan) → IsSound p → credit_bits p ≤ 128
few-credits p sound =
    let all = sum_by-le (λ (x : DomainPart). classes p * x.channels) 8 p.domains (All-weaker (λ (x : DomainPart). (1 ≤ x.channels) × (x.channels ≤ 4)) (λ (x : DomainPart). classes p * x.channels ≤ 8) (λ x h. few-channels (classes p) x (two-classes p) h) p.domains sound.channels) in
    let few = sound.domains.1 in
    omega (arith, all, few)
