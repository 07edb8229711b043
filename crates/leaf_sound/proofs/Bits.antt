-- The sizes of a plan's leaf.
use Rattle.std.proofs.Common.{◌≡◌, ℕ, zero, suc, ◌+◌, ◌-◌, ◌^◌, ◌<◌, ◌≤◌, ◌⊎◌, inl, inr, ◌∙◌, ap, Bool, true, false, length, refl, sym, subst, arith, lit≤, nat_lt, if◌then◌else◌}
use Rattle.std.specs.Prelude.{nat_le}
use Rattle.std.proofs.lemmas.Bool.Decides.{nat_tests}
use Rattle.noc_model.specs.Plan.{Plan, tiles}
use Rattle.noc_model.specs.Sound.{IsSound}
use Rattle.flit_word.specs.Words.{bits, bits_from, dest_bits, channel_bits, flit_bits, max_link_channels}
use Rattle.flit_word.proofs.Bits.{link_channels-most}
use Rattle.gen_buffer.specs.Sizes.{index_high, count_high}
use Rattle.leaf_tie.specs.Glue.{GlueFits}
use Rattle.leaf_tie.specs.Names.{leaf_sizes, slot_high}

-- ---- bits that hold a number

grown : (b : ℕ) → b < 2 ^ b
grown zero = lit≤ tt
grown (suc b) = let less = grown b in omega arith

from-enough : (fuel b n : ℕ) → n ≤ 2 ^ (b + fuel) → (n ≤ 2 ^ bits_from fuel b n) × (b ≤ bits_from fuel b n)
from-enough zero b n most = (subst (λ k. n ≤ 2 ^ k) (let e : b + 0 ≡ b = omega arith in e) most, omega arith)
from-enough (suc fuel) b n most = go (from-enough fuel (b + 1) n (subst (λ k. n ≤ 2 ^ k) (let e : b + suc fuel ≡ b + 1 + fuel = omega arith in e) most)) (nat_le n (2 ^ b)) refl
  where
    go : (n ≤ 2 ^ bits_from fuel (b + 1) n) × (b + 1 ≤ bits_from fuel (b + 1) n) → (c : Bool) → nat_le n (2 ^ b) ≡ c → (n ≤ 2 ^ (if c then b else bits_from fuel (b + 1) n)) × (b ≤ (if c then b else bits_from fuel (b + 1) n))
    go later true e = ((let le : n ≤ 2 ^ b = grind (arith, nat_tests, e) in le), omega arith)
    go later false e = (later.0, (let more = later.1 in omega (arith, more)))

pub bits-enough : (n : ℕ) → n ≤ 2 ^ bits n
unfolding bits
bits-enough n = (from-enough n 1 n (let less = grown (1 + n) in omega (arith, less))).0

pub bits-some : (n : ℕ) → 1 ≤ bits n
unfolding bits
bits-some n = (from-enough n 1 n (let less = grown (1 + n) in omega (arith, less))).1

-- ---- a buffer's registers

pub index-enough : (depth : ℕ) → depth ≤ 16 → depth ≤ 2 ^ (index_high depth + 1)
index-enough depth le = go (nat_lt depth 3) refl
  where
    last : (b : Bool) → nat_lt depth 9 ≡ b → depth ≤ 2 ^ ((if b then 2 else 3) + 1)
    last true e = let less : depth < 9 = grind (arith, nat_tests, e) in omega arith
    last false e = omega arith

    next : (b : Bool) → nat_lt depth 5 ≡ b → depth ≤ 2 ^ ((if b then 1 else if nat_lt depth 9 then 2 else 3) + 1)
    next true e = let less : depth < 5 = grind (arith, nat_tests, e) in omega arith
    next false e = last (nat_lt depth 9) refl

    go : (b : Bool) → nat_lt depth 3 ≡ b → depth ≤ 2 ^ ((if b then 0 else if nat_lt depth 5 then 1 else if nat_lt depth 9 then 2 else 3) + 1)
    go true e = let less : depth < 3 = grind (arith, nat_tests, e) in omega arith
    go false e = next (nat_lt depth 5) refl

pub count-enough : (depth : ℕ) → depth ≤ 16 → depth < 2 ^ (count_high depth + 1)
count-enough depth le = go (nat_lt depth 2) refl
  where
    last : (b : Bool) → nat_lt depth 16 ≡ b → depth < 2 ^ ((if b then 3 else 4) + 1)
    last true e = let less : depth < 16 = grind (arith, nat_tests, e) in omega arith
    last false e = omega arith

    third : (b : Bool) → nat_lt depth 8 ≡ b → depth < 2 ^ ((if b then 2 else if nat_lt depth 16 then 3 else 4) + 1)
    third true e = let less : depth < 8 = grind (arith, nat_tests, e) in omega arith
    third false e = last (nat_lt depth 16) refl

    next : (b : Bool) → nat_lt depth 4 ≡ b → depth < 2 ^ ((if b then 1 else if nat_lt depth 8 then 2 else if nat_lt depth 16 then 3 else 4) + 1)
    next true e = let less : depth < 4 = grind (arith, nat_tests, e) in omega arith
    next false e = third (nat_lt depth 8) refl

    go : (b : Bool) → nat_lt depth 2 ≡ b → depth < 2 ^ ((if b then 0 else if nat_lt depth 4 then 1 else if nat_lt depth 8 then 2 else if nat_lt depth 16 then 3 else 4) + 1)
    go true e = let less : depth < 2 = grind (arith, nat_tests, e) in omega arith
    go false e = next (nat_lt depth 4) refl

-- ---- all sizes

pub sizes-meet : (p : Plan) → IsSound p → GlueFits p (leaf_sizes p) (slot_high p) (dest_bits p) (flit_bits p) (channel_bits p)
sizes-meet p sound = record {
  slots = (let some = bits-some (length p.slots) in
      subst (λ k. length p.slots ≤ 2 ^ k) (let e : bits (length p.slots) ≡ bits (length p.slots) - 1 + 1 = omega (arith, some) in e) (bits-enough (length p.slots)));
  pointers = index-enough p.buffer sound.buffer.1;
  counts = count-enough p.buffer sound.buffer.1;
  some_channel = bits-some (max_link_channels p);
  some_dest = bits-some (tiles p);
  channels = λ d. (let most = link_channels-most p d in let all = bits-enough (max_link_channels p) in omega (arith, most, all));
  dests = bits-enough (tiles p);
  flits = refl;
}

-- ---- and no more than needed

from-few : (fuel a b n : ℕ) → a ≤ b → n ≤ 2 ^ b → bits_from fuel a n ≤ b
from-few zero a b n le most = le
from-few (suc fuel) a b n le most = go (λ h. from-few fuel (a + 1) b n h most) (nat_le n (2 ^ a)) refl
  where
    go : (a + 1 ≤ b → bits_from fuel (a + 1) n ≤ b) → (c : Bool) → nat_le n (2 ^ a) ≡ c → (if c then a else bits_from fuel (a + 1) n) ≤ b
    go more true e = le
    go more false e = more (apart order)
      where
        order : (a < b) ⊎ (a ≡ b)
        order = grind arith

        apart : (a < b) ⊎ (a ≡ b) → a + 1 ≤ b
        apart (inl h) = omega arith
        apart (inr same) = absurd (let big : (nat_le n (2 ^ b)) ≡ true = grind (arith, nat_tests) in cc (sym e ∙ ap (λ k. nat_le n (2 ^ k)) same ∙ big))

pub bits-few : (b n : ℕ) → 1 ≤ b → n ≤ 2 ^ b → bits n ≤ b
unfolding bits
bits-few b n le most = from-few n 1 b n le most

pub index-few : (depth : ℕ) → index_high depth ≤ 3
index-few depth = go (nat_lt depth 3) (nat_lt depth 5) (nat_lt depth 9)
  where
    go : (a b c : Bool) → (if a then 0 else if b then 1 else if c then 2 else 3) ≤ 3
    go true b c = omega arith
    go false true c = omega arith
    go false false true = omega arith
    go false false false = omega arith

pub count-few : (depth : ℕ) → count_high depth ≤ 4
count-few depth = go (nat_lt depth 2) (nat_lt depth 4) (nat_lt depth 8) (nat_lt depth 16)
  where
    go : (a b c d : Bool) → (if a then 0 else if b then 1 else if c then 2 else if d then 3 else 4) ≤ 4
    go true b c d = omega arith
    go false true c d = omega arith
    go false false true d = omega arith
    go false false false true = omega arith
    go false false false false = omega arith
