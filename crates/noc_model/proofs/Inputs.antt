-- Places and channel numbers, there and back.
use Rattle.std.proofs.Common.{◌≡◌, ℕ, zero, suc, ◌*◌, ◌<◌, ◌≤◌, Bool, true, false, sym, ◌∙◌, ap, arith, mul_comm, lit≤}
use Rattle.std.specs.Prelude.{if◌then◌else◌}
use Rattle.std.proofs.Math.Nat.{mod-lt}
use Rattle.std.proofs.lemmas.Nat.{div_below, div-mul-add, mod-mul-add, div-add-mod', mul-add-lt}
use Rattle.noc_model.specs.Plan.{Plan, channels, link_channels, classes, in_channels, ports}
use Rattle.noc_model.specs.Inputs.{place, input_count, input_port, input_channel, pack, unpack}

pub classes-some : (torus : Bool) → 1 ≤ (if torus then 2 else 1)
classes-some true = lit≤ tt
classes-some false = lit≤ tt

-- an input port's channels are no more than a link's
pub input-within : (p : Plan) (d port c : ℕ) → c < in_channels p d port → c < link_channels p d
input-within p d zero c below = go (classes p) (classes-some p.torus)
  where
    go : (k : ℕ) → 1 ≤ k → c < k * channels p d
    go zero some = absurd (omega arith)
    go (suc k) some = let first : c < channels p d = below in let all = mul-add-lt 0 (channels p d) c (suc k) (omega arith) first in omega (arith, all, mul_comm (channels p d) (suc k))
input-within p d (suc port) c below = below

-- ---- places

pub port-place : (p : Plan) (d port c : ℕ) → c < link_channels p d → input_port p d (place p d port c) ≡ port
port-place p d port c below = div-mul-add port (link_channels p d) c below

pub channel-place : (p : Plan) (d port c : ℕ) → c < link_channels p d → input_channel p d (place p d port c) ≡ c
channel-place p d port c below = mod-mul-add port (link_channels p d) c below

pub place-input : (p : Plan) (d k : ℕ) → place p d (input_port p d k) (input_channel p d k) ≡ k
place-input p d k = div-add-mod' k (link_channels p d)

pub place-below : (p : Plan) (d port c : ℕ) → port < ports p → c < link_channels p d
    → place p d port c < input_count p d
place-below p d port c inside below =
    rw (mul_comm (ports p) (link_channels p d)) (mul-add-lt port (link_channels p d) c (ports p) inside below)

-- there is a second factor where there is something below the product
some-factor : (a b k : ℕ) → k < a * b → 0 < b
some-factor a zero k below = absurd (let none : a * 0 ≡ 0 = omega arith in omega arith)
some-factor a (suc b) k below = omega arith

pub port-below : (p : Plan) (d k : ℕ) → k < input_count p d → input_port p d k < ports p
port-below p d k below =
    div_below k (link_channels p d) (ports p) (some-factor (ports p) (link_channels p d) k below) below

pub channel-below : (p : Plan) (d k : ℕ) → k < input_count p d → input_channel p d k < link_channels p d
channel-below p d k below = mod-lt k (some-factor (ports p) (link_channels p d) k below)

-- places with one number are one place
pub place-one : (p : Plan) (d port c port' c' : ℕ) → c < link_channels p d → c' < link_channels p d
    → place p d port c ≡ place p d port' c' → (port ≡ port') × (c ≡ c')
place-one p d port c port' c' below below' e = (
  sym (port-place p d port c below) ∙ ap (input_port p d) e ∙ port-place p d port' c' below',
  sym (channel-place p d port c below) ∙ ap (input_channel p d) e ∙ channel-place p d port' c' below',
)

-- ---- channels of a class

pub unpack-pack : (p : Plan) (d class j : ℕ) → j < channels p d → unpack p d (pack p d class j) ≡ (class, j)
unpack-pack p d class j below =
    λ i. (div-mul-add class (channels p d) j below i, mod-mul-add class (channels p d) j below i)

pub pack-unpack : (p : Plan) (d w : ℕ) → pack p d (unpack p d w).0 (unpack p d w).1 ≡ w
pack-unpack p d w = div-add-mod' w (channels p d)

pub pack-below : (p : Plan) (d class j : ℕ) → class < classes p → j < channels p d
    → pack p d class j < link_channels p d
pack-below p d class j low below =
    rw (mul_comm (classes p) (channels p d)) (mul-add-lt class (channels p d) j (classes p) low below)

pub class-below : (p : Plan) (d w : ℕ) → w < link_channels p d → (unpack p d w).0 < classes p
class-below p d w below = div_below w (channels p d) (classes p) (some-factor (classes p) (channels p d) w below) below

pub index-below : (p : Plan) (d w : ℕ) → w < link_channels p d → (unpack p d w).1 < channels p d
index-below p d w below = mod-lt w (some-factor (classes p) (channels p d) w below)
