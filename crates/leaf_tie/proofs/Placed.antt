-- A bit for each place of a domain, and the bits of a buffer's word.
use Rattle.std.proofs.Common.{subst, ◌≡◌, ℕ, zero, suc, ◌+◌, ◌-◌, ◌*◌, ◌/◌, ◌%◌, ◌<◌, ◌≤◌, ◌^◌, Bool, true, false, List, [], ◌∷◌, refl, sym, ◌∙◌, ap, arith, ◌==◌, ◌&&◌}
use Rattle.std.specs.Prelude.{Option, Some, None, option_map, is_some, nat_lt, if◌then◌else◌}
use Rattle.std.proofs.lemmas.Bool.Decides.{nat_tests}
use Rattle.std.proofs.lemmas.Nat.{mul-le, div-mul-add, pow-add, field_of}
use Rattle.std.proofs.lemmas.Nat.Bits.{bit_at_cat_low, bit_at_cat_high}
use Rattle.std.proofs.Math.Nat.{mod-eq_of_lt, mul-add-mod_self_right, mod-lt, div-one}
use Rattle.vl_tree.specs.Values.{Name, Expr, cat, no_parts, parts}
use Rattle.vl_model.specs.Meaning.{Widths, Values, value_of, width_of, one_if}
use Rattle.gen_kit.specs.Families.{in_bits, row_parts, or_upto, any_upto}
use Rattle.gen_kit.specs.Masks.{mask}
use Rattle.gen_kit.proofs.Sets.{mask-one, mask-bit}
use Rattle.gen_kit.proofs.Families.{rows-shown, rows-wide, any-none, any-lone}
use Rattle.noc_model.specs.declared.Flit.{Flit}
use Rattle.noc_model.specs.declared.LinkFlit.{LinkFlit}
use Rattle.noc_model.specs.Plan.{Plan, channels, link_channels, ports, hosts}
use Rattle.noc_model.specs.Place.{neighbour, route}
use Rattle.noc_model.specs.Step.{front, is_tail, is_on, is_place}
use Rattle.noc_model.proofs.Ports.{link-dim}
use Rattle.leaf_tie.specs.Places.{leads}
use Rattle.leaf_tie.specs.Tie.{HasPlace, flit_code, word_code, ejected_code}
use Rattle.leaf_tie.specs.Glue.{high, has_place, placed, place_bits, route_bits}
use Rattle.gen_kit.proofs.Muxed.{table-shown}
use Rattle.leaf_tie.proofs.Sized.{high-is, some-link-channels}

pub one-bit : (f : ℕ → Bool) (k : ℕ) → one_if (f k) ≡ mask 1 (λ j. f (k * 1 + j))
one-bit f k = let e : k * 1 + 0 ≡ k = omega arith in rw e (omega arith)

pub row-of : (v port c : ℕ) → c < v → (port * v + c) / v ≡ port
row-of v port c below = div-mul-add port v c below

pub channel-of : (v port c : ℕ) → c < v → (port * v + c) % v ≡ c
channel-of v port c below = mul-add-mod_self_right port v c ∙ mod-eq_of_lt below

-- a place is there or not
pub place-there : (p : Plan) (n d port c : ℕ) → has_place p n d port c ≡ true → HasPlace p n d port c
place-there p n d zero c e = both (hosts p n d) refl e
  where
    both : (b : Bool) → hosts p n d ≡ b → (b && nat_lt c (channels p d)) ≡ true → (hosts p n d ≡ true) × (c < channels p d)
    both true is f = (is, grind (arith, nat_tests, f))
    both false is f = absurd (cc f)
place-there p n d (suc port) c e = both (is_some (neighbour p n (suc port))) refl e
  where
    both : (b : Bool) → is_some (neighbour p n (suc port)) ≡ b → (b && nat_lt c (link_channels p d)) ≡ true → HasPlace p n d (suc port) c
    both true is f = ((let dim = link-dim p n (suc port) is in omega (arith, dim), is), grind (arith, nat_tests, f))
    both false is f = absurd (cc f)

pub place-not : (p : Plan) (n d port c : ℕ) → has_place p n d port c ≡ false → HasPlace p n d port c → ⊥
place-not p n d zero c e place =
    let less : nat_lt c (channels p d) ≡ true = (let b = place.1 in grind (arith, nat_tests, b)) in
    let all : (hosts p n d && nat_lt c (channels p d)) ≡ true = rw (place.0, less) refl in
    cc (sym e ∙ all)
place-not p n d (suc port) c e place =
    let less : nat_lt c (link_channels p d) ≡ true = (let b = place.1 in grind (arith, nat_tests, b)) in
    let all : (is_some (neighbour p n (suc port)) && nat_lt c (link_channels p d)) ≡ true = rw (place.0.1, less) refl in
    cc (sym e ∙ all)

-- ---- one bit for each place

pub place-bits-shown : (p : Plan) (n d : ℕ) (w : Widths) (v : Values) → 0 < channels p d → (e : ℕ → ℕ → Expr) (g : ℕ → ℕ → Bool)
    → ((port c : ℕ) → HasPlace p n d port c → (width_of w (e port c) ≡ 1) × (value_of w v (e port c) ≡ one_if (g port c)))
    → value_of w v (place_bits p n d e) ≡ mask (high p d + 1) (λ place. has_place p n d (place / link_channels p d) (place % link_channels p d) && g (place / link_channels p d) (place % link_channels p d))
place-bits-shown p n d w v some e g each =
    rows-shown (link_channels p d) w v (λ port. cat (row_parts (placed p n d e port) (link_channels p d - 1))) set (ports p - 1)
    (λ port le. rows-wide 1 w (placed p n d e port) (link_channels p d - 1) (λ c few. one-wide port c) ∙ wide)
    (λ port le. rows-shown 1 w v (placed p n d e port) (λ c. set (port * link_channels p d + c)) (link_channels p d - 1) (λ c few. one-wide port c)
    (λ c few. one-value port c ∙ ap one_if (sym (at port c (omega (arith, few, full)))) ∙ one-bit (λ k. set (port * link_channels p d + k)) c)
    ∙ ap (λ m. mask m (λ c. set (port * link_channels p d + c))) wide)
    ∙ ap (λ m. mask m set) all
  where
    set : ℕ → Bool
    set place = has_place p n d (place / link_channels p d) (place % link_channels p d) && g (place / link_channels p d) (place % link_channels p d)

    full : 0 < link_channels p d
    full = some-link-channels p d some

    wide : (link_channels p d - 1 + 1) * 1 ≡ link_channels p d
    wide = omega (arith, full)

    all : (ports p - 1 + 1) * link_channels p d ≡ high p d + 1
    all = let one : ports p - 1 + 1 ≡ ports p = omega arith in rw one (sym (high-is p d some))

    one-wide : (port c : ℕ) → width_of w (placed p n d e port c) ≡ 1
    one-wide port c = go (has_place p n d port c) refl
      where
        go : (b : Bool) → has_place p n d port c ≡ b → width_of w (if b then e port c else in_bits 1 0) ≡ 1
        go true is = (each port c (place-there p n d port c is)).0
        go false is = refl

    one-value : (port c : ℕ) → value_of w v (placed p n d e port c) ≡ one_if (has_place p n d port c && g port c)
    one-value port c = go (has_place p n d port c) refl
      where
        go : (b : Bool) → has_place p n d port c ≡ b → value_of w v (if b then e port c else in_bits 1 0) ≡ one_if (b && g port c)
        go true is = (each port c (place-there p n d port c is)).1
        go false is = refl

    at : (port c : ℕ) → c < link_channels p d → set (port * link_channels p d + c) ≡ (has_place p n d port c && g port c)
    at port c few =
        ap (λ k. has_place p n d k ((port * link_channels p d + c) % link_channels p d) && g k ((port * link_channels p d + c) % link_channels p d)) (row-of (link_channels p d) port c few)
        ∙ ap (λ k. has_place p n d port k && g port k) (channel-of (link_channels p d) port c few)

-- ---- the bits of a word

pub bit-is : (x : ℕ) → x % 2 ≡ one_if (x % 2 == 1)
bit-is x = go (x % 2) (mod-lt x (omega arith))
  where
    go : (r : ℕ) → r < 2 → r ≡ one_if (r == 1)
    go zero below = refl
    go (suc zero) below = refl
    go (suc (suc r)) below = absurd (omega (arith, below))

pub bit-one : (b : Bool) → (one_if b == 1) ≡ b
bit-one true = refl
bit-one false = refl

one-most : (b : Bool) → one_if b ≤ 1
one-most true = omega arith
one-most false = omega arith

-- the low part of a flit's code, and the whole
low-small : (b dest payload : ℕ) → dest < 2 ^ b → payload < 2 ^ 32 → dest * 2 ^ 32 + payload < 2 ^ (32 + b)
low-small b dest payload hd hp =
    let whole : 2 ^ (32 + b) ≡ 2 ^ 32 * 2 ^ b = pow-add 2 32 b in
    omega (arith, whole, hd, hp)

split-code : (b : ℕ) (f : Flit) → flit_code b f ≡ (one_if f.head * 2 + one_if f.tail) * 2 ^ (32 + b) + (f.dest * 2 ^ 32 + f.payload)
split-code b f =
    let whole : 2 ^ (32 + b) ≡ 2 ^ 32 * 2 ^ b = pow-add 2 32 b in
    rw whole (regroup (one_if f.head * 2 + one_if f.tail) (2 ^ b) f.dest f.payload (2 ^ 32))
  where
    regroup : (x z y q k : ℕ) → (x * z + y) * k + q ≡ x * (k * z) + (y * k + q)
    regroup x z y q k = grind arith

pub flit-small : (b : ℕ) (f : Flit) → f.dest < 2 ^ b → f.payload < 2 ^ 32 → flit_code b f < 2 ^ (34 + b)
flit-small b f hd hp =
    let low = low-small b f.dest f.payload hd hp in
    let head = one-most f.head in
    let tail = one-most f.tail in
    let top : (one_if f.head * 2 + one_if f.tail) * 2 ^ (32 + b) ≤ 3 * 2 ^ (32 + b) = mul-le (one_if f.head * 2 + one_if f.tail) (2 ^ (32 + b)) 3 (2 ^ (32 + b)) (omega (arith, head, tail)) (omega arith) in
    let parts : 2 ^ (2 + (32 + b)) ≡ 2 ^ 2 * 2 ^ (32 + b) = pow-add 2 2 (32 + b) in
    let same : 34 + b ≡ 2 + (32 + b) = omega arith in
    rw (same, split-code b f) (omega (arith, low, top, parts))

-- the flit's part of a word
under-route : (p : Plan) (n b k : ℕ) (f : Flit) → k < 34 + b → word_code p n b f / 2 ^ k % 2 ≡ flit_code b f / 2 ^ k % 2
under-route p n b k f below = bit_at_cat_low (2 ^ route p n f.dest) (34 + b) (flit_code b f) k below

pub tail-bit : (p : Plan) (n b : ℕ) (f : Flit) → f.dest < 2 ^ b → f.payload < 2 ^ 32 → word_code p n b f / 2 ^ (32 + b) % 2 ≡ one_if f.tail
tail-bit p n b f hd hp =
    let none : 32 + b - (32 + b) ≡ 0 = omega arith in
    under-route p n b (32 + b) f (omega arith) ∙ ap (λ x. x / 2 ^ (32 + b) % 2) (split-code b f)
    ∙ bit_at_cat_high (one_if f.head * 2 + one_if f.tail) (32 + b) (f.dest * 2 ^ 32 + f.payload) (32 + b) (low-small b f.dest f.payload hd hp) (omega arith)
    ∙ rw none (bits f.head f.tail)
  where
    bits : (h t : Bool) → (one_if h * 2 + one_if t) / 2 ^ 0 % 2 ≡ one_if t
    bits true true = refl
    bits true false = refl
    bits false true = refl
    bits false false = refl

pub route-bit : (p : Plan) (n b o : ℕ) (f : Flit) → f.dest < 2 ^ b → f.payload < 2 ^ 32 → word_code p n b f / 2 ^ (34 + b + o) % 2 ≡ one_if (route p n f.dest == o)
route-bit p n b o f hd hp =
    let left : 34 + b + o - (34 + b) ≡ o = omega arith in
    bit_at_cat_high (2 ^ route p n f.dest) (34 + b) (flit_code b f) (34 + b + o) (flit-small b f hd hp) (omega arith)
    ∙ rw (left, sym (mask-one (route p n f.dest + o + 1) (route p n f.dest) (omega arith))) (mask-bit (route p n f.dest + o + 1) o (λ i. route p n f.dest == i) (omega arith))

-- ---- fronts

-- whether there is a flit, and it has it
abbrev pub on_front : (Flit → Bool) → List Flit → Bool
on_front h [] = false
on_front h (f ∷ fs) = h f

pub front-tail : (q : List Flit) → on_front (λ f. f.tail) q ≡ is_tail (front q)
front-tail [] = refl
front-tail (f ∷ fs) = refl

pub front-leads : (p : Plan) (n o : ℕ) (q : List Flit) → on_front (λ f. route p n f.dest == o) q ≡ leads p n q o
front-leads p n o [] = refl
front-leads p n o (f ∷ fs) = refl

-- the flit of a word
pub flit-part : (p : Plan) (n b : ℕ) (f : Flit) → f.dest < 2 ^ b → f.payload < 2 ^ 32 → word_code p n b f / 2 ^ 0 % 2 ^ (33 + b - 0 + 1) ≡ flit_code b f
flit-part p n b f hd hp =
    let width : 33 + b - 0 + 1 ≡ 34 + b = omega arith in
    ap (λ k. word_code p n b f / 2 ^ 0 % 2 ^ k) width ∙ ap (λ x. x % 2 ^ (34 + b)) (div-one (word_code p n b f))
    ∙ mul-add-mod_self_right (2 ^ route p n f.dest) (2 ^ (34 + b)) (flit_code b f) ∙ mod-eq_of_lt (flit-small b f hd hp)

-- ---- words of three parts, and chains of OR

pub cat-three : (w : Widths) (v : Values) (a c f : Expr) (x y : ℕ) → width_of w c ≡ x → width_of w f ≡ y
    → value_of w v (cat (parts a (parts c (parts f no_parts)))) ≡ value_of w v a * 2 ^ (x + y) + (value_of w v c * 2 ^ y + value_of w v f)
cat-three w v a c f x y wide_c wide_f =
    let none : width_of w f + 0 ≡ width_of w f = omega arith in
    let alone : value_of w v f * 2 ^ 0 + 0 ≡ value_of w v f = omega arith in
    ap (λ k. value_of w v a * 2 ^ (width_of w c + k) + (value_of w v c * 2 ^ k + (value_of w v f * 2 ^ 0 + 0))) (none ∙ wide_f)
    ∙ ap (λ k. value_of w v a * 2 ^ (k + y) + (value_of w v c * 2 ^ y + (value_of w v f * 2 ^ 0 + 0))) wide_c
    ∙ ap (λ k. value_of w v a * 2 ^ (x + y) + (value_of w v c * 2 ^ y + k)) alone

pub or-wide : (w : Widths) (f : ℕ → Expr) (n : ℕ) → width_of w (or_upto n f) ≡ width_of w (f 0)
or-wide w f zero = refl
or-wide w f (suc n) = or-wide w f n

pub any-on : (m : ℕ) (x : Option LinkFlit) → ((y : LinkFlit) → x ≡ Some y → y.channel ≤ m) → any_upto m (is_on x) ≡ is_some x
any-on m None few = any-none m (λ k. false) (λ k le. refl)
any-on m (Some y) few =
    let self : (y.channel == y.channel) ≡ true = grind (arith, nat_tests) in
    any-lone m y.channel (is_on (Some y)) (few y refl) (λ k other. (let differ : (y.channel == k) ≡ false = grind (arith, nat_tests) in differ)) ∙ self

pub on-place : (x : Option LinkFlit) (k : ℕ) → is_on x k ≡ is_place (option_map (λ (y : LinkFlit). y.channel) x) k
on-place None k = refl
on-place (Some y) k = refl

-- ---- what is in a link's word

-- the destination and the flit
pub record IsLinkWord (b word : ℕ) (f : Flit) : Type 0 where
  pub dest : word / 2 ^ 32 % 2 ^ (31 + b - 32 + 1) ≡ f.dest
  pub flit : word / 2 ^ 0 % 2 ^ (33 + b - 0 + 1) ≡ flit_code b f

pub link-word : (b cb ch : ℕ) (f : Flit) → 1 ≤ b → f.dest < 2 ^ b → f.payload < 2 ^ 32 → IsLinkWord b (2 ^ (cb + (34 + b)) + (ch * 2 ^ (34 + b) + flit_code b f)) f
link-word b cb ch f some hd hp = record {
  dest = ap (λ k. whole / 2 ^ 32 % 2 ^ k) narrow ∙ sym (field_of whole b 32) ∙ ap (λ x. x % 2 ^ (b + 32) / 2 ^ 32) low
      ∙ ap (λ x. x / 2 ^ 32) (mul-add-mod_self_right upper (2 ^ (b + 32)) (f.dest * 2 ^ 32 + f.payload) ∙ mod-eq_of_lt small)
      ∙ div-mul-add f.dest (2 ^ 32) f.payload hp;
  flit = ap (λ k. whole / 2 ^ 0 % 2 ^ k) wide ∙ ap (λ x. x % 2 ^ (34 + b)) (div-one whole ∙ high)
      ∙ mul-add-mod_self_right (2 ^ cb + ch) (2 ^ (34 + b)) (flit_code b f) ∙ mod-eq_of_lt (flit-small b f hd hp);
}
  where
    whole : ℕ
    whole = 2 ^ (cb + (34 + b)) + (ch * 2 ^ (34 + b) + flit_code b f)

    upper : ℕ
    upper = (2 ^ cb + ch) * 4 + (one_if f.head * 2 + one_if f.tail)

    narrow : 31 + b - 32 + 1 ≡ b
    narrow = omega (arith, some)

    wide : 33 + b - 0 + 1 ≡ 34 + b
    wide = omega arith

    turned : b + 32 ≡ 32 + b
    turned = omega arith

    small : f.dest * 2 ^ 32 + f.payload < 2 ^ (b + 32)
    small = subst (λ k. f.dest * 2 ^ 32 + f.payload < 2 ^ k) (sym turned) (low-small b f.dest f.payload hd hp)

    high : 2 ^ (cb + (34 + b)) + (ch * 2 ^ (34 + b) + flit_code b f) ≡ (2 ^ cb + ch) * 2 ^ (34 + b) + flit_code b f
    high = ap (λ x. x + (ch * 2 ^ (34 + b) + flit_code b f)) (pow-add 2 cb (34 + b)) ∙ regroup (2 ^ cb) ch (2 ^ (34 + b)) (flit_code b f)
      where
        regroup : (x c k y : ℕ) → x * k + (c * k + y) ≡ (x + c) * k + y
        regroup x c k y = grind arith

    low : 2 ^ (cb + (34 + b)) + (ch * 2 ^ (34 + b) + flit_code b f) ≡ upper * 2 ^ (b + 32) + (f.dest * 2 ^ 32 + f.payload)
    low =
        let same : 34 + b ≡ 2 + (b + 32) = omega arith in
        let parts_of : 2 ^ (34 + b) ≡ 4 * 2 ^ (b + 32) = ap (λ k. 2 ^ k) same ∙ pow-add 2 2 (b + 32) in
        high ∙ ap (λ k. (2 ^ cb + ch) * k + flit_code b f) parts_of
        ∙ ap (λ y. (2 ^ cb + ch) * (4 * 2 ^ (b + 32)) + y) (split-code b f ∙ ap (λ k. (one_if f.head * 2 + one_if f.tail) * 2 ^ k + (f.dest * 2 ^ 32 + f.payload)) (sym turned))
        ∙ regroup (2 ^ cb + ch) (one_if f.head * 2 + one_if f.tail) (2 ^ (b + 32)) (f.dest * 2 ^ 32 + f.payload)
      where
        regroup : (x h k y : ℕ) → x * (4 * k) + (h * k + y) ≡ (x * 4 + h) * k + y
        regroup x h k y = grind arith

-- route bits above a flit
pub cat-two : (w : Widths) (v : Values) (a f : Expr) (y : ℕ) → width_of w f ≡ y → value_of w v (cat (parts a (parts f no_parts))) ≡ value_of w v a * 2 ^ y + value_of w v f
cat-two w v a f y wide_f =
    let none : width_of w f + 0 ≡ width_of w f = omega arith in
    let alone : value_of w v f * 2 ^ 0 + 0 ≡ value_of w v f = omega arith in
    ap (λ k. value_of w v a * 2 ^ k + (value_of w v f * 2 ^ 0 + 0)) (none ∙ wide_f) ∙ ap (λ k. value_of w v a * 2 ^ y + k) alone

pub routed-to : (p : Plan) (n b : ℕ) (w : Widths) (v : Values) (dest : Name) (to : ℕ) → v.net dest ≡ to → to < 2 ^ b → value_of w v (route_bits p n dest b) ≡ 2 ^ route p n to
routed-to p n b w v dest to e below =
    let at : v.net dest / 2 ^ 0 ≡ to = div-one (v.net dest) ∙ e in
    table-shown w v dest (ports p) (λ x. 2 ^ route p n x) 0 b (subst (λ k. k < 2 ^ b) (sym at) below) ∙ ap (λ x. 2 ^ route p n x) at

-- ---- the ejection place

pub eject-word : (b : ℕ) (f : Flit) → f.dest < 2 ^ b → f.payload < 2 ^ 32
    → 1 * 2 ^ (2 + 32) + (flit_code b f / 2 ^ (32 + b) % 2 ^ (33 + b - (32 + b) + 1) * 2 ^ 32 + flit_code b f / 2 ^ 0 % 2 ^ (31 - 0 + 1)) ≡ ejected_code (Some f)
eject-word b f hd hp =
    ap (λ k. 1 * 2 ^ (2 + 32) + (k * 2 ^ 32 + flit_code b f / 2 ^ 0 % 2 ^ (31 - 0 + 1))) top
    ∙ ap (λ k. 1 * 2 ^ (2 + 32) + ((one_if f.head * 2 + one_if f.tail) * 2 ^ 32 + k)) low ∙ omega arith
  where
    two_bits : 33 + b - (32 + b) + 1 ≡ 2
    two_bits = omega arith

    few : one_if f.head * 2 + one_if f.tail < 2 ^ 2
    few = let head = one-most f.head in let tail = one-most f.tail in omega (arith, head, tail)

    top : flit_code b f / 2 ^ (32 + b) % 2 ^ (33 + b - (32 + b) + 1) ≡ one_if f.head * 2 + one_if f.tail
    top =
        ap (λ k. flit_code b f / 2 ^ (32 + b) % 2 ^ k) two_bits ∙ ap (λ x. x / 2 ^ (32 + b) % 2 ^ 2) (split-code b f)
        ∙ ap (λ x. x % 2 ^ 2) (div-mul-add (one_if f.head * 2 + one_if f.tail) (2 ^ (32 + b)) (f.dest * 2 ^ 32 + f.payload) (low-small b f.dest f.payload hd hp))
        ∙ mod-eq_of_lt few

    low : flit_code b f / 2 ^ 0 % 2 ^ (31 - 0 + 1) ≡ f.payload
    low =
        ap (λ x. x % 2 ^ 32) (div-one (flit_code b f))
        ∙ mul-add-mod_self_right ((one_if f.head * 2 + one_if f.tail) * 2 ^ b + f.dest) (2 ^ 32) f.payload ∙ mod-eq_of_lt hp
