-- The output ports of a leaf show what its tile parts give out.
use Rattle.std.proofs.Common.{◌≡◌, ℕ, ◌+◌, ◌-◌, ◌*◌, ◌/◌, ◌%◌, ◌<◌, ◌≤◌, ◌^◌, Bool, true, false, length, Option, refl, ◌∙◌, ap, arith, ◌==◌}
use Rattle.std.specs.Prelude.{Some, None}
use Rattle.std.proofs.Math.Nat.{mod-eq_of_lt, mul-add-mod_self_right, div-one, zero-div, zero-mod}
use Rattle.std.proofs.lemmas.Nat.Bits.{bit_at_cat_high}
use Rattle.vl_model.specs.Meaning.{Widths, Values, one_if}
use Rattle.gen_kit.specs.Groups.{HoldsIn}
use Rattle.noc_model.specs.declared.Flit.{Flit}
use Rattle.noc_model.specs.declared.LinkFlit.{LinkFlit}
use Rattle.noc_model.specs.Plan.{Plan, hosts, link_channels}
use Rattle.noc_model.specs.Sound.{IsSound}
use Rattle.noc_model.specs.Tile.{Tile}
use Rattle.leaf_tie.specs.Buffers.{BufferSize}
use Rattle.leaf_tie.specs.Tie.{LeafNames, HasLink, LeafTie, ejected_code, word_code}
use Rattle.leaf_tie.specs.Glue.{NetNames, attach_names, attach_size}
use Rattle.leaf_tie.specs.Outs.{OutNames, EjectedShown, LeafOut, credit_out_group, link_out_group, local_out_group}
use Rattle.leaf_tie.proofs.Attached.{open-shown}
use Rattle.leaf_tie.proofs.Buffered.{length-map}
use Rattle.leaf_tie.proofs.Placed.{bit-is, bit-one, one-bit}
use Rattle.gen_kit.specs.Masks.{mask}
use Rattle.gen_kit.proofs.Sets.{mask-bit}
use Rattle.gen_kit.proofs.Families.{rows-shown}
use Rattle.vl_tree.specs.Values.{Name, bit}

-- the bits of an ejection place
pub record IsEjected (f : Flit) : Type 0 where
  pub valid : ejected_code (Some f) / 2 ^ 34 % 2 ≡ 1
  pub head : ejected_code (Some f) / 2 ^ 33 % 2 ≡ one_if f.head
  pub tail : ejected_code (Some f) / 2 ^ 32 % 2 ≡ one_if f.tail
  pub payload : ejected_code (Some f) / 2 ^ 0 % 2 ^ (31 - 0 + 1) ≡ f.payload

ejected-bits : (f : Flit) → f.payload < 2 ^ 32 → IsEjected f
ejected-bits f small = record {
  valid = bit_at_cat_high ((2 + one_if f.head) * 2 + one_if f.tail) 32 f.payload 34 small (omega arith) ∙ top f.head f.tail;
  head = bit_at_cat_high ((2 + one_if f.head) * 2 + one_if f.tail) 32 f.payload 33 small (omega arith) ∙ middle f.head f.tail;
  tail = bit_at_cat_high ((2 + one_if f.head) * 2 + one_if f.tail) 32 f.payload 32 small (omega arith) ∙ low f.head f.tail;
  payload = ap (λ x. x % 2 ^ 32) (div-one (ejected_code (Some f))) ∙ mul-add-mod_self_right ((2 + one_if f.head) * 2 + one_if f.tail) (2 ^ 32) f.payload ∙ mod-eq_of_lt small;
}
  where
    top : (h t : Bool) → ((2 + one_if h) * 2 + one_if t) / 2 ^ (34 - 32) % 2 ≡ 1
    top true true = refl
    top true false = refl
    top false true = refl
    top false false = refl

    middle : (h t : Bool) → ((2 + one_if h) * 2 + one_if t) / 2 ^ (33 - 32) % 2 ≡ one_if h
    middle true true = refl
    middle true false = refl
    middle false true = refl
    middle false false = refl

    low : (h t : Bool) → ((2 + one_if h) * 2 + one_if t) / 2 ^ (32 - 32) % 2 ≡ one_if t
    low true true = refl
    low true false = refl
    low false true = refl
    low false false = refl

pub outs-shown : (p : Plan) (n : ℕ) (names : LeafNames) (nets : NetNames) (out : OutNames) (size : BufferSize) (dest_bits link_flit link_channel : ℕ) (w : Widths) (v : Values) (t : ℕ) (s : ℕ → Tile) (shared : ℕ → ℕ → Option LinkFlit)
    → IsSound p → ((o : ℕ) → HasLink p n o → HoldsIn (link_out_group p names out o) w v)
    → ((d : ℕ) → d < length p.domains → hosts p n d ≡ true → HoldsIn (local_out_group p names nets out size dest_bits d) w v)
    → LeafTie p n names size dest_bits link_flit link_channel v t s shared
    → LeafOut p n out dest_bits link_flit link_channel v s shared
outs-shown p n names nets out size dest_bits link_flit link_channel w v t s shared sound links locals tie = record {
  links = λ o link. (links o link).nets.0 ∙ tie.rows o (p.stages - 1) link last;
  payloads = λ o x link e. tie.payloads o (p.stages - 1) x link e;
  ejected = λ d below h. shown d below h (s d).ejected refl;
  dropped = λ d below h. (locals d below h).nets.1.1.1.1.0 ∙ (tie.domains d below).dropped h;
  ready = λ d below h.
      (let own = tie.domains d below in
      (locals d below h).nets.1.1.1.1.1.0
      ∙ open-shown p d (attach_names names nets d) (attach_size p size dest_bits d) w v (s d) (own.packet h) (own.current h) own.sound.current
      (λ c few. (own.buffers 0 c (h, few)).1.count ∙ length-map (word_code p n dest_bits) ((s d).queue 0 c)));
}
  where
    last : p.stages - 1 < p.stages
    last = let more : 1 ≤ p.stages = sound.stages.0 in omega (arith, more)

    shown : (d : ℕ) → d < length p.domains → hosts p n d ≡ true → (x : Option Flit) → (s d).ejected ≡ x → EjectedShown out d v x
    shown d below h None e =
        let place : v.net (names.ejected d) ≡ 0 = (tie.domains d below).ejected h ∙ ap ejected_code e in (
          (locals d below h).nets.0 ∙ ap (λ k. k / 2 ^ 34 % 2) place ∙ nothing (2 ^ 34) 2,
          (locals d below h).nets.1.0 ∙ ap (λ k. k / 2 ^ 33 % 2) place ∙ nothing (2 ^ 33) 2,
          (locals d below h).nets.1.1.0 ∙ ap (λ k. k / 2 ^ 32 % 2) place ∙ nothing (2 ^ 32) 2,
          (locals d below h).nets.1.1.1.0 ∙ ap (λ k. k / 2 ^ 0 % 2 ^ (31 - 0 + 1)) place ∙ nothing (2 ^ 0) (2 ^ (31 - 0 + 1)),
        )
      where
        nothing : (k m : ℕ) → 0 / k % m ≡ 0
        nothing k m = rw (zero-div k) (zero-mod m)
    shown d below h (Some f) e =
        let place : v.net (names.ejected d) ≡ ejected_code (Some f) = (tie.domains d below).ejected h ∙ ap ejected_code e in
        let bits = ejected-bits f ((tie.domains d below).held f e) in (
          (locals d below h).nets.0 ∙ ap (λ k. k / 2 ^ 34 % 2) place ∙ bits.valid,
          (locals d below h).nets.1.0 ∙ ap (λ k. k / 2 ^ 33 % 2) place ∙ bits.head,
          (locals d below h).nets.1.1.0 ∙ ap (λ k. k / 2 ^ 32 % 2) place ∙ bits.tail,
          (locals d below h).nets.1.1.1.0 ∙ ap (λ k. k / 2 ^ 0 % 2 ^ (31 - 0 + 1)) place ∙ bits.payload,
        )

-- each bit of a bundle is the pulse of its domain and channel
pub credits-shown : (p : Plan) (n : ℕ) (names : LeafNames) (size : BufferSize) (dest_bits link_flit link_channel : ℕ) (bundle : Name) (port first count : ℕ) (domain channel : ℕ → ℕ)
    (w : Widths) (v : Values) (t : ℕ) (s : ℕ → Tile) (shared : ℕ → ℕ → Option LinkFlit) → HoldsIn (credit_out_group names bundle port first count domain channel) w v
    → LeafTie p n names size dest_bits link_flit link_channel v t s shared → HasLink p n port
    → (r : ℕ) → first ≤ r → r < first + count → domain r < length p.domains → channel r < link_channels p (domain r)
    → v.net bundle / 2 ^ (r - first) % 2 ≡ one_if ((s (domain r)).pulse port (channel r))
credits-shown p n names size dest_bits link_flit link_channel bundle port first count domain channel w v t s shared hold tie link r from below there few =
    ap (λ m. m / 2 ^ (r - first) % 2) bits ∙ mask-bit count (r - first) shown inside
    ∙ ap (λ k. one_if (v.net (names.pulse (domain k) port) / 2 ^ channel k % 2 == 1)) at
    ∙ ap (λ m. one_if (m / 2 ^ channel r % 2 == 1)) ((tie.domains (domain r) there).pulses port link)
    ∙ ap (λ m. one_if (m == 1)) (mask-bit (link_channels p (domain r)) (channel r) ((s (domain r)).pulse port) few)
    ∙ ap one_if (bit-one ((s (domain r)).pulse port (channel r)))
  where
    shown : ℕ → Bool
    shown k = v.net (names.pulse (domain (first + k)) port) / 2 ^ channel (first + k) % 2 == 1

    inside : r - first < count
    inside = omega (arith, from, below)

    at : first + (r - first) ≡ r
    at = omega (arith, from)

    bits : v.net bundle ≡ mask count shown
    bits =
        hold.nets.0
        ∙ rows-shown 1 w v (λ k. bit (names.pulse (domain (first + k)) port) (channel (first + k))) shown (count - 1) (λ k le. refl)
        (λ k le. bit-is (v.net (names.pulse (domain (first + k)) port) / 2 ^ channel (first + k)) ∙ one-bit shown k)
        ∙ (let width : (count - 1 + 1) * 1 ≡ count = omega (arith, inside) in ap (λ m. mask m shown) width)
