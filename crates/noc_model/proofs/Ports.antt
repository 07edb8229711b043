-- Ports by their parity, and the ports of links.
use Rattle.std.proofs.Common.{◌≡◌, ◌≢◌, ℕ, zero, suc, ◌+◌, ◌-◌, ◌/◌, ◌%◌, ◌<◌, ◌≤◌, Bool, true, false, length, IsSome, refl, sym, ◌∙◌, ap, arith, if◌then◌else◌, ◌==◌}
use Rattle.std.specs.Prelude.{Some, None}
use Rattle.std.proofs.lemmas.Bool.Decides.{nat_tests}
use Rattle.noc_model.specs.Plan.{Plan}
use Rattle.noc_model.specs.declared.ways.Way.{Way}
use Rattle.noc_model.specs.declared.ways.Way.TheVariants.{Local, Plus, Minus}
use Rattle.noc_model.specs.Place.{way_of, port_of, opposite_way, opposite, has_link, neighbour, side}
use Rattle.noc_model.proofs.Coords.{in-sides}
use Rattle.noc_model.proofs.Wave.{way_of-port_of, port_of-way_of}

-- odd ports are plus, and even ones minus
pub way-by : (port : ℕ) → port ≢ 0
    → way_of port ≡ (if port % 2 == 1 then Plus ((port - 1) / 2) else Minus ((port - 1) / 2))
way-by zero link = absurd (link refl)
way-by (suc n) link = go (n % 2) refl (omega arith)
  where
    one_less : suc n - 1 ≡ n
    one_less = omega arith

    go : (r : ℕ) → n % 2 ≡ r → r < 2
        → (if r == 0 then Plus (n / 2) else Minus (n / 2)) ≡ (if suc n % 2 == 1 then Plus ((suc n - 1) / 2) else Minus ((suc n - 1) / 2))
    go zero e h = let odd : suc n % 2 ≡ 1 = omega arith in rw (odd, one_less) refl
    go (suc zero) e h = let even : suc n % 2 ≡ 0 = omega arith in rw (even, one_less) refl
    go (suc (suc r)) e h = absurd (omega arith)

-- only port 0 is the local one
pub way-linked : (port : ℕ) → port ≢ 0 → way_of port ≢ Local
way-linked port link e = link (sym (port_of-way_of port) ∙ ap port_of e)

-- ---- opposite ports

pub opposite-is : (port : ℕ) → way_of (opposite port) ≡ opposite_way (way_of port)
unfolding opposite
opposite-is port = way_of-port_of (opposite_way (way_of port))

opposite-local : (w : Way) → opposite_way w ≡ Local → w ≡ Local
opposite-local Local e = refl
opposite-local (Plus i) e = absurd (cc e)
opposite-local (Minus i) e = absurd (cc e)

pub opposite-linked : (port : ℕ) → port ≢ 0 → way_of (opposite port) ≢ Local
opposite-linked port link e = way-linked port link (opposite-local (way_of port) (sym (opposite-is port) ∙ e))

-- an opposite port is next to its port
pub opposite-near : (port : ℕ) → opposite port ≤ port + 1
unfolding opposite
opposite-near port = go (way_of port) (port_of-way_of port)
  where
    go : (w : Way) → port_of w ≡ port → port_of (opposite_way w) ≤ port + 1
    go Local e = omega arith
    go (Plus i) e = omega arith
    go (Minus i) e = omega arith

-- ---- ports of links

-- a port with a link is not the local one
pub link-port : (p : Plan) (n port : ℕ) → IsSome (neighbour p n port) → port ≢ 0
unfolding neighbour
link-port p n zero h = λ e. absurd (cc h)
link-port p n (suc m) h = λ e. omega arith

pub linked-port : (p : Plan) (n port m : ℕ) → neighbour p n port ≡ Some m → port ≢ 0
linked-port p n port m e = link-port p n port (rw e refl)

link-side : (p : Plan) (n : ℕ) (w : Way) (i : ℕ) (b : Bool) → w ≡ (if b then Plus i else Minus i)
    → has_link p n w ≡ true → 1 < side p i
link-side p n w i true e h = let l = rw e at h in grind (arith, nat_tests)
link-side p n w i false e h = let l = rw e at h in grind (arith, nat_tests)

some-if : (b : Bool) (m : ℕ) → IsSome (if b then Some m else None) → b ≡ true
some-if true m h = refl
some-if false m h = absurd (cc h)

-- and it is one of a dimension
pub link-dim : (p : Plan) (n port : ℕ) → IsSome (neighbour p n port) → (port - 1) / 2 < length p.dims
unfolding neighbour side
link-dim p n port h =
    in-sides p.dims ((port - 1) / 2) (link-side p n (way_of port) ((port - 1) / 2) (port % 2 == 1) (way-by port (link-port p n port h)) (some-if _ _ h))
