-- What a wheel that stands for a cycle answers.
use Rattle.std.proofs.Common.{◌≡◌, ℕ, ◌+◌, ◌%◌, ◌<◌, List, length, map, sym, ◌∙◌, ap, arith, subst}
use Rattle.std.specs.Prelude.{Some, pos, ◌+ℤ◌, ◌-ℤ◌, slice_index, slice_index_or, Option, None, All}
use Rattle.std.specs.List.{range_with_len}
use Rattle.std.proofs.lemmas.Int.{ints}
use Rattle.std.proofs.lemmas.List.FromFn.{length-map-range_with_len, get_or-map-range_with_len}
use Rattle.std.proofs.lemmas.List.Elements.{All-map}
use Rattle.noc_model.specs.Plan.{Plan, ports}
use Rattle.noc_model.specs.Place.{neighbour, opposite, owner, next_in, modulo, slot_of, way_of}
use Rattle.noc_model.proofs.Modulo.{modulo-next}
use Rattle.noc_model.proofs.Ports.{linked-port}
use Rattle.wave_sched.specs.declared.starts.PortSlots.{PortSlots}
use Rattle.wave_sched.specs.declared.wheels.Wheel.{Wheel}
use Rattle.wave_sched.specs.Starts.{port_slots, arriving_from, AreBelow}
use Rattle.wave_sched.specs.Wheels.{Stands, wheel_ports}
use Rattle.wave_sched.proofs.Turns.{slot-below, owner-leaving, owner-arriving}

-- a wheel has the ports of its plan
pub wheel_ports-is : (w : Wheel) (p : Plan) (n t : ℕ) → Stands w p n t → wheel_ports w ≡ ports p
wheel_ports-is w p n t stands = ap length stands.links ∙ length-map-range_with_len (port_slots p n) 0 (ports p)

-- a port's slots are those of the plan
start-is : (w : Wheel) (p : Plan) (n t port : ℕ) (s : PortSlots) → Stands w p n t → port < wheel_ports w
    → s ≡ slice_index_or w.starts.items port s → s ≡ port_slots p n port
start-is w p n t port s stands there is =
    let count = wheel_ports-is w p n t stands in
    is ∙ ap (λ l. slice_index_or l port s) stands.links
    ∙ get_or-map-range_with_len (port_slots p n) 0 (ports p) port port s (omega (arith, count, there)) (omega arith)

-- the owner of a port's slot, by the plan's list
owner-is : (w : Wheel) (p : Plan) (n t start r : ℕ) (xs : List ℕ) → Stands w p n t → xs ≡ w.slots.items
    → r ≡ slice_index xs ((start + w.phase) % length xs)
    → r ≡ slice_index p.slots ((start + t % length p.slots) % length p.slots)
owner-is w p n t start r xs stands same is =
    is ∙ ap (λ l. slice_index l ((start + w.phase) % length l)) (same ∙ stands.owners)
    ∙ ap (λ z. slice_index p.slots ((start + z) % length p.slots)) stands.cycle

pub some-slots : (w : Wheel) (p : Plan) (n t : ℕ) → Stands w p n t → w.phase < length w.slots.items → 0 < length p.slots
some-slots w p n t stands here = let e : length w.slots.items ≡ length p.slots = ap length stands.owners in omega arith

pub leaving-is : (w : Wheel) (p : Plan) (n t m port : ℕ) (s : PortSlots) (r : ℕ) (xs : List ℕ) → Stands w p n t
    → w.phase < length w.slots.items → port < wheel_ports w
    → neighbour p n port ≡ Some m → xs ≡ w.slots.items → s ≡ slice_index_or w.starts.items port s
    → r ≡ slice_index xs ((s.leaving + w.phase) % length xs)
    → r ≡ owner p n port (pos t)
leaving-is w p n t m port s r xs stands here there link same at is =
    let start : s.leaving ≡ slot_of p n (pos 0) (way_of port) =
    ap (λ (x : PortSlots). x.leaving) (start-is w p n t port s stands there at) in
    owner-is w p n t s.leaving r xs stands same is
    ∙ ap (λ z. slice_index p.slots ((z + t % length p.slots) % length p.slots)) start
    ∙ owner-leaving p n port t (linked-port p n port m link) (some-slots w p n t stands here)

pub arriving-is : (w : Wheel) (p : Plan) (n t m port : ℕ) (s : PortSlots) (r : ℕ) (xs : List ℕ) → Stands w p n t
    → w.phase < length w.slots.items → port < wheel_ports w
    → neighbour p n port ≡ Some m → xs ≡ w.slots.items → s ≡ slice_index_or w.starts.items port s
    → r ≡ slice_index xs ((s.arriving + w.phase) % length xs)
    → r ≡ owner p m (opposite port) (pos t -ℤ pos p.stages)
arriving-is w p n t m port s r xs stands here there link same at is =
    let start : s.arriving ≡ slot_of p m (pos 0 -ℤ pos p.stages) (way_of (opposite port)) =
    ap (λ (x : PortSlots). x.arriving) (start-is w p n t port s stands there at) ∙ ap (arriving_from p port) link in
    owner-is w p n t s.arriving r xs stands same is
    ∙ ap (λ z. slice_index p.slots ((z + t % length p.slots) % length p.slots)) start
    ∙ owner-arriving p m port t p.stages (linked-port p n port m link) (some-slots w p n t stands here)

-- the next cycle
pub cycle-next : (k t r : ℕ) → 0 < k → r ≡ next_in k (t % k) → r ≡ (t + 1) % k
cycle-next k t r some is =
    let up : pos t +ℤ pos 1 ≡ pos (t + 1) = omega (arith, ints) in
    is ∙ sym (modulo-next k (pos t) some) ∙ ap (λ z. modulo z k) up

arriving-below : (p : Plan) (port : ℕ) (o : Option ℕ) → 0 < length p.slots → arriving_from p port o < length p.slots
arriving-below p port None some = some
arriving-below p port (Some m) some = slot-below p m (pos 0 -ℤ pos p.stages) (way_of (opposite port)) some

pub starts-below : (p : Plan) (n count : ℕ) → 0 < length p.slots
    → All (AreBelow (length p.slots)) (map (port_slots p n) (range_with_len 0 count))
starts-below p n count some =
    All-map (AreBelow (length p.slots)) (port_slots p n) (range_with_len 0 count)
    (λ k d there. (
      slot-below p n (pos 0) (way_of (slice_index_or (range_with_len 0 count) k d)) some,
      arriving-below p (slice_index_or (range_with_len 0 count) k d) (neighbour p n (slice_index_or (range_with_len 0 count) k d)) some,
    ))

pub made-below : (p : Plan) (n count : ℕ) (owners : List ℕ) (starts : List PortSlots) → 0 < length p.slots
    → owners ≡ p.slots → starts ≡ map (port_slots p n) (range_with_len 0 count)
    → All (AreBelow (length owners)) starts
made-below p n count owners starts some same are =
    let P : List ℕ → List PortSlots → Type 0 = λ xs l. All (AreBelow (length xs)) l in
    subst (P owners) (sym are) (subst (λ xs. P xs (map (port_slots p n) (range_with_len 0 count))) (sym same) (starts-below p n count some))
