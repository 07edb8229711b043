-- At reset the tie of a leaf stands.
use Rattle.std.proofs.Common.{◌≡◌, ℕ, zero, suc, ◌+◌, ◌-◌, ◌/◌, ◌%◌, ◌<◌, ◌≤◌, ◌^◌, Bool, true, false, [], length, Option, refl, sym, ◌∙◌, ap, arith, subst, ℤ}
use Rattle.std.specs.Prelude.{None, pos, ◌-ℤ◌, nat_le, if◌then◌else◌, ◌==◌}
use Rattle.std.proofs.Math.Nat.{zero-mod}
use Rattle.std.proofs.lemmas.Bool.Decides.{nat_tests}
use Rattle.std.proofs.lemmas.List.Elements.{All-nil}
use Rattle.vl_model.specs.Meaning.{Values}
use Rattle.vl_model.specs.Leaf.{Reset}
use Rattle.vl_model.specs.Parts.{AllReset}
use Rattle.gen_kit.proofs.Parts.{held-front, held-back}
use Rattle.noc_model.specs.declared.LinkFlit.{LinkFlit}
use Rattle.noc_model.specs.Plan.{Plan, channels, link_channels, ports}
use Rattle.noc_model.specs.Place.{way_of, slot_of, opposite, owner}
use Rattle.noc_model.specs.declared.ways.Way.{Way}
use Rattle.noc_model.specs.declared.ways.Way.TheVariants.{Local, Plus, Minus}
use Rattle.noc_model.specs.Shared.{filled_in}
use Rattle.noc_model.specs.Sound.{IsSound}
use Rattle.noc_model.specs.SoundState.{GoesHome, IsSoundTile}
use Rattle.noc_model.specs.Tile.{TileIn, start_tile}
use Rattle.noc_model.proofs.StateKept.{some-channels}
use Rattle.gen_kit.specs.Masks.{mask}
use Rattle.gen_kit.specs.Rotate.{rotate_group, pointer_moves, PointsTo}
use Rattle.gen_kit.specs.Families.{for_each}
use Rattle.leaf_tie.specs.Alloc.{AllocTie, AllocNames, AllocSize, alloc_group, active_moves, active_move, out_count}
use Rattle.leaf_tie.specs.Buffers.{BufferSize}
use Rattle.leaf_tie.specs.Slots.{leaving_slot, arriving_slot}
use Rattle.leaf_tie.specs.Switch.{switch_group, lone_switch_group, lone_choice, lone_moves}
use Rattle.leaf_tie.specs.Tie.{LeafNames, PortNames, HasLink, HasPort, alloc_size, DomainTie, LeafTie, IsWord, is_lone}
use Rattle.leaf_tie.specs.Glue.{NetNames, switch_names, switch_size, has_port, high, DomainStarts, LeafStarts, rows_at, state_at}
use Rattle.gen_kit.proofs.Sets.{mask-same, mask-none, mask-from}
use Rattle.gen_kit.proofs.Families.{each-held}
use Rattle.leaf_tie.proofs.Allocated.{split}
use Rattle.leaf_tie.proofs.Sized.{port-has}
use Rattle.gen_kit.proofs.Rotated.{rotate-starts}
use Rattle.leaf_tie.proofs.Slotted.{slot-starts, modulo-below}
use Rattle.leaf_tie.proofs.Sized.{high-is}

start-sound : (p : Plan) (d n : ℕ) (t : ℤ) → 0 < channels p d → IsSoundTile p d n t (start_tile p)
start-sound p d n t some = record {
  queued = λ port c. All-nil (GoesHome p d);
  on_link = λ o i x e. absurd (cc e);
  waiting = λ f e. absurd (cc e);
  packet = tt;
  stages = λ port c. tt;
  channel = λ o i x link e. absurd (cc e);
  owned = λ o i x link e. absurd (cc e);
  current = some;
  local = λ c. omega arith;
  unlinked = λ port c link none. refl;
}

whole : (n : ℕ) → 2 ^ n - 1 ≡ mask n (λ k. true)
whole n = sym (mask-from n 0 (omega arith)) ∙ mask-same n (nat_le 0) (λ k. true) (λ k below. grind (arith, nat_tests))

empty : (n : ℕ) → 0 ≡ mask n (λ k. false)
empty n = sym (mask-none n (λ k. false) (λ k below. refl))

alloc-starts : (p : Plan) (d n o : ℕ) (a : AllocNames) (z : AllocSize) (v : Values) → AllReset v (alloc_group p d n o a z).moves → AllocTie p d o a z v (start_tile p)
alloc-starts p d n o a z v e = record {
  waiting = e.0 ∙ empty (z.high + 1);
  held = e.1.0 ∙ empty (out_count z);
  active = λ x below. (let at = split z.size z.last x below in
      subst (λ y. v.net (a.active y) ≡ mask (z.high + 1) (λ k. false)) at.2
      ((each-held (Reset v) (z.size + 1) (active_move a z (x / (z.size + 1)))
      (each-held (Reset v) (z.last + 1) (λ m. for_each (z.size + 1) (active_move a z m)) (held-back (Reset v) (rotate_group a.choice z.high).moves (active_moves a z) e.1.1) (x / (z.size + 1)) (omega (arith, at.0)))
      (x % (z.size + 1)) at.1).0 ∙ empty (z.high + 1)));
  pointer = rotate-starts a.choice z.high v (held-front (Reset v) (rotate_group a.choice z.high).moves (active_moves a z) e.1.1);
}

pub slot-below : (p : Plan) (n : ℕ) (t : ℤ) (way : Way) → 1 ≤ length p.slots → slot_of p n t way < length p.slots
slot-below p n t Local some = omega arith
slot-below p n t (Plus i) some = modulo-below (length p.slots) _ some
slot-below p n t (Minus i) some = modulo-below (length p.slots) _ some

nothing : Option LinkFlit
nothing = None

nothing-own : (b : Bool) → nothing ≡ (if b then nothing else nothing)
nothing-own true = refl
nothing-own false = refl

domain-starts : (p : Plan) (n d : ℕ) (names : LeafNames) (nets : NetNames) (q : PortNames) (base : ℕ → ℕ) (size : BufferSize) (dest_bits : ℕ) (v : Values) → IsSound p → d < length p.domains
    → DomainStarts p n d names nets q base size dest_bits v → DomainTie p n d names size dest_bits v (pos 0) (start_tile p)
domain-starts p n d names nets q base size dest_bits v sound there e = record {
  idle = e.idle.0 ∙ whole (high p d + 1) ∙ ap (λ m. mask m (λ k. true)) (high-is p d some);
  outputs = λ o port. alloc-starts p d n o (names.alloc d o) (alloc_size p d o) v (e.alloc o port);
  switches = λ o below port. choice-starts (is_lone p d) refl e.switch o below port;
  credits = λ o x link few. (e.credits o x link few).0;
  turns = λ more port below. turn-starts (subst (λ b. AllReset v (if b then lone_switch_group (switch_names names nets d) (ports p - 1) (has_port p n d) else switch_group (switch_names names nets d) (switch_size p d)).moves) more e.switch) port below;
  pulses = λ port link. (e.pulses port link).0 ∙ empty (link_channels p d);
  buffers = λ port c place. (let r = e.buffers port c place in
      (0, record { read = r.1.1.1.1.1.1.1.1.0 ∙ sym (zero-mod (2 ^ (size.bh + 1))); write = r.1.1.1.1.1.1.1.1.1.0 ∙ sym (zero-mod (2 ^ (size.bh + 1))); count = r.1.1.1.1.1.1.1.1.1.1.0; words = tt }));
  packet = λ h. ((e.attach h).0, (e.attach h).1.0);
  current = λ h. (e.attach h).1.1.1.0;
  dropped = λ h. (e.attach h).1.1.1.1.0;
  ejected = λ h. (e.ejected h).0;
  absent = λ port c none. (refl, refl);
  sound = start-sound p d n (pos 0) some;
  within = λ o x link. omega arith;
  short = λ port c. omega arith;
  words = λ port c. All-nil IsWord;
  held = λ f x. absurd (cc x);
  home = λ off port c. (refl, refl);
}
  where
    some : 0 < channels p d
    some = some-channels p d sound there

    choice-starts : (b : Bool) → is_lone p d ≡ b → AllReset v (if b then lone_switch_group (switch_names names nets d) (ports p - 1) (has_port p n d) else switch_group (switch_names names nets d) (switch_size p d)).moves
        → (o : ℕ) → o < ports p → (is_lone p d ≡ true → HasPort p n d o) → PointsTo (names.switch d o) (ports p - 1) v 0
    choice-starts true is r o below port =
        rotate-starts (names.switch d o) (ports p - 1) v
        (subst (λ b. AllReset v (if b then (rotate_group (lone_choice (switch_names names nets d) o) (ports p - 1)).moves else [])) (port-has p n d o (port is))
        (each-held (Reset v) (ports p - 1 + 1) (lone_moves (switch_names names nets d) (ports p - 1) (has_port p n d)) r o (omega (arith, below))))
    choice-starts false is r o below port =
        rotate-starts (names.switch d o) (ports p - 1) v
        (each-held (Reset v) (ports p - 1 + 1) (λ m. pointer_moves ((switch_names names nets d).choice m).pointer ((switch_names names nets d).choice m).winner (ports p - 1)) (held-front (Reset v) _ _ r) o (omega (arith, below)))

    turn-starts : AllReset v (switch_group (switch_names names nets d) (switch_size p d)).moves → (port : ℕ) → port < ports p → PointsTo (names.turn d port) (link_channels p d - 1) v 0
    turn-starts r port below =
        (each-held (Reset v) (ports p - 1 + 1) (λ m. pointer_moves ((switch_names names nets d).turn m).pointer ((switch_names names nets d).granted m) (link_channels p d - 1))
        (held-back (Reset v) (for_each (ports p - 1 + 1) (λ m. pointer_moves ((switch_names names nets d).choice m).pointer ((switch_names names nets d).choice m).winner (ports p - 1))) _ r) port (omega (arith, below))).0
        ∙ sym (mask-from (link_channels p d - 1 + 1) 0 (omega arith))

pub leaf-starts : (p : Plan) (n : ℕ) (names : LeafNames) (nets : NetNames) (q : PortNames) (base : ℕ → ℕ) (size : BufferSize) (slot_high dest_bits link_flit link_channel : ℕ) (v : Values) (i : ℕ → ℕ → TileIn) → IsSound p
    → LeafStarts p n names nets q base size slot_high dest_bits link_flit link_channel v → LeafTie p n names size dest_bits link_flit link_channel v 0 (state_at p n i 0) (rows_at p n i 0)
unfolding nothing
leaf-starts p n names nets q base size slot_high dest_bits link_flit link_channel v i sound e = record {
  leaving = λ o link. slot-starts (names.slot (leaving_slot p n o)) slot_high p.slots (length p.domains) (leaving_slot p n o) (slot-below p n (pos 0) (way_of o) some) v (e.leaving o link);
  arriving = λ port m is. slot-starts (names.slot (arriving_slot p m (opposite port))) slot_high p.slots (length p.domains) (arriving_slot p m (opposite port)) (slot-below p m (pos 0 -ℤ pos p.stages) (way_of (opposite port)) some) v (e.arriving port m is);
  rows = λ o j link below. row o link j (omega (arith, below, last));
  payloads = λ o j x link e. absurd (cc e);
  own = λ d o j link. nothing-own (owner p n o (filled_in (pos 0) j) == d);
  domains = λ d there. domain-starts p n d names nets q base size dest_bits v sound there (e.domains d there);
}
  where
    some : 1 ≤ length p.slots
    some = sound.slot_count.0

    last : p.stages - 1 + 1 ≡ p.stages
    last = let more_than : 1 ≤ p.stages = sound.stages.0 in omega (arith, more_than)

    row : (o : ℕ) → HasLink p n o → (j : ℕ) → j < p.stages - 1 + 1 → v.net (names.row o j) ≡ 0
    row o link zero below = (e.rows o link).0
    row o link (suc j) below =
        let at : suc j ≡ j + 1 = omega arith in
        ap (λ k. v.net (names.row o k)) at ∙ (each-held (Reset v) (p.stages - 1) _ (e.rows o link).1 j (omega arith)).0
