-- The switch of a domain with one channel at each port: what an output chooses among its ready places leaves.
use Rattle.std.proofs.Common.{◌≡◌, ℕ, zero, suc, ◌+◌, ◌-◌, ◌*◌, ◌/◌, ◌%◌, ◌<◌, ◌≤◌, Bool, true, false, [], Option, refl, sym, ◌∙◌, ap, arith, subst, ◌&&◌, ℤ}
use Rattle.std.specs.Prelude.{Some, None, if◌then◌else◌, nat_le, option_and_then}
use Rattle.std.proofs.lemmas.Bool.Decides.{nat_tests}
use Rattle.vl_tree.specs.Values.{net}
use Rattle.vl_model.specs.Meaning.{Widths, Values, value_of}
use Rattle.vl_model.specs.Leaf.{Stepped}
use Rattle.vl_model.specs.Parts.{Holds, AllHold, AllStep}
use Rattle.gen_kit.proofs.Parts.{held-front, held-back}
use Rattle.noc_model.specs.declared.Stage.{Stage}
use Rattle.noc_model.specs.declared.Stage.TheVariants.{Active}
use Rattle.noc_model.specs.Plan.{Plan, channels, link_channels, in_channels, ports}
use Rattle.noc_model.specs.Pick.{pick}
use Rattle.noc_model.specs.Tile.{Tile, TileIn}
use Rattle.noc_model.specs.Step.{is_ready, grant_at, asked, asks_for, chosen as switched, leaves, is_place, tile_step}
use Rattle.gen_kit.specs.Masks.{mask}
use Rattle.gen_kit.specs.Groups.{HoldsIn, StepsIn}
use Rattle.gen_kit.specs.Rotate.{rotate_group, PointsTo}
use Rattle.gen_kit.specs.Families.{for_each, any_upto, in_bits}
use Rattle.leaf_tie.specs.Places.{leaves_at}
use Rattle.leaf_tie.specs.Switch.{goes_by, ready_for, SwitchNames, lone_choice, lone_heads, lone_nets, lone_moves, chosen_place, lone_switch_group, LoneIn}
use Rattle.gen_kit.proofs.Sets.{mask-same, mask-none}
use Rattle.gen_kit.proofs.Rotated.{rotate-shown, pointer-moved}
use Rattle.gen_kit.proofs.Families.{each-held, or-shown, any-none}
use Rattle.leaf_tie.proofs.Placed.{row-of, channel-of}
use Rattle.leaf_tie.proofs.Switched.{picked, ready-goes, picked-ready, asked-picked, picks-asking, picks-none, leaves-is, and-none}
use Rattle.leaf_tie.proofs.Granted.{picked-below, next-switch, switched-below}

-- a product of channels that is one has one of them
channels-one : (p : Plan) (d : ℕ) → link_channels p d ≡ 1 → channels p d ≡ 1
channels-one p d one = go p.torus one
  where
    go : (b : Bool) → (if b then 2 else 1) * channels p d ≡ 1 → channels p d ≡ 1
    go true e = absurd (omega (arith, e))
    go false e = omega (arith, e)

in-one : (p : Plan) (d port : ℕ) → link_channels p d ≡ 1 → in_channels p d port ≡ 1
in-one p d zero one = channels-one p d one
in-one p d (suc port) one = one

-- a place is its port's only one
lone-place : (f : ℕ → ℕ → Bool) (port k : ℕ) → k ≡ 1 → f (port / k) (port % k) ≡ f port 0
lone-place f port k one =
    let whole : port * 1 + 0 ≡ port = omega arith in
    ap (λ m. f (port / m) (port % m)) one
    ∙ ap (λ m. f (m / 1) (m % 1)) (sym whole)
    ∙ rw (row-of 1 port 0 (omega arith), channel-of 1 port 0 (omega arith)) refl

and-true : (x : Bool) → (x && true) ≡ x
and-true true = refl
and-true false = refl

-- what follows from each of some tests follows from their OR
any-implies : (last : ℕ) (f : ℕ → Bool) (b : Bool) → ((o : ℕ) → f o ≡ true → b ≡ true) → (any_upto last f && b) ≡ any_upto last f
any-implies last f true each = and-true (any_upto last f)
any-implies last f false each = and-none (any_upto last f) ∙ sym (any-none last f (λ o le. off (f o) (each o)))
  where
    off : (x : Bool) → (x ≡ true → false ≡ true) → x ≡ false
    off true h = absurd (cc (h refl))
    off false h = refl

module _ (p : Plan) (d n : ℕ) (t : ℤ) (s : Tile) (i : TileIn) (one : link_channels p d ≡ 1) where
  -- a port asks for an output where its place is ready for it
  asks-ready : (o port : ℕ) → asks_for (asked p d n t s i port) o ≡ ready_for p d n t s i o port
  asks-ready o port = go (picked p d n t s i port) refl ∙ sym (lone-place (λ q c. goes_by (s.stage q c) o && is_ready p d n t s i q c) port (link_channels p d) one)
    where
      none-ready : picked p d n t s i port ≡ None → is_ready p d n t s i port 0 ≡ false
      none-ready is = picks-none p d n t s i port (in-one p d port one) is

      go : (x : Option ℕ) → picked p d n t s i port ≡ x → asks_for (asked p d n t s i port) o ≡ (goes_by (s.stage port 0) o && is_ready p d n t s i port 0)
      go None is =
          let none : asked p d n t s i port ≡ None = asked-picked p d n t s i port ∙ ap (λ x. option_and_then (λ k. grant_at k (s.stage port k)) x) is in
          rw (none, none-ready is) (sym (and-none (goes_by (s.stage port 0) o)))
      go (Some k) is =
          let first : k ≡ 0 = (let below = picked-below p d n t s i port k is in let few = in-one p d port one in omega (arith, below, few)) in
          let ready : is_ready p d n t s i port 0 ≡ true = subst (λ m. is_ready p d n t s i port m ≡ true) first (picked-ready p d n t s i port k is) in
          let at = ready-goes p d n t s i 0 (s.queue port 0) (s.stage port 0) ready in
          let asks : asked p d n t s i port ≡ grant_at 0 (s.stage port 0) =
          asked-picked p d n t s i port ∙ ap (λ x. option_and_then (λ m. grant_at m (s.stage port m)) x) (is ∙ ap Some first) in
          ap (λ g. asks_for g o) asks ∙ ap (λ st. asks_for (grant_at 0 st) o) at.2 ∙ sym (ap (λ b. goes_by (s.stage port 0) o && b) ready ∙ and-true (goes_by (s.stage port 0) o) ∙ ap (λ st. goes_by st o) at.2)

  -- an output chooses a port only where the port picked its place
  chosen-picks : (o port : ℕ) → is_place (switched p d n t s i o) port ≡ true → is_place (picked p d n t s i port) 0 ≡ true
  chosen-picks o port chose = go (picked p d n t s i port) refl
    where
      go : (x : Option ℕ) → picked p d n t s i port ≡ x → is_place x 0 ≡ true
      go None is =
          let none : asked p d n t s i port ≡ None = asked-picked p d n t s i port ∙ ap (λ x. option_and_then (λ k. grant_at k (s.stage port k)) x) is in
          absurd (cc (sym (ap (λ g. asks_for g o) none) ∙ picks-asking p d n t s i o port chose))
      go (Some k) is =
          let first : k ≡ 0 = (let below = picked-below p d n t s i port k is in let few = in-one p d port one in omega (arith, below, few)) in
          grind (arith, nat_tests, first)

  -- a flit leaves where some output chose the port
  chosen-leaves : (last place : ℕ) → ((k o w : ℕ) → s.stage place k ≡ Active o w → o ≤ last)
      → any_upto last (λ o. is_place (switched p d n t s i o) place) ≡ leaves_at p d n t s i place
  chosen-leaves last place few =
      sym (any-implies last (λ o. is_place (switched p d n t s i o) place) (is_place (picked p d n t s i place) 0) (λ o chose. chosen-picks o place chose))
      ∙ leaves-is p d n t s i place 0 last few
      ∙ sym (lone-place (leaves p d n t s i) place (link_channels p d) one)

module _ (p : Plan) (d n : ℕ) (a : SwitchNames) (there : ℕ → Bool) (w : Widths) (v : Values) (t : ℤ) (s : Tile) (i : TileIn)
    (h : HoldsIn (lone_switch_group a (ports p - 1) there) w v) (from : LoneIn p d n a there v t s i) where
  wide : ports p - 1 + 1 ≡ ports p
  wide = omega arith

  lone-hold : (o : ℕ) → o < ports p → there o ≡ true → HoldsIn (rotate_group (lone_choice a o) (ports p - 1)) w v
  lone-hold o below e = record {
    heads = subst (λ b. AllHold w v (if b then (rotate_group (lone_choice a o) (ports p - 1)).heads else [])) e
        (each-held (Holds w v) (ports p - 1 + 1) (lone_heads a (ports p - 1) there) h.heads o (omega (arith, below)));
    nets = subst (λ b. AllHold w v (if b then (rotate_group (lone_choice a o) (ports p - 1)).nets else [])) e
        (each-held (Holds w v) (ports p - 1 + 1) (lone_nets a (ports p - 1) there) (held-front (Holds w v) (for_each (ports p - 1 + 1) (lone_nets a (ports p - 1) there)) _ h.nets) o (omega (arith, below)));
  }

  pub lone-shown : (o : ℕ) → o < ports p → there o ≡ true → v.net (a.choice o).winner ≡ mask (ports p - 1 + 1) (is_place (switched p d n t s i o))
  unfolding switched
  lone-shown o below e =
      rotate-shown (lone_choice a o) (ports p - 1) w v (lone-hold o below e) (λ port. asks_for (asked p d n t s i port) o) (s.switch o)
      (record {
        request = from.readies o below e ∙ mask-same (ports p) _ _ (λ port b. sym (asks-ready p d n t s i from.one_channel o port))
            ∙ ap (λ k. mask k (λ port. asks_for (asked p d n t s i port) o)) (sym wide);
        pointer = from.choices o below e;
      })
      ∙ ap (λ k. mask (ports p - 1 + 1) (is_place (pick k (λ port. asks_for (asked p d n t s i port) o) (s.switch o)))) wide

  -- nothing goes by an output that is not there
  lone-absent : (o port : ℕ) → there o ≡ false → is_place (switched p d n t s i o) port ≡ false
  lone-absent o port e = go (is_place (switched p d n t s i o) port) refl
    where
      go : (b : Bool) → is_place (switched p d n t s i o) port ≡ b → b ≡ false
      go false f = refl
      go true f =
          let asks : ready_for p d n t s i o port ≡ true = sym (asks-ready p d n t s i from.one_channel o port) ∙ picks-asking p d n t s i o port f in
          absurd (never (goes_by (s.stage port 0) o) (is_ready p d n t s i port 0) refl refl
          (sym (lone-place (λ q c. goes_by (s.stage q c) o && is_ready p d n t s i q c) port (link_channels p d) from.one_channel) ∙ asks))
        where
          out : (st : Stage) → s.stage port 0 ≡ st → goes_by st o ≡ true → (x : ℕ) × (s.stage port 0 ≡ Active o x)
          out (Active to x) is g = let same : to ≡ o = grind (arith, nat_tests, g) in (x, is ∙ ap (λ k. Active k x) same)
          out st is g = absurd (cc g)

          never : (x y : Bool) → goes_by (s.stage port 0) o ≡ x → is_ready p d n t s i port 0 ≡ y → (x && y) ≡ true → ⊥
          never false y g r b = cc b
          never true y g r b = let at = out (s.stage port 0) refl g in cc (sym e ∙ (from.outputs port 0 o at.0 at.1).1)

  place-shown : (o : ℕ) → o ≤ ports p - 1 → value_of w v (chosen_place a (ports p - 1) there o) ≡ mask (ports p - 1 + 1) (is_place (switched p d n t s i o))
  place-shown o le = go (there o) refl
    where
      go : (b : Bool) → there o ≡ b → value_of w v (if b then net (a.choice o).winner else in_bits (ports p - 1 + 1) 0) ≡ mask (ports p - 1 + 1) (is_place (switched p d n t s i o))
      go true e = lone-shown o (omega (arith, le)) e
      go false e = sym (mask-none (ports p - 1 + 1) (is_place (switched p d n t s i o)) (λ port b. lone-absent o port e))

  pub lone-leaves : v.net a.leaves ≡ mask (ports p - 1 + 1) (leaves_at p d n t s i)
  lone-leaves =
      (held-back (Holds w v) (for_each (ports p - 1 + 1) (lone_nets a (ports p - 1) there)) _ h.nets).1.0
      ∙ or-shown w v (ports p - 1 + 1) (chosen_place a (ports p - 1) there) (λ o. is_place (switched p d n t s i o)) (ports p - 1) place-shown
      ∙ mask-same (ports p - 1 + 1) _ _ (λ place below. chosen-leaves p d n t s i from.one_channel (ports p - 1) place
      (λ k o x e. (let few = (from.outputs place k o x e).0 in omega (arith, few))))

  -- one edge keeps the pointers of the outputs that are there
  pub lone-kept : (u : Values) → StepsIn (lone_switch_group a (ports p - 1) there) w v u → (o : ℕ) → o < ports p → there o ≡ true → PointsTo (a.choice o) (ports p - 1) u ((tile_step p d n t s i).switch o)
  lone-kept u step o below e =
      pointer-moved (a.choice o).pointer (a.choice o).winner (ports p - 1) w v u (switched p d n t s i o) (s.switch o)
      (subst (λ b. AllStep w v u (if b then (rotate_group (lone_choice a o) (ports p - 1)).moves else [])) e
      (each-held (Stepped w v u) (ports p - 1 + 1) (lone_moves a (ports p - 1) there) step.moves o (omega (arith, below))))
      (lone-hold o below e).nets.1.1.0.0
      (lone-shown o below e)
      (λ x is. (let few = switched-below p d n t s i o x is in omega (arith, few)))
      (from.choices o below e)
      ∙ ap (λ x. mask (ports p - 1 + 1) (nat_le x)) (next-switch p d n t s i o)
