-- The places that are idle, and the credits of a leaving link's channel.
use Rattle.std.specs.Prelude.{◌≡◌, ℕ, ◌+◌, ◌-◌, ◌<◌, ◌≤◌, ◌^◌, true, [], ◌∷◌, ℤ}
use Rattle.vl_tree.specs.declared.tree.Op.TheVariants.{And, Or, Add, Sub}
use Rattle.vl_tree.specs.Values.{Name, Expr, net, not, two, choose, reg, clocked}
use Rattle.vl_model.specs.Meaning.{Widths, Values, value_of, one_if}
use Rattle.gen_kit.specs.Families.{in_bits}
use Rattle.noc_model.specs.Plan.{Plan}
use Rattle.noc_model.specs.Tile.{Tile, TileIn}
use Rattle.noc_model.specs.Step.{sent, is_on}
use Rattle.gen_kit.specs.Masks.{mask}
use Rattle.gen_kit.specs.Groups.{Group}
use Rattle.leaf_tie.specs.Places.{stage_at, queue_at, is_idle, ends_at}
use Rattle.leaf_tie.specs.Buffers.{is_filled}

-- the group of the idle places
abbrev pub idle_group : Name → Name → Name → ℕ → Group
idle_group idle filled ends h = record {
  heads = reg h idle ∷ [];
  nets = [];
  moves = clocked idle (record { width = h + 1; value = 2 ^ (h + 1) - 1 }) (two Or (two And (net idle) (not
      (net filled))) (net ends)) ∷ [];
}

-- what it takes: the idle places, those that have a flit, and those that the last flit of a packet leaves
pub record IdleIn (p : Plan) (d n : ℕ) (idle filled ends : Name) (h : ℕ) (w : Widths) (v : Values) (t : ℤ)
    (s : Tile) (i : TileIn) : Type 0 where
  pub idles : v.net idle ≡ mask (h + 1) (λ place. is_idle (stage_at p d s place))
  pub flits : v.net filled ≡ mask (h + 1) (λ place. is_filled (queue_at p d s place))
  pub flits_width : w.net filled ≡ h + 1
  pub last_flits : v.net ends ≡ mask (h + 1) (ends_at p d n t s i)

-- a pulse adds one, and a flit that goes out takes one
abbrev pub credit_group : Name → Expr → Expr → ℕ → ℕ → Group
credit_group count pulse on h buffer = record {
  heads = reg h count ∷ [];
  nets = [];
  moves =
      clocked count (record { width = h + 1; value = buffer })
      (choose pulse (choose on (net count) (two Add (net count) (in_bits (h + 1) 1))) (choose on (two Sub
      (net count) (in_bits (h + 1) 1)) (net count)))
      ∷ [];
}

-- what it takes: the count, whether a credit comes back, and whether a flit is sent
pub record CreditIn (p : Plan) (d n o x : ℕ) (count : Name) (pulse on : Expr) (w : Widths) (v : Values) (t : ℤ)
    (s : Tile) (i : TileIn) : Type 0 where
  pub stands : v.net count ≡ s.credits o x
  pub pulses : value_of w v pulse ≡ one_if (i.returns o x)
  pub goes : value_of w v on ≡ one_if (is_on (sent p d n t s i o) x)
  pub within : s.credits o x ≤ p.buffer
  pub room : i.returns o x ≡ true → s.credits o x < p.buffer
