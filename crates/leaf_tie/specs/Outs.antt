-- What a leaf gives out: all of it is read from registers.
use Rattle.std.specs.Prelude.{◌+◌, ◌≡◌, ℕ, ◌-◌, ◌<◌, true, [], ◌∷◌, length, Option, Some, None}
use Rattle.vl_tree.specs.declared.tree.Op.TheVariants.{Or}
use Rattle.vl_tree.specs.Values.{Name, net, bit, part, two, cat, assign}
use Rattle.vl_model.specs.Meaning.{Values, one_if}
use Rattle.gen_kit.specs.Families.{row_parts}
use Rattle.gen_kit.specs.Groups.{Group}
use Rattle.noc_model.specs.declared.Flit.{Flit}
use Rattle.noc_model.specs.declared.LinkFlit.{LinkFlit}
use Rattle.noc_model.specs.Plan.{Plan, hosts}
use Rattle.noc_model.specs.Tile.{Tile}
use Rattle.noc_model.specs.Step.{is_open}
use Rattle.leaf_tie.specs.Buffers.{BufferSize, link_code}
use Rattle.leaf_tie.specs.Attach.{room_expr}
use Rattle.leaf_tie.specs.Tie.{LeafNames, HasLink, IsWord, flit_code}
use Rattle.leaf_tie.specs.Glue.{NetNames, attach_names, attach_size}

-- the output ports: the words of links, by output
pub record OutNames : Type 0 where
  pub link_out : ℕ → Name
  -- by domain: whether a flit stands in the ejection place, and its head, tail and payload
  pub valid : ℕ → Name
  pub head : ℕ → Name
  pub tail : ℕ → Name
  pub payload : ℕ → Name
  -- by domain: the drop pulse, and whether a word is taken
  pub drop : ℕ → Name
  pub ready : ℕ → Name

-- the word in the last place of a link
abbrev pub link_out_group : Plan → LeafNames → OutNames → ℕ → Group
link_out_group p names out o = record {
  heads = [];
  nets = assign (out.link_out o) (net (names.row o (p.stages - 1))) ∷ [];
  moves = [];
}

-- what an attachment is shown
abbrev pub local_out_group : Plan → LeafNames → NetNames → OutNames → BufferSize → ℕ → ℕ → Group
local_out_group p names nets out size dest_bits d = record {
  heads = [];
  nets =
      assign (out.valid d) (bit (names.ejected d) 34)
      ∷ assign (out.head d) (bit (names.ejected d) 33)
      ∷ assign (out.tail d) (bit (names.ejected d) 32)
      ∷ assign (out.payload d) (part (names.ejected d) 31 0)
      ∷ assign (out.drop d) (net (names.dropped d))
      ∷ assign (out.ready d) (two Or (net (names.dropping d)) (room_expr p d (attach_names names nets d)
      (attach_size p size dest_bits d)))
      ∷ [];
  moves = [];
}

-- a bundle of credit pulses by a port, of the credits numbered from first on: of which domain and channel each is
abbrev pub credit_out_group : LeafNames → Name → ℕ → ℕ → ℕ → (ℕ → ℕ) → (ℕ → ℕ) → Group
credit_out_group names bundle port first count domain channel = record {
  heads = [];
  nets = assign bundle (cat (row_parts (λ k. bit (names.pulse (domain (first + k)) port) (channel (first + k)))
      (count - 1))) ∷ [];
  moves = [];
}

-- the flit in the ejection place, as the ports show it: all are 0 where there is none
abbrev pub EjectedShown : OutNames → ℕ → Values → Option Flit → Type 0
EjectedShown out d v None = (v.net (out.valid d) ≡ 0) × (v.net (out.head d) ≡ 0) × (v.net (out.tail d) ≡ 0)
    × (v.net (out.payload d) ≡ 0)
EjectedShown out d v (Some f) = (v.net (out.valid d) ≡ 1) × (v.net (out.head d) ≡ one_if f.head)
    × (v.net (out.tail d) ≡ one_if f.tail) × (v.net (out.payload d) ≡ f.payload)

-- the ports show what the tile parts give out
pub record LeafOut (p : Plan) (n : ℕ) (out : OutNames) (dest_bits link_flit link_channel : ℕ) (v : Values) (s : ℕ
    → Tile) (shared : ℕ → ℕ → Option LinkFlit) : Type 0 where
  pub links : (o : ℕ) → HasLink p n o
      → v.net (out.link_out o) ≡ link_code (flit_code dest_bits) link_flit link_channel (shared o (p.stages - 1))
  pub payloads : (o : ℕ) (x : LinkFlit) → HasLink p n o → shared o (p.stages - 1) ≡ Some x → IsWord x.flit
  pub ejected : (d : ℕ) → d < length p.domains → hosts p n d ≡ true → EjectedShown out d v (s d).ejected
  pub dropped : (d : ℕ) → d < length p.domains → hosts p n d ≡ true → v.net (out.drop d) ≡ one_if (s d).dropped
  pub ready : (d : ℕ) → d < length p.domains → hosts p n d ≡ true → v.net (out.ready d) ≡ one_if (is_open p (s d))
