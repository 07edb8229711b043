-- One leaving link, shared by all domains: the owner's word enters, and the places shift.
use Rattle.std.specs.Prelude.{◌≡◌, ℕ, zero, suc, ◌+◌, ◌<◌, [], ◌∷◌, ◌==◌, Option, pos}
use Rattle.vl_tree.specs.Values.{Name, Expr, net, choose, reg, clocked}
use Rattle.vl_model.specs.Meaning.{Values, one_if}
use Rattle.gen_kit.specs.Families.{in_bits}
use Rattle.noc_model.specs.declared.LinkFlit.{LinkFlit}
use Rattle.noc_model.specs.Plan.{Plan}
use Rattle.noc_model.specs.Place.{owner}
use Rattle.noc_model.specs.Shared.{own_places}
use Rattle.noc_model.specs.Tile.{Tile, TileIn}
use Rattle.noc_model.specs.Step.{sent}
use Rattle.gen_kit.specs.Groups.{Group}
use Rattle.gen_kit.specs.Families.{for_each}

-- whose slot it is, by domain; the words that domains send; and the registers of the row
pub record LinkNames : Type 0 where
  -- by domain: whose slot it is, and the word that the domain sends
  pub owns : ℕ → Name
  pub word : ℕ → Name
  -- by place
  pub row : ℕ → Name

-- the word of the domain whose slot it is: each other one is shut out by its slot's bit
abbrev pub owners_word : LinkNames → ℕ → ℕ → Expr
owners_word n h zero = in_bits (h + 1) 0
owners_word n h (suc e) = choose (net (n.owns e)) (net (n.word e)) (owners_word n h e)

-- the group of a leaving link that all domains share
abbrev pub link_group : LinkNames → ℕ → ℕ → ℕ → Group
link_group n h domains last = record {
  heads = for_each (last + 1) (λ i. reg h (n.row i) ∷ []);
  nets = [];
  moves =
      clocked (n.row 0) (record { width = h + 1; value = 0 }) (owners_word n h domains)
      ∷ for_each last (λ i. clocked (n.row (i + 1)) (record { width = h + 1; value = 0 }) (net (n.row i)) ∷ []);
}

-- in cycle t the registers hold one row, which is each domain's in the places that were filled in its cycles
pub record LinkTie (p : Plan) (n o last : ℕ) (code : Option LinkFlit
    → ℕ) (a : LinkNames) (v : Values) (t : ℕ) (s : ℕ → Tile) (shared : ℕ → Option LinkFlit) : Type 0 where
  pub places : (i : ℕ) → i < last + 1 → v.net (a.row i) ≡ code (shared i)
  pub own : (d i : ℕ) → (s d).row o i ≡ own_places p d n o (pos t) shared i

-- the owner's word is what it sends
pub record LinkIn (p : Plan) (n o domains : ℕ) (code : Option LinkFlit
    → ℕ) (a : LinkNames) (v : Values) (t : ℕ) (s : ℕ → Tile) (i : ℕ → TileIn) : Type 0 where
  pub owned : (e : ℕ) → e < domains → v.net (a.owns e) ≡ one_if (owner p n o (pos t) == e)
  pub words : (e : ℕ) → e < domains → v.net (a.word e) ≡ code (sent p e n (pos t) (s e) (i e) o)
  pub some_owner : owner p n o (pos t) < domains
