-- A shift of the shared row is a shift of each domain's.
use Rattle.std.proofs.Common.{◌≡◌, ◌≢◌, ℕ, zero, suc, ◌<◌, Bool, true, false, Option, length, eqb, refl, sym, arith, ◌==◌, ℤ}
use Rattle.std.specs.Prelude.{Some, None, if◌then◌else◌, pos, ◌+ℤ◌}
use Rattle.std.proofs.lemmas.Bool.Decides.{nat_tests}
use Rattle.std.proofs.lemmas.Int.{ints}
use Rattle.noc_model.specs.declared.LinkFlit.{LinkFlit}
use Rattle.noc_model.specs.Plan.{Plan, tiles}
use Rattle.noc_model.specs.Place.{neighbour, owner}
use Rattle.noc_model.specs.Tile.{Tile, TileIn}
use Rattle.noc_model.specs.Step.{sent, takes, shifted, tile_step}
use Rattle.noc_model.specs.Run.{State, Input, start, step, fed}
use Rattle.noc_model.specs.Shared.{filled_in, RowsStand}
use Rattle.noc_model.proofs.Switch.{sent-by, grant-ready}
use Rattle.noc_model.proofs.Ports.{linked-port}

takes-owner : (p : Plan) (d n : ℕ) (t : ℤ) (s : Tile) (i : TileIn) (o w : ℕ) → o ≢ 0 → takes p d n t s i o w ≡ true
    → owner p n o t ≡ d
unfolding takes
takes-owner p d n t s i zero w link e = absurd (link refl)
takes-owner p d n t s i (suc o) w link e = grind (arith, nat_tests)

-- only the owner sends on a link
pub sent-owner : (p : Plan) (d n : ℕ) (t : ℤ) (s : Tile) (i : TileIn) (o : ℕ) (x : LinkFlit) → o ≢ 0
    → sent p d n t s i o ≡ Some x → owner p n o t ≡ d
sent-owner p d n t s i o x link e =
    let by = sent-by p d n t s i o x e in
    takes-owner p d n t s i o by.by.to link (cc ((grant-ready p d n t s i by.port by.by by.granted).taken, by.out))

not-owner : (p : Plan) (d n : ℕ) (t : ℤ) (s : Tile) (i : TileIn) (o : ℕ) → o ≢ 0 → owner p n o t ≢ d
    → sent p d n t s i o ≡ None
not-owner p d n t s i o link other = go (sent p d n t s i o) refl
  where
    go : (x : Option LinkFlit) → sent p d n t s i o ≡ x → x ≡ None
    go None e = refl
    go (Some x) e = absurd (other (sent-owner p d n t s i o x link e))

-- the first place: the owner's flit, and nothing for another
first-place : (p : Plan) (d n o : ℕ) (t : ℤ) (x y : Option LinkFlit) (b : Bool) → (owner p n o t == d) ≡ b
    → (b ≡ true → x ≡ y) → (b ≡ false → y ≡ None) → y ≡ (if owner p n o t == d then x else None)
first-place p d n o t x y true e same none = rw e (sym (same refl))
first-place p d n o t x y false e same none = rw e (none refl)

pub filled-next : (t : ℤ) (i : ℕ) → filled_in (t +ℤ pos 1) (suc i) ≡ filled_in t i
filled-next t i = omega (arith, ints)

pub filled-now : (t : ℤ) → filled_in (t +ℤ pos 1) 0 ≡ t
filled-now t = omega (arith, ints)

-- if the shared rows stand for the domains' rows, and the first place of each link gets what its owner sends, they do after
-- the step. Only domains, tiles, links and places that there are count
pub rows-stand : (p : Plan) (t : ℤ) (rows : ℕ → ℕ → ℕ → Option LinkFlit) (s : ℕ → State) (x : ℕ → Input)
    (out : ℕ → ℕ → Option LinkFlit)
    → RowsStand p t rows s
    → ((d n o m : ℕ) → d < length p.domains → n < tiles p → neighbour p n o ≡ Some m → owner p n o t ≡ d → out n o ≡ sent p d n t (s d n) (fed p d (s d) (x d) n) o)
    → RowsStand p (t +ℤ pos 1) (λ n o. shifted (out n o) (rows n o)) (λ d. step p d t (s d) (x d))
unfolding step tile_step
rows-stand p t rows s x out stand given d n o m zero real inside e below =
    let link : o ≢ 0 = linked-port p n o m e in
    rw (filled-now t) (first-place p d n o t (out n o) (sent p d n t (s d n) (fed p d (s d) (x d) n) o) (owner p n o t == d) refl
    (λ own. given d n o m real inside e (grind (arith, nat_tests, own)))
    (λ other. not-owner p d n t (s d n) (fed p d (s d) (x d) n) o link (grind (arith, nat_tests, other))))
rows-stand p t rows s x out stand given d n o m (suc i) real inside e below =
    rw (filled-next t i) (stand d n o m i real inside e (omega arith))

-- the empty rows of the start stand
pub rows-start : (p : Plan) (t : ℤ) → RowsStand p t (λ n o i. None) (λ d. start p)
rows-start p t d n o m i real inside e below = go (owner p n o (filled_in t i) == d)
  where
    none : Option LinkFlit
    none = None

    go : (b : Bool) → none ≡ (if b then none else none)
    go true = refl
    go false = refl

-- a place of a shared row that is filled in a cycle of a domain is that domain's
pub row-of-owner : (p : Plan) (t : ℤ) (rows : ℕ → ℕ → ℕ → Option LinkFlit) (s : ℕ → State) (d n o m i : ℕ)
    → RowsStand p t rows s
    → d < length p.domains → n < tiles p → neighbour p n o ≡ Some m → i < p.stages → owner p n o (filled_in t i) ≡ d
    → (s d n).row o i ≡ rows n o i
row-of-owner p t rows s d n o m i stand real inside e below own =
    let same : eqb (owner p n o (filled_in t i)) d ≡ true = grind (arith, nat_tests, own) in
    rw same at (stand d n o m i real inside e below)
