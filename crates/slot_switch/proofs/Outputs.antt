-- Whether an output takes a flit, by the lists that show a tile.
use Rattle.std.proofs.Common.{◌≡◌, ◌≢◌, ℕ, zero, suc, ◌<◌, inl, inr, Bool, true, false, List, refl, sym, ◌∙◌, ap, arith}
use Rattle.std.specs.Prelude.{Option, Some, None, is_some, is_none, pos, slice_get, slice_index_or, nat_lt, ◌==◌, ◌&&◌, ◌||◌}
use Rattle.std.proofs.lemmas.Bool.Decides.{nat_tests}
use Rattle.std.proofs.lemmas.Option.{get_or_from_slice_get}
use Rattle.noc_model.specs.Plan.{Plan, ports, link_channels, at_local}
use Rattle.noc_model.specs.Place.{neighbour, owner}
use Rattle.noc_model.specs.Inputs.{place}
use Rattle.noc_model.specs.Tile.{Tile, TileIn}
use Rattle.noc_model.specs.Step.{takes}
use Rattle.noc_model.specs.SoundState.{IsOutput}
use Rattle.vc_partition.specs.Lanes.{lane}
use Rattle.slot_switch.specs.Shown.{AreOutputs}

away : {A : Type 0} (o : ℕ) (x y : A) → o ≢ 0 → at_local o x y ≡ y
away zero x y apart = absurd (apart refl)
away (suc o) x y apart = refl

some-is : (o : Option ℕ) → is_some o ≡ true → (m : ℕ) × (o ≡ Some m)
some-is None e = absurd (cc e)
some-is (Some m) e = (m, refl)

-- an output that isn't the local one has a link
pub output-link : (p : Plan) (n o : ℕ) → o ≢ 0 → IsOutput p n o → (m : ℕ) × (neighbour p n o ≡ Some m)
output-link p n o apart (inl e) = absurd (apart e)
output-link p n o apart (inr e) = some-is (neighbour p n o) e

pub takes-local : (p : Plan) (d n t o w : ℕ) (s : Tile) (i : TileIn) (credits : List (List ℕ)) (room : List Bool)
    → o ≡ 0 → AreOutputs p d s i credits room
    → slice_index_or room d false ≡ takes p d n (pos t) s i o w
unfolding takes
takes-local p d n t o w s i credits room local shown =
    get_or_from_slice_get room d (is_none s.ejected || i.hears) false shown.ejection
    ∙ sym (ap (λ k. at_local k (is_none s.ejected || i.hears) ((owner p n o (pos t) == d) && nat_lt 0 (s.credits o w))) local)

-- a link of the domain itself
pub takes-own : (p : Plan) (d n t o w k x b : ℕ) (s : Tile) (i : TileIn) (credits : List (List ℕ)) (room : List Bool)
    → o ≢ 0 → o < ports p → w < link_channels p d
    → AreOutputs p d s i credits room → b ≡ owner p n o (pos t) → b ≡ d → k ≡ place p d o w
    → slice_get (lane credits d) k ≡ Some x
    → nat_lt 0 x ≡ takes p d n (pos t) s i o w
unfolding takes
takes-own p d n t o w k x b s i credits room apart inside channel shown owns is at there =
    let own : (owner p n o (pos t) == d) ≡ true = let e : owner p n o (pos t) ≡ d = sym owns ∙ is in grind (arith, nat_tests) in
    let same : x ≡ s.credits o w =
    cc (sym there ∙ ap (slice_get (lane credits d)) at ∙ shown.credit o w inside apart channel) in
    ap (nat_lt 0) same ∙ sym (ap (λ q. q && nat_lt 0 (s.credits o w)) own)
    ∙ sym (away o (is_none s.ejected || i.hears) ((owner p n o (pos t) == d) && nat_lt 0 (s.credits o w)) apart)

-- a link of another domain
pub takes-other : (p : Plan) (d n t o w b : ℕ) (s : Tile) (i : TileIn) → o ≢ 0 → b ≡ owner p n o (pos t) → b ≢ d
    → (b == d) ≡ takes p d n (pos t) s i o w
unfolding takes
takes-other p d n t o w b s i apart owns not =
    let no : (b == d) ≡ false = grind (arith, nat_tests) in
    let same : (owner p n o (pos t) == d) ≡ false = ap (λ q. q == d) (sym owns) ∙ no in
    no ∙ sym (ap (λ q. q && nat_lt 0 (s.credits o w)) same)
    ∙ sym (away o (is_none s.ejected || i.hears) ((owner p n o (pos t) == d) && nat_lt 0 (s.credits o w)) apart)
