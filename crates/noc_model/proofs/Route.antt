-- Along every route from a local port the rank rises.
use Rattle.std.proofs.Common.{◌≡◌, ℕ, zero, suc, ◌<◌, ◌≤◌, true, List, [], ◌∷◌, refl, sym, ◌∙◌, ap, subst, arith}
use Rattle.std.specs.Prelude.{Option, Some, None, slice_index_or, option_map, option_and_then}
use Rattle.std.specs.List.{AllByRecursion}
use Rattle.std.proofs.lemmas.List.Elements.{recursion_from_All}
use Rattle.noc_model.specs.Plan.{Plan}
use Rattle.noc_model.specs.Sound.{IsSound}
use Rattle.noc_model.specs.declared.ways.Way.{Way}
use Rattle.noc_model.specs.Place.{way_of, opposite_way, opposite, side, neighbour, route, class_after, rank, rank_of, is_wrap, tile_that_way, has_link}
use Rattle.noc_model.specs.Walk.{Stop, out_of, out_class, out_rank, next_stop, stop_at}
use Rattle.noc_model.proofs.Coords.{AllPositive}
use Rattle.noc_model.proofs.Kept.{positive-sound}
use Rattle.noc_model.proofs.Wave.{neighbour-is}
use Rattle.noc_model.proofs.Ports.{opposite-is}
use Rattle.noc_model.proofs.Rank.{Came, SmallSides, class_by, leads-to, came-next, rises-along}

small-in : (ks : List ℕ) (i : ℕ) → AllByRecursion (λ k. (1 ≤ k) × (k ≤ 16)) ks → slice_index_or ks i 1 ≤ 16
small-in [] i h = omega arith
small-in (k ∷ ks) zero h = h.0.1
small-in (k ∷ ks) (suc i) h = small-in ks i h.1

small : (p : Plan) → IsSound p → SmallSides p
unfolding side
small p sound i = small-in p.dims i (recursion_from_All (λ k. (1 ≤ k) × (k ≤ 16)) p.dims sound.sides)

-- one stop and the next
record IsNext (p : Plan) (dest : ℕ) (a b : Stop) : Type 0 where
  linked : has_link p a.tile (way_of (out_of p dest a)) ≡ true
  tile : tile_that_way p a.tile (way_of (out_of p dest a)) ≡ b.tile
  port : way_of b.port ≡ opposite_way (way_of (out_of p dest a))
  class : b.class ≡ class_by p a.tile (way_of a.port) a.class (way_of (out_of p dest a))

class-is : (p : Plan) (dest : ℕ) (a : Stop)
    → out_class p dest a ≡ class_by p a.tile (way_of a.port) a.class (way_of (out_of p dest a))
unfolding class_after is_wrap
class-is p dest a = refl

next-is : (p : Plan) (dest : ℕ) (a b : Stop) → next_stop p dest a ≡ Some b → IsNext p dest a b
next-is p dest a b e = go (neighbour p a.tile (out_of p dest a)) refl e
  where
    made : (m : ℕ) → neighbour p a.tile (out_of p dest a) ≡ Some m
        → record { tile = m; port = opposite (out_of p dest a); class = out_class p dest a } ≡ b → IsNext p dest a b
    made m there is =
        let link = neighbour-is p a.tile (out_of p dest a) m there in
        record {
          linked = link.0;
          tile = link.1 ∙ ap (λ (s : Stop). s.tile) is;
          port = ap (λ (s : Stop). way_of s.port) (sym is) ∙ opposite-is (out_of p dest a);
          class = ap (λ (s : Stop). s.class) (sym is) ∙ class-is p dest a;
        }

    go : (o : Option ℕ) → neighbour p a.tile (out_of p dest a) ≡ o
        → option_map (λ m. record { tile = m; port = opposite (out_of p dest a); class = out_class p dest a }) o ≡ Some b
        → IsNext p dest a b
    go None there is = absurd (cc is)
    go (Some m) there is = made m there (cc)

came-along : (p : Plan) (dest : ℕ) (a b : Stop) → AllPositive p.dims → IsNext p dest a b
    → Came p a.tile dest (way_of a.port) a.class → Came p b.tile dest (way_of b.port) b.class
came-along p dest a b positive next came =
    rw (next.port, next.class, ← next.tile)
    (came-next p a.tile dest a.class (way_of a.port) (way_of (out_of p dest a)) positive came (leads-to p a.tile dest) next.linked)

some-then : (f : Stop → Option Stop) (o : Option Stop) (b : Stop) → option_and_then f o ≡ Some b
    → (a : Stop) × (o ≡ Some a) × (f a ≡ Some b)
some-then f None b e = absurd (cc e)
some-then f (Some a) b e = (a, refl, e)

came-there : (p : Plan) (dest n k : ℕ) (a : Stop) → AllPositive p.dims → stop_at p dest n k ≡ Some a
    → Came p a.tile dest (way_of a.port) a.class
came-there p dest n zero a positive e =
    let is : record { tile = n; port = 0; class = 0 } ≡ a = cc in
    let P : Stop → Type 0 = λ s. Came p s.tile dest (way_of s.port) s.class in
    subst P is tt
came-there p dest n (suc k) a positive e =
    let before = some-then (next_stop p dest) (stop_at p dest n k) a e in
    came-along p dest before.0 a positive (next-is p dest before.0 a before.2) (came-there p dest n k before.0 positive before.1)

rank-is : (p : Plan) (dest : ℕ) (a : Stop)
    → out_rank p dest a ≡ rank_of p a.tile (class_by p a.tile (way_of a.port) a.class (way_of (out_of p dest a))) (way_of (out_of p dest a))
unfolding rank class_after is_wrap
rank-is p dest a = refl

rises-next : (p : Plan) (dest : ℕ) (a b : Stop) (m : ℕ) → IsSound p → Came p a.tile dest (way_of a.port) a.class
    → IsNext p dest a b
    → neighbour p b.tile (out_of p dest b) ≡ Some m → out_rank p dest a < out_rank p dest b
rises-next p dest a b m sound came next there =
    let link = neighbour-is p b.tile (out_of p dest b) m there in
    rw (rank-is p dest a, rank-is p dest b, next.port, next.class)
    (let T : ℕ → Type 0 = λ z. (w'' : Way) → way_of (route p z dest) ≡ w'' → has_link p z w'' ≡ true
    → rank_of p a.tile (class_by p a.tile (way_of a.port) a.class (way_of (out_of p dest a))) (way_of (out_of p dest a))
    < rank_of p z (class_by p z (opposite_way (way_of (out_of p dest a))) (class_by p a.tile (way_of a.port) a.class (way_of (out_of p dest a))) w'') w'' in
    subst T next.tile
    (λ w'' is h. rises-along p a.tile dest a.class (way_of a.port) (way_of (out_of p dest a)) w'' (positive-sound p sound) (small p sound) came (leads-to p a.tile dest) next.linked
    (rw is at (leads-to p (tile_that_way p a.tile (way_of (out_of p dest a))) dest)) h)
    (way_of (out_of p dest b)) refl link.0)

-- over two links in a row
pub rank-law : (p : Plan) (dest n k m : ℕ) (a b : Stop) → IsSound p → stop_at p dest n k ≡ Some a
    → next_stop p dest a ≡ Some b
    → neighbour p b.tile (out_of p dest b) ≡ Some m → out_rank p dest a < out_rank p dest b
rank-law p dest n k m a b sound at next there =
    rises-next p dest a b m sound (came-there p dest n k a (positive-sound p sound) at) (next-is p dest a b next) there
