-- How far the inputs of a domain are made known.
use Rattle.std.specs.Prelude.{◌≡◌, ℕ, ◌<◌, List, length, nat_lt, ◌&&◌}
use Rattle.noc_model.specs.declared.Stage.{Stage}
use Rattle.noc_model.specs.Plan.{Plan, ports}
use Rattle.noc_model.specs.Inputs.{input_count}
use Rattle.noc_model.specs.Pick.{pick}
use Rattle.noc_model.specs.Tile.{Tile}
use Rattle.noc_model.specs.Step.{is_candidate}
use Rattle.vc_alloc.specs.Allocator.{Allocator, best_at, AreOf}
use Rattle.vc_alloc.specs.Chosen.{winner_with, free_at}
use Rattle.vc_alloc.specs.Shown.{Shows}

-- from x on, those below place i are known: the best of each output is the choice from the candidates among them
pub record KnowsBelow (i : ℕ) (x y : Allocator) (p : Plan) (d : ℕ) (stages : List (List Stage)) : Type 0 where
  pub rest : y ≡ record x { best = y.best }
  pub long : length y.best ≡ length x.best
  pub same : AreOf y d
  pub best : (s : Tile) (o : ℕ) → Shows x stages p d s → o < ports p → best_at y o
      ≡ winner_with (free_at p d x.tile s o)
      (pick (input_count p d) (λ k. nat_lt k i && is_candidate p d x.tile s o k) (s.allocation o))
