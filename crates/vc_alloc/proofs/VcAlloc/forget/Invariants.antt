use Rattle.std.proofs.Common.{◌≡◌, ℕ, ◌<◌, length}
use Rattle.std.specs.Prelude.{None}
use Rattle.vc_alloc.specs.Allocator.{best_at}
use Rattle.vc_alloc.proofs.VcAlloc.forget.Given as goal

abbrev pub invariant-loop-out : goal.invariant-loop-out
invariant-loop-out l = (l.self ≡ record l.initial.self { best = l.self.best }) × (length l.self.best ≡ length l.initial.self.best)
    × ((k : ℕ) → k < l.out → best_at l.self k ≡ None)
