use Rattle.std.proofs.Common.{◌≡◌}
use Rattle.gen_kit.specs.Masks.{mask}
use Rattle.leaf_tie.specs.Alloc.{in_class}
use Rattle.leaf_parts.proofs.alloc.class_mask.Given as goal

abbrev pub invariant-loop-place : goal.invariant-loop-place
invariant-loop-place l = l.mask ≡ mask l.place (in_class l.plan l.domain l.tile l.out l.class)
