-- The widths of groups agree, where what they borrow is as wide as they say.
use Rattle.std.proofs.Common.{◌≡◌, ℕ, ◌+◌, ◌-◌, ◌<◌, ◌≤◌, true, refl, arith, ◌==◌, sym, ◌∙◌}
use Rattle.std.specs.Prelude.{nat_le, nat_lt}
use Rattle.std.proofs.lemmas.Bool.Decides.{nat_tests}
use Rattle.vl_model.specs.Meaning.{Widths}
use Rattle.gen_kit.specs.Rotate.{RotateNames, rotate_group}
use Rattle.leaf_tie.specs.Alloc.{AllocNames, AllocSize, class_start, out_count, class_nets}
use Rattle.leaf_tie.specs.Fits.{AllDeclare, AllFit}
use Rattle.leaf_tie.proofs.Allocated.{inside}

self : (k : ℕ) → (k == k) ≡ true
self k = grind (arith, nat_tests)

below : (a b : ℕ) → a < b → nat_lt a b ≡ true
below a b h = grind (arith, nat_tests)

within : (a b : ℕ) → a ≤ b → nat_le a b ≡ true
within a b h = grind (arith, nat_tests)

pub rotate-nets-fit : (n : RotateNames) (h : ℕ) (w : Widths) → w.net n.request ≡ h + 1 → AllDeclare w (rotate_group n h).heads → AllDeclare w (rotate_group n h).nets → AllFit w (rotate_group n h).nets
rotate-nets-fit n h w request heads nets = (
  tt,
  (
    (rw (heads.0, request, self (h + 1)) refl, request ∙ sym nets.0),
    (tt, ((rw (nets.0, self (h + 1)) refl, nets.0 ∙ sym nets.1.1.0), tt)),
  ),
)

pub rotate-moves-fit : (n : RotateNames) (h : ℕ) (w : Widths) → AllDeclare w (rotate_group n h).heads → AllDeclare w (rotate_group n h).nets → AllFit w (rotate_group n h).moves
rotate-moves-fit n h w heads nets =
    ((rw (nets.1.1.0, heads.0, self (h + 1)) refl, refl, sym heads.0), tt)

-- a class's free channels, a part of the held ones
pub class-nets-fit : (a : AllocNames) (z : AllocSize) (w : Widths) (k : ℕ) → k ≤ z.last → w.net a.held ≡ out_count z → AllDeclare w (class_nets a z k) → AllFit w (class_nets a z k)
class-nets-fit a z w k le held declared =
    let width : class_start z k + z.size - class_start z k + 1 ≡ z.size + 1 = omega arith in
    let top : class_start z k + z.size < out_count z = omega (arith, inside z k le) in (
      tt,
      (
        (rw (held, within (class_start z k) (class_start z k + z.size) (omega arith), below (class_start z k + z.size) (out_count z) top) refl, width ∙ sym declared.0),
        (tt, ((rw (declared.0, self (z.size + 1)) refl, declared.0 ∙ sym declared.1.1.0), tt)),
      ),
    )
