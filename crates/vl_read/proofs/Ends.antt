-- The end of a text.
use Rattle.std.proofs.Common.{◌≡◌, true, false, Some, None, Ok, Err, refl}
use Rattle.std.specs.Option.{is_some}
use Rattle.vl_tree.specs.Values.{Design}
use Rattle.vl_tree.specs.Reading.{left_of, ended_at}
use Rattle.vl_read.specs.declared.ahead.Ahead.{Ahead}
use Rattle.vl_read.specs.View.{placed, placed_of}

pub ended_some : (d : Design) (a : Ahead) → is_some a.token ≡ true → ended_at d (placed a) ≡ Err (left_of (placed a))
ended_some d a e =
    elim a.token as (λ t. is_some t ≡ true → ended_at d (placed_of t a.left a.rest.now) ≡ Err (left_of (placed_of t a.left a.rest.now))) [ None ↦ λ h. absurd cc | Some t ↦ λ h. refl ] e

pub ended_none : (d : Design) (a : Ahead) → is_some a.token ≡ false → ended_at d (placed a) ≡ Ok d
ended_none d a e =
    elim a.token as (λ t. is_some t ≡ false → ended_at d (placed_of t a.left a.rest.now) ≡ Ok d) [ None ↦ λ h. refl | Some t ↦ λ h. absurd cc ] e
