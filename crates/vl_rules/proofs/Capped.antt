-- Widths up to 64 bits.
use Rattle.std.proofs.Common.{◌≡◌, ℕ, zero, suc, ◌+◌, ◌<◌, ◌≤◌, ◌^◌, false, ltb, List, [], ◌∷◌, length, get_or, drop, min, refl, sym, ◌∙◌, ap, arith, add-one}
use Rattle.std.specs.Prelude.{◌==◌}
use Rattle.std.proofs.Math.Pow.{pow_mono}
use Rattle.std.proofs.lemmas.Bool.Decides.{nat_tests}
use Rattle.vl_tree.specs.declared.tree.Expr as code
use Rattle.vl_tree.specs.declared.tree.Op.{Op}
use Rattle.vl_tree.specs.declared.tree.Op.TheVariants.{Add, Sub, And, Or, Xor, Equal, Less}
use Rattle.vl_tree.specs.Read.{read, reads}
use Rattle.vl_model.specs.Meaning.{Widths, width_of, widths_of, op_width}

pub op-capped : (op : Op) (w : ℕ) → op_width op (min 64 w) ≡ min 64 (op_width op w)
op-capped Add w = refl
op-capped Sub w = refl
op-capped And w = refl
op-capped Or w = refl
op-capped Xor w = refl
op-capped Equal w = refl
op-capped Less w = refl

drop-more : (y : code.Expr) (xs : List code.Expr) (i : ℕ) → drop (i + 1) xs ≡ drop (suc i + 1) (y ∷ xs)
drop-more y xs i = rw (add-one (suc i), add-one i) refl

pub bits-at : (w : Widths) (xs : List code.Expr) (i : ℕ) (x : code.Expr) → i < length xs → x ≡ get_or xs i x
    → widths_of w (reads (drop i xs)) ≡ width_of w (read x) + widths_of w (reads (drop (i + 1) xs))
bits-at w [] i x h e = absurd (omega arith)
bits-at w (y ∷ xs) zero x h e = rw e refl
bits-at w (y ∷ xs) (suc i) x h e =
    bits-at w xs i x (omega arith) e ∙ ap (λ z. width_of w (read x) + widths_of w (reads z)) (drop-more y xs i)

-- an index of 64 bits and more fits no memory
pub too-wide : (b w n m : ℕ) → b ≡ min 64 w → n ≡ m → 64 ≤ b → n < 18446744073709551616 → ltb b 64 ≡ (2 ^ w == m)
too-wide b w n m e f h small =
    let wide : 64 ≤ w = omega arith in
    let more : 2 ^ 64 ≤ 2 ^ w = pow_mono wide in
    let left : ltb b 64 ≡ false = grind (arith, nat_tests) in
    let right : (2 ^ w == m) ≡ false = grind (arith, nat_tests) in
    left ∙ sym right

pub ruleset bits = (op-capped, bits-at)
