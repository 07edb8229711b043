-- The code of a leaf has masks that are masks, and scales that are scales.
use Rattle.std.proofs.Common.{ℕ, ◌+◌, ◌-◌, ◌≤◌, List, [], ◌∷◌, ◌++◌, length, refl, arith}
use Rattle.std.specs.Prelude.{min}
use Rattle.std.proofs.Math.Nat.{min-le_left}
use Rattle.vl_tree.specs.Values.{Name, Expr, Exprs, net, number, bit, part, word, not, two, choose, cat, no_parts, parts, Item, wire, reg, mem, assign, clocked, store}
use Rattle.vl_model.specs.Meaning.{Widths, width_of}
use Rattle.vl_model.specs.Lines.{leaf_lines}
use Rattle.vl_run.specs.declared.step.Step.{Step}
use Rattle.vl_run.specs.Emit.{mask_of, scale_of, fetch, steps_of, parts_steps}
use Rattle.vl_run.specs.Program.{item_assigns, item_next, free_after, item_moves, assign_steps, next_steps, move_steps}
use Rattle.aig_cycle.specs.Wires.{IsMask, IsScale, ArePlain}
use Rattle.aig_design.specs.Laws.{CodesArePlain}

low : (w : ℕ) → min 64 w ≤ 64
low w = min-le_left 64 w

mask-is : (w : ℕ) → IsMask (mask_of w)
mask-is w = record { width = min 64 w; narrow = low w; is = refl }

scale-is : (w : ℕ) → IsScale (scale_of w)
scale-is w = record { width = min 64 w; narrow = low w; is = refl }

one-bit : IsMask 1
one-bit = record { width = 1; narrow = omega arith; is = refl }

both : (xs ys : List Step) → ArePlain xs → ArePlain ys → ArePlain (xs ++ ys)
both [] ys a b = b
both (x ∷ xs) ys a b = (a.0, both xs ys a.1 b)

plain-fetch : (e : Expr) (ss : List Step) → ArePlain ss → ArePlain (fetch e ss)
plain-fetch (net n) ss a = tt
plain-fetch (number k) ss a = a
plain-fetch (bit n i) ss a = a
plain-fetch (part n h l) ss a = a
plain-fetch (word n e) ss a = a
plain-fetch (not e) ss a = a
plain-fetch (two op x y) ss a = a
plain-fetch (choose c x y) ss a = a
plain-fetch (cat es) ss a = a

mutual
  plain-steps : (s : Name → ℕ) (w : Widths) (to free : ℕ) (e : Expr) → ArePlain (steps_of s w to free e)
  plain-steps s w to free (net n) = (tt, tt)
  plain-steps s w to free (number k) = (tt, tt)
  plain-steps s w to free (bit n i) = (one-bit, tt)
  plain-steps s w to free (part n h l) = (mask-is (h - l + 1), tt)
  plain-steps s w to free (word n e) = both (fetch e (steps_of s w free (free + 1) e)) _ (plain-fetch e (steps_of s w free (free + 1) e) (plain-steps s w free (free + 1) e)) (tt, tt)
  plain-steps s w to free (not e) = both (fetch e (steps_of s w free (free + 1) e)) _ (plain-fetch e (steps_of s w free (free + 1) e) (plain-steps s w free (free + 1) e)) (mask-is (width_of w e), tt)
  plain-steps s w to free (two op a b) =
      let x = fetch a (steps_of s w free (free + 1) a) in
      let y = fetch b (steps_of s w (free + 1) (free + 1 + 1) b) in
      both (x ++ y) _ (both x y (plain-fetch a (steps_of s w free (free + 1) a) (plain-steps s w free (free + 1) a)) (plain-fetch b (steps_of s w (free + 1) (free + 1 + 1) b) (plain-steps s w (free + 1) (free + 1 + 1) b)))
      (mask-is (width_of w a), tt)
  plain-steps s w to free (choose c a b) =
      let x = fetch c (steps_of s w free (free + 1) c) in
      let y = fetch a (steps_of s w (free + 1) (free + 1 + 1) a) in
      let z = fetch b (steps_of s w (free + 1 + 1) (free + 1 + 1 + 1) b) in
      both ((x ++ y) ++ z) _
      (both (x ++ y) z (both x y (plain-fetch c (steps_of s w free (free + 1) c) (plain-steps s w free (free + 1) c)) (plain-fetch a (steps_of s w (free + 1) (free + 1 + 1) a) (plain-steps s w (free + 1) (free + 1 + 1) a)))
      (plain-fetch b (steps_of s w (free + 1 + 1) (free + 1 + 1 + 1) b) (plain-steps s w (free + 1 + 1) (free + 1 + 1 + 1) b)))
      (tt, tt)
  plain-steps s w to free (cat es) = (tt, both (parts_steps s w free es) _ (plain-parts s w free es) (tt, tt))

  plain-parts : (s : Name → ℕ) (w : Widths) (all : ℕ) (es : Exprs) → ArePlain (parts_steps s w all es)
  plain-parts s w all no_parts = tt
  plain-parts s w all (parts e es) =
      let x = fetch e (steps_of s w (all + 1) (all + 1 + 1) e) in
      both (x ++ _) (parts_steps s w all es) (both x _ (plain-fetch e (steps_of s w (all + 1) (all + 1 + 1) e) (plain-steps s w (all + 1) (all + 1 + 1) e)) (scale-is (width_of w e), tt)) (plain-parts s w all es)

-- ---- items

plain-assigns : (s : Name → ℕ) (w : Widths) (free : ℕ) (is : List Item) → ArePlain (assign_steps s w free is)
plain-assigns s w free [] = tt
plain-assigns s w free (x ∷ xs) = both (item_assigns s w free x) (assign_steps s w free xs) (one x) (plain-assigns s w free xs)
  where
    one : (x : Item) → ArePlain (item_assigns s w free x)
    one (wire h n) = tt
    one (reg h n) = tt
    one (mem h n last) = tt
    one (assign n e) = plain-steps s w (s n) free e
    one (clocked n k e) = tt
    one (store c n i e) = tt

plain-next : (s : Name → ℕ) (w : Widths) (free : ℕ) (is : List Item) → ArePlain (next_steps s w free is)
plain-next s w free [] = tt
plain-next s w free (x ∷ xs) = both (item_next s w free x) (next_steps s w (free_after free x) xs) (one x) (plain-next s w (free_after free x) xs)
  where
    one : (x : Item) → ArePlain (item_next s w free x)
    one (wire h n) = tt
    one (reg h n) = tt
    one (mem h n last) = tt
    one (assign n e) = tt
    one (clocked n k e) = plain-steps s w free (free + 1) e
    one (store c n i e) =
        let a = steps_of s w free (free + 1) c in
        let b = steps_of s w (free + 1) (free + 1 + 1) i in
        both (a ++ b) (steps_of s w (free + 1 + 1) (free + 1 + 1 + 1) e) (both a b (plain-steps s w free (free + 1) c) (plain-steps s w (free + 1) (free + 1 + 1) i)) (plain-steps s w (free + 1 + 1) (free + 1 + 1 + 1) e)

plain-moves : (s : Name → ℕ) (free : ℕ) (is : List Item) → ArePlain (move_steps s free is)
plain-moves s free [] = tt
plain-moves s free (x ∷ xs) = both (item_moves s free x) (move_steps s (free_after free x) xs) (one x) (plain-moves s (free_after free x) xs)
  where
    one : (x : Item) → ArePlain (item_moves s free x)
    one (wire h n) = tt
    one (reg h n) = tt
    one (mem h n last) = tt
    one (assign n e) = tt
    one (clocked n k e) = (tt, tt)
    one (store c n i e) = tt

pub codes-are-plain : CodesArePlain
codes-are-plain s w t l joins = record {
  settle = plain-assigns s w (length (leaf_lines l)) l.items;
  next = plain-next s w (length (leaf_lines l)) l.items;
  moves = plain-moves s (length (leaf_lines l)) l.items;
}
