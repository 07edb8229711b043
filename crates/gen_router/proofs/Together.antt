-- The items of groups, one behind the other.
use Rattle.std.specs.Prelude.{if◌then◌else◌}
use Rattle.std.proofs.Common.{◌≡◌, ℕ, zero, suc, ◌+◌, Bool, true, false, List, [], ◌∷◌, ◌++◌, refl, sym, ap, ◌∙◌, add-one, append_assoc, append-nil}
use Rattle.std.proofs.lemmas.Grind.{flat_map-append}
use Rattle.vl_tree.specs.Values.{Leaf}
use Rattle.vl_model.specs.Laws.{with_items}
use Rattle.flit_word.specs.Words.{dest_bits}
use Rattle.gen_kit.specs.Groups.{Group}
use Rattle.noc_model.specs.Plan.{Plan}
use Rattle.leaf_tie.specs.Counts.{idle_group}
use Rattle.leaf_tie.specs.Glue.{high, switch_part, filled_group, tails_group, ends_group}
use Rattle.leaf_tie.specs.Names.{leaf_names, net_names}
use Rattle.gen_router.specs.Ordered.{its_outputs, its_groups}
use Rattle.gen_router.specs.Given.{first_groups, last_groups}
use Rattle.leaf_tie.specs.Whole.{each_group}
use Rattle.leaf_parts.specs.declared.phase.Phase.{Phase}
use Rattle.leaf_parts.specs.Phases.{items_of, all_of}
use Rattle.leaf_parts.proofs.Loops.{items_more}

pub joined_groups : (part : Phase) (xs ys : List Group) → all_of part (xs ++ ys) ≡ all_of part xs ++ all_of part ys
joined_groups part xs ys = flat_map-append (items_of part) xs ys

pub groups_joined : (part : Phase) (xs ys : List Group) (l a b : Leaf) → a ≡ with_items l (all_of part xs) → b ≡ with_items a (all_of part ys)
    → b ≡ with_items l (all_of part (xs ++ ys))
groups_joined part xs ys l a b e g =
    items_more l a b (all_of part xs) (all_of part ys) e g ∙ ap (with_items l) (sym (joined_groups part xs ys))

pub groups_more : (part : Phase) (f : ℕ → List Group) (n : ℕ) (l a b : Leaf) → a ≡ with_items l (all_of part (each_group n f))
    → b ≡ with_items a (all_of part (f n)) → b ≡ with_items l (all_of part (each_group (n + 1) f))
groups_more part f n l a b e g = rw (add-one n) (groups_joined part (each_group n f) (f n) l a b e g)

pub one_group : (part : Phase) (g : Group) (l a : Leaf) → a ≡ with_items l (items_of part g) → a ≡ with_items l (all_of part (g ∷ []))
one_group part g l a e = e ∙ ap (with_items l) (sym (append-nil (items_of part g)))

-- ---- parts of a leaf that has no items in a phase

pub no_groups : (part : Phase) (f : ℕ → List Group) (n : ℕ) → ((k : ℕ) → all_of part (f k) ≡ []) → all_of part (each_group n f) ≡ []
no_groups part f zero e = refl
no_groups part f (suc n) e =
    joined_groups part (each_group n f) (f n) ∙ (ap (λ is. is ++ all_of part (f n)) (no_groups part f n e) ∙ e n)

-- ---- groups that are there or not

pub part_there : (part : Phase) (b : Bool) (gs hs : List Group) (l a : Leaf) → b ≡ true → a ≡ with_items l (all_of part gs) → a ≡ with_items l (all_of part (if b then gs else hs))
part_there part b gs hs l a e is = is ∙ sym (ap (λ (t : Bool). with_items l (all_of part (if t then gs else hs))) e)

pub part_else : (part : Phase) (b : Bool) (gs hs : List Group) (l a : Leaf) → b ≡ false → a ≡ with_items l (all_of part hs) → a ≡ with_items l (all_of part (if b then gs else hs))
part_else part b gs hs l a e is = is ∙ sym (ap (λ (t : Bool). with_items l (all_of part (if t then gs else hs))) e)

-- ---- the groups of a domain

pub groups_whole : (p : Plan) (n d : ℕ) → first_groups p n d ++ last_groups p n d ≡ its_groups p n d
groups_whole p n d =
    ap (λ gs. filled_group p n leaf_names net_names d ∷ tails_group p n leaf_names net_names (dest_bits p) d ∷ gs)
    (append_assoc (its_outputs p n d) (switch_part p n leaf_names net_names d
    ∷ ends_group p net_names d ∷ idle_group (leaf_names.idle d) (net_names.filled d) (net_names.ends d) (high p d) ∷ []) (last_groups p n d))
