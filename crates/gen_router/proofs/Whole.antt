-- A leaf of its parts.
use Rattle.std.proofs.Common.{◌≡◌, ℕ, ◌-◌, Bool, true, false, List, [], ◌∷◌, ◌++◌, length, refl, sym, ap, ◌∙◌, append_assoc, append-nil}
use Rattle.std.specs.Prelude.{if◌then◌else◌, is_some, nat_lt}
use Rattle.vl_tree.specs.Values.{Item, Leaf}
use Rattle.vl_model.specs.Laws.{with_items}
use Rattle.gen_kit.specs.Groups.{Group, all_items}
use Rattle.gen_kit.specs.Shape.{credit_bits, tile_head}
use Rattle.gen_kit.specs.Work.{empty_leaf}
use Rattle.noc_model.specs.Plan.{Plan, ports, hosts}
use Rattle.noc_model.specs.Place.{neighbour}
use Rattle.flit_word.specs.Words.{dest_bits}
use Rattle.leaf_tie.specs.Names.{inner_groups, out_groups, link_outs, credit_bundle, leaf_module, leaf_names, net_names, out_names, leaf_sizes}
use Rattle.leaf_tie.specs.Outs.{local_out_group}
use Rattle.leaf_tie.specs.Whole.{each_group}
use Rattle.leaf_parts.specs.declared.phase.Phase.{Phase}
use Rattle.leaf_parts.specs.declared.phase.Phase.TheVariants.{Heads, Nets, Moves}
use Rattle.leaf_parts.specs.Phases.{items_of, all_of}
use Rattle.gen_router.specs.Ordered.{its_outs, port_outs}
use Rattle.gen_router.specs.Ports.{with_ports}
use Rattle.gen_router.proofs.Together.{joined_groups, no_groups}

-- ---- what is given out declares nothing and moves nothing

either_none : (part : Phase) (b : Bool) (gs : List Group) → all_of part gs ≡ [] → all_of part (if b then gs else []) ≡ []
either_none part true gs e = e
either_none part false gs e = refl

link_heads : (p : Plan) (n o : ℕ) → all_of Heads (link_outs p n o) ≡ []
link_heads p n o = either_none Heads (nat_lt 64 (credit_bits p)) (credit_bundle p n o 64 (credit_bits p - 64) ∷ []) refl

link_moves : (p : Plan) (n o : ℕ) → all_of Moves (link_outs p n o) ≡ []
link_moves p n o = either_none Moves (nat_lt 64 (credit_bits p)) (credit_bundle p n o 64 (credit_bits p - 64) ∷ []) refl

outs_none : (part : Phase) (p : Plan) (n : ℕ) → ((o : ℕ) → all_of part (port_outs p n o) ≡ []) → ((d : ℕ) → all_of part (its_outs p n d) ≡ [])
    → all_of part (out_groups p n) ≡ []
outs_none part p n links hosted =
    joined_groups part (each_group (ports p) (port_outs p n)) (each_group (length p.domains) (its_outs p n))
    ∙ (ap (λ is. is ++ all_of part (each_group (length p.domains) (its_outs p n))) (no_groups part (port_outs p n) (ports p) links)
    ∙ no_groups part (its_outs p n) (length p.domains) hosted)

hosted_heads : (p : Plan) (n d : ℕ) → all_of Heads (its_outs p n d) ≡ []
hosted_heads p n d = go (hosts p n d)
  where
    go : (b : Bool) → all_of Heads (if b then local_out_group p leaf_names net_names (out_names n) (leaf_sizes p) (dest_bits p) d ∷ [] else []) ≡ []
    go true = refl
    go false = refl

hosted_moves : (p : Plan) (n d : ℕ) → all_of Moves (its_outs p n d) ≡ []
hosted_moves p n d = go (hosts p n d)
  where
    go : (b : Bool) → all_of Moves (if b then local_out_group p leaf_names net_names (out_names n) (leaf_sizes p) (dest_bits p) d ∷ [] else []) ≡ []
    go true = refl
    go false = refl

no_heads : (p : Plan) (n : ℕ) → all_of Heads (out_groups p n) ≡ []
no_heads p n = outs_none Heads p n (λ o. either_none Heads (is_some (neighbour p n o)) (link_outs p n o) (link_heads p n o)) (hosted_heads p n)

no_moves : (p : Plan) (n : ℕ) → all_of Moves (out_groups p n) ≡ []
no_moves p n = outs_none Moves p n (λ o. either_none Moves (is_some (neighbour p n o)) (link_outs p n o) (link_moves p n o)) (hosted_moves p n)

-- ---- the whole

in_order : (h n o m more last : List Item) → more ≡ [] → last ≡ [] → ((h ++ n) ++ o) ++ m ≡ (h ++ more) ++ ((n ++ o) ++ (m ++ last))
in_order h n o m more last e f =
    append_assoc (h ++ n) o m ∙ (append_assoc h n (o ++ m) ∙ (ap (λ is. h ++ is) (sym (append_assoc n o m))
    ∙ sym (ap (λ is. (h ++ is) ++ ((n ++ o) ++ (m ++ last))) e ∙ (ap (λ is. is ++ ((n ++ o) ++ (m ++ last))) (append-nil h)
    ∙ ap (λ is. h ++ ((n ++ o) ++ is)) (ap (λ is. m ++ is) f ∙ append-nil m)))))

all_are : (p : Plan) (n : ℕ) → ((all_of Heads (inner_groups p n) ++ all_of Nets (inner_groups p n)) ++ all_of Nets (out_groups p n)) ++ all_of Moves (inner_groups p n)
    ≡ all_items (inner_groups p n ++ out_groups p n)
all_are p n =
    let a : List Group = inner_groups p n in
    let b : List Group = out_groups p n in
    in_order (all_of Heads a) (all_of Nets a) (all_of Nets b) (all_of Moves a) (all_of Heads b) (all_of Moves b) (no_heads p n) (no_moves p n)
    ∙ sym (ap (λ is. is ++ (all_of Nets (a ++ b) ++ all_of Moves (a ++ b))) (joined_groups Heads a b)
    ∙ (ap (λ is. (all_of Heads a ++ all_of Heads b) ++ (is ++ all_of Moves (a ++ b))) (joined_groups Nets a b)
    ∙ ap (λ is. (all_of Heads a ++ all_of Heads b) ++ ((all_of Nets a ++ all_of Nets b) ++ is)) (joined_groups Moves a b)))

pub leaf_whole : (p : Plan) (n : ℕ) (a b c d e f : Leaf) → a ≡ empty_leaf n → b ≡ with_ports a (tile_head p n).ports → c ≡ with_items b (all_of Heads (inner_groups p n))
    → d ≡ with_items c (all_of Nets (inner_groups p n)) → e ≡ with_items d (all_of Nets (out_groups p n)) → f ≡ with_items e (all_of Moves (inner_groups p n))
    → f ≡ leaf_module p n
leaf_whole p n a b c d e f begins ported headed netted given moved =
    moved
    ∙ (ap (λ x. with_items x (all_of Moves (inner_groups p n))) (given
    ∙ (ap (λ x. with_items x (all_of Nets (out_groups p n))) (netted
    ∙ (ap (λ x. with_items x (all_of Nets (inner_groups p n))) (headed
    ∙ ap (λ x. with_items x (all_of Heads (inner_groups p n))) (ported ∙ ap (λ x. with_ports x (tile_head p n).ports) begins))))))
    ∙ ap (with_items (with_ports (empty_leaf n) (tile_head p n).ports)) (all_are p n))
