-- Whose slot it is, from the last slot on, and the word of the domain that owns it.
use Rattle.std.proofs.Common.{◌≡◌, ℕ, zero, suc, ◌+◌, ◌<◌, ◌==◌, Bool, true, false, List, [], ◌∷◌, length, drop, get_or, refl, sym, ap, ◌∙◌, arith, add-one}
use Rattle.std.proofs.lemmas.List.{drop_more}
use Rattle.std.specs.Prelude.{if◌then◌else◌}
use Rattle.vl_tree.specs.declared.tree.Op.TheVariants.{Or, Equal}
use Rattle.vl_tree.specs.Values.{Expr, net, two, choose}
use Rattle.gen_kit.specs.Families.{in_bits}
use Rattle.leaf_tie.specs.Links.{LinkNames, owners_word}
use Rattle.leaf_tie.specs.Slots.{SlotNames, owned}
use Rattle.leaf_parts.specs.Parts.{owned_from}

pub owned_more : (n : SlotNames) (h : ℕ) (slots : List ℕ) (k last e : ℕ) (x y : Expr) → last ≡ k + 1 → k < length slots
    → x ≡ owned n h last (drop last slots) e → y ≡ owned_from n.count h k (get_or slots k 0) e x → y ≡ owned n h k (drop k slots) e
owned_more n h slots k last e x y next below before is =
    is ∙ (ap (λ z. owned_from n.count h k (get_or slots k 0) e z) (before ∙ ap (λ m. owned n h m (drop m slots) e) next)
    ∙ sym (ap (λ ds. owned n h k ds e) (drop_more slots k 0 below)))

pub owners_more : (a : LinkNames) (h e : ℕ) (x y : Expr) → x ≡ owners_word a h e → y ≡ choose (net (a.owns e)) (net (a.word e)) x → y ≡ owners_word a h (e + 1)
owners_more a h e x y before is = is ∙ (ap (λ z. choose (net (a.owns e)) (net (a.word e)) z) before ∙ rw (add-one e) refl)
