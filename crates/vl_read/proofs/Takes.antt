-- Each element of a list takes a token at least.
use Rattle.std.proofs.Common.{◌≡◌, ℕ, zero, suc, ◌<◌, Bool, List, [], ◌∷◌, length, Result, Ok, Err, refl, sym, ap, ◌∙◌, arith}
use Rattle.std.specs.Prelude.{codes}
use Rattle.std.proofs.lemmas.List.{length-append}
use Rattle.vl_tree.specs.declared.tree.TopItem.{TopItem}
use Rattle.vl_tree.specs.declared.tree.TopItem.TheVariants.{Wire, Instance}
use Rattle.vl_tree.specs.Values.{Expr, Item, wire, reg, mem, assign, clocked, store}
use Rattle.vl_tree.specs.Tokens.{Token, Placed}
use Rattle.vl_tree.specs.Grammar.{item_tokens, top_item_tokens}
use Rattle.vl_tree.specs.Spells.{text_of}
use Rattle.vl_tree.specs.Reading.{Reader, both, made, phrase, expr_at, none, left_of, port_at, item_at, leaf_at, join_at, top_item_at}
use Rattle.vl_tree.proofs.Forms.{IsForm}
use Rattle.vl_tree.proofs.Single.{opened_form}
use Rattle.vl_tree.proofs.Exprs.{an_expr, expr_form}
use Rattle.vl_tree.proofs.Modules.{port_form, item_form, leaf_form, join_form, top_item_form}
use Rattle.vl_read.specs.Picks.{part_at}
use Rattle.vl_read.proofs.Lists.{Takes}

text_length : (ts : List Placed) → length (text_of ts) ≡ length ts
text_length [] = refl
text_length (t ∷ ts) = ap suc (text_length ts)

takes_of : {X : Type 0} (s : X → List Token) (V : X → Type 0) (f : Token → Bool) (p : Reader X) → IsForm s V f p
    → ((x : X) → 0 < length (s x)) → Takes p
takes_of s V f p form some ts x r e =
    let a = (form.at ts).found x r e in
    omega (arith, some x, ap length a.parts, length-append a.front r, text_length a.front, ap length a.spelled)

pub port_takes : Takes port_at
port_takes = takes_of _ _ _ port_at port_form (λ x. omega arith)

item_some : (i : Item) → 0 < length (item_tokens i)
item_some (wire h n) = omega arith
item_some (reg h n) = omega arith
item_some (mem h n last) = omega arith
item_some (assign n e) = omega arith
item_some (clocked n r e) = omega arith
item_some (store c n i e) = omega arith

pub item_takes : Takes item_at
item_takes = takes_of _ _ _ item_at item_form item_some

pub leaf_takes : Takes leaf_at
leaf_takes = takes_of _ _ _ leaf_at leaf_form (λ x. omega arith)

pub join_takes : Takes join_at
join_takes = takes_of _ _ _ join_at join_form (λ x. omega arith)

top_item_some : (i : TopItem) → 0 < length (top_item_tokens i)
top_item_some (Wire h n) = omega arith
top_item_some (Instance l n joins) = omega arith

pub top_item_takes : Takes top_item_at
top_item_takes = takes_of _ _ _ top_item_at top_item_form top_item_some

ok_err : {X : Type 0} {x : X × List Placed} {n : ℕ} → Ok x ≡ Err n → ⊥
ok_err e = absurd cc

no_part : (o : Result (Unit {0} × List Placed) ℕ) (ts : List Placed) (x : Expr) (r : List Placed)
    → phrase (codes ",") ts ≡ o → part_at (expr_at zero) ts ≡ Ok (x, r) → length r < length ts
unfolding expr_at none both made
no_part (Ok y) ts x r is e = let h : part_at (expr_at zero) ts ≡ Err (left_of y.1) = rw is refl in absurd (ok_err (sym e ∙ h))
no_part (Err n) ts x r is e = let h : part_at (expr_at zero) ts ≡ Err n = rw is refl in absurd (ok_err (sym e ∙ h))

pub part_takes : (d : ℕ) → Takes (part_at (expr_at d))
part_takes (suc d) ts x r e =
    takes_of _ _ _ (part_at (expr_at (suc d))) (opened_form (codes ",") refl (an_expr d) (expr_form (suc d))) (λ x. omega arith) ts x r e
part_takes zero ts x r e = no_part (phrase (codes ",") ts) ts x r refl e
