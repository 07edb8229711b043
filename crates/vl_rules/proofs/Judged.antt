-- The tests of the code are those of the rules.
use Rattle.std.proofs.Common.{◌≡◌, ℕ, suc, ◌<◌, length, get_or, drop, drop-cons, ◌^◌, Bool, true, false, List, [], ◌∷◌, take, refl, sym, ◌∙◌, ap}
use Rattle.std.specs.Prelude.{not, ◌&&◌, ◌||◌, ◌==◌}
use Rattle.std.specs.List.{list_any, list_all}
use Rattle.std.proofs.lemmas.List.Folds.{list_all-append}
use Rattle.vl_tree.specs.Values.{Name, Expr}
use Rattle.vl_model.specs.Meaning.{Use, width_of, nets_of, uses_of}
use Rattle.vl_model.specs.Lines.{Line, widths, net_bits, word_bits, word_count, kind_passes, is_net, is_memory}
use Rattle.vl_model.specs.Rules.{use_fits, knows, is_kind}
use Rattle.vl_rules.specs.declared.names.Names.{Names}
use Rattle.vl_rules.specs.declared.scope.Entry.{Entry}
use Rattle.vl_rules.specs.Scope.{seen, Declares, widths_at}

pub widths-same : (t : Names Entry) (lines : List Line) → Declares t lines → (k : ℕ)
    → widths_at t k ≡ widths (take k lines)
widths-same t lines h k = λ i. record { net = λ n. net_bits (h k n i); word = λ n. word_bits (h k n i) }

pub use-same : (t : Names Entry) (lines : List Line) → Declares t lines → (k : ℕ) (u : Use)
    → (2 ^ width_of (widths_at t k) u.index == word_count (seen t k u.memory)) ≡ use_fits (take k lines) u
use-same t lines h k u = λ i. 2 ^ width_of (widths-same t lines h k i) u.index == word_count (h k u.memory i)

-- all pass where none fails
pub all-any : {A : Type 0} (p q : A → Bool) (xs : List A) → ((x : A) → q x ≡ not (p x))
    → not (list_any q xs) ≡ list_all p xs
all-any p q [] h = refl
all-any p q (x ∷ xs) h = go (p x) (q x) (h x) (all-any p q xs h)
  where
    go : (a b : Bool) → b ≡ not a → not (list_any q xs) ≡ list_all p xs
        → not (b || list_any q xs) ≡ (a && list_all p xs)
    go true true e rest = cc
    go true false e rest = rest
    go false true e rest = refl
    go false false e rest = cc

pub knows-same : (t : Names Entry) (lines : List Line) → Declares t lines
    → (k : ℕ) (e : Expr) (nets : Name → Bool) (memories : Use → Bool)
    → ((n : Name) → nets n ≡ not (kind_passes is_net (seen t k n)))
    → ((u : Use) → memories u ≡ not (kind_passes is_memory (seen t k u.memory)))
    → (not (list_any nets (nets_of e)) && not (list_any memories (uses_of e))) ≡ knows (take k lines) e
knows-same t lines h k e nets memories hn hm =
    ap (λ b. b && not (list_any memories (uses_of e))) (all-any (is_kind is_net (take k lines)) nets (nets_of e) (λ n. hn n ∙ ap (λ o. not (kind_passes is_net o)) (h k n)))
    ∙ ap (λ b. list_all (is_kind is_net (take k lines)) (nets_of e) && b) (all-any (λ (u : Use). is_kind is_memory (take k lines) u.memory) memories (uses_of e) (λ u. hm u ∙ ap (λ o. not (kind_passes is_memory o)) (h k u.memory)))

pub ruleset uses = (list_all-append)

-- one that fails, behind others that don't
pub all-stops : {A : Type 0} (p : A → Bool) (xs : List A) (i : ℕ) (x : A) → i < length xs → x ≡ get_or xs i x
    → p x ≡ false → list_all p (drop i xs) ≡ false
all-stops p xs i x h e f =
    rw (drop-cons xs i x) (ap (λ y. p y && list_all p (drop (suc i) xs)) (sym e) ∙ ap (λ b. b && list_all p (drop (suc i) xs)) f)
