-- The ports of an attachment, kind by kind.
use Rattle.std.proofs.Common.{◌≡◌, ℕ, zero, suc, ◌+◌, ◌<◌, List, [], ◌∷◌, ◌++◌, take, refl, sym, ap, ◌∙◌, arith, Some}
use Rattle.std.specs.Prelude.{slice_get}
use Rattle.vl_tree.specs.declared.tree.Join.{Join}
use Rattle.noc_model.specs.declared.Host.{Host}
use Rattle.gen_kit.specs.Ports.{host_name}
use Rattle.gen_kit.specs.PortSpec.{kind_head}
use Rattle.gen_kit.specs.Shape.{host_ties}
use Rattle.gen_top.specs.Joined.{joins_of}
use Rattle.gen_top.proofs.Rows.{taken, added}

abbrev one_join : List ℕ → List ℕ → Join
one_join port net = record { port = port; net = net }

-- both names of a join of the kind
abbrev pub same_join : Host → ℕ → Join
same_join h k = record { port = host_name (kind_head k) h; net = host_name (kind_head k) h }

of-kind : (h : Host) (k : ℕ) → k < 11 → slice_get (joins_of (host_ties h)) k ≡ Some (same_join h k)
of-kind h zero less = refl
of-kind h (suc zero) less = refl
of-kind h (suc (suc zero)) less = refl
of-kind h (suc (suc (suc zero))) less = refl
of-kind h (suc (suc (suc (suc zero)))) less = refl
of-kind h (suc (suc (suc (suc (suc zero))))) less = refl
of-kind h (suc (suc (suc (suc (suc (suc zero)))))) less = refl
of-kind h (suc (suc (suc (suc (suc (suc (suc zero))))))) less = refl
of-kind h (suc (suc (suc (suc (suc (suc (suc (suc zero)))))))) less = refl
of-kind h (suc (suc (suc (suc (suc (suc (suc (suc (suc zero))))))))) less = refl
of-kind h (suc (suc (suc (suc (suc (suc (suc (suc (suc (suc zero)))))))))) less = refl
of-kind h (suc (suc (suc (suc (suc (suc (suc (suc (suc (suc (suc k))))))))))) less = absurd (omega arith)

pub kinds_more : (h : Host) (k : ℕ) (port net : List ℕ) (l a b : List Join) → k < 11
    → net ≡ host_name (kind_head k) h → port ≡ net
    → a ≡ l ++ take k (joins_of (host_ties h))
    → b ≡ a ++ record { port = port; net = net } ∷ [] → b ≡ l ++ take (k + 1) (joins_of (host_ties h))
kinds_more h k port net l a b less its same e f =
    let is : one_join port net ≡ same_join h k = cc in
    added l a b (take k (joins_of (host_ties h))) (same_join h k ∷ []) e (f ∙ ap (λ x. a ++ x ∷ []) is)
    ∙ ap (λ ys. l ++ ys) (sym (taken (joins_of (host_ties h)) k (same_join h k) (of-kind h k less)))
