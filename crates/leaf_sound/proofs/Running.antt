-- The leaf of a tile runs as the tile.
use Rattle.std.proofs.Common.{◌≡◌, ℕ, zero, suc, ◌+◌, ◌-◌, ◌/◌, ◌%◌, ◌^◌, ◌<◌, ◌≤◌, ◌⊎◌, inl, inr, Bool, true, false, [], ◌∷◌, ◌++◌, length, refl, sym, ◌∙◌, ap, subst, arith, nat_lt, nat_le, min, codes, if◌then◌else◌}
use Rattle.std.proofs.lemmas.Bool.Decides.{nat_tests}
use Rattle.vl_model.specs.Leaf.{leaf_widths}
use Rattle.vl_model.specs.Meaning.{one_if}
use Rattle.vl_model.specs.Parts.{AllHold}
use Rattle.vl_model.proofs.Held.{parts-hold}
use Rattle.noc_model.specs.Plan.{Plan, link_channels}
use Rattle.flit_word.specs.Words.{dest_bits, channel_bits, flit_bits}
use Rattle.gen_kit.specs.Groups.{Group, HoldsIn}
use Rattle.gen_kit.specs.Ports.{name_with}
use Rattle.gen_kit.specs.Shape.{credit_bits}
use Rattle.gen_kit.specs.Work.{leaf_name}
use Rattle.leaf_tie.specs.Glue.{state_at, rows_at}
use Rattle.leaf_tie.specs.Names.{leaf_names, net_names, port_names, out_names, credit_base, credit_domain, credit_channel, credit_domain_below, leaf_sizes, slot_high, credit_bundle, inner_groups, out_groups, leaf_module}
use Rattle.leaf_tie.specs.Outs.{link_out_group, local_out_group}
use Rattle.leaf_tie.specs.Tie.{HasLink, LeafTie}
use Rattle.leaf_tie.proofs.Grouped.{text-run}
use Rattle.leaf_tie.proofs.Members.{Member, in-back, in-then, holds-in}
use Rattle.leaf_tie.proofs.Outs.{outs-shown, credits-shown}
use Rattle.leaf_sound.specs.Laws.{ModuleRun}
use Rattle.leaf_sound.proofs.Bits.{sizes-meet}
use Rattle.leaf_sound.proofs.Joint.{names-joined}
use Rattle.leaf_sound.proofs.LinkItems.{credit-below}
use Rattle.leaf_sound.proofs.Outs.{local-member, link-member}

-- ---- whose credit it is

base-rises : (p : Plan) (a b : ℕ) → a ≤ b → credit_base p a ≤ credit_base p b
base-rises p a zero le = let none : a ≡ 0 = omega arith in subst (λ k. credit_base p k ≤ credit_base p 0) (sym none) (omega arith)
base-rises p a (suc b) le = go (base-rises p a b) order
  where
    order : (a ≤ b) ⊎ (a ≡ suc b)
    order = grind arith

    go : (a ≤ b → credit_base p a ≤ credit_base p b) → (a ≤ b) ⊎ (a ≡ suc b) → credit_base p a ≤ credit_base p (suc b)
    go more (inl h) = let rest = more h in omega (arith, rest)
    go more (inr e) = subst (λ k. credit_base p k ≤ credit_base p (suc b)) (sym e) (omega arith)

domain-found : (p : Plan) (d x k : ℕ) → x < link_channels p d → d < k → credit_domain_below p k (credit_base p d + x) ≡ d
domain-found p d x zero less below = absurd (omega arith)
domain-found p d x (suc k) less below = go (domain-found p d x k less) (nat_le (credit_base p k) (credit_base p d + x)) refl
  where
    go : (d < k → credit_domain_below p k (credit_base p d + x) ≡ d) → (b : Bool) → nat_le (credit_base p k) (credit_base p d + x) ≡ b → (if b then k else credit_domain_below p k (credit_base p d + x)) ≡ d
    go more true e = same order
      where
        le : credit_base p k ≤ credit_base p d + x
        le = grind (arith, nat_tests, e)

        order : (d < k) ⊎ (d ≡ k)
        order = grind arith

        same : (d < k) ⊎ (d ≡ k) → k ≡ d
        same (inl h) = absurd (let up = base-rises p (suc d) k (omega arith) in let low = le in omega (arith, up, low, less))
        same (inr is) = sym is
    go more false e = more (let far : credit_base p d + x < credit_base p k = grind (arith, nat_tests, e) in apart order far)
      where
        order : (d < k) ⊎ (d ≡ k)
        order = grind arith

        apart : (d < k) ⊎ (d ≡ k) → credit_base p d + x < credit_base p k → d < k
        apart (inl h) far = h
        apart (inr is) far = absurd (let same = ap (credit_base p) is in omega (arith, same, far))

min-most : (c r : ℕ) → r < c → r < 64 → r < 0 + min c 64
min-most c r a b = grind arith

pub module-run : ModuleRun
module-run p n design v i sound inside good named run ins t = record {
  tie = tie;
  outs = outs-shown p n leaf_names net_names (out_names n) (leaf_sizes p) (dest_bits p) (flit_bits p) (channel_bits p) (leaf_widths (leaf_module p n)) (v t) t (state_at p n i t) (rows_at p n i t) sound
      (λ o link. holds (link_out_group p leaf_names (out_names n) o) (link-member p n sound inside (link_out_group p leaf_names (out_names n) o) o link.0 link.1 (inl refl)))
      (λ d there host. holds (local_out_group p leaf_names net_names (out_names n) (leaf_sizes p) (dest_bits p) d) (local-member p n sound inside d there host)) tie;
  credits = λ d port x there link less. credit d port x there link less;
}
  where
    tie : LeafTie p n leaf_names (leaf_sizes p) (dest_bits p) (flit_bits p) (channel_bits p) (v t) t (state_at p n i t) (rows_at p n i t)
    tie = text-run p n leaf_names net_names (port_names n) (credit_base p) (leaf_sizes p) (slot_high p) (dest_bits p) (flit_bits p) (channel_bits p) (out_groups p n) design (leaf_name n) (leaf_module p n) v i sound inside (sizes-meet p sound) good named refl (names-joined p n sound inside) run ins t

    all : AllHold (leaf_widths (leaf_module p n)) (v t) (leaf_module p n).items
    all = parts-hold design good (leaf_name n) (leaf_module p n) named (v t) (run.right t)

    holds : (g : Group) → Member g (out_groups p n) → HoldsIn g (leaf_widths (leaf_module p n)) (v t)
    holds g m = holds-in g (inner_groups p n ++ out_groups p n) (leaf_widths (leaf_module p n)) (v t) (in-back g (inner_groups p n) (out_groups p n) m) all

    credit : (d port x : ℕ) → d < length p.domains → HasLink p n port → x < link_channels p d
        → (v t).net (if nat_lt (credit_base p d + x) 64 then name_with (codes "co") (n ∷ port ∷ []) else name_with (codes "co") (n ∷ port ∷ 1 ∷ [])) / 2 ^ (if nat_lt (credit_base p d + x) 64 then credit_base p d + x else credit_base p d + x - 64) % 2
        ≡ one_if ((state_at p n i t d).pulse port x)
    credit d port x there link less = go (nat_lt (credit_base p d + x) 64) refl
      where
        its : credit_domain p (credit_base p d + x) ≡ d
        its = domain-found p d x (length p.domains) less there

        channel : credit_channel p (credit_base p d + x) ≡ x
        channel = ap (λ k. credit_base p d + x - credit_base p k) its ∙ omega arith

        below : credit_base p d + x < credit_bits p
        below = credit-below p d x less

        its_pulse : one_if ((state_at p n i t (credit_domain p (credit_base p d + x))).pulse port (credit_channel p (credit_base p d + x))) ≡ one_if ((state_at p n i t d).pulse port x)
        its_pulse = ap (λ k. one_if ((state_at p n i t k).pulse port (credit_channel p (credit_base p d + x)))) its ∙ ap (λ k. one_if ((state_at p n i t d).pulse port k)) channel

        there_is : credit_domain p (credit_base p d + x) < length p.domains
        there_is = subst (λ k. k < length p.domains) (sym its) there

        small : credit_channel p (credit_base p d + x) < link_channels p (credit_domain p (credit_base p d + x))
        small = subst (λ k. credit_channel p (credit_base p d + x) < link_channels p k) (sym its) (subst (λ k. k < link_channels p d) (sym channel) less)

        go : (b : Bool) → nat_lt (credit_base p d + x) 64 ≡ b → (v t).net (if nat_lt (credit_base p d + x) 64 then name_with (codes "co") (n ∷ port ∷ []) else name_with (codes "co") (n ∷ port ∷ 1 ∷ [])) / 2 ^ (if nat_lt (credit_base p d + x) 64 then credit_base p d + x else credit_base p d + x - 64) % 2 ≡ one_if ((state_at p n i t d).pulse port x)
        go true e = rw e (
            let low : credit_base p d + x < 64 = grind (arith, nat_tests, e) in
            let first = credits-shown p n leaf_names (leaf_sizes p) (dest_bits p) (flit_bits p) (channel_bits p) (name_with (codes "co") (n ∷ port ∷ [])) port 0 (min (credit_bits p) 64) (credit_domain p) (credit_channel p) (leaf_widths (leaf_module p n)) (v t) t (state_at p n i t) (rows_at p n i t)
            (holds (credit_bundle p n port 0 (min (credit_bits p) 64)) (link-member p n sound inside (credit_bundle p n port 0 (min (credit_bits p) 64)) port link.0 link.1 (inr (inl refl)))) tie link
            (credit_base p d + x) (omega arith) (min-most (credit_bits p) (credit_base p d + x) below low) there_is small in ap (λ k. (v t).net (name_with (codes "co") (n ∷ port ∷ [])) / 2 ^ k % 2) (let e : credit_base p d + x ≡ credit_base p d + x - 0 = omega arith in e) ∙ first ∙ its_pulse)
        go false e = rw e (
            let far : 64 ≤ credit_base p d + x = grind (arith, nat_tests, e) in
            let b = below in
            let above : nat_lt 64 (credit_bits p) ≡ true = grind (arith, nat_tests, far, b) in
            let second = credits-shown p n leaf_names (leaf_sizes p) (dest_bits p) (flit_bits p) (channel_bits p) (name_with (codes "co") (n ∷ port ∷ 1 ∷ [])) port 64 (credit_bits p - 64) (credit_domain p) (credit_channel p) (leaf_widths (leaf_module p n)) (v t) t (state_at p n i t) (rows_at p n i t)
            (holds (credit_bundle p n port 64 (credit_bits p - 64)) (link-member p n sound inside (credit_bundle p n port 64 (credit_bits p - 64)) port link.0 link.1
            (inr (inr (in-then (credit_bundle p n port 64 (credit_bits p - 64)) (nat_lt 64 (credit_bits p)) (credit_bundle p n port 64 (credit_bits p - 64) ∷ []) [] above (inl refl)))))) tie link
            (credit_base p d + x) far (omega (arith, far, b)) there_is small in second ∙ its_pulse)
