-- Worked rows, computed.
use Rattle.std.proofs.Common.{◌≡◌, ℕ, ◌-◌, [], ◌∷◌, ◌++◌, Option, refl}
use Rattle.std.specs.Prelude.{Some, None, codes}
use Rattle.vl_tree.specs.Values.{Name, net, not, two, choose, reg, clocked, Design}
use Rattle.vl_tree.specs.declared.tree.Op.TheVariants.{And}
use Rattle.vl_model.specs.Rules.{first_fault, name_twice, name_unknown, wrong_width, wrong_order, wrong_driver, goes_through, wrong_size, wrong_joins}
use Rattle.vl_model.proofs.Texts.{ports_of, dropping, one_tile, zero_bit, drops_every_word, takes_turns}
use Rattle.label_model.specs.Phase.{phase_labels, next_labels}
use Rattle.label_model.specs.Rounds.{rounds}
use Rattle.label_model.specs.Verdict.{Leak, first_leak}

-- the domain in a port's name, as in ov_0_1
owner_by_name : Name → ℕ
owner_by_name [] = 0
owner_by_name (x ∷ []) = x - 48
owner_by_name (x ∷ y ∷ n) = owner_by_name (y ∷ n)

-- the first leak after k more rounds than the first
shown : Design → ℕ → ℕ → ℕ → Option Leak
shown d D L k = first_leak D L owner_by_name (λ f. phase_labels d owner_by_name (rounds d owner_by_name L k f)) d.top.ports 0

alone_is_clean : shown drops_every_word 1 1 2 ≡ None
unfolding shown drops_every_word owner_by_name phase_labels next_labels
alone_is_clean = refl

-- the pulse of one domain shows the offers of the other
unfoldable leaks_an_offer : Design
leaks_an_offer = one_tile (ports_of (codes "0") ++ ports_of (codes "1")) (reg 0 (codes "s_0") ∷ (dropping (codes "0") (net (codes "s_0")) ++ (dropping (codes "1") zero_bit
    ++ (clocked (codes "s_0") (record { width = 1; value = 0 }) (net (codes "ov_0_1")) ∷ []))))

leaking_is_sound : first_fault leaks_an_offer ≡ None
unfolding first_fault name_twice name_unknown wrong_width wrong_order wrong_driver goes_through wrong_size wrong_joins leaks_an_offer
leaking_is_sound = refl

offer_leaks : shown leaks_an_offer 2 2 2 ≡ Some (record { port = 6; phase = 0; foreign = 1 })
unfolding shown leaks_an_offer owner_by_name phase_labels next_labels
offer_leaks = refl

turns_are_clean : shown takes_turns 2 2 2 ≡ None
unfolding shown takes_turns owner_by_name phase_labels next_labels
turns_are_clean = refl

-- two domains take turns, but the pulse of the first is shown in all cycles
unfoldable turns_out_of_turn : Design
turns_out_of_turn = one_tile (ports_of (codes "0") ++ ports_of (codes "1")) (reg 0 (codes "s_0") ∷ reg 0 (codes "c_0")
    ∷ (dropping (codes "0") (net (codes "s_0")) ++ (dropping (codes "1") (two And (not (net (codes "c_0"))) (net (codes "s_0")))
    ++ (clocked (codes "s_0") (record { width = 1; value = 0 }) (choose (net (codes "c_0")) (net (codes "ov_0_1")) (net (codes "ov_0_0")))
    ∷ clocked (codes "c_0") (record { width = 1; value = 0 }) (not (net (codes "c_0")))
    ∷ []))))

out_of_turn_leaks : shown turns_out_of_turn 2 2 2 ≡ Some (record { port = 6; phase = 0; foreign = 1 })
unfolding shown turns_out_of_turn owner_by_name phase_labels next_labels
out_of_turn_leaks = refl
