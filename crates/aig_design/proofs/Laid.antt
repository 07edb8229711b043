-- Instances with words of variables, one by one.
use Rattle.std.proofs.Common.{◌≡◌, ℕ, zero, suc, List, [], ◌∷◌, ◌++◌, length, replicate, refl, sym, ◌∙◌, ap, subst, arith}
use Rattle.std.specs.List.{AllByRecursion}
use Rattle.vl_run.specs.declared.program.Register.{Register}
use Rattle.vl_run.specs.declared.program.Memory.{Memory}
use Rattle.vl_run.specs.State.{Code, Kept, Part}
use Rattle.aig_cycle.specs.Steps.{Wired}
use Rattle.aig_cycle.specs.Short.{Bounds, IsWithin, lengths}
use Rattle.aig_design.specs.Start.{IsBounded, AreRegistersPut, AreMemoriesPut, IsLaid, AreLaid}

pub no-lengths : (k i : ℕ) → lengths (replicate k []) i ≡ 0
no-lengths zero i = refl
no-lengths (suc k) zero = refl
no-lengths (suc k) (suc i) = no-lengths k i

pub laid-of : (first middle next : ℕ) (p : Code) (k : Kept) (registers : List Register) (memories : List Memory) (resets : List ℕ) (old-nets nets : List (List ℕ)) (old-rows rows : List (List (List ℕ)))
    → registers ≡ p.registers → memories ≡ p.memories → resets ≡ k.nets → old-nets ≡ replicate (length k.nets) [] → old-rows ≡ replicate (length k.memories) []
    → AreRegistersPut resets first middle registers old-nets nets → AreMemoriesPut middle next memories old-rows rows
    → ((b : Bounds) → AllByRecursion (IsBounded b) registers → IsWithin b (lengths old-nets) → IsWithin b (lengths nets))
    → IsLaid first next (record { code = p; kept = k }) (record { code = p; wires = record { nets = nets; memories = rows } })
laid-of first middle next p k registers memories resets old-nets nets old-rows rows er em ek en eo a b long = record {
  code = refl;
  middle = middle;
  registers = subst (λ z. AreRegistersPut k.nets first middle p.registers z nets) en (subst (λ z. AreRegistersPut z first middle p.registers old-nets nets) ek (subst (λ z. AreRegistersPut resets first middle z old-nets nets) er a));
  memories = subst (λ z. AreMemoriesPut middle next p.memories z rows) eo (subst (λ z. AreMemoriesPut middle next z old-rows rows) em b);
  short = λ q h. long q (subst (AllByRecursion (IsBounded q)) (sym er) h) (λ n known. (let e : lengths old-nets (q.place n) ≡ 0 = ap (λ ws. lengths ws (q.place n)) en ∙ no-lengths (length k.nets) (q.place n) in omega (arith, e)));
}

pub laid-push : (first middle next : ℕ) (xs : List Part) (ws : List Wired) (rs : List (List ℕ)) (x : Part) (w : Wired) (r : List ℕ) → AreLaid first middle xs ws rs → IsLaid middle next x w → r ≡ x.kept.nets → AreLaid first next (xs ++ x ∷ []) (ws ++ w ∷ []) (rs ++ r ∷ [])
laid-push first middle next [] [] [] x w r a l e = record { middle = next; laid = subst (λ k. IsLaid k next x w) a l; at_reset = e; rest = refl }
laid-push first middle next [] [] (q ∷ rs) x w r a l e = absurd a
laid-push first middle next [] (y ∷ ws) rs x w r a l e = absurd a
laid-push first middle next (y ∷ xs) [] rs x w r a l e = absurd a
laid-push first middle next (y ∷ xs) (z ∷ ws) [] x w r a l e = absurd a
laid-push first middle next (y ∷ xs) (z ∷ ws) (q ∷ rs) x w r a l e = record { middle = a.middle; laid = a.laid; at_reset = a.at_reset; rest = laid-push a.middle middle next xs ws rs x w r a.rest l e }

-- one more instance
pub laid-more : (first middle next : ℕ) (xs : List Part) (x : Part) (ws new-ws : List Wired) (rs new-rs : List (List ℕ)) (w : Wired) (r : List ℕ) → new-ws ≡ ws ++ w ∷ [] → new-rs ≡ rs ++ r ∷ []
    → AreLaid first middle xs ws rs → IsLaid middle next x w → r ≡ x.kept.nets → AreLaid first next (xs ++ x ∷ []) new-ws new-rs
laid-more first middle next xs x ws new-ws rs new-rs w r put-w put-r a l e =
    subst (λ z. AreLaid first next (xs ++ x ∷ []) z new-rs) (sym put-w) (subst (λ z. AreLaid first next (xs ++ x ∷ []) (ws ++ w ∷ []) z) (sym put-r) (laid-push first middle next xs ws rs x w r a l e))
