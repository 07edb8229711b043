-- A walk that hands a phase over, and one that is done.
use Rattle.std.proofs.Common.{◌≡◌, ◌≢◌, ℕ, zero, suc, ◌+◌, ◌-◌, ◌%◌, ◌<◌, ◌≤◌, Bool, true, false, List, [], ◌∷◌, ◌++◌, length, map, refl, sym, ◌∙◌, ap, subst, arith}
use Rattle.std.specs.Prelude.{◌==◌, get_or, slice_set, Option, Some, None, if◌then◌else◌}
use Rattle.std.proofs.Math.Nat.{mod-lt, mod-eq_of_lt}
use Rattle.std.proofs.lemmas.Bool.{eqb-true, eqb-false}
use Rattle.std.proofs.lemmas.List.{get_or-set_same, get_or-set_other, length-set, length-append}
use Rattle.std.proofs.Math.ListN.{get_or-map}
use Rattle.vl_tree.specs.Values.{Name, Design}
use Rattle.label_model.specs.Labels.{Label, Labels}
use Rattle.label_model.specs.Lawful.{LabelNets, IsKeptBelow, IsLawful, IsLeast}
use Rattle.label_model.specs.Phase.{phase_labels, next_labels, first_labels}
use Rattle.label_model.specs.Rounds.{join_all, first_round}
use Rattle.label_model.proofs.Stable.{kept-trans, kept-itself, kept-left, kept-right, kept-least, nets-below, kept-is-lawful, first-is-below, next-is-below}
use Rattle.label_audit.specs.declared.bit.Bit.{Bit}
use Rattle.label_audit.specs.declared.phase.Shape.{Shape}
use Rattle.label_audit.specs.Rows.{row_in}
use Rattle.label_audit.specs.Audited.{port_domain}
use Rattle.label_audit.specs.Whole.{IsShape, phase_in, joined_in, first_in, next_in, Stand}
use Rattle.label_audit.specs.Walks.{design_in, phase_count, phase_at, AreFirst, IsWalk, IsDone}
use Rattle.label_audit.specs.Rises.{phase_left, walk_left}
use Rattle.label_audit.proofs.Whole.{front-at, back-at}
use Rattle.label_audit.proofs.Rises.{set-less}
use Rattle.label_audit.proofs.Phases.{first-stands, next-stands, joined-stand, still-kept}

module _ (s : Shape) (shape : IsShape s) where
  abbrev d : Design
  d = design_in s

  abbrev owner : Name → ℕ
  owner = port_domain s.plan.now

  abbrev L : ℕ
  L = phase_count s

  abbrev Below : (Name → Labels) → (Name → Labels) → Type 0
  Below a b = IsKeptBelow d a b

  pub some : 0 < L
  some = let e = shape.plan.slot_count.0 in omega (arith, e)

  steps : (f : ℕ) → suc f < L → (f + 1) % L ≡ suc f
  steps f lt = let more : f + 1 ≡ suc f = omega arith in ap (λ z. z % L) more ∙ mod-eq_of_lt lt

  -- ---- the first phases

  first-below : (labels : ℕ → LabelNets) → IsLawful d owner L labels → (f : ℕ) → f < L → Below (first_round d owner f) (labels f).inside
  first-below labels lawful zero lt = first-is-below d shape.sound owner L labels lawful
  first-below labels lawful (suc f) lt =
      subst (λ z. Below (next_labels d owner (first_round d owner f)) (labels z).inside) (steps f lt)
      (next-is-below d shape.sound owner L labels lawful f (omega (arith, lt)) (first_round d owner f) (first-below labels lawful f (omega (arith, lt))))

  pub first-one : (p : List (List (List Bit))) → phase_in p ≡ first_in s → AreFirst s 1 (p ∷ [])
  first-one p e = record {
    long = refl;
    stand = λ f lt. (
        let zero_phase : 0 ≡ f = omega (arith, lt) in
        subst (λ z. Stand s (first_round d owner z) (phase_in (phase_at (p ∷ []) z))) zero_phase (subst (Stand s (first_labels d)) (sym e) (first-stands s shape)));
  }

  pub first-more : (f : ℕ) → 1 ≤ f → (phases : List (List (List (List Bit)))) → AreFirst s f phases → (p : List (List (List Bit))) → phase_in p ≡ next_in s (phase_in (phase_at phases (f - 1))) → AreFirst s (f + 1) (phases ++ p ∷ [])
  first-more f one phases a p e = record {
    long = length-append phases (p ∷ []) ∙ (let long = a.long in omega (arith, long));
    stand = λ g lt. at g lt (g == f) refl;
  }
    where
      next : Stand s (first_round d owner f) (phase_in p)
      next =
          let back : suc (f - 1) ≡ f = omega (arith, one) in
          subst (λ z. Stand s (first_round d owner z) (phase_in p)) back
          (subst (Stand s (next_labels d owner (first_round d owner (f - 1)))) (sym e)
          (next-stands s shape (first_round d owner (f - 1)) (phase_in (phase_at phases (f - 1))) (a.stand (f - 1) (omega (arith, one)))))

      at : (g : ℕ) → g < f + 1 → (b : Bool) → (g == f) ≡ b → Stand s (first_round d owner g) (phase_in (phase_at (phases ++ p ∷ []) g))
      at g lt true same =
          let here : g ≡ f = eqb-true g f same in
          let last : phase_at (phases ++ p ∷ []) f ≡ p = ap (λ z. phase_at (phases ++ p ∷ []) z) (sym a.long) ∙ back-at phases p [] in
          subst (λ z. Stand s (first_round d owner z) (phase_in (phase_at (phases ++ p ∷ []) z))) (sym here) (subst (λ x. Stand s (first_round d owner f) (phase_in x)) (sym last) next)
      at g lt false other =
          let less : g < f = grind (arith, lt, eqb-false g f other) in
          let long = a.long in
          subst (λ x. Stand s (first_round d owner g) (phase_in x)) (sym (front-at phases (p ∷ []) g [] (omega (arith, less, long)))) (a.stand g less)

  pub first-walk : (phases : List (List (List (List Bit)))) → AreFirst s L phases → IsWalk s phases (Some (L - 1))
  first-walk phases a = record {
    kept = first_round d owner;
    long = a.long;
    within = λ f e. (let last : L - 1 ≡ f = cc in let some_phase = some in omega (arith, last, some_phase));
    stand = a.stand;
    starts = kept-itself d shape.sound (first_labels d);
    edges = λ f lt free. edge f lt free (f == (L - 1)) refl;
    least = first-below;
  }
    where
      edge : (f : ℕ) → f < L → Some (L - 1) ≢ Some f → (b : Bool) → (f == (L - 1)) ≡ b → Below (next_labels d owner (first_round d owner f)) (first_round d owner ((f + 1) % L))
      edge f lt free true same = absurd (free (sym (ap Some (eqb-true f (L - 1) same))))
      edge f lt free false other =
          let less : suc f < L = grind (arith, lt, eqb-false f (L - 1) other) in
          subst (λ z. Below (next_labels d owner (first_round d owner f)) (first_round d owner z)) (sym (steps f less)) (kept-itself d shape.sound (next_labels d owner (first_round d owner f)))

  -- ---- a phase is handed over

  module _ (phases : List (List (List (List Bit)))) (f : ℕ) (w : IsWalk s phases (Some f)) (up : List (List (List Bit)))
      (is : phase_in up ≡ joined_in (phase_in (phase_at phases ((f + 1) % L))) (next_in s (phase_in (phase_at phases f)))) where
    lt : f < L
    lt = w.within f refl

    abbrev later : ℕ
    later = (f + 1) % L

    below : later < L
    below = mod-lt (f + 1) some

    abbrev A : Name → Labels
    A = w.kept later

    abbrev B : Name → Labels
    B = next_labels d owner (w.kept f)

    abbrev J : Name → Labels
    J n = join_all (A n) (B n)

    stand-next : Stand s B (next_in s (phase_in (phase_at phases f)))
    stand-next = next-stands s shape (w.kept f) (phase_in (phase_at phases f)) (w.stand f lt)

    other-waits : (g : ℕ) → g ≢ f → Some f ≢ Some g
    other-waits g apart e = apart (cc)

    -- where nothing rises
    pub still : up ≡ phase_at phases later → IsWalk s phases None
    still same = record {
      kept = w.kept;
      long = w.long;
      within = λ g e. absurd (let no : None ≡ Some g = e in cc);
      stand = w.stand;
      starts = w.starts;
      edges = λ g less free. edge g less (g == f) refl;
      least = w.least;
    }
      where
        edge : (g : ℕ) → g < L → (b : Bool) → (g == f) ≡ b → Below (next_labels d owner (w.kept g)) (w.kept ((g + 1) % L))
        edge g less true e =
            subst (λ z. Below (next_labels d owner (w.kept z)) (w.kept ((z + 1) % L))) (sym (eqb-true g f e))
            (still-kept s shape A B (phase_in (phase_at phases later)) (next_in s (phase_in (phase_at phases f))) (w.stand later below) stand-next (sym is ∙ ap phase_in same))
        edge g less false other = w.edges g less (other-waits g (eqb-false g f other))

    abbrev raised : ℕ → Name → Labels
    raised g = if g == later then J else w.kept g

    raised-here : raised later ≡ J
    raised-here = ap (λ b. if b then J else w.kept later) (same-number later)
      where
        same-number : (k : ℕ) → (k == k) ≡ true
        same-number k = grind arith

    raised-other : (g : ℕ) → (g == later) ≡ false → raised g ≡ w.kept g
    raised-other g e = ap (λ b. if b then J else w.kept g) e

    above : (g : ℕ) → Below (w.kept g) (raised g)
    above g = go (g == later) refl
      where
        go : (b : Bool) → (g == later) ≡ b → Below (w.kept g) (raised g)
        go true e =
            subst (Below (w.kept g)) (sym (ap (λ b. if b then J else w.kept g) e)) (subst (λ z. Below (w.kept z) J) (sym (eqb-true g later e)) (kept-left d shape.sound A B))
        go false e = subst (Below (w.kept g)) (sym (raised-other g e)) (kept-itself d shape.sound (w.kept g))

    -- where labels rise
    pub rises : IsWalk s (slice_set phases later up) (Some later)
    rises = record {
      kept = raised;
      long = length-set phases later up ∙ w.long;
      within = λ g e. (let same : later ≡ g = cc in let there = below in omega (arith, same, there));
      stand = λ g less. stand-at g less (g == later) refl;
      starts = kept-trans d shape.sound (first_labels d) (w.kept 0) (raised 0) w.starts (above 0);
      edges = λ g less free. edge g less free (g == later) refl (g == f) refl;
      least = λ labels lawful g less. low labels lawful g less (g == later) refl;
    }
      where
        stand-at : (g : ℕ) → g < L → (b : Bool) → (g == later) ≡ b → Stand s (raised g) (phase_in (phase_at (slice_set phases later up) g))
        stand-at g less true e =
            let size = w.long in
            let there = below in
            subst (λ v. Stand s v (phase_in (phase_at (slice_set phases later up) g))) (sym (ap (λ b. if b then J else w.kept g) e))
            (subst (Stand s J) (sym (ap (λ z. phase_in (phase_at (slice_set phases later up) z)) (eqb-true g later e) ∙ ap phase_in (get_or-set_same phases later up [] (omega (arith, size, there))) ∙ is))
            (joined-stand s shape A B (phase_in (phase_at phases later)) (next_in s (phase_in (phase_at phases f))) (w.stand later below) stand-next))
        stand-at g less false e =
            let apart : g ≢ later = eqb-false g later e in
            subst (λ v. Stand s v (phase_in (phase_at (slice_set phases later up) g))) (sym (raised-other g e))
            (subst (Stand s (w.kept g)) (sym (ap phase_in (get_or-set_other phases later g up [] apart))) (w.stand g less))

        edge : (g : ℕ) → g < L → Some later ≢ Some g → (b : Bool) → (g == later) ≡ b → (c : Bool) → (g == f) ≡ c → Below (next_labels d owner (raised g)) (raised ((g + 1) % L))
        edge g less free true e c k = absurd (free (sym (ap Some (eqb-true g later e))))
        edge g less free false e true k =
            let one : g ≡ f = eqb-true g f k in
            subst (λ v. Below (next_labels d owner v) (raised ((g + 1) % L))) (sym (raised-other g e))
            (subst (λ z. Below (next_labels d owner (w.kept z)) (raised ((z + 1) % L))) (sym one) (subst (Below B) (sym raised-here) (kept-right d shape.sound A B)))
        edge g less free false e false k =
            subst (λ v. Below (next_labels d owner v) (raised ((g + 1) % L))) (sym (raised-other g e))
            (kept-trans d shape.sound (next_labels d owner (w.kept g)) (w.kept ((g + 1) % L)) (raised ((g + 1) % L)) (w.edges g less (other-waits g (eqb-false g f k))) (above ((g + 1) % L)))

        low : (labels : ℕ → LabelNets) → IsLawful d owner L labels → (g : ℕ) → g < L → (b : Bool) → (g == later) ≡ b → Below (raised g) (labels g).inside
        low labels lawful g less true e =
            subst (λ v. Below v (labels g).inside) (sym (ap (λ b. if b then J else w.kept g) e))
            (subst (λ z. Below J (labels z).inside) (sym (eqb-true g later e))
            (kept-least d shape.sound A B (labels later).inside (w.least labels lawful later below) (next-is-below d shape.sound owner L labels lawful f lt (w.kept f) (w.least labels lawful f lt))))
        low labels lawful g less false e = subst (λ v. Below v (labels g).inside) (sym (raised-other g e)) (w.least labels lawful g less)

    -- less is left
    pub less-left : phase_left up < phase_left (phase_at phases later) → walk_left (slice_set phases later up) (Some later) < walk_left phases (Some f)
    less-left less =
        let size = w.long in
        let there = below in
        let sum = set-less phase_left phases later up [] (omega (arith, size, there)) less in
        omega (arith, sum)

  -- ---- no phase waits

  pub done-least : (phases : List (List (List (List Bit)))) (w : IsDone s phases) → IsLeast d owner L (λ f. phase_labels d owner (w.kept f))
  done-least phases w = record {
    lawful = kept-is-lawful d shape.sound owner L w.kept w.starts (λ f lt. w.edges f lt (λ e. (let no : None ≡ Some f = e in cc)));
    least = λ other lawful f lt. kept-trans d shape.sound (phase_labels d owner (w.kept f)).inside (w.kept f) (other f).inside (nets-below d shape.sound owner (w.kept f)) (w.least other lawful f lt);
  }
