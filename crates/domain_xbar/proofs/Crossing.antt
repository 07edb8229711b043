-- What goes through the crossbar, one input port after the other.
use Rattle.std.proofs.Common.{◌≡◌, ◌≢◌, ◌⊎◌, inl, inr, ℕ, zero, suc, ◌+◌, ◌<◌, ◌≤◌, List, [], ◌∷◌, length, set, Option, Some, None, refl, sym, ap, ◌∙◌, subst, arith, ⊎_elim, length-set, get_or-set_same}
use Rattle.std.specs.Prelude.{slice_get, slice_set}
use Rattle.std.proofs.lemmas.Bool.{cases_eq, cases_lt}
use Rattle.std.proofs.lemmas.Option.{slice_get-get_or}
use Rattle.noc_model.specs.declared.Flit.{Flit}
use Rattle.noc_model.specs.declared.LinkFlit.{LinkFlit}
use Rattle.noc_model.specs.declared.Grant.{Grant}
use Rattle.noc_model.specs.Plan.{Plan, ports, at_local}
use Rattle.noc_model.specs.Step.{with_channel}
use Rattle.vc_partition.specs.Lanes.{lane}
use Rattle.domain_xbar.specs.Crossed.{AreSingle, IsInput, IsGranted, flit_of, linked, ejected, HaveCrossed, IsBefore}

-- ---- one entry is written

get-same : {T : Type 0} (xs : List T) (k : ℕ) (x : T) → k < length xs → slice_get (set xs k x) k ≡ Some x
get-same xs k x there =
    slice_get-get_or (set xs k x) k x (let e = length-set xs k x in omega (arith, e, there))
    ∙ ap Some (get_or-set_same xs k x x there)

get-other : {T : Type 0} (xs : List T) (k j : ℕ) (x y : T) → j ≢ k → slice_get xs j ≡ Some y
    → slice_get (set xs k x) j ≡ Some y
get-other [] k j x y apart at = absurd (cc at)
get-other (z ∷ zs) zero zero x y apart at = absurd (apart refl)
get-other (z ∷ zs) zero (suc j) x y apart at = at
get-other (z ∷ zs) (suc k) zero x y apart at = at
get-other (z ∷ zs) (suc k) (suc j) x y apart at = get-other zs k j x y (λ e. apart (ap suc e)) at

at-local : {A : Type 0} (o : ℕ) (x y : A) → o ≡ 0 → at_local o x y ≡ x
at-local zero x y e = refl
at-local (suc o) x y e = absurd (omega (arith, e))

at-link : {A : Type 0} (o : ℕ) (x y : A) → o ≢ 0 → at_local o x y ≡ y
at-link zero x y apart = absurd (apart refl)
at-link (suc o) x y apart = refl

-- ---- one input port more

-- the ports below q + 1 are those below q, and q
before-or : (p : Plan) (m q d port : ℕ) → IsBefore p m (q + 1) d port → IsBefore p m q d port ⊎ ((d ≡ m) × (port ≡ q))
before-or p m q d port (inside, inl less) = inl (inside, inl less)
before-or p m q d port (inside, inr at) = ⊎_elim
    (λ (less : port < q). inl (inside, inr (at.0, less)))
    (λ (past : q ≤ port). inr (at.0, let l = at.1 in omega (arith, past, l)))
    (cases_lt port q)

before-more : (p : Plan) (m q d port : ℕ) → IsBefore p m q d port → IsBefore p m (q + 1) d port
before-more p m q d port (inside, inl less) = (inside, inl less)
before-more p m q d port (inside, inr at) = (inside, inr (at.0, let l = at.1 in omega (arith, l)))

not-before : (p : Plan) (m q d port : ℕ) → IsBefore p m q d port → d ≡ m → port ≡ q → ⊥
not-before p m q d port (inside, inl less) e f = omega (arith, less, e)
not-before p m q d port (inside, inr at) e f = let l = at.1 in omega (arith, l, f)

here-before : (p : Plan) (m q : ℕ) → IsInput p m q → IsBefore p m (q + 1) m q
here-before p m q inside = (inside, inr (refl, omega arith))

module _ (p : Plan) (grants : List (List (Option Grant))) (fronts : List (List (Option Flit))) (links : List (Option LinkFlit)) (eject : List (Option Flit))
    (m q : ℕ) (here : IsInput p m q) (single : AreSingle p grants) (many_links : length links ≡ ports p) (many_eject : length eject ≡ length p.domains)
    (have : HaveCrossed (IsBefore p m q) p grants fronts links eject) where
  -- an input port with no grant
  pub crossed-none : slice_get (lane grants m) q ≡ Some None
      → HaveCrossed (IsBefore p m (q + 1)) p grants fronts links eject
  crossed-none none = record {
    link = λ d port g moved is apart. have.link d port g (old d port g moved is) is apart;
    no_link = λ o there not. have.no_link o there (λ d port g moved is apart. not d port g (before-more p m q d port moved) is apart);
    local = λ d port g moved is e. have.local d port g (old d port g moved is) is e;
    no_local = λ d there not. have.no_local d there (λ port g moved is. not port g (before-more p m q d port moved) is);
  }
    where
      old : (d port : ℕ) (g : Grant) → IsBefore p m (q + 1) d port → IsGranted grants d port g → IsBefore p m q d port
      old d port g moved is = ⊎_elim
          (λ (b : IsBefore p m q d port). b)
          (λ (at : (d ≡ m) × (port ≡ q)).
          absurd (let bad : Some None ≡ Some (Some g) = sym none ∙ ap (λ k. slice_get (lane grants m) k) (sym at.1) ∙ ap (λ k. slice_get (lane grants k) port) (sym at.0) ∙ is in cc bad))
          (before-or p m q d port moved)

  module _ (g : Grant) (is : IsGranted grants m q g) (within : g.out < ports p) where
    abbrev flit : Option Flit
    flit = flit_of p fronts m q g

    -- what this port was granted
    same-grant : (d port : ℕ) (h : Grant) → d ≡ m → port ≡ q → IsGranted grants d port h → h ≡ g
    same-grant d port h e f at =
        let both : Some (Some h) ≡ Some (Some g) = sym at ∙ ap (λ k. slice_get (lane grants d) k) f ∙ ap (λ k. slice_get (lane grants k) q) e ∙ is in cc both

    to-link : g.out ≢ 0
        → HaveCrossed (IsBefore p m (q + 1)) p grants fronts (slice_set links g.out (with_channel g.to flit)) eject
    to-link apart = record {
      link = λ d port h moved at away. ⊎_elim
          (λ (b : IsBefore p m q d port).
          get-other links g.out h.out _ _
          (λ e. let both = single.link d m port q h g b.0 here at is away e in not-before p m q d port b both.0 both.1)
          (have.link d port h b at away))
          (λ (e : (d ≡ m) × (port ≡ q)).
          let same = same-grant d port h e.0 e.1 at in
          let P : Grant → Type 0 =
          λ k. slice_get (slice_set links g.out (with_channel g.to flit)) k.out ≡ Some (with_channel k.to (flit_of p fronts d port k)) in
          let Q : ℕ → Type 0 =
          λ k. slice_get (slice_set links g.out (with_channel g.to flit)) g.out ≡ Some (with_channel g.to (flit_of p fronts k port g)) in
          let R : ℕ → Type 0 =
          λ k. slice_get (slice_set links g.out (with_channel g.to flit)) g.out ≡ Some (with_channel g.to (flit_of p fronts m k g)) in
          subst P (sym same) (subst Q (sym e.0) (subst R (sym e.1) (get-same links g.out (with_channel g.to flit) (omega (arith, many_links, within))))))
          (before-or p m q d port moved);
      no_link = λ o there not.
          get-other links g.out o _ _ (λ e. not m q g (here-before p m q here) is apart (sym e))
          (have.no_link o there (λ d port h moved at away. not d port h (before-more p m q d port moved) at away));
      local = λ d port h moved at e. ⊎_elim
          (λ (b : IsBefore p m q d port). have.local d port h b at e)
          (λ (f : (d ≡ m) × (port ≡ q)). absurd (apart (ap (λ (k : Grant). k.out) (sym (same-grant d port h f.0 f.1 at)) ∙ e)))
          (before-or p m q d port moved);
      no_local = λ d there not. have.no_local d there (λ port h moved at. not port h (before-more p m q d port moved) at);
    }

    to-eject : g.out ≡ 0 → HaveCrossed (IsBefore p m (q + 1)) p grants fronts links (slice_set eject m flit)
    to-eject local = record {
      link = λ d port h moved at away. ⊎_elim
          (λ (b : IsBefore p m q d port). have.link d port h b at away)
          (λ (f : (d ≡ m) × (port ≡ q)). absurd (away (ap (λ (k : Grant). k.out) (same-grant d port h f.0 f.1 at) ∙ local)))
          (before-or p m q d port moved);
      no_link = λ o there not. have.no_link o there (λ d port h moved at away. not d port h (before-more p m q d port moved) at away);
      local = λ d port h moved at e. ⊎_elim
          (λ (b : IsBefore p m q d port).
          get-other eject m d _ _
          (λ (same : d ≡ m).
          let inside : IsInput p m port = let P : ℕ → Type 0 = λ k. IsInput p k port in subst P same b.0 in
          let at_m : IsGranted grants m port h = let P : ℕ → Type 0 = λ k. IsGranted grants k port h in subst P same at in
          not-before p m q d port b same (single.local m port q h g inside here at_m is e local))
          (have.local d port h b at e))
          (λ (f : (d ≡ m) × (port ≡ q)).
          let same = same-grant d port h f.0 f.1 at in
          let P : Grant → Type 0 = λ k. slice_get (slice_set eject m flit) d ≡ Some (flit_of p fronts d port k) in
          let Q : ℕ → Type 0 = λ k. slice_get (slice_set eject m flit) k ≡ Some (flit_of p fronts k port g) in
          let R : ℕ → Type 0 = λ k. slice_get (slice_set eject m flit) m ≡ Some (flit_of p fronts m k g) in
          subst P (sym same) (subst Q (sym f.0) (subst R (sym f.1) (get-same eject m flit (let a = here.0 in omega (arith, many_eject, a))))))
          (before-or p m q d port moved);
      no_local = λ d there not.
          get-other eject m d _ _
          (λ (e : d ≡ m).
          let moved : IsBefore p m (q + 1) d q = let P : ℕ → Type 0 = λ k. IsBefore p m (q + 1) k q in subst P (sym e) (here-before p m q here) in
          let at : IsGranted grants d q g = let P : ℕ → Type 0 = λ k. IsGranted grants k q g in subst P (sym e) is in
          not q g moved at local)
          (have.no_local d there (λ port h moved at. not port h (before-more p m q d port moved) at));
    }

    pub crossed-some : (f : Option Flit) → f ≡ flit → (vs : List (Option LinkFlit)) (ws : List (Option Flit))
        → vs ≡ linked g f links → ws ≡ ejected m g f eject
        → HaveCrossed (IsBefore p m (q + 1)) p grants fronts vs ws
    crossed-some f is_flit vs ws ev ew =
        let P : List (Option LinkFlit) → List (Option Flit) → Type 0 =
        λ a b. HaveCrossed (IsBefore p m (q + 1)) p grants fronts a b in
        let lv : vs ≡ linked g flit links = ev ∙ ap (λ k. linked g k links) is_flit in
        let lw : ws ≡ ejected m g flit eject = ew ∙ ap (λ k. ejected m g k eject) is_flit in
        ⊎_elim
        (λ (e : g.out ≡ 0).
        subst (λ a. P a ws) (sym (lv ∙ at-local g.out links (slice_set links g.out (with_channel g.to flit)) e))
        (subst (λ b. P links b) (sym (lw ∙ at-local g.out (slice_set eject m flit) eject e)) (to-eject e)))
        (λ (apart : g.out ≢ 0).
        subst (λ a. P a ws) (sym (lv ∙ at-link g.out links (slice_set links g.out (with_channel g.to flit)) apart))
        (subst (λ b. P (slice_set links g.out (with_channel g.to flit)) b) (sym (lw ∙ at-link g.out (slice_set eject m flit) eject apart)) (to-link apart)))
        (cases_eq g.out 0)

-- ---- from domain to domain

pub crossed-as : (V W : ℕ → ℕ → Type 0) (p : Plan) (grants : List (List (Option Grant)))
    (fronts : List (List (Option Flit))) (links : List (Option LinkFlit)) (eject : List (Option Flit))
    → ((d port : ℕ) → V d port → W d port) → ((d port : ℕ) → W d port → V d port)
    → HaveCrossed V p grants fronts links eject → HaveCrossed W p grants fronts links eject
crossed-as V W p grants fronts links eject to from have = record {
  link = λ d port g moved is apart. have.link d port g (from d port moved) is apart;
  no_link = λ o there not. have.no_link o there (λ d port g moved is apart. not d port g (to d port moved) is apart);
  local = λ d port g moved is e. have.local d port g (from d port moved) is e;
  no_local = λ d there not. have.no_local d there (λ port g moved is. not port g (to d port moved) is);
}

pub crossed-start : (p : Plan) (grants : List (List (Option Grant))) (fronts : List (List (Option Flit)))
    (links : List (Option LinkFlit)) (eject : List (Option Flit))
    → ((k : ℕ) → k < ports p → slice_get links k ≡ Some None)
    → ((k : ℕ) → k < length p.domains → slice_get eject k ≡ Some None)
    → HaveCrossed (IsBefore p 0 0) p grants fronts links eject
crossed-start p grants fronts links eject no_links no_eject = record {
  link = λ d port g moved is apart. absurd (none d port moved);
  no_link = λ o there not. no_links o there;
  local = λ d port g moved is e. absurd (none d port moved);
  no_local = λ d there not. no_eject d there;
}
  where
    none : (d port : ℕ) → IsBefore p 0 0 d port → ⊥
    none d port (inside, inl less) = omega (arith, less)
    none d port (inside, inr at) = let l = at.1 in omega (arith, l)

pub crossed-domain : (p : Plan) (grants : List (List (Option Grant))) (fronts : List (List (Option Flit)))
    (links : List (Option LinkFlit)) (eject : List (Option Flit)) (m : ℕ)
    → HaveCrossed (IsBefore p m (ports p)) p grants fronts links eject
    → HaveCrossed (IsBefore p (m + 1) 0) p grants fronts links eject
crossed-domain p grants fronts links eject m have = crossed-as (IsBefore p m (ports p)) (IsBefore p (m + 1) 0) p grants fronts links eject to from have
  where
    to : (d port : ℕ) → IsBefore p m (ports p) d port → IsBefore p (m + 1) 0 d port
    to d port (inside, inl less) = (inside, inl (let l : d < m + 1 = omega (arith, less) in l))
    to d port (inside, inr at) = (inside, inl (let l : d < m + 1 = let e = at.0 in omega (arith, e) in l))

    from : (d port : ℕ) → IsBefore p (m + 1) 0 d port → IsBefore p m (ports p) d port
    from d port (inside, inl less) = ⊎_elim
        (λ (before : d < m). (inside, inl before))
        (λ (past : m ≤ d). (inside, inr (let e : d ≡ m = omega (arith, past, less) in e, inside.1)))
        (cases_lt d m)
    from d port (inside, inr at) = absurd (let l = at.1 in omega (arith, l))

pub crossed-end : (p : Plan) (grants : List (List (Option Grant))) (fronts : List (List (Option Flit)))
    (links : List (Option LinkFlit)) (eject : List (Option Flit)) (m : ℕ)
    → length p.domains ≤ m
    → HaveCrossed (IsBefore p m 0) p grants fronts links eject → HaveCrossed (IsInput p) p grants fronts links eject
crossed-end p grants fronts links eject m all have = crossed-as (IsBefore p m 0) (IsInput p) p grants fronts links eject
    (λ d port b. b.0) (λ d port inside. (inside, inl (let a = inside.0 in let l : d < m = omega (arith, all, a) in l))) have

-- no entry is added
pub linked-long : (g : Grant) (f : Option Flit) (links : List (Option LinkFlit))
    → length (linked g f links) ≡ length links
linked-long g f links = go g.out
  where
    go : (o : ℕ) → length (at_local o links (slice_set links o (with_channel g.to f))) ≡ length links
    go zero = refl
    go (suc o) = length-set links (suc o) (with_channel g.to f)

pub ejected-long : (d : ℕ) (g : Grant) (f : Option Flit) (eject : List (Option Flit))
    → length (ejected d g f eject) ≡ length eject
ejected-long d g f eject = go g.out
  where
    go : (o : ℕ) → length (at_local o (slice_set eject d f) eject) ≡ length eject
    go zero = length-set eject d f
    go (suc o) = refl
