-- What the definition's grants come to at the outputs, and what is then sent.
use Rattle.std.proofs.Common.{◌≡◌, ◌≢◌, ℕ, zero, suc, ◌<◌, true, List, length, Option, Some, None, refl, sym, ap, ◌∙◌, arith, ℤ}
use Rattle.std.specs.Prelude.{slice_get}
use Rattle.std.proofs.lemmas.Bool.Decides.{nat_tests}
use Rattle.std.proofs.lemmas.Option.{get_or_from_slice_get}
use Rattle.noc_model.specs.declared.Flit.{Flit}
use Rattle.noc_model.specs.declared.LinkFlit.{LinkFlit}
use Rattle.noc_model.specs.declared.Grant.{Grant}
use Rattle.noc_model.specs.Plan.{Plan, ports}
use Rattle.noc_model.specs.Place.{owner}
use Rattle.noc_model.specs.Inputs.{place}
use Rattle.noc_model.specs.Tile.{Tile, TileIn}
use Rattle.noc_model.specs.Step.{takes, front, chosen, grant, sent, with_channel}
use Rattle.noc_model.proofs.Switch.{grant-ready, sent-by}
use Rattle.noc_model.proofs.Holders.{granted-chosen, granted-sent}
use Rattle.vc_partition.specs.Lanes.{lane}
use Rattle.domain_xbar.specs.Crossed.{IsInput, IsGranted, flit_of, flit_alone, HaveCrossed, IsShown, HaveSent}

-- a link takes a flit of its owner alone
takes-owner : (p : Plan) (d n : ℕ) (t : ℤ) (s : Tile) (i : TileIn) (o w : ℕ) → o ≢ 0 → takes p d n t s i o w ≡ true
    → owner p n o t ≡ d
unfolding takes
takes-owner p d n t s i zero w link e = absurd (link refl)
takes-owner p d n t s i (suc o) w link e = grind (arith, nat_tests)

grant-owner : (p : Plan) (d n : ℕ) (t : ℤ) (s : Tile) (i : TileIn) (port o : ℕ) (g : Grant)
    → grant p d n t s i port ≡ Some g → g.out ≡ o → o ≢ 0 → owner p n o t ≡ d
grant-owner p d n t s i port o g is out link =
    takes-owner p d n t s i o g.to link (ap (λ k. takes p d n t s i k g.to) (sym out) ∙ (grant-ready p d n t s i port g is).taken)

pub one-domain : (p : Plan) (d e n port q o : ℕ) (t : ℤ) (s r : Tile) (i j : TileIn) (g h : Grant)
    → grant p d n t s i port ≡ Some g → grant p e n t r j q ≡ Some h
    → g.out ≡ o → h.out ≡ o → o ≢ 0 → d ≡ e
one-domain p d e n port q o t s r i j g h is at out here link =
    sym (grant-owner p d n t s i port o g is out link) ∙ grant-owner p e n t r j q o h at here link

pub one-port : (p : Plan) (d n port q o : ℕ) (t : ℤ) (s : Tile) (i : TileIn) (g h : Grant)
    → grant p d n t s i port ≡ Some g → grant p d n t s i q ≡ Some h
    → g.out ≡ o → h.out ≡ o → port ≡ q
one-port p d n port q o t s i g h is at out here =
    let both : Some port ≡ Some q =
    sym (granted-chosen p d n t s i port g is) ∙ ap (chosen p d n t s i) (out ∙ sym here) ∙ granted-chosen p d n t s i q h at in cc both

module _ (p : Plan) (n : ℕ) (t : ℤ) (s : ℕ → Tile) (i : ℕ → TileIn) (grants : List (List (Option Grant))) (fronts : List (List (Option Flit)))
    (links : List (Option LinkFlit)) (eject : List (Option Flit)) (shown : IsShown p n t s i grants fronts) (have : HaveCrossed (IsInput p) p grants fronts links eject) where
  -- a grant of the lists is one of the definition
  granted : (d port : ℕ) (g : Grant) → IsInput p d port → IsGranted grants d port g
      → grant p d n t (s d) (i d) port ≡ Some g
  granted d port g inside is = let both : Some (grant p d n t (s d) (i d) port) ≡ Some (Some g) = sym (shown.granted d port inside) ∙ is in cc both

  flit-is : (d port : ℕ) (g : Grant) → IsInput p d port → grant p d n t (s d) (i d) port ≡ Some g
      → flit_of p fronts d port g ≡ front ((s d).queue port g.channel)
  flit-is d port g inside is =
      get_or_from_slice_get (lane fronts d) (place p d port g.channel) (front ((s d).queue port g.channel)) None
      (shown.flit d port g.channel inside (grant-ready p d n t (s d) (i d) port g is).in_range)

  alone : (w : ℕ) (f : Option Flit) → flit_alone (with_channel w f) ≡ f
  alone w None = refl
  alone w (Some f) = refl

  link-of : (d o : ℕ) → d < length p.domains → o < ports p → o ≢ 0 → owner p n o t ≡ d → (x : Option LinkFlit)
      → sent p d n t (s d) (i d) o ≡ x → slice_get links o ≡ Some x
  link-of d o there inside link owns None is = have.no_link o inside
      (λ e port g moved at away here.
      let by = granted e port g moved at in
      let same : e ≡ d = sym (grant-owner p e n t (s e) (i e) port o g by here link) ∙ owns in
      let ready = grant-ready p e n t (s e) (i e) port g by in
      let some : sent p e n t (s e) (i e) o ≡ with_channel g.to (Some ready.flit) =
      ap (sent p e n t (s e) (i e)) (sym here) ∙ granted-sent p e n t (s e) (i e) port g by
      ∙ ap (with_channel g.to) ready.is_front in
      let none : sent p e n t (s e) (i e) o ≡ None = ap (λ k. sent p k n t (s k) (i k) o) same ∙ is in
      let bad = sym none ∙ some in absurd (cc bad))
  link-of d o there inside link owns (Some x) is =
      let by = sent-by p d n t (s d) (i d) o x is in
      let input : IsInput p d by.port = (there, by.inside) in
      let at : IsGranted grants d by.port by.by = shown.granted d by.port input ∙ ap Some by.granted in
      ap (slice_get links) (sym by.out)
      ∙ have.link d by.port by.by input at (λ e. link (sym by.out ∙ e))
      ∙ ap (λ f. Some (with_channel by.by.to f)) (flit-is d by.port by.by input by.granted)
      ∙ ap Some (sym (granted-sent p d n t (s d) (i d) by.port by.by by.granted) ∙ ap (sent p d n t (s d) (i d)) by.out ∙ is)

  local-of : (d : ℕ) → d < length p.domains → (x : Option LinkFlit) → sent p d n t (s d) (i d) 0 ≡ x
      → slice_get eject d ≡ Some (flit_alone x)
  local-of d there None is = have.no_local d there
      (λ port g moved at here.
      let by = granted d port g moved at in
      let ready = grant-ready p d n t (s d) (i d) port g by in
      let some : sent p d n t (s d) (i d) 0 ≡ with_channel g.to (Some ready.flit) =
      ap (sent p d n t (s d) (i d)) (sym here) ∙ granted-sent p d n t (s d) (i d) port g by
      ∙ ap (with_channel g.to) ready.is_front in
      let bad = sym is ∙ some in absurd (cc bad))
  local-of d there (Some x) is =
      let by = sent-by p d n t (s d) (i d) 0 x is in
      let input : IsInput p d by.port = (there, by.inside) in
      let at : IsGranted grants d by.port by.by = shown.granted d by.port input ∙ ap Some by.granted in
      have.local d by.port by.by input at by.out
      ∙ ap Some (flit-is d by.port by.by input by.granted ∙ sym (alone by.by.to (front ((s d).queue by.port by.by.channel))))
      ∙ ap (λ y. Some (flit_alone y)) (sym (granted-sent p d n t (s d) (i d) by.port by.by by.granted) ∙ ap (sent p d n t (s d) (i d)) by.out ∙ is)

  pub have-sent : HaveSent p n t s i links eject
  have-sent = record {
    link = λ d o there inside link owns. link-of d o there inside link owns (sent p d n t (s d) (i d) o) refl;
    local = λ d there. local-of d there (sent p d n t (s d) (i d) 0) refl;
  }
