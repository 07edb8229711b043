-- Ranks rise along a route, and along a chain of channels that wait.
use Rattle.std.proofs.Common.{◌≡◌, inl, inr, ℕ, zero, suc, ◌<◌, List, [], ◌∷◌, refl, sym, ap, ◌∙◌, subst, arith}
use Rattle.std.specs.Prelude.{Option, Some, None, option_and_then}
use Rattle.std.proofs.lemmas.Bool.{cases_lt}
use Rattle.noc_model.specs.Plan.{Plan}
use Rattle.noc_model.specs.Sound.{IsSound}
use Rattle.noc_model.specs.Place.{neighbour}
use Rattle.noc_model.specs.Walk.{Stop, stop_at, next_stop, out_of, out_rank}
use Rattle.dor_routes.specs.Chains.{Channel, channel_rank, taken_at, MayWait, Chain}

-- the rank rises from each link to the next
abbrev pub RankRises : Type 0
RankRises = (p : Plan) (dest n k m : ℕ) (a b : Stop) → IsSound p → stop_at p dest n k ≡ Some a → next_stop p dest a ≡ Some b
    → neighbour p b.tile (out_of p dest b) ≡ Some m → out_rank p dest a < out_rank p dest b

-- a stop after which there is another has a link
linked : (p : Plan) (dest : ℕ) (a b : Stop) → next_stop p dest a ≡ Some b
    → (m : ℕ) × (neighbour p a.tile (out_of p dest a) ≡ Some m)
linked p dest a b e = go (neighbour p a.tile (out_of p dest a)) refl
  where
    go : (x : Option ℕ) → neighbour p a.tile (out_of p dest a) ≡ x
        → (m : ℕ) × (neighbour p a.tile (out_of p dest a) ≡ Some m)
    go None is = absurd cc
    go (Some m) is = (m, is)

-- the stop before
before : (p : Plan) (dest n k : ℕ) (b : Stop) → stop_at p dest n (suc k) ≡ Some b
    → (a : Stop) × ((stop_at p dest n k ≡ Some a) × (next_stop p dest a ≡ Some b))
before p dest n k b e = go (stop_at p dest n k) refl
  where
    go : (x : Option Stop) → stop_at p dest n k ≡ x
        → (a : Stop) × ((stop_at p dest n k ≡ Some a) × (next_stop p dest a ≡ Some b))
    go None is = absurd cc
    go (Some a) is = (a, (is, sym (ap (option_and_then (next_stop p dest)) is) ∙ e))

pub along-rises : RankRises → (p : Plan) (dest n i k m : ℕ) (a b : Stop) → IsSound p → i < k
    → stop_at p dest n i ≡ Some a → stop_at p dest n k ≡ Some b
    → neighbour p b.tile (out_of p dest b) ≡ Some m → out_rank p dest a < out_rank p dest b
along-rises law p dest n i zero m a b sound less at_i at_k link = absurd (omega (arith, less))
along-rises law p dest n i (suc k) m a b sound less at_i at_k link =
    let last = before p dest n k b at_k in
    let c = last.0 in
    let step : out_rank p dest c < out_rank p dest b = law p dest n k m c b sound last.1.0 last.1.1 link in
    elim (cases_lt i k) [
      | inl earlier ↦
          (let way = linked p dest c b last.1.1 in
          let far = along-rises law p dest n i k way.0 a c sound earlier at_i last.1.0 way.1 in
          omega (arith, far, step))
      | inr late ↦
          (let same : i ≡ k = omega (arith, less, late) in
          let is : Some a ≡ Some c = sym at_i ∙ ap (stop_at p dest n) same ∙ last.1.0 in
          let one : a ≡ c = cc in
          subst (λ (s : Stop). out_rank p dest s < out_rank p dest b) (sym one) step)
    ]

waits-rises : RankRises → (p : Plan) (a b : Channel) → IsSound p → MayWait p a b → channel_rank p a < channel_rank p b
waits-rises law p a b sound w =
    let up = law p w.dest w.from w.steps w.beyond w.here w.there sound w.reached w.next w.link in
    subst (λ (x : Channel). channel_rank p x < channel_rank p b) (sym w.holds)
    (subst (λ (x : Channel). channel_rank p (taken_at p w.dest w.here) < channel_rank p x) (sym w.wants) up)

pub chain-rises : RankRises → (p : Plan) (a b : Channel) (between : List Channel) → IsSound p → Chain p a between b
    → channel_rank p a < channel_rank p b
chain-rises law p a b [] sound w = waits-rises law p a b sound w
chain-rises law p a b (c ∷ cs) sound w =
    let one = waits-rises law p a c sound w.0 in
    let more = chain-rises law p c b cs sound w.1 in
    omega (arith, one, more)
