-- The flits that are granted to input ports are those that outputs send.
use Rattle.std.proofs.Common.{◌≡◌, ◌≢◌, ℕ, ◌-◌, ◌/◌, ◌<◌, inl, inr, Bool, true, false, Option, List, length, refl, sym, ap, ◌∙◌, subst, arith, ◌==◌, ℤ}
use Rattle.std.specs.Prelude.{Some, None, is_some, if◌then◌else◌, option_and_then, option_to_list, sum_by, IsSome}
use Rattle.std.proofs.lemmas.Bool.Decides.{nat_tests}
use Rattle.noc_model.specs.declared.Flit.{Flit}
use Rattle.noc_model.specs.declared.LinkFlit.{LinkFlit}
use Rattle.noc_model.specs.declared.Grant.{Grant}
use Rattle.noc_model.specs.Plan.{Plan, ports, in_channels}
use Rattle.noc_model.specs.Place.{neighbour}
use Rattle.noc_model.specs.Tile.{Tile, TileIn}
use Rattle.noc_model.specs.Step.{asked, asks_for, chosen, granted_to, grant, is_channel, leaves, front, with_channel, sent}
use Rattle.noc_model.specs.SoundState.{IsOutput, HasOutput}
use Rattle.noc_model.specs.Flits.{flit_of}
use Rattle.noc_model.proofs.Least.{pick-member}
use Rattle.noc_model.proofs.Switch.{asks_for-out, chosen-inside, grant-ready, sent-by}
use Rattle.noc_model.proofs.Ports.{link-port, link-dim}
use Rattle.noc_model.proofs.Holders.{granted-chosen, granted-sent}
use Rattle.noc_model.proofs.Totals.{total, total-same, total-none, total-one, total-matched, at_some, counted, AreMatched}

-- ---- outputs that are there

pub link-below : (p : Plan) (n o : ℕ) → is_some (neighbour p n o) ≡ true → o < ports p
link-below p n o e =
    let some : IsSome (neighbour p n o) = e in
    let away : o ≢ 0 = link-port p n o some in
    let dim : (o - 1) / 2 < length p.dims = link-dim p n o some in
    omega arith

pub output-below : (p : Plan) (n o : ℕ) → IsOutput p n o → o < ports p
output-below p n o (inl e) = omega arith
output-below p n o (inr e) = link-below p n o e

granted-output : (p : Plan) (d n : ℕ) (t : ℤ) (s : Tile) (i : TileIn) (port : ℕ) (g : Grant)
    → ((port c : ℕ) → HasOutput p d n (s.stage port c)) → grant p d n t s i port ≡ Some g
    → IsOutput p n g.out
granted-output p d n t s i port g stages e =
    (subst (HasOutput p d n) (grant-ready p d n t s i port g e).active (stages port g.channel)).0

-- ---- picks are grants

picked-granted : (port : ℕ) (g : Grant) → granted_to (Some port) port g ≡ Some g
picked-granted port g = go (port == port) (let e : port ≡ port = refl in grind (arith, nat_tests))
  where
    go : (b : Bool) → b ≡ true → (if b then Some g else None) ≡ Some g
    go true e = refl
    go false e = absurd (cc e)

-- an output that picks a port is what is granted to it
pub chosen-granted : (p : Plan) (d n : ℕ) (t : ℤ) (s : Tile) (i : TileIn) (o port : ℕ)
    → chosen p d n t s i o ≡ Some port → (g : Grant) × (grant p d n t s i port ≡ Some g) × (g.out ≡ o)
unfolding chosen grant
chosen-granted p d n t s i o port e =
    let member = pick-member (ports p) (λ k. asks_for (asked p d n t s i k) o) (s.switch o) port e in
    let asks = asks_for-out (asked p d n t s i port) o member.1 in
    let picks : chosen p d n t s i asks.0.out ≡ Some port = ap (chosen p d n t s i) asks.2 ∙ e in
    (asks.0, ap (option_and_then (λ h. granted_to (chosen p d n t s i h.out) port h)) asks.1 ∙ ap (λ k. granted_to k port asks.0) picks ∙ picked-granted port asks.0, asks.2)

-- ---- what is granted, by ports and by outputs

-- what a list of flits weighs
abbrev pub weight : (Flit → ℕ) → List Flit → ℕ
weight v fs = sum_by v fs

-- what the granted flit of an input port weighs
abbrev pub granted_weight : (Flit → ℕ) → Tile → ℕ → Option Grant → ℕ
granted_weight v s port None = 0
granted_weight v s port (Some g) = weight v (option_to_list (front (s.queue port g.channel)))

out_of : Option Grant → Option ℕ
out_of None = None
out_of (Some g) = Some g.out

abbrev sent_weight : (Flit → ℕ) → Plan → ℕ → ℕ → ℤ → Tile → TileIn → ℕ → ℕ
sent_weight v p d n t s i o = weight v (flit_of (sent p d n t s i o))

with-weight : (v : Flit → ℕ) (w : ℕ) (f : Option Flit)
    → weight v (flit_of (with_channel w f)) ≡ weight v (option_to_list f)
with-weight v w None = refl
with-weight v w (Some f) = refl

by-port : (v : Flit → ℕ) (s : Tile) (port : ℕ) (g : Option Grant)
    → at_some (out_of g) (λ o. granted_weight v s port g) ≡ granted_weight v s port g
unfolding out_of
by-port v s port None = refl
by-port v s port (Some g) = refl

by-output : (v : Flit → ℕ) (p : Plan) (d n : ℕ) (t : ℤ) (s : Tile) (i : TileIn) (o : ℕ)
    → at_some (chosen p d n t s i o) (λ port. granted_weight v s port (grant p d n t s i port)) ≡ sent_weight v p d n t s i o
by-output v p d n t s i o = go (chosen p d n t s i o) refl
  where
    none : chosen p d n t s i o ≡ None → sent p d n t s i o ≡ None
    none e = nothing (sent p d n t s i o) refl
      where
        nothing : (x : Option LinkFlit) → sent p d n t s i o ≡ x → x ≡ None
        nothing None is = refl
        nothing (Some x) is =
            let by = sent-by p d n t s i o x is in
            let picks = ap (chosen p d n t s i) (sym by.out) ∙ granted-chosen p d n t s i by.port by.by by.granted in
            absurd (cc (picks, e))

    go : (k : Option ℕ) → chosen p d n t s i o ≡ k
        → at_some k (λ port. granted_weight v s port (grant p d n t s i port)) ≡ sent_weight v p d n t s i o
    go None e = sym (ap (λ x. weight v (flit_of x)) (none e))
    go (Some port) e =
        let by = chosen-granted p d n t s i o port e in
        let out : sent p d n t s i o ≡ with_channel by.0.to (front (s.queue port by.0.channel)) =
        ap (sent p d n t s i) (sym by.2) ∙ granted-sent p d n t s i port by.0 by.1 in
        ap (granted_weight v s port) by.1
        ∙ sym (ap (λ x. weight v (flit_of x)) out ∙ with-weight v by.0.to (front (s.queue port by.0.channel)))

out_of-is : (g : Option Grant) (o : ℕ) → out_of g ≡ Some o → (h : Grant) × (g ≡ Some h) × (h.out ≡ o)
unfolding out_of
out_of-is None o e = absurd (cc e)
out_of-is (Some g) o e = (g, refl, cc)

out_of-some : (g : Option Grant) (h : Grant) (o : ℕ) → g ≡ Some h → h.out ≡ o → out_of g ≡ Some o
unfolding out_of
out_of-some None h o e f = absurd (cc e)
out_of-some (Some g) h o e f = let same : g ≡ h = cc in ap Some (ap (λ (x : Grant). x.out) same ∙ f)

matched : (p : Plan) (d n : ℕ) (t : ℤ) (s : Tile) (i : TileIn) → ((port c : ℕ) → HasOutput p d n (s.stage port c))
    → AreMatched (ports p) (ports p) (λ port. out_of (grant p d n t s i port)) (chosen p d n t s i)
matched p d n t s i stages = record {
  there = λ port o less e. (let by = out_of-is (grant p d n t s i port) o e in (
    subst (λ k. k < ports p) by.2 (output-below p n by.0.out (granted-output p d n t s i port by.0 stages by.1)),
    ap (chosen p d n t s i) (sym by.2) ∙ granted-chosen p d n t s i port by.0 by.1,
  ));
  here = λ port o less e. (let by = chosen-granted p d n t s i o port e in
      (chosen-inside p d n t s i o port e, out_of-some (grant p d n t s i port) by.0 o by.1 by.2));
}

-- what the granted flits weigh is what the sent ones do
pub switched : (v : Flit → ℕ) (p : Plan) (d n : ℕ) (t : ℤ) (s : Tile) (i : TileIn)
    → ((port c : ℕ) → HasOutput p d n (s.stage port c))
    → total (ports p) (λ port. granted_weight v s port (grant p d n t s i port)) ≡ total (ports p) (λ o. weight v (flit_of (sent p d n t s i o)))
switched v p d n t s i stages =
    total-same (ports p) (λ port. granted_weight v s port (grant p d n t s i port)) (λ port. at_some (out_of (grant p d n t s i port)) (λ o. granted_weight v s port (grant p d n t s i port)))
    (λ port less. sym (by-port v s port (grant p d n t s i port)))
    ∙ total-matched (ports p) (ports p) (λ port. out_of (grant p d n t s i port)) (chosen p d n t s i) (λ port o. granted_weight v s port (grant p d n t s i port)) (matched p d n t s i stages)
    ∙ total-same (ports p) (λ o. at_some (chosen p d n t s i o) (λ port. granted_weight v s port (grant p d n t s i port))) (λ o. weight v (flit_of (sent p d n t s i o)))
    (λ o less. by-output v p d n t s i o)

-- a grant takes the front of one channel
pub left-weight : (v : Flit → ℕ) (p : Plan) (d n : ℕ) (t : ℤ) (s : Tile) (i : TileIn) (port : ℕ)
    → total (in_channels p d port) (λ c. counted (leaves p d n t s i port c) (weight v (option_to_list (front (s.queue port c))))) ≡ granted_weight v s port (grant p d n t s i port)
unfolding leaves
left-weight v p d n t s i port = go (grant p d n t s i port) refl
  where
    same : (g : Grant) → is_channel (Some g) g.channel ≡ true
    same g = let e : g.channel ≡ g.channel = refl in grind (arith, nat_tests)

    other : (g : Grant) (c : ℕ) → c ≢ g.channel → is_channel (Some g) c ≡ false
    other g c differ = grind (arith, nat_tests)

    go : (x : Option Grant) → grant p d n t s i port ≡ x
        → total (in_channels p d port) (λ c. counted (is_channel x c) (weight v (option_to_list (front (s.queue port c))))) ≡ granted_weight v s port x
    go None e = total-none (in_channels p d port) (λ c. 0) (λ c less. refl)
    go (Some g) e =
        let ready = grant-ready p d n t s i port g e in
        total-one (in_channels p d port) g.channel (λ c. counted (is_channel (Some g) c) (weight v (option_to_list (front (s.queue port c))))) ready.in_range
        (λ c less differ. ap (λ b. counted b (weight v (option_to_list (front (s.queue port c))))) (other g c differ))
        ∙ ap (λ b. counted b (weight v (option_to_list (front (s.queue port g.channel))))) (same g)
