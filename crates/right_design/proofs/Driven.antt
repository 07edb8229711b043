-- The run that a driver makes of a right design has the simulation's events.
use Rattle.std.proofs.Common.{◌≡◌, ℕ, zero, suc, ◌+◌, ◌<◌, ◌^◌, Bool, true, false, List, [], ◌∷◌, ◌++◌, Option, refl, sym, ap, ◌∙◌, subst, arith, ◌==◌, ◌&&◌}
use Rattle.std.specs.Prelude.{Some, None, is_some, slice_get, flat_map, if◌then◌else◌, pos, codes}
use Rattle.std.proofs.lemmas.Bool.Decides.{nat_tests}
use Rattle.std.proofs.lemmas.Nat.{pow_pos}
use Rattle.vl_tree.specs.declared.tree.Join.{Join}
use Rattle.vl_tree.specs.Values.{Name, Leaf, Design}
use Rattle.vl_model.specs.Meaning.{one_if}
use Rattle.vl_model.specs.Leaf.{leaf_widths}
use Rattle.vl_model.specs.Lines.{leaf_lines, top_lines, is_input, is_memory}
use Rattle.vl_model.specs.Rules.{is_kind, IsSound as IsSoundDesign}
use Rattle.vl_model.specs.Whole.{Nets, IsRun, Fit, top_widths}
use Rattle.vl_model.specs.Settle.{settled, with_inputs, inside_stepped, run}
use Rattle.vl_model.proofs.One.{known}
use Rattle.vl_model.proofs.Running.{one-run}
use Rattle.vl_model.proofs.Tops.{each-map}
use Rattle.noc_model.specs.declared.Event.{Event}
use Rattle.noc_model.specs.declared.Host.{Host}
use Rattle.noc_model.specs.declared.Offer.{Offer}
use Rattle.noc_model.specs.declared.Ejected.{Ejected}
use Rattle.noc_model.specs.Plan.{Plan, hosts, tiles, attach_of}
use Rattle.noc_model.specs.Sound.{IsSound}
use Rattle.noc_model.specs.Step.{is_open}
use Rattle.noc_model.specs.Run.{State, Input, start, step, state_after}
use Rattle.noc_model.specs.Events.{offer_events, drop_events, got_events, ejected_of, tile_events, tabulate, cycle_events}
use Rattle.noc_model.specs.Driver.{Driver, offer_at as offer_of, hears_at, driven, after_taken, after_got, next_state, next_states, driven_events, driver_states}
use Rattle.noc_model.proofs.HostTiles.{HasAttachment, attached}
use Rattle.noc_model.proofs.OwnAttachments.{IsOwn, AreSame, flat_map-same, step-same}
use Rattle.gen_kit.specs.Ports.{host_name, host_ports, top_ports}
use Rattle.gen_kit.specs.Replayed.{at, is_on, offer_at, ejected_at, host_of, input_of, host_events, text_events, driven_inputs, moved, Going, nets_in, going_next, at_start, replayed, states_after, address_of, payload_of, last_of}
use Rattle.gen_kit.specs.Right.{Shows, IsRightDesign}
use Rattle.vl_run.specs.Top.{inputs_of}
use Rattle.vl_run.specs.Stands.{AreInputs}
use Rattle.vl_run.proofs.Inputs.{Distinct, input-among, inputs-fit}
use Rattle.vl_run.proofs.Whole.{ports-first}
use Rattle.surf_replay.specs.Feed.{all_numbers}
use Rattle.surf_replay.proofs.Cycles.{bit, read-offer}
use Rattle.surf_replay.proofs.Fed.{Owns, same-inputs, given-ov, given-oa, given-op, given-ol, given-hr}
use Rattle.surf_replay.proofs.Feeding.{all-fit}
use Rattle.right_design.specs.Alike.{OffersFit}
use Rattle.right_design.specs.Driven.{going_at, driven_nets, inputs_at}
use Rattle.right_design.specs.Laws.{DrivenIsRun, ReplayIsSimulation, ReplayStands}
use Rattle.right_design.proofs.Shown.{shown-at, ready-on, dropped-on, ejected-on, owns-ov, owns-oa, owns-op, owns-ol, owns-hr, owned-kind}

-- ---- the driven run is a run

module _ (p : Plan) (d : Design) (sound : IsSoundDesign d) (ports : d.top.ports ≡ top_ports p) (v : Driver) (fit : OffersFit v) (states : ℕ → List ℕ) where
  abbrev none : Name → Name → ℕ → ℕ
  none i m k = 0

  run-is : (t : ℕ) → run d none (inputs_at p d v states) t ≡ driven_nets p d v states t
  unfolding run
  run-is zero = refl
  run-is (suc t) = ap (λ (s : Nets). settled d (with_inputs d (inputs_at p d v states (suc t)) (inside_stepped d.leaves d.top.items s.inside))) (run-is t)

  input-fits : (t : ℕ) (n : Name) → is_kind is_input (top_lines d.top) n ≡ true → inputs_at p d v states t n < 2 ^ (top_widths d).net n
  input-fits t n kind =
      subst (λ (f : Name → ℕ). f n < 2 ^ (top_widths d).net n) by-name
      (inputs-fit (top_lines d.top) d.top.ports (ports-first d sound).0 numbers are-inputs n (input-among d.top.ports d.top.items n kind))
    where
      numbers : List ℕ
      numbers = all_numbers v t (going_at p d v states t).states 0 p.hosts

      are-inputs : AreInputs d.top.ports numbers
      are-inputs = subst (λ ps. AreInputs ps numbers) (sym ports) (all-fit v t (going_at p d v states t).states p.hosts 0 (λ j a b. fit j t ((going_at p d v states t).states j)))

      by-name : inputs_of d.top.ports numbers ≡ inputs_at p d v states t
      by-name = ap (λ ps. inputs_of ps numbers) ports ∙ same-inputs v t (going_at p d v states t).states p.hosts

  abbrev all-zero : Leaf → Name → List Join → Type 0
  all-zero l n joins = (m : Name) (i : ℕ) → is_kind is_memory (leaf_lines l) m ≡ true → none n m i < 2 ^ (leaf_widths l).word m

  pub run-driven : IsRun d none (inputs_at p d v states) (driven_nets p d v states)
  run-driven = subst (IsRun d none (inputs_at p d v states)) (λ i t. run-is t i) (one-run d sound none (inputs_at p d v states) fits).0
    where
      fits : Fit d none (inputs_at p d v states)
      fits = record { input = input-fits; word = each-map d.leaves (λ l n joins. Unit {0}) all-zero (λ l n joins there m i kind. pow_pos ((leaf_widths l).word m)) d.top.items (known d sound) }

pub driven-is-run : DrivenIsRun
driven-is-run p d sound ports v fit states = run-driven p d sound ports v fit states

-- ---- of a right design

module _ (p : Plan) (d : Design) (sound : IsSound p) (right : IsRightDesign p d) (v : Driver) (fit : OffersFit v) (states : ℕ → List ℕ) where
  abbrev going : ℕ → Going
  going t = going_at p d v states t

  abbrev nets : ℕ → Nets
  nets t = driven_nets p d v states t

  abbrev inputs : ℕ → Name → ℕ
  inputs t = inputs_at p d v states t

  abbrev empty : Name → Name → ℕ → ℕ
  empty i m k = 0

  is-run : IsRun d empty inputs nets
  is-run = run-driven p d right.sound right.shape.ports v fit states

  -- ---- what an attachment puts on its ports

  module _ (t j : ℕ) (h : Host) (e : slice_get p.hosts j ≡ Some h) where
    abbrev state : List ℕ
    state = (going t).states j

    top-is : (n : Name) → Owns h n → (nets t).top n ≡ inputs t n
    top-is n own = is-run.fed t n (owned-kind p d right.sound right.shape.ports j h e n own)

    distinct : Distinct (flat_map host_ports p.hosts)
    distinct = subst Distinct right.shape.ports (ports-first d right.sound).1

    on-ov : at (nets t) (codes "ov") h ≡ one_if (is_some (v.offer j state t))
    on-ov = top-is (host_name (codes "ov") h) (owns-ov h) ∙ given-ov v t (going t).states p.hosts j h e distinct

    on-hr : at (nets t) (codes "hr") h ≡ one_if (v.hears j state t)
    on-hr = top-is (host_name (codes "hr") h) (owns-hr h) ∙ given-hr v t (going t).states p.hosts j h e distinct

    offered : offer_at (nets t) h ≡ v.offer j state t
    offered =
        read-offer (v.offer j state t) (nets t) h on-ov
        (top-is (host_name (codes "oa") h) (owns-oa h) ∙ given-oa v t (going t).states p.hosts j h e distinct)
        (top-is (host_name (codes "op") h) (owns-op h) ∙ given-op v t (going t).states p.hosts j h e distinct)
        (top-is (host_name (codes "ol") h) (owns-ol h) ∙ given-ol v t (going t).states p.hosts j h e distinct)

    offering : is_on (nets t) (codes "ov") h ≡ is_some (v.offer j state t)
    offering = ap (λ x. x == 1) on-ov ∙ bit (is_some (v.offer j state t))

    hearing : is_on (nets t) (codes "hr") h ≡ v.hears j state t
    hearing = ap (λ x. x == 1) on-hr ∙ bit (v.hears j state t)

  -- ---- one domain

  module _ (k : ℕ) where
    abbrev given : ℕ → Input
    given t = input_of k (nets t)

    abbrev S : ℕ → State
    S t = state_after p k given t

    shows : (t j : ℕ) (h : Host) → slice_get p.hosts j ≡ Some h → h.domain ≡ k → Shows p (nets t) h (S t h.tile)
    shows t j h e own = subst (λ i. Shows p (nets t) h (state_after p i (λ u. input_of i (nets u)) t h.tile)) own (shown-at p d empty inputs nets t j h right is-run e)

    -- the attachments of the domain stand alike
    abbrev Alike : ℕ → (ℕ → List ℕ) → Type 0
    Alike t kept = (j : ℕ) → IsOwn p k j → (going t).states j ≡ kept j

    own-of : (n : ℕ) (has : HasAttachment p n k) → IsOwn p k has.number
    own-of n has = record { host = host_of k n; at = has.at; own = refl }

    module _ (t : ℕ) (kept : ℕ → List ℕ) (alike : Alike t kept) where
      abbrev x : Input
      x = driven p k v kept t

      same-offer : (n : ℕ) → hosts p n k ≡ true → offer_at (nets t) (host_of k n) ≡ x.offer n
      same-offer n there =
          let has = attached p n k there in
          offered t has.number (host_of k n) has.at ∙ ap (λ s. v.offer has.number s t) (alike has.number (own-of n has)) ∙ sym (ap (offer_of v kept t) has.is)

      same-hearing : (n : ℕ) → hosts p n k ≡ true → is_on (nets t) (codes "hr") (host_of k n) ≡ x.hears n
      same-hearing n there =
          let has = attached p n k there in
          hearing t has.number (host_of k n) has.at ∙ ap (λ s. v.hears has.number s t) (alike has.number (own-of n has)) ∙ sym (ap (hears_at v kept t) has.is)

      same-input : AreSame p k (given t) x
      same-input = record { offer = same-offer; hears = same-hearing }

      same-step : S (suc t) ≡ step p k (pos t) (S t) x
      same-step = step-same p k (pos t) (S t) (given t) x same-input

      same-events : text_events p k t (nets t) ≡ cycle_events p k t (S t) x
      same-events = flat_map-same (λ n. hosts p n k) (λ n. host_events t (nets t) (host_of k n)) (tile_events p k t (S t) x) (tabulate (tiles p) (λ n. n)) here
        where
          here : (n : ℕ) → hosts p n k ≡ true → host_events t (nets t) (host_of k n) ≡ tile_events p k t (S t) x n
          here n there =
              let has = attached p n k there in
              let h : Host = host_of k n in
              let shown = shows t has.number h has.at refl in
              ap (λ r. offer_events t n k r (offer_at (nets t) h) ++ drop_events t n k (is_on (nets t) (codes "dr") h) ++ got_events t n k (is_on (nets t) (codes "hr") h) (ejected_at (nets t) h)) (ready-on p (nets t) h (S t n) shown)
              ∙ ap (λ o. offer_events t n k (is_open p (S t n)) o ++ drop_events t n k (is_on (nets t) (codes "dr") h) ++ got_events t n k (is_on (nets t) (codes "hr") h) (ejected_at (nets t) h)) (same-offer n there)
              ∙ ap (λ r. offer_events t n k (is_open p (S t n)) (x.offer n) ++ drop_events t n k r ++ got_events t n k (is_on (nets t) (codes "hr") h) (ejected_at (nets t) h)) (dropped-on p (nets t) h (S t n) shown)
              ∙ ap (λ r. offer_events t n k (is_open p (S t n)) (x.offer n) ++ drop_events t n k (S t n).dropped ++ got_events t n k r (ejected_at (nets t) h)) (same-hearing n there)
              ∙ ap (λ f. offer_events t n k (is_open p (S t n)) (x.offer n) ++ drop_events t n k (S t n).dropped ++ got_events t n k (x.hears n) f) (ejected-on p (nets t) h (S t n) shown)

      moved-so : (j : ℕ) (h : Host) → slice_get p.hosts j ≡ Some h → h.domain ≡ k → moved v t (nets t) j ((going t).states j) (Some h) ≡ next_state p k v t (S t) j ((going t).states j) (Some h)
      moved-so j h e own =
          let s : List ℕ = (going t).states j in
          let shown = shows t j h e own in
          let mine : (h.domain == k) ≡ true = grind (arith, nat_tests, own) in
          ap (λ r. after_got v j (after_taken v j s t (r && is_on (nets t) (codes "ov") h)) t (is_on (nets t) (codes "hr") h) (ejected_at (nets t) h)) (ready-on p (nets t) h (S t h.tile) shown)
          ∙ ap (λ o. after_got v j (after_taken v j s t (is_open p (S t h.tile) && o)) t (is_on (nets t) (codes "hr") h) (ejected_at (nets t) h)) (offering t j h e)
          ∙ ap (λ r. after_got v j (after_taken v j s t (is_open p (S t h.tile) && is_some (v.offer j s t))) t r (ejected_at (nets t) h)) (hearing t j h e)
          ∙ ap (λ f. after_got v j (after_taken v j s t (is_open p (S t h.tile) && is_some (v.offer j s t))) t (v.hears j s t) f) (ejected-on p (nets t) h (S t h.tile) shown)
          ∙ sym (ap (λ b. if b then after_got v j (after_taken v j s t (is_open p (S t h.tile) && is_some (v.offer j s t))) t (v.hears j s t) (ejected_of (S t h.tile).ejected) else s) mine)

      abbrev next : ℕ → List ℕ
      next = next_states p k v kept t (S t)

      still-alike : Alike (suc t) next
      still-alike j own =
          ap (λ o. moved v t (nets t) j ((going t).states j) o) own.at ∙ moved-so j own.host own.at own.own
          ∙ ap (λ s. next_state p k v t (S t) j s (Some own.host)) (alike j own) ∙ sym (ap (next_state p k v t (S t) j (kept j)) own.at)

    all-events : (n t : ℕ) (kept : ℕ → List ℕ) → Alike t kept → replayed p d v k n t (going t) ≡ driven_events p k v n t (S t) kept
    all-events zero t kept alike = refl
    all-events (suc n) t kept alike =
        let more : ℕ → List ℕ = next_states p k v kept t (S t) in
        ap (λ es. es ++ replayed p d v k n (suc t) (going (suc t))) (same-events t kept alike)
        ∙ ap (λ es. cycle_events p k t (S t) (driven p k v kept t) ++ es)
        (all-events n (suc t) more (still-alike t kept alike) ∙ ap (λ s. driven_events p k v n (suc t) s more) (same-step t kept alike))

    all-states : (n t : ℕ) (kept : ℕ → List ℕ) → Alike t kept → (j : ℕ) → IsOwn p k j → states_after p d v n t (going t) j ≡ driver_states p k v n t (S t) kept j
    all-states zero t kept alike j own = alike j own
    all-states (suc n) t kept alike j own =
        let more : ℕ → List ℕ = next_states p k v kept t (S t) in
        all-states n (suc t) more (still-alike t kept alike) j own ∙ ap (λ s. driver_states p k v n (suc t) s more j) (same-step t kept alike)

pub replay-is-simulation : ReplayIsSimulation
replay-is-simulation p d sound right v fit states cycles k = all-events p d sound right v fit states k cycles 0 states (λ j own. refl)

pub replay-stands : ReplayStands
replay-stands p d sound right v fit states cycles j h e =
    all-states p d sound right v fit states h.domain cycles 0 states (λ i own. refl) j (record { host = h; at = e; own = refl })
