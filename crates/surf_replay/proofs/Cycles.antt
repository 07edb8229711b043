-- One cycle of a driven text, by what is put on its ports and what they show.
use Rattle.std.proofs.Common.{◌≡◌, ◌≢◌, ℕ, zero, suc, ◌+◌, ◌<◌, ◌≤◌, Bool, true, false, List, [], ◌∷◌, ◌++◌, length, refl, sym, ◌∙◌, ap, subst, bytes_eq, arith}
use Rattle.std.specs.Prelude.{Option, Some, None, option_map, is_some, slice_get, flat_map, filter, codes, if◌then◌else◌, ◌==◌, ◌&&◌}
use Rattle.std.proofs.Math.Path.{fun_ext}
use Rattle.std.proofs.lemmas.Option.{none-some}
use Rattle.std.proofs.lemmas.List.{append-nil, append_assoc}
use Rattle.vl_tree.specs.Values.{Name, Design}
use Rattle.vl_model.specs.Meaning.{Values, one_if}
use Rattle.vl_model.specs.Lines.{is_input, top_lines}
use Rattle.vl_model.specs.Rules.{IsSound, is_kind}
use Rattle.vl_model.specs.Whole.{Nets}
use Rattle.vl_model.specs.Settle.{settled, with_inputs}
use Rattle.noc_model.specs.declared.Host.{Host}
use Rattle.noc_model.specs.declared.Offer.{Offer}
use Rattle.noc_model.specs.declared.Event.{Event}
use Rattle.noc_model.specs.declared.Ejected.{Ejected}
use Rattle.noc_model.specs.Sound as plan
use Rattle.noc_model.proofs.HostTiles.{hosts_of-tiles}
use Rattle.tile_drive.specs.declared.cycle_seen.SeenAt.{SeenAt}
use Rattle.tile_drive.specs.Seen.{seen_at}
use Rattle.tile_drive.proofs.SeenEvents.{own-events}
use Rattle.vl_model.proofs.Settling.{itself, one-name}
use Rattle.noc_model.specs.Plan.{Plan}
use Rattle.noc_model.specs.Driver.{Driver, after_taken, after_got}
use Rattle.noc_model.specs.Events.{offer_events, drop_events, got_events}
use Rattle.tile_drive.specs.SeenEvents.{seen_events, events_seen}
use Rattle.vl_tree.specs.declared.tree.Port.{Port}
use Rattle.vl_tree.specs.declared.fault.TextFault.TheVariants.{Ports}
use Rattle.std.proofs.lemmas.Bool.{and_parts, eqb-true}
use Rattle.gen_kit.specs.Ports.{host_name, host_ports, top_ports, ports_fault, difference, same_port, same_way}
use Rattle.gen_kit.specs.Replayed.{at, is_on, offer_at, ejected_at, host_events, host_of, text_events, going_next, replayed, states_after, driven_inputs, moved, Going, nets_in, address_of, payload_of, last_of}
use Rattle.vl_run.specs.Top.{inputs_of}
use Rattle.vl_run.specs.Stands.{Running, Stands, AreInputs}
use Rattle.vl_run.proofs.Inputs.{has_input, Distinct, among-input}
use Rattle.vl_run.proofs.Whole.{ports-first, inputs-show}
use Rattle.surf_replay.specs.Feed.{all_numbers}
use Rattle.surf_replay.specs.Cycle.{seen_text, notified}
use Rattle.surf_replay.specs.Going.{IsGoing}
use Rattle.surf_replay.proofs.Fed.{same-inputs, Owns, among, given-ov, given-oa, given-op, given-ol, given-hr}

pub bit : (b : Bool) → (one_if b == 1) ≡ b
bit true = refl
bit false = refl

-- an offer that is put on the ports is read there
pub read-offer : (o : Option Offer) (nets : Nets) (h : Host) → at nets (codes "ov") h ≡ one_if (is_some o) → at nets (codes "oa") h ≡ address_of o → at nets (codes "op") h ≡ payload_of o → at nets (codes "ol") h ≡ last_of o → offer_at nets h ≡ o
read-offer None nets h a b c d = rw a refl
read-offer (Some w) nets h a b c d =
    rw (a, b, c, d) (ap (λ (l : Bool). Some (record { address = w.address; payload = w.payload; last = l })) (bit w.last))

got-heard : (t n d : ℕ) (hears : Bool) (e : Option Ejected)
    → got_events t n d true (if hears then e else None) ≡ got_events t n d hears e
got-heard t n d true e = refl
got-heard t n d false e = refl

module _ (p : Plan) (m : Running) (sound : IsSound m.design) (v : Driver) (t : ℕ) (g : Going) (stands : Stands m g.inside) (ports : m.design.top.ports ≡ top_ports p)
    (fit : AreInputs (top_ports p) (all_numbers v t g.states 0 p.hosts)) where
  abbrev d : Design
  d = m.design

  abbrev xs : List ℕ
  xs = all_numbers v t g.states 0 p.hosts

  abbrev nets : Nets
  nets = nets_in p d v t g

  abbrev given : Name → ℕ
  given = driven_inputs v t g.states 0 p.hosts

  pub fit-here : AreInputs d.top.ports xs
  fit-here = subst (λ ps. AreInputs ps xs) (sym ports) fit

  by-name : inputs_of d.top.ports xs ≡ given
  by-name = ap (λ ps. inputs_of ps xs) ports ∙ same-inputs v t g.states p.hosts

  pub same-nets : settled d (with_inputs d (inputs_of d.top.ports xs) g.inside) ≡ nets
  same-nets = ap (λ f. settled d (with_inputs d f g.inside)) by-name

  top-is : (n : Name) → has_input d.top.ports n ≡ true → nets.top n ≡ given n
  top-is n h =
      ap (λ (s : Nets). s.top n) (sym same-nets)
      ∙ inputs-show d sound g.inside xs fit-here stands.top m.parts stands.parts n (among-input (top_lines d.top) d.top.ports (ports-first d sound).0 n h)
      ∙ ap (λ f. f n) by-name

  distinct : Distinct (flat_map host_ports p.hosts)
  distinct = subst Distinct ports (ports-first d sound).1

  module _ (j : ℕ) (h : Host) (at-j : slice_get p.hosts j ≡ Some h) where
    abbrev o : Option Offer
    o = v.offer j (g.states j) t

    owned : (n : Name) → Owns h n → nets.top n ≡ given n
    owned n own = top-is n (subst (λ ps. has_input ps n ≡ true) (sym ports) (among p.hosts j h at-j n own))

    on-ov : at nets (codes "ov") h ≡ one_if (is_some o)
    on-ov =
        let self = itself (host_name (codes "ov") h) in
        owned (host_name (codes "ov") h) (rw self refl) ∙ given-ov v t g.states p.hosts j h at-j distinct

    on-oa : at nets (codes "oa") h ≡ address_of o
    on-oa =
        let self = itself (host_name (codes "oa") h) in
        owned (host_name (codes "oa") h) (rw self refl) ∙ given-oa v t g.states p.hosts j h at-j distinct

    on-op : at nets (codes "op") h ≡ payload_of o
    on-op =
        let self = itself (host_name (codes "op") h) in
        owned (host_name (codes "op") h) (rw self refl) ∙ given-op v t g.states p.hosts j h at-j distinct

    on-ol : at nets (codes "ol") h ≡ last_of o
    on-ol =
        let self = itself (host_name (codes "ol") h) in
        owned (host_name (codes "ol") h) (rw self refl) ∙ given-ol v t g.states p.hosts j h at-j distinct

    on-hr : at nets (codes "hr") h ≡ one_if (v.hears j (g.states j) t)
    on-hr =
        let self = itself (host_name (codes "hr") h) in
        owned (host_name (codes "hr") h) (rw self refl) ∙ given-hr v t g.states p.hosts j h at-j distinct

    offered : offer_at nets h ≡ o
    offered = read-offer o nets h on-ov on-oa on-op on-ol

    offering : is_on nets (codes "ov") h ≡ is_some o
    offering = ap (λ x. x == 1) on-ov ∙ bit (is_some o)

    hearing : is_on nets (codes "hr") h ≡ v.hears j (g.states j) t
    hearing = ap (λ x. x == 1) on-hr ∙ bit (v.hears j (g.states j) t)

    -- the attachment moves as the text's ports say
    pub moves-so : notified v t j (g.states j) nets h ≡ moved v t nets j (g.states j) (Some h)
    moves-so =
        ap (λ b. after_got v j (after_taken v j (g.states j) t (is_on nets (codes "rd") h && b)) t (v.hears j (g.states j) t) (ejected_at nets h)) (sym offering)
        ∙ ap (λ b. after_got v j (after_taken v j (g.states j) t (is_on nets (codes "rd") h && is_on nets (codes "ov") h)) t b (ejected_at nets h)) (sym hearing)

    -- and its events are theirs
    pub events-so : seen_events t h (seen_text v t j (g.states j) nets h) ≡ host_events t nets h
    events-so =
        ap (λ q. offer_events t h.tile h.domain (is_on nets (codes "rd") h) q ++ drop_events t h.tile h.domain (is_on nets (codes "dr") h)
        ++ got_events t h.tile h.domain true (if v.hears j (g.states j) t then ejected_at nets h else None)) (sym offered)
        ∙ ap (λ es. offer_events t h.tile h.domain (is_on nets (codes "rd") h) (offer_at nets h) ++ drop_events t h.tile h.domain (is_on nets (codes "dr") h) ++ es)
        (got-heard t h.tile h.domain (v.hears j (g.states j) t) (ejected_at nets h) ∙ ap (λ b. got_events t h.tile h.domain b (ejected_at nets h)) (sym hearing))

  -- those of a domain are the text's
  pub events-of : (k : ℕ) (seen : List SeenAt) → plan.IsSound p
      → ((j : ℕ) (h : Host) → slice_get p.hosts j ≡ Some h → seen_at seen j ≡ seen_text v t j (g.states j) nets h)
      → filter (λ (e : Event). e.domain == k) (events_seen t seen 0 p.hosts) ≡ text_events p k t nets
  events-of k seen fine saw = own-events t k 0 seen f p.hosts own ∙ ap (flat_map f) (sym (hosts_of-tiles p k fine))
    where
      f : ℕ → List Event
      f n = host_events t nets (host_of k n)

      own : (a i : ℕ) (h : Host) → i ≡ 0 + a → slice_get p.hosts a ≡ Some h → h.domain ≡ k
          → seen_events t h (seen_at seen i) ≡ f h.tile
      own a i h e at-a mine =
          let same : i ≡ a = omega arith in
          ap (λ z. seen_events t h (seen_at seen z)) same ∙ ap (seen_events t h) (saw a h at-a) ∙ events-so a h at-a
          ∙ ap (λ z. host_events t nets (host_of z h.tile)) mine

-- ---- cycle after cycle

module _ (p : Plan) (d : Design) (v : Driver) where
  -- what goes on after n cycles from t on
  abbrev pub gone : ℕ → ℕ → Going → Going
  gone zero t g = g
  gone (suc n) t g = gone n (suc t) (going_next p d v t g)

  pub gone-more : (n t : ℕ) (g : Going) → gone (suc n) t g ≡ going_next p d v (t + n) (gone n t g)
  gone-more zero t g = let same : t ≡ t + 0 = omega arith in ap (λ k. going_next p d v k g) same
  gone-more (suc n) t g = let same : suc t + n ≡ t + suc n = omega arith in gone-more n (suc t) (going_next p d v t g) ∙ ap (λ k. going_next p d v k (gone (suc n) t g)) same

  pub states-gone : (n t : ℕ) (g : Going) → states_after p d v n t g ≡ (gone n t g).states
  states-gone zero t g = refl
  states-gone (suc n) t g = states-gone n (suc t) (going_next p d v t g)

  abbrev Text : ℕ → ℕ → Going → List Event
  Text k t g = text_events p k t (nets_in p d v t g)

  replayed-more : (k n t : ℕ) (g : Going)
      → replayed p d v k (suc n) t g ≡ replayed p d v k n t g ++ Text k (t + n) (gone n t g)
  replayed-more k zero t g = let same : t ≡ t + 0 = omega arith in append-nil (Text k t g) ∙ ap (λ i. Text k i g) same
  replayed-more k (suc n) t g =
      let next : Going = going_next p d v t g in
      let same : suc t + n ≡ t + suc n = omega arith in
      ap (λ es. Text k t g ++ es) (replayed-more k n (suc t) next ∙ ap (λ i. replayed p d v k n (suc t) next ++ Text k i (gone n (suc t) next)) same)
      ∙ sym (append_assoc (Text k t g) (replayed p d v k n (suc t) next) (Text k (t + suc n) (gone n (suc t) next)))

  -- one cycle more, from cycle 0 on
  pub next-gone : (n : ℕ) (g : Going) → going_next p d v n (gone n 0 g) ≡ gone (n + 1) 0 g
  next-gone n g =
      let one : n + 1 ≡ suc n = omega arith in
      let same : n ≡ 0 + n = omega arith in
      ap (λ k. going_next p d v k (gone n 0 g)) same ∙ sym (gone-more n 0 g) ∙ ap (λ k. gone k 0 g) (sym one)

  pub next-replayed : (k n : ℕ) (g : Going)
      → replayed p d v k n 0 g ++ Text k n (gone n 0 g) ≡ replayed p d v k (n + 1) 0 g
  next-replayed k n g =
      let one : n + 1 ≡ suc n = omega arith in
      let same : n ≡ 0 + n = omega arith in
      ap (λ i. replayed p d v k n 0 g ++ Text k i (gone n 0 g)) same ∙ sym (replayed-more k n 0 g)
      ∙ ap (λ i. replayed p d v k i 0 g) (sym one)

pub none-past : {A : Type 0} (xs : List A) (j : ℕ) → slice_get xs j ≡ None → length xs ≤ j
none-past [] j e = omega arith
none-past (x ∷ xs) zero e = cc
none-past (x ∷ xs) (suc j) e = let h = none-past xs j e in omega arith

-- ---- ports that are the plan's

way-same : (a b : Bool) → same_way a b ≡ true → a ≡ b
way-same true true e = refl
way-same true false e = sym e
way-same false true e = e
way-same false false e = refl

port-same : (a b : Port) → same_port a b ≡ true → a ≡ b
port-same a b e =
    let es = and_parts (bytes_eq a.name b.name) ((a.high == b.high) && same_way a.output b.output) e in
    let fs = and_parts (a.high == b.high) (same_way a.output b.output) es.1 in
    let name = one-name a.name b.name es.0 in
    let high = eqb-true a.high b.high fs.0 in
    let way = way-same a.output b.output fs.1 in
    ap (λ n. port-of a.output a.high n) name ∙ ap (λ h. port-of a.output h b.name) high
    ∙ ap (λ w. port-of w b.high b.name) way
  where
    port-of : Bool → ℕ → List ℕ → Port
    port-of w h n = record { output = w; high = h; name = n }

no-difference : (xs ys : List Port) (i : ℕ) → difference i xs ys ≡ None → xs ≡ ys
no-difference [] [] i e = refl
no-difference [] (y ∷ ys) i e = absurd (none-some i (sym e))
no-difference (x ∷ xs) [] i e = absurd (none-some i (sym e))
no-difference (x ∷ xs) (y ∷ ys) i e = go (same_port x y) refl (no-difference xs ys (i + 1))
  where
    go : (b : Bool) → same_port x y ≡ b → (difference (i + 1) xs ys ≡ None → xs ≡ ys) → x ∷ xs ≡ y ∷ ys
    go true same later =
        ap (λ z. z ∷ xs) (port-same x y same)
        ∙ ap (λ zs. y ∷ zs) (later (sym (ap (λ b. if b then difference (i + 1) xs ys else Some i) same) ∙ e))
    go false other later = absurd (none-some i (sym e ∙ ap (λ b. if b then difference (i + 1) xs ys else Some i) other))

-- a design without the fault has the plan's ports
pub ports-are : (p : Plan) (d : Design) → ports_fault p d ≡ None → d.top.ports ≡ top_ports p
unfolding ports_fault
ports-are p d e = no-difference d.top.ports (top_ports p) 0 (go (difference 0 d.top.ports (top_ports p)) e)
  where
    go : (o : Option ℕ) → option_map Ports o ≡ None → o ≡ None
    go None e = refl
    go (Some i) e = absurd (none-some (Ports i) (sym e))
