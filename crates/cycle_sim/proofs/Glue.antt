-- A tile's cycle is its cycle alone, and then what comes over its links.
use Rattle.std.proofs.Common.{◌≡◌, ◌≢◌, ℕ, zero, suc, ◌+◌, ◌<◌, ◌≤◌, Bool, true, false, Option, List, ◌++◌, refl, sym, ap, ◌∙◌, arith, append-nil}
use Rattle.std.specs.Prelude.{None, nat_lt, if◌then◌else◌, pos}
use Rattle.std.proofs.lemmas.Bool.Decides.{nat_tests}
use Rattle.noc_model.specs.declared.LinkFlit.{LinkFlit}
use Rattle.noc_model.specs.Plan.{Plan, ports, link_channels}
use Rattle.noc_model.specs.Place.{neighbour}
use Rattle.noc_model.specs.Tile.{Tile, TileIn}
use Rattle.noc_model.specs.Step.{takes, sent, flit_on, is_on, one_if, tile_step}
use Rattle.noc_model.proofs.Additive.{alone, queue-alone, local-alone, credits-alone, stage-alone, held-alone, pulse-alone, turns-alone, attachment-alone}
use Rattle.noc_model.proofs.Switch.{sent-taken}
use Rattle.router_core.specs.declared.attachments.Told.{Told}
use Rattle.router_core.specs.Attachments.{outside}
use Rattle.router_core.specs.Pulses.{is_pulse}
use Rattle.router_core.specs.Parts.{Parts}
use Rattle.router_core.specs.Shown.{Shows}
use Rattle.cycle_sim.specs.Links.{arrival_at, credit_at, received, repaid, ComesIn}

-- ---- helpers

below : (a b : ℕ) → a < b → nat_lt a b ≡ true
below a b less = grind (arith, nat_tests)

-- a credit that is spent was there
credit-there : (p : Plan) (d n : ℕ) (t : _) (s : Tile) (i : TileIn) (o w : ℕ) → o ≢ 0 → one_if (is_on (sent p d n t s i o) w) ≤ s.credits o w
unfolding takes
credit-there p d n t s i zero w link = absurd (link refl)
credit-there p d n t s i (suc o) w link = go (is_on (sent p d n t s i (suc o)) w) refl
  where
    go : (b : Bool) → is_on (sent p d n t s i (suc o)) w ≡ b → one_if b ≤ s.credits (suc o) w
    go false e = omega arith
    go true e = let may = sent-taken p d n t s i (suc o) w e in grind (arith, nat_tests, may)

-- nothing arrives by the local port
local-none : (p : Plan) (d n t : ℕ) (rows : List (List (Option LinkFlit))) → arrival_at p d n t rows 0 ≡ None
unfolding neighbour
local-none p d n t rows = refl

module _ (p : Plan) (d n t : ℕ) (rows : List (List (Option LinkFlit))) (pulses : List (List (List (Option ℕ)))) (told : Told) (i : TileIn)
    (come : ComesIn p d n t rows pulses told i) (s : Tile) where
  abbrev there : TileIn
  there = outside told

  -- where nothing comes over the links, the outside does the same
  pub outside-is : there ≡ alone i
  outside-is = λ k. record { arrives = λ port. None; returns = λ o w. false; offer = sym come.offer k; hears = sym come.hears k }

  abbrev after : Tile
  after = tile_step p d n (pos t) s i

  abbrev before : Tile
  before = tile_step p d n (pos t) s there

  before-is : before ≡ tile_step p d n (pos t) s (alone i)
  before-is = ap (tile_step p d n (pos t) s) outside-is

  queue-is : (port c : ℕ) → before.queue port c ++ flit_on (arrival_at p d n t rows port) c ≡ after.queue port c
  queue-is zero c =
      ap (λ x. before.queue 0 c ++ flit_on x c) (local-none p d n t rows) ∙ append-nil (before.queue 0 c)
      ∙ ap (λ (z : Tile). z.queue 0 c) before-is ∙ sym (local-alone p d n (pos t) s i c)
  queue-is (suc port) c =
      ap (λ x. before.queue (suc port) c ++ flit_on x c) (sym (come.arrives (suc port)))
      ∙ ap (λ (z : Tile). z.queue (suc port) c ++ flit_on (i.arrives (suc port)) c) before-is
      ∙ sym (queue-alone p d n (pos t) s i port c)

  credits-are : (o w : ℕ) → o ≢ 0 → w < link_channels p d → before.credits o w + one_if (is_pulse (credit_at p d n pulses o) w) ≡ after.credits o w
  credits-are o w link inside =
      ap (λ b. before.credits o w + one_if b) (sym (come.returns o w inside))
      ∙ ap (λ (z : Tile). z.credits o w + one_if (i.returns o w)) before-is
      ∙ sym (credits-alone p d n (pos t) s i o w (credit-there p d n (pos t) s i o w link))

  -- the router shows the tile after the cycle
  pub shows-step : (r : Parts) → Shows r p d (repaid (credit_at p d n pulses) (ports p) (received (arrival_at p d n t rows) (ports p) before)) → Shows r p d after
  shows-step r shown = record {
    queue = λ port c port_in c_in. shown.queue port c port_in c_in
        ∙ ap (λ b. if b then before.queue port c ++ flit_on (arrival_at p d n t rows port) c else before.queue port c) (below port (ports p) port_in) ∙ queue-is port c;
    stage = λ port c port_in c_in. shown.stage port c port_in c_in ∙ ap (λ (z : Tile). z.stage port c) before-is
        ∙ ap (λ f. f port c) (sym (stage-alone p d n (pos t) s i));
    pulse = λ port c port_in c_in. shown.pulse port c port_in c_in ∙ ap (λ (z : Tile). z.pulse port c) before-is
        ∙ ap (λ f. f port c) (sym (pulse-alone p d n (pos t) s i));
    held = λ o w o_in w_in. shown.held o w o_in w_in ∙ ap (λ (z : Tile). z.held o w) before-is
        ∙ ap (λ f. f o w) (sym (held-alone p d n (pos t) s i));
    credits = λ o w link o_in w_in. shown.credits o w link o_in w_in
        ∙ ap (λ b. if b then before.credits o w + one_if (is_pulse (credit_at p d n pulses o) w) else before.credits o w) (below o (ports p) o_in)
        ∙ credits-are o w link w_in;
    allocation = λ o o_in. shown.allocation o o_in ∙ ap (λ (z : Tile). z.allocation o) before-is ∙ ap (λ f. f o) (sym (turns-alone p d n (pos t) s i).2);
    switch = λ o o_in. shown.switch o o_in ∙ ap (λ (z : Tile). z.switch o) before-is ∙ ap (λ f. f o) (sym (turns-alone p d n (pos t) s i).1);
    turn = λ port port_in. shown.turn port port_in ∙ ap (λ (z : Tile). z.turn port) before-is ∙ ap (λ f. f port) (sym (turns-alone p d n (pos t) s i).0);
    packet = shown.packet ∙ ap (λ (z : Tile). z.packet) before-is ∙ sym (attachment-alone p d n (pos t) s i).0;
    current = shown.current ∙ ap (λ (z : Tile). z.current) before-is ∙ sym (attachment-alone p d n (pos t) s i).1;
    dropped = shown.dropped ∙ ap (λ (z : Tile). z.dropped) before-is ∙ sym (attachment-alone p d n (pos t) s i).2;
    ejected = shown.ejected ∙ ap (λ (z : Tile). z.ejected) before-is ∙ sym (attachment-alone p d n (pos t) s i).3;
  }
