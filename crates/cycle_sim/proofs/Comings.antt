-- What a router shows where a flit or a credit has come, or none.
use Rattle.std.proofs.Common.{◌≡◌, ◌≢◌, ℕ, ◌+◌, ◌<◌, Bool, true, false, Option, List, [], ◌∷◌, ◌++◌, refl, sym, ap, ◌∙◌, arith, append-nil}
use Rattle.std.specs.Prelude.{Some, None, ◌==◌, ◌&&◌, nat_lt, if◌then◌else◌}
use Rattle.std.proofs.lemmas.Bool.Decides.{nat_tests}
use Rattle.noc_model.specs.declared.Flit.{Flit}
use Rattle.noc_model.specs.declared.LinkFlit.{LinkFlit}
use Rattle.noc_model.specs.Plan.{Plan, ports, link_channels}
use Rattle.noc_model.specs.Inputs.{place}
use Rattle.noc_model.specs.Tile.{Tile}
use Rattle.noc_model.specs.Step.{flit_on, one_if}
use Rattle.flit_pool.specs.Lists.{Lists}
use Rattle.credit_links.specs.Counts.{Counts, count_at}
use Rattle.route_stage.specs.Routed.{stage_at}
use Rattle.vc_alloc.specs.Allocator.{held_at, pointer_at}
use Rattle.slot_switch.specs.Switch.{turn_at, switch_at}
use Rattle.router_core.specs.Buffers.{flits_at}
use Rattle.router_core.specs.Pulses.{pulse_at, is_pulse}
use Rattle.router_core.specs.Attachments.{attachment_at}
use Rattle.router_core.specs.Parts.{Parts}
use Rattle.router_core.specs.Shown.{Shows, with_flit, with_credit}
use Rattle.cycle_sim.specs.Links.{arrived, received, returned, repaid}

-- the router with other buffers, and with other credits
abbrev pub with_buffers : Parts → List Lists → Parts
with_buffers r xs = record r { buffers = xs }

abbrev pub with_credits : Parts → Counts → Parts
with_credits r x = record r { credits = x }

-- ---- the tile that a router shows, read from its parts

abbrev pub mirror : Parts → Plan → ℕ → Tile
mirror r p d = record {
  queue = λ port c. flits_at r.buffers d (place p d port c);
  stage = λ port c. stage_at r.stages d (place p d port c);
  pulse = λ port c. is_pulse (pulse_at r.pulses d port) c;
  held = λ o w. held_at r.allocator d o w;
  credits = λ o w. count_at r.credits d (place p d o w);
  row = λ o i. None;
  allocation = λ o. pointer_at r.allocator d o;
  switch = λ o. switch_at r.switch d o;
  turn = λ port. turn_at r.switch d port;
  packet = (attachment_at r.attachments d).packet;
  current = (attachment_at r.attachments d).current;
  dropped = (attachment_at r.attachments d).dropped;
  ejected = (attachment_at r.attachments d).ejected;
}

pub mirror-shows : (r : Parts) (p : Plan) (d : ℕ) → Shows r p d (mirror r p d)
mirror-shows r p d = record {
  queue = λ port c port_in c_in. refl;
  stage = λ port c port_in c_in. refl;
  pulse = λ port c port_in c_in. refl;
  held = λ o w o_in w_in. refl;
  credits = λ o w link o_in w_in. refl;
  allocation = λ o o_in. refl;
  switch = λ o o_in. refl;
  turn = λ port port_in. refl;
  packet = refl;
  current = refl;
  dropped = refl;
  ejected = refl;
}

-- ---- other lists or counts that are the same at the places that there are

module _ (r : Parts) (p : Plan) (d : ℕ) (s : Tile) (shown : Shows r p d s) where
  pub shows-queue : (f : ℕ → ℕ → List Flit) → ((q c : ℕ) → q < ports p → c < link_channels p d → s.queue q c ≡ f q c) → Shows r p d (record s { queue = f })
  shows-queue f same = record {
    queue = λ q c q_in c_in. shown.queue q c q_in c_in ∙ same q c q_in c_in;
    stage = shown.stage;
    pulse = shown.pulse;
    held = shown.held;
    credits = shown.credits;
    allocation = shown.allocation;
    switch = shown.switch;
    turn = shown.turn;
    packet = shown.packet;
    current = shown.current;
    dropped = shown.dropped;
    ejected = shown.ejected;
  }

  pub shows-credits : (f : ℕ → ℕ → ℕ) → ((o w : ℕ) → s.credits o w ≡ f o w) → Shows r p d (record s { credits = f })
  shows-credits f same = record {
    queue = shown.queue;
    stage = shown.stage;
    pulse = shown.pulse;
    held = shown.held;
    credits = λ o w link o_in w_in. shown.credits o w link o_in w_in ∙ same o w;
    allocation = shown.allocation;
    switch = shown.switch;
    turn = shown.turn;
    packet = shown.packet;
    current = shown.current;
    dropped = shown.dropped;
    ejected = shown.ejected;
  }

-- ---- one port

nothing-there : (b : Bool) (fs : List Flit) → fs ≡ (if b then fs ++ [] else fs)
nothing-there true fs = sym (append-nil fs)
nothing-there false fs = refl

-- nothing arrives
pub arrived-none : (r : Parts) (p : Plan) (d port : ℕ) (s : Tile) → Shows r p d s → Shows r p d (arrived port None s)
arrived-none r p d port s shown = shows-queue r p d s shown (arrived port None s).queue (λ q c q_in c_in. nothing-there (q == port) (s.queue q c))

flip : (a b : ℕ) → (a == b) ≡ (b == a)
flip a b = grind (arith, nat_tests)

one-there : (a b : Bool) (fs : List Flit) (f : Flit) → (if a && b then fs ++ f ∷ [] else fs) ≡ (if a then fs ++ (if b then f ∷ [] else []) else fs)
one-there true true fs f = refl
one-there true false fs f = sym (append-nil fs)
one-there false b fs f = refl

pub arrived-some : (r : Parts) (p : Plan) (d port : ℕ) (x : LinkFlit) (s : Tile) → Shows r p d (with_flit s port x) → Shows r p d (arrived port (Some x) s)
arrived-some r p d port x s shown =
    shows-queue r p d (with_flit s port x) shown (arrived port (Some x) s).queue
    (λ q c q_in c_in. one-there (q == port) (c == x.channel) (s.queue q c) x.flit
    ∙ ap (λ b. if q == port then s.queue q c ++ (if b then x.flit ∷ [] else []) else s.queue q c) (flip c x.channel))

no-credit : (b : Bool) (n : ℕ) → n ≡ (if b then n + 0 else n)
no-credit true n = omega arith
no-credit false n = refl

pub returned-none : (r : Parts) (p : Plan) (d port : ℕ) (s : Tile) → Shows r p d s → Shows r p d (returned port None s)
returned-none r p d port s shown = shows-credits r p d s shown (returned port None s).credits (λ o w. no-credit (o == port) (s.credits o w))

one-credit : (a b : Bool) (n : ℕ) → (if a && b then n + 1 else n) ≡ (if a then n + one_if b else n)
one-credit true true n = refl
one-credit true false n = omega arith
one-credit false b n = refl

pub returned-some : (r : Parts) (p : Plan) (d port w : ℕ) (s : Tile) → Shows r p d (with_credit s port w) → Shows r p d (returned port (Some w) s)
returned-some r p d port w s shown =
    shows-credits r p d (with_credit s port w) shown (returned port (Some w) s).credits
    (λ o v. one-credit (o == port) (v == w) (s.credits o v)
    ∙ ap (λ b. if o == port then s.credits o v + one_if b else s.credits o v) (flip v w))

-- ---- one port more

-- where the ports below k have had theirs, and then port k has
next-port : {A : Type 0} (q k : ℕ) (old new other : A) → (q ≡ k → other ≡ new)
    → (if q == k then other else (if nat_lt q k then new else old)) ≡ (if nat_lt q (k + 1) then new else old)
next-port {A} q k old new other same = go (q == k) refl (nat_lt q k) refl (nat_lt q (k + 1)) refl
  where
    go : (a : Bool) → (q == k) ≡ a → (b : Bool) → nat_lt q k ≡ b → (c : Bool) → nat_lt q (k + 1) ≡ c
        → (if a then other else (if b then new else old)) ≡ (if c then new else old)
    go true e b f true g = same (grind (arith, nat_tests, e))
    go true e b f false g = absurd (grind (arith, nat_tests, e, g))
    go false e true f true g = refl
    go false e true f false g = absurd (grind (arith, nat_tests, f, g))
    go false e false f true g = absurd (grind (arith, nat_tests, e, f, g))
    go false e false f false g = refl

pub past : (k : ℕ) → nat_lt k k ≡ false
past k = grind (arith, nat_tests)

pub received-next : (r : Parts) (p : Plan) (d k : ℕ) (x : ℕ → Option LinkFlit) (s : Tile) → Shows r p d (arrived k (x k) (received x k s)) → Shows r p d (received x (k + 1) s)
received-next r p d k x s shown =
    shows-queue r p d (arrived k (x k) (received x k s)) shown (received x (k + 1) s).queue
    (λ q c q_in c_in. next-port q k (s.queue q c) (s.queue q c ++ flit_on (x q) c) ((received x k s).queue q c ++ flit_on (x k) c)
    (λ same. ap (λ b. (if b then s.queue q c ++ flit_on (x q) c else s.queue q c) ++ flit_on (x k) c) (ap (λ j. nat_lt j k) same ∙ past k)
    ∙ ap (λ j. s.queue q c ++ flit_on (x j) c) (sym same)))

pub repaid-next : (r : Parts) (p : Plan) (d k : ℕ) (x : ℕ → Option ℕ) (s : Tile) → Shows r p d (returned k (x k) (repaid x k s)) → Shows r p d (repaid x (k + 1) s)
repaid-next r p d k x s shown =
    shows-credits r p d (returned k (x k) (repaid x k s)) shown (repaid x (k + 1) s).credits
    (λ o w. next-port o k (s.credits o w) (s.credits o w + one_if (is_pulse (x o) w)) ((repaid x k s).credits o w + one_if (is_pulse (x k) w))
    (λ same. ap (λ b. (if b then s.credits o w + one_if (is_pulse (x o) w) else s.credits o w) + one_if (is_pulse (x k) w)) (ap (λ j. nat_lt j k) same ∙ past k)
    ∙ ap (λ j. s.credits o w + one_if (is_pulse (x j) w)) (sym same)))

-- at the start of a walk over the ports
nothing-yet : {A : Type 0} (q : ℕ) (a b : A) → b ≡ (if nat_lt q 0 then a else b)
nothing-yet q a b = ap (λ t. if t then a else b) (sym none)
  where
    none : nat_lt q 0 ≡ false
    none = grind (arith, nat_tests)

pub received-first : (r : Parts) (p : Plan) (d : ℕ) (x : ℕ → Option LinkFlit) (s : Tile) → Shows r p d s → Shows r p d (received x 0 s)
received-first r p d x s shown = shows-queue r p d s shown (received x 0 s).queue (λ q c q_in c_in. nothing-yet q (s.queue q c ++ flit_on (x q) c) (s.queue q c))

pub repaid-first : (r : Parts) (p : Plan) (d : ℕ) (x : ℕ → Option ℕ) (s : Tile) → Shows r p d s → Shows r p d (repaid x 0 s)
repaid-first r p d x s shown = shows-credits r p d s shown (repaid x 0 s).credits (λ o w. nothing-yet o (s.credits o w + one_if (is_pulse (x o) w)) (s.credits o w))

-- a port that is ahead has had nothing yet
pub received-ahead : (r₀ r : Parts) (p : Plan) (d k port c : ℕ) (x : ℕ → Option LinkFlit) → port < ports p → c < link_channels p d → nat_lt port k ≡ false
    → ((s : Tile) → Shows r₀ p d s → Shows r p d (received x k s)) → flits_at r.buffers d (place p d port c) ≡ flits_at r₀.buffers d (place p d port c)
received-ahead r₀ r p d k port c x port_in c_in ahead shows =
    (shows (mirror r₀ p d) (mirror-shows r₀ p d)).queue port c port_in c_in
    ∙ ap (λ b. if b then flits_at r₀.buffers d (place p d port c) ++ flit_on (x port) c else flits_at r₀.buffers d (place p d port c)) ahead

pub repaid-ahead : (r₀ r : Parts) (p : Plan) (d k o w : ℕ) (x : ℕ → Option ℕ) → o ≢ 0 → o < ports p → w < link_channels p d → nat_lt o k ≡ false
    → ((s : Tile) → Shows r₀ p d s → Shows r p d (repaid x k s)) → count_at r.credits d (place p d o w) ≡ count_at r₀.credits d (place p d o w)
repaid-ahead r₀ r p d k o w x link o_in w_in ahead shows =
    (shows (mirror r₀ p d) (mirror-shows r₀ p d)).credits o w link o_in w_in
    ∙ ap (λ b. if b then count_at r₀.credits d (place p d o w) + one_if (is_pulse (x o) w) else count_at r₀.credits d (place p d o w)) ahead
