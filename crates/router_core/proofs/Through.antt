-- The tile after one grant more.
use Rattle.std.proofs.Common.{◌≡◌, ◌≢◌, ℕ, zero, suc, ◌+◌, ◌-◌, ◌<◌, Bool, true, false, List, drop, refl, sym, ap, ◌∙◌, arith, ⊎_elim, Option, Some, None}
use Rattle.std.specs.Prelude.{◌==◌, ◌&&◌, not, if◌then◌else◌}
use Rattle.std.proofs.lemmas.Bool.Decides.{eqb_tells}
use Rattle.noc_model.specs.declared.Flit.{Flit}
use Rattle.noc_model.specs.declared.LinkFlit.{LinkFlit}
use Rattle.noc_model.specs.declared.Grant.{Grant}
use Rattle.noc_model.specs.declared.Stage.{Stage}
use Rattle.noc_model.specs.declared.Stage.TheVariants.{Idle}
use Rattle.noc_model.specs.Plan.{Plan, ports, at_local}
use Rattle.noc_model.specs.Tile.{Tile}
use Rattle.noc_model.specs.Step.{front, is_tail, is_channel, is_on, is_tail_on, one_if, after, after_grant}
use Rattle.router_core.specs.Parts.{Parts}
use Rattle.router_core.specs.Shown.{Shows}
use Rattle.router_core.specs.Sends.{is_at, passed, turned}
use Rattle.router_core.specs.Crossing.{through}

eqb-swap : (a b : ℕ) → (a == b) ≡ (b == a)
eqb-swap a b = ⊎_elim
    (λ z. ap (λ k. a == k) (sym z.1) ∙ ap (λ k. k == a) z.1)
    (λ z. ⊎_elim (λ y. absurd (z.1 (sym y.1))) (λ y. z.0 ∙ sym y.0) (eqb_tells b a))
    (eqb_tells a b)

and-true : (a : Bool) → (a && true) ≡ a
and-true true = refl
and-true false = refl

and-false : (a : Bool) → (a && false) ≡ false
and-false true = refl
and-false false = refl

drop-one : (b : Bool) (fs : List Flit) → (if b then drop 1 (drop 0 fs) else drop 0 fs) ≡ drop (one_if b) fs
drop-one true fs = refl
drop-one false fs = refl

local-twice : (q : ℕ) (a b : Bool) → at_local q (at_local q false a) b ≡ at_local q false b
local-twice zero a b = refl
local-twice (suc q) a b = refl

one-less : (b : Bool) (n : ℕ) → (if b then n - 0 - 1 else n - 0) ≡ n - one_if b
one-less true n = let e : n - 0 ≡ n = omega arith in ap (λ m. m - 1) e
one-less false n = refl

-- the same grants, flits and choices give the same tile
pub through-same : (r : Parts) (p : Plan) (d : ℕ) (v : Tile) (G G' : ℕ → Option Grant) (X X' : ℕ → Option LinkFlit) (C C' : ℕ → Option ℕ)
    → ((q : ℕ) → q < ports p → G' q ≡ G q) → ((q : ℕ) → q < ports p → X' q ≡ X q) → ((q : ℕ) → q < ports p → C' q ≡ C q) → Shows r p d (through v G X C) → Shows r p d (through v G' X' C')
through-same r p d v G G' X X' C C' g x c shown = record {
  queue = λ q k q_in k_in. shown.queue q k q_in k_in ∙ ap (λ z. drop (one_if (is_channel z k)) (v.queue q k)) (sym (g q q_in));
  stage = λ q k q_in k_in. shown.stage q k q_in k_in ∙ ap (λ z. if is_channel z k && is_tail (front (v.queue q k)) then Idle else v.stage q k) (sym (g q q_in));
  pulse = λ q k q_in k_in. shown.pulse q k q_in k_in ∙ ap (λ z. at_local q false (is_channel z k)) (sym (g q q_in));
  held = λ o w o_in w_in. shown.held o w o_in w_in ∙ ap (λ z. v.held o w && not (is_tail_on z w)) (sym (x o o_in));
  credits = λ o w linked o_in w_in. shown.credits o w linked o_in w_in ∙ ap (λ z. v.credits o w - one_if (is_on z w)) (sym (x o o_in));
  allocation = shown.allocation;
  switch = λ o o_in. shown.switch o o_in ∙ ap (λ z. after z (v.switch o)) (sym (c o o_in));
  turn = λ q q_in. shown.turn q q_in ∙ ap (λ z. after_grant z (v.turn q)) (sym (g q q_in));
  packet = shown.packet;
  current = shown.current;
  dropped = shown.dropped;
  ejected = shown.ejected;
}

-- output o granted the flit f of the input port, beside these grants
module _ (v : Tile) (G G' : ℕ → Option Grant) (X X' : ℕ → Option LinkFlit) (C C' : ℕ → Option ℕ) (o port : ℕ) (g : Grant) (f : Flit) (out : g.out ≡ o) (first : front (v.queue port g.channel) ≡ Some f)
    (g-none : G port ≡ None) (g-some : G' port ≡ Some g) (g-same : (q : ℕ) → q ≢ port → G' q ≡ G q)
    (x-none : X o ≡ None) (x-some : X' o ≡ Some (record { channel = g.to; flit = f })) (x-same : (q : ℕ) → q ≢ o → X' q ≡ X q)
    (c-some : C' o ≡ Some port) (c-same : (q : ℕ) → q ≢ o → C' q ≡ C q) where
  abbrev old : Tile
  old = turned (through v G X C) o port g

  abbrev new : Tile
  new = through v G' X' C'

  ends-too : is_tail (front (old.queue port g.channel)) ≡ f.tail
  ends-too = ap (λ z. is_tail (front (drop (one_if (is_channel z g.channel)) (v.queue port g.channel)))) g-none ∙ ap is_tail first

  queue-next : (q c : ℕ) → (passed old port g).queue q c ≡ new.queue q c
  queue-next q c =
      let fs = v.queue q c in
      let at : Bool → Option Grant → List Flit = λ b z. if b then drop 1 (drop (one_if (is_channel z c)) fs) else drop (one_if (is_channel z c)) fs in
      ⊎_elim
      (λ z. ap (λ b. at (b && (c == g.channel)) (G q)) z.0 ∙ ap (at (c == g.channel)) (ap G z.1 ∙ g-none) ∙ drop-one (c == g.channel) fs
      ∙ ap (λ b. drop (one_if b) fs) (eqb-swap c g.channel) ∙ ap (λ y. drop (one_if (is_channel y c)) fs) (sym (ap G' z.1 ∙ g-some)))
      (λ z. ap (λ b. at (b && (c == g.channel)) (G q)) z.0 ∙ ap (λ y. drop (one_if (is_channel y c)) fs) (sym (g-same q z.1)))
      (eqb_tells q port)

  stage-next : (q c : ℕ) → (passed old port g).stage q c ≡ new.stage q c
  stage-next q c =
      let st = v.stage q c in
      let keeps : Option Grant → Stage = λ y. if is_channel y c && is_tail (front (v.queue q c)) then Idle else st in
      ap (λ b. if is_at q c port g.channel && b then Idle else old.stage q c) ends-too
      ∙ ⊎_elim
      (λ z. ap (λ b. if (b && (c == g.channel)) && f.tail then Idle else keeps (G q)) z.0
      ∙ ap (λ y. if (c == g.channel) && f.tail then Idle else keeps y) (ap G z.1 ∙ g-none)
      ∙ ⊎_elim
      (λ y. ap (λ b. if b && f.tail then Idle else st) y.0
      ∙ ap (λ b. if b then Idle else st) (sym (ap (λ a. is_tail (front (v.queue a c))) z.1 ∙ ap (λ a. is_tail (front (v.queue port a))) y.1 ∙ ap is_tail first))
      ∙ ap (λ b. if b && is_tail (front (v.queue q c)) then Idle else st) (sym (eqb-swap g.channel c ∙ y.0)))
      (λ y. ap (λ b. if b && f.tail then Idle else st) y.0 ∙ ap (λ b. if b && is_tail (front (v.queue q c)) then Idle else st) (sym (eqb-swap g.channel c ∙ y.0)))
      (eqb_tells c g.channel)
      ∙ ap keeps (sym (ap G' z.1 ∙ g-some)))
      (λ z. ap (λ b. if (b && (c == g.channel)) && f.tail then Idle else keeps (G q)) z.0 ∙ ap keeps (sym (g-same q z.1)))
      (eqb_tells q port)

  pulse-next : (q c : ℕ) → (passed old port g).pulse q c ≡ new.pulse q c
  pulse-next q c = ⊎_elim
      (λ z. ap (λ b. if b then at_local q (at_local q false (is_channel (G q) c)) (g.channel == c) else at_local q false (is_channel (G q) c)) z.0
      ∙ local-twice q (is_channel (G q) c) (g.channel == c) ∙ ap (λ y. at_local q false (is_channel y c)) (sym (ap G' z.1 ∙ g-some)))
      (λ z. ap (λ b. if b then at_local q (at_local q false (is_channel (G q) c)) (g.channel == c) else at_local q false (is_channel (G q) c)) z.0
      ∙ ap (λ y. at_local q false (is_channel y c)) (sym (g-same q z.1)))
      (eqb_tells q port)

  held-next : (q w : ℕ) → (passed old port g).held q w ≡ new.held q w
  held-next q w =
      let h = v.held q w in
      ap (λ b. (h && not (is_tail_on (X q) w)) && not (b && is_at q w g.out g.to)) ends-too
      ∙ ap (λ k. (h && not (is_tail_on (X q) w)) && not (f.tail && is_at q w k g.to)) out
      ∙ ⊎_elim
      (λ z. ap (λ b. (h && not (is_tail_on (X q) w)) && not (f.tail && (b && (w == g.to)))) z.0
      ∙ ap (λ y. (h && not (is_tail_on y w)) && not (f.tail && (w == g.to))) (ap X z.1 ∙ x-none)
      ∙ ap (λ b. b && not (f.tail && (w == g.to))) (and-true h)
      ∙ ap (λ b. h && not (f.tail && b)) (eqb-swap w g.to) ∙ ap (λ y. h && not (is_tail_on y w)) (sym (ap X' z.1 ∙ x-some)))
      (λ z. ap (λ b. (h && not (is_tail_on (X q) w)) && not (f.tail && (b && (w == g.to)))) z.0
      ∙ ap (λ b. (h && not (is_tail_on (X q) w)) && not b) (and-false f.tail) ∙ and-true (h && not (is_tail_on (X q) w))
      ∙ ap (λ y. h && not (is_tail_on y w)) (sym (x-same q z.1)))
      (eqb_tells q o)

  credits-next : (q w : ℕ) → (passed old port g).credits q w ≡ new.credits q w
  credits-next q w =
      let n = v.credits q w in
      let at : Bool → Option LinkFlit → ℕ = λ b y. if b then n - one_if (is_on y w) - 1 else n - one_if (is_on y w) in
      ap (λ k. at (is_at q w k g.to) (X q)) out
      ∙ ⊎_elim
      (λ z. ap (λ b. at (b && (w == g.to)) (X q)) z.0 ∙ ap (at (w == g.to)) (ap X z.1 ∙ x-none) ∙ one-less (w == g.to) n
      ∙ ap (λ b. n - one_if b) (eqb-swap w g.to) ∙ ap (λ y. n - one_if (is_on y w)) (sym (ap X' z.1 ∙ x-some)))
      (λ z. ap (λ b. at (b && (w == g.to)) (X q)) z.0 ∙ ap (λ y. n - one_if (is_on y w)) (sym (x-same q z.1)))
      (eqb_tells q o)

  switch-next : (q : ℕ) → (passed old port g).switch q ≡ new.switch q
  switch-next q =
      let at : Bool → ℕ = λ b. if b then port + 1 else after (C q) (v.switch q) in
      ⊎_elim
      (λ z. ap at z.0 ∙ ap (λ y. after y (v.switch q)) (sym (ap C' z.1 ∙ c-some)))
      (λ z. ap at z.0 ∙ ap (λ y. after y (v.switch q)) (sym (c-same q z.1)))
      (eqb_tells q o)

  turn-next : (q : ℕ) → (passed old port g).turn q ≡ new.turn q
  turn-next q =
      let at : Bool → ℕ = λ b. if b then g.channel + 1 else after_grant (G q) (v.turn q) in
      ⊎_elim
      (λ z. ap at z.0 ∙ ap (λ y. after_grant y (v.turn q)) (sym (ap G' z.1 ∙ g-some)))
      (λ z. ap at z.0 ∙ ap (λ y. after_grant y (v.turn q)) (sym (g-same q z.1)))
      (eqb_tells q port)

  pub through-next : (r : Parts) (p : Plan) (d : ℕ) → Shows r p d (passed old port g) → Shows r p d new
  through-next r p d shown = record {
    queue = λ q c q_in c_in. shown.queue q c q_in c_in ∙ queue-next q c;
    stage = λ q c q_in c_in. shown.stage q c q_in c_in ∙ stage-next q c;
    pulse = λ q c q_in c_in. shown.pulse q c q_in c_in ∙ pulse-next q c;
    held = λ q w q_in w_in. shown.held q w q_in w_in ∙ held-next q w;
    credits = λ q w linked q_in w_in. shown.credits q w linked q_in w_in ∙ credits-next q w;
    allocation = shown.allocation;
    switch = λ q q_in. shown.switch q q_in ∙ switch-next q;
    turn = λ q q_in. shown.turn q q_in ∙ turn-next q;
    packet = shown.packet;
    current = shown.current;
    dropped = shown.dropped;
    ejected = shown.ejected;
  }
