-- The switch at the start, and what is asked for so far.
use Rattle.std.proofs.Common.{◌≡◌, ℕ, zero, suc, ◌<◌, ◌≤◌, Bool, true, false, List, [], ◌∷◌, length, map, replicate, set, get_or, refl, sym, ap, ◌∙◌, arith, length-set, get_or-set_same, get_or-set_other, ⊎_elim, Option, Some, None}
use Rattle.std.specs.Prelude.{if◌then◌else◌, slice_get, IfSome}
use Rattle.std.specs.List.{range_with_len}
use Rattle.std.proofs.lemmas.Bool.{cases_lt}
use Rattle.std.proofs.lemmas.Bool.Decides.{eqb_tells}
use Rattle.std.proofs.lemmas.List.{get_or_past, length-replicate}
use Rattle.std.proofs.lemmas.List.FromFn.{get_or-map-range_with_len, length-map-range_with_len}
use Rattle.noc_model.specs.declared.Grant.{Grant}
use Rattle.noc_model.specs.Plan.{Plan, ports}
use Rattle.noc_model.specs.Sound.{IsSound}
use Rattle.noc_model.specs.Tile.{start_tile}
use Rattle.vc_partition.specs.Lanes.{lane}
use Rattle.vc_partition.specs.Picks.{comes_first}
use Rattle.slot_switch.specs.Switch.{Switch, ask_at, better_ask, with_ask, IsSwitch, start_of}
use Rattle.slot_switch.specs.Shown.{IsFor, Keeps}

-- lanes by number
pub map-lanes : {T : Type 0} (f : ℕ → ℕ) (x : T) (xs : List ℕ)
    → map (λ c. replicate c x) (map f xs) ≡ map (λ d. replicate (f d) x) xs
map-lanes f x [] = refl
map-lanes f x (y ∷ ys) = ap (λ zs. replicate (f y) x ∷ zs) (map-lanes f x ys)

-- a list with one value everywhere is read so, also past its end
pub filled : {T : Type 0} (x : T) (n j : ℕ) → get_or (replicate n x) j x ≡ x
filled x zero j = refl
filled x (suc n) zero = refl
filled x (suc n) (suc j) = filled x n j

-- where each place of the lanes has the same value, each is read so, also where there is none
all-filled : {T : Type 0} (f : ℕ → ℕ) (x : T) (xs : List ℕ) (d k : ℕ)
    → get_or (lane (map (λ d. replicate (f d) x) xs) d) k x ≡ x
all-filled f x [] d k = refl
all-filled f x (y ∷ ys) zero k = filled x (f y) k
all-filled f x (y ∷ ys) (suc d) k = all-filled f x ys d k

module _ (p : Plan) where
  abbrev count : ℕ
  count = length p.domains

  places : {T : Type 0} (x : T) (d : ℕ) → d < count
      → length (lane (map (λ d. replicate (ports p) x) (range_with_len 0 count)) d) ≡ ports p
  places x d there =
      ap length (get_or-map-range_with_len (λ d. replicate (ports p) x) 0 count d d [] there (omega arith))
      ∙ length-replicate (ports p) x

  lanes-many : {T : Type 0} (x : T) → length (map (λ d. replicate (ports p) x) (range_with_len 0 count)) ≡ count
  lanes-many x = length-map-range_with_len (λ d. replicate (ports p) x) 0 count

  abbrev none : Option Grant
  none = None

  pub is-start : IsSound p → IsSwitch (start_of p)
  is-start sound = record {
    few_ports = let a = sound.dims in omega (arith, a);
    turns = lanes-many 0 ∙ sym (lanes-many none);
    switches = lanes-many 0 ∙ sym (lanes-many none);
    ask_places = λ d there. places none d (let a = lanes-many none in omega (arith, a, there));
    turn_places = λ d there. places 0 d (let a = lanes-many none in omega (arith, a, there));
    switch_places = λ d there. places 0 d (let a = lanes-many none in omega (arith, a, there));
    channels = λ d port g e. absurd (let bad = sym (all-filled (λ d. ports p) none (range_with_len 0 count) d port) ∙ e in cc bad);
  }

  pub start-for : IsFor (start_of p) p
  start-for = record { domains = lanes-many none; port_count = refl }

  pub start-keeps : (d : ℕ) → Keeps (start_of p) p d (start_tile p)
  start-keeps d = record {
    turn = λ k there. all-filled (λ d. ports p) 0 (range_with_len 0 count) d k;
    switch = λ o there. all-filled (λ d. ports p) 0 (range_with_len 0 count) d o;
  }

  -- a switch that is made of the lists of a plan is the one at the start
  pub start-is : (n : ℕ) (gs : List (List (Option Grant))) (ts ss : List (List ℕ)) (o₁ o₂ o₃ : List ℕ) → n ≡ ports p
      → o₁ ≡ map (λ d. ports p) (range_with_len 0 count) → o₂ ≡ map (λ d. ports p) (range_with_len 0 count)
      → o₃ ≡ map (λ d. ports p) (range_with_len 0 count)
      → gs ≡ map (λ c. replicate c None) o₁ → ts ≡ map (λ c. replicate c 0) o₂ → ss ≡ map (λ c. replicate c 0) o₃
      → (let x : Switch = record { ports = n; asks = gs; turns = ts; switches = ss } in x) ≡ start_of p
  start-is n gs ts ss o₁ o₂ o₃ en e₁ e₂ e₃ ea et es =
      let a = ea ∙ ap (map (λ c. replicate c None)) e₁ ∙ map-lanes (λ d. ports p) None (range_with_len 0 count) in
      let t = et ∙ ap (map (λ c. replicate c 0)) e₂ ∙ map-lanes (λ d. ports p) 0 (range_with_len 0 count) in
      let s = es ∙ ap (map (λ c. replicate c 0)) e₃ ∙ map-lanes (λ d. ports p) 0 (range_with_len 0 count) in
      rw (en, a, t, s) refl

get-some : {T : Type 0} (xs : List T) (i : ℕ) (r d : T) → slice_get xs i ≡ Some r → get_or xs i d ≡ r
get-some [] i r d e = absurd (cc e)
get-some (x ∷ xs) zero r d e = cc e
get-some (x ∷ xs) (suc i) r d e = get-some xs i r d e

-- what is read of the asks is of a channel that there is
pub read-channel : (x : Switch) (d port : ℕ) (r : Option Grant) → IsSwitch x → slice_get (lane x.asks d) port ≡ Some r
    → IfSome r (λ g. g.channel < 8)
read-channel x d port None whole e = tt
read-channel x d port (Some g) whole e = whole.channels d port g (get-some (lane x.asks d) port (Some g) None e)

-- what is read back where a value was put, if anything, is the value
set-some : {T : Type 0} (xs : List (Option T)) (o : ℕ) (n : Option T) (b : T) → get_or (set xs o n) o None ≡ Some b
    → n ≡ Some b
set-some xs o n b e = ⊎_elim
    (λ (less : o < length xs). sym (get_or-set_same xs o n None less) ∙ e)
    (λ (past : length xs ≤ o). absurd (let none = get_or_past (set xs o n) o None (let a = length-set xs o n in omega (arith, a, past)) in let bad = sym none ∙ e in cc bad))
    (cases_lt o (length xs))

lane-length : {T : Type 0} (v : List (List T)) (d i e : ℕ) (x : T) → d < length v
    → length (lane (set v d (set (lane v d) i x)) e) ≡ length (lane v e)
lane-length v d i e x there = ⊎_elim
    (λ w. let same : e ≡ d = w.1 in
    ap (λ k. length (lane (set v d (set (lane v d) i x)) k)) same
    ∙ ap length (get_or-set_same v d (set (lane v d) i x) _ there) ∙ length-set (lane v d) i x
    ∙ ap (λ k. length (lane v k)) (sym same))
    (λ w. ap length (get_or-set_other v d e (set (lane v d) i x) [] w.1))
    (eqb_tells e d)

with-channels : (x : Switch) (d port : ℕ) (n : Option Grant) → d < length x.asks → IsSwitch x
    → ((g : Grant) → n ≡ Some g → g.channel < 8)
    → (e k : ℕ) (g : Grant) → ask_at (with_ask x d port n) e k ≡ Some g → g.channel < 8
with-channels x d port n there old new e k g is = ⊎_elim
    (λ w. let own : lane (set x.asks d (set (lane x.asks d) port n)) e ≡ set (lane x.asks d) port n =
    ap (lane (set x.asks d (set (lane x.asks d) port n))) w.1
    ∙ get_or-set_same x.asks d (set (lane x.asks d) port n) [] there in
    let at : get_or (set (lane x.asks d) port n) k None ≡ Some g = sym (ap (λ l. get_or l k None) own) ∙ is in
    ⊎_elim
    (λ u. new g (set-some (lane x.asks d) port n g (ap (λ j. get_or (set (lane x.asks d) port n) j None) (sym u.1) ∙ at)))
    (λ u. old.channels d k g (sym (get_or-set_other (lane x.asks d) port k n None u.1) ∙ at))
    (eqb_tells k port))
    (λ w. old.channels e k g (sym (ap (λ l. get_or l k None) (get_or-set_other x.asks d e (set (lane x.asks d) port n) [] w.1)) ∙ is))
    (eqb_tells e d)

-- a switch where a port asks for another channel that there is, is a switch
pub still-switch : (x : Switch) (d port : ℕ) (n : Option Grant) → d < length x.asks → IsSwitch x
    → ((g : Grant) → n ≡ Some g → g.channel < 8) → IsSwitch (with_ask x d port n)
still-switch x d port n there whole new =
    let long : length (set x.asks d (set (lane x.asks d) port n)) ≡ length x.asks = length-set x.asks d _ in
    record {
      few_ports = whole.few_ports;
      turns = whole.turns ∙ sym long;
      switches = whole.switches ∙ sym long;
      ask_places = λ e inside. lane-length x.asks d port e n there ∙ whole.ask_places e (omega (arith, inside, long));
      turn_places = λ e inside. whole.turn_places e (omega (arith, inside, long));
      switch_places = λ e inside. whole.switch_places e (omega (arith, inside, long));
      channels = with-channels x d port n there whole new;
    }

pub better-channel : (pointer : ℕ) (best : Option Grant) (g : Grant) → ((b : Grant) → best ≡ Some b → b.channel < 8)
    → g.channel < 8 → (better_ask pointer best g).channel < 8
better-channel pointer None g old new = new
better-channel pointer (Some b) g old new = go (comes_first pointer g.channel b.channel)
  where
    go : (t : Bool) → (if t then g else b).channel < 8
    go true = new
    go false = old b refl
