-- When a flit that is alone in its domain's network comes to the ejection place: cycles are counted along its route.
use Rattle.std.proofs.Common.{◌≡◌, ◌≢◌, ℕ, zero, suc, ◌+◌, ◌-◌, ◌*◌, ◌<◌, ◌≤◌, ◌⊎◌, inl, inr, true, List, [], ◌∷◌, length, ap, ◌∙◌, subst, arith}
use Rattle.std.specs.Prelude.{Some, pos}
use Rattle.noc_model.specs.declared.Flit.{Flit}
use Rattle.noc_model.specs.declared.Stage.TheVariants.{Idle, Active}
use Rattle.noc_model.specs.Plan.{Plan, hop, hosts}
use Rattle.noc_model.specs.Sound.{IsSound}
use Rattle.noc_model.specs.Place.{neighbour, opposite, is_wrap, route, owner}
use Rattle.noc_model.specs.Step.{one_if}
use Rattle.noc_model.specs.Run.{State, Input, state_after}
use Rattle.noc_model.specs.Lone.{IsRoute, waits}
use Rattle.noc_model.proofs.Kept.{positive-sound, wave-sound}
use Rattle.noc_model.proofs.Ports.{linked-port}
use Rattle.noc_model.proofs.LoneState.{same-or-not, IsListed, IsLinked, IsCalm}
use Rattle.noc_model.proofs.LoneMoves.{idle-routed, routed-active, active-waits}
use Rattle.noc_model.proofs.LoneLinks.{active-sent, active-ejected, linked-shifted, linked-arrived}
use Rattle.noc_model.proofs.LoneRoute.{Goes, straight, wraps_round, ends, hop-goes, home-route}
use Rattle.noc_model.proofs.LoneSlot.{own-soon}

-- from cycle t on, and before cycle u, no word is taken
abbrev pub AreCalm : Plan → ℕ → (ℕ → Input) → ℕ → ℕ → Type 0
AreCalm p d xs t u = (k : ℕ) → t ≤ k → k < u → IsCalm p d k (state_after p d xs k) (xs k)

-- the flit is in a list of tile n, and has a channel of output o
pub record IsActive (p : Plan) (d : ℕ) (s : State) (f : Flit) (n o : ℕ) : Type 0 where
  pub port : ℕ
  pub channel : ℕ
  pub to : ℕ
  pub listed : IsListed p d s f n port channel (Active o to)

-- over the places of a link
shifts : (p : Plan) (d : ℕ) (xs : ℕ → Input) (f : Flit) (n o m w k j : ℕ) → j < p.stages → AreCalm p d xs k (k + j)
    → IsLinked p d (state_after p d xs k) f n o m w 0
    → IsLinked p d (state_after p d xs (k + j)) f n o m w j
shifts p d xs f n o m w k zero below calm is = let e : k ≡ k + 0 = omega arith in subst (λ q. IsLinked p d (state_after p d xs q) f n o m w 0) e is
shifts p d xs f n o m w k (suc j) below calm is =
    let earlier = shifts p d xs f n o m w k j (omega arith) (λ q low high. calm q low (omega arith)) is in
    let e : suc (k + j) ≡ k + suc j = omega arith in
    subst (λ q. IsLinked p d (state_after p d xs q) f n o m w (suc j)) e
    (linked-shifted p d (k + j) (state_after p d xs (k + j)) (xs (k + j)) f n o m w j (calm (k + j) (omega arith) (omega arith)) earlier below)

-- a flit that comes into a list is given a channel two cycles later
listed-active : (p : Plan) (d : ℕ) (xs : ℕ → Input) (f : Flit) (n port c k : ℕ) → AreCalm p d xs k (k + 2)
    → IsListed p d (state_after p d xs k) f n port c Idle
    → IsActive p d (state_after p d xs (suc (suc k))) f n (route p n f.dest)
listed-active p d xs f n port c k calm is =
    let routed = idle-routed p d k (state_after p d xs k) (xs k) f n port c (calm k (omega arith) (omega arith)) is in
    let active =
    routed-active p d (suc k) (state_after p d xs (suc k)) (xs (suc k)) f n port c (route p n f.dest) (calm (suc k) (omega arith) (omega arith)) routed in
    record { port = port; channel = c; to = active.0; listed = active.1 }

-- a hop from one link to the next
hops : (p : Plan) (d : ℕ) (xs : ℕ → Input) (f : Flit) (n o m k : ℕ) → IsSound p → f.tail ≡ true
    → AreCalm p d xs k (k + hop p) → IsActive p d (state_after p d xs k) f n o
    → neighbour p n o ≡ Some m → owner p n o (pos k) ≡ d
    → IsActive p d (state_after p d xs (k + hop p)) f m (route p m f.dest)
hops p d xs f n o m k sound tail calm is link owned =
    let some = sound.stages.0 in
    let now : IsCalm p d k (state_after p d xs k) (xs k) = calm k (omega arith) (omega arith) in
    let sent =
    active-sent p d k (state_after p d xs k) (xs k) f n is.port is.channel o is.to m now is.listed tail link owned in
    let last =
    shifts p d xs f n o m is.to (suc k) (p.stages - 1) (omega (arith, some)) (λ q low high. calm q (omega arith) (omega (arith, some))) sent in
    let q : ℕ = suc k + (p.stages - 1) in
    let come =
    linked-arrived p d q (state_after p d xs q) (xs q) f n o m is.to (p.stages - 1) (calm q (omega (arith, some)) (omega (arith, some))) last (omega (arith, some)) in
    let active =
    listed-active p d xs f m (opposite o) is.to (suc q) (λ y low high. calm y (omega (arith, some)) (omega (arith, some))) come in
    let e : suc (suc (suc q)) ≡ k + hop p = omega (arith, some) in
    subst (λ y. IsActive p d (state_after p d xs y) f m (route p m f.dest)) e active

-- after a wait of at most a cycles the domain owns the link
record Waited (p : Plan) (d : ℕ) (xs : ℕ → Input) (f : Flit) (n o k a : ℕ) : Type 0 where
  cycles : ℕ
  few : cycles ≤ a
  active : IsActive p d (state_after p d xs (k + cycles)) f n o
  owned : owner p n o (pos (k + cycles)) ≡ d

waited : (p : Plan) (d : ℕ) (xs : ℕ → Input) (f : Flit) (n o k a : ℕ) → o ≢ 0 → owner p n o (pos (k + a)) ≡ d
    → AreCalm p d xs k (k + a) → IsActive p d (state_after p d xs k) f n o
    → Waited p d xs f n o k a
waited p d xs f n o k zero link owned calm is =
    let e : k ≡ k + 0 = omega arith in
    record { cycles = 0; few = omega arith; active = subst (λ q. IsActive p d (state_after p d xs q) f n o) e is; owned = owned }
waited p d xs f n o k (suc a) link owned calm is =
    go (same-or-not (owner p n o (pos k)) d) (λ next. waited p d xs f n o (suc k) a link (subst (λ q. owner p n o (pos q) ≡ d) up owned) (λ q low high. calm q (omega arith) (omega arith)) next)
  where
    up : k + suc a ≡ suc k + a
    up = omega arith

    go : (owner p n o (pos k) ≡ d) ⊎ (owner p n o (pos k) ≢ d)
        → (IsActive p d (state_after p d xs (suc k)) f n o → Waited p d xs f n o (suc k) a)
        → Waited p d xs f n o k (suc a)
    go (inl own) rest =
        let e : k ≡ k + 0 = omega arith in
        record { cycles = 0; few = omega arith; active = subst (λ q. IsActive p d (state_after p d xs q) f n o) e is; owned = subst (λ q. owner p n o (pos q) ≡ d) e own }
    go (inr other) rest =
        let stays =
        active-waits p d k (state_after p d xs k) (xs k) f n is.port is.channel o is.to (calm k (omega arith) (omega arith)) is.listed link other in
        let later = rest (record { port = is.port; channel = is.channel; to = is.to; listed = stays }) in
        let e : suc k + later.cycles ≡ k + suc later.cycles = omega arith in
        record {
          cycles = suc later.cycles;
          few = omega (arith, later.few);
          active = subst (λ q. IsActive p d (state_after p d xs q) f n o) e later.active;
          owned = subst (λ q. owner p n o (pos q) ≡ d) e later.owned;
        }

-- it comes to the ejection place of its tile in one of the cycles from first to last
pub record ComesHome (p : Plan) (d : ℕ) (xs : ℕ → Input) (f : Flit) (first last : ℕ) : Type 0 where
  pub cycle : ℕ
  pub from : first ≤ cycle
  pub until : cycle ≤ last
  pub ejected : (state_after p d xs cycle f.dest).ejected ≡ Some f

-- the first wait is among the waits that are left, or is over
abbrev pub MayWait : Plan → ℕ → ℕ → ℕ → ℕ → List ℕ → ℕ → Type 0
MayWait p d dest n k ms left =
    (waits p dest n ms ≤ left) ⊎ ((owner p n (route p n dest) (pos k) ≡ d) × (waits p dest n ms ≤ left + 1))

-- the flit waits for the first link of the rest of the route, and then has some waits left
record Starts (p : Plan) (d : ℕ) (xs : ℕ → Input) (f : Flit) (n k left : ℕ) (ms : List ℕ) : Type 0 where
  cycles : ℕ
  next : ℕ
  count : cycles + (length p.slots - 1) * next ≤ (length p.slots - 1) * left
  few : waits p f.dest n ms ≤ next + 1
  active : IsActive p d (state_after p d xs (k + cycles)) f n (route p n f.dest)
  owned : owner p n (route p n f.dest) (pos (k + cycles)) ≡ d

starts : (p : Plan) (d : ℕ) (xs : ℕ → Input) (f : Flit) (n k left : ℕ) (ms : List ℕ) → IsSound p → d < length p.domains
    → route p n f.dest ≢ 0 → 1 ≤ waits p f.dest n ms
    → AreCalm p d xs k (k + (length p.slots - 1) * left) → IsActive p d (state_after p d xs k) f n (route p n f.dest)
    → MayWait p d f.dest n k ms left
    → Starts p d xs f n k left ms
starts p d xs f n k left ms sound there link some calm is (inr straight_on) =
    let e : k ≡ k + 0 = omega arith in
    record {
      cycles = 0;
      next = left;
      count = omega arith;
      few = straight_on.1;
      active = subst (λ q. IsActive p d (state_after p d xs q) f n (route p n f.dest)) e is;
      owned = subst (λ q. owner p n (route p n f.dest) (pos q) ≡ d) e straight_on.0;
    }
starts p d xs f n k left ms sound there link some calm is (inl fresh) =
    let more : left ≡ left - 1 + 1 = omega (arith, some, fresh) in
    let all : (length p.slots - 1) * left ≡ (length p.slots - 1) * (left - 1) + (length p.slots - 1) =
    turn (length p.slots - 1) left (left - 1) more in
    let soon = own-soon p d n (route p n f.dest) k sound there link in
    let wait =
    waited p d xs f n (route p n f.dest) k soon.0 link soon.2 (λ q low high. calm q low (omega (arith, all, soon.1, high))) is in
    record {
      cycles = wait.cycles;
      next = left - 1;
      count = omega (arith, wait.few, soon.1, all);
      few = omega (arith, fresh, more);
      active = wait.active;
      owned = wait.owned;
    }
  where
    turn : (a x y : ℕ) → x ≡ y + 1 → a * x ≡ a * y + a
    turn a x y e = omega (arith, ap (λ z. a * z) e)

-- behind a link
next-wait : (p : Plan) (d dest n m k next : ℕ) (ms : List ℕ) → IsSound p → neighbour p n (route p n dest) ≡ Some m
    → owner p n (route p n dest) (pos k) ≡ d
    → waits p dest n (m ∷ ms) ≤ next + 1 → MayWait p d dest m (k + hop p) ms next
next-wait p d dest n m k next ms sound link owned few = go (hop-goes p n dest m (positive-sound p sound) link)
  where
    go : Goes p n dest m → MayWait p d dest m (k + hop p) ms next
    go (straight none same level some) =
        let zero_wraps : one_if (is_wrap p n (route p n dest)) ≡ 0 = ap one_if none in
        inr (
          ap (λ o. owner p m o (pos (k + hop p))) same ∙ wave-sound p n (route p n dest) m (pos k) sound link none
              ∙ owned,
          omega (arith, few, zero_wraps, level),
        )
    go (wraps_round is low) =
        let one : one_if (is_wrap p n (route p n dest)) ≡ 1 = ap one_if is in
        inl (omega (arith, few, one, low))
    go (ends low) = inl (omega (arith, few, low))

-- a link leaves something to wait for
some-waits : (p : Plan) (dest n m : ℕ) (ms : List ℕ) → IsSound p → neighbour p n (route p n dest) ≡ Some m
    → 1 ≤ waits p dest n (m ∷ ms)
some-waits p dest n m ms sound link = go (hop-goes p n dest m (positive-sound p sound) link)
  where
    go : Goes p n dest m → 1 ≤ waits p dest n (m ∷ ms)
    go (straight none same level some) = omega (arith, some)
    go (wraps_round is low) = let one : one_if (is_wrap p n (route p n dest)) ≡ 1 = ap one_if is in omega (arith, one)
    go (ends low) = omega (arith, low)

-- along the rest of the route
pub along : (p : Plan) (d : ℕ) (xs : ℕ → Input) (f : Flit) (ms : List ℕ) (n k left : ℕ) → IsSound p
    → d < length p.domains → f.tail ≡ true → hosts p f.dest d ≡ true
    → IsRoute p f.dest n ms → MayWait p d f.dest n k ms left
    → AreCalm p d xs k (k + 1 + hop p * length ms + (length p.slots - 1) * left)
    → IsActive p d (state_after p d xs k) f n (route p n f.dest)
    → ComesHome p d xs f (k + 1 + hop p * length ms) (k + 1 + hop p * length ms + (length p.slots - 1) * left)
along p d xs f [] n k left sound there tail hosted route_is may calm is =
    let home = home-route p f.dest in
    let out : route p n f.dest ≡ 0 = ap (λ q. route p q f.dest) route_is ∙ home in
    let listed : IsListed p d (state_after p d xs k) f n is.port is.channel (Active 0 is.to) =
    subst (λ o. IsListed p d (state_after p d xs k) f n is.port is.channel (Active o is.to)) out is.listed in
    let hosted_here : hosts p n d ≡ true = ap (λ q. hosts p q d) route_is ∙ hosted in
    let got =
    active-ejected p d k (state_after p d xs k) (xs k) f n is.port is.channel is.to (calm k (omega arith) (omega arith)) listed hosted_here in
    record {
      cycle = suc k;
      from = omega arith;
      until = omega arith;
      ejected = subst (λ q. (state_after p d xs (suc k) q).ejected ≡ Some f) route_is got;
    }
along p d xs f (m ∷ ms) n k left sound there tail hosted route_is may calm is =
    let go = starts p d xs f n k left (m ∷ ms) sound there (linked-port p n (route p n f.dest) m route_is.0) (some-waits p f.dest n m ms sound route_is.0)
    (λ q low high. calm q low (omega (arith, high))) is may in
    let active =
    hops p d xs f n (route p n f.dest) m (k + go.cycles) sound tail (λ q low high. calm q (omega (arith, low)) (omega (arith, go.count, high))) go.active route_is.0 go.owned in
    let rest = along p d xs f ms m (k + go.cycles + hop p) go.next sound there tail hosted route_is.1
    (next-wait p d f.dest n m (k + go.cycles) go.next ms sound route_is.0 go.owned go.few)
    (λ q low high. calm q (omega (arith, low)) (omega (arith, go.count, high))) active in
    record {
      cycle = rest.cycle;
      from = omega (arith, rest.from);
      until = omega (arith, rest.until, go.count);
      ejected = rest.ejected;
    }

-- from its own list on
pub comes-home : (p : Plan) (d : ℕ) (xs : ℕ → Input) (f : Flit) (ms : List ℕ) (n c k : ℕ) → IsSound p
    → d < length p.domains → f.tail ≡ true → hosts p f.dest d ≡ true
    → IsRoute p f.dest n ms → AreCalm p d xs k (k + 3 + hop p * length ms + (length p.slots - 1) * waits p f.dest n ms)
    → IsListed p d (state_after p d xs k) f n 0 c Idle
    → ComesHome p d xs f (k + 3 + hop p * length ms) (k + 3 + hop p * length ms + (length p.slots - 1) * waits p f.dest n ms)
comes-home p d xs f ms n c k sound there tail hosted route_is calm is =
    let active = listed-active p d xs f n 0 c k (λ q low high. calm q low (omega (arith, high))) is in
    let home = along p d xs f ms n (suc (suc k)) (waits p f.dest n ms) sound there tail hosted route_is (inl (omega arith))
    (λ q low high. calm q (omega (arith, low)) (omega (arith, high))) active in
    record { cycle = home.cycle; from = omega (arith, home.from); until = omega (arith, home.until); ejected = home.ejected }
