-- A tile's step moves flits, and neither makes nor loses any.
use Rattle.std.proofs.Common.{◌≡◌, ◌≢◌, ℕ, zero, suc, ◌+◌, ◌-◌, ◌<◌, ◌≤◌, inl, inr, Bool, true, false, Option, List, [], ◌∷◌, ◌++◌, drop, refl, sym, ap, ◌∙◌, subst, arith, ◌==◌, ◌||◌, ℤ}
use Rattle.std.specs.Prelude.{Some, None, is_some, is_none, if◌then◌else◌, option_to_list}
use Rattle.std.proofs.lemmas.Bool.Decides.{nat_tests}
use Rattle.std.proofs.lemmas.List.Sums.{sum_by-append}
use Rattle.noc_model.specs.declared.Flit.{Flit}
use Rattle.noc_model.specs.declared.LinkFlit.{LinkFlit}
use Rattle.noc_model.specs.declared.Grant.{Grant}
use Rattle.noc_model.specs.Plan.{Plan, hosts, ports, channels, link_channels, at_local, in_channels}
use Rattle.noc_model.specs.Place.{neighbour}
use Rattle.noc_model.specs.Tile.{Tile, TileIn}
use Rattle.noc_model.specs.Step.{takes, grant, leaves, front, sent, is_on, flit_on, one_if, shifted, word_in, entry, comes_in, next_ejected, tile_step}
use Rattle.noc_model.specs.SoundState.{IsOutput, HasOutput}
use Rattle.noc_model.specs.Same.{IsBareTile, IsPlacedTile, IsUnattached}
use Rattle.noc_model.specs.Flits.{gathered, where_there, is_port, in_lists, flit_of, on_links, to_be_heard, inside_tile}
use Rattle.noc_model.proofs.Switch.{grant-ready, sent-by, sent-taken}
use Rattle.noc_model.proofs.Away.{nothing-ejected}
use Rattle.noc_model.proofs.Totals.{total, total-same, total-none, total-one, total-add, counted}
use Rattle.noc_model.proofs.Switched.{weight, granted_weight, left-weight, switched}

-- ---- weights

pub weight-gathered : (v : Flit → ℕ) (n : ℕ) (f : ℕ → List Flit)
    → weight v (gathered n f) ≡ total n (λ k. weight v (f k))
weight-gathered v zero f = refl
weight-gathered v (suc n) f =
    sum_by-append v (gathered n f) (f n) ∙ ap (λ k. k + weight v (f n)) (weight-gathered v n f)

pub weight-there : (v : Flit → ℕ) (b : Bool) (fs : List Flit) → weight v (where_there b fs) ≡ counted b (weight v fs)
weight-there v true fs = refl
weight-there v false fs = refl

pub counted-add : (b : Bool) (x y z w : ℕ) → x + y ≡ z + w → counted b x + counted b y ≡ counted b z + counted b w
counted-add true x y z w e = e
counted-add false x y z w e = refl

-- the local port's part, and the rest
pub total-local : (n a : ℕ) (f : ℕ → ℕ) → 0 < n → f 0 ≡ 0 → total n (λ k. at_local k a (f k)) ≡ a + total n f
total-local zero a f some none = absurd (omega arith)
total-local (suc zero) a f some none = omega (arith, none)
total-local (suc (suc n)) a f some none = omega (arith, total-local (suc n) a f (omega arith) none)

-- ---- the lists

weight-dropped : (v : Flit → ℕ) (b : Bool) (fs : List Flit)
    → weight v (drop (one_if b) fs) + counted b (weight v (option_to_list (front fs))) ≡ weight v fs
weight-dropped v false fs = omega arith
weight-dropped v true [] = refl
weight-dropped v true (f ∷ fs) =
    let rest : weight v (drop (one_if true) (f ∷ fs)) ≡ weight v fs = refl in
    let all : weight v (f ∷ fs) ≡ weight v (f ∷ []) + weight v fs = sum_by-append v (f ∷ []) fs in
    omega (arith, rest, all)

queue-weight : (v : Flit → ℕ) (p : Plan) (d n : ℕ) (t : ℤ) (s : Tile) (i : TileIn) (port c : ℕ)
    → weight v ((tile_step p d n t s i).queue port c) + counted (leaves p d n t s i port c) (weight v (option_to_list (front (s.queue port c))))
    ≡ weight v (s.queue port c) + weight v (comes_in p d s i port c)
unfolding tile_step
queue-weight v p d n t s i port c =
    let parts =
    sum_by-append v (drop (one_if (leaves p d n t s i port c)) (s.queue port c)) (comes_in p d s i port c) in
    let left = weight-dropped v (leaves p d n t s i port c) (s.queue port c) in
    omega (arith, parts, left)

-- what comes in by a port
in_weight : (Flit → ℕ) → Plan → ℕ → Tile → TileIn → ℕ → ℕ
in_weight v p d s i port = total (in_channels p d port) (λ c. weight v (comes_in p d s i port c))

lists-port : (v : Flit → ℕ) (p : Plan) (d n : ℕ) (t : ℤ) (s : Tile) (i : TileIn) (port : ℕ)
    → total (in_channels p d port) (λ c. weight v ((tile_step p d n t s i).queue port c)) + granted_weight v s port (grant p d n t s i port)
    ≡ total (in_channels p d port) (λ c. weight v (s.queue port c)) + in_weight v p d s i port
unfolding in_weight
lists-port v p d n t s i port =
    let m : ℕ = in_channels p d port in
    let now : ℕ → ℕ = λ c. weight v (s.queue port c) in
    let next : ℕ → ℕ = λ c. weight v ((tile_step p d n t s i).queue port c) in
    let out : ℕ → ℕ = λ c. counted (leaves p d n t s i port c) (weight v (option_to_list (front (s.queue port c)))) in
    let new : ℕ → ℕ = λ c. weight v (comes_in p d s i port c) in
    ap (λ k. total m next + k) (sym (left-weight v p d n t s i port))
    ∙ sym (total-add m next out)
    ∙ total-same m (λ c. next c + out c) (λ c. now c + new c) (λ c less. queue-weight v p d n t s i port c)
    ∙ total-add m now new

-- what comes in by the local port is what enters
entry-weight : (v : Flit → ℕ) (p : Plan) (d : ℕ) (s : Tile) (i : TileIn) → s.current < channels p d
    → in_weight v p d s i 0 ≡ weight v (option_to_list (entry p d s.packet (word_in p s i)))
unfolding in_weight
entry-weight v p d s i few =
    total-one (channels p d) s.current (λ c. weight v (if s.current == c then option_to_list (entry p d s.packet (word_in p s i)) else [])) few
    (λ c less other. ap (λ b. weight v (if b then option_to_list (entry p d s.packet (word_in p s i)) else [])) (differs s.current c other))
    ∙ ap (λ b. weight v (if b then option_to_list (entry p d s.packet (word_in p s i)) else [])) (same s.current)
  where
    differs : (a c : ℕ) → c ≢ a → (a == c) ≡ false
    differs a c other = grind (arith, nat_tests)

    same : (a : ℕ) → (a == a) ≡ true
    same a = let e : a ≡ a = refl in grind (arith, nat_tests)

-- what comes in by a link is what arrives, where it has a channel of the domain
arrive-weight : (v : Flit → ℕ) (m : ℕ) (x : Option LinkFlit) → ((y : LinkFlit) → x ≡ Some y → y.channel < m)
    → total m (λ c. weight v (flit_on x c)) ≡ weight v (flit_of x)
arrive-weight v m None few = total-none m (λ c. 0) (λ c less. refl)
arrive-weight v m (Some x) few =
    total-one m x.channel (λ c. weight v (if x.channel == c then x.flit ∷ [] else [])) (few x refl)
    (λ c less other. ap (λ b. weight v (if b then x.flit ∷ [] else [])) (differs x.channel c other))
    ∙ ap (λ b. weight v (if b then x.flit ∷ [] else [])) (same x.channel)
  where
    differs : (a c : ℕ) → c ≢ a → (a == c) ≡ false
    differs a c other = grind (arith, nat_tests)

    same : (a : ℕ) → (a == a) ≡ true
    same a = let e : a ≡ a = refl in grind (arith, nat_tests)

-- what a tile needs so that no flit is lost
pub record IsWhole (p : Plan) (d n : ℕ) (s : Tile) (i : TileIn) : Type 0 where
  pub placed : IsPlacedTile p d n s
  pub arrives : (port : ℕ) (x : LinkFlit) → port ≢ 0 → i.arrives port ≡ Some x → x.channel < link_channels p d
  pub unattached : hosts p n d ≡ false → (IsUnattached s) × (i.offer ≡ None)

-- the port is there or takes no part
no_grant : (v : Flit → ℕ) (p : Plan) (d n : ℕ) (t : ℤ) (s : Tile) (i : TileIn) (port : ℕ) → IsBareTile p d n s
    → is_port p n port ≡ false
    → granted_weight v s port (grant p d n t s i port) ≡ 0
no_grant v p d n t s i zero bare e = absurd (cc e)
no_grant v p d n t s i (suc port) bare e = go (grant p d n t s i (suc port)) refl (neighbour p n (suc port)) refl e
  where
    link : suc port ≢ 0
    link z = omega arith

    go : (g : Option Grant) → grant p d n t s i (suc port) ≡ g → (m : Option ℕ) → neighbour p n (suc port) ≡ m
        → is_some m ≡ false → granted_weight v s (suc port) g ≡ 0
    go None is m at none = refl
    go (Some g) is (Some m) at none = absurd (cc none)
    go (Some g) is None at none =
        let ready = grant-ready p d n t s i (suc port) g is in
        let idle = bare.idle (suc port) g.channel link at ready.in_range in
        let active = ready.active in
        absurd (cc (idle, active))

-- one port's part of the lists
port_weight : (Flit → ℕ) → Plan → ℕ → ℕ → Tile → ℕ → ℕ
port_weight v p d n s port = counted (is_port p n port) (total (in_channels p d port) (λ c. weight v (s.queue port c)))

arrived : (Flit → ℕ) → Plan → ℕ → TileIn → ℕ → ℕ
arrived v p n i port = counted (is_some (neighbour p n port)) (weight v (flit_of (i.arrives port)))

port-moves : (v : Flit → ℕ) (p : Plan) (d n : ℕ) (t : ℤ) (s : Tile) (i : TileIn) (port : ℕ) → IsWhole p d n s i
    → port_weight v p d n (tile_step p d n t s i) port + granted_weight v s port (grant p d n t s i port)
    ≡ port_weight v p d n s port + at_local port (weight v (option_to_list (entry p d s.packet (word_in p s i)))) (arrived v p n i port)
unfolding port_weight arrived in_weight
port-moves v p d n t s i zero whole =
    lists-port v p d n t s i 0
    ∙ ap (λ k. total (channels p d) (λ c. weight v (s.queue 0 c)) + k) (entry-weight v p d s i whole.placed.current)
port-moves v p d n t s i (suc port) whole = go (is_some (neighbour p n (suc port))) refl
  where
    link : suc port ≢ 0
    link z = omega arith

    Moves : Bool → Type 0
    Moves b = counted b (total (link_channels p d) (λ c. weight v ((tile_step p d n t s i).queue (suc port) c))) + granted_weight v s (suc port) (grant p d n t s i (suc port))
        ≡ counted b (total (link_channels p d) (λ c. weight v (s.queue (suc port) c))) + counted b (weight v (flit_of (i.arrives (suc port))))

    go : (b : Bool) → is_some (neighbour p n (suc port)) ≡ b → Moves (is_some (neighbour p n (suc port)))
    go true e = subst Moves (sym e)
        (lists-port v p d n t s i (suc port) ∙ ap (λ k. total (link_channels p d) (λ c. weight v (s.queue (suc port) c)) + k)
        (arrive-weight v (link_channels p d) (i.arrives (suc port)) (λ y at. whole.arrives (suc port) y link at)))
    go false e =
        subst Moves (sym e) (let none = no_grant v p d n t s i (suc port) whole.placed.bare e in omega (arith, none))

-- nothing arrives at the local port
no-arrival : (v : Flit → ℕ) (p : Plan) (n : ℕ) (i : TileIn) → arrived v p n i 0 ≡ 0
unfolding arrived neighbour
no-arrival v p n i = refl

-- all ports' parts
lists-move : (v : Flit → ℕ) (p : Plan) (d n : ℕ) (t : ℤ) (s : Tile) (i : TileIn) → IsWhole p d n s i
    → total (ports p) (port_weight v p d n (tile_step p d n t s i)) + total (ports p) (λ o. weight v (flit_of (sent p d n t s i o)))
    ≡ total (ports p) (port_weight v p d n s) + (weight v (option_to_list (entry p d s.packet (word_in p s i))) + total (ports p) (arrived v p n i))
lists-move v p d n t s i whole =
    let m : ℕ = ports p in
    let next : ℕ → ℕ = port_weight v p d n (tile_step p d n t s i) in
    let now : ℕ → ℕ = port_weight v p d n s in
    let out : ℕ → ℕ = λ port. granted_weight v s port (grant p d n t s i port) in
    let enters : ℕ = weight v (option_to_list (entry p d s.packet (word_in p s i))) in
    let new : ℕ → ℕ = λ port. at_local port enters (arrived v p n i port) in
    ap (λ k. total m next + k) (sym (switched v p d n t s i whole.placed.stages))
    ∙ sym (total-add m next out)
    ∙ total-same m (λ port. next port + out port) (λ port. now port + new port) (λ port less. port-moves v p d n t s i port whole)
    ∙ total-add m now new
    ∙ ap (λ k. total m now + k) (total-local m enters (arrived v p n i) (omega arith) (no-arrival v p n i))

-- ---- the links

-- what the places of one link weigh
row_weight : (Flit → ℕ) → Plan → ℕ → Tile → ℕ → ℕ
row_weight v p n s o = counted (is_some (neighbour p n o)) (total p.stages (λ k. weight v (flit_of (s.row o k))))

-- its last place
last_weight : (Flit → ℕ) → Plan → ℕ → Tile → ℕ → ℕ
last_weight v p n s o = counted (is_some (neighbour p n o)) (weight v (flit_of (s.row o (p.stages - 1))))

-- what is sent on it
on_weight : (Flit → ℕ) → Plan → ℕ → ℕ → ℤ → Tile → TileIn → ℕ → ℕ
on_weight v p d n t s i o = counted (is_some (neighbour p n o)) (weight v (flit_of (sent p d n t s i o)))

shifted-weight : (v : Flit → ℕ) (k : ℕ) (x : Option LinkFlit) (row : ℕ → Option LinkFlit)
    → total (suc k) (λ j. weight v (flit_of (shifted x row j))) + weight v (flit_of (row k)) ≡ total (suc k) (λ j. weight v (flit_of (row j))) + weight v (flit_of x)
shifted-weight v zero x row = omega arith
shifted-weight v (suc k) x row = omega (arith, shifted-weight v k x row)

shifted-part : (v : Flit → ℕ) (k : ℕ) (x : Option LinkFlit) (row : ℕ → Option LinkFlit) → 1 ≤ k
    → total k (λ j. weight v (flit_of (shifted x row j))) + weight v (flit_of (row (k - 1))) ≡ total k (λ j. weight v (flit_of (row j))) + weight v (flit_of x)
shifted-part v zero x row some = absurd (omega arith)
shifted-part v (suc k) x row some = let e : suc k - 1 ≡ k = omega arith in rw e (shifted-weight v k x row)

row-moves : (v : Flit → ℕ) (p : Plan) (d n : ℕ) (t : ℤ) (s : Tile) (i : TileIn) (o : ℕ) → 1 ≤ p.stages
    → row_weight v p n (tile_step p d n t s i) o + last_weight v p n s o ≡ row_weight v p n s o + on_weight v p d n t s i o
unfolding row_weight last_weight on_weight tile_step
row-moves v p d n t s i o some =
    counted-add (is_some (neighbour p n o)) (total p.stages (λ k. weight v (flit_of (shifted (sent p d n t s i o) (s.row o) k)))) (weight v (flit_of (s.row o (p.stages - 1))))
    (total p.stages (λ k. weight v (flit_of (s.row o k)))) (weight v (flit_of (sent p d n t s i o))) (shifted-part v p.stages (sent p d n t s i o) (s.row o) some)

rows-move : (v : Flit → ℕ) (p : Plan) (d n : ℕ) (t : ℤ) (s : Tile) (i : TileIn) → 1 ≤ p.stages
    → total (ports p) (row_weight v p n (tile_step p d n t s i)) + total (ports p) (last_weight v p n s) ≡ total (ports p) (row_weight v p n s) + total (ports p) (on_weight v p d n t s i)
rows-move v p d n t s i some =
    let m : ℕ = ports p in
    let next : ℕ → ℕ = row_weight v p n (tile_step p d n t s i) in
    let now : ℕ → ℕ = row_weight v p n s in
    sym (total-add m next (last_weight v p n s))
    ∙ total-same m (λ o. next o + last_weight v p n s o) (λ o. now o + on_weight v p d n t s i o) (λ o less. row-moves v p d n t s i o some)
    ∙ total-add m now (on_weight v p d n t s i)

-- a link that isn't there is sent nothing
not-sent : (p : Plan) (d n : ℕ) (t : ℤ) (s : Tile) (i : TileIn) (o : ℕ) → IsPlacedTile p d n s → o ≢ 0
    → is_some (neighbour p n o) ≡ false → sent p d n t s i o ≡ None
not-sent p d n t s i o placed link none = go (sent p d n t s i o) refl
  where
    not-there : (k : ℕ) → k ≡ o → IsOutput p n k → ⊥
    not-there k same (inl e) = link (sym same ∙ e)
    not-there k same (inr e) = let here = ap (λ j. is_some (neighbour p n j)) same in cc (here, e, none)

    go : (x : Option LinkFlit) → sent p d n t s i o ≡ x → x ≡ None
    go None e = refl
    go (Some x) e =
        let by = sent-by p d n t s i o x e in
        let out =
        (subst (HasOutput p d n) (grant-ready p d n t s i by.port by.by by.granted).active (placed.stages by.port by.by.channel)).0 in
        absurd (not-there by.by.out by.out out)

-- all that is sent goes to the ejection place, or on a link
sent-parts : (v : Flit → ℕ) (p : Plan) (d n : ℕ) (t : ℤ) (s : Tile) (i : TileIn) → IsPlacedTile p d n s
    → total (ports p) (λ o. weight v (flit_of (sent p d n t s i o))) ≡ weight v (flit_of (sent p d n t s i 0)) + total (ports p) (on_weight v p d n t s i)
unfolding on_weight neighbour
sent-parts v p d n t s i placed =
    total-same (ports p) (λ o. weight v (flit_of (sent p d n t s i o))) (λ o. at_local o (weight v (flit_of (sent p d n t s i 0))) (on_weight v p d n t s i o)) (λ o less. one o)
    ∙ total-local (ports p) (weight v (flit_of (sent p d n t s i 0))) (on_weight v p d n t s i) (omega arith) refl
  where
    one : (o : ℕ)
        → weight v (flit_of (sent p d n t s i o)) ≡ at_local o (weight v (flit_of (sent p d n t s i 0))) (on_weight v p d n t s i o)
    one zero = refl
    one (suc o) = go (is_some (neighbour p n (suc o))) refl
      where
        go : (b : Bool) → is_some (neighbour p n (suc o)) ≡ b
            → weight v (flit_of (sent p d n t s i (suc o))) ≡ counted (is_some (neighbour p n (suc o))) (weight v (flit_of (sent p d n t s i (suc o))))
        go true e = sym (ap (λ b. counted b (weight v (flit_of (sent p d n t s i (suc o))))) e)
        go false e =
            ap (λ x. weight v (flit_of x)) (not-sent p d n t s i (suc o) placed (λ z. omega arith) e)
            ∙ sym (ap (λ b. counted b (weight v (flit_of (sent p d n t s i (suc o))))) e)

-- ---- the ejection place

ejected-weight : (v : Flit → ℕ) (x : Option LinkFlit) (hears : Bool) (old : Option Flit)
    → (is_some x ≡ true → (is_none old || hears) ≡ true)
    → weight v (option_to_list (next_ejected x hears old)) + counted hears (weight v (option_to_list old)) ≡ weight v (option_to_list old) + weight v (flit_of x)
ejected-weight v (Some x) true old room = omega arith
ejected-weight v (Some x) false None room = omega arith
ejected-weight v (Some x) false (Some f) room = absurd (let bad = room refl in cc bad)
ejected-weight v None true old room = omega arith
ejected-weight v None false old room = refl

pub ejection-room : (p : Plan) (d n : ℕ) (t : ℤ) (s : Tile) (i : TileIn) → is_some (sent p d n t s i 0) ≡ true
    → (is_none s.ejected || i.hears) ≡ true
unfolding takes
ejection-room p d n t s i e = go (sent p d n t s i 0) refl e
  where
    same : (a : ℕ) → (a == a) ≡ true
    same a = let e : a ≡ a = refl in grind (arith, nat_tests)

    go : (x : Option LinkFlit) → sent p d n t s i 0 ≡ x → is_some x ≡ true → (is_none s.ejected || i.hears) ≡ true
    go None is h = absurd (cc h)
    go (Some x) is h = sent-taken p d n t s i 0 x.channel (ap (λ y. is_on y x.channel) is ∙ same x.channel)

-- what the ejection place weighs, and what of it is heard
eject_weight : (Flit → ℕ) → Plan → ℕ → ℕ → Tile → ℕ
eject_weight v p d n s = counted (hosts p n d) (weight v (option_to_list s.ejected))

heard_weight : (Flit → ℕ) → Plan → ℕ → ℕ → Tile → TileIn → ℕ
heard_weight v p d n s i = counted (hosts p n d) (counted i.hears (weight v (option_to_list s.ejected)))

eject-moves : (v : Flit → ℕ) (p : Plan) (d n : ℕ) (t : ℤ) (s : Tile) (i : TileIn) → IsWhole p d n s i
    → eject_weight v p d n (tile_step p d n t s i) + heard_weight v p d n s i ≡ eject_weight v p d n s + weight v (flit_of (sent p d n t s i 0))
unfolding eject_weight heard_weight tile_step
eject-moves v p d n t s i whole = go (hosts p n d) refl
  where
    Moves : Bool → Type 0
    Moves b = counted b (weight v (option_to_list (next_ejected (sent p d n t s i 0) i.hears s.ejected))) + counted b (counted i.hears (weight v (option_to_list s.ejected)))
        ≡ counted b (weight v (option_to_list s.ejected)) + weight v (flit_of (sent p d n t s i 0))

    go : (b : Bool) → hosts p n d ≡ b → Moves (hosts p n d)
    go true e =
        subst Moves (sym e) (ejected-weight v (sent p d n t s i 0) i.hears s.ejected (ejection-room p d n t s i))
    go false e = subst Moves (sym e)
        (let none : weight v (flit_of (sent p d n t s i 0)) ≡ 0 = ap (λ x. weight v (flit_of x)) (nothing-ejected p d n t s i (λ port c. whole.placed.away e port c)) in
        omega (arith, none))

-- ---- the tile

-- what the tile weighs, by its parts
tile-weight : (v : Flit → ℕ) (p : Plan) (d n : ℕ) (s : Tile)
    → weight v (inside_tile p d n s) ≡ total (ports p) (port_weight v p d n s) + (total (ports p) (row_weight v p n s) + eject_weight v p d n s)
unfolding port_weight row_weight eject_weight
tile-weight v p d n s =
    let three = sum_by-append v (in_lists p d n s ++ on_links p n s) (to_be_heard p d n s) in
    let two = sum_by-append v (in_lists p d n s) (on_links p n s) in
    let lists = weight-gathered v (ports p) (λ port. where_there (is_port p n port) (gathered (in_channels p d port) (s.queue port)))
    ∙ total-same (ports p) (λ port. weight v (where_there (is_port p n port) (gathered (in_channels p d port) (s.queue port)))) (port_weight v p d n s)
    (λ port less. weight-there v (is_port p n port) (gathered (in_channels p d port) (s.queue port)) ∙ ap (counted (is_port p n port)) (weight-gathered v (in_channels p d port) (s.queue port))) in
    let links = weight-gathered v (ports p) (λ o. where_there (is_some (neighbour p n o)) (gathered p.stages (λ i. flit_of (s.row o i))))
    ∙ total-same (ports p) (λ o. weight v (where_there (is_some (neighbour p n o)) (gathered p.stages (λ i. flit_of (s.row o i))))) (row_weight v p n s)
    (λ o less. weight-there v (is_some (neighbour p n o)) (gathered p.stages (λ i. flit_of (s.row o i))) ∙ ap (counted (is_some (neighbour p n o))) (weight-gathered v p.stages (λ i. flit_of (s.row o i)))) in
    let heard = weight-there v (hosts p n d) (option_to_list s.ejected) in
    added (weight v (inside_tile p d n s)) (weight v (in_lists p d n s ++ on_links p n s)) (weight v (in_lists p d n s)) (weight v (on_links p n s)) (weight v (to_be_heard p d n s))
    (total (ports p) (port_weight v p d n s)) (total (ports p) (row_weight v p n s)) (counted (hosts p n d) (weight v (option_to_list s.ejected))) three two lists links heard
  where
    added : (all two a b c x y z : ℕ) → all ≡ two + c → two ≡ a + b → a ≡ x → b ≡ y → c ≡ z → all ≡ x + (y + z)
    added all two a b c x y z e f g h k = omega arith

sum-parts : (lists lists' rows rows' eject eject' sent out local heard last enters arrives : ℕ)
    → lists' + sent ≡ lists + (enters + arrives) → rows' + last ≡ rows + out → eject' + heard ≡ eject + local
    → sent ≡ local + out
    → lists' + (rows' + eject') + (heard + last) ≡ lists + (rows + eject) + (enters + arrives)
sum-parts lists lists' rows rows' eject eject' sent out local heard last enters arrives a b c e = omega arith

-- what is there after the step, what was heard and what went over to neighbours is what was there, what enters and what arrives
pub tile-moves : (v : Flit → ℕ) (p : Plan) (d n : ℕ) (t : ℤ) (s : Tile) (i : TileIn) → 1 ≤ p.stages → IsWhole p d n s i
    → weight v (inside_tile p d n (tile_step p d n t s i))
    + (counted (hosts p n d) (counted i.hears (weight v (option_to_list s.ejected))) + total (ports p) (λ o. counted (is_some (neighbour p n o)) (weight v (flit_of (s.row o (p.stages - 1))))))
    ≡ weight v (inside_tile p d n s)
    + (weight v (option_to_list (entry p d s.packet (word_in p s i))) + total (ports p) (λ port. counted (is_some (neighbour p n port)) (weight v (flit_of (i.arrives port)))))
unfolding heard_weight last_weight arrived
tile-moves v p d n t s i some whole =
    let m : ℕ = ports p in
    ap (λ k. k + (heard_weight v p d n s i + total m (last_weight v p n s))) (tile-weight v p d n (tile_step p d n t s i))
    ∙ sum-parts (total m (port_weight v p d n s)) (total m (port_weight v p d n (tile_step p d n t s i)))
    (total m (row_weight v p n s)) (total m (row_weight v p n (tile_step p d n t s i)))
    (eject_weight v p d n s) (eject_weight v p d n (tile_step p d n t s i))
    (total m (λ o. weight v (flit_of (sent p d n t s i o)))) (total m (on_weight v p d n t s i)) (weight v (flit_of (sent p d n t s i 0)))
    (heard_weight v p d n s i) (total m (last_weight v p n s)) (weight v (option_to_list (entry p d s.packet (word_in p s i)))) (total m (arrived v p n i))
    (lists-move v p d n t s i whole) (rows-move v p d n t s i some) (eject-moves v p d n t s i whole) (sent-parts v p d n t s i whole.placed)
    ∙ sym (ap (λ k. k + (weight v (option_to_list (entry p d s.packet (word_in p s i))) + total m (arrived v p n i))) (tile-weight v p d n s))
