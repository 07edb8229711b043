-- A word that is alone in its domain's network, and how long it is on its way.
use Rattle.std.specs.Prelude.{◌≡◌, ℕ, ◌+◌, ◌-◌, ◌*◌, ◌<◌, ◌≤◌, true, List, [], ◌∷◌, length, Some, None, Contains, slice_get, ◌==◌, if◌then◌else◌}
use Rattle.noc_model.specs.declared.Offer.{Offer}
use Rattle.noc_model.specs.declared.Event.{Event}
use Rattle.noc_model.specs.declared.Stage.TheVariants.{Idle}
use Rattle.noc_model.specs.declared.Packet.TheVariants.{Between}
use Rattle.noc_model.specs.declared.Kind.TheVariants.{Take, Got}
use Rattle.noc_model.specs.Plan.{Plan, tiles, hop, hosts, lookup, in_channels}
use Rattle.noc_model.specs.Place.{coords_in, neighbour, route, is_wrap}
use Rattle.noc_model.specs.Tile.{Tile}
use Rattle.noc_model.specs.Step.{one_if}
use Rattle.noc_model.specs.Run.{State, Input}
use Rattle.noc_model.specs.SoundState.{IsOutput}

-- ---- when a word is alone

-- the buffers, the link registers and the ejection place that there are at tile n are empty, and its channels are idle,
-- so that no output is held
pub record IsEmptyTile (p : Plan) (d n : ℕ) (s : Tile) : Type 0 where
  pub queue : (port c : ℕ) → IsOutput p n port → c < in_channels p d port → s.queue port c ≡ []
  pub stage : (port c : ℕ) → IsOutput p n port → c < in_channels p d port → s.stage port c ≡ Idle
  pub row : (o m i : ℕ) → neighbour p n o ≡ Some m → i < p.stages → s.row o i ≡ None
  pub ejected : hosts p n d ≡ true → s.ejected ≡ None

-- so it is at each tile that there is
abbrev pub IsEmptyState : Plan → ℕ → State → Type 0
IsEmptyState p d s = (n : ℕ) → n < tiles p → IsEmptyTile p d n (s n)

-- tile n is offered a packet of one word, which goes to tile dest
pub record IsOnlyWord (p : Plan) (d n dest : ℕ) (s : State) (x : Input) (word : Offer) : Type 0 where
  pub hosted : hosts p n d ≡ true
  pub between : (s n).packet ≡ Between
  pub offered : x.offer n ≡ Some word
  pub last : word.last ≡ true
  pub passed : lookup p d word.address ≡ Some dest

-- in the cycles from t to u no word is taken but one at tile n in cycle t
abbrev pub IsOnlyTake : ℕ → ℕ → ℕ → List Event → Type 0
IsOnlyTake n t u es = (e : Event) (payload : ℕ) → Contains es e → t ≤ e.cycle → e.cycle ≤ u → e.kind ≡ Take payload
    → (e.cycle ≡ t) × (e.tile ≡ n)

-- tile n hears in all of the cycles from t to u
abbrev pub Hears : ℕ → ℕ → ℕ → List Input → Type 0
Hears n t u xs = (k : ℕ) (x : Input) → t ≤ k → k ≤ u → slice_get xs k ≡ Some x → x.hears n ≡ true

-- in a run with the inputs xs and the events es, whose state in cycle t is s, tile n takes a word for tile dest then,
-- and no other word is taken up to cycle u
pub record IsLoneWord (p : Plan) (d n dest t u : ℕ) (word : Offer) (s : State) (xs : List Input) (es : List Event)
    : Type 0 where
  pub empty : IsEmptyState p d s
  pub input : Input
  pub now : slice_get xs t ≡ Some input
  pub only_word : IsOnlyWord p d n dest s input word
  pub only_take : IsOnlyTake n t u es
  pub hears : Hears dest t u xs
  pub long : u < length xs

-- ---- how long its way is

-- the tiles that the route from tile n to dest comes to, one for each of its links
abbrev pub IsRoute : Plan → ℕ → ℕ → List ℕ → Type 0
IsRoute p dest n [] = n ≡ dest
IsRoute p dest n (m ∷ ms) = (neighbour p n (route p n dest) ≡ Some m) × IsRoute p dest m ms

-- there is a route
pub record HasRoute (p : Plan) (n dest : ℕ) : Type 0 where
  pub tiles : List ℕ
  pub is_route : IsRoute p dest n tiles

-- how many of its links are wrap links
abbrev pub wraps : Plan → ℕ → ℕ → List ℕ → ℕ
wraps p dest n [] = 0
wraps p dest n (m ∷ ms) = one_if (is_wrap p n (route p n dest)) + wraps p dest m ms

-- how many of these coordinates differ
abbrev pub differing : List ℕ → List ℕ → ℕ
differing [] ys = 0
differing (x ∷ xs) [] = 0
differing (x ∷ xs) (y ∷ ys) = (if x == y then 0 else 1) + differing xs ys

-- how often a word alone may wait for a slot: once for each dimension in which the tiles differ, and once for each wrap
-- link of the route
abbrev pub waits : Plan → ℕ → ℕ → List ℕ → ℕ
waits p dest n ms = differing (coords_in p.dims n) (coords_in p.dims dest) + wraps p dest n ms

-- the cycles from its take to its got event, if it never waits
abbrev pub least_latency : Plan → List ℕ → ℕ
least_latency p ms = 4 + hop p * length ms

-- and if it waits for all other slots each time
abbrev pub most_latency : Plan → ℕ → ℕ → List ℕ → ℕ
most_latency p dest n ms = least_latency p ms + (length p.slots - 1) * waits p dest n ms

-- one of these events is that tile n gets the word with this payload, in one of the cycles from t to u
pub record IsGot (d n payload t u : ℕ) (es : List Event) : Type 0 where
  pub cycle : ℕ
  pub from : t ≤ cycle
  pub until : cycle ≤ u
  pub event : Contains es (record {
    cycle = cycle;
    tile = n;
    domain = d;
    kind = Got (record { head = true; tail = true; payload = payload });
  })
