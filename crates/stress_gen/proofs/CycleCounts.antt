-- How many events of each kind a cycle has.
use Rattle.std.proofs.Common.{◌≡◌, ℕ, zero, suc, ◌+◌, Bool, true, false, List, [], ◌∷◌, ◌++◌, length, refl, sym, ap, ◌∙◌, arith, ◌&&◌, Option}
use Rattle.std.specs.Prelude.{Some, None, if◌then◌else◌, option_to_list, count_by, sum_by, flat_map, filter, map, pos}
use Rattle.std.proofs.lemmas.List.{length-append}
use Rattle.std.proofs.lemmas.List.Sums.{sum_by-append, sum_by-cons}
use Rattle.noc_model.specs.declared.Flit.{Flit}
use Rattle.noc_model.specs.declared.Offer.{Offer}
use Rattle.noc_model.specs.declared.Ejected.{Ejected}
use Rattle.noc_model.specs.declared.Event.{Event}
use Rattle.noc_model.specs.Plan.{Plan, tiles, hosts}
use Rattle.noc_model.specs.Step.{is_open, one_if, entry, word_in}
use Rattle.noc_model.specs.Run.{State, Input, start, fed, step}
use Rattle.noc_model.specs.Events.{ejected_of, offer_events, drop_events, got_events, tile_events, tabulate, hosts_of, cycle_events}
use Rattle.noc_model.specs.Report.{is_take, is_drop, is_got}
use Rattle.noc_model.specs.Flits.{gathered, where_there, enters_at, delivered_at}
use Rattle.noc_model.proofs.Totals.{total, total-same, total-none, total-add, counted}
use Rattle.noc_model.proofs.Told.{got_of, got-delivered, taken-entered}
use Rattle.stress_gen.specs.Held.{pulses}

-- ---- sums over the tiles that host a domain

-- the first term, and the others
total-first : (n : ℕ) (f : ℕ → ℕ) → total (suc n) f ≡ f 0 + total n (λ k. f (suc k))
total-first zero f = omega arith
total-first (suc n) f = omega (arith, total-first n f)

sum-kept : (q : ℕ → Bool) (g : ℕ → ℕ) (n : ℕ) (f : ℕ → ℕ) → sum_by g (filter q (tabulate n f)) ≡ total n (λ k. counted (q (f k)) (g (f k)))
sum-kept q g zero f = refl
sum-kept q g (suc n) f = one (q (f 0)) refl (sum-kept q g n (λ k. f (suc k))) ∙ sym (total-first n (λ k. counted (q (f k)) (g (f k))))
  where
    rest : List ℕ
    rest = filter q (tabulate n (λ k. f (suc k)))

    last : ℕ
    last = total n (λ k. counted (q (f (suc k))) (g (f (suc k))))

    one : (b : Bool) → q (f 0) ≡ b → sum_by g rest ≡ last → sum_by g (if q (f 0) then f 0 ∷ rest else rest) ≡ counted (q (f 0)) (g (f 0)) + last
    one true e same = rw e (sum_by-cons g (f 0) rest ∙ ap (λ k. g (f 0) + k) same)
    one false e same = rw e (same ∙ omega arith)

sum-hosts : (p : Plan) (d : ℕ) (g : ℕ → ℕ) → sum_by g (hosts_of p d) ≡ total (tiles p) (λ n. counted (hosts p n d) (g n))
sum-hosts p d g = sum-kept (λ n. hosts p n d) g (tiles p) (λ n. n)

-- how many pass of lists that are put together
count-flat : (q : Event → Bool) (f : ℕ → List Event) (xs : List ℕ) → count_by q (flat_map f xs) ≡ sum_by (λ x. count_by q (f x)) xs
count-flat q f [] = refl
count-flat q f (x ∷ xs) =
    sum_by-append (λ (y : Event). if q y then 1 else 0) (f x) (flat_map f xs) ∙ ap (λ k. count_by q (f x) + k) (count-flat q f xs)
    ∙ sym (sum_by-cons (λ y. count_by q (f y)) x xs)

count-cycle : (q : Event → Bool) (p : Plan) (d t : ℕ) (s : State) (x : Input)
    → count_by q (cycle_events p d t s x) ≡ total (tiles p) (λ n. counted (hosts p n d) (count_by q (tile_events p d t s x n)))
count-cycle q p d t s x =
    count-flat q (tile_events p d t s x) (hosts_of p d) ∙ sum-hosts p d (λ n. count_by q (tile_events p d t s x n))

-- flits of all tiles
pub length-gathered : (n : ℕ) (f : ℕ → List Flit) → length (gathered n f) ≡ total n (λ k. length (f k))
length-gathered zero f = refl
length-gathered (suc n) f = length-append (gathered n f) (f n) ∙ ap (λ k. k + length (f n)) (length-gathered n f)

-- a drop pulse counts once
pulses-total : (p : Plan) (d : ℕ) (s : State) → pulses p d s ≡ total (tiles p) (λ n. counted (hosts p n d) (one_if (s n).dropped))
pulses-total p d s =
    sum-hosts p d (λ n. if (s n).dropped then 1 else 0)
    ∙ total-same (tiles p) (λ n. counted (hosts p n d) (if (s n).dropped then 1 else 0)) (λ n. counted (hosts p n d) (one_if (s n).dropped))
    (λ n less. ap (counted (hosts p n d)) (same (s n).dropped))
  where
    same : (b : Bool) → (if b then 1 else 0) ≡ one_if b
    same true = refl
    same false = refl

-- at the start there is none
pub no-pulses : (p : Plan) (d : ℕ) → pulses p d (start p) ≡ 0
no-pulses p d = pulses-total p d (start p) ∙ total-none (tiles p) (λ n. counted (hosts p n d) (one_if (start p n).dropped)) (λ n less. none (hosts p n d))
  where
    none : (b : Bool) → counted b 0 ≡ 0
    none true = refl
    none false = refl

-- ---- the events of a tile

abbrev pub takes : Event → Bool
takes e = is_take e.kind

abbrev pub drops : Event → Bool
drops e = is_drop e.kind

abbrev pub gots : Event → Bool
gots e = is_got e.kind

-- three lists of events
count-three : (q : Event → Bool) (a b c : List Event) → count_by q (a ++ b ++ c) ≡ count_by q a + count_by q b + count_by q c
count-three q a b c =
    sum_by-append (λ (e : Event). if q e then 1 else 0) (a ++ b) c
    ∙ ap (λ k. k + count_by q c) (sum_by-append (λ (e : Event). if q e then 1 else 0) a b)

no-take-dropped : (t n d : ℕ) (b : Bool) → count_by takes (drop_events t n d b) ≡ 0
no-take-dropped t n d true = refl
no-take-dropped t n d false = refl

no-take-got : (t n d : ℕ) (b : Bool) (e : Option Ejected) → count_by takes (got_events t n d b e) ≡ 0
no-take-got t n d false e = refl
no-take-got t n d true None = refl
no-take-got t n d true (Some e) = refl

no-drop-offered : (t n d : ℕ) (b : Bool) (o : Option Offer) → count_by drops (offer_events t n d b o) ≡ 0
no-drop-offered t n d b None = refl
no-drop-offered t n d true (Some x) = refl
no-drop-offered t n d false (Some x) = refl

drop-dropped : (t n d : ℕ) (b : Bool) → count_by drops (drop_events t n d b) ≡ one_if b
drop-dropped t n d true = refl
drop-dropped t n d false = refl

no-drop-got : (t n d : ℕ) (b : Bool) (e : Option Ejected) → count_by drops (got_events t n d b e) ≡ 0
no-drop-got t n d false e = refl
no-drop-got t n d true None = refl
no-drop-got t n d true (Some e) = refl

no-got-offered : (t n d : ℕ) (b : Bool) (o : Option Offer) → count_by gots (offer_events t n d b o) ≡ 0
no-got-offered t n d b None = refl
no-got-offered t n d true (Some x) = refl
no-got-offered t n d false (Some x) = refl

no-got-dropped : (t n d : ℕ) (b : Bool) → count_by gots (drop_events t n d b) ≡ 0
no-got-dropped t n d true = refl
no-got-dropped t n d false = refl

all-got : (t n d : ℕ) (fs : List Flit) → count_by gots (map (got_of t n d) fs) ≡ length fs
all-got t n d [] = refl
all-got t n d (f ∷ fs) = sum_by-cons (λ (e : Event). if gots e then 1 else 0) (got_of t n d f) (map (got_of t n d) fs) ∙ omega (arith, all-got t n d fs)

none-there : (b : Bool) (fs : List Flit) → b ≡ false → length (where_there b fs) ≡ 0
none-there false fs e = refl
none-there true fs e = absurd (cc)

-- ---- the events of a cycle

module _ (p : Plan) (d t : ℕ) (s : State) (x : Input) where
  abbrev offered : ℕ → List Event
  offered n = offer_events t n d (is_open p (s n)) (x.offer n)

  abbrev dropped : ℕ → List Event
  dropped n = drop_events t n d (s n).dropped

  abbrev got : ℕ → List Event
  got n = got_events t n d (x.hears n) (ejected_of (s n).ejected)

  abbrev after : State
  after = step p d (pos t) s x

  -- a tile that hosts the domain counts, by its three lists
  counts-at : (q : Event → Bool) (n : ℕ) → hosts p n d ≡ true → (a b c : ℕ) → count_by q (offered n) ≡ a → count_by q (dropped n) ≡ b → count_by q (got n) ≡ c
      → counted (hosts p n d) (count_by q (tile_events p d t s x n)) ≡ a + b + c
  counts-at q n e a b c f g h =
      ap (λ w. counted w (count_by q (tile_events p d t s x n))) e ∙ count-three q (offered n) (dropped n) (got n) ∙ omega arith

  none-at : (q : Event → Bool) (n : ℕ) → hosts p n d ≡ false → counted (hosts p n d) (count_by q (tile_events p d t s x n)) ≡ 0
  none-at q n e = ap (λ w. counted w (count_by q (tile_events p d t s x n))) e

  pulse-at : (n : ℕ) (r : State) (b : Bool) → hosts p n d ≡ b → counted (hosts p n d) (one_if (r n).dropped) ≡ counted b (one_if (r n).dropped)
  pulse-at n r b e = ap (λ w. counted w (one_if (r n).dropped)) e

  -- the words that are taken in a cycle enter, or their pulses are counted in the next one
  pub cycle-takes : count_by takes (cycle_events p d t s x) ≡ length (gathered (tiles p) (enters_at p d s x)) + pulses p d (step p d (pos t) s x)
  cycle-takes =
      count-cycle takes p d t s x
      ∙ total-same (tiles p) (λ n. counted (hosts p n d) (count_by takes (tile_events p d t s x n)))
      (λ n. length (enters_at p d s x n) + counted (hosts p n d) (one_if (after n).dropped)) (λ n less. one n (hosts p n d) refl)
      ∙ total-add (tiles p) (λ n. length (enters_at p d s x n)) (λ n. counted (hosts p n d) (one_if (after n).dropped))
      ∙ ap (λ k. k + total (tiles p) (λ n. counted (hosts p n d) (one_if (after n).dropped))) (sym (length-gathered (tiles p) (enters_at p d s x)))
      ∙ ap (λ k. length (gathered (tiles p) (enters_at p d s x)) + k) (sym (pulses-total p d after))
    where
      one : (n : ℕ) (b : Bool) → hosts p n d ≡ b → counted (hosts p n d) (count_by takes (tile_events p d t s x n))
          ≡ length (enters_at p d s x n) + counted (hosts p n d) (one_if (after n).dropped)
      one n true e =
          counts-at takes n e (length (enters_at p d s x n) + one_if (after n).dropped) 0 0
          (taken-entered p d t n s x e) (no-take-dropped t n d (s n).dropped) (no-take-got t n d (x.hears n) (ejected_of (s n).ejected))
          ∙ omega (arith, pulse-at n after true e)
      one n false e =
          none-at takes n e
          ∙ omega (arith, pulse-at n after false e, none-there (hosts p n d) (option_to_list (entry p d (s n).packet (word_in p (s n) (fed p d s x n)))) e)

  -- the drop pulses of a cycle
  pub cycle-drops : count_by drops (cycle_events p d t s x) ≡ pulses p d s
  cycle-drops =
      count-cycle drops p d t s x
      ∙ total-same (tiles p) (λ n. counted (hosts p n d) (count_by drops (tile_events p d t s x n))) (λ n. counted (hosts p n d) (one_if (s n).dropped)) (λ n less. one n (hosts p n d) refl)
      ∙ sym (pulses-total p d s)
    where
      one : (n : ℕ) (b : Bool) → hosts p n d ≡ b → counted (hosts p n d) (count_by drops (tile_events p d t s x n)) ≡ counted (hosts p n d) (one_if (s n).dropped)
      one n true e =
          counts-at drops n e 0 (one_if (s n).dropped) 0
          (no-drop-offered t n d (is_open p (s n)) (x.offer n)) (drop-dropped t n d (s n).dropped) (no-drop-got t n d (x.hears n) (ejected_of (s n).ejected))
          ∙ omega (arith, pulse-at n s true e)
      one n false e = none-at drops n e ∙ sym (pulse-at n s false e)

  -- the flits that are got in a cycle are delivered
  pub cycle-gots : count_by gots (cycle_events p d t s x) ≡ length (gathered (tiles p) (delivered_at p d s x))
  cycle-gots =
      count-cycle gots p d t s x
      ∙ total-same (tiles p) (λ n. counted (hosts p n d) (count_by gots (tile_events p d t s x n))) (λ n. length (delivered_at p d s x n)) (λ n less. one n (hosts p n d) refl)
      ∙ sym (length-gathered (tiles p) (delivered_at p d s x))
    where
      one : (n : ℕ) (b : Bool) → hosts p n d ≡ b → counted (hosts p n d) (count_by gots (tile_events p d t s x n)) ≡ length (delivered_at p d s x n)
      one n true e =
          counts-at gots n e 0 0 (length (delivered_at p d s x n))
          (no-got-offered t n d (is_open p (s n)) (x.offer n)) (no-got-dropped t n d (s n).dropped)
          (ap (count_by gots) (got-delivered p d t n s x e) ∙ all-got t n d (delivered_at p d s x n))
          ∙ omega arith
      one n false e =
          none-at gots n e
          ∙ sym (none-there (hosts p n d && x.hears n) (option_to_list (s n).ejected) (ap (λ b. b && x.hears n) e))
