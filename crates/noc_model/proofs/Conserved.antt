-- No flit is made or lost: what entered is what was delivered and what is inside.
use Rattle.std.proofs.Common.{◌≡◌, ℕ, zero, suc, ◌+◌, ◌*◌, ◌-◌, ◌/◌, ◌%◌, ◌<◌, Bool, true, false, Option, List, [], ◌∷◌, ◌++◌, length, refl, sym, ap, ◌∙◌, subst, arith, ◌==◌, ◌&&◌, ℤ}
use Rattle.std.specs.Prelude.{Some, None, is_some, if◌then◌else◌, option_to_list, count_by, pos}
use Rattle.std.proofs.lemmas.List.Sums.{sum_by-append}
use Rattle.noc_model.specs.declared.Flit.{Flit}
use Rattle.noc_model.specs.declared.Offer.{Offer}
use Rattle.noc_model.specs.Plan.{Plan, tiles, hosts, ports, in_channels}
use Rattle.noc_model.specs.Sound.{IsSound}
use Rattle.noc_model.specs.declared.ways.Way.TheVariants.{Plus, Minus}
use Rattle.noc_model.specs.Place.{port_of, opposite_way, opposite, neighbour}
use Rattle.noc_model.specs.Step.{is_open, entry, word_in}
use Rattle.noc_model.specs.Run.{State, Input, start, last_place, arrival, fed, step, state_from, run}
use Rattle.noc_model.specs.Reached.{IsReached}
use Rattle.noc_model.specs.Flits.{gathered, where_there, is_port, flit_of, inside_tile, inside, enters_at, delivered_at, entered, delivered_to, delivered}
use Rattle.noc_model.proofs.Coords.{AllPositive, positive}
use Rattle.noc_model.proofs.Links.{link-from, opposite-twice}
use Rattle.noc_model.proofs.StateKept.{neighbour-inside, some-channels}
use Rattle.noc_model.proofs.Switch.{then-is}
use Rattle.noc_model.proofs.SameStates.{fed-nothing}
use Rattle.noc_model.proofs.Reached.{reached-start, reached-next, placed}
use Rattle.noc_model.proofs.Totals.{total, total-same, total-none, total-add, total-turned, total-matched, at_some, counted, AreMatched}
use Rattle.noc_model.proofs.Switched.{weight}
use Rattle.noc_model.proofs.Moves.{weight-gathered, weight-there, IsWhole, tile-moves}

-- ---- what arrives is what leaves the last places

-- what the last place of the link that leaves by a port weighs
last_at : (Flit → ℕ) → Plan → State → ℕ → ℕ → ℕ
last_at v p s m o = weight v (flit_of ((s m).row o (p.stages - 1)))

if_linked : Plan → (ℕ → ℕ → ℕ) → ℕ → ℕ → ℕ
if_linked p f m o = counted (is_some (neighbour p m o)) (f m o)

some-counted : (o : Option ℕ) (k : ℕ) → at_some o (λ n. k) ≡ counted (is_some o) k
some-counted None k = refl
some-counted (Some n) k = refl

tiles-matched : (p : Plan) (port : ℕ) → AllPositive p.dims
    → AreMatched (tiles p) (tiles p) (λ n. neighbour p n port) (λ m. neighbour p m (opposite port))
tiles-matched p port positive = record {
  there = λ n m inside e. (neighbour-inside p n port m positive e, (link-from p n port m positive inside e).back);
  here = λ n m inside e. (neighbour-inside p m (opposite port) n positive e, back n m (link-from p m (opposite port) n positive inside e).back);
}
  where
    back : (n m : ℕ) → neighbour p n (opposite (opposite port)) ≡ Some m → neighbour p n port ≡ Some m
    back n m e = ap (neighbour p n) (sym (opposite-twice port)) ∙ e

-- over one port, and its opposite at the other ends
port-turned : (p : Plan) (f : ℕ → ℕ → ℕ) (port : ℕ) → AllPositive p.dims
    → total (tiles p) (λ n. at_some (neighbour p n port) (λ m. f m (opposite port))) ≡ total (tiles p) (λ m. if_linked p f m (opposite port))
unfolding if_linked
port-turned p f port positive =
    total-matched (tiles p) (tiles p) (λ n. neighbour p n port) (λ m. neighbour p m (opposite port)) (λ n m. f m (opposite port)) (tiles-matched p port positive)
    ∙ total-same (tiles p) (λ m. at_some (neighbour p m (opposite port)) (λ n. f m (opposite port))) (λ m. counted (is_some (neighbour p m (opposite port))) (f m (opposite port)))
    (λ m less. some-counted (neighbour p m (opposite port)) (f m (opposite port)))

opposite-below : (p : Plan) (port : ℕ) → port < ports p → opposite port < ports p
unfolding opposite
opposite-below p zero below = below
opposite-below p (suc k) below = go (k % 2) refl (omega arith)
  where
    go : (r : ℕ) → k % 2 ≡ r → r < 2
        → port_of (opposite_way (if r == 0 then Plus (k / 2) else Minus (k / 2))) < 1 + 2 * length p.dims
    go zero e h = omega arith
    go (suc zero) e h = omega arith
    go (suc (suc r)) e h = absurd (omega arith)

ports-matched : (p : Plan) → AreMatched (ports p) (ports p) (λ port. Some (opposite port)) (λ o. Some (opposite o))
ports-matched p = record {
  there = λ i j below e. (subst (λ k. k < ports p) (same i j e) (opposite-below p i below), ap Some (ap opposite (sym (same i j e)) ∙ opposite-twice i));
  here = λ i j below e. (subst (λ k. k < ports p) (same j i e) (opposite-below p j below), ap Some (ap opposite (sym (same j i e)) ∙ opposite-twice j));
}
  where
    same : (i j : ℕ) → Some (opposite i) ≡ Some j → opposite i ≡ j
    same i j e = cc (e)

-- the links by their far ends are the links by their near ends
links-turned : (p : Plan) (f : ℕ → ℕ → ℕ) → AllPositive p.dims
    → total (tiles p) (λ n. total (ports p) (λ port. at_some (neighbour p n port) (λ m. f m (opposite port)))) ≡ total (tiles p) (λ m. total (ports p) (λ o. if_linked p f m o))
links-turned p f positive =
    total-turned (tiles p) (ports p) (λ n port. at_some (neighbour p n port) (λ m. f m (opposite port)))
    ∙ total-same (ports p) (λ port. total (tiles p) (λ n. at_some (neighbour p n port) (λ m. f m (opposite port)))) (λ port. total (tiles p) (λ m. if_linked p f m (opposite port)))
    (λ port less. port-turned p f port positive)
    ∙ total-matched (ports p) (ports p) (λ port. Some (opposite port)) (λ o. Some (opposite o)) (λ port o. total (tiles p) (λ m. if_linked p f m o)) (ports-matched p)
    ∙ sym (total-turned (tiles p) (ports p) (λ m o. if_linked p f m o))

arrived-last : (v : Flit → ℕ) (p : Plan) (s : State) (n port : ℕ)
    → counted (is_some (neighbour p n port)) (weight v (flit_of (arrival p s n port))) ≡ at_some (neighbour p n port) (λ m. last_at v p s m (opposite port))
unfolding arrival last_at
arrived-last v p s n port = go (neighbour p n port) refl
  where
    go : (o : Option ℕ) → neighbour p n port ≡ o
        → counted (is_some (neighbour p n port)) (weight v (flit_of (arrival p s n port))) ≡ at_some (neighbour p n port) (λ m. weight v (flit_of ((s m).row (opposite port) (p.stages - 1))))
    go None e = rw e refl
    go (Some m) e = rw e refl

-- what arrives at all tiles is what the last places of their links have
pub arrivals-last : (v : Flit → ℕ) (p : Plan) (s : State) → AllPositive p.dims
    → total (tiles p) (λ n. total (ports p) (λ port. counted (is_some (neighbour p n port)) (weight v (flit_of (arrival p s n port)))))
    ≡ total (tiles p) (λ n. total (ports p) (λ o. counted (is_some (neighbour p n o)) (weight v (flit_of ((s n).row o (p.stages - 1))))))
unfolding last_at if_linked
arrivals-last v p s positive =
    total-same (tiles p) (λ n. total (ports p) (λ port. counted (is_some (neighbour p n port)) (weight v (flit_of (arrival p s n port)))))
    (λ n. total (ports p) (λ port. at_some (neighbour p n port) (λ m. last_at v p s m (opposite port))))
    (λ n less. total-same (ports p) (λ port. counted (is_some (neighbour p n port)) (weight v (flit_of (arrival p s n port)))) (λ port. at_some (neighbour p n port) (λ m. last_at v p s m (opposite port)))
    (λ port under. arrived-last v p s n port))
    ∙ links-turned p (last_at v p s) positive

-- ---- one cycle

whole : (p : Plan) (d n : ℕ) (t : ℤ) (s : State) (x : Input) → IsSound p → n < tiles p → IsReached p d t s
    → IsWhole p d n (s n) (fed p d s x n)
unfolding arrival
whole p d n t s x sound inside reached = record {
  placed = placed p d t s reached n inside;
  arrives = λ port y link e. (let from = then-is (λ m. last_place p (s m) (opposite port)) (neighbour p n port) y e in
      let ends = link-from p n port from.0 (positive p.dims sound.sides) inside from.1 in
      (reached.sound from.0).channel (opposite port) (p.stages - 1) y ends.arrives_port from.2);
  unattached = λ away. (reached.unattached n inside away, fed-nothing p d n s x away);
}

-- what is heard is what is delivered
heard-weight : (v : Flit → ℕ) (p : Plan) (d : ℕ) (s : State) (x : Input) (n : ℕ)
    → counted (hosts p n d) (counted (hosts p n d && x.hears n) (weight v (option_to_list (s n).ejected))) ≡ weight v (delivered_at p d s x n)
heard-weight v p d s x n = go (hosts p n d) (x.hears n) ∙ sym (weight-there v (hosts p n d && x.hears n) (option_to_list (s n).ejected))
  where
    go : (b c : Bool)
        → counted b (counted (b && c) (weight v (option_to_list (s n).ejected))) ≡ counted (b && c) (weight v (option_to_list (s n).ejected))
    go true c = refl
    go false c = refl

-- only at an attachment flits enter
enters-weight : (v : Flit → ℕ) (p : Plan) (d : ℕ) (s : State) (x : Input) (n : ℕ)
    → weight v (option_to_list (entry p d (s n).packet (word_in p (s n) (fed p d s x n)))) ≡ weight v (enters_at p d s x n)
unfolding word_in
enters-weight v p d s x n = go (hosts p n d) refl
  where
    Same : Bool → Type 0
    Same b = weight v (option_to_list (entry p d (s n).packet (word_in p (s n) (fed p d s x n))))
        ≡ weight v (where_there b (option_to_list (entry p d (s n).packet (word_in p (s n) (fed p d s x n)))))

    nothing : Option Offer
    nothing = None

    none : (b : Bool) → (if b then nothing else nothing) ≡ nothing
    none true = refl
    none false = refl

    go : (b : Bool) → hosts p n d ≡ b → Same (hosts p n d)
    go true e = subst Same (sym e) refl
    go false e = subst Same (sym e)
        (ap (λ w. weight v (option_to_list (entry p d (s n).packet w))) (ap (λ o. if is_open p (s n) then o else None) (fed-nothing p d n s x e) ∙ none (is_open p (s n))))

balance : (t' h l t e a : ℕ) → t' + (h + l) ≡ t + (e + a) → a ≡ l → t' + h ≡ t + e
balance t' h l t e a sum same = omega arith

-- a cycle: what is inside after it and what it delivers is what was inside and what it lets enter
pub conserved-step : (v : Flit → ℕ) (p : Plan) (d : ℕ) (t : ℤ) (s : State) (x : Input) → IsSound p → IsReached p d t s
    → weight v (inside p d (step p d t s x)) + weight v (gathered (tiles p) (delivered_at p d s x)) ≡ weight v (inside p d s) + weight v (gathered (tiles p) (enters_at p d s x))
unfolding step
conserved-step v p d t s x sound reached =
    let m : ℕ = tiles p in
    let after : ℕ → ℕ = λ n. weight v (inside_tile p d n (step p d t s x n)) in
    let before : ℕ → ℕ = λ n. weight v (inside_tile p d n (s n)) in
    let heard : ℕ → ℕ =
    λ n. counted (hosts p n d) (counted (hosts p n d && x.hears n) (weight v (option_to_list (s n).ejected))) in
    let enters : ℕ → ℕ = λ n. weight v (option_to_list (entry p d (s n).packet (word_in p (s n) (fed p d s x n)))) in
    let lasts : ℕ → ℕ =
    λ n. total (ports p) (λ o. counted (is_some (neighbour p n o)) (weight v (flit_of ((s n).row o (p.stages - 1))))) in
    let arrivals : ℕ → ℕ =
    λ n. total (ports p) (λ port. counted (is_some (neighbour p n port)) (weight v (flit_of (arrival p s n port)))) in
    let each = total-same m (λ n. after n + (heard n + lasts n)) (λ n. before n + (enters n + arrivals n))
    (λ n inside. tile-moves v p d n t (s n) (fed p d s x n) sound.stages.0 (whole p d n t s x sound inside reached)) in
    let left = total-add m after (λ n. heard n + lasts n) ∙ ap (λ k. total m after + k) (total-add m heard lasts) in
    let right =
    total-add m before (λ n. enters n + arrivals n) ∙ ap (λ k. total m before + k) (total-add m enters arrivals) in
    let sums = balance (total m after) (total m heard) (total m lasts) (total m before) (total m enters) (total m arrivals) (sym left ∙ each ∙ right)
    (arrivals-last v p s (positive p.dims sound.sides)) in
    ap (λ k. k + weight v (gathered m (delivered_at p d s x))) (weight-gathered v m (λ n. inside_tile p d n (step p d t s x n)))
    ∙ ap (λ k. total m after + k) (weight-gathered v m (delivered_at p d s x) ∙ sym (total-same m heard (λ n. weight v (delivered_at p d s x n)) (λ n less. heard-weight v p d s x n)))
    ∙ sums
    ∙ ap (λ k. total m before + k) (total-same m enters (λ n. weight v (enters_at p d s x n)) (λ n less. enters-weight v p d s x n) ∙ sym (weight-gathered v m (enters_at p d s x)))
    ∙ sym (ap (λ k. k + weight v (gathered m (enters_at p d s x))) (weight-gathered v m (λ n. inside_tile p d n (s n))))

-- ---- runs

delivered-more : (v : Flit → ℕ) (p : Plan) (d t : ℕ) (s : State) (x : Input) (xs : List Input)
    → weight v (delivered p d t s (x ∷ xs)) ≡ weight v (gathered (tiles p) (delivered_at p d s x)) + weight v (delivered p d (suc t) (step p d (pos t) s x) xs)
delivered-more v p d t s x xs =
    let m : ℕ = tiles p in
    let first : ℕ → List Flit = delivered_at p d s x in
    let rest : ℕ → List Flit = delivered_to p d (suc t) (step p d (pos t) s x) xs in
    weight-gathered v m (λ n. first n ++ rest n)
    ∙ total-same m (λ n. weight v (first n ++ rest n)) (λ n. weight v (first n) + weight v (rest n)) (λ n less. sum_by-append v (first n) (rest n))
    ∙ total-add m (λ n. weight v (first n)) (λ n. weight v (rest n))
    ∙ sym (ap (λ k. k + total m (λ n. weight v (rest n))) (weight-gathered v m first))
    ∙ sym (ap (λ k. weight v (gathered m first) + k) (weight-gathered v m rest))

nothing-delivered : (v : Flit → ℕ) (p : Plan) (d t : ℕ) (s : State) → weight v (delivered p d t s []) ≡ 0
nothing-delivered v p d t s =
    weight-gathered v (tiles p) (delivered_to p d t s []) ∙ total-none (tiles p) (λ n. 0) (λ n less. refl)

pub conserved-from : (v : Flit → ℕ) (p : Plan) (d t : ℕ) (s : State) (xs : List Input) → IsSound p
    → IsReached p d (pos t) s
    → weight v (inside p d s) + weight v (entered p d t s xs) ≡ weight v (delivered p d t s xs) + weight v (inside p d (state_from p d t s xs))
conserved-from v p d t s [] sound reached = let none = nothing-delivered v p d t s in omega (arith, none)
conserved-from v p d t s (x ∷ xs) sound reached =
    let next : State = step p d (pos t) s x in
    let one = conserved-step v p d (pos t) s x sound reached in
    let rest = conserved-from v p d (suc t) next xs sound (reached-next p d t s x sound reached) in
    let more = delivered-more v p d t s x xs in
    let in_all = sum_by-append v (gathered (tiles p) (enters_at p d s x)) (entered p d (suc t) next xs) in
    joined (weight v (inside p d s)) (weight v (entered p d t s (x ∷ xs))) (weight v (gathered (tiles p) (enters_at p d s x))) (weight v (entered p d (suc t) next xs))
    (weight v (delivered p d t s (x ∷ xs))) (weight v (gathered (tiles p) (delivered_at p d s x))) (weight v (delivered p d (suc t) next xs))
    (weight v (inside p d next)) (weight v (inside p d (state_from p d (suc t) next xs))) one rest more in_all
  where
    joined : (now all first later out out_first out_later next last : ℕ) → next + out_first ≡ now + first
        → next + later ≡ out_later + last → out ≡ out_first + out_later → all ≡ first + later
        → now + all ≡ out + last
    joined now all first later out out_first out_later next last a b c e = omega arith

-- at the start nothing is inside
empty-start : (v : Flit → ℕ) (p : Plan) (d : ℕ) → weight v (inside p d (start p)) ≡ 0
empty-start v p d =
    none (tiles p) (λ n. inside_tile p d n (start p n))
    (λ n. (
    let lists : List Flit =
    gathered (ports p) (λ port. where_there (is_port p n port) (gathered (in_channels p d port) (λ c. []))) in
    let links : List Flit =
    gathered (ports p) (λ o. where_there (is_some (neighbour p n o)) (gathered p.stages (λ i. []))) in
    let heard : List Flit = where_there (hosts p n d) [] in
    let three = sum_by-append v (lists ++ links) heard in
    let two = sum_by-append v lists links in
    let a =
    none (ports p) (λ port. where_there (is_port p n port) (gathered (in_channels p d port) (λ c. []))) (λ port. there (is_port p n port) (gathered (in_channels p d port) (λ c. [])) (none (in_channels p d port) (λ c. []) (λ c. refl))) in
    let b =
    none (ports p) (λ o. where_there (is_some (neighbour p n o)) (gathered p.stages (λ i. []))) (λ o. there (is_some (neighbour p n o)) (gathered p.stages (λ i. [])) (none p.stages (λ i. []) (λ i. refl))) in
    let c = there (hosts p n d) [] refl in
    added (weight v (inside_tile p d n (start p n))) (weight v (lists ++ links)) (weight v lists) (weight v links) (weight v heard) three two a b c))
  where
    none : (n : ℕ) (f : ℕ → List Flit) → ((k : ℕ) → weight v (f k) ≡ 0) → weight v (gathered n f) ≡ 0
    none n f each = weight-gathered v n f ∙ total-none n (λ k. weight v (f k)) (λ k less. each k)

    there : (b : Bool) (fs : List Flit) → weight v fs ≡ 0 → weight v (where_there b fs) ≡ 0
    there true fs e = e
    there false fs e = refl

    added : (all two a b c : ℕ) → all ≡ two + c → two ≡ a + b → a ≡ 0 → b ≡ 0 → c ≡ 0 → all ≡ 0
    added all two a b c e f g h k = omega arith

-- flit conservation: by every test of flits, those that entered are those that were delivered and those that are inside
pub conservation-law : (p : Plan) (d : ℕ) (test : Flit → Bool) (xs : List Input) → IsSound p → d < length p.domains
    → count_by test (entered p d 0 (start p) xs) ≡ count_by test (delivered p d 0 (start p) xs) + count_by test (inside p d (run p d xs))
conservation-law p d test xs sound there =
    let v : Flit → ℕ = λ f. if test f then 1 else 0 in
    let all = conserved-from v p d 0 (start p) xs sound (reached-start p d (pos 0) (some-channels p d sound there)) in
    let empty = empty-start v p d in
    omega (arith, all, empty)
