-- Lines whose declared names rise in rank: no name is declared twice, and each is found where it is declared.
use Rattle.std.proofs.Common.{◌≡◌, ℕ, ◌+◌, ◌<◌, ◌≤◌, false, List, [], ◌∷◌, ◌++◌, map, refl, ◌∙◌, ap, arith}
use Rattle.std.specs.Prelude.{Option, Some, None, is_some}
use Rattle.std.specs.List.{AllByRecursion}
use Rattle.vl_tree.specs.declared.tree.Port.{Port}
use Rattle.vl_tree.specs.declared.tree.TopItem.{TopItem}
use Rattle.vl_tree.specs.declared.tree.TopItem.TheVariants.{Wire, Instance}
use Rattle.vl_tree.specs.Values.{Name, Leaf}
use Rattle.vl_model.specs.Lines.{Line, heading, port, item, joint, sites_behind, Declared, declared, found, lookup}
use Rattle.vl_model.specs.Rules.{name_twice, repeats, is_again}
use Rattle.vl_model.proofs.Passed.{Passes, all-map}
use Rattle.vl_model.proofs.One.{all-both}
use Rattle.vl_model.proofs.Together.{all-join}
use Rattle.vl_model.proofs.Settling.{itself}
use Rattle.shape_sound.proofs.Keyed.{rank, other}
use Rattle.shape_sound.proofs.Rising.{Rises}

-- where the next rank begins
abbrev pub next_low : ℕ → Option Declared → ℕ
next_low low None = low
next_low low (Some z) = rank z.name + 1

abbrev pub StartsAt : ℕ → Option Declared → Type 0
StartsAt low None = Unit {0}
StartsAt low (Some z) = low ≤ rank z.name

abbrev pub LinesRise : ℕ → ℕ → List Line → Type 0
LinesRise low high [] = low ≤ high
LinesRise low high (x ∷ xs) = StartsAt low (declared x) × LinesRise (next_low low (declared x)) high xs

-- ---- how they are put together

pub lines-lower : (low more high : ℕ) (xs : List Line) → low ≤ more → LinesRise more high xs → LinesRise low high xs
lines-lower low more high [] le r = omega (arith, le, r)
lines-lower low more high (x ∷ xs) le r = go (declared x) r (λ l m. lines-lower l m high xs)
  where
    go : (o : Option Declared) → StartsAt more o × LinesRise (next_low more o) high xs → ((l m : ℕ) → l ≤ m → LinesRise m high xs → LinesRise l high xs) → StartsAt low o × LinesRise (next_low low o) high xs
    go None s f = (tt, f low more le s.1)
    go (Some z) s f = ((let first = s.0 in omega (arith, le, first)), s.1)

pub lines-ports : (low middle high : ℕ) (ps : List Port) (rest : List Line) → Rises low middle (map (λ (q : Port). q.name) ps) → LinesRise middle high rest → LinesRise low high (map port ps ++ rest)
lines-ports low middle high [] rest r more = lines-lower low middle high rest r more
lines-ports low middle high (q ∷ ps) rest r more = (r.0, lines-ports (rank q.name + 1) middle high ps rest r.1 more)

-- the name of an item of the top
abbrev pub item_name : TopItem → Name
item_name (Wire h n) = n
item_name (Instance l n joins) = n

pub lines-items : (low high : ℕ) (is : List TopItem) → Rises low high (map item_name is) → LinesRise low high (map joint is)
lines-items low high [] r = r
lines-items low high (Wire h n ∷ is) r = (r.0, lines-items (rank n + 1) high is r.1)
lines-items low high (Instance l n joins ∷ is) r = (r.0, lines-items (rank n + 1) high is r.1)

-- ---- no name twice

abbrev BelowBy : ℕ → Option Declared → Type 0
BelowBy k None = Unit {0}
BelowBy k (Some z) = rank z.name < k

abbrev pub AllBelow : ℕ → List Line → Type 0
AllBelow k xs = AllByRecursion (λ x. BelowBy k (declared x)) xs

below-more : (k m : ℕ) (o : Option Declared) → k ≤ m → BelowBy k o → BelowBy m o
below-more k m None le b = tt
below-more k m (Some z) le b = omega (arith, le, b)

lookup-none : (xs : List Line) (n : Name) → AllBelow (rank n) xs → lookup xs n ≡ None
lookup-none [] n b = refl
lookup-none (x ∷ xs) n b = go (declared x) b.0 (lookup-none xs n b.1)
  where
    go : (o : Option Declared) → BelowBy (rank n) o → lookup xs n ≡ None → found o n (lookup xs n) ≡ None
    go None less e = e
    go (Some z) less e = let apart = other n z.name (λ same. omega (arith, less, same)) in rw apart e

-- the line is no heading
abbrev pub IsBody : Line → Type 0
IsBody (heading n) = ⊥
IsBody (port q) = Unit {0}
IsBody (item x) = Unit {0}
IsBody (joint x) = Unit {0}

repeats-is : (ls : List Leaf) (before : List Line) (x : Line) → IsBody x → repeats ls before x ≡ is_again before (declared x)
repeats-is ls before (heading n) b = absurd b
repeats-is ls before (port q) b = refl
repeats-is ls before (item x) b = refl
repeats-is ls before (joint x) b = refl

pub once-passes : (ls : List Leaf) (all before xs : List Line) (low high : ℕ) → AllByRecursion IsBody xs → AllBelow low before → LinesRise low high xs → Passes name_twice (sites_behind ls all before xs)
unfolding name_twice
once-passes ls all before [] low high body b r = tt
once-passes ls all before (x ∷ xs) low high body b r = (
  repeats-is ls before x body.0 ∙ fresh (declared x) r.0,
  once-passes ls all (before ++ x ∷ []) xs (next_low low (declared x)) high body.1
      (all-join (λ y. BelowBy (next_low low (declared x)) (declared y)) before (x ∷ [])
      (all-map (λ y. BelowBy low (declared y)) (λ y. BelowBy (next_low low (declared x)) (declared y)) (λ y. below-more low (next_low low (declared x)) (declared y) (grows (declared x) r.0)) before b)
      (here (declared x), tt)) r.1,
)
  where
    fresh : (o : Option Declared) → StartsAt low o → is_again before o ≡ false
    fresh None s = refl
    fresh (Some z) s = ap is_some (lookup-none before z.name (all-map (λ y. BelowBy low (declared y)) (λ y. BelowBy (rank z.name) (declared y)) (λ y. below-more low (rank z.name) (declared y) s) before b))

    grows : (o : Option Declared) → StartsAt low o → low ≤ next_low low o
    grows None s = omega arith
    grows (Some z) s = omega (arith, s)

    here : (o : Option Declared) → BelowBy (next_low low o) o
    here None = tt
    here (Some z) = omega arith

-- ---- each name is found

abbrev FindsBy : List Line → Option Declared → Type 0
FindsBy lines None = Unit {0}
FindsBy lines (Some z) = lookup lines z.name ≡ Some z

-- what the line declares is what its name is looked up as
abbrev pub Finds : List Line → Line → Type 0
Finds lines x = FindsBy lines (declared x)

abbrev StartsFrom : ℕ → Line → Type 0
StartsFrom low x = StartsAt low (declared x)

starts : (low high : ℕ) (xs : List Line) → LinesRise low high xs → AllByRecursion (StartsFrom low) xs
starts low high [] r = tt
starts low high (x ∷ xs) r =
    (r.0, all-map (StartsFrom (next_low low (declared x))) (StartsFrom low) (λ y. weaker (declared x) r.0 (declared y)) xs (starts (next_low low (declared x)) high xs r.1))
  where
    weaker : (o : Option Declared) → StartsAt low o → (q : Option Declared) → StartsAt (next_low low o) q → StartsAt low q
    weaker o s None a = tt
    weaker None s (Some z) a = a
    weaker (Some w) s (Some z) a = omega (arith, s, a)

pub finds-all : (xs : List Line) (low high : ℕ) → LinesRise low high xs → AllByRecursion (Finds xs) xs
finds-all [] low high r = tt
finds-all (x ∷ xs) low high r = (
  here (declared x) refl,
  all-both (StartsFrom (next_low low (declared x))) (Finds xs) (Finds (x ∷ xs)) (λ y a f. later (declared y) a f) xs (starts (next_low low (declared x)) high xs r.1)
      (finds-all xs (next_low low (declared x)) high r.1),
)
  where
    here : (o : Option Declared) → declared x ≡ o → FindsBy (x ∷ xs) o
    here None e = tt
    here (Some z) e = let self = itself z.name in ap (λ q. found q z.name (lookup xs z.name)) e ∙ rw self refl

    skip : (o : Option Declared) (z : Declared) → next_low low o ≤ rank z.name → lookup xs z.name ≡ Some z → found o z.name (lookup xs z.name) ≡ Some z
    skip None z le e = e
    skip (Some w) z le e = let apart = other z.name w.name (λ same. omega (arith, le, same)) in rw apart e

    later : (q : Option Declared) → StartsAt (next_low low (declared x)) q → FindsBy xs q → FindsBy (x ∷ xs) q
    later None a f = tt
    later (Some z) a f = skip (declared x) z a f
