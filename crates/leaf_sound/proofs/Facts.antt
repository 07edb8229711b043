-- What the lines of a leaf declare: each name of its own, by the groups that declare it.
use Rattle.std.proofs.Common.{◌≡◌, ℕ, zero, suc, ◌+◌, ◌<◌, ◌≤◌, ◌⊎◌, inl, inr, Bool, true, false, List, [], ◌∷◌, ◌++◌, map, refl, sym, ◌∙◌, ap, subst, arith, Option, Some, None, bytes_eq, append_assoc, if◌then◌else◌}
use Rattle.std.specs.List.{AllByRecursion}
use Rattle.vl_tree.specs.declared.tree.Port.{Port}
use Rattle.vl_tree.specs.Values.{Name, Item}
use Rattle.vl_model.specs.Meaning.{one_if}
use Rattle.vl_model.specs.Lines.{Line, port, item, leaf_lines, Declared, declared, found, lookup}
use Rattle.vl_model.proofs.Passed.{all-front, all-back}
use Rattle.vl_model.proofs.Settling.{itself}
use Rattle.noc_model.specs.Plan.{Plan, tiles, ports}
use Rattle.noc_model.specs.Sound.{IsSound}
use Rattle.gen_kit.specs.Families.{for_each}
use Rattle.gen_kit.specs.Groups.{Group, all_items}
use Rattle.gen_kit.specs.Shape.{tile_head}
use Rattle.leaf_tie.specs.Tie.{HasPort}
use Rattle.leaf_tie.specs.Glue.{has_port}
use Rattle.leaf_tie.specs.Names.{inner_groups, out_groups, leaf_module}
use Rattle.leaf_tie.proofs.Members.{Member, in-front, its-heads, its-nets}
use Rattle.leaf_sound.proofs.Named.{given, given-append, not-found, given-once, all-map-to, gives}

-- what a line declares is found among these lines
abbrev pub LineFound : List Line → Option Declared → Type 0
LineFound lines None = Unit {0}
LineFound lines (Some d) = lookup lines d.name ≡ Some d

found-here : (before rest : List Line) (l : Line) (d : Declared) → declared l ≡ Some d → given d.name before ≡ 0 → lookup (before ++ l ∷ rest) d.name ≡ Some d
found-here [] rest l d e none = ap (λ o. found o d.name (lookup rest d.name)) e ∙ ap (λ b. if b then Some d else lookup rest d.name) (itself d.name)
found-here (b ∷ before) rest l d e none = go (declared b) (found-here before rest l d e) none
  where
    go : (o : Option Declared) → (given d.name before ≡ 0 → lookup (before ++ l ∷ rest) d.name ≡ Some d) → gives d.name o + given d.name before ≡ 0 → found o d.name (lookup (before ++ l ∷ rest) d.name) ≡ Some d
    go None more none = more (omega arith)
    go (Some y) more none = by (bytes_eq d.name y.name) refl
      where
        by : (c : Bool) → bytes_eq d.name y.name ≡ c → (if bytes_eq d.name y.name then Some y else lookup (before ++ l ∷ rest) d.name) ≡ Some d
        by true same = absurd (let one = ap one_if same in omega (arith, one, none))
        by false other = ap (λ c. if c then Some y else lookup (before ++ l ∷ rest) d.name) other ∙ more (let one = ap one_if other in omega (arith, one, none))

all-found : (all before rest : List Line) → ((x : Name) → given x all ≤ 1) → all ≡ before ++ rest → AllByRecursion (λ l. LineFound all (declared l)) rest
all-found all before [] once e = tt
all-found all before (l ∷ ls) once e = (go (declared l) refl, all-found all (before ++ l ∷ []) ls once (e ∙ sym (append_assoc before (l ∷ []) ls)))
  where
    go : (o : Option Declared) → declared l ≡ o → LineFound all o
    go None is = tt
    go (Some d) is =
        ap (λ z. lookup z d.name) e
        ∙ found-here before ls l d is (let split = given-append d.name before (l ∷ ls) in let most = once d.name in let same : given d.name all ≡ given d.name (before ++ l ∷ ls) = ap (given d.name) e in
        let its : gives d.name (declared l) ≡ one_if (bytes_eq d.name d.name) = ap (gives d.name) is in let one = ap one_if (itself d.name) in omega (arith, split, most, same, its, one))

-- the same of an item and of a port
abbrev pub ItemFound : List Line → Item → Type 0
ItemFound lines x = LineFound lines (declared (item x))

items-of : (lines : List Line) (is : List Item) → AllByRecursion (λ l. LineFound lines (declared l)) (map item is) → AllByRecursion (ItemFound lines) is
items-of lines [] a = tt
items-of lines (x ∷ is) a = (a.0, items-of lines is a.1)

ports-of : (lines : List Line) (qs : List Port) → AllByRecursion (λ l. LineFound lines (declared l)) (map port qs) → AllByRecursion (λ q. LineFound lines (declared (port q))) qs
ports-of lines [] a = tt
ports-of lines (q ∷ qs) a = (a.0, ports-of lines qs a.1)

-- what each list of a family has
pub each-has : (P : Item → Type 0) (n : ℕ) (f : ℕ → List Item) (k : ℕ) → k < n → AllByRecursion P (for_each n f) → AllByRecursion P (f k)
each-has P zero f k less a = absurd (omega arith)
each-has P (suc n) f k less a = go (λ h. each-has P n f k h (all-front P (for_each n f) (f n) a)) order
  where
    order : (k < n) ⊎ (k ≡ n)
    order = grind arith

    go : (k < n → AllByRecursion P (f k)) → (k < n) ⊎ (k ≡ n) → AllByRecursion P (f k)
    go before (inl h) = before h
    go before (inr e) = subst (λ j. AllByRecursion P (f j)) (sym e) (all-back P (for_each n f) (f n) a)

pub port-is : (p : Plan) (n d o : ℕ) → o < ports p → has_port p n d o ≡ true → HasPort p n d o
port-is p n d zero less e = e
port-is p n d (suc o) less e = (less, e)

module _ (p : Plan) (n : ℕ) (sound : IsSound p) (inside : n < tiles p) where
  abbrev pub lines : List Line
  lines = leaf_lines (leaf_module p n)

  all : AllByRecursion (λ l. LineFound lines (declared l)) lines
  all = all-found lines [] lines (given-once p n sound inside) refl

  pub items-found : AllByRecursion (ItemFound lines) (all_items (inner_groups p n ++ out_groups p n))
  items-found = items-of lines (leaf_module p n).items (all-back (λ l. LineFound lines (declared l)) (map port (tile_head p n).ports) (map item (leaf_module p n).items) all.1)

  pub ports-found : AllByRecursion (λ q. LineFound lines (declared (port q))) (tile_head p n).ports
  ports-found = ports-of lines (tile_head p n).ports (all-front (λ l. LineFound lines (declared l)) (map port (tile_head p n).ports) (map item (leaf_module p n).items) all.1)

  pub heads-of : (g : Group) → Member g (inner_groups p n) → AllByRecursion (ItemFound lines) g.heads
  heads-of g m = its-heads g (inner_groups p n ++ out_groups p n) (in-front g (inner_groups p n) (out_groups p n) m) (ItemFound lines) items-found

  pub nets-of : (g : Group) → Member g (inner_groups p n) → AllByRecursion (ItemFound lines) g.nets
  nets-of g m = its-nets g (inner_groups p n ++ out_groups p n) (in-front g (inner_groups p n) (out_groups p n) m) (ItemFound lines) items-found
