-- Each item of a leaf uses only what stands before it.
use Rattle.std.proofs.Common.{◌≡◌, ℕ, ◌+◌, ◌-◌, ◌*◌, ◌<◌, ◌≤◌, ◌⊎◌, inl, inr, Bool, true, false, ◌&&◌, ◌||◌, List, [], ◌∷◌, ◌++◌, map, refl, sym, ◌∙◌, ap, subst, arith, Option, Some, None, bytes_eq, nat_lt, append_assoc, flat_map}
use Rattle.std.specs.Prelude.{not}
use Rattle.std.specs.List.{AllByRecursion, list_any}
use Rattle.std.proofs.lemmas.Bool.Decides.{nat_tests}
use Rattle.std.proofs.lemmas.List.{append-nil}
use Rattle.vl_tree.specs.Values.{Name, Expr, Item, wire, reg, mem, assign, clocked, store}
use Rattle.vl_model.specs.Meaning.{Use, nets_of, uses_of, one_if}
use Rattle.vl_model.specs.declared.kind.Kind.{Kind}
use Rattle.vl_model.specs.declared.kind.Kind.TheVariants.{Input, Output, Inner, Register, Memory, Child}
use Rattle.vl_model.specs.Lines.{Line, heading, port, item, Declared, lookup, kind_passes, is_net, is_memory, is_register, is_output, is_driven}
use Rattle.vl_model.specs.Rules.{is_kind, is_early, assigns, drivers}
use Rattle.vl_model.proofs.Passed.{all-back}
use Rattle.vl_model.proofs.Together.{all-join}
use Rattle.vl_model.proofs.Settling.{one-name}
use Rattle.vl_model.proofs.Ordered.{drivers-append, driven-once, driven-wants, kind-of}
use Rattle.noc_model.specs.Plan.{Plan, tiles}
use Rattle.noc_model.specs.Sound.{IsSound}
use Rattle.gen_kit.specs.Groups.{Group}
use Rattle.gen_kit.specs.Shape.{tile_head}
use Rattle.gen_kit.specs.Work.{leaf_name}
use Rattle.leaf_tie.specs.Names.{inner_groups, out_groups, leaf_module}
use Rattle.leaf_sound.proofs.Keyed.{rank}
use Rattle.leaf_sound.proofs.Rising.{RiseBy, joined, lower, none-below, other-rank, ends-high}
use Rattle.leaf_sound.proofs.Nets.{its_nets}
use Rattle.leaf_sound.proofs.Evened.{declares, driven, declares-append, driven-append}
use Rattle.leaf_sound.proofs.Inner as inner
use Rattle.leaf_sound.proofs.Outs.{out_start, outs-rise}
use Rattle.leaf_sound.proofs.Named.{given, given-append, given-items, not-found, port-lines, drivers-pass, items-are}
use Rattle.leaf_sound.proofs.Facts.{lines}
use Rattle.leaf_sound.proofs.Typed.{Reads, UseIs}
use Rattle.leaf_sound.proofs.Walk.{May, Any, ItemIs, Given, GivenUses, AllReady, ready-join, same-found}
use Rattle.leaf_sound.proofs.Items.{Backed, backed-join, backed-drives}
use Rattle.leaf_sound.proofs.AllItems.{inner-good}
use Rattle.leaf_sound.proofs.OutItems.{OutIs, outs-good, outs-backed}
use Rattle.leaf_sound.proofs.Priors.{Prior, Before, BeforeUses}
use Rattle.leaf_sound.proofs.Heads.{AllMove, all-move, heads-prior}

no-declares : (m : Name) (is : List Item) → AllMove is → declares m is ≡ 0
no-declares m [] a = refl
no-declares m (clocked n k e ∷ is) a = no-declares m is a.1
no-declares m (store c n i e ∷ is) a = no-declares m is a.1
no-declares m (wire h n ∷ is) a = absurd a.0
no-declares m (reg h n ∷ is) a = absurd a.0
no-declares m (mem h n last ∷ is) a = absurd a.0
no-declares m (assign n e ∷ is) a = absurd a.0

map-item : (a b : List Item) → map item (a ++ b) ≡ map item a ++ map item b
map-item [] b = refl
map-item (x ∷ a) b = ap (λ z. item x ∷ z) (map-item a b)

-- kinds apart
pub register-driven : (k : Kind) → is_register k ≡ true → is_driven k ≡ false
register-driven Input e = refl
register-driven Output e = absurd (cc e)
register-driven Inner e = absurd (cc e)
register-driven Register e = refl
register-driven Memory e = refl
register-driven Child e = refl

memory-driven : (k : Kind) → is_memory k ≡ true → is_driven k ≡ false
memory-driven Input e = refl
memory-driven Output e = absurd (cc e)
memory-driven Inner e = absurd (cc e)
memory-driven Register e = refl
memory-driven Memory e = refl
memory-driven Child e = refl

pub apart : (test : Kind → Bool) → ((k : Kind) → test k ≡ true → is_driven k ≡ false) → (ls : List Line) (m : Name) → is_kind test ls m ≡ true → is_kind is_driven ls m ≡ false
apart test f ls m e = go (lookup ls m) e
  where
    go : (o : Option Declared) → kind_passes test o ≡ true → kind_passes is_driven o ≡ false
    go None h = absurd (cc h)
    go (Some d) h = f d.kind h

-- where an assign stands: its rank is low, or its target is an output port
abbrev Placed : List Line → Item → Type 0
Placed ls (assign n e) = (rank n < 8388608) ⊎ (is_kind is_output ls n ≡ true)
Placed ls (wire h n) = Unit {0}
Placed ls (reg h n) = Unit {0}
Placed ls (mem h n last) = Unit {0}
Placed ls (clocked n k e) = Unit {0}
Placed ls (store c n i e) = Unit {0}

placed-below : (ls : List Line) (low high : ℕ) (is : List Item) → high ≤ 8388608 → RiseBy low high is → AllByRecursion (Placed ls) is
placed-below ls low high [] le r = tt
placed-below ls low high (assign n e ∷ is) le r = (inl (let last = ends-high (rank n + 1) high is r.1 in omega (arith, last, le)), placed-below ls (rank n + 1) high is le r.1)
placed-below ls low high (clocked n k e ∷ is) le r = (tt, placed-below ls (rank n + 1) high is le r.1)
placed-below ls low high (store c n i e ∷ is) le r = (tt, placed-below ls (rank n + 1) high is le r.1)
placed-below ls low high (wire h n ∷ is) le r = (tt, placed-below ls low high is le r)
placed-below ls low high (reg h n ∷ is) le r = (tt, placed-below ls low high is le r)
placed-below ls low high (mem h n last ∷ is) le r = (tt, placed-below ls low high is le r)

out-placed : (ls : List Line) (is : List Item) → AllByRecursion (OutIs ls) is → AllByRecursion (Placed ls) is
out-placed ls [] a = tt
out-placed ls (assign n e ∷ is) a = (inr a.0.1, out-placed ls is a.1)
out-placed ls (clocked n k e ∷ is) a = absurd a.0
out-placed ls (store c n i e ∷ is) a = absurd a.0
out-placed ls (wire h n ∷ is) a = absurd a.0
out-placed ls (reg h n ∷ is) a = absurd a.0
out-placed ls (mem h n last ∷ is) a = absurd a.0

pub out-items : (ls : List Line) (is : List Item) → AllByRecursion (OutIs ls) is → AllByRecursion (ItemIs ls) is
out-items ls [] a = tt
out-items ls (assign n e ∷ is) a = (a.0.0, out-items ls is a.1)
out-items ls (clocked n k e ∷ is) a = absurd a.0
out-items ls (store c n i e ∷ is) a = absurd a.0
out-items ls (wire h n ∷ is) a = absurd a.0
out-items ls (reg h n ∷ is) a = absurd a.0
out-items ls (mem h n last ∷ is) a = absurd a.0

-- what is driven among items that are right, and may be assigned, is assigned
assigned-there : (ls : List Line) (m : Name) → is_kind is_driven ls m ≡ true → (is : List Item) → AllByRecursion (ItemIs ls) is → 1 ≤ driven m is → list_any (assigns m) (map item is) ≡ true
assigned-there ls m its [] a some = absurd (omega arith)
assigned-there ls m its (assign n e ∷ is) a some = go (bytes_eq m n) refl (assigned-there ls m its is a.1)
  where
    go : (b : Bool) → bytes_eq m n ≡ b → (1 ≤ driven m is → list_any (assigns m) (map item is) ≡ true) → (bytes_eq m n || list_any (assigns m) (map item is)) ≡ true
    go true e rest = rw e refl
    go false e rest = rw e (rest (let none = ap one_if e in omega (arith, none, some)))
assigned-there ls m its (clocked n k e ∷ is) a some = go (bytes_eq m n) refl (assigned-there ls m its is a.1)
  where
    go : (b : Bool) → bytes_eq m n ≡ b → (1 ≤ driven m is → list_any (assigns m) (map item is) ≡ true) → list_any (assigns m) (map item is) ≡ true
    go true e rest = absurd (let no_drive = apart is_register register-driven ls m (ap (λ z. is_kind is_register ls z) (one-name m n e) ∙ ap (kind_passes is_register) a.0.target.found) in cc (sym its ∙ no_drive))
    go false e rest = rest (let none = ap one_if e in omega (arith, none, some))
assigned-there ls m its (store c n i e ∷ is) a some = go (bytes_eq m n) refl (assigned-there ls m its is a.1)
  where
    go : (b : Bool) → bytes_eq m n ≡ b → (1 ≤ driven m is → list_any (assigns m) (map item is) ≡ true) → list_any (assigns m) (map item is) ≡ true
    go true e rest = absurd (let no_drive = apart is_memory memory-driven ls m (ap (λ z. is_kind is_memory ls z) (one-name m n e) ∙ a.0.memory) in cc (sym its ∙ no_drive))
    go false e rest = rest (let none = ap one_if e in omega (arith, none, some))
assigned-there ls m its (wire h n ∷ is) a some = assigned-there ls m its is a.1 (omega (arith, some))
assigned-there ls m its (reg h n ∷ is) a some = assigned-there ls m its is a.1 (omega (arith, some))
assigned-there ls m its (mem h n last ∷ is) a some = assigned-there ls m its is a.1 (omega (arith, some))

-- wires and assigns drive what may be assigned
backed-kind : (ls : List Line) (m : Name) (is : List Item) → Backed is → AllByRecursion (ItemIs ls) is → 1 ≤ driven m is → is_kind is_driven ls m ≡ true
backed-kind ls m [] b a some = absurd (omega arith)
backed-kind ls m (assign n e ∷ is) b a some = go (bytes_eq m n) refl (backed-kind ls m is b a.1)
  where
    go : (c : Bool) → bytes_eq m n ≡ c → (1 ≤ driven m is → is_kind is_driven ls m ≡ true) → is_kind is_driven ls m ≡ true
    go true e rest = ap (λ z. is_kind is_driven ls z) (one-name m n e) ∙ ap (kind_passes is_driven) a.0.target.found ∙ a.0.is_its
    go false e rest = rest (let none = ap one_if e in omega (arith, none, some))
backed-kind ls m (wire h n ∷ is) b a some = backed-kind ls m is b.1 a.1 (omega (arith, some))
backed-kind ls m (reg h n ∷ is) b a some = absurd b
backed-kind ls m (mem h n last ∷ is) b a some = absurd b
backed-kind ls m (clocked n k e ∷ is) b a some = absurd b
backed-kind ls m (store c n i e ∷ is) b a some = absurd b

any-behind : (f : Line → Bool) (a b : List Line) → list_any f b ≡ true → list_any f (a ++ b) ≡ true
any-behind f [] b e = e
any-behind f (x ∷ a) b e = go (f x) (any-behind f a b e)
  where
    go : (c : Bool) → list_any f (a ++ b) ≡ true → (c || list_any f (a ++ b)) ≡ true
    go true h = refl
    go false h = h

module _ (p : Plan) (n : ℕ) (sound : IsSound p) (inside : n < tiles p) where
  abbrev L : List Line
  L = lines p n sound inside

  abbrev PL : List Line
  PL = heading (leaf_name n) ∷ map port (tile_head p n).ports

  abbrev F : List Item → List Line
  F b = PL ++ map item b

  abbrev pub H : List Item
  H = flat_map (λ (g : Group). g.heads) (inner_groups p n)

  abbrev pub NO : List Item
  NO = flat_map its_nets (inner_groups p n) ++ flat_map its_nets (out_groups p n)

  abbrev pub M : List Item
  M = flat_map (λ (g : Group). g.moves) (inner_groups p n)

  -- the lines of the leaf
  all-are : L ≡ F ((H ++ NO) ++ M)
  all-are = ap (λ z. PL ++ map item z) (items-are p n sound inside ∙ sym (append_assoc H NO M))

  front-is : (m : Name) (b : List Item) → given m (F b) ≡ given m PL + declares m b
  front-is m b = let split = given-append m PL (map item b) in let its = given-items m b in omega (arith, split, its)

  no-late : (m : Name) → declares m M ≡ 0
  no-late m = no-declares m M (all-move p n)

  total : (m : Name) → given m L ≡ given m PL + declares m (H ++ NO)
  total m = ap (given m) all-are ∙ (let front = front-is m ((H ++ NO) ++ M) in let split = declares-append m (H ++ NO) M in let none = no-late m in omega (arith, front, split, none))

  known : (test : Kind → Bool) (m : Name) → is_kind test L m ≡ true → 1 ≤ given m L
  known test m e = go (nat_lt 0 (given m L)) refl
    where
      go : (b : Bool) → nat_lt 0 (given m L) ≡ b → 1 ≤ given m L
      go true h = (let some : 0 < given m L = grind (arith, nat_tests, h) in omega (arith, some))
      go false h = (let none : given m L ≤ 0 = grind (arith, nat_tests, h) in absurd (cc (sym (ap (kind_passes test) (not-found m L (omega (arith, none)))) ∙ e)))

  H-rise : RiseBy 1 (2048 * 1024 + 1) H
  H-rise = (inner.heads p n sound).all.by

  NO-rise : RiseBy (2048 * 1024 + 1) (out_start + 8192) NO
  NO-rise = joined (2048 * 1024 + 1) (2048 * 4096) (out_start + 8192) (flat_map its_nets (inner_groups p n)) (flat_map its_nets (out_groups p n)) (inner.nets p n sound).all.by (lower (2048 * 4096) out_start (out_start + 8192) (flat_map its_nets (out_groups p n)) (omega arith) (outs-rise p n sound inside).all.by)

  K-rise : RiseBy 1 (out_start + 8192) (H ++ NO)
  K-rise = joined 1 (2048 * 1024 + 1) (out_start + 8192) H NO H-rise NO-rise

  NO-good : AllByRecursion (ItemIs L) NO
  NO-good = all-join (ItemIs L) (flat_map its_nets (inner_groups p n)) (flat_map its_nets (out_groups p n)) (inner-good p n sound inside).nets.all (out-items L (flat_map its_nets (out_groups p n)) (outs-good p n sound inside))

  H-good : AllByRecursion (ItemIs L) H
  H-good = (inner-good p n sound inside).heads.all

  M-good : AllByRecursion (ItemIs L) M
  M-good = (inner-good p n sound inside).moves.all

  K-good : AllByRecursion (ItemIs L) (H ++ NO)
  K-good = all-join (ItemIs L) H NO H-good NO-good

  K-placed : AllByRecursion (Placed L) (H ++ NO)
  K-placed = all-join (Placed L) H NO (placed-below L 1 (2048 * 1024 + 1) H (omega arith) H-rise) (all-join (Placed L) (flat_map its_nets (inner_groups p n)) (flat_map its_nets (out_groups p n)) (placed-below L (2048 * 1024 + 1) (2048 * 4096) (flat_map its_nets (inner_groups p n)) (omega arith) (inner.nets p n sound).all.by) (out-placed L (flat_map its_nets (out_groups p n)) (outs-good p n sound inside)))

  NO-backed : Backed NO
  NO-backed = backed-join (flat_map its_nets (inner_groups p n)) (flat_map its_nets (out_groups p n)) (inner-good p n sound inside).nets.backed (outs-backed p n)

  -- the lines before, and behind
  split-lines : (b s : List Item) → H ++ NO ≡ b ++ s → L ≡ F b ++ map item (s ++ M)
  split-lines b s e = all-are ∙ ap (λ z. F (z ++ M)) e ∙ ap (λ z. PL ++ z) (ap (map item) (append_assoc b s M) ∙ map-item b (s ++ M)) ∙ sym (append_assoc PL (map item b) (map item (s ++ M)))

  same-kind : (test : Kind → Bool) (b s : List Item) (m : Name) → H ++ NO ≡ b ++ s → 1 ≤ given m (F b) → is_kind test (F b) m ≡ is_kind test L m
  same-kind test b s m e some = ap (kind_passes test) (same-found L (F b) (map item (s ++ M)) m (split-lines b s e) some)

  -- ---- what an assign reads is assigned before

  module _ (b s : List Item) (t : Name) (v : Expr) (e : H ++ NO ≡ b ++ assign t v ∷ s) (low high : ℕ) (rise : RiseBy (rank t + 1) high s) (place : Placed L (assign t v)) (good : AllByRecursion (ItemIs L) b) where
    early-one : (m : Name) → May L t m → 1 ≤ given m (F b) → is_early (F b) m ≡ false
    early-one m (inl register) some = ap (λ c. c && not (list_any (assigns m) (F b))) (same-kind is_driven b (assign t v ∷ s) m e some ∙ apart is_register register-driven L m register)
    early-one m (inr (less, wire_target)) some = go (is_kind is_driven L m) refl place
      where
        go : (c : Bool) → is_kind is_driven L m ≡ c → (rank t < 8388608) ⊎ (is_kind is_output L t ≡ true) → is_early (F b) m ≡ false
        go false is where_t = ap (λ c. c && not (list_any (assigns m) (F b))) (same-kind is_driven b (assign t v ∷ s) m e some ∙ is)
        go true is (inr output) = absurd (cc (sym wire_target ∙ output))
        go true is (inl below) = rw (any-behind (assigns m) PL (map item b) (assigned-there L m is b good there)) (no-both (is_kind is_driven (F b) m))
          where
            no-both : (c : Bool) → (c && not true) ≡ false
            no-both true = refl
            no-both false = refl

            what : (x : Declared) × (lookup L m ≡ Some x) × (is_driven x.kind ≡ true)
            what = kind-of is_driven L m is

            one : drivers [] L m ≡ 1
            one = driven-once [] L m what.0 (drivers-pass p n sound inside) what.1 (driven-wants what.0.kind what.2)

            there : 1 ≤ driven m b
            there =
                let all : drivers [] L m ≡ drivers [] (F b) m + drivers [] (map item ((assign t v ∷ s) ++ M)) m = ap (λ z. drivers [] z m) (split-lines b (assign t v ∷ s) e) ∙ drivers-append [] (F b) (map item ((assign t v ∷ s) ++ M)) m in
                let front = drivers-append [] PL (map item b) m in
                let ports = port-lines m (tile_head p n).ports in
                let back = driven-append m (assign t v ∷ s) M in
                let rest = none-below (rank t + 1) high s m rise (omega (arith, less)) in
                let moved = none-below (2048 * 4096) (2048 * 6144) M m (inner.moves p n sound).all.by (omega (arith, less, below)) in
                let other = ap one_if (other-rank m t (λ same. omega (arith, same, less))) in
                let is_one = one in
                omega (arith, all, front, ports, back, rest, moved, other, is_one)

    early-all : (ns : List Name) → AllByRecursion (Reads L (May L t)) ns → Given (F b) ns → AllByRecursion (λ m. is_early (F b) m ≡ false) ns
    early-all [] a g = tt
    early-all (m ∷ ns) a g = (early-one m a.0.1 g.0, early-all ns a.1 g.1)

  -- the lines with one item more
  F-more : (b : List Item) (x : Item) → F (b ++ x ∷ []) ≡ F b ++ item x ∷ []
  F-more b x = ap (λ z. PL ++ z) (map-item b (x ∷ [])) ∙ sym (append_assoc PL (map item b) (item x ∷ []))

  K-more : (b s : List Item) (x : Item) → H ++ NO ≡ b ++ x ∷ s → H ++ NO ≡ (b ++ x ∷ []) ++ s
  K-more b s x e = e ∙ sym (append_assoc b (x ∷ []) s)

  good-more : (b : List Item) (x : Item) → AllByRecursion (ItemIs L) b → ItemIs L x → AllByRecursion (ItemIs L) (b ++ x ∷ [])
  good-more b x a g = all-join (ItemIs L) b (x ∷ []) a (g, tt)

  -- ---- nets and output ports

  module _ (b s : List Item) (t : Name) (v : Expr) (e : H ++ NO ≡ b ++ assign t v ∷ s) (low high : ℕ) (rise : RiseBy (rank t + 1) high s) (backed : Backed s) (goods : AllByRecursion (ItemIs L) s) where
    -- a name that is not declared behind stands before
    stands : (m : Name) → 1 ≤ given m L → (1 ≤ declares m s → ⊥) → 1 ≤ given m (F b)
    stands m some none =
        let all = total m in
        let split = declares-append m b (assign t v ∷ s) in
        let same : declares m (H ++ NO) ≡ declares m (b ++ assign t v ∷ s) = ap (declares m) e in
        let front = front-is m b in
        go (nat_lt 0 (declares m s)) refl (omega (arith, all, same, front)) split
      where
        go : (c : Bool) → nat_lt 0 (declares m s) ≡ c → (given m L ≡ given m (F b) + declares m (b ++ assign t v ∷ s) - declares m b) → declares m (b ++ assign t v ∷ s) ≡ declares m b + declares m s → 1 ≤ given m (F b)
        go true h all split = absurd (none (let more : 0 < declares m s = grind (arith, nat_tests, h) in omega (arith, more)))
        go false h all split = (let zero_more : declares m s ≤ 0 = grind (arith, nat_tests, h) in omega (arith, all, split, zero_more, some))

    target-there : is_kind is_driven L t ≡ true → 1 ≤ given t (F b)
    target-there its = stands t (known is_driven t its) (λ more. let drives = backed-drives t s backed more in let none = none-below (rank t + 1) high s t rise (omega arith) in omega (arith, drives, none))

    read-there : (m : Name) → is_kind is_net L m ≡ true → May L t m → 1 ≤ given m (F b)
    read-there m its (inl register) = stands m (known is_net m its) (λ more. cc (sym (backed-kind L m s backed goods (backed-drives m s backed more)) ∙ apart is_register register-driven L m register))
    read-there m its (inr (less, rest)) = stands m (known is_net m its) (λ more. let drives = backed-drives m s backed more in let none = none-below (rank t + 1) high s m rise (omega (arith, less)) in omega (arith, drives, none))

    reads-there : (ns : List Name) → AllByRecursion (Reads L (May L t)) ns → Given (F b) ns
    reads-there [] a = tt
    reads-there (m ∷ ns) a = (read-there m a.0.0 a.0.1, reads-there ns a.1)

    uses-there : (us : List Use) → AllByRecursion (UseIs L (May L t)) us → GivenUses (F b) us
    uses-there [] a = tt
    uses-there (u ∷ us) a = ((stands u.memory (known is_memory u.memory a.0.memory) (λ more. cc (sym (backed-kind L u.memory s backed goods (backed-drives u.memory s backed more)) ∙ apart is_memory memory-driven L u.memory a.0.memory)), reads-there (nets_of u.index) a.0.read), uses-there us a.1)

  net-walk : (b s : List Item) (low high : ℕ) → H ++ NO ≡ b ++ s → RiseBy low high s → Backed s → AllByRecursion (ItemIs L) b → AllByRecursion (ItemIs L) s → AllByRecursion (Placed L) s → AllReady (F b) s
  net-walk b [] low high e r k a g w = tt
  net-walk b (wire h t ∷ s) low high e r k a g w = (tt, subst (λ z. AllReady z s) (F-more b (wire h t)) (net-walk (b ++ wire h t ∷ []) s low high (K-more b s (wire h t) e) r k.1 (good-more b (wire h t) a g.0) g.1 w.1))
  net-walk b (assign t v ∷ s) low high e r k a g w =
      let there = reads-there b s t v e low high r.1 k g.1 (nets_of v) g.0.value.reads in (
        (
          target-there b s t v e low high r.1 k g.1 (ap (kind_passes is_driven) g.0.target.found ∙ g.0.is_its),
          there,
          uses-there b s t v e low high r.1 k g.1 (uses_of v) g.0.value.uses,
          early-all b s t v e low high r.1 w.0 a (nets_of v) g.0.value.reads there,
        ),
        subst (λ z. AllReady z s) (F-more b (assign t v)) (net-walk (b ++ assign t v ∷ []) s (rank t + 1) high (K-more b s (assign t v) e) r.1 k (good-more b (assign t v) a g.0) g.1 w.1),
      )
  net-walk b (reg h t ∷ s) low high e r k a g w = absurd k
  net-walk b (mem h t last ∷ s) low high e r k a g w = absurd k
  net-walk b (clocked t c v ∷ s) low high e r k a g w = absurd k
  net-walk b (store c t i v ∷ s) low high e r k a g w = absurd k

  -- ---- heads

  lift : (b : List Item) (ns : List Name) → Before b ns → Given (F b) ns
  lift b [] a = tt
  lift b (m ∷ ns) a = ((let front = front-is m b in let some = a.0 in omega (arith, front, some)), lift b ns a.1)

  lift-uses : (b : List Item) (us : List Use) → BeforeUses b us → GivenUses (F b) us
  lift-uses b [] a = tt
  lift-uses b (u ∷ us) a = (((let front = front-is u.memory b in let some = a.0.0 in omega (arith, front, some)), lift b (nets_of u.index) a.0.1), lift-uses b us a.1)

  head-walk : (b s : List Item) (low high : ℕ) → H ++ NO ≡ b ++ (s ++ NO) → RiseBy low high (s ++ NO) → Prior b s → AllByRecursion (ItemIs L) b → AllByRecursion (ItemIs L) s → AllByRecursion (Placed L) (s ++ NO) → AllReady (F b) s
  head-walk b [] low high e r k a g w = tt
  head-walk b (wire h t ∷ s) low high e r k a g w = (tt, subst (λ z. AllReady z s) (F-more b (wire h t)) (head-walk (b ++ wire h t ∷ []) s low high (K-more b (s ++ NO) (wire h t) e) r k.1 (good-more b (wire h t) a g.0) g.1 w.1))
  head-walk b (reg h t ∷ s) low high e r k a g w = (tt, subst (λ z. AllReady z s) (F-more b (reg h t)) (head-walk (b ++ reg h t ∷ []) s low high (K-more b (s ++ NO) (reg h t) e) r k.1 (good-more b (reg h t) a g.0) g.1 w.1))
  head-walk b (mem h t last ∷ s) low high e r k a g w = (tt, subst (λ z. AllReady z s) (F-more b (mem h t last)) (head-walk (b ++ mem h t last ∷ []) s low high (K-more b (s ++ NO) (mem h t last) e) r k.1 (good-more b (mem h t last) a g.0) g.1 w.1))
  head-walk b (assign t v ∷ s) low high e r k a g w =
      let there = lift b (nets_of v) k.0.1 in (
        ((let front = front-is t b in let some = k.0.0 in omega (arith, front, some)), there, lift-uses b (uses_of v) k.0.2, early-all b (s ++ NO) t v e low high r.1 w.0 a (nets_of v) g.0.value.reads there),
        subst (λ z. AllReady z s) (F-more b (assign t v)) (head-walk (b ++ assign t v ∷ []) s (rank t + 1) high (K-more b (s ++ NO) (assign t v) e) r.1 k.1 (good-more b (assign t v) a g.0) g.1 w.1),
      )
  head-walk b (clocked t c v ∷ s) low high e r k a g w = (
    ((let front = front-is t b in let some = k.0.0 in omega (arith, front, some)), lift b (nets_of v) k.0.1, lift-uses b (uses_of v) k.0.2),
    subst (λ z. AllReady z s) (F-more b (clocked t c v)) (head-walk (b ++ clocked t c v ∷ []) s (rank t + 1) high (K-more b (s ++ NO) (clocked t c v) e) r.1 k.1 (good-more b (clocked t c v) a g.0) g.1 w.1),
  )
  head-walk b (store c t i v ∷ s) low high e r k a g w = (
    ((let front = front-is t b in let some = k.0.0 in omega (arith, front, some)), lift b (nets_of c) k.0.1, lift-uses b (uses_of c) k.0.2, lift b (nets_of i) k.0.3, lift-uses b (uses_of i) k.0.4, lift b (nets_of v) k.0.5, lift-uses b (uses_of v) k.0.6),
    subst (λ z. AllReady z s) (F-more b (store c t i v)) (head-walk (b ++ store c t i v ∷ []) s (rank t + 1) high (K-more b (s ++ NO) (store c t i v) e) r.1 k.1 (good-more b (store c t i v) a g.0) g.1 w.1),
  )

  -- ---- moves

  module _ (b s : List Item) (e : (H ++ NO) ++ M ≡ b ++ s) (moves : AllMove s) where
    all-there : (m : Name) → 1 ≤ given m L → 1 ≤ given m (F b)
    all-there m some =
        let all = total m in
        let late = no-late m in
        let front = front-is m b in
        let none = no-declares m s moves in
        let split = declares-append m b s in
        let whole = declares-append m (H ++ NO) M in
        let same : declares m ((H ++ NO) ++ M) ≡ declares m (b ++ s) = ap (declares m) e in
        omega (arith, all, late, front, none, split, whole, same, some)

    all-given : (P : Name → Type 0) (ns : List Name) → AllByRecursion (Reads L P) ns → Given (F b) ns
    all-given P [] a = tt
    all-given P (m ∷ ns) a = (all-there m (known is_net m a.0.0), all-given P ns a.1)

    all-uses : (P : Name → Type 0) (us : List Use) → AllByRecursion (UseIs L P) us → GivenUses (F b) us
    all-uses P [] a = tt
    all-uses P (u ∷ us) a = ((all-there u.memory (known is_memory u.memory a.0.memory), all-given P (nets_of u.index) a.0.read), all-uses P us a.1)

  move-walk : (b s : List Item) → (H ++ NO) ++ M ≡ b ++ s → AllMove s → AllByRecursion (ItemIs L) s → AllReady (F b) s
  move-walk b [] e m g = tt
  move-walk b (clocked t c v ∷ s) e m g = (
    (all-there b (clocked t c v ∷ s) e m t (known is_register t (ap (kind_passes is_register) g.0.target.found)), all-given b (clocked t c v ∷ s) e m (Any L) (nets_of v) g.0.value.reads, all-uses b (clocked t c v ∷ s) e m (Any L) (uses_of v) g.0.value.uses),
    subst (λ z. AllReady z s) (F-more b (clocked t c v)) (move-walk (b ++ clocked t c v ∷ []) s (e ∙ sym (append_assoc b (clocked t c v ∷ []) s)) m.1 g.1),
  )
  move-walk b (store c t i v ∷ s) e m g = (
    (
      all-there b (store c t i v ∷ s) e m t (known is_memory t g.0.memory),
      all-given b (store c t i v ∷ s) e m (Any L) (nets_of c) g.0.enable.reads,
      all-uses b (store c t i v ∷ s) e m (Any L) (uses_of c) g.0.enable.uses,
      all-given b (store c t i v ∷ s) e m (Any L) (nets_of i) g.0.index.reads,
      all-uses b (store c t i v ∷ s) e m (Any L) (uses_of i) g.0.index.uses,
      all-given b (store c t i v ∷ s) e m (Any L) (nets_of v) g.0.value.reads,
      all-uses b (store c t i v ∷ s) e m (Any L) (uses_of v) g.0.value.uses,
    ),
    subst (λ z. AllReady z s) (F-more b (store c t i v)) (move-walk (b ++ store c t i v ∷ []) s (e ∙ sym (append_assoc b (store c t i v ∷ []) s)) m.1 g.1),
  )
  move-walk b (wire h t ∷ s) e m g = absurd m.0
  move-walk b (reg h t ∷ s) e m g = absurd m.0
  move-walk b (mem h t last ∷ s) e m g = absurd m.0
  move-walk b (assign t v ∷ s) e m g = absurd m.0

  -- ---- all of them

  F-append : (a b : List Item) → F (a ++ b) ≡ F a ++ map item b
  F-append a b = ap (λ z. PL ++ z) (map-item a b) ∙ sym (append_assoc PL (map item a) (map item b))

  pub all-ready : AllReady PL ((H ++ NO) ++ M)
  all-ready =
      ready-join PL (H ++ NO) M
      (ready-join PL H NO
      (subst (λ z. AllReady z H) (append-nil PL) (head-walk [] H 1 (out_start + 8192) refl K-rise ((heads-prior p n).its.all [] (λ m none. absurd none)) tt H-good K-placed))
      (net-walk H NO (2048 * 1024 + 1) (out_start + 8192) refl NO-rise NO-backed H-good NO-good (all-back (Placed L) H NO K-placed)))
      (move-walk (H ++ NO) M refl (all-move p n) M-good)

  pub all-good : AllByRecursion (ItemIs L) ((H ++ NO) ++ M)
  all-good = all-join (ItemIs L) (H ++ NO) M K-good M-good

  pub lines-are : L ≡ PL ++ map item ((H ++ NO) ++ M)
  lines-are = all-are

  pub its-items : (leaf_module p n).items ≡ (H ++ NO) ++ M
  its-items = items-are p n sound inside ∙ sym (append_assoc H NO M)
