-- A leaf keeps all rules: it is sound by itself.
use Rattle.std.proofs.Common.{◌≡◌, ℕ, ◌+◌, ◌^◌, ◌<◌, ◌≤◌, ◌⊎◌, inl, inr, Bool, true, false, ◌&&◌, List, [], ◌∷◌, ◌++◌, map, length, refl, sym, ◌∙◌, ap, subst, arith, Option, Some, None, bytes_eq, nat_lt, nat_le, append_assoc, if◌then◌else◌, decimal}
use Rattle.std.specs.Prelude.{not}
use Rattle.std.specs.List.{AllByRecursion, list_any, list_all}
use Rattle.std.proofs.lemmas.Bool.{and_from, or_from}
use Rattle.std.proofs.lemmas.Bool.Decides.{nat_tests}
use Rattle.std.proofs.lemmas.List.{append-nil}
use Rattle.std.proofs.lemmas.Fmt.{decimal_is_IsNumeral}
use Rattle.vl_tree.specs.declared.tree.Port.{Port}
use Rattle.vl_tree.specs.Values.{Name, Expr, Item, wire, reg, mem, assign, clocked, store}
use Rattle.vl_tree.specs.Tokens.{is_name}
use Rattle.vl_tree.specs.Grammar.{limit}
use Rattle.vl_tree.specs.Plain.{plain_leaf, plain_port, plain_item, plain_expr, plain_const, plain_number}
use Rattle.vl_model.specs.Meaning.{nets_of}
use Rattle.vl_model.specs.declared.kind.Kind.{Kind}
use Rattle.vl_model.specs.declared.kind.Kind.TheVariants.{Input, Output, Inner, Register, Memory, Child}
use Rattle.vl_model.specs.Lines.{Line, heading, port, item, Site, sites_behind, module_sites, Declared, declared, lookup, kind_passes, is_register, is_output, is_driven, is_input, way_of}
use Rattle.vl_model.specs.Rules.{is_kind, rules, name_unknown, wrong_width, wrong_order, goes_through, wrong_size, depending, all_depending, IsSoundLeaf}
use Rattle.vl_model.proofs.Passed.{Passes}
use Rattle.vl_model.proofs.Together.{all-none}
use Rattle.vl_model.proofs.Settling.{one-name}
use Rattle.noc_model.specs.declared.Host.{Host}
use Rattle.noc_model.specs.Plan.{Plan, tiles, ports}
use Rattle.noc_model.specs.Place.{opposite}
use Rattle.noc_model.specs.Sound.{IsSound}
use Rattle.gen_kit.specs.Ports.{host_ports}
use Rattle.gen_kit.specs.Shape.{Tied, link_ties, second_ties, tile_head, credit_bits}
use Rattle.gen_kit.specs.Work.{leaf_name}
use Rattle.leaf_tie.specs.Names.{leaf_module}
use Rattle.leaf_sound.proofs.Named.{twice-passes, drivers-pass, joins-pass}
use Rattle.leaf_sound.proofs.Outs.{ports-all}
use Rattle.gen_kit.proofs.Plainly.{last-run, some-digit}
use Rattle.leaf_sound.proofs.Plainly.{pair-plain, triple-plain}
use Rattle.leaf_sound.proofs.Shared.{few-word-bits, few-credits}
use Rattle.leaf_sound.proofs.Inner.{few-ports}
use Rattle.leaf_sound.proofs.Facts.{LineFound, lines, ports-found}
use Rattle.leaf_sound.proofs.Typed.{Is, Reads}
use Rattle.leaf_sound.proofs.Walk.{May, ItemIs, known-passes, width-passes, order-passes, size-passes}
use Rattle.leaf_sound.proofs.Readied as readied
use Rattle.leaf_sound.proofs.Readied.{all-ready, all-good, lines-are, its-items}

passes-join : (t : Site → Bool) (all before a b : List Line) → Passes t (sites_behind [] all before a) → Passes t (sites_behind [] all (before ++ a) b) → Passes t (sites_behind [] all before (a ++ b))
passes-join t all before [] b p q = subst (λ x. Passes t (sites_behind [] all x b)) (append-nil before) q
passes-join t all before (x ∷ a) b p q = (p.0, passes-join t all (before ++ x ∷ []) a b p.1 (subst (λ y. Passes t (sites_behind [] all y b)) (sym (append_assoc before (x ∷ []) a)) q))

less-true : (a b : ℕ) → a < b → nat_lt a b ≡ true
less-true a b h = grind (arith, nat_tests)

most-true : (a b : ℕ) → a ≤ b → nat_le a b ≡ true
most-true a b h = grind (arith, nat_tests)

-- ---- ports

record PortIs (q : Port) : Type 0 where
  few : q.high < 64
  plain : is_name q.name ≡ true

ports-known : (all before : List Line) (qs : List Port) → Passes name_unknown (sites_behind [] all before (map port qs))
unfolding name_unknown
ports-known all before [] = tt
ports-known all before (q ∷ qs) = (refl, ports-known all (before ++ port q ∷ []) qs)

ports-wide : (all before : List Line) (qs : List Port) → AllByRecursion PortIs qs → Passes wrong_width (sites_behind [] all before (map port qs))
unfolding wrong_width
ports-wide all before [] a = tt
ports-wide all before (q ∷ qs) a = (ap not (less-true q.high 64 a.0.few), ports-wide all (before ++ port q ∷ []) qs a.1)

ports-order : (all before : List Line) (qs : List Port) → Passes wrong_order (sites_behind [] all before (map port qs))
unfolding wrong_order
ports-order all before [] = tt
ports-order all before (q ∷ qs) = (refl, ports-order all (before ++ port q ∷ []) qs)

ports-size : (all before : List Line) (qs : List Port) → Passes wrong_size (sites_behind [] all before (map port qs))
unfolding wrong_size
ports-size all before [] = tt
ports-size all before (q ∷ qs) = (refl, ports-size all (before ++ port q ∷ []) qs)

ports-plain : (qs : List Port) → AllByRecursion PortIs qs → list_all plain_port qs ≡ true
ports-plain [] a = refl
ports-plain (q ∷ qs) a = and_from (plain_port q) (list_all plain_port qs) (and_from (plain_number q.high) (is_name q.name) (let few = a.0.few in less-true q.high 1_000_000_000 (omega (arith, few))) a.0.plain) (ports-plain qs a.1)

-- ---- plain items

two-hundred : limit ≡ 200
unfolding limit
two-hundred = refl

expr-plain : (ls : List Line) {P : Name → Type 0} {e : Expr} {k : ℕ} → Is ls P e k 200 → plain_expr limit e ≡ true
expr-plain ls x = x.plain limit (let is = two-hundred in omega (arith, is))

const-plain : (w v h : ℕ) → w ≡ h + 1 → h < 64 → v < 2 ^ w → plain_const (record { width = w; value = v }) ≡ true
const-plain w v h e few small = rw (less-true 0 w (omega (arith, e)), most-true w 64 (omega (arith, e, few)), less-true v (2 ^ w) small) refl

high-plain : (h : ℕ) → h < 64 → plain_number h ≡ true
high-plain h few = less-true h 1_000_000_000 (omega (arith, few))

item-plain : (ls : List Line) (x : Item) → ItemIs ls x → plain_item x ≡ true
item-plain ls (wire h n) a = rw (high-plain h a.0, a.1) refl
item-plain ls (reg h n) a = rw (high-plain h a.0, a.1) refl
item-plain ls (mem h n last) a = rw (high-plain h a.0, a.1, a.3) refl
item-plain ls (assign n e) a = rw (a.target.plain, expr-plain ls a.value) refl
item-plain ls (clocked n k e) a = rw (a.target.plain, const-plain k.width k.value a.h a.wide a.target.few a.small, expr-plain ls a.value) refl
item-plain ls (store c n i e) a = rw (expr-plain ls a.enable, a.plain, expr-plain ls a.index, expr-plain ls a.value) refl

items-plain : (ls : List Line) (is : List Item) → AllByRecursion (ItemIs ls) is → list_all plain_item is ≡ true
items-plain ls [] a = refl
items-plain ls (x ∷ is) a = and_from (plain_item x) (list_all plain_item is) (item-plain ls x a.0) (items-plain ls is a.1)

router-plain : (n : ℕ) → n < 2 ^ 64 → is_name (leaf_name n) ≡ true
router-plain n small =
    let last = last-run n small in
    let short = last.1 in
    let digits = decimal_is_IsNumeral n small in
    rw (last.0, less-true (length (111 ∷ 117 ∷ 116 ∷ 101 ∷ 114 ∷ 95 ∷ (decimal n ++ []))) 64 (omega (arith, short)), some-digit (decimal n) [] digits.0.0 digits.0.1) refl

-- ---- no way through

-- registers and output ports
abbrev Pure : List Line → Name → Type 0
Pure ls m = (is_kind is_register ls m ≡ true) ⊎ (is_kind is_output ls m ≡ true)

input-impure : (ls : List Line) (m : Name) → is_kind is_input ls m ≡ true → Pure ls m → ⊥
input-impure ls m e (inl f) = go (lookup ls m) e f
  where
    one : (k : Kind) → is_input k ≡ true → is_register k ≡ true → ⊥
    one Input a b = cc b
    one Output a b = cc a
    one Inner a b = cc a
    one Register a b = cc a
    one Memory a b = cc a
    one Child a b = cc a

    go : (o : Option Declared) → kind_passes is_input o ≡ true → kind_passes is_register o ≡ true → ⊥
    go None a b = cc a
    go (Some d) a b = one d.kind a b
input-impure ls m e (inr f) = go (lookup ls m) e f
  where
    one : (k : Kind) → is_input k ≡ true → is_output k ≡ true → ⊥
    one Input a b = cc b
    one Output a b = cc a
    one Inner a b = cc a
    one Register a b = cc a
    one Memory a b = cc a
    one Child a b = cc a

    go : (o : Option Declared) → kind_passes is_input o ≡ true → kind_passes is_output o ≡ true → ⊥
    go None a b = cc a
    go (Some d) a b = one d.kind a b

Clean : List Line → List Name → Type 0
Clean ls ns = (m : Name) → Pure ls m → list_any (bytes_eq m) ns ≡ false

ports-clean : (ls : List Line) (qs : List Port) (ns : List Name) → AllByRecursion (λ q. LineFound ls (declared (port q))) qs → Clean ls ns → Clean ls (all_depending ns (map port qs))
unfolding Clean
ports-clean ls [] ns a c = c
ports-clean ls (q ∷ qs) ns a c = ports-clean ls qs (depending ns (port q)) a.1 (go q.output refl)
  where
    go : (b : Bool) → q.output ≡ b → (m : Name) → Pure ls m → list_any (bytes_eq m) (if q.output then ns else q.name ∷ ns) ≡ false
    go true e m pure = rw e (c m pure)
    go false e m pure = rw e (or_from (bytes_eq m q.name) (list_any (bytes_eq m) ns) (differ (bytes_eq m q.name) refl) (c m pure))
      where
        its : is_kind is_input ls q.name ≡ true
        its = ap (kind_passes is_input) a.0 ∙ ap (λ o. is_input (way_of o)) e

        differ : (b : Bool) → bytes_eq m q.name ≡ b → b ≡ false
        differ false h = refl
        differ true h = absurd (input-impure ls m (ap (λ z. is_kind is_input ls z) (one-name m q.name h) ∙ its) pure)

reads-clean : (ls : List Line) (t : Name) (ns ms : List Name) → is_kind is_output ls t ≡ true → AllByRecursion (Reads ls (May ls t)) ms → Clean ls ns → list_any (λ m. list_any (bytes_eq m) ns) ms ≡ false
unfolding Clean
reads-clean ls t ns [] out a c = refl
reads-clean ls t ns (m ∷ ms) out a c = or_from (list_any (bytes_eq m) ns) (list_any (λ m. list_any (bytes_eq m) ns) ms) (one a.0.1) (reads-clean ls t ns ms out a.1 c)
  where
    one : May ls t m → list_any (bytes_eq m) ns ≡ false
    one (inl register) = c m (inl register)
    one (inr rest) = absurd (cc (sym out ∙ rest.1))

items-clean : (ls : List Line) (is : List Item) (ns : List Name) → AllByRecursion (ItemIs ls) is → Clean ls ns → Clean ls (all_depending ns (map item is))
unfolding Clean
items-clean ls [] ns a c = c
items-clean ls (wire h t ∷ is) ns a c = items-clean ls is ns a.1 c
items-clean ls (reg h t ∷ is) ns a c = items-clean ls is ns a.1 c
items-clean ls (mem h t last ∷ is) ns a c = items-clean ls is ns a.1 c
items-clean ls (clocked t k e ∷ is) ns a c = items-clean ls is ns a.1 c
items-clean ls (store s t i e ∷ is) ns a c = items-clean ls is ns a.1 c
items-clean ls (assign t e ∷ is) ns a c = items-clean ls is (depending ns (item (assign t e))) a.1 (go (list_any (λ m. list_any (bytes_eq m) ns) (nets_of e)) refl)
  where
    driven : is_kind is_driven ls t ≡ true
    driven = ap (kind_passes is_driven) a.0.target.found ∙ a.0.is_its

    go : (b : Bool) → list_any (λ m. list_any (bytes_eq m) ns) (nets_of e) ≡ b → (m : Name) → Pure ls m → list_any (bytes_eq m) (if list_any (λ m. list_any (bytes_eq m) ns) (nets_of e) then t ∷ ns else ns) ≡ false
    go false f m pure = rw f (c m pure)
    go true f m pure = rw f (or_from (bytes_eq m t) (list_any (bytes_eq m) ns) (differ (bytes_eq m t) refl) (c m pure))
      where
        target : Pure ls m → m ≡ t → is_kind is_output ls t ≡ true
        target (inl register) same = absurd (let none = readied.apart is_register readied.register-driven ls t (ap (λ z. is_kind is_register ls z) (sym same) ∙ register) in cc (sym driven ∙ none))
        target (inr out) same = ap (λ z. is_kind is_output ls z) (sym same) ∙ out

        differ : (b : Bool) → bytes_eq m t ≡ b → b ≡ false
        differ false h = refl
        differ true h = absurd (let none = reads-clean ls t ns (nets_of e) (target pure (one-name m t h)) a.0.value.reads c in cc (sym f ∙ none))

depending-join : (ns : List Name) (a b : List Line) → all_depending ns (a ++ b) ≡ all_depending (all_depending ns a) b
depending-join ns [] b = refl
depending-join ns (x ∷ a) b = depending-join (depending ns x) a b

ports-through : (all before : List Line) (qs : List Port) → AllByRecursion (λ q. LineFound all (declared (port q))) qs → Clean all (all_depending [] all) → Passes goes_through (sites_behind [] all before (map port qs))
unfolding goes_through Clean
ports-through all before [] a c = tt
ports-through all before (q ∷ qs) a c = (go q.output refl, ports-through all (before ++ port q ∷ []) qs a.1 c)
  where
    go : (b : Bool) → q.output ≡ b → (q.output && list_any (bytes_eq q.name) (all_depending [] all)) ≡ false
    go false e = rw e refl
    go true e = rw e (c q.name (inr (ap (kind_passes is_output) a.0 ∙ ap (λ o. is_output (way_of o)) e)))

items-through : (all before : List Line) (is : List Item) → Passes goes_through (sites_behind [] all before (map item is))
unfolding goes_through
items-through all before [] = tt
items-through all before (x ∷ is) = (refl, items-through all (before ++ item x ∷ []) is)

-- ---- a leaf

module _ (p : Plan) (n : ℕ) (sound : IsSound p) (inside : n < tiles p) where
  small : n < 2 ^ 20
  small = let most = sound.tile_count in omega (arith, most)

  all-ports : AllByRecursion PortIs (tile_head p n).ports
  all-ports = ports-all p n sound inside PortIs (λ h is less there. at h is less) (λ q m less e. linked q m less)
    where
      host : (d : ℕ) → d < 2 ^ 64 → AllByRecursion PortIs (host_ports (record { tile = n; domain = d }))
      host d low = (
        record { few = omega arith; plain = pair-plain 111 118 n d refl refl small low },
        (
          record { few = omega arith; plain = pair-plain 111 97 n d refl refl small low },
          (
            record { few = omega arith; plain = pair-plain 111 112 n d refl refl small low },
            (
              record { few = omega arith; plain = pair-plain 111 108 n d refl refl small low },
              (
                record { few = omega arith; plain = pair-plain 104 114 n d refl refl small low },
                (
                  record { few = omega arith; plain = pair-plain 114 100 n d refl refl small low },
                  (
                    record { few = omega arith; plain = pair-plain 100 114 n d refl refl small low },
                    (
                      record { few = omega arith; plain = pair-plain 101 118 n d refl refl small low },
                      (
                        record { few = omega arith; plain = pair-plain 101 104 n d refl refl small low },
                        (
                          record { few = omega arith; plain = pair-plain 101 116 n d refl refl small low },
                          (record { few = omega arith; plain = pair-plain 101 112 n d refl refl small low }, tt),
                        ),
                      ),
                    ),
                  ),
                ),
              ),
            ),
          ),
        ),
      )

      at : (h : Host) → h.tile ≡ n → h.domain < length p.domains → AllByRecursion PortIs (host_ports h)
      at h is less = subst (λ t. AllByRecursion PortIs (host_ports (record { tile = t; domain = h.domain }))) (sym is) (host h.domain (let most = sound.domains.1 in omega (arith, most, less)))

      linked : (q m : ℕ) → q < ports p → AllByRecursion PortIs (map (λ (t : Tied). t.port) (link_ties p n q (Some m)))
      linked q m less =
          let few = few-ports p sound in
          let low : q < 2 ^ 64 = omega (arith, few, less) in
          let words = few-word-bits p n sound inside in (
            record { few = omega (arith, words); plain = pair-plain 108 105 n q refl refl small low },
            (
              record { few = omega (arith, words); plain = pair-plain 108 111 n q refl refl small low },
              (
                record { few = omega arith; plain = pair-plain 99 105 n q refl refl small low },
                (record { few = omega arith; plain = pair-plain 99 111 n q refl refl small low }, rest low (nat_lt 64 (credit_bits p))),
              ),
            ),
          )
        where
          rest : q < 2 ^ 64 → (b : Bool) → AllByRecursion PortIs (map (λ (t : Tied). t.port) (if b then second_ties p n q m (opposite q) else []))
          rest low true = let few = few-credits p n sound inside in (record { few = omega (arith, few); plain = triple-plain 99 105 n q refl refl small low }, (record { few = omega (arith, few); plain = triple-plain 99 111 n q refl refl small low }, tt))
          rest low false = tt

  abbrev L : List Line
  L = lines p n sound inside

  abbrev PL : List Line
  PL = heading (leaf_name n) ∷ map port (tile_head p n).ports

  abbrev K : List Item
  K = (readied.H p n sound inside ++ readied.NO p n sound inside) ++ readied.M p n sound inside

  both : (t : Site → Bool) → Passes t (sites_behind [] L [] PL) → Passes t (sites_behind [] L PL (map item K)) → Passes t (module_sites [] L)
  both t a b = subst (λ z. Passes t (sites_behind [] L [] z)) (sym (lines-are p n sound inside)) (passes-join t L [] PL (map item K) a b)

  known : Passes name_unknown (module_sites [] L)
  unfolding name_unknown
  known = both name_unknown (refl, ports-known L (heading (leaf_name n) ∷ []) (tile_head p n).ports) (known-passes L PL K (lines-are p n sound inside) (all-good p n sound inside) (all-ready p n sound inside))

  wide : Passes wrong_width (module_sites [] L)
  unfolding wrong_width
  wide = both wrong_width (refl, ports-wide L (heading (leaf_name n) ∷ []) (tile_head p n).ports all-ports) (width-passes L PL K (lines-are p n sound inside) (all-good p n sound inside) (all-ready p n sound inside))

  ordered : Passes wrong_order (module_sites [] L)
  unfolding wrong_order
  ordered = both wrong_order (refl, ports-order L (heading (leaf_name n) ∷ []) (tile_head p n).ports) (order-passes L PL K (lines-are p n sound inside) (all-ready p n sound inside))

  sized : Passes wrong_size (module_sites [] L)
  unfolding wrong_size
  sized = both wrong_size (refl, ports-size L (heading (leaf_name n) ∷ []) (tile_head p n).ports) (size-passes L PL K (lines-are p n sound inside) (all-good p n sound inside) (all-ready p n sound inside))

  clean : Clean L (all_depending [] L)
  unfolding Clean
  clean =
      subst (λ z. Clean L (all_depending [] z)) (sym (lines-are p n sound inside))
      (subst (Clean L) (sym (depending-join [] PL (map item K))) (items-clean L K (all_depending [] PL) (all-good p n sound inside) (ports-clean L (tile_head p n).ports [] (ports-found p n sound inside) (none-clean L))))
    where
      none-clean : (ls : List Line) → Clean ls []
      none-clean ls m pure = refl

  through : Passes goes_through (module_sites [] L)
  unfolding goes_through
  through = both goes_through (refl, ports-through L (heading (leaf_name n) ∷ []) (tile_head p n).ports (ports-found p n sound inside) clean) (items-through L PL K)

  plain : plain_leaf (leaf_module p n) ≡ true
  plain =
      and_from (is_name (leaf_name n) && list_all plain_port (tile_head p n).ports) (list_all plain_item (leaf_module p n).items)
      (and_from (is_name (leaf_name n)) (list_all plain_port (tile_head p n).ports) (router-plain n (let s = small in omega (arith, s))) (ports-plain (tile_head p n).ports all-ports))
      (ap (list_all plain_item) (its-items p n sound inside) ∙ items-plain L K (all-good p n sound inside))

  pub leaf-sound : IsSoundLeaf (leaf_module p n)
  leaf-sound = record {
    plain = plain;
    rules = all-none rules (module_sites [] L)
        (twice-passes p n sound inside, (known, (wide, (ordered, (drivers-pass p n sound inside, (through, (sized, (joins-pass p n sound inside, tt))))))));
  }
