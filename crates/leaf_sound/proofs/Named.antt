-- In a leaf each name is declared once, and each but an input port is driven once.
use Rattle.std.proofs.Common.{◌≡◌, ℕ, zero, suc, ◌+◌, ◌-◌, ◌*◌, ◌<◌, ◌≤◌, Bool, true, false, ◌&&◌, List, [], ◌∷◌, ◌++◌, map, length, refl, sym, ◌∙◌, ap, arith, flat_map, Option, Some, None, bytes_eq, ◌==◌, nat_lt, is_some, append_assoc}
use Rattle.std.specs.Prelude.{not, min, if◌then◌else◌}
use Rattle.std.specs.List.{AllByRecursion}
use Rattle.std.proofs.lemmas.Bool.Decides.{nat_tests}
use Rattle.std.proofs.lemmas.List.{append-nil}
use Rattle.vl_tree.specs.declared.tree.Port.{Port}
use Rattle.vl_tree.specs.Values.{Name, Item, wire, reg, mem, assign, clocked, store}
use Rattle.vl_model.specs.Meaning.{one_if}
use Rattle.vl_model.specs.declared.kind.Kind.{Kind}
use Rattle.vl_model.specs.declared.kind.Kind.TheVariants.{Inner, Register, Memory}
use Rattle.vl_model.specs.Lines.{Line, heading, port, item, joint, leaf_lines, Site, sites_behind, module_sites, Declared, declared, found, lookup, way_of}
use Rattle.vl_model.specs.Rules.{drivers, repeats, is_again, name_twice, lacks_driver, wants_driver, wrong_driver, wrong_joins}
use Rattle.vl_model.proofs.Passed.{Passes}
use Rattle.vl_model.proofs.Settling.{one-name, itself}
use Rattle.vl_model.proofs.Ordered.{drivers-append}
use Rattle.noc_model.specs.Plan.{Plan, tiles, ports, hosts}
use Rattle.noc_model.specs.Sound.{IsSound}
use Rattle.flit_word.specs.Words.{dest_bits, channel_bits, flit_bits}
use Rattle.gen_kit.specs.Groups.{Group, all_items}
use Rattle.gen_kit.specs.Shape.{credit_bits, tile_head}
use Rattle.noc_model.specs.Place.{neighbour}
use Rattle.leaf_tie.specs.Outs.{link_out_group, local_out_group}
use Rattle.leaf_tie.specs.Whole.{each_group}
use Rattle.leaf_tie.specs.Names.{credit_bundle, out_names, link_outs, leaf_names, net_names, port_names, credit_base, leaf_sizes, slot_high, inner_groups, out_groups, leaf_module}
use Rattle.leaf_sound.proofs.Keyed.{rank}
use Rattle.leaf_sound.proofs.Rising.{once, none-below, none-above, flat-append}
use Rattle.leaf_sound.proofs.Nets.{its_nets}
use Rattle.leaf_sound.proofs.Evened.{part-declares, declares, driven, declares-append, driven-append, declared-as-driven}
use Rattle.leaf_sound.proofs.Inner.{all-rise, inner-once}
use Rattle.leaf_sound.proofs.Ported.{named, port-once}
use Rattle.leaf_sound.proofs.Outs.{out_start, outs-rise, PortDriven, all-driven, no-heads, no-moves}

-- ---- lines

-- how many of the lines declare the name
abbrev pub gives : Name → Option Declared → ℕ
gives x None = 0
gives x (Some d) = one_if (bytes_eq x d.name)

abbrev pub given : Name → List Line → ℕ
given x [] = 0
given x (l ∷ ls) = gives x (declared l) + given x ls

pub given-append : (x : Name) (a b : List Line) → given x (a ++ b) ≡ given x a + given x b
given-append x [] b = omega arith
given-append x (l ∷ a) b = rw (given-append x a b) (omega arith)

given-ports : (x : Name) (ps : List Port) → given x (map port ps) ≡ named x ps
given-ports x [] = refl
given-ports x (q ∷ qs) = rw (given-ports x qs) refl

pub given-items : (x : Name) (is : List Item) → given x (map item is) ≡ declares x is
given-items x [] = refl
given-items x (wire h n ∷ is) = rw (given-items x is) refl
given-items x (reg h n ∷ is) = rw (given-items x is) refl
given-items x (mem h n last ∷ is) = rw (given-items x is) refl
given-items x (assign n e ∷ is) = let rest = given-items x is in omega (arith, rest)
given-items x (clocked n k e ∷ is) = let rest = given-items x is in omega (arith, rest)
given-items x (store c n i e ∷ is) = let rest = given-items x is in omega (arith, rest)

-- a name that no line gives is not found
pub not-found : (x : Name) (ls : List Line) → given x ls ≡ 0 → lookup ls x ≡ None
not-found x [] none = refl
not-found x (l ∷ ls) none = go (declared l) (not-found x ls) none
  where
    go : (d : Option Declared) → (given x ls ≡ 0 → lookup ls x ≡ None) → gives x d + given x ls ≡ 0 → found d x (lookup ls x) ≡ None
    go None rest none = rest (omega arith)
    go (Some d) rest none = by (bytes_eq x d.name) refl
      where
        by : (b : Bool) → bytes_eq x d.name ≡ b → found (Some d) x (lookup ls x) ≡ None
        by true e = absurd (let one = ap one_if e in omega (arith, one, none))
        by false e = rw e (rest (let one = ap one_if e in omega (arith, one, none)))

-- ---- the rule on names that are given once

twice-none : (all before rest : List Line) → ((x : Name) → given x all ≤ 1) → all ≡ before ++ rest → Passes name_twice (sites_behind [] all before rest)
unfolding name_twice
twice-none all before [] once e = tt
twice-none all before (l ∷ ls) once e = (
  one l (λ x. let split = given-append x before (l ∷ ls) in let most = once x in let same : given x all ≡ given x (before ++ l ∷ ls) = ap (given x) e in omega (arith, split, most, same)),
  twice-none all (before ++ l ∷ []) ls once (e ∙ sym (append_assoc before (l ∷ []) ls)),
)
  where
    again : (d : Option Declared) → ((x : Name) → given x before + gives x d ≤ 1) → is_again before d ≡ false
    again None most = refl
    again (Some d) most = ap is_some (not-found d.name before (let one = ap one_if (itself d.name) in let all = most d.name in omega (arith, one, all)))

    one : (l : Line) → ((x : Name) → given x before + gives x (declared l) ≤ 1) → repeats [] before l ≡ false
    one (heading n) most = refl
    one (port q) most = again (declared (port q)) most
    one (item x) most = again (declared (item x)) most
    one (joint x) most = again (declared (joint x)) most

-- ---- the rules that look at one line and all lines

passes-lines : (t : Site → Bool) (all before rest : List Line) → AllByRecursion (λ l. (b : List Line) → t (record { leaves = []; lines = all; before = b; line = l }) ≡ false) rest → Passes t (sites_behind [] all before rest)
passes-lines t all before [] a = tt
passes-lines t all before (l ∷ ls) a = (a.0 before, passes-lines t all (before ++ l ∷ []) ls a.1)

pub all-map-to : {A B : Type 0} (P : B → Type 0) (f : A → B) (xs : List A) → AllByRecursion (λ x. P (f x)) xs → AllByRecursion P (map f xs)
all-map-to P f [] a = tt
all-map-to P f (x ∷ xs) a = (a.0, all-map-to P f xs a.1)

pub lines-append : (P : Line → Type 0) (a b : List Line) → AllByRecursion P a → AllByRecursion P b → AllByRecursion P (a ++ b)
lines-append P [] b x y = y
lines-append P (l ∷ a) b x y = (x.0, lines-append P a b x.1 y)

-- what one of the ports has
named-has : (P : Port → Type 0) (x : Name) (ps : List Port) → AllByRecursion P ps → 1 ≤ named x ps → (q : Port) × P q × (x ≡ q.name)
named-has P x [] all some = absurd (omega arith)
named-has P x (q ∷ qs) all some = go (bytes_eq x q.name) refl (named-has P x qs all.1)
  where
    go : (b : Bool) → bytes_eq x q.name ≡ b → (1 ≤ named x qs → (q : Port) × P q × (x ≡ q.name)) → (q : Port) × P q × (x ≡ q.name)
    go true e rest = (q, all.0, one-name x q.name e)
    go false e rest = rest (let none = ap one_if e in omega (arith, none, some))

pub port-lines : (x : Name) (ps : List Port) → drivers [] (map port ps) x ≡ 0
port-lines x [] = refl
port-lines x (q ∷ qs) = rw (port-lines x qs) refl

module _ (p : Plan) (n : ℕ) (sound : IsSound p) (inside : n < tiles p) where
  abbrev pub inner : List Item
  inner = all_items (inner_groups p n)

  abbrev pub outs : List Item
  outs = flat_map its_nets (out_groups p n)

  -- the items of the leaf: what is declared, the nets, the output ports, the moves
  pub items-are : (leaf_module p n).items ≡ flat_map (λ (g : Group). g.heads) (inner_groups p n) ++ ((flat_map its_nets (inner_groups p n) ++ outs) ++ flat_map (λ (g : Group). g.moves) (inner_groups p n))
  items-are =
      rw (flat-append (λ (g : Group). g.heads) (inner_groups p n) (out_groups p n), flat-append its_nets (inner_groups p n) (out_groups p n), flat-append (λ (g : Group). g.moves) (inner_groups p n) (out_groups p n), no-heads p n sound inside, no-moves p n sound inside)
      (rw (append-nil (flat_map (λ (g : Group). g.heads) (inner_groups p n)), append-nil (flat_map (λ (g : Group). g.moves) (inner_groups p n))) refl)

  driven-is : (x : Name) → driven x (leaf_module p n).items ≡ driven x inner + driven x outs
  driven-is x =
      let h = flat_map (λ (g : Group). g.heads) (inner_groups p n) in
      let k = flat_map its_nets (inner_groups p n) in
      let m = flat_map (λ (g : Group). g.moves) (inner_groups p n) in
      ap (driven x) items-are
      ∙ omega (arith, driven-append x h ((k ++ outs) ++ m), driven-append x (k ++ outs) m, driven-append x k outs, driven-append x h (k ++ m), driven-append x k m)

  -- ---- counts

  bare-each : (x : Name) (k : ℕ) (f : ℕ → List Group) → ((i : ℕ) → declares x (flat_map its_nets (f i)) ≡ 0) → declares x (flat_map its_nets (each_group k f)) ≡ 0
  bare-each x zero f h = refl
  bare-each x (suc k) f h = part-declares x its_nets (each_group k f) (f k) ∙ rw (bare-each x k f h, h k) refl

  none-declared : (x : Name) → declares x outs ≡ 0
  none-declared x =
      part-declares x its_nets (each_group (ports p) (λ o. if is_some (neighbour p n o) then link_outs p n o else [])) (each_group (length p.domains) (λ d. if hosts p n d then local_out_group p leaf_names net_names (out_names n) (leaf_sizes p) (dest_bits p) d ∷ [] else []))
      ∙ rw (
        bare-each x (ports p) (λ o. if is_some (neighbour p n o) then link_outs p n o else []) (λ q. by-link q (is_some (neighbour p n q)) (nat_lt 64 (credit_bits p))),
        bare-each x (length p.domains) (λ d. if hosts p n d then local_out_group p leaf_names net_names (out_names n) (leaf_sizes p) (dest_bits p) d ∷ [] else []) (λ d. by-host d (hosts p n d)),
      ) refl
    where
      by-host : (d : ℕ) (b : Bool) → declares x (flat_map its_nets (if b then local_out_group p leaf_names net_names (out_names n) (leaf_sizes p) (dest_bits p) d ∷ [] else [])) ≡ 0
      by-host d true = refl
      by-host d false = refl

      by-link : (q : ℕ) (b c : Bool) → declares x (flat_map its_nets (if b then link_out_group p leaf_names (out_names n) q ∷ credit_bundle p n q 0 (min (credit_bits p) 64) ∷ (if c then credit_bundle p n q 64 (credit_bits p - 64) ∷ [] else []) else [])) ≡ 0
      by-link q true true = refl
      by-link q true false = refl
      by-link q false c = refl

  declares-is : (x : Name) → declares x (leaf_module p n).items ≡ driven x inner
  declares-is x =
      let h = flat_map (λ (g : Group). g.heads) (inner_groups p n) in
      let k = flat_map its_nets (inner_groups p n) in
      let m = flat_map (λ (g : Group). g.moves) (inner_groups p n) in
      ap (declares x) items-are
      ∙ omega (arith, none-declared x, declares-append x h ((k ++ outs) ++ m), declares-append x (k ++ outs) m, declares-append x k outs, declares-append x h (k ++ m), declares-append x k m)
      ∙ declared-as-driven x p n leaf_names net_names (port_names n) (credit_base p) (leaf_sizes p) (slot_high p) (dest_bits p) (flit_bits p) (channel_bits p)

  -- a port's name is no name of the leaf's own
  port-outside : (x : Name) → 1 ≤ named x (tile_head p n).ports → driven x inner ≡ 0
  port-outside x some = go (named-has (PortDriven p n sound inside) x (tile_head p n).ports (all-driven p n sound inside) some)
    where
      go : ((q : Port) × PortDriven p n sound inside q × (x ≡ q.name)) → driven x inner ≡ 0
      go (q, facts, is) = by q.output refl
        where
          by : (b : Bool) → q.output ≡ b → driven x inner ≡ 0
          by true e = none-above 1 (2048 * 6144) inner x (all-rise p n sound).by (let far = facts.high e in let same : rank x ≡ rank q.name = ap rank is in omega (arith, far, same))
          by false e = none-below 1 (2048 * 6144) inner x (all-rise p n sound).by (let none = facts.input e in let same : rank x ≡ rank q.name = ap rank is in omega (arith, none, same))

  outs-once : (x : Name) → driven x outs ≤ 1
  outs-once x = once out_start (out_start + 8192) outs x (outs-rise p n sound inside).all.by

  -- each name is declared once
  pub given-once : (x : Name) → given x (leaf_lines (leaf_module p n)) ≤ 1
  given-once x =
      let all = given-append x (map port (tile_head p n).ports) (map item (leaf_module p n).items) in
      let its = given-ports x (tile_head p n).ports in
      let own = given-items x (leaf_module p n).items in
      let same = declares-is x in
      let one = port-once p n sound inside x in
      let few = inner-once p n sound x in
      let apart = go (nat_lt 0 (named x (tile_head p n).ports)) refl in
      omega (arith, all, its, own, same, one, few, apart)
    where
      go : (b : Bool) → nat_lt 0 (named x (tile_head p n).ports) ≡ b → named x (tile_head p n).ports + driven x inner ≤ 1
      go true e = let some : 0 < named x (tile_head p n).ports = grind (arith, nat_tests, e) in let none = port-outside x (omega arith) in let one = port-once p n sound inside x in omega (arith, none, one)
      go false e = let none : named x (tile_head p n).ports ≤ 0 = grind (arith, nat_tests, e) in let few = inner-once p n sound x in omega (arith, none, few)

  -- a name of its own is driven once
  own-driven : (x : Name) → 1 ≤ declares x (leaf_module p n).items → driven x (leaf_module p n).items ≡ 1
  own-driven x some =
      let same = declares-is x in
      let few = inner-once p n sound x in
      let all = driven-is x in
      go (nat_lt (rank x) out_start) refl
    where
      go : (b : Bool) → nat_lt (rank x) out_start ≡ b → driven x (leaf_module p n).items ≡ 1
      go true e =
          let low : rank x < out_start = grind (arith, nat_tests, e) in
          let none = none-below out_start (out_start + 8192) outs x (outs-rise p n sound inside).all.by low in
          let same = declares-is x in
          let few = inner-once p n sound x in
          let all = driven-is x in
          omega (arith, none, same, few, all, some)
      go false e =
          let far : out_start ≤ rank x = grind (arith, nat_tests, e) in
          let none = none-above 1 (2048 * 6144) inner x (all-rise p n sound).by (omega (arith, far)) in
          let same = declares-is x in
          absurd (omega (arith, none, same, some))

  -- an output port is driven once
  port-driven : (q : Port) → PortDriven p n sound inside q → q.output ≡ true → driven q.name (leaf_module p n).items ≡ 1
  port-driven q facts is =
      let far = facts.high is in
      let none = none-above 1 (2048 * 6144) inner q.name (all-rise p n sound).by (omega (arith, far)) in
      let some = facts.output is in
      let few = outs-once q.name in
      let all = driven-is q.name in
      omega (arith, none, some, few, all)

  drivers-of : (x : Name) → drivers [] (leaf_lines (leaf_module p n)) x ≡ driven x (leaf_module p n).items
  drivers-of x = let split = drivers-append [] (map port (tile_head p n).ports) (map item (leaf_module p n).items) x in let none = port-lines x (tile_head p n).ports in omega (arith, split, none)

  -- ---- the rules

  pub twice-passes : Passes name_twice (module_sites [] (leaf_lines (leaf_module p n)))
  twice-passes = twice-none (leaf_lines (leaf_module p n)) [] (leaf_lines (leaf_module p n)) given-once refl

  at : List Line → Line → Site
  at before l = record { leaves = []; lines = leaf_lines (leaf_module p n); before = before; line = l }

  one-is : (k : ℕ) → k ≡ 1 → (b : Bool) → (b && not (k == 1)) ≡ false
  one-is k e true = rw e refl
  one-is k e false = refl

  items-have : (before rest : List Item) → (leaf_module p n).items ≡ before ++ rest → AllByRecursion (λ y. (b : List Line) → wrong_driver (record { leaves = []; lines = leaf_lines (leaf_module p n); before = b; line = item y }) ≡ false) rest
  unfolding wrong_driver
  items-have before [] e = tt
  items-have before (y ∷ ys) e = ((λ b. one y (λ x. let split = declares-append x before (y ∷ ys) in let same : declares x (leaf_module p n).items ≡ declares x (before ++ y ∷ ys) = ap (declares x) e in omega (arith, split, same))), items-have (before ++ y ∷ []) ys (e ∙ sym (append_assoc before (y ∷ []) ys)))
    where
      named-one : (k : Kind) (high last : ℕ) (x : Name) → 1 ≤ declares x (leaf_module p n).items → lacks_driver [] (leaf_lines (leaf_module p n)) (Some (record { name = x; kind = k; high = high; last = last })) ≡ false
      named-one k high last x some = one-is (drivers [] (leaf_lines (leaf_module p n)) x) (drivers-of x ∙ own-driven x some) (wants_driver k)

      one : (y : Item) → ((x : Name) → declares x (y ∷ ys) ≤ declares x (leaf_module p n).items) → lacks_driver [] (leaf_lines (leaf_module p n)) (declared (item y)) ≡ false
      one (wire h m) le = named-one Inner h 0 m (let self = ap one_if (itself m) in let more = le m in omega (arith, self, more))
      one (reg h m) le = named-one Register h 0 m (let self = ap one_if (itself m) in let more = le m in omega (arith, self, more))
      one (mem h m last) le = named-one Memory h last m (let self = ap one_if (itself m) in let more = le m in omega (arith, self, more))
      one (assign m e) le = refl
      one (clocked m k e) le = refl
      one (store c m i e) le = refl

  ports-have : (qs : List Port) → AllByRecursion (PortDriven p n sound inside) qs → AllByRecursion (λ q. (b : List Line) → wrong_driver (record { leaves = []; lines = leaf_lines (leaf_module p n); before = b; line = port q }) ≡ false) qs
  unfolding wrong_driver
  ports-have [] a = tt
  ports-have (q ∷ qs) a = ((λ b. one q.output refl), ports-have qs a.1)
    where
      one : (o : Bool) → q.output ≡ o → lacks_driver [] (leaf_lines (leaf_module p n)) (declared (port q)) ≡ false
      one true e = one-is (drivers [] (leaf_lines (leaf_module p n)) q.name) (drivers-of q.name ∙ port-driven q a.0 e) (wants_driver (way_of q.output))
      one false e = rw e refl

  pub drivers-pass : Passes wrong_driver (module_sites [] (leaf_lines (leaf_module p n)))
  unfolding wrong_driver
  drivers-pass =
      passes-lines wrong_driver (leaf_lines (leaf_module p n)) [] (leaf_lines (leaf_module p n)) (
        (λ b. refl),
        lines-append _ (map port (tile_head p n).ports) (map item (leaf_module p n).items)
            (all-map-to _ port (tile_head p n).ports (ports-have (tile_head p n).ports (all-driven p n sound inside)))
            (all-map-to _ item (leaf_module p n).items (items-have [] (leaf_module p n).items refl)),
      )

  pub joins-pass : Passes wrong_joins (module_sites [] (leaf_lines (leaf_module p n)))
  unfolding wrong_joins
  joins-pass =
      passes-lines wrong_joins (leaf_lines (leaf_module p n)) [] (leaf_lines (leaf_module p n)) (
        (λ b. refl),
        lines-append _ (map port (tile_head p n).ports) (map item (leaf_module p n).items)
            (all-map-to _ port (tile_head p n).ports (some-ports (tile_head p n).ports))
            (all-map-to _ item (leaf_module p n).items (some-items (leaf_module p n).items)),
      )
    where
      some-ports : (qs : List Port) → AllByRecursion (λ q. (b : List Line) → wrong_joins (record { leaves = []; lines = leaf_lines (leaf_module p n); before = b; line = port q }) ≡ false) qs
      some-ports [] = tt
      some-ports (q ∷ qs) = ((λ b. refl), some-ports qs)

      some-items : (is : List Item) → AllByRecursion (λ y. (b : List Line) → wrong_joins (record { leaves = []; lines = leaf_lines (leaf_module p n); before = b; line = item y }) ≡ false) is
      some-items [] = tt
      some-items (y ∷ ys) = ((λ b. refl), some-items ys)
