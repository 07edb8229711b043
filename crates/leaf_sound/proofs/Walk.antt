-- A leaf of which each item is right among all lines, and uses only what stands before it, keeps the rules.
use Rattle.std.proofs.Common.{◌≡◌, ℕ, ◌+◌, ◌^◌, ◌<◌, ◌≤◌, ◌⊎◌, Bool, true, false, ◌&&◌, List, [], ◌∷◌, ◌++◌, map, refl, sym, ◌∙◌, ap, subst, arith, Option, Some, None, bytes_eq, nat_lt, ◌==◌, append_assoc, if◌then◌else◌}
use Rattle.std.specs.Prelude.{not}
use Rattle.std.specs.List.{AllByRecursion, list_any, list_all}
use Rattle.std.proofs.lemmas.Bool.{and_from, true≢false, and_parts}
use Rattle.std.proofs.lemmas.Bool.Decides.{nat_tests}
use Rattle.std.proofs.lemmas.List.{append-nil}
use Rattle.vl_tree.specs.Values.{Name, Expr, Item, wire, reg, mem, assign, clocked, store}
use Rattle.vl_tree.specs.Tokens.{is_name}
use Rattle.vl_tree.specs.Plain.{plain_number}
use Rattle.vl_model.specs.Meaning.{Use, width_of, agrees, nets_of, uses_of, one_if}
use Rattle.vl_model.specs.declared.kind.Kind.{Kind}
use Rattle.vl_model.specs.declared.kind.Kind.TheVariants.{Register}
use Rattle.vl_model.specs.Lines.{Line, item, sites_behind, Declared, declared, found, lookup, kind_passes, is_net, is_memory, is_register, is_output, is_driven, net_bits, word_bits, widths, word_count}
use Rattle.vl_model.specs.Rules.{is_kind, knows, line_known, name_unknown, line_fits, wrong_width, is_early, reads_early, wrong_order, is_size, use_fits, has_size, wrong_size}
use Rattle.vl_model.proofs.Passed.{Passes, all-map}
use Rattle.vl_model.proofs.Ordered.{lookup-front, known-width}
use Rattle.leaf_sound.proofs.Keyed.{rank}
use Rattle.leaf_sound.proofs.Named.{gives, given}
use Rattle.leaf_sound.proofs.Typed.{Net, UseIs, Reads, Is, net-wide}

-- ---- each item by itself

module _ (lines : List Line) where
  -- what an assign of the first name may read: registers, and names of lower ranks if the target is no output port
  abbrev pub May : Name → Name → Type 0
  May n m = (is_kind is_register lines m ≡ true) ⊎ ((rank m < rank n) × (is_kind is_output lines n ≡ false))

  -- any net
  abbrev pub Any : Name → Type 0
  Any m = Unit {0}

  pub record AssignIs (n : Name) (e : Expr) : Type 0 where
    pub h : ℕ
    pub kind : Kind
    pub target : Net lines kind n h
    pub is_its : is_driven kind ≡ true
    pub value : Is lines (May n) e (h + 1) 200

  pub record ClockedIs (n : Name) (width reset : ℕ) (e : Expr) : Type 0 where
    pub h : ℕ
    pub target : Net lines Register n h
    pub value : Is lines Any e (h + 1) 200
    pub wide : width ≡ h + 1
    pub small : reset < 2 ^ width

  pub record StoreIs (c : Expr) (n : Name) (i e : Expr) : Type 0 where
    pub j : ℕ
    pub k : ℕ
    pub enable : Is lines Any c 1 200
    pub index : Is lines Any i j 200
    pub value : Is lines Any e k 200
    pub word : (widths lines).word n ≡ k
    pub memory : is_kind is_memory lines n ≡ true
    pub count : 2 ^ j ≡ word_count (lookup lines n)
    pub plain : is_name n ≡ true
    pub no_use : uses_of i ≡ []

  abbrev pub ItemIs : Item → Type 0
  ItemIs (wire h n) = (h < 64) × (is_name n ≡ true)
  ItemIs (reg h n) = (h < 64) × (is_name n ≡ true)
  ItemIs (mem h n last) = (h < 64) × (is_name n ≡ true) × (is_size (last + 1) ≡ true) × (plain_number last ≡ true)
  ItemIs (assign n e) = AssignIs n e
  ItemIs (clocked n k e) = ClockedIs n k.width k.value e
  ItemIs (store c n i e) = StoreIs c n i e

-- ---- what stands before

-- each name is declared by these lines
abbrev pub Given : List Line → List Name → Type 0
Given before ns = AllByRecursion (λ m. 1 ≤ given m before) ns

abbrev pub GivenUses : List Line → List Use → Type 0
GivenUses before us = AllByRecursion (λ (u : Use). (1 ≤ given u.memory before) × Given before (nets_of u.index)) us

abbrev pub ReadyAt : List Line → Item → Type 0
ReadyAt before (wire h n) = Unit {0}
ReadyAt before (reg h n) = Unit {0}
ReadyAt before (mem h n last) = Unit {0}
ReadyAt before (assign n e) = (1 ≤ given n before) × Given before (nets_of e) × GivenUses before (uses_of e) × AllByRecursion (λ m. is_early before m ≡ false) (nets_of e)
ReadyAt before (clocked n k e) = (1 ≤ given n before) × Given before (nets_of e) × GivenUses before (uses_of e)
ReadyAt before (store c n i e) = (1 ≤ given n before) × Given before (nets_of c) × GivenUses before (uses_of c) × Given before (nets_of i) × GivenUses before (uses_of i) × Given before (nets_of e) × GivenUses before (uses_of e)

abbrev pub AllReady : List Line → List Item → Type 0
AllReady before [] = Unit {0}
AllReady before (x ∷ xs) = ReadyAt before x × AllReady (before ++ item x ∷ []) xs

pub ready-join : (before : List Line) (a b : List Item) → AllReady before a → AllReady (before ++ map item a) b → AllReady before (a ++ b)
ready-join before [] b x y = subst (λ z. AllReady z b) (append-nil before) y
ready-join before (i ∷ a) b x y = (x.0, ready-join (before ++ item i ∷ []) a b x.1 (subst (λ z. AllReady z b) (sym (append_assoc before (item i ∷ []) (map item a))) y))

skip : (y d : Declared) (b : Bool) → b ≡ false → (l : Option Declared) → l ≡ Some d → (if b then Some y else l) ≡ Some d
skip y d true e l is = absurd (cc e)
skip y d false e l is = is

-- a name that is declared is found
some-found : (x : Name) (ls : List Line) → 1 ≤ given x ls → (d : Declared) × (lookup ls x ≡ Some d)
some-found x [] some = absurd (omega arith)
some-found x (l ∷ ls) some = go (declared l) refl (some-found x ls) some
  where
    go : (o : Option Declared) → declared l ≡ o → (1 ≤ given x ls → (d : Declared) × (lookup ls x ≡ Some d)) → 1 ≤ gives x o + given x ls → (d : Declared) × (found o x (lookup ls x) ≡ Some d)
    go None e rest some = rest (omega arith)
    go (Some y) e rest some = by (bytes_eq x y.name) refl
      where
        by : (b : Bool) → bytes_eq x y.name ≡ b → (d : Declared) × (found (Some y) x (lookup ls x) ≡ Some d)
        by true same = (y, rw same refl)
        by false other = (let later = rest (let none = ap one_if other in omega (arith, none, some)) in (later.0, skip y later.0 (bytes_eq x y.name) other (lookup ls x) later.1))

-- what is found before is what is found among all
pub same-found : (all before rest : List Line) (x : Name) → all ≡ before ++ rest → 1 ≤ given x before → lookup before x ≡ lookup all x
same-found all before rest x e some = let what = some-found x before some in what.1 ∙ sym (ap (λ z. lookup z x) e ∙ lookup-front before rest x what.0 what.1)

kind-same : (test : Kind → Bool) (all before rest : List Line) (x : Name) → all ≡ before ++ rest → 1 ≤ given x before → is_kind test before x ≡ is_kind test all x
kind-same test all before rest x e some = ap (kind_passes test) (same-found all before rest x e some)

-- ---- the rules, line by line

module _ (all before rest : List Line) (e : all ≡ before ++ rest) where
  nets-known : (P : Name → Type 0) (ns : List Name) → AllByRecursion (Reads all P) ns → Given before ns → list_all (is_kind is_net before) ns ≡ true
  nets-known P [] a g = refl
  nets-known P (m ∷ ns) a g = and_from (is_kind is_net before m) (list_all (is_kind is_net before) ns) (kind-same is_net all before rest m e g.0 ∙ a.0.0) (nets-known P ns a.1 g.1)

  plain-known : (ns : List Name) → AllByRecursion (λ m. is_kind is_net all m ≡ true) ns → Given before ns → list_all (is_kind is_net before) ns ≡ true
  plain-known [] a g = refl
  plain-known (m ∷ ns) a g = and_from (is_kind is_net before m) (list_all (is_kind is_net before) ns) (kind-same is_net all before rest m e g.0 ∙ a.0) (plain-known ns a.1 g.1)

  uses-known : (P : Name → Type 0) (us : List Use) → AllByRecursion (UseIs all P) us → GivenUses before us → list_all (λ (u : Use). is_kind is_memory before u.memory) us ≡ true
  uses-known P [] a g = refl
  uses-known P (u ∷ us) a g = and_from (is_kind is_memory before u.memory) (list_all (λ (u : Use). is_kind is_memory before u.memory) us) (kind-same is_memory all before rest u.memory e g.0.0 ∙ a.0.memory) (uses-known P us a.1 g.1)

  is-known : {P : Name → Type 0} {v : Expr} {k d : ℕ} → Is all P v k d → Given before (nets_of v) → GivenUses before (uses_of v) → knows before v ≡ true
  is-known {P} {v} x g u = and_from (list_all (is_kind is_net before) (nets_of v)) (list_all (λ (u : Use). is_kind is_memory before u.memory) (uses_of v)) (nets-known P (nets_of v) x.reads g) (uses-known P (uses_of v) x.uses u)

  -- an index is as wide among the lines before
  index-wide : (i : Expr) → uses_of i ≡ [] → AllByRecursion (λ m. is_kind is_net all m ≡ true) (nets_of i) → Given before (nets_of i) → width_of (widths before) i ≡ width_of (widths all) i
  index-wide i none a g = (known-width all before rest i e (and_from (list_all (is_kind is_net before) (nets_of i)) (list_all (λ (u : Use). is_kind is_memory before u.memory) (uses_of i)) (plain-known (nets_of i) a g) (ap (list_all (λ (u : Use). is_kind is_memory before u.memory)) none))).0

  eq-true : (a b : ℕ) → a ≡ b → (a == b) ≡ true
  eq-true a b h = grind (arith, nat_tests)

  less-true : (a b : ℕ) → a < b → nat_lt a b ≡ true
  less-true a b h = grind (arith, nat_tests)

  only-reads : (P : Name → Type 0) (ns : List Name) → AllByRecursion (Reads all P) ns → AllByRecursion (λ m. is_kind is_net all m ≡ true) ns
  only-reads P ns a = all-map (Reads all P) (λ m. is_kind is_net all m ≡ true) (λ m x. x.0) ns a

  use-fits : {P : Name → Type 0} (u : Use) → UseIs all P u → (1 ≤ given u.memory before) × Given before (nets_of u.index) → use_fits before u ≡ true
  use-fits {P} u a g = eq-true (2 ^ width_of (widths before) u.index) (word_count (lookup before u.memory)) (ap (λ k. 2 ^ k) (index-wide u.index a.plain_index (only-reads P (nets_of u.index) a.read) g.1) ∙ a.index ∙ sym (ap word_count (same-found all before rest u.memory e g.0)))

  uses-fit : (P : Name → Type 0) (us : List Use) → AllByRecursion (UseIs all P) us → GivenUses before us → list_all (use_fits before) us ≡ true
  uses-fit P [] a g = refl
  uses-fit P (u ∷ us) a g = and_from (use_fits before u) (list_all (use_fits before) us) (use-fits u a.0 g.0) (uses-fit P us a.1 g.1)

  all-append : {A : Type 0} (f : A → Bool) (xs ys : List A) → list_all f xs ≡ true → list_all f ys ≡ true → list_all f (xs ++ ys) ≡ true
  all-append f [] ys a b = b
  all-append f (x ∷ xs) ys a b = let ps = and_parts (f x) (list_all f xs) a in and_from (f x) (list_all f (xs ++ ys)) ps.0 (all-append f xs ys ps.1 b)

  known-line : (x : Item) → ItemIs all x → ReadyAt before x → line_known [] before (item x) ≡ true
  known-line (wire h n) a r = refl
  known-line (reg h n) a r = refl
  known-line (mem h n last) a r = refl
  known-line (assign n v) a r = and_from (is_kind is_driven before n) (knows before v) (kind-same is_driven all before rest n e r.0 ∙ ap (kind_passes is_driven) a.target.found ∙ a.is_its) (is-known a.value r.1 r.2)
  known-line (clocked n k v) a r = and_from (is_kind is_register before n) (knows before v) (kind-same is_register all before rest n e r.0 ∙ ap (kind_passes is_register) a.target.found) (is-known a.value r.1 r.2)
  known-line (store c n i v) a r =
      and_from (is_kind is_memory before n) (knows before c && (knows before i && knows before v)) (kind-same is_memory all before rest n e r.0 ∙ a.memory)
      (and_from (knows before c) (knows before i && knows before v) (is-known a.enable r.1 r.2)
      (and_from (knows before i) (knows before v) (is-known a.index r.3 r.4) (is-known a.value r.5 r.6)))

  wide-here : {P : Name → Type 0} {v : Expr} {k d : ℕ} → Is all P v k d → Given before (nets_of v) → GivenUses before (uses_of v) → (width_of (widths before) v ≡ k) × (agrees (widths before) v ≡ true)
  wide-here {P} {v} x g u = let same = known-width all before rest v e (is-known x g u) in (same.0 ∙ x.width, same.1 ∙ x.agree)

  net-here : {c : Kind} {n : Name} {h : ℕ} → Net all c n h → 1 ≤ given n before → (widths before).net n ≡ h + 1
  net-here {c} {n} {h} x some = ap net_bits (same-found all before rest n e some) ∙ net-wide all x

  fits-line : (x : Item) → ItemIs all x → ReadyAt before x → line_fits [] (widths before) (item x) ≡ true
  fits-line (wire h n) a r = less-true h 64 a.0
  fits-line (reg h n) a r = less-true h 64 a.0
  fits-line (mem h n last) a r = less-true h 64 a.0
  fits-line (assign n v) a r =
      let wide = wide-here a.value r.1 r.2 in
      and_from (agrees (widths before) v) (width_of (widths before) v == (widths before).net n) wide.1 (eq-true (width_of (widths before) v) ((widths before).net n) (wide.0 ∙ sym (net-here a.target r.0)))
  fits-line (clocked n k v) a r =
      let wide = wide-here a.value r.1 r.2 in
      let target = net-here a.target r.0 in
      and_from (agrees (widths before) v) ((width_of (widths before) v == (widths before).net n) && (k.width == (widths before).net n)) wide.1
      (and_from (width_of (widths before) v == (widths before).net n) (k.width == (widths before).net n) (eq-true (width_of (widths before) v) ((widths before).net n) (wide.0 ∙ sym target)) (eq-true k.width ((widths before).net n) (a.wide ∙ sym target)))
  fits-line (store c n i v) a r =
      let enable = wide-here a.enable r.1 r.2 in
      let index = wide-here a.index r.3 r.4 in
      let value = wide-here a.value r.5 r.6 in
      let word : (widths before).word n ≡ (widths all).word n = ap word_bits (same-found all before rest n e r.0) in
      and_from (agrees (widths before) c) ((width_of (widths before) c == 1) && (agrees (widths before) i && (agrees (widths before) v && (width_of (widths before) v == (widths before).word n)))) enable.1
      (and_from (width_of (widths before) c == 1) (agrees (widths before) i && (agrees (widths before) v && (width_of (widths before) v == (widths before).word n))) (eq-true (width_of (widths before) c) 1 enable.0)
      (and_from (agrees (widths before) i) (agrees (widths before) v && (width_of (widths before) v == (widths before).word n)) index.1
      (and_from (agrees (widths before) v) (width_of (widths before) v == (widths before).word n) value.1 (eq-true (width_of (widths before) v) ((widths before).word n) (value.0 ∙ sym (word ∙ a.word))))))

  order-line : (x : Item) → ReadyAt before x → reads_early before (item x) ≡ false
  order-line (wire h n) r = refl
  order-line (reg h n) r = refl
  order-line (mem h n last) r = refl
  order-line (assign n v) r = none (nets_of v) r.3
    where
      none : (ns : List Name) → AllByRecursion (λ m. is_early before m ≡ false) ns → list_any (is_early before) ns ≡ false
      none [] a = refl
      none (m ∷ ns) a = rw (a.0, none ns a.1) refl
  order-line (clocked n k v) r = refl
  order-line (store c n i v) r = refl

  size-line : (x : Item) → ItemIs all x → ReadyAt before x → has_size before (item x) ≡ true
  size-line (wire h n) a r = refl
  size-line (reg h n) a r = refl
  size-line (mem h n last) a r = a.2
  size-line (assign n v) a r = uses-fit (May all n) (uses_of v) a.value.uses r.2
  size-line (clocked n k v) a r = uses-fit (Any all) (uses_of v) a.value.uses r.2
  size-line (store c n i v) a r =
      and_from (use_fits before (record { memory = n; index = i })) (list_all (use_fits before) (uses_of c ++ (uses_of i ++ uses_of v)))
      (use-fits (record { memory = n; index = i }) (record { memory = a.memory; index = ap (λ k. 2 ^ k) a.index.width ∙ a.count; read = a.index.reads; plain_index = a.no_use }) (r.0, r.3))
      (all-append (use_fits before) (uses_of c) (uses_of i ++ uses_of v) (uses-fit (Any all) (uses_of c) a.enable.uses r.2)
      (all-append (use_fits before) (uses_of i) (uses_of v) (uses-fit (Any all) (uses_of i) a.index.uses r.4) (uses-fit (Any all) (uses_of v) a.value.uses r.6)))

-- ---- the rules on all items

negated : (b : Bool) → b ≡ true → not b ≡ false
negated true e = refl
negated false e = absurd (cc e)

module _ (all : List Line) where
  pub known-passes : (before : List Line) (xs : List Item) → all ≡ before ++ map item xs → AllByRecursion (ItemIs all) xs → AllReady before xs → Passes name_unknown (sites_behind [] all before (map item xs))
  unfolding name_unknown
  known-passes before [] e a r = tt
  known-passes before (x ∷ xs) e a r = (negated _ (known-line all before (map item (x ∷ xs)) e x a.0 r.0), known-passes (before ++ item x ∷ []) xs (e ∙ sym (append_assoc before (item x ∷ []) (map item xs))) a.1 r.1)

  pub width-passes : (before : List Line) (xs : List Item) → all ≡ before ++ map item xs → AllByRecursion (ItemIs all) xs → AllReady before xs → Passes wrong_width (sites_behind [] all before (map item xs))
  unfolding wrong_width
  width-passes before [] e a r = tt
  width-passes before (x ∷ xs) e a r = (negated _ (fits-line all before (map item (x ∷ xs)) e x a.0 r.0), width-passes (before ++ item x ∷ []) xs (e ∙ sym (append_assoc before (item x ∷ []) (map item xs))) a.1 r.1)

  pub order-passes : (before : List Line) (xs : List Item) → all ≡ before ++ map item xs → AllReady before xs → Passes wrong_order (sites_behind [] all before (map item xs))
  unfolding wrong_order
  order-passes before [] e r = tt
  order-passes before (x ∷ xs) e r = (order-line all before (map item (x ∷ xs)) e x r.0, order-passes (before ++ item x ∷ []) xs (e ∙ sym (append_assoc before (item x ∷ []) (map item xs))) r.1)

  pub size-passes : (before : List Line) (xs : List Item) → all ≡ before ++ map item xs → AllByRecursion (ItemIs all) xs → AllReady before xs → Passes wrong_size (sites_behind [] all before (map item xs))
  unfolding wrong_size
  size-passes before [] e a r = tt
  size-passes before (x ∷ xs) e a r = (negated _ (size-line all before (map item (x ∷ xs)) e x a.0 r.0), size-passes (before ++ item x ∷ []) xs (e ∙ sym (append_assoc before (item x ∷ []) (map item xs))) a.1 r.1)
