-- The items of a sound leaf are in order, and their widths agree.
use Rattle.std.proofs.Common.{◌≡◌, ◌+◌, ◌≤◌, Bool, true, false, ◌&&◌, ◌||◌, List, [], ◌∷◌, ◌++◌, map, Option, refl, sym, ◌∙◌, ap, subst, append_assoc, bytes_eq, arith}
use Rattle.std.specs.Prelude.{Some, None, not, ◌==◌}
use Rattle.std.specs.List.{AllByRecursion, list_any, list_all}
use Rattle.std.proofs.lemmas.Option.{none-some}
use Rattle.std.proofs.lemmas.Bool.{and_parts, or_parts, or_from, or_left, or_right, eqb-true, both_ways, not-false, true≢false, false≢true, false_from_ne_true}
use Rattle.vl_tree.specs.Values.{Name, Expr, Item, wire, reg, mem, assign, clocked, store, Leaf}
use Rattle.vl_tree.specs.Plain.{plain_item, plain_expr}
use Rattle.vl_tree.specs.Tokens.{is_name}
use Rattle.vl_tree.specs.Grammar.{limit}
use Rattle.vl_model.specs.Meaning.{Use, nets_of, uses_of, width_of, agrees, one_if}
use Rattle.vl_model.specs.declared.kind.Kind.{Kind}
use Rattle.vl_model.specs.declared.kind.Kind.TheVariants.{Input, Output, Inner, Register, Memory, Child}
use Rattle.vl_model.specs.Lines.{Line, heading, port, item, joint, sites_behind, module_sites, Declared, declared, found, lookup, kind_passes, is_net, is_memory, is_driven, is_register, net_bits, word_bits, widths}
use Rattle.vl_model.specs.Rules.{is_kind, knows, line_known, name_unknown, line_fits, wrong_width, assigns, is_early, wrong_order, drives, drivers, wants_driver, lacks_driver, wrong_driver}
use Rattle.vl_model.specs.Order.{is_assigned, InOrder}
use Rattle.vl_model.proofs.Passed.{Passes}
use Rattle.vl_model.proofs.Valued.{width-same, agrees-same}
use Rattle.vl_model.proofs.Settling.{one-name, itself, Tight}

-- ---- look-ups

-- a name that a line declares
found-kept : (o : Option Declared) (n : Name) (x : Declared) (l k : Option Declared) → (l ≡ Some x → k ≡ Some x)
    → found o n l ≡ Some x → found o n k ≡ Some x
found-kept None n x l k f e = f e
found-kept (Some y) n x l k f e = go (bytes_eq n y.name) refl
  where
    go : (b : Bool) → bytes_eq n y.name ≡ b → found (Some y) n k ≡ Some x
    go true is = rw is (rw is at e)
    go false is = rw is (f (rw is at e))

pub lookup-front : (a b : List Line) (n : Name) (x : Declared) → lookup a n ≡ Some x → lookup (a ++ b) n ≡ Some x
lookup-front [] b n x e = absurd (none-some x e)
lookup-front (y ∷ a) b n x e = found-kept (declared y) n x (lookup a n) (lookup (a ++ b) n) (lookup-front a b n x) e

pub kind-of : (test : Kind → Bool) (lines : List Line) (n : Name) → is_kind test lines n ≡ true
    → (x : Declared) × (lookup lines n ≡ Some x) × (test x.kind ≡ true)
kind-of test lines n e = go (lookup lines n) refl
  where
    go : (o : Option Declared) → lookup lines n ≡ o → (x : Declared) × (lookup lines n ≡ Some x) × (test x.kind ≡ true)
    go None is = absurd (false≢true (subst (λ o. kind_passes test o ≡ true) is e))
    go (Some x) is = (x, is, subst (λ o. kind_passes test o ≡ true) is e)

-- ---- drivers

pub drivers-append : (ls : List Leaf) (a b : List Line) (n : Name)
    → drivers ls (a ++ b) n ≡ drivers ls a n + drivers ls b n
drivers-append ls [] b n = omega arith
drivers-append ls (x ∷ a) b n = rw (drivers-append ls a b n) (omega arith)

one-counts : (m n : Name) → bytes_eq m n ≡ true → 1 ≤ one_if (bytes_eq m n)
one-counts m n e = rw e (omega arith)

assign-counts : (ls : List Leaf) (m : Name) (x : Line) → assigns m x ≡ true → 1 ≤ drives ls m x
assign-counts ls m (heading n) e = absurd (false≢true e)
assign-counts ls m (port p) e = absurd (false≢true e)
assign-counts ls m (item (wire h n)) e = absurd (false≢true e)
assign-counts ls m (item (reg h n)) e = absurd (false≢true e)
assign-counts ls m (item (mem h n last)) e = absurd (false≢true e)
assign-counts ls m (item (assign n x)) e = one-counts m n e
assign-counts ls m (item (clocked n k x)) e = absurd (false≢true e)
assign-counts ls m (item (store c n i x)) e = absurd (false≢true e)
assign-counts ls m (joint x) e = absurd (false≢true e)

any-counts : (ls : List Leaf) (m : Name) (a : List Line) → list_any (assigns m) a ≡ true → 1 ≤ drivers ls a m
any-counts ls m [] e = absurd (false≢true e)
any-counts ls m (x ∷ a) e = go (any-counts ls m a) (assigns m x) refl
  where
    go : (list_any (assigns m) a ≡ true → 1 ≤ drivers ls a m) → (b : Bool) → assigns m x ≡ b → 1 ≤ drivers ls (x ∷ a) m
    go rest true is = let one = assign-counts ls m x is in omega arith
    go rest false is = let one = rest (subst (λ b. (b || list_any (assigns m) a) ≡ true) is e) in omega arith

-- what is driven once is not assigned again
once-later : (ls : List Leaf) (m : Name) (all before : List Line) (is : List Item) → all ≡ before ++ map item is
    → drivers ls all m ≡ 1 → list_any (assigns m) before ≡ true → is_assigned is m ≡ false
once-later ls m all before is e one some = false_from_ne_true (is_assigned is m) (λ again.
    let a = any-counts ls m before some in
    let b = any-counts ls m (map item is) again in
    let c : drivers ls before m + drivers ls (map item is) m ≡ 1 =
    sym (drivers-append ls before (map item is) m) ∙ ap (λ x. drivers ls x m) (sym e) ∙ one in
    omega arith)

-- the declared one is driven once
lacks-one : (ls : List Leaf) (all : List Line) (x : Declared) → lacks_driver ls all (Some x) ≡ false
    → wants_driver x.kind ≡ true → drivers ls all x.name ≡ 1
lacks-one ls all x e wants =
    eqb-true (drivers ls all x.name) 1 (not-false (drivers ls all x.name == 1) (subst (λ b. (b && not (drivers ls all x.name == 1)) ≡ false) wants e))

driven-from : (ls : List Leaf) (all before rest : List Line) (n : Name) (x : Declared)
    → Passes wrong_driver (sites_behind ls all before rest) → lookup rest n ≡ Some x → wants_driver x.kind ≡ true
    → drivers ls all n ≡ 1
unfolding wrong_driver
driven-from ls all before [] n x p e wants = absurd (none-some x e)
driven-from ls all before (y ∷ rest) n x p e wants = go (λ f. driven-from ls all (before ++ y ∷ []) rest n x p.1 f wants) (declared y) refl
  where
    here : (lookup rest n ≡ Some x → drivers ls all n ≡ 1) → (z : Declared) → declared y ≡ Some z → (b : Bool)
        → bytes_eq n z.name ≡ b → found (Some z) n (lookup rest n) ≡ Some x → drivers ls all n ≡ 1
    here later z is true same f =
        let one : z ≡ x = cc (rw same at f) in
        let last : lacks_driver ls all (Some z) ≡ false = subst (λ o. lacks_driver ls all o ≡ false) is p.0 in
        ap (drivers ls all) (one-name n z.name same)
        ∙ lacks-one ls all z last (ap (λ (q : Declared). wants_driver q.kind) one ∙ wants)
    here later z is false other f = later (rw other at f)

    go : (lookup rest n ≡ Some x → drivers ls all n ≡ 1) → (o : Option Declared) → declared y ≡ o → drivers ls all n ≡ 1
    go later None is = later (subst (λ o. found o n (lookup rest n) ≡ Some x) is e)
    go later (Some z) is =
        here later z is (bytes_eq n z.name) refl (subst (λ o. found o n (lookup rest n) ≡ Some x) is e)

pub driven-once : (ls : List Leaf) (all : List Line) (n : Name) (x : Declared)
    → Passes wrong_driver (module_sites ls all) → lookup all n ≡ Some x → wants_driver x.kind ≡ true
    → drivers ls all n ≡ 1
driven-once ls all n x p e wants = driven-from ls all [] all n x p e wants

pub driven-wants : (k : Kind) → is_driven k ≡ true → wants_driver k ≡ true
driven-wants Input e = absurd (false≢true e)
driven-wants Output e = refl
driven-wants Inner e = refl
driven-wants Register e = refl
driven-wants Memory e = refl
driven-wants Child e = absurd (false≢true e)

-- ---- order

pub more : (all before : List Line) (x : Item) (is : List Item) → all ≡ before ++ map item (x ∷ is)
    → all ≡ (before ++ item x ∷ []) ++ map item is
more all before x is e = e ∙ sym (append_assoc before (item x ∷ []) (map item is))

pub known-here : (ls : List Leaf) (all before : List Line) (x : Line) (rest : List Line)
    → Passes name_unknown (sites_behind ls all before (x ∷ rest)) → line_known ls before x ≡ true
unfolding name_unknown
known-here ls all before x rest p = not-false (line_known ls before x) p.0

-- an input port or a register is never assigned
never-assigned : (ls : List Leaf) (all before : List Line) (is : List Item) (m : Name) (x : Declared)
    → lookup before m ≡ Some x → is_driven x.kind ≡ false
    → Passes name_unknown (sites_behind ls all before (map item is)) → is_assigned is m ≡ false
never-assigned ls all before [] m x e k p = refl
never-assigned ls all before (wire h n ∷ is) m x e k p =
    never-assigned ls all (before ++ item (wire h n) ∷ []) is m x (lookup-front before (item (wire h n) ∷ []) m x e) k p.1
never-assigned ls all before (reg h n ∷ is) m x e k p =
    never-assigned ls all (before ++ item (reg h n) ∷ []) is m x (lookup-front before (item (reg h n) ∷ []) m x e) k p.1
never-assigned ls all before (mem h n last ∷ is) m x e k p =
    never-assigned ls all (before ++ item (mem h n last) ∷ []) is m x (lookup-front before (item (mem h n last) ∷ []) m x e) k p.1
never-assigned ls all before (assign n v ∷ is) m x e k p =
    or_from (bytes_eq m n) (is_assigned is m) (false_from_ne_true (bytes_eq m n) other)
    (never-assigned ls all (before ++ item (assign n v) ∷ []) is m x (lookup-front before (item (assign n v) ∷ []) m x e) k p.1)
  where
    other : bytes_eq m n ≡ true → ⊥
    other same =
        let target =
        kind-of is_driven before n (and_parts (is_kind is_driven before n) (knows before v) (known-here ls all before (item (assign n v)) (map item is) p)).0 in
        let one : target.0 ≡ x = cc (sym target.1 ∙ ap (lookup before) (sym (one-name m n same)) ∙ e) in
        both_ways (is_driven x.kind) k (ap (λ (q : Declared). is_driven q.kind) (sym one) ∙ target.2)
never-assigned ls all before (clocked n c v ∷ is) m x e k p =
    never-assigned ls all (before ++ item (clocked n c v) ∷ []) is m x (lookup-front before (item (clocked n c v) ∷ []) m x e) k p.1
never-assigned ls all before (store c n i v ∷ is) m x e k p =
    never-assigned ls all (before ++ item (store c n i v) ∷ []) is m x (lookup-front before (item (store c n i v) ∷ []) m x e) k p.1

-- nor is any name that its module declares otherwise than as a wire or an output port, or not at all
pub never-driven : (ls : List Leaf) (all before : List Line) (is : List Item) (m : Name) → all ≡ before ++ map item is
    → is_kind is_driven all m ≡ false
    → Passes name_unknown (sites_behind ls all before (map item is)) → is_assigned is m ≡ false
never-driven ls all before [] m e k p = refl
never-driven ls all before (wire h n ∷ is) m e k p =
    never-driven ls all (before ++ item (wire h n) ∷ []) is m (more all before (wire h n) is e) k p.1
never-driven ls all before (reg h n ∷ is) m e k p =
    never-driven ls all (before ++ item (reg h n) ∷ []) is m (more all before (reg h n) is e) k p.1
never-driven ls all before (mem h n last ∷ is) m e k p =
    never-driven ls all (before ++ item (mem h n last) ∷ []) is m (more all before (mem h n last) is e) k p.1
never-driven ls all before (assign n v ∷ is) m e k p =
    or_from (bytes_eq m n) (is_assigned is m) (false_from_ne_true (bytes_eq m n) other)
    (never-driven ls all (before ++ item (assign n v) ∷ []) is m (more all before (assign n v) is e) k p.1)
  where
    other : bytes_eq m n ≡ true → ⊥
    other same =
        let target =
        kind-of is_driven before n (and_parts (is_kind is_driven before n) (knows before v) (known-here ls all before (item (assign n v)) (map item is) p)).0 in
        let here : lookup all m ≡ Some target.0 =
        ap (λ x. lookup x m) e ∙ ap (lookup (before ++ map item (assign n v ∷ is))) (one-name m n same)
        ∙ lookup-front before (map item (assign n v ∷ is)) n target.0 target.1 in
        both_ways (is_kind is_driven all m) k (ap (kind_passes is_driven) here ∙ target.2)
never-driven ls all before (clocked n c v ∷ is) m e k p =
    never-driven ls all (before ++ item (clocked n c v) ∷ []) is m (more all before (clocked n c v) is e) k p.1
never-driven ls all before (store c n i v ∷ is) m e k p =
    never-driven ls all (before ++ item (store c n i v) ∷ []) is m (more all before (store c n i v) is e) k p.1

-- a wire or output port that no item assigns has no driver
pub other-kind : (a b : Kind → Bool) (all before rest : List Line) (m n : Name)
    → ((k : Kind) → a k ≡ true → b k ≡ true → ⊥) → all ≡ before ++ rest → is_kind a all m ≡ true
    → is_kind b before n ≡ true → one_if (bytes_eq m n) ≡ 0
other-kind a b all before rest m n apart e here there = go (bytes_eq m n) refl
  where
    go : (c : Bool) → bytes_eq m n ≡ c → one_if (bytes_eq m n) ≡ 0
    go false is = rw is refl
    go true is =
        let target = kind-of b before n there in
        let found' : lookup all m ≡ Some target.0 =
        ap (λ x. lookup x m) e ∙ ap (lookup (before ++ rest)) (one-name m n is)
        ∙ lookup-front before rest n target.0 target.1 in
        absurd (apart target.0.kind (sym (ap (kind_passes a) found') ∙ here) target.2)

pub driven-register : (k : Kind) → is_driven k ≡ true → is_register k ≡ true → ⊥
driven-register Input a b = true≢false (sym a)
driven-register Output a b = true≢false (sym b)
driven-register Inner a b = true≢false (sym b)
driven-register Register a b = true≢false (sym a)
driven-register Memory a b = true≢false (sym a)
driven-register Child a b = true≢false (sym a)

pub driven-memory : (k : Kind) → is_driven k ≡ true → is_memory k ≡ true → ⊥
driven-memory Input a b = true≢false (sym a)
driven-memory Output a b = true≢false (sym b)
driven-memory Inner a b = true≢false (sym b)
driven-memory Register a b = true≢false (sym a)
driven-memory Memory a b = true≢false (sym a)
driven-memory Child a b = true≢false (sym a)

pub none-drives : (ls : List Leaf) (all before : List Line) (is : List Item) (m : Name) → all ≡ before ++ map item is
    → is_kind is_driven all m ≡ true
    → Passes name_unknown (sites_behind ls all before (map item is)) → is_assigned is m ≡ false
    → drivers ls (map item is) m ≡ 0
none-drives ls all before [] m e k p f = refl
none-drives ls all before (wire h n ∷ is) m e k p f =
    let rest = none-drives ls all (before ++ item (wire h n) ∷ []) is m (more all before (wire h n) is e) k p.1 f in
    omega arith
none-drives ls all before (reg h n ∷ is) m e k p f =
    let rest = none-drives ls all (before ++ item (reg h n) ∷ []) is m (more all before (reg h n) is e) k p.1 f in
    omega arith
none-drives ls all before (mem h n last ∷ is) m e k p f =
    let rest =
    none-drives ls all (before ++ item (mem h n last) ∷ []) is m (more all before (mem h n last) is e) k p.1 f in
    omega arith
none-drives ls all before (assign n v ∷ is) m e k p f =
    let fs = or_parts (bytes_eq m n) (is_assigned is m) f in
    let here : one_if (bytes_eq m n) ≡ 0 = ap one_if fs.0 in
    let rest = none-drives ls all (before ++ item (assign n v) ∷ []) is m (more all before (assign n v) is e) k p.1 fs.1 in omega arith
none-drives ls all before (clocked n c v ∷ is) m e k p f =
    let here = other-kind is_driven is_register all before (map item (clocked n c v ∷ is)) m n driven-register e k
    (and_parts (is_kind is_register before n) (knows before v) (known-here ls all before (item (clocked n c v)) (map item is) p)).0 in
    let rest = none-drives ls all (before ++ item (clocked n c v) ∷ []) is m (more all before (clocked n c v) is e) k p.1 f in omega arith
none-drives ls all before (store c n i v ∷ is) m e k p f =
    let here = other-kind is_driven is_memory all before (map item (store c n i v ∷ is)) m n driven-memory e k
    (and_parts (is_kind is_memory before n) (knows before c && (knows before i && knows before v)) (known-here ls all before (item (store c n i v)) (map item is) p)).0 in
    let rest = none-drives ls all (before ++ item (store c n i v) ∷ []) is m (more all before (store c n i v) is e) k p.1 f in omega arith

any-later : (t : Line → Bool) (a : List Line) (x : Line) → t x ≡ true → list_any t (a ++ x ∷ []) ≡ true
any-later t [] x e = or_left (t x) false e
any-later t (y ∷ a) x e = or_right (t y) (list_any t (a ++ x ∷ [])) (any-later t a x e)

-- what an assign reads is not assigned from there on
read-early : (ls : List Leaf) (all before : List Line) (is : List Item) (m : Name) → all ≡ before ++ map item is
    → Passes wrong_driver (module_sites ls all)
    → Passes name_unknown (sites_behind ls all before (map item is)) → is_kind is_net before m ≡ true
    → is_early before m ≡ false → is_assigned is m ≡ false
read-early ls all before is m e once known net early = go (is_driven what.0.kind) refl
  where
    what : (x : Declared) × (lookup before m ≡ Some x) × (is_net x.kind ≡ true)
    what = kind-of is_net before m net

    go : (b : Bool) → is_driven what.0.kind ≡ b → is_assigned is m ≡ false
    go true is' =
        let driven : is_kind is_driven before m ≡ true = ap (kind_passes is_driven) what.1 ∙ is' in
        let done : list_any (assigns m) before ≡ true =
        not-false (list_any (assigns m) before) (subst (λ b. (b && not (list_any (assigns m) before)) ≡ false) driven early) in
        let here : lookup all m ≡ Some what.0 =
        ap (λ x. lookup x m) e ∙ lookup-front before (map item is) m what.0 what.1 in
        once-later ls m all before is e (driven-once ls all m what.0 once here (driven-wants what.0.kind is')) done
    go false is' = never-assigned ls all before is m what.0 what.1 is' known

reads-early-none : (ls : List Leaf) (all before : List Line) (is : List Item) (ms : List Name)
    → all ≡ before ++ map item is → Passes wrong_driver (module_sites ls all)
    → Passes name_unknown (sites_behind ls all before (map item is)) → list_all (is_kind is_net before) ms ≡ true
    → list_any (is_early before) ms ≡ false → AllByRecursion (λ m. is_assigned is m ≡ false) ms
reads-early-none ls all before is [] e once known net early = tt
reads-early-none ls all before is (m ∷ ms) e once known net early =
    let ns = and_parts (is_kind is_net before m) (list_all (is_kind is_net before) ms) net in
    let es = or_parts (is_early before m) (list_any (is_early before) ms) early in
    (read-early ls all before is m e once known ns.0 es.0, reads-early-none ls all before is ms e once known ns.1 es.1)

pub in-order : (ls : List Leaf) (all before : List Line) (is : List Item) → all ≡ before ++ map item is
    → Passes wrong_driver (module_sites ls all)
    → Passes name_unknown (sites_behind ls all before (map item is))
    → Passes wrong_order (sites_behind ls all before (map item is)) → InOrder is
unfolding wrong_order
in-order ls all before [] e once known order = tt
in-order ls all before (wire h n ∷ is) e once known order =
    in-order ls all (before ++ item (wire h n) ∷ []) is (more all before (wire h n) is e) once known.1 order.1
in-order ls all before (reg h n ∷ is) e once known order =
    in-order ls all (before ++ item (reg h n) ∷ []) is (more all before (reg h n) is e) once known.1 order.1
in-order ls all before (mem h n last ∷ is) e once known order =
    in-order ls all (before ++ item (mem h n last) ∷ []) is (more all before (mem h n last) is e) once known.1 order.1
in-order ls all before (assign n v ∷ is) e once known order =
    let parts =
    and_parts (is_kind is_driven before n) (knows before v) (known-here ls all before (item (assign n v)) (map item is) known) in
    let reads =
    and_parts (list_all (is_kind is_net before) (nets_of v)) (list_all (λ (u : Use). is_kind is_memory before u.memory) (uses_of v)) parts.1 in
    let target = kind-of is_driven before n parts.0 in
    let here : lookup all n ≡ Some target.0 =
    ap (λ x. lookup x n) e ∙ lookup-front before (map item (assign n v ∷ is)) n target.0 target.1 in
    let rest = more all before (assign n v) is e in (
      reads-early-none ls all before (assign n v ∷ is) (nets_of v) e once known reads.0 order.0,
      once-later ls n all (before ++ item (assign n v) ∷ []) is rest (driven-once ls all n target.0 once here (driven-wants target.0.kind target.2)) (any-later (assigns n) before (item (assign n v)) (itself n)),
      in-order ls all (before ++ item (assign n v) ∷ []) is rest once known.1 order.1,
    )
in-order ls all before (clocked n k v ∷ is) e once known order =
    in-order ls all (before ++ item (clocked n k v) ∷ []) is (more all before (clocked n k v) is e) once known.1 order.1
in-order ls all before (store c n i v ∷ is) e once known order =
    in-order ls all (before ++ item (store c n i v) ∷ []) is (more all before (store c n i v) is e) once known.1 order.1

-- ---- widths

-- the widths of what is declared stay
net-width-front : (before rest : List Line) (n : Name) → is_kind is_net before n ≡ true
    → (widths before).net n ≡ (widths (before ++ rest)).net n
net-width-front before rest n k =
    let what = kind-of is_net before n k in
    ap net_bits (what.1 ∙ sym (lookup-front before rest n what.0 what.1))

pub net-width : (all before rest : List Line) (n : Name) → all ≡ before ++ rest → is_kind is_net before n ≡ true
    → (widths before).net n ≡ (widths all).net n
net-width all before rest n e k = net-width-front before rest n k ∙ ap (λ x. (widths x).net n) (sym e)

pub word-width : (all before rest : List Line) (n : Name) → all ≡ before ++ rest → is_kind is_memory before n ≡ true
    → (widths before).word n ≡ (widths all).word n
word-width all before rest n e k =
    let what = kind-of is_memory before n k in
    ap word_bits (what.1 ∙ sym (lookup-front before rest n what.0 what.1)) ∙ ap (λ x. (widths x).word n) (sym e)

nets-wide : (all before rest : List Line) (ns : List Name) → all ≡ before ++ rest
    → list_all (is_kind is_net before) ns ≡ true → AllByRecursion (λ n. (widths before).net n ≡ (widths all).net n) ns
nets-wide all before rest [] e k = tt
nets-wide all before rest (n ∷ ns) e k =
    let ks = and_parts (is_kind is_net before n) (list_all (is_kind is_net before) ns) k in (net-width all before rest n e ks.0, nets-wide all before rest ns e ks.1)

uses-wide : (all before rest : List Line) (us : List Use) → all ≡ before ++ rest
    → list_all (λ (u : Use). is_kind is_memory before u.memory) us ≡ true
    → AllByRecursion (λ (u : Use). (widths before).word u.memory ≡ (widths all).word u.memory) us
uses-wide all before rest [] e k = tt
uses-wide all before rest (u ∷ us) e k =
    let ks = and_parts (is_kind is_memory before u.memory) (list_all (λ (u : Use). is_kind is_memory before u.memory) us) k in (word-width all before rest u.memory e ks.0, uses-wide all before rest us e ks.1)

-- a known expression is as wide among more lines, and agrees there
pub known-width : (all before rest : List Line) (v : Expr) → all ≡ before ++ rest → knows before v ≡ true
    → (width_of (widths before) v ≡ width_of (widths all) v) × (agrees (widths before) v ≡ agrees (widths all) v)
known-width all before rest v e k =
    let ks =
    and_parts (list_all (is_kind is_net before) (nets_of v)) (list_all (λ (u : Use). is_kind is_memory before u.memory) (uses_of v)) k in
    let nets = nets-wide all before rest (nets_of v) e ks.0 in
    let uses = uses-wide all before rest (uses_of v) e ks.1 in
    (width-same (widths before) (widths all) v nets uses, agrees-same (widths before) (widths all) v nets uses)

driven-net : (k : Kind) → is_driven k ≡ true → is_net k ≡ true
driven-net Input e = refl
driven-net Output e = refl
driven-net Inner e = refl
driven-net Register e = refl
driven-net Memory e = absurd (false≢true e)
driven-net Child e = absurd (false≢true e)

pub driven-is-net : (lines : List Line) (n : Name) → is_kind is_driven lines n ≡ true → is_kind is_net lines n ≡ true
driven-is-net lines n k =
    let what = kind-of is_driven lines n k in
    ap (kind_passes is_net) what.1 ∙ driven-net what.0.kind what.2

pub tight : (ls : List Leaf) (all before : List Line) (is : List Item) → all ≡ before ++ map item is
    → list_all plain_item is ≡ true → Passes name_unknown (sites_behind ls all before (map item is))
    → Passes wrong_width (sites_behind ls all before (map item is)) → AllByRecursion (Tight (widths all)) is
unfolding wrong_width
tight ls all before [] e plain known p = tt
tight ls all before (wire h n ∷ is) e plain known p =
    (tt, tight ls all (before ++ item (wire h n) ∷ []) is (more all before (wire h n) is e) (and_parts (plain_item (wire h n)) (list_all plain_item is) plain).1 known.1 p.1)
tight ls all before (reg h n ∷ is) e plain known p =
    (tt, tight ls all (before ++ item (reg h n) ∷ []) is (more all before (reg h n) is e) (and_parts (plain_item (reg h n)) (list_all plain_item is) plain).1 known.1 p.1)
tight ls all before (mem h n last ∷ is) e plain known p =
    (tt, tight ls all (before ++ item (mem h n last) ∷ []) is (more all before (mem h n last) is e) (and_parts (plain_item (mem h n last)) (list_all plain_item is) plain).1 known.1 p.1)
tight ls all before (assign n v ∷ is) e plain known p =
    let plains = and_parts (is_name n && plain_expr limit v) (list_all plain_item is) plain in
    let parts =
    and_parts (is_kind is_driven before n) (knows before v) (known-here ls all before (item (assign n v)) (map item is) known) in
    let fits =
    and_parts (agrees (widths before) v) (width_of (widths before) v == (widths before).net n) (not-false (line_fits ls (widths before) (item (assign n v))) p.0) in
    let same = known-width all before (map item (assign n v ∷ is)) v e parts.1 in
    let target = net-width all before (map item (assign n v ∷ is)) n e (driven-is-net before n parts.0) in (
      ((and_parts (is_name n) (plain_expr limit v) plains.0).1, sym same.1 ∙ fits.0, sym same.0 ∙ eqb-true (width_of (widths before) v) ((widths before).net n) fits.1 ∙ target),
      tight ls all (before ++ item (assign n v) ∷ []) is (more all before (assign n v) is e) plains.1 known.1 p.1,
    )
tight ls all before (clocked n k v ∷ is) e plain known p =
    (tt, tight ls all (before ++ item (clocked n k v) ∷ []) is (more all before (clocked n k v) is e) (and_parts (plain_item (clocked n k v)) (list_all plain_item is) plain).1 known.1 p.1)
tight ls all before (store c n i v ∷ is) e plain known p =
    (tt, tight ls all (before ++ item (store c n i v) ∷ []) is (more all before (store c n i v) is e) (and_parts (plain_item (store c n i v)) (list_all plain_item is) plain).1 known.1 p.1)
