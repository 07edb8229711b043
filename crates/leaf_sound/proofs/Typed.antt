-- Expressions of one width among the lines of a leaf: what they read is known, their widths agree, and they are plain.
use Rattle.std.proofs.Common.{◌≡◌, ℕ, zero, suc, ◌+◌, ◌-◌, ◌*◌, ◌^◌, ◌<◌, ◌≤◌, Bool, true, false, List, [], ◌++◌, refl, sym, ◌∙◌, ap, subst, arith, Some, nat_lt, nat_le, ◌==◌, if◌then◌else◌}
use Rattle.std.specs.List.{AllByRecursion}
use Rattle.std.proofs.lemmas.Bool.Decides.{nat_tests}
use Rattle.vl_tree.specs.declared.tree.Op.{Op}
use Rattle.vl_tree.specs.declared.tree.Op.TheVariants.{Add, Sub, And, Or, Xor, Equal, Less}
use Rattle.vl_tree.specs.Values.{Name, Expr, Exprs, net, bit, part, not, two, choose, cat, no_parts, parts}
use Rattle.vl_tree.specs.Tokens.{is_name}
use Rattle.vl_tree.specs.Plain.{plain_expr, plain_exprs}
use Rattle.vl_model.specs.Meaning.{Use, op_width, width_of, widths_of, agrees, all_agree, nets_of, parts_nets, uses_of, parts_uses}
use Rattle.vl_model.specs.declared.kind.Kind.{Kind}
use Rattle.vl_model.specs.Lines.{Line, lookup, is_net, is_memory, net_bits, widths, word_count, kind_passes}
use Rattle.vl_model.specs.Rules.{is_kind}
use Rattle.vl_model.proofs.Together.{all-join}
use Rattle.gen_kit.specs.Families.{in_bits, or_upto, row_parts}
use Rattle.gen_kit.specs.Rotate.{is_empty}

-- ---- what is declared among the lines

pub record Net (lines : List Line) (kind : Kind) (n : Name) (h : ℕ) : Type 0 where
  pub found : lookup lines n ≡ Some (record { name = n; kind = kind; high = h; last = 0 })
  pub few : h < 64
  pub plain : is_name n ≡ true
  pub is_its : is_net kind ≡ true

-- what is read is a net, and may be read here
abbrev pub Reads : List Line → (Name → Type 0) → Name → Type 0
Reads lines P m = (is_kind is_net lines m ≡ true) × P m

-- the use of a memory: it is one, and the index has exactly the bits for its words
pub record UseIs (lines : List Line) (P : Name → Type 0) (u : Use) : Type 0 where
  pub memory : is_kind is_memory lines u.memory ≡ true
  pub index : 2 ^ width_of (widths lines) u.index ≡ word_count (lookup lines u.memory)
  pub read : AllByRecursion (Reads lines P) (nets_of u.index)
  pub plain_index : uses_of u.index ≡ []

pub less-true : (a b : ℕ) → a < b → nat_lt a b ≡ true
less-true a b h = grind (arith, nat_tests)

most-true : (a b : ℕ) → a ≤ b → nat_le a b ≡ true
most-true a b h = grind (arith, nat_tests)

same-true : (a b : ℕ) → a ≡ b → (a == b) ≡ true
same-true a b h = grind (arith, nat_tests)

module _ (lines : List Line) where
  pub net-wide : {c : Kind} {n : Name} {h : ℕ} → Net lines c n h → (widths lines).net n ≡ h + 1
  net-wide {c} {n} {h} x = ap net_bits x.found ∙ ap (λ b. if b then h + 1 else 0) x.is_its

  pub net-known : {c : Kind} {n : Name} {h : ℕ} → Net lines c n h → is_kind is_net lines n ≡ true
  net-known {c} {n} {h} x = ap (kind_passes is_net) x.found ∙ x.is_its

  -- an expression of k bits and at most d levels
  pub record Is (P : Name → Type 0) (e : Expr) (k d : ℕ) : Type 0 where
    pub width : width_of (widths lines) e ≡ k
    pub agree : agrees (widths lines) e ≡ true
    pub some : 1 ≤ k
    pub few : k ≤ 64
    pub plain : (m : ℕ) → d ≤ m → plain_expr m e ≡ true
    pub reads : AllByRecursion (Reads lines P) (nets_of e)
    pub uses : AllByRecursion (UseIs lines P) (uses_of e)

  -- parts of a concatenation
  pub record Are (P : Name → Type 0) (es : Exprs) (k d : ℕ) : Type 0 where
    pub width : widths_of (widths lines) es ≡ k
    pub agree : all_agree (widths lines) es ≡ true
    pub plain : (m : ℕ) → d ≤ m → plain_exprs m es ≡ true
    pub reads : AllByRecursion (Reads lines P) (parts_nets es)
    pub uses : AllByRecursion (UseIs lines P) (parts_uses es)

  module _ (P : Name → Type 0) where
    pub net-is : {c : Kind} {n : Name} {h : ℕ} → Net lines c n h → P n → Is P (net n) (h + 1) 1
    net-is {c} {n} {h} x may = record {
      width = net-wide x;
      agree = refl;
      some = omega arith;
      few = (let few = x.few in omega (arith, few));
      plain = λ m le. rw (less-true 0 m (omega arith), x.plain) refl;
      reads = ((net-known x, may), tt);
      uses = tt;
    }

    pub number-is : (k value : ℕ) → 1 ≤ k → k ≤ 64 → value < 2 ^ k → Is P (in_bits k value) k 1
    number-is k value some few small = record {
      width = refl;
      agree = refl;
      some = some;
      few = few;
      plain = λ m le. rw (less-true 0 m (omega arith), less-true 0 k (omega arith), most-true k 64 few, less-true value (2 ^ k) small) refl;
      reads = tt;
      uses = tt;
    }

    pub bit-is : {c : Kind} {n : Name} {h : ℕ} (i : ℕ) → Net lines c n h → P n → i ≤ h → Is P (bit n i) 1 1
    bit-is {c} {n} {h} i x may le = record {
      width = refl;
      agree = (let wide = net-wide x in less-true i ((widths lines).net n) (omega (arith, wide)));
      some = omega arith;
      few = omega arith;
      plain = λ m less. (let few = x.few in rw (less-true 0 m (omega arith), x.plain, less-true i 1_000_000_000 (omega (arith, few))) refl);
      reads = ((net-known x, may), tt);
      uses = tt;
    }

    pub part-is : {c : Kind} {n : Name} {h : ℕ} (high low k : ℕ) → Net lines c n h → P n → low ≤ high → high ≤ h → high - low + 1 ≡ k → Is P (part n high low) k 1
    part-is {c} {n} {h} high low k x may le below is = record {
      width = is;
      agree = (let wide = net-wide x in rw (most-true low high le, less-true high ((widths lines).net n) (omega (arith, wide))) refl);
      some = omega (arith, is);
      few = (let few = x.few in omega (arith, is, few));
      plain = λ m less. (let few = x.few in rw (less-true 0 m (omega arith), x.plain, less-true high 1_000_000_000 (omega (arith, few)), less-true low 1_000_000_000 (omega (arith, few))) refl);
      reads = ((net-known x, may), tt);
      uses = tt;
    }

    pub not-is : {e : Expr} {k d : ℕ} → Is P e k d → Is P (not e) k (d + 1)
    not-is {e} {k} {d} x = record {
      width = x.width;
      agree = x.agree;
      some = x.some;
      few = x.few;
      plain = λ m le. rw (less-true 0 m (omega arith), x.plain (m - 1) (omega arith)) refl;
      reads = x.reads;
      uses = x.uses;
    }

    op-some : (op : Op) (k : ℕ) → 1 ≤ k → 1 ≤ op_width op k
    op-some Add k h = h
    op-some Sub k h = h
    op-some And k h = h
    op-some Or k h = h
    op-some Xor k h = h
    op-some Equal k h = omega arith
    op-some Less k h = omega arith

    op-few : (op : Op) (k : ℕ) → k ≤ 64 → op_width op k ≤ 64
    op-few Add k h = h
    op-few Sub k h = h
    op-few And k h = h
    op-few Or k h = h
    op-few Xor k h = h
    op-few Equal k h = omega arith
    op-few Less k h = omega arith

    pub two-is : {a b : Expr} {k d : ℕ} (op : Op) → Is P a k d → Is P b k d → Is P (two op a b) (op_width op k) (d + 1)
    two-is {a} {b} {k} {d} op x y = record {
      width = ap (op_width op) x.width;
      agree = rw (x.agree, y.agree, same-true (width_of (widths lines) a) (width_of (widths lines) b) (x.width ∙ sym y.width)) refl;
      some = op-some op k x.some;
      few = op-few op k x.few;
      plain = λ m le. rw (less-true 0 m (omega arith), x.plain (m - 1) (omega arith), y.plain (m - 1) (omega arith)) refl;
      reads = all-join (Reads lines P) (nets_of a) (nets_of b) x.reads y.reads;
      uses = all-join (UseIs lines P) (uses_of a) (uses_of b) x.uses y.uses;
    }

    pub choose-is : {c a b : Expr} {k d : ℕ} → Is P c 1 d → Is P a k d → Is P b k d → Is P (choose c a b) k (d + 1)
    choose-is {c} {a} {b} {k} {d} z x y = record {
      width = x.width;
      agree = rw (z.agree, x.agree, y.agree, same-true (width_of (widths lines) c) 1 z.width, same-true (width_of (widths lines) a) (width_of (widths lines) b) (x.width ∙ sym y.width)) refl;
      some = x.some;
      few = x.few;
      plain = λ m le. rw (less-true 0 m (omega arith), z.plain (m - 1) (omega arith), x.plain (m - 1) (omega arith), y.plain (m - 1) (omega arith)) refl;
      reads = all-join (Reads lines P) (nets_of c) (nets_of a ++ nets_of b) z.reads (all-join (Reads lines P) (nets_of a) (nets_of b) x.reads y.reads);
      uses = all-join (UseIs lines P) (uses_of c) (uses_of a ++ uses_of b) z.uses (all-join (UseIs lines P) (uses_of a) (uses_of b) x.uses y.uses);
    }

    pub none-are : (d : ℕ) → Are P no_parts 0 d
    none-are d = record { width = refl; agree = refl; plain = λ m le. refl; reads = tt; uses = tt }

    pub next-are : {e : Expr} {es : Exprs} {k j d : ℕ} → Is P e k d → Are P es j d → Are P (parts e es) (k + j) d
    next-are {e} {es} {k} {j} {d} x y = record {
      width = rw (x.width, y.width) refl;
      agree = rw (x.agree, y.agree) refl;
      plain = λ m le. rw (x.plain m le, y.plain m le) refl;
      reads = all-join (Reads lines P) (nets_of e) (parts_nets es) x.reads y.reads;
      uses = all-join (UseIs lines P) (uses_of e) (parts_uses es) x.uses y.uses;
    }

    pub cat-is : {e : Expr} {es : Exprs} {k d : ℕ} → Are P (parts e es) k d → 1 ≤ k → k ≤ 64 → Is P (cat (parts e es)) k (d + 1)
    cat-is {e} {es} {k} {d} x some few = record {
      width = x.width;
      agree = rw (x.agree, most-true (widths_of (widths lines) (parts e es)) 64 (let is = x.width in omega (arith, is))) refl;
      some = some;
      few = few;
      plain = λ m le. (let all = x.plain (m - 1) (omega arith) in rw (less-true 0 m (omega arith)) all);
      reads = x.reads;
      uses = x.uses;
    }

    -- at another number of levels, or by another name of the width
    pub deeper : {e : Expr} {k d : ℕ} (more : ℕ) → d ≤ more → Is P e k d → Is P e k more
    deeper {e} {k} {d} more le x = record { width = x.width; agree = x.agree; some = x.some; few = x.few; plain = λ m less. x.plain m (omega arith); reads = x.reads; uses = x.uses }

    pub wide-as : {e : Expr} {k j d : ℕ} → k ≡ j → Is P e k d → Is P e j d
    wide-as {e} {k} {j} {d} is x = subst (λ z. Is P e z d) is x

    -- one or the other
    pub if-is : {a b : Expr} {k d : ℕ} (c : Bool) → (c ≡ true → Is P a k d) → (c ≡ false → Is P b k d)
        → Is P (if c then a else b) k d
    if-is true x y = x refl
    if-is false x y = y refl

    -- families
    pub or-is : {f : ℕ → Expr} (n k d : ℕ) → ((i : ℕ) → i ≤ n → Is P (f i) k d) → Is P (or_upto n f) k (d + n)
    or-is zero k d h = deeper (d + 0) (omega arith) (h 0 (omega arith))
    or-is {f} (suc n) k d h = deeper (d + suc n) (omega arith) (two-is Or (or-is n k d (λ i le. h i (omega arith))) (deeper (d + n) (omega arith) (h (suc n) (omega arith))))

    pub row-are : {f : ℕ → Expr} (n k d : ℕ) → ((i : ℕ) → i ≤ n → Is P (f i) k d) → Are P (row_parts f n) ((n + 1) * k) d
    row-are {f} zero k d h = subst (λ z. Are P (parts (f 0) no_parts) z d) (omega arith) (next-are (h 0 (omega arith)) (none-are d))
    row-are {f} (suc n) k d h = subst (λ z. Are P (parts (f (suc n)) (row_parts f n)) z d) (let e : k + (n + 1) * k ≡ (suc n + 1) * k = omega arith in e) (next-are (h (suc n) (omega arith)) (row-are n k d (λ i le. h i (omega arith))))

    pub row-is : {f : ℕ → Expr} (n k d : ℕ) → ((i : ℕ) → i ≤ n → Is P (f i) k d) → 1 ≤ k → (n + 1) * k ≤ 64 → Is P (cat (row_parts f n)) ((n + 1) * k) (d + 1)
    row-is {f} zero k d h some few = cat-is (row-are 0 k d h) (omega (arith, some)) few
    row-is {f} (suc n) k d h some few = cat-is (row-are (suc n) k d h) (let e : (suc n + 1) * k ≡ k + (n + 1) * k = omega arith in omega (arith, some, e)) few

    pub empty-is : {e : Expr} {d : ℕ} (h : ℕ) → Is P e (h + 1) d → 1 ≤ d → Is P (is_empty h e) 1 (d + 1)
    empty-is {e} {d} h x some = two-is Equal x (deeper d some (number-is (h + 1) 0 (omega arith) x.few (pow-pos (h + 1))))
      where
        pow-pos : (k : ℕ) → 0 < 2 ^ k
        pow-pos zero = omega arith
        pow-pos (suc k) = let rest = pow-pos k in omega (arith, rest)
