-- An expression that keeps the rules can be computed.
use Rattle.std.proofs.Common.{◌≡◌, ℕ, ◌-◌, ◌<◌, ◌≤◌, ◌^◌, Bool, true, ◌&&◌, List, [], ◌∷◌, ◌++◌, refl, sym, ◌∙◌, ap, subst, arith}
use Rattle.std.specs.Prelude.{◌==◌, nat_lt, nat_le}
use Rattle.std.specs.List.{list_all}
use Rattle.std.proofs.lemmas.Nat.{pow_pos}
use Rattle.std.proofs.Math.Pow.{pow_mono}
use Rattle.std.proofs.lemmas.Bool.{and_parts, eqb-true}
use Rattle.vl_tree.specs.Values.{Name, Expr, Exprs, net, number, bit, part, word, not, two, choose, cat, no_parts, parts}
use Rattle.vl_tree.specs.Plain.{plain_expr, plain_exprs}
use Rattle.vl_tree.specs.Tokens.{is_name}
use Rattle.vl_model.specs.Meaning.{Widths, Values, width_of, widths_of, agrees, all_agree, value_of, values_of, Use, nets_of, parts_nets, uses_of, parts_uses}
use Rattle.vl_model.specs.Lines.{Line, lookup, kind_passes, is_net, is_memory, widths, word_count}
use Rattle.vl_model.specs.Rules.{is_kind, knows, use_fits}
use Rattle.vl_model.specs.Leaf.{AreSmall}
use Rattle.vl_model.proofs.Valued.{value-small, values-small}
use Rattle.vl_model.proofs.Ordered.{kind-of, lookup-front, known-width}
use Rattle.vl_run.proofs.Narrow.{AreNarrow, narrow, part-narrow}
use Rattle.vl_run.proofs.Able.{Readable, Able, AllAble}

split : {A : Type 0} (p : A → Bool) (xs ys : List A) → list_all p (xs ++ ys) ≡ true → (list_all p xs ≡ true) × (list_all p ys ≡ true)
split p [] ys h = (refl, h)
split p (x ∷ xs) ys h =
    let hs = and_parts (p x) (list_all p (xs ++ ys)) h in
    let more = split p xs ys hs.1 in
    (rw (hs.0, more.0) refl, more.1)

module _ (all before rest : List Line) (readable : Name → Bool) where
  -- these nets and memories are known before the line, and may be read
  pub record Fair (ns : List Name) (us : List Use) : Type 0 where
    pub nets : list_all (is_kind is_net before) ns ≡ true
    pub memories : list_all (λ (u : Use). is_kind is_memory before u.memory) us ≡ true
    pub fits : list_all (use_fits before) us ≡ true
    pub reads : list_all readable ns ≡ true

  parted : (ns ms : List Name) (us ts : List Use) → Fair (ns ++ ms) (us ++ ts) → Fair ns us × Fair ms ts
  parted ns ms us ts f =
      let n = split (is_kind is_net before) ns ms f.nets in
      let m = split (λ (u : Use). is_kind is_memory before u.memory) us ts f.memories in
      let k = split (use_fits before) us ts f.fits in
      let r = split readable ns ms f.reads in
      (record { nets = n.0; memories = m.0; fits = k.0; reads = r.0 }, record { nets = n.1; memories = m.1; fits = k.1; reads = r.1 })

  first-reads : (n : Name) (ns : List Name) (us : List Use) → Fair (n ∷ ns) us → readable n ≡ true
  first-reads n ns us f = (and_parts (readable n) (list_all readable ns) f.reads).0

  abbrev pub may-read : Readable
  may-read = record { net = readable; memory = is_kind is_memory all; count = λ n. word_count (lookup all n) }

  module _ (e : all ≡ before ++ rest) (most : AreNarrow (widths all)) (v : Values) (small : AreSmall (widths all) v) where
    abbrev W : Widths
    W = widths all

    here : (n : Name) → is_kind is_memory before n ≡ true → (is_kind is_memory all n ≡ true) × (word_count (lookup before n) ≡ word_count (lookup all n))
    here n k =
        let what = kind-of is_memory before n k in
        let there = ap (λ x. lookup x n) e ∙ lookup-front before rest n what.0 what.1 in
        (ap (kind_passes is_memory) there ∙ what.2, ap word_count (what.1 ∙ sym there))

    indexed : (d : ℕ) (n : Name) (i : Expr) → plain_expr d i ≡ true → agrees W i ≡ true → Fair (nets_of i) (record { memory = n; index = i } ∷ uses_of i)
        → (is_kind is_memory all n ≡ true) × (value_of W v i < word_count (lookup all n)) × Fair (nets_of i) (uses_of i)
    indexed d n i p a f =
        let m = and_parts (is_kind is_memory before n) (list_all (λ (u : Use). is_kind is_memory before u.memory) (uses_of i)) f.memories in
        let k = and_parts (use_fits before (record { memory = n; index = i })) (list_all (use_fits before) (uses_of i)) f.fits in
        let known : knows before i ≡ true = rw (f.nets, m.1) refl in
        let same = known-width all before rest i e known in
        let h = here n m.0 in
        let size : 2 ^ width_of (widths before) i ≡ word_count (lookup before n) = eqb-true (2 ^ width_of (widths before) i) (word_count (lookup before n)) k.0 in
        let low : value_of W v i < 2 ^ width_of W i = value-small W v small d i p a in
        let size' : 2 ^ width_of W i ≡ word_count (lookup all n) = ap (λ x. 2 ^ x) (sym same.0) ∙ size ∙ h.1 in
        (h.0, subst (λ x. value_of W v i < x) size' low, record { nets = f.nets; memories = m.1; fits = k.1; reads = f.reads })

    word-plain : (d : ℕ) (n : Name) (i : Expr) → plain_expr d (word n i) ≡ true → (nat_lt 0 d && plain_expr (d - 1) i) ≡ true
    word-plain d n i p =
        let ps = and_parts (nat_lt 0 d && is_name n) (plain_expr (d - 1) i) p in
        let qs = and_parts (nat_lt 0 d) (is_name n) ps.0 in
        rw (qs.0, ps.1) refl

    mutual
      pub able : (d : ℕ) (x : Expr) → plain_expr d x ≡ true → agrees W x ≡ true → Fair (nets_of x) (uses_of x) → Able W v may-read x
      able d (net n) p a f = first-reads n [] [] f
      able d (number k) p a f = tt
      able d (bit n i) p a f = first-reads n [] [] f
      able d (part n h l) p a f = (first-reads n [] [] f, part-narrow W most n h l a)
      able d (word n i) p a f =
          let ps = and_parts (nat_lt 0 d) (plain_expr (d - 1) i) (word-plain d n i p) in
          let g = indexed (d - 1) n i ps.1 a f in
          (able (d - 1) i ps.1 a g.2, g.0, g.1)
      able d (not x) p a f =
          let ps = and_parts (nat_lt 0 d) (plain_expr (d - 1) x) p in
          (able (d - 1) x ps.1 a f, narrow W most (d - 1) x ps.1 a)
      able d (two op x y) p h f =
          let ps = and_parts (nat_lt 0 d && plain_expr (d - 1) x) (plain_expr (d - 1) y) p in
          let qs = and_parts (nat_lt 0 d) (plain_expr (d - 1) x) ps.0 in
          let hs = and_parts (agrees W x) (agrees W y && (width_of W x == width_of W y)) h in
          let gs = and_parts (agrees W y) (width_of W x == width_of W y) hs.1 in
          let fs = parted (nets_of x) (nets_of y) (uses_of x) (uses_of y) f in
          let same : width_of W x ≡ width_of W y = eqb-true (width_of W x) (width_of W y) gs.1 in (
            able (d - 1) x qs.1 hs.0 fs.0,
            able (d - 1) y ps.1 gs.0 fs.1,
            narrow W most (d - 1) x qs.1 hs.0,
            value-small W v small (d - 1) x qs.1 hs.0,
            subst (λ k. value_of W v y < 2 ^ k) (sym same) (value-small W v small (d - 1) y ps.1 gs.0),
          )
      able d (choose c x y) p h f =
          let ps = and_parts ((nat_lt 0 d && plain_expr (d - 1) c) && plain_expr (d - 1) x) (plain_expr (d - 1) y) p in
          let qs = and_parts (nat_lt 0 d && plain_expr (d - 1) c) (plain_expr (d - 1) x) ps.0 in
          let rs = and_parts (nat_lt 0 d) (plain_expr (d - 1) c) qs.0 in
          let h1 = and_parts (agrees W c) (agrees W x && (agrees W y && ((width_of W c == 1) && (width_of W x == width_of W y)))) h in
          let h2 = and_parts (agrees W x) (agrees W y && ((width_of W c == 1) && (width_of W x == width_of W y))) h1.1 in
          let h3 = and_parts (agrees W y) ((width_of W c == 1) && (width_of W x == width_of W y)) h2.1 in
          let fs = parted (nets_of c) (nets_of x ++ nets_of y) (uses_of c) (uses_of x ++ uses_of y) f in
          let gs = parted (nets_of x) (nets_of y) (uses_of x) (uses_of y) fs.1 in
          (able (d - 1) c rs.1 h1.0 fs.0, able (d - 1) x qs.1 h2.0 gs.0, able (d - 1) y ps.1 h3.0 gs.1)
      able d (cat no_parts) p h f = (tt, pow_pos 64)
      able d (cat (parts x xs)) p h f =
          let ps = and_parts (nat_lt 0 d && plain_expr (d - 1) x) (plain_exprs (d - 1) xs) p in
          let qs = and_parts (nat_lt 0 d) (plain_expr (d - 1) x) ps.0 in
          let h1 = and_parts (all_agree W (parts x xs)) (nat_le (widths_of W (parts x xs)) 64) h in
          let both : plain_exprs (d - 1) (parts x xs) ≡ true = rw (qs.1, ps.1) refl in
          let fits : values_of W v (parts x xs) < 2 ^ widths_of W (parts x xs) = values-small W v small (d - 1) (parts x xs) both h1.0 in
          let le : widths_of W (parts x xs) ≤ 64 = narrow W most d (cat (parts x xs)) p h in
          let up : 2 ^ widths_of W (parts x xs) ≤ 2 ^ 64 = pow_mono le in
          (all-able (d - 1) (parts x xs) both h1.0 f, omega arith)

      all-able : (d : ℕ) (xs : Exprs) → plain_exprs d xs ≡ true → all_agree W xs ≡ true → Fair (parts_nets xs) (parts_uses xs) → AllAble W v may-read xs
      all-able d no_parts p a f = tt
      all-able d (parts x xs) p a f =
          let ps = and_parts (plain_expr d x) (plain_exprs d xs) p in
          let hs = and_parts (agrees W x) (all_agree W xs) a in
          let fs = parted (nets_of x) (parts_nets xs) (uses_of x) (parts_uses xs) f in
          (able d x ps.0 hs.0 fs.0, narrow W most d x ps.0 hs.0, all-able d xs ps.1 hs.1 fs.1)
