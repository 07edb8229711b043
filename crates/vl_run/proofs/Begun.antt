-- An instance at reset.
use Rattle.std.proofs.Common.{◌≡◌, ℕ, zero, suc, ◌+◌, ◌<◌, ◌^◌, Bool, true, false, List, [], ◌∷◌, length, map, replicate, refl, sym, ◌∙◌, ap, subst, bytes_eq, arith}
use Rattle.std.specs.Prelude.{Option, Some, None, slice_get, slice_index, slice_index_or, if◌then◌else◌}
use Rattle.std.specs.List.{AllByRecursion}
use Rattle.std.proofs.lemmas.List.{length-map, length-replicate}
use Rattle.std.proofs.lemmas.Option.{none-some}
use Rattle.std.proofs.lemmas.Nat.{pow_pos}
use Rattle.std.proofs.lemmas.Bool.{or_parts, false≢true}
use Rattle.vl_tree.specs.declared.tree.Join.{Join}
use Rattle.vl_tree.specs.declared.tree.TopItem.TheVariants.{Wire, Instance}
use Rattle.vl_tree.specs.Values.{Name, Item, wire, reg, mem, assign, clocked, store, Leaf}
use Rattle.vl_model.specs.Lines.{Line, heading, port, item, joint, leaf_lines, Declared, declared, lookup, way_of, is_net, is_memory, word_count}
use Rattle.vl_model.specs.Rules.{is_kind}
use Rattle.vl_model.specs.Leaf.{leaf_widths}
use Rattle.vl_model.specs.Settle.{reset_net, instance_reset}
use Rattle.vl_model.specs.Once.{is_clocked, AreOnce}
use Rattle.vl_model.proofs.Settling.{one-name}
use Rattle.vl_model.proofs.Ordered.{kind-of}
use Rattle.vl_model.proofs.Moving.{reset-small}
use Rattle.vl_run.specs.declared.step.Step.{Step}
use Rattle.vl_run.specs.Step.{word_at}
use Rattle.vl_run.specs.Program.{reset_steps}
use Rattle.vl_run.specs.State.{Part, code_of}
use Rattle.vl_run.specs.Places.{ArePlaces}
use Rattle.vl_run.specs.Start.{words_of, empty_memory, IsStart}
use Rattle.vl_run.specs.Stands.{StandsIn}
use Rattle.vl_run.proofs.Acted.{placed, acted, placed-here, placed-other, ran-acted}
use Rattle.vl_run.proofs.Ruled.{ItemRuled}
use Rattle.vl_run.proofs.Readied.{register-is-net}
use Rattle.vl_run.proofs.Linked.{apart}
use Rattle.vl_run.proofs.Standing.{LeafFacts}

zeros-are : (n i : ℕ) → slice_index (replicate n 0) i ≡ 0
zeros-are zero i = refl
zeros-are (suc n) zero = refl
zeros-are (suc n) (suc i) = zeros-are n i

at-map : {A B : Type 0} (f : A → B) (xs : List A) (i : ℕ) (x : A) (d : B) → slice_get xs i ≡ Some x → slice_index_or (map f xs) i d ≡ f x
at-map f [] i x d e = absurd (none-some x e)
at-map f (y ∷ xs) zero x d e = let one : y ≡ x = cc in ap f one
at-map f (y ∷ xs) (suc i) x d e = at-map f xs i x d e

abbrev memory-or : Option Declared → Bool
memory-or None = false
memory-or (Some x) = is_memory x.kind

abbrev last-or : Option Declared → ℕ
last-or None = 0
last-or (Some x) = x.last

-- a line that declares a memory has its words
memory-words : (y : Line) (x : Declared) → declared y ≡ Some x → is_memory x.kind ≡ true → words_of y ≡ x.last + 1
memory-words (heading n) x e k = cc
memory-words (port p) x e k = absurd (no-port p.output (ap (λ (o : Option Declared). memory-or o) e ∙ k))
  where
    no-port : (b : Bool) → is_memory (way_of b) ≡ true → ⊥
    no-port true h = false≢true h
    no-port false h = false≢true h
memory-words (item (wire h n)) x e k = absurd (false≢true (ap (λ (o : Option Declared). memory-or o) e ∙ k))
memory-words (item (reg h n)) x e k = absurd (false≢true (ap (λ (o : Option Declared). memory-or o) e ∙ k))
memory-words (item (mem h n last)) x e k = ap (λ (o : Option Declared). last-or o + 1) e
memory-words (item (assign n v)) x e k = cc
memory-words (item (clocked n c v)) x e k = cc
memory-words (item (store c n i v)) x e k = cc
memory-words (joint (Wire h n)) x e k = absurd (false≢true (ap (λ (o : Option Declared). memory-or o) e ∙ k))
memory-words (joint (Instance l n js)) x e k = absurd (false≢true (ap (λ (o : Option Declared). memory-or o) e ∙ k))

module _ (all : List Line) (s : Name → ℕ) (places : ArePlaces all s) (m : ℕ → ℕ → ℕ) where
  never-reset : (is : List Item) → AllByRecursion (ItemRuled all) is → (n : Name) → is_kind is_net all n ≡ true → is_clocked is n ≡ false → (x : ℕ → ℕ) → acted m (reset_steps s is) x (s n) ≡ x (s n)
  never-reset [] r n k f x = refl
  never-reset (wire h a ∷ is) r n k f x = never-reset is r.1 n k f x
  never-reset (reg h a ∷ is) r n k f x = never-reset is r.1 n k f x
  never-reset (mem h a last ∷ is) r n k f x = never-reset is r.1 n k f x
  never-reset (assign a e ∷ is) r n k f x = never-reset is r.1 n k f x
  never-reset (store c a i e ∷ is) r n k f x = never-reset is r.1 n k f x
  never-reset (clocked a c e ∷ is) r n k f x =
      let fs = or_parts (bytes_eq n a) (is_clocked is n) f in
      never-reset is r.1 n k fs.1 (placed (s a) c.value x) ∙ placed-other (s a) c.value x (s n) (apart all s places a n (register-is-net all a r.0.0) k fs.0)

  pub are-reset : (is : List Item) → AllByRecursion (ItemRuled all) is → AreOnce is → (n : Name) → is_kind is_net all n ≡ true → (x : ℕ → ℕ) → x (s n) ≡ 0 → acted m (reset_steps s is) x (s n) ≡ reset_net is n
  are-reset [] r o n k x zero-there = zero-there
  are-reset (wire h a ∷ is) r o n k x z = are-reset is r.1 o n k x z
  are-reset (reg h a ∷ is) r o n k x z = are-reset is r.1 o n k x z
  are-reset (mem h a last ∷ is) r o n k x z = are-reset is r.1 o n k x z
  are-reset (assign a e ∷ is) r o n k x z = are-reset is r.1 o n k x z
  are-reset (store c a i e ∷ is) r o n k x z = are-reset is r.1 o.1 n k x z
  are-reset (clocked a c e ∷ is) r o n k x z = go (bytes_eq n a) refl (are-reset is r.1 o.1 n k (placed (s a) c.value x))
    where
      go : (b : Bool) → bytes_eq n a ≡ b → (placed (s a) c.value x (s n) ≡ 0 → acted m (reset_steps s is) (placed (s a) c.value x) (s n) ≡ reset_net is n)
          → acted m (reset_steps s is) (placed (s a) c.value x) (s n) ≡ (if bytes_eq n a then c.value else reset_net is n)
      go true same later =
          let one : n ≡ a = one-name n a same in
          rw same (never-reset is r.1 n k (ap (is_clocked is) one ∙ o.0) (placed (s a) c.value x) ∙ ap (λ w. placed (s a) c.value x (s w)) one ∙ placed-here (s a) c.value x)
      go false other later = rw other (later (placed-other (s a) c.value x (s n) (apart all s places a n (register-is-net all a r.0.0) k other) ∙ z))

-- what is at reset stands for it, with memories of 0
pub begun : (t : Name → ℕ) (l : Leaf) (js : List Join) (f : LeafFacts l) (s : Name → ℕ) → ArePlaces (leaf_lines l) s → (x : Part) → x.code ≡ code_of s (leaf_widths l) t l js → IsStart s l x.code x.kept
    → StandsIn t l js x (instance_reset (Some l) (λ a i. 0))
begun t l js f s places x code st = record {
  place = s;
  places = places;
  code = code;
  room = st.room;
  small = record {
    net = λ n. reset-small (leaf_widths l) (instance_reset (Some l) (λ a i. 0)) l.items n (f.moving.moves (instance_reset (Some l) (λ a i. 0)));
    word = λ n i. zero-small n (is_kind is_memory (leaf_lines l) n);
  };
  nets = λ n k d. ap (λ z. slice_index z (s n)) st.nets ∙ ap (λ g. g (s n)) (ran-acted (word_at x.kept.memories) (reset_steps s l.items) (replicate (length x.kept.nets) 0) within)
      ∙ are-reset all s places (word_at x.kept.memories) l.items f.ruled f.moving.once n k (slice_index (replicate (length x.kept.nets) 0)) (zeros-are (length x.kept.nets) (s n));
  rows = record {
    there = λ n k. (let what = kind-of is_memory all n k in let h = places.below n what.0 what.1 in let e : length x.kept.memories ≡ length all = ap length st.memories ∙ length-map all empty_memory in omega arith);
    long = λ n k. ap length (row n k) ∙ length-replicate (word_count (lookup all n)) 0;
    word = λ n i k h. ap (λ z. slice_index z i) (row n k) ∙ zeros-are (word_count (lookup all n)) i ∙ sym (nothing (is_kind is_memory all n));
  };
}
  where
    all : List Line
    all = leaf_lines l

    zero-small : (n : Name) (b : Bool) → (if b then 0 else 0) < 2 ^ (leaf_widths l).word n
    zero-small n true = pow_pos ((leaf_widths l).word n)
    zero-small n false = pow_pos ((leaf_widths l).word n)

    nothing : (b : Bool) → ◌≡◌ {A = ℕ} (if b then 0 else 0) 0
    nothing true = refl
    nothing false = refl

    within : AllByRecursion (λ (z : Step). z.to < length (replicate {A = ℕ} (length x.kept.nets) 0)) (reset_steps s l.items)
    within =
        let long : length (replicate {A = ℕ} (length x.kept.nets) 0) ≡ length x.kept.nets = length-replicate (length x.kept.nets) 0 in
        subst (λ k. AllByRecursion (λ (z : Step). z.to < k) (reset_steps s l.items)) (sym long) st.resets

    row : (n : Name) → is_kind is_memory all n ≡ true → slice_index_or x.kept.memories (s n) [] ≡ replicate (word_count (lookup all n)) 0
    row n k =
        let what = kind-of is_memory all n k in
        let at = places.line n what.0 what.1 in
        ap (λ ms. slice_index_or ms (s n) []) st.memories ∙ at-map empty_memory all (s n) at.0 [] at.1
        ∙ ap (λ j. replicate j 0) (memory-words at.0 what.0 at.2 what.2 ∙ sym (ap word_count what.1))
