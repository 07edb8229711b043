-- One edge keeps a channel's list: what leaves by the switch, and what comes by a link or from the attachment.
use Rattle.std.proofs.Common.{◌≡◌, ℕ, zero, suc, ◌+◌, ◌-◌, ◌*◌, ◌/◌, ◌%◌, ◌<◌, ◌≤◌, ◌^◌, Bool, true, false, List, [], ◌∷◌, ◌++◌, length, drop, Option, refl, sym, ◌∙◌, ap, arith, subst, ◌==◌, ◌&&◌, ℤ}
use Rattle.std.specs.Prelude.{Some, None, map, if◌then◌else◌, bit_and, option_to_list}
use Rattle.std.proofs.Math.Nat.{mod-eq_of_lt, mul-add-mod_self_right, zero-div}
use Rattle.std.proofs.lemmas.Nat.{pow-add, mul-le, div-mul-add, field_of}
use Rattle.std.specs.Int.Bits.{and_zero_r}
use Rattle.vl_tree.specs.Values.{Name, Expr}
use Rattle.vl_model.specs.Meaning.{Widths, Values, value_of, one_if}
use Rattle.gen_buffer.specs.Fifo.{FifoNames, IsList, next_list, popped}
use Rattle.gen_buffer.proofs.Queue.{fifo-kept}
use Rattle.noc_model.specs.declared.Flit.{Flit}
use Rattle.noc_model.specs.declared.LinkFlit.{LinkFlit}
use Rattle.noc_model.specs.Plan.{Plan}
use Rattle.noc_model.specs.Tile.{Tile, TileIn}
use Rattle.noc_model.specs.Step.{leaves, comes_in, flit_on, front, tile_step, one_if as number_of, entry, word_in}
use Rattle.noc_model.proofs.Switch.{leaves-front}
use Rattle.gen_kit.specs.Groups.{GroupKeeps}
use Rattle.leaf_tie.specs.Buffers.{BufferSize, buffer_group, BufferTie, is_filled, BufferIn, arrival_push, Arrives}

pub length-map : (code : Flit → ℕ) (q : List Flit) → length (map code q) ≡ length q
length-map code [] = refl
length-map code (f ∷ fs) = ap suc (length-map code fs)

map-append : (code : Flit → ℕ) (q r : List Flit) → map code (q ++ r) ≡ map code q ++ map code r
map-append code [] r = refl
map-append code (f ∷ fs) r = ap (λ xs. code f ∷ xs) (map-append code fs r)

append-none : (xs : List ℕ) → xs ++ [] ≡ xs
append-none [] = refl
append-none (x ∷ xs) = ap (λ ys. x ∷ ys) (append-none xs)

-- at most one flit comes
data Comes (q : List Flit) : Type 0 where
  nothing : q ≡ [] → Comes q
  one : (f : Flit) → q ≡ f ∷ [] → Comes q

option-comes : (o : Option Flit) (b : Bool) → Comes (if b then option_to_list o else [])
option-comes o false = nothing refl
option-comes None true = nothing refl
option-comes (Some f) true = one f refl

flit-comes : (x : Option LinkFlit) (c : ℕ) → Comes (flit_on x c)
flit-comes None c = nothing refl
flit-comes (Some x) c = go (x.channel == c)
  where
    go : (b : Bool) → Comes (if b then x.flit ∷ [] else [])
    go true = one x.flit refl
    go false = nothing refl

comes : (p : Plan) (d : ℕ) (s : Tile) (i : TileIn) (port c : ℕ) → Comes (comes_in p d s i port c)
comes p d s i zero c = option-comes (entry p d s.packet (word_in p s i)) (s.current == c)
comes p d s i (suc port) c = flit-comes (i.arrives (suc port)) c

dropped-pop : (code : Flit → ℕ) (b : Bool) (q : List Flit) → map code (drop (number_of b) q) ≡ popped b (map code q)
dropped-pop code false q = refl
dropped-pop code true [] = refl
dropped-pop code true (f ∷ fs) = refl

some-front : (q : List Flit) (f : Flit) → front q ≡ Some f → 0 < length q
some-front [] f e = absurd (cc e)
some-front (g ∷ q) f e = omega arith

next-queue : (p : Plan) (d n : ℕ) (t : ℤ) (s : Tile) (i : TileIn) (port c : ℕ) → (tile_step p d n t s i).queue port c ≡ drop (number_of (leaves p d n t s i port c)) (s.queue port c) ++ comes_in p d s i port c
unfolding tile_step
next-queue p d n t s i port c = refl

pub buffer-kept : (p : Plan) (d n port c : ℕ) (code : Flit → ℕ) (b : FifoNames) (z : BufferSize) (push pop : Expr) → p.buffer ≤ 2 ^ (z.bh + 1) → p.buffer < 2 ^ (z.lh + 1)
    → GroupKeeps (buffer_group b z push pop) (λ w v u. (t : ℤ) (s : Tile) (i : TileIn) → BufferIn p d n port c code b v t s i
    → BufferTie code b z v (s.queue port c) → BufferTie code b z u ((tile_step p d n t s i).queue port c))
buffer-kept p d n port c code b z push pop deep long w v u h k e t s i from tie =
    subst (IsList b z.bh u) (same (comes p d s i port c))
    (fifo-kept b z.bh z.lh z.wh p.buffer deep long w v u h.heads.1.1 k.heads.1.1 e.heads.1.1 (is_filled (comes_in p d s i port c)) (leaves p d n t s i port c) (map code (s.queue port c))
    from.push from.pop (rw length-map from.short) (λ yes. rw length-map (from.room yes), λ yes. (let found = leaves-front p d n t s i port c yes in rw length-map (some-front (s.queue port c) found.0 found.1))) tie)
  where
    same : Comes (comes_in p d s i port c) → next_list (is_filled (comes_in p d s i port c)) (leaves p d n t s i port c) (v.net b.word) (map code (s.queue port c)) ≡ map code ((tile_step p d n t s i).queue port c)
    same (nothing none) =
        rw (next-queue p d n t s i port c, none, map-append code (drop (number_of (leaves p d n t s i port c)) (s.queue port c)) [], dropped-pop code (leaves p d n t s i port c) (s.queue port c))
        (sym (append-none (popped (leaves p d n t s i port c) (map code (s.queue port c)))))
    same (one f is) =
        rw (from.word f is, next-queue p d n t s i port c, is, map-append code (drop (number_of (leaves p d n t s i port c)) (s.queue port c)) (f ∷ []), dropped-pop code (leaves p d n t s i port c) (s.queue port c)) refl

-- ---- what comes by a link

pub bit-and : (a b : Bool) → bit_and (one_if a) (one_if b) ≡ one_if (a && b)
bit-and true true = refl
bit-and true false = refl
bit-and false true = refl
bit-and false false = refl

record Marked (fb cb ch f : ℕ) : Type 0 where
  bit : (2 ^ (cb + fb) + (ch * 2 ^ fb + f)) / 2 ^ (cb + fb) % 2 ≡ 1
  channel : (2 ^ (cb + fb) + (ch * 2 ^ fb + f)) / 2 ^ fb % 2 ^ cb ≡ ch

-- the marking bit and the channel of a word
mark : (fb cb ch f : ℕ) → ch < 2 ^ cb → f < 2 ^ fb → Marked fb cb ch f
mark fb cb ch f hc hf = record {
  bit = ap (λ z. z / 2 ^ (cb + fb) % 2) one ∙ ap (λ z. z % 2) (div-mul-add 1 (2 ^ (cb + fb)) (ch * 2 ^ fb + f) small);
  channel = sym (field_of (2 ^ (cb + fb) + (ch * 2 ^ fb + f)) cb fb) ∙ ap (λ z. z / 2 ^ fb) (ap (λ z. z % 2 ^ (cb + fb)) one ∙ mul-add-mod_self_right 1 (2 ^ (cb + fb)) (ch * 2 ^ fb + f) ∙ mod-eq_of_lt small)
      ∙ div-mul-add ch (2 ^ fb) f hf;
}
  where
    small : ch * 2 ^ fb + f < 2 ^ (cb + fb)
    small =
        let next : (ch + 1) * 2 ^ fb ≤ 2 ^ cb * 2 ^ fb = mul-le (ch + 1) (2 ^ fb) (2 ^ cb) (2 ^ fb) (omega arith) (omega arith) in
        let parts : (ch + 1) * 2 ^ fb ≡ ch * 2 ^ fb + 2 ^ fb = grind arith in
        let whole : 2 ^ (cb + fb) ≡ 2 ^ cb * 2 ^ fb = pow-add 2 cb fb in
        omega arith

    one : 2 ^ (cb + fb) + (ch * 2 ^ fb + f) ≡ 1 * 2 ^ (cb + fb) + (ch * 2 ^ fb + f)
    one = omega arith

nothing-there : (k : ℕ) → 0 / k % 2 ≡ 0
nothing-there k = rw (zero-div k) refl

no-arrival : (mine : Bool) (c : ℕ) → flit_on (if mine then None else None) c ≡ []
no-arrival true c = refl
no-arrival false c = refl

filled-where : (mine : Bool) (x : LinkFlit) (c : ℕ) → is_filled (flit_on (if mine then Some x else None) c) ≡ (mine && (true && (x.channel == c)))
filled-where false x c = refl
filled-where true x c = go (x.channel == c)
  where
    go : (b : Bool) → is_filled (if b then x.flit ∷ [] else []) ≡ b
    go true = refl
    go false = refl

pub arrival-pushes : (code : Flit → ℕ) (fb cb : ℕ) (own link : Name) (w : Widths) (v : Values) (mine : Bool) (word its : Option LinkFlit) (c : ℕ) → 1 ≤ cb
    → Arrives code fb cb own link v mine word its → value_of w v (arrival_push own link fb cb c) ≡ one_if (is_filled (flit_on its c))
arrival-pushes code fb cb own link w v mine None its c some a =
    let blank : v.net link ≡ 0 = a.shown in
    rw (blank, a.its_own, no-arrival mine c, nothing-there (2 ^ (cb + fb))) (and_zero_r (v.net own))
arrival-pushes code fb cb own link w v mine (Some x) its c some a =
    let fits = a.fits x refl in
    let m = mark fb cb x.channel (code x.flit) fits.0 fits.1 in
    let width : cb + fb - 1 - fb + 1 ≡ cb = omega arith in
    rw (a.shown, a.owned, a.its_own, width, m.bit, m.channel, bit-and true (x.channel == c), bit-and mine (true && (x.channel == c)), filled-where mine x c) refl
