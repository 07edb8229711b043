-- A vector that is cut into lanes, and one place that is written.
use Rattle.std.proofs.Common.{◌≡◌, ◌≢◌, ℕ, zero, suc, ◌+◌, ◌-◌, ◌<◌, ◌≤◌, List, [], ◌∷◌, ◌++◌, length, map, take, drop, replicate, append_assoc, get_or, set, get_or-set_same, get_or-set_other, ◌^◌, refl, sym, ap, ◌∙◌, arith}
use Rattle.std.specs.Prelude.{Some, slice_get}
use Rattle.std.proofs.lemmas.List.{take-set-le, drop-set-lt, drop-set-add, take-replicate, drop-replicate, get_or-take, get_or-drop, get_or_default, length-append, length-take, length-take-le, length-drop, take-take, drop-drop, drop-take, take-append-le, drop-append-le}
use Rattle.std.proofs.lemmas.Option.{slice_get-get_or}
use Rattle.std.proofs.Math.Seq.{take-set-lt, take-append_seam, drop-append_seam}
use Rattle.std.proofs.lemmas.List.FromFn.{get_or-map-range_with_len, length-map-range_with_len}
use Rattle.std.proofs.lemmas.List.{length-replicate}
use Rattle.std.proofs.Math.ListN.{length-set}
use Rattle.std.specs.List.{range_with_len}
use Rattle.vc_partition.specs.Lanes.{total, start_of, cut, lane, IsCut}

pub length-cut : {T : Type 0} (xs : List T) (cs : List ℕ) → length (cut xs cs) ≡ length cs
length-cut xs [] = refl
length-cut xs (c ∷ cs) = let e = length-cut (drop c xs) cs in omega (arith, e)

-- where place i of lane d stands is within the vector
pub place-within : {T : Type 0} (xs : List T) (cs : List ℕ) (d i : ℕ) → total cs ≡ length xs → d < length cs
    → i < length (lane (cut xs cs) d) → start_of cs d + i < length xs
place-within xs [] d i whole there inside = absurd (omega (arith, there))
place-within xs (c ∷ cs) zero i whole there inside = omega (arith, inside, length-take c xs)
place-within xs (c ∷ cs) (suc d) i whole there inside =
    let long = length-drop c xs in
    let rest = place-within (drop c xs) cs d i (omega (arith, whole, long)) (omega (arith, there)) inside in
    omega (arith, rest, long, whole)

-- a write to place i of lane d changes that lane at that place alone
pub cut-set : {T : Type 0} (xs : List T) (cs : List ℕ) (d i : ℕ) (v : T) → total cs ≡ length xs → d < length cs
    → i < length (lane (cut xs cs) d)
    → cut (set xs (start_of cs d + i) v) cs ≡ set (cut xs cs) d (set (lane (cut xs cs) d) i v)
cut-set xs [] d i v whole there inside = absurd (omega (arith, there))
cut-set xs (c ∷ cs) zero i v whole there inside =
    let less : i < c = omega (arith, inside, length-take c xs) in
    let at : 0 + i ≡ i = omega arith in
    ap (λ k. take c (set xs k v) ∷ cut (drop c (set xs k v)) cs) at
    ∙ ap (λ ys. ys ∷ cut (drop c (set xs i v)) cs) (take-set-lt c xs i v less)
    ∙ ap (λ ys. set (take c xs) i v ∷ cut ys cs) (drop-set-lt c xs i v less)
cut-set xs (c ∷ cs) (suc d) i v whole there inside =
    let s : ℕ = start_of cs d in
    let long = length-drop c xs in
    let at : c + s + i ≡ c + (s + i) = omega arith in
    let rest = cut-set (drop c xs) cs d i v (omega (arith, whole, long)) (omega (arith, there)) inside in
    ap (λ k. take c (set xs k v) ∷ cut (drop c (set xs k v)) cs) at
    ∙ ap (λ ys. ys ∷ cut (drop c (set xs (c + (s + i)) v)) cs) (take-set-le c xs (c + (s + i)) v (omega arith))
    ∙ ap (λ ys. take c xs ∷ cut ys cs) (drop-set-add c xs (s + i) v)
    ∙ ap (λ ys. take c xs ∷ ys) rest

-- place i of lane d
pub cut-get : {T : Type 0} (xs : List T) (cs : List ℕ) (d i : ℕ) (x : T) → total cs ≡ length xs → d < length cs
    → i < length (lane (cut xs cs) d)
    → slice_get (lane (cut xs cs) d) i ≡ Some (get_or xs (start_of cs d + i) x)
cut-get xs [] d i x whole there inside = absurd (omega (arith, there))
cut-get xs (c ∷ cs) zero i x whole there inside =
    let less : i < c = omega (arith, inside, length-take c xs) in
    let at : 0 + i ≡ i = omega arith in
    slice_get-get_or (take c xs) i x inside ∙ ap Some (get_or-take c xs i x less ∙ ap (λ k. get_or xs k x) (sym at))
cut-get xs (c ∷ cs) (suc d) i x whole there inside =
    let s : ℕ = start_of cs d in
    let long = length-drop c xs in
    let at : c + (s + i) ≡ c + s + i = omega arith in
    let rest = cut-get (drop c xs) cs d i x (omega (arith, whole, long)) (omega (arith, there)) inside in
    rest ∙ ap Some (get_or-drop c xs (s + i) x ∙ ap (λ k. get_or xs k x) at)

pub cut-replicate : {T : Type 0} (x : T) (cs : List ℕ) → cut (replicate (total cs) x) cs ≡ map (λ c. replicate c x) cs
cut-replicate x [] = refl
cut-replicate x (c ∷ cs) =
    let t : ℕ = total cs in
    let less : c ≤ c + t = omega arith in
    let left : c + t - c ≡ t = omega arith in
    ap (λ ys. ys ∷ cut (drop c (replicate (c + t) x)) cs) (take-replicate c (c + t) x less)
    ∙ ap (λ ys. replicate c x ∷ cut ys cs) (drop-replicate c (c + t) x ∙ ap (λ k. replicate k x) left)
    ∙ ap (λ ys. replicate c x ∷ ys) (cut-replicate x cs)

-- a lane begins where the one before it ends
pub start-next : (cs : List ℕ) (d : ℕ) → d < length cs → start_of cs (suc d) ≡ start_of cs d + get_or cs d 0
start-next [] d there = absurd (omega (arith, there))
start-next (c ∷ []) zero there = omega arith
start-next (c ∷ b ∷ cs) zero there = omega arith
start-next (c ∷ cs) (suc d) there = let e = start-next cs d (omega (arith, there)) in omega (arith, e)

pub start-le : (cs : List ℕ) (d : ℕ) → d < length cs → start_of cs d + get_or cs d 0 ≤ total cs
start-le [] d there = absurd (omega (arith, there))
start-le (c ∷ cs) zero there = omega arith
start-le (c ∷ cs) (suc d) there = let e = start-le cs d (omega (arith, there)) in omega (arith, e)

pub start-all : (cs : List ℕ) → start_of cs (length cs) ≡ total cs
start-all [] = refl
start-all (c ∷ cs) = let e = start-all cs in omega (arith, e)

pub start-is : {T : Type 0} (xs : List T) (cs ss : List ℕ) (d k : ℕ) → IsCut xs cs ss → d < length cs
    → k ≡ get_or ss d k → k ≡ start_of cs d
start-is xs cs ss d k is there at =
    at ∙ ap (λ ys. get_or ys d k) is.begin
    ∙ get_or-map-range_with_len (start_of cs) 0 (length cs) d d k there (omega arith)

-- a call at place i of lane d, which begins at k
pub record IsAt {T : Type 0} (xs : List T) (cs ss : List ℕ) (d i k : ℕ) (v : List (List T)) : Type 0 where
  pub whole : IsCut xs cs ss
  pub is : cut xs cs ≡ v
  pub there : d < length cs
  pub inside : i < length (lane (cut xs cs) d)
  pub start : k ≡ start_of cs d

pub lane-there : {T : Type 0} (xs : List T) (cs : List ℕ) (d : ℕ) (v : List (List T)) → cut xs cs ≡ v → d < length v
    → d < length cs
lane-there xs cs d v view there = let a = ap length view in let b = length-cut xs cs in omega (arith, a, b, there)

pub starts-there : {T : Type 0} (xs : List T) (cs ss : List ℕ) (d : ℕ) (v : List (List T)) → IsCut xs cs ss
    → cut xs cs ≡ v → d < length v → d < length ss
starts-there xs cs ss d v is view there =
    let a = lane-there xs cs d v view there in
    let b = ap length is.begin in
    let c = length-map-range_with_len (start_of cs) 0 (length cs) in
    omega (arith, a, b, c)

pub is-at : {T : Type 0} (xs : List T) (cs ss : List ℕ) (d i k : ℕ) (v : List (List T)) → IsCut xs cs ss → cut xs cs ≡ v
    → d < length v → i < length (lane v d) → k ≡ get_or ss d k
    → IsAt xs cs ss d i k v
is-at xs cs ss d i k v is view there inside at =
    let within = lane-there xs cs d v view there in
    record {
      whole = is;
      is = view;
      there = within;
      inside = let a = ap (λ w. length (lane w d)) view in omega (arith, a, inside);
      start = start-is xs cs ss d k is within at;
    }

pub at-within : {T : Type 0} {xs : List T} {cs ss : List ℕ} {d i k : ℕ} {v : List (List T)} → IsAt xs cs ss d i k v
    → k + i < length xs
at-within {xs} {cs} {ss} {d} {i} {k} {v} a =
    let b = place-within xs cs d i a.whole.whole a.there a.inside in
    let c = a.start in
    omega (arith, b, c)

pub at-fits : {T : Type 0} {xs : List T} {cs ss : List ℕ} {d i k : ℕ} {v : List (List T)} → IsAt xs cs ss d i k v
    → k + i < 2 ^ 32
at-fits a = let b = at-within a in let c = a.whole.few in omega (arith, b, c)

pub at-value : {T : Type 0} {xs : List T} {cs ss : List ℕ} {d i k : ℕ} {v : List (List T)} (x : T)
    → IsAt xs cs ss d i k v → x ≡ get_or xs (k + i) x → slice_get (lane v d) i ≡ Some x
at-value {xs} {cs} {ss} {d} {i} {k} {v} x a value =
    ap (λ w. slice_get (lane w d) i) (sym a.is) ∙ cut-get xs cs d i x a.whole.whole a.there a.inside
    ∙ ap (λ s. Some (get_or xs (s + i) x)) (sym a.start) ∙ ap Some (sym value)

pub at-set : {T : Type 0} {xs : List T} {cs ss : List ℕ} {d i k : ℕ} {v : List (List T)} (x : T) → IsAt xs cs ss d i k v
    → cut (set xs (k + i) x) cs ≡ set v d (set (lane v d) i x)
at-set {xs} {cs} {ss} {d} {i} {k} {v} x a =
    ap (λ s. cut (set xs (s + i) x) cs) a.start ∙ cut-set xs cs d i x a.whole.whole a.there a.inside
    ∙ ap (λ w. set w d (set (lane w d) i x)) a.is

pub set-cut : {T : Type 0} {xs : List T} {cs ss : List ℕ} (j : ℕ) (x : T) → IsCut xs cs ss → IsCut (set xs j x) cs ss
set-cut {xs} j x is =
    let a = length-set xs j x in
    record { whole = is.whole ∙ sym a; few = omega (arith, a, is.few); begin = is.begin }

pub new-cut : {T : Type 0} (x : T) (cs : List ℕ) → total cs < 2 ^ 32
    → IsCut (replicate (total cs) x) cs (map (start_of cs) (range_with_len 0 (length cs)))
new-cut x cs few =
    let a = length-replicate (total cs) x in
    record { whole = sym a; few = omega (arith, a, few); begin = refl }

-- ---- a whole lane

pub cut-lane : {T : Type 0} (xs : List T) (cs : List ℕ) (d : ℕ) → d < length cs
    → take (get_or cs d 0) (drop (start_of cs d) xs) ≡ lane (cut xs cs) d
cut-lane xs [] d there = absurd (omega (arith, there))
cut-lane xs (c ∷ cs) zero there = refl
cut-lane xs (c ∷ cs) (suc d) there =
    ap (λ ys. take (get_or cs d 0) ys) (sym (drop-drop (start_of cs d) c xs))
    ∙ cut-lane (drop c xs) cs d (omega (arith, there))

-- other items in place of lane d change that lane alone
pub cut-fill : {T : Type 0} (xs ys : List T) (cs : List ℕ) (d : ℕ) → total cs ≡ length xs → d < length cs
    → length ys ≡ get_or cs d 0
    → cut (take (start_of cs d) xs ++ (ys ++ drop (start_of cs d + get_or cs d 0) xs)) cs ≡ set (cut xs cs) d ys
cut-fill xs ys [] d whole there long = absurd (omega (arith, there))
cut-fill xs ys (c ∷ cs) zero whole there long =
    let front : take c (ys ++ drop c xs) ≡ ys =
    ap (λ k. take k (ys ++ drop c xs)) (sym long) ∙ take-append_seam ys (drop c xs) in
    let back : drop c (ys ++ drop c xs) ≡ drop c xs =
    ap (λ k. drop k (ys ++ drop c xs)) (sym long) ∙ drop-append_seam ys (drop c xs) in
    let end : 0 + c ≡ c = omega arith in
    ap (λ k. cut (ys ++ drop k xs) (c ∷ cs)) end ∙ ap (λ zs. zs ∷ cut (drop c (ys ++ drop c xs)) cs) front
    ∙ ap (λ zs. ys ∷ cut zs cs) back
cut-fill xs ys (c ∷ cs) (suc d) whole there long =
    let s : ℕ = start_of cs d in
    let n : ℕ = get_or cs d 0 in
    let rest : List _ = ys ++ drop (c + s + n) xs in
    let within = start-le cs d (omega (arith, there)) in
    let count = length-take-le (c + s) xs (omega (arith, within, whole)) in
    let front : take c (take (c + s) xs ++ rest) ≡ take c xs =
    take-append-le c (take (c + s) xs) rest (omega (arith, count)) ∙ take-take c (c + s) xs (omega arith) in
    let sum : c + (s + n) ≡ c + s + n = omega arith in
    let far : drop (c + s + n) xs ≡ drop (s + n) (drop c xs) =
    ap (λ k. drop k xs) (sym sum) ∙ sym (drop-drop (s + n) c xs) in
    let back : drop c (take (c + s) xs ++ rest) ≡ take s (drop c xs) ++ (ys ++ drop (s + n) (drop c xs)) =
    drop-append-le c (take (c + s) xs) rest (omega (arith, count)) ∙ ap (λ zs. zs ++ rest) (drop-take c s xs)
    ∙ ap (λ zs. take s (drop c xs) ++ (ys ++ zs)) far in
    let left = length-drop c xs in
    let same = cut-fill (drop c xs) ys cs d (omega (arith, whole, left)) (omega (arith, there)) long in
    ap (λ zs. zs ∷ cut (drop c (take (c + s) xs ++ rest)) cs) front
    ∙ ap (λ zs. take c xs ∷ cut zs cs) back ∙ ap (λ zs. take c xs ∷ zs) same

pub lengths-cut : {T : Type 0} (xs : List T) (cs : List ℕ) → total cs ≡ length xs → map length (cut xs cs) ≡ cs
lengths-cut xs [] whole = refl
lengths-cut xs (c ∷ cs) whole =
    let left = length-drop c xs in
    ap (λ k. k ∷ map length (cut (drop c xs) cs)) (length-take-le c xs (omega (arith, whole)))
    ∙ ap (λ ks. c ∷ ks) (lengths-cut (drop c xs) cs (omega (arith, whole, left)))

-- a call at lane d, which begins at k and has n places
pub record IsLane {T : Type 0} (xs : List T) (cs ss : List ℕ) (d k n : ℕ) (v : List (List T)) : Type 0 where
  pub whole : IsCut xs cs ss
  pub is : cut xs cs ≡ v
  pub there : d < length cs
  pub start : k ≡ start_of cs d
  pub count : n ≡ get_or cs d 0

pub is-lane : {T : Type 0} (xs : List T) (cs ss : List ℕ) (d k n : ℕ) (v : List (List T)) → IsCut xs cs ss
    → cut xs cs ≡ v → d < length v → k ≡ get_or ss d k → n ≡ get_or cs d n → IsLane xs cs ss d k n v
is-lane xs cs ss d k n v is view there at many =
    let within = lane-there xs cs d v view there in
    record {
      whole = is;
      is = view;
      there = within;
      start = start-is xs cs ss d k is within at;
      count = many ∙ get_or_default cs d n 0 within;
    }

pub lane-within : {T : Type 0} {xs : List T} {cs ss : List ℕ} {d k n : ℕ} {v : List (List T)}
    → IsLane xs cs ss d k n v → k + n ≤ length xs
lane-within {xs} {cs} {ss} {d} a =
    let b = start-le cs d a.there in
    omega (arith, b, a.start, a.count, a.whole.whole)

pub lane-value : {T : Type 0} {xs : List T} {cs ss : List ℕ} {d k n : ℕ} {v : List (List T)} → IsLane xs cs ss d k n v
    → take n (drop k xs) ≡ lane v d
lane-value {xs} {cs} {ss} {d} {k} {n} {v} a =
    ap (λ m. take m (drop k xs)) a.count ∙ ap (λ m. take (get_or cs d 0) (drop m xs)) a.start ∙ cut-lane xs cs d a.there
    ∙ ap (λ w. lane w d) a.is

lane-length : {T : Type 0} {xs : List T} {cs ss : List ℕ} {d k n : ℕ} {v : List (List T)} → IsLane xs cs ss d k n v
    → length (lane v d) ≡ n
lane-length {xs} {cs} {ss} {d} {k} {n} {v} a =
    let b = lane-within a in
    let c = length-drop k xs in
    ap length (sym (lane-value a)) ∙ length-take-le n (drop k xs) (omega (arith, b, c))

pub lane-fill : {T : Type 0} {xs : List T} {cs ss : List ℕ} {d k n : ℕ} {v : List (List T)} (x : T)
    → IsLane xs cs ss d k n v
    → cut (take k xs ++ (replicate n x ++ drop (k + n) xs)) cs ≡ set v d (replicate (length (lane v d)) x)
lane-fill {xs} {cs} {ss} {d} {k} {n} {v} x a =
    let ys : List _ = replicate n x in
    ap (λ m. cut (take m xs ++ (ys ++ drop (m + n) xs)) cs) a.start
    ∙ ap (λ m. cut (take (start_of cs d) xs ++ (ys ++ drop (start_of cs d + m) xs)) cs) a.count
    ∙ cut-fill xs ys cs d a.whole.whole a.there (length-replicate n x ∙ a.count) ∙ ap (λ w. set w d ys) a.is
    ∙ ap (λ m. set v d (replicate m x)) (sym (lane-length a))

pub filled-length : {T : Type 0} {xs : List T} {cs ss : List ℕ} {d k n : ℕ} {v : List (List T)} (x : T)
    → IsLane xs cs ss d k n v → length (take k xs ++ (replicate n x ++ drop (k + n) xs)) ≡ length xs
filled-length {xs} {k} {n} x a =
    let b = lane-within a in
    let front = length-take-le k xs (omega (arith, b)) in
    let back = length-drop (k + n) xs in
    let middle = length-replicate n x in
    let inner = length-append (replicate n x) (drop (k + n) xs) in
    let outer = length-append (take k xs) (replicate n x ++ drop (k + n) xs) in
    omega (arith, b, front, back, middle, inner, outer)

-- the items after a call at lane d that writes x everywhere there
pub filled-items : {T : Type 0} {xs ps : List T} {cs ss : List ℕ} {d k n : ℕ} {v : List (List T)} (x : T) (ws : List T)
    → IsLane xs cs ss d k n v → ps ≡ xs → ws ≡ take k ps ++ replicate n x ++ drop (k + n) ps
    → ws ≡ take k xs ++ (replicate n x ++ drop (k + n) xs)
filled-items {ps} {k} {n} x ws a same is =
    is ∙ append_assoc (take k ps) (replicate n x) (drop (k + n) ps)
    ∙ ap (λ qs. take k qs ++ (replicate n x ++ drop (k + n) qs)) same

-- lanes of the same lengths have as many places, and are cut alike
pub same-counts : {T : Type 0} {xs ys : List T} {cs es ss ts : List ℕ} {v w : List (List T)} → IsCut xs cs ss
    → IsCut ys es ts → cut xs cs ≡ v → cut ys es ≡ w → map length v ≡ map length w → cs ≡ es
same-counts {xs} {ys} {cs} {es} is other left right same =
    sym (lengths-cut xs cs is.whole) ∙ ap (map length) left ∙ same ∙ ap (map length) (sym right)
    ∙ lengths-cut ys es other.whole

pub same-room : {T : Type 0} {xs ys : List T} {cs es ss ts : List ℕ} {v w : List (List T)} → IsCut xs cs ss
    → IsCut ys es ts → cut xs cs ≡ v → cut ys es ≡ w → map length v ≡ map length w → length xs ≡ length ys
same-room is other left right same =
    sym is.whole ∙ ap total (same-counts is other left right same) ∙ other.whole

pub copy-cut : {T : Type 0} {xs ys : List T} {cs es ss ts : List ℕ} {v w : List (List T)} → IsCut xs cs ss
    → IsCut ys es ts → cut xs cs ≡ v → cut ys es ≡ w → map length v ≡ map length w → IsCut ys cs ss
copy-cut is other left right same =
    let e = same-room is other left right same in
    record { whole = is.whole ∙ e; few = other.few; begin = is.begin }

pub copy-value : {T : Type 0} {xs ys : List T} {cs es ss ts : List ℕ} {v w : List (List T)} → IsCut xs cs ss
    → IsCut ys es ts → cut xs cs ≡ v → cut ys es ≡ w → map length v ≡ map length w → cut ys cs ≡ w
copy-value {xs} {ys} is other left right same =
    ap (λ ks. cut ys ks) (same-counts is other left right same) ∙ right

-- ---- the frame rule, in terms of places

-- the place that was written has the value
pub lane-written : {T : Type 0} (v : List (List T)) (d i : ℕ) (x y : T) → d < length v → i < length (lane v d)
    → get_or (lane (set v d (set (lane v d) i x)) d) i y ≡ x
lane-written v d i x y there inside =
    ap (λ l. get_or l i y) (get_or-set_same v d (set (lane v d) i x) [] there) ∙ get_or-set_same (lane v d) i x y inside

-- another place of the same lane stays
pub lane-other : {T : Type 0} (v : List (List T)) (d i j : ℕ) (x y : T) → d < length v → j ≢ i
    → get_or (lane (set v d (set (lane v d) i x)) d) j y ≡ get_or (lane v d) j y
lane-other v d i j x y there apart =
    ap (λ l. get_or l j y) (get_or-set_same v d (set (lane v d) i x) [] there)
    ∙ get_or-set_other (lane v d) i j x y apart

-- another lane stays
pub lanes-other : {T : Type 0} (v : List (List T)) (d e i : ℕ) (x : T) → e ≢ d
    → lane (set v d (set (lane v d) i x)) e ≡ lane v e
lanes-other v d e i x apart = get_or-set_other v d e (set (lane v d) i x) [] apart

pub start-zero : (cs : List ℕ) → start_of cs 0 ≡ 0
start-zero [] = refl
start-zero (c ∷ cs) = refl

pub start-plus : (cs : List ℕ) (d : ℕ) → d < length cs → start_of cs (d + 1) ≡ start_of cs d + get_or cs d 0
start-plus cs d there = ap (start_of cs) (let e : d + 1 ≡ suc d = omega arith in e) ∙ start-next cs d there

pub replicate-more : {T : Type 0} (n : ℕ) (x : T) → replicate n x ++ x ∷ [] ≡ replicate (n + 1) x
replicate-more zero x = refl
replicate-more (suc n) x =
    let e : suc n + 1 ≡ suc (n + 1) = omega arith in
    ap (λ l. x ∷ l) (replicate-more n x) ∙ ap (λ k. replicate k x) (sym e)

pub total-push : (cs : List ℕ) (c : ℕ) → total (cs ++ c ∷ []) ≡ total cs + c
total-push [] c = omega arith
total-push (b ∷ cs) c = let e = total-push cs c in omega (arith, e)
