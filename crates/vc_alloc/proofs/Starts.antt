-- The allocator at the start.
use Rattle.std.proofs.Common.{◌≡◌, ℕ, ◌+◌, ◌*◌, ◌<◌, ◌≤◌, List, [], ◌∷◌, ◌++◌, length, map, replicate, get_or, refl, sym, ap, ◌∙◌, arith, Bool, true, false, Option, None}
use Rattle.std.specs.List.{range_with_len}
use Rattle.std.specs.Prelude.{if◌then◌else◌}
use Rattle.std.proofs.lemmas.Option.{slice_get-get_or}
use Rattle.noc_model.specs.declared.plan.DomainPart.{DomainPart}
use Rattle.std.proofs.lemmas.List.{length-replicate}
use Rattle.std.proofs.lemmas.List.FromFn.{map-range_with_len_more, get_or-map-range_with_len, length-map-range_with_len}
use Rattle.noc_model.specs.Plan.{Plan, ports, channels, channels_in, link_channels}
use Rattle.noc_model.specs.Sound.{IsSound}
use Rattle.noc_model.specs.Inputs.{input_count}
use Rattle.vc_partition.specs.Lanes.{lane}
use Rattle.vc_alloc.specs.declared.Winner.{Winner}
use Rattle.vc_alloc.specs.Allocator.{Allocator, IsAllocator, start_of}
use Rattle.vc_alloc.specs.Shown.{IsFor}

-- a list by number that is made one after the other
pub one-more : (f : ℕ → ℕ) (xs ys : List ℕ) (d k : ℕ) → ys ≡ xs ++ k ∷ [] → xs ≡ map f (range_with_len 0 d) → k ≡ f d
    → ys ≡ map f (range_with_len 0 (d + 1))
one-more f xs ys d k pushed before is =
    pushed ∙ ap (λ l. l ++ k ∷ []) before ∙ ap (λ o. map f (range_with_len 0 d) ++ o ∷ []) is
    ∙ sym (map-range_with_len_more f 0 d d (omega arith))

-- lanes by number
pub map-lanes : {T : Type 0} (f : ℕ → ℕ) (x : T) (xs : List ℕ)
    → map (λ c. replicate c x) (map f xs) ≡ map (λ d. replicate (f d) x) xs
map-lanes f x [] = refl
map-lanes f x (y ∷ ys) = ap (λ zs. replicate (f y) x ∷ zs) (map-lanes f x ys)

lane-length : {T : Type 0} (f : ℕ → ℕ) (x : T) (n d : ℕ) → d < n
    → length (lane (map (λ d. replicate (f d) x) (range_with_len 0 n)) d) ≡ f d
lane-length f x n d there =
    ap length (get_or-map-range_with_len (λ d. replicate (f d) x) 0 n d d [] there (omega arith))
    ∙ length-replicate (f d) x

within : (t : Bool) (c : ℕ) → c ≤ (if t then 2 else 1) * c
within true c = omega arith
within false c = omega arith

few : (t : Bool) (c : ℕ) → c ≤ 4 → (if t then 2 else 1) * c ≤ 8
few true c less = omega (arith, less)
few false c less = omega (arith, less)

module _ (p : Plan) (sound : IsSound p) (n : ℕ) where
  abbrev count : ℕ
  count = length p.domains

  at : (f : ℕ → ℕ) (d : ℕ) → d < count → get_or (map f (range_with_len 0 count)) d 0 ≡ f d
  at f d there = get_or-map-range_with_len f 0 count d d 0 there (omega arith)

  length-of : {T : Type 0} (f : ℕ → T) → length (map f (range_with_len 0 count)) ≡ count
  length-of f = length-map-range_with_len f 0 count

  has-channels : (d : ℕ) → d < count → (1 ≤ channels p d) × (channels p d ≤ 4)
  has-channels d there =
      let none : DomainPart = record { name = []; channels = 0 } in
      let is : channels p d ≡ (get_or p.domains d none).channels =
      ap channels_in (slice_get-get_or p.domains d none there) in
      let have = sound.channels d none there in
      (omega (arith, is, have), omega (arith, is, have))

  best : length (start_of p n).best ≡ ports p
  best = length-replicate (ports p) None

  below : (d : ℕ) → d < length (start_of p n).channels → d < count
  below d there = let a = length-of (channels p) in omega (arith, a, there)

  pub is-start : IsAllocator (start_of p n)
  is-start = record {
    few_ports = let a = sound.dims in let b = best in omega (arith, a, b);
    link_channels = length-of (link_channels p) ∙ sym (length-of (channels p));
    holders = length-of (λ d. let ks : List (Option ℕ) = replicate (input_count p d) None in ks) ∙ sym (length-of (channels p));
    pointers = length-of (λ d. replicate (ports p) 0) ∙ sym (length-of (channels p));
    some = λ d there. let a = at (channels p) d (below d there) in let h = has-channels d (below d there) in omega (arith, a, h);
    within = λ d there. let a = at (channels p) d (below d there) in let b = at (link_channels p) d (below d there) in let w = within p.torus (channels p d) in omega (arith, a, b, w);
    few = λ d there. let b = at (link_channels p) d (below d there) in let h = has-channels d (below d there) in let w = few p.torus (channels p d) h.1 in omega (arith, b, w);
    spots = λ d there. lane-length (input_count p) None count d (below d there) ∙ ap (λ k. k * link_channels p d) (sym best) ∙ ap (λ k. length (start_of p n).best * k) (sym (at (link_channels p) d (below d there)));
    outputs = λ d there. lane-length (λ d. ports p) 0 count d (below d there) ∙ sym best;
  }

  pub start-for : (d : ℕ) → d < count → IsFor (start_of p n) p d
  start-for d there = record {
    domain = let a = length-of (channels p) in omega (arith, a, there);
    port_count = best;
    class = at (channels p) d there;
    link = at (link_channels p) d there;
  }

  -- an allocator that is made of the lists of a plan is the one at the start
  pub start-is : (cs ls : List ℕ) (hs : List (List (Option ℕ))) (ps : List (List ℕ)) (bs : List (Option Winner))
      (ins outs : List ℕ)
      → cs ≡ map (channels p) (range_with_len 0 count) → ls ≡ map (link_channels p) (range_with_len 0 count)
      → ins ≡ map (input_count p) (range_with_len 0 count) → hs ≡ map (λ c. replicate c None) ins
      → outs ≡ map (λ d. ports p) (range_with_len 0 count) → ps ≡ map (λ c. replicate c 0) outs
      → bs ≡ replicate (ports p) None
      → (let x : Allocator = record { tile = n; channels = cs; link_channels = ls; holders = hs; pointers = ps; best = bs } in x) ≡ start_of p n
  start-is cs ls hs ps bs ins outs ec el ei eh eo ep eb =
      let h = eh ∙ ap (map (λ c. replicate c None)) ei ∙ map-lanes (input_count p) None (range_with_len 0 count) in
      let q = ep ∙ ap (map (λ c. replicate c 0)) eo ∙ map-lanes (λ d. ports p) 0 (range_with_len 0 count) in
      rw (ec, el, h, q, eb) refl
