-- What is seen in a cycle are the cycle's events, of each domain.
use Rattle.std.proofs.Common.{◌≡◌, ℕ, suc, ◌+◌, Bool, true, false, eqb, List, [], ◌∷◌, ◌++◌, refl, sym, ap, ◌∙◌, arith, append_assoc, length, take, Option, Some, None}
use Rattle.std.specs.Prelude.{slice_get, ◌==◌, filter, flat_map}
use Rattle.std.proofs.Math.Seq.{take-suc}
use Rattle.std.proofs.lemmas.Option.{get_or_from_slice_get, slice_get_within}
use Rattle.std.proofs.lemmas.List.{append-nil, length-take-le}
use Rattle.std.proofs.lemmas.List.Elements.{filter-append}
use Rattle.std.proofs.lemmas.Bool.Decides.{nat_tests}
use Rattle.noc_model.specs.declared.Event.{Event}
use Rattle.noc_model.specs.declared.Host.{Host}
use Rattle.noc_model.specs.declared.Offer.{Offer}
use Rattle.noc_model.specs.declared.Ejected.{Ejected}
use Rattle.noc_model.specs.Events.{offer_events, drop_events, got_events}
use Rattle.noc_model.proofs.HostTiles.{host_tiles}
use Rattle.tile_drive.specs.declared.cycle_seen.SeenAt.{SeenAt}
use Rattle.tile_drive.specs.Seen.{seen_at}
use Rattle.tile_drive.specs.SeenEvents.{seen_events, events_seen}

-- all are events of the domain
abbrev AreOf : ℕ → List Event → Type 0
AreOf d [] = Unit {0}
AreOf d (e ∷ es) = (e.domain ≡ d) × AreOf d es

of-both : (d : ℕ) (xs ys : List Event) → AreOf d xs → AreOf d ys → AreOf d (xs ++ ys)
of-both d [] ys a b = b
of-both d (x ∷ xs) ys a b = (a.0, of-both d xs ys a.1 b)

of-offer : (t n d : ℕ) (ready : Bool) (o : Option Offer) → AreOf d (offer_events t n d ready o)
of-offer t n d ready None = tt
of-offer t n d true (Some x) = (refl, tt)
of-offer t n d false (Some x) = (refl, tt)

of-drop : (t n d : ℕ) (b : Bool) → AreOf d (drop_events t n d b)
of-drop t n d true = (refl, tt)
of-drop t n d false = tt

of-got : (t n d : ℕ) (b : Bool) (e : Option Ejected) → AreOf d (got_events t n d b e)
of-got t n d false e = tt
of-got t n d true None = tt
of-got t n d true (Some e) = (refl, tt)

of-host : (t : ℕ) (h : Host) (x : SeenAt) → AreOf h.domain (seen_events t h x)
of-host t h x =
    of-both h.domain (offer_events t h.tile h.domain x.ready x.offered ++ drop_events t h.tile h.domain x.dropped) (got_events t h.tile h.domain true x.got)
    (of-both h.domain (offer_events t h.tile h.domain x.ready x.offered) (drop_events t h.tile h.domain x.dropped)
    (of-offer t h.tile h.domain x.ready x.offered) (of-drop t h.tile h.domain x.dropped))
    (of-got t h.tile h.domain true x.got)

all-kept : (c d : ℕ) (es : List Event) → AreOf c es → eqb c d ≡ true → filter (λ (e : Event). e.domain == d) es ≡ es
all-kept c d [] of same = refl
all-kept c d (e ∷ es) of same = rw (ap (λ i. eqb i d) of.0 ∙ same) (ap (λ r. e ∷ r) (all-kept c d es of.1 same))

none-kept : (c d : ℕ) (es : List Event) → AreOf c es → eqb c d ≡ false → filter (λ (e : Event). e.domain == d) es ≡ []
none-kept c d [] of other = refl
none-kept c d (e ∷ es) of other = rw (ap (λ i. eqb i d) of.0 ∙ other) (none-kept c d es of.1 other)

-- the events of the domain's attachments are those of its tiles
pub own-events : (t d j : ℕ) (seen : List SeenAt) (f : ℕ → List Event) (hs : List Host)
    → ((k i : ℕ) (h : Host) → i ≡ j + k → slice_get hs k ≡ Some h → h.domain ≡ d → seen_events t h (seen_at seen i) ≡ f h.tile)
    → filter (λ (e : Event). e.domain == d) (events_seen t seen j hs) ≡ flat_map f (host_tiles d hs)
own-events t d j seen f [] same = refl
own-events t d j seen f (h ∷ hs) same =
    go (eqb h.domain d) refl (own-events t d (suc j) seen f hs (λ k i g is at own. same (suc k) i g (omega arith) at own))
  where
    go : (b : Bool) → eqb h.domain d ≡ b
        → filter (λ (e : Event). e.domain == d) (events_seen t seen (suc j) hs) ≡ flat_map f (host_tiles d hs)
        → filter (λ (e : Event). e.domain == d) (events_seen t seen j (h ∷ hs)) ≡ flat_map f (host_tiles d (h ∷ hs))
    go true e rest =
        let is : h.domain ≡ d = grind (arith, nat_tests) in
        filter-append (λ (x : Event). x.domain == d) (seen_events t h (seen_at seen j)) (events_seen t seen (suc j) hs)
        ∙ ap (λ xs. xs ++ filter (λ (x : Event). x.domain == d) (events_seen t seen (suc j) hs))
        (all-kept h.domain d (seen_events t h (seen_at seen j)) (of-host t h (seen_at seen j)) e ∙ same 0 j h (omega arith) refl is)
        ∙ ap (λ ys. f h.tile ++ ys) rest ∙ rw e refl
    go false e rest =
        filter-append (λ (x : Event). x.domain == d) (seen_events t h (seen_at seen j)) (events_seen t seen (suc j) hs)
        ∙ ap (λ xs. xs ++ filter (λ (x : Event). x.domain == d) (events_seen t seen (suc j) hs))
        (none-kept h.domain d (seen_events t h (seen_at seen j)) (of-host t h (seen_at seen j)) e)
        ∙ rest ∙ rw e refl

-- one attachment more
seen-more : (t j : ℕ) (seen : List SeenAt) (hs : List Host) (h : Host) (i : ℕ) → i ≡ j + length hs
    → events_seen t seen j (hs ++ h ∷ []) ≡ events_seen t seen j hs ++ seen_events t h (seen_at seen i)
seen-more t j seen [] h i is =
    let same : j ≡ i = omega arith in
    append-nil (seen_events t h (seen_at seen j)) ∙ ap (λ k. seen_events t h (seen_at seen k)) same
seen-more t j seen (g ∷ hs) h i is =
    ap (λ es. seen_events t g (seen_at seen j) ++ es) (seen-more t (suc j) seen hs h i (omega arith))
    ∙ sym (append_assoc (seen_events t g (seen_at seen j)) (events_seen t seen (suc j) hs) (seen_events t h (seen_at seen i)))

zero-more : (n : ℕ) → n ≡ 0 + n
zero-more n = omega arith

pub seen-next : (t j : ℕ) (seen : List SeenAt) (hs : List Host) (h : Host) → slice_get hs j ≡ Some h
    → events_seen t seen 0 (take (j + 1) hs) ≡ events_seen t seen 0 (take j hs) ++ seen_events t h (seen_at seen j)
seen-next t j seen hs h at =
    let less = slice_get_within hs j h at in
    let one : j + 1 ≡ suc j = omega arith in
    ap (λ i. events_seen t seen 0 (take i hs)) one
    ∙ ap (events_seen t seen 0) (take-suc hs j h less ∙ ap (λ x. take j hs ++ x ∷ []) (get_or_from_slice_get hs j h h at))
    ∙ seen-more t 0 seen (take j hs) h j (sym (length-take-le j hs (omega (arith, less))) ∙ zero-more (length (take j hs)))
