-- The domains of a tile, one after the other.
use Rattle.std.proofs.Common.{◌≡◌, ◌≢◌, ℕ, ◌+◌, ◌*◌, ◌<◌, ◌≤◌, List, length, None, refl, sym, ap, ◌∙◌, subst, arith, ⊎_elim}
use Rattle.std.specs.Prelude.{is_some, ◌||◌, if◌then◌else◌, slice_index_or}
use Rattle.std.proofs.lemmas.Bool.{cases_eq}
use Rattle.noc_model.specs.declared.Stage.{Stage}
use Rattle.noc_model.specs.declared.Stage.TheVariants.{Idle}
use Rattle.noc_model.specs.Plan.{Plan}
use Rattle.noc_model.specs.Inputs.{input_count}
use Rattle.noc_model.specs.Tile.{Tile}
use Rattle.noc_model.specs.Step.{winner, taken_channel, is_place, after}
use Rattle.vc_partition.specs.Lanes.{lane}
use Rattle.vc_alloc.specs.Allocator.{Allocator, channels_at, link_channels_at, holder_at, pointer_at}
use Rattle.vc_alloc.specs.Shown.{stage_at, IsFor, Shows}
use Rattle.vc_alloc.specs.Commits.{OnlyLane, OnlyDomain, allocated, HasAllocated}

-- both keep the same for domain d
pub record SameDomain (x y : Allocator) (d : ℕ) : Type 0 where
  pub tile : y.tile ≡ x.tile
  pub channels : link_channels_at y d ≡ link_channels_at x d
  pub holders : lane y.holders d ≡ lane x.holders d
  pub pointers : lane y.pointers d ≡ lane x.pointers d

same-self : (x : Allocator) (d : ℕ) → SameDomain x x d
same-self x d = record { tile = refl; channels = refl; holders = refl; pointers = refl }

back : (x y : Allocator) (d : ℕ) → SameDomain x y d → SameDomain y x d
back x y d same =
    record { tile = sym same.tile; channels = sym same.channels; holders = sym same.holders; pointers = sym same.pointers }

same-other : (x y : Allocator) (d e : ℕ) → OnlyDomain x y d → e ≢ d → SameDomain x y e
same-other x y d e only apart = record {
  tile = ap (λ (w : Allocator). w.tile) only.rest;
  channels = ap (λ (w : Allocator). link_channels_at w e) only.rest;
  holders = only.holders.others e apart;
  pointers = only.pointers.others e apart;
}

same-then : (x y z : Allocator) (d : ℕ) → SameDomain x y d → SameDomain y z d → SameDomain x z d
same-then x y z d a b =
    record { tile = b.tile ∙ a.tile; channels = b.channels ∙ a.channels; holders = b.holders ∙ a.holders; pointers = b.pointers ∙ a.pointers }

same-holder : (x y : Allocator) (d o w : ℕ) → SameDomain x y d → holder_at y d o w ≡ holder_at x d o w
same-holder x y d o w same =
    ap (λ n. slice_index_or (lane y.holders d) (o * n + w) None) same.channels
    ∙ ap (λ l. slice_index_or l (o * link_channels_at x d + w) None) same.holders

same-pointer : (x y : Allocator) (d o : ℕ) → SameDomain x y d → pointer_at y d o ≡ pointer_at x d o
same-pointer x y d o same = ap (λ l. slice_index_or l o 0) same.pointers

same-shows : (x y : Allocator) (stages : List (List Stage)) (p : Plan) (d : ℕ) (s : Tile) → SameDomain x y d
    → Shows x stages p d s → Shows y stages p d s
same-shows x y stages p d s same shows = record {
  held = λ o w there below. ap is_some (same-holder x y d o w same) ∙ shows.held o w there below;
  pointers = λ o there. same-pointer x y d o same ∙ shows.pointers o there;
  inputs = shows.inputs;
}

-- what a domain's inputs got depends on its lanes alone
allocated-same : (x x' y y' : Allocator) (stages u u' v v' : List (List Stage)) (p : Plan) (d : ℕ) → SameDomain x x' d
    → SameDomain y y' d → lane u' d ≡ lane u d → lane v' d ≡ lane v d
    → HasAllocated x y stages u v p d → HasAllocated x' y' stages u' v' p d
allocated-same x x' y y' stages u u' v v' p d before after_it old new is = record {
  active = λ s shows k below.
      ap (λ l. slice_index_or l k Idle) new ∙ is.active s (was s shows) k below
      ∙ ap (λ n. allocated p d n s k (stage_at stages d k) (stage_at u d k)) (sym before.tile)
      ∙ ap (λ l. allocated p d x'.tile s k (stage_at stages d k) (slice_index_or l k Idle)) (sym old);
  holders = λ s shows o w there below.
      same-holder y y' d o w after_it ∙ is.holders s (was s shows) o w there below
      ∙ ap (λ n. if is_place (taken_channel p d n s o) w then winner p d n s o else holder_at x d o w) (sym before.tile)
      ∙ ap (λ h. if is_place (taken_channel p d x'.tile s o) w then winner p d x'.tile s o else h) (sym (same-holder x x' d o w before));
  held = λ s shows o w there below.
      ap is_some (same-holder y y' d o w after_it) ∙ is.held s (was s shows) o w there below
      ∙ ap (λ n. s.held o w || is_place (taken_channel p d n s o) w) (sym before.tile);
  pointers = λ s shows o there.
      same-pointer y y' d o after_it ∙ is.pointers s (was s shows) o there ∙ ap (λ n. after (winner p d n s o) (s.allocation o)) (sym before.tile);
}
  where
    was : (s : Tile) → Shows x' stages p d s → Shows x stages p d s
    was s shows = same-shows x' x stages p d s (back x x' d before) shows

pub still-for : (x y : Allocator) (p : Plan) (d e : ℕ) → OnlyDomain x y d → IsFor x p e → IsFor y p e
still-for x y p d e only made = record {
  domain = let a = ap (λ (w : Allocator). length w.channels) only.rest in let b = made.domain in omega (arith, a, b);
  port_count = only.outputs ∙ made.port_count;
  class = ap (λ (w : Allocator). channels_at w e) only.rest ∙ made.class;
  link = ap (λ (w : Allocator). link_channels_at w e) only.rest ∙ made.link;
}

-- the allocator x has become y and the next stages u have become v, where the domains below m have been stepped
pub record AreStepping (x y : Allocator) (stages u v : List (List Stage)) (p : Plan) (m : ℕ) : Type 0 where
  pub allocated : (d : ℕ) → d < m → HasAllocated x y stages u v p d
  pub behind : (d : ℕ) → m ≤ d → SameDomain x y d
  pub waiting : (d : ℕ) → m ≤ d → lane v d ≡ lane u d
  pub made : (d : ℕ) → d < length p.domains → IsFor y p d
  pub tile : y.tile ≡ x.tile
  pub domains : length v ≡ length u
  pub places : (d : ℕ) → d < length p.domains → length (lane v d) ≡ input_count p d

pub step-start : (x : Allocator) (stages u : List (List Stage)) (p : Plan)
    → ((d : ℕ) → d < length p.domains → IsFor x p d)
    → ((d : ℕ) → d < length p.domains → length (lane u d) ≡ input_count p d) → AreStepping x x stages u u p 0
step-start x stages u p made places = record {
  allocated = λ d less. absurd (omega (arith, less));
  behind = λ d all. same-self x d;
  waiting = λ d all. refl;
  made = made;
  tile = refl;
  domains = refl;
  places = places;
}

pub step-next : (x y z : Allocator) (stages u v w : List (List Stage)) (p : Plan) (m : ℕ)
    → AreStepping x y stages u v p m
    → HasAllocated y z stages v w p m → OnlyDomain y z m → OnlyLane v w m → AreStepping x z stages u w p (m + 1)
step-next x y z stages u v w p m are now only only_next = record {
  allocated = λ d less. ⊎_elim
      (λ (e : d ≡ m).
      let self : m ≤ m = omega arith in
      subst (λ k. HasAllocated x z stages u w p k) (sym e)
      (allocated-same y x z z stages v u w w p m (back x y m (are.behind m self)) (same-self z m) (sym (are.waiting m self)) refl now))
      (λ (apart : d ≢ m).
      allocated-same x x y z stages u u v w p d (same-self x d) (same-other y z m d only apart) refl (only_next.others d apart) (are.allocated d (omega (arith, less, apart))))
      (cases_eq d m);
  behind = λ d all. same-then x y z d (are.behind d (omega (arith, all))) (same-other y z m d only (let n : d ≢ m = omega (arith, all) in n));
  waiting = λ d all. only_next.others d (let n : d ≢ m = omega (arith, all) in n) ∙ are.waiting d (omega (arith, all));
  made = λ d there. still-for y z p m d only (are.made d there);
  tile = ap (λ (a : Allocator). a.tile) only.rest ∙ are.tile;
  domains = only_next.domains ∙ are.domains;
  places = λ d there. ⊎_elim
      (λ (e : d ≡ m). ap (λ k. length (lane w k)) e ∙ only_next.places ∙ ap (λ k. length (lane v k)) (sym e) ∙ are.places d there)
      (λ (apart : d ≢ m). ap length (only_next.others d apart) ∙ are.places d there)
      (cases_eq d m);
}
