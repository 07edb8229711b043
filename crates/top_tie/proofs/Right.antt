-- In every cycle of every run all leaves hold their tiles, so the design is right.
use Rattle.std.proofs.Common.{◌≡◌, ℕ, zero, suc, ◌<◌, ◌≤◌, ◌⊎◌, inl, inr, Bool, true, false, List, [], ◌∷◌, Option, length, refl, sym, ap, ◌∙◌, subst, arith, ◌==◌, ◌&&◌, ◌||◌, All}
use Rattle.std.specs.Prelude.{Some, None, pos, codes}
use Rattle.std.specs.List.{AllByRecursion, list_any}
use Rattle.std.proofs.lemmas.Bool.Decides.{nat_tests}
use Rattle.std.proofs.lemmas.List.Elements.{recursion_from_All}
use Rattle.vl_tree.specs.Values.{Name, Design}
use Rattle.vl_model.specs.Meaning.{Values, one_if}
use Rattle.vl_model.specs.Rules.{IsSound as IsSoundDesign}
use Rattle.vl_model.specs.Whole.{Nets, IsRun}
use Rattle.noc_model.specs.declared.Flit.{Flit}
use Rattle.noc_model.specs.declared.Host.{Host}
use Rattle.noc_model.specs.declared.LinkFlit.{LinkFlit}
use Rattle.noc_model.specs.Plan.{Plan, tiles, hosts, is_host}
use Rattle.noc_model.specs.Sound.{IsSound}
use Rattle.noc_model.specs.Tile.{Tile}
use Rattle.noc_model.specs.Step.{is_open}
use Rattle.noc_model.specs.Run.{step, state_after}
use Rattle.gen_kit.specs.Ports.{host_name}
use Rattle.gen_kit.specs.Shape.{HasShape}
use Rattle.gen_kit.specs.Replayed.{at, host_of, input_of}
use Rattle.gen_kit.specs.Right.{ShowsFlit, Shows, IsRightDesign}
use Rattle.gen_kit.specs.Work.{leaf_name}
use Rattle.leaf_tie.specs.Outs.{LeafOut, EjectedShown}
use Rattle.leaf_tie.specs.Glue.{next_shared}
use Rattle.leaf_tie.proofs.Grouped.{text-starts, text-kept}
use Rattle.top_tie.specs.Joins.{inside_tile, HostJoined}
use Rattle.top_tie.specs.Holds.{TextSizes, FitsPlan, HoldsTile, HoldsTiles}
use Rattle.top_tie.specs.Laws.{RightTogether}
use Rattle.top_tie.proofs.Joins.{TileRun}
use Rattle.top_tie.proofs.Fed as fed

is-itself : (h : Host) → is_host h.tile h.domain h ≡ true
is-itself h =
    let tile : (h.tile == h.tile) ≡ true = grind (arith, nat_tests) in
    let domain : (h.domain == h.domain) ≡ true = grind (arith, nat_tests) in
    rw (tile, domain) refl

or-back : (a b : Bool) → b ≡ true → (a || b) ≡ true
or-back true b e = refl
or-back false b e = e

-- of each host of a list, which is one of the list
each-hosted : (hs : List Host) (R Q : Host → Type 0) → ((h : Host) → list_any (is_host h.tile h.domain) hs ≡ true → R h → Q h) → AllByRecursion R hs → AllByRecursion Q hs
each-hosted [] R Q f all = tt
each-hosted (x ∷ xs) R Q f all =
    let here : list_any (is_host x.tile x.domain) (x ∷ xs) ≡ true = ap (λ b. b || list_any (is_host x.tile x.domain) xs) (is-itself x) in
    (f x here all.0, each-hosted xs R Q (λ h e r. f h (or-back (is_host h.tile h.domain x) (list_any (is_host h.tile h.domain) xs) e) r) all.1)

module _ (p : Plan) (z : TextSizes) (d : Design) (first : Name → Name → ℕ → ℕ) (inputs : ℕ → Name → ℕ) (values : ℕ → Nets)
    (sound : IsSound p) (fits : FitsPlan p z) (right : IsSoundDesign d) (shape : HasShape p d) (hold : HoldsTiles p z d) (run : IsRun d first inputs values) where
  abbrev Stands : (t n : ℕ) → n < tiles p → (ℕ → ℕ → Option LinkFlit) → Type 0
  Stands = fed.Stands p z d first inputs values sound fits right shape hold run

  abbrev held : (n : ℕ) (below : n < tiles p) → HoldsTile p n z (fed.tile p z d first inputs values sound fits right shape hold run n below).leaf
  held = fed.held p z d first inputs values sound fits right shape hold run

  abbrev tile : (n : ℕ) → n < tiles p → TileRun p d n values
  tile = fed.tile p z d first inputs values sound fits right shape hold run

  -- all leaves hold their tiles in each cycle
  all-stand : (t n : ℕ) (below : n < tiles p) → (shared : ℕ → ℕ → Option LinkFlit) × Stands t n below shared
  unfolding step
  all-stand zero n below =
      let h = held n below in (
        λ o j. None,
        text-starts p n h.names.kept h.names.nets h.names.ports z.base z.buffer z.slot_high z.dest_bits z.link_flit z.link_channel h.others (tile n below).leaf (λ t. inside_tile (values t) n) sound h.items (tile n below).runs,
      )
  all-stand (suc t) n below =
      let h = held n below in
      let before = all-stand t n below in (
        next_shared p n t (λ k. fed.state p z d first inputs values sound fits right shape hold run k t n) (fed.given p z d first inputs values sound fits right shape hold run t n) before.0,
        text-kept p n h.names.kept h.names.nets h.names.ports z.base z.buffer z.slot_high z.dest_bits z.link_flit z.link_channel h.others d (leaf_name n) (tile n below).leaf (λ k. inside_tile (values k) n) t
            (λ k. fed.state p z d first inputs values sound fits right shape hold run k t n) (fed.given p z d first inputs values sound fits right shape hold run t n) before.0 sound below fits.glue right (tile n below).named h.items h.joined (tile n below).runs
            (fed.leaf-in p z d first inputs values sound fits right shape hold run t (all-stand t) n below) before.1,
      )

  -- ---- what the top's ports show

  module _ (t n k : ℕ) (below : n < tiles p) (few : k < length p.domains) (there : hosts p n k ≡ true) where
    abbrev v : Values
    v = inside_tile (values t) n

    abbrev h : HoldsTile p n z (tile n below).leaf
    h = held n below

    abbrev s : Tile
    s = state_after p k (λ j. input_of k (values j)) t n

    joined : HostJoined n k v (values t)
    joined = fed.hosted p z d first inputs values sound fits right shape hold run t n below k there

    out : LeafOut p n h.names.outs z.dest_bits z.link_flit z.link_channel v (λ j. state_after p j (λ i. input_of j (values i)) t n) (all-stand t n below).0
    out = fed.outs p z d first inputs values sound fits right shape hold run t n below (all-stand t n below).0 (all-stand t n below).1

    -- an output port of the leaf, on the top
    on-top : (name : Name) (head : List ℕ) (x : ℕ) → name ≡ host_name head (host_of k n) → v.net (host_name head (host_of k n)) ≡ at (values t) head (host_of k n) → v.net name ≡ x → at (values t) head (host_of k n) ≡ x
    on-top name head x named same is = sym same ∙ ap v.net (sym named) ∙ is

    flit : (x : Option Flit) → EjectedShown h.names.outs k v x → ShowsFlit (values t) (host_of k n) x
    flit None e = (
      on-top (h.names.outs.valid k) (codes "ev") 0 (h.named.valid k there) joined.1.1.1.1.1.1.1.0 e.0,
      on-top (h.names.outs.head k) (codes "eh") 0 (h.named.head k there) joined.1.1.1.1.1.1.1.1.0 e.1,
      on-top (h.names.outs.tail k) (codes "et") 0 (h.named.tail k there) joined.1.1.1.1.1.1.1.1.1.0 e.2,
      on-top (h.names.outs.payload k) (codes "ep") 0 (h.named.word k there) joined.1.1.1.1.1.1.1.1.1.1.0 e.3,
    )
    flit (Some f) e = (
      on-top (h.names.outs.valid k) (codes "ev") 1 (h.named.valid k there) joined.1.1.1.1.1.1.1.0 e.0,
      on-top (h.names.outs.head k) (codes "eh") (one_if f.head) (h.named.head k there) joined.1.1.1.1.1.1.1.1.0 e.1,
      on-top (h.names.outs.tail k) (codes "et") (one_if f.tail) (h.named.tail k there) joined.1.1.1.1.1.1.1.1.1.0 e.2,
      on-top (h.names.outs.payload k) (codes "ep") f.payload (h.named.word k there) joined.1.1.1.1.1.1.1.1.1.1.0 e.3,
    )

    shows : Shows p (values t) (host_of k n) s
    shows = record {
      ready = on-top (h.names.outs.ready k) (codes "rd") (one_if (is_open p s)) (h.named.ready k there) joined.1.1.1.1.1.0 (out.ready k few there);
      dropped = on-top (h.names.outs.drop k) (codes "dr") (one_if s.dropped) (h.named.drop k there) joined.1.1.1.1.1.1.0 (out.dropped k few there);
      ejected = flit s.ejected (out.ejected k few there);
    }

  pub all-show : (t : ℕ) → AllByRecursion (λ (x : Host). Shows p (values t) x (state_after p x.domain (λ k. input_of x.domain (values k)) t x.tile)) p.hosts
  all-show t =
      each-hosted p.hosts (λ (x : Host). (x.tile < tiles p) × (x.domain < length p.domains)) (λ (x : Host). Shows p (values t) x (state_after p x.domain (λ k. input_of x.domain (values k)) t x.tile))
      (λ x there inside. shows t x.tile x.domain inside.0 inside.1 there)
      (recursion_from_All (λ (x : Host). (x.tile < tiles p) × (x.domain < length p.domains)) p.hosts sound.hosts)

pub right-together : RightTogether
right-together p z d sound fits right shape hold = record {
  sound = right;
  shape = shape;
  outputs = λ first inputs values run t. all-show p z d first inputs values sound fits right shape hold run t;
}
