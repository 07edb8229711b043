-- What the ports of a right design show in a run, read back.
use Rattle.std.proofs.Common.{◌≡◌, ℕ, zero, suc, Bool, true, false, List, [], ◌∷◌, Option, refl, sym, ap, ◌∙◌, subst, ◌==◌}
use Rattle.std.specs.Prelude.{Some, None, slice_get, if◌then◌else◌, codes}
use Rattle.std.specs.List.{AllByRecursion}
use Rattle.std.proofs.lemmas.Option.{none-some}
use Rattle.vl_tree.specs.Values.{Name, Design}
use Rattle.vl_model.specs.Meaning.{one_if}
use Rattle.vl_model.specs.Lines.{is_input, top_lines}
use Rattle.vl_model.specs.Rules.{is_kind, IsSound as IsSoundDesign}
use Rattle.vl_model.specs.Whole.{Nets, IsRun}
use Rattle.vl_model.proofs.Settling.{itself}
use Rattle.noc_model.specs.declared.Flit.{Flit}
use Rattle.noc_model.specs.declared.Host.{Host}
use Rattle.noc_model.specs.declared.Ejected.{Ejected}
use Rattle.noc_model.specs.Plan.{Plan}
use Rattle.noc_model.specs.Tile.{Tile}
use Rattle.noc_model.specs.Step.{is_open}
use Rattle.noc_model.specs.Run.{state_after}
use Rattle.noc_model.specs.Events.{ejected_of}
use Rattle.gen_kit.specs.Ports.{host_name, host_ports, top_ports}
use Rattle.gen_kit.specs.Replayed.{at, is_on, ejected_at, input_of}
use Rattle.gen_kit.specs.Right.{ShowsFlit, Shows, IsRightDesign}
use Rattle.vl_run.proofs.Inputs.{has_input, among-input}
use Rattle.vl_run.proofs.Whole.{ports-first}
use Rattle.surf_replay.proofs.Fed.{Owns, among}
use Rattle.surf_replay.proofs.Cycles.{bit}

-- ---- outputs

at-place : {A : Type 0} (P : A → Type 0) (xs : List A) (j : ℕ) (x : A) → AllByRecursion P xs → slice_get xs j ≡ Some x → P x
at-place P [] j x all e = absurd (none-some x e)
at-place P (y ∷ ys) zero x all e = let one : y ≡ x = cc in subst P one all.0
at-place P (y ∷ ys) (suc j) x all e = at-place P ys j x all.1 e

-- an attachment's ports show its tile
pub shown-at : (p : Plan) (d : Design) (first : Name → Name → ℕ → ℕ) (inputs : ℕ → Name → ℕ) (values : ℕ → Nets) (t j : ℕ) (h : Host) → IsRightDesign p d → IsRun d first inputs values → slice_get p.hosts j ≡ Some h
    → Shows p (values t) h (state_after p h.domain (λ k. input_of h.domain (values k)) t h.tile)
shown-at p d first inputs values t j h right run e =
    at-place (λ (x : Host). Shows p (values t) x (state_after p x.domain (λ k. input_of x.domain (values k)) t x.tile)) p.hosts j h (right.outputs first inputs values run t) e

pub ready-on : (p : Plan) (v : Nets) (h : Host) (s : Tile) → Shows p v h s → is_on v (codes "rd") h ≡ is_open p s
ready-on p v h s shows = ap (λ x. x == 1) shows.ready ∙ bit (is_open p s)

pub dropped-on : (p : Plan) (v : Nets) (h : Host) (s : Tile) → Shows p v h s → is_on v (codes "dr") h ≡ s.dropped
dropped-on p v h s shows = ap (λ x. x == 1) shows.dropped ∙ bit s.dropped

flit-at : (v : Nets) (h : Host) (x : Option Flit) → ShowsFlit v h x → ejected_at v h ≡ ejected_of x
flit-at v h None e = ap (λ x. flit_of x (at v (codes "eh") h) (at v (codes "et") h) (at v (codes "ep") h)) e.0
  where
    flit_of : ℕ → ℕ → ℕ → ℕ → Option Ejected
    flit_of ev eh et ep = if ev == 1 then Some (record { head = eh == 1; tail = et == 1; payload = ep }) else None
flit-at v h (Some f) e =
    ap (λ x. flit_of x (at v (codes "eh") h) (at v (codes "et") h) (at v (codes "ep") h)) e.0 ∙ ap (λ x. flit_of 1 x (at v (codes "et") h) (at v (codes "ep") h)) e.1
    ∙ ap (λ x. flit_of 1 (one_if f.head) x (at v (codes "ep") h)) e.2 ∙ ap (λ x. flit_of 1 (one_if f.head) (one_if f.tail) x) e.3
    ∙ ap (λ b. Some (record { head = b; tail = one_if f.tail == 1; payload = f.payload })) (bit f.head) ∙ ap (λ b. Some (record { head = f.head; tail = b; payload = f.payload })) (bit f.tail)
  where
    flit_of : ℕ → ℕ → ℕ → ℕ → Option Ejected
    flit_of ev eh et ep = if ev == 1 then Some (record { head = eh == 1; tail = et == 1; payload = ep }) else None

pub ejected-on : (p : Plan) (v : Nets) (h : Host) (s : Tile) → Shows p v h s → ejected_at v h ≡ ejected_of s.ejected
ejected-on p v h s shows = flit-at v h s.ejected shows.ejected

-- ---- inputs

pub owns-ov : (h : Host) → Owns h (host_name (codes "ov") h)
owns-ov h = let self = itself (host_name (codes "ov") h) in rw self refl

pub owns-oa : (h : Host) → Owns h (host_name (codes "oa") h)
owns-oa h = let self = itself (host_name (codes "oa") h) in rw self refl

pub owns-op : (h : Host) → Owns h (host_name (codes "op") h)
owns-op h = let self = itself (host_name (codes "op") h) in rw self refl

pub owns-ol : (h : Host) → Owns h (host_name (codes "ol") h)
owns-ol h = let self = itself (host_name (codes "ol") h) in rw self refl

pub owns-hr : (h : Host) → Owns h (host_name (codes "hr") h)
owns-hr h = let self = itself (host_name (codes "hr") h) in rw self refl

-- an attachment's input ports are inputs of the design
pub owned-kind : (p : Plan) (d : Design) → IsSoundDesign d → d.top.ports ≡ top_ports p → (j : ℕ) (h : Host) → slice_get p.hosts j ≡ Some h → (n : Name) → Owns h n → is_kind is_input (top_lines d.top) n ≡ true
owned-kind p d sound ports j h e n own =
    among-input (top_lines d.top) d.top.ports (ports-first d sound).0 n
    (subst (λ ps. has_input ps n ≡ true) (sym ports) (among p.hosts j h e n own))
