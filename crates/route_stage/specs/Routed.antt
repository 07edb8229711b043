-- The routes of a tile, and the stages that they give.
use Rattle.std.specs.Prelude.{◌≡◌, ℕ, ◌<◌, ◌==◌, nat_lt, ◌&&◌, List, map, length, slice_index, slice_index_or, slice_set, Option, Some, None, if◌then◌else◌}
use Rattle.std.specs.List.{range_with_len}
use Rattle.noc_model.specs.declared.Flit.{Flit}
use Rattle.noc_model.specs.declared.Stage.{Stage}
use Rattle.noc_model.specs.declared.Stage.TheVariants.{Idle, Routed, Active}
use Rattle.noc_model.specs.Plan.{Plan, tiles}
use Rattle.noc_model.specs.Inputs.{input_count}
use Rattle.noc_model.specs.Place.{route}
use Rattle.vc_partition.specs.Lanes.{lane}

-- the output of tile n for each destination
abbrev pub routes_of : Plan → ℕ → List ℕ
routes_of p n = map (route p n) (range_with_len 0 (tiles p))

-- the front flit of domain d at an input
abbrev pub front_at : List (List (Option Flit)) → ℕ → ℕ → Option Flit
front_at v d k = slice_index_or (lane v d) k None

-- the stage of domain d at an input
abbrev pub stage_at : List (List Stage) → ℕ → ℕ → Stage
stage_at v d k = slice_index_or (lane v d) k Idle

-- another stage there; all others stay
abbrev pub with_stage : List (List Stage) → ℕ → ℕ → Stage → List (List Stage)
with_stage v d k s = slice_set v d (slice_set (lane v d) k s)

-- an idle channel with a front flit is routed to the flit's output; what comes next of any other stays
abbrev pub routed_by : List ℕ → Option Flit → Stage → Stage → Stage
routed_by outs None s next = next
routed_by outs (Some f) Idle next = Routed (slice_index outs f.dest)
routed_by outs (Some f) (Routed o) next = next
routed_by outs (Some f) (Active o w) next = next

-- what comes next of a channel at tile n
abbrev pub routed_next : Plan → ℕ → Option Flit → Stage → Stage → Stage
routed_next p n None s next = next
routed_next p n (Some f) Idle next = Routed (route p n f.dest)
routed_next p n (Some f) (Routed o) next = next
routed_next p n (Some f) (Active o w) next = next

-- what comes next where the first so many inputs of domain d are routed
abbrev pub routed_to : ℕ → Plan → ℕ → List (List (Option Flit)) → List (List Stage) → List (List Stage)
    → ℕ → ℕ → ℕ → Stage
routed_to count p n fronts stages next d e k =
    if (e == d) && nat_lt k count
    then routed_next p n (front_at fronts e k) (stage_at stages e k) (stage_at next e k)
    else stage_at next e k

-- what comes next where the inputs of the first so many domains are routed
abbrev pub routed_before : ℕ → Plan → ℕ → List (List (Option Flit)) → List (List Stage) → List (List Stage)
    → ℕ → ℕ → Stage
routed_before count p n fronts stages next e k =
    if nat_lt e count && nat_lt k (input_count p e)
    then routed_next p n (front_at fronts e k) (stage_at stages e k) (stage_at next e k)
    else stage_at next e k

-- there is a lane for each domain, with a place for each input
pub record HasInputs (p : Plan) {T : Type 0} (v : List (List T)) : Type 0 where
  pub domains : length v ≡ length p.domains
  pub inputs : (d : ℕ) → d < length p.domains → length (lane v d) ≡ input_count p d

-- the flit, if there is one, goes to a tile below n
abbrev pub GoesBelow : ℕ → Option Flit → Type 0
GoesBelow n None = Unit {0}
GoesBelow n (Some f) = f.dest < n

-- it goes to a tile of the plan
abbrev pub GoesToTile : Plan → Option Flit → Type 0
GoesToTile p front = GoesBelow (tiles p) front
