-- Routed stages, one input after the other.
use Rattle.std.proofs.Common.{◌≡◌, ℕ, zero, suc, ◌+◌, ◌<◌, Bool, true, false, List, [], ◌∷◌, length, map, replicate, set, get_or, refl, sym, ap, ◌∙◌, subst, arith, length-set, get_or-set_same, ⊎_elim, Option, Some, None}
use Rattle.std.specs.Prelude.{◌==◌, ◌&&◌, nat_lt, slice_get, if◌then◌else◌}
use Rattle.std.specs.List.{range_with_len}
use Rattle.std.proofs.lemmas.Bool.Decides.{nat_tests, eqb_tells}
use Rattle.std.proofs.lemmas.List.FromFn.{get_or-map-range_with_len, length-map-range_with_len}
use Rattle.std.proofs.lemmas.List.{length-map, get_or-map, length-replicate}
use Rattle.std.proofs.lemmas.Option.{slice_get-get_or}
use Rattle.noc_model.specs.declared.Flit.{Flit}
use Rattle.noc_model.specs.declared.Stage.{Stage}
use Rattle.noc_model.specs.declared.Stage.TheVariants.{Idle, Routed, Active}
use Rattle.noc_model.specs.Plan.{Plan, tiles}
use Rattle.noc_model.specs.Inputs.{input_count}
use Rattle.noc_model.specs.Place.{route}
use Rattle.vc_partition.specs.Lanes.{lane}
use Rattle.vc_partition.proofs.Cuts.{lane-written, lane-other, lanes-other}
use Rattle.route_stage.specs.Routed.{routes_of, front_at, stage_at, with_stage, routed_by, routed_next, routed_to, routed_before, HasInputs, GoesToTile}

-- what is read is what a look-up finds
pub read-is : {X : Type 0} (xs : List X) (i : ℕ) (x d : X) → i < length xs → slice_get xs i ≡ Some x → x ≡ get_or xs i d
read-is xs i x d there e = let at = slice_get-get_or xs i d there in let both = sym e ∙ at in cc both

routed-is : (p : Plan) (n : ℕ) (front : Option Flit) (s next : Stage) → GoesToTile p front
    → routed_by (routes_of p n) front s next ≡ routed_next p n front s next
routed-is p n None s next goes = refl
routed-is p n (Some f) Idle next goes =
    ap Routed (get_or-map-range_with_len (route p n) 0 (tiles p) f.dest f.dest 0 goes (omega arith))
routed-is p n (Some f) (Routed o) next goes = refl
routed-is p n (Some f) (Active o w) next goes = refl

pub routed-value : (p : Plan) (n : ℕ) (outs : List ℕ) (front front' : Option Flit) (s s' next next' : Stage)
    → outs ≡ routes_of p n → front' ≡ front → s' ≡ s → next' ≡ next
    → GoesToTile p front → routed_by outs front' s' next' ≡ routed_next p n front s next
routed-value p n outs front front' s s' next next' made ef es en goes =
    ap (λ o. routed_by o front' s' next') made ∙ ap (λ f. routed_by (routes_of p n) f s' next') ef
    ∙ ap (λ t. routed_by (routes_of p n) front t next') es
    ∙ ap (λ t. routed_by (routes_of p n) front s t) en ∙ routed-is p n front s next goes

-- ---- one place is written

lane-length : {T : Type 0} (v : List (List T)) (d i e : ℕ) (x : T) → d < length v
    → length (lane (set v d (set (lane v d) i x)) e) ≡ length (lane v e)
lane-length v d i e x there = ⊎_elim
    (λ w. let same : e ≡ d = w.1 in
    ap (λ k. length (lane (set v d (set (lane v d) i x)) k)) same
    ∙ ap length (get_or-set_same v d (set (lane v d) i x) _ there) ∙ length-set (lane v d) i x
    ∙ ap (λ k. length (lane v k)) (sym same))
    (λ w. ap length (lanes-other v d e i x w.1))
    (eqb_tells e d)

pub still-inputs : {T : Type 0} (p : Plan) (v : List (List T)) (d i : ℕ) (x : T) → d < length p.domains → HasInputs p v
    → HasInputs p (set v d (set (lane v d) i x))
still-inputs p v d i x there has = record {
  domains = length-set v d _ ∙ has.domains;
  inputs = λ e inside. lane-length v d i e x (let a = has.domains in omega (arith, a, there)) ∙ has.inputs e inside;
}

-- lanes that are made for the inputs have a place for each
pub new-inputs : {T : Type 0} (p : Plan) (x : T)
    → HasInputs p (map (λ c. replicate c x) (map (input_count p) (range_with_len 0 (length p.domains))))
new-inputs p x = record {
  domains = length-map (map (input_count p) (range_with_len 0 (length p.domains))) (λ c. replicate c x) ∙ length-map-range_with_len (input_count p) 0 (length p.domains);
  inputs = λ d there. ap length (get_or-map (λ c. replicate c x) (map (input_count p) (range_with_len 0 (length p.domains))) d 0 [] (let a = length-map-range_with_len (input_count p) 0 (length p.domains) in omega (arith, a, there)))
      ∙ length-replicate _ x ∙ get_or-map-range_with_len (input_count p) 0 (length p.domains) d d 0 there (omega arith);
}

-- ---- one input more

not-lt : (i : ℕ) → nat_lt i i ≡ false
not-lt i = grind (arith, nat_tests)

pub routed-none : (p : Plan) (n : ℕ) (fronts : List (List (Option Flit))) (stages old : List (List Stage)) (d e k : ℕ)
    → stage_at old e k ≡ routed_to 0 p n fronts stages old d e k
routed-none p n fronts stages old d e k = sym (ap (λ b. if b then routed_next p n (front_at fronts e k) (stage_at stages e k) (stage_at old e k) else stage_at old e k) (none (e == d) k))
  where
    none : (a : Bool) (k : ℕ) → (a && nat_lt k 0) ≡ false
    none true k = grind (arith, nat_tests)
    none false k = refl

module _ (p : Plan) (n : ℕ) (fronts : List (List (Option Flit))) (stages old cur : List (List Stage)) (d i : ℕ) (has : HasInputs p cur) (there : d < length p.domains)
    (inside : i < input_count p d) (before : (e k : ℕ) → stage_at cur e k ≡ routed_to i p n fronts stages old d e k) where
  abbrev next : Stage
  next = routed_next p n (front_at fronts d i) (stage_at stages d i) (stage_at cur d i)

  here : next ≡ routed_next p n (front_at fronts d i) (stage_at stages d i) (stage_at old d i)
  here = ap (routed_next p n (front_at fronts d i) (stage_at stages d i))
      (before d i ∙ ap (λ b. if b then routed_next p n (front_at fronts d i) (stage_at stages d i) (stage_at old d i) else stage_at old d i) (and-false (d == d) (nat_lt i i) (not-lt i)))
    where
      and-false : (a b : Bool) → b ≡ false → (a && b) ≡ false
      and-false true b e = e
      and-false false b e = refl

  abbrev choice : Bool → ℕ → ℕ → Stage
  choice b e k =
      if b then routed_next p n (front_at fronts e k) (stage_at stages e k) (stage_at old e k) else stage_at old e k

  pub routed-more : (e k : ℕ) → stage_at (with_stage cur d i next) e k ≡ routed_to (i + 1) p n fronts stages old d e k
  routed-more e k = ⊎_elim
      (λ w. let same : e ≡ d = w.1 in
      ⊎_elim
      (λ u. let place : k ≡ i = u.1 in
      let less : nat_lt k (i + 1) ≡ true = grind (arith, nat_tests) in
      let test : ((e == d) && nat_lt k (i + 1)) ≡ true = ap (λ b. b && nat_lt k (i + 1)) w.0 ∙ less in
      ap (λ x. stage_at (with_stage cur d i next) x k) same ∙ ap (λ x. stage_at (with_stage cur d i next) d x) place
      ∙ lane-written cur d i next Idle (let a = has.domains in omega (arith, a, there)) (let a = has.inputs d there in omega (arith, a, inside))
      ∙ here ∙ ap (λ x. routed_next p n (front_at fronts d x) (stage_at stages d x) (stage_at old d x)) (sym place)
      ∙ ap (λ x. routed_next p n (front_at fronts x k) (stage_at stages x k) (stage_at old x k)) (sym same)
      ∙ sym (ap (λ b. choice b e k) test))
      (λ u. let apart = u.1 in
      let less : nat_lt k i ≡ nat_lt k (i + 1) = grind (arith, nat_tests) in
      ap (λ x. stage_at (with_stage cur d i next) x k) same ∙ lane-other cur d i k next Idle (let a = has.domains in omega (arith, a, there)) apart
      ∙ ap (λ x. stage_at cur x k) (sym same) ∙ before e k ∙ ap (λ b. choice ((e == d) && b) e k) less)
      (eqb_tells k i))
      (λ w. ap (λ l. get_or l k Idle) (lanes-other cur d e i next w.1) ∙ before e k
      ∙ ap (λ b. choice (b && nat_lt k i) e k) w.0 ∙ ap (λ b. choice (b && nat_lt k (i + 1)) e k) (sym w.0))
      (eqb_tells e d)

-- ---- one domain more

module _ (p : Plan) (n : ℕ) (fronts : List (List (Option Flit))) (stages old cur new : List (List Stage)) (d : ℕ)
    (before : (e k : ℕ) → stage_at cur e k ≡ routed_before d p n fronts stages old e k)
    (step : (e k : ℕ) → stage_at new e k ≡ routed_to (input_count p d) p n fronts stages cur d e k) where
  abbrev picked : Bool → Stage → ℕ → ℕ → Stage
  picked b s e k = if b then routed_next p n (front_at fronts e k) (stage_at stages e k) s else s

  own : (k : ℕ) → stage_at cur d k ≡ stage_at old d k
  own k = before d k ∙ ap (λ b. picked (b && nat_lt k (input_count p d)) (stage_at old d k) d k) (not-lt d)

  pub domain-more : (e k : ℕ) → stage_at new e k ≡ routed_before (d + 1) p n fronts stages old e k
  domain-more e k = ⊎_elim
      (λ w. let same : e ≡ d = w.1 in
      let less : nat_lt e (d + 1) ≡ true = grind (arith, nat_tests) in
      step e k ∙ ap (λ b. picked (b && nat_lt k (input_count p d)) (stage_at cur e k) e k) w.0
      ∙ ap (λ s. picked (nat_lt k (input_count p d)) s e k) (ap (λ x. stage_at cur x k) same ∙ own k ∙ ap (λ x. stage_at old x k) (sym same))
      ∙ ap (λ x. picked (nat_lt k (input_count p x)) (stage_at old e k) e k) (sym same)
      ∙ ap (λ b. picked (b && nat_lt k (input_count p e)) (stage_at old e k) e k) (sym less))
      (λ w. let apart = w.1 in
      let less : nat_lt e d ≡ nat_lt e (d + 1) = grind (arith, nat_tests) in
      step e k ∙ ap (λ b. picked (b && nat_lt k (input_count p d)) (stage_at cur e k) e k) w.0 ∙ before e k
      ∙ ap (λ b. picked (b && nat_lt k (input_count p e)) (stage_at old e k) e k) less)
      (eqb_tells e d)

pub before-none : (p : Plan) (n : ℕ) (fronts : List (List (Option Flit))) (stages old : List (List Stage)) (e k : ℕ)
    → stage_at old e k ≡ routed_before 0 p n fronts stages old e k
before-none p n fronts stages old e k =
    let t : nat_lt e 0 ≡ false = grind (arith, nat_tests) in
    sym (ap (λ b. if b && nat_lt k (input_count p e) then routed_next p n (front_at fronts e k) (stage_at stages e k) (stage_at old e k) else stage_at old e k) t)

pub before-all : (p : Plan) (n : ℕ) (fronts : List (List (Option Flit))) (stages old : List (List Stage))
    (count e k : ℕ) → e < count → k < input_count p e
    → routed_before count p n fronts stages old e k ≡ routed_next p n (front_at fronts e k) (stage_at stages e k) (stage_at old e k)
before-all p n fronts stages old count e k there inside =
    let t : nat_lt e count ≡ true = grind (arith, nat_tests) in
    let u : nat_lt k (input_count p e) ≡ true = grind (arith, nat_tests) in
    ap (λ b. if b && nat_lt k (input_count p e) then routed_next p n (front_at fronts e k) (stage_at stages e k) (stage_at old e k) else stage_at old e k) t
    ∙ ap (λ b. if b then routed_next p n (front_at fronts e k) (stage_at stages e k) (stage_at old e k) else stage_at old e k) u

-- ---- lanes that were made for a plan

pub made-inputs : {T : Type 0} (p : Plan) (x : T) (v : List (List T)) (cs : List ℕ) → v ≡ map (λ c. replicate c x) cs
    → cs ≡ map (input_count p) (range_with_len 0 (length p.domains)) → HasInputs p v
made-inputs {T} p x v cs made counts = let P : List (List T) → Type 0 = HasInputs p in subst P (sym (made ∙ ap (map (λ c. replicate c x)) counts)) (new-inputs p x)

replicate-goes : (p : Plan) (f : Option Flit) (c k : ℕ) → GoesToTile p f → GoesToTile p (get_or (replicate c f) k None)
replicate-goes p f zero k goes = tt
replicate-goes p f (suc c) zero goes = goes
replicate-goes p f (suc c) (suc k) goes = replicate-goes p f c k goes

all-go : (p : Plan) (f : Option Flit) (cs : List ℕ) (d k : ℕ) → GoesToTile p f
    → GoesToTile p (front_at (map (λ c. replicate c f) cs) d k)
all-go p f [] d k goes = tt
all-go p f (c ∷ cs) zero k goes = replicate-goes p f c k goes
all-go p f (c ∷ cs) (suc d) k goes = all-go p f cs d k goes

pub made-goes : (p : Plan) (f : Option Flit) (v : List (List (Option Flit))) (cs : List ℕ)
    → v ≡ map (λ c. replicate c f) cs → GoesToTile p f → (d k : ℕ) → GoesToTile p (front_at v d k)
made-goes p f v cs made goes d k = let P : List (List (Option Flit)) → Type 0 = λ w. GoesToTile p (front_at w d k) in subst P (sym made) (all-go p f cs d k goes)
