use Rattle.std.proofs.Common.{◌≡◌, ◌<◌, ◌+◌, ◌*◌, ℕ, [], length, get_or, IsSome, ◌∙◌, sym, ap, subst, arith}
use Rattle.std.specs.Prelude.{pos}
use Rattle.std.proofs.lemmas.List.{get_or_read}
use Rattle.std.proofs.lemmas.Nat.{mul-le}
use Rattle.std.proofs.lemmas.Option.{slice_get-get_or}
use Rattle.noc_model.specs.Plan.{tiles, ports}
use Rattle.noc_model.specs.Place.{neighbour}
use Rattle.noc_model.specs.Run.{State}
use Rattle.noc_model.specs.Shared.{own_places}
use Rattle.noc_model.proofs.Switched.{link-below}
use Rattle.credit_links.specs.Rows.{place_at}
use Rattle.cycle_sim.specs.Links.{row_of}
use Rattle.cycle_sim.specs.Net.{Kept, Shows}
use Rattle.cycle_sim.proofs.Numbers.{number-below, some-there}
use Rattle.cycle_sim.proofs.net.Net.link.Goals as goal

pub index-requires : goal.index-requires
index-requires c =
    let p = c.self.inside.plan in
    let n = c.args.n in
    let port = c.args.port in
    let inside : n < tiles p = subst (λ (k : Kept). n < tiles k.plan) (sym c.self.view_is) c.requires.tile in
    let linked : IsSome (neighbour p n port) = subst (λ (k : Kept). IsSome (neighbour k.plan n port)) (sym c.self.view_is) c.requires.link in
    let low = number-below p n port inside (link-below p n port linked) in
    let count = ap (λ k. n * k + port) c.ports.ensures.value in
    let long = c.self.invariant.0.rows in
    let len = c.self.inside.rows.ok.0 in
    omega (arith, low, count, long, len)

pub returns-clause-row : goal.returns-clause-row
returns-clause-row c =
    let p = c.self.inside.plan in
    let n = c.args.n in
    let port = c.args.port in
    let rows = c.self.inside.rows.items in
    let inside : n < tiles p = subst (λ (k : Kept). n < tiles k.plan) (sym c.self.view_is) c.requires.tile in
    let linked : IsSome (neighbour p n port) = subst (λ (k : Kept). IsSome (neighbour k.plan n port)) (sym c.self.view_is) c.requires.link in
    let low = number-below p n port inside (link-below p n port linked) in
    let count = ap (λ k. n * k + port) c.ports.ensures.value in
    let below : n * c.ports.result + port < length rows = omega (arith, low, count, c.self.invariant.0.rows) in
    get_or_read rows (n * c.ports.result + port) c.index.result.now below c.index.ensures [] ∙ ap (λ j. get_or rows j []) count
    ∙ ap (λ (k : Kept). row_of k.plan k.rows n port) c.self.view_is

pub returns-clause-places : goal.returns-clause-places
returns-clause-places c =
    let p = c.self.inside.plan in
    let n = c.args.n in
    let port = c.args.port in
    let rows = c.self.inside.rows.items in
    let inside : n < tiles p = subst (λ (k : Kept). n < tiles k.plan) (sym c.self.view_is) c.requires.tile in
    let linked : IsSome (neighbour p n port) = subst (λ (k : Kept). IsSome (neighbour k.plan n port)) (sym c.self.view_is) c.requires.link in
    let low = number-below p n port inside (link-below p n port linked) in
    let count = ap (λ k. n * k + port) c.ports.ensures.value in
    let below : n * c.ports.result + port < length rows = omega (arith, low, count, c.self.invariant.0.rows) in
    let below' : n * ports p + port < length rows = omega (arith, low, c.self.invariant.0.rows) in
    ap length (get_or_read rows (n * c.ports.result + port) c.index.result.now below c.index.ensures [] ∙ ap (λ j. get_or rows j []) count)
    ∙ c.self.invariant.0.row (n * ports p + port) (row_of p rows n port) (slice_get-get_or rows (n * ports p + port) [] below')
    ∙ ap (λ (k : Kept). k.plan.stages) c.self.view_is

pub returns-clause-shared : goal.returns-clause-shared
returns-clause-shared c =
    let p = c.self.inside.plan in
    let n = c.args.n in
    let port = c.args.port in
    let rows = c.self.inside.rows.items in
    let inside : n < tiles p = subst (λ (k : Kept). n < tiles k.plan) (sym c.self.view_is) c.requires.tile in
    let linked : IsSome (neighbour p n port) = subst (λ (k : Kept). IsSome (neighbour k.plan n port)) (sym c.self.view_is) c.requires.link in
    let to = some-there (neighbour p n port) linked in
    let low = number-below p n port inside (link-below p n port linked) in
    let count = ap (λ k. n * k + port) c.ports.ensures.value in
    let below : n * c.ports.result + port < length rows = omega (arith, low, count, c.self.invariant.0.rows) in
    let read = get_or_read rows (n * c.ports.result + port) c.index.result.now below c.index.ensures [] ∙ ap (λ j. get_or rows j []) count in
    subst (λ (k : Kept). (d i : ℕ) (s : State) → Shows k d s → i < k.plan.stages → (s n).row port i ≡ own_places k.plan d n port (pos k.cycle) (place_at c.index.result.now) i)
    c.self.view_is
    (λ d i s shown less. shown.rows n port to.0 i inside to.1 less ∙ ap (λ xs. own_places p d n port (pos c.self.inside.cycle) (place_at xs) i) (sym read))

pub overflow_add-n : goal.overflow_add-n
overflow_add-n c =
    let p = c.self.inside.plan in
    let n = c.args.n in
    let port = c.args.port in
    let inside : n < tiles p = subst (λ (k : Kept). n < tiles k.plan) (sym c.self.view_is) c.requires.tile in
    let linked : IsSome (neighbour p n port) = subst (λ (k : Kept). IsSome (neighbour k.plan n port)) (sym c.self.view_is) c.requires.link in
    let low = number-below p n port inside (link-below p n port linked) in
    let count = ap (λ k. n * k + port) c.ports.ensures.value in
    let few = mul-le (tiles p) (ports p) 256 7 c.known.ensures.tile_count (omega (arith, c.ports.ensures.value, c.ports.ensures.few)) in
    omega (arith, low, count, few)
