use Rattle.std.proofs.Common.{ℕ, ◌+◌, ◌&&◌, length}
use Rattle.std.specs.Prelude.{not, ◌||◌}
use Rattle.aig_model.specs.Netlist.{Net}
use Rattle.aig_model.proofs.Netlists.{or-by-gates}
use Rattle.aig_gates.proofs.Inserted.{not-means, means-other}
use Rattle.aig_gates.proofs.gates.Netlist.or.Goals as goal

abbrev bound : Net → ℕ
bound n = n.start + length n.gates

pub and-requires-clause-first : goal.and-requires-clause-first
and-requires-clause-first c = c.complement.ensures.known (bound c.args.self.now) c.requires.first

pub and-requires-clause-second : goal.and-requires-clause-second
and-requires-clause-second c = c.complement-2.ensures.known (bound c.args.self.now) c.requires.second

pub returns-clause-known : goal.returns-clause-known
returns-clause-known c = c.complement-3.ensures.known (bound c.and.new.self) c.in_ok-neither.ensures.known

pub returns-clause-value : goal.returns-clause-value
returns-clause-value c f g a b =
    let n0 = c.args.self.now in
    let n1 = c.and.new.self in
    let nf = not-means n0 c.args.first c.complement.result f c.complement.ensures.known c.complement.ensures.value a in
    let ng = not-means n0 c.args.second c.complement-2.result g c.complement-2.ensures.known c.complement-2.ensures.value b in
    let none = c.in_ok-neither.ensures.value (λ v. not (f v)) (λ v. not (g v)) nf ng in
    means-other n1 c.complement-3.result (λ v. not (not (f v) && not (g v))) (λ v. f v || g v) (λ v. or-by-gates (f v) (g v))
    (not-means n1 c.in_ok-neither.neither c.complement-3.result (λ v. not (f v) && not (g v)) c.complement-3.ensures.known c.complement-3.ensures.value none)
