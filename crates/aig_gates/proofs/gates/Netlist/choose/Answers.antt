use Rattle.std.proofs.Common.{ℕ, ◌+◌, ◌&&◌, length}
use Rattle.std.specs.Prelude.{not, ◌||◌, if◌then◌else◌}
use Rattle.aig_model.specs.Netlist.{Net}
use Rattle.aig_model.proofs.Netlists.{wider, means-grows}
use Rattle.aig_gates.proofs.Inserted.{not-means, means-other}
use Rattle.aig_gates.proofs.Zipped.{choose-by-gates}
use Rattle.aig_gates.proofs.gates.Netlist.choose.Goals as goal

abbrev bound : Net → ℕ
bound n = n.start + length n.gates

pub and-requires-2-clause-first : goal.and-requires-2-clause-first
and-requires-2-clause-first c = c.complement.ensures.known (bound c.and.new.self) (wider c.args.self.now c.and.new.self c.and.ensures.grows c.args.test c.requires.test)

pub returns-clause-value : goal.returns-clause-value
returns-clause-value c h f g k a b =
    let n0 = c.args.self.now in
    let n1 = c.and.new.self in
    let n2 = c.and-2.new.self in
    let n3 = c.or.new.self in
    let g1 = c.and.ensures.grows in
    let yes = c.in_ok-yes.ensures.value h f k a in
    let nh = not-means n1 c.args.test c.complement.result h c.complement.ensures.known c.complement.ensures.value (means-grows n0 n1 g1 c.args.test h k) in
    let no = c.in_ok-no.ensures.value (λ v. not (h v)) g nh (means-grows n0 n1 g1 c.args.second g b) in
    means-other n3 c.in_ok-chosen.chosen (λ v. (h v && f v) || (not (h v) && g v)) (λ v. if h v then f v else g v) (λ v. choose-by-gates (h v) (f v) (g v))
    (c.in_ok-chosen.ensures.value (λ v. h v && f v) (λ v. not (h v) && g v) (means-grows n1 n2 c.and-2.ensures.grows c.in_ok-yes.yes (λ v. h v && f v) yes) no)
