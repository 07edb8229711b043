use Rattle.std.proofs.Common.{ℕ, ◌+◌, ◌&&◌, length}
use Rattle.std.specs.Prelude.{not}
use Rattle.aig_model.specs.Netlist.{Net}
use Rattle.aig_model.proofs.Netlists.{wider, means-grows, grows-twice}
use Rattle.aig_gates.proofs.Inserted.{not-means}
use Rattle.aig_gates.proofs.gates.Netlist.below.Goals as goal

abbrev bound : Net → ℕ
bound n = n.start + length n.gates

pub and-requires-clause-first : goal.and-requires-clause-first
and-requires-clause-first c = c.complement.ensures.known (bound c.args.self.now) c.requires.first

pub and-requires-2-clause-second : goal.and-requires-2-clause-second
and-requires-2-clause-second c = c.complement-2.ensures.known (bound c.and.new.self) (wider c.args.self.now c.and.new.self c.and.ensures.grows c.args.second c.requires.second)

pub and-requires-3-clause-second : goal.and-requires-3-clause-second
and-requires-3-clause-second c = c.complement-3.ensures.known (bound c.and-2.new.self) c.in_ok-more.ensures.known

pub returns-clause-value : goal.returns-clause-value
returns-clause-value c f g h a b k =
    let n0 = c.args.self.now in
    let n1 = c.and.new.self in
    let n2 = c.and-2.new.self in
    let n3 = c.and-3.new.self in
    let g1 = c.and.ensures.grows in
    let g2 = grows-twice n0 n1 n2 g1 c.and-2.ensures.grows in
    let nf = not-means n0 c.args.first c.complement.result f c.complement.ensures.known c.complement.ensures.value a in
    let less = c.in_ok-less.ensures.value (λ v. not (f v)) g nf b in
    let ng = not-means n1 c.args.second c.complement-2.result g c.complement-2.ensures.known c.complement-2.ensures.value (means-grows n0 n1 g1 c.args.second g b) in
    let more = c.in_ok-more.ensures.value f (λ v. not (g v)) (means-grows n0 n1 g1 c.args.first f a) ng in
    let nm = not-means n2 c.in_ok-more.more c.complement-3.result (λ v. f v && not (g v)) c.complement-3.ensures.known c.complement-3.ensures.value more in
    let still = c.in_ok-still.ensures.value h (λ v. not (f v && not (g v))) (means-grows n0 n2 g2 c.args.before h k) nm in
    c.in_ok-lower.ensures.value (λ v. not (f v) && g v) (λ v. h v && not (f v && not (g v)))
    (means-grows n1 n3 (grows-twice n1 n2 n3 c.and-2.ensures.grows c.and-3.ensures.grows) c.in_ok-less.less (λ v. not (f v) && g v) less) still
