use Rattle.std.proofs.Common.{ℕ, ◌+◌, ◌<◌, length, ◌∙◌, ap, sym, subst, arith}
use Rattle.aig_model.specs.Netlist.{Net, AreOf}
use Rattle.aig_gates.specs.Zips.{IsZipped}
use Rattle.aig_gates.proofs.Zipped.{combine-is}
use Rattle.aig_gates.proofs.gates.Netlist.combine.Goals as goal

abbrev bound : Net → ℕ
bound n = n.start + length n.gates

some : (n : Net) → 0 < n.start → 0 < bound n
some n front = omega (arith, front)

pub zip-requires : goal.zip-requires
zip-requires c =
    let n = c.args.self.now in
    let w = c.as_slice.ensures in
    let o = c.as_slice-2.ensures in
    let pos = some n c.known.ensures.front in
    record {
      same = ap length w ∙ c.in_ok-wide.ensures.count ∙ sym (ap length o ∙ c.in_ok-other.ensures.count);
      way = c.requires.way;
      first = subst (AreOf n) (sym w) (c.in_ok-wide.ensures.known (bound n) pos c.requires.first);
      second = subst (AreOf n) (sym o) (c.in_ok-other.ensures.known (bound n) pos c.requires.second);
    }

pub returns-clause-value : goal.returns-clause-value
returns-clause-value c =
    let n = c.args.self.now in
    let w = c.as_slice.ensures in
    let o = c.as_slice-2.ensures in
    let wide = c.in_ok-wide.wide in
    let other = c.in_ok-other.other in
    combine-is n c.zip.new.self c.args.way c.args.first.now c.args.second.now wide other c.in_ok-bits.bits c.longer-count.result c.known.ensures.front c.longer-count.ensures
    (record { known = c.in_ok-wide.ensures.known; count = c.in_ok-wide.ensures.count; value = c.in_ok-wide.ensures.value })
    (record { known = c.in_ok-other.ensures.known; count = c.in_ok-other.ensures.count; value = c.in_ok-other.ensures.value })
    (subst (λ xs. IsZipped n c.zip.new.self c.args.way xs other c.in_ok-bits.bits (length xs)) w
    (subst (λ ys. IsZipped n c.zip.new.self c.args.way c.as_slice.result.now ys c.in_ok-bits.bits (length c.as_slice.result.now)) o c.in_ok-bits.ensures.bits))
