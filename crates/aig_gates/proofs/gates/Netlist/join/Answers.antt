use Rattle.std.proofs.Common.{◌≡◌, ℕ, ◌+◌, ◌%◌, ◌^◌, Bool, false, length, ◌∙◌, ap, sym, subst}
use Rattle.std.specs.Prelude.{min}
use Rattle.aig_model.specs.Form.{word}
use Rattle.aig_model.specs.Netlist.{AreOf, settle_gates}
use Rattle.aig_gates.specs.Zips.{AreBelow}
use Rattle.aig_gates.proofs.Inserted.{no-variable}
use Rattle.aig_gates.proofs.Zipped.{bound-some, cut-64, join-is, sum-join}
use Rattle.aig_gates.proofs.gates.Netlist.join.Goals as goal

pub returns-then-back-count-clause-value : goal.returns-then-back-count-clause-value
returns-then-back-count-clause-value c =
    let n = c.args.self.now in
    let front = c.known.ensures.front in
    let k : ℕ = n.start + length n.gates in
    let pos = bound-some n front in
    let all = c.in_ok-all.all in
    let bits = c.in_ok-bits.bits in
    record {
      known = c.in_ok-bits.ensures.known k pos (subst (AreBelow k) (sym c.as_slice.ensures) (c.in_ok-all.ensures.known k pos c.requires.back c.requires.front));
      value = λ v e.
          let s : ℕ → Bool = settle_gates n v in
          let none : s 0 ≡ false = no-variable n.start n.gates v front e in
          join-is s c.args.front.now c.args.back.now all bits c.args.count c.if-back-count.true (c.in_ok-all.ensures.value s none)
          (c.in_ok-bits.ensures.value s none ∙ ap (λ xs. word s xs % 2 ^ c.min-size.result) c.as_slice.ensures ∙ cut-64 s all c.min-size.result (c.min-size.ensures ∙ ap (λ l. min l 64) c.len.ensures));
    }

pub add-requires-clause-first : goal.add-requires-clause-first
add-requires-clause-first c =
    let n = c.args.self.now in
    subst (AreOf n) (sym c.as_slice-2.ensures) (c.in_ok-high.ensures.known (n.start + length n.gates) (bound-some n c.known.ensures.front) tt c.requires.front)

pub returns-clause-value : goal.returns-clause-value
returns-clause-value c =
    let n = c.args.self.now in
    let m = c.in_ok-bits-2.ensures.value in
    record {
      known = m.known;
      value = λ v e.
          let s : ℕ → Bool = settle_gates n v in
          let none : s 0 ≡ false = no-variable n.start n.gates v c.known.ensures.front e in
          m.value v e ∙ ap (λ xs. (word s xs + word s c.args.back.now) % 2 ^ 64) c.as_slice-2.ensures
          ∙ sum-join (word s c.args.front.now) (2 ^ c.args.count) (word s c.args.back.now) (word s c.in_ok-high.high) (c.in_ok-high.ensures.value s none);
    }
