use Rattle.std.proofs.Common.{◌≡◌, ℕ, suc, ◌+◌, ◌∙◌, ap, subst, bit_or, arith}
use Rattle.label_model.specs.Labels.{sources, either, all_sources}
use Rattle.label_audit.specs.Bits.{domains_in}
use Rattle.label_audit.specs.Rows.{row_in, bit_in}
use Rattle.label_audit.proofs.Bits.{either-in}
use Rattle.label_audit.proofs.row.all_domains.Goals as goal

pub loop-i-preserved : goal.loop-i-preserved
loop-i-preserved c =
    let more : suc c.loop-i.i ≡ c.loop-i.i + 1 = omega arith in
    let here : domains_in c.domains-mask.result ≡ sources (bit_in (row_in c.args.row.now) c.loop-i.i) = c.domains-mask.ensures.set ∙ ap sources c.bit.ensures in
    subst (λ n. domains_in (bit_or c.loop-i.mask c.domains-mask.result) ≡ all_sources (bit_in (row_in c.args.row.now)) n) more
    (either-in c.loop-i.mask c.domains-mask.result ∙ ap (λ S. either S (domains_in c.domains-mask.result)) c.loop-i.invariant
    ∙ ap (either (all_sources (bit_in (row_in c.args.row.now)) c.loop-i.i)) here)
