use Rattle.std.proofs.Common.{◌≡◌, ℕ, ◌+◌, ◌-◌, List, [], length, map, get_or, ◌∙◌, ap, sym, subst}
use Rattle.std.specs.Prelude.{Some, None}
use Rattle.vl_run.specs.Emit.{place_in}
use Rattle.label_model.specs.Verdict.{first_of, leak_here}
use Rattle.label_model.specs.Labels.{Label}
use Rattle.label_audit.specs.Bits.{domains_in}
use Rattle.label_audit.specs.Rows.{row_in, row_sources, rows_by}
use Rattle.label_audit.specs.Whole.{domain_at, phase_in}
use Rattle.label_audit.specs.Leaks.{row_foreign, leak_in, port_rows}
use Rattle.label_audit.proofs.Instances.{rows-at}
use Rattle.label_audit.proofs.Judged.{leak-step, foreign-row}
use Rattle.label_audit.proofs.leaks.port_leak.Goals as goal

pub returns-in-Some : goal.returns-in-Some
returns-in-Some c =
    let own : ℕ = c.owner-own.result in
    let D : ℕ = domain_at c.args.shape.now.plan.now.hosts c.args.position in
    let p : ℕ = c.args.position in
    let t = place_in c.args.shape.now.declared.now in
    let row : ℕ → List Label = port_rows t (phase_in c.args.tops.now) c.args.port.now.name in
    let f : ℕ = c.loop-f.f in
    let n : ℕ = length c.args.tops.now in
    let here : row_in c.shown-row.result.now ≡ row f = c.shown-row.ensures ∙ ap (λ rows. rows_by t rows c.args.port.now.name) (ap (map row_in) c.of_instance.ensures ∙ rows-at c.args.tops.now f) in
    let mask : domains_in c.all_domains.result ≡ row_sources (row f) = c.all_domains.ensures ∙ ap row_sources here in
    let found : row_foreign own (row f) ≡ Some c.in-Some.e = sym (foreign-row own c.all_domains.result (row f) mask) ∙ sym c.in-Some.ensures in
    let mine : row_foreign D (row f) ≡ Some c.in-Some.e = subst (λ z. row_foreign z (row f) ≡ Some c.in-Some.e) c.owner-own.ensures found in
    sym (c.loop-f.invariant ∙ leak-step D p row f n c.loop-f-test.true ∙ ap (λ o. leak_here p f o (leak_in D p row (f + 1) (n - (f + 1)))) mine)

pub loop-f-preserved : goal.loop-f-preserved
loop-f-preserved c =
    let own : ℕ = c.owner-own.result in
    let D : ℕ = domain_at c.args.shape.now.plan.now.hosts c.args.position in
    let p : ℕ = c.args.position in
    let t = place_in c.args.shape.now.declared.now in
    let row : ℕ → List Label = port_rows t (phase_in c.args.tops.now) c.args.port.now.name in
    let f : ℕ = c.loop-f.f in
    let n : ℕ = length c.args.tops.now in
    let here : row_in c.shown-row.result.now ≡ row f = c.shown-row.ensures ∙ ap (λ rows. rows_by t rows c.args.port.now.name) (ap (map row_in) c.of_instance.ensures ∙ rows-at c.args.tops.now f) in
    let mask : domains_in c.all_domains.result ≡ row_sources (row f) = c.all_domains.ensures ∙ ap row_sources here in
    let found : row_foreign own (row f) ≡ None = sym (foreign-row own c.all_domains.result (row f) mask) ∙ sym c.foreign.ensures ∙ c.in_default.is in
    let mine : row_foreign D (row f) ≡ None = subst (λ z. row_foreign z (row f) ≡ None) c.owner-own.ensures found in
    c.loop-f.invariant ∙ leak-step D p row f n c.loop-f-test.true ∙ ap (λ o. leak_here p f o (leak_in D p row (f + 1) (n - (f + 1)))) mine
