-- What an audit's answers say of a design.
use Rattle.std.proofs.Common.{◌≡◌, ℕ, zero, suc, ◌+◌, ◌<◌, Bool, true, false, List, [], ◌∷◌, length, map, refl, sym, ◌∙◌, ap, subst}
use Rattle.std.specs.Prelude.{Some, None, codes, slice_get}
use Rattle.std.proofs.lemmas.Option.{none-some}
use Rattle.vl_tree.specs.declared.tree.Port.{Port}
use Rattle.vl_tree.specs.Values.{Name, Design}
use Rattle.vl_model.specs.Lines.{Line, heading, joint, top_lines, lookup, kind_passes, way_of, is_net, is_output, net_bits}
use Rattle.vl_model.specs.Rules.{IsSound, is_kind}
use Rattle.vl_model.specs.Whole.{top_widths}
use Rattle.vl_model.proofs.Passed.{top-sound}
use Rattle.vl_run.proofs.Inputs.{First, are-first}
use Rattle.label_model.specs.Labels.{sources}
use Rattle.label_model.proofs.Below.{sources-below}
use Rattle.label_model.proofs.Least.{least-isolates, nets-rise}
use Rattle.label_model.proofs.Verdicts.{no-leak-is-clean}
use Rattle.label_model.proofs.First.{leak-is-first}
use Rattle.label_audit.specs.Audited.{port_domain}
use Rattle.label_audit.specs.Laws.{CleanTextIsolates, LeakIsUnclean}
use Rattle.noc_model.specs.Limits.{most_domains}

pub clean-text-isolates : CleanTextIsolates
clean-text-isolates p d sound some v e =
    least-isolates d sound (port_domain p) (length p.slots) some
    (no-leak-is-clean d (port_domain p) most_domains (length p.slots) v) e

-- the port at a place is declared as it stands there
declared-at : (all : List Line) (ps : List Port) (i : ℕ) (q : Port) → slice_get ps i ≡ Some q → First all ps
    → lookup all q.name ≡ Some (record { name = q.name; kind = way_of q.output; high = q.high; last = 0 })
declared-at all [] i q e a = absurd (none-some q e)
declared-at all (x ∷ ps) zero q e a =
    let one : x ≡ q = cc in
    subst (λ (z : Port). lookup all z.name ≡ Some (record { name = z.name; kind = way_of z.output; high = z.high; last = 0 })) one a.0
declared-at all (x ∷ ps) (suc i) q e a = declared-at all ps i q e a.1

pub leak-is-unclean : LeakIsUnclean
leak-is-unclean p d sound port phase foreign v clean =
    let owner = port_domain p in
    let L = length p.slots in
    let first = leak-is-first d owner most_domains L (record { port = port; phase = phase; foreign = foreign }) v in
    let least = first.1 in
    let at = first.2.leaks in
    let q = at.0 in
    let other = clean.1 in
    let bit = at.3.1 in
    let firsts = (are-first d.leaves (top_lines d.top) (heading (codes "noc") ∷ []) d.top.ports (map joint d.top.items) refl
    (top-sound d sound.rules).once.1).0 in
    let known = declared-at (top_lines d.top) d.top.ports port q at.1 firsts in
    let out : is_kind is_output (top_lines d.top) q.name ≡ true = ap (kind_passes is_output) known ∙ ap (λ b. is_output (way_of b)) at.2 in
    let net : is_kind is_net (top_lines d.top) q.name ≡ true = ap (kind_passes is_net) known ∙ ap (λ b. is_net (way_of b)) at.2 in
    let wide : (top_widths d).net q.name ≡ q.high + 1 = ap net_bits known ∙ ap (λ b. net_bits (Some (record { name = q.name; kind = way_of b; high = q.high; last = 0 }))) at.2 in
    let within : bit.0 < (top_widths d).net q.name = subst (λ w. bit.0 < w) (sym wide) bit.1 in
    let below = (nets-rise d sound owner (first.0 phase) (clean.0 phase) (least.lawful.right phase first.2.phase) (other.lawful.right phase first.2.phase)
    (least.least clean.0 other.lawful phase first.2.phase)).0 q.name net bit.0 within in
    at.3.0 (clean.2 q.name out phase first.2.phase bit.0 within foreign (sources-below _ _ below foreign bit.2))
