use Rattle.std.proofs.Common.{◌<◌, length, sym, ap, ◌∙◌, arith}
use Rattle.std.specs.Str.{bytes_eq}
use Rattle.std.specs.List.{list_any}
use Rattle.vl_tree.specs.Tokens.{split}
use Rattle.vl_read.proofs.Scans.{among_first, among_last, among_more}
use Rattle.vl_read.proofs.scan.+is_among.Goals as goal

pub returns-then-same : goal.returns-then-same
returns-then-same t c =
    sym (among_first c.args.bytes.now c.args.text.now c.len_before-n.result c.len_before-n.ensures.value c.len_before-n.ensures.within (ap (bytes_eq c.args.bytes.now) (sym c.before-2.ensures) ∙ sym c.same.ensures ∙ c.if-same.true))

pub returns-then-n-text : goal.returns-then-n-text
returns-then-n-text t c =
    sym (among_last c.args.bytes.now c.args.text.now c.len_before-n.result c.len_before-n.ensures.value c.if-n-text.true (ap (bytes_eq c.args.bytes.now) (sym c.before-2.ensures) ∙ sym c.same.ensures ∙ c.if-same.false))

pub returns : goal.returns
returns t c =
    let lt : c.len_before-n.result < length c.args.text.now =
    omega (arith, c.len_before-n.ensures.within, c.if-n-text.false) in
    c.is_among.ensures ∙ ap (λ bs. list_any (bytes_eq c.args.bytes.now) (split bs)) c.behind.ensures
    ∙ sym (among_more c.args.bytes.now c.args.text.now c.len_before-n.result c.len_before-n.ensures.value lt (ap (bytes_eq c.args.bytes.now) (sym c.before-2.ensures) ∙ sym c.same.ensures ∙ c.if-same.false))
