use Rattle.std.proofs.Common.{◌≡◌, ◌≤◌, ◌-◌, Err, length, ap, ◌∙◌, arith}
use Rattle.std.specs.List.{prefix_len}
use Rattle.vl_tree.specs.Read.{read_design}
use Rattle.vl_tree.specs.Tokens.{tokens_of, unread}
use Rattle.vl_tree.specs.Reading.{design_at}
use Rattle.vl_tree.specs.Spells.{is_text_byte}
use Rattle.vl_tree.specs.declared.fault.TextFault.TheVariants as faults
use Rattle.vl_tree.proofs.Designs.{fault_within}
use Rattle.vl_read.proofs.Faulted.{byte_here, byte_place, no_byte, some_byte, token_here, spelled_here, spelled_read, grammar_here, one_place, not_spelled}
use Rattle.vl_read.proofs.design.read_design.Goals as goal

pub returns-then-clean-len-clause-complete : goal.returns-then-clean-len-clause-complete
returns-then-clean-len-clause-complete c =
    let bs = c.args.bytes.now in
    λ d s. absurd (some_byte bs c.text_len-clean.result c.text_len-clean.ensures.value c.if-clean-len.true s.clean)

pub returns-then-clean-len-clause-err : goal.returns-then-clean-len-clause-err
returns-then-clean-len-clause-err c =
    let bs = c.args.bytes.now in
    byte_here bs c.text_len-clean.result c.text_len-clean.ensures.value c.if-clean-len.true

pub returns-then-clean-len-clause-byte : goal.returns-then-clean-len-clause-byte
returns-then-clean-len-clause-byte c =
    let bs = c.args.bytes.now in
    λ n f. ap (λ m. Err (faults.Byte m)) (c.text_len-clean.ensures.value ∙ (byte_place bs n f).0)

pub returns-then-clean-len-clause-token : goal.returns-then-clean-len-clause-token
returns-then-clean-len-clause-token c =
    let bs = c.args.bytes.now in
    λ n f. absurd (some_byte bs c.text_len-clean.result c.text_len-clean.ensures.value c.if-clean-len.true f.clean)

pub returns-then-clean-len-clause-grammar : goal.returns-then-clean-len-clause-grammar
returns-then-clean-len-clause-grammar c =
    let bs = c.args.bytes.now in
    λ n f. absurd (some_byte bs c.text_len-clean.result c.text_len-clean.ensures.value c.if-clean-len.true f.clean)

pub returns-then-left-gt0-clause-err : goal.returns-then-left-gt0-clause-err
returns-then-left-gt0-clause-err c =
    let bs = c.args.bytes.now in
    let clean : length bs ≤ prefix_len is_text_byte bs =
    omega (arith, c.if-clean-len.false, c.text_len-clean.ensures.value) in
    token_here bs (length bs - c.unread-left.result) c.unread-left.result clean c.unread-left.ensures.value c.if-left-gt0.true c.unread-left.ensures.within (omega arith)

pub returns-then-left-gt0-clause-byte : goal.returns-then-left-gt0-clause-byte
returns-then-left-gt0-clause-byte c =
    let bs = c.args.bytes.now in
    let clean : length bs ≤ prefix_len is_text_byte bs =
    omega (arith, c.if-clean-len.false, c.text_len-clean.ensures.value) in
    λ n f. absurd (no_byte bs n clean f)

pub returns-in-Ok-clause-byte : goal.returns-in-Ok-clause-byte
returns-in-Ok-clause-byte c =
    let bs = c.args.bytes.now in
    let clean : length bs ≤ prefix_len is_text_byte bs =
    omega (arith, c.if-clean-len.false, c.text_len-clean.ensures.value) in
    λ n f. absurd (no_byte bs n clean f)

pub returns-in-Err-Memory-clause-byte : goal.returns-in-Err-Memory-clause-byte
returns-in-Err-Memory-clause-byte c =
    let bs = c.args.bytes.now in
    let clean : length bs ≤ prefix_len is_text_byte bs =
    omega (arith, c.if-clean-len.false, c.text_len-clean.ensures.value) in
    λ n f. absurd (no_byte bs n clean f)

pub returns-in-Err-At-clause-byte : goal.returns-in-Err-At-clause-byte
returns-in-Err-At-clause-byte c =
    let bs = c.args.bytes.now in
    let clean : length bs ≤ prefix_len is_text_byte bs =
    omega (arith, c.if-clean-len.false, c.text_len-clean.ensures.value) in
    λ n f. absurd (no_byte bs n clean f)

pub returns-in-Ok-clause-ok : goal.returns-in-Ok-clause-ok
returns-in-Ok-clause-ok c =
    let bs = c.args.bytes.now in
    let clean : length bs ≤ prefix_len is_text_byte bs =
    omega (arith, c.if-clean-len.false, c.text_len-clean.ensures.value) in
    let whole : unread bs ≡ 0 = omega (arith, c.if-left-gt0.false, c.unread-left.ensures.value) in
    spelled_here bs (read_design c.in-Ok.design) clean whole c.in-Ok.ensures

pub returns-in-Ok-clause-complete : goal.returns-in-Ok-clause-complete
returns-in-Ok-clause-complete c =
    let bs = c.args.bytes.now in
    λ d s. let a = spelled_read bs d s in let b = c.in-Ok.ensures in cc (a, b)

pub returns-in-Ok-clause-grammar : goal.returns-in-Ok-clause-grammar
returns-in-Ok-clause-grammar c =
    let bs = c.args.bytes.now in
    let clean : length bs ≤ prefix_len is_text_byte bs =
    omega (arith, c.if-clean-len.false, c.text_len-clean.ensures.value) in
    let whole : unread bs ≡ 0 = omega (arith, c.if-left-gt0.false, c.unread-left.ensures.value) in
    λ n f. absurd (not_spelled bs n (read_design c.in-Ok.design) f (spelled_here bs (read_design c.in-Ok.design) clean whole c.in-Ok.ensures))

pub overflow_sub-result-in-Err-At : goal.overflow_sub-result-in-Err-At
overflow_sub-result-in-Err-At c =
    let bs = c.args.bytes.now in
    let e : design_at (tokens_of bs) ≡ Err c.in-Err-At.left = rw c.in-Err-At.field-0-is at c.in-Err-At.ensures in
    fault_within bs c.in-Err-At.left e

pub returns-in-Err-At-clause-complete : goal.returns-in-Err-At-clause-complete
returns-in-Err-At-clause-complete c =
    let bs = c.args.bytes.now in
    let e : design_at (tokens_of bs) ≡ Err c.in-Err-At.left = rw c.in-Err-At.field-0-is at c.in-Err-At.ensures in
    λ d s. let a = spelled_read bs d s in absurd (cc (a, e))

pub returns-in-Err-At-clause-err : goal.returns-in-Err-At-clause-err
returns-in-Err-At-clause-err c =
    let bs = c.args.bytes.now in
    let clean : length bs ≤ prefix_len is_text_byte bs =
    omega (arith, c.if-clean-len.false, c.text_len-clean.ensures.value) in
    let whole : unread bs ≡ 0 = omega (arith, c.if-left-gt0.false, c.unread-left.ensures.value) in
    let e : design_at (tokens_of bs) ≡ Err c.in-Err-At.left = rw c.in-Err-At.field-0-is at c.in-Err-At.ensures in
    grammar_here bs c.in-Err-At.left clean whole e

pub returns-in-Err-At-clause-grammar : goal.returns-in-Err-At-clause-grammar
returns-in-Err-At-clause-grammar c =
    let bs = c.args.bytes.now in
    let clean : length bs ≤ prefix_len is_text_byte bs =
    omega (arith, c.if-clean-len.false, c.text_len-clean.ensures.value) in
    let whole : unread bs ≡ 0 = omega (arith, c.if-left-gt0.false, c.unread-left.ensures.value) in
    let e : design_at (tokens_of bs) ≡ Err c.in-Err-At.left = rw c.in-Err-At.field-0-is at c.in-Err-At.ensures in
    λ n f. ap faults.Grammar (one_place bs (length bs - c.in-Err-At.left) n (grammar_here bs c.in-Err-At.left clean whole e).at f.at)
