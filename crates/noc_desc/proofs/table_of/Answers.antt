use Rattle.std.proofs.Common.{inl, inr, sym, ◌∙◌}
use Rattle.std.proofs.lemmas.Bool.{cases_Bool, false≢true}
use Rattle.std.proofs.lemmas.Str.{IsUtf8-from_is_utf8, is_utf8-from_IsUtf8}
use Rattle.std.specs.Str.{is_utf8}
use Rattle.toml.specs.Errors.{IsMemory}
use Rattle.noc_desc.specs.Draft.{table_of}
use Rattle.noc_desc.proofs.table_of.Goals as goal

pub returns-in-Ok-clause-ok : goal.returns-in-Ok-clause-ok
unfolding table_of
returns-in-Ok-clause-ok c =
    let seen = is_utf8-from_IsUtf8 c.args.bytes.now c.in-Ok.ensures.ok.0 in
    rw seen c.in-Ok.ensures.ok.1

pub returns-else-is_memory-clause-fault : goal.returns-else-is_memory-clause-fault
unfolding table_of
returns-else-is_memory-clause-fault c _ =
    let not_memory : ¬ (IsMemory c.in-Err.error) =
    λ m. false≢true (sym c.if-is_memory.false ∙ c.is_memory.ensures.1 m) in
    elim (cases_Bool (is_utf8 c.args.bytes.now)) [
      | inl valid ↦ rw (valid, c.in-Err.ensures.refused not_memory (IsUtf8-from_is_utf8 c.args.bytes.now valid))
      | inr invalid ↦ rw invalid
    ]
