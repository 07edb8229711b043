use Rattle.std.proofs.Common.{◌≡◌, Some, ap, ◌∙◌, sym, subst, string_bytes}
use Rattle.std.proofs.lemmas.Str.{IsUtf8-string_bytes}
use Rattle.toml.specs.View.{table_view}
use Rattle.noc_desc.specs.Draft.{table_of}
use Rattle.noc_desc.specs.Document.{lists_of, document}
use Rattle.noc_desc.proofs.Written.{table-written}
use Rattle.noc_desc.proofs.write.write_draft.Goals as goal
use Rattle.noc_desc.proofs.ReadBack.{none-written, draft-written}

pub returns-in-Ok-clause-table : goal.returns-in-Ok-clause-table
returns-in-Ok-clause-table c =
    subst (λ bytes. table_of bytes ≡ Some (document c.args.draft.now)) (sym (ap (λ v. v.items) c.into_bytes.ensures.value))
    (table-written (string_bytes c.in-Ok.text) (table_view c.put_lists.new.table) c.args.draft.now (IsUtf8-string_bytes c.in-Ok.text) c.in-Ok.ensures.reads_back
    (c.in_ok-put_lists.ensures ∙ ap (lists_of c.args.draft.now) c.in_ok-table.ensures))

pub returns-in-Ok-clause-no_fault : goal.returns-in-Ok-clause-no_fault
returns-in-Ok-clause-no_fault c weighted =
    none-written c.into_bytes.result.items c.args.draft.now (returns-in-Ok-clause-table c) weighted

pub returns-in-Ok-clause-reads_back : goal.returns-in-Ok-clause-reads_back
returns-in-Ok-clause-reads_back c =
    draft-written c.into_bytes.result.items c.args.draft.now (returns-in-Ok-clause-table c)
