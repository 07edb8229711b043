use Rattle.std.proofs.Common.{refl, ap, ◌∙◌}
use Rattle.surf_base.specs.Outside.{Holds}
use Rattle.surf_base.proofs.MemFilesLemmas.{held_in-put, held_in-others, left-put}
use Rattle.surf_base.proofs.mem_files.MemFiles.put.Goals as goal

pub returns-clause-held : goal.returns-clause-held
returns-clause-held c =
    held_in-put _ _ _ c.args.name.now c.in_ok-push.ensures.items (c.in_ok-name.ensures ∙ c.as_bytes.ensures.value)
    ∙ ap Holds c.in_ok-content.ensures

pub returns-clause-others : goal.returns-clause-others
returns-clause-others c other differs =
    held_in-others _ _ _ c.args.name.now other c.in_ok-push.ensures.items (c.in_ok-name.ensures ∙ c.as_bytes.ensures.value) differs

pub returns-clause-rest : goal.returns-clause-rest
returns-clause-rest c = record {
  opened = refl;
  left = left-put _ _ _ _ _ _ c.args.self.now.in_range c.in_ok-push.ensures.items;
  taken = refl;
  step = refl;
  script = refl;
}
