-- What the files in memory hold and give.
use Rattle.std.specs.Prelude.{◌≡◌, ℕ, if◌then◌else◌, List, drop, Option, Some, None}
use Rattle.surf_base.specs.Outside.{Held}
use Rattle.surf_base.specs.HeldIn.{held_in, content_at}
use Rattle.surf_base.specs.declared.mem_files.MemFiles.{MemFiles}

-- what is held under each name
abbrev pub held_of : MemFiles → List ℕ → Held
held_of files = held_in files.files.items

-- what is left of the opened file
abbrev pub left_of : MemFiles → Option (List ℕ)
left_of files = if files.opened then Some (drop files.taken (content_at files.files.items files.file)) else None

-- two states that differ in no more than what is held
pub record SameButHeld (old new : MemFiles) : Type 0 where
  pub opened : new.opened ≡ old.opened
  pub left : left_of new ≡ left_of old
  pub taken : new.taken ≡ old.taken
  pub step : new.step ≡ old.step
  pub script : new.script ≡ old.script
