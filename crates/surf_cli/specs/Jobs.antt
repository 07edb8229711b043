-- What a command asks for: its files, and what is done with what they hold.
use Rattle.std.specs.Prelude.{ℕ, ◌≤◌, List}
use Rattle.noc_model.specs.Limits.{most_cycles}
use Rattle.surf_cli.specs.Files.{NamedFile}

-- what is done with what the files hold
pub data Job : Type 0 where
  Schedule : (cycles : ℕ) → Job
  Check : Job
  Routes : Job
  Simulate : (cycles : ℕ) → Job
  Report : (cycles : ℕ) (domain : List ℕ) → Job
  Upgrade : Job
  Replay : (cycles : ℕ) → Job
  Audit : Job
  Stress : (number cycles : ℕ) → Job
  Compile : Job
  Aiger : Job

-- the files that the words name, and what is to be done
pub record Command : Type 0 where
  pub files : List NamedFile
  pub job : Job

-- the command of these files and of this job
abbrev pub command : List NamedFile → Job → Command
command files job = record { files = files; job = job }

-- a run has at most so many cycles
abbrev pub HasFewCycles : Job → Type 0
HasFewCycles (Simulate cycles) = cycles ≤ most_cycles
HasFewCycles (Report cycles domain) = cycles ≤ most_cycles
HasFewCycles (Replay cycles) = cycles ≤ most_cycles
HasFewCycles (Stress number cycles) = cycles ≤ most_cycles
HasFewCycles _ = Unit {0}
