-- What the code's values stand for.
use Rattle.std.specs.Prelude.{List, [], ◌∷◌}
use Rattle.surf_cli.specs.declared.files.NamedFile as code_file
use Rattle.surf_cli.specs.declared.files.NamedFiles as code_files
use Rattle.surf_cli.specs.declared.files.NamedFiles.TheVariants.{Zero, One, Two, Three}
use Rattle.surf_cli.specs.declared.contents.Contents as code_contents
use Rattle.surf_cli.specs.declared.commands.Job as code_job
use Rattle.surf_cli.specs.declared.commands.Job.TheVariants as code
use Rattle.surf_cli.specs.declared.commands.Command as code_command
use Rattle.surf_cli.specs.Files.{NamedFile}
use Rattle.surf_cli.specs.Contents.{Contents}
use Rattle.surf_cli.specs.Jobs.{Job, Schedule, Check, Routes, Simulate, Report, Upgrade, Replay, Audit, Stress, Compile, Aiger, Command}

-- a named file
abbrev pub named : code_file.NamedFile → NamedFile
named file = record { kind = file.kind; name = file.name.now }

-- the files of a command, in order
abbrev pub listed : code_files.NamedFiles → List NamedFile
listed Zero = []
listed (One first) = named first ∷ []
listed (Two first second) = named first ∷ named second ∷ []
listed (Three first second third) = named first ∷ named second ∷ named third ∷ []

-- what files hold
abbrev pub gathered : code_contents.Contents → Contents
gathered contents = record {
  description = contents.description.items;
  text = contents.text.items;
  trace = contents.trace.items;
}

-- what is done with it
abbrev pub job : code_job.Job → Job
job (code.Schedule cycles) = Schedule cycles
job code.Check = Check
job code.Routes = Routes
job (code.Simulate cycles) = Simulate cycles
job (code.Report cycles domain) = Report cycles domain.now
job code.Upgrade = Upgrade
job (code.Replay cycles) = Replay cycles
job code.Audit = Audit
job (code.Stress number cycles) = Stress number cycles
job code.Compile = Compile
job code.Aiger = Aiger

-- a command
abbrev pub command : code_command.Command → Command
command c = record { files = listed c.files; job = job c.job }
