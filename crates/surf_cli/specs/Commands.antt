-- The commands, by their words.
use Rattle.std.specs.Prelude.{ℕ, List, [], ◌∷◌, codes, if◌then◌else◌, Option, Some, None, option_map, option_and_then}
use Rattle.std.specs.Str.{bytes_eq}
use Rattle.surf_base.specs.Numbers.{decimal_in}
use Rattle.surf_cli.specs.declared.files.FileKind.TheVariants.{Description, Text, Trace}
use Rattle.noc_model.specs.Limits.{most_cycles}
use Rattle.desc_check.specs.Words.{is_name}
use Rattle.surf_cli.specs.Limits.{table_cycles, most_number}
use Rattle.surf_cli.specs.Files.{NamedFile, file_of}
use Rattle.surf_cli.specs.Jobs.{Schedule, Check, Routes, Simulate, Report, Upgrade, Replay, Audit, Stress, Compile, Aiger, Command, command}

-- schedule DESC CYCLES
abbrev pub schedule_words : List (List ℕ) → Option Command
schedule_words (description ∷ cycles ∷ []) =
    option_map (λ n. command (file_of Description description ∷ []) (Schedule n)) (decimal_in table_cycles cycles)
schedule_words _ = None

-- check DESC
abbrev pub check_words : List (List ℕ) → Option Command
check_words (description ∷ []) = Some (command (file_of Description description ∷ []) Check)
check_words _ = None

-- routes DESC
abbrev pub routes_words : List (List ℕ) → Option Command
routes_words (description ∷ []) = Some (command (file_of Description description ∷ []) Routes)
routes_words _ = None

-- simulate DESC TRACE CYCLES
abbrev pub simulate_words : List (List ℕ) → Option Command
simulate_words (description ∷ trace ∷ cycles ∷ []) =
    option_map (λ n. command (file_of Description description ∷ file_of Trace trace ∷ []) (Simulate n))
    (decimal_in most_cycles cycles)
simulate_words _ = None

-- report DESC TRACE CYCLES DOMAIN, whose last word is a name of a domain
abbrev pub report_words : List (List ℕ) → Option Command
report_words (description ∷ trace ∷ cycles ∷ domain ∷ []) =
    if is_name domain
    then option_map (λ n. command (file_of Description description ∷ file_of Trace trace ∷ []) (Report n domain))
    (decimal_in most_cycles cycles)
    else None
report_words _ = None

-- upgrade DESC
abbrev pub upgrade_words : List (List ℕ) → Option Command
upgrade_words (description ∷ []) = Some (command (file_of Description description ∷ []) Upgrade)
upgrade_words _ = None

-- replay DESC TEXT TRACE CYCLES
abbrev pub replay_words : List (List ℕ) → Option Command
replay_words (description ∷ text ∷ trace ∷ cycles ∷ []) =
    option_map (λ n. command (file_of Description description ∷ file_of Text text ∷ file_of Trace trace ∷ []) (Replay n))
    (decimal_in most_cycles cycles)
replay_words _ = None

-- audit DESC TEXT
abbrev pub audit_words : List (List ℕ) → Option Command
audit_words (description ∷ text ∷ []) =
    Some (command (file_of Description description ∷ file_of Text text ∷ []) Audit)
audit_words _ = None

-- stress NUMBER CYCLES, which names no file
abbrev pub stress_words : List (List ℕ) → Option Command
stress_words (number ∷ cycles ∷ []) =
    option_and_then (λ k. option_map (λ n. command [] (Stress k n)) (decimal_in most_cycles cycles))
    (decimal_in most_number number)
stress_words _ = None

-- compile DESC
abbrev pub compile_words : List (List ℕ) → Option Command
compile_words (description ∷ []) = Some (command (file_of Description description ∷ []) Compile)
compile_words _ = None

-- aiger DESC
abbrev pub aiger_words : List (List ℕ) → Option Command
aiger_words (description ∷ []) = Some (command (file_of Description description ∷ []) Aiger)
aiger_words _ = None

-- the command of a verb and the words after it
abbrev pub command_by : List ℕ → List (List ℕ) → Option Command
command_by verb args =
    if bytes_eq verb (codes "schedule") then schedule_words args
    else if bytes_eq verb (codes "check") then check_words args
    else if bytes_eq verb (codes "routes") then routes_words args
    else if bytes_eq verb (codes "simulate") then simulate_words args
    else if bytes_eq verb (codes "report") then report_words args
    else if bytes_eq verb (codes "upgrade") then upgrade_words args
    else if bytes_eq verb (codes "replay") then replay_words args
    else if bytes_eq verb (codes "audit") then audit_words args
    else if bytes_eq verb (codes "stress") then stress_words args
    else if bytes_eq verb (codes "compile") then compile_words args
    else if bytes_eq verb (codes "aiger") then aiger_words args
    else None

-- the command that the words are; nothing where they are no row of the table of commands
abbrev pub command_of : List (List ℕ) → Option Command
command_of [] = None
command_of (verb ∷ args) = command_by verb args

-- the files that the words name
abbrev pub files_named : Option Command → List NamedFile
files_named None = []
files_named (Some c) = c.files
