-- The limits of the command line and of the files.
use Rattle.std.specs.Prelude.{ℕ}

-- the most cycles of an owner table
abbrev pub table_cycles : ℕ
table_cycles = 4096

-- the greatest number of a stress run
abbrev pub most_number : ℕ
most_number = 4294967295

-- the most places of a network whose form is written
abbrev pub form_places : ℕ
form_places = 4096

-- the most bytes of a description
abbrev pub description_limit : ℕ
description_limit = 1048576

-- the most bytes of a Verilog text
abbrev pub text_limit : ℕ
text_limit = 134217728

-- the most bytes of a trace
abbrev pub trace_limit : ℕ
trace_limit = 67108864
