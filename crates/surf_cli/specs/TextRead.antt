-- What a text says: its first fault, or the sound design that it spells.
use Rattle.std.specs.Prelude.{ℕ, ◌-◌, nat_lt, if◌then◌else◌, List, length, Option, Some, None, Result, Ok, Err}
use Rattle.std.specs.List.{prefix_len}
use Rattle.noc_model.specs.Plan.{Plan}
use Rattle.vl_tree.specs.Values.{Design}
use Rattle.vl_tree.specs.Tokens.{tokens_of, unread}
use Rattle.vl_tree.specs.Reading.{design_at}
use Rattle.vl_tree.specs.Spells.{is_text_byte}
use Rattle.vl_tree.specs.declared.fault.TextFault.{TextFault}
use Rattle.vl_tree.specs.declared.fault.TextFault.TheVariants.{Byte, Token, Grammar}
use Rattle.vl_model.specs.Rules.{first_fault}
use Rattle.gen_kit.specs.Ports.{ports_fault}

-- tokens that are no design: where so many bytes of the text are left
abbrev pub read_tokens : ℕ → Result Design ℕ → Result Design TextFault
read_tokens size (Ok d) = Ok d
read_tokens size (Err left) = Err (Grammar (size - left))

-- The design that the bytes spell, or the first fault that reading finds. The laws say that it is the one design of
-- `Spells`, and the one fault of `IsReadFault`.
unfoldable pub text_read : List ℕ → Result Design TextFault
text_read bytes =
    if nat_lt (prefix_len is_text_byte bytes) (length bytes) then Err (Byte (prefix_len is_text_byte bytes))
    else if nat_lt 0 (unread bytes) then Err (Token (length bytes - unread bytes))
    else read_tokens (length bytes) (design_at (tokens_of bytes))

-- what comes next, unless there is a fault
abbrev pub unless : Option TextFault → Result Design TextFault → Result Design TextFault
unless None next = next
unless (Some fault) next = Err fault

-- the rules come before the ports
abbrev pub judged_design : Plan → Result Design TextFault → Result Design TextFault
judged_design p (Err fault) = Err fault
judged_design p (Ok d) = unless (first_fault d) (unless (ports_fault p d) (Ok d))

-- the sound design of a text with the plan's ports, or the text's first fault
unfoldable pub judged_text : Plan → List ℕ → Result Design TextFault
judged_text p bytes = judged_design p (text_read bytes)
