use Rattle.std.proofs.Common.{◌≡◌, ◌++◌, length, map}
use Rattle.trace_read.specs.Text.{fields}
use Rattle.trace_read.specs.Entries.{word_of}
use Rattle.trace_read.specs.Faults.{has_no_word}
use Rattle.trace_read.proofs.line.read_words.Given as goal

abbrev pub invariant-loop-field : goal.invariant-loop-field
invariant-loop-field l = record {
  words : l.words ++ map word_of (fields l.rest) ≡ map word_of (fields l.fn.text);
  spelled : has_no_word (fields l.rest) ≡ has_no_word (fields l.fn.text);
}

abbrev pub decreases-loop-field : goal.decreases-loop-field
decreases-loop-field l = length l.rest
