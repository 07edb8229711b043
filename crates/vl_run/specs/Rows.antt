-- Rows of numbers that hold the words of memories.
use Rattle.std.specs.Prelude.{◌≡◌, ℕ, ◌<◌, true, List, [], length, slice_index_or}
use Rattle.vl_tree.specs.Values.{Name}
use Rattle.vl_model.specs.Meaning.{Values}
use Rattle.vl_model.specs.Lines.{Line, lookup, is_memory, word_count}
use Rattle.vl_model.specs.Rules.{is_kind}
use Rattle.vl_run.specs.Step.{word_at}

-- each memory has a row of its length, with its words
pub record Rows (all : List Line) (s : Name → ℕ) (ms : List (List ℕ)) (u : Values) : Type 0 where
  pub there : (n : Name) → is_kind is_memory all n ≡ true → s n < length ms
  pub long : (n : Name) → is_kind is_memory all n ≡ true
      → length (slice_index_or ms (s n) []) ≡ word_count (lookup all n)
  pub word : (n : Name) (i : ℕ) → is_kind is_memory all n ≡ true → i < word_count (lookup all n)
      → word_at ms (s n) i ≡ u.word n i
