-- What stands between the parts of a concatenation.
use Rattle.std.specs.Prelude.{ℕ, Bool, true, false, List, [], codes}

-- nothing before the first part, and a comma and a space before each other one
abbrev pub comma_text : Bool → List ℕ
comma_text true = []
comma_text false = codes ", "
