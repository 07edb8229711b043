-- What tables by name say of the lines of a module.
use Rattle.std.specs.Prelude.{◌≡◌, ℕ, nat_lt, min, Bool, false, List, take, Option, Some, None, unwrap_or, if◌then◌else◌, bytes_eq}
use Rattle.std.specs.List.{list_any}
use Rattle.vl_tree.specs.Values.{Name}
use Rattle.vl_model.specs.declared.kind.Kind.{Kind}
use Rattle.vl_model.specs.Meaning.{Widths}
use Rattle.vl_model.specs.Lines.{Line, Declared, lookup, is_net, is_driven, is_register, is_memory, net_bits, word_bits}
use Rattle.vl_model.specs.Rules.{assigns}
use Rattle.vl_rules.specs.declared.names.Names.{Names}
use Rattle.vl_rules.specs.declared.scope.Entry.{Entry}
use Rattle.vl_rules.specs.declared.scope.Role.{Role}
use Rattle.vl_rules.specs.declared.scope.Role.TheVariants.{Net, Driven, Register, Memory}
use Rattle.vl_rules.specs.Names.{found}

-- what an entry says of its name
abbrev pub declared_as : Name → Entry → Declared
declared_as n e = record { name = n; kind = e.kind; high = e.high; last = e.last }

-- the entry of a name that line k declares in this way
abbrev pub entry_at : ℕ → Option Declared → Name → Option Entry
entry_at k None n = None
entry_at k (Some x) n = if bytes_eq n x.name then Some
    (record { line = k; kind = x.kind; high = x.high; last = x.last }) else None

-- what the entry says, where its line stands before line k
abbrev pub before : ℕ → Name → Option Entry → Option Declared
before k n None = None
before k n (Some e) = if nat_lt e.line k then Some (declared_as n e) else None

-- what the table says that a name is declared as before line k
abbrev pub seen : Names Entry → ℕ → Name → Option Declared
seen t k n = before k n (found t n)

-- the table says what each name is declared as before each line
abbrev pub Declares : Names Entry → List Line → Type 0
Declares t lines = (k : ℕ) (n : Name) → seen t k n ≡ lookup (take k lines) n

-- whether a number is there and below k
abbrev pub is_below : ℕ → Option ℕ → Bool
is_below k None = false
is_below k (Some i) = nat_lt i k

-- whether the table says that a name is assigned before line k
abbrev pub assigned_before : Names ℕ → ℕ → Name → Bool
assigned_before t k n = is_below k (found t n)

-- the table says which names are assigned before each line
abbrev pub Assigns : Names ℕ → List Line → Type 0
Assigns t lines = (k : ℕ) (n : Name) → assigned_before t k n ≡ list_any (assigns n) (take k lines)

-- how often a name was counted, where more than two is two
abbrev pub count : Names ℕ → Name → ℕ
count t n = min 2 (unwrap_or (found t n) 0)

-- whether a name of this kind can have the role
abbrev pub role_passes : Role → Kind → Bool
role_passes Net = is_net
role_passes Driven = is_driven
role_passes Register = is_register
role_passes Memory = is_memory

-- the widths of what is declared before line k
abbrev pub widths_at : Names Entry → ℕ → Widths
widths_at t k = record { net = λ n. net_bits (seen t k n); word = λ n. word_bits (seen t k n) }
